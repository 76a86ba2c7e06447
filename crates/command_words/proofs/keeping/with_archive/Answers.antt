use Rattle.std.proofs.Common.{◌∙◌}
use Rattle.std.specs.String.{string_bytes}
use Rattle.command_words.proofs.ByArchiveCommand.{other_archive_names}
use Rattle.command_words.proofs.keeping.with_archive.Goals as goal

pub returns-in_default-as_str : goal.returns-in_default-as_str
returns-in_default-as_str c =
    c.named.ensures
    ∙ other_archive_names string_bytes c.args.words.now c.first-item.result c.as_str.result.now c.in-len1-up.len_at_least c.first-item.is c.as_str.ensures.value
    c.in_default-as_str.not-run c.in_default-as_str.not-step

use Rattle.std.proofs.Common.{◌∙◌, sym}
use Rattle.std.proofs.lemmas.List.{take_rest}
use Rattle.document_reading.proofs.LineLemmas.{taken_is, lines_from, drop-short}
use Rattle.document_reading.proofs.line.first_line.Goals as goal

pub returns-in-empty-clause-lines : goal.returns-in-empty-clause-lines
returns-in-empty-clause-lines c =
    lines_from c.args.bytes.now _ c.split_at.result.1.now _ c.requires c.line_len.result (c.line_len.ensures ∙ taken_is c.args.bytes.now)
    c.split_at.ensures.front c.split_at.ensures.back (drop-short c.split_at.result.1.now c.in-empty.len_below)

pub returns-in-len1-up-clause-lines : goal.returns-in-len1-up-clause-lines
returns-in-len1-up-clause-lines c =
    lines_from c.args.bytes.now _ c.split_at.result.1.now _ c.requires c.line_len.result (c.line_len.ensures ∙ taken_is c.args.bytes.now)
    c.split_at.ensures.front c.split_at.ensures.back (sym (take_rest c.split_at.result.1.now 1))

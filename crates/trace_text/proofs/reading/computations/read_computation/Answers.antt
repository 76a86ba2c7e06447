use Rattle.std.proofs.Common.{length}
use Rattle.std.proofs.lemmas.Result.{IfOk-weaker}
use Rattle.trace_text.specs.Naming.{naming_of}
use Rattle.trace_text.proofs.EntryReading.{no_picks, no_with, parts_read}
use Rattle.trace_text.proofs.OneLine.{picks_word-lacks}
use Rattle.trace_text.proofs.reading.computations.read_computation.Goals as goal

pub cut_at_word-requires : goal.cut_at_word-requires
cut_at_word-requires c = picks_word-lacks

pub returns-in_default : goal.returns-in_default
returns-in_default c = no_picks (naming_of c.args.names.now) (length c.args.names.now) c.requires.names.named c.args.text.now c.in_default.ensures

pub returns-in_default-cut_at_word : goal.returns-in_default-cut_at_word
returns-in_default-cut_at_word c = no_with (naming_of c.args.names.now) (length c.args.names.now) c.requires.names.named c.args.text.now c.in-Some.front.now c.in-Some.picks.now c.in-Some.ensures c.in_default-cut_at_word.ensures

pub returns : goal.returns
returns c =
    IfOk-weaker c.read_parts.result _ _
    (λ result read. parts_read (naming_of c.args.names.now) (length c.args.names.now) c.requires.names.named c.args.text.now c.in-Some.front.now c.in-Some-cut_at_word.value.now c.in-Some-cut_at_word.stamps.now c.in-Some.picks.now
    c.in-Some.ensures c.in-Some-cut_at_word.ensures result read) c.read_parts.ensures

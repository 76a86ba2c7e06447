use Rattle.trace_text.proofs.Cuts.{no_blank, one_blank, other_word, word_cut, differ, same}
use Rattle.trace_text.proofs.reading.cutting.cut_at_word.Goals as goal

pub returns-in_default : goal.returns-in_default
returns-in_default c = no_blank c.args.word.now c.args.bytes.now c.in_default.ensures

pub returns-in_default-cut_at_last : goal.returns-in_default-cut_at_last
returns-in_default-cut_at_last c = one_blank c.args.word.now c.args.bytes.now c.in-Some.front.now c.in-Some.last.now c.in-Some.ensures c.in_default-cut_at_last.ensures

pub returns-then-ne : goal.returns-then-ne
returns-then-ne c =
    other_word c.args.word.now c.args.bytes.now c.in-Some.front.now c.in-Some.last.now c.in-Some-cut_at_last.before.now c.in-Some-cut_at_last.between.now c.in-Some.ensures c.in-Some-cut_at_last.ensures c.requires
    (differ c.in-Some-cut_at_last.between.now c.args.word.now c.ne.result c.ne.ensures c.if-ne.true)

pub returns : goal.returns
returns c =
    word_cut c.args.word.now c.args.bytes.now c.in-Some.front.now c.in-Some.last.now c.in-Some-cut_at_last.before.now c.in-Some-cut_at_last.between.now c.in-Some.ensures c.in-Some-cut_at_last.ensures
    (same c.in-Some-cut_at_last.between.now c.args.word.now c.ne.result c.ne.ensures c.if-ne.false)

use Rattle.std.proofs.Common.{◌≤◌, length, sym, arith, rules, IsUtf8}
use Rattle.document_reading.specs.Grammar.{silent}
use Rattle.document_reading.proofs.UnreadLemmas.{too_long, no_text, no_words}
use Rattle.document_reading.proofs.line.read_line.Goals as goal

pub returns-then-line-gt-MAX_LINE_LEN-clause-refused : goal.returns-then-line-gt-MAX_LINE_LEN-clause-refused
returns-then-line-gt-MAX_LINE_LEN-clause-refused c = too_long c.args.line.now (omega arith)

pub returns-then-not-is_text-clause-refused : goal.returns-then-not-is_text-clause-refused
returns-then-not-is_text-clause-refused c = no_text c.args.line.now (omega arith) (λ u. let h = c.if-not-is_text.ensures.1 u in search rules)

pub returns-then-is_silent-clause-said : goal.returns-then-is_silent-clause-said
returns-then-is_silent-clause-said c = record {
  short = omega arith;
  text = c.if-not-is_text.ensures.0 (search rules);
  says = silent (sym c.if-is_silent.ensures);
}

pub returns-clause-refused : goal.returns-clause-refused
returns-clause-refused c =
    let short : length c.args.line.now ≤ 4096 = omega arith in
    let text : IsUtf8 c.args.line.now = c.if-not-is_text.ensures.0 (search rules) in
    no_words c.args.line.now short text c.read_spoken.result c.read_spoken.ensures

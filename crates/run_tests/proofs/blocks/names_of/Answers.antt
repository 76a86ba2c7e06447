use Rattle.std.proofs.Common.{arith, ◌≡◌, ℕ, length, subst}
use Rattle.run_tests.proofs.NameLemmas.{AreTaken, all_taken}
use Rattle.run_tests.proofs.blocks.names_of.Goals as goal

pub returns-clause-names : goal.returns-clause-names
returns-clause-names c =
    let whole : c.loop-number.number ≡ length c.args.book.now = omega (arith, c.loop-number-test.false, c.loop-number.auto.number-end, c.len-number-end.ensures.len) in
    all_taken c.books_are_named.ensures c.loop-number.names c.args.book.now c.len-number-end.ensures.book
    (subst (λ (k : ℕ). AreTaken c.loop-number.names c.args.book.now k) whole c.loop-number.invariant)

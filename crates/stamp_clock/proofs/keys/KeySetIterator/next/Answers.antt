use Rattle.std.proofs.Common.{◌≡◌, ◌*◌, ◌%◌, ◌^◌, suc, bit_and, [], length, sym, ap, ◌∙◌, arith}
use Rattle.std.specs.Int.{w64, bit_not, trailing_zeros}
use Rattle.stamp_clock.specs.Places.{places}
use Rattle.stamp_clock.proofs.PlacesLemmas.{places-clear, no-places}
use Rattle.stamp_clock.proofs.keys.KeySetIterator.next.Goals as goal

pub returns-then-self-eq0-clause-steps : goal.returns-then-self-eq0-clause-steps
returns-then-self-eq0-clause-steps c =
    let none : c.args.self.now ≡ [] = sym c.self.view_is ∙ ap places c.if-self-eq0.true ∙ no-places in (none, none)

pub returns-clause-steps : goal.returns-clause-steps
returns-clause-steps c = sym c.self.view_is ∙ places-clear c.self.inside.word (omega arith) c.self.invariant

pub returns-clause-goes : goal.returns-clause-goes
returns-clause-goes c =
    let word = c.self.inside.word in
    let fewer : length c.args.self.now ≡ suc (length (places (bit_and word (bit_not w64 (1 * 2 ^ trailing_zeros w64 word % 2 ^ 64))))) =
    ap length (sym c.self.view_is ∙ places-clear word (omega arith) c.self.invariant) in
    record { on = λ f. (tt, f, omega (arith, fewer)); keeps = tt; rests = λ f. tt }

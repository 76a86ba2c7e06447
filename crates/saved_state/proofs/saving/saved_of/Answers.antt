use Rattle.std.proofs.Common.{◌∙◌, arith, ap, sym, subst}
use Rattle.saved_state.specs.States.{IsState}
use Rattle.saved_state.proofs.SavingLemmas.{services_all, state_of_book}
use Rattle.saved_state.proofs.saving.saved_of.Goals as goal

pub returns-clause-state : goal.returns-clause-state
returns-clause-state c say =
    let all = c.loop-number.invariant ∙ services_all c.args.book.now c.loop-number.number (omega (arith, c.loop-number-test.false, c.loop-number.auto.number-end, c.len-number-end.ensures.len)) in
    subst IsState (ap (λ services. record { leg = c.args.leg; services = services }) (sym all))
    (state_of_book c.args.leg c.args.book.now c.requires.begun c.requires.ended c.len-number-end.ensures.book c.requires.born say)

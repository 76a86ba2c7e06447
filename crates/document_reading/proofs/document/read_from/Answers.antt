use Rattle.std.proofs.Common.{◌+◌, ◌≤◌, List, length, subst, sym, arith}
use Rattle.svc_plan.specs.declared.plan.Leg.{Leg}
use Rattle.svc_plan.specs.declared.plan.Mode.{Mode}
use Rattle.svc_plan.specs.Rows.{AreLegsAfter}
use Rattle.document_reading.specs.Document.{IsRefusalAfter}
use Rattle.document_reading.specs.Parser.{state}
use Rattle.document_reading.specs.Sound.{IsStart}
use Rattle.document_reading.specs.State.{State, legs_in}
use Rattle.document_reading.proofs.ReadingLemmas.{one_answer}
use Rattle.document_reading.proofs.StandingLemmas.{legs_taken}
use Rattle.document_reading.proofs.document.read_from.Goals as goal

pub returns-in-Err-clause-not_accepted : goal.returns-in-Err-clause-not_accepted
returns-in-Err-clause-not_accepted c = λ refusal is.
    one_answer c.args.book c.args.ended c.args.mode c.args.bytes.now refusal
    (subst (λ (s : State). IsRefusalAfter s.rows s.before c.args.mode c.args.bytes.now refusal) c.new.ensures.start
    (subst (λ (m : Mode). IsRefusalAfter c.new.result.book c.new.result.before m c.args.bytes.now refusal) c.new.ensures.mode (c.in-Err.ensures.refused refusal is)))

pub returns-in_ok-into_legs-in-Ok-clause-legs : goal.returns-in_ok-into_legs-in-Ok-clause-legs
returns-in_ok-into_legs-in-Ok-clause-legs c =
    let taken = legs_taken c.new.result.mode (state c.new.result) (state c.in-Ok.parser) c.args.bytes.now (subst IsStart (sym c.new.ensures.start) c.requires)
    (omega (arith, c.if-bytes-gt-MAX_DOCUMENT_LEN.false)) c.in-Ok.ensures.read in
    subst (AreLegsAfter c.args.book) (sym c.in_ok-into_legs-in-Ok.ensures)
    (subst (λ (s : State). AreLegsAfter s.rows (legs_in (state c.in-Ok.parser))) c.new.ensures.start taken.0)

pub returns-in_ok-into_legs-in-Ok-clause-few : goal.returns-in_ok-into_legs-in-Ok-clause-few
returns-in_ok-into_legs-in-Ok-clause-few c =
    let taken = legs_taken c.new.result.mode (state c.new.result) (state c.in-Ok.parser) c.args.bytes.now (subst IsStart (sym c.new.ensures.start) c.requires)
    (omega (arith, c.if-bytes-gt-MAX_DOCUMENT_LEN.false)) c.in-Ok.ensures.read in
    subst (λ (legs : List Leg). c.args.ended + length legs ≤ 1000) (sym c.in_ok-into_legs-in-Ok.ensures)
    (subst (λ (s : State). s.before + length (legs_in (state c.in-Ok.parser)) ≤ 1000) c.new.ensures.start taken.1)

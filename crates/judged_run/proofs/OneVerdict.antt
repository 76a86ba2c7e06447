-- A run has one verdict, and the machine gives it.
use Rattle.std.proofs.Common.{◌≡◌, ℕ, suc, Option, Some, None, inl, inr, refl, sym, ap, ap₂, ◌∙◌}
use Rattle.std.specs.Prelude.{is_none}
use Rattle.judged_run.specs.Texts.{computed_lines}
use Rattle.judged_run.specs.LineRules.{Rule, IsVerdict}
use Rattle.judged_run.specs.LineRules.Verdict.{legal_with, illegal_at}
use Rattle.judged_run.specs.Verdicts.{verdict}
use Rattle.judged_run.specs.Machine.{machine_verdict}
use Rattle.judged_run.specs.Laws.{VerdictsAreOne, OneVerdictHolds, MachinesAreExact, as_verdict}
use Rattle.judged_run.proofs.Exact.{one-verdict, never-both, verdicts_are_exact}
use Rattle.judged_run.proofs.Machine.{machine-exact}

pub verdicts_are_one : (V D : Type 0) → VerdictsAreOne V D
verdicts_are_one V D plan lines (legal_with c) (legal_with d) a b = ap legal_with (a.1 ∙ sym b.1)
verdicts_are_one V D plan lines (legal_with c) (illegal_at line rule) a (k, is, broken) = absurd (never-both plan lines k rule broken a.0)
verdicts_are_one V D plan lines (illegal_at line rule) (legal_with c) (k, is, broken) b = absurd (never-both plan lines k rule broken b.0)
verdicts_are_one V D plan lines (illegal_at line rule) (illegal_at other r) (k, is, a) (j, at, b) =
    let (x, y) = one-verdict plan lines k j rule r a b in ap₂ illegal_at (is ∙ sym (ap suc x) ∙ sym at) (sym y)

pub one_verdict_holds : (V D : Type 0) → OneVerdictHolds V D
one_verdict_holds V D same plan lines right good =
    elim (verdicts_are_exact V D same plan lines right good).2 [
      | inl all ↦ (legal_with (computed_lines lines), (all, refl), λ w h. verdicts_are_one V D plan lines w (legal_with (computed_lines lines)) h (all, refl))
      | inr found ↦ (illegal_at (suc found.0) found.1, (found.0, refl, found.2), λ w h. verdicts_are_one V D plan lines w (illegal_at (suc found.0) found.1) h (found.0, refl, found.2))
    ]

pub machines_are_exact : (V D : Type 0) → MachinesAreExact V D
machines_are_exact V D same plan lines right good = (is, go (machine_verdict same plan lines) (sym is))
  where
    is : machine_verdict same plan lines ≡ verdict same plan lines
    is = machine-exact same plan lines right good

    go : (o : Option (ℕ × Rule)) → verdict same plan lines ≡ o → IsVerdict plan lines (as_verdict lines o)
    go None none = ((verdicts_are_exact V D same plan lines right good).0.0 (ap (λ o. is_none o) none), refl)
    go (Some x) some = (x.0, refl, ((verdicts_are_exact V D same plan lines right good).1 x.0 x.1).0 some)

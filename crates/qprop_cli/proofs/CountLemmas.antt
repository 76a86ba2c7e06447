-- The counts of a document are small, and grow by one leg at a time.
use Rattle.std.proofs.Common.{◌≡◌, ◌∙◌, sym, ap, subst, ℕ, zero, suc, ◌+◌, ◌*◌, ◌<◌, ◌≤◌, arith, List, [], ◌∷◌, length, take, slice_index_or}
use Rattle.std.proofs.lemmas.List.{length-append}
use Rattle.svc_graph.specs.History.{Row}
use Rattle.svc_plan.specs.declared.plan.Leg.{Leg}
use Rattle.svc_plan.specs.declared.plan.ServiceLine.{ServiceLine}
use Rattle.svc_plan.specs.Rows.{row_of, with_services, rows_after, AreServicesAfter, AreLegsAfter}
use Rattle.qprop_cli.specs.Commands.Check.{service_count, change_count}

-- no more than 64 services are declared
few_services : (rows : List Row) (lines : List ServiceLine) → AreServicesAfter rows lines → length lines ≤ 64
few_services rows [] after = omega arith
few_services rows (line ∷ lines) after = omega (arith, room rows line lines after)
  where
    room : (rows : List Row) (line : ServiceLine) (lines : List ServiceLine) → AreServicesAfter rows (line ∷ lines) → length rows + suc (length lines) ≤ 64
    room rows line [] after = omega (arith, after.0.room)
    room rows line (next ∷ lines) after =
        omega (arith, room (with_services rows (line ∷ [])) next lines after.1, length-append rows (row_of line ∷ []))

-- so many legs have at most so many services and changes
pub few_counted : (rows : List Row) (legs : List Leg) → AreLegsAfter rows legs → (service_count legs ≤ 64 * length legs) × (change_count legs ≤ 1024 * length legs)
few_counted rows [] after = (omega arith, omega arith)
few_counted rows (leg ∷ legs) after =
    let rest = few_counted (rows_after rows leg) legs after.1 in
    (omega (arith, few_services rows leg.services after.0.services, rest.0), omega (arith, after.0.few, rest.1))

-- the next leg is within its limits
pub leg_few : (rows : List Row) (legs : List Leg) (i : ℕ) (leg : Leg) → i < length legs → leg ≡ slice_index_or legs i leg → AreLegsAfter rows legs → (length leg.services ≤ 64) × (length leg.changes ≤ 1024)
leg_few rows [] i leg less at after = absurd (omega arith)
leg_few rows (first ∷ legs) zero leg less at after =
    (subst (λ (l : Leg). length l.services ≤ 64) (sym at) (few_services rows first.services after.0.services), subst (λ (l : Leg). length l.changes ≤ 1024) (sym at) after.0.few)
leg_few rows (first ∷ legs) (suc i) leg less at after = leg_few (rows_after rows first) legs i leg (omega arith) at after.1

-- one leg more
pub services_next : (legs : List Leg) (i : ℕ) (leg : Leg) → i < length legs → leg ≡ slice_index_or legs i leg → service_count (take (i + 1) legs) ≡ service_count (take i legs) + length leg.services
services_next [] i leg less at = absurd (omega arith)
services_next (first ∷ legs) zero leg less at = ap (λ (l : Leg). length l.services + 0) (sym at) ∙ (let e : length leg.services + 0 ≡ 0 + length leg.services = omega arith in e)
services_next (first ∷ legs) (suc i) leg less at =
    let next : suc i + 1 ≡ suc (i + 1) = omega arith in
    let e : length first.services + service_count (take (i + 1) legs) ≡ (length first.services + service_count (take i legs)) + length leg.services = omega (arith, services_next legs i leg (omega arith) at) in
    ap (λ n. service_count (take n (first ∷ legs))) next ∙ e

pub changes_next : (legs : List Leg) (i : ℕ) (leg : Leg) → i < length legs → leg ≡ slice_index_or legs i leg → change_count (take (i + 1) legs) ≡ change_count (take i legs) + length leg.changes
changes_next [] i leg less at = absurd (omega arith)
changes_next (first ∷ legs) zero leg less at = ap (λ (l : Leg). length l.changes + 0) (sym at) ∙ (let e : length leg.changes + 0 ≡ 0 + length leg.changes = omega arith in e)
changes_next (first ∷ legs) (suc i) leg less at =
    let next : suc i + 1 ≡ suc (i + 1) = omega arith in
    let e : length first.changes + change_count (take (i + 1) legs) ≡ (length first.changes + change_count (take i legs)) + length leg.changes = omega (arith, changes_next legs i leg (omega arith) at) in
    ap (λ n. change_count (take n (first ∷ legs))) next ∙ e

-- Legs and services, one after the other.
use Rattle.std.proofs.Common.{◌≡◌, List, [], ◌∷◌, ◌++◌, length, refl, sym, ap, subst, ◌∙◌, append_assoc}
use Rattle.std.specs.Prelude.{map}
use Rattle.std.proofs.lemmas.List.{append-nil, map-append}
use Rattle.svc_graph.proofs.Changed.{length-changed, names_in-changed}
use Rattle.svc_graph.specs.History.{Row, rows_after_change, names_in}
use Rattle.svc_plan.specs.declared.plan.Leg.{Leg}
use Rattle.svc_plan.specs.declared.plan.PlanChange.{PlanChange}
use Rattle.svc_plan.specs.declared.plan.ServiceLine.{ServiceLine}
use Rattle.svc_plan.specs.Rows.{row_of, with_services, with_changes, rows_after, rows_after_all, AreServicesAfter, IsLegAfter, AreLegsAfter}

pub names_in-with_changes : (rows : List Row) (changes : List PlanChange) → names_in (with_changes rows changes) ≡ names_in rows
names_in-with_changes rows [] = refl
names_in-with_changes rows (c ∷ changes) = names_in-with_changes (rows_after_change rows c.id c.change) changes ∙ names_in-changed rows c.id c.change

pub length-with_changes : (rows : List Row) (changes : List PlanChange) → length (with_changes rows changes) ≡ length rows
length-with_changes rows [] = refl
length-with_changes rows (c ∷ changes) = length-with_changes (rows_after_change rows c.id c.change) changes ∙ length-changed rows c.id c.change

pub with_services-append : (rows : List Row) (front behind : List ServiceLine) → with_services rows (front ++ behind) ≡ with_services (with_services rows front) behind
with_services-append rows front behind = ap (λ (rs : List Row). rows ++ rs) (map-append row_of front behind) ∙ sym (append_assoc rows (map row_of front) (map row_of behind))

pub services-append : (rows : List Row) (front behind : List ServiceLine) → AreServicesAfter rows front → AreServicesAfter (with_services rows front) behind → AreServicesAfter rows (front ++ behind)
services-append rows [] behind h k = subst (λ (rs : List Row). AreServicesAfter rs behind) (append-nil rows) k
services-append rows (first ∷ front) behind h k = (
  h.0,
  services-append (with_services rows (first ∷ [])) front behind h.1
      (subst (λ (rs : List Row). AreServicesAfter rs behind) (sym (append_assoc rows (row_of first ∷ []) (map row_of front))) k),
)

pub rows_after_all-last : (rows : List Row) (legs : List Leg) (leg : Leg) → rows_after_all rows (legs ++ leg ∷ []) ≡ rows_after (rows_after_all rows legs) leg
rows_after_all-last rows [] leg = refl
rows_after_all-last rows (first ∷ legs) leg = rows_after_all-last (rows_after rows first) legs leg

pub legs-last : (rows : List Row) (legs : List Leg) (leg : Leg) → AreLegsAfter rows legs → IsLegAfter (rows_after_all rows legs) leg → AreLegsAfter rows (legs ++ leg ∷ [])
legs-last rows [] leg h k = (k, tt)
legs-last rows (first ∷ legs) leg h k = (h.0, legs-last (rows_after rows first) legs leg h.1 k)

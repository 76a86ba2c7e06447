use Rattle.std.proofs.Common.{◌≡◌, ◌<◌, ◌+◌, ◌∙◌, ℕ, List, [], length, slice_index_or, ap, subst, sym, arith, length-append}
use Rattle.std.proofs.lemmas.List.{length-map}
use Rattle.svc_plan.specs.declared.plan.PlanChange.{PlanChange}
use Rattle.svc_plan.specs.declared.plan.ServiceLine.{ServiceLine}
use Rattle.svc_plan.specs.Rows.{row_of, with_services}
use Rattle.settle_core.specs.Inside.Beginning.{AreParts, roster_given}
use Rattle.settle_core.proofs.BeginLemmas.{ids_within}
use Rattle.settle_core.proofs.opening.leg_parts.Goals as goal

pub add_changes-requires : goal.add_changes-requires
add_changes-requires c =
    let P : List PlanChange → Type 0 = λ xs. (k : ℕ) (d : PlanChange) → k < length xs → (slice_index_or xs k d).id < length c.in_ok-all.all.items in
    let rows = with_services c.args.book.now c.args.leg.now.services in
    let long : length rows ≡ length c.args.book.now + length c.args.leg.now.services =
    length-append c.args.book.now _ ∙ ap (λ m. length c.args.book.now + m) (length-map c.args.leg.now.services row_of) in
    let is : c.args.count ≡ length c.args.book.now + length c.args.leg.now.services = c.requires.count in
    let count : length c.in_ok-all.all.items ≡ c.args.count = c.in_ok-all.ensures.count_is in
    subst P (sym c.as_slice-2.ensures) (λ k d less. let one : (slice_index_or c.args.leg.now.changes k d).id < length rows = ids_within rows c.args.leg.now.changes c.requires.leg.accepted k d less in omega arith)

pub returns : goal.returns
returns c =
    let P : List PlanChange → Type 0 = λ xs. AreParts c.args.count (roster_given c.args.book.now c.args.leg.now.services) xs c.add_changes.new.all.items in
    let roster : c.in_ok-roster.roster ≡ roster_given c.args.book.now c.args.leg.now.services = c.in_ok-roster.ensures ∙ ap (λ (ls : List ServiceLine). roster_given c.args.book.now ls) c.as_slice.ensures in
    subst P c.as_slice-2.ensures (c.in_ok-add_changes.ensures c.args.count (roster_given c.args.book.now c.args.leg.now.services) (subst (λ o. AreParts c.args.count o [] c.in_ok-all.all.items) roster c.in_ok-all.ensures))

use Rattle.std.proofs.Common.{◌≡◌, ◌<◌, ◌≤◌, inl, inr, ℕ, None, List, Option, length, take, slice_index_or, set, sym, subst, ap, ◌∙◌, arith}
use Rattle.std.proofs.lemmas.List.{map-set, get_or-set_same, length-take-le}
use Rattle.std.proofs.Math.Seq.{take-set-lt}
use Rattle.propagation.specs.Stamps.{Stamps, clock_of}
use Rattle.propagation.specs.Lists.{Has}
use Rattle.svc_value.specs.declared.value.Value.{Value}
use Rattle.service_machine.specs.States.{Slot}
use Rattle.stamp_match.specs.Falling.{AreReached, NoneFalls}
use Rattle.stamp_match.specs.Kept.{head_stamps, clock_in, slot_in, IsKept}
use Rattle.stamp_match.specs.Looks.{keys_in}
use Rattle.stamp_match.specs.Moved.{IsMoved}
use Rattle.stamp_match.proofs.HeldLemmas.{reached-held, reached-in}
use Rattle.stamp_match.proofs.TurnLemmas.{stamps_at, length-heads, head-first, slot-first}
use Rattle.stamp_match.proofs.KeptLemmas.{kept-followed, kept-moved}
use Rattle.stamp_match.proofs.matcher.Matcher.advance.Goals as goal

pub returns-clause-matcher : goal.returns-clause-matcher
returns-clause-matcher g c =
    let place : ℕ = c.args.place in
    let slots : List (Slot Value) = take c.args.count c.args.slots.now in
    let heads : List (Option Stamps) = head_stamps slots in
    let head : Option Stamps = stamps_at c.advance.new.self in
    let same : head_stamps (take c.args.count (set c.args.slots.now place c.advance.new.self)) ≡ set heads place head =
    ap (λ (xs : List (Slot Value)). head_stamps xs) (take-set-lt c.args.count c.args.slots.now place c.advance.new.self c.requires.place) ∙ map-set (λ (s : Slot Value). stamps_at s) slots place c.advance.new.self in
    let within : place < length heads = omega (arith, c.requires.place, c.requires.count, length-heads slots, length-take-le c.args.count c.args.slots.now c.requires.count) in
    let there : slice_index_or (head_stamps (take c.args.count (set c.args.slots.now place c.advance.new.self))) place None ≡ head = ap (λ hs. slice_index_or hs place None) same ∙ get_or-set_same heads place head None within in
    elim c.renew.ensures.matcher [
      | inl kept ↦ kept
      | inr moved ↦ subst (λ hs. IsKept hs c.args.floor.now c.renew.new.self) (sym same)
          (kept-moved heads c.args.floor.now place head c.args.self.now c.renew.new.self within c.requires.matcher
          (subst (λ hs. IsMoved hs place c.args.self.now c.renew.new.self) same moved.1)
          (λ q top above.
          let has : Has c.held_at-held.result q = c.held_at-held.ensures.held.all q top above in
          let reached : clock_of c.args.self.now.greatest_clocks q ≤ clock_in head q = reached-in c.args.self.now.greatest_clocks c.held_at-held.result head (subst (λ o. AreReached c.args.self.now.greatest_clocks c.held_at-held.result o) there moved.0) q has in
          let most : clock_in (slice_index_or heads place None) q ≤ clock_of c.args.self.now.greatest_clocks q = (kept-followed heads c.args.floor.now c.args.self.now place c.requires.matcher within).within q in
          omega arith))
    ]

pub returns-clause-looks : goal.returns-clause-looks
returns-clause-looks g c none =
    let place : ℕ = c.args.place in
    let slots : List (Slot Value) = c.args.slots.now in
    let new : List (Slot Value) = set c.args.slots.now c.args.place c.advance.new.self in
    let old_keys : keys_in (slot_in (take c.args.count slots) place).head ≡ keys_in (slot_in slots place).head = ap (λ (s : Slot Value). keys_in s.head) (slot-first c.args.count slots place c.requires.place) in
    let new_keys : keys_in (slot_in (take c.args.count new) place).head ≡ keys_in (slot_in new place).head = ap (λ (s : Slot Value). keys_in s.head) (slot-first c.args.count new place c.requires.place) in
    let reached : AreReached c.args.self.now.greatest_clocks c.held_at-held.result (slice_index_or (head_stamps (take c.args.count new)) place None) =
    reached-held c.args.self.now.greatest_clocks c.held_at-held.result (slice_index_or (head_stamps (take c.args.count slots)) place None) (slice_index_or (head_stamps (take c.args.count new)) place None) c.held_at-held.ensures.held.only
    (subst (λ o. NoneFalls o (slice_index_or (head_stamps (take c.args.count new)) place None)) (sym (head-first c.args.count slots place c.requires.place))
    (subst (λ o. NoneFalls (slice_index_or (head_stamps slots) place None) o) (sym (head-first c.args.count new place c.requires.place)) none)) in
    omega (arith, c.held_at-held.ensures.few, c.held_at-held.ensures.looks, c.renew.ensures.looks reached)

use Rattle.std.proofs.Common.{◌≡◌, ◌≤◌, ◌<◌, length, Result, Ok, Err, OnOk, subst, sym, arith, inl, inr}
use Rattle.propagation.specs.Lists.{Has}
use Rattle.propagation.proofs.Lists.{Has-append_left, Has-append_right, Has-append_cases}
use Rattle.svc_graph.specs.declared.lent.DefinitionRef.{DefinitionRef}
use Rattle.svc_graph.specs.History.{dependencies}
use Rattle.svc_graph.specs.Lent.{definition_lent}
use Rattle.settle_core.specs.Net.{place_of}
use Rattle.settle_core.specs.Inside.Table.{link_in}
use Rattle.settle_core.proofs.room.reserve_definition.Goals as goal

pub reserve_each-requires : goal.reserve_each-requires
reserve_each-requires c = λ q has.
    let P : DefinitionRef → Type 0 = λ d. Has (dependencies (definition_lent d)) q in
    c.requires q (subst P (sym c.in-Derived.is) (Has-append_left c.in-Derived.formula.fixed.now c.in-Derived.formula.members.now q has))

pub reserve_each-requires-in-Derived : goal.reserve_each-requires-in-Derived
reserve_each-requires-in-Derived c = λ q has.
    let P : DefinitionRef → Type 0 = λ d. Has (dependencies (definition_lent d)) q in
    let less : place_of q c.args.id < length c.args.links.now.items = c.requires q (subst P (sym c.in-Derived.is) (Has-append_right c.in-Derived.formula.fixed.now c.in-Derived.formula.members.now q has)) in
    let same : length c.reserve_each.new.links.items ≡ length c.args.links.now.items = c.in_ok-reserve_each-in-Derived.ensures.same.count in omega arith

on_ok : {A E P Q : Type 0} (r : Result A E) → (P → Q) → OnOk r P → OnOk r Q
on_ok (Ok x) f p = f p
on_ok (Err e) f p = tt

pub returns-in_ok-reserve_each-in-Derived-clause-room : goal.returns-in_ok-reserve_each-in-Derived-clause-room
returns-in_ok-reserve_each-in-Derived-clause-room c =
    on_ok c.reserve_each-in-Derived.result (λ room q has.
    let P : DefinitionRef → Type 0 = λ d. Has (dependencies (definition_lent d)) q in
    elim (Has-append_cases c.in-Derived.formula.fixed.now c.in-Derived.formula.members.now q (subst P c.in-Derived.is has)) [
      | inl h ↦ (let one : 2 ≤ (link_in c.reserve_each.new.links.items q c.args.id).spare = c.in_ok-reserve_each-in-Derived.ensures.room q h in
          let two : (link_in c.reserve_each.new.links.items q c.args.id).spare ≤ (link_in c.reserve_each-in-Derived.new.links.items q c.args.id).spare = c.reserve_each-in-Derived.ensures.same.room (place_of q c.args.id) in omega arith)
      | inr h ↦ room q h
    ]) c.reserve_each-in-Derived.ensures.room

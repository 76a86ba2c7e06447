use Rattle.std.proofs.Common.{◌≡◌, ◌∙◌, List, true, refl, ap, sym, subst, IfOk}
use Rattle.std.proofs.lemmas.Result.{IfOk-weaker}
use Rattle.propagation.specs.Stamps.{same_keys}
use Rattle.propagation.specs.Logs.{Emission, tell}
use Rattle.svc_value.specs.declared.value.Value.{Value}
use Rattle.wire_frame.specs.declared.place_clock.PlaceClock.{PlaceClock}
use Rattle.wire_frame.specs.Frames.{pairs}
use Rattle.node_core.specs.Outgoing.{Says, each_told, value_frames}
use Rattle.node_core.proofs.LayoutLemmas.{change_layout}
use Rattle.node_core.proofs.SaysLemmas.{change_letters}
use Rattle.node_core.proofs.telling.tell_changes.Goals as goal

pub outgoing_values-requires-clause-layout : goal.outgoing_values-requires-clause-layout
outgoing_values-requires-clause-layout c = change_layout c.args.told.now c.emission.inside.stamps c.emission.inside.value c.as_slice-clocks.result.now c.in_ok-changes_of.ensures.stamps (ap (λ (zs : List PlaceClock). pairs zs) c.as_slice-clocks.ensures.value ∙ c.in_ok-changes_of.ensures.places)

pub returns : goal.returns
returns c =
    let P : Emission Value → Type 0 = λ m. IfOk c.outgoing_values.result (λ outgoing. Says outgoing (each_told c.args.readers.now (λ e. tell e c.args.told.now m))) in
    subst P c.emission.view_is
    (IfOk-weaker c.outgoing_values.result (λ outgoing. Says outgoing (each_told c.args.readers.now (value_frames (record { epoch = 1; value = c.emission.inside.value; clocks = c.as_slice-clocks.result.now })))) (λ outgoing. Says outgoing (each_told c.args.readers.now (λ e. tell e c.args.told.now (record { value = c.emission.inside.value; stamps = c.emission.inside.stamps }))))
    (λ outgoing says. change_letters outgoing c.args.readers.now c.args.told.now (record { epoch = 1; value = c.emission.inside.value; clocks = c.as_slice-clocks.result.now }) (record { value = c.emission.inside.value; stamps = c.emission.inside.stamps })
    (let Q : Emission Value → Type 0 = λ m. same_keys c.args.told.now m.stamps ≡ true in subst Q (sym {A = Emission Value} c.emission.view_is) c.requires.same) refl (ap (λ (zs : List PlaceClock). pairs zs) c.as_slice-clocks.ensures.value ∙ c.in_ok-changes_of.ensures.places) says)
    c.outgoing_values.ensures)

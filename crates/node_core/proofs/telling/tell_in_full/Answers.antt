use Rattle.std.proofs.Common.{◌<◌, ◌∙◌, List, refl, ap, sym, subst, length, IfOk}
use Rattle.std.proofs.lemmas.Result.{IfOk-weaker}
use Rattle.propagation.specs.Logs.{Emission, in_full}
use Rattle.svc_value.specs.declared.value.Value.{Value}
use Rattle.wire_frame.specs.declared.place_clock.PlaceClock.{PlaceClock}
use Rattle.wire_frame.specs.Frames.{pairs}
use Rattle.node_core.specs.Outgoing.{Says, each_told, full_frames}
use Rattle.node_core.proofs.LayoutLemmas.{announced_layout, full_layout}
use Rattle.node_core.proofs.SaysLemmas.{full_letters}
use Rattle.node_core.proofs.telling.tell_in_full.Goals as goal

pub outgoing_in_full-requires-clause-keys : goal.outgoing_in_full-requires-clause-keys
outgoing_in_full-requires-clause-keys c = announced_layout c.emission.inside.stamps c.as_slice.result.now c.in_ok-keys.ensures.stamps (c.as_slice.ensures ∙ c.in_ok-keys.ensures.keys)
    (let Q : Emission Value → Type 0 = λ m. 0 < length m.stamps in subst Q (sym {A = Emission Value} c.emission.view_is) c.requires.some)

pub outgoing_in_full-requires-clause-layout : goal.outgoing_in_full-requires-clause-layout
outgoing_in_full-requires-clause-layout c = full_layout c.emission.inside.stamps c.emission.inside.value c.as_slice-clocks.result.now c.in_ok-all_places_of.ensures.stamps (ap (λ (zs : List PlaceClock). pairs zs) c.as_slice-clocks.ensures.value ∙ c.in_ok-all_places_of.ensures.places)

pub returns : goal.returns
returns c =
    let P : Emission Value → Type 0 = λ m. IfOk c.outgoing_in_full.result (λ outgoing. Says outgoing (each_told c.args.readers.now (λ e. in_full e m))) in
    subst P c.emission.view_is
    (IfOk-weaker c.outgoing_in_full.result (λ outgoing. Says outgoing (each_told c.args.readers.now (full_frames (record { epoch = 1; keys = c.as_slice.result.now }) (record { epoch = 1; value = c.emission.inside.value; clocks = c.as_slice-clocks.result.now }))))
    (λ outgoing. Says outgoing (each_told c.args.readers.now (λ e. in_full e (record { value = c.emission.inside.value; stamps = c.emission.inside.stamps }))))
    (λ outgoing says. full_letters outgoing c.args.readers.now (record { epoch = 1; keys = c.as_slice.result.now }) (record { epoch = 1; value = c.emission.inside.value; clocks = c.as_slice-clocks.result.now }) (record { value = c.emission.inside.value; stamps = c.emission.inside.stamps })
    (c.as_slice.ensures ∙ c.in_ok-keys.ensures.keys) refl (ap (λ (zs : List PlaceClock). pairs zs) c.as_slice-clocks.ensures.value ∙ c.in_ok-all_places_of.ensures.places) says)
    c.outgoing_in_full.ensures)

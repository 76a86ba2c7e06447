use Rattle.std.proofs.Common.{◌∙◌, ◌<◌, length, get_or, Some, ap}
use Rattle.svc_graph.proofs.Keeping.{at_clock-definitions}
use Rattle.svc_graph.specs.History.{at_clock}
use Rattle.svc_graph.specs.Versions.{definition_of}
use Rattle.svc_graph.proofs.history.History.at.Goals as goal

pub returns : goal.returns
returns c =
    let bodies = c.self.inside.bodies.items in
    let versions = c.self.inside.versions.items in
    let version = c.in_ok-version.version.now in
    let k = c.in_ok-checked_sub.field-0 in
    let lookup = c.in_ok-version.ensures.lookup in
    let within : k < length versions = rw (← c.deref.ensures.value) lookup.3.0 in
    let read = lookup.1 ∙ ap (λ vs. get_or vs k version) c.deref.ensures.value in
    ap Some (c.lent.ensures ∙ ap (λ bs. definition_of bs version) c.as_slice.ensures.value) ∙
    at_clock-definitions bodies versions c.args.clock k version c.in_ok-checked_sub.ensures.0 c.in_ok-checked_sub.ensures.1 within read ∙
    ap (λ history. at_clock history c.args.clock) c.self.view_is

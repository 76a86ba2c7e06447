use Rattle.std.proofs.Common.{◌≡◌, ◌-◌, ◌∙◌, length, slice_get, Some, sym, ap}
use Rattle.std.specs.Option.{option_copied}
use Rattle.svc_graph.proofs.Keeping.{definitions-changed, definition_of-with_member, definition_of-without_member}
use Rattle.svc_graph.proofs.history.History.append.Goals as goal
use Rattle.svc_graph.specs.declared.definition.Change.TheVariants.{Add, Drop}
use Rattle.svc_graph.specs.Versions.{with_member, without_member}

pub returns-in_ok-push-in-Add-clause-ok : goal.returns-in_ok-push-in-Add-clause-ok
returns-in_ok-push-in-Add-clause-ok c =
    let bodies = c.self.inside.bodies.items in
    let versions = c.self.inside.versions.items in
    let last = c.unwrap-last.result.now in
    let member = c.in-Add.member in
    let at : slice_get versions (length versions - 1) ≡ Some last =
    (λ i. slice_get (sym c.deref.ensures.value i) (length (sym c.deref.ensures.value i) - 1)) ∙ sym c.last.ensures.value ∙ ap option_copied c.unwrap-last.ensures in
    rw (c.in_ok-push-in-Add.ensures.items, c.in_ok-next-in-Add.ensures, c.in-Add.is, ← c.self.view_is)
    (definitions-changed bodies versions last (with_member last member) (Add member) at (definition_of-with_member bodies last member))

pub returns-in_ok-push-in-Drop-clause-ok : goal.returns-in_ok-push-in-Drop-clause-ok
returns-in_ok-push-in-Drop-clause-ok c =
    let bodies = c.self-in-Drop.inside.bodies.items in
    let versions = c.self-in-Drop.inside.versions.items in
    let last = c.unwrap-last-in-Drop.result.now in
    let member = c.in-Drop.member in
    let at : slice_get versions (length versions - 1) ≡ Some last =
    (λ i. slice_get (sym c.deref-in-Drop.ensures.value i) (length (sym c.deref-in-Drop.ensures.value i) - 1)) ∙ sym c.last-in-Drop.ensures.value ∙ ap option_copied c.unwrap-last-in-Drop.ensures in
    rw (c.in_ok-push-in-Drop.ensures.items, c.in_ok-next-in-Drop.ensures, c.in-Drop.is, ← c.self-in-Drop.view_is)
    (definitions-changed bodies versions last (without_member last member) (Drop member) at (definition_of-without_member bodies last member))

use Rattle.std.proofs.Common.{ap, ◌∙◌, take}
use Rattle.svc_graph.proofs.Rewinding.{HasBodies-take, definitions-take}
use Rattle.svc_graph.proofs.history.History.truncate.Goals as goal

pub invariant_of-self : goal.invariant_of-self
invariant_of-self c = HasBodies-take c.self.inside.bodies.items c.self.inside.versions.items c.truncate.new.self.items c.args.len c.truncate.ensures.items c.self.invariant

pub returns : goal.returns
returns c = definitions-take c.self.inside.bodies.items c.self.inside.versions.items c.truncate.new.self.items c.args.len c.truncate.ensures.items ∙ ap (take c.args.len) c.self.view_is

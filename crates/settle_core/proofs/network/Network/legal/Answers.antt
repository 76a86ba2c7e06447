use Rattle.std.proofs.Common.{subst}
use Rattle.settle_core.specs.Legs.{IsLegal}
use Rattle.settle_core.specs.Net.{NetworkView}
use Rattle.settle_core.specs.Inside.Table.{waiting_in}
use Rattle.settle_core.proofs.LegLemmas.{network_legal}
use Rattle.settle_core.proofs.network.Network.legal.Goals as goal

pub returns : goal.returns
returns c =
    let P : NetworkView → Type 0 = λ v. IsLegal v in
    subst P c.self.view_is (network_legal (record { rows = c.self.inside.book; services = c.self.inside.nodes.items; links = waiting_in c.self.inside.links.items }) c.self.invariant)

use Rattle.std.proofs.Common.{subst, sym}
use Rattle.settle_core.specs.Inside.Table.{waiting_in}
use Rattle.settle_core.specs.Net.{NetworkView}
use Rattle.settle_core.specs.Workers.{HasBegun}
use Rattle.settle_core.proofs.network.Network.into_workers.Goals as goal

pub part-requires : goal.part-requires
part-requires c =
    let P : NetworkView → Type 0 = λ v. HasBegun v in
    record { links = waiting_in c.self.inside.links.items; network = c.self.invariant; begun = subst P (sym {A = NetworkView} c.self.view_is) c.requires }

use Rattle.std.proofs.Common.{◌≡◌, ◌≤◌, List, length, ap, arith, ◌∙◌, Vec, Global}
use Rattle.std.proofs.lemmas.Result.{IfOk-weaker}
use Rattle.settle_core.specs.Inside.Working.{wired_nodes}
use Rattle.settle_core.specs.declared.wired.WiredNode.{WiredNode}
use Rattle.settle_core.specs.declared.worker.Worker.{Worker}
use Rattle.settle_core.specs.Net.{NetworkView}
use Rattle.settle_core.proofs.CrewLemmas.{are_workers, counted, read_within, unwired_laid, unwired_paired, workers_nodes, workers_tied}
use Rattle.settle_core.proofs.parting.part.Goals as goal

pub lay_rings-requires-clause-count : goal.lay_rings-requires-clause-count
lay_rings-requires-clause-count c = counted c.in_ok-all.all.items c.args.nodes.items c.in_ok-all.ensures.nodes_are ∙ c.requires.network.count

pub lay_rings-requires-clause-few : goal.lay_rings-requires-clause-few
lay_rings-requires-clause-few c =
    let count : length c.in_ok-all.all.items ≡ length c.args.book.now = counted c.in_ok-all.all.items c.args.nodes.items c.in_ok-all.ensures.nodes_are ∙ c.requires.network.count in
    let few : length c.args.book.now ≤ 64 = c.requires.network.book.few in omega (arith, count, few)

pub lay_rings-requires-clause-within : goal.lay_rings-requires-clause-within
lay_rings-requires-clause-within c =
    let net : NetworkView = record { rows = c.args.book.now; services = c.args.nodes.items; links = c.requires.links } in
    read_within net c.requires.network c.requires.begun (wired_nodes c.in_ok-all.all.items) c.in_ok-all.ensures.nodes_are

pub workers_of-requires-clause-few : goal.workers_of-requires-clause-few
workers_of-requires-clause-few c =
    let count : length c.in_ok-all.all.items ≡ length c.args.book.now = counted c.in_ok-all.all.items c.args.nodes.items c.in_ok-all.ensures.nodes_are ∙ c.requires.network.count in
    let few : length c.args.book.now ≤ 64 = c.requires.network.book.few in omega (arith, count, few, c.in_ok-lay_rings.ensures.wires.count)

pub workers_of-requires-clause-each : goal.workers_of-requires-clause-each
workers_of-requires-clause-each c =
    let net : NetworkView = record { rows = c.args.book.now; services = c.args.nodes.items; links = c.requires.links } in
    let wires = c.in_ok-lay_rings.ensures.wires in
    let first = c.in_ok-all.all.items in
    let unpaired = unwired_paired c.args.nodes.items first c.in_ok-all.ensures in
    are_workers net c.requires.network c.requires.begun c.lay_rings.new.all.items (wires.nodes ∙ c.in_ok-all.ensures.nodes_are)
    (wires.laid (unwired_laid c.args.nodes.items first c.in_ok-all.ensures)) (wires.paired unpaired) (c.in_ok-lay_rings.ensures.rings unpaired)

pub returns : goal.returns
returns c =
    let wires = c.in_ok-lay_rings.ensures.wires in
    let first = c.in_ok-all.all.items in
    let all = c.lay_rings.new.all.items in
    let laid = wires.laid (unwired_laid c.args.nodes.items first c.in_ok-all.ensures) in
    record {
      nodes = IfOk-weaker c.workers_of.result _ _ (λ (workers : Vec Worker Global) same. workers_nodes workers.items ∙ ap (λ (xs : List WiredNode). wired_nodes xs) same ∙ wires.nodes ∙ c.in_ok-all.ensures.nodes_are) c.workers_of.ensures;
      tied = IfOk-weaker c.workers_of.result _ _ (λ (workers : Vec Worker Global) same. workers_tied workers.items all same laid) c.workers_of.ensures;
    }

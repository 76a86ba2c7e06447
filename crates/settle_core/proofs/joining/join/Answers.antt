use Rattle.std.proofs.Common.{◌≡◌, ◌∙◌, List, [], length, slice_index_or, sym, ap, arith}
use Rattle.std.proofs.lemmas.List.{length-map}
use Rattle.link_fifo.specs.Waiting.{Link}
use Rattle.settle_core.specs.Inside.Table.{waiting_in}
use Rattle.settle_core.specs.Inside.Working.{wired_nodes}
use Rattle.settle_core.specs.declared.wired.WiredNode.{WiredNode}
use Rattle.settle_core.specs.declared.worker.Worker.{Worker}
use Rattle.settle_core.proofs.CrewLemmas.{tied_wired}
use Rattle.settle_core.proofs.JoinedLemmas.{each_linked, joins}
use Rattle.settle_core.proofs.joining.join.Goals as goal

pub rejoin_all-requires-clause-tied : goal.rejoin_all-requires-clause-tied
rejoin_all-requires-clause-tied c = tied_wired c.args.workers.items c.in_ok-all.all.items c.in_ok-all.ensures.same c.requires.tied

pub handed_nodes-requires-clause-there : goal.handed_nodes-requires-clause-there
handed_nodes-requires-clause-there c =
    let workers = c.args.workers.items in
    let all = c.in_ok-all.all.items in
    let gathered = c.in_ok-rejoin_all.ensures in
    let count : length all ≡ length workers = sym (ap (λ (ws : List WiredNode). length ws) c.in_ok-all.ensures.same) ∙ length-map workers (λ (worker : Worker). worker.wired) in
    each_linked all c.in_ok-all.ensures.kept (tied_wired workers all c.in_ok-all.ensures.same c.requires.tied) (omega (arith, count, c.requires.few)) (wired_nodes c.rejoin_all.new.all.items) (length c.rejoin_all.new.links.items) gathered.nodes
    (omega (arith, gathered.table, c.add.ensures.count_is, ap (λ (ls : List Link). length ls) c.in_ok-make_room.ensures.links, ap (λ (ls : List Link). length ls) c.new-links.ensures, c.len-count.ensures, count))

pub returns : goal.returns
returns c =
    let workers = c.args.workers.items in
    joins workers c.in_ok-all.all.items c.rejoin_all.new.all.items c.in_ok-all.ensures.same c.in_ok-all.ensures.kept c.requires.few c.requires.tied c.add.new.self.items c.rejoin_all.new.links.items c.handed_nodes.new.links.items c.in_ok-nodes.nodes.items
    (omega (arith, c.add.ensures.count_is, ap (λ (ls : List Link). length ls) c.in_ok-make_room.ensures.links, ap (λ (ls : List Link). length ls) c.new-links.ensures, c.len-count.ensures))
    (λ i. c.add.ensures.same i ∙ ap (λ (ls : List Link). slice_index_or (waiting_in ls) i []) (c.in_ok-make_room.ensures.links ∙ c.new-links.ensures)) c.in_ok-rejoin_all.ensures c.in_ok-nodes.ensures

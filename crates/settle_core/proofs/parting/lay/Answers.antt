use Rattle.settle_core.proofs.PartLemmas.{lays_both, on_ok}
use Rattle.settle_core.proofs.parting.lay.Goals as goal

pub returns : goal.returns
returns c = on_ok _ _ c.lay_ring-2.result (lays_both c.args.id c.args.other c.args.all.now.items c.lay_ring.new.all.items c.lay_ring-2.new.all.items c.in_ok-lay_ring.ensures) c.lay_ring-2.ensures

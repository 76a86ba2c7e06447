use Rattle.thread_tests.proofs.HandLemmas.{all_refl, all_trans}
use Rattle.thread_tests.proofs.by_hand.work_in_order.Goals as goal

pub loop-place-init : goal.loop-place-init
loop-place-init c = all_refl c.args.workers.now.items

pub loop-place-preserved : goal.loop-place-preserved
loop-place-preserved c = all_trans c.args.workers.now.items c.loop-place.workers.items c.work_at.new.workers.items c.loop-place.invariant c.work_at.ensures

pub returns-in_err-work_at : goal.returns-in_err-work_at
returns-in_err-work_at c = all_trans c.args.workers.now.items c.loop-place.workers.items c.work_at.new.workers.items c.loop-place.invariant c.work_at.ensures

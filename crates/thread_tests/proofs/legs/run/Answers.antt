use Rattle.std.proofs.Common.{subst, sym}
use Rattle.settle_core.specs.Net.{NetworkView}
use Rattle.settle_core.specs.Workers.{HasBegun}
use Rattle.thread_tests.proofs.legs.run.Goals as goal

pub run_leg-requires-after_bounds : goal.run_leg-requires-after_bounds
run_leg-requires-after_bounds g c κs within =
    let P : NetworkView → Type 0 = λ n. HasBegun n in
    subst P (sym c.replace-opened.ensures.value) c.in_ok-open_leg.ensures.begun

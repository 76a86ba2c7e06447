use Rattle.std.proofs.lemmas.Result.{IfOk-weaker}
use Rattle.archive_tests.proofs.BoundLemmas.{found_below}
use Rattle.archive_tests.proofs.bound.saved_and_loaded_below.Goals as goal

pub returns-clause-found : goal.returns-clause-found
returns-clause-found g c =
    IfOk-weaker c.load_at.result _ _
    (λ found there. found_below (g.P.Keeper.kept c.args.archive.now) (g.P.Keeper.kept c.save.new.self) c.args.leg c.args.lower c.args.state.now found c.requires c.in_ok-save.ensures.entries there)
    c.load_at.ensures.entry

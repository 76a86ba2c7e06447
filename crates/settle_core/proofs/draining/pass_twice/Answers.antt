use Rattle.std.proofs.Common.{ℕ, List, length, subst}
use Rattle.std.proofs.lemmas.Result.{on_ok_weaker}
use Rattle.service_machine.specs.Draining.{after_passes}
use Rattle.svc_graph.specs.History.{Row, dependencies, meaning_of}
use Rattle.settle_core.specs.Inside.Draining.{Ends, numbers}
use Rattle.settle_core.proofs.DrainLemmas.{Sys, ends_then, goes_then}
use Rattle.settle_core.proofs.draining.pass_twice.Goals as goal

pub returns-clause-goes : goal.returns-clause-goes
returns-clause-goes c = goes_then c.args.network.now c.pass.new.network c.pass-2.new.network c.pass.ensures.goes c.pass-2.ensures.goes

pub returns-clause-ends : goal.returns-clause-ends
returns-clause-ends c =
    let one : ℕ → Sys → Sys = λ k w. after_passes dependencies meaning_of (numbers k) c.args.order.now w in
    let P : List Row → Type 0 = λ rows. Ends (one (length rows)) c.pass.new.network c.pass-2.new.network in
    on_ok_weaker c.pass-2.result
    (λ ends. ends_then (one (length c.args.network.now.rows)) (one (length c.args.network.now.rows)) c.args.network.now c.pass.new.network c.pass-2.new.network c.in_ok-pass.ensures.ends (subst P c.pass.ensures.goes.rows ends)) c.pass-2.ensures.ends

use Rattle.std.proofs.Common.{ℕ, ◌<◌, List, IsPermutation, length, All, sym, subst}
use Rattle.svc_graph.specs.Central.{services}
use Rattle.svc_graph.specs.History.{Row}
use Rattle.svc_graph.specs.Order.{IsInOrder}
use Rattle.settle_core.proofs.DrainedLemmas.{drained_quiet, ordered_declared}
use Rattle.settle_core.proofs.draining.drain.Goals as goal

pub pass_twice-requires : goal.pass_twice-requires
pass_twice-requires c =
    let P : List Row → Type 0 = λ rows. IsPermutation (services rows) c.in_ok-order.order in
    let Q : List ℕ → Type 0 = λ ids. All (λ n. n < length c.args.network.now.rows) ids in
    let declared : All (λ n. n < length c.args.network.now.rows) c.as_slice.result.now =
    subst Q (sym c.as_slice.ensures) (ordered_declared c.args.network.now.rows c.in_ok-order.order (subst P c.book.ensures.rows c.in_ok-order.ensures.all)) in
    record { declared = declared }

pub returns-clause-quiet : goal.returns-clause-quiet
returns-clause-quiet c =
    let P : List Row → Type 0 = λ rows. IsPermutation (services rows) c.as_slice.result.now in
    let Q : List Row → Type 0 = λ rows. IsInOrder rows c.as_slice.result.now in
    let R : List ℕ → Type 0 = λ ids. IsPermutation (services c.book.result.now) ids in
    let S : List ℕ → Type 0 = λ ids. IsInOrder c.book.result.now ids in
    drained_quiet c.args.network.now c.pass_twice.new.network c.kept.ensures c.kept-2.ensures c.as_slice.result.now
    (subst P c.book.ensures.rows (subst R (sym c.as_slice.ensures) c.in_ok-order.ensures.all))
    (subst Q c.book.ensures.rows (subst S (sym c.as_slice.ensures) c.in_ok-order.ensures.ordered)) c.in_ok-pass_twice.ensures.ends

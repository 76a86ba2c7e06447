use Rattle.std.proofs.Common.{◌≡◌, ◌<◌, ◌∙◌, List, ℕ, Option, IfSome, slice_get, subst, sym, ap}
use Rattle.settle_core.proofs.PeerLemmas.{some_below}
use Rattle.settle_core.proofs.worker.Worker.peer.Goals as goal

pub returns-clause-at : goal.returns-clause-at
returns-clause-at c = c.peer_in.ensures ∙ ap (λ (xs : List ℕ). slice_get xs c.args.place) (c.as_slice.ensures.value ∙ c.args.self.now.ringed)

pub returns-clause-few : goal.returns-clause-few
returns-clause-few c =
    let w = c.args.self.now in
    let at : c.peer_in.result ≡ slice_get w.peers.items c.args.place = c.peer_in.ensures ∙ ap (λ (xs : List ℕ). slice_get xs c.args.place) c.as_slice.ensures.value in
    subst (λ (o : Option ℕ). IfSome o (λ p. p < 64)) (sym at) (some_below w.wired.to.items w.peers.items c.args.place w.wired.to_wide w.ringed)

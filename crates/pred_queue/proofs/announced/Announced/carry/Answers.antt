use Rattle.std.proofs.Common.{◌∙◌, ℕ, List, Some, ap, ap₂, subst, replicate, unwrap_or}
use Rattle.pred_queue.specs.Told.{Told, items_in}
use Rattle.pred_queue.proofs.ToldLemmas.{told-within, told-beside, told-more}
use Rattle.std.proofs.lemmas.Option.{same_Some}
use Rattle.stamp_clock.specs.Beside.{AreBeside}
use Rattle.pred_queue.proofs.announced.Announced.carry.Goals as goal

pub with_clocks-requires : goal.with_clocks-requires
with_clocks-requires g c =
    told-within c.args.self.now c.self.inside.epoch c.self.inside.keys (items_in c.self.inside.clocks) c.self.view_is c.self.invariant.0 c.self.invariant.1 (g.L.ClocksRef.named c.args.named.now) c.requires.accepted
    c.in_ok-clocks.clocks.items (c.in_ok-clocks.ensures.made ∙ ap₂ (λ o n. unwrap_or o (replicate n 0)) (ap items_in c.take-last.ensures.value) c.len.ensures.len)

pub invariant_of-self-2 : goal.invariant_of-self-2
invariant_of-self-2 g c =
    let beside = told-beside c.args.self.now c.self.inside.epoch c.self.inside.keys (items_in c.self.inside.clocks) c.self.view_is c.self.invariant.0 c.self.invariant.1 (g.L.ClocksRef.named c.args.named.now) c.requires.accepted
    c.in_ok-clocks.clocks.items c.with_clocks.result.items (c.in_ok-clocks.ensures.made ∙ ap₂ (λ o n. unwrap_or o (replicate n 0)) (ap items_in c.take-last.ensures.value) c.len.ensures.len) c.with_clocks.ensures c.requires.rise in
    (c.self.invariant.0, λ clocks e. subst (λ (cs : List ℕ). AreBeside c.self.inside.keys cs) (same_Some c.with_clocks.result.items clocks e) beside)

pub returns-clause-ok : goal.returns-clause-ok
returns-clause-ok g c =
    let more = told-more c.args.self.now c.self.inside.epoch c.self.inside.keys (items_in c.self.inside.clocks) c.self.view_is c.self.invariant.0 c.self.invariant.1 (g.L.ClocksRef.named c.args.named.now) c.requires.accepted
    c.in_ok-clocks.clocks.items c.with_clocks.result.items (c.in_ok-clocks.ensures.made ∙ ap₂ (λ o n. unwrap_or o (replicate n 0)) (ap items_in c.take-last.ensures.value) c.len.ensures.len) c.with_clocks.ensures c.requires.rise in
    λ i. record { epoch = ap (λ (told : Told). told.epoch) c.self.view_is i; keys = ap (λ (told : Told). told.keys) c.self.view_is i; carried = Some (more i) }

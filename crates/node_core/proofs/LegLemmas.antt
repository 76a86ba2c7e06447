-- What is known of the leg that a node is in, after each call.
use Rattle.std.proofs.Common.{ap, ◌∙◌}
use Rattle.node_core.specs.Legs.{NewNodesOpen, LegsOpen, ChangesStay, TakesStay, TurnsStay, HandingStays, LegsClose}
use Rattle.node_core.specs.Lives.IsReached.{made, opened, changed, received, advanced, delivered, closed}
use Rattle.node_core.specs.Ranks.{rank_in, typed_in}
use Rattle.node_core.specs.View.{NodeView}

pub new_nodes_open : NewNodesOpen
new_nodes_open id s is = record { reached = made id is; changes_are = ap (λ (x : NodeView). x.changes) is; roster_is = ap (λ (x : NodeView). x.roster) is }

pub legs_open : LegsOpen
legs_open before old new changes roster was over none accepted is =
    record { reached = opened roster changes was over none accepted is; changes_are = ap (λ (x : NodeView). x.changes) is; roster_is = ap (λ (x : NodeView). x.roster) is }

pub changes_stay : ChangesStay
changes_stay old new state grows opening changes roster was =
    record { reached = changed was.reached state grows; changes_are = grows.changes ∙ was.changes_are; roster_is = grows.roster ∙ was.roster_is }

pub takes_stay : TakesStay
takes_stay p bytes old new takes opening changes roster was = record {
  reached = received (rank_in old.roster) (typed_in old.roster) p takes.said was.reached takes.accepted takes.state takes.log;
  changes_are = takes.log.changes ∙ was.changes_are;
  roster_is = takes.log.roster ∙ was.roster_is;
}

pub turns_stay : TurnsStay
turns_stay old new state grows opening changes roster was =
    record { reached = advanced was.reached state grows; changes_are = grows.changes ∙ was.changes_are; roster_is = grows.roster ∙ was.roster_is }

pub handing_stays : HandingStays
handing_stays old new outbox handed is opening changes roster was = record {
  reached = delivered was.reached (ap (λ (x : NodeView). x.state) is) (ap (λ (x : NodeView). x.entries) is);
  changes_are = ap (λ (x : NodeView). x.changes) is ∙ was.changes_are;
  roster_is = ap (λ (x : NodeView). x.roster) is ∙ was.roster_is;
}

pub legs_close : LegsClose
legs_close opening changes roster old new was rest is =
    record { reached = closed was.reached rest is; changes_are = ap (λ (x : NodeView). x.changes) is; roster_is = ap (λ (x : NodeView). x.roster) is ∙ was.roster_is }

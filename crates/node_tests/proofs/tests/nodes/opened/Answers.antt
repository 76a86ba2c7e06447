use Rattle.std.proofs.Common.{ap, refl}
use Rattle.node_core.specs.View.{NodeView}
use Rattle.node_tests.proofs.ServiceLemmas.{kept_opened, open_accepted, open_clock}
use Rattle.node_tests.proofs.tests.nodes.opened.Goals as goal

pub open_leg-requires-clause-accepted : goal.open_leg-requires-clause-accepted
open_leg-requires-clause-accepted c =
    open_accepted c.args.id c.args.node.now c.args.book c.accept_all.new.book c.in_ok-changes.changes.items c.requires ((c.if-not-at_rest.ensures.0 refl).0.all_done) (record { len = c.in_ok-changes.ensures.len; history = c.in_ok-changes.ensures.history }) c.close_leg.new.self
    (ap (λ (s : NodeView). s.state) c.close_leg.ensures) c.in_ok-roster.roster c.in_ok-roster.ensures c.len.ensures.book

pub open_leg-requires-clause-clock : goal.open_leg-requires-clause-clock
open_leg-requires-clause-clock c =
    open_clock c.args.id c.args.node.now c.args.book c.accept_all.new.book c.in_ok-changes.changes.items c.requires ((c.if-not-at_rest.ensures.0 refl).0.all_done) (record { len = c.in_ok-changes.ensures.len; history = c.in_ok-changes.ensures.history }) c.close_leg.new.self
    (ap (λ (s : NodeView). s.state) c.close_leg.ensures) c.len.ensures.book

pub returns : goal.returns
returns c =
    kept_opened c.args.id c.args.node.now c.args.book c.accept_all.new.book c.in_ok-changes.changes.items c.requires ((c.if-not-at_rest.ensures.0 refl).0.all_done)
    (record { len = c.in_ok-changes.ensures.len; history = c.in_ok-changes.ensures.history }) c.close_leg.new.self (ap (λ (s : NodeView). s.state) c.close_leg.ensures) c.open_leg.new.self
    (ap (λ (s : NodeView). s.state) c.in_ok-open_leg.ensures.ok)

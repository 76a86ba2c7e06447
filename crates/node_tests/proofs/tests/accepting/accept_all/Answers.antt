use Rattle.std.proofs.Common.{◌∙◌, ◌++◌, ◌∷◌, [], List, ap, sym}
use Rattle.svc_graph.specs.declared.definition.Change.{Change}
use Rattle.svc_graph.specs.History.{history_of, present}
use Rattle.node_core.specs.Coming.{coming, next}
use Rattle.node_tests.proofs.ServiceLemmas.{history-more}
use Rattle.node_tests.proofs.tests.accepting.accept_all.Goals as goal

pub loop-next-preserved : goal.loop-next-preserved
loop-next-preserved c = record {
  len = c.in_ok-accept.ensures.len ∙ c.loop-next.invariant.len;
  history =
      (let pushed = c.in_ok-push.ensures.items in
      let copied = c.in_ok-copy.ensures in
      let h = history_of c.args.book.now c.args.id in
      let now = history_of c.loop-next.book c.args.id in
      let accepted = c.in_ok-accept.ensures.history ∙ ap (λ (change : Change). now ++ next (present now) change ∷ []) copied in
      history-more h now (history_of c.accept.new.book c.args.id) c.loop-next.changes.items c.in_ok-change.change c.loop-next.invariant.history accepted
      ∙ ap (λ (changes : List Change). h ++ coming (present h) changes) (sym pushed));
}

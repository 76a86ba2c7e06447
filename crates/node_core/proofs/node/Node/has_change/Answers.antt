use Rattle.std.proofs.Common.{subst, ◌≢◌, ◌<◌, ◌≤◌, [], arith, nat_lt, IsTrue, inl, inr}
use Rattle.std.proofs.lemmas.Bool.{cases_Bool, ltb-true, ltb-false}
use Rattle.node_core.specs.View.{NodeView}
use Rattle.node_core.proofs.DefinitionLemmas.{all_done, some_left}
use Rattle.node_core.proofs.node.Node.has_change.Goals as goal

pub returns : goal.returns
returns c =
    let P = λ (s : NodeView). (IsTrue (nat_lt c.self.inside.done c.len.result) → s.state.left ≢ []) × (s.state.left ≢ [] → IsTrue (nat_lt c.self.inside.done c.len.result)) in
    subst P c.self.view_is (
      λ more. some_left c.self.inside.definition c.self.inside.changes.items c.self.inside.done (let lt : c.self.inside.done < c.len.result = ltb-true c.self.inside.done c.len.result more in omega (arith, lt, c.len.ensures)),
      λ some. elim (cases_Bool (nat_lt c.self.inside.done c.len.result)) [
        | inl t ↦ t
        | inr f ↦ absurd (some (all_done c.self.inside.definition c.self.inside.changes.items c.self.inside.done (let le : c.len.result ≤ c.self.inside.done = ltb-false c.self.inside.done c.len.result f in omega (arith, le, c.len.ensures))))
      ],
    )

use Rattle.std.proofs.Common.{◌==◌, ◌∙◌, not, filter, sym, ap, rules}
use Rattle.svc_graph.specs.Versions.{without_member}
use Rattle.svc_graph.specs.declared.history.Version.TheVariants.{Derived}
use Rattle.svc_graph.proofs.history.without_member.Goals as goal
use Rattle.svc_graph.proofs.history.without_member.Goals.{in-Input+in_ok-copy-in-Input, in-Derived+in_ok-others-in-Derived}

pub returns : goal.returns
returns c =
    elim c.match-version.branch [
      | in-Input+in_ok-copy-in-Input w ↦ search rules
      | in-Derived+in_ok-others-in-Derived w ↦
          w.result-is ∙ ap (Derived w.in-Derived.number) w.in_ok-others-in-Derived.ensures ∙
          (λ i. Derived w.in-Derived.number (filter (λ p. not (p == c.args.member)) (w.as_slice.ensures i))) ∙
          ap (λ version. without_member version c.args.member) (sym w.in-Derived.is)
    ]

use Rattle.std.proofs.Common.{◌==◌, ◌∙◌, ap, not, filter, rules}
use Rattle.std.proofs.lemmas.Fn.{filter_same}
use Rattle.document_generator.proofs.members.Members.remove.Goals as goal

pub returns : goal.returns
returns c =
    filter_same _ (λ p. not (p == c.args.q)) _ (λ x b f' k. search rules) _ _ c.retain.ensures.filtered
    ∙ ap (filter (λ p. not (p == c.args.q))) c.self.view_is

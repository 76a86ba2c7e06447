-- An expression that is read can be printed with its names.
use Rattle.std.proofs.Common.{◌≡◌, ℕ, zero, suc, ◌<◌, ◌≤◌, List, [], ◌∷◌, length, get_or, map, inl, inr, refl, sym, ap, ap₂, ◌∙◌, arith}
use Rattle.std.specs.Str.{bytes_eq}
use Rattle.std.proofs.lemmas.List.Sums.{passes_at_first}
use Rattle.std.proofs.lemmas.Slice.Eq.{bytes_eq-Decides}
use Rattle.propagation.specs.Lists.{Has}
use Rattle.svc_expr.specs.Canonical.{name_at}
use Rattle.svc_expr.specs.Grammar.{name_index, with_names, names_among, IsExpression}
use Rattle.svc_expr.specs.Tree.{Tree, IsSmall}
use Rattle.svc_expr.specs.Types.{mentions}
use Rattle.svc_expr.proofs.NameLemmas.{top, name_count_is, whole_mentions}
use Rattle.svc_expr.proofs.NamesRead.{names_counted, name_is_named}
use Rattle.svc_expr.proofs.WithinLimits.{spelled_within}
use Rattle.svc_token.specs.declared.token.Token.{Token}
use Rattle.svc_token.specs.Cutting.{AreNamed}
use Rattle.document_printing.proofs.CanonicalFormulas.{IsReadable}

-- ---- names

name_there : (names : List (List ℕ)) (name : List ℕ) → name_index names name < length names → name_at names (name_index names name) ≡ name
name_there names name less = (bytes_eq-Decides (name_at names (name_index names name)) name).0 (passes_at_first (λ other. bytes_eq other name) names [] less)

names_there : (names xs : List (List ℕ)) → top (map (name_index names) xs) ≤ length names → map (name_at names) (map (name_index names) xs) ≡ xs
names_there names [] h = refl
names_there names (x ∷ xs) h = ap₂ (λ (y : List ℕ) (ys : List (List ℕ)). y ∷ ys) (name_there names x (omega (arith, h))) (names_there names xs (omega (arith, h)))

has_at : (names : List (List ℕ)) (k : ℕ) (d : List ℕ) → k < length names → Has names (get_or names k d)
has_at [] k d less = absurd (omega (arith, less))
has_at (name ∷ names) zero d less = inl refl
has_at (name ∷ names) (suc k) d less = inr (has_at names k d (omega (arith, less)))

pub readable : (tokens : List Token) (e : Tree) (names : List (List ℕ)) → AreNamed tokens → IsExpression tokens e names → IsSmall e → IsReadable names e
readable tokens e names named is fits =
    let counted = names_counted tokens e names is in
    let said : mentions e ≡ map (name_index names) (names_among tokens) = whole_mentions names is.1 in
    let all : top (map (name_index names) (names_among tokens)) ≤ length names = omega (arith, counted, name_count_is e, ap top said) in
    record {
      are_names = λ k d less. name_is_named tokens e names is named (get_or names k d) (has_at names k d less);
      count = omega (arith, counted);
      order = ap (λ ks. with_names [] (map (name_at names) ks)) said ∙ ap (with_names []) (names_there names (names_among tokens) all) ∙ sym is.0;
      within = spelled_within is.1;
      small = fits;
    }

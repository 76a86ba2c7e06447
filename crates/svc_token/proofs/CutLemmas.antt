-- A text is cut in one way, and the loop finds it.
use Rattle.std.proofs.Common.{◌≡◌, ℕ, ◌-◌, ◌<◌, Bool, true, false, ◌⊎◌, inl, inr, ⊎_elim, List, [], ◌∷◌, ◌++◌, length, take, drop, get_or, Some, None, refl, sym, ap, subst, ◌∙◌, append_assoc, arith}
use Rattle.std.specs.Prelude.{◌||◌, ◌==◌}
use Rattle.std.proofs.lemmas.Bool.{eqb-true}
use Rattle.std.proofs.lemmas.List.{append-nil, take_rest}
use Rattle.svc_token.specs.declared.token.Token.{Token}
use Rattle.svc_token.specs.Cutting.{is_blank, Front, mark_at, front, Cuts, ends, blank, token}

either : (p q : Bool) → (p || q) ≡ true → (p ≡ true) ⊎ (q ≡ true)
either true q h = inl refl
either false q h = inr h

blank_is : (b : ℕ) → is_blank b ≡ true → ((b ≡ 32) ⊎ (b ≡ 9)) ⊎ (b ≡ 13)
blank_is b h =
    ⊎_elim
    (λ g. inl (⊎_elim (λ f. inl (eqb-true b 32 f)) (λ f. inr (eqb-true b 9 f)) (either (b == 32) (b == 9) g)))
    (λ g. inr (eqb-true b 13 g))
    (either (b == 32 || b == 9) (b == 13) h)

nothing : (x : Token × ℕ) → ◌≡◌ {A = Front} None (Some x) → ⊥
nothing x h = cc

-- a blank begins no token
no_front : (b : ℕ) (rest : List ℕ) (x : Token × ℕ) → is_blank b ≡ true → front (b ∷ rest) ≡ Some x → ⊥
unfolding front mark_at
no_front b rest x h g =
    ⊎_elim
    (λ f. ⊎_elim (λ e. nothing x (ap (λ (k : ℕ). front (k ∷ rest)) (sym e) ∙ g)) (λ e. nothing x (ap (λ (k : ℕ). front (k ∷ rest)) (sym e) ∙ g)) f)
    (λ e. nothing x (ap (λ (k : ℕ). front (k ∷ rest)) (sym e) ∙ g))
    (blank_is b h)

no_front_of_nothing : (text : List ℕ) (x : Token × ℕ) → text ≡ [] → front text ≡ Some x → ⊥
unfolding front
no_front_of_nothing text x e g = nothing x (ap front (sym e) ∙ g)

tail_is : (b c : ℕ) (bs cs : List ℕ) → b ∷ bs ≡ c ∷ cs → bs ≡ cs
tail_is b c bs cs e = cc

some_pair : (x y : Token × ℕ) → Some x ≡ Some y → x ≡ y
some_pair x y e = cc

-- the text is the tokens so far, and what is left is cut as the text is
pub record CutSoFar (text : List ℕ) (so_far : List Token) (rest : List ℕ) : Type 0 where
  pub sound : (more : List Token) → Cuts rest more → Cuts text (so_far ++ more)
  pub complete : (all : List Token) → Cuts text all → (more : List Token) × (all ≡ so_far ++ more) × Cuts rest more

pub begins_so : (text : List ℕ) → CutSoFar text [] text
begins_so text = record { sound = λ more h. h; complete = λ all h. (all, refl, h) }

-- Cuts, one step apart
behind_blank : {text : List ℕ} {tokens : List Token} → Cuts text tokens → (b : ℕ) (rest : List ℕ) → text ≡ b ∷ rest → is_blank b ≡ true → Cuts rest tokens
behind_blank ends b rest e h = absurd (cc)
behind_blank (blank {b = c} {text = text} {tokens = tokens} g s) b rest e h = subst (λ (l : List ℕ). Cuts l tokens) (tail_is c b text rest e) s
behind_blank (token {text = text} {first = first} {n = n} g s) b rest e h = absurd (no_front b rest (first, n) h (ap front (sym e) ∙ g))

behind_token : {text : List ℕ} {tokens : List Token} → Cuts text tokens → (first : Token) (n : ℕ) → front text ≡ Some (first, n)
    → (more : List Token) × (tokens ≡ first ∷ more) × Cuts (drop n text) more
behind_token ends first n h = absurd (no_front_of_nothing [] (first, n) refl h)
behind_token (blank {b = b} {text = text} g s) first n h = absurd (no_front b text (first, n) g h)
behind_token (token {text = text} {first = was} {n = m} {tokens = more} g s) first n h =
    let e = some_pair (was, m) (first, n) (sym g ∙ h) in
    (more, ap (λ (x : Token × ℕ). x.0 ∷ more) e, subst (λ (k : ℕ). Cuts (drop k text) more) (ap (λ (x : Token × ℕ). x.1) e) s)

nil_cut : {text : List ℕ} {tokens : List Token} → Cuts text tokens → text ≡ [] → [] ≡ tokens
nil_cut ends e = refl
nil_cut (blank g s) e = absurd (cc)
nil_cut (token {text = text} {first = first} {n = n} g s) e = absurd (no_front_of_nothing text (first, n) e g)

one_cut_at : {text : List ℕ} {a : List Token} → Cuts text a → (b : List Token) → Cuts text b → a ≡ b
one_cut_at ends b s = nil_cut s refl
one_cut_at (blank {b = c} {text = text} g r) b s = one_cut_at r b (behind_blank s c text refl g)
one_cut_at (token {first = first} {n = n} g r) b s =
    let k = behind_token s first n g in ap (λ (more : List Token). first ∷ more) (one_cut_at r k.0 k.2) ∙ sym k.1

pub one_cut : (text : List ℕ) (a b : List Token) → Cuts text a → Cuts text b → a ≡ b
one_cut text a b r s = one_cut_at r b s

-- the steps of the loop
module _ (text : List ℕ) (so_far : List Token) where
  pub skips_blank : (rest : List ℕ) → CutSoFar text so_far rest → 0 < length rest → is_blank (get_or rest 0 0) ≡ true
      → CutSoFar text so_far (take (length rest - 1) (drop 1 rest))
  skips_blank [] c g h = absurd (omega arith)
  skips_blank (b ∷ bs) c g h =
      let r = take_rest (b ∷ bs) 1 in
      subst (CutSoFar text so_far) (sym r) (record {
        sound = λ more s. c.sound more (blank h s);
        complete = λ all s. let k = c.complete all s in (k.0, k.1, behind_blank k.2 b bs refl h);
      })

  pub takes_token : (rest : List ℕ) (first : Token) (n : ℕ) → CutSoFar text so_far rest → front rest ≡ Some (first, n)
      → CutSoFar text (so_far ++ first ∷ []) (take (length rest - n) (drop n rest))
  takes_token rest first n c g =
      let r = take_rest rest n in
      subst (CutSoFar text (so_far ++ first ∷ [])) (sym r) (record {
        sound = λ more s. subst (Cuts text) (sym (append_assoc so_far (first ∷ []) more)) (c.sound (first ∷ more) (token g s));
        complete = λ all s.
            let k = c.complete all s in
            let m = behind_token k.2 first n g in
            (m.0, k.1 ∙ ap (λ (more : List Token). so_far ++ more) m.1 ∙ sym (append_assoc so_far (first ∷ []) m.0), m.2);
      })

  pub all_cut : (rest : List ℕ) → CutSoFar text so_far rest → length rest ≡ 0 → Cuts text so_far
  all_cut [] c h = subst (Cuts text) (append-nil so_far) (c.sound [] ends)
  all_cut (b ∷ bs) c h = absurd (omega arith)

  none_here : {rest : List ℕ} {more : List Token} → Cuts rest more → 0 < length rest → is_blank (get_or rest 0 0) ≡ false → front rest ≡ None → ⊥
  none_here ends g h f = absurd (omega arith)
  none_here (blank b s) g h f = cc
  none_here (token {first = first} {n = n} e s) g h f = nothing (first, n) (sym f ∙ e)

  pub no_cut : (rest : List ℕ) → CutSoFar text so_far rest → 0 < length rest → is_blank (get_or rest 0 0) ≡ false → front rest ≡ None
      → (all : List Token) → Cuts text all → ⊥
  no_cut rest c g h f all s = none_here (c.complete all s).2 g h f

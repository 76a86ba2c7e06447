-- Lists with commas, read.
use Rattle.std.proofs.Common.{◌≡◌, ◌≢◌, ◌∙◌, sym, ap, subst, ℕ, ◌<◌, arith, List, [], ◌∷◌, ◌++◌, append_assoc, append-nil, length, flat_map}
use Rattle.trace_text.specs.Inside.Cutting.{Lacks}
use Rattle.trace_text.specs.Lines.{comma_list}
use Rattle.trace_text.proofs.Words.{Each, AreTold, one_split, has_stop}

-- the items with a comma behind each
abbrev pub before_commas : {X : Type 0} → (X → List ℕ) → List X → List ℕ
before_commas text xs = flat_map (λ x. text x ++ 44 ∷ []) xs

module _ {X : Type 0} (Is : X → Type 0) (text : X → List ℕ) (told : AreTold Is text) where
  before_commas-cut : (d : X) (done : List X) (rest : List ℕ) → before_commas text (d ∷ done) ++ rest ≡ text d ++ 44 ∷ (before_commas text done ++ rest)
  before_commas-cut d done rest = append_assoc (text d ++ 44 ∷ []) (before_commas text done) rest ∙ append_assoc (text d) (44 ∷ []) (before_commas text done ++ rest)

  -- the text of one item has no comma
  alone : (x : X) (front behind : List ℕ) → Is x → front ++ 44 ∷ behind ≡ text x ++ [] → ⊥
  alone x front behind is e = has_stop 44 front behind (subst (Lacks 44) (sym (e ∙ append-nil (text x))) (told.lacks x is))

  -- what is left of the items
  pub record Left (rest : List ℕ) : Type 0 where
    pub items : List X
    pub are : Each Is items
    pub some : 0 < length items
    pub rest_is : rest ≡ comma_list text items

  pub left_of : (done xs : List X) (rest : List ℕ) → Each Is done → Each Is xs → 0 < length xs → before_commas text done ++ rest ≡ comma_list text xs → Left rest
  left_of [] xs rest each are some e = record { items = xs; are = are; some = some; rest_is = e }
  left_of (d ∷ done) [] rest each are some e = absurd (omega (arith, some))
  left_of (d ∷ done) (x ∷ []) rest each are some e = absurd (alone x (text d) (before_commas text done ++ rest) are.0 (sym (before_commas-cut d done rest) ∙ e))
  left_of (d ∷ done) (x ∷ y ∷ ys) rest each are some e =
      let parts = one_split 44 (text d) (text x) (before_commas text done ++ rest) (comma_list text (y ∷ ys)) (told.lacks d each.0) (told.lacks x are.0) (sym (before_commas-cut d done rest) ∙ e) in
      left_of done (y ∷ ys) rest each.1 are.1 (omega arith) parts.1

  -- a part before a comma that is the text of no item
  pub no_first : (rest part behind : List ℕ) → Left rest → rest ≡ part ++ 44 ∷ behind → Lacks 44 part → ((x : X) → Is x → part ≢ text x) → ⊥
  no_first rest part behind left cut free none = go left.items left.are left.some left.rest_is
    where
      go : (xs : List X) → Each Is xs → 0 < length xs → rest ≡ comma_list text xs → ⊥
      go [] are some e = absurd (omega (arith, some))
      go (x ∷ []) are some e = alone x part behind are.0 (sym cut ∙ e)
      go (x ∷ y ∷ ys) are some e = none x are.0 (one_split 44 part (text x) behind (comma_list text (y ∷ ys)) free (told.lacks x are.0) (sym cut ∙ e)).0

  -- a last part that is the text of no item
  pub no_last : (rest : List ℕ) → Left rest → Lacks 44 rest → ((x : X) → Is x → rest ≢ text x) → ⊥
  no_last rest left free none = go left.items left.are left.some left.rest_is
    where
      go : (xs : List X) → Each Is xs → 0 < length xs → rest ≡ comma_list text xs → ⊥
      go [] are some e = absurd (omega (arith, some))
      go (x ∷ []) are some e = none x are.0 (e ∙ append-nil (text x))
      go (x ∷ y ∷ ys) are some e = has_stop 44 (text x) (comma_list text (y ∷ ys)) (subst (Lacks 44) e free)

-- one item more was read
pub before_commas-more : {X : Type 0} (text : X → List ℕ) (done : List X) (x : X) (rest behind whole : List ℕ) → before_commas text done ++ rest ≡ whole → rest ≡ text x ++ 44 ∷ behind → before_commas text (done ++ x ∷ []) ++ behind ≡ whole
before_commas-more {X} text done x rest behind whole e cut =
    ap (λ (t : List ℕ). t ++ behind) (grown done) ∙ append_assoc (before_commas text done) (text x ++ 44 ∷ []) behind ∙ ap (λ (t : List ℕ). before_commas text done ++ t) (append_assoc (text x) (44 ∷ []) behind ∙ sym cut) ∙ e
  where
    grown : (xs : List X) → before_commas text (xs ++ x ∷ []) ≡ before_commas text xs ++ (text x ++ 44 ∷ [])
    grown [] = append-nil (text x ++ 44 ∷ [])
    grown (y ∷ ys) = ap (λ (t : List ℕ). (text y ++ 44 ∷ []) ++ t) (grown ys) ∙ sym (append_assoc (text y ++ 44 ∷ []) (before_commas text ys) (text x ++ 44 ∷ []))

-- the last item was read
pub before_commas-last : {X : Type 0} (text : X → List ℕ) (done : List X) (x : X) → before_commas text done ++ text x ≡ comma_list text (done ++ x ∷ [])
before_commas-last text [] x = sym (append-nil (text x))
before_commas-last text (d ∷ []) x = append_assoc (text d ++ 44 ∷ []) [] (text x) ∙ append_assoc (text d) (44 ∷ []) (text x) ∙ ap (λ (t : List ℕ). text d ++ 44 ∷ t) (sym (append-nil (text x)))
before_commas-last text (d ∷ e ∷ done) x =
    append_assoc (text d ++ 44 ∷ []) (before_commas text (e ∷ done)) (text x) ∙ append_assoc (text d) (44 ∷ []) (before_commas text (e ∷ done) ++ text x) ∙ ap (λ (t : List ℕ). text d ++ 44 ∷ t) (before_commas-last text (e ∷ done) x)

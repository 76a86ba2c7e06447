-- The members that the loop over the tokens finds.
use Rattle.std.proofs.Common.{◌≡◌, ℕ, ◌<◌, ◌≤◌, Bool, true, false, not, List, [], ◌∷◌, ◌++◌, length, drop, get_or, Option, Some, None, refl, sym, ap, subst, ◌∙◌, append_assoc, add-one, drop-cons}
use Rattle.std.specs.Prelude.{◌+◌, option_map}
use Rattle.std.proofs.lemmas.List.{append-nil, drop_all}
use Rattle.svc_token.specs.declared.token.Token.{Token}
use Rattle.svc_token.specs.declared.token.Token.TheVariants.{Name, Comma}
use Rattle.document_reading.specs.Grammar.{AreMembers, last, more}
use Rattle.document_reading.specs.Reading.{name_of, is_comma, members_from}

abbrev Names : Type 0
Names = List (List ℕ)

-- what a map of an option comes from
mapped : {A B : Type 0} (f : A → B) (o : Option A) (y : B) → option_map f o ≡ Some y → (x : A) × (o ≡ Some x) × (f x ≡ y)
mapped f None y h = absurd (cc)
mapped f (Some x) y h = (x, refl, (cc))

names_is : (a b : Names) → Some a ≡ Some b → a ≡ b
names_is a b h = cc

-- ---- the members of all tokens

members_sound : (tokens : List Token) (names : Names) → members_from true tokens ≡ Some names → AreMembers tokens names
members_sound (Name name ∷ []) names h = subst (AreMembers (Name name ∷ [])) (names_is (name ∷ []) names h) last
members_sound (Name name ∷ Comma ∷ tokens) names h =
    let k = mapped (λ (names : Names). name ∷ names) (members_from true tokens) names h in
    subst (AreMembers (Name name ∷ Comma ∷ tokens)) k.2 (more (members_sound tokens k.0 k.1))
members_sound tokens names h = absurd (cc)

members_complete : {tokens : List Token} {names : Names} → AreMembers tokens names → members_from true tokens ≡ Some names
members_complete last = refl
members_complete (more {name = name} h) = ap (option_map (λ (names : Names). name ∷ names)) (members_complete h)

none_some : (o : Option Names) (names : Names) → o ≡ None → o ≡ Some names → ⊥
none_some o names n h = cc

-- tokens are one list of members at most
pub one_members : {tokens : List Token} {a b : Names} → AreMembers tokens a → AreMembers tokens b → a ≡ b
one_members {a = a} {b = b} h k = names_is a b (sym (members_complete h) ∙ members_complete k)

-- ---- the loop

-- the members of all tokens are those so far and those that go on so
abbrev pub GoesOn : List Token → Names → Bool → List Token → Type 0
GoesOn tokens so_far at_name rest = members_from true tokens ≡ option_map (λ names. so_far ++ names) (members_from at_name rest)

moved : (so_far : Names) (name : List ℕ) (o : Option Names) → option_map (λ names. so_far ++ names) (option_map (λ names. name ∷ names) o) ≡ option_map (λ names. (so_far ++ name ∷ []) ++ names) o
moved so_far name None = refl
moved so_far name (Some names) = ap Some (sym (append_assoc so_far (name ∷ []) names))

none_taken : (tokens : List Token) (so_far : Names) (at_name : Bool) (rest : List Token) → GoesOn tokens so_far at_name rest → members_from at_name rest ≡ None
    → (names : Names) → AreMembers tokens names → ⊥
none_taken tokens so_far at_name rest h n names k =
    none_some (members_from true tokens) names (h ∙ ap (option_map (λ (names : Names). so_far ++ names)) n) (members_complete k)

one_item : (tokens : List Token) (i : ℕ) (t : Token) → i < length tokens → t ≡ get_or tokens i t → drop i tokens ≡ t ∷ drop (i + 1) tokens
one_item tokens i t h e =
    let split : drop i tokens ≡ get_or tokens i t ∷ drop (i + 1) tokens = rw (add-one, drop-cons tokens i t) refl in
    split ∙ ap (λ (u : Token). u ∷ drop (i + 1) tokens) (sym e)

name_is : (t : Token) (name : List ℕ) → name_of t ≡ Some name → t ≡ Name name
name_is (Name was) name h = ap Name (let k : was ≡ name = cc in k)
name_is t name h = absurd (cc)

comma_is : (t : Token) → is_comma t ≡ true → t ≡ Comma
comma_is Comma h = refl
comma_is t h = absurd (cc)

module _ (tokens : List Token) (so_far : Names) (at_name : Bool) (i : ℕ) (t : Token) (within : i < length tokens) (item : t ≡ get_or tokens i t) (so : GoesOn tokens so_far at_name (drop i tokens)) where
  here : GoesOn tokens so_far at_name (t ∷ drop (i + 1) tokens)
  here = subst (GoesOn tokens so_far at_name) (one_item tokens i t within item) so

  pub takes_name : (name : List ℕ) → at_name ≡ true → name_of t ≡ Some name → GoesOn tokens (so_far ++ name ∷ []) (not at_name) (drop (i + 1) tokens)
  takes_name name a n =
      subst (λ (b : Bool). GoesOn tokens (so_far ++ name ∷ []) (not b) (drop (i + 1) tokens)) (sym a)
      (ap (λ (b : Bool). members_from true tokens) a ∙ subst (λ (b : Bool). GoesOn tokens so_far b (t ∷ drop (i + 1) tokens)) a here
      ∙ ap (λ (u : Token). option_map (λ names. so_far ++ names) (members_from true (u ∷ drop (i + 1) tokens))) (name_is t name n)
      ∙ moved so_far name (members_from false (drop (i + 1) tokens)))

  pub takes_comma : at_name ≡ false → is_comma t ≡ true → GoesOn tokens so_far (not at_name) (drop (i + 1) tokens)
  takes_comma a n =
      subst (λ (b : Bool). GoesOn tokens so_far (not b) (drop (i + 1) tokens)) (sym a)
      (subst (λ (u : Token). GoesOn tokens so_far false (u ∷ drop (i + 1) tokens)) (comma_is t n) (subst (λ (b : Bool). GoesOn tokens so_far b (t ∷ drop (i + 1) tokens)) a here))

  -- another token is wrong there
  no_name : (u : Token) (rest : List Token) → name_of u ≡ None → members_from true (u ∷ rest) ≡ None
  no_name (Name name) rest h = absurd (cc)
  no_name u rest h = refl

  no_comma : (u : Token) (rest : List Token) → is_comma u ≡ false → members_from false (u ∷ rest) ≡ None
  no_comma Comma rest h = absurd (cc)
  no_comma u rest h = refl

  pub wrong_name : at_name ≡ true → name_of t ≡ None → (names : Names) → AreMembers tokens names → ⊥
  wrong_name a n = none_taken tokens so_far true (t ∷ drop (i + 1) tokens) (subst (λ (b : Bool). GoesOn tokens so_far b (t ∷ drop (i + 1) tokens)) a here) (no_name t (drop (i + 1) tokens) n)

  pub wrong_comma : at_name ≡ false → is_comma t ≡ false → (names : Names) → AreMembers tokens names → ⊥
  wrong_comma a n = none_taken tokens so_far false (t ∷ drop (i + 1) tokens) (subst (λ (b : Bool). GoesOn tokens so_far b (t ∷ drop (i + 1) tokens)) a here) (no_comma t (drop (i + 1) tokens) n)

pub all_taken : (tokens : List Token) (so_far : Names) (at_name : Bool) (i : ℕ) → length tokens ≤ i → GoesOn tokens so_far at_name (drop i tokens) → at_name ≡ false → AreMembers tokens so_far
all_taken tokens so_far at_name i h so a =
    let ends : GoesOn tokens so_far false [] = subst (GoesOn tokens so_far false) (drop_all i tokens h) (subst (λ (b : Bool). GoesOn tokens so_far b (drop i tokens)) a so) in
    subst (AreMembers tokens) (append-nil so_far) (members_sound tokens (so_far ++ []) ends)

pub name_lacks : (tokens : List Token) (so_far : Names) (at_name : Bool) (i : ℕ) → length tokens ≤ i → GoesOn tokens so_far at_name (drop i tokens) → at_name ≡ true
    → (names : Names) → AreMembers tokens names → ⊥
name_lacks tokens so_far at_name i h so a =
    none_taken tokens so_far true [] (subst (GoesOn tokens so_far true) (drop_all i tokens h) (subst (λ (b : Bool). GoesOn tokens so_far b (drop i tokens)) a so)) refl

-- What holds of all words that are items.
use Rattle.std.proofs.Common.{◌≡◌, sym, subst, ℕ, Bool, true, false, List, [], ◌∷◌, Option, Some, None, refl, codes}
use Rattle.std.specs.Prelude.{nat_eq, if◌then◌else◌}
use Rattle.std.specs.Cmp.Lexicographic.{pointwise, same_text}
use Rattle.command_words.specs.KeptWords.{Item, flag_item, items_of, leg_item, leg_of, with_item}
use Rattle.command_words.specs.KeptWords.Item.{trace, sources, keep, resume, at}
use Rattle.command_words.specs.Words.{number_value}
use Rattle.command_words.proofs.ItemWords.{Text}

module _ (P : List Text → List Item → Type 0) where
  -- an item of one word goes before others
  abbrev pub Before : Item → Text → Type 0
  Before item word = (rest : List Text) (items : List Item) → P rest items → P (word ∷ rest) (item ∷ items)

  module _ (on_none : P [] []) (on_trace : Before trace (codes "--trace")) (on_sources : Before sources (codes "--sources"))
      (on_keep : Before keep (codes "--keep")) (on_resume : Before resume (codes "--resume"))
      (on_at : (text : Text) (leg : ℕ) (rest : List Text) (items : List Item) → leg_of (number_value text) ≡ Some leg → P rest items
      → P (codes "--at" ∷ text ∷ rest) (at leg ∷ items)) where
    one : (item : Item) (text word : Text) → Before item text → pointwise nat_eq word text ≡ true → (other : Item) → Some item ≡ Some other → Before other word
    one item text word h is other e =
        subst (λ (i : Item). Before i word) (let same : item ≡ other = cc e in same) (subst (Before item) (sym (same_text word text (sym is))) h)

    by_flag : (word : Text) (item : Item) → flag_item word ≡ Some item → Before item word
    by_flag word item e =
        go (pointwise nat_eq word (codes "--trace")) (pointwise nat_eq word (codes "--sources")) (pointwise nat_eq word (codes "--keep")) (pointwise nat_eq word (codes "--resume")) refl refl refl refl e
      where
        go : (t s k r : Bool) → pointwise nat_eq word (codes "--trace") ≡ t → pointwise nat_eq word (codes "--sources") ≡ s
            → pointwise nat_eq word (codes "--keep") ≡ k → pointwise nat_eq word (codes "--resume") ≡ r
            → (if t then Some trace else (if s then Some sources else (if k then Some keep else (if r then Some resume else None)))) ≡ Some item → Before item word
        go true s k r is_t is_s is_k is_r e = one trace (codes "--trace") word on_trace is_t item e
        go false true k r is_t is_s is_k is_r e = one sources (codes "--sources") word on_sources is_s item e
        go false false true r is_t is_s is_k is_r e = one keep (codes "--keep") word on_keep is_k item e
        go false false false true is_t is_s is_k is_r e = one resume (codes "--resume") word on_resume is_r item e
        go false false false false is_t is_s is_k is_r e = absurd (cc e)

    flag_case : (word : Text) (rest : List Text) → ((items : List Item) → items_of rest ≡ Some items → P rest items)
        → (first : Option Item) → flag_item word ≡ first → (more : Option (List Item)) → items_of rest ≡ more
        → (items : List Item) → with_item first more ≡ Some items → P (word ∷ rest) items
    flag_case word rest h None is more are items e = absurd (cc e)
    flag_case word rest h (Some item) is None are items e = absurd (cc e)
    flag_case word rest h (Some item) is (Some behind) are items e =
        subst (P (word ∷ rest)) (let same : item ∷ behind ≡ items = cc e in same) (by_flag word item is rest behind (h behind are))

    at_case : (next : Text) (rest : List Text) → ((items : List Item) → items_of rest ≡ Some items → P rest items)
        → (leg : Option ℕ) → leg_of (number_value next) ≡ leg → (more : Option (List Item)) → items_of rest ≡ more
        → (items : List Item) → with_item (leg_item leg) more ≡ Some items → P (codes "--at" ∷ next ∷ rest) items
    at_case next rest h None is more are items e = absurd (cc e)
    at_case next rest h (Some leg) is None are items e = absurd (cc e)
    at_case next rest h (Some leg) is (Some behind) are items e =
        subst (P (codes "--at" ∷ next ∷ rest)) (let same : at leg ∷ behind ≡ items = cc e in same) (on_at next leg rest behind is (h behind are))

    pub by_items : (words : List Text) (items : List Item) → items_of words ≡ Some items → P words items
    by_items [] items e = subst (P []) (let same : [] ≡ items = cc e in same) on_none
    by_items (word ∷ []) items e = flag_case word [] (λ items e. subst (P []) (let same : [] ≡ items = cc e in same) on_none) (flag_item word) refl (Some []) refl items e
    by_items (word ∷ next ∷ rest) items e = go (by_items rest) (by_items (next ∷ rest)) (pointwise nat_eq word (codes "--at")) refl e
      where
        go : ((items : List Item) → items_of rest ≡ Some items → P rest items) → ((items : List Item) → items_of (next ∷ rest) ≡ Some items → P (next ∷ rest) items)
            → (b : Bool) → pointwise nat_eq word (codes "--at") ≡ b
            → (if b then with_item (leg_item (leg_of (number_value next))) (items_of rest) else with_item (flag_item word) (items_of (next ∷ rest))) ≡ Some items
            → P (word ∷ next ∷ rest) items
        go h more true is e = subst (λ (w : Text). P (w ∷ next ∷ rest) items) (sym (same_text word (codes "--at") (sym is)))
            (at_case next rest h (leg_of (number_value next)) refl (items_of rest) refl items e)
        go h more false is e = flag_case word (next ∷ rest) more (flag_item word) refl (items_of (next ∷ rest)) refl items e

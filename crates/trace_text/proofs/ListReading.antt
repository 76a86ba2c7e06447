-- Lists with commas, read item by item.
use Rattle.std.proofs.Common.{◌≡◌, ◌≢◌, ◌∙◌, sym, ap, subst, ℕ, zero, suc, ◌<◌, arith, List, [], ◌∷◌, ◌++◌, length, Option, Some, None}
use Rattle.std.specs.Prelude.{All}
use Rattle.trace_text.specs.Entries.{ArePicks}
use Rattle.trace_text.specs.Inside.Cutting.{Lacks, AreSomePicks}
use Rattle.trace_text.specs.Lines.{comma_list, picks_text}
use Rattle.trace_text.specs.Reading.{ReadsAs}
use Rattle.std.specs.Fmt.{decimal}
use Rattle.trace_text.proofs.Words.{Each, AreTold, each_of}
use Rattle.trace_text.proofs.Listing.{before_commas, Left, left_of, no_first, no_last, before_commas-last}

pub all_of : {X : Type 0} (Is : X → Type 0) (xs : List X) → Each Is xs → All Is xs
all_of Is [] h k d lt = absurd (omega (arith, lt))
all_of Is (x ∷ xs) h zero d lt = h.0
all_of Is (x ∷ xs) h (suc k) d lt = all_of Is xs h.1 k d (omega (arith, lt))

each-more : {X : Type 0} (Is : X → Type 0) (xs : List X) (y : X) → Each Is xs → Is y → Each Is (xs ++ y ∷ [])
each-more Is [] y h is = (is, tt)
each-more Is (x ∷ xs) y h is = (h.0, each-more Is xs y h.1 is)

more_some : {X : Type 0} (xs : List X) (y : X) → 0 < length (xs ++ y ∷ [])
more_some [] y = omega arith
more_some (x ∷ xs) y = omega arith

module _ {X : Type 0} (Is : X → Type 0) (text : X → List ℕ) (told : AreTold Is text) where
  -- items, and there is one
  abbrev AreSome : List X → Type 0
  AreSome xs = (0 < length xs) × All Is xs

  left_items : (whole : List ℕ) (done : List X) (rest : List ℕ) → All Is done → before_commas text done ++ rest ≡ whole → (xs : List X) → AreSome xs → whole ≡ comma_list text xs → Left Is text told rest
  left_items whole done rest are is xs some e = left_of Is text told done xs rest (each_of Is done are) (each_of Is xs some.1) some.0 (is ∙ e)

  -- a part before a comma that is the text of no item
  pub no_item_first : (whole : List ℕ) (done : List X) (rest part behind : List ℕ) → All Is done → before_commas text done ++ rest ≡ whole → (rest ≡ part ++ 44 ∷ behind) × Lacks 44 part →
      ((x : X) → Is x → part ≢ text x) → (xs : List X) → AreSome xs → whole ≢ comma_list text xs
  no_item_first whole done rest part behind are is cut none xs some e = no_first Is text told rest part behind (left_items whole done rest are is xs some e) cut.0 cut.1 none

  -- a last part that is
  pub no_item_last : (whole : List ℕ) (done : List X) (rest : List ℕ) → All Is done → before_commas text done ++ rest ≡ whole → Lacks 44 rest →
      ((x : X) → Is x → rest ≢ text x) → (xs : List X) → AreSome xs → whole ≢ comma_list text xs
  no_item_last whole done rest are is lacks none xs some e = no_last Is text told rest (left_items whole done rest are is xs some e) lacks none

  -- all items were read
  pub some_read : (whole : List ℕ) (done : List X) (rest : List ℕ) (items result : List X) (last : X) → All Is done → before_commas text done ++ rest ≡ whole → Is last × (rest ≡ text last) →
      items ≡ done ++ last ∷ [] → result ≡ items → AreSome result × (whole ≡ comma_list text result)
  some_read whole done rest items result last are whole_is read pushed same =
      let is : result ≡ done ++ last ∷ [] = same ∙ pushed in (
        subst AreSome (sym is) (more_some done last, all_of Is (done ++ last ∷ []) (each-more Is done last (each_of Is done are) read.0)),
        sym whole_is ∙ ap (λ (t : List ℕ). before_commas text done ++ t) read.1 ∙ before_commas-last text done last ∙ ap (comma_list text) (sym is),
      )

pub picks_read : (text : List ℕ) (result : Option (List ℕ)) → text ≢ 45 ∷ [] → ReadsAs AreSomePicks (comma_list decimal) text result → ReadsAs ArePicks picks_text text result
picks_read text (Some []) other read = absurd (omega (arith, read.0.0))
picks_read text (Some (x ∷ xs)) other read = (read.0.1, read.1)
picks_read text None other read = λ xs are e. go xs are e
  where
    go : (xs : List ℕ) → ArePicks xs → text ≡ picks_text xs → ⊥
    go [] are e = other e
    go (x ∷ xs) are e = read (x ∷ xs) (omega arith, are) e

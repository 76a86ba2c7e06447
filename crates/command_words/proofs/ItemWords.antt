-- The words behind `run` and `step`, one by one and as items.
use Rattle.std.proofs.Common.{◌≡◌, ◌∙◌, ◌+◌, ◌<◌, ℕ, ap, sym, subst, drop, length, map, Bool, true, false, true≢false, List, [], ◌∷◌, Option, Some, None, refl, codes}
use Rattle.std.specs.Prelude.{not, nat_eq, option_and_then, slice_index_or, if◌then◌else◌}
use Rattle.std.specs.Cmp.Lexicographic.{pointwise, same_text}
use Rattle.std.proofs.lemmas.List.{drop_more}
use Rattle.command_words.specs.declared.asked.Asked.{Asked}
use Rattle.command_words.specs.declared.asked.LegAsked.{LegAsked}
use Rattle.command_words.specs.declared.asked.LegAsked.TheVariants.{No, Awaited, Leg}
use Rattle.command_words.specs.declared.keep_flags.KeepFlags.{KeepFlags}
use Rattle.command_words.specs.declared.trace_flags.TraceFlags.{TraceFlags}
use Rattle.command_words.specs.KeptWords.{Item, flag_item, items_of, leg_item, leg_of, with_item}
use Rattle.command_words.specs.KeptWords.Item.{trace, sources, keep, resume, at}
use Rattle.command_words.specs.WordByWord.{asked_by, ended, is_no, with_flag, with_leg, with_word, word_behind}
use Rattle.command_words.specs.Words.{number_value}

abbrev pub Text : Type 0
Text = List ℕ

abbrev pub Flags : Type 0
Flags = TraceFlags × KeepFlags

-- ---- items one by one

-- the item stood before
abbrev pub has : Asked → Item → Bool
has asked trace = asked.traces.trace
has asked sources = asked.traces.sources
has asked keep = asked.keep
has asked resume = asked.resume
has asked (at leg) = not (is_no asked.leg)

abbrev pub put : Asked → Item → Asked
put asked trace = record asked { traces = record asked.traces { trace = true } }
put asked sources = record asked { traces = record asked.traces { sources = true } }
put asked keep = record asked { keep = true }
put asked resume = record asked { resume = true }
put asked (at leg) = record asked { leg = Leg leg }

abbrev pub add : Asked → Item → Option Asked
add asked item = if has asked item then None else Some (put asked item)

abbrev pub add_all : Asked → List Item → Option Asked
add_all asked [] = Some asked
add_all asked (item ∷ items) = option_and_then (λ more. add_all more items) (add asked item)

abbrev pub awaits : LegAsked → Bool
awaits Awaited = true
awaits leg = false

pub put_awaits : (asked : Asked) (item : Item) → awaits asked.leg ≡ false → awaits (put asked item).leg ≡ false
put_awaits asked trace h = h
put_awaits asked sources h = h
put_awaits asked keep h = h
put_awaits asked resume h = h
put_awaits asked (at leg) h = refl

-- ---- both ways

abbrev by_words : Asked → List Text → Option Flags
by_words asked words = option_and_then ended (asked_by asked words)

abbrev pub by_items : Asked → Option (List Item) → Option Flags
by_items asked None = None
by_items asked (Some items) = option_and_then ended (add_all asked items)

item_first : (asked : Asked) (item : Item) (o : Option (List Item)) → by_items asked (with_item (Some item) o) ≡ option_and_then (λ more. by_items more o) (add asked item)
item_first asked item None = go (add asked item)
  where
    go : (o : Option Asked) → None ≡ option_and_then (λ more. by_items more None) o
    go None = refl
    go (Some more) = refl
item_first asked item (Some items) = go (add asked item)
  where
    go : (o : Option Asked) → option_and_then ended (option_and_then (λ more. add_all more items) o) ≡ option_and_then (λ more. by_items more (Some items)) o
    go None = refl
    go (Some more) = refl

-- ---- one word

as_flag : (asked : Asked) (word : Text) → awaits asked.leg ≡ false → with_word asked word ≡ with_flag asked word
as_flag asked word h = go asked.leg h
  where
    go : (l : LegAsked) → awaits l ≡ false → word_behind l asked word ≡ with_flag asked word
    go No h = refl
    go Awaited h = absurd (true≢false h)
    go (Leg leg) h = refl

turned : (b : Bool) (more : Asked) → (if not b then Some more else None) ≡ (if b then None else Some more)
turned true more = refl
turned false more = refl

abbrev text_of : Item → Text
text_of trace = codes "--trace"
text_of sources = codes "--sources"
text_of keep = codes "--keep"
text_of resume = codes "--resume"
text_of (at leg) = codes "--at"

abbrev is_flag : Item → Bool
is_flag (at leg) = false
is_flag item = true

flag_added : (asked : Asked) (item : Item) → is_flag item ≡ true → with_flag asked (text_of item) ≡ add asked item
flag_added asked trace h = turned asked.traces.trace (put asked trace)
flag_added asked sources h = turned asked.traces.sources (put asked sources)
flag_added asked keep h = turned asked.keep (put asked keep)
flag_added asked resume h = turned asked.resume (put asked resume)
flag_added asked (at leg) h = absurd (true≢false (sym h))

abbrev OneByOne : List Text → Type 0
OneByOne words = (asked : Asked) → awaits asked.leg ≡ false → by_words asked words ≡ by_items asked (items_of words)

abbrev ByFlag : Asked → Text → List Text → Type 0
ByFlag asked word rest = by_words asked (word ∷ rest) ≡ by_items asked (with_item (flag_item word) (items_of rest))

module _ (rest : List Text) (h : OneByOne rest) (asked : Asked) (settled : awaits asked.leg ≡ false) where
  known : (item : Item) → is_flag item ≡ true → flag_item (text_of item) ≡ Some item → ByFlag asked (text_of item) rest
  known item flag is =
      ap (λ (o : Option Asked). option_and_then ended (option_and_then (λ more. asked_by more rest) o)) (as_flag asked (text_of item) settled ∙ flag_added asked item flag)
      ∙ go (has asked item) (h (put asked item) (put_awaits asked item settled))
      ∙ sym (item_first asked item (items_of rest))
      ∙ ap (λ (o : Option Item). by_items asked (with_item o (items_of rest))) (sym is)
    where
      go : (b : Bool) → by_words (put asked item) rest ≡ by_items (put asked item) (items_of rest)
          → option_and_then ended (option_and_then (λ more. asked_by more rest) (if b then None else Some (put asked item)))
          ≡ option_and_then (λ more. by_items more (items_of rest)) (if b then None else Some (put asked item))
      go true e = refl
      go false e = e

  same : (word : Text) (item : Item) → pointwise nat_eq word (text_of item) ≡ true → is_flag item ≡ true → flag_item (text_of item) ≡ Some item → ByFlag asked word rest
  same word item is flag taken = subst (λ (w : Text). ByFlag asked w rest) (sym (same_text word (text_of item) (sym is))) (known item flag taken)

  by_flag : (word : Text) → pointwise nat_eq word (codes "--at") ≡ false → ByFlag asked word rest
  by_flag word other =
      go (pointwise nat_eq word (codes "--trace")) (pointwise nat_eq word (codes "--sources")) (pointwise nat_eq word (codes "--keep")) (pointwise nat_eq word (codes "--resume")) refl refl refl refl
    where
      go : (t s k r : Bool) → pointwise nat_eq word (codes "--trace") ≡ t → pointwise nat_eq word (codes "--sources") ≡ s
          → pointwise nat_eq word (codes "--keep") ≡ k → pointwise nat_eq word (codes "--resume") ≡ r → ByFlag asked word rest
      go true s k r is_t is_s is_k is_r = same word trace is_t refl refl
      go false true k r is_t is_s is_k is_r = same word sources is_s refl refl
      go false false true r is_t is_s is_k is_r = same word keep is_k refl refl
      go false false false true is_t is_s is_k is_r = same word resume is_r refl refl
      go false false false false is_t is_s is_k is_r =
          ap (λ (o : Option Asked). option_and_then ended (option_and_then (λ more. asked_by more rest) o)) (as_flag asked word settled)
          ∙ rw (is_t, is_s, is_k, is_r, other) refl

-- ---- `--at`

at_alone : (asked : Asked) → awaits asked.leg ≡ false → by_words asked (codes "--at" ∷ []) ≡ None
at_alone asked h =
    ap (λ (o : Option Asked). option_and_then ended (option_and_then (λ more. asked_by more []) o)) (as_flag asked (codes "--at") h)
    ∙ go (is_no asked.leg)
  where
    go : (b : Bool) → option_and_then ended (option_and_then (λ more. asked_by more []) (if b then Some (record asked { leg = Awaited }) else None)) ≡ None
    go true = any_resume asked.traces asked.keep asked.resume
      where
        any_resume : (t : TraceFlags) (k r : Bool) → ended (record { traces = t; keep = k; resume = r; leg = Awaited }) ≡ None
        any_resume t true true = refl
        any_resume t true false = refl
        any_resume t false true = refl
        any_resume t false false = refl
    go false = refl

module _ (rest : List Text) (h : OneByOne rest) (asked : Asked) (settled : awaits asked.leg ≡ false) (next : Text) where
  at_leg : by_words asked (codes "--at" ∷ next ∷ rest) ≡ by_items asked (with_item (leg_item (leg_of (number_value next))) (items_of rest))
  at_leg =
      ap (λ (o : Option Asked). option_and_then ended (option_and_then (λ more. asked_by more (next ∷ rest)) o)) (as_flag asked (codes "--at") settled)
      ∙ awaited (is_no asked.leg)
      ∙ go (is_no asked.leg) (leg_of (number_value next)) refl
    where
      awaited : (b : Bool) → option_and_then ended (option_and_then (λ more. asked_by more (next ∷ rest)) (if b then Some (record asked { leg = Awaited }) else None))
          ≡ option_and_then ended (option_and_then (λ more. option_and_then (λ more. asked_by more rest) (with_leg more (leg_of (number_value next)))) (if b then Some (record asked { leg = Awaited }) else None))
      awaited true = refl
      awaited false = refl

      first : (leg : ℕ) (b : Bool) → is_no asked.leg ≡ b → option_and_then (λ more. by_items more (items_of rest)) (if not b then None else Some (put asked (at leg)))
          ≡ by_items asked (with_item (Some (at leg)) (items_of rest))
      first leg b is = ap (λ (b : Bool). option_and_then (λ more. by_items more (items_of rest)) (if not b then None else Some (put asked (at leg)))) (sym is) ∙ sym (item_first asked (at leg) (items_of rest))

      go : (b : Bool) (o : Option ℕ) → is_no asked.leg ≡ b
          → option_and_then ended (option_and_then (λ more. option_and_then (λ more. asked_by more rest) (with_leg more o)) (if b then Some (record asked { leg = Awaited }) else None))
          ≡ by_items asked (with_item (leg_item o) (items_of rest))
      go true None is = refl
      go false None is = refl
      go true (Some leg) is = h (record asked { leg = Leg leg }) refl ∙ first leg true is
      go false (Some leg) is = first leg false is

pub one_by_one : (words : List Text) → OneByOne words
one_by_one [] asked settled = refl
one_by_one (word ∷ []) asked settled = go (pointwise nat_eq word (codes "--at")) refl
  where
    go : (b : Bool) → pointwise nat_eq word (codes "--at") ≡ b → by_words asked (word ∷ []) ≡ by_items asked (with_item (flag_item word) (Some []))
    go true is = subst (λ (w : Text). by_words asked (w ∷ []) ≡ by_items asked (with_item (flag_item w) (Some []))) (sym (same_text word (codes "--at") (sym is))) (at_alone asked settled)
    go false is = by_flag [] (λ asked settled. refl) asked settled word is
one_by_one (word ∷ next ∷ rest) asked settled = go (one_by_one rest) (one_by_one (next ∷ rest)) (pointwise nat_eq word (codes "--at")) refl
  where
    go : OneByOne rest → OneByOne (next ∷ rest) → (b : Bool) → pointwise nat_eq word (codes "--at") ≡ b → by_words asked (word ∷ next ∷ rest)
        ≡ by_items asked (if b then with_item (leg_item (leg_of (number_value next))) (items_of rest) else with_item (flag_item word) (items_of (next ∷ rest)))
    go h more true is = subst (λ (w : Text). by_words asked (w ∷ next ∷ rest) ≡ by_items asked (with_item (leg_item (leg_of (number_value next))) (items_of rest)))
        (sym (same_text word (codes "--at") (sym is))) (at_leg rest h asked settled next)
    go h more false is = by_flag (next ∷ rest) more asked settled word is

-- the word at a place
pub word_taken : {W : Type 0} (bytes : W → Text) (words : List W) (i : ℕ) (word : W) (text : Text) (asked : Asked) (o : Option Asked)
    → i < length words → word ≡ slice_index_or words i word → text ≡ bytes word → with_word asked text ≡ o
    → asked_by asked (map bytes (drop i words)) ≡ option_and_then (λ more. asked_by more (map bytes (drop (i + 1) words))) o
word_taken {W} bytes words i word text asked o less stands is taken =
    ap (λ (rest : List W). asked_by asked (map bytes rest)) (drop_more words i word less ∙ ap (λ (w : W). w ∷ drop (i + 1) words) (sym stands))
    ∙ ap (λ (more : Option Asked). option_and_then (λ more. asked_by more (map bytes (drop (i + 1) words))) more) (ap (with_word asked) (sym is) ∙ taken)

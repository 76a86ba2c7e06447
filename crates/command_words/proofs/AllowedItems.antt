-- The items that are allowed are those that are taken one by one, and their flags are the ones that are asked for.
use Rattle.std.proofs.Common.{◌≡◌, ◌∙◌, ◌&&◌, ℕ, ap, ap₂, sym, Bool, true, false, true≢false, List, [], ◌∷◌, Option, Some, None, refl}
use Rattle.std.specs.Prelude.{◌||◌, not, is_some, option_and_then, if◌then◌else◌}
use Rattle.std.specs.List.{list_all}
use Rattle.std.proofs.lemmas.Bool.{and_parts}
use Rattle.command_words.specs.declared.asked.Asked.{Asked}
use Rattle.command_words.specs.declared.asked.LegAsked.{LegAsked}
use Rattle.command_words.specs.declared.asked.LegAsked.TheVariants.{No, Leg}
use Rattle.command_words.specs.declared.trace_flags.TraceFlags.{TraceFlags}
use Rattle.command_words.specs.KeptWords.{Item, allowed_flags, flags_in, is_same, items_of, leg_in, no_two, resumed_at, run_flags_of, stands}
use Rattle.command_words.specs.KeptWords.Item.{trace, sources, keep, resume, at}
use Rattle.command_words.specs.WordByWord.{asked_by, ended, nothing_asked}
use Rattle.command_words.proofs.ItemWords.{Text, add_all, by_items, has, one_by_one, put}

-- ---- none stood before, and none is there twice

abbrev pub put_all : Asked → List Item → Asked
put_all asked [] = asked
put_all asked (item ∷ items) = put_all (put asked item) items

abbrev pub all_new : Asked → List Item → Bool
all_new asked items = list_all (λ item. not (has asked item)) items

-- these items may follow what stood before
abbrev pub may_follow : Asked → List Item → Bool
may_follow asked items = all_new asked items && no_two items

put_has : (asked : Asked) (item other : Item) → has (put asked item) other ≡ (is_same item other || has asked other)
put_has asked trace trace = refl
put_has asked trace sources = refl
put_has asked trace keep = refl
put_has asked trace resume = refl
put_has asked trace (at leg) = refl
put_has asked sources trace = refl
put_has asked sources sources = refl
put_has asked sources keep = refl
put_has asked sources resume = refl
put_has asked sources (at leg) = refl
put_has asked keep trace = refl
put_has asked keep sources = refl
put_has asked keep keep = refl
put_has asked keep resume = refl
put_has asked keep (at leg) = refl
put_has asked resume trace = refl
put_has asked resume sources = refl
put_has asked resume keep = refl
put_has asked resume resume = refl
put_has asked resume (at leg) = refl
put_has asked (at leg) trace = refl
put_has asked (at leg) sources = refl
put_has asked (at leg) keep = refl
put_has asked (at leg) resume = refl
put_has asked (at leg) (at other) = refl

and_false : (a : Bool) → (a && false) ≡ false
and_false true = refl
and_false false = refl

new_first : (a h x s : Bool) → (not (a || h) && (x && not s)) ≡ ((not h && x) && not (a || s))
new_first true h x s = sym (and_false (not h && x))
new_first false true x s = refl
new_first false false x s = refl

new_after : (asked : Asked) (item : Item) (items : List Item) → all_new (put asked item) items ≡ (all_new asked items && not (stands item items))
new_after asked item [] = refl
new_after asked item (other ∷ items) =
    ap₂ (λ (h x : Bool). not h && x) (put_has asked item other) (new_after asked item items)
    ∙ new_first (is_same item other) (has asked other) (all_new asked items) (stands item items)

regrouped : (a n y : Bool) → ((a && n) && y) ≡ (a && (n && y))
regrouped true n y = refl
regrouped false n y = refl

-- what may follow, item by item
pub follows : (asked : Asked) (item : Item) (items : List Item) → may_follow asked (item ∷ items) ≡ (not (has asked item) && may_follow (put asked item) items)
follows asked item items =
    regrouped (not (has asked item)) (all_new asked items) (not (stands item items) && no_two items)
    ∙ ap (λ (b : Bool). not (has asked item) && b)
    (sym (regrouped (all_new asked items) (not (stands item items)) (no_two items)) ∙ ap (λ (b : Bool). b && no_two items) (sym (new_after asked item items)))

-- all are taken where they may follow
all_added : (asked : Asked) (items : List Item) → add_all asked items ≡ (if may_follow asked items then Some (put_all asked items) else None)
all_added asked [] = refl
all_added asked (item ∷ items) =
    go (has asked item) (all_added (put asked item) items)
    ∙ ap (λ (b : Bool). if b then Some (put_all (put asked item) items) else None) (sym (follows asked item items))
  where
    go : (b : Bool) → add_all (put asked item) items ≡ (if may_follow (put asked item) items then Some (put_all (put asked item) items) else None)
        → option_and_then (λ more. add_all more items) (if b then None else Some (put asked item))
        ≡ (if not b && may_follow (put asked item) items then Some (put_all (put asked item) items) else None)
    go true e = refl
    go false e = e

-- ---- what is asked for in the end

or_true : (b : Bool) → (b || true) ≡ true
or_true true = refl
or_true false = refl

or_false : (b : Bool) → (b || false) ≡ b
or_false true = refl
or_false false = refl

or_turned : (a s h : Bool) → (s || (a || h)) ≡ ((a || s) || h)
or_turned true s h = or_true s
or_turned false s h = refl

-- a flag is asked for where it stood
asked_in_all : (asked : Asked) (flag : Item) (items : List Item) → has (put_all asked items) flag ≡ (stands flag items || has asked flag)
asked_in_all asked flag [] = refl
asked_in_all asked flag (item ∷ items) =
    asked_in_all (put asked item) flag items
    ∙ ap (λ (b : Bool). stands flag items || b) (put_has asked item flag ∙ ap (λ (b : Bool). b || has asked flag) (turned item flag))
    ∙ or_turned (is_same flag item) (stands flag items) (has asked flag)
  where
    turned : (a b : Item) → is_same a b ≡ is_same b a
    turned trace trace = refl
    turned trace sources = refl
    turned trace keep = refl
    turned trace resume = refl
    turned trace (at leg) = refl
    turned sources trace = refl
    turned sources sources = refl
    turned sources keep = refl
    turned sources resume = refl
    turned sources (at leg) = refl
    turned keep trace = refl
    turned keep sources = refl
    turned keep keep = refl
    turned keep resume = refl
    turned keep (at leg) = refl
    turned resume trace = refl
    turned resume sources = refl
    turned resume keep = refl
    turned resume resume = refl
    turned resume (at leg) = refl
    turned (at leg) trace = refl
    turned (at leg) sources = refl
    turned (at leg) keep = refl
    turned (at leg) resume = refl
    turned (at leg) (at other) = refl

-- the leg that was named last
abbrev leg_after : LegAsked → List Item → LegAsked
leg_after l [] = l
leg_after l (at leg ∷ items) = leg_after (Leg leg) items
leg_after l (item ∷ items) = leg_after l items

leg_in_all : (asked : Asked) (items : List Item) → (put_all asked items).leg ≡ leg_after asked.leg items
leg_in_all asked [] = refl
leg_in_all asked (trace ∷ items) = leg_in_all (put asked trace) items
leg_in_all asked (sources ∷ items) = leg_in_all (put asked sources) items
leg_in_all asked (keep ∷ items) = leg_in_all (put asked keep) items
leg_in_all asked (resume ∷ items) = leg_in_all (put asked resume) items
leg_in_all asked (at leg ∷ items) = leg_in_all (put asked (at leg)) items

-- no leg more
none_more : (l : LegAsked) (leg : ℕ) (items : List Item) → not (stands (at leg) items) ≡ true → leg_after l items ≡ l
none_more l leg [] h = refl
none_more l leg (trace ∷ items) h = none_more l leg items h
none_more l leg (sources ∷ items) h = none_more l leg items h
none_more l leg (keep ∷ items) h = none_more l leg items h
none_more l leg (resume ∷ items) h = none_more l leg items h
none_more l leg (at other ∷ items) h = absurd (true≢false (sym h))

abbrev pub as_leg : Option ℕ → LegAsked
as_leg None = No
as_leg (Some leg) = Leg leg

one_leg : (items : List Item) → no_two items ≡ true → leg_after No items ≡ as_leg (leg_in items)
one_leg [] h = refl
one_leg (trace ∷ items) h = one_leg items (and_parts (not (stands trace items)) _ h).1
one_leg (sources ∷ items) h = one_leg items (and_parts (not (stands sources items)) _ h).1
one_leg (keep ∷ items) h = one_leg items (and_parts (not (stands keep items)) _ h).1
one_leg (resume ∷ items) h = one_leg items (and_parts (not (stands resume items)) _ h).1
one_leg (at leg ∷ items) h = none_more (Leg leg) leg items (and_parts (not (stands (at leg) items)) _ h).0

-- what is asked for by items, none of them twice
abbrev pub asked_for : List Item → Asked
asked_for items = record {
  traces = record { trace = stands trace items; sources = stands sources items };
  keep = stands keep items;
  resume = stands resume items;
  leg = as_leg (leg_in items);
}

pub all_put : (items : List Item) → no_two items ≡ true → put_all nothing_asked items ≡ asked_for items
all_put items h = parts (asked_in_all nothing_asked trace items ∙ or_false _) (asked_in_all nothing_asked sources items ∙ or_false _)
    (asked_in_all nothing_asked keep items ∙ or_false _) (asked_in_all nothing_asked resume items ∙ or_false _)
    (leg_in_all nothing_asked items ∙ one_leg items h)
  where
    all : Asked
    all = put_all nothing_asked items

    parts : all.traces.trace ≡ stands trace items → all.traces.sources ≡ stands sources items → all.keep ≡ stands keep items → all.resume ≡ stands resume items
        → all.leg ≡ as_leg (leg_in items) → all ≡ asked_for items
    parts t s k r l = ap₂ (λ (traces : TraceFlags) (rest : Bool × (Bool × LegAsked)). record { traces = traces; keep = rest.0; resume = rest.1.0; leg = rest.1.1 })
        (ap₂ (λ (trace sources : Bool). record { trace = trace; sources = sources }) t s)
        (ap₂ (λ (keep : Bool) (rest : Bool × LegAsked). (keep, rest)) k (ap₂ (λ (resume : Bool) (leg : LegAsked). (resume, leg)) r l))

-- ---- the flags

none_before : (items : List Item) → all_new nothing_asked items ≡ true
none_before [] = refl
none_before (trace ∷ items) = none_before items
none_before (sources ∷ items) = none_before items
none_before (keep ∷ items) = none_before items
none_before (resume ∷ items) = none_before items
none_before (at leg ∷ items) = none_before items

pub may_follow_nothing : (items : List Item) → no_two items ≡ true → may_follow nothing_asked items ≡ true
may_follow_nothing items h = ap₂ (λ (a b : Bool). a && b) (none_before items) h

pub flags_ended : (items : List Item) → by_items nothing_asked (Some items) ≡ allowed_flags (Some items)
flags_ended items =
    ap (option_and_then ended) (all_added nothing_asked items ∙ ap (λ (b : Bool). if b && no_two items then Some (put_all nothing_asked items) else None) (none_before items))
    ∙ go (no_two items) (all_put items)
  where
    parts : (t : TraceFlags) (k r : Bool) (o : Option ℕ)
        → ended (record { traces = t; keep = k; resume = r; leg = as_leg o })
        ≡ (if (not (is_some o) || r) && (k || r) then Some (t, record { keep = k; resume = if r then Some (resumed_at o) else None }) else None)
    parts t true true None = refl
    parts t true true (Some leg) = refl
    parts t true false None = refl
    parts t true false (Some leg) = refl
    parts t false true None = refl
    parts t false true (Some leg) = refl
    parts t false false None = refl
    parts t false false (Some leg) = refl

    go : (b : Bool) → (b ≡ true → put_all nothing_asked items ≡ asked_for items)
        → option_and_then ended (if b then Some (put_all nothing_asked items) else None)
        ≡ (if b && ((not (is_some (leg_in items)) || stands resume items) && (stands keep items || stands resume items)) then Some (flags_in items) else None)
    go true h = ap ended (h refl) ∙ parts _ (stands keep items) (stands resume items) (leg_in items)
    go false h = refl

-- the flags that words are, word by word
pub flags_by_word : (words : List Text) → option_and_then ended (asked_by nothing_asked words) ≡ run_flags_of words
flags_by_word words = one_by_one words nothing_asked refl ∙ go (items_of words)
  where
    go : (o : Option (List Item)) → by_items nothing_asked o ≡ allowed_flags o
    go None = refl
    go (Some items) = flags_ended items

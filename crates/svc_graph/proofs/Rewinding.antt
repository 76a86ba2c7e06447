-- Columns that are cut to earlier clocks have the rows at those clocks.
use Rattle.std.proofs.Common.{◌≡◌, ℕ, zero, suc, ◌+◌, ◌<◌, ◌≤◌, Bool, true, List, [], ◌∷◌, length, take, get_or, set, refl, sym, ap, ap₂, ◌∙◌, subst, arith, add-one, min}
use Rattle.std.proofs.lemmas.List.{length-take, take-map}
use Rattle.std.specs.Cmp.Derive.{both_true}
use Rattle.svc_graph.proofs.Lists.{and_left, and_right}
use Rattle.svc_graph.specs.declared.history.Body.{Body}
use Rattle.svc_graph.specs.declared.history.Version.{Version}
use Rattle.svc_graph.specs.Versions.{definition_of, definitions, is_within, HasBodies}
use Rattle.std.specs.declared.string.String.{String}
use Rattle.std.specs.List.{list_all}
use Rattle.std.specs.String.{string_bytes}
use Rattle.svc_graph.specs.Book.{IsBook}
use Rattle.svc_graph.specs.Columns.{bytes_of, rows_of, AreColumns}
use Rattle.svc_graph.specs.declared.definition.Definition.{Definition}
use Rattle.svc_graph.specs.declared.kind.Kind.{Kind}
use Rattle.svc_graph.specs.Rewound.{rewound_rows, shortened}

-- ---- versions that are cut

list_all-take : {A : Type 0} (p : A → Bool) (n : ℕ) (xs : List A) → list_all p xs ≡ true → list_all p (take n xs) ≡ true
list_all-take p zero xs h = refl
list_all-take p (suc n) [] h = refl
list_all-take p (suc n) (x ∷ xs) h = both_true (and_left (p x) (list_all p xs) h) (list_all-take p n xs (and_right (p x) (list_all p xs) h))

pub HasBodies-take : (bodies : List Body) (versions some : List Version) (n : ℕ) → some ≡ take n versions → HasBodies bodies versions → HasBodies bodies some
HasBodies-take bodies versions some n is h = subst (HasBodies bodies) (sym is) (record { each = list_all-take (is_within bodies) n versions h.each })

pub definitions-take : (bodies : List Body) (versions some : List Version) (n : ℕ) → some ≡ take n versions → definitions bodies some ≡ take n (definitions bodies versions)
definitions-take bodies versions some n is = ap (definitions bodies) is ∙ sym (take-map (definition_of bodies) n versions)

-- the first so many are shortened
abbrev pub partly : ℕ → List (List Definition) → List ℕ → List (List Definition)
partly zero histories clocks = histories
partly (suc n) [] clocks = []
partly (suc n) (history ∷ histories) [] = history ∷ histories
partly (suc n) (history ∷ histories) (clock ∷ clocks) = take clock history ∷ partly n histories clocks

pub partly-next : (n : ℕ) (histories : List (List Definition)) (clocks : List ℕ) (d : List Definition) (e : ℕ) → n < length histories → length histories ≤ length clocks → set (partly n histories clocks) n (take (get_or clocks n e) (get_or (partly n histories clocks) n d)) ≡ partly (suc n) histories clocks
partly-next n [] clocks d e less fits = absurd (omega arith)
partly-next n (history ∷ histories) [] d e less fits = absurd (omega arith)
partly-next zero (history ∷ histories) (clock ∷ clocks) d e less fits = refl
partly-next (suc n) (history ∷ histories) (clock ∷ clocks) d e less fits = ap (λ hs. take clock history ∷ hs) (partly-next n histories clocks d e (omega arith) (omega arith))

pub partly-all : (histories : List (List Definition)) (clocks : List ℕ) (n : ℕ) → length histories ≤ length clocks → n ≡ length histories → partly n histories clocks ≡ shortened histories clocks
partly-all [] clocks zero fits all = refl
partly-all [] clocks (suc n) fits all = absurd (omega arith)
partly-all (history ∷ histories) [] n fits all = absurd (omega arith)
partly-all (history ∷ histories) (clock ∷ clocks) zero fits all = absurd (omega arith)
partly-all (history ∷ histories) (clock ∷ clocks) (suc n) fits all = ap (λ hs. take clock history ∷ hs) (partly-all histories clocks n (omega arith) (omega arith))

pub length-shortened : (histories : List (List Definition)) (clocks : List ℕ) → length (shortened (take (length clocks) histories) clocks) ≡ length (take (length clocks) histories)
length-shortened [] [] = refl
length-shortened [] (clock ∷ clocks) = refl
length-shortened (history ∷ histories) [] = refl
length-shortened (history ∷ histories) (clock ∷ clocks) = ap suc (length-shortened histories clocks)

-- the rows of columns that are cut
pub rows_of-cut : (names : List (List ℕ)) (kinds : List Kind) (histories : List (List Definition)) (clocks : List ℕ) → rows_of (take (length clocks) names) (take (length clocks) kinds) (shortened (take (length clocks) histories) clocks) ≡ rewound_rows (rows_of names kinds histories) clocks
rows_of-cut [] kinds histories [] = refl
rows_of-cut [] kinds histories (clock ∷ clocks) = refl
rows_of-cut (name ∷ names) [] histories [] = refl
rows_of-cut (name ∷ names) [] histories (clock ∷ clocks) = refl
rows_of-cut (name ∷ names) (kind ∷ kinds) [] [] = refl
rows_of-cut (name ∷ names) (kind ∷ kinds) [] (clock ∷ clocks) = refl
rows_of-cut (name ∷ names) (kind ∷ kinds) (history ∷ histories) [] = refl
rows_of-cut (name ∷ names) (kind ∷ kinds) (history ∷ histories) (clock ∷ clocks) =
    ap (λ rows. record { name = name; rank = kind.rank; ty = kind.ty; history = take clock history } ∷ rows) (rows_of-cut names kinds histories clocks)

take-same : {A B : Type 0} (xs : List A) (ys : List B) (n : ℕ) → length xs ≡ length ys → length (take n xs) ≡ length (take n ys)
take-same xs ys n same = simp length-take (ap (min n) same)

-- ---- a loop that shortens one after the other

pub shorten_next : (first clocks_now : List (List Definition)) (clocks : List ℕ) (i clock len : ℕ) (history new : List Definition) → i < length first → length first ≤ length clocks → clocks_now ≡ partly i first clocks → clock ≡ get_or clocks i clock → len ≡ clock → new ≡ take len (get_or clocks_now i history) → set clocks_now i new ≡ partly (i + 1) first clocks
shorten_next first now clocks i clock len history new less fits is at count made =
    let here : new ≡ take (get_or clocks i clock) (get_or (partly i first clocks) i history) = made ∙ ap₂ (λ n hs. take n (get_or hs i history)) (count ∙ at) is in
    rw add-one (ap₂ (λ hs h. set hs i h) is here ∙ partly-next i first clocks history clock less fits)

-- ---- the columns of a book

pub bytes_of-take : {Z : Type 0} (texts some : List (String Z)) (clocks : List ℕ) → some ≡ take (length clocks) texts → bytes_of some ≡ take (length clocks) (bytes_of texts)
bytes_of-take texts some clocks is = ap bytes_of is ∙ sym (take-map string_bytes (length clocks) texts)

module _ (names some_names : List (List ℕ)) (kinds some_kinds : List Kind) (histories some all : List (List Definition)) (clocks : List ℕ) (h : AreColumns names kinds histories) (names_is : some_names ≡ take (length clocks) names) (kinds_is : some_kinds ≡ take (length clocks) kinds) (some_is : some ≡ shortened (take (length clocks) histories) clocks) (all_is : all ≡ some) where
  pub rows-cut : rows_of some_names some_kinds all ≡ rewound_rows (rows_of names kinds histories) clocks
  rows-cut = (λ i. rows_of (names_is i) (kinds_is i) ((all_is ∙ some_is) i)) ∙ rows_of-cut names kinds histories clocks

  pub columns-cut : IsBook (rewound_rows (rows_of names kinds histories) clocks) → AreColumns some_names some_kinds all
  columns-cut book = record {
    kinds_len = ap length kinds_is ∙ take-same kinds names (length clocks) h.kinds_len ∙ sym (ap length names_is);
    histories_len = ap length (all_is ∙ some_is) ∙ length-shortened histories clocks ∙ take-same histories names (length clocks) h.histories_len ∙ sym (ap length names_is);
    book = subst IsBook (sym rows-cut) book;
  }

-- Names that differ, and the search for one.
use Rattle.std.proofs.Common.{◌≡◌, ℕ, suc, ◌+◌, ◌<◌, Bool, true, false, not, cond, map, List, [], ◌∷◌, ◌++◌, length, position, Some, None, is_some, refl, ap, sym, ◌∙◌, inl, inr, ◌||◌, true≢false, arith}
use Rattle.std.proofs.lemmas.Bool.{lt-ltb}
use Rattle.std.proofs.lemmas.Slice.Eq.{bytes_eq-Decides}
use Rattle.std.proofs.lemmas.List.{length-map, map-append}
use Rattle.std.specs.List.{list_any, prefix_len, position_or_len}
use Rattle.std.specs.Str.{bytes_eq}
use Rattle.std.specs.String.{string_bytes, string_eq}
use Rattle.std.specs.declared.string.String.{String}
use Rattle.indexmap.specs.IndexSet.{insert_key}
use Rattle.propagation.proofs.Lists.{Has-append_cases}
use Rattle.propagation.specs.Lists.{Has}
use Rattle.svc_expr.specs.Names.{Differ}
use Rattle.svc_graph.specs.Columns.{bytes_of}

-- a search in what a function makes of the elements
prefix_len-map : {A B : Type 0} (f : A → B) (p : B → Bool) (xs : List A) → prefix_len p (map f xs) ≡ prefix_len (λ x. p (f x)) xs
prefix_len-map f p [] = refl
prefix_len-map f p (x ∷ xs) = ap (λ n. cond (p (f x)) (1 + n) 0) (prefix_len-map f p xs)

position-map : {A B : Type 0} (f : A → B) (p : B → Bool) (xs : List A) → position p (map f xs) ≡ position (λ x. p (f x)) xs
position-map f p xs = rw (prefix_len-map f (λ y. not (p y)) xs, length-map)

-- a name that is there is found before the end
found_before_end : (names : List (List ℕ)) (name : List ℕ) → Has names name → position_or_len (bytes_eq name) names < length names
found_before_end [] name has = elim has [ ]
found_before_end (first ∷ names) name (inl same) =
    let passes : bytes_eq name first ≡ true = (bytes_eq-Decides name first).1 (sym same) in
    rw passes (omega arith)
found_before_end (first ∷ names) name (inr later) = by (bytes_eq name first) (found_before_end names name later)
  where
    by : (b : Bool) → position_or_len (bytes_eq name) names < length names → cond (not b) (1 + position_or_len (bytes_eq name) names) 0 < length (first ∷ names)
    by true h = omega arith
    by false h = omega arith

-- a name that is not found is not there
pub Has-not_found : (names : List (List ℕ)) (name : List ℕ) → is_some (position (bytes_eq name) names) ≡ false → Has names name → ⊥
Has-not_found names name none has =
    let before = lt-ltb (position_or_len (bytes_eq name) names) (length names) (found_before_end names name has) in
    let found : true ≡ false = ap (λ b. is_some (cond b (Some (position_or_len (bytes_eq name) names)) None)) (sym before) ∙ none in
    cc

-- one name more, which is not there yet
pub Differ-push : (names : List (List ℕ)) (name : List ℕ) → Differ names → (Has names name → ⊥) → Differ (names ++ name ∷ [])
Differ-push [] name h new = ((λ has. has), tt)
Differ-push (first ∷ names) name h new = (apart, Differ-push names name h.1 (λ has. new (inr has)))
  where
    apart : Has (names ++ name ∷ []) first → ⊥
    apart has = elim (Has-append_cases names (name ∷ []) first has) [ inl there ↦ h.0 there | inr last ↦ elim last [ inl same ↦ new (inl (sym same)) | inr none ↦ none ] ]

-- the bytes of texts are as many as the texts
pub length-bytes_of : {Z : Type 0} (texts : List (String Z)) → length (bytes_of texts) ≡ length texts
length-bytes_of [] = refl
length-bytes_of (text ∷ texts) = ap suc (length-bytes_of texts)

-- a search among the texts is one among their bytes
pub position-bytes_of : {Z : Type 0} (texts : List (String Z)) (name : List ℕ) → position (λ text. bytes_eq name (string_bytes text)) texts ≡ position (bytes_eq name) (bytes_of texts)
position-bytes_of texts name = sym (position-map string_bytes (bytes_eq name) texts)

-- a text that is found among others is there with its bytes
Has-found : {Z : Type 0} (texts : List (String Z)) (text : String Z) → list_any (string_eq text) texts ≡ true → Has (bytes_of texts) (string_bytes text)
Has-found [] text found = absurd (true≢false (sym found))
Has-found (first ∷ texts) text found = by (string_eq text first) refl (λ later. Has-found texts text later)
  where
    by : (b : Bool) → string_eq text first ≡ b → (list_any (string_eq text) texts ≡ true → Has (bytes_of texts) (string_bytes text)) → Has (bytes_of (first ∷ texts)) (string_bytes text)
    by true e later = inl (sym ((bytes_eq-Decides (string_bytes text) (string_bytes first)).0 e))
    by false e later = inr (later (ap (λ b. b || list_any (string_eq text) texts) (sym e) ∙ found))

-- so one whose bytes are not found is not among them
pub absent : {Z : Type 0} (texts : List (String Z)) (text : String Z) → is_some (position (bytes_eq (string_bytes text)) (bytes_of texts)) ≡ false → list_any (string_eq text) texts ≡ false
absent texts text none = by (list_any (string_eq text) texts) refl
  where
    by : (b : Bool) → list_any (string_eq text) texts ≡ b → list_any (string_eq text) texts ≡ false
    by true e = absurd (Has-not_found (bytes_of texts) (string_bytes text) none (Has-found texts text e))
    by false e = e

-- a new text goes last, and so do its bytes
pub bytes_of-insert : {Z : Type 0} (texts : List (String Z)) (text : String Z) → is_some (position (bytes_eq (string_bytes text)) (bytes_of texts)) ≡ false →
    bytes_of (insert_key string_eq texts text) ≡ bytes_of texts ++ string_bytes text ∷ []
bytes_of-insert texts text none = rw (absent texts text none) (map-append string_bytes texts (text ∷ []))

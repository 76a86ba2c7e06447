-- A settled text has no trace lines.
-- Each of its lines ends with the one LF that it has, and begins with `settle` or with the letter of a name.
use Rattle.std.proofs.Common.{◌≡◌, ◌≢◌, ◌∙◌, sym, ap, refl, subst, ℕ, zero, suc, Bool, true, false, ◌&&◌, ◌==◌, ne_eqb, not, List, [], ◌∷◌, ◌++◌, append_assoc, append-nil, map, filter, flat_map, codes, pos}
use Rattle.std.specs.Char.{is_ascii_alphabetic}
use Rattle.std.specs.List.{list_all}
use Rattle.svc_graph.specs.declared.definition.Change.{Change}
use Rattle.svc_graph.specs.History.{Row, rows_after_change}
use Rattle.svc_plan.specs.declared.plan.Leg.{Leg}
use Rattle.svc_plan.specs.declared.plan.PlanChange.{PlanChange}
use Rattle.svc_plan.specs.declared.plan.ServiceLine.{ServiceLine}
use Rattle.svc_plan.specs.Rows.{row_of}
use Rattle.svc_plan.specs.Rows.{with_services, with_changes, rows_after, AreServicesAfter, AreLegsAfter}
use Rattle.svc_token.specs.Word.{is_word_byte, is_word, IsName}
use Rattle.svc_value.specs.Printed.{printed_value}
use Rattle.svc_value.specs.declared.value.Value.{Value}
use Rattle.svc_value.specs.declared.value.Value.TheVariants.{Int}
use Rattle.trace_text.specs.Names.{HaveNames}
use Rattle.trace_text.specs.Settled.{value_line, value_lines, settle_line, settled_block, Settles}
use Rattle.trace_text.specs.Untraced.{is_traced, untraced}
use Rattle.trace_text.proofs.Inside.{Inside, Inside-append, by_test, printed_inside}
use Rattle.trace_text.proofs.LinesOf.{lines_line}

-- ---- one line

-- a line that is no trace line stays
line_stays : (line rest : List ℕ) → Inside line → is_traced (line ++ 10 ∷ []) ≡ false → untraced (line ++ 10 ∷ rest) ≡ (line ++ 10 ∷ []) ++ untraced rest
line_stays line rest p plain =
    ap (λ lines. flat_map (λ (l : List ℕ). l) (filter (λ (l : List ℕ). not (is_traced l)) lines)) (lines_line line rest p) ∙ rw plain refl

-- ---- names

and_left : (a b : Bool) → (a && b) ≡ true → a ≡ true
and_left true b h = refl
and_left false b h = h

and_right : (a b : Bool) → (a && b) ≡ true → b ≡ true
and_right true b h = h
and_right false b h = absurd (cc h)

-- the bytes of a word
word_bytes : (bytes : List ℕ) → list_all is_word_byte bytes ≡ true → Inside bytes
word_bytes [] h = tt
word_bytes (b ∷ bytes) h = (
  (λ e. absurd (let never : true ≡ false = sym (and_left (is_word_byte b) (list_all is_word_byte bytes) h) ∙ ap is_word_byte e in cc never)),
  word_bytes bytes (and_right (is_word_byte b) (list_all is_word_byte bytes) h),
)

letter_other : (b c : ℕ) → is_ascii_alphabetic b ≡ true → is_ascii_alphabetic c ≡ false → b ≢ c
letter_other b c letter no_letter e = absurd (let never : true ≡ false = sym letter ∙ ap is_ascii_alphabetic e ∙ no_letter in cc never)

word_inside : (word : List ℕ) → is_word word ≡ true → Inside word
word_inside [] h = absurd (cc h)
word_inside (b ∷ bytes) h =
    (letter_other b 10 (and_left (is_ascii_alphabetic b) (list_all is_word_byte bytes) h) refl, word_bytes bytes (and_right (is_ascii_alphabetic b) (list_all is_word_byte bytes) h))

word_plain : (word rest : List ℕ) → is_word word ≡ true → is_traced (word ++ rest) ≡ false
word_plain [] rest h = absurd (cc h)
word_plain (b ∷ bytes) rest h =
    let other : (35 == b) ≡ false = ne_eqb 35 b (λ e. letter_other b 35 (and_left (is_ascii_alphabetic b) (list_all is_word_byte bytes) h) refl (sym e)) in
    rw other refl

-- ---- blocks

-- the line of a service
value_line_stays : (row : Row) (value : Value) (rest : List ℕ) → IsName row.name → untraced (value_line row value ++ rest) ≡ value_line row value ++ untraced rest
value_line_stays row value rest name =
    let line : List ℕ = row.name ++ codes " " ++ printed_value value in
    let inside : Inside line = Inside-append (row.name ++ codes " ") (printed_value value) (Inside-append row.name (codes " ") (word_inside row.name name.is_word) (by_test (codes " ") refl)) (printed_inside value) in
    let named : line ++ 10 ∷ [] ≡ row.name ++ (codes " " ++ (printed_value value ++ 10 ∷ [])) = append_assoc (row.name ++ codes " ") (printed_value value) (10 ∷ []) ∙ append_assoc row.name (codes " ") (printed_value value ++ 10 ∷ []) in
    let plain : is_traced (line ++ 10 ∷ []) ≡ false = ap is_traced named ∙ word_plain row.name (codes " " ++ (printed_value value ++ 10 ∷ [])) name.is_word in
    ap untraced (append_assoc line (10 ∷ []) rest) ∙ line_stays line rest inside plain

lines_stay : (rows : List Row) (values : List Value) (rest : List ℕ) → HaveNames rows → untraced (value_lines rows values ++ rest) ≡ value_lines rows values ++ untraced rest
lines_stay [] values rest names = refl
lines_stay (row ∷ rows) [] rest names = refl
lines_stay (row ∷ rows) (value ∷ values) rest names =
    let line = value_line row value in
    let lines = value_lines rows values in
    ap untraced (append_assoc line lines rest) ∙ value_line_stays row value (lines ++ rest) names.0
    ∙ ap (λ t. line ++ t) (lines_stay rows values rest names.1) ∙ sym (append_assoc line lines (untraced rest))

settle_stays : (k : ℕ) (rest : List ℕ) → untraced (settle_line k ++ rest) ≡ settle_line k ++ untraced rest
settle_stays k rest =
    let line : List ℕ = codes "settle " ++ printed_value (Int (pos k)) in
    let inside : Inside line = Inside-append (codes "settle ") (printed_value (Int (pos k))) (by_test (codes "settle ") refl) (printed_inside (Int (pos k))) in
    ap untraced (append_assoc line (10 ∷ []) rest) ∙ line_stays line rest inside refl

pub block_stays : (k : ℕ) (rows : List Row) (values : List Value) (rest : List ℕ) → HaveNames rows →
    untraced (settled_block k rows values ++ rest) ≡ settled_block k rows values ++ untraced rest
block_stays k rows values rest names =
    let lines = value_lines rows values in
    ap untraced (append_assoc (settle_line k) lines rest) ∙ settle_stays k (lines ++ rest) ∙ ap (λ t. settle_line k ++ t) (lines_stay rows values rest names)
    ∙ sym (append_assoc (settle_line k) lines (untraced rest))

-- ---- legs

names_append : (rows : List Row) (lines : List ServiceLine) → HaveNames rows → AreServicesAfter rows lines → HaveNames (with_services rows lines)
names_append rows [] names each = subst HaveNames (sym (append-nil rows)) names
names_append rows (line ∷ lines) names each =
    subst HaveNames (append_assoc rows (row_of line ∷ []) (map row_of lines)) (names_append (with_services rows (line ∷ [])) lines (one rows names) each.1)
  where
    one : (rows : List Row) → HaveNames rows → HaveNames (rows ++ row_of line ∷ [])
    one [] have = (each.0.name, tt)
    one (row ∷ rows) have = (have.0, one rows have.1)

names_changed : (rows : List Row) (n : ℕ) (change : Change) → HaveNames rows → HaveNames (rows_after_change rows n change)
names_changed [] n change names = tt
names_changed (row ∷ rows) zero change names = names
names_changed (row ∷ rows) (suc n) change names = (names.0, names_changed rows n change names.1)

names_after_changes : (rows : List Row) (changes : List PlanChange) → HaveNames rows → HaveNames (with_changes rows changes)
names_after_changes rows [] names = names
names_after_changes rows (change ∷ changes) names = names_after_changes (rows_after_change rows change.id change.change) changes (names_changed rows change.id change.change names)

pub names_after : (rows : List Row) (leg : Leg) → HaveNames rows → AreServicesAfter rows leg.services → HaveNames (rows_after rows leg)
names_after rows leg names each = names_after_changes (with_services rows leg.services) leg.changes (names_append rows leg.services names each)

-- the settled text of legs that can be taken has no trace lines
pub settled_is_untraced : (k : ℕ) (rows : List Row) (legs : List Leg) (text : List ℕ) → HaveNames rows → AreLegsAfter rows legs → Settles k rows legs text → untraced text ≡ text
settled_is_untraced k rows [] text names each Settles.none = refl
settled_is_untraced k rows (leg ∷ legs) text names each (Settles.leg {values = values} {text = rest} central later) =
    let here = names_after rows leg names each.0.services in
    block_stays (suc k) (rows_after rows leg) values rest here
    ∙ ap (λ t. settled_block (suc k) (rows_after rows leg) values ++ t) (settled_is_untraced (suc k) (rows_after rows leg) legs rest here each.1 later)

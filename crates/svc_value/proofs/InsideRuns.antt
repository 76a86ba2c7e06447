-- A run of characters that stand for themselves is read whole.
use Rattle.std.proofs.Common.{◌≡◌, refl, sym, ap, subst, ◌∙◌, ℕ, zero, suc, ◌+◌, ◌-◌, ◌<◌, ◌≤◌, inl, inr, Bool, true, false, not, List, [], ◌∷◌, ◌++◌, length, take, get_or, Ok, Err, arith, length-append, IsUtf8, chars, cond, ltb, true≢false}
use Rattle.std.specs.Prelude.{◌==◌}
use Rattle.std.specs.List.{list_all}
use Rattle.std.specs.Char.{len_utf8, encode_utf8}
use Rattle.std.specs.Str.{all_scalars, encode_utf8_all}
use Rattle.std.proofs.lemmas.Bool.{cases_lt, and_from, and_parts, ne_eqb, false_from_ne_true}
use Rattle.std.proofs.lemmas.Bool.Decides.{nat_tests}
use Rattle.std.proofs.lemmas.Str.{length-encode, chars-append, encodes-chars, scalars-chars}
use lib.Utf8.{scalar as is_scalar}
use Rattle.memchr.specs.Find.{is_byte3}
use Rattle.svc_value.specs.declared.inside.Form.{Form}
use Rattle.svc_value.specs.declared.inside.Form.TheVariants.{Any, Printed}
use Rattle.svc_value.specs.declared.inside.Inside.{Inside}
use Rattle.svc_value.specs.declared.inside.Inside.TheVariants.{Open, Plain, Escape, Hex, Low}
use Rattle.svc_value.specs.declared.inside.Step.TheVariants.{Close, Stop, Enter, Give}
use Rattle.svc_value.specs.Quoted.{any_form, is_itself}
use Rattle.svc_value.specs.Reading.{Read, next_step, past, goes_on, inside_at, HasRoom, StaysAt, Moves}
use Rattle.svc_value.proofs.InsidePlaces.{escape_is_none, high_is_itself, Bytes, bytes}
use Rattle.svc_value.proofs.InsideSteps.{KeptBy, past_past}

-- ---- bytes

-- the bytes before the first that does not stand for itself
pub plain_front : (text : List ℕ) (k : ℕ) → ((j : ℕ) → 0 ≤ j → j < k → is_byte3 34 92 10 (get_or text j 0) ≡ true → ⊥) → list_all (is_itself any_form) (take k text) ≡ true
plain_front text zero h = refl
plain_front [] (suc k) h = refl
plain_front (b ∷ text) (suc k) h =
    and_from (is_itself any_form b) (list_all (is_itself any_form) (take k text))
    (ap not (false_from_ne_true (is_byte3 34 92 10 b) (h 0 (omega arith) (omega arith))))
    (plain_front text k (λ j g l. h (suc j) (omega arith) (omega arith)))

-- that byte is ASCII
pub stop_low : (b : ℕ) → is_byte3 34 92 10 b ≡ true → b < 128
stop_low b e = grind (arith, nat_tests)

-- nothing stays at each place
pub none_stays : (form : Form) (inside : Inside) → StaysAt form inside []
none_stays form Open = refl
none_stays form Plain = refl
none_stays form Escape = refl
none_stays form Hex = refl
none_stays form (Low high) = refl

-- ---- characters

all_parts : (p : ℕ → Bool) (xs ys : List ℕ) → list_all p (xs ++ ys) ≡ true → (list_all p xs ≡ true) × (list_all p ys ≡ true)
all_parts p [] ys h = (refl, h)
all_parts p (x ∷ xs) ys h =
    let here = and_parts (p x) (list_all p (xs ++ ys)) h in
    let rest = all_parts p xs ys here.1 in
    (and_from (p x) (list_all p xs) here.0 rest.0, rest.1)

-- a character whose bytes stand for themselves does so
self : (form : Form) (c : ℕ) → Bytes c → list_all (is_itself form) (encode_utf8 c) ≡ true → is_itself form c ≡ true
self form c b h = elim (cases_lt c 128) [
  | inl l ↦ (
      let first : list_all (is_itself form) (b.first ∷ b.more) ≡ true = subst (λ xs. list_all (is_itself form) xs ≡ true) b.are h in
      subst (λ n. is_itself form n ≡ true) (b.alone l).0 (and_parts (is_itself form b.first) (list_all (is_itself form) b.more) first).0)
  | inr g ↦ high_is_itself form c g
]

selves : (form : Form) (cs : List ℕ) → all_scalars cs ≡ true → list_all (is_itself form) (encode_utf8_all cs) ≡ true → list_all (is_itself form) cs ≡ true
selves form [] h k = refl
selves form (c ∷ cs) h k =
    let parts = and_parts (is_scalar c) (all_scalars cs) h in
    let each = all_parts (is_itself form) (encode_utf8 c) (encode_utf8_all cs) k in
    and_from (is_itself form c) (list_all (is_itself form) cs) (self form c (bytes c parts.0) each.0) (selves form cs parts.1 each.1)

quote_is_none : (form : Form) → is_itself form 34 ≡ false
quote_is_none Any = refl
quote_is_none Printed = refl

-- what stands for itself is another byte than one that does not
other : (form : Form) (c k : ℕ) → is_itself form c ≡ true → is_itself form k ≡ false → (c == k) ≡ false
other form c k h e = ne_eqb c k (λ same. true≢false (sym h ∙ ap (is_itself form) same ∙ e))

stays_here : (form : Form) (room c : ℕ) → is_itself form c ≡ true → len_utf8 c ≤ room → next_step form Plain room c ≡ Give c
stays_here form room c h fits =
    let wide : ltb room (len_utf8 c) ≡ false = grind (arith, nat_tests) in
    let quote = other form c 34 h (quote_is_none form) in
    let escape = other form c 92 h (escape_is_none form) in
    λ i. cond (quote i) Close (cond (wide i) Stop (cond (escape i) (Enter Escape) (cond (h i) (Give c) Stop)))

past_none : (read : Read (List ℕ)) → past 0 [] read ≡ read
past_none (Ok read) = let e : 0 + read.1 ≡ read.1 = omega arith in ap (λ n. Ok (read.0, n)) e
past_none (Err place) = let e : 0 + place ≡ place = omega arith in ap (λ n. Err n) e

run_on : (form : Form) (cs ds : List ℕ) (room : ℕ) → list_all (is_itself form) cs ≡ true → length (encode_utf8_all cs) ≤ room
    → inside_at form (cs ++ ds) Plain room ≡ past (length (encode_utf8_all cs)) (encode_utf8_all cs) (inside_at form ds Plain (room - length (encode_utf8_all cs)))
run_on form [] ds room h fits =
    let all : room ≡ room - 0 = omega arith in
    ap (λ n. inside_at form ds Plain n) all ∙ sym (past_none (inside_at form ds Plain (room - 0)))
run_on form (c ∷ cs) ds room h fits =
    let parts = and_parts (is_itself form c) (list_all (is_itself form) cs) h in
    let more = encode_utf8_all cs in
    let count : length (encode_utf8 c ++ more) ≡ len_utf8 c + length more = length-append (encode_utf8 c) more ∙ ap (λ n. n + length more) (length-encode c) in
    let left : (room - len_utf8 c) - length more ≡ room - length (encode_utf8 c ++ more) = omega arith in
    ap (goes_on room (len_utf8 c) (λ next n. inside_at form (cs ++ ds) next n)) (stays_here form room c parts.0 (omega arith))
    ∙ ap (past (len_utf8 c) (encode_utf8 c)) (run_on form cs ds (room - len_utf8 c) parts.1 (omega arith))
    ∙ past_past (len_utf8 c) (length more) (encode_utf8 c) more (inside_at form ds Plain ((room - len_utf8 c) - length more))
    ∙ ap (λ n. past n (encode_utf8 c ++ more) (inside_at form ds Plain ((room - len_utf8 c) - length more))) (sym count)
    ∙ ap (λ n. past (length (encode_utf8 c ++ more)) (encode_utf8 c ++ more) (inside_at form ds Plain n)) left

-- ---- a run at any place

module _ (form : Form) (rest : List ℕ) (room : ℕ) where
  -- reading a run, and then what is behind it
  abbrev ReadsOn : Inside → List ℕ → Type 0
  ReadsOn inside run = inside_at form (chars (run ++ rest)) inside room ≡ past (length run) run (inside_at form (chars rest) inside (room - length run))

  no_run : (inside : Inside) (run : List ℕ) → run ≡ [] → ReadsOn inside run
  no_run inside run e =
      let all : room ≡ room - 0 = omega arith in
      subst (ReadsOn inside) (sym e) (ap (λ n. inside_at form (chars rest) inside n) all ∙ sym (past_none (inside_at form (chars rest) inside (room - 0))))

  run_at : (inside : Inside) (run : List ℕ) → IsUtf8 run → StaysAt form inside run → length run ≤ room → ReadsOn inside run
  run_at Plain run u h fits =
      let same = encodes-chars run u in
      let each = selves form (chars run) (scalars-chars run u) (subst (λ xs. list_all (is_itself form) xs ≡ true) (sym same) h) in
      ap (λ cs. inside_at form cs Plain room) (chars-append run rest u)
      ∙ run_on form (chars run) (chars rest) room each (subst (λ xs. length xs ≤ room) (sym same) fits)
      ∙ ap (λ xs. past (length xs) xs (inside_at form (chars rest) Plain (room - length xs))) same
  run_at Open run u h fits = no_run Open run h
  run_at Escape run u h fits = no_run Escape run h
  run_at Hex run u h fits = no_run Hex run h
  run_at (Low high) run u h fits = no_run (Low high) run h

-- where a run stays, an escape that has begun has room as before
room_kept : (form : Form) (inside : Inside) (words run : List ℕ) (left : ℕ) → StaysAt form inside run → left ≡ 256 - (length words + length run) → HasRoom inside (256 - length words) → HasRoom inside left
room_kept form Open words run left h e r = tt
room_kept form Plain words run left h e r = tt
room_kept form Escape words run left h e r = omega (arith, ap length h, e, r)
room_kept form Hex words run left h e r = omega (arith, ap length h, e, r)
room_kept form (Low high) words run left h e r = omega (arith, ap length h, e, r)

-- what the loop keeps, behind a run
pub kept_run : (form : Form) (inside : Inside) (at count : ℕ) (words new text rest : List ℕ) (whole : Read (List ℕ)) → KeptBy form at text whole inside words → Moves form inside words new text rest count
    → KeptBy form (at + count) rest whole inside new
kept_run form inside at count words new text rest whole k m =
    let long : length new ≡ length words + length m.run = ap length m.added ∙ length-append words m.run in
    let less : 256 - length new ≡ (256 - length words) - length m.run = omega arith in
    record {
      most = omega (arith, long, m.fits, k.most);
      room = room_kept form inside words m.run (256 - length new) m.stays (omega arith) k.room;
      read =
          ap (λ t. past (at + count) t (inside_at form (chars rest) inside (256 - length new))) m.added
          ∙ ap (λ n. past (at + n) (words ++ m.run) (inside_at form (chars rest) inside (256 - length new))) m.counted
          ∙ ap (λ n. past (at + length m.run) (words ++ m.run) (inside_at form (chars rest) inside n)) less
          ∙ sym (past_past at (length m.run) words m.run (inside_at form (chars rest) inside ((256 - length words) - length m.run)))
          ∙ ap (past at words) (sym (run_at form rest (256 - length words) inside m.run m.front m.stays m.fits))
          ∙ ap (λ xs. past at words (inside_at form (chars xs) inside (256 - length words))) (sym m.split)
          ∙ k.read;
    }

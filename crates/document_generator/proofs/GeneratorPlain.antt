-- The generated lines are short texts without LF.
use Rattle.std.proofs.Common.{◌≡◌, ℕ, zero, suc, ◌+◌, ◌-◌, ◌%◌, ◌<◌, ◌≤◌, ◌^◌, Bool, true, false, cond, List, [], ◌∷◌, ◌++◌, length, length-append, refl, ap, ◌∙◌, arith}
use Rattle.std.specs.Prelude.{◌==◌, ◌&&◌, nat_lt, nat_le, codes, decimal, IsUtf8, IsAscii, if◌then◌else◌}
use Rattle.std.specs.List.{list_all}
use Rattle.std.proofs.lemmas.Bool.{and_parts}
use Rattle.std.proofs.lemmas.Bool.Decides.{nat_tests}
use Rattle.std.proofs.lemmas.Fmt.{decimal_by_steps, length-decimal-le}
use Rattle.std.proofs.lemmas.List.Folds.{list_all-append}
use Rattle.std.proofs.lemmas.Str.{IsUtf8-from_ascii}
use Rattle.document_reading.specs.Document.{lines_of, before_first_line}
use Rattle.document_generator.specs.Generator.{number_text, input_name, derived_name, service_name, pair_text, input_line, derived_line, set_line, add_line, drop_line}

-- from a blank to `~`
abbrev is_plain : ℕ → Bool
is_plain b = nat_le 32 b && nat_lt b 127

-- a text of at most so many bytes, which are plain
pub record IsPlain (most : ℕ) (text : List ℕ) : Type 0 where
  pub short : length text ≤ most
  pub plain : list_all is_plain text ≡ true

joined : {m n : ℕ} (a b : List ℕ) → IsPlain m a → IsPlain n b → IsPlain (m + n) (a ++ b)
joined a b h k = record {
  short = simp length-append (omega (arith, h.short, k.short));
  plain = list_all-append is_plain a b ∙ ap (λ (t : Bool). t && list_all is_plain b) h.plain ∙ k.plain;
}

digit_plain : (n : ℕ) → n < 10 → is_plain (48 + n) ≡ true
digit_plain n h = grind (arith, nat_tests)

all_plain : (n : ℕ) → n < 2 ^ 64 → list_all is_plain (decimal n) ≡ true
all_plain = decimal_by_steps (λ n ds. list_all is_plain ds ≡ true)
    (λ n h. ap (λ (b : Bool). b && true) (digit_plain n h))
    (λ n ds h k. list_all-append is_plain ds ((48 + n % 10) ∷ []) ∙ ap (λ (t : Bool). t && list_all is_plain ((48 + n % 10) ∷ [])) k
    ∙ ap (λ (b : Bool). b && true) (digit_plain (n % 10) (omega arith)))

number_plain : (n : ℕ) → n < 1000 → IsPlain 3 (number_text n)
unfolding number_text
number_plain n h = record { short = length-decimal-le 3 n (omega arith) (omega arith) (omega arith); plain = all_plain n (omega arith) }

literal : (text : List ℕ) → list_all is_plain text ≡ true → IsPlain (length text) text
literal text h = record { short = omega arith; plain = h }

either : {m : ℕ} (test : Bool) (a b : List ℕ) → IsPlain m a → IsPlain m b → IsPlain m (if test then a else b)
either true a b h k = h
either false a b h k = k

weaker : {m n : ℕ} (text : List ℕ) → m ≤ n → IsPlain m text → IsPlain n text
weaker text le h = record { short = omega (arith, h.short); plain = h.plain }

input_name_plain : (k : ℕ) → k < 1000 → IsPlain 4 (input_name k)
input_name_plain k h = joined (codes "i") (number_text k) (literal (codes "i") refl) (number_plain k h)

derived_name_plain : (j : ℕ) → j < 1000 → IsPlain 4 (derived_name j)
derived_name_plain j h = joined (codes "d") (number_text j) (literal (codes "d") refl) (number_plain j h)

service_name_plain : (inputs n : ℕ) → n < 999 → IsPlain 4 (service_name inputs n)
service_name_plain inputs n h = either (nat_lt n inputs) _ _ (input_name_plain (n + 1) (omega arith)) (derived_name_plain (n + 1 - inputs) (omega arith))

pair_plain : (inputs p q : ℕ) → p < 999 → q < 999 → IsPlain 10 (pair_text inputs p q)
pair_plain inputs p q hp hq =
    either (p == q) _ _ (weaker _ (omega arith) (service_name_plain inputs p hp))
    (joined _ _ (joined _ (codes ", ") (service_name_plain inputs p hp) (literal (codes ", ") refl)) (service_name_plain inputs q hq))

pub input_plain : (k v : ℕ) → k < 1000 → v < 1000 → IsPlain 99 (input_line k v)
input_plain k v hk hv =
    weaker _ (omega arith)
    (joined _ _ (joined _ (codes " : int = ") (joined (codes "input ") _ (literal (codes "input ") refl) (input_name_plain k hk)) (literal (codes " : int = ") refl)) (number_plain v hv))

pub set_plain : (k v : ℕ) → k < 1000 → v < 1000 → IsPlain 99 (set_line k v)
set_plain k v hk hv =
    weaker _ (omega arith)
    (joined _ _ (joined _ (codes " = ") (joined (codes "set ") _ (literal (codes "set ") refl) (input_name_plain k hk)) (literal (codes " = ") refl)) (number_plain v hv))

pub add_plain : (inputs j q : ℕ) → j < 1000 → q < 999 → IsPlain 99 (add_line inputs j q)
add_plain inputs j q hj hq =
    weaker _ (omega arith)
    (joined _ _ (joined _ (codes " ") (joined (codes "add ") _ (literal (codes "add ") refl) (derived_name_plain j hj)) (literal (codes " ") refl)) (service_name_plain inputs q hq))

pub drop_plain : (inputs j q : ℕ) → j < 1000 → q < 999 → IsPlain 99 (drop_line inputs j q)
drop_plain inputs j q hj hq =
    weaker _ (omega arith)
    (joined _ _ (joined _ (codes " ") (joined (codes "drop ") _ (literal (codes "drop ") refl) (derived_name_plain j hj)) (literal (codes " ") refl)) (service_name_plain inputs q hq))

pub derived_plain : (inputs j p q : ℕ) → j < 1000 → p < 999 → q < 999 → IsPlain 99 (derived_line inputs j p q)
derived_plain inputs j p q hj hp hq =
    weaker _ (omega arith)
    (joined _ _ (joined _ (codes " = sum() over ")
    (joined _ _ (joined _ (codes " : int rank ") (joined (codes "derived ") _ (literal (codes "derived ") refl) (derived_name_plain j hj)) (literal (codes " : int rank ") refl)) (number_plain j hj))
    (literal (codes " = sum() over ") refl)) (pair_plain inputs p q hp hq))

pub settle_plain : IsPlain 99 (codes "settle")
settle_plain = weaker _ (omega arith) (literal (codes "settle") refl)

-- ---- what follows of plain texts

-- a plain text ended by LF is the first line
pub ended_line : {most : ℕ} (line more : List ℕ) → IsPlain most line → lines_of (line ++ 10 ∷ more) ≡ line ∷ lines_of more
ended_line line more h = goes line h.plain
  where
    goes : (text : List ℕ) → list_all is_plain text ≡ true → lines_of (text ++ 10 ∷ more) ≡ text ∷ lines_of more
    goes [] h = refl
    goes (b ∷ text) h =
        let k = and_parts (is_plain b) (list_all is_plain text) h in
        let other : (b == 10) ≡ false = grind (arith, nat_tests, k.0) in
        ap (λ (t : Bool). cond t ([] ∷ lines_of (text ++ 10 ∷ more)) (before_first_line b (lines_of (text ++ 10 ∷ more)))) other
        ∙ ap (before_first_line b) (goes text k.1)

-- a plain text is UTF-8
pub plain_utf8 : {most : ℕ} (text : List ℕ) → IsPlain most text → IsUtf8 text
plain_utf8 text h = IsUtf8-from_ascii text (goes text h.plain)
  where
    goes : (text : List ℕ) → list_all is_plain text ≡ true → IsAscii text
    goes [] h i = omega arith
    goes (b ∷ text) h zero = let k = and_parts (is_plain b) (list_all is_plain text) h in grind (arith, nat_tests, k.0)
    goes (b ∷ text) h (suc i) = goes text (and_parts (is_plain b) (list_all is_plain text) h).1 i

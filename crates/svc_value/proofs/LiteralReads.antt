-- What the readers of literals and of printed texts answer.
use Rattle.std.proofs.Common.{◌≡◌, ◌≢◌, refl, sym, ap, subst, ◌∙◌, ℕ, ◌<◌, ◌≤◌, ◌⊎◌, inl, inr, Bool, true, false, List, [], ◌∷◌, ◌++◌, length, take, drop, get_or, Some, None, Result, Ok, Err, IfOk, IfErr, cond, arith, IsUtf8, chars, pos, negsuc, take-append-drop, length-append, length-take}
use Rattle.std.proofs.lemmas.Bool.{cases_lt, eqb-true, both_ways}
use Rattle.std.proofs.lemmas.Bool.Decides.{nat_tests}
use Rattle.std.proofs.lemmas.Int.{ints}
use Rattle.std.proofs.lemmas.List.{nil_from_length, length-drop}
use Rattle.std.proofs.lemmas.Grind.{common_steps}
use Rattle.std.specs.Prelude.{◌==◌}
use Rattle.svc_value.specs.declared.inside.Form.{Form}
use Rattle.svc_value.specs.declared.inside.Form.TheVariants.{Any, Printed}
use Rattle.svc_value.specs.declared.inside.Inside.TheVariants.{Open}
use Rattle.svc_value.specs.declared.literal.LiteralError.{LiteralError}
use Rattle.svc_value.specs.declared.literal.LiteralError.TheVariants as error
use Rattle.svc_value.specs.declared.value.Fault.{Fault}
use Rattle.svc_value.specs.declared.value.Fault.TheVariants.{Overflow, Zero, Long, Number, Empty}
use Rattle.svc_value.specs.declared.value.Value.{Value}
use Rattle.svc_value.specs.declared.value.Value.TheVariants.{Int, Words, Bad}
use Rattle.svc_value.specs.Layout.{IsWithin}
use Rattle.svc_value.specs.Literal.{IsLiteral, IsSomeLiteral, IsWholeQuoted, IsPrinted, IsSomePrinted, IsRefused}
use Rattle.svc_value.specs.Prefix.{IsRefusedAt}
use Rattle.svc_value.specs.Printed.{printed_value, fault_text}
use Rattle.svc_value.specs.Quoted.{IsQuoted}
use Rattle.svc_value.specs.Reading.{Gives, GivesNumber, inside_at, signed_at, IsQuotedValue, BeginsWith, fault_of_letter, fault_by}
use Rattle.svc_value.proofs.Places.{refused_end, refused_here, refused_next, refused_agree}
use Rattle.svc_value.proofs.QuotedPlaces.{quoted_read, quoted_refused, quoted_over}
use Rattle.svc_value.proofs.LiteralPlaces.{literal_number_refused, literal_number_read, literal_quoted_refused, printed_number_refused, printed_number_read, printed_quoted_refused, printed_words, first_of_decimal}

-- ---- quoted texts

pub quoted_ok : (form : Form) (text words : List ℕ) (len : ℕ) → IsUtf8 text → inside_at form (chars text) Open 256 ≡ Ok (words, len) → len ≡ length text → IsQuoted form text words []
quoted_ok form text words len u e all =
    let q = quoted_read form text (words, len) u e in
    subst (IsQuoted form text words) (nil_from_length (drop len text) (omega (arith, length-drop len text))) q.0

pub quoted_long : (form : Form) (text words : List ℕ) (len : ℕ) → IsUtf8 text → inside_at form (chars text) Open 256 ≡ Ok (words, len) → len ≢ length text → IsRefusedAt (IsWholeQuoted form) text len
quoted_long form text words len u e other =
    let q = quoted_read form text (words, len) u e in
    quoted_over form text words len q.0 (elim (cases_lt len (length text)) [ inl h ↦ h | inr h ↦ absurd (other (omega (arith, q.1))) ])

pub quoted_err : (form : Form) (text : List ℕ) (why : LiteralError) → IsUtf8 text → Gives {X = List ℕ × ℕ} {Y = List ℕ × ℕ} (λ x. x) (Err why) (inside_at form (chars text) Open 256) → IsRefused (IsWholeQuoted form) text why
quoted_err form text (error.Bad place) u e = quoted_refused form text place u e
quoted_err form text error.OutOfMemory u e = tt

-- ---- literals

pub literal_text : (text : List ℕ) (v : Value) → IsQuotedValue Any text v → IsLiteral text v
literal_text text (Int z) h = absurd h
literal_text text (Words t) h = h
literal_text text (Bad f) h = h

pub literal_text_err : (text : List ℕ) (why : LiteralError) → BeginsWith text 34 → IsRefused (IsWholeQuoted Any) text why → IsRefused IsSomeLiteral text why
literal_text_err text (error.Bad place) b h = literal_quoted_refused text place b.0 b.1 h
literal_text_err text error.OutOfMemory b h = tt

pub literal_number : (text : List ℕ) (r : Result Value LiteralError) → GivesNumber r (signed_at Any text) → IfOk r (IsLiteral text)
literal_number text (Ok (Int z)) h = literal_number_read text z h
literal_number text (Ok (Words t)) h = absurd h
literal_number text (Ok (Bad f)) h = absurd h
literal_number text (Err why) h = tt

pub literal_number_err : (text : List ℕ) (r : Result Value LiteralError) → get_or text 0 0 ≢ 34 → GivesNumber r (signed_at Any text) → IfErr r (IsRefused IsSomeLiteral text)
literal_number_err text (Ok v) n h = tt
literal_number_err text (Err (error.Bad place)) n h = literal_number_refused text place n h
literal_number_err text (Err error.OutOfMemory) n h = tt

-- ---- texts of values

pub printed_text : (text : List ℕ) (v : Value) → IsQuotedValue Printed text v → IsPrinted text v
printed_text text (Int z) h = absurd h
printed_text text (Words t) h = printed_words text t h
printed_text text (Bad f) h = absurd h

pub printed_text_err : (text : List ℕ) (why : LiteralError) → BeginsWith text 34 → IsRefused (IsWholeQuoted Printed) text why → IsRefused IsSomePrinted text why
printed_text_err text (error.Bad place) b h = printed_quoted_refused text place b.0 b.1 h
printed_text_err text error.OutOfMemory b h = tt

pub printed_number : (text : List ℕ) (r : Result Value LiteralError) → GivesNumber r (signed_at Printed text) → IfOk r (IsPrinted text)
printed_number text (Ok (Int z)) h = printed_number_read text z h
printed_number text (Ok (Words t)) h = absurd h
printed_number text (Ok (Bad f)) h = absurd h
printed_number text (Err why) h = tt

pub printed_number_err : (text : List ℕ) (r : Result Value LiteralError) → get_or text 0 0 ≢ 34 → get_or text 0 0 ≢ 33 → GivesNumber r (signed_at Printed text) → IfErr r (IsRefused IsSomePrinted text)
printed_number_err text (Ok v) n m h = tt
printed_number_err text (Err (error.Bad place)) n m h = printed_number_refused text place n m h
printed_number_err text (Err error.OutOfMemory) n m h = tt

-- ---- faults

-- one list alone
pub one_name : (bytes name : List ℕ) (k : ℕ) → k ≤ length bytes → k ≤ length name → take k bytes ≡ take k name → (k < length bytes → k < length name → get_or bytes k 0 ≢ get_or name k 0)
    → (k < length bytes) ⊎ (k < length name) → IsRefusedAt (λ xs. xs ≡ name) bytes k
one_name bytes name k within short same differ more = record {
  none = λ e. elim more [
    | inl l ↦ differ l (omega (arith, ap length e)) (ap (λ xs. get_or xs k 0) e)
    | inr l ↦ differ (omega (arith, ap length e)) l (ap (λ xs. get_or xs k 0) e)
  ];
  at = record {
    within = within;
    begins = record { rest = drop k name; member = ap (λ xs. xs ++ drop k name) same ∙ take-append-drop k name };
    longest = λ n lt le b.
        let long : length (take n bytes) ≡ n = omega (arith, length-take n bytes) in
        let there : get_or (take n bytes ++ b.rest) k 0 ≡ get_or bytes k 0 = grind (arith, common_steps) in
        differ (omega arith) (omega (arith, ap length b.member, length-append (take n bytes) b.rest)) (sym there ∙ ap (λ xs. get_or xs k 0) b.member);
  };
}

-- what begins with `!` is the text of a fault
mark_fault : (xs : List ℕ) → IsSomePrinted (33 ∷ xs) → (f : Fault) × (33 ∷ xs ≡ fault_text f)
mark_fault xs k = by k.0 k.1.within k.1.text
  where
    by : (v : Value) → IsWithin v → 33 ∷ xs ≡ printed_value v → (f : Fault) × (33 ∷ xs ≡ fault_text f)
    by (Int (pos n)) w e = let small : n < 18446744073709551616 = omega (arith, ints, w) in absurd (both_ways false refl (first_of_decimal n 33 xs small e))
    by (Int (negsuc n)) w e = absurd (omega (arith, ap (λ (l : List ℕ). get_or l 0 0) e))
    by (Words t) w e = absurd (omega (arith, ap (λ (l : List ℕ). get_or l 0 0) e))
    by (Bad f) w e = (f, e)

-- the letter behind the mark
letter : Fault → ℕ
letter f = get_or (fault_text f) 1 0

pub of_letter : (f : Fault) → fault_of_letter (get_or (fault_text f) 1 0) ≡ Some f
of_letter Overflow = refl
of_letter Zero = refl
of_letter Long = refl
of_letter Number = refl
of_letter Empty = refl

-- the text of a fault, behind its first two bytes
behind : (f : Fault) → (w : List ℕ) × (33 ∷ get_or (fault_text f) 1 0 ∷ w ≡ fault_text f)
behind f = (drop 2 (fault_text f), by f)
  where
    by : (g : Fault) → 33 ∷ get_or (fault_text g) 1 0 ∷ drop 2 (fault_text g) ≡ fault_text g
    by Overflow = refl
    by Zero = refl
    by Long = refl
    by Number = refl
    by Empty = refl

letter_is : (c : ℕ) (f : Fault) → fault_of_letter c ≡ Some f → c ≡ get_or (fault_text f) 1 0
letter_is c f e = by (c == 111) (c == 122) (c == 108) (c == 110) (c == 101) (eqb-true c 111) (eqb-true c 122) (eqb-true c 108) (eqb-true c 110) (eqb-true c 101) e
  where
    by : (p q r s t : Bool) → (p ≡ true → c ≡ 111) → (q ≡ true → c ≡ 122) → (r ≡ true → c ≡ 108) → (s ≡ true → c ≡ 110) → (t ≡ true → c ≡ 101)
        → cond p (Some Overflow) (cond q (Some Zero) (cond r (Some Long) (cond s (Some Number) (cond t (Some Empty) None)))) ≡ Some f → c ≡ get_or (fault_text f) 1 0
    by true q r s t a b d g h e = let is : Overflow ≡ f = cc in a refl ∙ ap (λ x. get_or (fault_text x) 1 0) is
    by false true r s t a b d g h e = let is : Zero ≡ f = cc in b refl ∙ ap (λ x. get_or (fault_text x) 1 0) is
    by false false true s t a b d g h e = let is : Long ≡ f = cc in d refl ∙ ap (λ x. get_or (fault_text x) 1 0) is
    by false false false true t a b d g h e = let is : Number ≡ f = cc in g refl ∙ ap (λ x. get_or (fault_text x) 1 0) is
    by false false false false true a b d g h e = let is : Empty ≡ f = cc in h refl ∙ ap (λ x. get_or (fault_text x) 1 0) is
    by false false false false false a b d g h e = absurd (cc)

-- how the fault is told
told : (b c : ℕ) (xs : List ℕ) → fault_by (b ∷ c ∷ xs) ≡ fault_of_letter c
told b c xs = grind (arith, nat_tests)

told_none : (b : ℕ) → fault_by (b ∷ []) ≡ None
told_none b = refl

-- whatever refuses one fault's text refuses the texts of values
pub name_refused : (bytes : List ℕ) (f : Fault) (why : LiteralError) → BeginsWith bytes 33 → fault_by bytes ≡ Some f → IsRefused (λ text. text ≡ fault_text f) bytes why → IsRefused IsSomePrinted bytes why
name_refused bytes f error.OutOfMemory m e h = tt
name_refused [] f (error.Bad place) m e h = absurd (omega (arith, m.0))
name_refused (b ∷ []) f (error.Bad place) m e h = let no : None ≡ Some f = sym (told_none b) ∙ e in absurd (cc)
name_refused (b ∷ c ∷ xs) f (error.Bad place) m e h =
    let is : c ≡ get_or (fault_text f) 1 0 = letter_is c f (sym (told b c xs) ∙ e) in
    let w = behind f in
    let mark : b ≡ 33 = m.1 in
    let front : b ∷ c ∷ [] ≡ 33 ∷ get_or (fault_text f) 1 0 ∷ [] = ap (λ z. z ∷ c ∷ []) mark ∙ ap (λ z. 33 ∷ z ∷ []) is in
    refused_agree (λ text. text ≡ fault_text f) IsSomePrinted (b ∷ c ∷ []) xs w.0 place
    (ap (λ z. z ++ w.0) front ∙ w.1)
    (λ ys k. (Bad f, record { within = tt; text = k }))
    (λ ys k. let g = mark_fault (c ∷ ys) (subst (λ z. IsSomePrinted (z ∷ c ∷ ys)) mark k) in
    let same : Some g.0 ≡ Some f = sym (of_letter g.0) ∙ ap (λ (l : List ℕ). fault_of_letter (get_or l 1 0)) (sym g.1) ∙ sym (told b c xs) ∙ e in
    let one : g.0 ≡ f = cc in
    ap (λ z. z ∷ c ∷ ys) mark ∙ g.1 ∙ ap fault_text one) h

-- no fault's text begins so
pub mark_refused : (bytes : List ℕ) → BeginsWith bytes 33 → fault_by bytes ≡ None → IsRefusedAt IsSomePrinted bytes 1
mark_refused [] m e = absurd (omega (arith, m.0))
mark_refused (b ∷ bs) m e = refused_next IsSomePrinted b bs 0 (by bs e)
  where
    mark : b ≡ 33
    mark = m.1

    zero_text : IsSomePrinted (b ∷ 122 ∷ 101 ∷ 114 ∷ 111 ∷ [])
    zero_text = (Bad Zero, record { within = tt; text = ap (λ z. z ∷ 122 ∷ 101 ∷ 114 ∷ 111 ∷ []) mark })

    fault_here : (ys : List ℕ) → IsSomePrinted (b ∷ ys) → (f : Fault) × (33 ∷ ys ≡ fault_text f)
    fault_here ys k = mark_fault ys (subst (λ z. IsSomePrinted (z ∷ ys)) mark k)

    long : (f : Fault) → 1 < length (fault_text f)
    long f = let w = behind f in omega (arith, ap length w.1)

    by : (cs : List ℕ) → fault_by (b ∷ cs) ≡ None → IsRefusedAt (λ ys. IsSomePrinted (b ∷ ys)) cs 0
    by [] e = refused_end (λ ys. IsSomePrinted (b ∷ ys)) (122 ∷ 101 ∷ 114 ∷ 111 ∷ []) zero_text (λ k. let f = fault_here [] k in absurd (omega (arith, long f.0, ap length f.1)))
    by (c ∷ cs) e = refused_here (λ ys. IsSomePrinted (b ∷ ys)) c cs (122 ∷ 101 ∷ 114 ∷ 111 ∷ []) zero_text
        (λ ys k. let f = fault_here (c ∷ ys) k in
        let no : None ≡ Some f.0 = sym e ∙ told b c cs ∙ ap (λ (l : List ℕ). fault_of_letter (get_or l 1 0)) f.1 ∙ of_letter f.0 in cc)

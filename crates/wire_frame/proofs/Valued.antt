-- Values as parts of a frame.
use Rattle.std.proofs.Common.{◌≡◌, ◌∙◌, sym, ap, refl, subst, ℕ, zero, suc, ◌+◌, ◌<◌, inl, inr, Bool, true, false, cond, List, [], ◌∷◌, ◌++◌, length, get_or, take, drop, arith, append-nil, eq-eqb}
use Rattle.std.specs.Prelude.{◌==◌, nat_lt}
use Rattle.std.specs.List.{enumerate_from}
use Rattle.std.proofs.lemmas.List.{length-map, length-append, length-take-le, take-append-drop, take_at, get_or-map, nil_from_length}
use Rattle.std.proofs.lemmas.List.FromFn.{length-enumerate_from, get_or-enumerate_from}
use Rattle.std.proofs.lemmas.Bool.{cases_lt}
use Rattle.std.proofs.lemmas.Bool.Decides.{nat_tests}
use Rattle.svc_value.specs.declared.value.Value.{Value}
use Rattle.svc_value.specs.declared.taken.ValueReason.{ValueReason}
use Rattle.svc_value.specs.declared.taken.ValueReason.TheVariants as value
use Rattle.svc_value.specs.Layout.{layout}
use Rattle.svc_value.specs.Taken.{IsValue, IsBadValue, reason_at}
use Rattle.svc_value.proofs.ValuePlaces.{one_value}
use Rattle.wire_frame.specs.declared.reason.FrameReason.TheVariants as field
use Rattle.wire_frame.specs.Fields.{value_fields, frame_reason}
use Rattle.wire_frame.specs.Parts.{IsWrong, value_part}
use Rattle.wire_frame.proofs.Parts.{OneWay, EachHasField}

pub value-one_way : OneWay value_part
value-one_way x y s t good_x good_y e = (one_value x y s t good_x good_y e).0

pub value-fields : EachHasField value_part
value-fields x = length-map (enumerate_from 0 (layout x)) (λ n. field.Value (reason_at (layout x) n.0)) ∙ length-enumerate_from 0 (layout x)

-- the field of a byte of a value
pub value_field : (v : Value) (place : ℕ) → place < length (layout v) → get_or (value_fields v) place field.Short ≡ field.Value (reason_at (layout v) place)
value_field v place l =
    get_or-map (λ (n : ℕ × ℕ). field.Value (reason_at (layout v) n.0)) (enumerate_from 0 (layout v)) place (0, 0) field.Short (omega (arith, l, length-enumerate_from 0 (layout v)))
    ∙ ap (λ (n : ℕ × ℕ). field.Value (reason_at (layout v) n.0)) (get_or-enumerate_from 0 (layout v) place (0, 0) l)
    ∙ (let e : 0 + place ≡ place = omega arith in ap (λ n. field.Value (reason_at (layout v) n)) e)

-- two lists that agree up to the place have one reason there
not_end : (bytes : List ℕ) (place : ℕ) → place < length bytes → (place == length bytes) ≡ false
not_end bytes place l = grind (arith, nat_tests)

pub same_reason : (xs ys : List ℕ) (place : ℕ) → place < length xs → place < length ys → take place xs ≡ take place ys → reason_at xs place ≡ reason_at ys place
same_reason [] ys place l m e = absurd (omega arith)
same_reason (x ∷ xs) [] place l m e = absurd (omega arith)
same_reason (x ∷ xs) (y ∷ ys) zero l m e =
    let both = not_end (x ∷ xs) zero l ∙ sym (not_end (y ∷ ys) zero m) in
    λ i. cond (both i) value.Short value.Tag
same_reason (x ∷ xs) (y ∷ ys) (suc place) l m e =
    let first : x ≡ y = cc in
    let both = not_end (x ∷ xs) (suc place) l ∙ sym (not_end (y ∷ ys) (suc place) m) in
    λ i. cond (both i) value.Short (cond (suc place == 0) value.Tag (cond (first i == 3) value.FaultCode (cond (nat_lt (suc place) 3) value.Length value.Utf8)))

-- a reason behind which there is a byte
named : (bytes : List ℕ) (place : ℕ) → place < length bytes → field.Value (reason_at bytes place) ≡ frame_reason (reason_at bytes place)
named bytes place l =
    let rest = cond (place == 0) value.Tag (cond (get_or bytes 0 0 == 3) value.FaultCode (cond (nat_lt place 3) value.Length value.Utf8)) in
    ap (λ (b : Bool). field.Value (cond b value.Short rest)) (not_end bytes place l)
    ∙ by (place == 0) (get_or bytes 0 0 == 3) (nat_lt place 3)
    ∙ ap (λ (b : Bool). frame_reason (cond b value.Short rest)) (sym (not_end bytes place l))
  where
    by : (b c d : Bool) → field.Value (cond b value.Tag (cond c value.FaultCode (cond d value.Length value.Utf8))) ≡ frame_reason (cond b value.Tag (cond c value.FaultCode (cond d value.Length value.Utf8)))
    by true c d = refl
    by false true d = refl
    by false false true = refl
    by false false false = refl

pub value_wrong : (bytes : List ℕ) (place : ℕ) (why : ValueReason) → IsBadValue bytes place why → IsWrong value_part bytes place (frame_reason why)
value_wrong bytes place why bad =
    let begun = bad.at.begins.member in
    let v = begun.0 in
    let front : length (take place bytes) ≡ place = length-take-le place bytes bad.at.within in
    let whole : take place bytes ++ bad.at.begins.rest ≡ layout v = begun.1.bytes_are in
    let alike : take place (layout v) ≡ take place bytes = ap (take place) (sym whole) ∙ take_at (take place bytes) bad.at.begins.rest place front in
    let long : length (layout v) ≡ place + length bad.at.begins.rest = ap length (sym whole) ∙ length-append (take place bytes) bad.at.begins.rest ∙ ap (λ n. n + length bad.at.begins.rest) front in
    let some : 0 < length bad.at.begins.rest = elim (cases_lt 0 (length bad.at.begins.rest)) [
      | inl l ↦ l
      | inr none ↦
          let nil : bad.at.begins.rest ≡ [] = nil_from_length bad.at.begins.rest (omega (arith, none)) in
          absurd (bad.none place (subst IsValue (ap (λ r. take place bytes ++ r) nil ∙ append-nil (take place bytes)) begun))
    ] in
    record {
      like = v;
      good = begun.1.within;
      within = bad.at.within;
      begun = alike;
      more = omega (arith, long, some);
      short = λ e. ap frame_reason bad.why
          ∙ ap (λ (b : Bool). frame_reason (cond b value.Short (cond (place == 0) value.Tag (cond (get_or bytes 0 0 == 3) value.FaultCode (cond (nat_lt place 3) value.Length value.Utf8))))) (eq-eqb place (length bytes) e);
      field = λ l.
          value_field v place (omega (arith, long, some))
          ∙ ap field.Value (same_reason (layout v) bytes place (omega (arith, long, some)) l alike) ∙ named bytes place l ∙ ap frame_reason (sym bad.why);
      end = λ l x good e. bad.at.longest (suc place) (omega arith) (omega (arith, l)) record {
        rest = drop (suc place) (layout x);
        member = (x, record { within = good; bytes_are = ap (λ bs. bs ++ drop (suc place) (layout x)) (sym e) ∙ take-append-drop (suc place) (layout x) });
      };
    }

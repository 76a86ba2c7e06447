-- Where two things are spelled alike up to a byte, that byte is in the same field of both.
use Rattle.std.proofs.Common.{◌≡◌, ◌∙◌, sym, ap, refl, subst, ℕ, zero, suc, ◌+◌, ◌-◌, ◌<◌, ◌≤◌, inl, inr, List, [], ◌∷◌, ◌++◌, length, get_or, take, drop, arith, append-nil}
use Rattle.std.proofs.lemmas.Bool.{cases_lt}
use Rattle.std.proofs.lemmas.List.{length-append, take-append-drop, take-append-le, take_at, take-take, get_or_append_left, get_or-append_right, get_or_default, append_cancel_left}
use Rattle.svc_value.proofs.Places.{place_one}
use Rattle.wire_frame.specs.declared.frame.Frame.{Frame}
use Rattle.wire_frame.specs.declared.frame.Frame.TheVariants.{Subscribe, Unsubscribe, Sources, Carried, Changed}
use Rattle.wire_frame.specs.declared.reason.FrameReason.{FrameReason}
use Rattle.wire_frame.specs.declared.reason.FrameReason.TheVariants.{Short, Kind, Epoch, Count}
use Rattle.wire_frame.specs.declared.reason.FrameReason.TheVariants as field
use Rattle.wire_frame.specs.Bodies.{counted_items, under, valued, announced_body, cargo_body, delta_body, of_announced, of_cargo, of_delta, frame_part}
use Rattle.wire_frame.specs.Fields.{frame_fields}
use Rattle.wire_frame.specs.Frames.{frame_bytes}
use Rattle.wire_frame.specs.Parts.{Part, chain, clock_part, byte_part, value_part}
use Rattle.wire_frame.specs.Runs.{Items, item_part, run_part, key_items, clock_items, place_items}
use Rattle.wire_frame.specs.Taking.{IsFrame, IsBehind, IsBadFrame}
use Rattle.wire_frame.proofs.Counting.{HaveRoom, keys_have, clocks_have, places_have}
use Rattle.wire_frame.proofs.Digits.{byte-one_way, byte-fields, clock-one_way, clock-fields}
use Rattle.wire_frame.proofs.Parts.{OneWay, EachHasField, taken_past}
use Rattle.wire_frame.proofs.Reading.{AreReadable}
use Rattle.wire_frame.proofs.Told.{frame-fields}
use Rattle.wire_frame.proofs.Valued.{value-one_way, value-fields, value_field, same_reason}
use Rattle.wire_frame.proofs.Whole.{announced_good, cargo_good, delta_good}

abbrev pub Agree : {X : Type 0} → Part X → Type 0
Agree {X} part = (x y : X) (place : ℕ) → part.Good x → part.Good y → take place (part.bytes x) ≡ take place (part.bytes y) →
    place < length (part.bytes x) → place < length (part.bytes y) → get_or (part.fields x) place Short ≡ get_or (part.fields y) place Short

-- the first part of one can't end within the first part of the other
not_within : {X : Type 0} (A : Part X) (x y : X) (s t : List ℕ) (place : ℕ) → OneWay A → A.Good x → A.Good y → take place (A.bytes x ++ s) ≡ take place (A.bytes y ++ t) →
    place < length (A.bytes x) → length (A.bytes y) ≤ place → ⊥
not_within {X} A x y s t place one good_x good_y e l m =
    let n = length (A.bytes y) in
    let whole : take n (A.bytes x) ≡ A.bytes y =
    sym (take-append-le n (A.bytes x) s (omega arith)) ∙ sym (take-take n place (A.bytes x ++ s) m) ∙ ap (take n) e ∙ take-take n place (A.bytes y ++ t) m ∙ take_at (A.bytes y) t n refl in
    let same : x ≡ y = one x y [] (drop n (A.bytes x)) good_x good_y
    (append-nil (A.bytes x) ∙ sym (take-append-drop n (A.bytes x)) ∙ ap (λ bs. bs ++ drop n (A.bytes x)) whole) in
    omega (arith, l, m, ap (λ (z : X). length (A.bytes z)) same)

-- past the first parts, which are then one
past_both : {X Y : Type 0} (A : Part X) (B : X → Part Y) (p q : X × Y) (place : ℕ) → OneWay A → EachHasField A → ((x : X) → Agree (B x)) → (chain A B).Good p → (chain A B).Good q →
    take place ((chain A B).bytes p) ≡ take place ((chain A B).bytes q) → place < length ((chain A B).bytes p) → place < length ((chain A B).bytes q) →
    length (A.bytes p.0) ≤ place → length (A.bytes q.0) ≤ place → get_or ((chain A B).fields p) place Short ≡ get_or ((chain A B).fields q) place Short
past_both {X} {Y} A B p q place one each agree good_p good_q e l m over under =
    let n = length (A.bytes p.0) in
    let k = place - n in
    let at_p : take place (A.bytes p.0 ++ (B p.0).bytes p.1) ≡ A.bytes p.0 ++ take k ((B p.0).bytes p.1) =
    ap (λ j. take j (A.bytes p.0 ++ (B p.0).bytes p.1)) (let sum : place ≡ n + k = omega arith in sum) ∙ taken_past (A.bytes p.0) ((B p.0).bytes p.1) k in
    let i = place - length (A.bytes q.0) in
    let at_q : take place (A.bytes q.0 ++ (B q.0).bytes q.1) ≡ A.bytes q.0 ++ take i ((B q.0).bytes q.1) =
    ap (λ j. take j (A.bytes q.0 ++ (B q.0).bytes q.1)) (let sum : place ≡ length (A.bytes q.0) + i = omega arith in sum) ∙ taken_past (A.bytes q.0) ((B q.0).bytes q.1) i in
    let both : A.bytes p.0 ++ take k ((B p.0).bytes p.1) ≡ A.bytes q.0 ++ take i ((B q.0).bytes q.1) = sym at_p ∙ e ∙ at_q in
    let same : p.0 ≡ q.0 = one p.0 q.0 (take k ((B p.0).bytes p.1)) (take i ((B q.0).bytes q.1)) good_p.0 good_q.0 both in
    let good : (B p.0).Good q.1 = subst (λ (x : X). (B x).Good q.1) (sym same) good_q.1 in
    let both_here : A.bytes p.0 ++ take k ((B p.0).bytes p.1) ≡ A.bytes p.0 ++ take (place - length (A.bytes p.0)) ((B p.0).bytes q.1) =
    subst (λ (x : X). A.bytes p.0 ++ take k ((B p.0).bytes p.1) ≡ A.bytes x ++ take (place - length (A.bytes x)) ((B x).bytes q.1)) (sym same) both in
    let begun : take k ((B p.0).bytes p.1) ≡ take k ((B p.0).bytes q.1) = append_cancel_left (A.bytes p.0) (take k ((B p.0).bytes p.1)) (take k ((B p.0).bytes q.1)) both_here in
    let there : place < length (A.bytes p.0 ++ (B p.0).bytes q.1) = subst (λ (x : X). place < length (A.bytes x ++ (B x).bytes q.1)) (sym same) m in
    let second : get_or ((B p.0).fields p.1) k Short ≡ get_or ((B p.0).fields q.1) k Short = agree p.0 p.1 q.1 k good_p.1 good begun
    (omega (arith, l, length-append (A.bytes p.0) ((B p.0).bytes p.1))) (omega (arith, there, length-append (A.bytes p.0) ((B p.0).bytes q.1))) in
    let other : get_or (A.fields p.0 ++ (B p.0).fields q.1) place Short ≡ get_or (A.fields q.0 ++ (B q.0).fields q.1) place Short =
    ap (λ (x : X). get_or (A.fields x ++ (B x).fields q.1) place Short) same in
    get_or-append_right (A.fields p.0) ((B p.0).fields p.1) n place Short (each p.0) over ∙ second
    ∙ sym (get_or-append_right (A.fields p.0) ((B p.0).fields q.1) n place Short (each p.0) over) ∙ other

pub chain-agree : {X Y : Type 0} (A : Part X) (B : X → Part Y) → OneWay A → EachHasField A → Agree A → ((x : X) → Agree (B x)) → Agree (chain A B)
chain-agree {X} {Y} A B one each first second p q place good_p good_q e l m =
    elim (cases_lt place (length (A.bytes p.0))) [
      | inl in_p ↦ elim (cases_lt place (length (A.bytes q.0))) [
        | inl in_q ↦
            get_or_append_left (A.fields p.0) ((B p.0).fields p.1) Short place (omega (arith, in_p, each p.0))
            ∙ first p.0 q.0 place good_p.0 good_q.0
            (sym (take-append-le place (A.bytes p.0) ((B p.0).bytes p.1) (omega arith)) ∙ e ∙ take-append-le place (A.bytes q.0) ((B q.0).bytes q.1) (omega arith)) in_p in_q
            ∙ sym (get_or_append_left (A.fields q.0) ((B q.0).fields q.1) Short place (omega (arith, in_q, each q.0)))
        | inr past_q ↦ absurd (not_within A p.0 q.0 ((B p.0).bytes p.1) ((B q.0).bytes q.1) place one good_p.0 good_q.0 e in_p past_q)
      ]
      | inr past_p ↦ elim (cases_lt place (length (A.bytes q.0))) [
        | inl in_q ↦ absurd (not_within A q.0 p.0 ((B q.0).bytes q.1) ((B p.0).bytes p.1) place one good_q.0 good_p.0 (sym e) in_q past_p)
        | inr past_q ↦ past_both A B p q place one each second good_p good_q e l m past_p past_q
      ]
    ]

-- ---- the parts of a frame

value-agree : Agree value_part
value-agree x y place good_x good_y e l m = value_field x place l ∙ ap field.Value (same_reason _ _ place l m e) ∙ sym (value_field y place m)

clock-agree : (f : FrameReason) → Agree (clock_part f)
clock-agree f x y place good_x good_y e l m = refl

byte-agree : (f : FrameReason) (least most : ℕ) → Agree (byte_part f least most)
byte-agree f least most x y place good_x good_y e l m = refl

run-agree : {X : Type 0} (items : Items X) → AreReadable items → ((x y : X) → items.fields x ≡ items.fields y) → (least n : ℕ) → Agree (run_part items least n)
run-agree items r alike least zero [] [] place good_x good_y e l m = refl
run-agree items r alike least zero [] (y ∷ ys) place good_x good_y e l m = absurd good_y
run-agree items r alike least zero (x ∷ xs) ys place good_x good_y e l m = absurd good_x
run-agree items r alike least (suc n) [] ys place good_x good_y e l m = absurd good_x
run-agree items r alike least (suc n) (x ∷ xs) [] place good_x good_y e l m = absurd good_y
run-agree {X} items r alike least (suc n) (x ∷ xs) (y ∷ ys) place good_x good_y e l m =
    chain-agree (item_part items least n) (λ z. run_part items (items.least_after z) n) (r.one_way least n) r.each
    (λ a b place _ _ _ _ _. ap (λ fs. get_or fs place Short) (alike a b))
    (λ z. run-agree items r alike (items.least_after z) n) (x, xs) (y, ys) place good_x good_y e l m

counted-agree : {X : Type 0} (items : Items X) (least : ℕ) → HaveRoom items → ((x y : X) → items.fields x ≡ items.fields y) → Agree (counted_items items least)
counted-agree items least h alike = chain-agree (byte_part Count least 64) (λ n. run_part items 0 n) (byte-one_way Count least 64) (byte-fields Count least 64) (byte-agree Count least 64)
    (λ n. run-agree items h.readable alike 0 n)

under-agree : {X : Type 0} (body : Part X) → Agree body → Agree (under body)
under-agree body agree = chain-agree (clock_part Epoch) (λ _. body) (clock-one_way Epoch) (clock-fields Epoch) (clock-agree Epoch) (λ _. agree)

valued-agree : {X : Type 0} (body : Part X) → Agree body → Agree (valued body)
valued-agree body agree = chain-agree value_part (λ _. body) value-one_way value-fields value-agree (λ _. agree)

announced-agree : Agree announced_body
announced-agree = under-agree (counted_items key_items 1) (counted-agree key_items 1 keys_have (λ x y. refl))

cargo-agree : Agree cargo_body
cargo-agree = under-agree (valued (counted_items clock_items 1)) (valued-agree (counted_items clock_items 1) (counted-agree clock_items 1 clocks_have (λ x y. refl)))

delta-agree : Agree delta_body
delta-agree = under-agree (valued (counted_items place_items 0)) (valued-agree (counted_items place_items 0) (counted-agree place_items 0 places_have (λ x y. refl)))

first_field : (frame : Frame) → get_or (frame_fields frame) 0 Short ≡ Kind
first_field (Subscribe x) = refl
first_field (Unsubscribe x) = refl
first_field (Sources a) = refl
first_field (Carried a) = refl
first_field (Changed a) = refl

behind_first : (f g : Frame) (place : ℕ) → frame_part.Good f → frame_part.Good g → take (suc place) (frame_bytes f) ≡ take (suc place) (frame_bytes g) →
    suc place < length (frame_bytes f) → suc place < length (frame_bytes g) → get_or (frame_fields f) (suc place) Short ≡ get_or (frame_fields g) (suc place) Short
behind_first (Subscribe x) (Subscribe y) place good_f good_g e l m = refl
behind_first (Unsubscribe x) (Unsubscribe y) place good_f good_g e l m = refl
behind_first (Sources a) (Sources b) place good_f good_g e l m =
    announced-agree (of_announced a) (of_announced b) place (announced_good a good_f) (announced_good b good_g) (ap (drop 1) e) (omega (arith, l)) (omega (arith, m))
behind_first (Carried a) (Carried b) place good_f good_g e l m =
    cargo-agree (of_cargo a) (of_cargo b) place (cargo_good a good_f) (cargo_good b good_g) (ap (drop 1) e) (omega (arith, l)) (omega (arith, m))
behind_first (Changed a) (Changed b) place good_f good_g e l m =
    delta-agree (of_delta a) (of_delta b) place (delta_good a good_f) (delta_good b good_g) (ap (drop 1) e) (omega (arith, l)) (omega (arith, m))
behind_first f g place good_f good_g e l m = absurd (omega (arith, ap (λ bs. get_or bs 0 0) e))

pub frame-agree : Agree frame_part
frame-agree f g zero good_f good_g e l m = first_field f ∙ sym (first_field g)
frame-agree f g (suc place) good_f good_g e l m = behind_first f g place good_f good_g e l m

-- ---- one place, and one reason

field_once : (bytes : List ℕ) (why other : FrameReason) → IsBehind bytes why → IsBehind bytes other → why ≡ other
field_once bytes why other p q =
    let n = length bytes in
    let begun : (r : FrameReason) (b : IsBehind bytes r) → take n (frame_bytes b.frame) ≡ bytes = λ r b. ap (take n) (sym b.frame_of.is) ∙ take_at bytes b.rest n refl in
    sym p.field_is ∙ get_or_default (frame_fields p.frame) n why Short p.there
    ∙ frame-agree p.frame q.frame n (p.frame_of.within, p.frame_of.fits) (q.frame_of.within, q.frame_of.fits) (begun why p ∙ sym (begun other q))
    (omega (arith, p.there, frame-fields p.frame)) (omega (arith, q.there, frame-fields q.frame))
    ∙ get_or_default (frame_fields q.frame) n Short other q.there ∙ q.field_is

pub bad_once : (bytes : List ℕ) (m n : ℕ) (why other : FrameReason) → IsBadFrame bytes m why → IsBadFrame bytes n other → (m ≡ n) × (why ≡ other)
bad_once bytes m n why other p q =
    let same : m ≡ n = place_one IsFrame bytes m n p.at q.at in (
      same,
      elim (cases_lt m (length bytes)) [
        | inl l ↦ field_once (take m bytes) why other (p.field l) (subst (λ k. IsBehind (take k bytes) other) (sym same) (q.field (omega (arith, l, same))))
        | inr l ↦ p.short (omega (arith, l, p.at.within)) ∙ sym (q.short (omega (arith, l, p.at.within, same)))
      ],
    )

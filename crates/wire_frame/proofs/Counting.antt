-- Items behind their number.
use Rattle.std.proofs.Common.{◌≡◌, sym, ap, refl, subst, ℕ, zero, suc, ◌≤◌, List, [], ◌∷◌, length, flat_map, arith}
use Rattle.std.proofs.lemmas.List.{length-append}
use Rattle.svc_value.specs.declared.value.Fault.TheVariants.{Overflow}
use Rattle.svc_value.specs.declared.value.Value.{Value}
use Rattle.svc_value.specs.declared.value.Value.TheVariants.{Bad}
use Rattle.wire_frame.specs.declared.errors.FrameError.{FrameError}
use Rattle.wire_frame.specs.declared.reason.FrameReason.TheVariants.{Count, Epoch}
use Rattle.wire_frame.specs.Bodies.{counted_items, under, valued}
use Rattle.wire_frame.specs.Parts.{Part, Stands, Fails, byte_part, clock_part, value_part}
use Rattle.wire_frame.specs.Runs.{Items, IsRun, run_part, key_items, clock_items, place_items}
use Rattle.wire_frame.proofs.Digits.{byte-one_way, byte-fields, clock-one_way, clock-fields}
use Rattle.wire_frame.proofs.Parts.{OneWay, EachHasField, chain-one_way, chain-fields}
use Rattle.wire_frame.proofs.Readable.{keys_room, keys_readable, clocks_room, clocks_readable, places_room, places_readable}
use Rattle.wire_frame.proofs.Reading.{AreReadable, run-one_way}
use Rattle.wire_frame.proofs.Standing.{fails_first, fails_second, stands_both}
use Rattle.wire_frame.proofs.Valued.{value-one_way, value-fields}

-- up to 64 items can stand side by side
pub record HaveRoom {X : Type 0} (items : Items X) : Type 0 where
  pub readable : AreReadable items
  pub some : (n : ℕ) → n ≤ 64 → (xs : List X) × IsRun items 0 n xs

pub keys_have : HaveRoom key_items
keys_have = record { readable = keys_readable; some = λ n l. keys_room 0 n (omega arith) }

pub clocks_have : HaveRoom clock_items
clocks_have = record { readable = clocks_readable; some = λ n l. clocks_room 0 n }

pub places_have : HaveRoom place_items
places_have = record { readable = places_readable; some = λ n l. places_room 0 n (omega arith) }

pub run_length : {X : Type 0} (items : Items X) (least n : ℕ) (xs : List X) → IsRun items least n xs → length xs ≡ n
run_length items least zero [] run = refl
run_length items least zero (x ∷ xs) run = absurd run
run_length items least (suc n) [] run = absurd run
run_length items least (suc n) (x ∷ xs) run = ap suc (run_length items (items.least_after x) n xs run.1)

-- ---- the number, and the items

pub counted-one_way : {X : Type 0} (items : Items X) (least : ℕ) → HaveRoom items → OneWay (counted_items items least)
counted-one_way items least h = chain-one_way (byte_part Count least 64) (λ n. run_part items 0 n) (byte-one_way Count least 64) (λ n. run-one_way items h.readable 0 n)

pub counted_some : {X : Type 0} (items : Items X) (least : ℕ) → HaveRoom items → least ≤ 64 → (p : ℕ × List X) × (counted_items items least).Good p
counted_some items least h l = let xs = h.some least l in ((least, xs.0), ((omega arith, l), xs.1))

pub counted_fails_count : {X : Type 0} (items : Items X) (least : ℕ) (bytes : List ℕ) (at : ℕ) (e : FrameError) → HaveRoom items →
    Fails (byte_part Count least 64) bytes at e → Fails (counted_items items least) bytes at e
counted_fails_count items least bytes at e h w =
    fails_first (byte_part Count least 64) (λ n. run_part items 0 n) bytes at e (byte-one_way Count least 64) (byte-fields Count least 64) (λ n good. h.some n good.1) w

pub counted_fails_items : {X : Type 0} (items : Items X) (least n : ℕ) (bytes : List ℕ) (at to : ℕ) (e : FrameError) →
    Stands (byte_part Count least 64) n bytes at to → Fails (run_part items 0 n) bytes to e → Fails (counted_items items least) bytes at e
counted_fails_items items least n bytes at to e s w =
    fails_second (byte_part Count least 64) (λ n. run_part items 0 n) bytes at to n e (byte-one_way Count least 64) (byte-fields Count least 64) s w

pub counted_stands : {X : Type 0} (items : Items X) (least n : ℕ) (xs : List X) (bytes : List ℕ) (at middle to end : ℕ) →
    Stands (byte_part Count least 64) n bytes at middle → Stands (run_part items 0 n) xs bytes middle to → to ≡ end → Stands (counted_items items least) (length xs, xs) bytes at end
counted_stands {X} items least n xs bytes at middle to end s t e =
    let both = stands_both (byte_part Count least 64) (λ n. run_part items 0 n) bytes at middle to n xs s t in
    let named = subst (λ k. Stands (counted_items items least) (k, xs) bytes at to) (sym (run_length items 0 n xs t.good)) both in
    subst (λ k. Stands (counted_items items least) (length xs, xs) bytes at k) e named

-- ---- an epoch, and what stands under it

pub under_fails_epoch : {X : Type 0} (body : Part X) (bytes : List ℕ) (at : ℕ) (e : FrameError) → (x : X) × body.Good x → Fails (clock_part Epoch) bytes at e → Fails (under body) bytes at e
under_fails_epoch body bytes at e some w = fails_first (clock_part Epoch) (λ _. body) bytes at e (clock-one_way Epoch) (clock-fields Epoch) (λ n good. some) w

pub under_fails_body : {X : Type 0} (body : Part X) (bytes : List ℕ) (at to epoch : ℕ) (e : FrameError) → Stands (clock_part Epoch) epoch bytes at to → Fails body bytes to e → Fails (under body) bytes at e
under_fails_body body bytes at to epoch e s w = fails_second (clock_part Epoch) (λ _. body) bytes at to epoch e (clock-one_way Epoch) (clock-fields Epoch) s w

pub under_stands : {X : Type 0} (body : Part X) (bytes : List ℕ) (at middle to epoch : ℕ) (x : X) → Stands (clock_part Epoch) epoch bytes at middle → Stands body x bytes middle to →
    Stands (under body) (epoch, x) bytes at to
under_stands body bytes at middle to epoch x s t = stands_both (clock_part Epoch) (λ _. body) bytes at middle to epoch x s t

-- ---- a value, and what stands behind it

pub valued_fails_value : {X : Type 0} (body : Part X) (bytes : List ℕ) (at : ℕ) (e : FrameError) → (x : X) × body.Good x → Fails value_part bytes at e → Fails (valued body) bytes at e
valued_fails_value body bytes at e some w = fails_first value_part (λ _. body) bytes at e value-one_way value-fields (λ v good. some) w

pub valued_fails_body : {X : Type 0} (body : Part X) (bytes : List ℕ) (at to : ℕ) (v : Value) (e : FrameError) → Stands value_part v bytes at to → Fails body bytes to e → Fails (valued body) bytes at e
valued_fails_body body bytes at to v e s w = fails_second value_part (λ _. body) bytes at to v e value-one_way value-fields s w

pub valued_some : {X : Type 0} (body : Part X) → (x : X) × body.Good x → (p : Value × X) × (valued body).Good p
valued_some body some = ((Bad Overflow, some.0), (tt, some.1))

-- ---- the bytes of each tell it, and each byte has a field

pub run-fields : {X : Type 0} (items : Items X) (least n : ℕ) → AreReadable items → EachHasField (run_part items least n)
run-fields items least n r [] = refl
run-fields items least n r (x ∷ xs) =
    omega (arith, r.each x, run-fields items least n r xs, length-append (items.fields x) (flat_map items.fields xs), length-append (items.bytes x) (flat_map items.bytes xs))

pub counted-fields : {X : Type 0} (items : Items X) (least : ℕ) → HaveRoom items → EachHasField (counted_items items least)
counted-fields items least h = chain-fields (byte_part Count least 64) (λ n. run_part items 0 n) (byte-fields Count least 64) (λ n. run-fields items 0 n h.readable)

pub under-one_way : {X : Type 0} (body : Part X) → OneWay body → OneWay (under body)
under-one_way body one = chain-one_way (clock_part Epoch) (λ _. body) (clock-one_way Epoch) (λ _. one)

pub under-fields : {X : Type 0} (body : Part X) → EachHasField body → EachHasField (under body)
under-fields body each = chain-fields (clock_part Epoch) (λ _. body) (clock-fields Epoch) (λ _. each)

pub valued-one_way : {X : Type 0} (body : Part X) → OneWay body → OneWay (valued body)
valued-one_way body one = chain-one_way value_part (λ _. body) value-one_way (λ _. one)

pub valued-fields : {X : Type 0} (body : Part X) → EachHasField body → EachHasField (valued body)
valued-fields body each = chain-fields value_part (λ _. body) value-fields (λ _. each)

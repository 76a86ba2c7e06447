-- Items that are read one after the other.
use Rattle.std.proofs.Common.{◌≡◌, ◌∙◌, sym, ap, refl, subst, ℕ, zero, suc, ◌+◌, ◌≤◌, List, [], ◌∷◌, ◌++◌, length, drop, flat_map, arith, append_assoc, append-nil}
use Rattle.std.proofs.lemmas.List.{length-append, flat_map_more}
use Rattle.wire_frame.specs.declared.errors.FrameError.{FrameError}
use Rattle.wire_frame.specs.declared.errors.FrameError.TheVariants as error
use Rattle.wire_frame.specs.declared.reason.FrameReason.{FrameReason}
use Rattle.wire_frame.specs.Parts.{Part, IsWrong, IsNext, Stands, Fails, chain}
use Rattle.wire_frame.specs.Runs.{Items, item_part, IsRun, run_part}
use Rattle.wire_frame.proofs.Parts.{OneWay, chain-one_way, wrong_first, wrong_second, wrong_as}

-- what is known of a kind of items: their bytes tell them, each byte has a field, and behind each item there is room for the rest
pub record AreReadable {X : Type 0} (items : Items X) : Type 0 where
  pub one_way : (least left : ℕ) → OneWay (item_part items least left)
  pub each : (x : X) → length (items.fields x) ≡ length (items.bytes x)
  pub room : (least left : ℕ) (x : X) → items.Good least left x → (xs : List X) × IsRun items (items.least_after x) left xs

-- an item, and the items behind it
abbrev front : {X : Type 0} → Items X → ℕ → ℕ → Part (X × List X)
front items least left = chain (item_part items least left) (λ x. run_part items (items.least_after x) left)

as_list : {X : Type 0} (items : Items X) (least left : ℕ) (bytes : List ℕ) (place : ℕ) (reason : FrameReason) → IsWrong (front items least left) bytes place reason →
    IsWrong (run_part items least (suc left)) bytes place reason
as_list {X} items least left bytes place reason w =
    wrong_as (front items least left) (run_part items least (suc left)) (λ (p : X × List X). p.0 ∷ p.1) bytes place reason
    (λ p good. good) (λ p _. refl) (λ p. refl) (λ xs good e. back xs good) w
  where
    back : (xs : List X) → IsRun items least (suc left) xs → (p : X × List X) × (front items least left).Good p × ((front items least left).bytes p ≡ flat_map items.bytes xs)
    back [] good = absurd good
    back (x ∷ xs) good = ((x, xs), good, refl)

pub run-one_way : {X : Type 0} (items : Items X) → AreReadable items → (least count : ℕ) → OneWay (run_part items least count)
run-one_way items r least zero [] [] s t good_x good_y e = refl
run-one_way items r least zero [] (y ∷ ys) s t good_x good_y e = absurd good_y
run-one_way items r least zero (x ∷ xs) ys s t good_x good_y e = absurd good_x
run-one_way items r least (suc left) [] ys s t good_x good_y e = absurd good_x
run-one_way items r least (suc left) (x ∷ xs) [] s t good_x good_y e = absurd good_y
run-one_way items r least (suc left) (x ∷ xs) (y ∷ ys) s t good_x good_y e =
    let same = chain-one_way (item_part items least left) (λ x. run_part items (items.least_after x) left) (r.one_way least left)
    (λ x. run-one_way items r (items.least_after x) left) (x, xs) (y, ys) s t good_x good_y e in
    λ i. (same i).0 ∷ (same i).1

-- what is wrong with the first item is wrong with all
pub run_here : {X : Type 0} (items : Items X) (least left : ℕ) (bytes : List ℕ) (place : ℕ) (reason : FrameReason) → AreReadable items →
    IsWrong (item_part items least left) bytes place reason → IsWrong (run_part items least (suc left)) bytes place reason
run_here items least left bytes place reason r w = as_list items least left bytes place reason
    (wrong_first (item_part items least left) (λ x. run_part items (items.least_after x) left) bytes place reason (r.one_way least left) r.each (r.room least left) w)

-- and what is wrong with those behind it
pub run_later : {X : Type 0} (items : Items X) (least left : ℕ) (bytes rest : List ℕ) (x : X) (place : ℕ) (reason : FrameReason) → AreReadable items →
    IsNext (item_part items least left) x bytes rest → IsWrong (run_part items (items.least_after x) left) rest place reason →
    IsWrong (run_part items least (suc left)) bytes (length (items.bytes x) + place) reason
run_later items least left bytes rest x place reason r next w = as_list items least left bytes (length (items.bytes x) + place) reason
    (wrong_second (item_part items least left) (λ x. run_part items (items.least_after x) left) bytes rest x place reason (r.one_way least left) r.each next w)

-- Of so many items from `first` on, at a place of some bytes, these are read up to another place, and so many are left, from `least` on.
pub record IsReading {X : Type 0} (items : Items X) (first count : ℕ) (bytes : List ℕ) (at : ℕ) (done : List X) (least left to : ℕ) : Type 0 where
  pub goes : (xs : List X) → IsRun items least left xs → IsRun items first count (done ++ xs)
  pub end : to ≡ at + length (flat_map items.bytes done)
  pub within : to ≤ length bytes
  pub is : drop at bytes ≡ flat_map items.bytes done ++ drop to bytes
  pub wrong : (place : ℕ) (reason : FrameReason) → IsWrong (run_part items least left) (drop to bytes) place reason →
      IsWrong (run_part items first count) (drop at bytes) (length (flat_map items.bytes done) + place) reason

pub reading_starts : {X : Type 0} (items : Items X) (first count : ℕ) (bytes : List ℕ) (at : ℕ) → at ≤ length bytes → IsReading items first count bytes at [] first count at
reading_starts items first count bytes at l = record {
  goes = λ xs h. h;
  end = omega arith;
  within = l;
  is = refl;
  wrong = λ place reason w. let e : place ≡ 0 + place = omega arith in subst (λ n. IsWrong (run_part items first count) (drop at bytes) n reason) e w;
}

-- what stands at a place stands in front of the bytes from there on
pub stands_next : {X : Type 0} (part : Part X) (x : X) (bytes : List ℕ) (at to : ℕ) → Stands part x bytes at to → IsNext part x (drop at bytes) (drop to bytes)
stands_next part x bytes at to s = record { good = s.good; is = s.is }

pub reading_goes_on : {X : Type 0} (items : Items X) (first count : ℕ) (bytes : List ℕ) (at : ℕ) (done : List X) (least left more to next : ℕ) (x : X) → AreReadable items →
    IsReading items first count bytes at done least more to → more ≡ suc left → Stands (item_part items least left) x bytes to next →
    IsReading items first count bytes at (done ++ x ∷ []) (items.least_after x) left next
reading_goes_on {X} items first count bytes at done least left more to next x r given e s =
    let h : IsReading items first count bytes at done least (suc left) to = subst (λ n. IsReading items first count bytes at done least n to) e given in
    let spelled : flat_map items.bytes done ++ items.bytes x ≡ flat_map items.bytes (done ++ x ∷ []) = flat_map_more items.bytes [] done x in
    let long : length (flat_map items.bytes (done ++ x ∷ [])) ≡ length (flat_map items.bytes done) + length (items.bytes x) =
    ap length (sym spelled) ∙ length-append (flat_map items.bytes done) (items.bytes x) in
    record {
      goes = λ xs run. subst (λ (ys : List X). IsRun items first count ys) (sym (append_assoc done (x ∷ []) xs)) (h.goes (x ∷ xs) (s.good, run));
      end = omega (arith, h.end, s.end, long);
      within = s.within;
      is = h.is ∙ ap (λ ys. flat_map items.bytes done ++ ys) s.is ∙ sym (append_assoc (flat_map items.bytes done) (items.bytes x) (drop next bytes))
          ∙ ap (λ ys. ys ++ drop next bytes) spelled;
      wrong = λ place reason w.
          let later = h.wrong (length (items.bytes x) + place) reason
          (run_later items least left (drop to bytes) (drop next bytes) x place reason r (stands_next (item_part items least left) x bytes to next s) w) in
          let sum : length (flat_map items.bytes done) + (length (items.bytes x) + place) ≡ length (flat_map items.bytes (done ++ x ∷ [])) + place = omega (arith, long) in
          subst (λ n. IsWrong (run_part items first count) (drop at bytes) n reason) sum later;
    }

pub reading_fails : {X : Type 0} (items : Items X) (first count : ℕ) (bytes : List ℕ) (at : ℕ) (done : List X) (least left more to : ℕ) (e : FrameError) → AreReadable items →
    IsReading items first count bytes at done least more to → more ≡ suc left → Fails (item_part items least left) bytes to e → Fails (run_part items first count) bytes at e
reading_fails items first count bytes at done least left more to (error.Bad place reason) r given e w =
    let h : IsReading items first count bytes at done least (suc left) to = subst (λ n. IsReading items first count bytes at done least n to) e given in (
      length (flat_map items.bytes done) + w.0,
      omega (arith, h.end, w.1),
      h.wrong w.0 reason (run_here items least left (drop to bytes) w.0 reason r w.2),
    )
reading_fails items first count bytes at done least left more to error.OutOfMemory r given e w = tt

pub reading_ends : {X : Type 0} (items : Items X) (first count : ℕ) (bytes : List ℕ) (at : ℕ) (done : List X) (least left to : ℕ) →
    IsReading items first count bytes at done least left to → left ≡ 0 → Stands (run_part items first count) done bytes at to
reading_ends {X} items first count bytes at done least left to given e =
    let h : IsReading items first count bytes at done least 0 to = subst (λ n. IsReading items first count bytes at done least n to) e given in
    record {
      good = subst (λ (ys : List X). IsRun items first count ys) (append-nil done) (h.goes [] tt);
      end = h.end;
      within = h.within;
      is = h.is;
    }

-- the same, with each thing as it is called where an item is read
pub reading_steps : {X : Type 0} (items : Items X) (first count : ℕ) (bytes : List ℕ) (at : ℕ) (done new : List X) (least above left remain more to behind next : ℕ) (x : X) →
    AreReadable items → IsReading items first count bytes at done least more to → more ≡ suc left → Stands (item_part items least left) x bytes to behind →
    done ++ x ∷ [] ≡ new → items.least_after x ≡ above → left ≡ remain → behind ≡ next → IsReading items first count bytes at new above remain next
reading_steps {X} items first count bytes at done new least above left remain more to behind next x r given e s is_new is_above is_remain is_next =
    let h = reading_goes_on items first count bytes at done least left more to behind x r given e s in
    let h1 = subst (λ (ys : List X). IsReading items first count bytes at ys (items.least_after x) left behind) is_new h in
    let h2 = subst (λ n. IsReading items first count bytes at new n left behind) is_above h1 in
    let h3 = subst (λ n. IsReading items first count bytes at new above n behind) is_remain h2 in
    subst (λ n. IsReading items first count bytes at new above remain n) is_next h3

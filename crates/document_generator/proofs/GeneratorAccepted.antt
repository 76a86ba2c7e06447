-- Generated documents are accepted.
use Rattle.std.proofs.Common.{◌≡◌, ℕ, zero, suc, ◌+◌, ◌-◌, ◌*◌, ◌%◌, ◌<◌, ◌≤◌, Bool, true, false, map, List, [], ◌∷◌, ◌++◌, length, length-append, refl, sym, ap, subst, ◌∙◌, All, arith}
use Rattle.std.specs.Prelude.{◌==◌, ◌||◌, nat_lt, codes, pos, if◌then◌else◌}
use Rattle.std.proofs.lemmas.Bool.{cond-true, cond-false, lt-ltb}
use Rattle.std.proofs.lemmas.Bool.Decides.{nat_tests}
use Rattle.propagation.specs.Lists.{is_among}
use Rattle.svc_value.specs.declared.value.Value.TheVariants as value
use Rattle.svc_value.specs.declared.value.ValueType.TheVariants as type
use Rattle.svc_graph.specs.Refusals.{repeats}
use Rattle.svc_plan.specs.declared.plan.Mode.TheVariants as mode
use Rattle.document_reading.specs.declared.refusal.Code.{Code}
use Rattle.document_reading.specs.declared.refusal.Code.TheVariants.{E19}
use Rattle.document_reading.specs.declared.statement.Body.TheVariants.{Formula}
use Rattle.document_reading.specs.declared.statement.Statement.{Statement}
use Rattle.document_reading.specs.declared.statement.Statement.TheVariants.{Input, Derived, Set, Add, Drop, Settle}
use Rattle.document_reading.specs.Document.{lines_of, Reads, ends, IsAccepted}
use Rattle.document_reading.specs.Grammar.{Says}
use Rattle.document_reading.specs.Refusals.{holds}
use Rattle.document_reading.specs.State.{State, start, next}
use Rattle.document_generator.specs.Generator.{Draft, next_draw, inputs_of, members_at, input_name, derived_name, service_name, input_line, set_line, add_line, drop_line, derived_line, with_input, with_derived, with_set, with_turn, with_change, after_inputs, after_derived, after_changes, generated}
use Rattle.document_generator.proofs.GeneratorDeclared.{sum_named, input_holds, derived_holds}
use Rattle.document_generator.proofs.GeneratorLemmas.{derived_count, changes_count}
use Rattle.document_generator.proofs.GeneratorLines.{member_sum, pair_of, input_said, set_said, add_said, drop_said, derived_said, settle_said}
use Rattle.document_generator.proofs.GeneratorPlain.{IsPlain, input_plain, set_plain, add_plain, drop_plain, derived_plain, settle_plain}
use Rattle.document_generator.proofs.GeneratorReads.{IsWhole, whole_none, whole_more, lines_more, reads_more, accepted}
use Rattle.document_generator.proofs.GeneratorStanding.{Stands, set_holds, add_holds, drop_holds, ended_none}
use Rattle.document_generator.proofs.GeneratorSteps.{set_stands, add_stands, drop_stands, input_stands, derived_stands}

-- the lines so far are accepted and lead to rows and a leg that are as they should be
record Written (inputs n c : ℕ) (draft : Draft) : Type 0 where
  state : State
  reads : Reads mode.Plain (start [] 0) (lines_of draft.text) state
  whole : IsWhole draft.text
  short : length draft.text ≤ 100 * c
  stands : Stands inputs n c draft.members state

-- a line more
written_more : {inputs n c m : ℕ} {draft : Draft} (x : ℕ) (line : List ℕ) (members : List (List ℕ)) (statement : Statement) (w : Written inputs n c draft) → IsPlain 99 line → Says line statement
    → ((code : Code) → holds mode.Plain w.state statement code ≡ false) → Stands inputs m (c + 1) members (next w.state statement)
    → Written inputs m (c + 1) (record { x = x; members = members; text = draft.text ++ (line ++ codes "\n") })
written_more {draft = draft} x line members statement w h said f stands = record {
  state = next w.state statement;
  reads = subst (λ (lines : List (List ℕ)). Reads mode.Plain (start [] 0) lines (next w.state statement)) (sym (lines_more draft.text line w.whole h)) (reads_more line w.reads (accepted line h said f));
  whole = whole_more draft.text line w.whole h;
  short = simp length-append (omega (arith, w.short, h.short));
  stands = stands;
}

-- ---- names

input_is : (inputs k : ℕ) → k < inputs → service_name inputs k ≡ input_name (k + 1)
input_is inputs k h = cond-true (nat_lt k inputs) (input_name (k + 1)) (derived_name (k + 1 - inputs)) (lt-ltb k inputs h)

derived_is : (inputs d : ℕ) → service_name inputs (inputs + d) ≡ derived_name (d + 1)
derived_is inputs d =
    let past : nat_lt (inputs + d) inputs ≡ false = grind (arith, nat_tests) in
    let at : inputs + d + 1 - inputs ≡ d + 1 = omega arith in
    cond-false (nat_lt (inputs + d) inputs) (input_name (inputs + d + 1)) (derived_name (inputs + d + 1 - inputs)) past ∙ ap derived_name at

-- ---- choices

choose : (P : Draft → Type 0) (test : Bool) (a b : Draft) → (test ≡ true → P a) → (test ≡ false → P b) → P (if test then a else b)
choose P test a b f g = go test refl
  where
    go : (t : Bool) → test ≡ t → P (if t then a else b)
    go true e = f e
    go false e = g e

-- ---- changes

set_written : {inputs n c : ℕ} {draft : Draft} → Written inputs n c draft → n ≤ 64 → c < 1024 → (k x : ℕ) → k < inputs → k < n → Written inputs n (c + 1) (with_set (k + 1) x draft)
set_written {inputs} {n} {c} {draft} w few room k x i h =
    let v = x % 1000 in
    written_more x (set_line (k + 1) v) draft.members (Set (service_name inputs k) (value.Int (pos v))) w (set_plain (k + 1) v (omega arith) (omega arith))
    (subst (λ (name : List ℕ). Says (set_line (k + 1) v) (Set name (value.Int (pos v)))) (sym (input_is inputs k i)) (set_said (k + 1) v (omega arith) (omega arith)))
    (set_holds w.stands few room k (pos v) i h)
    (set_stands w.stands few room k (pos v) i h)

turn_written : {inputs n c : ℕ} {draft : Draft} → Written inputs n c draft → n ≤ 64 → c < 1024 → (d q x : ℕ) → 0 < inputs → inputs + d < n → q < inputs + d → d < length draft.members
    → Written inputs n (c + 1) (with_turn inputs d q x draft)
turn_written {inputs} {n} {c} {draft} w few room d q x some h low within =
    choose (Written inputs n (c + 1)) (is_among (members_at draft d) q) _ _
    (λ there.
    written_more x (drop_line inputs (d + 1) q) _ (Drop (service_name inputs (inputs + d)) (service_name inputs q)) w (drop_plain inputs (d + 1) q (omega arith) (omega arith))
    (subst (λ (name : List ℕ). Says (drop_line inputs (d + 1) q) (Drop name (service_name inputs q))) (sym (derived_is inputs d)) (drop_said inputs (d + 1) q (omega arith) (omega arith)))
    (drop_holds w.stands few room d q h low there)
    (drop_stands w.stands few room d q h low within))
    (λ new. choose (Written inputs n (c + 1)) (nat_lt (length (members_at draft d)) 16) _ _
    (λ free.
    let less : length (members_at draft d) < 16 = grind (arith, nat_tests) in
    written_more x (add_line inputs (d + 1) q) _ (Add (service_name inputs (inputs + d)) (service_name inputs q)) w (add_plain inputs (d + 1) q (omega arith) (omega arith))
    (subst (λ (name : List ℕ). Says (add_line inputs (d + 1) q) (Add name (service_name inputs q))) (sym (derived_is inputs d)) (add_said inputs (d + 1) q (omega arith) (omega arith)))
    (add_holds w.stands few room d q h low new less)
    (add_stands w.stands few room d q h low within))
    (λ full. set_written w few room 0 (next_draw x) some (omega arith)))

change_written : {inputs n c : ℕ} {draft : Draft} → Written inputs n c draft → n ≤ 64 → c < 1024 → 0 < inputs → inputs < n → length draft.members ≡ n - inputs
    → Written inputs n (c + 1) (with_change inputs n draft)
change_written {inputs} {n} {c} {draft} w few room some more count =
    let x = next_draw draft.x in
    let d = next_draw x % (n - inputs) in
    let below : d < n - inputs = omega arith in
    choose (Written inputs n (c + 1)) (nat_lt (next_draw draft.x % 4) 3) _ _
    (λ t. let k : next_draw x % inputs < inputs = omega arith in set_written w few room (next_draw x % inputs) (next_draw (next_draw x)) k (omega arith))
    (λ t.
    let q : next_draw (next_draw x) % (inputs + d) < inputs + d = omega arith in
    turn_written w few room d (next_draw (next_draw x) % (inputs + d)) (next_draw (next_draw x)) some (omega arith) q (omega arith))

-- ---- declarations

inputs_written : (start inputs k : ℕ) → k ≤ inputs → inputs ≤ 63 → Written inputs k k (after_inputs start k)
inputs_written x inputs zero h few = record {
  state = start [] 0;
  reads = ends;
  whole = whole_none;
  short = omega arith;
  stands = record { legs = omega arith; changes = refl; count = refl; rows = λ k g. absurd (omega arith) };
}
inputs_written x inputs (suc k) h few =
    let draft = after_inputs x k in
    let w = inputs_written x inputs k (omega arith) few in
    let v = next_draw draft.x % 1000 in
    let e : k + 1 ≡ suc k = omega arith in
    subst (λ (m : ℕ). Written inputs m m (with_input m draft)) e
    (written_more (next_draw draft.x) (input_line (k + 1) v) draft.members (Input (service_name inputs k) type.Int (value.Int (pos v))) w (input_plain (k + 1) v (omega arith) (omega arith))
    (subst (λ (name : List ℕ). Says (input_line (k + 1) v) (Input name type.Int (value.Int (pos v)))) (sym (input_is inputs k (omega arith))) (input_said (k + 1) v (omega arith) (omega arith)))
    (input_holds w.stands (omega arith) (omega arith) (pos v))
    (input_stands w.stands (omega arith) (pos v)))

-- two members, or one where both are the same
record IsPair (most : ℕ) (ps : List ℕ) : Type 0 where
  low : All (λ p. p < most) ps
  short : length ps ≤ 16
  apart : repeats [] ps ≡ false

pair_is : (most p q : ℕ) → p < most → q < most → IsPair most (pair_of p q)
pair_is most p q hp hq = go (p == q) refl
  where
    one_low : All (λ p. p < most) (p ∷ [])
    one_low zero d h = hp
    one_low (suc k) d h = absurd (omega arith)

    two_low : All (λ p. p < most) (p ∷ q ∷ [])
    two_low zero d h = hp
    two_low (suc zero) d h = hq
    two_low (suc (suc k)) d h = absurd (omega arith)

    go : (t : Bool) → (p == q) ≡ t → IsPair most (if t then p ∷ [] else p ∷ q ∷ [])
    go true e = record { low = one_low; short = omega arith; apart = refl }
    go false e =
        let back : (q == p) ≡ false = grind (arith, nat_tests) in
        record { low = two_low; short = omega arith; apart = ap (λ (t : Bool). (if t then true else false) || false) back }

derived_written : (start inputs d : ℕ) → 0 < inputs → inputs + d ≤ 64 → inputs ≤ 63 → Written inputs (inputs + d) (inputs + d) (after_derived start inputs d)
derived_written x inputs zero some few low =
    let e : inputs ≡ inputs + 0 = omega arith in
    subst (λ (m : ℕ). Written inputs m m (after_inputs x inputs)) e (inputs_written x inputs inputs (omega arith) low)
derived_written x inputs (suc d) some few low =
    let draft = after_derived x inputs d in
    let w = derived_written x inputs d some (omega arith) low in
    let p = next_draw draft.x % (inputs + d) in
    let q = next_draw (next_draw draft.x) % (inputs + d) in
    let hp : p < inputs + d = omega arith in
    let hq : q < inputs + d = omega arith in
    let pair = pair_is (inputs + d) p q hp hq in
    let a : inputs + (d + 1) ≡ inputs + suc d = omega arith in
    let b : inputs + d + 1 ≡ inputs + suc d = omega arith in
    subst (λ (m : ℕ). Written inputs m (inputs + suc d) (with_derived inputs d draft)) a
    (subst (λ (c : ℕ). Written inputs (inputs + (d + 1)) c (with_derived inputs d draft)) b
    (written_more (next_draw (next_draw draft.x)) (derived_line inputs (d + 1) p q) (draft.members ++ pair_of p q ∷ []) (sum_named inputs d (pair_of p q)) w
    (derived_plain inputs (d + 1) p q (omega arith) (omega arith) (omega arith))
    (subst (λ (name : List ℕ). Says (derived_line inputs (d + 1) p q) (Derived name type.Int (d + 1) (Formula (record { expr = member_sum; names = []; members = map (service_name inputs) (pair_of p q) }))))
    (sym (derived_is inputs d)) (derived_said inputs (d + 1) p q (omega arith) (omega arith) (omega arith)))
    (derived_holds d w.stands (omega arith) (omega arith) (pair_of p q) pair.low pair.short pair.apart)
    (derived_stands d w.stands (omega arith) (omega arith) (derived_count x inputs d) (pair_of p q) pair.low)))

-- ---- documents

changes_written : (start services c : ℕ) → 2 ≤ services → services ≤ 64 → services + c ≤ 1024 → Written (inputs_of services) services (services + c) (after_changes start services c)
changes_written x services zero some few most =
    let e : inputs_of services + (services - inputs_of services) ≡ services + 0 = omega arith in
    let f : services + 0 ≡ services = omega arith in
    subst (λ (m : ℕ). Written (inputs_of services) m (services + 0) (after_changes x services 0)) f
    (subst (λ (m : ℕ). Written (inputs_of services) m m (after_changes x services 0)) e
    (derived_written x (inputs_of services) (services - inputs_of services) (omega arith) (omega arith) (omega arith)))
changes_written x services (suc c) some few most =
    let w = changes_written x services c some few (omega arith) in
    let e : services + c + 1 ≡ services + suc c = omega arith in
    subst (λ (m : ℕ). Written (inputs_of services) services m (after_changes x services (suc c))) e
    (change_written w few (omega arith) (omega arith) (omega arith) (changes_count x services c))

settle_holds : {inputs n c : ℕ} {members : List (List ℕ)} {state : State} → Stands inputs n c members state → (code : Code) → holds mode.Plain state Settle code ≡ false
settle_holds s E19 = ended_none s
settle_holds s code = refl

-- a generated document is accepted
pub generated_accepted : (services changes start : ℕ) → 2 ≤ services → services ≤ 64 → services ≤ changes → changes ≤ 1024 → IsAccepted mode.Plain (generated services changes start)
generated_accepted services changes x some few births most =
    let w = changes_written x services (changes - services) some few (omega arith) in
    let draft = after_changes x services (changes - services) in (
      next w.state Settle,
      record {
        short = simp length-append (omega (arith, w.short));
        lines = subst (λ (lines : List (List ℕ)). Reads mode.Plain (start [] 0) lines (next w.state Settle)) (sym (lines_more draft.text (codes "settle") w.whole settle_plain))
            (reads_more (codes "settle") w.reads (accepted (codes "settle") settle_plain settle_said (settle_holds w.stands)));
      },
    )

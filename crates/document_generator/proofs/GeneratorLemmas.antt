-- What a generated document is after one part more, and how many derived services there are then.
use Rattle.std.proofs.Common.{◌≡◌, ◌<◌, ◌≤◌, ℕ, suc, zero, ◌+◌, ◌-◌, ◌%◌, ◌∙◌, refl, sym, ap, arith, nat_lt, length, List, [], ◌++◌, Bool, true, false, if◌then◌else◌, append_assoc}
use Rattle.std.proofs.Math.ListN.{length-set}
use Rattle.std.proofs.lemmas.Bool.{cond-true, cond-false}
use Rattle.std.proofs.lemmas.Bool.Decides.{nat_tests}
use Rattle.std.proofs.lemmas.List.{length-append}
use Rattle.propagation.specs.Lists.{is_among}
use Rattle.document_generator.specs.Generator.{Draft, next_draw, inputs_of, members_at, with_input, with_derived, with_turn, with_new_value, with_new_members, with_change, after_inputs, after_derived, after_changes}

-- ---- one part more

pub after_inputs_more : (start k : ℕ) → after_inputs start (k + 1) ≡ with_input (k + 1) (after_inputs start k)
after_inputs_more start k =
    let e : k + 1 ≡ suc k = omega arith in
    ap (after_inputs start) e ∙ ap (λ n. with_input n (after_inputs start k)) (sym e)

pub after_derived_more : (start inputs n : ℕ) → after_derived start inputs (n + 1) ≡ with_derived inputs n (after_derived start inputs n)
after_derived_more start inputs n =
    let e : n + 1 ≡ suc n = omega arith in ap (after_derived start inputs) e

pub after_changes_more : (start services c : ℕ) → after_changes start services (c + 1) ≡ with_change (inputs_of services) services (after_changes start services c)
after_changes_more start services c =
    let e : c + 1 ≡ suc c = omega arith in ap (after_changes start services) e

-- ---- a change, where the first draw is made

pub changes_value : (inputs services value : ℕ) (draft middle : Draft) → middle ≡ record draft { x = next_draw draft.x } → value ≡ next_draw draft.x % 4
    → value < 3 → with_new_value inputs middle.x middle ≡ with_change inputs services draft
changes_value inputs services value draft middle m v t =
    ap (λ d. with_new_value inputs d.x d) m
    ∙ sym (cond-true (nat_lt (next_draw draft.x % 4) 3) (with_new_value inputs (next_draw draft.x) draft) (with_new_members inputs services (next_draw draft.x) draft)
    (grind (arith, nat_tests)))

pub changes_members : (inputs services value : ℕ) (draft middle : Draft) → middle ≡ record draft { x = next_draw draft.x } → value ≡ next_draw draft.x % 4
    → 3 ≤ value → with_new_members inputs services middle.x middle ≡ with_change inputs services draft
changes_members inputs services value draft middle m v t =
    ap (λ d. with_new_members inputs services d.x d) m
    ∙ sym (cond-false (nat_lt (next_draw draft.x % 4) 3) (with_new_value inputs (next_draw draft.x) draft) (with_new_members inputs services (next_draw draft.x) draft)
    (grind (arith, nat_tests)))

-- ---- derived services

-- what holds of both sides holds of the one that a test takes
pub of_either : (P : Draft → Type 0) (test : Bool) (first second : Draft) → P first → P second → P (if test then first else second)
of_either P true first second p q = p
of_either P false first second p q = q

inputs_alone : (start k : ℕ) → (after_inputs start k).members ≡ []
inputs_alone start zero = refl
inputs_alone start (suc k) = inputs_alone start k

pub derived_count : (start inputs n : ℕ) → length (after_derived start inputs n).members ≡ n
derived_count start inputs zero = ap length (inputs_alone start inputs)
derived_count start inputs (suc n) = length-append (after_derived start inputs n).members _ ∙ ap (λ k. k + 1) (derived_count start inputs n) ∙ omega arith

turn_count : (inputs n q x : ℕ) (draft : Draft) → length (with_turn inputs n q x draft).members ≡ length draft.members
turn_count inputs n q x draft =
    let P : Draft → Type 0 = λ d. length d.members ≡ length draft.members in
    of_either P (is_among (members_at draft n) q) _ _ (length-set draft.members n _)
    (of_either P (nat_lt (length (members_at draft n)) 16) _ _ (length-set draft.members n _) refl)

pub change_count : (inputs services : ℕ) (draft : Draft) → length (with_change inputs services draft).members ≡ length draft.members
change_count inputs services draft =
    of_either (λ d. length d.members ≡ length draft.members) (nat_lt (next_draw draft.x % 4) 3) _ _ refl (turn_count _ _ _ _ draft)

pub changes_count : (start services c : ℕ) → length (after_changes start services c).members ≡ services - inputs_of services
changes_count start services zero = derived_count start (inputs_of services) (services - inputs_of services)
changes_count start services (suc c) = change_count (inputs_of services) services (after_changes start services c) ∙ changes_count start services c

-- ---- texts

-- four parts behind a text, one after the other
pub four_parts : (text a b c d text1 text2 text3 text4 : List ℕ) → text1 ≡ text ++ a → text2 ≡ text1 ++ b → text3 ≡ text2 ++ c → text4 ≡ text3 ++ d
    → text4 ≡ text ++ (a ++ b ++ c ++ d)
four_parts text a b c d text1 text2 text3 text4 e f g h =
    h ∙ ap (λ t. t ++ d) (g ∙ ap (λ t. t ++ c) (f ∙ ap (λ t. t ++ b) e)) ∙ simp append_assoc

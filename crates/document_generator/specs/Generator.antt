-- The document of the generator. Each draw leads from a number x to the next one, and the draws are made in the order of the lines.
use Rattle.std.specs.Prelude.{ℕ, zero, suc, pos, ◌+◌, ◌-◌, ◌*◌, ◌/◌, ◌%◌, ◌==◌, max, not, nat_lt, if◌then◌else◌, List, [], ◌∷◌, ◌++◌, length, filter, slice_index_or, slice_set, codes}
use Rattle.propagation.specs.Lists.{is_among}
use Rattle.svc_value.specs.declared.value.Value.TheVariants.{Int}
use Rattle.svc_value.specs.Printed.{printed_value}
use Rattle.svc_value.specs.declared.limits.TheConstants.{MAX_DEPENDENCIES}

-- ---- draws

-- x after one draw more; a draw below m answers what is left of it by m
abbrev pub next_draw : ℕ → ℕ
next_draw x = (x * 75 + 74) % 65537

-- of so many services so many are inputs
abbrev pub inputs_of : ℕ → ℕ
inputs_of services = max 1 (services / 4)

-- ---- lines

-- a number in decimal digits
unfoldable pub number_text : ℕ → List ℕ
number_text n = printed_value (Int (pos n))

-- the name of the k-th input, from 1
abbrev pub input_name : ℕ → List ℕ
input_name k = codes "i" ++ number_text k

-- the name of the j-th derived service, from 1
abbrev pub derived_name : ℕ → List ℕ
derived_name j = codes "d" ++ number_text j

-- the name of service n, from 0, where the first services are inputs
abbrev pub service_name : ℕ → ℕ → List ℕ
service_name inputs n = if nat_lt n inputs then input_name (n + 1) else derived_name (n + 1 - inputs)

-- two names with a comma between, or one where both are the same
abbrev pub pair_text : ℕ → ℕ → ℕ → List ℕ
pair_text inputs p q = if p == q then service_name inputs p else service_name inputs p ++ codes ", " ++ service_name inputs q

-- the line of the k-th input
abbrev pub input_line : ℕ → ℕ → List ℕ
input_line k value = codes "input " ++ input_name k ++ codes " : int = " ++ number_text value

-- the name of the j-th derived service, its type and its rank
abbrev pub derived_head : ℕ → List ℕ
derived_head j = codes "derived " ++ derived_name j ++ codes " : int rank " ++ number_text j

-- the line of the j-th derived service with the members p and q
abbrev pub derived_line : ℕ → ℕ → ℕ → ℕ → List ℕ
derived_line inputs j p q = derived_head j ++ codes " = sum() over " ++ pair_text inputs p q

-- a new value for the k-th input
abbrev pub set_line : ℕ → ℕ → List ℕ
set_line k value = codes "set " ++ input_name k ++ codes " = " ++ number_text value

-- service q comes to the j-th derived service
abbrev pub add_line : ℕ → ℕ → ℕ → List ℕ
add_line inputs j q = codes "add " ++ derived_name j ++ codes " " ++ service_name inputs q

-- service q goes from the j-th derived service
abbrev pub drop_line : ℕ → ℕ → ℕ → List ℕ
drop_line inputs j q = codes "drop " ++ derived_name j ++ codes " " ++ service_name inputs q

-- ---- drafts

-- what stands after some lines: x, the members of each derived service, and the text
pub record Draft : Type 0 where
  pub x : ℕ
  pub members : List (List ℕ)
  pub text : List ℕ

-- a line more, after the draws that led to this x
abbrev pub with_line : ℕ → List ℕ → Draft → Draft
with_line x line draft = record { x = x; members = draft.members; text = draft.text ++ (line ++ codes "\n") }

-- the members of derived service n, from 0
abbrev pub members_at : Draft → ℕ → List ℕ
members_at draft n = slice_index_or draft.members n []

-- other members of derived service n, from 0
abbrev pub with_members : ℕ → List ℕ → Draft → Draft
with_members n members draft = record draft { members = slice_set draft.members n members }

-- the k-th input, whose value is a draw below 1000
abbrev pub with_input : ℕ → Draft → Draft
with_input k draft = with_line (next_draw draft.x) (input_line k (next_draw draft.x % 1000)) draft

-- derived service n, from 0, with the members p and q, or p alone where both are the same
abbrev pub with_pair : ℕ → ℕ → ℕ → ℕ → ℕ → Draft → Draft
with_pair inputs n p q x draft =
    with_line x (derived_line inputs (n + 1) p q) (record draft { members = draft.members ++ (if p == q then p ∷ [] else p ∷ q ∷ []) ∷ [] })

-- derived service n, from 0, whose members are two draws below the number of services so far
abbrev pub with_derived : ℕ → ℕ → Draft → Draft
with_derived inputs n draft =
    with_pair inputs n (next_draw draft.x % (inputs + n)) (next_draw (next_draw draft.x) % (inputs + n)) (next_draw (next_draw draft.x)) draft

-- the k-th input is set to the draw below 1000 that led to this x
abbrev pub with_set : ℕ → ℕ → Draft → Draft
with_set k x draft = with_line x (set_line k (x % 1000)) draft

-- service q goes where it is a member of derived service n, from 0; else it comes where there is room; else the first input is set
abbrev pub with_turn : ℕ → ℕ → ℕ → ℕ → Draft → Draft
with_turn inputs n q x draft =
    if is_among (members_at draft n) q then with_line x (drop_line inputs (n + 1) q) (with_members n (filter (λ p. not (p == q)) (members_at draft n)) draft)
    else (if nat_lt (length (members_at draft n)) MAX_DEPENDENCIES then with_line x (add_line inputs (n + 1) q) (with_members n (members_at draft n ++ q ∷ []) draft)
    else with_set 1 (next_draw x) draft)

-- a service is drawn below those before derived service n, from 0, which takes its turn; x is that before the draw
abbrev pub with_drawn_member : ℕ → ℕ → ℕ → Draft → Draft
with_drawn_member inputs n x draft = with_turn inputs n (next_draw x % (inputs + n)) (next_draw x) draft

-- an input and its value are drawn
abbrev pub with_new_value : ℕ → ℕ → Draft → Draft
with_new_value inputs x draft = with_set (next_draw x % inputs + 1) (next_draw (next_draw x)) draft

-- a derived service and a service before it are drawn
abbrev pub with_new_members : ℕ → ℕ → ℕ → Draft → Draft
with_new_members inputs services x draft = with_drawn_member inputs (next_draw x % (services - inputs)) (next_draw x) draft

-- a change: a draw below 4 says whether an input has a new value or a derived service other members
abbrev pub with_change : ℕ → ℕ → Draft → Draft
with_change inputs services draft =
    if nat_lt (next_draw draft.x % 4) 3 then with_new_value inputs (next_draw draft.x) draft else with_new_members inputs services (next_draw draft.x) draft

-- ---- the document

-- the first k inputs
abbrev pub after_inputs : ℕ → ℕ → Draft
after_inputs start zero = record { x = start; members = []; text = [] }
after_inputs start (suc k) = with_input (suc k) (after_inputs start k)

-- the inputs and the first n derived services
abbrev pub after_derived : ℕ → ℕ → ℕ → Draft
after_derived start inputs zero = after_inputs start inputs
after_derived start inputs (suc n) = with_derived inputs n (after_derived start inputs n)

-- all declarations and the first c changes behind them
abbrev pub after_changes : ℕ → ℕ → ℕ → Draft
after_changes start services zero = after_derived start (inputs_of services) (services - inputs_of services)
after_changes start services (suc c) = with_change (inputs_of services) services (after_changes start services c)

-- the document with so many services and so many changes, births among them
abbrev pub generated : ℕ → ℕ → ℕ → List ℕ
generated services changes start = (after_changes start services (changes - services)).text ++ codes "settle\n"

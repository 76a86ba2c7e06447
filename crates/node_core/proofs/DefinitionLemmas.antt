-- The definitions to come.
use Rattle.std.proofs.Common.{◌≡◌, ℕ, zero, suc, ◌<◌, ◌≤◌, ◌+◌, List, [], ◌∷◌, length, drop, Option, Some, refl, sym, ap, ◌∙◌, arith, inl, inr, subst, slice_index_or}
use Rattle.propagation.specs.Lists.{Has}
use Rattle.svc_graph.specs.Book.{IsDefinitionOf}
use Rattle.svc_graph.specs.declared.kind.Kind.{Kind}
use Rattle.svc_graph.specs.declared.definition.Change.{Change}
use Rattle.svc_graph.specs.declared.definition.Definition.{Definition}
use Rattle.svc_graph.specs.declared.definition.Definition.TheVariants.{Input, Derived}
use Rattle.node_core.specs.Coming.{next, coming}
use Rattle.node_core.specs.View.{IsFew, IsDefined}

-- one for each change
pub coming_length : (current : Option Definition) (changes : List Change) → length (coming current changes) ≡ length changes
coming_length current [] = refl
coming_length current (change ∷ changes) = ap (λ n. suc n) (coming_length (Some (next current change)) changes)

-- none is left where each change is done
pub all_done : (current : Option Definition) (changes : List Change) (n : ℕ) → length changes ≤ n → coming current (drop n changes) ≡ []
all_done current [] zero h = refl
all_done current [] (suc n) h = refl
all_done current (change ∷ changes) zero h = absurd (omega (arith, h))
all_done current (change ∷ changes) (suc n) h = all_done current changes n (omega (arith, h))

-- and some is left where not
pub some_left : (current : Option Definition) (changes : List Change) (n : ℕ) → n < length changes → coming current (drop n changes) ≡ [] → ⊥
some_left current [] n lt none = absurd (omega (arith, lt))
some_left current (change ∷ changes) zero lt none = absurd (cc none)
some_left current (change ∷ changes) (suc n) lt none = some_left current changes n (omega (arith, lt)) none

-- an accepted definition has few dependencies, which differ
pub few_of : (kinds : List Kind) (n : ℕ) (d : Definition) → IsDefinitionOf kinds n d → IsFew d
few_of kinds n (Input value) is = record { apart = tt; few = omega arith }
few_of kinds n (Derived formula) is = record { apart = is.1.apart; few = is.1.few }

-- a leg is opened
pub defined_open : (id own : ℕ) (current : Option Definition) (left : List Definition) (kinds : List Kind) (changes : List Change) → IsDefined id own current left → id < length kinds → length kinds ≤ 64 →
    ((d : Definition) → Has (coming current changes) d → IsDefinitionOf kinds id d) → own + length changes ≤ 1024000 →
    IsDefined id own current (coming current changes)
defined_open id own current left kinds changes was known few accepted clock =
    record {
      present = was.present;
      next = λ d has. few_of kinds id d (accepted d has);
      number = λ h. omega (arith, known, few);
      clock = rw (coming_length current changes) clock;
      clocked = was.clocked;
    }

-- a leg is closed
pub defined_close : (id own : ℕ) (current : Option Definition) (left none : List Definition) → left ≡ [] → none ≡ [] → IsDefined id own current left → IsDefined id own current none
defined_close id own current left none e f was = let P : List Definition → Type 0 = λ ds. IsDefined id own current ds in subst P (e ∙ sym f) was

-- the next of the definitions
pub coming_at : (current : Option Definition) (changes : List Change) (n : ℕ) (change : Change) → n < length changes → change ≡ slice_index_or changes n change →
    coming current (drop n changes) ≡ next current change ∷ coming (Some (next current change)) (drop (suc n) changes)
coming_at current [] n change lt is = absurd (omega arith)
coming_at current (x ∷ changes) zero change lt is = ap (λ (z : Change). next current z ∷ coming (Some (next current z)) changes) (sym is)
coming_at current (x ∷ changes) (suc n) change lt is = coming_at current changes n change (omega arith) is

-- a change is done
pub defined_done : (id own : ℕ) (current : Option Definition) (left rest : List Definition) (d : Definition) → left ≡ d ∷ rest → IsDefined id own current left → IsDefined id (suc own) (Some d) rest
defined_done id own current left rest d is was =
    let now : IsDefined id own current (d ∷ rest) = (let P : List Definition → Type 0 = λ ds. IsDefined id own current ds in subst P is was) in
    record {
      present = λ e same. (let one : d ≡ e = cc same in subst IsFew one (now.next d (inl refl)));
      next = λ e has. now.next e (inr has);
      number = λ h. now.number (omega arith);
      clock = omega (arith, now.clock);
      clocked = λ e same. omega arith;
    }

-- the next change brings a definition with few dependencies, which differ
pub few_next : (id own : ℕ) (current : Option Definition) (changes : List Change) (n : ℕ) (change : Change) → IsDefined id own current (coming current (drop n changes)) → n < length changes → change ≡ slice_index_or changes n change → IsFew (next current change)
few_next id own current changes n change was lt is =
    was.next (next current change) (let P : List Definition → Type 0 = λ ds. Has ds (next current change) in subst P (sym (coming_at current changes n change lt is)) (inl refl))

-- and then the others are to come
pub defined_next : (id own clock : ℕ) (current after : Option Definition) (changes : List Change) (n m : ℕ) (change : Change) → IsDefined id own current (coming current (drop n changes)) → n < length changes → change ≡ slice_index_or changes n change →
    clock ≡ suc own → after ≡ Some (next current change) → m ≡ suc n → IsDefined id clock after (coming after (drop m changes))
defined_next id own clock current after changes n m change was lt is up brought more =
    let done : IsDefined id (suc own) (Some (next current change)) (coming (Some (next current change)) (drop (suc n) changes)) =
    defined_done id own current (coming current (drop n changes)) (coming (Some (next current change)) (drop (suc n) changes)) (next current change) (coming_at current changes n change lt is) was in
    let P : ℕ → Type 0 = λ k. IsDefined id k after (coming after (drop m changes)) in
    let Q : Option Definition → Type 0 = λ o. IsDefined id (suc own) o (coming o (drop m changes)) in
    let R : ℕ → Type 0 = λ k. IsDefined id (suc own) (Some (next current change)) (coming (Some (next current change)) (drop k changes)) in
    subst P (sym up) (subst Q (sym brought) (subst R (sym more) done))

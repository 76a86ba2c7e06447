-- What the rows of a book give the theory of propagation: ranks fall along dependencies, and these are declared and all different.
use Rattle.std.proofs.Common.{◌≡◌, ℕ, zero, suc, ◌-◌, ◌<◌, ◌≤◌, List, [], ◌∷◌, length, slice_get, Option, Some, None, refl, sym, ap, ◌∙◌, subst, inl, inr, arith}
use Rattle.std.proofs.lemmas.Bool.{cases_lt}
use Rattle.std.proofs.lemmas.List.{get_or_past, length-map}
use Rattle.propagation.specs.History.{definition_at, deps, dependencies_of, now}
use Rattle.propagation.specs.Lists.{AreDistinct, Has}
use Rattle.svc_graph.proofs.Changed.{Has-slice_get, kind_at-roster}
use Rattle.svc_graph.specs.Book.{IsBelow, IsBook, IsDefinitionOf}
use Rattle.svc_graph.specs.Central.{AreBorn}
use Rattle.svc_graph.specs.declared.definition.Definition.{Definition}
use Rattle.svc_graph.specs.declared.definition.Definition.TheVariants.{Input, Derived}
use Rattle.svc_graph.specs.History.{Row, at_clock, declared_row, dependencies, history_of, present, roster_of, row_at, theory}
use Rattle.svc_value.specs.declared.value.ValueType.TheVariants.{Int}

-- the definition at a clock
pub definition-at_clock : (rows : List Row) (n c : ℕ) → definition_at (theory rows) n c ≡ at_clock (history_of rows n) c
definition-at_clock rows n zero = refl
definition-at_clock rows n (suc c) = refl

-- at the present clock it is the last
at_clock-length : (history : List Definition) → at_clock history (length history) ≡ present history
at_clock-length [] = refl
at_clock-length (d ∷ ds) = ap (slice_get (d ∷ ds)) (let same : length ds ≡ length (d ∷ ds) - 1 = omega arith in same)

pub definition-now : (rows : List Row) (n : ℕ) → definition_at (theory rows) n (now (theory rows) n) ≡ present (history_of rows n)
definition-now rows n = definition-at_clock rows n (length (history_of rows n)) ∙ at_clock-length (history_of rows n)

-- a definition at a clock is one of the history
Has-at_clock : (history : List Definition) (c : ℕ) (d : Definition) → at_clock history c ≡ Some d → Has history d
Has-at_clock history zero d h = absurd (cc)
Has-at_clock history (suc c) d h = Has-slice_get history c d h

-- only a declared service has definitions
declared : (rows : List Row) (n : ℕ) (d : Definition) → Has (history_of rows n) d → n < length rows
declared rows n d has =
    elim (cases_lt n (length rows)) [
      | inl within ↦ within
      | inr past ↦ absurd (subst (λ row. Has row.history d) (get_or_past rows n (declared_row [] 0 Int) past) has)
    ]

-- a definition of a book is accepted
pub IsDefinitionOf-book : (rows : List Row) → IsBook rows → (n c : ℕ) (d : Definition) → definition_at (theory rows) n c ≡ Some d → (n < length rows) × IsDefinitionOf (roster_of rows) n d
IsDefinitionOf-book rows h n c d at =
    let has = Has-at_clock (history_of rows n) c d (sym (definition-at_clock rows n c) ∙ at) in
    let within = declared rows n d has in
    (within, (h.each n within).definitions d has)

-- the dependencies of a book's definition are below its service, and all different
below-definition : (rows : List Row) (n : ℕ) (d : Definition) → IsDefinitionOf (roster_of rows) n d → (p : ℕ) → Has (dependencies d) p → IsBelow (roster_of rows) n p
below-definition rows n (Input value) h p has = absurd has
below-definition rows n (Derived formula) h p has = h.1.below p has

apart-definition : (rows : List Row) (n : ℕ) (d : Definition) → IsDefinitionOf (roster_of rows) n d → AreDistinct (dependencies d)
apart-definition rows n (Input value) h = tt
apart-definition rows n (Derived formula) h = h.1.apart

few-definition : (rows : List Row) (n : ℕ) (d : Definition) → IsDefinitionOf (roster_of rows) n d → length (dependencies d) ≤ 16
few-definition rows n (Input value) h = omega arith
few-definition rows n (Derived formula) h = h.1.few

-- what the dependencies of a service at a clock are
pub record AreBelow (rows : List Row) (n : ℕ) (ps : List ℕ) : Type 0 where
  pub declared : (p : ℕ) → Has ps p → p < length rows
  pub falls : (p : ℕ) → Has ps p → (row_at rows p).rank < (row_at rows n).rank
  pub apart : AreDistinct ps
  pub few : length ps ≤ 16

pub AreBelow-definition : (rows : List Row) → IsBook rows → (n c : ℕ) (d : Definition) → definition_at (theory rows) n c ≡ Some d → AreBelow rows n (dependencies d)
AreBelow-definition rows h n c d at =
    let fits = (IsDefinitionOf-book rows h n c d at).1 in
    record {
      declared = λ p has. rw length-map at (below-definition rows n d fits p has).declared;
      falls = λ p has. falls p (below-definition rows n d fits p has);
      apart = apart-definition rows n d fits;
      few = few-definition rows n d fits;
    }
  where
    falls : (p : ℕ) → IsBelow (roster_of rows) n p → (row_at rows p).rank < (row_at rows n).rank
    falls p b = rw (← ap (λ k. k.rank) (kind_at-roster rows p), ← ap (λ k. k.rank) (kind_at-roster rows n)) b.rank

pub AreBelow-deps : (rows : List Row) → IsBook rows → (n c : ℕ) → AreBelow rows n (deps (theory rows) n c)
AreBelow-deps rows h n c = by (definition_at (theory rows) n c) refl
  where
    by : (o : Option Definition) → definition_at (theory rows) n c ≡ o → AreBelow rows n (dependencies_of (theory rows) o)
    by None at = record { declared = λ p has. absurd has; falls = λ p has. absurd has; apart = tt; few = omega arith }
    by (Some d) at = AreBelow-definition rows h n c d at

-- where every service has a definition, so have the dependencies
pub deps-born : (rows : List Row) → IsBook rows → AreBorn rows → (n c p : ℕ) → Has (deps (theory rows) n c) p → 0 < now (theory rows) p
deps-born rows h born n c p has = born p ((AreBelow-deps rows h n c).declared p has)

-- The names of a book.
use Rattle.std.proofs.Common.{◌≡◌, sym, ap, refl, subst, ℕ, zero, suc, ◌<◌, arith, List, [], ◌∷◌, length, inl, inr}
use Rattle.propagation.specs.Lists.{Has}
use Rattle.svc_expr.specs.Names.{Differ}
use Rattle.svc_graph.specs.History.{Row, names_in}
use Rattle.trace_text.specs.Named.{naming}
use Rattle.trace_text.specs.Names.{HaveNames}
use Rattle.trace_text.specs.Naming.{AreNames}
use Rattle.trace_text.proofs.TracesSettle.{named_of}

has_name : (rows : List Row) (n : ℕ) → n < length rows → Has (names_in rows) (naming rows n)
has_name [] n lt = absurd (omega (arith, lt))
has_name (row ∷ rows) zero lt = inl refl
has_name (row ∷ rows) (suc n) lt = inr (has_name rows n (omega (arith, lt)))

-- names at two places differ
apart : (rows : List Row) (n m : ℕ) → Differ (names_in rows) → n < length rows → m < length rows → naming rows n ≡ naming rows m → n ≡ m
apart [] n m differ p q e = absurd (omega (arith, p))
apart (row ∷ rows) zero zero differ p q e = refl
apart (row ∷ rows) zero (suc m) differ p q e = absurd (differ.0 (subst (Has (names_in rows)) (sym e) (has_name rows m (omega (arith, q)))))
apart (row ∷ rows) (suc n) zero differ p q e = absurd (differ.0 (subst (Has (names_in rows)) e (has_name rows n (omega (arith, p)))))
apart (row ∷ rows) (suc n) (suc m) differ p q e = ap suc (apart rows n m differ.1 (omega (arith, p)) (omega (arith, q)) e)

pub names_of_book : (rows : List Row) → HaveNames rows → Differ (names_in rows) → AreNames (naming rows) (length rows)
names_of_book rows names differ = record { named = named_of rows names; apart = λ n m p q e. apart rows n m differ p q e }

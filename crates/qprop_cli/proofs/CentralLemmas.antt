-- A central evaluation has one value for each service.
use Rattle.std.proofs.Common.{◌≡◌, ◌∙◌, refl, ℕ, suc, arith, List, [], ◌∷◌, length}
use Rattle.propagation.specs.History.{Book, Central}
use Rattle.svc_graph.specs.Central.{AreCentral, services_from}
use Rattle.svc_graph.specs.History.{Row}
use Rattle.svc_value.specs.declared.value.Value.{Value}

same_length : {V D : Type 0} {b : Book V D} {S : ℕ → ℕ} {ns : List ℕ} {vs : List V} → Central b S ns vs → length vs ≡ length ns
same_length Central.none = refl
same_length (Central.more defined inner value rest) = omega (arith, same_length rest)

services_length : (n : ℕ) (rows : List Row) → length (services_from n rows) ≡ length rows
services_length n [] = refl
services_length n (row ∷ rows) = omega (arith, services_length (suc n) rows)

pub values_length : (rows : List Row) (values : List Value) → AreCentral rows values → length values ≡ length rows
values_length rows values central = same_length central ∙ services_length 0 rows

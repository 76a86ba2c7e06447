-- What a book keeps when it grows.
use Rattle.std.proofs.Common.{◌≡◌, ℕ, ◌+◌, ◌<◌, ◌≤◌, List, [], ◌∷◌, ◌++◌, length, length-append, is_some, false, ap, sym, ◌∙◌, subst, inl, inr, ◌⊎◌, arith}
use Rattle.std.proofs.lemmas.List.{map-append, length-map}
use Rattle.std.proofs.Math.ListN.{get_or-append}
use Rattle.std.proofs.Math.Seq.{get_or-append_seam}
use Rattle.svc_graph.proofs.Naming.{Has-not_found, Differ-push}
use Rattle.svc_graph.proofs.Accepted.{IsMore, IsDefinitionOf-more}
use Rattle.svc_expr.specs.Names.{Differ}
use Rattle.svc_graph.specs.Book.{IsBook, IsRow}
use Rattle.svc_graph.specs.Refusals.{kind_at}
use Rattle.svc_graph.specs.History.{Row, kind_of, roster_of, declared_row, names_in, find_service, row_at}
use Rattle.svc_value.specs.declared.value.ValueType.{ValueType}
use Rattle.svc_value.specs.declared.value.ValueType.TheVariants.{Int}

-- a number below one more than a bound is below it or is it
below_or_last : (n bound : ℕ) → n < bound + 1 → (n < bound) ⊎ (n ≡ bound)
below_or_last n bound h = grind arith

-- the ranks and types of more services
IsMore-push : (rows : List Row) (row : Row) → IsMore (roster_of rows) (roster_of (rows ++ row ∷ []))
IsMore-push rows row =
    record {
      longer = rw (map-append kind_of rows (row ∷ [])) (omega (arith, length-append (roster_of rows) (kind_of row ∷ [])));
      same = λ p within. ap (λ kinds. kind_at kinds p) (map-append kind_of rows (row ∷ [])) ∙ get_or-append (roster_of rows) (kind_of row ∷ []) (record { rank = 0; ty = Int }) p within;
    }

-- a row stays what it is beside one more
IsRow-push : (rows : List Row) (row : Row) (n : ℕ) → n < length rows → IsRow (roster_of rows) n (row_at rows n) → IsRow (roster_of (rows ++ row ∷ [])) n (row_at rows n)
IsRow-push rows row n within h =
    record { rank = h.rank; clock = h.clock; definitions = λ d has. IsDefinitionOf-more (IsMore-push rows row) n d (rw length-map within) (h.definitions d has) }

-- a book with one service more, whose name is new
pub IsBook-push : (rows : List Row) (name : List ℕ) (rank : ℕ) (ty : ValueType) → IsBook rows → is_some (find_service rows name) ≡ false → length rows < 64 → rank ≤ 1000 →
    IsBook (rows ++ declared_row name rank ty ∷ [])
IsBook-push rows name rank ty h new room low =
    record {
      few = rw length-append (omega arith);
      names = subst Differ (sym (map-append (λ row. row.name) rows (declared_row name rank ty ∷ []))) (Differ-push (names_in rows) name h.names (Has-not_found (names_in rows) name new));
      each = λ n within. each n within;
    }
  where
    each : (n : ℕ) → n < length (rows ++ declared_row name rank ty ∷ []) → IsRow (roster_of (rows ++ declared_row name rank ty ∷ [])) n (row_at (rows ++ declared_row name rank ty ∷ []) n)
    each n within =
        let kinds = roster_of (rows ++ declared_row name rank ty ∷ []) in
        elim (below_or_last n (length rows) (rw length-append at within)) [
          | inl below ↦ subst (IsRow kinds n) (sym (get_or-append rows (declared_row name rank ty ∷ []) (declared_row [] 0 Int) n below)) (IsRow-push rows (declared_row name rank ty) n below (h.each n below))
          | inr last ↦
              subst (IsRow kinds n) (sym (ap (row_at (rows ++ declared_row name rank ty ∷ [])) last ∙ get_or-append_seam rows (declared_row name rank ty) [] (declared_row [] 0 Int)))
              (record { rank = low; clock = omega arith; definitions = λ d has. absurd has })
        ]

-- When a change may be tested.
use Rattle.std.proofs.Common.{◌≡◌, ℕ, ◌<◌, false, List, [], ◌∷◌, ◌++◌, length, length-append, refl, sym, ap, ◌∙◌, subst, true≢false, arith}
use Rattle.std.proofs.Math.Seq.{get_or-append_seam}
use Rattle.svc_graph.specs.Accepting.{HasForm, IsChangeOf}
use Rattle.svc_graph.specs.declared.definition.Change.{Change}
use Rattle.svc_graph.specs.declared.definition.Change.TheVariants.{Birth}
use Rattle.svc_graph.specs.declared.definition.Definition.{Definition}
use Rattle.svc_graph.specs.History.{Row, declared_row, history_of, is_birth, row_at}
use Rattle.svc_value.specs.declared.value.ValueType.{ValueType}
use Rattle.svc_value.specs.declared.value.ValueType.TheVariants.{Int}

-- the birth of a service that was just declared
pub first_birth : (rows : List Row) (name : List ℕ) (rank : ℕ) (ty : ValueType) (definition : Definition) → HasForm rank (Birth definition) →
    IsChangeOf (rows ++ declared_row name rank ty ∷ []) (length rows) (Birth definition)
first_birth rows name rank ty definition form =
    let row = get_or-append_seam rows (declared_row name rank ty) [] (declared_row [] 0 Int) in
    record {
      declared = rw length-append (omega arith);
      first = ((λ birth. ap (λ r. r.history) row), (λ none. refl));
      form = subst (λ r. HasForm r.rank (Birth definition)) (sym row) form;
      clock = subst (λ r. length r.history < 1024000) (sym row) (let small : 0 < 1024000 = omega arith in small);
    }

-- another change of a service that is born
pub later_change : (rows : List Row) (n : ℕ) (change : Change) → n < length rows → 0 < length (history_of rows n) → length (history_of rows n) < 1024000 →
    is_birth change ≡ false → HasForm (row_at rows n).rank change → IsChangeOf rows n change
later_change rows n change declared born room later form =
    record {
      declared = declared;
      first = ((λ birth. absurd (true≢false (sym birth ∙ later))), (λ none. absurd (let empty : length (history_of rows n) ≡ 0 = ap length none in omega arith)));
      form = form;
      clock = room;
    }

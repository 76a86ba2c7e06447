use Rattle.std.proofs.Common.{◌∙◌, ◌∷◌, [], ◌++◌}
use Rattle.saved_state.specs.declared.named.NamedRow.{NamedRow}
use Rattle.saved_state.specs.Named.{names_of, numbered_row, IsKnown}
use Rattle.saved_state.proofs.ListLemmas.{all_next, mapped_next}
use Rattle.saved_state.proofs.numbering.numbered_rows.Goals as goal

pub loop-row-preserved : goal.loop-row-preserved
loop-row-preserved c = (
  c.in_ok-push.ensures.ok ∙ (λ i. c.loop-row.invariant.0 i ++ c.in_ok-numbered_row.field-0 ∷ [])
      ∙ mapped_next (numbered_row (names_of c.args.rows.now)) c.args.rows.now c.loop-row.row-index c.row-item.result c.in_ok-numbered_row.field-0 c.loop-row-test.true c.row-item.is c.in_ok-numbered_row.ensures.service,
  all_next (λ (row : NamedRow). IsKnown (names_of c.args.rows.now) row.definition) c.args.rows.now c.loop-row.row-index c.row-item.result c.loop-row-test.true c.row-item.is
      c.loop-row.invariant.1 c.in_ok-numbered_row.ensures.known,
)

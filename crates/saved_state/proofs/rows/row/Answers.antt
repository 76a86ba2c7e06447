use Rattle.std.proofs.Common.{◌≡◌, ◌++◌, ◌∙◌, ℕ, sym, length, subst, arith}
use Rattle.std.proofs.lemmas.Result.{err_from_is_err_and}
use Rattle.saved_state.specs.Bytes.{type_code, u16_bytes}
use Rattle.saved_state.specs.Named.{named_definition_bytes, IsNamedDefinition}
use Rattle.saved_state.proofs.ReadingLemmas.{behind_name, row_parts}
use Rattle.saved_state.proofs.rows.row.Goals as goal

pub returns-in_err-rank-clause-reads : goal.returns-in_err-rank-clause-reads
returns-in_err-rank-clause-reads c row more read is =
    let p = err_from_is_err_and c.from_residual-in_err-rank.result c.from_residual-in_err-rank.ensures.1 in
    let rest = named_definition_bytes row.definition ++ more in
    let len = c.in_ok-len.ensures (length row.name) (row.name ++ behind_name row more) (is ∙ row_parts row more) in
    let name = c.in_ok-name.ensures row.name (behind_name row more) (omega (arith, len.0)) len.1 in
    let code = c.in_ok-code.ensures (type_code row.ty) (u16_bytes row.rank ++ rest) name.1 in
    rw (p.1, p.2) (c.in_err-rank.ensures row.rank rest (let few = read.0.rank in omega (arith, few)) code.1)

pub returns-then-from-gt-MAX_RANK-clause-reads : goal.returns-then-from-gt-MAX_RANK-clause-reads
returns-then-from-gt-MAX_RANK-clause-reads c row more read is =
    let rest = named_definition_bytes row.definition ++ more in
    let few = read.0.rank in
    let len = c.in_ok-len.ensures (length row.name) (row.name ++ behind_name row more) (is ∙ row_parts row more) in
    let name = c.in_ok-name.ensures row.name (behind_name row more) (omega (arith, len.0)) len.1 in
    let code = c.in_ok-code.ensures (type_code row.ty) (u16_bytes row.rank ++ rest) name.1 in
    let rank = c.in_ok-rank.ensures row.rank rest (omega (arith, few)) code.1 in
    absurd (omega (arith, rank.0, few, c.if-from-gt-MAX_RANK.true))

pub returns-in_err-definition-clause-reads : goal.returns-in_err-definition-clause-reads
returns-in_err-definition-clause-reads c row more read is =
    let p = err_from_is_err_and c.from_residual-in_err-definition.result c.from_residual-in_err-definition.ensures.1 in
    let rest = named_definition_bytes row.definition ++ more in
    let few = read.0.rank in
    let len = c.in_ok-len.ensures (length row.name) (row.name ++ behind_name row more) (is ∙ row_parts row more) in
    let name = c.in_ok-name.ensures row.name (behind_name row more) (omega (arith, len.0)) len.1 in
    let code = c.in_ok-code.ensures (type_code row.ty) (u16_bytes row.rank ++ rest) name.1 in
    let rank = c.in_ok-rank.ensures row.rank rest (omega (arith, few)) code.1 in
    rw (p.1, p.2) (c.in_err-definition.ensures.reads row.definition more (subst (λ (r : ℕ). IsNamedDefinition r row.definition) (sym rank.0) read.0.definition) read.1 rank.1)

pub returns-clause-reads : goal.returns-clause-reads
returns-clause-reads c row more read is =
    let rest = named_definition_bytes row.definition ++ more in
    let few = read.0.rank in
    let len = c.in_ok-len.ensures (length row.name) (row.name ++ behind_name row more) (is ∙ row_parts row more) in
    let name = c.in_ok-name.ensures row.name (behind_name row more) (omega (arith, len.0)) len.1 in
    let code = c.in_ok-code.ensures (type_code row.ty) (u16_bytes row.rank ++ rest) name.1 in
    let ty = c.in_ok-ty.ensures row.ty code.0 in
    let rank = c.in_ok-rank.ensures row.rank rest (omega (arith, few)) code.1 in
    let definition = c.in_ok-definition.ensures.reads row.definition more (subst (λ (r : ℕ). IsNamedDefinition r row.definition) (sym rank.0) read.0.definition) read.1 rank.1 in
    let copied : c.in_ok-name-2.name ≡ row.name = c.in_ok-name-2.ensures ∙ name.0 in
    ((λ i. record { name = copied i; rank = rank.0 i; ty = ty i; definition = definition.0 i }), definition.1)

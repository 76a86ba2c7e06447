use Rattle.std.proofs.Common.{◌∙◌, ap, sym, get_or, FitsSigned, w64, rules, arith}
use Rattle.svc_value.specs.declared.value.Value.TheVariants.{Int}
use Rattle.std.proofs.lemmas.Bool.{eqb-false}
use Rattle.std.proofs.lemmas.Int.{to_z-of_z}
use Rattle.svc_expr.proofs.NumberLemmas.{reads, parsed}
use Rattle.svc_expr.proofs.texts.parse_number.Goals as goal

pub returns-in-Err : goal.returns-in-Err
returns-in-Err c =
    let plus = eqb-false (get_or c.args.text.now 0 0) 43 (sym (c.starts_with.ensures.byte (omega arith) (omega arith) (λ w o h. h)) ∙ c.if-starts_with.false) in
    ap parsed (sym c.in-Err.is) ∙ sym (reads c.args.text.now c.parse.result plus c.parse.ensures.value.0)

pub returns-in-Ok : goal.returns-in-Ok
returns-in-Ok c =
    let plus = eqb-false (get_or c.args.text.now 0 0) 43 (sym (c.starts_with.ensures.byte (omega arith) (omega arith) (λ w o h. h)) ∙ c.if-starts_with.false) in
    let fits : FitsSigned w64 c.in-Ok.number = search rules in
    ap Int (to_z-of_z w64 c.in-Ok.number fits) ∙ ap parsed (sym c.in-Ok.is) ∙ sym (reads c.args.text.now c.parse.result plus c.parse.ensures.value.0)

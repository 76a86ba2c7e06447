use Rattle.std.proofs.Common.{◌∙◌, subst}
use Rattle.svc_value.specs.Taken.{IsRefusedValue}
use Rattle.saved_state.proofs.ValueLemmas.{value_is, value_there, rest_whole}
use Rattle.saved_state.proofs.rows.value.Goals as goal

pub returns-else-is_fault-clause-reads : goal.returns-else-is_fault-clause-reads
returns-else-is_fault-clause-reads c value more proper within is =
    let both = value_is c.args.bytes.now value c.in-Ok.value c.in-Ok.len more c.in-Ok.ensures.ok within is in
    (both.0, rest_whole c.in-Ok.len c.args.bytes.now ∙ both.1)

pub returns-in-Err-Bad-clause-reads : goal.returns-in-Err-Bad-clause-reads
returns-in-Err-Bad-clause-reads c value more proper within is =
    value_there c.args.bytes.now value more c.in-Err-Bad.field-0-0 c.in-Err-Bad.field-0-1 within is (subst (IsRefusedValue c.args.bytes.now) c.in-Err-Bad.field-0-is c.in-Err-Bad.ensures.bad)

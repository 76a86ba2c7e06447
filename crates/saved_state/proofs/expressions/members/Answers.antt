use Rattle.std.proofs.Common.{◌++◌, length, flat_map}
use Rattle.std.proofs.lemmas.Result.{err_from_is_err_and}
use Rattle.saved_state.specs.Bytes.{u16_bytes}
use Rattle.saved_state.proofs.expressions.members.Goals as goal

pub returns-in_err-count : goal.returns-in_err-count
returns-in_err-count c ids more few small is =
    let p = err_from_is_err_and c.from_residual.result c.from_residual.ensures.1 in
    rw (p.1, p.2) (c.in_err-count.ensures (length ids) (flat_map u16_bytes ids ++ more) is)

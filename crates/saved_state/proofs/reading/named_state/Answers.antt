use Rattle.saved_state.proofs.ValueLemmas.{rest_whole}
use Rattle.std.proofs.Common.{◌∷◌, ◌∙◌, drop, sym, length, flat_map, arith, ap}
use Rattle.std.proofs.lemmas.Result.{err_from_is_err_and}
use Rattle.saved_state.specs.Bytes.{service_bytes}
use Rattle.saved_state.specs.Named.{named_rows}
use Rattle.saved_state.specs.States.{names_in}
use Rattle.saved_state.proofs.StateLemmas.{all_bytes, read_rows, rows_many}
use Rattle.saved_state.proofs.reading.named_state.Goals as goal

pub returns-in_err-rows-clause-reads : goal.returns-in_err-rows-clause-reads
returns-in_err-rows-clause-reads c saved is =
    let p = err_from_is_err_and c.from_residual-in_err-rows.result c.from_residual-in_err-rows.ensures.1 in
    let rest = length saved.services ∷ flat_map (service_bytes (names_in saved.services)) saved.services in
    let leg = c.in_ok-leg.ensures saved.leg rest (let most = is.state.ended in omega (arith, most)) (rest_whole 4 c.args.bytes.now ∙ ap (drop 4) is.is) in
    let count = c.in_ok-count.ensures (length saved.services) (flat_map (service_bytes (names_in saved.services)) saved.services) leg.1 in
    rw (p.1, p.2) (c.in_err-rows.ensures.reads (named_rows saved.services) (rows_many saved c.args.bytes.now is ∙ sym count.0) (read_rows saved c.args.bytes.now is) (count.1 ∙ all_bytes (names_in saved.services) saved.services))

pub returns-clause-reads : goal.returns-clause-reads
returns-clause-reads c saved is =
    let rest = length saved.services ∷ flat_map (service_bytes (names_in saved.services)) saved.services in
    let leg = c.in_ok-leg.ensures saved.leg rest (let most = is.state.ended in omega (arith, most)) (rest_whole 4 c.args.bytes.now ∙ ap (drop 4) is.is) in
    let count = c.in_ok-count.ensures (length saved.services) (flat_map (service_bytes (names_in saved.services)) saved.services) leg.1 in
    (leg.0, c.in_ok-rows.ensures.reads (named_rows saved.services) (rows_many saved c.args.bytes.now is ∙ sym count.0) (read_rows saved c.args.bytes.now is) (count.1 ∙ all_bytes (names_in saved.services) saved.services))

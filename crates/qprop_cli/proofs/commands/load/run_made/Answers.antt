use Rattle.std.proofs.Common.{◌≡◌, ap, arith, List, length}
use Rattle.svc_value.specs.declared.value.Value.{Value}
use Rattle.qprop_cli.proofs.CentralLemmas.{values_length}
use Rattle.qprop_cli.proofs.commands.load.run_made.Goals as goal

pub load_text-requires-clause-values : goal.load_text-requires-clause-values
load_text-requires-clause-values c =
    let held : length c.deref.result.now ≡ length c.in_ok-values.values.items = ap (λ (vs : List Value). length vs) c.deref.ensures.value in
    omega (arith, held, values_length c.in_ok-network.network.rows c.in_ok-values.values.items c.in_ok-values.ensures.central, c.kept.ensures.book.few)

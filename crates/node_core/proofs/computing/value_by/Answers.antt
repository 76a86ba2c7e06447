use Rattle.std.proofs.Common.{◌≡◌, arith, length, List, ap}
use Rattle.svc_value.specs.declared.value.Value.{Value}
use Rattle.node_core.proofs.HeadLemmas.{few_heads}
use Rattle.node_core.proofs.computing.value_by.Goals as goal

pub eval-requires : goal.eval-requires
eval-requires c =
    let same : length c.values_of.new.values.items ≡ _ = ap (λ (vs : List Value). length vs) c.in_ok-values_of-in-Derived.ensures in
    omega (arith, same, few_heads c.args.slots.now, c.requires.few, c.split_at.ensures.back_len, c.as_slice.ensures.len)

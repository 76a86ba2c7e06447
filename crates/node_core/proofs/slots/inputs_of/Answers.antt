use Rattle.std.proofs.Common.{◌≡◌, ◌≤◌, ◌∙◌, length, take, ap, sym, arith}
use Rattle.std.proofs.lemmas.List.{length-take-le}
use Rattle.node_core.proofs.InputLemmas.{inputs_first, inputs_within}
use Rattle.node_core.proofs.slots.inputs_of.Goals as goal

pub slice_bounds-result-end : goal.slice_bounds-result-end
slice_bounds-result-end c =
    let le : c.len.result ≤ length c.args.slots.now = omega (arith, c.len.ensures, inputs_within c.args.edges.now c.args.slots.now c.requires) in
    sym (length-take-le c.len.result c.args.slots.now le)

pub returns : goal.returns
returns c =
    let first : take c.len.result c.args.slots.now ≡ take (length c.args.edges.now) c.args.slots.now = ap (λ n. take n c.args.slots.now) c.len.ensures in
    let le : c.len.result ≤ length c.args.slots.now = omega (arith, c.len.ensures, inputs_within c.args.edges.now c.args.slots.now c.requires) in
    record {
      slots = first ∙ inputs_first c.args.edges.now c.args.slots.now c.requires;
      first = first;
      len = length-take-le c.len.result c.args.slots.now le ∙ c.len.ensures;
    }

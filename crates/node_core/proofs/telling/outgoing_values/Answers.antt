use Rattle.std.proofs.Common.{◌≡◌, ◌<◌, ◌≤◌, List, ℕ, suc, length, slice_index_or, add-one, arith, subst, sym}
use Rattle.wire_frame.specs.declared.frame.Delta.{Delta}
use Rattle.wire_frame.specs.declared.frame.Frame.TheVariants.{Changed}
use Rattle.wire_frame.specs.Frames.{FrameOf}
use Rattle.node_core.specs.Outgoing.{value_frames}
use Rattle.node_core.proofs.EncodingLemmas.{adds_value}
use Rattle.node_core.proofs.SaysLemmas.{value_step, told_all_of, epoch_at}
use Rattle.node_core.proofs.telling.outgoing_values.Goals as goal

pub loop-i-preserved : goal.loop-i-preserved
loop-i-preserved c =
    let lt : c.loop-i.i < length c.args.readers.now = omega (arith, c.loop-i-test.true, c.in-Some.ensures) in
    let made : Delta = record { epoch = c.index-readers-last.result.1; value = c.args.value.now; clocks = c.args.clocks.now } in
    let of : FrameOf (Changed made) c.as_slice.result.now = subst (λ (bs : List ℕ). FrameOf (Changed made) bs) (sym c.as_slice.ensures.value) c.in_ok-value.ensures in
    rw add-one (value_step c.loop-i.outgoing c.add_under.new.self c.args.readers.now (record { epoch = 1; value = c.args.value.now; clocks = c.args.clocks.now }) c.loop-i.i c.index-readers-i.result lt c.index-readers-i.is c.loop-i.invariant
    (adds_value c.index-readers-i.result.0 made c.as_slice.result.now c.index-readers-i.result.1 c.loop-i.outgoing c.add_under.new.self of
    (epoch_at c.args.readers.now c.loop-i.i c.index-readers-i.result lt c.index-readers-i.is c.requires.epochs) c.in_ok-add_under.ensures.fits c.in_ok-add_under.ensures.added))

pub returns : goal.returns
returns c =
    let same : c.in-Some.last ≡ c.loop-i.i = omega (arith, c.loop-i-test.false, c.loop-i.auto.i-end) in
    let lt : c.loop-i.i < length c.args.readers.now = omega (arith, same, c.in-Some.ensures) in
    let end : length c.args.readers.now ≤ suc c.loop-i.i = omega (arith, same, c.in-Some.ensures) in
    told_all_of c.add.new.self c.args.readers.now (value_frames (record { epoch = 1; value = c.args.value.now; clocks = c.args.clocks.now })) (suc c.loop-i.i) end
    (value_step c.loop-i.outgoing c.add.new.self c.args.readers.now (record { epoch = 1; value = c.args.value.now; clocks = c.args.clocks.now }) c.loop-i.i c.index-readers-last.result lt
    (subst (λ k. c.index-readers-last.result ≡ slice_index_or c.args.readers.now k c.index-readers-last.result) same c.index-readers-last.is) c.loop-i.invariant
    (record { bytes = c.in_ok-value.value.items; frame_of = c.in_ok-value.ensures; added = c.in_ok-add.ensures }))

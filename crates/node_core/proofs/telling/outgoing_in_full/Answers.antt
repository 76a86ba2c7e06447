use Rattle.std.proofs.Common.{◌≡◌, ◌<◌, ◌≤◌, List, ℕ, suc, length, slice_index_or, add-one, arith, subst, sym}
use Rattle.wire_frame.specs.declared.frame.Announced.{Announced}
use Rattle.wire_frame.specs.declared.frame.Delta.{Delta}
use Rattle.wire_frame.specs.declared.frame.Frame.TheVariants.{Sources, Changed}
use Rattle.wire_frame.specs.Frames.{FrameOf}
use Rattle.node_core.specs.Outgoing.{full_frames}
use Rattle.node_core.proofs.EncodingLemmas.{adds_sources, adds_value}
use Rattle.node_core.proofs.SaysLemmas.{full_step, told_all_of, epoch_at}
use Rattle.node_core.proofs.telling.outgoing_in_full.Goals as goal

pub loop-i-preserved : goal.loop-i-preserved
loop-i-preserved c =
    let lt : c.loop-i.i < length c.args.readers.now = omega (arith, c.loop-i-test.true, c.in-Some.ensures) in
    let some = epoch_at c.args.readers.now c.loop-i.i c.index-readers-i.result lt c.index-readers-i.is c.requires.epochs in
    let keys : Announced = record { epoch = c.index-readers-last.result.1; keys = c.args.keys.now } in
    let made : Delta = record { epoch = c.index-readers-last.result.1; value = c.args.value.now; clocks = c.args.clocks.now } in
    let of : FrameOf (Sources keys) c.as_slice.result.now = subst (λ (bs : List ℕ). FrameOf (Sources keys) bs) (sym c.as_slice.ensures.value) c.in_ok-sources.ensures in
    let of2 : FrameOf (Changed made) c.as_slice-in-loop-i.result.now = subst (λ (bs : List ℕ). FrameOf (Changed made) bs) (sym c.as_slice-in-loop-i.ensures.value) c.in_ok-value.ensures in
    rw add-one (full_step c.loop-i.outgoing c.add_under.new.self c.add_under-in-loop-i.new.self c.args.readers.now (record { epoch = 1; keys = c.args.keys.now }) (record { epoch = 1; value = c.args.value.now; clocks = c.args.clocks.now }) c.loop-i.i c.index-readers-i.result lt c.index-readers-i.is c.loop-i.invariant
    (adds_sources c.index-readers-i.result.0 keys c.as_slice.result.now c.index-readers-i.result.1 c.loop-i.outgoing c.add_under.new.self of some c.in_ok-add_under.ensures.fits c.in_ok-add_under.ensures.added)
    (adds_value c.index-readers-i.result.0 made c.as_slice-in-loop-i.result.now c.index-readers-i.result.1 c.add_under.new.self c.add_under-in-loop-i.new.self of2 some c.in_ok-add_under-2.ensures.fits c.in_ok-add_under-2.ensures.added))

pub returns : goal.returns
returns c =
    let same : c.in-Some.last ≡ c.loop-i.i = omega (arith, c.loop-i-test.false, c.loop-i.auto.i-end) in
    let lt : c.loop-i.i < length c.args.readers.now = omega (arith, same, c.in-Some.ensures) in
    let end : length c.args.readers.now ≤ suc c.loop-i.i = omega (arith, same, c.in-Some.ensures) in
    told_all_of c.add-2.new.self c.args.readers.now (full_frames (record { epoch = 1; keys = c.args.keys.now }) (record { epoch = 1; value = c.args.value.now; clocks = c.args.clocks.now })) (suc c.loop-i.i) end
    (full_step c.loop-i.outgoing c.add.new.self c.add-2.new.self c.args.readers.now (record { epoch = 1; keys = c.args.keys.now }) (record { epoch = 1; value = c.args.value.now; clocks = c.args.clocks.now }) c.loop-i.i c.index-readers-last.result lt
    (subst (λ k. c.index-readers-last.result ≡ slice_index_or c.args.readers.now k c.index-readers-last.result) same c.index-readers-last.is) c.loop-i.invariant
    (record { bytes = c.in_ok-sources.sources.items; frame_of = c.in_ok-sources.ensures; added = c.in_ok-add.ensures })
    (record { bytes = c.in_ok-value.value.items; frame_of = c.in_ok-value.ensures; added = c.in_ok-add-2.ensures }))

use Rattle.std.proofs.Common.{refl, subst, inr}
use Rattle.std.proofs.lemmas.Result.{err_from_is_err_and}
use Rattle.propagation.specs.Logs.Frame.{Sources as TheSources, Changed as TheChanged}
use Rattle.wire_frame.specs.declared.frame.Frame.TheVariants.{Sources, Changed}
use Rattle.wire_frame.specs.declared.frame_ref.FrameRef.{FrameRef}
use Rattle.wire_frame.specs.Frames.{FrameOf, pairs}
use Rattle.wire_frame.specs.LentFrames.{announced_in, delta_in, frame_in}
use Rattle.node_core.proofs.receiving.receive.Goals as goal

pub returns-in_err-receive_keys-in-Sources-clause-refused : goal.returns-in_err-receive_keys-in-Sources-clause-refused
returns-in_err-receive_keys-in-Sources-clause-refused c =
    let frame_of : FrameOf (Sources (announced_in c.in-Sources.announced)) c.args.bytes.now = subst (λ (f : FrameRef). FrameOf (frame_in f) c.args.bytes.now) c.in-Sources.is c.in-Ok.ensures.ok in
    let p = err_from_is_err_and c.from_residual.result c.from_residual.ensures.1 in
    rw (p.1, p.2)
    (inr (inr (TheSources c.in-Sources.announced.epoch c.in-Sources.announced.keys, record { frame = Sources (announced_in c.in-Sources.announced); frame_of = frame_of; is = refl }, c.in_err-receive_keys-in-Sources.ensures.refused)))

pub returns-in-Sources-clause-ok : goal.returns-in-Sources-clause-ok
returns-in-Sources-clause-ok c =
    let frame_of : FrameOf (Sources (announced_in c.in-Sources.announced)) c.args.bytes.now = subst (λ (f : FrameRef). FrameOf (frame_in f) c.args.bytes.now) c.in-Sources.is c.in-Ok.ensures.ok in
    (TheSources c.in-Sources.announced.epoch c.in-Sources.announced.keys, record { frame = Sources (announced_in c.in-Sources.announced); frame_of = frame_of; is = refl }, c.in_ok-receive_keys-in-Sources.ensures.ok c.args.own)

pub returns-in_err-receive_value-in-Changed-clause-refused : goal.returns-in_err-receive_value-in-Changed-clause-refused
returns-in_err-receive_value-in-Changed-clause-refused c =
    let frame_of : FrameOf (Changed (delta_in c.in-Changed.delta)) c.args.bytes.now = subst (λ (f : FrameRef). FrameOf (frame_in f) c.args.bytes.now) c.in-Changed.is c.in-Ok.ensures.ok in
    let p = err_from_is_err_and c.from_residual-in_err-receive_value-in-Changed.result c.from_residual-in_err-receive_value-in-Changed.ensures.1 in
    rw (p.1, p.2)
    (inr (inr (TheChanged c.in-Changed.delta.epoch c.in-Changed.delta.value (pairs c.in-Changed.delta.clocks), record { frame = Changed (delta_in c.in-Changed.delta); frame_of = frame_of; is = refl }, c.in_err-receive_value-in-Changed.ensures.refused)))

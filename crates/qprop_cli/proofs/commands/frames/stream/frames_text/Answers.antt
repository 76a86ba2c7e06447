use Rattle.std.proofs.Common.{arith, refl}
use Rattle.qprop_cli.proofs.StreamLemmas.{read_none, read_more, line_gone}
use Rattle.qprop_cli.proofs.commands.frames.stream.frames_text.Goals as goal

pub loop-rest-init : goal.loop-rest-init
loop-rest-init c = record {
  few = omega (arith, c.if-bytes-gt-MAX_DOCUMENT_LEN.false);
  so_far = read_none c.args.bytes.now c.new-text.result.items c.args.bytes.now c.new-text.ensures.items refl;
}

pub loop-rest-preserved : goal.loop-rest-preserved
loop-rest-preserved c =
    let line = rw c.in-Some.is at c.in_ok-after.ensures.line in
    let gone = line_gone c.loop-rest.rest.now c.in-Some.after.now c.loop-rest.text.items c.push_line.new.text.items line in
    record {
      few = omega (arith, c.loop-rest.invariant.few, gone);
      so_far = read_more c.args.bytes.now c.loop-rest.text.items c.loop-rest.rest.now c.push_line.new.text.items c.in-Some.after.now c.loop-rest.number c.loop-rest.invariant.so_far line;
    }

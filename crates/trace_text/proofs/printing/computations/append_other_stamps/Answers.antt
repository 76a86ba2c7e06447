use Rattle.std.proofs.Common.{length}
use Rattle.trace_text.specs.Named.{naming}
use Rattle.trace_text.specs.Lines.{stamp_text}
use Rattle.trace_text.proofs.Growing.{kept_over}
use Rattle.trace_text.proofs.Walking.{named-first, named-rest, after_commas-next}
use Rattle.trace_text.proofs.printing.computations.append_other_stamps.Goals as goal

pub append_stamp-requires : goal.append_stamp-requires
append_stamp-requires c = named-first (length c.args.book.now) c.loop-key.key-iterator (c.in-Some.key, c.in-Some.clock) c.next.new.self c.in-Some.ensures.steps c.loop-key.invariant.named

pub loop-key-preserved : goal.loop-key-preserved
loop-key-preserved c = record {
  named = named-rest (length c.args.book.now) c.loop-key.key-iterator (c.in-Some.key, c.in-Some.clock) c.next.new.self c.in-Some.ensures.steps c.loop-key.invariant.named;
  kept = kept_over c.args.out.now.items c.loop-key.out.items c.extend_from_slice.new.self.items c.append_stamp.new.out.items _ c.loop-key.invariant.kept c.in_ok-extend_from_slice.ensures.items c.append_stamp.ensures.kept;
  out = after_commas-next (stamp_text (naming c.args.book.now)) c.loop-key.out.items c.extend_from_slice.new.self.items c.append_stamp.new.out.items _ c.loop-key.key-iterator (c.in-Some.key, c.in-Some.clock) c.next.new.self
      c.in-Some.ensures.steps c.loop-key.invariant.out c.in_ok-extend_from_slice.ensures.items c.in_ok-append_stamp.ensures.ok;
}

pub returns-in_err-append_stamp-clause-kept : goal.returns-in_err-append_stamp-clause-kept
returns-in_err-append_stamp-clause-kept c =
    kept_over c.args.out.now.items c.loop-key.out.items c.extend_from_slice.new.self.items c.append_stamp.new.out.items _ c.loop-key.invariant.kept c.in_ok-extend_from_slice.ensures.items c.append_stamp.ensures.kept

use Rattle.std.proofs.Common.{length}
use Rattle.trace_text.specs.Inside.Cutting.{IsStampOf}
use Rattle.trace_text.specs.Lines.{stamp_text}
use Rattle.trace_text.specs.Naming.{naming_of}
use Rattle.trace_text.proofs.ListReading.{no_item_first, no_item_last, some_read}
use Rattle.trace_text.proofs.StampReading.{stamps_told_of}
use Rattle.trace_text.proofs.reading.stamps.read_some_stamps.Goals as goal

pub returns-in_default-read_stamp : goal.returns-in_default-read_stamp
returns-in_default-read_stamp c =
    no_item_first (IsStampOf (length c.args.names.now)) (stamp_text (naming_of c.args.names.now)) (stamps_told_of (naming_of c.args.names.now) (length c.args.names.now) c.requires.names)
    c.args.text.now c.loop-front.list.items c.loop-front.rest.now c.in-Some.front.now c.in-Some.behind.now c.loop-front.invariant.0 c.loop-front.invariant.1 c.in-Some.ensures c.in_default-read_stamp.ensures

pub returns-in_default-read_stamp-2 : goal.returns-in_default-read_stamp-2
returns-in_default-read_stamp-2 c =
    no_item_last (IsStampOf (length c.args.names.now)) (stamp_text (naming_of c.args.names.now)) (stamps_told_of (naming_of c.args.names.now) (length c.args.names.now) c.requires.names)
    c.args.text.now c.loop-front.list.items c.loop-front.rest.now c.loop-front.invariant.0 c.loop-front.invariant.1 c.in_default.ensures c.in_default-read_stamp-2.ensures

pub returns : goal.returns
returns c =
    some_read (IsStampOf (length c.args.names.now)) (stamp_text (naming_of c.args.names.now)) (stamps_told_of (naming_of c.args.names.now) (length c.args.names.now) c.requires.names)
    c.args.text.now c.loop-front.list.items c.loop-front.rest.now c.push-2.new.self.items c.from_vec.result c.in-Some-read_stamp-2.stamp c.loop-front.invariant.0 c.loop-front.invariant.1
    c.in-Some-read_stamp-2.ensures c.in_ok-push-2.ensures.items c.from_vec.ensures

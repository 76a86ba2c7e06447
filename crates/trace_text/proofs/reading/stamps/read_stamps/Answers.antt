use Rattle.std.proofs.Common.{rules, ◌<◌, length}
use Rattle.std.proofs.lemmas.Result.{IfOk-weaker}
use Rattle.trace_text.specs.Inside.Cutting.{AreSomeStamps}
use Rattle.trace_text.specs.Lines.{comma_list, stamp_text}
use Rattle.trace_text.specs.Naming.{naming_of}
use Rattle.trace_text.proofs.Pieces.{none_of, some_of}
use Rattle.trace_text.proofs.StampReading.{keys_below, clocks_positive, no_list, stamps_read}
use Rattle.trace_text.proofs.reading.stamps.read_stamps.Goals as goal

pub returns-in_default : goal.returns-in_default
returns-in_default c =
    let some : 0 < length c.args.text.now = search rules in
    no_list (naming_of c.args.names.now) (length c.args.names.now) c.requires.names c.args.text.now some
    (none_of (AreSomeStamps (length c.args.names.now)) (comma_list (stamp_text (naming_of c.args.names.now))) c.args.text.now c.in_ok-list.field-0 c.in_default.is c.in_ok-list.ensures)

pub stamps_of-requires-clause-below : goal.stamps_of-requires-clause-below
stamps_of-requires-clause-below c =
    keys_below c.in-Some.list (length c.args.names.now) c.requires.few
    (some_of (AreSomeStamps (length c.args.names.now)) (comma_list (stamp_text (naming_of c.args.names.now))) c.args.text.now c.in_ok-list.field-0 c.in-Some.list c.in-Some.is c.in_ok-list.ensures).0

pub stamps_of-requires-clause-positive : goal.stamps_of-requires-clause-positive
stamps_of-requires-clause-positive c =
    clocks_positive c.in-Some.list (length c.args.names.now)
    (some_of (AreSomeStamps (length c.args.names.now)) (comma_list (stamp_text (naming_of c.args.names.now))) c.args.text.now c.in_ok-list.field-0 c.in-Some.list c.in-Some.is c.in_ok-list.ensures).0

pub returns : goal.returns
returns c =
    IfOk-weaker c.stamps_of.result _ _
    (λ result made. stamps_read (naming_of c.args.names.now) (length c.args.names.now) c.requires.names c.args.text.now c.in-Some.list
    (some_of (AreSomeStamps (length c.args.names.now)) (comma_list (stamp_text (naming_of c.args.names.now))) c.args.text.now c.in_ok-list.field-0 c.in-Some.list c.in-Some.is c.in_ok-list.ensures) result made)
    c.stamps_of.ensures

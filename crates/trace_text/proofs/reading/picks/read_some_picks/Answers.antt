use Rattle.std.specs.Fmt.{decimal}
use Rattle.trace_text.proofs.ListReading.{no_item_first, no_item_last, some_read}
use Rattle.trace_text.proofs.OneLine.{IsPick, picks_told}
use Rattle.trace_text.proofs.reading.picks.read_some_picks.Goals as goal

pub returns-in_default-read_number : goal.returns-in_default-read_number
returns-in_default-read_number c =
    no_item_first IsPick decimal picks_told c.args.text.now c.loop-digits.picks.items c.loop-digits.rest.now c.in-Some.digits.now c.in-Some.behind.now c.loop-digits.invariant.0 c.loop-digits.invariant.1 c.in-Some.ensures c.in_default-read_number.ensures

pub returns-in_default-read_number-2 : goal.returns-in_default-read_number-2
returns-in_default-read_number-2 c =
    no_item_last IsPick decimal picks_told c.args.text.now c.loop-digits.picks.items c.loop-digits.rest.now c.loop-digits.invariant.0 c.loop-digits.invariant.1 c.in_default.ensures c.in_default-read_number-2.ensures

pub returns : goal.returns
returns c =
    some_read IsPick decimal picks_told c.args.text.now c.loop-digits.picks.items c.loop-digits.rest.now c.push-2.new.self.items c.from_vec.result c.in-Some-read_number-2.pick c.loop-digits.invariant.0 c.loop-digits.invariant.1
    c.in-Some-read_number-2.ensures c.in_ok-push-2.ensures.items c.from_vec.ensures

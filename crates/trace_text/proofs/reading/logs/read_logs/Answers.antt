use Rattle.std.proofs.Common.{rules, arith, ◌≡◌, ◌<◌, refl, length}
use Rattle.trace_text.specs.Naming.{naming_of}
use Rattle.trace_text.proofs.FamilyReading.{begins, next_line, no_end, no_line, all_read, below_most, was_read, was_not_read}
use Rattle.trace_text.proofs.reading.logs.read_logs.Goals as goal

pub loop-rest-init : goal.loop-rest-init
loop-rest-init c = begins (naming_of c.args.names.now) (length c.args.names.now) c.requires.names c.args.bytes.now c.no_logs-logs.result.items c.no_logs-logs.ensures

pub overflow_add-line : goal.overflow_add-line
overflow_add-line c = omega (arith, below_most (naming_of c.args.names.now) (length c.args.names.now) c.requires.names c.args.bytes.now c.loop-rest.rest.now c.loop-rest.line 4294967295 c.loop-rest.logs.items c.loop-rest.invariant c.requires.lines)

pub loop-rest-preserved : goal.loop-rest-preserved
loop-rest-preserved c =
    next_line (naming_of c.args.names.now) (length c.args.names.now) c.requires.names c.args.bytes.now c.loop-rest.rest.now c.in-Some.body.now c.in-Some.behind.now c.loop-rest.line _ c.loop-rest.logs.items c.read_line.new.logs.items
    c.loop-rest.invariant c.in-Some.ensures refl
    (was_read (naming_of c.args.names.now) (length c.args.names.now) c.in-Some.body.now c.loop-rest.logs.items c.read_line.new.logs.items _ c.if-not-is_read.false c.in_ok-is_read.ensures)

pub returns-in_default-clause-bad : goal.returns-in_default-clause-bad
returns-in_default-clause-bad c =
    let some : 0 < length c.loop-rest.rest.now = search rules in
    no_end (naming_of c.args.names.now) (length c.args.names.now) c.requires.names c.args.bytes.now c.loop-rest.rest.now c.loop-rest.line _ c.loop-rest.logs.items c.loop-rest.invariant some c.in_default.ensures refl

pub returns-then-not-is_read-clause-bad : goal.returns-then-not-is_read-clause-bad
returns-then-not-is_read-clause-bad c =
    no_line (naming_of c.args.names.now) (length c.args.names.now) c.requires.names c.args.bytes.now c.loop-rest.rest.now c.in-Some.body.now c.in-Some.behind.now c.loop-rest.line _ c.loop-rest.logs.items c.loop-rest.invariant c.in-Some.ensures refl
    (was_not_read (naming_of c.args.names.now) (length c.args.names.now) c.in-Some.body.now c.loop-rest.logs.items c.read_line.new.logs.items _ c.if-not-is_read.true c.in_ok-is_read.ensures)

pub grow-requires : goal.grow-requires
grow-requires c = omega (arith, c.loop-rest.invariant.read.few, c.len.ensures)

pub returns-clause-ok : goal.returns-clause-ok
returns-clause-ok c =
    let none : length c.loop-rest.rest.now ≡ 0 = search rules in
    all_read (naming_of c.args.names.now) (length c.args.names.now) c.requires.names c.args.bytes.now c.loop-rest.rest.now c.loop-rest.line c.loop-rest.logs.items c.grow.new.logs.items c.loop-rest.invariant none (omega (arith, c.in_ok-grow.ensures.long, c.len.ensures)) c.in_ok-grow.ensures.entries

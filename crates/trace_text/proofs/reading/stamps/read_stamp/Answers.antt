use Rattle.std.proofs.Common.{length, refl}
use Rattle.std.specs.Fmt.{decimal}
use Rattle.trace_text.specs.Inside.Cutting.{IsClock}
use Rattle.trace_text.specs.Naming.{naming_of}
use Rattle.trace_text.proofs.Pieces.{no_stop, no_name, no_rest, both_read}
use Rattle.trace_text.proofs.reading.stamps.read_stamp.Goals as goal

pub returns-in_default : goal.returns-in_default
returns-in_default c = no_stop (naming_of c.args.names.now) (length c.args.names.now) c.requires.names.named 64 refl refl IsClock decimal c.args.text.now c.in_default.ensures

pub returns-in_default-find_name : goal.returns-in_default-find_name
returns-in_default-find_name c =
    no_name (naming_of c.args.names.now) (length c.args.names.now) c.requires.names.named 64 refl refl IsClock decimal c.args.text.now c.in-Some.name.now c.in-Some.digits.now c.in-Some.ensures c.in_default-find_name.ensures

pub returns-in_default-read_clock : goal.returns-in_default-read_clock
returns-in_default-read_clock c =
    no_rest (naming_of c.args.names.now) (length c.args.names.now) c.requires.names.named 64 refl refl IsClock decimal c.args.text.now c.in-Some.name.now c.in-Some.digits.now c.in-Some.ensures c.in_default-read_clock.ensures

pub returns : goal.returns
returns c =
    both_read (naming_of c.args.names.now) (length c.args.names.now) c.requires.names.named 64 refl refl IsClock decimal c.args.text.now c.in-Some.name.now c.in-Some.digits.now
    c.in-Some-find_name.id c.in-Some-read_clock.clock c.in-Some.ensures c.in-Some-find_name.ensures c.in-Some-read_clock.ensures

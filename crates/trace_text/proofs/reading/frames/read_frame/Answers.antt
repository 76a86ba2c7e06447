use Rattle.std.proofs.Common.{length, refl}
use Rattle.trace_text.specs.Entries.{AreBytes}
use Rattle.trace_text.specs.Lines.{hex}
use Rattle.trace_text.specs.Naming.{naming_of}
use Rattle.trace_text.proofs.Pieces.{no_stop, no_name, no_rest, none_of}
use Rattle.trace_text.proofs.reading.frames.read_frame.Goals as goal

pub returns-in_default : goal.returns-in_default
returns-in_default c = no_stop (naming_of c.args.names.now) (length c.args.names.now) c.requires.named 32 refl refl AreBytes hex c.args.text.now c.in_default.ensures

pub returns-in_default-find_name : goal.returns-in_default-find_name
returns-in_default-find_name c =
    no_name (naming_of c.args.names.now) (length c.args.names.now) c.requires.named 32 refl refl AreBytes hex c.args.text.now c.in-Some.word.now c.in-Some.digits.now c.in-Some.ensures c.in_default-find_name.ensures

pub returns-in_default-2 : goal.returns-in_default-2
returns-in_default-2 c =
    no_rest (naming_of c.args.names.now) (length c.args.names.now) c.requires.named 32 refl refl AreBytes hex c.args.text.now c.in-Some.word.now c.in-Some.digits.now c.in-Some.ensures
    (none_of AreBytes hex c.in-Some.digits.now c.in_ok-bytes.field-0 c.in_default-2.is c.in_ok-bytes.ensures)

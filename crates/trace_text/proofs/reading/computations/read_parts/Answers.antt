use Rattle.std.proofs.Common.{length}
use Rattle.svc_value.specs.Layout.{IsWithin}
use Rattle.svc_value.specs.Printed.{printed_value}
use Rattle.trace_text.specs.Entries.{ArePicks, AreStampsOf}
use Rattle.trace_text.specs.Lines.{picks_text, stamps_text}
use Rattle.trace_text.specs.Naming.{naming_of}
use Rattle.trace_text.proofs.Pieces.{none_of}
use Rattle.trace_text.proofs.reading.computations.read_parts.Goals as goal

pub returns-in_default : goal.returns-in_default
returns-in_default c = λ x is v s p. none_of IsWithin printed_value c.args.value.now c.in_ok-value.field-0 c.in_default.is c.in_ok-value.ensures x.value is.value v

pub returns-in_default-2 : goal.returns-in_default-2
returns-in_default-2 c = λ x is v s p.
    none_of (AreStampsOf (length c.args.names.now)) (stamps_text (naming_of c.args.names.now)) c.args.stamps.now c.in_ok-stamps.field-0 c.in_default-2.is c.in_ok-stamps.ensures x.stamps is.stamps s

pub returns-in_default-3 : goal.returns-in_default-3
returns-in_default-3 c = λ x is v s p. none_of ArePicks picks_text c.args.picks.now c.in_ok-picks.field-0 c.in_default-3.is c.in_ok-picks.ensures x.picks is.picks p

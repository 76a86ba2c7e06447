use Rattle.std.proofs.Common.{arith, ◌∙◌, sym, refl, length, inl, inr}
use Rattle.trace_text.specs.Entries.{IsOwnedEntry}
use Rattle.trace_text.specs.Lines.{entry_body}
use Rattle.trace_text.specs.Naming.{naming_of}
use Rattle.trace_text.proofs.FamilyReading.{out_of_order}
use Rattle.trace_text.proofs.Pieces.{none_of, some_of}
use Rattle.trace_text.proofs.reading.logs.read_line.Goals as goal

pub returns-then-is_passed_over : goal.returns-then-is_passed_over
returns-then-is_passed_over c = inl (sym c.is_passed_over.ensures ∙ c.if-is_passed_over.true, refl)

pub returns-in_default : goal.returns-in_default
returns-in_default c = (
  sym c.is_passed_over.ensures ∙ c.if-is_passed_over.false,
  λ x is long. none_of (IsOwnedEntry (length c.args.names.now)) (λ owned. entry_body (naming_of c.args.names.now) owned.0 owned.1) c.args.body.now c.in_ok-owned.field-0 c.in_default.is c.in_ok-owned.ensures x is,
)

pub returns-then-is_early : goal.returns-then-is_early
returns-then-is_early c =
    out_of_order (naming_of c.args.names.now) (length c.args.names.now) c.requires.names c.args.body.now c.args.logs.now.items c.in-Some.owned (sym c.is_passed_over.ensures ∙ c.if-is_passed_over.false)
    (some_of (IsOwnedEntry (length c.args.names.now)) (λ owned. entry_body (naming_of c.args.names.now) owned.0 owned.1) c.args.body.now c.in_ok-owned.field-0 c.in-Some.owned c.in-Some.is c.in_ok-owned.ensures)
    (omega (arith, c.if-is_early.ensures, c.len.ensures))

pub returns : goal.returns
returns c =
    let read = some_of (IsOwnedEntry (length c.args.names.now)) (λ owned. entry_body (naming_of c.args.names.now) owned.0 owned.1) c.args.body.now c.in_ok-owned.field-0 c.in-Some.owned c.in-Some.is c.in_ok-owned.ensures in
    inr (
      sym c.is_passed_over.ensures ∙ c.if-is_passed_over.false,
      record { owner = c.in-Some.owned.0; entry = c.in-Some.owned.1; within = read.0; is = read.1; entries = c.in_ok-append_owned.ensures.entries; long = c.in_ok-append_owned.ensures.long },
    )

use Rattle.std.proofs.Common.{sym, subst, length, ℕ, List}
use Rattle.std.specs.Prelude.{IfOk}
use Rattle.trace_text.specs.Inside.Parts.{IsEntryWith, entry_rest}
use Rattle.trace_text.specs.Naming.{naming_of}
use Rattle.trace_text.specs.Reading.{ReadsAs}
use Rattle.trace_text.proofs.EntryReading.{no_word}
use Rattle.trace_text.proofs.reading.entries.read_behind.Goals as goal

pub returns-then-is_word : goal.returns-then-is_word
returns-then-is_word c =
    subst (λ (word : List ℕ). ReadsAs (IsEntryWith (length c.args.names.now) word) (entry_rest (naming_of c.args.names.now)) c.args.behind.now c.read_did.result) (sym c.if-is_word.ensures)
    (c.read_did.ensures (length c.args.names.now) (naming_of c.args.names.now))

pub returns-then-is_word-2 : goal.returns-then-is_word-2
returns-then-is_word-2 c =
    subst (λ (word : List ℕ). IfOk c.read_took.result (ReadsAs (IsEntryWith (length c.args.names.now) word) (entry_rest (naming_of c.args.names.now)) c.args.behind.now)) (sym c.if-is_word-2.ensures) c.read_took.ensures

pub returns-then-is_word-3 : goal.returns-then-is_word-3
returns-then-is_word-3 c =
    subst (λ (word : List ℕ). IfOk c.read_computed.result (ReadsAs (IsEntryWith (length c.args.names.now) word) (entry_rest (naming_of c.args.names.now)) c.args.behind.now)) (sym c.if-is_word-3.ensures) c.read_computed.ensures

pub returns-then-is_word-4 : goal.returns-then-is_word-4
returns-then-is_word-4 c =
    subst (λ (word : List ℕ). IfOk c.read_sent.result (ReadsAs (IsEntryWith (length c.args.names.now) word) (entry_rest (naming_of c.args.names.now)) c.args.behind.now)) (sym c.if-is_word-4.ensures) c.read_sent.ensures

pub returns : goal.returns
returns c = no_word (naming_of c.args.names.now) (length c.args.names.now) c.args.word.now c.args.behind.now c.if-is_word.ensures c.if-is_word-2.ensures c.if-is_word-3.ensures c.if-is_word-4.ensures

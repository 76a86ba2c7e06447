use Rattle.std.proofs.Common.{◌≡◌, ◌<◌, ◌++◌, length}
use Rattle.std.specs.Io.{StartsWith}
use Rattle.std.specs.Prelude.{All}
use Rattle.trace_text.specs.Named.{naming}
use Rattle.trace_text.specs.Lines.{after_commas}
use Rattle.trace_text.specs.Notes.{key_text}
use Rattle.trace_text.proofs.printing.sources.append_other_keys.Given as goal

abbrev pub invariant-loop-key : goal.invariant-loop-key
invariant-loop-key l = record {
  named : All (λ pair. pair.0 < length l.book) l.key-iterator;
  kept : StartsWith l.out.items l.fn.out.items;
  out : l.out.items ++ after_commas (key_text (naming l.book)) l.key-iterator ≡ l.fn.out.items ++ after_commas (key_text (naming l.book)) l.fn.pairs;
}

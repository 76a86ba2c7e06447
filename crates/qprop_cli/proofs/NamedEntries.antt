-- The logs of a network name services of its book alone.
use Rattle.std.proofs.Common.{ℕ, zero, suc, ◌<◌, List, [], ◌∷◌, length, inl, inr, refl, sym, subst, arith}
use Rattle.std.specs.Prelude.{All}
use Rattle.propagation.specs.History.{Book, now}
use Rattle.propagation.specs.Lists.{Has}
use Rattle.propagation.specs.Logs.{Entry as TheEntry, Leg}
use Rattle.propagation.specs.Stamps.{Stamps, keys}
use Rattle.svc_graph.specs.declared.definition.Definition.{Definition}
use Rattle.svc_value.specs.declared.value.Value.{Value}
use Rattle.node_core.specs.declared.entry.Entry.{Entry}
use Rattle.node_core.specs.declared.entry.Entry.TheVariants.{Did, Took, Computed, Sent}
use Rattle.node_core.specs.Entries.{Extends, IsEntry}
use Rattle.settle_core.specs.Legs.{InLeg, IsLegal, IsNetwork}
use Rattle.settle_core.specs.Net.{NetworkView, rank_at, service_at}
use Rattle.settle_core.proofs.RowLemmas.{born_declared}
use Rattle.trace_text.specs.Named.{KeysBelow, NamesBelow}
use Rattle.qprop_cli.proofs.BornLemmas.{computed_born, sent_born, took_born}

-- each key is one of the first services, where all of the list are
pub keys_below : (count : ℕ) (stamps : Stamps) → ((q : ℕ) → Has (keys stamps) q → q < count) → KeysBelow count stamps
keys_below count [] all k d less = absurd (omega (arith, less))
keys_below count (pair ∷ rest) all zero d less = all pair.0 (inl refl)
keys_below count (pair ∷ rest) all (suc k) d less = keys_below count rest (λ q has. all q (inr has)) k d (omega (arith, less))

-- what stands in a log stands in the longer one
stays : (entries : List Entry) (log longer : List (TheEntry Value)) → Extends log entries longer → (x : TheEntry Value) → Has log x → Has longer x
stays [] log longer same x has = let P : List (TheEntry Value) → Type 0 = λ l. Has l x in subst P (sym same) has
stays (entry ∷ entries) log longer (said, is, rest) x has = stays entries (said ∷ log) longer rest x (inr has)

-- what holds of each entry that says one of the log holds of all
module _ (P : Entry → Type 0) (whole : List (TheEntry Value)) (holds : (entry : Entry) (said : TheEntry Value) → IsEntry entry said → Has whole said → P entry) where
  all_said : (entries : List Entry) (log : List (TheEntry Value)) → Extends log entries whole → All P entries
  all_said [] log is k d less = absurd (omega (arith, less))
  all_said (entry ∷ entries) log (said, is, rest) zero d less = holds entry said is (stays entries (said ∷ log) whole rest said (inl refl))
  all_said (entry ∷ entries) log (said, is, rest) (suc k) d less = all_said entries (said ∷ log) rest k d (omega (arith, less))

module _ (net : NetworkView) (g : Leg Value Definition) (low : ℕ → Stamps) (logs : ℕ → List (TheEntry Value)) (leg : InLeg net g low logs) where
  -- who is born by the end of the leg is of the book
  pub declared_of : (q : ℕ) → 0 < now g.book q → q < length net.rows
  declared_of q born = born_declared net.rows q (let P : Book Value Definition → Type 0 = λ b. 0 < now b q in subst P leg.book born)

  entry_named : (n : ℕ) (entry : Entry) (said : TheEntry Value) → IsEntry entry said → Has (logs n) said → NamesBelow (length net.rows) entry
  entry_named n (Did clock) said is has = tt
  entry_named n (Took p bytes) said (frame, message, is) has =
      declared_of p (took_born g (rank_at net.rows) logs leg.accepted leg.fits.legal n p frame (subst (λ (x : TheEntry Value). Has (logs n) x) is has))
  entry_named n (Computed c) said is has =
      keys_below (length net.rows) c.stamps (λ q key.
      declared_of q (computed_born g (rank_at net.rows) logs leg.accepted leg.fits.legal n c.value c.stamps c.picks (subst (λ (x : TheEntry Value). Has (logs n) x) is has) q key))
  entry_named n (Sent q bytes) said (frame, message, is) has =
      declared_of q (sent_born g (rank_at net.rows) logs leg.accepted leg.fits.legal n q frame (subst (λ (x : TheEntry Value). Has (logs n) x) is has))

  pub log_named : (n : ℕ) → All (NamesBelow (length net.rows)) (service_at net.services n).entries
  log_named n = all_said (NamesBelow (length net.rows)) (logs n) (entry_named n) (service_at net.services n).entries [] (leg.are_logs n)

pub entries_named : (net : NetworkView) → IsNetwork net → IsLegal net → (n : ℕ) → All (NamesBelow (length net.rows)) (service_at net.services n).entries
entries_named net is legal n = log_named net legal.has.leg legal.has.low legal.has.logs legal.has.is n

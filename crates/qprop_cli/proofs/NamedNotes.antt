-- The notes of a network's events name services of its book alone.
use Rattle.std.proofs.Common.{ℕ, List, [], ◌∷◌, length, Option, Some, None, sym, subst}
use Rattle.propagation.specs.Logs.{Entry as TheEntry, Frame, Leg}
use Rattle.propagation.specs.Notes.{Note}
use Rattle.propagation.specs.Stamps.{Stamps}
use Rattle.service_machine.specs.Noting.{change_note, choice_note, event_note, take_note}
use Rattle.service_machine.specs.Steps.{choice_of}
use Rattle.service_machine.specs.Systems.{System, in_flight}
use Rattle.service_machine.specs.Turning.{Choice}
use Rattle.service_machine.specs.Turning.Choice.{Advance, Compute, Empty, Lags, Still}
use Rattle.svc_graph.specs.declared.definition.Definition.{Definition}
use Rattle.svc_value.specs.declared.value.Value.{Value}
use Rattle.settle_core.specs.declared.event.Event.{Event}
use Rattle.settle_core.specs.declared.event.Event.TheVariants.{Do, Take, Turn}
use Rattle.settle_core.specs.Events.{AreDeclared, Happens, event_of}
use Rattle.settle_core.specs.Legs.{InLeg, IsNetwork}
use Rattle.settle_core.specs.Net.{NetworkView, rank_at, service_at, system_of}
use Rattle.trace_text.specs.Notes.{IsNoteOf}
use Rattle.qprop_cli.proofs.BornLemmas.{NamesBorn, choice_born}
use Rattle.qprop_cli.proofs.NamedEntries.{declared_of}

module _ (count : ℕ) where
  change_named : {D : Type 0} (left : List D) → IsNoteOf count (change_note left)
  change_named [] = tt
  change_named (d ∷ rest) = tt

  take_named : {V : Type 0} (frame : Option (Frame V)) → IsNoteOf count (take_note frame)
  take_named None = tt
  take_named (Some frame) = tt

module _ (net : NetworkView) (g : Leg Value Definition) (low : ℕ → Stamps) (logs : ℕ → List (TheEntry Value)) (leg : InLeg net g low logs) where
  abbrev w : System Value Definition
  w = system_of net.services logs

  choice_named : (n : ℕ) (c : Choice) → NamesBorn g (rank_at net.rows) low w leg.accepted leg.fits leg.lows n c → IsNoteOf (length net.rows) (choice_note c)
  choice_named n (Advance p) born = tt
  choice_named n Compute born = tt
  choice_named n (Empty p) born = declared_of net g low logs leg p born
  choice_named n (Lags p key) born = (declared_of net g low logs leg p born.0, declared_of net g low logs leg key born.1)
  choice_named n Still born = tt

  event_named : (e : Event) → IsNoteOf (length net.rows) (event_note w (event_of e))
  event_named (Do n) = change_named (length net.rows) (service_at net.services n).state.left
  event_named (Take n p) = take_named (length net.rows) (in_flight logs n p)
  event_named (Turn n) = choice_named n (choice_of (service_at net.services n).state) (choice_born g (rank_at net.rows) low w leg.accepted leg.fits leg.lows n)

pub note_named : (old new : NetworkView) → IsNetwork old → (e : Event) → AreDeclared (length old.rows) e → (note : Note) → Happens (event_of e) note old new → IsNoteOf (length old.rows) note
note_named old new is e declared note happened =
    let has = is.has_leg in
    let h = happened has.leg has.low has.logs has.is in
    subst (λ x. IsNoteOf (length old.rows) x) (sym h.note_is) (event_named old has.leg has.low has.logs has.is e)

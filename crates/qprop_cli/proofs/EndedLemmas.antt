-- A leg has been run where nothing is left to do in it.
use Rattle.std.proofs.Common.{◌≡◌, ◌∙◌, sym, ap, subst, ℕ, ◌+◌, ◌≤◌, arith, ltb, true, List, ◌++◌, [], inl, inr, length, length-append, map, reverse}
use Rattle.std.proofs.lemmas.Bool.{cases_Bool, ltb-true, ltb-false}
use Rattle.std.proofs.lemmas.List.{get_or_past}
use Rattle.propagation.specs.History.{Book, now}
use Rattle.propagation.specs.Logs.{Entry as TheEntry, Leg as TheLeg}
use Rattle.propagation.specs.Notes.{Noted, FollowsNotes}
use Rattle.propagation.specs.Stamps.{Stamps}
use Rattle.propagation.proofs.Truth.{computations_are_true}
use Rattle.propagation.proofs.WorkBound.{work_is_bounded}
use Rattle.settle_core.specs.Quiet.{is_quiet}
use Rattle.settle_core.specs.Legs.{InLeg, IsNetwork}
use Rattle.settle_core.specs.Net.{NetworkView, unborn, service_at, start_of, rank_at}
use Rattle.settle_core.specs.Opening.{Opened, changes_of}
use Rattle.settle_core.proofs.LegLemmas.{none_past}
use Rattle.settle_core.proofs.OpenedLemmas.{history_after, length_coming}
use Rattle.settle_core.proofs.QuietLemmas.{quiet_family, settled_family}
use Rattle.svc_graph.specs.declared.definition.Definition.{Definition}
use Rattle.svc_graph.specs.History.{Row, declared_row, history_of, present}
use Rattle.node_core.specs.Coming.{coming}
use Rattle.node_core.specs.View.{NodeView}
use Rattle.svc_plan.specs.declared.plan.Leg.{Leg}
use Rattle.svc_plan.specs.Rows.{IsLegAfter}
use Rattle.svc_value.specs.declared.value.Value.{Value}
use Rattle.svc_value.specs.declared.value.ValueType.TheVariants.{Int}
use Rattle.qprop_cli.specs.Commands.Step.{as_step, HasRun}

-- a leg begins at the end of the histories before it
pub opened_start : (old new : NetworkView) (leg : Leg) → IsLegAfter old.rows leg → Opened leg old new → (n : ℕ) → start_of new n ≡ length (history_of old.rows n)
opened_start old new leg after opens n =
    let history : history_of new.rows n ≡ history_of old.rows n ++ coming (present (history_of old.rows n)) (changes_of n leg.changes) = ap (λ (rs : List Row). history_of rs n) opens.rows ∙ history_after old.rows leg n after in
    let coming_count : length (coming (present (history_of old.rows n)) (changes_of n leg.changes)) ≡ length (changes_of n leg.changes) = length_coming (present (history_of old.rows n)) (changes_of n leg.changes) in
    let whole : length (history_of new.rows n) ≡ length (history_of old.rows n) + length (coming (present (history_of old.rows n)) (changes_of n leg.changes)) =
    ap (λ (ds : List Definition). length ds) history ∙ length-append (history_of old.rows n) (coming (present (history_of old.rows n)) (changes_of n leg.changes)) in
    elim (cases_Bool (ltb n (length new.services))) [
      | inl t ↦ (let own : length (service_at new.services n).changes ≡ length (changes_of n leg.changes) = ap (λ (s : NodeView). length s.changes) (opens.each n (ltb-true n (length new.services) t)) in omega arith)
      | inr f ↦ (let past : length new.services ≤ n = ltb-false n (length new.services) f in
          let own : length (service_at new.services n).changes ≡ 0 = ap (λ (s : NodeView). length s.changes) (get_or_past new.services n (unborn n) past) in
          let count : length new.services ≡ length new.rows = opens.count in
          let none : length (history_of new.rows n) ≡ 0 = ap (λ (row : Row). length row.history) (get_or_past new.rows n (declared_row [] 0 Int) (omega arith)) in omega arith)
    ]

-- a quiet network in a leg that began after these rows has run it
unfoldable pub has_run : (before : List Row) (network : NetworkView) (leg : Leg) → IsNetwork network → is_quiet network ≡ true → (g : TheLeg Value Definition) (low : ℕ → Stamps) (logs : ℕ → List (TheEntry Value)) → InLeg network g low logs →
    ((n : ℕ) → g.start n ≡ length (history_of before n)) → (lines : Noted) → map (λ line. line.0) lines ≡ reverse (map (λ step. as_step step.event) leg.steps) → FollowsNotes g logs lines → HasRun before leg network
has_run before network leg kept quiet g low logs here start lines lines_are follows =
    let P : Book Value Definition → Type 0 = λ b. (n : ℕ) → 64 ≤ n → now b n ≡ 0 in
    let bounded = work_is_bounded Value Definition g (rank_at network.rows) logs 64 here.accepted here.fits.legal (subst P (sym here.book) (none_past network.rows kept.book.few)) in
    record {
      has = record { leg = g; low = low; logs = logs; is = here };
      start = start;
      legal = here.fits.legal;
      truth = λ n v S picks has. computations_are_true Value Definition g (rank_at network.rows) logs here.accepted here.fits.legal n v S picks has;
      work = bounded.0;
      carried = bounded.1;
      lines = lines;
      lines_are = lines_are;
      follows = follows;
      quiet = quiet_family network kept quiet g low logs here;
      settled = settled_family network kept quiet g low logs here;
    }

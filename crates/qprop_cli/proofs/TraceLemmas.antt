-- The trace of a leg that was run, and its block.
use Rattle.std.proofs.Common.{◌≡◌, ◌∙◌, sym, ap, subst, refl, ℕ, zero, suc, ◌+◌, ◌<◌, arith, true, List, [], ◌∷◌, ◌++◌, append_assoc, append-nil, All, length, take, slice_index_or, Bor, Option, Some, None}
use Rattle.std.specs.Option.{IsSome, option_copied}
use Rattle.std.proofs.lemmas.List.{length-map, length-take-le, take_more}
use Rattle.std.proofs.lemmas.List.Elements.{All-map}
use Rattle.command_words.specs.declared.trace_flags.TraceFlags.{TraceFlags}
use Rattle.propagation.specs.Notes.{Note}
use Rattle.propagation.specs.Logs.{Emission}
use Rattle.propagation.specs.Stamps.{Stamps, keys}
use Rattle.node_core.specs.declared.entry.Entry.{Entry}
use Rattle.node_core.specs.View.{NodeView}
use Rattle.settle_core.specs.Legs.{IsLegal, IsNetwork, IsSettled}
use Rattle.settle_core.specs.Net.{NetworkView, service_at, unborn}
use Rattle.settle_core.specs.Quiet.{is_quiet}
use Rattle.settle_core.proofs.QuietLemmas.{quiet_family, settled_family}
use Rattle.svc_graph.specs.Central.{AreCentral}
use Rattle.svc_graph.specs.History.{Row}
use Rattle.svc_plan.specs.declared.plan.Leg.{Leg}
use Rattle.svc_plan.specs.Rows.{rows_after}
use Rattle.svc_value.specs.declared.value.Value.{Value}
use Rattle.trace_text.specs.Blocks.{Trace, if_wanted, trace_lines, IsTraceOf}
use Rattle.trace_text.specs.Lines.{family_text, log_text, logs_text}
use Rattle.trace_text.specs.Named.{naming, KeysBelow, NamesBelow}
use Rattle.trace_text.specs.Naming.{Naming}
use Rattle.trace_text.specs.Notes.{IsNoteOf, sources_line, sources_lines}
use Rattle.trace_text.specs.Settled.{settled_block}
use Rattle.qprop_cli.specs.Commands.Step.{ListsReach, all_sources, logs_of, sources_of, trace_of, wanted}
use Rattle.qprop_cli.specs.Inside.Blocks.{IsTracedBlock}
use Rattle.qprop_cli.specs.Inside.StepLines.{RunsLeg}
use Rattle.qprop_cli.proofs.NamedEntries.{entries_named}
use Rattle.qprop_cli.proofs.SourceLemmas.{sources_are_reach}

-- ---- one service more

log_next : (name : Naming) (n : ℕ) (nodes : List NodeView) (node : NodeView) → logs_text name n (logs_of nodes) ++ log_text name (n + length nodes) node.entries ≡ logs_text name n (logs_of (nodes ++ node ∷ []))
log_next name n [] node =
    let here : n + 0 ≡ n = omega arith in ap (λ k. log_text name k node.entries) here ∙ sym (append-nil (log_text name n node.entries))
log_next name n (first ∷ nodes) node =
    let number : n + suc (length nodes) ≡ suc n + length nodes = omega arith in
    append_assoc (log_text name n first.entries) (logs_text name (suc n) (logs_of nodes)) (log_text name (n + suc (length nodes)) node.entries)
    ∙ ap (λ (t : List ℕ). log_text name n first.entries ++ t) (ap (λ k. logs_text name (suc n) (logs_of nodes) ++ log_text name k node.entries) number ∙ log_next name (suc n) nodes node)

source_next : (name : Naming) (n : ℕ) (nodes : List NodeView) (node : NodeView) →
    sources_lines name n (all_sources nodes) ++ sources_line name (n + length nodes) (sources_of node.state.last) ≡ sources_lines name n (all_sources (nodes ++ node ∷ []))
source_next name n [] node =
    let here : n + 0 ≡ n = omega arith in ap (λ k. sources_line name k (sources_of node.state.last)) here ∙ sym (append-nil (sources_line name n (sources_of node.state.last)))
source_next name n (first ∷ nodes) node =
    let number : n + suc (length nodes) ≡ suc n + length nodes = omega arith in
    let own : List ℕ = sources_line name n (sources_of first.state.last) in
    append_assoc own (sources_lines name (suc n) (all_sources nodes)) (sources_line name (n + suc (length nodes)) (sources_of node.state.last))
    ∙ ap (λ (t : List ℕ). own ++ t) (ap (λ k. sources_lines name (suc n) (all_sources nodes) ++ sources_line name k (sources_of node.state.last)) number ∙ source_next name (suc n) nodes node)

module _ (services : List NodeView) (i : ℕ) (less : i < length services) where
  abbrev node : NodeView
  node = service_at services i

  next : take (i + 1) services ≡ take i services ++ node ∷ []
  next = take_more services i (unborn i) less

  counted : i ≡ 0 + length (take i services)
  counted = omega (arith, length-take-le i services (omega (arith, less)))

  pub log_more : (name : Naming) (first before after : List ℕ) → before ≡ first ++ logs_text name 0 (logs_of (take i services)) → after ≡ before ++ log_text name i node.entries →
      after ≡ first ++ logs_text name 0 (logs_of (take (i + 1) services))
  log_more name first before after so_far more =
      let whole : logs_text name 0 (logs_of (take i services)) ++ log_text name i node.entries ≡ logs_text name 0 (logs_of (take (i + 1) services)) =
      ap (λ k. logs_text name 0 (logs_of (take i services)) ++ log_text name k node.entries) counted ∙ log_next name 0 (take i services) node ∙ ap (λ (ns : List NodeView). logs_text name 0 (logs_of ns)) (sym next) in
      more ∙ ap (λ (t : List ℕ). t ++ log_text name i node.entries) so_far ∙ append_assoc first _ _ ∙ ap (λ (t : List ℕ). first ++ t) whole

  pub source_more : (name : Naming) (first before after : List ℕ) → before ≡ first ++ sources_lines name 0 (all_sources (take i services)) → after ≡ before ++ sources_line name i (sources_of node.state.last) →
      after ≡ first ++ sources_lines name 0 (all_sources (take (i + 1) services))
  source_more name first before after so_far more =
      let own : List ℕ = sources_line name i (sources_of node.state.last) in
      let whole : sources_lines name 0 (all_sources (take i services)) ++ own ≡ sources_lines name 0 (all_sources (take (i + 1) services)) =
      ap (λ k. sources_lines name 0 (all_sources (take i services)) ++ sources_line name k (sources_of node.state.last)) counted ∙ source_next name 0 (take i services) node ∙ ap (λ (ns : List NodeView). sources_lines name 0 (all_sources ns)) (sym next) in
      more ∙ ap (λ (t : List ℕ). t ++ own) so_far ∙ append_assoc first _ _ ∙ ap (λ (t : List ℕ). first ++ t) whole

-- ---- what a node lends of its last emission

pub lent_some : (lent : Option (Bor Stamps)) (m : Emission Value) → option_copied lent ≡ Some m.stamps → IsSome lent
lent_some None m is = absurd (cc is)
lent_some (Some stamps) m is = refl

pub lent_stamps : (lent : Option (Bor Stamps)) (stamps : Bor Stamps) (m : Emission Value) → lent ≡ Some stamps → option_copied lent ≡ Some m.stamps → stamps.now ≡ m.stamps
lent_stamps lent stamps m some is = one (stamps.now) m.stamps (sym (ap (λ (l : Option (Bor Stamps)). option_copied l) some) ∙ is)
  where
    one : (a b : Stamps) → Some a ≡ Some b → a ≡ b
    one a b e = cc e

-- ---- the block of a leg

-- an item that is there is found whatever stands for one that is not
other_default : (nodes : List NodeView) (k : ℕ) (d e : NodeView) → k < length nodes → slice_index_or nodes k d ≡ slice_index_or nodes k e
other_default [] k d e less = absurd (omega (arith, less))
other_default (node ∷ nodes) zero d e less = refl
other_default (node ∷ nodes) (suc k) d e less = other_default nodes k d e (omega (arith, less))

-- a quiet network is settled
pub is_settled : (network : NetworkView) → IsNetwork network → is_quiet network ≡ true → IsSettled network
is_settled network is quiet =
    let has = is.has_leg in
    record {
      has = has;
      legal = has.is.fits.legal;
      quiet = quiet_family network is quiet has.leg has.low has.logs has.is;
      settled = settled_family network is quiet has.leg has.low has.logs has.is;
    }

module _ (network : NetworkView) (is : IsNetwork network) (quiet : is_quiet network ≡ true) where
  -- what service n rests on, as its last emission has it
  pub source : (n : ℕ) → n < length network.rows → (m : Emission Value) × ((service_at network.services n).state.last ≡ Some m) × KeysBelow (length network.rows) m.stamps × ListsReach network.rows n (keys m.stamps)
  source = sources_are_reach network is (is_settled network is quiet)

  reach : (n : ℕ) → n < length network.rows → ListsReach network.rows n (sources_of (service_at network.services n).state.last)
  reach n less =
      let has = source n less in
      subst (λ last. ListsReach network.rows n (sources_of last)) (sym has.1) has.3

  pub keys_below : (count : ℕ) (stamps : List (ℕ × ℕ)) → KeysBelow count stamps → All (λ key. key < count) (keys stamps)
  keys_below count [] below k d less = absurd (omega (arith, less))
  keys_below count (pair ∷ stamps) below zero d less = below 0 pair (omega arith)
  keys_below count (pair ∷ stamps) below (suc k) d less = keys_below count stamps (λ j e l. below (suc j) e (omega (arith, l))) k d (omega (arith, less))

  within : (notes : List (ℕ × Note)) → IsLegal network → All (λ (step : ℕ × Note). IsNoteOf (length network.rows) step.1) notes → IsTraceOf (length network.rows) (trace_of notes network)
  within notes legal named =
      let count : length network.services ≡ length network.rows = is.count in
      let P : List Entry → Type 0 = λ log. All (NamesBelow (length network.rows)) log in
      let Q : List ℕ → Type 0 = λ services. All (λ key. key < length network.rows) services in
      record {
        notes = named;
        logs = length-map network.services (λ (node : NodeView). node.entries) ∙ count;
        entries = All-map P (λ (node : NodeView). node.entries) network.services (λ k d less.
            subst (λ (node : NodeView). P node.entries) (other_default network.services k (unborn k) d less) (entries_named network is legal k));
        lists = length-map network.services (λ (node : NodeView). sources_of node.state.last) ∙ count;
        sources = All-map Q (λ (node : NodeView). sources_of node.state.last) network.services (λ k d less.
            let has = source k (omega (arith, less, count)) in
            subst (λ (node : NodeView). Q (sources_of node.state.last)) (other_default network.services k (unborn k) d less)
            (subst (λ last. Q (sources_of last)) (sym has.1) (keys_below (length network.rows) has.0.stamps has.2)));
      }

  pub traced_block : (flags : TraceFlags) (k : ℕ) (before : List Row) (leg : Leg) (values : List Value) (noted traced block : List ℕ) → network.rows ≡ rows_after before leg → IsLegal network → AreCentral network.rows values →
      RunsLeg flags.trace before leg network [] noted →
      traced ≡ noted ++ (if_wanted flags.trace (family_text (naming network.rows) (logs_of network.services)) ++ if_wanted flags.sources (sources_lines (naming network.rows) 0 (all_sources network.services))) →
      block ≡ traced ++ settled_block k network.rows values → IsTracedBlock flags k before leg network block
  traced_block flags k before leg values noted traced block rows legal central runs lines settled =
      let trace : Trace = trace_of runs.notes network in
      let rest : List ℕ = if_wanted flags.trace (family_text (naming network.rows) (logs_of network.services)) ++ if_wanted flags.sources (sources_lines (naming network.rows) 0 (all_sources network.services)) in
      let said : block ≡ trace_lines (wanted flags) (naming network.rows) trace ++ settled_block k network.rows values =
      settled ∙ ap (λ (t : List ℕ). t ++ settled_block k network.rows values) (lines ∙ ap (λ (t : List ℕ). t ++ rest) runs.text) in
      record {
        values = values;
        central = subst (λ (rs : List Row). AreCentral rs values) rows central;
        trace = trace;
        traced = record { rows = rows; run = runs.run; notes = runs.notes; numbered = runs.numbered; is = refl; reach = reach };
        within = subst (λ (rs : List Row). IsTraceOf (length rs) trace) rows (within runs.notes legal runs.named);
        text = subst (λ (rs : List Row). block ≡ trace_lines (wanted flags) (naming rs) trace ++ settled_block k rs values) rows said;
      }

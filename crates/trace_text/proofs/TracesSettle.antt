-- Without its trace lines the text of legs is their settled text.
use Rattle.std.proofs.Common.{◌≡◌, ◌∙◌, sym, subst, ℕ, zero, suc, arith, List, [], ◌∷◌, ◌++◌, length}
use Rattle.svc_graph.specs.History.{Row}
use Rattle.svc_plan.specs.declared.plan.Leg.{Leg}
use Rattle.svc_plan.specs.Rows.{rows_after, AreLegsAfter}
use Rattle.trace_text.specs.Blocks.{Flags, Trace, trace_lines}
use Rattle.trace_text.specs.Named.{naming}
use Rattle.trace_text.specs.Names.{HaveNames}
use Rattle.trace_text.specs.Naming.{AreNamed}
use Rattle.trace_text.specs.Settled.{settled_block, Settles}
use Rattle.trace_text.specs.Traces.{Traces}
use Rattle.trace_text.specs.Untraced.{untraced}
use Rattle.trace_text.proofs.LeavingOut.{trace_goes}
use Rattle.trace_text.proofs.Untracing.{block_stays, names_after}

-- the services of rows that have names
pub named_of : (rows : List Row) → HaveNames rows → AreNamed (naming rows) (length rows)
named_of [] names n lt = absurd (omega (arith, lt))
named_of (row ∷ rows) names zero lt = names.0
named_of (row ∷ rows) names (suc n) lt = named_of rows names.1 n (omega (arith, lt))

pub untraced_settles : (flags : Flags) (k : ℕ) (rows : List Row) (legs : List Leg) (traces : List Trace) (text : List ℕ) → HaveNames rows → AreLegsAfter rows legs →
    Traces flags k rows legs traces text → Settles k rows legs (untraced text)
untraced_settles flags k rows [] traces text names each Traces.none = Settles.none
untraced_settles flags k rows (next ∷ legs) traces text names each (Traces.leg {values = values} {trace = trace} {traces = others} {text = rest} central is later) =
    let there = rows_after rows next in
    let here = names_after rows next names each.0.services in
    let block : List ℕ = settled_block (suc k) there values in
    let without : untraced (trace_lines flags (naming there) trace ++ (block ++ rest)) ≡ block ++ untraced rest =
    trace_goes (naming there) (length there) (named_of there here) flags trace (block ++ rest) is ∙ block_stays (suc k) there values rest here in
    subst (λ (t : List ℕ). Settles k rows (next ∷ legs) t) (sym without) (Settles.leg central (untraced_settles flags (suc k) there legs others rest here each.1 later))

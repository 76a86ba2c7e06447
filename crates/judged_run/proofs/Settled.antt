-- A legal run is legal and quiet in each block, so each block is settled and its computations are true.
use Rattle.std.proofs.Common.{◌≡◌, ℕ, List, [], ◌∷◌, Some}
use Rattle.propagation.proofs.Lists.{slice_get-Has}
use Rattle.propagation.proofs.Settling.{quiet_is_settled}
use Rattle.propagation.proofs.Truth.{computations_are_true}
use Rattle.judged_run.specs.Texts.{LegPlan, RunPlan, Line, leg_plan, blocks, family}
use Rattle.judged_run.specs.Texts.Line.{passed_line, log_line, settle_line, value_line, other_line}
use Rattle.judged_run.specs.Runs.{EachBlock, BlockIsLegal, BlockIsSettled}
use Rattle.judged_run.specs.LineRules.{IsLegalRun}
use Rattle.judged_run.specs.Written.{IsTraced}
use Rattle.judged_run.specs.Laws.{LegalRunsAreRuns, LegalRunsAreSettled, LegalRunsAreTraced}
use Rattle.judged_run.proofs.Sound.{legal-run}
use Rattle.judged_run.proofs.Complete.{run-legal}
use Rattle.judged_run.proofs.Parsed.{run-written}
use Rattle.judged_run.proofs.Unparsed.{written-run}
use Rattle.judged_run.proofs.Traced.{written-traced, traced-written, settled-text}

-- what holds of each block, where that gives something else
each-block : {V D : Type 0} {P Q : LegPlan V D → List (Line V) → Type 0} (plan : RunPlan V D) → ((s : LegPlan V D) (past : List (Line V)) (k : ℕ) → leg_plan plan k ≡ Some s → P s past → Q s past) →
    (past rest : List (Line V)) → EachBlock P plan past rest → EachBlock Q plan past rest
each-block plan f past [] all = tt
each-block plan f past (passed_line ∷ ahead) all = each-block plan f (passed_line ∷ past) ahead all
each-block plan f past (log_line n y ∷ ahead) all = each-block plan f (log_line n y ∷ past) ahead all
each-block plan f past (settle_line j ∷ ahead) all = (λ s is. f s past (blocks past) is (all.0 s is), each-block plan f (settle_line j ∷ past) ahead all.1)
each-block plan f past (value_line n v ∷ ahead) all = each-block plan f (value_line n v ∷ past) ahead all
each-block plan f past (other_line ∷ ahead) all = each-block plan f (other_line ∷ past) ahead all

pub legal_runs_are_runs : (V D : Type 0) → LegalRunsAreRuns V D
legal_runs_are_runs V D plan lines good = (legal-run plan good lines, run-legal plan good lines)

pub legal_runs_are_settled : (V D : Type 0) → LegalRunsAreSettled V D
legal_runs_are_settled V D plan lines good all =
    each-block {P = BlockIsLegal} {Q = BlockIsSettled} plan
    (λ s past k is block.
    let st = good s (slice_get-Has plan.legs k s is) in
    record {
      settled = quiet_is_settled V D s.leg st.rank (family past) st.accepted block.legal block.quiet;
      true_all = λ n v S picks h. (computations_are_true V D s.leg st.rank (family past) st.accepted block.legal n v S picks h).0;
    })
    [] lines (legal-run plan good lines all).legal

pub legal_runs_are_traced : (V D : Type 0) → LegalRunsAreTraced V D
legal_runs_are_traced V D plan lines good =
    let to : IsLegalRun plan lines → IsTraced plan lines = λ all. written-traced plan good lines (run-written plan lines (legal-run plan good lines all) all) in
    ((to, λ h. run-legal plan good lines (written-run plan good lines (traced-written plan good lines h))), λ all. settled-text plan lines (to all))

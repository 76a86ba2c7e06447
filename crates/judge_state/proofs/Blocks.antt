-- The whole state as lists goes on as the machine does.
use Rattle.std.proofs.Common.{◌≡◌, ℕ, ◌<◌, ◌≤◌, ltb, ◌==◌, map, set, Option, Some, None, inl, inr, refl, sym, ap, ◌∙◌, subst, arith, lt-ltb, ltb-true, if◌then◌else◌}
use Rattle.std.proofs.lemmas.Bool.{cases_Bool, cond-true, cond-false}
use Rattle.std.proofs.lemmas.Bool.Decides.{Decides-eqb}
use Rattle.std.proofs.lemmas.List.{get_or-set_same, get_or-set_other, get_or_past}
use Rattle.propagation.specs.Lists.{as_list}
use Rattle.propagation.specs.History.{deps, edge, now}
use Rattle.propagation.specs.Logs.{Leg, kept_under, stamps_of}
use Rattle.propagation.specs.Rules.{Accepted}
use Rattle.propagation.specs.Notes.{floor}
use Rattle.propagation.proofs.Edges.{dep-edge}
use Rattle.judged_run.specs.Texts.{LegPlan, LogLine}
use Rattle.judged_run.specs.Texts.LogLine.{entry, took_bytes, sent_bytes}
use Rattle.judged_run.specs.Texts.Position.{in_logs}
use Rattle.judged_run.specs.LogStates.{state_before, after_log_line}
use Rattle.judged_run.specs.Machine.{no_state, states_before, states_after}
use Rattle.judged_run.proofs.Pointwise.{SameState, state-same}
use Rattle.judge_state.specs.Lists.{state_of}
use Rattle.judge_state.specs.Laws.{AreLogLists}
use Rattle.judge_state.specs.Blocks.{no_lists, lists_at, sent_from_to, lists_after_line, MayStand, BlockListsBegin, BlockListsGoOn}
use Rattle.judge_state.proofs.Lists.{log_lists_go_on}

module _ {V D : Type 0} (g : Leg V D) (rank : ℕ → ℕ) (acc : Accepted g rank) (n : ℕ) (unborn : now g.book n ≡ 0) where
  start-none : g.start n ≡ 0
  start-none = let le : g.start n ≤ now g.book n = acc.grows n in omega arith

  opened-none : g.opened n ≡ None
  opened-none = acc.opening.unborn n start-none

  edge-in : (p : ℕ) → edge g.book n p (g.start n) ≡ None
  edge-in p = ap (λ c. edge g.book n p c) start-none

  -- no definition names it
  edge-out : (q c : ℕ) → edge g.book q n c ≡ None
  edge-out q c = go (edge g.book q n c) refl
    where
      go : (o : Option ℕ) → edge g.book q n c ≡ o → edge g.book q n c ≡ None
      go None is = is
      go (Some e) is = let pos : 0 < now g.book n = acc.born q c n (dep-edge g.book q n c e is) in absurd (omega arith)

  blank-begun : SameState (no_state {V = V}) (state_before g n)
  blank-begun = record {
    clock = sym start-none;
    edges = λ p. sym (edge-in p);
    heard = λ p e. sym (acc.opening.hears n p e ∙ ap (λ o. stamps_of (kept_under o e (g.opened p))) (edge-in p));
    heard_last = λ p e. sym (acc.opening.hears n p e ∙ ap (λ o. stamps_of (kept_under o e (g.opened p))) (edge-in p));
    came = λ p e. refl;
    took = λ p. refl;
    readers = λ q. sym (ap (λ o. as_list o) (acc.opening.read_by n q ∙ edge-out q (g.start q)));
    told_to = λ q e. sym (acc.opening.tells n q e ∙ ap (λ o. stamps_of (kept_under o e (g.opened n))) (edge-out q (g.start q)));
    told_last = λ q e. sym (acc.opening.tells n q e ∙ ap (λ o. stamps_of (kept_under o e (g.opened n))) (edge-out q (g.start q)));
    top = λ q. sym (ap (λ o. floor (as_list o) q) opened-none);
    last = sym opened-none;
    work = ap (λ c. (c, map (λ p. 0) (deps g.book n c))) (sym start-none);
    due = λ q. refl;
  }

pub blank-state : {V : Type 0} → state_of (no_lists {V = V}) ≡ no_state
blank-state {V} =
    state-same (state_of (no_lists {V = V})) no_state
    (record { clock = refl; edges = λ p. refl; heard = λ p e. refl; heard_last = λ p e. refl; came = λ p e. refl; took = λ p. refl; readers = λ q. refl; told_to = λ q e. refl; told_last = λ q e. refl; top = λ q. refl; last = refl; work = refl; due = λ q. refl })

pub block_lists_begin : (V D : Type 0) → BlockListsBegin V D
block_lists_begin V D plan k least s ahead logs table there good len begin same =
    λ i. record { at = in_logs k least; states = λ n. (state n ∙ ap (λ o. states_before o n) (sym there)) i; current = None; table = λ p q. same p q i }
  where
    state : (n : ℕ) → state_of (lists_at logs n) ≡ state_before s.leg n
    state n =
        elim (cases_Bool (ltb n s.count)) [
          | inl t ↦ begin n (ltb-true n s.count t)
          | inr f ↦
              (let apart : n < s.count → ⊥ = λ lt. cc (f, lt-ltb n s.count lt) in
              let le : s.count ≤ n = omega arith in
              ap (λ t. state_of t) (get_or_past logs n no_lists (omega arith)) ∙ blank-state ∙ state-same no_state (state_before s.leg n) (blank-begun s.leg good.rank good.accepted n (good.unborn n le)))
        ]

pub block_lists_go_on : (V D : Type 0) → BlockListsGoOn V D
block_lists_go_on V D plan d s n x after ahead leg lt good may =
    (λ i. record { at = after; states = λ m. (state m ∙ ap (λ (o : Option (LegPlan V D)). states_after o n x (λ j. state_of (lists_at d.logs j)) m) (sym leg)) i; current = Some n; table = sent_from_to d.table }, still x may)
  where
    said : (y : LogLine V) → MayStand s n y (lists_at d.logs n) → state_of (lists_after_line s.leg.book n y (lists_at d.logs n)) ≡ after_log_line s.leg n y (state_of (lists_at d.logs n))
    said (entry e) may = (log_lists_go_on V D s.leg n s.count e (lists_at d.logs n) good may).0
    said (took_bytes p) may = refl
    said (sent_bytes q) may = refl

    still : (y : LogLine V) → MayStand s n y (lists_at d.logs n) → AreLogLists s.count (lists_after_line s.leg.book n y (lists_at d.logs n))
    still (entry e) may = (log_lists_go_on V D s.leg n s.count e (lists_at d.logs n) good may).1
    still (took_bytes p) may = good
    still (sent_bytes q) may = good

    state : (m : ℕ) → state_of (lists_at (set d.logs n (lists_after_line s.leg.book n x (lists_at d.logs n))) m) ≡ (if n == m then after_log_line s.leg m x (state_of (lists_at d.logs m)) else state_of (lists_at d.logs m))
    state m =
        elim (cases_Bool (n == m)) [
          | inl t ↦
              (let same : n ≡ m = (Decides-eqb n m).0 t in
              subst (λ j. state_of (lists_at (set d.logs n (lists_after_line s.leg.book n x (lists_at d.logs n))) j) ≡ after_log_line s.leg j x (state_of (lists_at d.logs j))) same
              (ap (λ t. state_of t) (get_or-set_same d.logs n (lists_after_line s.leg.book n x (lists_at d.logs n)) no_lists lt) ∙ said x may)
              ∙ sym (cond-true (n == m) (after_log_line s.leg m x (state_of (lists_at d.logs m))) (state_of (lists_at d.logs m)) t))
          | inr f ↦
              ap (λ t. state_of t) (get_or-set_other d.logs n m (lists_after_line s.leg.book n x (lists_at d.logs n)) no_lists (λ e. cc (f, (Decides-eqb n m).1 (sym e))))
              ∙ sym (cond-false (n == m) (after_log_line s.leg m x (state_of (lists_at d.logs m))) (state_of (lists_at d.logs m)) f)
        ]

-- Two states of a log with the same parts are one, so code may keep them in any form that tells each part.
use Rattle.std.proofs.Common.{◌≡◌, ℕ}
use Rattle.judged_run.specs.LogStates.{LogState}
use Rattle.judged_run.specs.Machine.{BlockState}

-- part by part
pub record SameState {V : Type 0} (t u : LogState V) : Type 0 where
  pub clock : t.clock ≡ u.clock
  pub edges : (p : ℕ) → t.edges p ≡ u.edges p
  pub heard : (p e : ℕ) → t.heard p e ≡ u.heard p e
  pub heard_last : (p e : ℕ) → t.heard_last p e ≡ u.heard_last p e
  pub came : (p e : ℕ) → t.came p e ≡ u.came p e
  pub took : (p : ℕ) → t.took p ≡ u.took p
  pub readers : (q : ℕ) → t.readers q ≡ u.readers q
  pub told_to : (q e : ℕ) → t.told_to q e ≡ u.told_to q e
  pub told_last : (q e : ℕ) → t.told_last q e ≡ u.told_last q e
  pub top : (q : ℕ) → t.top q ≡ u.top q
  pub last : t.last ≡ u.last
  pub work : t.work ≡ u.work
  pub due : (q : ℕ) → t.due q ≡ u.due q

pub state-same : {V : Type 0} (t u : LogState V) → SameState t u → t ≡ u
state-same t u s = λ i. record {
  clock = s.clock i;
  edges = λ p. s.edges p i;
  heard = λ p e. s.heard p e i;
  heard_last = λ p e. s.heard_last p e i;
  came = λ p e. s.came p e i;
  took = λ p. s.took p i;
  readers = λ q. s.readers q i;
  told_to = λ q e. s.told_to q e i;
  told_last = λ q e. s.told_last q e i;
  top = λ q. s.top q i;
  last = s.last i;
  work = s.work i;
  due = λ q. s.due q i;
}

pub block-same : {V : Type 0} (j k : BlockState V) → j.at ≡ k.at → ((n : ℕ) → SameState (j.states n) (k.states n)) → j.current ≡ k.current → ((p q : ℕ) → j.table p q ≡ k.table p q) → j ≡ k
block-same j k at states current table = λ i. record { at = at i; states = λ n. state-same (j.states n) (k.states n) (states n) i; current = current i; table = λ p q. table p q i }

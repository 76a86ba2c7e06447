-- What a change keeps.
use Rattle.std.proofs.Common.{◌≡◌, ℕ, suc, ◌≤◌, ◌==◌, Bool, true, false, cond, List, [], ◌∷◌, length, Some, refl, ap, unwrap_or}
use Rattle.std.specs.Prelude.{All}
use Rattle.std.proofs.lemmas.List.Elements.{All-nil, All-cons, All-head, All-tail}
use Rattle.service_machine.specs.States.{edges_to, epoch_in}
use Rattle.service_machine.specs.Steps.{targets}

-- the new edges are to these services
pub edges_targets : (before : List (ℕ × ℕ)) (c : ℕ) (ps : List ℕ) → targets (edges_to before c ps) ≡ ps
edges_targets before c [] = refl
edges_targets before c (p ∷ ps) = ap (λ qs. p ∷ qs) (edges_targets before c ps)

pub edges_length : (before : List (ℕ × ℕ)) (c : ℕ) (ps : List ℕ) → length (edges_to before c ps) ≡ length ps
edges_length before c [] = refl
edges_length before c (p ∷ ps) = ap (λ n. suc n) (edges_length before c ps)

-- their epochs are at least 1
old_epoch : (before : List (ℕ × ℕ)) (c p : ℕ) → 1 ≤ c → All (λ edge. 1 ≤ edge.1) before → 1 ≤ unwrap_or (epoch_in before p) c
old_epoch [] c p le all = le
old_epoch (x ∷ before) c p le all = go (x.0 == p) (old_epoch before c p le (All-tail (λ (z : ℕ × ℕ). 1 ≤ z.1) x before all))
  where
    go : (b : Bool) → 1 ≤ unwrap_or (epoch_in before p) c → 1 ≤ unwrap_or (cond b (Some x.1) (epoch_in before p)) c
    go true h = All-head (λ (z : ℕ × ℕ). 1 ≤ z.1) x before all
    go false h = h

pub edges_epochs : (before : List (ℕ × ℕ)) (c : ℕ) (ps : List ℕ) → 1 ≤ c → All (λ edge. 1 ≤ edge.1) before → All (λ edge. 1 ≤ edge.1) (edges_to before c ps)
edges_epochs before c [] le all = All-nil (λ (z : ℕ × ℕ). 1 ≤ z.1)
edges_epochs before c (p ∷ ps) le all = All-cons (λ (z : ℕ × ℕ). 1 ≤ z.1) (p, unwrap_or (epoch_in before p) c) (edges_to before c ps) (old_epoch before c p le all) (edges_epochs before c ps le all)

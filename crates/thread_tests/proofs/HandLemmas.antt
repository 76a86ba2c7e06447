-- Workers that work one after another, each on its own.
use Rattle.std.proofs.Common.{◌≡◌, ◌∙◌, ◌==◌, refl, sym, subst, ℕ, ◌<◌, Bool, true, false, List, length, slice_index_or, slice_set}
use Rattle.std.proofs.lemmas.Bool.{eqb-false, eqb-true}
use Rattle.std.proofs.lemmas.List.{get_or_default, get_or-set_same, get_or-set_other, length-set}
use Rattle.settle_core.specs.declared.worker.Worker.{Worker}
use Rattle.settle_core.specs.Workers.{AllGoOn, GoesOn}
use Rattle.settle_core.proofs.GoingLemmas.{goes_on_refl, goes_on_trans}

-- the same worker goes on, whatever stands for one that is not there
same_goes_on : (workers : List Worker) (i : ℕ) (w v : Worker) → i < length workers → GoesOn (slice_index_or workers i w) (slice_index_or workers i v)
same_goes_on workers i w v less =
    let P : Worker → Type 0 = λ other. GoesOn (slice_index_or workers i w) other in
    subst P (get_or_default workers i w v less) (goes_on_refl (slice_index_or workers i w))

pub all_refl : (workers : List Worker) → AllGoOn workers workers
all_refl workers = record { count = refl; each = same_goes_on workers }

pub all_trans : (a b c : List Worker) → AllGoOn a b → AllGoOn b c → AllGoOn a c
all_trans a b c p q = record {
  count = q.count ∙ p.count;
  each = λ i w v less. goes_on_trans (slice_index_or a i w) (slice_index_or b i w) (slice_index_or c i v) (p.each i w w less) (q.each i w v (subst (λ (n : ℕ). i < n) (sym p.count) less));
}

-- one of them worked, and the others are as they were
pub all_but : (workers : List Worker) (place : ℕ) (worked d : Worker) → place < length workers → GoesOn (slice_index_or workers place d) worked → AllGoOn workers (slice_set workers place worked)
all_but workers place worked d within goes = record { count = length-set workers place worked; each = λ i w v less. go i w v less (i == place) refl }
  where
    go : (i : ℕ) (w v : Worker) → i < length workers → (b : Bool) → (i == place) ≡ b → GoesOn (slice_index_or workers i w) (slice_index_or (slice_set workers place worked) i v)
    go i w v less true e =
        let same : i ≡ place = eqb-true i place e in
        let P : Worker → Type 0 = λ other. GoesOn (slice_index_or workers i w) other in
        let Q : ℕ → Type 0 = λ k. GoesOn (slice_index_or workers k w) (slice_index_or (slice_set workers place worked) k v) in
        let here : GoesOn (slice_index_or workers place w) worked = subst (λ (old : Worker). GoesOn old worked) (get_or_default workers place d w within) goes in
        subst Q (sym same) (subst (λ (new : Worker). GoesOn (slice_index_or workers place w) new) (sym (get_or-set_same workers place worked v within)) here)
    go i w v less false e = subst (λ (new : Worker). GoesOn (slice_index_or workers i w) new) (sym (get_or-set_other workers place i worked v (eqb-false i place e))) (same_goes_on workers i w v less)

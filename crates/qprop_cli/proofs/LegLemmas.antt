-- Legs one after another, and the text that grows with them.
-- What is run so far is the front `take i legs` of the legs; one leg more makes it `take (i + 1) legs`.
use Rattle.std.proofs.Common.{◌≡◌, ◌∙◌, sym, ap, subst, refl, ℕ, zero, suc, ◌+◌, ◌<◌, arith, List, [], ◌∷◌, ◌++◌, append_assoc, append-nil, length, take, slice_index_or}
use Rattle.settle_core.specs.Net.{NetworkView}
use Rattle.svc_graph.specs.Central.{AreCentral}
use Rattle.svc_graph.specs.History.{Row}
use Rattle.svc_plan.specs.declared.plan.Leg.{Leg}
use Rattle.svc_plan.specs.Rows.{rows_after, rows_after_all, IsLegAfter, AreLegsAfter}
use Rattle.svc_value.specs.declared.value.Value.{Value}
use Rattle.trace_text.specs.Blocks.{Flags, Trace, trace_lines, IsTraceOf}
use Rattle.trace_text.specs.Named.{naming}
use Rattle.trace_text.specs.Settled.{Settles, settled_block}
use Rattle.trace_text.specs.Traces.{Traces}
use Rattle.qprop_cli.specs.Commands.Step.{IsTraced, AreTraced}

-- the next leg can be taken after those before it
pub leg_at : (rows : List Row) (legs : List Leg) (i : ℕ) (d : Leg) → i < length legs → AreLegsAfter rows legs →
    IsLegAfter (rows_after_all rows (take i legs)) (slice_index_or legs i d)
leg_at rows [] i d p each = absurd (omega (arith, p))
leg_at rows (leg ∷ legs) zero d p each = each.0
leg_at rows (leg ∷ legs) (suc i) d p each = leg_at (rows_after rows leg) legs i d (omega (arith, p)) each.1

-- the rows after one leg more
rows_next : (rows : List Row) (legs : List Leg) (i : ℕ) (d : Leg) → i < length legs →
    rows_after_all rows (take (suc i) legs) ≡ rows_after (rows_after_all rows (take i legs)) (slice_index_or legs i d)
rows_next rows [] i d p = absurd (omega (arith, p))
rows_next rows (leg ∷ legs) zero d p = refl
rows_next rows (leg ∷ legs) (suc i) d p = rows_next (rows_after rows leg) legs i d (omega (arith, p))

pub rows_more : (rows : List Row) (legs : List Leg) (i : ℕ) (d : Leg) → i < length legs →
    rows_after_all rows (take (i + 1) legs) ≡ rows_after (rows_after_all rows (take i legs)) (slice_index_or legs i d)
rows_more rows legs i d p =
    let next : i + 1 ≡ suc i = omega arith in
    ap (λ n. rows_after_all rows (take n legs)) next ∙ rows_next rows legs i d p

-- the text of one leg more
settles_next : (k : ℕ) (rows : List Row) (legs : List Leg) (i : ℕ) (d : Leg) (values : List Value) (text : List ℕ) → i < length legs →
    Settles k rows (take i legs) text → AreCentral (rows_after (rows_after_all rows (take i legs)) (slice_index_or legs i d)) values →
    Settles k rows (take (suc i) legs) (text ++ settled_block (k + suc i) (rows_after (rows_after_all rows (take i legs)) (slice_index_or legs i d)) values)
settles_next k rows [] i d values text p so_far central = absurd (omega (arith, p))
settles_next k rows (leg ∷ legs) zero d values text p Settles.none central =
    let block : ℕ → List ℕ = λ n. settled_block n (rows_after rows leg) values in
    let number : suc k ≡ k + suc zero = omega arith in
    subst (λ t. Settles k rows (leg ∷ []) t) (append-nil (block (suc k)) ∙ ap block number) (Settles.leg central Settles.none)
settles_next k rows (leg ∷ legs) (suc i) d values text p (Settles.leg {values = first_values} {text = rest} first later) central =
    let front = settled_block (suc k) (rows_after rows leg) first_values in
    let block : ℕ → List ℕ = λ n. settled_block n (rows_after (rows_after_all (rows_after rows leg) (take i legs)) (slice_index_or legs i d)) values in
    let number : suc k + suc i ≡ k + suc (suc i) = omega arith in
    let more = settles_next (suc k) (rows_after rows leg) legs i d values rest (omega (arith, p)) later central in
    subst (λ t. Settles k rows (leg ∷ take (suc i) legs) t) (sym (append_assoc front rest (block (suc k + suc i))) ∙ ap (λ n. (front ++ rest) ++ block n) number) (Settles.leg first more)

-- the text of the front with one leg more
pub settles_more : (legs : List Leg) (i : ℕ) (d : Leg) (values : List Value) (text : List ℕ) → i < length legs →
    Settles 0 [] (take i legs) text → AreCentral (rows_after (rows_after_all [] (take i legs)) (slice_index_or legs i d)) values →
    Settles 0 [] (take (i + 1) legs) (text ++ settled_block (i + 1) (rows_after (rows_after_all [] (take i legs)) (slice_index_or legs i d)) values)
settles_more legs i d values text p so_far central =
    let next : suc i ≡ i + 1 = omega arith in
    let number : 0 + suc i ≡ i + 1 = omega arith in
    let block : ℕ → List ℕ = λ n. text ++ settled_block n (rows_after (rows_after_all [] (take i legs)) (slice_index_or legs i d)) values in
    subst (λ n. Settles 0 [] (take n legs) (block (i + 1))) next
    (subst (λ n. Settles 0 [] (take (suc i) legs) (block n)) number (settles_next 0 [] legs i d values text p so_far central))

-- ---- with trace lines

traces_next : (flags : Flags) (k : ℕ) (rows : List Row) (legs : List Leg) (i : ℕ) (d : Leg) (values : List Value) (trace : Trace) (traces : List Trace) (text : List ℕ) → i < length legs →
    Traces flags k rows (take i legs) traces text → AreCentral (rows_after (rows_after_all rows (take i legs)) (slice_index_or legs i d)) values →
    IsTraceOf (length (rows_after (rows_after_all rows (take i legs)) (slice_index_or legs i d))) trace →
    Traces flags k rows (take (suc i) legs) (traces ++ trace ∷ [])
    (text ++ (trace_lines flags (naming (rows_after (rows_after_all rows (take i legs)) (slice_index_or legs i d))) trace ++ settled_block (k + suc i) (rows_after (rows_after_all rows (take i legs)) (slice_index_or legs i d)) values))
traces_next flags k rows [] i d values trace traces text p so_far central is = absurd (omega (arith, p))
traces_next flags k rows (leg ∷ legs) zero d values trace traces text p Traces.none central is =
    let lines : List ℕ = trace_lines flags (naming (rows_after rows leg)) trace in
    let block : ℕ → List ℕ = λ n. settled_block n (rows_after rows leg) values in
    let number : suc k ≡ k + suc zero = omega arith in
    subst (λ t. Traces flags k rows (leg ∷ []) (trace ∷ []) (lines ++ t)) (append-nil (block (suc k)) ∙ ap block number) (Traces.leg central is Traces.none)
traces_next flags k rows (leg ∷ legs) (suc i) d values trace traces text p (Traces.leg {values = first_values} {trace = first_trace} {traces = others} {text = rest} first first_is later) central is =
    let front : List ℕ = trace_lines flags (naming (rows_after rows leg)) first_trace in
    let settled : List ℕ = settled_block (suc k) (rows_after rows leg) first_values in
    let here : List Row = rows_after (rows_after_all (rows_after rows leg) (take i legs)) (slice_index_or legs i d) in
    let more : ℕ → List ℕ = λ n. trace_lines flags (naming here) trace ++ settled_block n here values in
    let number : suc k + suc i ≡ k + suc (suc i) = omega arith in
    let whole : front ++ (settled ++ (rest ++ more (suc k + suc i))) ≡ (front ++ (settled ++ rest)) ++ more (k + suc (suc i)) =
    ap (λ t. front ++ t) (sym (append_assoc settled rest (more (suc k + suc i)))) ∙ sym (append_assoc front (settled ++ rest) (more (suc k + suc i))) ∙ ap (λ n. (front ++ (settled ++ rest)) ++ more n) number in
    subst (λ t. Traces flags k rows (leg ∷ take (suc i) legs) (first_trace ∷ (others ++ trace ∷ [])) t) whole
    (Traces.leg first first_is (traces_next flags (suc k) (rows_after rows leg) legs i d values trace others rest (omega (arith, p)) later central is))

pub traces_more : (flags : Flags) (legs : List Leg) (i : ℕ) (d : Leg) (values : List Value) (trace : Trace) (traces : List Trace) (text : List ℕ) → i < length legs →
    Traces flags 0 [] (take i legs) traces text → AreCentral (rows_after (rows_after_all [] (take i legs)) (slice_index_or legs i d)) values →
    IsTraceOf (length (rows_after (rows_after_all [] (take i legs)) (slice_index_or legs i d))) trace →
    Traces flags 0 [] (take (i + 1) legs) (traces ++ trace ∷ [])
    (text ++ (trace_lines flags (naming (rows_after (rows_after_all [] (take i legs)) (slice_index_or legs i d))) trace ++ settled_block (i + 1) (rows_after (rows_after_all [] (take i legs)) (slice_index_or legs i d)) values))
traces_more flags legs i d values trace traces text p so_far central is =
    let next : suc i ≡ i + 1 = omega arith in
    let number : 0 + suc i ≡ i + 1 = omega arith in
    let here : List Row = rows_after (rows_after_all [] (take i legs)) (slice_index_or legs i d) in
    let block : ℕ → List ℕ = λ n. text ++ (trace_lines flags (naming here) trace ++ settled_block n here values) in
    subst (λ n. Traces flags 0 [] (take n legs) (traces ++ trace ∷ []) (block (i + 1))) next
    (subst (λ n. Traces flags 0 [] (take (suc i) legs) (traces ++ trace ∷ []) (block n)) number (traces_next flags 0 [] legs i d values trace traces text p so_far central is))

traced_next : (rows : List Row) (legs : List Leg) (i : ℕ) (d : Leg) (trace : Trace) (traces : List Trace) (network : NetworkView) → i < length legs →
    AreTraced rows (take i legs) traces → IsTraced (rows_after_all rows (take i legs)) (slice_index_or legs i d) network trace → AreTraced rows (take (suc i) legs) (traces ++ trace ∷ [])
traced_next rows [] i d trace traces network p so_far here = absurd (omega (arith, p))
traced_next rows (leg ∷ legs) zero d trace traces network p AreTraced.none here = AreTraced.leg network here AreTraced.none
traced_next rows (leg ∷ legs) (suc i) d trace traces network p (AreTraced.leg first is later) here =
    AreTraced.leg first is (traced_next (rows_after rows leg) legs i d trace _ network (omega (arith, p)) later here)

pub traced_more : (legs : List Leg) (i : ℕ) (d : Leg) (trace : Trace) (traces : List Trace) (network : NetworkView) → i < length legs →
    AreTraced [] (take i legs) traces → IsTraced (rows_after_all [] (take i legs)) (slice_index_or legs i d) network trace → AreTraced [] (take (i + 1) legs) (traces ++ trace ∷ [])
traced_more legs i d trace traces network p so_far here =
    let next : suc i ≡ i + 1 = omega arith in
    subst (λ n. AreTraced [] (take n legs) (traces ++ trace ∷ [])) next (traced_next [] legs i d trace traces network p so_far here)

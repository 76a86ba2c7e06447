-- How a text grows by one line.
use Rattle.std.proofs.Common.{◌≡◌, ◌∙◌, sym, ap, refl, ℕ, zero, suc, ◌+◌, ◌<◌, arith, List, [], ◌∷◌, ◌++◌, append_assoc, append-nil, length, take, slice_index_or}
use Rattle.std.proofs.KnownBytes.{starts_with_rest}
use Rattle.std.proofs.lemmas.List.{take_at}
use Rattle.std.specs.Io.{StartsWith}
use Rattle.svc_graph.specs.History.{Row}
use Rattle.svc_value.specs.declared.value.Value.{Value}
use Rattle.trace_text.specs.Settled.{value_line, value_lines}

-- the lines of one service more
more : (rows : List Row) (values : List Value) (i : ℕ) (d : Row) (e : Value) → i < length rows → i < length values →
    value_lines (take (suc i) rows) (take (suc i) values) ≡ value_lines (take i rows) (take i values) ++ value_line (slice_index_or rows i d) (slice_index_or values i e)
more [] values i d e p q = absurd (omega (arith, p))
more (row ∷ rows) [] i d e p q = absurd (omega (arith, q))
more (row ∷ rows) (value ∷ values) zero d e p q = append-nil (value_line row value)
more (row ∷ rows) (value ∷ values) (suc i) d e p q =
    ap (λ text. value_line row value ++ text) (more rows values i d e (omega (arith, p)) (omega (arith, q)))
    ∙ sym (append_assoc (value_line row value) (value_lines (take i rows) (take i values)) (value_line (slice_index_or rows i d) (slice_index_or values i e)))

-- one line more behind a text
pub value_lines-more : (rows : List Row) (values : List Value) (i : ℕ) (d : Row) (e : Value) (start head was now : List ℕ) → i < length rows → i < length values →
    was ≡ start ++ (head ++ value_lines (take i rows) (take i values)) → now ≡ was ++ value_line (slice_index_or rows i d) (slice_index_or values i e) →
    now ≡ start ++ (head ++ value_lines (take (i + 1) rows) (take (i + 1) values))
value_lines-more rows values i d e start head was now p q before grown =
    let lines = value_lines (take i rows) (take i values) in
    let line = value_line (slice_index_or rows i d) (slice_index_or values i e) in
    let next : i + 1 ≡ suc i = omega arith in
    grown ∙ ap (λ text. text ++ line) before ∙ append_assoc start (head ++ lines) line ∙ ap (λ text. start ++ text) (append_assoc head lines line)
    ∙ ap (λ text. start ++ (head ++ text)) (sym (more rows values i d e p q)) ∙ ap (λ n. start ++ (head ++ value_lines (take n rows) (take n values))) (sym next)

-- what begins with a text that begins with another begins with that one
pub starts_further : (start behind now : List ℕ) → StartsWith now (start ++ behind) → StartsWith now start
starts_further start behind now h = ap (take (length start)) (starts_with_rest now (start ++ behind) h ∙ append_assoc start behind _) ∙ take_at start _ (length start) refl

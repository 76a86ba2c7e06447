-- Trace lines are what is left out of an untraced text.
use Rattle.std.proofs.Common.{◌≡◌, ◌∙◌, sym, ap, refl, ℕ, suc, ◌<◌, ◌≤◌, ◌+◌, arith, Bool, true, false, not, List, [], ◌∷◌, ◌++◌, append_assoc, length, flat_map, filter}
use Rattle.std.specs.Fmt.{decimal}
use Rattle.std.specs.Prelude.{codes, All}
use Rattle.propagation.specs.Notes.{Note}
use Rattle.propagation.specs.Notes.Note.{did, took, computed, advanced, empty, lags, still, idle}
use Rattle.node_core.specs.declared.entry.Entry.{Entry}
use Rattle.trace_text.specs.Untraced.{is_traced, untraced}
use Rattle.trace_text.specs.Naming.{Naming, AreNamed}
use Rattle.trace_text.specs.Lines.{comma_list, entry_text, entry_line, log_text, logs_text, family_text}
use Rattle.trace_text.specs.Named.{NamesBelow}
use Rattle.trace_text.specs.Notes.{IsNoteOf, note_text, step_line, steps_text, sources_line, sources_lines}
use Rattle.trace_text.specs.Blocks.{Flags, Trace, if_wanted, trace_lines, IsTraceOf}
use Rattle.trace_text.specs.Inside.Cutting.{Lacks}
use Rattle.trace_text.proofs.Words.{Lacks-append, lacks_by, Each, each_of, comma_list-lacks}
use Rattle.trace_text.proofs.Inside.{decimal_inside}
use Rattle.trace_text.proofs.EntryBytes.{entry_text-lacks, lf-lacks}
use Rattle.trace_text.proofs.LinesOf.{lines_line}

-- ---- one line

-- a line that is a trace line goes
pub line_goes : (line rest : List ℕ) → Lacks 10 line → is_traced (line ++ 10 ∷ []) ≡ true → untraced (line ++ 10 ∷ rest) ≡ untraced rest
line_goes line rest p traced =
    ap (λ lines. flat_map (λ (l : List ℕ). l) (filter (λ (l : List ℕ). not (is_traced l)) lines)) (lines_line line rest p) ∙ rw traced refl

-- a line of three parts, the first of which is a mark
three_go : (mark middle last rest : List ℕ) → Lacks 10 mark → Lacks 10 middle → Lacks 10 last → ((more : List ℕ) → is_traced (mark ++ more) ≡ true) →
    untraced ((mark ++ (middle ++ 32 ∷ (last ++ 10 ∷ []))) ++ rest) ≡ untraced rest
three_go mark middle last rest p q r traced =
    let line : List ℕ = mark ++ (middle ++ 32 ∷ last) in
    let split : (mark ++ (middle ++ 32 ∷ (last ++ 10 ∷ []))) ++ rest ≡ line ++ 10 ∷ rest =
    append_assoc mark (middle ++ 32 ∷ (last ++ 10 ∷ [])) rest
    ∙ ap (λ (t : List ℕ). mark ++ t) (append_assoc middle (32 ∷ (last ++ 10 ∷ [])) rest ∙ ap (λ (t : List ℕ). middle ++ 32 ∷ t) (append_assoc last (10 ∷ []) rest) ∙ sym (append_assoc middle (32 ∷ last) (10 ∷ rest)))
    ∙ sym (append_assoc mark (middle ++ 32 ∷ last) (10 ∷ rest)) in
    let first : is_traced (line ++ 10 ∷ []) ≡ true = ap is_traced (append_assoc mark (middle ++ 32 ∷ last) (10 ∷ [])) ∙ traced ((middle ++ 32 ∷ last) ++ 10 ∷ []) in
    ap untraced split ∙ line_goes line rest (Lacks-append 10 mark (middle ++ 32 ∷ last) p (Lacks-append 10 middle (32 ∷ last) q ((λ e. omega (arith, e)), r))) first

-- lines that go
all_go : {X : Type 0} (Is : X → Type 0) (line : X → List ℕ) → ((x : X) → Is x → (rest : List ℕ) → untraced (line x ++ rest) ≡ untraced rest) →
    (xs : List X) → Each Is xs → (rest : List ℕ) → untraced (flat_map line xs ++ rest) ≡ untraced rest
all_go Is line goes [] each rest = refl
all_go Is line goes (x ∷ xs) each rest =
    ap untraced (append_assoc (line x) (flat_map line xs) rest) ∙ goes x each.0 (flat_map line xs ++ rest) ∙ all_go Is line goes xs each.1 rest

-- ---- the lines of a block

module _ (name : Naming) (count : ℕ) (named : AreNamed name count) where
  entry_goes : (n : ℕ) → n < count → (x : Entry) → NamesBelow count x → (rest : List ℕ) → untraced (entry_line name n x ++ rest) ≡ untraced rest
  entry_goes n lt x is rest = three_go (codes "# log ") (name n) (entry_text name x) rest (lacks_by 10 (codes "# log ") refl) (lf-lacks name count named n lt) (entry_text-lacks name count named x is) (λ more. refl)

  logs_go : (n : ℕ) (logs : List (List Entry)) → n + length logs ≤ count → Each (λ log. All (NamesBelow count) log) logs → (rest : List ℕ) → untraced (logs_text name n logs ++ rest) ≡ untraced rest
  logs_go n [] le each rest = refl
  logs_go n (log ∷ logs) le each rest =
      ap untraced (append_assoc (log_text name n log) (logs_text name (suc n) logs) rest)
      ∙ all_go (NamesBelow count) (entry_line name n) (entry_goes n (omega (arith, le))) log (each_of (NamesBelow count) log each.0) (logs_text name (suc n) logs ++ rest)
      ∙ logs_go (suc n) logs (omega (arith, le)) each.1 rest

  note-lacks : (note : Note) → IsNoteOf count note → Lacks 10 (note_text name note)
  note-lacks did is = lacks_by 10 (codes "did") refl
  note-lacks took is = lacks_by 10 (codes "took") refl
  note-lacks computed is = lacks_by 10 (codes "computed") refl
  note-lacks advanced is = lacks_by 10 (codes "advanced") refl
  note-lacks (empty n) is = Lacks-append 10 (codes "empty ") (name n) (lacks_by 10 (codes "empty ") refl) (lf-lacks name count named n is)
  note-lacks (lags n key) is =
      Lacks-append 10 (codes "lags ") _ (lacks_by 10 (codes "lags ") refl) (Lacks-append 10 (name n) (32 ∷ name key) (lf-lacks name count named n is.0) ((λ e. omega (arith, e)), lf-lacks name count named key is.1))
  note-lacks still is = lacks_by 10 (codes "still") refl
  note-lacks idle is = lacks_by 10 (codes "idle") refl

  step_goes : (step : ℕ × Note) → IsNoteOf count step.1 → (rest : List ℕ) → untraced (step_line name step.0 step.1 ++ rest) ≡ untraced rest
  step_goes step is rest = three_go (codes "# step ") (decimal step.0) (note_text name step.1) rest (lacks_by 10 (codes "# step ") refl) (decimal_inside step.0) (note-lacks step.1 is) (λ more. refl)

  IsKeys : List ℕ → Type 0
  IsKeys keys = Each (λ key. key < count) keys

  keys-lacks : (keys : List ℕ) → Each (λ key. key < count) keys → Lacks 10 (comma_list name keys)
  keys-lacks keys each = comma_list-lacks 10 (λ key. key < count) name (λ e. omega (arith, e)) (λ n lt. lf-lacks name count named n lt) keys each

  sources_go : (n : ℕ) (lists : List (List ℕ)) → n + length lists ≤ count → Each (λ keys. All (λ key. key < count) keys) lists → (rest : List ℕ) → untraced (sources_lines name n lists ++ rest) ≡ untraced rest
  sources_go n [] le each rest = refl
  sources_go n (keys ∷ lists) le each rest =
      ap untraced (append_assoc (sources_line name n keys) (sources_lines name (suc n) lists) rest)
      ∙ three_go (codes "# sources ") (name n) (comma_list name keys) (sources_lines name (suc n) lists ++ rest) (lacks_by 10 (codes "# sources ") refl)
      (lf-lacks name count named n (omega (arith, le))) (keys-lacks keys (each_of (λ key. key < count) keys each.0)) (λ more. refl)
      ∙ sources_go (suc n) lists (omega (arith, le)) each.1 rest

  if_wanted_goes : (flag : Bool) (text rest : List ℕ) → untraced (text ++ rest) ≡ untraced rest → untraced (if_wanted flag text ++ rest) ≡ untraced rest
  if_wanted_goes true text rest goes = goes
  if_wanted_goes false text rest goes = refl

  -- the trace lines of a block go, and what follows stays
  pub trace_goes : (flags : Flags) (trace : Trace) (rest : List ℕ) → IsTraceOf count trace → untraced (trace_lines flags name trace ++ rest) ≡ untraced rest
  trace_goes flags trace rest is =
      let notes : List ℕ = if_wanted flags.notes (steps_text name trace.notes) in
      let logs : List ℕ = if_wanted flags.logs (family_text name trace.logs) in
      let sources : List ℕ = if_wanted flags.sources (sources_lines name 0 trace.sources) in
      ap untraced (append_assoc notes (logs ++ sources) rest ∙ ap (λ (t : List ℕ). notes ++ t) (append_assoc logs sources rest))
      ∙ if_wanted_goes flags.notes (steps_text name trace.notes) (logs ++ (sources ++ rest)) (all_go (λ step. IsNoteOf count step.1) (λ step. step_line name step.0 step.1) step_goes trace.notes (each_of (λ step. IsNoteOf count step.1) trace.notes is.notes) (logs ++ (sources ++ rest)))
      ∙ if_wanted_goes flags.logs (family_text name trace.logs) (sources ++ rest) (logs_go 0 trace.logs (omega (arith, is.logs)) (each_of (λ log. All (NamesBelow count) log) trace.logs is.entries) (sources ++ rest))
      ∙ if_wanted_goes flags.sources (sources_lines name 0 trace.sources) rest (sources_go 0 trace.sources (omega (arith, is.lists)) (each_of (λ keys. All (λ key. key < count) keys) trace.sources is.sources) rest)

-- What a line more leaves of a generated document.
use Rattle.std.proofs.Common.{◌≡◌, ℕ, ◌+◌, ◌-◌, ◌<◌, ◌≤◌, not, filter, map, List, [], ◌∷◌, ◌++◌, length, length-append, slice_get, slice_index_or, slice_set, Option, Some, refl, sym, ap, subst, ◌∙◌, inl, inr, All, arith}
use Rattle.std.specs.Prelude.{◌==◌, ℤ}
use Rattle.std.proofs.lemmas.Bool.{cases_eq}
use Rattle.std.proofs.lemmas.List.{append-nil, get_or_append_left, get_or-set_same, get_or-set_other}
use Rattle.std.proofs.Math.Seq.{get_or-append_seam}
use Rattle.svc_value.specs.declared.value.Value.TheVariants as value
use Rattle.svc_value.specs.declared.value.ValueType.TheVariants as type
use Rattle.svc_graph.specs.declared.definition.Change.{Change}
use Rattle.svc_graph.specs.declared.definition.Change.TheVariants as change
use Rattle.svc_graph.specs.declared.definition.Definition.{Definition}
use Rattle.svc_graph.specs.declared.definition.Definition.TheVariants as definition
use Rattle.svc_graph.specs.History.{Row, row_at, present, rows_after_change, row_after, definitions_brought, declared_row}
use Rattle.svc_graph.proofs.Changed.{length-changed, row_at-changed, row_at-changed_other}
use Rattle.svc_graph.proofs.Lists.{slice_get-push}
use Rattle.document_reading.specs.declared.statement.Statement.TheVariants.{Input, Set, Add, Drop}
use Rattle.document_reading.specs.State.{State, next, service_named}
use Rattle.document_generator.specs.Generator.{service_name}
use Rattle.document_generator.proofs.GeneratorDeclared.{new_row, old_row, sum_named, numbers_are}
use Rattle.document_generator.proofs.GeneratorStanding.{IsRow, Stands, sum_of_these, number}

-- ---- rows after a change

-- the definition that a change brings is the present one
present_push : (history : List Definition) (last : Definition) → present (history ++ last ∷ []) ≡ Some last
present_push history last =
    ap (slice_get (history ++ last ∷ [])) (let e = length-append history (last ∷ []) in omega arith) ∙ slice_get-push history last

-- where one row grows, each row is as it should be
rows_changed : {inputs n : ℕ} {new : List (List ℕ)} (rows after : List Row) (k : ℕ) (made : Change) → after ≡ rows_after_change rows k made → k < length rows
    → IsRow inputs new k (row_after (row_at rows k) made)
    → ((j : ℕ) → j < n → (j ≡ k → ⊥) → IsRow inputs new j (row_at rows j))
    → (j : ℕ) → j < n → IsRow inputs new j (row_at after j)
rows_changed {inputs} {n} {new} rows after k made e within here there j h =
    elim (cases_eq j k) [
      | inl same ↦
          subst (λ (i : ℕ). IsRow inputs new i (row_at after i)) (sym same)
          (subst (λ (row : Row). IsRow inputs new k row) (sym (ap (λ (rows : List Row). row_at rows k) e ∙ row_at-changed rows k made within)) here)
      | inr other ↦
          subst (λ (row : Row). IsRow inputs new j row) (sym (ap (λ (rows : List Row). row_at rows j) e ∙ row_at-changed_other rows k j made other)) (there j h other)
    ]

-- ---- an input is set

pub set_stands : {inputs n c : ℕ} {members : List (List ℕ)} {state : State} → Stands inputs n c members state → n ≤ 64 → c < 1024
    → (k : ℕ) (v : ℤ) → k < inputs → k < n → Stands inputs n (c + 1) members (next state (Set (service_name inputs k) (value.Int v)))
set_stands {inputs} {n} {c} {members} {state} s few room k v i h =
    let made = change.Set (value.Int v) in
    let e : rows_after_change (state.rows ++ []) (service_named state.rows (service_name inputs k)) made ≡ rows_after_change state.rows k made =
    (λ t. rows_after_change (append-nil state.rows t) (number s few room k h t) made) in
    let row = s.rows k h in
    record {
      legs = s.legs;
      changes = length-append state.open_leg.changes _ ∙ ap (λ (m : ℕ). m + 1) s.changes;
      count = ap length e ∙ length-changed state.rows k made ∙ s.count;
      rows = rows_changed state.rows _ k made e (omega (arith, s.count))
          (record { name = row.name; ty = row.ty; input = row.input; rank = row.rank; last = λ above. absurd (omega arith) })
          (λ j g other. s.rows j g);
    }

-- ---- members come and go

module _ {inputs n c : ℕ} {members : List (List ℕ)} {state : State} (s : Stands inputs n c members state) (few : n ≤ 64) (room : c < 1024) (d q : ℕ) (h : inputs + d < n) (low : q < inputs + d)
    (within : d < length members) where
  -- the row of a derived service whose members are others now
  other_members : (ms : List ℕ) (made : Change) → definitions_brought (Some (sum_of_these (slice_index_or members d []))) made ≡ sum_of_these ms ∷ []
      → IsRow inputs (slice_set members d ms) (inputs + d) (row_after (row_at state.rows (inputs + d)) made)
  other_members ms made b =
      let row = s.rows (inputs + d) h in
      let at : inputs + d - inputs ≡ d = omega arith in
      let before : present (row_at state.rows (inputs + d)).history ≡ Some (sum_of_these (slice_index_or members d [])) =
      row.last (omega arith) ∙ ap (λ (k : ℕ). Some (sum_of_these (slice_index_or members k []))) at in
      record {
        name = row.name;
        ty = row.ty;
        input = row.input;
        rank = row.rank;
        last = λ above.
            ap (λ (last : Option Definition). present ((row_at state.rows (inputs + d)).history ++ definitions_brought last made)) before
            ∙ ap (λ (new : List Definition). present ((row_at state.rows (inputs + d)).history ++ new)) b
            ∙ present_push (row_at state.rows (inputs + d)).history (sum_of_these ms)
            ∙ sym (ap (λ (l : List ℕ). Some (sum_of_these l)) (ap (λ (k : ℕ). slice_index_or (slice_set members d ms) k []) at ∙ get_or-set_same members d ms [] within));
      }

  -- every other row
  as_before : (ms : List ℕ) (j : ℕ) → j < n → (j ≡ inputs + d → ⊥) → IsRow inputs (slice_set members d ms) j (row_at state.rows j)
  as_before ms j g other =
      let row = s.rows j g in
      record {
        name = row.name;
        ty = row.ty;
        input = row.input;
        rank = row.rank;
        last = λ above.
            let apart : j - inputs ≡ d → ⊥ = λ e. other (omega arith) in
            row.last above ∙ ap (λ (l : List ℕ). Some (sum_of_these l)) (sym (get_or-set_other members d (j - inputs) ms [] apart));
      }

  pub add_stands : Stands inputs n (c + 1) (slice_set members d (slice_index_or members d [] ++ q ∷ [])) (next state (Add (service_name inputs (inputs + d)) (service_name inputs q)))
  add_stands =
      let made = change.Add q in
      let e : rows_after_change (state.rows ++ []) (service_named state.rows (service_name inputs (inputs + d))) (change.Add (service_named state.rows (service_name inputs q))) ≡ rows_after_change state.rows (inputs + d) made =
      (λ t. rows_after_change (append-nil state.rows t) (number s few room (inputs + d) h t) (change.Add (number s few room q (omega arith) t))) in
      record {
        legs = s.legs;
        changes = length-append state.open_leg.changes _ ∙ ap (λ (m : ℕ). m + 1) s.changes;
        count = ap length e ∙ length-changed state.rows (inputs + d) made ∙ s.count;
        rows = rows_changed state.rows _ (inputs + d) made e (omega (arith, s.count)) (other_members _ made refl) (as_before _);
      }

  pub drop_stands : Stands inputs n (c + 1) (slice_set members d (filter (λ p. not (p == q)) (slice_index_or members d []))) (next state (Drop (service_name inputs (inputs + d)) (service_name inputs q)))
  drop_stands =
      let made = change.Drop q in
      let e : rows_after_change (state.rows ++ []) (service_named state.rows (service_name inputs (inputs + d))) (change.Drop (service_named state.rows (service_name inputs q))) ≡ rows_after_change state.rows (inputs + d) made =
      (λ t. rows_after_change (append-nil state.rows t) (number s few room (inputs + d) h t) (change.Drop (number s few room q (omega arith) t))) in
      record {
        legs = s.legs;
        changes = length-append state.open_leg.changes _ ∙ ap (λ (m : ℕ). m + 1) s.changes;
        count = ap length e ∙ length-changed state.rows (inputs + d) made ∙ s.count;
        rows = rows_changed state.rows _ (inputs + d) made e (omega (arith, s.count)) (other_members _ made refl) (as_before _);
      }

-- ---- declarations

pub input_stands : {inputs n c : ℕ} {members : List (List ℕ)} {state : State} → Stands inputs n c members state → n < inputs
    → (v : ℤ) → Stands inputs (n + 1) (c + 1) members (next state (Input (service_name inputs n) type.Int (value.Int v)))
input_stands {inputs} {n} {c} {members} {state} s below v =
    let row = declared_row (service_name inputs n) 0 type.Int in
    let made = change.Birth (definition.Input (value.Int v)) in
    record {
      legs = s.legs;
      changes = length-append state.open_leg.changes _ ∙ ap (λ (m : ℕ). m + 1) s.changes;
      count = length-changed (state.rows ++ row ∷ []) (length state.rows) made ∙ length-append state.rows (row ∷ []) ∙ ap (λ (m : ℕ). m + 1) s.count;
      rows = rows_changed (state.rows ++ row ∷ []) _ (length state.rows) made refl (let e = length-append state.rows (row ∷ []) in omega arith)
          (subst (λ (r : Row). IsRow inputs members (length state.rows) (row_after r made)) (sym (new_row state.rows row))
          (record { name = ap (service_name inputs) (sym s.count); ty = refl; input = λ b. refl; rank = λ a. absurd (omega (arith, s.count)); last = λ a. absurd (omega (arith, s.count)) }))
          (λ j g other.
          let old : j < n = let e = s.count in let apart : j ≡ n → ⊥ = λ f. other (omega arith) in omega arith in
          subst (λ (r : Row). IsRow inputs members j r) (sym (old_row state.rows row j (omega (arith, s.count)))) (s.rows j old));
    }

pub derived_stands : {inputs c : ℕ} {members : List (List ℕ)} {state : State} (d : ℕ) → Stands inputs (inputs + d) c members state → inputs + d < 64 → c < 1024 → length members ≡ d
    → (ps : List ℕ) → All (λ p. p < inputs + d) ps → Stands inputs (inputs + (d + 1)) (c + 1) (members ++ ps ∷ []) (next state (sum_named inputs d ps))
derived_stands {inputs} {c} {members} {state} d s few room count ps low =
    let row = declared_row (service_name inputs (inputs + d)) (d + 1) type.Int in
    let made = change.Birth (sum_of_these ps) in
    let all = state.rows ++ row ∷ [] in
    let e : rows_after_change all (length state.rows) (change.Birth (sum_of_these (map (service_named state.rows) (map (service_name inputs) ps)))) ≡ rows_after_change all (length state.rows) made =
    ap (λ (ms : List ℕ). rows_after_change all (length state.rows) (change.Birth (sum_of_these ms))) (numbers_are d s few room ps low ps low) in
    let at : length state.rows - inputs ≡ length members = omega (arith, s.count) in
    record {
      legs = s.legs;
      changes = length-append state.open_leg.changes _ ∙ ap (λ (m : ℕ). m + 1) s.changes;
      count = ap length e ∙ length-changed all (length state.rows) made ∙ length-append state.rows (row ∷ []) ∙ ap (λ (m : ℕ). m + 1) s.count ∙ omega arith;
      rows = rows_changed all _ (length state.rows) made e (let e = length-append state.rows (row ∷ []) in omega arith)
          (subst (λ (r : Row). IsRow inputs (members ++ ps ∷ []) (length state.rows) (row_after r made)) (sym (new_row state.rows row))
          (record {
            name = ap (service_name inputs) (sym s.count);
            ty = refl;
            input = λ b. absurd (omega (arith, s.count));
            rank = λ a. omega (arith, s.count);
            last = λ a. sym (ap (λ (l : List ℕ). Some (sum_of_these l)) (ap (λ (k : ℕ). slice_index_or (members ++ ps ∷ []) k []) at ∙ get_or-append_seam members ps [] []));
          }))
          (λ j g other.
          let old : j < inputs + d = let e = s.count in let apart : j ≡ inputs + d → ⊥ = λ f. other (omega arith) in omega arith in
          let before = s.rows j old in
          subst (λ (r : Row). IsRow inputs (members ++ ps ∷ []) j r) (sym (old_row state.rows row j (omega (arith, s.count))))
          (record {
            name = before.name;
            ty = before.ty;
            input = before.input;
            rank = before.rank;
            last = λ a. before.last a ∙ ap (λ (l : List ℕ). Some (sum_of_these l)) (sym (get_or_append_left members (ps ∷ []) [] (j - inputs) (omega arith)));
          }));
    }

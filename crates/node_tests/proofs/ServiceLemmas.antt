-- What the changes of a leg bring, and what keeps a service.
use Rattle.std.proofs.Common.{◌≡◌, ℕ, suc, ◌+◌, ◌-◌, ◌<◌, ◌≤◌, ◌++◌, List, [], ◌∷◌, length, length-append, append_assoc, append-nil, slice_get, Option, Some, None, true, false, true≢false, refl, sym, ap, ap₂, subst, ◌∙◌, arith}
use Rattle.std.specs.Prelude.{Bool, Result, Ok, Err, OnOk, OnErr, IfErr, ⊤}
use Rattle.propagation.specs.Lists.{Has}
use Rattle.propagation.proofs.Lists.{Has-append_right}
use Rattle.service_machine.specs.Openings.{opened_with}
use Rattle.service_machine.specs.States.{State}
use Rattle.service_machine.specs.Steps.{after_changing, done_with, after_taking, after_turning, turned_to, after_computing, choice_of}
use Rattle.service_machine.specs.Turning.{Choice}
use Rattle.service_machine.specs.Turning.Choice.{Advance, Compute, Empty, Lags, Still}
use Rattle.propagation.specs.Logs.{Frame as TheFrame}
use Rattle.propagation.specs.Logs.Frame.{Subscribe, Unsubscribe, Sources, Changed}
use Rattle.svc_graph.proofs.Changed.{present-None}
use Rattle.svc_graph.proofs.Lists.{slice_get-push}
use Rattle.svc_graph.specs.Book.{IsBook, IsDefinitionOf}
use Rattle.svc_graph.specs.declared.definition.Change.{Change}
use Rattle.svc_graph.specs.declared.definition.Change.TheVariants.{Birth, Set, Add, Drop, Define}
use Rattle.svc_graph.specs.declared.definition.Definition.{Definition}
use Rattle.svc_graph.specs.declared.kind.Kind.{Kind}
use Rattle.svc_graph.specs.History.{Row, definitions_brought, dependencies, history_of, is_birth, meaning_of, present, roster_of}
use Rattle.svc_value.specs.declared.errors.OutOfMemory.{OutOfMemory}
use Rattle.svc_value.specs.declared.value.Value.{Value}
use Rattle.node_core.specs.Coming.{coming, next}
use Rattle.node_core.specs.declared.errors.TakeRefusal.{TakeRefusal}
use Rattle.node_core.specs.declared.turned.Turned.{Turned}
use Rattle.node_core.specs.Taking.{Takes}
use Rattle.node_core.specs.View.{NodeView as TheService}
use Rattle.node_tests.specs.Serving.{last_of, GoesOn, Keeps}

-- ---- changes

-- the last of one more, and of more definitions
present-push : (h : List Definition) (d : Definition) → present (h ++ d ∷ []) ≡ Some d
present-push h d = ap (slice_get (h ++ d ∷ [])) (let e = length-append h (d ∷ []) in omega arith) ∙ slice_get-push h d

pub present-more : (h ds : List Definition) → present (h ++ ds) ≡ last_of (present h) ds
present-more h [] = ap present (append-nil h)
present-more h (d ∷ ds) = ap present (sym (append_assoc h (d ∷ []) ds)) ∙ present-more (h ++ d ∷ []) ds ∙ ap (λ o. last_of o ds) (present-push h d)

-- what one change more brings
coming-more : (o : Option Definition) (cs : List Change) (c : Change) → coming o (cs ++ c ∷ []) ≡ coming o cs ++ next (last_of o (coming o cs)) c ∷ []
coming-more o [] c = refl
coming-more o (x ∷ cs) c = ap (λ ds. next o x ∷ ds) (coming-more (Some (next o x)) cs c)

length-coming : (o : Option Definition) (cs : List Change) → length (coming o cs) ≡ length cs
length-coming o [] = refl
length-coming o (c ∷ cs) = ap suc (length-coming (Some (next o c)) cs)

-- the history after it
pub history-more : (h now after : List Definition) (cs : List Change) (c : Change) → now ≡ h ++ coming (present h) cs → after ≡ now ++ next (present now) c ∷ [] → after ≡ h ++ coming (present h) (cs ++ c ∷ [])
history-more h now after cs c so is =
    is ∙ ap (λ ds. ds ++ next (present ds) c ∷ []) so
    ∙ ap (λ o. (h ++ coming (present h) cs) ++ next o c ∷ []) (present-more h (coming (present h) cs))
    ∙ append_assoc h (coming (present h) cs) (next (last_of (present h) (coming (present h) cs)) c ∷ [])
    ∙ ap (λ ds. h ++ ds) (sym (coming-more (present h) cs c))

-- a birth brings the first definition
birth-brought : (c : Change) → is_birth c ≡ true → definitions_brought None c ≡ next None c ∷ []
birth-brought (Birth first) h = refl
birth-brought (Set value) h = absurd (true≢false (sym h))
birth-brought (Add member) h = absurd (true≢false (sym h))
birth-brought (Drop member) h = absurd (true≢false (sym h))
birth-brought (Define formula) h = absurd (true≢false (sym h))

-- and any change the next one
pub brought-next : (h : List Definition) (c : Change) → (h ≡ [] → is_birth c ≡ true) → definitions_brought (present h) c ≡ next (present h) c ∷ []
brought-next h c first = go (present h) refl
  where
    go : (o : Option Definition) → present h ≡ o → definitions_brought o c ≡ next o c ∷ []
    go None is = birth-brought c (first (present-None h is))
    go (Some d) is = refl

-- ---- what keeps a service

-- the same number, clock and definitions of states
pub record Same (old new : State Value Definition) : Type 0 where
  pub id : new.id ≡ old.id
  pub own : new.own ≡ old.own
  pub definition : new.definition ≡ old.definition
  pub left : new.left ≡ old.left

plain : (s : State Value Definition) → Same s s
plain s = record { id = refl; own = refl; definition = refl; left = refl }

same_turned : (s : State Value Definition) → Same s (after_turning meaning_of s)
same_turned s = go (choice_of s)
  where
    work : (o : Option Definition) → Same s (after_computing meaning_of s o)
    work None = plain s
    work (Some d) = record { id = refl; own = refl; definition = refl; left = refl }

    go : (c : Choice) → Same s (turned_to meaning_of s c)
    go (Advance p) = record { id = refl; own = refl; definition = refl; left = refl }
    go Compute = work s.definition
    go (Empty p) = plain s
    go (Lags p key) = plain s
    go Still = plain s

same_took : (p : ℕ) (f : TheFrame Value) (s : State Value Definition) → Same s (after_taking p f s)
same_took p (Subscribe e) s = record { id = refl; own = refl; definition = refl; left = refl }
same_took p (Unsubscribe e) s = record { id = refl; own = refl; definition = refl; left = refl }
same_took p (Sources e ks) s = record { id = refl; own = refl; definition = refl; left = refl }
same_took p (Changed e v pairs) s = record { id = refl; own = refl; definition = refl; left = refl }

-- what leaves them goes on
goes_after : (old new : TheService) (after : State Value Definition) → new.state ≡ after → Same old.state after → GoesOn old new
goes_after old new after is same id rows kept =
    record {
      declared = kept.declared;
      id_is = ap (λ (s : State Value Definition). s.id) is ∙ same.id ∙ kept.id_is;
      clock = ap (λ (s : State Value Definition). s.own + length s.left) is ∙ ap₂ (λ (n : ℕ) (ds : List Definition). n + length ds) same.own same.left ∙ kept.clock;
      last = ap (λ (s : State Value Definition). last_of s.definition s.left) is ∙ ap₂ last_of same.definition same.left ∙ kept.last;
    }

pub stays : (old new : TheService) → new.state ≡ old.state → GoesOn old new
stays old new is = goes_after old new old.state is (plain old.state)

-- a turn
pub goes_turned : (r : Result Turned OutOfMemory) (old new : TheService) → OnOk r (new.state ≡ after_turning meaning_of old.state) → OnErr r (new ≡ old) → GoesOn old new
goes_turned (Ok t) old new is _ = goes_after old new (after_turning meaning_of old.state) is (same_turned old.state)
goes_turned (Err e) old new _ is = stays old new (ap (λ (s : TheService). s.state) is)

-- a taken frame
pub goes_took : (r : Result ⊤ (TakeRefusal × List ℕ)) (old new : TheService) (p : ℕ) (bytes : List ℕ) → OnOk r (Takes p bytes old new) → IfErr r (λ refused. (new ≡ old) × (refused.1 ≡ bytes)) → GoesOn old new
goes_took (Ok t) old new p bytes takes _ = goes_after old new (after_taking p takes.said old.state) takes.state (same_took p takes.said old.state)
goes_took (Err e) old new p bytes _ is = stays old new (ap (λ (s : TheService). s.state) is.0)

-- a change that is done
kept_done : (old new : TheService) → new.state ≡ after_changing dependencies old.state → GoesOn old new
kept_done old new is id rows kept = go old.state.left refl
  where
    go : (ds : List Definition) → old.state.left ≡ ds → Keeps id new rows
    go [] none = stays old new (is ∙ ap (λ ds. done_with dependencies old.state ds) none) id rows kept
    go (d ∷ rest) more =
        let after : new.state ≡ done_with dependencies old.state (d ∷ rest) = is ∙ ap (λ ds. done_with dependencies old.state ds) more in
        let clock = ap (λ ds. old.state.own + length ds) (sym more) ∙ kept.clock in
        record {
          declared = kept.declared;
          id_is = ap (λ (s : State Value Definition). s.id) after ∙ kept.id_is;
          clock = ap (λ (s : State Value Definition). s.own + length s.left) after ∙ (let count : suc old.state.own + length rest ≡ old.state.own + suc (length rest) = omega arith in count) ∙ clock;
          last = ap (λ (s : State Value Definition). last_of s.definition s.left) after ∙ ap (λ ds. last_of old.state.definition ds) (sym more) ∙ kept.last;
        }

pub goes_done : (r : Result Bool OutOfMemory) (old new : TheService) → OnOk r (new.state ≡ after_changing dependencies old.state) → OnErr r (new ≡ old) → GoesOn old new
goes_done (Ok b) old new is _ = kept_done old new is
goes_done (Err e) old new _ is = stays old new (ap (λ (s : TheService). s.state) is)

-- ---- a leg that is opened

-- the history after the changes of the leg
pub record Brings (id : ℕ) (rows after : List Row) (changes : List Change) : Type 0 where
  pub len : length after ≡ length rows
  pub history : history_of after id ≡ history_of rows id ++ coming (present (history_of rows id)) changes

module _ (id : ℕ) (old : TheService) (rows after : List Row) (changes : List Change) (kept : Keeps id old rows) (none : old.state.left ≡ []) (brings : Brings id rows after changes) where
  -- the definition of the node is the last one
  definition_is : old.state.definition ≡ present (history_of rows id)
  definition_is = ap (λ ds. last_of old.state.definition ds) (sym none) ∙ kept.last

  own_is : old.state.own + 0 ≡ length (history_of rows id)
  own_is = ap (λ (ds : List Definition). old.state.own + length ds) (sym none) ∙ kept.clock

  history_is : history_of after id ≡ history_of rows id ++ coming old.state.definition changes
  history_is = brings.history ∙ ap (λ o. history_of rows id ++ coming o changes) (sym definition_is)

  known_after : id < length after
  known_after = (let known = kept.declared in let len = brings.len in omega (arith, known, len))

  opened_keeps : (new : TheService) → new.state ≡ opened_with (coming old.state.definition changes) (opened_with [] old.state) → Keeps id new after
  opened_keeps new is =
      record {
        declared = known_after;
        id_is = ap (λ (s : State Value Definition). s.id) is ∙ kept.id_is;
        clock =
            ap (λ (s : State Value Definition). s.own + length s.left) is
            ∙ (let len = length-append (history_of rows id) (coming old.state.definition changes) in
            let own = own_is in
            let count : old.state.own + length (coming old.state.definition changes) ≡ length (history_of rows id ++ coming old.state.definition changes) = omega (arith, len, own) in
            count)
            ∙ ap (λ (ds : List Definition). length ds) (sym history_is);
        last =
            ap (λ (s : State Value Definition). last_of s.definition s.left) is
            ∙ ap (λ o. last_of o (coming old.state.definition changes)) definition_is
            ∙ sym (present-more (history_of rows id) (coming old.state.definition changes))
            ∙ ap present (sym history_is);
      }

  accepted_after : IsBook after → (d : Definition) → Has (coming old.state.definition changes) d → IsDefinitionOf (roster_of after) id d
  accepted_after book d has =
      let P : List Definition → Type 0 = λ ds. Has ds d in
      (book.each id known_after).definitions d (subst P (sym history_is) (Has-append_right (history_of rows id) (coming old.state.definition changes) d has))

  clock_after : IsBook after → old.state.own + length changes ≤ 1024000
  clock_after book =
      let within = (book.each id known_after).clock in
      let len = length-append (history_of rows id) (coming old.state.definition changes) in
      let same = ap (λ (ds : List Definition). length ds) history_is in
      let count = length-coming old.state.definition changes in
      let own = own_is in
      omega (arith, within, len, same, count, own)

  -- of the node whose leg was closed before
  module _ (closed : TheService) (is_closed : closed.state ≡ opened_with [] old.state) where
    pub kept_opened : (new : TheService) → new.state ≡ opened_with (coming closed.state.definition changes) closed.state → Keeps id new after
    kept_opened new is = opened_keeps new (is ∙ ap (λ (s : State Value Definition). opened_with (coming s.definition changes) s) is_closed)

    pub open_accepted : (roster : List Kind) → roster ≡ roster_of after → IsBook after → (d : Definition) → Has (coming closed.state.definition changes) d → IsDefinitionOf roster closed.state.id d
    open_accepted roster roster_is book d has =
        let P : Option Definition → Type 0 = λ o. Has (coming o changes) d in
        let Q : List Kind → Type 0 = λ kinds. IsDefinitionOf kinds closed.state.id d in
        let R : ℕ → Type 0 = λ n. IsDefinitionOf (roster_of after) n d in
        let id_is : id ≡ closed.state.id = sym kept.id_is ∙ ap (λ (s : State Value Definition). s.id) (sym is_closed) in
        subst Q (sym roster_is) (subst R id_is (accepted_after book d (subst P (ap (λ (s : State Value Definition). s.definition) is_closed) has)))

    pub open_clock : IsBook after → closed.state.own + length changes ≤ 1024000
    open_clock book = (let own = ap (λ (s : State Value Definition). s.own) is_closed in let most = clock_after book in omega (arith, own, most))

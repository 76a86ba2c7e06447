-- How clap walks over the items behind `run` and `step`.
use Rattle.std.proofs.Common.{◌≡◌, ◌∙◌, ◌&&◌, ◌||◌, ap, ap₂, sym, ℕ, Bool, true, false, List, [], ◌∷◌, Option, Some, None, refl, codes, fold}
use Rattle.std.specs.Prelude.{is_some, nat_le, not, if◌then◌else◌}
use Rattle.std.proofs.lemmas.Bool.{and_parts}
use Rattle.clap.specs.Simple.{Shape, built}
use Rattle.clap.specs.Takes.{settle_passes, turn_passes, walk_passes}
use Rattle.clap.specs.Walk.{Held, Row, Step, Text, Walk, after_step, has_row, idle, next, option, settled_rows, walked, word_met}
use Rattle.clap.proofs.OnLiterals.{clap_on_literals}
use Rattle.command_words.specs.declared.asked.Asked.{Asked}
use Rattle.command_words.specs.KeptTaken.{with_keep_flags}
use Rattle.command_words.specs.KeptWords.{Item, items_of, leg_of}
use Rattle.command_words.specs.KeptWords.Item.{trace, sources, keep, resume, at}
use Rattle.command_words.specs.Words.{number_value}
use Rattle.command_words.proofs.Accepted.{plain_number}
use Rattle.command_words.proofs.AllowedItems.{follows, may_follow, put_all}
use Rattle.command_words.proofs.ByItems.{by_items}
use Rattle.command_words.proofs.ItemWords.{has, put}
use Rattle.command_words.proofs.KeptRows.{Keeps, no_leg_row, none_for, used_flag, with_keep, with_leg_row, with_resume, with_sources, with_trace}
use Rattle.command_words.proofs.PlainWords.{IsPlain}
use Rattle.command_words.proofs.RowLemmas.{has_row_for, row_for}

module _ (name : Text) where
  abbrev pub kept_shape : Shape
  kept_shape = (built (with_keep_flags name)).top

  abbrev pub Pending : Type 0
  Pending = Option (Text × List Text)

  abbrev pub held_with : List Row → Pending → Held
  held_with rows pending = record { rows = rows; pending = pending; skip = 0 }

  -- a walk between two items
  abbrev pub resting : List Row → Pending → Walk
  resting rows pending = record { held = held_with rows pending; waiting = idle; position = 1; is_trailing = false; stopped = None }

  -- the rows where what is pending is used
  abbrev pub all_rows : List Row → Pending → List Row
  all_rows rows pending = settled_rows kept_shape.rules pending rows

  abbrev pub pending_passes : List Row → Pending → Bool
  pending_passes rows pending = settle_passes kept_shape.rules false (held_with rows pending)

  -- a walk behind `--at`
  abbrev awaiting : List Row → Walk
  awaiting rows = record { held = held_with rows (Some (codes "at", [])); waiting = option (codes "at"); position = 1; is_trailing = false; stopped = None }

  module _ (rows : List Row) (pending : Pending) (p : pending_passes rows pending ≡ true) where
    trace_walked : walked kept_shape.rules [] (resting rows pending) (codes "--trace") ≡ resting (used_flag (codes "trace") (all_rows rows pending)) None
    unfolding clap_on_literals
    trace_walked = refl

    trace_passes : has_row (codes "trace") (all_rows rows pending) ≡ false → turn_passes kept_shape [] (resting rows pending) (codes "--trace") ≡ true
    unfolding clap_on_literals
    trace_passes none = ap₂ (λ (p h : Bool). (p && ((not h || false) && true)) && true) p none

    sources_walked : walked kept_shape.rules [] (resting rows pending) (codes "--sources") ≡ resting (used_flag (codes "sources") (all_rows rows pending)) None
    unfolding clap_on_literals
    sources_walked = refl

    sources_passes : has_row (codes "sources") (all_rows rows pending) ≡ false → turn_passes kept_shape [] (resting rows pending) (codes "--sources") ≡ true
    unfolding clap_on_literals
    sources_passes none = ap₂ (λ (p h : Bool). (p && ((not h || false) && true)) && true) p none

    keep_walked : walked kept_shape.rules [] (resting rows pending) (codes "--keep") ≡ resting (used_flag (codes "keep") (all_rows rows pending)) None
    unfolding clap_on_literals
    keep_walked = refl

    keep_passes : has_row (codes "keep") (all_rows rows pending) ≡ false → turn_passes kept_shape [] (resting rows pending) (codes "--keep") ≡ true
    unfolding clap_on_literals
    keep_passes none = ap₂ (λ (p h : Bool). (p && ((not h || false) && true)) && true) p none

    resume_walked : walked kept_shape.rules [] (resting rows pending) (codes "--resume") ≡ resting (used_flag (codes "resume") (all_rows rows pending)) None
    unfolding clap_on_literals
    resume_walked = refl

    resume_passes : has_row (codes "resume") (all_rows rows pending) ≡ false → turn_passes kept_shape [] (resting rows pending) (codes "--resume") ≡ true
    unfolding clap_on_literals
    resume_passes none = ap₂ (λ (p h : Bool). (p && ((not h || false) && true)) && true) p none

    at_walked : walked kept_shape.rules [] (resting rows pending) (codes "--at") ≡ awaiting (all_rows rows pending)
    unfolding clap_on_literals
    at_walked = refl

    at_passes : turn_passes kept_shape [] (resting rows pending) (codes "--at") ≡ true
    unfolding clap_on_literals
    at_passes = ap (λ (p : Bool). p && true) p

  module _ (rows : List Row) (leg : Text) (plain : IsPlain leg) where
    leg_met : word_met kept_shape.rules [] false (option (codes "at")) 1 leg (held_with rows (Some (codes "at", []))) ≡ (held_with rows (Some (codes "at", leg ∷ [])), next idle)
    leg_met = rw (plain.dashes, plain.long, plain.short) refl

    leg_walked : walked kept_shape.rules [] (awaiting rows) leg ≡ resting rows (Some (codes "at", leg ∷ []))
    unfolding clap_on_literals
    leg_walked = ap (λ (m : Held × Step). after_step kept_shape.rules leg (awaiting rows) m.0 m.1) leg_met

    leg_passes : turn_passes kept_shape [] (awaiting rows) leg ≡ true
    unfolding clap_on_literals
    leg_passes = rw (plain.dashes, plain.long, plain.short) refl

    pending_leg_passes : has_row (codes "at") rows ≡ false → pending_passes rows (Some (codes "at", leg ∷ [])) ≡ true
    pending_leg_passes none = ap (λ (h : Bool). (not h || false) && true) none

  -- where the walk over the words ends, and that each word passes
  pub record Walks (words : List Text) (rows : List Row) (pending : Pending) (asked : Asked) : Type 0 where
    pub end_rows : List Row
    pub end_pending : Pending
    pub passes : walk_passes kept_shape [] (resting rows pending) words ≡ true
    pub ends : fold (walked kept_shape.rules []) (resting rows pending) words ≡ resting end_rows end_pending
    pub last_passes : pending_passes end_rows end_pending ≡ true
    pub keeps : Keeps (all_rows end_rows end_pending) asked

  abbrev AllWalk : List Text → List Item → Type 0
  AllWalk words items = (asked : Asked) (rows : List Row) (pending : Pending) → pending_passes rows pending ≡ true → Keeps (all_rows rows pending) asked
      → may_follow asked items ≡ true → Walks words rows pending (put_all asked items)

  none_walk : AllWalk [] []
  unfolding clap_on_literals
  none_walk asked rows pending p k h = record { end_rows = rows; end_pending = pending; passes = refl; ends = refl; last_passes = p; keeps = k }

  first_passes : (walk after : Walk) (word : Text) (rest : List Text) → turn_passes kept_shape [] walk word ≡ true → walked kept_shape.rules [] walk word ≡ after
      → walk_passes kept_shape [] after rest ≡ true → walk_passes kept_shape [] walk (word ∷ rest) ≡ true
  unfolding clap_on_literals
  first_passes walk after word rest turn is h = ap₂ (λ (t : Bool) (w : Walk). t && walk_passes kept_shape [] w rest) turn is ∙ h

  first_ends : (walk after end : Walk) (word : Text) (rest : List Text) → walked kept_shape.rules [] walk word ≡ after
      → fold (walked kept_shape.rules []) after rest ≡ end → fold (walked kept_shape.rules []) walk (word ∷ rest) ≡ end
  first_ends walk after end word rest is h = ap (λ (w : Walk). fold (walked kept_shape.rules []) w rest) is ∙ h

  trace_walk : (rest : List Text) (items : List Item) → AllWalk rest items → AllWalk (codes "--trace" ∷ rest) (trace ∷ items)
  trace_walk rest items more asked rows pending p k h =
      let both = and_parts (not asked.traces.trace) _ (sym (follows asked trace items) ∙ h) in
      let none = has_row_for (codes "trace") (all_rows rows pending) ∙ ap (λ (o : Option Row). is_some o) (none_for (codes "trace") (all_rows rows pending) asked.traces.trace k.trace both.0) in
      let w = more (put asked trace) (used_flag (codes "trace") (all_rows rows pending)) None refl (with_trace (all_rows rows pending) asked k both.0) both.1 in
      record {
        end_rows = w.end_rows;
        end_pending = w.end_pending;
        passes = first_passes (resting rows pending) _ (codes "--trace") rest (trace_passes rows pending p none) (trace_walked rows pending p) w.passes;
        ends = first_ends (resting rows pending) _ (resting w.end_rows w.end_pending) (codes "--trace") rest (trace_walked rows pending p) w.ends;
        last_passes = w.last_passes;
        keeps = w.keeps;
      }

  sources_walk : (rest : List Text) (items : List Item) → AllWalk rest items → AllWalk (codes "--sources" ∷ rest) (sources ∷ items)
  sources_walk rest items more asked rows pending p k h =
      let both = and_parts (not asked.traces.sources) _ (sym (follows asked sources items) ∙ h) in
      let none = has_row_for (codes "sources") (all_rows rows pending) ∙ ap (λ (o : Option Row). is_some o) (none_for (codes "sources") (all_rows rows pending) asked.traces.sources k.sources both.0) in
      let w = more (put asked sources) (used_flag (codes "sources") (all_rows rows pending)) None refl (with_sources (all_rows rows pending) asked k both.0) both.1 in
      record {
        end_rows = w.end_rows;
        end_pending = w.end_pending;
        passes = first_passes (resting rows pending) _ (codes "--sources") rest (sources_passes rows pending p none) (sources_walked rows pending p) w.passes;
        ends = first_ends (resting rows pending) _ (resting w.end_rows w.end_pending) (codes "--sources") rest (sources_walked rows pending p) w.ends;
        last_passes = w.last_passes;
        keeps = w.keeps;
      }

  keep_walk : (rest : List Text) (items : List Item) → AllWalk rest items → AllWalk (codes "--keep" ∷ rest) (keep ∷ items)
  keep_walk rest items more asked rows pending p k h =
      let both = and_parts (not asked.keep) _ (sym (follows asked keep items) ∙ h) in
      let none = has_row_for (codes "keep") (all_rows rows pending) ∙ ap (λ (o : Option Row). is_some o) (none_for (codes "keep") (all_rows rows pending) asked.keep k.keep both.0) in
      let w = more (put asked keep) (used_flag (codes "keep") (all_rows rows pending)) None refl (with_keep (all_rows rows pending) asked k both.0) both.1 in
      record {
        end_rows = w.end_rows;
        end_pending = w.end_pending;
        passes = first_passes (resting rows pending) _ (codes "--keep") rest (keep_passes rows pending p none) (keep_walked rows pending p) w.passes;
        ends = first_ends (resting rows pending) _ (resting w.end_rows w.end_pending) (codes "--keep") rest (keep_walked rows pending p) w.ends;
        last_passes = w.last_passes;
        keeps = w.keeps;
      }

  resume_walk : (rest : List Text) (items : List Item) → AllWalk rest items → AllWalk (codes "--resume" ∷ rest) (resume ∷ items)
  resume_walk rest items more asked rows pending p k h =
      let both = and_parts (not asked.resume) _ (sym (follows asked resume items) ∙ h) in
      let none = has_row_for (codes "resume") (all_rows rows pending) ∙ ap (λ (o : Option Row). is_some o) (none_for (codes "resume") (all_rows rows pending) asked.resume k.resume both.0) in
      let w = more (put asked resume) (used_flag (codes "resume") (all_rows rows pending)) None refl (with_resume (all_rows rows pending) asked k both.0) both.1 in
      record {
        end_rows = w.end_rows;
        end_pending = w.end_pending;
        passes = first_passes (resting rows pending) _ (codes "--resume") rest (resume_passes rows pending p none) (resume_walked rows pending p) w.passes;
        ends = first_ends (resting rows pending) _ (resting w.end_rows w.end_pending) (codes "--resume") rest (resume_walked rows pending p) w.ends;
        last_passes = w.last_passes;
        keeps = w.keeps;
      }

  plain_leg : (text : Text) (o : Option ℕ) (leg : ℕ) → number_value text ≡ o → leg_of o ≡ Some leg → (number_value text ≡ Some leg) × IsPlain text
  plain_leg text None leg is e = absurd (cc e)
  plain_leg text (Some number) leg is e =
      (is ∙ within (nat_le 1 number && nat_le number 1000) e, plain_number text (ap (λ (o : Option ℕ). is_some o) is))
    where
      within : (b : Bool) → (if b then Some number else None) ≡ Some leg → Some number ≡ Some leg
      within true e = e
      within false e = absurd (cc e)

  at_walk : (text : Text) (leg : ℕ) (rest : List Text) (items : List Item) → leg_of (number_value text) ≡ Some leg → AllWalk rest items
      → AllWalk (codes "--at" ∷ text ∷ rest) (at leg ∷ items)
  at_walk text leg rest items is more asked rows pending p k h =
      let both = and_parts (not (has asked (at leg))) _ (sym (follows asked (at leg) items) ∙ h) in
      let now = all_rows rows pending in
      let number = plain_leg text (number_value text) leg refl is in
      let none = has_row_for (codes "at") now ∙ ap (λ (o : Option Row). is_some o) (no_leg_row (row_for (codes "at") now) asked.leg k.leg both.0) in
      let w = more (put asked (at leg)) now (Some (codes "at", text ∷ [])) (pending_leg_passes now text number.1 none) (with_leg_row now asked text leg number.0 k both.0) both.1 in
      record {
        end_rows = w.end_rows;
        end_pending = w.end_pending;
        passes = first_passes (resting rows pending) _ (codes "--at") (text ∷ rest) (at_passes rows pending p) (at_walked rows pending p)
            (first_passes (awaiting now) _ text rest (leg_passes now text number.1) (leg_walked now text number.1) w.passes);
        ends = first_ends (resting rows pending) (awaiting now) (resting w.end_rows w.end_pending) (codes "--at") (text ∷ rest) (at_walked rows pending p)
            (first_ends (awaiting now) (resting now (Some (codes "at", text ∷ []))) (resting w.end_rows w.end_pending) text rest (leg_walked now text number.1) w.ends);
        last_passes = w.last_passes;
        keeps = w.keeps;
      }

  -- words that are items are walked over
  pub all_walk : (words : List Text) (items : List Item) → items_of words ≡ Some items → AllWalk words items
  all_walk = by_items AllWalk none_walk trace_walk sources_walk keep_walk resume_walk at_walk

-- Whom the logs and the turns of a leg name is born by the end of the leg.
use Rattle.std.proofs.Common.{◌≡◌, ℕ, ◌<◌, ◌≤◌, ◌==◌, List, [], ◌∷◌, Option, Some, None, inl, inr, sym, ap, ◌∙◌, subst, arith}
use Rattle.std.proofs.lemmas.Bool.{cond-true, cond-false, cases_Bool, eqb-false}
use Rattle.propagation.specs.Lists.{Has, IsOlderPart}
use Rattle.propagation.specs.History.{edge, now}
use Rattle.propagation.specs.Logs.{Emission, Entry, Frame, Leg, carry, emissions, frames_owed, frames_sent, frames_taken}
use Rattle.propagation.specs.Logs.Entry.{Did, Took, Computed, Sent}
use Rattle.propagation.specs.Rules.{Accepted, Legal}
use Rattle.propagation.specs.Stamps.{Stamps, clock_of, keys}
use Rattle.propagation.proofs.Carried.{carry_emissions}
use Rattle.propagation.proofs.Keys.{rising-pos}
use Rattle.propagation.proofs.Lists.{Has-member, Has-older}
use Rattle.propagation.proofs.Naming.{frames_name_born}
use Rattle.propagation.proofs.Truth.{all_good, computations_are_true, fed_all}
use Rattle.service_machine.specs.Fitting.{Kept}
use Rattle.service_machine.specs.States.{Head, Slot, State, slot_at}
use Rattle.service_machine.specs.Steps.{choice_of}
use Rattle.service_machine.specs.Systems.{System, SystemFits}
use Rattle.service_machine.specs.Turning.{Choice, greatest_clocks, head_lag, heads, inputs}
use Rattle.service_machine.specs.Turning.Choice.{Advance, Compute, Empty, Lags, Still}
use Rattle.service_machine.proofs.Emitting.{heads-rising}
use Rattle.service_machine.proofs.Moving.{head-member, targets-are}
use Rattle.service_machine.proofs.Raising.{raise_all-from}
use Rattle.service_machine.proofs.Slots.{has-heads}
use Rattle.service_machine.proofs.Table.{Chosen, choice-is, lag-some}
use Rattle.service_machine.proofs.Table.Chosen.{to_advance, to_compute, to_empty, to_lag, to_still}
use Rattle.service_machine.proofs.Turned.{input-is}

-- ---- logs

module _ {V : Type 0} where
  -- what a log sent to a service is among the frames sent to it
  has-sent : (q : ℕ) (f : Frame V) (log : List (Entry V)) → Has log (Sent q f) → Has (frames_sent q log) f
  has-sent q f [] has = absurd has
  has-sent q f (Did c ∷ log) (inl e) = absurd (cc e)
  has-sent q f (Did c ∷ log) (inr h) = has-sent q f log h
  has-sent q f (Took p x ∷ log) (inl e) = absurd (cc e)
  has-sent q f (Took p x ∷ log) (inr h) = has-sent q f log h
  has-sent q f (Computed v S picks ∷ log) (inl e) = absurd (cc e)
  has-sent q f (Computed v S picks ∷ log) (inr h) = has-sent q f log h
  has-sent q f (Sent r x ∷ log) has =
      elim (cases_Bool (r == q)) [
        | inl t ↦ subst (λ (fs : List (Frame V)). Has fs f) (sym (cond-true (r == q) (x ∷ frames_sent q log) (frames_sent q log) t)) (elim has [ inl e ↦ inl (cc e) | inr h ↦ inr (has-sent q f log h) ])
        | inr t ↦ subst (λ (fs : List (Frame V)). Has fs f) (sym (cond-false (r == q) (x ∷ frames_sent q log) (frames_sent q log) t)) (elim has [ inl e ↦ absurd (eqb-false r q t (cc e)) | inr h ↦ has-sent q f log h ])
      ]

  -- and what it took from one is among the frames taken from it
  has-taken : (p : ℕ) (f : Frame V) (log : List (Entry V)) → Has log (Took p f) → Has (frames_taken p log) f
  has-taken p f [] has = absurd has
  has-taken p f (Did c ∷ log) (inl e) = absurd (cc e)
  has-taken p f (Did c ∷ log) (inr h) = has-taken p f log h
  has-taken p f (Sent q x ∷ log) (inl e) = absurd (cc e)
  has-taken p f (Sent q x ∷ log) (inr h) = has-taken p f log h
  has-taken p f (Computed v S picks ∷ log) (inl e) = absurd (cc e)
  has-taken p f (Computed v S picks ∷ log) (inr h) = has-taken p f log h
  has-taken p f (Took r x ∷ log) has =
      elim (cases_Bool (r == p)) [
        | inl t ↦ subst (λ (fs : List (Frame V)). Has fs f) (sym (cond-true (r == p) (x ∷ frames_taken p log) (frames_taken p log) t)) (elim has [ inl e ↦ inl (cc e) | inr h ↦ inr (has-taken p f log h) ])
        | inr t ↦ subst (λ (fs : List (Frame V)). Has fs f) (sym (cond-false (r == p) (x ∷ frames_taken p log) (frames_taken p log) t)) (elim has [ inl e ↦ absurd (eqb-false r p t (cc e)) | inr h ↦ has-taken p f log h ])
      ]

module _ {V D : Type 0} (g : Leg V D) (rank : ℕ → ℕ) (logs : ℕ → List (Entry V)) (acc : Accepted g rank) (legal : Legal g logs) where
  pub sent_born : (n q : ℕ) (f : Frame V) → Has (logs n) (Sent q f) → 0 < now g.book q
  sent_born n q f has = (frames_name_born V D g rank logs acc legal q n f (has-sent q f (logs n) has)).0

  pub took_born : (n p : ℕ) (f : Frame V) → Has (logs n) (Took p f) → 0 < now g.book p
  took_born n p f has = (frames_name_born V D g rank logs acc legal n p f (Has-older (frames_taken p (logs n)) (frames_sent n (logs p)) f (legal.in_order n p) (has-taken p f (logs n) has))).1

  pub computed_born : (n : ℕ) (v : V) (S : Stamps) (picks : List ℕ) → Has (logs n) (Computed v S picks) → (q : ℕ) → Has (keys S) q → 0 < now g.book q
  computed_born n v S picks has q key =
      let truth = (computations_are_true V D g rank logs acc legal n v S picks has).0 in
      let some : 0 < clock_of S q = rising-pos 0 S truth.rising q key in
      let most : clock_of S q ≤ now g.book q = truth.in_time q in
      omega arith

  -- whom an emission gives a clock
  emission_born : (n : ℕ) (m : Emission V) → Has (emissions g n (logs n)) m → (q : ℕ) → 0 < clock_of m.stamps q → 0 < now g.book q
  emission_born n m has q some =
      let most : clock_of m.stamps q ≤ now g.book q = (all_good g rank logs acc legal n m has).truth.in_time q in
      omega arith

-- ---- turns

module _ {V D : Type 0} (g : Leg V D) (rank : ℕ → ℕ) (low : ℕ → Stamps) (w : System V D) (acc : Accepted g rank) (h : SystemFits g low w) (lows : (n q : ℕ) → clock_of (low n) q ≤ g.start q) (n : ℕ) where
  abbrev s : State V D
  s = w.states n

  kept : Kept g (low n) s (w.logs n)
  kept = (h.fits n).kept

  floor_born : (q : ℕ) → 0 < clock_of s.floor q → 0 < now g.book q
  floor_born q some =
      elim (kept.floor_from q) [
        | inl old ↦
            (let below : clock_of s.floor q ≤ clock_of (low n) q = old in
            let start : clock_of (low n) q ≤ g.start q = lows n q in
            let grown : g.start q ≤ now g.book q = acc.grows q in
            omega arith)
        | inr m ↦
            (let below : clock_of s.floor q ≤ clock_of m.0.stamps q = m.2 in
            emission_born g rank w.logs acc h.legal n m.0 (subst (λ j. Has (emissions g j (w.logs n)) m.0) (h.ids n) m.1) q (omega arith))
      ]

  -- the emission of a head is one of its sender
  head_born : (x : Slot V) (head : Head V) → Has (inputs s) x → x.head ≡ Some head → (q : ℕ) → 0 < clock_of head.emission.stamps q → 0 < now g.book q
  head_born x head has is q some =
      let at : slot_at s.slots x.sender ≡ x = (input-is s x has).1 in
      let head_is : (slot_at s.slots x.sender).head ≡ Some head = ap (λ (y : Slot V). y.head) at ∙ is in
      let member = head-member g s.id (w.logs n) s.own head.epoch (edge g.book s.id x.sender s.own) x.sender (slot_at s.slots x.sender) head (kept.sound x.sender) (kept.slots x.sender) head_is in
      let fed : IsOlderPart (frames_taken x.sender (w.logs n)) (frames_owed g x.sender s.id (w.logs x.sender)) =
      subst (λ j. IsOlderPart (frames_taken x.sender (w.logs n)) (frames_owed g x.sender j (w.logs x.sender))) (sym (h.ids n)) (fed_all g rank w.logs acc h.legal n x.sender) in
      let emitted : Has (emissions g x.sender (w.logs x.sender)) head.emission =
      carry_emissions g acc.opening s.id x.sender head.epoch (w.logs n) (w.logs x.sender) fed head.emission (Has-member (carry g s.id x.sender head.epoch (w.logs n)) head.number head.emission member) in
      emission_born g rank w.logs acc h.legal x.sender head.emission emitted q some

  -- the greatest clock of a key is that of the floor or of a head
  key_born : (q : ℕ) → 0 < clock_of (greatest_clocks (inputs s) s.floor) q → 0 < now g.book q
  key_born q some =
      elim (raise_all-from s.floor (heads (inputs s)) q kept.floor_rises (heads-rising g (low n) s (w.logs n) kept)) [
        | inl floor ↦ floor_born q (subst (λ c. 0 < c) floor some)
        | inr m ↦
            (let x = has-heads (inputs s) m.0 m.1 in
            let clock : clock_of (greatest_clocks (inputs s) s.floor) q ≡ clock_of m.0.stamps q = m.2 in
            let same : clock_of x.1.emission.stamps q ≡ clock_of m.0.stamps q = ap (λ (y : Emission V). clock_of y.stamps q) x.4 in
            head_born x.0 x.1 x.2 x.3 q (omega arith))
      ]

  lagging_born : (head : Option (Head V)) (key : ℕ) → head_lag (greatest_clocks (inputs s) s.floor) head ≡ Some key → 0 < now g.book key
  lagging_born None key e = absurd (cc e)
  lagging_born (Some head) key e =
      let below = lag-some (greatest_clocks (inputs s) s.floor) head.emission.stamps key e in
      let less : below.0 < clock_of (greatest_clocks (inputs s) s.floor) key = below.2 in
      key_born key (omega arith)

  input_born : (x : Slot V) → Has (inputs s) x → 0 < now g.book x.sender
  input_born x has = acc.born s.id s.own x.sender (subst (λ (ps : List ℕ). Has ps x.sender) (targets-are g (low n) s (w.logs n) kept) (input-is s x has).0)

  -- whom a choice names
  abbrev pub NamesBorn : Choice → Type 0
  NamesBorn (Advance p) = Unit {0}
  NamesBorn Compute = Unit {0}
  NamesBorn (Empty p) = 0 < now g.book p
  NamesBorn (Lags p key) = (0 < now g.book p) × (0 < now g.book key)
  NamesBorn Still = Unit {0}

  chosen_born : (c : Choice) → Chosen (inputs s) s.floor s.due c → NamesBorn c
  chosen_born c (to_advance x has next) = tt
  chosen_born c (to_compute full even due) = tt
  chosen_born c (to_empty x has none next) = input_born x has
  chosen_born c (to_lag x key has lags next) = (input_born x has, lagging_born x.head key lags)
  chosen_born c (to_still full even calm none) = tt

  pub choice_born : NamesBorn (choice_of s)
  choice_born = chosen_born (choice_of s) (choice-is (inputs s) s.floor s.due)

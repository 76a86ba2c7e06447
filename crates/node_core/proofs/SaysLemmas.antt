-- What frames that are sent make of a log.
use Rattle.std.proofs.Common.{◌≡◌, ℕ, zero, suc, ◌<◌, ◌≤◌, true, false, List, [], ◌∷◌, ◌++◌, length, take, slice_index_or, Some, All, refl, sym, ap, subst, ◌∙◌, arith}
use Rattle.propagation.specs.Stamps.{Stamps, keys, same_keys, all_places, changed_places}
use Rattle.propagation.specs.Logs.{Emission, Entry as TheEntry, Frame as TheFrame, tell, in_full}
use Rattle.propagation.specs.Logs.Entry.{Sent as TheSent}
use Rattle.propagation.specs.Logs.Frame.{Sources as TheSources, Changed as TheChanged}
use Rattle.std.proofs.lemmas.Bool.{cond-true, cond-false}
use Rattle.std.proofs.lemmas.List.Elements.{All-head, All-tail}
use Rattle.service_machine.specs.Steps.{sends_to, reports}
use Rattle.svc_value.specs.declared.value.Value.{Value}
use Rattle.wire_frame.specs.declared.frame.Frame.{Frame}
use Rattle.wire_frame.specs.declared.frame.Frame.TheVariants.{Sources, Changed}
use Rattle.wire_frame.specs.declared.frame.Announced.{Announced}
use Rattle.wire_frame.specs.declared.frame.Delta.{Delta}
use Rattle.wire_frame.specs.Frames.{pairs}
use Rattle.wire_frame.specs.Message.{message}
use Rattle.node_core.specs.declared.entry.Entry.{Entry}
use Rattle.node_core.specs.declared.entry.Entry.TheVariants.{Sent}
use Rattle.node_core.specs.Entries.{Extends, sent_entries}
use Rattle.node_core.specs.Outgoing.{Adds, Says, each_told, value_frames, full_frames}
use Rattle.node_core.specs.View.{told_all}
use Rattle.node_core.proofs.OutgoingFrameLemmas.{sent_snoc}

-- one list of entries after another
pub extends_append : (xs ys : List Entry) (a b c : List (TheEntry Value)) → Extends a xs b → Extends b ys c → Extends a (xs ++ ys) c
extends_append [] ys a b c first second = let P : List (TheEntry Value) → Type 0 = λ log. Extends log ys c in subst P first second
extends_append (x ∷ xs) ys a b c first second = (first.0, first.1, extends_append xs ys (first.0 ∷ a) b c first.2 second)

-- no frames
pub says_none : Says [] (λ log. log)
says_none = record { each = λ log. refl }

-- one frame more
pub says_one : (outgoing more : List (ℕ × List ℕ)) (q : ℕ) (frame : Frame) (said : TheFrame Value) (step : List (TheEntry Value) → List (TheEntry Value)) →
    Says outgoing step → Adds q frame outgoing more → message frame ≡ Some said → Says more (λ log. TheSent q said ∷ step log)
says_one outgoing more q frame said step says adds is =
    let P : List (ℕ × List ℕ) → Type 0 = λ m. Says m (λ log. TheSent q said ∷ step log) in
    subst P (sym adds.added) (record {
      each = λ log.
          let Q : List Entry → Type 0 = λ es. Extends log es (TheSent q said ∷ step log) in
          subst Q (sym (sent_snoc outgoing q adds.bytes))
          (extends_append (sent_entries outgoing) (Sent q adds.bytes ∷ []) log (step log) (TheSent q said ∷ step log) (says.each log)
          (TheSent q said, (said, record { frame = frame; frame_of = adds.frame_of; is = is }, refl), refl));
    })

pub says_same : (outgoing : List (ℕ × List ℕ)) (f g : List (TheEntry Value) → List (TheEntry Value)) → ((log : List (TheEntry Value)) → f log ≡ g log) → Says outgoing f → Says outgoing g
says_same outgoing f g same says = record { each = λ log. let P : List (TheEntry Value) → Type 0 = λ l. Extends log (sent_entries outgoing) l in subst P (same log) (says.each log) }

-- one reader more
pub told_next : (readers : List (ℕ × ℕ)) (frames_under : ℕ → List (TheFrame Value)) (i : ℕ) (reader : ℕ × ℕ) (log : List (TheEntry Value)) → i < length readers → reader ≡ slice_index_or readers i reader →
    sends_to reader.0 (frames_under reader.1) (each_told (take i readers) frames_under log) ≡ each_told (take (suc i) readers) frames_under log
told_next [] frames_under i reader log lt is = absurd (omega arith)
told_next (x ∷ readers) frames_under zero reader log lt is = ap (λ (r : ℕ × ℕ). sends_to r.0 (frames_under r.1) log) is
told_next (x ∷ readers) frames_under (suc i) reader log lt is = told_next readers frames_under i reader (sends_to x.0 (frames_under x.1) log) (omega arith) is

-- all of them
pub told_whole : (readers : List (ℕ × ℕ)) (frames_under : ℕ → List (TheFrame Value)) (i : ℕ) (log : List (TheEntry Value)) → length readers ≤ i → each_told (take i readers) frames_under log ≡ each_told readers frames_under log
told_whole [] frames_under zero log h = refl
told_whole [] frames_under (suc i) log h = refl
told_whole (x ∷ readers) frames_under zero log h = absurd (omega (arith, h))
told_whole (x ∷ readers) frames_under (suc i) log h = told_whole readers frames_under i (sends_to x.0 (frames_under x.1) log) (omega (arith, h))

-- what is told by the same letters
pub told_same : (readers : List (ℕ × ℕ)) (f g : ℕ → List (TheFrame Value)) (log : List (TheEntry Value)) → ((e : ℕ) → f e ≡ g e) → each_told readers f log ≡ each_told readers g log
told_same [] f g log same = refl
told_same (x ∷ readers) f g log same =
    ap (λ fs. each_told readers f (sends_to x.0 fs log)) (same x.1) ∙ told_same readers f g (sends_to x.0 (g x.1) log) same

-- the reports of the machine
pub told_reports : (told : Stamps) (readers : List (ℕ × ℕ)) (m : Emission Value) (log : List (TheEntry Value)) → each_told readers (λ e. tell e told m) log ≡ reports (told_all told readers) m log
told_reports told [] m log = refl
told_reports told (x ∷ readers) m log = told_reports told readers m (sends_to x.0 (tell x.1 told m) log)

-- no reader yet
pub told_none : (outgoing : List (ℕ × List ℕ)) (frames_under : ℕ → List (TheFrame Value)) → outgoing ≡ [] → Says outgoing (each_told [] frames_under)
told_none outgoing frames_under none = let P : List (ℕ × List ℕ) → Type 0 = λ m. Says m (each_told [] frames_under) in subst P (sym none) (record { each = λ log. refl })

-- a value to one reader more
pub value_step : (outgoing more : List (ℕ × List ℕ)) (readers : List (ℕ × ℕ)) (delta : Delta) (i : ℕ) (reader : ℕ × ℕ) → i < length readers → reader ≡ slice_index_or readers i reader →
    Says outgoing (each_told (take i readers) (value_frames delta)) → Adds reader.0 (Changed (record delta { epoch = reader.1 })) outgoing more → Says more (each_told (take (suc i) readers) (value_frames delta))
value_step outgoing more readers delta i reader lt is says adds =
    says_same more (λ log. TheSent reader.0 (TheChanged reader.1 delta.value (pairs delta.clocks)) ∷ each_told (take i readers) (value_frames delta) log) (each_told (take (suc i) readers) (value_frames delta))
    (λ log. told_next readers (value_frames delta) i reader log lt is)
    (says_one outgoing more reader.0 (Changed (record delta { epoch = reader.1 })) (TheChanged reader.1 delta.value (pairs delta.clocks)) (each_told (take i readers) (value_frames delta)) says adds refl)

-- keys and a value to one reader more
pub full_step : (outgoing half more : List (ℕ × List ℕ)) (readers : List (ℕ × ℕ)) (announced : Announced) (delta : Delta) (i : ℕ) (reader : ℕ × ℕ) → i < length readers → reader ≡ slice_index_or readers i reader →
    Says outgoing (each_told (take i readers) (full_frames announced delta)) → Adds reader.0 (Sources (record announced { epoch = reader.1 })) outgoing half → Adds reader.0 (Changed (record delta { epoch = reader.1 })) half more →
    Says more (each_told (take (suc i) readers) (full_frames announced delta))
full_step outgoing half more readers announced delta i reader lt is says adds adds2 =
    let step : List (TheEntry Value) → List (TheEntry Value) = λ log. TheSent reader.0 (TheSources reader.1 announced.keys) ∷ each_told (take i readers) (full_frames announced delta) log in
    let one : Says half step = says_one outgoing half reader.0 (Sources (record announced { epoch = reader.1 })) (TheSources reader.1 announced.keys) (each_told (take i readers) (full_frames announced delta)) says adds refl in
    says_same more (λ log. TheSent reader.0 (TheChanged reader.1 delta.value (pairs delta.clocks)) ∷ step log) (each_told (take (suc i) readers) (full_frames announced delta))
    (λ log. told_next readers (full_frames announced delta) i reader log lt is)
    (says_one half more reader.0 (Changed (record delta { epoch = reader.1 })) (TheChanged reader.1 delta.value (pairs delta.clocks)) step one adds2 refl)

-- all readers
pub told_all_of : (outgoing : List (ℕ × List ℕ)) (readers : List (ℕ × ℕ)) (frames_under : ℕ → List (TheFrame Value)) (i : ℕ) → length readers ≤ i → Says outgoing (each_told (take i readers) frames_under) → Says outgoing (each_told readers frames_under)
told_all_of outgoing readers frames_under i end says = says_same outgoing (each_told (take i readers) frames_under) (each_told readers frames_under) (λ log. told_whole readers frames_under i log end) says

-- the epoch of a reader
pub epoch_at : (readers : List (ℕ × ℕ)) (i : ℕ) (reader : ℕ × ℕ) → i < length readers → reader ≡ slice_index_or readers i reader → All (λ r. 1 ≤ r.1) readers → 1 ≤ reader.1
epoch_at [] i reader lt is all = absurd (omega (arith, lt))
epoch_at (x ∷ readers) zero reader lt is all = subst (λ (r : ℕ × ℕ). 1 ≤ r.1) (sym is) (All-head (λ (r : ℕ × ℕ). 1 ≤ r.1) x readers all)
epoch_at (x ∷ readers) (suc i) reader lt is all = epoch_at readers i reader (omega (arith, lt)) is (All-tail (λ (r : ℕ × ℕ). 1 ≤ r.1) x readers all)

-- the letters of an emission in full, and of what changed
pub full_letters : (outgoing : List (ℕ × List ℕ)) (readers : List (ℕ × ℕ)) (announced : Announced) (delta : Delta) (m : Emission Value) → announced.keys ≡ keys m.stamps → delta.value ≡ m.value → pairs delta.clocks ≡ all_places 0 m.stamps →
    Says outgoing (each_told readers (full_frames announced delta)) → Says outgoing (each_told readers (λ e. in_full e m))
full_letters outgoing readers announced delta m k v p says =
    says_same outgoing (each_told readers (full_frames announced delta)) (each_told readers (λ e. in_full e m))
    (λ log. told_same readers (full_frames announced delta) (λ e. in_full e m) log (λ e. λ i. TheChanged e (v i) (p i) ∷ TheSources e (k i) ∷ [])) says

pub change_letters : (outgoing : List (ℕ × List ℕ)) (readers : List (ℕ × ℕ)) (told : Stamps) (delta : Delta) (m : Emission Value) → same_keys told m.stamps ≡ true → delta.value ≡ m.value → pairs delta.clocks ≡ changed_places 0 told m.stamps →
    Says outgoing (each_told readers (value_frames delta)) → Says outgoing (each_told readers (λ e. tell e told m))
change_letters outgoing readers told delta m same v p says =
    says_same outgoing (each_told readers (value_frames delta)) (each_told readers (λ e. tell e told m))
    (λ log. told_same readers (value_frames delta) (λ e. tell e told m) log
    (λ e. (λ i. TheChanged e (v i) (p i) ∷ []) ∙ sym (cond-true (same_keys told m.stamps) (TheChanged e m.value (changed_places 0 told m.stamps) ∷ []) (in_full e m) same))) says

-- other keys are told in full
pub new_letters : (outgoing : List (ℕ × List ℕ)) (readers : List (ℕ × ℕ)) (told : Stamps) (m : Emission Value) → same_keys told m.stamps ≡ false →
    Says outgoing (each_told readers (λ e. in_full e m)) → Says outgoing (reports (told_all told readers) m)
new_letters outgoing readers told m other says =
    says_same outgoing (each_told readers (λ e. in_full e m)) (reports (told_all told readers) m)
    (λ log. told_same readers (λ e. in_full e m) (λ e. tell e told m) log
    (λ e. sym (cond-false (same_keys told m.stamps) (TheChanged e m.value (changed_places 0 told m.stamps) ∷ []) (in_full e m) other)) ∙ told_reports told readers m log) says

pub old_letters : (outgoing : List (ℕ × List ℕ)) (readers : List (ℕ × ℕ)) (told : Stamps) (m : Emission Value) → Says outgoing (each_told readers (λ e. tell e told m)) → Says outgoing (reports (told_all told readers) m)
old_letters outgoing readers told m says = says_same outgoing (each_told readers (λ e. tell e told m)) (reports (told_all told readers) m) (λ log. told_reports told readers m log) says

pub nothing_told : (S : Stamps) → 0 < length S → same_keys [] S ≡ false
nothing_told [] lt = absurd (omega arith)
nothing_told (x ∷ S) lt = refl

-- From how a command ended to how the call ends: a refusal is answered behind what is held, and what is accepted is not refused.
use Rattle.std.proofs.Common.{◌≡◌, ◌∙◌, ◌↔◌, ◌⊎◌, ap, refl, subst, inl, inr, ℕ, ◌≤◌, arith, List, [], ◌++◌, Option, None, Some, Result, Ok, Err}
use Rattle.std.specs.Prelude.{IsSome}
use Rattle.std.specs.Io.KnownBytes.{Appends, Keeps}
use Rattle.settle_core.specs.Net.{NetworkView}
use Rattle.command_words.specs.declared.command.Command.{Command}
use Rattle.command_words.specs.declared.command.Command.TheVariants.{Run, Step, Check, Central, Frames, Make, Load}
use Rattle.command_words.specs.declared.size.Size.{Size}
use Rattle.svc_plan.specs.declared.plan.Mode.TheVariants as mode
use Rattle.svc_value.specs.Causes.{Rose}
use Rattle.document_reading.specs.declared.refusal.Refusal.{Refusal}
use Rattle.document_reading.proofs.ReadingLemmas.{one_answer}
use Rattle.qprop_cli.specs.declared.command_error.CommandError.{CommandError}
use Rattle.qprop_cli.specs.declared.command_error.CommandError.TheVariants.{Refused, ReadFault, WriteFault}
use Rattle.qprop_cli.specs.declared.outcome.Status.TheVariants.{Done}
use Rattle.qprop_cli.specs.Ending.{Ends, Performs}
use Rattle.qprop_cli.specs.Outcome.{IsAcceptedBy, IsRefusedBy, RefusesInput, RefusedOutput, RunsLegs, AddsDue}
use Rattle.qprop_cli.specs.Refusals.{refusal_line}
use Rattle.qprop_cli.specs.Streams.{AddsBeginning}
use Rattle.qprop_cli.proofs.DueLemmas.{refusal_due}
use Rattle.qprop_cli.proofs.StreamLemmas.{stream_is_accepted}

-- ---- the ends of a command

the_error : {T : Type 0} (a b : CommandError) (result : Result T CommandError) → result ≡ Err a → result ≡ Err b → a ≡ b
the_error a b (Ok value) one other = absurd (cc one)
the_error a b (Err error) one other = cc (one, other)

keeps_itself : (held : Option (List ℕ)) → Keeps held held
keeps_itself None = tt
keeps_itself (Some bytes) = refl

-- it read what it asked for, and is done
pub done_ends : (command : Command) (left_old left_new : Option (List ℕ)) (source_old source_new : ℕ) (held_old held_new : Option (List ℕ)) (sink_old sink_new : ℕ) (network : Option NetworkView) →
    sink_old ≤ sink_new → Performs command left_old left_new held_old held_new network →
    Ends command left_old left_new source_old source_new held_old held_new sink_old sink_new (Ok network)
done_ends command left_old left_new source_old source_new held_old held_new sink_old sink_new network later done = record {
  later = later;
  done = done;
  refused = λ refusal is. absurd (cc is);
  unanswered = λ refusal is. absurd (cc is);
  read_fault = λ is. absurd (cc is);
  nothing = λ is. absurd (cc is);
  write_fault = λ is. absurd (cc is);
  begun = λ is. absurd (cc is);
  memory = λ is. absurd (cc is);
}

-- the sink failed
pub fault_ends : (command : Command) (left_old left_new : Option (List ℕ)) (source_old source_new : ℕ) (held_old held_new : Option (List ℕ)) (sink_old sink_new : ℕ) →
    sink_old ≤ sink_new → Rose sink_old sink_new → AddsDue (Some command) left_old left_new held_old held_new →
    Ends command left_old left_new source_old source_new held_old held_new sink_old sink_new (Err WriteFault)
fault_ends command left_old left_new source_old source_new held_old held_new sink_old sink_new later rose begun = record {
  later = later;
  done = tt;
  refused = λ refusal is. absurd (cc is);
  unanswered = λ refusal is. absurd (cc is);
  read_fault = λ is. absurd (cc is);
  nothing = λ is. absurd (cc is);
  write_fault = λ is. rose;
  begun = λ is. begun;
  memory = λ is. absurd (cc is);
}

-- it did not read what it asked for, and so wrote nothing
pub unread_ends : {T : Type 0} (command : Command) (left_old left_new : Option (List ℕ)) (source_old source_new : ℕ) (held : Option (List ℕ)) (sink : ℕ) (read : Result T CommandError) (error : CommandError) →
    read ≡ Err error → ((refusal : Refusal) → read ≡ Err (Refused refusal) → RefusesInput (Some command) left_old left_new refusal) → (read ≡ Err ReadFault → Rose source_old source_new) →
    (read ≡ Err WriteFault → ⊥) → Ends command left_old left_new source_old source_new held held sink sink (Err error)
unread_ends command left_old left_new source_old source_new held sink read error same refused read_fault no_write_fault = record {
  later = omega arith;
  done = tt;
  refused = λ refusal is. refused refusal (as_read (Refused refusal) is);
  unanswered = λ refusal is. keeps_itself held;
  read_fault = λ is. read_fault (as_read ReadFault is);
  nothing = λ is. keeps_itself held;
  write_fault = λ is. absurd (no_write_fault (as_read WriteFault is));
  begun = λ is. absurd (no_write_fault (as_read WriteFault is));
  memory = λ is. inl (keeps_itself held);
}
  where
    answer : Result (Option NetworkView) CommandError
    answer = Err error

    as_read : (told : CommandError) → answer ≡ Err told → read ≡ Err told
    as_read told is = same ∙ ap Err (the_error error told answer refl is)

-- ---- what is held behind what was kept

appends_behind : (a b c : Option (List ℕ)) (text : List ℕ) → Keeps a b → Appends b c text → Appends a c text
appends_behind None b c text kept added = tt
appends_behind (Some xs) None c text kept added = absurd kept
appends_behind (Some xs) (Some ys) None text kept added = absurd added
appends_behind (Some xs) (Some ys) (Some zs) text kept added = added ∙ ap (λ (held : List ℕ). held ++ text) kept

pub keeps_behind : (a b c : Option (List ℕ)) → Keeps a b → Keeps b c → Keeps a c
keeps_behind None b c kept more = tt
keeps_behind (Some xs) None c kept more = absurd kept
keeps_behind (Some xs) (Some ys) None kept more = absurd more
keeps_behind (Some xs) (Some ys) (Some zs) kept more = more ∙ kept

begins_behind : (a b c : Option (List ℕ)) (text : List ℕ) → Keeps a b → AddsBeginning b c text → AddsBeginning a c text
begins_behind a b c text kept begun = record { added = begun.added; rest = begun.rest; whole = begun.whole; gained = appends_behind a b c begun.added kept begun.gained }

-- a count that rose from a later one rose
pub rose_later : (a b c : ℕ) → a ≤ b → Rose b c → Rose a c
rose_later a b c later rose = omega (arith, later, rose)

-- ---- the call whose words stand for the command

module _ (words : Option Command) (command : Command) (same : Some command ≡ words) (left_old left_new held_old held held_new : Option (List ℕ)) where
  pub refused_output : (refusal : Refusal) → RefusesInput (Some command) left_old left_new refusal → Keeps held_old held → Appends held held_new (refusal_line refusal) →
      RefusedOutput words left_old left_new held_old held_new refusal
  refused_output refusal refuses kept added =
      subst (λ (o : Option Command). RefusedOutput o left_old left_new held_old held_new refusal) same
      (record { input = refuses; added = appends_behind held_old held held_new (refusal_line refusal) kept added })

  pub refusal_begun : (refusal : Refusal) → RefusesInput (Some command) left_old left_new refusal → Keeps held_old held → AddsBeginning held held_new (refusal_line refusal) →
      AddsDue words left_old left_new held_old held_new
  refusal_begun refusal refuses kept begun =
      subst (λ (o : Option Command). AddsDue o left_old left_new held_old held_new) same
      (refusal_due left_old left_new held_old held_new (Some command) refusal refuses (begins_behind held_old held held_new (refusal_line refusal) kept begun))

-- a call of one command did what that command does
pub performed : (words : Option Command) (command own : Command) (left_old left_new held_old held_new : Option (List ℕ)) (network : Option NetworkView) →
    Some command ≡ words → words ≡ Some own → Performs command left_old left_new held_old held_new network → Performs own left_old left_new held_old held_new network
performed words command own left_old left_new held_old held_new network same is done =
    subst (λ (c : Command). Performs c left_old left_new held_old held_new network) (the_command (same ∙ is)) done
  where
    the_command : Some command ≡ Some own → command ≡ own
    the_command e = cc e

-- the words stand for the command that was performed, where it reads nothing
pub asked_for : (words : Option Command) (command : Command) (size : Size) → Some command ≡ words → (words ≡ Some (Make size)) ⊎ (words ≡ Some (Load size)) → (command ≡ Make size) ⊎ (command ≡ Load size)
asked_for words command size same (inl made) = inl (let e : Some command ≡ Some (Make size) = same ∙ made in cc e)
asked_for words command size same (inr loaded) = inr (let e : Some command ≡ Some (Load size) = same ∙ loaded in cc e)

-- a network is handed out by `run`, `step` and `load` alone
no_network : (network : Option NetworkView) → network ≡ None → IsSome network → ⊥
no_network None none some = cc some
no_network (Some network) none some = cc none

pub network_there : (words : Option Command) (command : Command) (left_old left_new held_old held_new : Option (List ℕ)) (network : Option NetworkView) →
    Some command ≡ words → Performs command left_old left_new held_old held_new network → IsSome network ↔ (RunsLegs words × (Done ≡ Done))
network_there words command left_old left_new held_old held_new network same done =
    subst (λ (o : Option Command). IsSome network ↔ (RunsLegs o × (Done ≡ Done))) same (there command done)
  where
    there : (c : Command) → Performs c left_old left_new held_old held_new network → IsSome network ↔ (RunsLegs (Some c) × (Done ≡ Done))
    there (Run flags) is = ((λ some. (tt, refl)), (λ both. is.1))
    there (Step flags) is = ((λ some. (tt, refl)), (λ both. is.1))
    there (Load size) is = ((λ some. (tt, refl)), (λ both. is.1))
    there Check is = ((λ some. absurd (no_network network is.1 some)), (λ both. absurd both.0))
    there Central is = ((λ some. absurd (no_network network is.1 some)), (λ both. absurd both.0))
    there Frames is = ((λ some. absurd (no_network network is.1 some)), (λ both. absurd both.0))
    there (Make size) is = ((λ some. absurd (no_network network is.1 some)), (λ both. absurd both.0))

-- ---- what is accepted is not refused

accepted_whole : (command : Command) (read : List ℕ) (refusal : Refusal) → IsAcceptedBy command read → IsRefusedBy (Some command) read refusal → ⊥
accepted_whole (Run flags) read refusal is refused = one_answer [] 0 mode.Plain read refusal refused is
accepted_whole (Step flags) read refusal is refused = one_answer [] 0 mode.Step read refusal refused is
accepted_whole Check read refusal is refused = one_answer [] 0 mode.Plain read refusal refused is
accepted_whole Central read refusal is refused = one_answer [] 0 mode.Plain read refusal refused is
accepted_whole Frames read refusal is refused = stream_is_accepted read is.0 refusal is.1 refused
accepted_whole (Make size) read refusal is refused = refused
accepted_whole (Load size) read refusal is refused = refused

pub not_refused : (words : Option Command) (command own : Command) (read : List ℕ) (left_old left_new : Option (List ℕ)) (refusal : Refusal) → Some command ≡ words → words ≡ Some own →
    left_old ≡ Some read → IsAcceptedBy own read → RefusesInput (Some command) left_old left_new refusal → ⊥
not_refused words command own read left_old left_new refusal same is left accepted refuses =
    let P : Option Command → Type 0 = λ o. IsRefusedBy o read refusal in
    accepted_whole own read refusal accepted (subst P (same ∙ is) (refuses.all read left))

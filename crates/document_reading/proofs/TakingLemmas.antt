-- What taking a line says of the lines so far, and of the document.
use Rattle.std.proofs.Common.{◌≡◌, ℕ, ◌+◌, ◌<◌, ◌≤◌, List, [], ◌∷◌, ◌++◌, length, length-append, Err, refl, sym, ap, subst, ◌∙◌, arith, append_assoc, inr}
use Rattle.std.proofs.lemmas.List.{append-nil}
use Rattle.svc_graph.specs.History.{Row}
use Rattle.svc_plan.specs.declared.plan.Mode.{Mode}
use Rattle.document_reading.specs.declared.refusal.Code.{Code}
use Rattle.document_reading.specs.declared.refusal.Refusal.{Refusal}
use Rattle.document_reading.specs.declared.line_error.LineError.{LineError}
use Rattle.document_reading.specs.declared.line_error.LineError.TheVariants.{Refused}
use Rattle.document_reading.specs.Document.{lines_of, Reads, ends, RefusesLine, IsFirstRefused, IsRefusalAfter}
use Rattle.document_reading.specs.Parser.{TakesLine, RefusedAt}
use Rattle.document_reading.specs.Sound.{IsStart, IsSound}
use Rattle.document_reading.specs.State.{State, start}
use Rattle.document_reading.proofs.ReadingLemmas.{reads-last}
use Rattle.document_reading.proofs.SoundLemmas.{size, size-append, size_lines, sound_here}

-- so many lines were taken, and the rest is left
pub record ReadSoFar (mode : Mode) (first : State) (bytes rest : List ℕ) (count : ℕ) (state : State) : Type 0 where
  pub front : List (List ℕ)
  pub reads : Reads mode first front state
  pub lines_are : lines_of bytes ≡ front ++ lines_of rest
  pub count_is : count ≡ length front
  pub room : count + length rest ≤ length bytes

pub begins : (mode : Mode) (first : State) (bytes : List ℕ) → ReadSoFar mode first bytes bytes 0 first
begins mode first bytes = record { front = []; reads = ends; lines_are = refl; count_is = refl; room = omega arith }

-- the state is sound where a line is left
pub sound_before : (mode : Mode) (first : State) (bytes rest after line : List ℕ) (count : ℕ) (state : State) → ReadSoFar mode first bytes rest count state → IsStart first
    → length bytes ≤ 1048576 → lines_of rest ≡ line ∷ lines_of after → IsSound state
sound_before mode first bytes rest after line count state r s short split =
    let all : size (lines_of bytes) ≡ size r.front + size (lines_of rest) = ap size r.lines_are ∙ size-append r.front (lines_of rest) in
    let here : size (lines_of rest) ≡ length line + 1 + size (lines_of after) = ap size split in
    let bound = size_lines bytes in
    sound_here s r.reads (omega (arith, all, here, bound, short))

pub takes : (mode : Mode) (first : State) (bytes rest after line : List ℕ) (count : ℕ) (state new : State) → ReadSoFar mode first bytes rest count state
    → lines_of rest ≡ line ∷ lines_of after → length after < length rest → TakesLine mode state line new → ReadSoFar mode first bytes after (count + 1) new
takes mode first bytes rest after line count state new r split shorter t = record {
  front = r.front ++ line ∷ [];
  reads = subst (Reads mode first (r.front ++ line ∷ [])) (sym t.goes_on) (reads-last r.reads t.accepts);
  lines_are = r.lines_are ∙ ap (λ (ls : List (List ℕ)). r.front ++ ls) split ∙ sym (append_assoc r.front (line ∷ []) (lines_of after));
  count_is = ap (λ (n : ℕ). n + 1) r.count_is ∙ sym (length-append r.front (line ∷ []));
  room = let b = r.room in omega (arith, b, shorter);
}

refused_here : (mode : Mode) (rows : List Row) (before : ℕ) (bytes rest after line : List ℕ) (count : ℕ) (state : State) (code : Code)
    → ReadSoFar mode (start rows before) bytes rest count state → lines_of rest ≡ line ∷ lines_of after → RefusesLine mode state line code
    → IsFirstRefused rows before mode bytes (count + 1) code
refused_here mode rows before bytes rest after line count state code r split h = record {
  front = r.front;
  line = line;
  behind = lines_of after;
  state = state;
  lines = r.lines_are ∙ ap (λ (ls : List (List ℕ)). r.front ++ ls) split;
  number_is = ap (λ (n : ℕ). n + 1) r.count_is;
  accepted = r.reads;
  refused = h;
}

-- the refusal at a line that is refused
pub refusal_here : (X : Type 0) (mode : Mode) (first : State) (bytes rest after line : List ℕ) (count : ℕ) (state : State) (stop : LineError) → ReadSoFar mode first bytes rest count state
    → IsStart first → lines_of rest ≡ line ∷ lines_of after → length bytes ≤ 1048576 → RefusedAt {X = X} (Err stop) (RefusesLine mode state line)
    → (refusal : Refusal) → stop ≡ Refused refusal.code → refusal.line ≡ count + 1 → IsRefusalAfter first.rows first.before mode bytes refusal
refusal_here X mode first bytes rest after line count state stop r s split short h refusal is at =
    let refuses : RefusesLine mode state line refusal.code = subst (λ (t : LineError). RefusedAt {X = X} (Err t) (RefusesLine mode state line)) is h in
    let from = subst (λ (f : State). ReadSoFar mode f bytes rest count state) s.begins r in
    inr (
      short,
      subst (λ (n : ℕ). IsFirstRefused first.rows first.before mode bytes n refusal.code) (sym at)
          (refused_here mode first.rows first.before bytes rest after line count state refusal.code from split refuses),
    )

pub all_read : (mode : Mode) (first : State) (bytes rest : List ℕ) (count : ℕ) (state : State) → ReadSoFar mode first bytes rest count state → length rest ≡ 0
    → Reads mode first (lines_of bytes) state
all_read mode first bytes [] count state r h = subst (λ (ls : List (List ℕ)). Reads mode first ls state) (sym (r.lines_are ∙ append-nil r.front)) r.reads
all_read mode first bytes (b ∷ rest) count state r h = absurd (omega arith)

use Rattle.std.proofs.Common.{rules, ◌≡◌, sym, ap, subst, ◌∙◌, ◌+◌, ◌-◌, length, arith, length-append, IsUtf8, chars, string_bytes}
use Rattle.std.specs.Char.{encode_utf8}
use Rattle.std.specs.Str.Iter.{chars_rest}
use Rattle.svc_value.specs.declared.inside.Inside.TheVariants.{Open}
use Rattle.svc_value.specs.Reading.{next_step, inside_at, Moves}
use Rattle.svc_value.proofs.InsideRuns.{kept_run}
use Rattle.svc_value.proofs.InsideSteps.{closes, stops, KeptBy, kept_enter, kept_give, ends}
use Rattle.svc_value.proofs.inside.read_quoted.Goals as goal
use Rattle.svc_value.proofs.inside.read_quoted.Goals.{in-Enter, in-Give+in_ok-push-in-Give}

pub returns-in-Close : goal.returns-in-Close
returns-in-Close c =
    let held = c.loop-char.invariant in
    let left : c.len.result ≡ length (string_bytes c.loop-char.words) = search rules in
    closes c.args.form c.loop-char.inside c.loop-char.at (256 - length (string_bytes c.loop-char.words)) c.in-Some.char (string_bytes c.loop-char.words)
    (chars_rest c.loop-char.rest) (chars_rest c.next.new.self) _ held.utf8 c.in-Some.ensures.steps.0 held.read
    c.next_step.result c.from_string.result (c.next_step.ensures ∙ ap (λ n. next_step c.args.form c.loop-char.inside (256 - n) c.in-Some.char) left) c.in-Close.is c.from_string.ensures

pub returns-in-Stop : goal.returns-in-Stop
returns-in-Stop c =
    let held = c.loop-char.invariant in
    let left : c.len.result ≡ length (string_bytes c.loop-char.words) = search rules in
    stops c.args.form c.loop-char.inside c.loop-char.at (256 - length (string_bytes c.loop-char.words)) c.in-Some.char (string_bytes c.loop-char.words)
    (chars_rest c.loop-char.rest) (chars_rest c.next.new.self) _ held.utf8 c.in-Some.ensures.steps.0 held.read
    c.next_step.result (c.next_step.ensures ∙ ap (λ n. next_step c.args.form c.loop-char.inside (256 - n) c.in-Some.char) left) c.in-Stop.is

pub returns : goal.returns
returns c =
    let held = c.loop-char.invariant in
    ends c.args.form c.loop-char.inside c.loop-char.at (256 - length (string_bytes c.loop-char.words)) (string_bytes c.loop-char.words) (chars_rest c.loop-char.rest) _
    c.in_default.ensures.steps.0.0 held.read

pub loop-char-preserved : goal.loop-char-preserved
loop-char-preserved c =
    let held = c.loop-char.invariant in
    let split = c.in-Some.ensures.steps.0 in
    let left : c.len.result ≡ length (string_bytes c.loop-char.words) = search rules in
    let made : c.next_step.result ≡ next_step c.args.form c.loop-char.inside (256 - length (string_bytes c.loop-char.words)) c.in-Some.char =
    c.next_step.ensures ∙ ap (λ n. next_step c.args.form c.loop-char.inside (256 - n) c.in-Some.char) left in
    let later = chars_rest c.next.new.self in
    let on : KeptBy c.args.form (c.loop-char.at + c.len_utf8-at.result) later (inside_at c.args.form (chars c.args.text.now) Open 256) c.match-next_step.inside (string_bytes c.match-next_step.words) =
    elim c.match-next_step.branch [
      | in-Enter w ↦ kept_enter c.args.form c.loop-char.inside c.loop-char.at c.len_utf8-at.result c.in-Some.char (string_bytes c.loop-char.words) (chars_rest c.loop-char.rest) later _
          held.utf8 split held.most held.room held.read c.len_utf8-at.ensures.value c.next_step.result w.in-Enter.next c.match-next_step.inside (string_bytes c.match-next_step.words)
          made w.in-Enter.is (ap string_bytes w.words-is) w.inside-is
      | in-Give+in_ok-push-in-Give w ↦ kept_give c.args.form c.loop-char.inside c.loop-char.at c.len_utf8-at.result c.in-Some.char (string_bytes c.loop-char.words) (chars_rest c.loop-char.rest) later _
          held.utf8 split held.most held.room held.read c.len_utf8-at.ensures.value c.next_step.result w.in-Give.given c.match-next_step.inside (string_bytes w.push.new.self) (string_bytes c.match-next_step.words)
          made w.in-Give.is w.in_ok-push-in-Give.ensures.bytes (ap string_bytes w.words-is) w.inside-is
    ] in
    let text_is : c.as_str.result.now ≡ later = c.as_str.ensures in
    let left_is : chars_rest c.chars-rest-in-Some.result ≡ c.in_ok-left.left.now = c.chars-rest-in-Some.ensures.rest in
    let moved : Moves c.args.form c.match-next_step.inside (string_bytes c.match-next_step.words) (string_bytes c.behind_run.new.words) later c.in_ok-left.left.now c.in_ok-left.count =
    subst (λ text. Moves c.args.form c.match-next_step.inside (string_bytes c.match-next_step.words) (string_bytes c.behind_run.new.words) text c.in_ok-left.left.now c.in_ok-left.count) text_is c.in_ok-left.ensures.moved in
    let behind : KeptBy c.args.form (c.loop-char.at + c.len_utf8-at.result + c.in_ok-left.count) (chars_rest c.chars-rest-in-Some.result) (inside_at c.args.form (chars c.args.text.now) Open 256) c.match-next_step.inside (string_bytes c.behind_run.new.words) =
    subst (λ left. KeptBy c.args.form (c.loop-char.at + c.len_utf8-at.result + c.in_ok-left.count) left (inside_at c.args.form (chars c.args.text.now) Open 256) c.match-next_step.inside (string_bytes c.behind_run.new.words)) (sym left_is)
    (kept_run c.args.form c.match-next_step.inside (c.loop-char.at + c.len_utf8-at.result) c.in_ok-left.count (string_bytes c.match-next_step.words) (string_bytes c.behind_run.new.words) later c.in_ok-left.left.now _ on moved) in
    record {
      utf8 = subst IsUtf8 (sym left_is) moved.back;
      place = omega (arith, ap length split, length-append (encode_utf8 c.in-Some.char) later, c.len_utf8-at.ensures.len, held.place, c.in_ok-left.ensures.counted, ap length text_is, ap length left_is);
      most = behind.most;
      room = behind.room;
      read = behind.read;
    }

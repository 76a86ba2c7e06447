-- A quoted text is read a character further.
use Rattle.std.proofs.Common.{◌≡◌, refl, sym, ap, subst, ◌∙◌, ℕ, ◌+◌, ◌-◌, ◌*◌, ◌<◌, ◌≤◌, Bool, true, false, List, [], ◌++◌, length, Option, Some, None, Ok, Err, arith, append_assoc, append-nil, length-append, IsUtf8, chars, cond, ltb}
use Rattle.std.proofs.lemmas.Bool.{ltb-true, ltb-false}
use Rattle.std.proofs.lemmas.List.{nil_from_length}
use Rattle.std.proofs.lemmas.Str.{chars_past_char, chars-nil, len_utf8_bounds, len_utf8_ascii, length-encode}
use Rattle.std.specs.Char.{len_utf8, encode_utf8, digit_value}
use Rattle.svc_value.specs.declared.inside.Form.{Form}
use Rattle.svc_value.specs.declared.inside.Inside.{Inside}
use Rattle.svc_value.specs.declared.inside.Inside.TheVariants.{Open, Plain, Escape, Hex, Low}
use Rattle.svc_value.specs.declared.inside.Step.{Step}
use Rattle.svc_value.specs.declared.inside.Step.TheVariants.{Close, Stop, Enter, Give}
use Rattle.std.specs.Prelude.{◌==◌, ◌&&◌}
use Rattle.svc_value.specs.Quoted.{is_itself, is_written, short_escape, hex_escape}
use Rattle.svc_value.specs.Reading.{Read, next_step, give, past, goes_on, inside_at, may_lead, HasRoom}

-- ---- what steps keep

enters : (b c d e : Bool) (char : ℕ) (next : Inside) → cond b Close (cond c Stop (cond d (Enter Escape) (cond e (Give char) Stop))) ≡ Enter next → (c ≡ false) × (next ≡ Escape)
enters true c d e char next h = absurd (cc)
enters false true d e char next h = absurd (cc)
enters false false true e char next h = (refl, cc)
enters false false false true char next h = absurd (cc)
enters false false false false char next h = absurd (cc)

gives : (b c d e : Bool) (char given : ℕ) → cond b Close (cond c Stop (cond d (Enter Escape) (cond e (Give char) Stop))) ≡ Give given → (c ≡ false) × (given ≡ char)
gives true c d e char given h = absurd (cc)
gives false true d e char given h = absurd (cc)
gives false false true e char given h = absurd (cc)
gives false false false true char given h = (refl, cc)
gives false false false false char given h = absurd (cc)

pub given_short : (byte given : ℕ) → short_escape byte ≡ Some given → given < 128
given_short byte given h = by (byte == 34) (byte == 92) (byte == 110) (byte == 116) h
  where
    by : (b c d e : Bool) → cond b (Some 34) (cond c (Some 92) (cond d (Some 10) (cond e (Some 9) None))) ≡ Some given → given < 128
    by true c d e h = let k : 34 ≡ given = cc in omega arith
    by false true d e h = let k : 92 ≡ given = cc in omega arith
    by false false true e h = let k : 10 ≡ given = cc in omega arith
    by false false false true h = let k : 9 ≡ given = cc in omega arith
    by false false false false h = absurd (cc)

give_is : (o : Option ℕ) (char : ℕ) → give o ≡ Give char → o ≡ Some char
give_is (Some x) char h = ap (λ y. Some y) (let k : x ≡ char = cc in k)
give_is None char h = absurd (cc)

no_enter : (o : Option ℕ) (next : Inside) → give o ≡ Enter next → ⊥
no_enter (Some x) next h = cc
no_enter None next h = cc

pub given_hex : (form : Form) (high low given : ℕ) → hex_escape form high low ≡ Some given → given < 128
given_hex form high low given h = by (ltb (digit_value high) 8) (ltb (digit_value low) 16) (is_written form (digit_value high * 16 + digit_value low) high low) refl refl h
  where
    by : (b c d : Bool) → ltb (digit_value high) 8 ≡ b → ltb (digit_value low) 16 ≡ c → cond (b && c && d) (Some (digit_value high * 16 + digit_value low)) None ≡ Some given → given < 128
    by true true true p q h =
        let k : digit_value high * 16 + digit_value low ≡ given = cc in
        let l = ltb-true (digit_value high) 8 p in
        let m = ltb-true (digit_value low) 16 q in
        omega arith
    by true true false p q h = absurd (cc)
    by true false d p q h = absurd (cc)
    by false c d p q h = absurd (cc)

-- an escape is entered only where a byte more fits
pub room_enters : (form : Form) (inside next : Inside) (room char : ℕ) → HasRoom inside room → next_step form inside room char ≡ Enter next → HasRoom next room
room_enters form Open next room char r h = by (char == 34) h
  where
    by : (b : Bool) → cond b (Enter Plain) Stop ≡ Enter next → HasRoom next room
    by true h = subst (λ n. HasRoom n room) (let k : Plain ≡ next = cc in k) tt
    by false h = absurd (cc)
room_enters form Plain next room char r h =
    let k = enters (char == 34) (ltb room (len_utf8 char)) (char == 92) (is_itself form char) char next h in
    let least : 1 ≤ room = omega (arith, ltb-false room (len_utf8 char) k.0, (len_utf8_bounds char).0) in
    subst (λ n. HasRoom n room) (sym k.1) least
room_enters form Escape next room char r h = by (char == 120) h
  where
    by : (b : Bool) → cond b (Enter Hex) (give (short_escape char)) ≡ Enter next → HasRoom next room
    by true h = subst (λ n. HasRoom n room) (let k : Hex ≡ next = cc in k) r
    by false h = absurd (no_enter _ next h)
room_enters form Hex next room char r h = by (may_lead form char) h
  where
    by : (b : Bool) → cond b (Enter (Low char)) Stop ≡ Enter next → HasRoom next room
    by true h = subst (λ n. HasRoom n room) (let k : Low char ≡ next = cc in k) r
    by false h = absurd (cc)
room_enters form (Low high) next room char r h = absurd (no_enter _ next h)

-- what is given fits
pub room_gives : (form : Form) (inside : Inside) (room char given : ℕ) → HasRoom inside room → next_step form inside room char ≡ Give given → len_utf8 given ≤ room
room_gives form Open room char given r h = by (char == 34) h
  where
    by : (b : Bool) → cond b (Enter Plain) Stop ≡ Give given → len_utf8 given ≤ room
    by true h = absurd (cc)
    by false h = absurd (cc)
room_gives form Plain room char given r h =
    let k = gives (char == 34) (ltb room (len_utf8 char)) (char == 92) (is_itself form char) char given h in
    subst (λ d. len_utf8 d ≤ room) (sym k.1) (ltb-false room (len_utf8 char) k.0)
room_gives form Escape room char given r h = by (char == 120) h
  where
    by : (b : Bool) → cond b (Enter Hex) (give (short_escape char)) ≡ Give given → len_utf8 given ≤ room
    by true h = absurd (cc)
    by false h = let k = given_short char given (give_is _ given h) in omega (arith, len_utf8_ascii given k, r)
room_gives form Hex room char given r h = by (may_lead form char) h
  where
    by : (b : Bool) → cond b (Enter (Low char)) Stop ≡ Give given → len_utf8 given ≤ room
    by true h = absurd (cc)
    by false h = absurd (cc)
room_gives form (Low high) room char given r h = let k = given_hex form high char given (give_is _ given h) in omega (arith, len_utf8_ascii given k, r)

-- ---- what is read so far

pub past_past : (a b : ℕ) (front more : List ℕ) (read : Read (List ℕ)) → past a front (past b more read) ≡ past (a + b) (front ++ more) read
past_past a b front more (Ok read) =
    let e : a + (b + read.1) ≡ (a + b) + read.1 = omega arith in
    ap (λ t. Ok (t, a + (b + read.1))) (sym (append_assoc front more read.0)) ∙ ap (λ n. Ok ((front ++ more) ++ read.0, n)) e
past_past a b front more (Err place) = let e : a + (b + place) ≡ (a + b) + place = omega arith in ap (λ n. Err n) e

module _ (form : Form) (inside : Inside) (at room char : ℕ) (words bytes rest : List ℕ) (whole : Read (List ℕ)) (utf8 : IsUtf8 bytes) (split : bytes ≡ encode_utf8 char ++ rest)
    (read : past at words (inside_at form (chars bytes) inside room) ≡ whole) where
  -- the step that the character makes
  by_step : (st : Step) → st ≡ next_step form inside room char → past at words (goes_on room (len_utf8 char) (λ next left. inside_at form (chars rest) next left) st) ≡ whole
  by_step st e =
      ap (λ s. past at words (goes_on room (len_utf8 char) (λ next left. inside_at form (chars rest) next left) s)) e
      ∙ ap (λ cs. past at words (inside_at form cs inside room)) (sym (chars_past_char bytes rest char utf8 split)) ∙ read

  pub closes : (st : Step) (made : List ℕ) → st ≡ next_step form inside room char → st ≡ Close → made ≡ words → whole ≡ Ok (made, at + 1)
  closes st made e is same = sym (by_step Close (sym is ∙ e)) ∙ ap (λ t. Ok (t, at + 1)) (append-nil words ∙ sym same)

  pub stops : (st : Step) → st ≡ next_step form inside room char → st ≡ Stop → whole ≡ Err at
  stops st e is = let k : at + 0 ≡ at = omega arith in sym (by_step Stop (sym is ∙ e)) ∙ ap (λ n. Err n) k

  pub enters_next : (st : Step) (next : Inside) → st ≡ next_step form inside room char → st ≡ Enter next → past (at + len_utf8 char) words (inside_at form (chars rest) next room) ≡ whole
  enters_next st next e is =
      ap (λ t. past (at + len_utf8 char) t (inside_at form (chars rest) next room)) (sym (append-nil words))
      ∙ sym (past_past at (len_utf8 char) words [] _) ∙ by_step (Enter next) (sym is ∙ e)

  pub gives_char : (st : Step) (given left : ℕ) (more : List ℕ) → st ≡ next_step form inside room char → st ≡ Give given → more ≡ words ++ encode_utf8 given → left ≡ room - len_utf8 given
      → past (at + len_utf8 char) more (inside_at form (chars rest) Plain left) ≡ whole
  gives_char st given left more e is added less =
      ap (λ t. past (at + len_utf8 char) t (inside_at form (chars rest) Plain left)) added
      ∙ ap (λ n. past (at + len_utf8 char) (words ++ encode_utf8 given) (inside_at form (chars rest) Plain n)) less
      ∙ sym (past_past at (len_utf8 char) words (encode_utf8 given) _) ∙ by_step (Give given) (sym is ∙ e)

-- nothing is left
pub ends : (form : Form) (inside : Inside) (at room : ℕ) (words bytes : List ℕ) (whole : Read (List ℕ)) → length bytes ≡ 0
    → past at words (inside_at form (chars bytes) inside room) ≡ whole → whole ≡ Err at
ends form inside at room words bytes whole none read =
    let k : at + 0 ≡ at = omega arith in
    sym read ∙ ap (λ cs. past at words (inside_at form cs inside room)) (ap chars (nil_from_length bytes none) ∙ chars-nil) ∙ ap (λ n. Err n) k

-- what the loop keeps of the text read so far
pub record KeptBy (form : Form) (at : ℕ) (rest : List ℕ) (whole : Read (List ℕ)) (inside : Inside) (words : List ℕ) : Type 0 where
  pub most : length words ≤ 256
  pub room : HasRoom inside (256 - length words)
  pub read : past at words (inside_at form (chars rest) inside (256 - length words)) ≡ whole

module _ (form : Form) (inside : Inside) (at count char : ℕ) (words bytes rest : List ℕ) (whole : Read (List ℕ)) (utf8 : IsUtf8 bytes) (split : bytes ≡ encode_utf8 char ++ rest)
    (most : length words ≤ 256) (room : HasRoom inside (256 - length words)) (read : past at words (inside_at form (chars bytes) inside (256 - length words)) ≡ whole) (counted : count ≡ len_utf8 char) where
  counted_on : (now : Inside) (more : List ℕ) (left : ℕ) → past (at + len_utf8 char) more (inside_at form (chars rest) now left) ≡ whole → past (at + count) more (inside_at form (chars rest) now left) ≡ whole
  counted_on now more left h = ap (λ n. past (at + n) more (inside_at form (chars rest) now left)) counted ∙ h

  pub kept_enter : (st : Step) (next now : Inside) (more : List ℕ) → st ≡ next_step form inside (256 - length words) char → st ≡ Enter next → more ≡ words → now ≡ next → KeptBy form (at + count) rest whole now more
  kept_enter st next now more e is same_words same_place =
      let here : KeptBy form (at + count) rest whole next words = record {
        most = most;
        room = room_enters form inside next (256 - length words) char room (sym e ∙ is);
        read = counted_on next words _ (enters_next form inside at (256 - length words) char words bytes rest whole utf8 split read st next e is);
      } in
      subst (λ w. KeptBy form (at + count) rest whole now w) (sym same_words) (subst (λ n. KeptBy form (at + count) rest whole n words) (sym same_place) here)

  pub kept_give : (st : Step) (given : ℕ) (now : Inside) (pushed more : List ℕ) → st ≡ next_step form inside (256 - length words) char → st ≡ Give given → pushed ≡ words ++ encode_utf8 given → more ≡ pushed → now ≡ Plain
      → KeptBy form (at + count) rest whole now more
  kept_give st given now pushed more e is added same_words same_place =
      let fits = room_gives form inside (256 - length words) char given room (sym e ∙ is) in
      let long : length pushed ≡ length words + len_utf8 given = ap length added ∙ length-append words (encode_utf8 given) ∙ ap (λ n. length words + n) (length-encode given) in
      let here : KeptBy form (at + count) rest whole Plain pushed = record {
        most = omega arith;
        room = tt;
        read = counted_on Plain pushed _ (gives_char form inside at (256 - length words) char words bytes rest whole utf8 split read st given (256 - length pushed) pushed e is added (omega arith));
      } in
      subst (λ w. KeptBy form (at + count) rest whole now w) (sym same_words) (subst (λ n. KeptBy form (at + count) rest whole n pushed) (sym same_place) here)

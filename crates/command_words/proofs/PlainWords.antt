-- What clap makes of words that are accepted.
use Rattle.std.proofs.Common.{◌≡◌, ◌∙◌, ◌&&◌, ◌==◌, ℕ, ap, ap₂, arith, Bool, true, false, [], ◌∷◌, Some, None, refl, codes}
use Rattle.std.specs.Prelude.{is_some}
use Rattle.std.specs.Char.{is_ascii_digit}
use Rattle.std.specs.List.{list_all}
use Rattle.std.specs.Str.{bytes_eq}
use Rattle.clap.specs.Lexer.{long_of, short_of}
use Rattle.clap.specs.Simple.{Shape, built, entered}
use Rattle.clap.specs.Takes.{default_passes, entered_passes, is_valid, settle_passes, step_passes, turn_passes, walk_passes}
use Rattle.clap.specs.Walk.{Held, Step, Text, Walk, after_step, arg_by_index, finished, first_of, idle, nothing_held, to_positional, value, walk, walk_from, walked, word_met}
use Rattle.clap.specs.Words.{matches_of, takes}
use Rattle.clap.proofs.OnLiterals.{clap_on_literals}
use Rattle.command_words.specs.Taken.{with_size}

-- ---- words that are no flags

pub record IsPlain (word : Text) : Type 0 where
  pub dashes : bytes_eq word (45 ∷ 45 ∷ []) ≡ false
  pub long : long_of word ≡ None
  pub short : short_of word ≡ None

pub digit_is_plain : (digit : ℕ) (rest : Text) → (digit == 45) ≡ false → IsPlain (digit ∷ rest)
digit_is_plain digit rest other = record { dashes = rw other refl; long = rw other refl; short = rw other refl }

pub no_hyphen : (digit : ℕ) → is_ascii_digit digit ≡ true → (digit == 45) ≡ false
no_hyphen digit h = grind (arith, h)

-- ---- the walk over three of them

module _ (name : Text) where
  abbrev shape : Shape
  shape = (built (with_size name)).top

  -- a walk that waits for the argument at this place
  abbrev at : ℕ → Held → Walk
  at position held = record { held = held; waiting = idle; position = position; is_trailing = false; stopped = None }

  -- a plain word goes to the argument at its place, and passes
  met : (position : ℕ) (held : Held) (word : Text) → IsPlain word → word_met shape.rules [] false idle position word held ≡ (held, value)
  met position held word p = rw (p.dashes, p.long, p.short) refl

  abbrev after : ℕ → Held → Text → Walk
  after position held word = to_positional shape.rules (arg_by_index shape.rules position) word (at position held) held

  walked_on : (position : ℕ) (held : Held) (word : Text) → IsPlain word → walked shape.rules [] (at position held) word ≡ after position held word
  unfolding clap_on_literals
  walked_on position held word p = ap (λ (m : Held × Step). after_step shape.rules word (at position held) m.0 m.1) (met position held word p)

  passes_on : (position : ℕ) (held : Held) (word : Text) → IsPlain word → turn_passes shape [] (at position held) word ≡ step_passes shape position held value
  passes_on position held word p = rw (p.dashes, p.long, p.short) refl

  module _ (a b c : Text) (pa : IsPlain a) (pb : IsPlain b) (pc : IsPlain c) where
    abbrev one : Walk
    one = after 1 nothing_held a

    abbrev two : Walk
    two = after 2 one.held b

    abbrev three : Walk
    three = after 3 two.held c

    -- where the walk ends
    at_end : walk shape.rules [] nothing_held (a ∷ b ∷ c ∷ []) ≡ three
    at_end =
        ap (λ (w : Walk). walked shape.rules [] (walked shape.rules [] w b) c) (walked_on 1 nothing_held a pa)
        ∙ ap (λ (w : Walk). walked shape.rules [] w c) (walked_on 2 one.held b pb)
        ∙ walked_on 3 two.held c pc

    passed : walk_passes shape [] (walk_from nothing_held) (a ∷ b ∷ c ∷ []) ≡ true
    unfolding clap_on_literals
    passed =
        ap₂ (λ (t : Bool) (w : Walk). t && (turn_passes shape [] w b && (turn_passes shape [] (walked shape.rules [] w b) c && true))) (passes_on 1 nothing_held a pa) (walked_on 1 nothing_held a pa)
        ∙ ap₂ (λ (t : Bool) (w : Walk). t && (turn_passes shape [] w c && true)) (passes_on 2 one.held b pb) (walked_on 2 one.held b pb)
        ∙ ap (λ (t : Bool). t && true) (passes_on 3 two.held c pc)

    -- that the command takes the words, by where the walk ends and whether each word passed
    abbrev level : Walk → Bool → Bool
    level w passes = entered_passes (built (with_size name)) w.stopped && (passes && (settle_passes shape.rules shape.args_override_self w.held
        && (list_all default_passes shape.rules && is_valid shape (finished shape.rules w.held) (is_some (entered (built (with_size name)) w.stopped)))))

    pub numbers_take : (first : Text) → takes (with_size name) (first ∷ a ∷ b ∷ c ∷ []) ≡ true
    numbers_take first = ap₂ level at_end passed

    -- and each is found under its name
    pub services_found : (first : Text) → first_of (codes "services") (matches_of (with_size name) (first ∷ a ∷ b ∷ c ∷ [])) ≡ Some a
    services_found first = ap (λ (w : Walk). first_of (codes "services") (finished shape.rules w.held)) at_end

    pub changes_found : (first : Text) → first_of (codes "changes") (matches_of (with_size name) (first ∷ a ∷ b ∷ c ∷ [])) ≡ Some b
    changes_found first = ap (λ (w : Walk). first_of (codes "changes") (finished shape.rules w.held)) at_end

    pub start_found : (first : Text) → first_of (codes "start") (matches_of (with_size name) (first ∷ a ∷ b ∷ c ∷ [])) ≡ Some c
    start_found first = ap (λ (w : Walk). first_of (codes "start") (finished shape.rules w.held)) at_end

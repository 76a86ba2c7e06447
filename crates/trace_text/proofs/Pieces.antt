-- What stands behind the name of a service, read with it.
use Rattle.std.proofs.Common.{◌≡◌, ◌≢◌, ◌∙◌, sym, ap₂, subst, ℕ, ◌<◌, false, List, ◌∷◌, ◌++◌, Option, None, Some, IsUtf8}
use Rattle.std.specs.Char.{is_ascii_alphabetic}
use Rattle.svc_token.specs.Word.{is_word_byte}
use Rattle.svc_value.specs.declared.value.Value.{Value}
use Rattle.svc_value.specs.Layout.{IsWithin}
use Rattle.svc_value.specs.Printed.{printed_value}
use Rattle.trace_text.specs.Inside.Cutting.{Lacks}
use Rattle.trace_text.specs.Naming.{Naming, AreNamed}
use Rattle.trace_text.specs.Reading.{ReadsAs}
use Rattle.trace_text.proofs.PrintedUtf8.{printed_utf8}
use Rattle.trace_text.proofs.Words.{one_split, has_stop}
use Rattle.trace_text.proofs.Texts.{name-lacks}

pub no_text : (bytes : List ℕ) → ¬ (IsUtf8 bytes) → (value : Value) → IsWithin value → bytes ≢ printed_value value
no_text bytes bad value within e = bad (subst IsUtf8 (sym e) (printed_utf8 value within))

-- nothing was read
pub none_of : {X : Type 0} (Is : X → Type 0) (text : X → List ℕ) (bytes : List ℕ) (result : Option X) → result ≡ None → ReadsAs Is text bytes result → (x : X) → Is x → bytes ≢ text x
none_of Is text bytes result is read = subst (ReadsAs Is text bytes) is read

-- this was read
pub some_of : {X : Type 0} (Is : X → Type 0) (text : X → List ℕ) (bytes : List ℕ) (result : Option X) (x : X) → result ≡ Some x → ReadsAs Is text bytes result → Is x × (bytes ≡ text x)
some_of Is text bytes result x is read = subst (ReadsAs Is text bytes) is read

-- the byte behind the name is no byte of a word
module _ (name : Naming) (count : ℕ) (named : AreNamed name count) (stop : ℕ) (no_byte : is_word_byte stop ≡ false) (no_letter : is_ascii_alphabetic stop ≡ false)
    {Rest : Type 0} (IsRest : Rest → Type 0) (rest_text : Rest → List ℕ) where
  -- a service, and what stands behind its name
  abbrev IsNamed : ℕ × Rest → Type 0
  IsNamed pair = (pair.0 < count) × IsRest pair.1

  abbrev named_text : ℕ × Rest → List ℕ
  named_text pair = name pair.0 ++ stop ∷ rest_text pair.1

  -- the bytes are cut at the first such byte
  abbrev IsCut : List ℕ → List ℕ → List ℕ → Type 0
  IsCut text front behind = (text ≡ front ++ stop ∷ behind) × Lacks stop front

  -- without such a byte it is the text of none
  pub no_stop : (text : List ℕ) → Lacks stop text → (x : ℕ × Rest) → IsNamed x → text ≢ named_text x
  no_stop text lacks x is e = has_stop stop (name x.0) (rest_text x.1) (subst (Lacks stop) e lacks)

  parts_of : (text front behind : List ℕ) → IsCut text front behind → (x : ℕ × Rest) → IsNamed x → text ≡ named_text x → (front ≡ name x.0) × (behind ≡ rest_text x.1)
  parts_of text front behind cut x is e = one_split stop front (name x.0) behind (rest_text x.1) cut.1 (name-lacks stop (name x.0) (named x.0 is.0) no_byte no_letter) (sym cut.0 ∙ e)

  -- with a word that is no name it is neither
  pub no_name : (text front behind : List ℕ) → IsCut text front behind → ((n : ℕ) → n < count → front ≢ name n) → (x : ℕ × Rest) → IsNamed x → text ≢ named_text x
  no_name text front behind cut none x is e = none x.0 is.0 (parts_of text front behind cut x is e).0

  -- nor with nothing that can stand behind
  pub no_rest : (text front behind : List ℕ) → IsCut text front behind → ((y : Rest) → IsRest y → behind ≢ rest_text y) → (x : ℕ × Rest) → IsNamed x → text ≢ named_text x
  no_rest text front behind cut none x is e = none x.1 is.1 (parts_of text front behind cut x is e).1

  -- else it is
  pub both_read : (text front behind : List ℕ) (n : ℕ) (y : Rest) → IsCut text front behind → (n < count) × (front ≡ name n) → IsRest y × (behind ≡ rest_text y) → IsNamed (n, y) × (text ≡ named_text (n, y))
  both_read text front behind n y cut found read = ((found.0, read.0), cut.0 ∙ ap₂ (λ (a b : List ℕ). a ++ stop ∷ b) found.1 read.1)

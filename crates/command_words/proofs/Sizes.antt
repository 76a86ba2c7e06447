-- The size that a command has is within its limits.
use Rattle.std.proofs.Common.{◌≡◌, ℕ, Bool, true, false, List, [], ◌∷◌, Option, Some, None, refl, subst}
use Rattle.std.specs.Prelude.{nat_le, if◌then◌else◌}
use Rattle.std.proofs.lemmas.Bool.{leb-true, and_parts}
use Rattle.command_words.specs.declared.command.Command.{Command}
use Rattle.command_words.specs.declared.command.Command.TheVariants.{Run, Step, Check, Central, Frames, Make, Load}
use Rattle.command_words.specs.declared.size.Size.{Size}
use Rattle.command_words.specs.Words.{command_of, is_size, IsSize, number_value, plain_command_of, size_in, size_of, without_run}
use Rattle.command_words.proofs.ByCommand.{by_command}

within : (s c n : ℕ) → is_size s c n ≡ true → IsSize (record { services = s; changes = c; start = n })
within s c n h =
    let h1 = (and_parts (nat_le 2 s) _ h).1 in
    let h2 = (and_parts (nat_le s 64) _ h1).1 in
    let h3 = (and_parts (nat_le s c) _ h2).1 in
    record {
      some = leb-true 2 s ((and_parts (nat_le 2 s) _ h).0);
      most = leb-true s 64 ((and_parts (nat_le s 64) _ h1).0);
      births = leb-true s c ((and_parts (nat_le s c) _ h2).0);
      changes = leb-true c 1024 ((and_parts (nat_le c 1024) _ h3).0);
      start = leb-true n 65536 ((and_parts (nat_le c 1024) _ h3).1);
    }

sizes : (s c n : Option ℕ) (size : Size) → size_of s c n ≡ Some size → IsSize size
sizes None c n size e = absurd (cc e)
sizes (Some s) None n size e = absurd (cc e)
sizes (Some s) (Some c) None size e = absurd (cc e)
sizes (Some s) (Some c) (Some n) size e = go (is_size s c n) (within s c n) e
  where
    made : Size
    made = record { services = s; changes = c; start = n }

    go : (b : Bool) → (b ≡ true → IsSize made) → (if b then Some made else None) ≡ Some size → IsSize size
    go true h e = subst IsSize (let same : made ≡ size = cc e in same) (h refl)
    go false h e = absurd (cc e)

size_found : (words : List (List ℕ)) (size : Size) → size_in words ≡ Some size → IsSize size
size_found [] size e = absurd (cc e)
size_found (a ∷ []) size e = absurd (cc e)
size_found (a ∷ b ∷ []) size e = absurd (cc e)
size_found (a ∷ b ∷ c ∷ []) size e = sizes (number_value a) (number_value b) (number_value c) size e
size_found (a ∷ b ∷ c ∷ d ∷ rest) size e = absurd (cc e)

-- the size of `make`
pub size_made : (words : List (List ℕ)) (size : Size) → command_of words ≡ Some (Make size) → IsSize size
size_made [] size e = absurd (cc e)
size_made (first ∷ behind) size e =
    by_command (λ command. command ≡ Make size → IsSize size) first behind
    (λ flags h is. absurd (cc is)) (λ flags h is. absurd (cc is))
    (λ made h is. subst IsSize (let same : made ≡ size = cc is in same) (size_found behind made h))
    (λ made h is. absurd (cc is))
    (λ h is. absurd (cc is)) (λ h is. absurd (cc is)) (λ h is. absurd (cc is))
    (Make size) e refl

-- the size of `load`
pub size_loaded : (words : List (List ℕ)) (size : Size) → command_of words ≡ Some (Load size) → IsSize size
size_loaded [] size e = absurd (cc e)
size_loaded (first ∷ behind) size e =
    by_command (λ command. command ≡ Load size → IsSize size) first behind
    (λ flags h is. absurd (cc is)) (λ flags h is. absurd (cc is))
    (λ made h is. absurd (cc is))
    (λ made h is. subst IsSize (let same : made ≡ size = cc is in same) (size_found behind made h))
    (λ h is. absurd (cc is)) (λ h is. absurd (cc is)) (λ h is. absurd (cc is))
    (Load size) e refl

-- ---- where no threads are at hand

with_run : (asked : Option Command) (command : Command) → without_run asked ≡ Some command → asked ≡ Some command
with_run None command e = absurd (cc e)
with_run (Some (Run flags)) command e = absurd (cc e)
with_run (Some (Step flags)) command e = e
with_run (Some Check) command e = e
with_run (Some Central) command e = e
with_run (Some Frames) command e = e
with_run (Some (Make size)) command e = e
with_run (Some (Load size)) command e = e

pub plain_size_made : (words : List (List ℕ)) (size : Size) → plain_command_of words ≡ Some (Make size) → IsSize size
plain_size_made words size e = size_made words size (with_run (command_of words) (Make size) e)

pub plain_size_loaded : (words : List (List ℕ)) (size : Size) → plain_command_of words ≡ Some (Load size) → IsSize size
plain_size_loaded words size e = size_loaded words size (with_run (command_of words) (Load size) e)

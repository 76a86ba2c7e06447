-- Commands without an archive, where one is at hand.
use Rattle.std.proofs.Common.{◌≡◌, ℕ, List, Option, Some, None}
use Rattle.command_words.specs.declared.command.Command.{Command}
use Rattle.command_words.specs.declared.command.Command.TheVariants.{Make, Load}
use Rattle.command_words.specs.declared.kept_command.KeptCommand.{KeptCommand}
use Rattle.command_words.specs.declared.kept_command.KeptCommand.TheVariants.{Plain}
use Rattle.command_words.specs.declared.size.Size.{Size}
use Rattle.command_words.specs.KeptWords.{archive_command_of, kept_command_of, plain_or}
use Rattle.command_words.specs.Words.{IsSize, command_of}
use Rattle.command_words.proofs.KeptFound.{never_plain}
use Rattle.command_words.proofs.Sizes.{size_loaded, size_made}

-- the words stand for the same command without one
pub plain_is_read : (words : List (List ℕ)) (command : Command) → kept_command_of words ≡ Some (Plain command) → command_of words ≡ Some command
plain_is_read words command e = go (command_of words) (archive_command_of words) (never_plain words command) e
  where
    go : (o : Option Command) (other : Option KeptCommand) → (other ≡ Some (Plain command) → ⊥) → plain_or o other ≡ Some (Plain command) → o ≡ Some command
    go (Some given) other never e = cc e
    go None other never e = absurd (never e)

-- the size of `make`
pub kept_size_made : (words : List (List ℕ)) (size : Size) → kept_command_of words ≡ Some (Plain (Make size)) → IsSize size
kept_size_made words size e = size_made words size (plain_is_read words (Make size) e)

-- the size of `load`
pub kept_size_loaded : (words : List (List ℕ)) (size : Size) → kept_command_of words ≡ Some (Plain (Load size)) → IsSize size
kept_size_loaded words size e = size_loaded words size (plain_is_read words (Load size) e)

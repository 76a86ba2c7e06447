-- The fakes in memory, as contracts see them.
use Rattle.std.specs.Prelude.{ℕ, Bool, ◌==◌, if◌then◌else◌, List, Option, None}
use Rattle.std.specs.List.{list_any}
use Rattle.svc_value.specs.Causes.{one_more}
use Rattle.state_archive.specs.Entries.{Entries}

-- the calls of a fake: the numbers of those that fail, how many were made, and how many failed
pub record CallsState : Type 0 where
  pub failing : List ℕ
  pub made : ℕ
  pub faults : ℕ

-- no call was made, and those of these numbers are to fail
abbrev pub new_calls : List ℕ → CallsState
new_calls failing = record { failing = failing; made = 0; faults = 0 }

-- whether the next call fails
abbrev pub next_fails : CallsState → Bool
next_fails calls = list_any (λ call. call == one_more calls.made) calls.failing

-- the calls after the next one
abbrev pub after_call : CallsState → CallsState
after_call calls = record calls { made = one_more calls.made; faults = if next_fails calls then one_more calls.faults else calls.faults }

-- a keeper in memory: the last saved state, if there is one, and its calls
pub record KeeperState : Type 0 where
  pub saved : Option (List ℕ)
  pub calls : CallsState

-- a keeper in memory tells no entries
abbrev pub no_entries : KeeperState → Option Entries
no_entries _ = None

-- an archive in memory: its entries, and its calls
pub record ArchiveState : Type 0 where
  pub entries : Entries
  pub calls : CallsState

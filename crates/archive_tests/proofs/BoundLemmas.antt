-- What is found where the entries are told.
use Rattle.std.proofs.Common.{◌≡◌, ℕ, ◌<◌, List, Option, Some, None, option_map, IfSome, subst, ◌∙◌}
use Rattle.state_archive.specs.Entries.{Entries, entry_of, kept_after}
use Rattle.state_archive.proofs.LawLemmas.{lower_stays}

-- what is found of a lower leg after a save was there before it
pub found_below : (before after : Option Entries) (leg lower : ℕ) (state : List ℕ) (found : Option (List ℕ)) → lower < leg →
    after ≡ option_map (λ entries. kept_after entries leg state) before →
    IfSome after (λ entries. found ≡ entry_of entries lower) → IfSome before (λ entries. found ≡ entry_of entries lower)
found_below None after leg lower state found lt is there = tt
found_below (Some entries) after leg lower state found lt is there =
    let P : Option Entries → Type 0 = λ told. IfSome told (λ es. found ≡ entry_of es lower) in
    let here : found ≡ entry_of (kept_after entries leg state) lower = subst P is there in
    here ∙ lower_stays entries leg state lower lt

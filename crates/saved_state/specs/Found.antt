-- What was read.
use Rattle.std.specs.Prelude.{◌≡◌, Result, Ok, Err}
use Rattle.saved_state.specs.declared.errors.StateError.{StateError}
use Rattle.saved_state.specs.declared.errors.StateError.TheVariants.{Bad, OutOfMemory}

-- it is want of memory
abbrev pub IsMemory : StateError → Type 0
IsMemory Bad = ⊥
IsMemory OutOfMemory = Unit {0}

-- what was returned, seen by view, is this, unless memory ran out
abbrev pub Finds : {X Y : Type 0} → (X → Y) → Result X StateError → Y → Type 0
Finds view (Ok x) y = view x ≡ y
Finds view (Err e) y = IsMemory e

-- what was returned has these two parts, unless memory ran out
abbrev pub FindsBoth : {X Y Z : Type 0} → (X → Y) → (X → Z) → Result X StateError → Y → Z → Type 0
FindsBoth first second (Ok x) y z = (first x ≡ y) × (second x ≡ z)
FindsBoth first second (Err e) y z = IsMemory e

-- When a keeper may answer a failure.
use Rattle.std.specs.Prelude.{ℕ, ◌≤◌, Result, IsErrOf}
use Rattle.svc_value.specs.Causes.{Rose}
use Rattle.state_archive.specs.declared.error.KeepError.{KeepError}
use Rattle.state_archive.specs.declared.error.KeepError.TheVariants.{Failed}

-- the count of faults has not fallen, and `Failed` comes only where it rose
pub record HasKeepCause {T : Type 0} (before now : ℕ) (result : Result T KeepError) : Type 0 where
  pub later : before ≤ now
  pub failed : IsErrOf result Failed → Rose before now

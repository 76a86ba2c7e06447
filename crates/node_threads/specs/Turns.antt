-- What a turn's answer tells of it.
use Rattle.std.specs.Prelude.{Bool, true, false}
use Rattle.node_core.specs.declared.turned.Turned.{Turned}
use Rattle.node_core.specs.declared.turned.Turned.TheVariants.{Computed, Advanced, Empty, Lags, Still}

-- whether a turn that answers so took a value or computed
abbrev pub is_busy : Turned → Bool
is_busy Computed = true
is_busy Advanced = true
is_busy (Empty p) = false
is_busy (Lags p key) = false
is_busy Still = false

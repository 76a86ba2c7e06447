-- A definition that is lent in its parts.
use Rattle.svc_graph.specs.declared.definition.Definition.{Definition}
use Rattle.svc_graph.specs.declared.definition.Definition.TheVariants as definition
use Rattle.svc_graph.specs.declared.definition.Formula.{Formula}
use Rattle.svc_graph.specs.declared.lent.DefinitionRef.{DefinitionRef}
use Rattle.svc_graph.specs.declared.lent.DefinitionRef.TheVariants.{Input, Derived}
use Rattle.svc_graph.specs.declared.lent.FormulaRef.{FormulaRef}

-- the formula whose parts are lent
abbrev pub formula_lent : FormulaRef → Formula
formula_lent lent = record { expr = lent.expr.now; fixed = lent.fixed.now; members = lent.members.now }

-- the definition whose parts are lent
abbrev pub definition_lent : DefinitionRef → Definition
definition_lent (Input value) = definition.Input value.now
definition_lent (Derived formula) = definition.Derived (formula_lent formula)

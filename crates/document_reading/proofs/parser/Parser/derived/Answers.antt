use Rattle.std.proofs.Common.{ℕ, false, ◌≡◌, ◌<◌, ◌++◌, ◌∷◌, [], length, subst, sym, ◌∙◌, arith}
use Rattle.std.specs.Prelude.{nat_lt, ◌||◌}
use Rattle.std.specs.List.{list_any}
use Rattle.std.proofs.lemmas.Bool.{ltb-false}
use Rattle.svc_graph.specs.Accepting.{IsChangeOf}
use Rattle.svc_graph.specs.declared.definition.Change.TheVariants as change
use Rattle.svc_graph.specs.declared.definition.Definition.TheVariants as definition
use Rattle.svc_graph.proofs.AreDistinct.{or_left}
use Rattle.svc_plan.specs.Rows.{row_of}
use Rattle.document_reading.specs.declared.refusal.Code.TheVariants.{E07, E08}
use Rattle.document_reading.specs.declared.statement.Statement.TheVariants as says
use Rattle.document_reading.specs.Refusals.{is_unknown, refusal}
use Rattle.document_reading.specs.Parser.{state, RefusesExactly, change_code, with_service}
use Rattle.document_reading.specs.Sound.{IsProperBody}
use Rattle.document_reading.specs.State.{State, formula_of}
use Rattle.document_reading.proofs.FormLemmas.{derived_form}
use Rattle.document_reading.proofs.RefusalLemmas.{none_where, derived_refusal}
use Rattle.document_reading.proofs.parser.Parser.derived.Goals as goal

some_rank : (rank : ℕ) → (nat_lt rank 1 || nat_lt 1000 rank) ≡ false → 0 < rank
some_rank rank h = let k = ltb-false rank 1 (or_left (nat_lt rank 1) (nat_lt 1000 rank) h) in omega arith

pub make-requires-clause-form : goal.make-requires-clause-form
make-requires-clause-form c =
    let s = state c.args.self.now in
    let f = c.in-Formula.formula in
    let ranked = none_where (nat_lt c.args.rank 1 || nat_lt 1000 c.args.rank) E07 c.in_ok-rank.ensures.answers in
    subst (λ (n : ℕ). IsChangeOf c.declare.new.self.book n (change.Birth (definition.Derived c.in_ok-formula-in-Formula.formula))) (sym c.in_ok-id-in-Formula.ensures.number)
    (subst (λ (t : State). IsChangeOf t.rows (length s.rows) (change.Birth (definition.Derived c.in_ok-formula-in-Formula.formula))) (sym c.in_ok-id-in-Formula.ensures.taken)
    (subst (λ made. IsChangeOf (s.rows ++ row_of (record { name = c.args.name.now; rank = c.in_ok-rank.rank; ty = c.args.ty }) ∷ []) (length s.rows) (change.Birth (definition.Derived made))) (sym c.in_ok-formula-in-Formula.ensures.formula)
    (derived_form s.rows c.args.name.now c.args.ty c.in_ok-rank.rank f (subst (λ (r : ℕ). 0 < r) (sym c.in_ok-rank.ensures.rank) (some_rank c.args.rank ranked))
    (subst IsProperBody c.in-Formula.is c.requires.proper)
    (none_where (list_any (is_unknown s.rows) (f.names ++ f.members)) E08 c.in_ok-formula-in-Formula.ensures.answers))))

pub returns-in_ok-id-in-Formula-clause-answers : goal.returns-in_ok-id-in-Formula-clause-answers
returns-in_ok-id-in-Formula-clause-answers c =
    let s = state c.args.self.now in
    let f = c.in-Formula.formula in
    let ranked = none_where (nat_lt c.args.rank 1 || nat_lt 1000 c.args.rank) E07 c.in_ok-rank.ensures.answers in
    subst (RefusesExactly c.make.result)
    ((λ i. change_code (c.in_ok-id-in-Formula.ensures.taken i) (c.in_ok-id-in-Formula.ensures.number i) (change.Birth (definition.Derived (c.in_ok-formula-in-Formula.ensures.formula i))))
    ∙ (λ i. change_code (with_service s (record { name = c.args.name.now; rank = c.in_ok-rank.ensures.rank i; ty = c.args.ty })) (length s.rows) (change.Birth (definition.Derived (formula_of s.rows f))))
    ∙ sym (derived_refusal c.args.self.now.mode s c.args.name.now c.args.ty c.args.rank f c.in_ok-name.ensures ranked
    (none_where (list_any (is_unknown s.rows) (f.names ++ f.members)) E08 c.in_ok-formula-in-Formula.ensures.answers))
    ∙ (λ i. refusal c.args.self.now.mode s (says.Derived c.args.name.now c.args.ty c.args.rank (sym c.in-Formula.is i))))
    c.make.ensures.answers

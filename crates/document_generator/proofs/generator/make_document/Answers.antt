use Rattle.std.proofs.Common.{◌≡◌, ◌-◌, ◌++◌, ◌∙◌, ap, sym, codes, length, arith}
use Rattle.std.proofs.lemmas.Result.{IfOk-weaker}
use Rattle.document_generator.specs.Generator.{after_derived, after_changes, with_derived, with_change}
use Rattle.document_generator.proofs.GeneratorLemmas.{after_derived_more, after_changes_more, changes_count}
use Rattle.document_generator.proofs.generator.make_document.Goals as goal

pub loop-n-preserved : goal.loop-n-preserved
loop-n-preserved c =
    c.in_ok-add_derived.ensures ∙ ap (with_derived c.inputs_of-inputs.result c.loop-n.n) c.loop-n.invariant
    ∙ sym (after_derived_more c.args.start c.inputs_of-inputs.result c.loop-n.n)

pub loop-init : goal.loop-init
loop-init c =
    let n : c.loop-n.n ≡ c.args.services - c.inputs_of-inputs.result = omega arith in
    c.loop-n.invariant ∙ ap (after_derived c.args.start c.inputs_of-inputs.result) n
    ∙ ap (λ inputs. after_derived c.args.start inputs (c.args.services - inputs)) c.inputs_of-inputs.ensures

pub add_change-requires-clause-members : goal.add_change-requires-clause-members
add_change-requires-clause-members c =
    ap (λ d. length d.members) c.loop.invariant ∙ changes_count c.args.start c.args.services c.loop.counter
    ∙ ap (λ inputs. c.args.services - inputs) (sym c.inputs_of-inputs.ensures)

pub loop-preserved : goal.loop-preserved
loop-preserved c =
    c.in_ok-add_change.ensures ∙ ap (with_change c.inputs_of-inputs.result c.args.services) c.loop.invariant
    ∙ ap (λ inputs. with_change inputs c.args.services (after_changes c.args.start c.args.services c.loop.counter)) c.inputs_of-inputs.ensures
    ∙ sym (after_changes_more c.args.start c.args.services c.loop.counter)

pub returns : goal.returns
returns c =
    let n : c.loop.counter ≡ c.args.changes - c.args.services = omega arith in
    IfOk-weaker c.finish.result _ _
    (λ text e. e ∙ ap (λ d. d.text ++ codes "settle\n") (c.loop.invariant ∙ ap (after_changes c.args.start c.args.services) n))
    c.finish.ensures

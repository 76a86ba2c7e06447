use Rattle.std.proofs.Common.{refl, subst, ◌∙◌}
use Rattle.svc_plan.specs.declared.plan.Mode.{Mode}
use Rattle.document_reading.specs.Parser.{state, TakesLine}
use Rattle.document_reading.proofs.TakingLemmas.{begins, sound_before, takes}
use Rattle.document_reading.proofs.document.read_lines.Goals as goal

pub loop-rest-init : goal.loop-rest-init
loop-rest-init c = (begins c.args.parser.mode (state c.args.parser) c.args.bytes.now, refl)

pub take_line-requires : goal.take_line-requires
take_line-requires c =
    sound_before c.args.parser.mode (state c.args.parser) c.args.bytes.now c.loop-rest.rest.now c.first_line.result.1.now c.first_line.result.0.now c.loop-rest.count
    (state c.loop-rest.parser) c.loop-rest.invariant.0 c.requires.start c.requires.short c.first_line.ensures.lines

pub loop-rest-preserved : goal.loop-rest-preserved
loop-rest-preserved c = (
  takes c.args.parser.mode (state c.args.parser) c.args.bytes.now c.loop-rest.rest.now c.first_line.result.1.now c.first_line.result.0.now c.loop-rest.count
      (state c.loop-rest.parser) (state c.take_line.new.self) c.loop-rest.invariant.0 c.first_line.ensures.lines c.first_line.ensures.shorter
      (subst (λ (m : Mode). TakesLine m (state c.loop-rest.parser) c.first_line.result.0.now (state c.take_line.new.self)) c.loop-rest.invariant.1 c.in-Ok.ensures.taken),
  c.in-Ok.ensures.mode ∙ c.loop-rest.invariant.1,
)

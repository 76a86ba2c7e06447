use Rattle.saved_state.specs.Bytes.{service_bytes, FitsDefinition}
use Rattle.saved_state.specs.declared.saved.ServiceRow.{ServiceRow}
use Rattle.saved_state.specs.States.{names_in}
use Rattle.saved_state.proofs.ListLemmas.{all_next, spelled_next}
use Rattle.saved_state.proofs.writing.put_services.Goals as goal

pub loop-service-preserved : goal.loop-service-preserved
loop-service-preserved c = (
  spelled_next (service_bytes (names_in c.args.services.now)) c.args.out.now.items c.loop-service.out.items c.put_service.new.out.items c.args.services.now c.loop-service.service-index c.service-item.result
      c.loop-service-test.true c.service-item.is c.loop-service.invariant.0 c.in_ok-put_service.ensures.ok,
  all_next (λ (service : ServiceRow). FitsDefinition (names_in c.args.services.now) service.definition) c.args.services.now c.loop-service.service-index c.service-item.result
      c.loop-service-test.true c.service-item.is c.loop-service.invariant.1 c.in_ok-put_service.ensures.fits,
)

use Rattle.std.proofs.Common.{All, subst, sym}
use Rattle.saved_state.specs.declared.saved.ServiceRow.{ServiceRow}
use Rattle.saved_state.specs.States.{names_in}
use Rattle.saved_state.specs.Writing.{IsPrintable}
use Rattle.std.proofs.Common.{List}
use Rattle.saved_state.proofs.StateLemmas.{printable}
use Rattle.saved_state.proofs.writing.write_state.Goals as goal

pub put_services-requires : goal.put_services-requires
put_services-requires c =
    subst (λ (services : List ServiceRow). All (IsPrintable (names_in services)) services) (sym c.as_slice-services.ensures) (printable c.args.saved.now c.requires)

use Rattle.std.proofs.Common.{sym, subst, IfOk, Option, []}
use Rattle.std.proofs.lemmas.Result.{IfOk-weaker}
use Rattle.propagation.specs.Logs.{Emission, in_full, stamps_of}
use Rattle.service_machine.specs.Steps.{reports}
use Rattle.svc_value.specs.declared.value.Value.{Value}
use Rattle.node_core.specs.Outgoing.{Says, each_told}
use Rattle.node_core.specs.View.{told_all}
use Rattle.node_core.proofs.SaysLemmas.{new_letters, nothing_told}
use Rattle.node_core.proofs.telling.tell_all.Goals as goal

pub returns-in-None : goal.returns-in-None
returns-in-None c =
    let P : Option (Emission Value) → Type 0 = λ last. IfOk c.tell_in_full.result (λ outgoing. Says outgoing (reports (told_all (stamps_of last) c.args.readers.now) c.args.emission.now)) in
    subst P (sym c.in-None.is)
    (IfOk-weaker c.tell_in_full.result (λ outgoing. Says outgoing (each_told c.args.readers.now (λ e. in_full e c.args.emission.now))) (λ outgoing. Says outgoing (reports (told_all [] c.args.readers.now) c.args.emission.now))
    (λ outgoing says. new_letters outgoing c.args.readers.now [] c.args.emission.now (nothing_told c.args.emission.now.stamps c.requires.some) says) c.tell_in_full.ensures)

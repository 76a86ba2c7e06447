use Rattle.std.proofs.Common.{◌≡◌, ◌∙◌, false, sym, subst}
use Rattle.std.proofs.lemmas.Result.{IfOk-weaker}
use Rattle.propagation.specs.Stamps.{same_keys}
use Rattle.propagation.specs.Logs.{Emission, tell, in_full}
use Rattle.service_machine.specs.Steps.{reports}
use Rattle.svc_value.specs.declared.value.Value.{Value}
use Rattle.node_core.specs.Outgoing.{Says, each_told}
use Rattle.node_core.specs.View.{told_all}
use Rattle.node_core.proofs.SaysLemmas.{new_letters, old_letters}
use Rattle.node_core.proofs.telling.tell_after.Goals as goal

pub returns-then-same_keys : goal.returns-then-same_keys
returns-then-same_keys c =
    IfOk-weaker c.tell_changes.result (λ outgoing. Says outgoing (each_told c.args.readers.now (λ e. tell e c.args.told.now c.args.emission.now))) (λ outgoing. Says outgoing (reports (told_all c.args.told.now c.args.readers.now) c.args.emission.now))
    (λ outgoing says. old_letters outgoing c.args.readers.now c.args.told.now c.args.emission.now says) c.tell_changes.ensures

pub returns-else-same_keys : goal.returns-else-same_keys
returns-else-same_keys c =
    let other : same_keys c.args.told.now c.args.emission.now.stamps ≡ false =
    (let Q : Emission Value → Type 0 = λ m. same_keys c.args.told.now m.stamps ≡ false in subst Q c.emission.view_is (sym c.same_keys.ensures ∙ c.if-same_keys.false)) in
    IfOk-weaker c.tell_in_full.result (λ outgoing. Says outgoing (each_told c.args.readers.now (λ e. in_full e c.args.emission.now))) (λ outgoing. Says outgoing (reports (told_all c.args.told.now c.args.readers.now) c.args.emission.now))
    (λ outgoing says. new_letters outgoing c.args.readers.now c.args.told.now c.args.emission.now other says) c.tell_in_full.ensures

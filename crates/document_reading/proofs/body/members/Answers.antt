use Rattle.std.proofs.Common.{◌<◌, ◌≤◌, ◌+◌, ℕ, Bool, not, List, length, drop, refl, sym, subst, ◌∙◌, arith}
use Rattle.svc_token.specs.declared.token.Token.{Token}
use Rattle.document_reading.proofs.MemberLemmas.{GoesOn, takes_name, takes_comma, wrong_name, wrong_comma, all_taken, name_lacks}
use Rattle.document_reading.proofs.body.members.Goals as goal
use Rattle.document_reading.proofs.body.members.Goals.{then-at_name+in-Some+in_ok-push, else-at_name+else-not-is_comma}

pub returns-in_default : goal.returns-in_default
returns-in_default c =
    let below : c.loop-token.token-index < length c.args.tokens.now = omega arith in
    (refl, wrong_name c.args.tokens.now c.loop-token.members c.loop-token.at_name c.loop-token.token-index c.token-item.result below c.token-item.is c.loop-token.invariant c.if-at_name.true (sym c.in_default.ensures))

pub returns-then-not-is_comma : goal.returns-then-not-is_comma
returns-then-not-is_comma c =
    let below : c.loop-token.token-index < length c.args.tokens.now = omega arith in
    (refl, wrong_comma c.args.tokens.now c.loop-token.members c.loop-token.at_name c.loop-token.token-index c.token-item.result below c.token-item.is c.loop-token.invariant c.if-at_name.false (sym c.if-not-is_comma.ensures))

pub loop-token-preserved : goal.loop-token-preserved
loop-token-preserved c =
    let below : c.loop-token.token-index < length c.args.tokens.now = omega arith in
    let next : Bool = not c.loop-token.at_name in
    let behind : List Token = drop (c.loop-token.token-index + 1) c.args.tokens.now in
    elim c.if-at_name.branch [
      | then-at_name+in-Some+in_ok-push w ↦
          subst (λ (members : List (List ℕ)). GoesOn c.args.tokens.now members next behind) (sym (w.members-is ∙ w.in_ok-push.ensures.ok))
          (takes_name c.args.tokens.now c.loop-token.members c.loop-token.at_name c.loop-token.token-index c.token-item.result below c.token-item.is c.loop-token.invariant w.in-Some.name w.if-at_name.true (sym w.in-Some.ensures))
      | else-at_name+else-not-is_comma w ↦
          subst (λ (members : List (List ℕ)). GoesOn c.args.tokens.now members next behind) (sym w.members-is)
          (takes_comma c.args.tokens.now c.loop-token.members c.loop-token.at_name c.loop-token.token-index c.token-item.result below c.token-item.is c.loop-token.invariant w.if-at_name.false (sym w.if-not-is_comma.ensures))
    ]

pub returns-then-at_name-2 : goal.returns-then-at_name-2
returns-then-at_name-2 c =
    let past : length c.args.tokens.now ≤ c.loop-token.token-index = omega arith in
    (refl, name_lacks c.args.tokens.now c.loop-token.members c.loop-token.at_name c.loop-token.token-index past c.loop-token.invariant c.if-at_name-2.true)

pub returns : goal.returns
returns c =
    let past : length c.args.tokens.now ≤ c.loop-token.token-index = omega arith in
    all_taken c.args.tokens.now c.loop-token.members c.loop-token.at_name c.loop-token.token-index past c.loop-token.invariant c.if-at_name-2.false

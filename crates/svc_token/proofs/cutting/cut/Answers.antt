use Rattle.std.proofs.Common.{◌≡◌, ◌<◌, length, get_or, Some, true, rules, arith, false-eqb}
use Rattle.svc_token.specs.Cutting.{is_blank, front}
use Rattle.svc_token.proofs.CutLemmas.{skips_blank, takes_token, all_cut}
use Rattle.svc_token.proofs.cutting.cut.Goals as goal

pub loop-rest-preserved-then-is_blank : goal.loop-rest-preserved-then-is_blank
loop-rest-preserved-then-is_blank c =
    let g : 0 < length c.loop-rest.rest.now = omega (arith, false-eqb _ 0 c.loop-rest-test.ensures) in
    let h : is_blank (get_or c.loop-rest.rest.now 0 0) ≡ true = search (rules, c.if-is_blank.ensures, c.is_blank.ensures) in
    skips_blank c.args.text.now c.loop-rest.tokens.items c.loop-rest.rest.now c.loop-rest.invariant g h

pub loop-rest-preserved : goal.loop-rest-preserved
loop-rest-preserved c =
    let f : front c.loop-rest.rest.now ≡ Some (c.in-Some.token, c.in-Some.len) = search (rules, c.in-Some.ensures.what, c.in-Some.is, c.in-Some.token-is, c.in-Some.len-is, c.front.ensures.what) in
    rw c.in_ok-push.ensures.items (takes_token c.args.text.now c.loop-rest.tokens.items c.loop-rest.rest.now c.in-Some.token c.in-Some.len c.loop-rest.invariant f)

pub returns-clause-found : goal.returns-clause-found
returns-clause-found c = all_cut c.args.text.now c.loop-rest.tokens.items c.loop-rest.rest.now c.loop-rest.invariant (search (rules, c.loop-rest-test.ensures))

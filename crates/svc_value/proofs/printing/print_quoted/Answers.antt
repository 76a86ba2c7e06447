use Rattle.std.proofs.Common.{arith}
use Rattle.std.proofs.lemmas.Grind.{common_steps}
use Rattle.svc_value.proofs.Quoting.{prints_more, prints_all}
use Rattle.svc_value.proofs.printing.print_quoted.Goals as goal

pub loop-count-preserved : goal.loop-count-preserved
loop-count-preserved c = (
  grind (arith, common_steps),
  prints_more c.args.out.now.items c.args.text.now c.loop-count.out.items c.loop-count.rest.now c.extend_from_slice.new.self.items c.print_escape.new.out.items c.in-Some.count
      c.loop-count.invariant.1 c.in_ok-extend_from_slice.ensures.items c.in_ok-print_escape.ensures.ok c.in-Some.ensures,
)

pub returns-clause-ok : goal.returns-clause-ok
returns-clause-ok c =
    prints_all c.args.out.now.items c.args.text.now c.loop-count.out.items c.loop-count.rest.now c.extend_from_slice-2.new.self.items c.push-2.new.self.items
    c.loop-count.invariant.1 c.in_default.ensures c.in_ok-extend_from_slice-2.ensures.items c.in_ok-push-2.ensures.items

use Rattle.std.proofs.Common.{◌≡◌, ◌∙◌, subst, ◌++◌, codes, arith, slice_index_or, []}
use Rattle.std.specs.Io.{StartsWith}
use Rattle.svc_graph.specs.History.{declared_row}
use Rattle.svc_value.specs.Printed.{printed_value}
use Rattle.svc_value.specs.declared.value.ValueType.TheVariants.{Int}
use Rattle.trace_text.specs.Settled.{settle_line}
use Rattle.trace_text.proofs.Lines.{value_lines-more, starts_further}
use Rattle.trace_text.proofs.settled.append_block.Goals as goal

pub returns-in_err-append_line-clause-kept : goal.returns-in_err-append_line-clause-kept
returns-in_err-append_line-clause-kept c =
    starts_further c.args.out.now.items _ c.append_line.new.out.items
    (subst (λ text. StartsWith c.append_line.new.out.items text) c.loop-i.invariant c.append_line.ensures.kept)

pub loop-i-preserved : goal.loop-i-preserved
loop-i-preserved c =
    let row = declared_row [] 0 Int in
    let name : c.name.result.now ≡ (slice_index_or c.args.book.now c.loop-i.i row).name = c.name.ensures in
    let last = c.index-values-i.result in
    let value : last ≡ slice_index_or c.args.values.now c.loop-i.i last = c.index-values-i.is in
    value_lines-more c.args.book.now c.args.values.now c.loop-i.i row last c.args.out.now.items (settle_line c.args.k) c.loop-i.out.items c.append_line.new.out.items
    (omega arith) (omega arith) c.loop-i.invariant
    (c.in_ok-append_line.ensures.ok ∙ (λ i. c.loop-i.out.items ++ (name i ++ codes " " ++ printed_value (value i) ++ codes "\n")))

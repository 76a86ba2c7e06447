use Rattle.std.proofs.Common.{◌≡◌, ◌<◌, ◌∙◌, ◌++◌, sym, ap, subst, arith, All, List, length}
use Rattle.node_core.specs.declared.entry.Entry.{Entry}
use Rattle.node_core.specs.View.{NodeView}
use Rattle.settle_core.specs.Net.{service_at}
use Rattle.svc_graph.specs.History.{Row}
use Rattle.trace_text.specs.Lines.{log_text}
use Rattle.trace_text.specs.Named.{naming, NamesBelow}
use Rattle.qprop_cli.proofs.NamedEntries.{entries_named}
use Rattle.qprop_cli.proofs.TraceLemmas.{log_more}
use Rattle.qprop_cli.proofs.commands.settling.traces.append_logs.Goals as goal

pub trace_text-requires-clause-named : goal.trace_text-requires-clause-named
trace_text-requires-clause-named c =
    let P : List Row → Type 0 = λ rows. All (NamesBelow (length rows)) c.log.result.now in
    let Q : List Entry → Type 0 = λ log. All (NamesBelow (length c.args.network.now.rows)) log in
    let log : c.log.result.now ≡ (service_at c.args.network.now.services c.loop-i.i).entries = c.log.ensures ∙ ap (λ (node : NodeView). node.entries) c.node.ensures in
    subst P (sym c.book-book.ensures.rows) (subst Q (sym log) (entries_named c.args.network.now c.kept.ensures c.book-book.ensures.legal c.loop-i.i))

pub loop-i-preserved : goal.loop-i-preserved
loop-i-preserved c =
    let rows : c.book-book.result.now ≡ c.args.network.now.rows = c.book-book.ensures.rows in
    let log : c.log.result.now ≡ (service_at c.args.network.now.services c.loop-i.i).entries = c.log.ensures ∙ ap (λ (node : NodeView). node.entries) c.node.ensures in
    let count : length c.book-book.result.now ≡ length c.args.network.now.rows = ap (λ (rs : List Row). length rs) rows in
    let less : c.loop-i.i < length c.args.network.now.services = omega (arith, c.loop-i-test.true, c.len-i-end.ensures.len, count, c.kept.ensures.count) in
    let lines : c.trace_text.new.out.items ≡ c.loop-i.out.items ++ log_text (naming c.args.network.now.rows) c.loop-i.i (service_at c.args.network.now.services c.loop-i.i).entries =
    c.in_ok-trace_text.ensures.ok ∙ ap (λ (rs : List Row). c.loop-i.out.items ++ log_text (naming rs) c.loop-i.i c.log.result.now) rows
    ∙ ap (λ (entries : List Entry). c.loop-i.out.items ++ log_text (naming c.args.network.now.rows) c.loop-i.i entries) log in
    log_more c.args.network.now.services c.loop-i.i less (naming c.args.network.now.rows) c.args.out.now.items c.loop-i.out.items c.trace_text.new.out.items c.loop-i.invariant lines

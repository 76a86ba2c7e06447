use Rattle.std.proofs.Common.{◌≡◌, ◌<◌, ◌∙◌, ◌++◌, sym, ap, subst, arith, List, ℕ, length}
use Rattle.std.specs.Option.{option_map}
use Rattle.propagation.specs.Stamps.{Stamps, keys}
use Rattle.node_core.specs.View.{NodeView}
use Rattle.settle_core.specs.Net.{service_at}
use Rattle.svc_graph.specs.History.{Row}
use Rattle.trace_text.specs.Notes.{sources_line}
use Rattle.trace_text.specs.Named.{naming, KeysBelow}
use Rattle.qprop_cli.specs.Commands.Step.{sources_of}
use Rattle.qprop_cli.proofs.TraceLemmas.{lent_some, lent_stamps, source, source_more}
use Rattle.qprop_cli.proofs.commands.settling.traces.append_sources.Goals as goal

pub unwrap-stamps-requires : goal.unwrap-stamps-requires
unwrap-stamps-requires c =
    let count : length c.book-book.result.now ≡ length c.args.network.now.rows = ap (λ (rs : List Row). length rs) c.book-book.ensures.rows in
    let has = source c.args.network.now c.kept.ensures c.requires c.loop-i.i (omega (arith, c.loop-i-test.true, c.len-i-end.ensures.len, count)) in
    lent_some c.sources.result has.0 (c.sources.ensures ∙ ap (λ (node : NodeView). option_map (λ emission. emission.stamps) node.state.last) c.node.ensures ∙ ap (λ last. option_map (λ emission. emission.stamps) last) has.1)

pub sources_text-requires-clause-named : goal.sources_text-requires-clause-named
sources_text-requires-clause-named c =
    let count : length c.book-book.result.now ≡ length c.args.network.now.rows = ap (λ (rs : List Row). length rs) c.book-book.ensures.rows in
    let has = source c.args.network.now c.kept.ensures c.requires c.loop-i.i (omega (arith, c.loop-i-test.true, c.len-i-end.ensures.len, count)) in
    let stamps : c.unwrap-stamps.result.now ≡ has.0.stamps = lent_stamps c.sources.result c.unwrap-stamps.result has.0 c.unwrap-stamps.ensures
    (c.sources.ensures ∙ ap (λ (node : NodeView). option_map (λ emission. emission.stamps) node.state.last) c.node.ensures ∙ ap (λ last. option_map (λ emission. emission.stamps) last) has.1) in
    let P : ℕ → Type 0 = λ n. KeysBelow n c.unwrap-stamps.result.now in
    let Q : Stamps → Type 0 = λ s. KeysBelow (length c.args.network.now.rows) s in
    subst P (sym count) (subst Q (sym stamps) has.2)

pub loop-i-preserved : goal.loop-i-preserved
loop-i-preserved c =
    let rows : c.book-book.result.now ≡ c.args.network.now.rows = c.book-book.ensures.rows in
    let count : length c.book-book.result.now ≡ length c.args.network.now.rows = ap (λ (rs : List Row). length rs) rows in
    let within : c.loop-i.i < length c.args.network.now.rows = omega (arith, c.loop-i-test.true, c.len-i-end.ensures.len, count) in
    let less : c.loop-i.i < length c.args.network.now.services = omega (arith, within, c.kept.ensures.count) in
    let has = source c.args.network.now c.kept.ensures c.requires c.loop-i.i within in
    let stamps : c.unwrap-stamps.result.now ≡ has.0.stamps = lent_stamps c.sources.result c.unwrap-stamps.result has.0 c.unwrap-stamps.ensures
    (c.sources.ensures ∙ ap (λ (node : NodeView). option_map (λ emission. emission.stamps) node.state.last) c.node.ensures ∙ ap (λ last. option_map (λ emission. emission.stamps) last) has.1) in
    let services : keys c.unwrap-stamps.result.now ≡ sources_of (service_at c.args.network.now.services c.loop-i.i).state.last = ap keys stamps ∙ sym (ap sources_of has.1) in
    let line : c.sources_text.new.out.items ≡ c.loop-i.out.items ++ sources_line (naming c.args.network.now.rows) c.loop-i.i (sources_of (service_at c.args.network.now.services c.loop-i.i).state.last) =
    c.in_ok-sources_text.ensures.ok ∙ ap (λ (rs : List Row). c.loop-i.out.items ++ sources_line (naming rs) c.loop-i.i (keys c.unwrap-stamps.result.now)) rows
    ∙ ap (λ (ks : List ℕ). c.loop-i.out.items ++ sources_line (naming c.args.network.now.rows) c.loop-i.i ks) services in
    source_more c.args.network.now.services c.loop-i.i less (naming c.args.network.now.rows) c.args.out.now.items c.loop-i.out.items c.sources_text.new.out.items c.loop-i.invariant line

use Rattle.std.proofs.Common.{refl, ◌∙◌, ◌≡◌, arith}
use Rattle.settle_core.proofs.PartLemmas.{one_stream, ring_laid}
use Rattle.settle_core.proofs.parting.lay_ring.Goals as goal

pub returns : goal.returns
returns c =
    let at_a : c.from-a.result ≡ c.args.sender = c.from-a.ensures ∙ c.sender.view_is in
    let at_b : c.from-b.result ≡ c.args.reader = c.from-b.ensures ∙ c.reader.view_is in
    ring_laid c.args.sender c.args.reader c.from-a.result c.from-b.result c.args.all.now.items c.index_mut.result.now _ c.index_mut-3.result.now _ at_a at_b
    (omega (arith, at_a, c.requires.sender)) (omega (arith, at_b, c.requires.reader)) (omega (arith, at_a, c.requires.sender, c.requires.few)) (omega (arith, at_b, c.requires.reader, c.requires.few))
    c.index_mut.ensures.value c.index_mut-3.ensures.value c.new-2.result c.new-3.result refl refl refl refl refl refl refl refl
    (one_stream c.split-out.result.0 c.split-out.result.1 c.new-2.result c.new-3.result c.split-out.ensures.pair c.new-2.ensures.ring c.new-3.ensures.ring) c.new-2.ensures.sent c.new-3.ensures.received

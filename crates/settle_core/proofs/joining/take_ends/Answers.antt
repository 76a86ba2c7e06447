use Rattle.std.proofs.Common.{◌≡◌, ◌∙◌, refl, arith}
use Rattle.settle_core.proofs.JoinLemmas.{ends_taken, kept_at}
use Rattle.settle_core.proofs.joining.take_ends.Goals as goal

pub returns : goal.returns
returns c =
    let at_n : c.from-n.result ≡ c.args.reader = c.from-n.ensures ∙ c.reader.view_is in
    let at_p : c.from-p.result ≡ c.args.sender = c.from-p.ensures ∙ c.sender.view_is in
    ends_taken c.from-n.result c.from-p.result c.args.reader c.args.sender c.args.all.now.items c.index_mut.result.now _ c.index_mut-3.result.now _ c.index_mut-5.result.now _ at_n at_p
    (omega (arith, at_n, c.requires.reader)) (omega (arith, at_p, c.requires.sender)) c.requires.few c.index_mut.ensures.value c.index_mut-3.ensures.value c.index_mut-5.ensures.value
    c.take-out.new.self refl refl refl refl c.take-into.new.self refl refl refl refl c.take-held.new.self refl refl refl refl c.take-out.result c.take-into.result c.take-held.result
    (kept_at c.index_mut.result.now.to.items c.from-n.result c.index_mut-2.result.now c.take-out.result c.take-out.ensures.value c.index_mut-2.ensures.value)
    (kept_at c.index_mut-3.result.now.from.items c.from-p.result c.index_mut-4.result.now c.take-into.result c.take-into.ensures.value c.index_mut-4.ensures.value)
    (kept_at c.index_mut-5.result.now.held.items c.from-p.result c.index_mut-6.result.now c.take-held.result c.take-held.ensures.value c.index_mut-6.ensures.value)

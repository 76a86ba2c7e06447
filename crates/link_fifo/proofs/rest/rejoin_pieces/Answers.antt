use Rattle.std.proofs.Common.{◌∙◌, ap, sym, subst, ◌++◌}
use Rattle.std.proofs.lemmas.Result.{IfOk-weaker}
use Rattle.wire_frame.specs.Stream.{items_of}
use Rattle.link_fifo.specs.Ring.{ring_sent, ring_received}
use Rattle.link_fifo.specs.Cuts.{IsWhole}
use Rattle.link_fifo.specs.Kept.{bytes_kept}
use Rattle.link_fifo.specs.Ends.{items_received}
use Rattle.link_fifo.proofs.Whole.{left_whole}
use Rattle.link_fifo.proofs.rest.rejoin_pieces.Goals as goal

pub drain-requires : goal.drain-requires
drain-requires c =
    let left = left_whole (ring_sent c.args.out.out) (ring_received c.args.into.into) (bytes_kept c.args.out.kept) c.args.into.cutter.held c.pour_into.new.cutter.held
    c.args.out.sent c.args.into.read c.in_ok-pour_into.ensures in
    subst IsWhole (sym c.in_ok-feed_rest.ensures) left.0

pub returns : goal.returns
returns c =
    let left = left_whole (ring_sent c.args.out.out) (ring_received c.args.into.into) (bytes_kept c.args.out.kept) c.args.into.cutter.held c.pour_into.new.cutter.held
    c.args.out.sent c.args.into.read c.in_ok-pour_into.ensures in
    IfOk-weaker c.drain.result _ _ (λ v e. ap (λ xs. items_received c.args.into ++ xs) (e ∙ ap items_of c.in_ok-feed_rest.ensures) ∙ left.1) c.drain.ensures

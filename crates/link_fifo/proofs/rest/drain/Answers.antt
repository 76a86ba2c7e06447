use Rattle.std.proofs.Common.{◌∙◌, ap, Ok, Err}
use Rattle.std.proofs.lemmas.List.Elements.{All-push}
use Rattle.wire_frame.specs.Stream.{IsItem}
use Rattle.link_fifo.proofs.Whole.{drained, drained_next, never_too_long}
use Rattle.link_fifo.proofs.rest.drain.Goals as goal

pub returns-in-Ok-None : goal.returns-in-Ok-None
returns-in-Ok-None c =
    drained c.args.cutter.held c.loop-item.cutter.held c.loop-item.items c.loop-item.invariant.0 c.loop-item.invariant.1
    (c.next.ensures.none (c.in-Ok-None.is ∙ ap Ok c.in-Ok-None.field-0-is)).0

pub unreachable-requires : goal.unreachable-requires
unreachable-requires c =
    never_too_long c.args.cutter.held c.loop-item.cutter.held c.loop-item.items c.requires c.loop-item.invariant.0 c.loop-item.invariant.1
    (c.next.ensures.refused c.in-Err-Length.field-0-0 (c.in-Err-Length.is ∙ ap Err c.in-Err-Length.field-0-is)).1

pub loop-item-preserved : goal.loop-item-preserved
loop-item-preserved c =
    let item = c.in-Ok-Some.item in
    let items = c.loop-item.items in
    rw c.in_ok-push-in-Ok-Some.ensures.ok (
      drained_next c.args.cutter.held c.loop-item.cutter.held c.next.new.self.held item items
          (rw c.in-Ok-Some.field-0-is at c.in-Ok-Some.ensures.item) c.loop-item.invariant.0,
      All-push IsItem items item c.loop-item.invariant.1 (rw c.in-Ok-Some.field-0-is at c.in-Ok-Some.ensures.size),
    )

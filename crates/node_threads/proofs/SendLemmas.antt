-- A worker, and what a job answers, may go from thread to thread. What the search finds by itself for small types is put together here
-- part by part.
use denote.Param.Send.{IsSend, recorded_send, sendable, struct_send}
use denote.Struct.Declared.{shape}
use Rattle.std.proofs.Crossing.{crosses}
use Rattle.std.proofs.alloc.Global.TheSendSync as heap
use Rattle.svc_value.proofs.errors.OutOfMemory.TheSendSync as out_of_memory
use Rattle.svc_value.proofs.list.ListOf.TheSendSync as list
use Rattle.svc_value.proofs.numbers.Clock.TheSendSync as clock
use Rattle.svc_value.proofs.numbers.ServiceId.TheSendSync as id
use Rattle.svc_value.proofs.text.ValueText.TheSendSync as text
use Rattle.svc_value.proofs.value.Value.TheSendSync as value
use Rattle.svc_expr.proofs.boxed.Boxed.TheSendSync as boxed
use Rattle.svc_expr.proofs.expr.ExprKind.TheLaws.TheKnot.{crosses as trees}
use Rattle.svc_expr.specs.contracts.expr.Expr as expr
use Rattle.svc_graph.proofs.kind.Kind.TheSendSync as kind
use Rattle.svc_graph.specs.contracts.definition.Change as change
use Rattle.svc_graph.specs.contracts.definition.Definition as definition
use Rattle.svc_graph.specs.contracts.definition.Formula as formula
use Rattle.stamp_clock.proofs.floor.Floor.TheSendSync as floor
use Rattle.pred_queue.proofs.emission.Emission.TheSendSync as emission
use Rattle.pred_queue.proofs.slot.Slot.TheSendSync as slot
use Rattle.stamp_match.proofs.matcher.Matcher.TheSendSync as matcher
use Rattle.rewire_core.proofs.edges.Edges.TheSendSync as edges
use Rattle.rewire_core.proofs.readers.Readers.TheSendSync as readers
use Rattle.node_core.proofs.journal.Journal.TheSendSync as journal
use Rattle.node_core.proofs.scratch.Scratch.TheSendSync as scratch
use Rattle.node_core.specs.contracts.node.Node as node
use Rattle.node_core.specs.contracts.node.Node.TheInside as inside
use Rattle.link_fifo.proofs.piece_in.PieceIn.TheSendSync as into
use Rattle.link_fifo.proofs.piece_out.PieceOut.TheSendSync as out
use Rattle.settle_core.specs.contracts.wired.WiredNode as wired
use Rattle.settle_core.specs.contracts.worker.Worker as worker
use Rattle.node_threads.specs.contracts.leg.Done as done

-- ---- changes of definitions

expr_send : IsSend (expr.the_field).row
expr_send = search (sendable, crosses, trees, boxed.the_send, text.the_send) depth 20

formula_send : IsSend (formula.the_field).row
formula_send = let e : IsSend (expr.the_field).row = expr_send in search (sendable, list.the_send, id.the_send) depth 20

definition_send : IsSend (definition.the_field).row
definition_send = let f : IsSend (formula.the_field).row = formula_send in search (sendable, value.the_field_send) depth 20

change_send : IsSend (change.the_field).row
change_send =
    let f : IsSend (formula.the_field).row = formula_send in
    let d : IsSend (definition.the_field).row = definition_send in
    search (sendable, value.the_field_send, id.the_send) depth 20

-- ---- a node, field by field

inside_send : IsSend inside.the_row
inside_send =
    let d : IsSend (definition.the_field).row = definition_send in
    let c : IsSend (change.the_field).row = change_send in
    recorded_send (inside.the_field).row _ _ (inside.the_type).to_one (struct_send (shape inside.the_type) (
      heap.the_field_send,
      (
        id.the_send,
        (
          clock.the_send,
          (
            search sendable depth 20,
            (
              search sendable,
              (
                search (sendable, list.the_send, kind.the_field_send) depth 20,
                (
                  search (sendable, crosses) depth 20,
                  (
                    search sendable,
                    (
                      edges.the_send,
                      (
                        search (sendable, crosses, slot.the_send) depth 20,
                        (
                          readers.the_send,
                          (
                            floor.the_send,
                            (matcher.the_field_send, (search (sendable, emission.the_send) depth 20, (journal.the_send, (scratch.the_field_send, tt)))),
                          ),
                        ),
                      ),
                    ),
                  ),
                ),
              ),
            ),
          ),
        ),
      ),
    ))

node_send : IsSend node.the_row
node_send = let i : IsSend inside.the_row = inside_send in search sendable depth 20

-- ---- a worker, and what its job answers

wired_send : IsSend (wired.the_field).row
wired_send = let n : IsSend node.the_row = node_send in search (sendable, crosses, out.the_field_send, into.the_field_send, list.the_send) depth 20

pub worker_send : IsSend (worker.the_field).row
worker_send = let w : IsSend (wired.the_field).row = wired_send in search (sendable, crosses, id.the_send) depth 20

pub done_send : IsSend (done.the_field).row
done_send = let w : IsSend (worker.the_field).row = worker_send in search (sendable, out_of_memory.the_field_send) depth 20

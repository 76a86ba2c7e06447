-- How the fields of a node are the service that contracts see.
use Rattle.std.specs.Prelude.{◌≤◌, drop, take, length}
use Rattle.propagation.specs.Logs.{stamps_of}
use Rattle.stamp_match.specs.Kept.{IsMatcherOf}
use Rattle.node_core.specs.declared.node.Node.TheInside.{Inside}
use Rattle.node_core.specs.Coming.{coming}
use Rattle.node_core.specs.View.{NodeView, told_all, AreInOrder, AreCounted, AreWithin, IsDefined}
use Rattle.svc_value.specs.declared.limits.TheConstants.{MAX_SERVICES}

-- the service
abbrev pub service_of : Inside → NodeView
service_of n = record {
  state = record {
    id = n.id;
    own = n.own;
    definition = n.definition;
    left = coming n.definition (drop n.done n.changes.items);
    due = n.due;
    edges = n.edges;
    slots = n.slots.items;
    readers = told_all (stamps_of n.last) n.readers.present;
    past = n.readers.past;
    floor = n.floor;
    last = n.last;
  };
  roster = n.roster;
  changes = n.changes.items;
  entries = n.journal.entries;
  outbox = n.journal.outbox;
  handed = n.journal.handed;
}

-- what its fields keep
pub record IsNode (n : Inside) : Type 0 where
  pub few : length n.roster ≤ MAX_SERVICES
  pub within : n.done ≤ length n.changes.items
  pub defined : IsDefined n.id n.own n.definition (coming n.definition (drop n.done n.changes.items))
  pub in_order : AreInOrder n.edges n.slots.items
  pub within_layout : AreWithin n.edges n.readers.present n.last
  pub counted : AreCounted n.journal.entries n.slots.items
  pub matched : IsMatcherOf (take (length n.edges) n.slots.items) n.floor n.matcher

-- What contracts see of the two ends of a ring.
use Rattle.std.specs.Prelude.{ℕ, List}
use Rattle.rtrb.specs.Ring.{sent, received, known_free, known_items, IsPair, SameProducer, SameConsumer}
use Rattle.link_fifo.specs.declared.ring.RingOut.{RingOut}
use Rattle.link_fifo.specs.declared.ring.RingIn.{RingIn}

-- every piece pushed so far, oldest first
abbrev pub ring_sent : RingOut → List (List ℕ)
ring_sent out = sent out.producer

-- every piece popped so far, oldest first
abbrev pub ring_received : RingIn → List (List ℕ)
ring_received into = received into.consumer

-- how many slots this end knows to be free
abbrev pub ring_room : RingOut → ℕ
ring_room out = known_free out.producer

-- the pieces that this end has seen in the ring
abbrev pub ring_known : RingIn → List (List ℕ)
ring_known into = known_items into.consumer

-- the two ends of one ring
abbrev pub OneRing : RingOut → RingIn → Type 0
OneRing out into = IsPair out.producer into.consumer

-- the same end of the same ring
abbrev pub SameOut : RingOut → RingOut → Type 0
SameOut old new = SameProducer old.producer new.producer

abbrev pub SameIn : RingIn → RingIn → Type 0
SameIn old new = SameConsumer old.consumer new.consumer

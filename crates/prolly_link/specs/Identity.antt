-- Which link an end is of.
use denote.RawPtr.{Ptr}
use Rattle.std.specs.Prelude.{ℕ, Bool, List}
use Rattle.std.specs.declared.alloc.Global.{Global}
use Rattle.rtrb.specs.Shared.{Names}
use Rattle.rtrb.specs.declared.AnyItems.{AnyItems}
use Rattle.rtrb.specs.declared.producer.Producer.{Producer}
use Rattle.rtrb.specs.declared.consumer.Consumer.{Consumer}

-- one ring: where it lies, its capacity with the names of its two views, and the heap that it is in
pub record RingId : Type 0 where
  pub words : Ptr
  pub slots : Ptr
  pub names : Names
  pub heap : Global

-- the link of a ring; or a sink, by what it was at first: whether it kept what it took, what it had
-- taken, and how many of its calls had failed. An end over a list is of none
pub data LinkId : Type 0 where
  ring_link : RingId → LinkId
  sink_link : Bool → List ℕ → ℕ → LinkId
  no_link : LinkId

-- for how many messages a link has room: 0 where it has no ring
abbrev pub room_of : LinkId → ℕ
room_of (ring_link id) = id.names.0
room_of (sink_link kept taken failed) = 0
room_of no_link = 0

module _ {M : Type 0} where
  -- the link that a producer is an end of
  abbrev pub producer_link : Producer M Global AnyItems → LinkId
  producer_link p = ring_link record {
    words = p.end.words;
    slots = p.end.slots;
    names = p.end.names;
    heap = p.end.heap;
  }

  -- the link that a consumer is an end of
  abbrev pub consumer_link : Consumer M Global AnyItems → LinkId
  consumer_link c = ring_link record {
    words = c.end.words;
    slots = c.end.slots;
    names = c.end.names;
    heap = c.end.heap;
  }

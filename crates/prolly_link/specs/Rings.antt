-- What a contract sees of the two ends of a ring of messages.
use Rattle.std.specs.Prelude.{◌≡◌, true}
use Rattle.std.specs.declared.alloc.Global.{Global}
use Rattle.rtrb.specs.declared.AnyItems.{AnyItems}
use Rattle.rtrb.specs.declared.producer.Producer.{Producer}
use Rattle.rtrb.specs.declared.consumer.Consumer.{Consumer}
use Rattle.rtrb.specs.Ring.{sent as pushed, received as popped}
use Rattle.prolly_link.specs.Identity.{producer_link, consumer_link}
use Rattle.prolly_link.specs.Views.{Sending, Whole}
use Rattle.prolly_link.specs.Message.{sending_of, whole_of, is_open, is_closed}
use Rattle.prolly_link.specs.declared.message.Message.{Message}

module _ {T : Type 0} where
  -- the link and the items of a producer that has pushed no end
  abbrev pub sent_so_far : Producer (Message T) Global AnyItems → Sending T
  sent_so_far p = sending_of (producer_link p) (pushed p)

  -- the link, the items and the end of a producer that has pushed its end
  abbrev pub whole_sent : Producer (Message T) Global AnyItems → Whole T
  whole_sent p = whole_of (producer_link p) (pushed p)

  -- the link and the items of a consumer that has popped no end
  abbrev pub received_so_far : Consumer (Message T) Global AnyItems → Sending T
  received_so_far c = sending_of (consumer_link c) (popped c)

  -- the link, the items and the end of a consumer that has popped the end
  abbrev pub whole_received : Consumer (Message T) Global AnyItems → Whole T
  whole_received c = whole_of (consumer_link c) (popped c)

  -- a producer has pushed no end
  abbrev pub SentNoEnd : Producer (Message T) Global AnyItems → Type 0
  SentNoEnd p = is_open (pushed p) ≡ true

  -- a producer has pushed an end, and nothing after it
  abbrev pub SentEnd : Producer (Message T) Global AnyItems → Type 0
  SentEnd p = is_closed (pushed p) ≡ true

  -- a consumer has popped no end
  abbrev pub ReceivedNoEnd : Consumer (Message T) Global AnyItems → Type 0
  ReceivedNoEnd c = is_open (popped c) ≡ true

  -- a consumer has popped an end, and nothing after it
  abbrev pub ReceivedEnd : Consumer (Message T) Global AnyItems → Type 0
  ReceivedEnd c = is_closed (popped c) ≡ true

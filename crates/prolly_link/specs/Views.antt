-- What a contract sees of the ends of a link.
use Rattle.std.specs.Prelude.{ℕ, List}
use Rattle.prolly_link.specs.Identity.{LinkId}
use Rattle.prolly_link.specs.declared.message.End.{End}
use Rattle.prolly_link.specs.declared.message.Progress.{Progress}

-- the items that went through an end of a link, oldest first, with no end after them
pub record Sending (T : Type 0) : Type 0 where
  pub link : LinkId
  pub items : List T

-- the items that a receiver gave, and how far it has come
pub record Receiving (T : Type 0) : Type 0 where
  pub link : LinkId
  pub items : List T
  pub progress : Progress

-- all items of a link, and the end after them
pub record Whole (T : Type 0) : Type 0 where
  pub link : LinkId
  pub items : List T
  pub end : End

-- the items that were given to a sender of batches, and for how many more it has taken room; how
-- many items a full batch has, and how many bytes the items of the open one take
pub record Batching (T : Type 0) : Type 0 where
  pub link : LinkId
  pub items : List T
  pub room : ℕ
  pub batch : ℕ
  pub held : ℕ

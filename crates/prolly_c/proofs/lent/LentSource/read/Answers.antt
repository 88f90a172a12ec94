use Rattle.std.proofs.Common.{◌≡◌, ◌∙◌, ◌-◌, ℕ, true, List, length, take, drop, ap}
use Rattle.std.proofs.lemmas.List.Elements.{All-drop}
use Rattle.prolly_entry.specs.Byte.{IsByte}
use Rattle.prolly_entry.specs.lemmas.Lists.{rest_is}
use Rattle.prolly_io.specs.Bytes.{are_bytes}
use Rattle.prolly_io.specs.BytesLaws.{bytes_from_test, test_from_bytes}
use Rattle.prolly_c.proofs.lent.LentSource.read.Goals as goal

-- Where bytes are bytes, so are those from a place on.
still_bytes : (bytes : List ℕ) (at : ℕ) → are_bytes bytes ≡ true →
    are_bytes (take (length bytes - at) (drop at bytes)) ≡ true
still_bytes bytes at tested = ap are_bytes (rest_is bytes at) ∙
    test_from_bytes (drop at bytes) (All-drop IsByte at bytes (bytes_from_test bytes tested))

pub returns-clause-honest : goal.returns-clause-honest
returns-clause-honest c told = still_bytes c.args.self.now.left.now c.copy_some-count.result told

-- Which numbers are bytes.
use Rattle.std.specs.Prelude.{ℕ, Bool, List, nat_lt}
use Rattle.std.specs.List.{list_all}

-- Each number of the list is a byte, as a test.
abbrev pub are_bytes : List ℕ → Bool
are_bytes numbers = list_all (λ n. nat_lt n 256) numbers

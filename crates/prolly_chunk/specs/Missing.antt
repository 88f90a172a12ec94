-- The chunks that others lack, and how large chunks are.
use Rattle.std.specs.List.{filter, flat_map, list_any}
use Rattle.std.specs.Prelude.{◌≡◌, ℕ, not, Bool, List, length}
use Rattle.std.specs.Str.{bytes_eq}
use Rattle.prolly_entry.specs.Reference.{reference_of}
use Rattle.prolly_chunk.specs.declared.missing.Missing.{Missing}

-- Whether one of the chunks has the reference.
abbrev pub has_reference : List (List ℕ) → List ℕ → Bool
has_reference chunks reference = list_any (λ c. bytes_eq (reference_of c) reference) chunks

-- The chunks whose reference none of the others has, in their order.
abbrev pub lacking : List (List ℕ) → List (List ℕ) → List (List ℕ)
lacking others chunks = filter (λ c. not (has_reference others (reference_of c))) chunks

-- How many bytes the chunks have together.
abbrev pub chunks_size : List (List ℕ) → ℕ
chunks_size chunks = length (flat_map (λ c. c) chunks)

-- The numbers are those of these chunks and of their bytes.
pub record AreSo (chunks : List (List ℕ)) (missing : Missing) : Type 0 where
  pub chunks_are : missing.chunks ≡ length chunks
  pub bytes_are : missing.bytes ≡ chunks_size chunks

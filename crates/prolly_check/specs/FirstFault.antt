-- What is wrong with the pairs and the chunks of a file that is well formed: the first fault.
use Rattle.std.specs.Int.{w64, to_be_bytes}
use Rattle.std.specs.List.{flat_map, list_any}
use Rattle.std.specs.Prelude.{◌≡◌, Bool, true, ◌&&◌, List, [], ◌∷◌, Some, ℕ, suc, ◌++◌, length, map}
use Rattle.std.specs.Prelude.{Option, None, Result, Ok, Err, if◌then◌else◌, ◌-◌, get_or}
use Rattle.std.specs.Str.{bytes_eq}
use Rattle.prolly_entry.specs.Cut.{sha512_cut}
use Rattle.prolly_entry.specs.Overlay.{or_else}
use Rattle.prolly_entry.specs.Pair.{Pair}
use Rattle.prolly_entry.specs.Position.{Position, is_before}
use Rattle.prolly_entry.specs.Reference.{reference_of}
use Rattle.prolly_entry.specs.declared.version.Version.{Version}
use Rattle.prolly_tree.specs.Chunk.{chunks}
use Rattle.prolly_tree.specs.File.{root_reference}
use Rattle.prolly_look_up.specs.Content.{Content, chunk_bytes}
use Rattle.prolly_look_up.specs.HeldPairs.{pairs_held}
use Rattle.prolly_check.specs.declared.verdict.fault.CheckFault.{CheckFault}
use Rattle.prolly_check.specs.declared.verdict.fault.CheckFault.TheVariants.{KeysOutOfOrder, BadEnd}
use Rattle.prolly_check.specs.declared.verdict.fault.CheckFault.TheVariants.{NotCanonical}
use Rattle.prolly_check.specs.declared.verdict.fault.CheckFault.TheVariants.{Collision}

-- Each key of the pairs is greater than the one before it, the first one greater than the last one
-- before them.
abbrev pub rises_behind : Position → List Pair → Bool
rises_behind last [] = true
rises_behind last (p ∷ ps) = is_before last (Some p.key) && rises_behind (Some p.key) ps

-- The position of the last key of the pairs, or where there are none the one before them.
abbrev pub last_behind : Position → List Pair → Position
last_behind last [] = last
last_behind last (p ∷ ps) = last_behind (Some p.key) ps

-- The keys of the pairs rise behind the one, up to the other.
pub record RisesTo (last : Position) (pairs : List Pair) (new : Position) : Type 0 where
  pub rises : rises_behind last pairs ≡ true
  pub last_is : new ≡ last_behind last pairs

-- The first chunk, from this number on, whose keys do not rise behind the last key before them.
abbrev pub order_fault : Position → ℕ → List (List Pair) → Option CheckFault
order_fault last number [] = None
order_fault last number (pairs ∷ lists) =
    if rises_behind last pairs then order_fault (last_behind last pairs) (suc number) lists else
    Some (KeysOutOfOrder number)

-- The first place, from this number on, at which one list has no chunk or the two differ.
abbrev pub difference : ℕ → List (List ℕ) → List (List ℕ) → Option CheckFault
difference number [] [] = None
difference number [] (d ∷ ds) = Some (NotCanonical number)
difference number (c ∷ cs) [] = Some (NotCanonical number)
difference number (c ∷ cs) (d ∷ ds) = if bytes_eq c d then difference (suc number) cs ds else Some
    (NotCanonical number)

-- The end records differ.
abbrev pub end_fault : List ℕ → List ℕ → Option CheckFault
end_fault found wanted = if bytes_eq found wanted then None else Some BadEnd

-- The first chunk, from this number on, whose reference a chunk before it has too.
abbrev pub reuse : List (List ℕ) → ℕ → List (List ℕ) → Option CheckFault
reuse before number [] = None
reuse before number (c ∷ cs) =
    if list_any (λ d. bytes_eq (reference_of d) (reference_of c)) before then Some
    (Collision number)
    else reuse (c ∷ before) (suc number) cs

-- What stands behind the first byte of its end record: the root's reference and the number of
-- chunks.
abbrev pub ending_for : Version → ℕ → List Pair → List ℕ
ending_for version bits pairs =
    root_reference (sha512_cut bits) version pairs ++
    to_be_bytes w64 (length (chunks (sha512_cut bits) version pairs))

-- The content, where there is no fault.
abbrev pub or_content : Content → Option CheckFault → Result Content CheckFault
or_content content None = Ok content
or_content content (Some fault) = Err fault

-- What is wrong with the keys, the chunks or the end record: the keys are tested first; then the
-- chunks against those of the file of the pairs; then the end record.
abbrev pub canonical_fault : Version → ℕ → List (List ℕ) → List ℕ → List (List Pair) →
    Option CheckFault
canonical_fault version bits chunks ending lists =
    let pairs = flat_map (λ pairs. pairs) lists in
    or_else (order_fault None 0 lists)
    (or_else (difference 0 (chunk_bytes version bits pairs) chunks)
    (end_fault ending (ending_for version bits pairs)))

-- The references are tested last.
abbrev pub judged : Version → ℕ → List (List ℕ) → List ℕ → List (List Pair) →
    Result Content CheckFault
judged version bits chunks ending lists =
    or_content (record { version = version; bits = bits; pairs = flat_map (λ pairs. pairs) lists })
    (or_else (canonical_fault version bits chunks ending lists) (reuse [] 0 chunks))

-- What follows the letter E in a file with these chunks: the last chunk's reference and their
-- number.
abbrev pub ending_of_chunks : List (List ℕ) → List ℕ
ending_of_chunks chunks = reference_of (get_or chunks (length chunks - 1) []) ++
    to_be_bytes w64 (length chunks)

-- What is wrong with the keys, the chunks or the end record of a file with these chunks, of
-- the pairs that they hold, where an end record follows them.
abbrev pub Says : Version → ℕ → List (List ℕ) → List ℕ → Option CheckFault → Type 0
Says version bits chunks behind fault = (ending : List ℕ) → behind ≡ 0x45 ∷ ending →
    canonical_fault version bits chunks ending (map pairs_held chunks) ≡ fault

-- So the chunks compare with those of the pairs that they hold.
abbrev pub CompareAs : Version → ℕ → List (List ℕ) → Option CheckFault → Type 0
CompareAs version bits chunks fault = difference 0
    (chunk_bytes version bits (flat_map pairs_held chunks)) chunks ≡ fault

-- Worked examples, by computation: whole files and, where a cut shows its boundaries, the order of
-- chunks.
use Rattle.std.specs.Prelude.{◌≡◌, ℕ, true, codes, List, [], ◌∷◌, ◌++◌, map, Some, None}
use Rattle.prolly_entry.specs.declared.version.Version.TheVariants.{One, Two}
use Rattle.prolly_entry.specs.Pair.{Pair}
use Rattle.prolly_entry.specs.Record.{Record}
use Rattle.prolly_entry.specs.Reference.{reference_of, reference_text}
use Rattle.prolly_entry.specs.Cut.{Cut, key_cut, sha512_cut}
use Rattle.prolly_entry.specs.Overlay.{overlay}
use Rattle.prolly_tree.specs.Merge.{Input, stop, merged_part}
use Rattle.prolly_tree.specs.Chunk.{Chunk, chunks, begun_chunks}
use Rattle.prolly_tree.specs.File.{file}
use Rattle.prolly_tree.specs.Events.{clean, faulty, leaf_events}
use Rattle.prolly_tree.specs.Pipeline.{pipeline_events, within_stages}

-- The pair of a key of one byte and the value `1`.
abbrev pub example_pair : ℕ → Pair
example_pair key = record { key = key ∷ []; value = 0x31 ∷ [] }

-- The record that puts this pair.
abbrev pub example_put : ℕ → Record
example_put key = record { key = key ∷ []; value = Some (0x31 ∷ []) }

-- The record that removes a key of one byte.
abbrev pub example_removal : ℕ → Record
example_removal key = record { key = key ∷ []; value = None }

-- The levels of chunks, in their order.
abbrev pub levels : List Chunk → List ℕ
levels cs = map (λ c. c.level) cs

-- The pairs of the keys a, b and c.
abbrev pub abc : List Pair
abc = example_pair 0x61 ∷ example_pair 0x62 ∷ example_pair 0x63 ∷ []

-- The text of the reference of the bytes `abc`.
abbrev pub TextOfAbc : Type 0
TextOfAbc = reference_text (reference_of (codes "abc")) ≡ codes "rmnjb8cjc5tblj21ed4qs821649eduie"

-- The file of the empty map at 0 bits.
abbrev pub FileOfNone : Type 0
FileOfNone = file (sha512_cut 0) One [] ≡ 0x50 ∷ 0x52 ∷ 0x4C ∷ 0x59 ∷ 1 ∷ 0
    ∷ 0x43 ∷ 0 ∷ 0 ∷ 0 ∷ 0 ∷ 0 ∷ 0 ∷ 0 ∷ 1 ∷ 0
    ∷ 0x45 ∷ 0xB8 ∷ 0x24 ∷ 0x4D ∷ 0x02 ∷ 0x89 ∷ 0x81 ∷ 0xD6 ∷ 0x93 ∷ 0xAF ∷ 0x7B
    ∷ 0x45 ∷ 0x6A ∷ 0xF8 ∷ 0xEF ∷ 0xA4 ∷ 0xCA ∷ 0xD6 ∷ 0x3D ∷ 0x28 ∷ 0x2E
    ∷ 0 ∷ 0 ∷ 0 ∷ 0 ∷ 0 ∷ 0 ∷ 0 ∷ 1 ∷ []

-- The file of one pair at 0 bits, 53 bytes: one chunk, although its only entry is a boundary.
abbrev pub FileOfOne : Type 0
FileOfOne = file (sha512_cut 0) One (example_pair 0x61 ∷ []) ≡
    0x50 ∷ 0x52 ∷ 0x4C ∷ 0x59 ∷ 0x01 ∷ 0x00 ∷ 0x43 ∷ 0x00 ∷ 0x00 ∷ 0x00 ∷ 0x00 ∷ 0x00 ∷ 0x00 ∷ 0x00
    ∷ 0x09 ∷ 0x00
    ∷ 0x00 ∷ 0x01 ∷ 0x61 ∷ 0x00 ∷ 0x00 ∷ 0x00 ∷ 0x01 ∷ 0x31 ∷ 0x45 ∷ 0xE4 ∷ 0xB1 ∷ 0x1C ∷ 0x59 ∷
    0x64 ∷ 0x6C ∷ 0xA2
    ∷ 0x86 ∷ 0xE7 ∷ 0x47 ∷ 0xDF ∷ 0x19 ∷ 0x87 ∷ 0xE5 ∷ 0xE5 ∷ 0x3D ∷ 0x53 ∷ 0x57 ∷ 0xE2 ∷ 0x04 ∷
    0x00 ∷ 0x00 ∷ 0x00
    ∷ 0x00 ∷ 0x00 ∷ 0x00 ∷ 0x00 ∷ 0x01 ∷ []

-- The file of three pairs at 0 bits, 234 bytes and six chunks: two leaves and their node, a leaf
-- and its node of one entry, the root.
abbrev pub FileOfThree : Type 0
FileOfThree = file (sha512_cut 0) One abc ≡
    0x50 ∷ 0x52 ∷ 0x4C ∷ 0x59 ∷ 0x01 ∷ 0x00 ∷ 0x43 ∷ 0x00 ∷ 0x00 ∷ 0x00 ∷ 0x00 ∷ 0x00 ∷ 0x00 ∷ 0x00
    ∷ 0x09 ∷ 0x00
    ∷ 0x00 ∷ 0x01 ∷ 0x61 ∷ 0x00 ∷ 0x00 ∷ 0x00 ∷ 0x01 ∷ 0x31 ∷ 0x43 ∷ 0x00 ∷ 0x00 ∷ 0x00 ∷ 0x00 ∷
    0x00 ∷ 0x00 ∷ 0x00
    ∷ 0x09 ∷ 0x00 ∷ 0x00 ∷ 0x01 ∷ 0x62 ∷ 0x00 ∷ 0x00 ∷ 0x00 ∷ 0x01 ∷ 0x31 ∷ 0x43 ∷ 0x00 ∷ 0x00 ∷
    0x00 ∷ 0x00 ∷ 0x00
    ∷ 0x00 ∷ 0x00 ∷ 0x2F ∷ 0x01 ∷ 0x00 ∷ 0x01 ∷ 0x61 ∷ 0xE4 ∷ 0xB1 ∷ 0x1C ∷ 0x59 ∷ 0x64 ∷ 0x6C ∷
    0xA2 ∷ 0x86 ∷ 0xE7
    ∷ 0x47 ∷ 0xDF ∷ 0x19 ∷ 0x87 ∷ 0xE5 ∷ 0xE5 ∷ 0x3D ∷ 0x53 ∷ 0x57 ∷ 0xE2 ∷ 0x04 ∷ 0x00 ∷ 0x01 ∷
    0x62 ∷ 0x93 ∷ 0xF1
    ∷ 0xDE ∷ 0x17 ∷ 0x94 ∷ 0xBC ∷ 0x64 ∷ 0xD3 ∷ 0x68 ∷ 0x04 ∷ 0x61 ∷ 0xB8 ∷ 0x69 ∷ 0xD8 ∷ 0xA7 ∷
    0x01 ∷ 0xF7 ∷ 0xC3
    ∷ 0xD9 ∷ 0xD4 ∷ 0x43 ∷ 0x00 ∷ 0x00 ∷ 0x00 ∷ 0x00 ∷ 0x00 ∷ 0x00 ∷ 0x00 ∷ 0x09 ∷ 0x00 ∷ 0x00 ∷
    0x01 ∷ 0x63 ∷ 0x00
    ∷ 0x00 ∷ 0x00 ∷ 0x01 ∷ 0x31 ∷ 0x43 ∷ 0x00 ∷ 0x00 ∷ 0x00 ∷ 0x00 ∷ 0x00 ∷ 0x00 ∷ 0x00 ∷ 0x18 ∷
    0x01 ∷ 0x00 ∷ 0x01
    ∷ 0x63 ∷ 0x46 ∷ 0x58 ∷ 0x24 ∷ 0x67 ∷ 0x6F ∷ 0x24 ∷ 0xFB ∷ 0x56 ∷ 0x08 ∷ 0x70 ∷ 0x8D ∷ 0x3B ∷
    0xFE ∷ 0x58 ∷ 0x86
    ∷ 0xE8 ∷ 0x5E ∷ 0xE6 ∷ 0x3B ∷ 0x42 ∷ 0x43 ∷ 0x00 ∷ 0x00 ∷ 0x00 ∷ 0x00 ∷ 0x00 ∷ 0x00 ∷ 0x00 ∷
    0x2F ∷ 0x02 ∷ 0x00
    ∷ 0x01 ∷ 0x62 ∷ 0x09 ∷ 0x13 ∷ 0x60 ∷ 0x78 ∷ 0xB5 ∷ 0x6F ∷ 0x84 ∷ 0xE8 ∷ 0x44 ∷ 0xE0 ∷ 0xED ∷
    0x85 ∷ 0x7B ∷ 0xCA
    ∷ 0x84 ∷ 0xB0 ∷ 0x1C ∷ 0x68 ∷ 0xCF ∷ 0xAC ∷ 0x00 ∷ 0x01 ∷ 0x63 ∷ 0x11 ∷ 0x1B ∷ 0x25 ∷ 0xC7 ∷
    0x5B ∷ 0xD1 ∷ 0x99
    ∷ 0xDD ∷ 0x5E ∷ 0xC5 ∷ 0x6D ∷ 0x2B ∷ 0x99 ∷ 0xB4 ∷ 0xB2 ∷ 0xE7 ∷ 0xC4 ∷ 0x66 ∷ 0xFF ∷ 0x9E ∷
    0x45 ∷ 0x99 ∷ 0x9E
    ∷ 0x24 ∷ 0x8A ∷ 0x92 ∷ 0x65 ∷ 0x82 ∷ 0x5B ∷ 0x3A ∷ 0x39 ∷ 0x54 ∷ 0x9B ∷ 0xFA ∷ 0x46 ∷ 0xB9 ∷
    0xE3 ∷ 0x36 ∷ 0x06
    ∷ 0x4F ∷ 0x9C ∷ 0x00 ∷ 0x00 ∷ 0x00 ∷ 0x00 ∷ 0x00 ∷ 0x00 ∷ 0x00 ∷ 0x06 ∷ []

-- ---- The order of chunks, seen by their levels.

-- A cut with every entry a boundary.
abbrev pub every_entry : Cut
every_entry = record { bits = 0; is_boundary = λ entry. true }

-- a, b!, c, d!, e with the cut by the key's last byte.
abbrev pub marked : List Pair
marked = example_pair 0x61 ∷ record { key = codes "b!"; value = 0x31 ∷ [] } ∷ example_pair 0x63
    ∷ record { key = codes "d!"; value = 0x31 ∷ [] } ∷ example_pair 0x65 ∷ []

-- The marked pairs have six chunks on three levels, in this order.
abbrev pub MarkedChunks : Type 0
MarkedChunks = levels (chunks key_cut One marked) ≡ 0 ∷ 0 ∷ 1 ∷ 0 ∷ 1 ∷ 2 ∷ []

-- The pairs of the keys a to e.
abbrev pub abcde : List Pair
abcde = abc ++ (example_pair 0x64 ∷ example_pair 0x65 ∷ [])

-- Five pairs, each a boundary, have eleven chunks on four levels, in either version: these levels
-- in version One, and these counts in version Two.
abbrev pub ChunksOfFive : Type 0
ChunksOfFive = (levels (chunks every_entry One abcde) ≡ 0 ∷ 0 ∷ 1 ∷ 0 ∷ 0 ∷ 1 ∷ 2 ∷ 0 ∷ 1 ∷ 2 ∷ 3 ∷
    [])
    × (map (λ c. c.count) (chunks every_entry Two abcde) ≡ 1 ∷ 1 ∷ 2 ∷ 1 ∷ 1 ∷ 2 ∷ 4 ∷ 1 ∷ 1 ∷ 1 ∷ 5
    ∷ [])

-- Two stages, four pairs and then a fault: the writer stops before the second node.
abbrev pub TwoStagesAtAFault : Type 0
TwoStagesAtAFault = levels (within_stages 2 (begun_chunks every_entry One
    (abc ++ example_pair 0x64 ∷ []))) ≡ 0 ∷ 0 ∷ 1 ∷ 0 ∷ 0 ∷ []

-- What the leaf stage sends of the marked pairs, what the stage behind it does, and what the leaf
-- stage sends before a fault.
abbrev pub MarkedEvents : Type 0
MarkedEvents = (levels (leaf_events key_cut One clean marked) ≡ 0 ∷ 0 ∷ 0 ∷ [])
    × (levels (pipeline_events 1 key_cut One clean marked) ≡ 0 ∷ 0 ∷ 1 ∷ 0 ∷ 1 ∷ [])
    × (levels (leaf_events key_cut One faulty
    (example_pair 0x61 ∷ record { key = codes "b!"; value = 0x31 ∷ [] } ∷ example_pair 0x63 ∷ [])) ≡
    0 ∷ [])

-- ---- Merging.

-- The first input has the key 5 and then a fault, the second 1, 2 and 7 and none.
abbrev pub two_inputs : List (Input ℕ)
two_inputs = record { records = example_put 0x35 ∷ []; fault = Some 0 }
    ∷ record { records = example_put 0x31 ∷ example_put 0x32 ∷ example_put 0x37 ∷ []; fault = None } ∷ []

-- The fault of these inputs stands at 5, and 1, 2 and 5 come before.
abbrev pub FaultOfLeastPosition : Type 0
FaultOfLeastPosition = (stop two_inputs ≡ Some (record { position = Some (0x35 ∷ []); fault = 0 }))
    × (merged_part two_inputs ≡ example_pair 0x31 ∷ example_pair 0x32 ∷ example_pair 0x35 ∷ [])

-- A later list removes a key, and one later still puts it again.
abbrev pub Removals : Type 0
Removals = (overlay ((example_put 0x61 ∷ example_put 0x62 ∷ []) ∷ (example_removal 0x61 ∷ []) ∷ []) ≡
    example_pair 0x62 ∷ [])
    × (overlay ((example_put 0x61 ∷ []) ∷ (example_removal 0x61 ∷ []) ∷ (example_put 0x61 ∷ []) ∷ []) ≡
    example_pair 0x61 ∷ [])
    × (overlay ((example_removal 0x61 ∷ []) ∷ []) ≡ [])

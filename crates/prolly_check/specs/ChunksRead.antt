-- What is kept of the chunks of a file that were read so far.
use Rattle.std.specs.List.{flat_map, AllByRecursion}
use Rattle.std.specs.Option.{option_map}
use Rattle.std.specs.Prelude.{◌≡◌, ◌⊎◌, ℕ, ◌-◌, ◌^◌, ◌<◌, ◌≤◌, List, [], ◌∷◌, ◌++◌, length, map}
use Rattle.std.specs.Prelude.{get_or, Option, Some, None, Result, MatchResult}
use Rattle.prolly_entry.specs.Cut.{sha512_cut}
use Rattle.prolly_entry.specs.Reference.{reference_of}
use Rattle.prolly_entry.specs.declared.reference.Ref.{Ref}
use Rattle.prolly_tree.specs.File.{root_reference}
use Rattle.prolly_io.specs.Frame.{framed, IsSmall}
use Rattle.prolly_look_up.specs.Entries.{AreWhole}
use Rattle.prolly_check.specs.FirstFault.{last_behind, order_fault}
use Rattle.prolly_check.specs.FirstFlaw.{IsFlawBehind, MayBegin, flaw_at_end, record_flaw}
use Rattle.prolly_check.specs.Follower.{Follows}
use Rattle.prolly_look_up.specs.HeldPairs.{pairs_held}
use Rattle.prolly_check.specs.Incoming.{IsFilled}
use Rattle.prolly_check.specs.Verdict.{UnlessMemory}
use Rattle.prolly_check.specs.declared.stream.chunks_read.ChunksRead.{ChunksRead}
use Rattle.prolly_check.specs.declared.verdict.follower.Follower.{Follower}
use Rattle.prolly_check.specs.declared.verdict.fault.CheckFault.{CheckFault}

-- These chunks were read: they are whole, their keys rise up to the last one, and they follow one
-- another as in a file.
pub record AreRead (chunks : List (List ℕ)) (read : ChunksRead) : Type 0 where
  pub follows : Follows chunks read.follower
  pub whole : AreWhole read.follower.version chunks
  pub rising : order_fault None 0 (map pairs_held chunks) ≡ None
  pub count : read.count ≡ length chunks
  pub last_key : option_map (λ key. key.items) read.last_key ≡
      last_behind None (flat_map pairs_held chunks)
  pub last : 0 < length chunks →
      read.reference.0 ≡ reference_of (get_or chunks (length chunks - 1) [])

-- The chunk is taken behind these, or has a flaw, unless memory was refused.
abbrev pub TakesChunk : ChunksRead → ChunksRead → List ℕ → Result (Unit {0}) CheckFault → Type 0
TakesChunk old new chunk result = (chunks : List (List ℕ)) → AreRead chunks old →
    length (flat_map pairs_held (chunks ++ chunk ∷ [])) < 2 ^ 64 →
    MatchResult result (λ done. AreRead (chunks ++ chunk ∷ []) new)
    (UnlessMemory (IsFlawBehind old.follower.version old.follower.cut chunks chunk))

-- Of chunks that are taken behind others, this is the flaw of the first that has one.
pub record HasFlaw (read : ChunksRead) (chunks taken : List (List ℕ)) (fault : CheckFault) : Type 0
  where
    pub before : List (List ℕ)
    pub chunk : List ℕ
    pub after : List (List ℕ)
    pub are : taken ≡ before ++ chunk ∷ after
    pub may : MayBegin read.follower.version read.follower.cut (chunks ++ before)
    pub flaw : IsFlawBehind read.follower.version read.follower.cut (chunks ++ before) chunk fault

-- The chunks are taken behind others; or the first of them that has a flaw is found, unless memory
-- was refused.
abbrev pub GoesOver : ChunksRead → ChunksRead → List (List ℕ) → Result (Unit {0}) CheckFault → Type 0
GoesOver old new taken result = (chunks : List (List ℕ)) → AreRead chunks old →
    length (flat_map framed (chunks ++ taken)) < 2 ^ 64 →
    MatchResult result (λ done. AreRead (chunks ++ taken) new)
    (UnlessMemory (HasFlaw old chunks taken))

-- Of the bytes behind a header these chunks were read, whose frames have this size, and these bytes
-- are still to be looked at; the others are left.
pub record BodyRead (body bytes left : List ℕ) (read : ChunksRead) (size : ℕ) : Type 0 where
  pub chunks : List (List ℕ)
  pub spelled : body ≡ flat_map framed chunks ++ (bytes ++ left)
  pub small : AllByRecursion IsSmall chunks
  pub are : AreRead chunks read
  pub many : length (flat_map framed chunks) ≡ size

-- ---- the end

-- No more bytes follow these, or they are enough to tell what stands where a frame is due.
abbrev pub IsDecided : List ℕ → List ℕ → Type 0
IsDecided bytes more = (more ≡ []) ⊎ IsFilled bytes

-- The end was tested, and nothing is wrong: these are the number of the chunks and the reference of
-- the root. Or this is wrong, unless memory was refused.
abbrev pub EndsAs : Follower → List (List ℕ) → Option CheckFault → Result (ℕ × Ref) CheckFault →
    Type 0
EndsAs follower chunks found result = MatchResult result
    (λ end. (found ≡ None) × (end.0 ≡ length chunks) ×
    (end.1.0 ≡ root_reference (sha512_cut follower.cut) follower.version
    (flat_map pairs_held chunks)))
    (UnlessMemory (λ fault. found ≡ Some fault))

-- So are bytes that no whole frame begins, behind chunks that were read.
abbrev pub EndsChunks : ChunksRead → List ℕ → Result (ℕ × Ref) CheckFault → Type 0
EndsChunks read bytes result = (chunks : List (List ℕ)) (more : List ℕ) → AreRead chunks read →
    length (flat_map pairs_held chunks) < 2 ^ 64 → IsDecided bytes more →
    EndsAs read.follower chunks (flaw_at_end read.follower.version read.follower.cut chunks
    (bytes ++ more)) result

-- So are the bytes behind the letter of an end record.
abbrev pub EndsRecord : ChunksRead → List ℕ → Result (ℕ × Ref) CheckFault → Type 0
EndsRecord read rest result = (chunks : List (List ℕ)) (more : List ℕ) → AreRead chunks read →
    length (flat_map pairs_held chunks) < 2 ^ 64 → (more ≡ []) ⊎ (29 ≤ length rest) →
    EndsAs read.follower chunks (record_flaw read.follower.version read.follower.cut chunks
    (rest ++ more)) result

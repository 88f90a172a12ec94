-- What is wrong first with a file that is read once, in the order of its bytes.
use Rattle.std.specs.List.{flat_map, AllByRecursion}
use Rattle.std.specs.Prelude.{◌≡◌, ◌≢◌, ◌⊎◌, ℕ, ◌<◌, ◌≤◌, ◌^◌, ◌==◌, not, nat_lt, true, List, []}
use Rattle.std.specs.Prelude.{◌∷◌, ◌++◌, length, map, take, drop, slice_index, Option, Some, None}
use Rattle.std.specs.Prelude.{Result, MatchResult, if◌then◌else◌}
use Rattle.std.specs.Str.{bytes_eq}
use Rattle.prolly_entry.specs.Cut.{sha512_cut}
use Rattle.prolly_entry.specs.Keys.{Rising}
use Rattle.prolly_entry.specs.Overlay.{or_else}
use Rattle.prolly_entry.specs.Pair.{Pair, IsPair}
use Rattle.prolly_entry.specs.Prefix.{IsPrefix}
use Rattle.prolly_entry.specs.declared.reference.Ref.{Ref}
use Rattle.prolly_entry.specs.declared.version.Version.{Version}
use Rattle.prolly_tree.specs.File.{file, root_reference}
use Rattle.prolly_io.specs.Frame.{framed, IsSmall, has_no_frame}
use Rattle.prolly_io.specs.Header.{header_tests, header_fault, version_of}
use Rattle.prolly_io.specs.declared.format.header.HeaderFault.{HeaderFault}
use Rattle.prolly_look_up.specs.Content.{Content, chunk_bytes}
use Rattle.prolly_look_up.specs.Entries.{AreWhole, Holds, IsWhole}
use Rattle.prolly_check.specs.FirstFault.{difference, ending_for, order_fault}
use Rattle.prolly_look_up.specs.HeldPairs.{pairs_held}
use Rattle.prolly_check.specs.Verdict.{fault_of_header}
use Rattle.prolly_check.specs.declared.stream.fault.StreamFault.{StreamFault}
use Rattle.prolly_check.specs.declared.stream.root_checker.RootReport.{RootReport}
use Rattle.prolly_check.specs.declared.stream.fault.StreamFault.TheVariants as stream
use Rattle.prolly_check.specs.declared.verdict.fault.CheckFault.{CheckFault}
use Rattle.prolly_check.specs.declared.verdict.fault.CheckFault.TheVariants.{BadChunk, BadEnd}
use Rattle.prolly_check.specs.declared.verdict.fault.CheckFault.TheVariants.{BadFrame, Memory, Read}
use Rattle.prolly_check.specs.declared.verdict.fault.CheckFault.TheVariants.{KeysOutOfOrder}
use Rattle.prolly_check.specs.declared.verdict.fault.CheckFault.TheVariants.{NotCanonical, TooLong}
use Rattle.prolly_check.specs.declared.verdict.fault.CheckFault.TheVariants.{Trailing, Truncated}

-- The bytes are the file of a map, of a version and a number of bits. (Whether two of its chunks
-- have one reference is not asked.)
pub record IsMapFile (bytes : List ℕ) (content : Content) : Type 0 where
  pub bits : content.bits ≤ 24
  pub lawful : AllByRecursion IsPair content.pairs
  pub rising : Rising (map (λ p. p.key) content.pairs)
  pub is : bytes ≡ file (sha512_cut content.bits) content.version content.pairs

-- ---- at a chunk

-- The chunks may begin a file: they are whole, their keys rise, and they are the first chunks of
-- the file of the pairs that they hold.
pub record MayBegin (version : Version) (bits : ℕ) (chunks : List (List ℕ)) : Type 0 where
  pub whole : AreWhole version chunks
  pub rising : order_fault None 0 (map pairs_held chunks) ≡ None
  pub first : IsPrefix chunks (chunk_bytes version bits (flat_map pairs_held chunks))

-- No file of fewer than 2 ^ 64 pairs begins with the chunks.
abbrev pub BeginNone : Version → ℕ → List (List ℕ) → Type 0
BeginNone version bits chunks = (m : List Pair) → length m < 2 ^ 64 → AllByRecursion IsPair m →
    IsPrefix chunks (chunk_bytes version bits m) → ⊥

-- What is wrong with a chunk behind others that may begin a file: it is no chunk; or a key of it is
-- not greater than the one before; or the file of the pairs that were read parts from the chunks at
-- this number, and no file begins with them.
abbrev pub IsFlawBehind : Version → ℕ → List (List ℕ) → List ℕ → CheckFault → Type 0
IsFlawBehind version bits before chunk (BadChunk n) = (n ≡ length before) ×
    ((pairs : List Pair) → Holds version chunk pairs → ⊥)
IsFlawBehind version bits before chunk (KeysOutOfOrder n) = IsWhole version chunk ×
    (order_fault None 0 (map pairs_held (before ++ chunk ∷ [])) ≡ Some (KeysOutOfOrder n))
IsFlawBehind version bits before chunk (NotCanonical n) = IsWhole version chunk ×
    (order_fault None 0 (map pairs_held (before ++ chunk ∷ [])) ≡ None) × (n ≤ length before) ×
    (difference 0 (chunk_bytes version bits (flat_map pairs_held (before ++ chunk ∷ [])))
    (before ++ chunk ∷ []) ≡ Some (NotCanonical n)) × BeginNone version bits (before ++ chunk ∷ [])
IsFlawBehind version bits before chunk _ = ⊥

-- The frames of these chunks, which may begin a file, are read, and these bytes are left.
pub record IsReadTo (version : Version) (bits : ℕ) (bytes : List ℕ) (chunks : List (List ℕ))
    (rest : List ℕ) : Type 0 where
  pub spelled : bytes ≡ flat_map framed chunks ++ rest
  pub small : AllByRecursion IsSmall chunks
  pub may : MayBegin version bits chunks

-- The first flaw is at a chunk.
pub record StopsAt (version : Version) (bits : ℕ) (bytes : List ℕ) (fault : CheckFault) : Type 0
  where
    pub before : List (List ℕ)
    pub chunk : List ℕ
    pub rest : List ℕ
    pub read : IsReadTo version bits bytes before (framed chunk ++ rest)
    pub small : IsSmall chunk
    pub flaw : IsFlawBehind version bits before chunk fault

-- ---- at the end

-- What is wrong behind the letter of an end record: it ends too early, it is not that of the
-- chunks, or bytes follow it.
abbrev pub end_flaw : Version → ℕ → List (List ℕ) → List ℕ → Option CheckFault
end_flaw version bits chunks rest =
    if nat_lt (length rest) 28 then Some Truncated else
    (if not (bytes_eq (take 28 rest) (ending_for version bits (flat_map pairs_held chunks)))
    then Some BadEnd else (if nat_lt 28 (length rest) then Some Trailing else None))

-- What is wrong from that letter on: it comes too early, or the record is wrong.
abbrev pub record_flaw : Version → ℕ → List (List ℕ) → List ℕ → Option CheckFault
record_flaw version bits chunks rest =
    or_else (difference 0 (chunk_bytes version bits (flat_map pairs_held chunks)) chunks)
    (end_flaw version bits chunks rest)

-- What is wrong with bytes that no whole frame begins, behind these chunks: a frame is cut, or they
-- begin with another letter, or the end record is wrong.
abbrev pub flaw_at_end : Version → ℕ → List (List ℕ) → List ℕ → Option CheckFault
flaw_at_end version bits chunks [] = Some Truncated
flaw_at_end version bits chunks (b ∷ rest) =
    if b == 0x43 then Some Truncated else
    (if not (b == 0x45) then Some (BadFrame (length chunks)) else
    record_flaw version bits chunks rest)

-- The chunks end, and this is found behind them.
pub record EndsWithFlaw (version : Version) (bits : ℕ) (bytes : List ℕ) (found : Option CheckFault)
    : Type 0 where
  pub chunks : List (List ℕ)
  pub rest : List ℕ
  pub read : IsReadTo version bits bytes chunks rest
  pub none : has_no_frame rest ≡ true
  pub is : flaw_at_end version bits chunks rest ≡ found

-- ---- all of it

-- The first flaw of what stands behind a header.
abbrev pub IsBodyFlaw : Version → ℕ → List ℕ → CheckFault → Type 0
IsBodyFlaw version bits bytes fault = StopsAt version bits bytes fault
    ⊎ EndsWithFlaw version bits bytes (Some fault)

-- Nothing is wrong with what stands behind a header, and these are the number of its chunks and its
-- root.
pub record IsGoodBody (version : Version) (bits : ℕ) (bytes : List ℕ) (count : ℕ) (root : List ℕ)
    : Type 0 where
  pub chunks : List (List ℕ)
  pub rest : List ℕ
  pub read : IsReadTo version bits bytes chunks rest
  pub right : flaw_at_end version bits chunks rest ≡ None
  pub many : count ≡ length chunks
  pub root_is : root ≡ root_reference (sha512_cut bits) version (flat_map pairs_held chunks)

-- Why what stands behind a header is refused: memory was refused, or a read failed, or there are
-- more bytes than can be counted, or by the first flaw.
abbrev pub IsBodyFault : Version → ℕ → List ℕ → CheckFault → Type 0
IsBodyFault version bits bytes fault = (fault ≡ Memory) ⊎ ((fault ≡ Read) ⊎
    (((fault ≡ TooLong) × (2 ^ 64 ≤ length bytes)) ⊎ IsBodyFlaw version bits bytes fault))

-- Whether what stands behind a header is the rest of a file.
abbrev pub IsBodyVerdict : Version → ℕ → List ℕ → Result (ℕ × Ref) CheckFault → Type 0
IsBodyVerdict version bits bytes result = MatchResult result
    (λ end. IsGoodBody version bits bytes end.0 end.1.0) (IsBodyFault version bits bytes)

-- Why bytes are no file of a map where one of this version is due.
abbrev pub IsFlawOf : Version → List ℕ → Option HeaderFault → CheckFault → Type 0
IsFlawOf version bytes (Some header) fault = fault ≡ fault_of_header header
IsFlawOf version bytes None fault = (version_of (slice_index bytes 4) ≡ version) ×
    IsBodyFault version (slice_index bytes 5) (drop 6 bytes) fault

-- The bytes are the file of a map of this version, whose root is this one, with so many bits and
-- chunks.
pub record IsFileOfRoot (version : Version) (root bytes : List ℕ) (report : RootReport) : Type 0
  where
    pub pairs : List Pair
    pub file : IsMapFile bytes (record { version = version; bits = report.bits; pairs = pairs })
    pub root_is : root_reference (sha512_cut report.bits) version pairs ≡ root
    pub many : report.chunks ≡ length (chunk_bytes version report.bits pairs)

-- The file of a map whose root is another one.
pub record HasOtherRoot (version : Version) (root bytes : List ℕ) : Type 0 where
  pub content : Content
  pub file : IsMapFile bytes content
  pub same : content.version ≡ version
  pub other : root_reference (sha512_cut content.bits) version content.pairs ≢ root

-- Why bytes are not the file of the tree of this version and root. Want of memory and failed reads
-- may come over any.
abbrev pub IsStreamFault : Version → List ℕ → List ℕ → StreamFault → Type 0
IsStreamFault version root bytes (stream.Check fault) = (fault ≡ Memory) ⊎ ((fault ≡ Read) ⊎
    IsFlawOf version bytes (header_fault header_tests bytes) fault)
IsStreamFault version root bytes stream.Version = (header_fault header_tests bytes ≡ None) ×
    (version_of (slice_index bytes 4) ≢ version)
IsStreamFault version root bytes stream.OtherRoot = HasOtherRoot version root bytes

-- Whether bytes are the file of the tree of this version and root.
abbrev pub IsRootVerdict : Version → List ℕ → List ℕ → Result RootReport StreamFault → Type 0
IsRootVerdict version root bytes result = MatchResult result (IsFileOfRoot version root bytes)
    (IsStreamFault version root bytes)

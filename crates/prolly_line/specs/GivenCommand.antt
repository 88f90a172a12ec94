-- Which command the words give, and how they are refused.
use Rattle.std.specs.Prelude.{◌≡◌, ◌≢◌, ◌≤◌, ◌↔◌, Bool, true, false, IsTrue, ⊤, ℕ, ◌⊎◌}
use Rattle.std.specs.Prelude.{Option, Some, None, List, [], ◌∷◌, IfSome}
use Rattle.std.specs.Prelude.{length, map, option_map, string_bytes, codes, unwrap_or}
use Rattle.std.specs.Global.{Vec}
use Rattle.std.specs.Str.Parse.{digits_value, without_leading_plus}
use Rattle.clap.specs.Words.{IsAmong, Row, Text, all_of, first_of, one_of}
use Rattle.clap.specs.declared.error.kind.ErrorKind.{ErrorKind}
use Rattle.clap.specs.declared.error.kind.ErrorKind.TheVariants.{DisplayHelp, DisplayVersion}
use Rattle.clap.specs.declared.error.kind.ErrorKind.TheVariants.{OutOfMemory}
use Rattle.prolly_entry.specs.Reference.{IsReference, reference_text}
use Rattle.prolly_entry.specs.declared.reference.Ref.{Ref}
use Rattle.prolly_text.specs.Notations.{IsWritten}
use Rattle.prolly_text.specs.declared.notation.Notation.{Notation}
use Rattle.prolly_text.specs.declared.notation.Notation.TheVariants.{Hex, Text as AsText}
use Rattle.prolly_line.specs.Line.{line_faults, line_given}
use Rattle.prolly_line.specs.declared.command.Command.{Command}
use Rattle.prolly_line.specs.declared.write_mode.WriteMode.{WriteMode}
use Rattle.prolly_line.specs.declared.command.Command.TheVariants.{Pack, PackSorted, Scratch, Build}
use Rattle.prolly_line.specs.declared.command.Command.TheVariants.{Apply, Explain, ExplainLines}
use Rattle.prolly_line.specs.declared.command.Command.TheVariants.{Check, CheckFiles, Root, Stat}
use Rattle.prolly_line.specs.declared.command.Command.TheVariants.{Get, GetKeys, Scan, Nth, Dump, Diff}
use Rattle.prolly_line.specs.declared.command.Command.TheVariants.{Prove, Verify}
use Rattle.prolly_line.specs.declared.sought.Sought.{Sought}
use Rattle.prolly_line.specs.declared.sought.Sought.TheVariants.{Key, Keys, Range}
use Rattle.prolly_line.specs.declared.parse_fault.ParseFault.{ParseFault}
use Rattle.prolly_line.specs.declared.root_pair.RootPair.{RootPair}
use Rattle.prolly_line.specs.declared.parse_fault.ParseFault.TheVariants.{Memory, Usage, Help}
use Rattle.prolly_line.specs.declared.parse_fault.ParseFault.TheVariants.{BadRoot, LoneRoot, BadKey}
use Rattle.prolly_line.specs.declared.parse_fault.ParseFault.TheVariants.{BadTextKey}

-- ---- what the rows of a subcommand give

-- the number that a text writes in decimal
abbrev pub decimal_of : Text → ℕ
decimal_of text = digits_value 10 (without_leading_plus text)

-- the number under a name, where the words or its default give one
abbrev pub number_given : Text → List Row → Option ℕ
number_given name rows = option_map decimal_of (one_of name rows)

-- the number under a name, which lies from least to most
abbrev pub GivesNumber : List Row → Text → ℕ → ℕ → ℕ → Type 0
GivesNumber rows name least most n = (number_given name rows ≡ Some n) × (least ≤ n) × (n ≤ most)

-- the number under a name, which lies from least to most, or none where the words have none
abbrev pub MayGiveNumber : List Row → Text → ℕ → ℕ → Option ℕ → Type 0
MayGiveNumber rows name least most None = number_given name rows ≡ None
MayGiveNumber rows name least most (Some n) = GivesNumber rows name least most n

-- the number under a name, which lies from least to most, or a default where the words have none
abbrev pub GivesNumberOr : List Row → Text → ℕ → ℕ → ℕ → ℕ → Type 0
GivesNumberOr rows name least most default n =
    (given : Option ℕ) × MayGiveNumber rows name least most given × (n ≡ unwrap_or given default)

-- the bits by which a tree is cut: 12 where the words have no `--bits`
abbrev pub GivesBits : List Row → ℕ → Type 0
GivesBits rows bits = GivesNumberOr rows (codes "bits") 0 24 12 bits

-- the bytes that a chunk is to have, or none where the words have no `--chunk-bytes`
abbrev pub MayGiveChunkBytes : List Row → Option ℕ → Type 0
MayGiveChunkBytes rows bytes = MayGiveNumber rows (codes "chunk-bytes") 1 1073741824 bytes

-- the word under a name, as it stands
abbrev pub GivesWord : List Row → Text → Text → Type 0
GivesWord rows name word = first_of name rows ≡ Some word

-- the word under a name, as it stands, or none where the words have none
abbrev pub GivesOption : List Row → Text → Option Text → Type 0
GivesOption rows name word = first_of name rows ≡ word

-- all the words under a name, as they stand and in order
abbrev pub GivesWords : List Row → Text → List Text → Type 0
GivesWords rows name words = unwrap_or (all_of name rows) [] ≡ words

-- the words have the flag of this name: the row of a flag has `true` then, and else `false`
abbrev pub HasFlag : List Row → Text → Type 0
HasFlag rows name = first_of name rows ≡ Some (codes "true")

-- a choice is on where the words have the flag of this name
abbrev pub GivesFlag : List Row → Text → Bool → Type 0
GivesFlag rows name on = IsTrue on ↔ HasFlag rows name

-- an output is written in this mode: each part of it is on where the words have its flag
abbrev pub GivesMode : List Row → WriteMode → Type 0
GivesMode rows mode =
    GivesFlag rows (codes "atomic") mode.atomic
    × GivesFlag rows (codes "sync") mode.sync
    × GivesFlag rows (codes "force") mode.force

-- keys and values are in this notation: as text where the words have `--text`, and else in
-- hexadecimal
abbrev pub GivesNotation : List Row → Notation → Type 0
GivesNotation rows Hex = GivesFlag rows (codes "text") false
GivesNotation rows AsText = GivesFlag rows (codes "text") true

-- what is dumped are lines in this notation, or a record file where there is none: lines as text
-- where the words have `--text`, and else in hexadecimal where they have `--hex`
abbrev pub GivesLines : List Row → Option Notation → Type 0
GivesLines rows (Some AsText) = GivesNotation rows AsText
GivesLines rows (Some Hex) = GivesNotation rows Hex × GivesFlag rows (codes "hex") true
GivesLines rows None = GivesNotation rows Hex × GivesFlag rows (codes "hex") false

-- the text writes a key, of at most 1,024 bytes, in the notation
abbrev pub IsKeyText : Notation → Text → List ℕ → Type 0
IsKeyText notation text key = IsWritten notation text key × (length key ≤ 1024)

-- the notation, and the bytes that the word under a name writes in it
abbrev pub GivesKeyAs : Text → List Row → Notation → List ℕ → Type 0
GivesKeyAs name rows notation key =
    GivesNotation rows notation
    × ((text : Text) × (first_of name rows ≡ Some text) × IsKeyText notation text key)

-- the notation, and the bytes that the word for the key writes in it
abbrev pub GivesKey : List Row → Notation → List ℕ → Type 0
GivesKey rows notation key = GivesKeyAs (codes "key") rows notation key

-- the same of a key that may be missing: there is none where there is no word for it
abbrev pub MayGiveKeyAs : Text → List Row → Notation → Option (Vec ℕ) → Type 0
MayGiveKeyAs name rows notation None = first_of name rows ≡ None
MayGiveKeyAs name rows notation (Some key) = GivesKeyAs name rows notation key.items

-- the word under a name is no text of a key in this notation, which the words give
abbrev pub GivesBadKeyAs : Text → List Row → Notation → Type 0
GivesBadKeyAs name rows notation =
    GivesNotation rows notation
    × ((text : Text) × (first_of name rows ≡ Some text)
    × ((key : List ℕ) → IsKeyText notation text key → ⊥))

-- the same of the word for the key
abbrev pub GivesBadKey : List Row → Notation → Type 0
GivesBadKey rows notation = GivesBadKeyAs (codes "key") rows notation

-- no word stands under a name
abbrev pub HasNone : Text → List Row → Type 0
HasNone name rows = first_of name rows ≡ None

-- a word stands under a name
abbrev pub HasWord : Text → List Row → Type 0
HasWord name rows = (text : Text) × (first_of name rows ≡ Some text)

-- a range, or a list of keys, stands in the place of a key
abbrev pub HasSet : List Row → Type 0
HasSet rows = HasWord (codes "from") rows ⊎ HasWord (codes "keys") rows

-- what is sought: the keys of the file that `--keys` names; without it the range from the key that
-- `--from` gives to the one that `--to` gives, or without an end where there is no `--to`; and the key,
-- where there is neither
abbrev pub GivesSought : List Row → Notation → Sought → Type 0
GivesSought rows notation (Key key) = HasNone (codes "keys") rows × HasNone (codes "from") rows
    × GivesKey rows notation key.items
GivesSought rows notation (Range from to) = HasNone (codes "keys") rows
    × GivesKeyAs (codes "from") rows notation from.items
    × MayGiveKeyAs (codes "to") rows notation to
GivesSought rows notation (Keys keys) =
    GivesWord rows (codes "keys") (string_bytes keys) × GivesNotation rows notation

-- the name under which the last word stands: it stands behind a key, and in the place of the key where
-- a range or a list of keys is sought
abbrev pub place_of_last : Sought → Text → Text
place_of_last (Key key) last = last
place_of_last (Range from to) last = codes "key"
place_of_last (Keys keys) last = codes "key"

-- the last word, and where there is no key there is none behind it
abbrev pub GivesLast : Sought → Text → List Row → Option Text → Type 0
GivesLast sought last rows word =
    GivesOption rows (place_of_last sought last) word × (HasSet rows → HasNone last rows)

-- one of the keys of a range is no text of a key in this notation, which the words give; the end of
-- the range only where the other one is
abbrev pub GivesBadRange : List Row → Notation → Type 0
GivesBadRange rows notation = GivesBadKeyAs (codes "from") rows notation
    ⊎ (((from : List ℕ) × GivesKeyAs (codes "from") rows notation from)
    × GivesBadKeyAs (codes "to") rows notation)

-- the words do not fit where a key, a range or a list of keys is sought, and behind a key stands a word
-- that goes by the name `last`, which may be needed: there is no key, no `--from` and no `--keys`, or a
-- `--to` without a `--from`; or the last word is missing; or where there is no key there is a word too
-- many; or there is a range beside `--keys`
abbrev pub AreMisfit : Text → Bool → List Row → Type 0
AreMisfit last needs_last rows =
    ((HasNone (codes "keys") rows × HasNone (codes "from") rows)
    × (HasWord (codes "to") rows ⊎ HasNone (codes "key") rows
    ⊎ ((needs_last ≡ true) × HasNone last rows)))
    ⊎ (HasSet rows × (HasWord last rows ⊎ ((needs_last ≡ true) × HasNone (codes "key") rows)))
    ⊎ (HasWord (codes "keys") rows × (HasWord (codes "from") rows ⊎ HasWord (codes "to") rows))

-- the words do not fit where a key or a list of keys is sought, and no word stands behind the key: there
-- is neither, or there is a list and beside it a key or `--raw`
abbrev pub IsMisfitKey : List Row → Type 0
IsMisfitKey rows = (HasNone (codes "keys") rows × HasNone (codes "key") rows)
    ⊎ (HasWord (codes "keys") rows
    × (HasWord (codes "key") rows ⊎ GivesFlag rows (codes "raw") true))

-- the words do not fit where lines are packed: there is no `--sort`, and what needs it is there
abbrev pub IsMisfitSort : List Row → Type 0
IsMisfitSort rows = GivesFlag rows (codes "sort") false
    × (GivesFlag rows (codes "unique") true ⊎ HasWord (codes "memory") rows)

-- the words do not fit where a file or lines are explained: with `--lines` there is a file, or without
-- it there is none, or there is what needs `--lines`
abbrev pub IsMisfitLines : List Row → Type 0
IsMisfitLines rows = (GivesFlag rows (codes "lines") true × HasWord (codes "file") rows)
    ⊎ (GivesFlag rows (codes "lines") false × (HasNone (codes "file") rows
    ⊎ GivesFlag rows (codes "removals") true ⊎ GivesFlag rows (codes "all") true))

-- the words do not fit where a tree is cut: they have the bits, and what is to tell the bits
abbrev pub IsMisfitCut : List Row → Type 0
IsMisfitCut rows = HasWord (codes "bits") rows × HasWord (codes "chunk-bytes") rows

-- how a bad word for a key is told
abbrev pub bad_key : Notation → ParseFault
bad_key Hex = BadKey
bad_key AsText = BadTextKey

-- the reference of which the word under a name is the text
abbrev pub GivesRootAs : Text → List Row → List ℕ → Type 0
GivesRootAs name rows root = GivesWord rows name (reference_text root) × IsReference root

-- the reference of which the word for the root is the text
abbrev pub GivesRoot : List Row → List ℕ → Type 0
GivesRoot rows root = GivesRootAs (codes "root") rows root

-- the same of a root that may be missing: there is none where the words have no word for it
abbrev pub MayGiveRoot : List Row → Option Ref → Type 0
MayGiveRoot rows None = first_of (codes "root") rows ≡ None
MayGiveRoot rows (Some root) = GivesRoot rows root.0

-- what a look-up trusts: with `--root` the reference that this gives, and not the file, whose
-- chunks are to be of the version that `--format` gives; without it the file, which is then to be
-- checked, and whose own version counts
abbrev pub GivesTrust : List Row → Option Ref → ℕ → Type 0
GivesTrust rows root version =
    MayGiveRoot rows root × GivesNumber rows (codes "format") 1 2 version

-- the word under a name is the text of no reference
abbrev pub GivesBadRootAs : Text → List Row → Type 0
GivesBadRootAs name rows =
    (text : Text) × (first_of name rows ≡ Some text) ×
    ((root : List ℕ) → IsReference root → reference_text root ≢ text)

-- the word for the root is the text of no reference
abbrev pub GivesBadRoot : List Row → Type 0
GivesBadRoot rows = GivesBadRootAs (codes "root") rows

-- a word stands under the one name, and none under the other
abbrev pub HasOnly : Text → Text → List Row → Type 0
HasOnly name other rows =
    ((text : Text) × (first_of name rows ≡ Some text)) × (first_of other rows ≡ None)

-- the roots of two trees, the old one and the new one, or none where the words have neither
abbrev pub MayGiveRoots : List Row → Option RootPair → Type 0
MayGiveRoots rows None =
    (first_of (codes "old-root") rows ≡ None) × (first_of (codes "new-root") rows ≡ None)
MayGiveRoots rows (Some roots) = GivesRootAs (codes "old-root") rows roots.old.0
    × GivesRootAs (codes "new-root") rows roots.new.0

-- one of the two roots is given without the other
abbrev pub GivesLoneRoot : List Row → Type 0
GivesLoneRoot rows = HasOnly (codes "old-root") (codes "new-root") rows
    ⊎ HasOnly (codes "new-root") (codes "old-root") rows

-- one of the two words for roots is the text of no reference, and the other word is there
abbrev pub GivesBadPair : List Row → Type 0
GivesBadPair rows = (GivesLoneRoot rows → ⊥)
    × (GivesBadRootAs (codes "old-root") rows ⊎ GivesBadRootAs (codes "new-root") rows)

-- ---- the command

-- the command has the fields that a subcommand, by its name, and its rows give
abbrev pub HasFields : Command → Text × List Row → Type 0
HasFields (Pack out notation removals mode) given =
    (given.0 ≡ codes "pack")
    × GivesWord given.1 (codes "out") (string_bytes out)
    × GivesNotation given.1 notation
    × GivesFlag given.1 (codes "removals") removals
    × GivesMode given.1 mode
    × GivesFlag given.1 (codes "sort") false
    × GivesFlag given.1 (codes "unique") false
    × HasNone (codes "memory") given.1
HasFields (PackSorted out notation removals unique memory mode) given =
    (given.0 ≡ codes "pack")
    × GivesWord given.1 (codes "out") (string_bytes out)
    × GivesNotation given.1 notation
    × GivesFlag given.1 (codes "removals") removals
    × GivesFlag given.1 (codes "sort") true
    × GivesFlag given.1 (codes "unique") unique
    × GivesNumberOr given.1 (codes "memory") 16 4000 256 memory
    × GivesMode given.1 mode
HasFields (Scratch bits chunk_bytes version out mode) given =
    (given.0 ≡ codes "scratch")
    × GivesBits given.1 bits
    × MayGiveChunkBytes given.1 chunk_bytes
    × (HasWord (codes "chunk-bytes") given.1 → HasNone (codes "bits") given.1)
    × GivesNumber given.1 (codes "format") 1 2 version
    × GivesOption given.1 (codes "out") (option_map string_bytes out)
    × GivesMode given.1 mode
HasFields (Build bits chunk_bytes stages capacity max_records batch version out files quiet mode)
    given =
    (given.0 ≡ codes "build")
    × GivesBits given.1 bits
    × MayGiveChunkBytes given.1 chunk_bytes
    × (HasWord (codes "chunk-bytes") given.1 → HasNone (codes "bits") given.1)
    × GivesNumber given.1 (codes "stages") 1 12 stages
    × GivesNumber given.1 (codes "capacity") 1 4096 capacity
    × GivesNumber given.1 (codes "max-records") 1 16777216 max_records
    × GivesNumber given.1 (codes "batch") 1 1024 batch
    × GivesNumber given.1 (codes "format") 1 2 version
    × GivesWord given.1 (codes "out") (string_bytes out)
    × GivesWords given.1 (codes "files") (map string_bytes files.items)
    × GivesFlag given.1 (codes "quiet") quiet
    × GivesMode given.1 mode
HasFields (Apply root bits version old out changes quiet mode) given =
    (given.0 ≡ codes "apply")
    × GivesRoot given.1 root.0
    × MayGiveNumber given.1 (codes "bits") 0 24 bits
    × MayGiveNumber given.1 (codes "format") 1 2 version
    × GivesWord given.1 (codes "old") (string_bytes old)
    × GivesWord given.1 (codes "out") (string_bytes out)
    × GivesWords given.1 (codes "changes") (map string_bytes changes.items)
    × GivesFlag given.1 (codes "quiet") quiet
    × GivesMode given.1 mode
HasFields (Explain file notation) given =
    (given.0 ≡ codes "explain")
    × GivesWord given.1 (codes "file") (string_bytes file)
    × GivesNotation given.1 notation
    × GivesFlag given.1 (codes "lines") false
    × GivesFlag given.1 (codes "removals") false
    × GivesFlag given.1 (codes "all") false
HasFields (ExplainLines notation removals all) given =
    (given.0 ≡ codes "explain")
    × GivesFlag given.1 (codes "lines") true
    × HasNone (codes "file") given.1
    × GivesNotation given.1 notation
    × GivesFlag given.1 (codes "removals") removals
    × GivesFlag given.1 (codes "all") all
HasFields (Check file root version) given =
    (given.0 ≡ codes "check")
    × GivesWords given.1 (codes "file") (string_bytes file ∷ [])
    × GivesTrust given.1 root version
    × GivesFlag given.1 (codes "quiet") false
HasFields (CheckFiles files root version quiet) given =
    (given.0 ≡ codes "check")
    × GivesWords given.1 (codes "file") (map string_bytes files.items)
    × GivesTrust given.1 root version
    × GivesFlag given.1 (codes "quiet") quiet
    × (1 ≤ length files.items)
    × (quiet ≡ false → 2 ≤ length files.items)
HasFields (Root file) given =
    (given.0 ≡ codes "root")
    × GivesWord given.1 (codes "file") (string_bytes file)
HasFields (Stat file json notation) given =
    (given.0 ≡ codes "stat")
    × GivesWord given.1 (codes "file") (string_bytes file)
    × GivesFlag given.1 (codes "json") json
    × GivesNotation given.1 notation
HasFields (Get file key root version notation raw) given =
    (given.0 ≡ codes "get")
    × GivesWord given.1 (codes "file") (string_bytes file)
    × HasNone (codes "keys") given.1
    × GivesKey given.1 notation key.items
    × GivesTrust given.1 root version
    × GivesFlag given.1 (codes "raw") raw
HasFields (GetKeys file keys root version notation) given =
    (given.0 ≡ codes "get")
    × GivesWord given.1 (codes "file") (string_bytes file)
    × GivesWord given.1 (codes "keys") (string_bytes keys)
    × HasNone (codes "key") given.1
    × GivesNotation given.1 notation
    × GivesTrust given.1 root version
    × GivesFlag given.1 (codes "raw") false
HasFields (Scan file from limit root version notation) given =
    (given.0 ≡ codes "scan")
    × GivesWord given.1 (codes "file") (string_bytes file)
    × GivesKey given.1 notation from.items
    × GivesNumber given.1 (codes "limit") 0 1000000 limit
    × GivesTrust given.1 root version
HasFields (Nth file n root version notation) given =
    (given.0 ≡ codes "nth")
    × GivesWord given.1 (codes "file") (string_bytes file)
    × GivesNumber given.1 (codes "n") 0 4294967295 n
    × GivesTrust given.1 root version
    × GivesNotation given.1 notation
HasFields (Dump file root version out lines mode) given =
    (given.0 ≡ codes "dump")
    × GivesWord given.1 (codes "file") (string_bytes file)
    × GivesTrust given.1 root version
    × GivesOption given.1 (codes "out") (option_map string_bytes out)
    × GivesLines given.1 lines
    × GivesMode given.1 mode
HasFields (Diff old new roots version out stat notation mode) given =
    (given.0 ≡ codes "diff")
    × GivesWord given.1 (codes "old") (string_bytes old)
    × GivesWord given.1 (codes "new") (string_bytes new)
    × MayGiveRoots given.1 roots
    × GivesNumber given.1 (codes "format") 1 2 version
    × GivesOption given.1 (codes "out") (option_map string_bytes out)
    × GivesFlag given.1 (codes "stat") stat
    × GivesNotation given.1 notation
    × GivesMode given.1 mode
HasFields (Prove file sought root version out notation mode) given =
    (given.0 ≡ codes "prove")
    × GivesWord given.1 (codes "file") (string_bytes file)
    × GivesSought given.1 notation sought
    × GivesTrust given.1 root version
    × GivesLast sought (codes "out") given.1 (Some (string_bytes out))
    × GivesMode given.1 mode
HasFields (Verify root sought version proof notation) given =
    (given.0 ≡ codes "verify")
    × GivesRoot given.1 root.0
    × GivesSought given.1 notation sought
    × GivesNumber given.1 (codes "format") 1 2 version
    × GivesLast sought (codes "proof") given.1 (option_map string_bytes proof)

-- the words of the subcommand do not fit: of one that takes a key, or a set of keys in its place; of
-- `pack`, of `explain`, or of one that makes a tree of records
abbrev pub HasMisfit : Text × List Row → Type 0
HasMisfit given = ((given.0 ≡ codes "prove") × AreMisfit (codes "out") true given.1)
    ⊎ ((given.0 ≡ codes "verify") × AreMisfit (codes "proof") false given.1)
    ⊎ ((given.0 ≡ codes "get") × IsMisfitKey given.1)
    ⊎ ((given.0 ≡ codes "pack") × IsMisfitSort given.1)
    ⊎ ((given.0 ≡ codes "explain") × IsMisfitLines given.1)
    ⊎ (((given.0 ≡ codes "scratch") ⊎ (given.0 ≡ codes "build")) × IsMisfitCut given.1)

-- clap takes the words, they fit, and this holds of the subcommand that they give, and of its rows
abbrev pub DoGive : List Text → (Text × List Row → Type 0) → Type 0
DoGive words Holds =
    (line_faults words ≡ [])
    × ((given : Text × List Row) × (line_given words ≡ Some given) × (HasMisfit given → ⊥)
    × Holds given)

-- the words give this command
abbrev pub IsGivenBy : List Text → Command → Type 0
IsGivenBy words command = DoGive words (HasFields command)

-- a root that may be missing is a reference, and the version one of the two
abbrev pub IsLawfulTrust : Option Ref → ℕ → Type 0
IsLawfulTrust root version =
    IfSome root (λ root. IsReference root.0) × (1 ≤ version) × (version ≤ 2)

-- roots that may be missing are references
abbrev pub AreLawfulRoots : Option RootPair → Type 0
AreLawfulRoots roots = IfSome roots (λ roots. IsReference roots.old.0 × IsReference roots.new.0)

-- the bytes that a chunk is to have, which may be missing, are within their limits
abbrev pub AreLawfulBytes : Option ℕ → Type 0
AreLawfulBytes bytes = IfSome bytes (λ bytes. (1 ≤ bytes) × (bytes ≤ 1073741824))

-- the keys that are sought are not too long
abbrev pub IsLawfulSought : Sought → Type 0
IsLawfulSought (Key key) = length key.items ≤ 1024
IsLawfulSought (Range from to) =
    (length from.items ≤ 1024) × IfSome to (λ to. length to.items ≤ 1024)
IsLawfulSought (Keys keys) = ⊤

-- the numbers of the command, and the lengths of its keys, are within their limits, and its root is
-- a reference
abbrev pub IsWithinLimits : Command → Type 0
IsWithinLimits (Pack out notation removals mode) = ⊤
IsWithinLimits (PackSorted out notation removals unique memory mode) =
    (16 ≤ memory) × (memory ≤ 4000)
IsWithinLimits (Scratch bits chunk_bytes version out mode) =
    (bits ≤ 24) × AreLawfulBytes chunk_bytes × (1 ≤ version) × (version ≤ 2)
IsWithinLimits
    (Build bits chunk_bytes stages capacity max_records batch version out files quiet mode) =
    (bits ≤ 24)
    × AreLawfulBytes chunk_bytes
    × (1 ≤ stages) × (stages ≤ 12)
    × (1 ≤ capacity) × (capacity ≤ 4096)
    × (1 ≤ max_records) × (max_records ≤ 16777216)
    × (1 ≤ batch) × (batch ≤ 1024)
    × (1 ≤ version) × (version ≤ 2)
IsWithinLimits (Apply root bits version old out changes quiet mode) =
    IsReference root.0
    × IfSome bits (λ bits. bits ≤ 24)
    × IfSome version (λ version. (1 ≤ version) × (version ≤ 2))
IsWithinLimits (Explain file notation) = ⊤
IsWithinLimits (ExplainLines notation removals all) = ⊤
IsWithinLimits (Check file root version) = IsLawfulTrust root version
IsWithinLimits (CheckFiles files root version quiet) = IsLawfulTrust root version
IsWithinLimits (Root file) = ⊤
IsWithinLimits (Stat file json notation) = ⊤
IsWithinLimits (Get file key root version notation raw) =
    (length key.items ≤ 1024) × IsLawfulTrust root version
IsWithinLimits (GetKeys file keys root version notation) = IsLawfulTrust root version
IsWithinLimits (Scan file from limit root version notation) =
    (length from.items ≤ 1024) × (limit ≤ 1000000) × IsLawfulTrust root version
IsWithinLimits (Nth file n root version notation) =
    (n ≤ 4294967295) × IsLawfulTrust root version
IsWithinLimits (Dump file root version out lines mode) = IsLawfulTrust root version
IsWithinLimits (Diff old new roots version out stat notation mode) =
    AreLawfulRoots roots × (1 ≤ version) × (version ≤ 2)
IsWithinLimits (Prove file sought root version out notation mode) =
    IsLawfulSought sought × IsLawfulTrust root version
IsWithinLimits (Verify root sought version proof notation) =
    IsReference root.0 × IsLawfulSought sought × (1 ≤ version) × (version ≤ 2)

-- ---- refusals

-- the subcommand reads a chunk file, and may be given a root
abbrev pub MayTakeRoot : Text → Type 0
MayTakeRoot name = (name ≡ codes "get") ⊎ (name ≡ codes "scan") ⊎ (name ≡ codes "nth")
    ⊎ (name ≡ codes "prove") ⊎ (name ≡ codes "dump") ⊎ (name ≡ codes "check")

-- the subcommand takes a root, or may be given one
abbrev pub TakesRoot : Text → Type 0
TakesRoot name = MayTakeRoot name ⊎ (name ≡ codes "verify") ⊎ (name ≡ codes "apply")

-- the subcommand takes a root, or two of them, and a word for one is the text of no reference
abbrev pub HasBadRoot : Text × List Row → Type 0
HasBadRoot given = (TakesRoot given.0 × GivesBadRoot given.1)
    ⊎ ((given.0 ≡ codes "diff") × GivesBadPair given.1)

-- the subcommand takes two roots, and is given one of them alone
abbrev pub HasLoneRoot : Text × List Row → Type 0
HasLoneRoot given = (given.0 ≡ codes "diff") × GivesLoneRoot given.1

-- the subcommand takes a key, and a root before it only if its word is the text of a reference
abbrev pub ReadsKey : Text × List Row → Type 0
ReadsKey given = ((given.0 ≡ codes "get") ⊎ (given.0 ≡ codes "scan"))
    × ((root : Option Ref) × MayGiveRoot given.1 root)

-- the same of one that takes a key, a range or a list of keys
abbrev pub ReadsSought : Text × List Row → Type 0
ReadsSought given =
    ((given.0 ≡ codes "prove") × ((root : Option Ref) × MayGiveRoot given.1 root))
    ⊎ ((given.0 ≡ codes "verify") × ((root : List ℕ) × GivesRoot given.1 root))

-- the word for the key is no text of one where there is no `--from`, or one of those for the keys of
-- a range; and there is no `--keys`
abbrev pub GivesBadSought : List Row → Notation → Type 0
GivesBadSought rows notation = HasNone (codes "keys") rows
    × ((HasNone (codes "from") rows × GivesBadKey rows notation) ⊎ GivesBadRange rows notation)

-- the subcommand takes a key, a word for a key is no text of one, and no word before is bad
abbrev pub HasBadKey : Text × List Row → Notation → Type 0
HasBadKey given notation = (ReadsKey given × GivesBadKey given.1 notation)
    ⊎ (ReadsSought given × GivesBadSought given.1 notation)

-- an error of clap's of this kind is what the words ask for: help, or the version
abbrev pub IsAskedFor : ErrorKind → Type 0
IsAskedFor kind = (kind ≡ DisplayHelp) ⊎ (kind ≡ DisplayVersion)

-- the words are refused in this way; memory may run out at any words
abbrev pub IsRefusedBy : List Text → ParseFault → Type 0
IsRefusedBy words Memory = ⊤
IsRefusedBy words (Usage text) =
    ((kind : ErrorKind) × IsAmong kind (line_faults words) × (IsAskedFor kind → ⊥))
    ⊎ ((line_faults words ≡ [])
    × ((given : Text × List Row) × (line_given words ≡ Some given) × HasMisfit given))
IsRefusedBy words (Help text) =
    (kind : ErrorKind) × IsAmong kind (line_faults words) × IsAskedFor kind
IsRefusedBy words BadRoot = DoGive words HasBadRoot
IsRefusedBy words LoneRoot = DoGive words HasLoneRoot
IsRefusedBy words BadKey = DoGive words (λ given. HasBadKey given Hex)
IsRefusedBy words BadTextKey = DoGive words (λ given. HasBadKey given AsText)

-- the fault is that of words which do not fit, told as clap does; memory may run out
abbrev pub IsWordFault : ParseFault → Type 0
IsWordFault Memory = ⊤
IsWordFault (Usage text) = ⊤
IsWordFault _ = ⊥

-- an error of clap's of this kind comes to this fault
abbrev pub IsRefusalOf : ErrorKind → ParseFault → Type 0
IsRefusalOf kind Memory = ⊤
IsRefusalOf kind (Usage text) = (kind ≢ OutOfMemory) × (IsAskedFor kind → ⊥)
IsRefusalOf kind (Help text) = IsAskedFor kind
IsRefusalOf kind BadRoot = ⊥
IsRefusalOf kind LoneRoot = ⊥
IsRefusalOf kind BadKey = ⊥
IsRefusalOf kind BadTextKey = ⊥

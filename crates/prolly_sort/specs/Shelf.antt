-- Runs that wait in files, and what they hold.
use Rattle.std.specs.Prelude.{◌≡◌, ◌≤◌, ℕ, true, List, [], ◌∷◌, ◌++◌, length, min, Option, Some, None}
use Rattle.std.specs.Prelude.{Bool, is_some, map, option_map}
use Rattle.std.specs.Global.{Vec}
use Rattle.std.specs.List.{AllByRecursion, flat_map}
use Rattle.prolly_entry.specs.Position.{Position, last_position}
use Rattle.prolly_entry.specs.Keys.{Rising}
use Rattle.prolly_entry.specs.Record.{IsRecord, Record, keys_of}
use Rattle.prolly_io.specs.Sink.{IsSettled, SinkView}
use Rattle.prolly_io.specs.Source.{SourceView}
use Rattle.prolly_load.specs.Reader.{Reading, new_reading}
use Rattle.prolly_merge.specs.Each.{Each}
use Rattle.prolly_sort.specs.declared.key_rule.KeyRule.{KeyRule}
use Rattle.prolly_sort.specs.declared.key_rule.KeyRule.TheVariants.{Unique}
use Rattle.prolly_sort.specs.declared.open_run.OpenRun.{OpenRun}
use Rattle.prolly_sort.specs.declared.pile.Pile.{Pile}
use Rattle.prolly_sort.specs.declared.shelf.Shelf.{Shelf}
use Rattle.prolly_sort.specs.declared.sorted_file.SortedFile.{SortedFile}
use Rattle.prolly_sort.specs.declared.sorter.Sorter.{Sorter}
use Rattle.prolly_sort.specs.declared.stored_runs.StoredRun.{StoredRun}
use Rattle.prolly_sort.specs.Overlaid.{overlaid, written}
use Rattle.prolly_sort.specs.Told.{Obeys, numbered}

-- The first key of records, or before all keys where there is none.
abbrev pub first_position : List Record → Position
first_position [] = None
first_position (r ∷ rs) = Some r.key

-- The position of the end of records that stand behind one.
abbrev pub position_behind : Position → List Record → Position
position_behind position [] = position
position_behind position (r ∷ rs) = last_position (r ∷ rs)

-- The bytes of a key, where there is one.
abbrev pub key_bytes : Option (Vec ℕ) → Option (List ℕ)
key_bytes key = option_map (λ bytes. bytes.items) key

-- The number of records, or the greatest number that a count has where there are more.
abbrev pub counted : List Record → ℕ
counted records = min (length records) 0xFFFF_FFFF_FFFF_FFFF

module _ {W : Type 0} (seen : W → SinkView) where
  -- The file is the record file of these records, and it is told how many they are.
  pub record HoldsIn (file : W) (len : ℕ) (records : List Record) : Type 0 where
    pub keeping : (seen file).is_keeping ≡ true
    pub taken : (seen file).taken ≡ written records
    pub len_is : len ≡ counted records

  -- The file is the record file of what the records that came come to: nothing of it is held back,
  -- and it is told how many these are.
  pub record IsSortedFile (sorted : SortedFile W) (came : List Record) : Type 0 where
    pub holds : HoldsIn sorted.file sorted.len (overlaid came)
    pub settled : IsSettled (seen sorted.file)

  -- The file is the record file of what the records that came come to, and these obey the rule.
  abbrev pub IsRunFile : KeyRule → SortedFile W → List Record → Type 0
  IsRunFile rule sorted came = IsSortedFile sorted came × Obeys rule came

  module _ (rule : KeyRule) where
    -- The file that is written has what the records that came come to, and its last key is told.
    pub record HoldsOpen (run : OpenRun W) (came : List Record) : Type 0 where
      pub holds : HoldsIn run.file run.len (overlaid came)
      pub last_is : key_bytes run.last_key ≡ last_position (overlaid came)
      pub obeys : Obeys rule came

    -- The file that is written holds the records that came, and was flushed; or there is none of
    -- either.
    abbrev pub HoldsIfOpen : Option (OpenRun W) → List Record → Type 0
    HoldsIfOpen None came = came ≡ []
    HoldsIfOpen (Some run) came = HoldsOpen run came × IsSettled (seen run.file)

module _ {S : Type 0} (seen : S → SourceView) where
  -- Readers of these files, which have given nothing yet.
  abbrev pub readings_of : List (StoredRun S) → List Reading
  readings_of runs = map (λ run. new_reading 0 0xFFFF_FFFF (seen run.file)) runs

  module _ (rule : KeyRule) where
    -- The file that is read back gives what the records that came come to, and these obey the rule.
    pub record GivesBack (run : StoredRun S) (came : List Record) : Type 0 where
      pub honest : (seen run.file).is_honest ≡ true
      pub left : (seen run.file).left ≡ written (overlaid came)
      pub few : length (overlaid came) ≤ 0xFFFF_FFFF
      pub obeys : Obeys rule came

    -- The files that are read back give the records that came: each a part, one after another.
    pub record AreStored (runs : List (StoredRun S)) (came : List Record) : Type 0 where
      pub parts : List (List Record)
      pub all : came ≡ flat_map (λ part. part) parts
      pub each : Each GivesBack runs parts

module _ {W S : Type 0} (seen_written : W → SinkView) (seen_read : S → SourceView) where
  -- The files hold the records that came: the first ones are in the files that are read back, and
  -- the others in the one that is written. Those of each file obey the rule.
  pub record HoldsAll (rule : KeyRule) (shelf : Shelf W S) (came : List Record) : Type 0 where
    pub first : List Record
    pub last : List Record
    pub all : came ≡ first ++ last
    pub lawful : AllByRecursion IsRecord came
    pub stored : AreStored seen_read rule shelf.stored.runs.items first
    pub open_is : HoldsIfOpen seen_written rule shelf.open last

  -- The records that came first are in files, and others go behind the run that was opened.
  pub record GoesBehind (rule : KeyRule) (shelf : Shelf W S) (run : OpenRun W)
      (came more : List Record) : Type 0 where
    pub first : List Record
    pub last : List Record
    pub all : came ≡ first ++ last
    pub lawful : AllByRecursion IsRecord came
    pub stored : AreStored seen_read rule shelf.stored.runs.items first
    pub run_is : HoldsOpen seen_written rule run last
    pub behind : Rising (keys_of (overlaid last ++ overlaid more))

  -- The records came to the pile: the first ones are in its files, and the others in memory. It is
  -- told how many came.
  pub record CameToPile (pile : Pile W S) (came : List Record) : Type 0 where
    pub first : List Record
    pub all : came ≡ first ++ pile.run.records
    pub lawful : AllByRecursion IsRecord came
    pub shelf : HoldsAll pile.rule pile.shelf first
    pub count_is : pile.count ≡ counted came

  -- The pile of numbers has the number of each record that came, where there is such a pile.
  abbrev pub AreCounted : Option (Pile W S) → List Record → Type 0
  AreCounted None came = Unit {0}
  AreCounted (Some numbers) came = (numbers.rule ≡ Unique) × CameToPile numbers (numbered 0 came)
      × (length came ≤ 0xFFFF_FFFF_FFFF_FFFF)

  -- The records came to the sorter.
  pub record CameTo (sorter : Sorter W S) (came : List Record) : Type 0 where
    pub records : CameToPile sorter.records came
    pub numbers : AreCounted sorter.numbers came

-- Whether each key is to come to the sorter once.
abbrev pub is_unique : {W S : Type 0} → Sorter W S → Bool
is_unique sorter = is_some sorter.numbers

-- What is said of a record that a run does not take, of records that have one key, and of runs that
-- can't wait or be merged. (This project's texts.)
use Rattle.std.specs.Prelude.{ℕ, List, ◌++◌, codes}
use Rattle.std.specs.Fmt.{decimal}
use Rattle.prolly_sort.specs.declared.fault.PushFault.{PushFault}
use Rattle.prolly_sort.specs.declared.fault.PushFault.TheVariants as pushes
use Rattle.prolly_sort.specs.declared.fault.SorterFault.{SorterFault}
use Rattle.prolly_sort.specs.declared.fault.SorterFault.TheVariants as sorters
use Rattle.prolly_sort.specs.declared.store.StoreFault.{StoreFault}
use Rattle.prolly_sort.specs.declared.store.StoreFault.TheVariants as stores

-- What is said of a record that is not taken.
abbrev pub push_text : PushFault → List ℕ
push_text pushes.Full = codes "run is full"
push_text pushes.Memory = codes "out of memory"

-- What is said of two records that have one key.
abbrev pub doubled_text : ℕ → ℕ → List ℕ
doubled_text first second = codes "records " ++ decimal first ++ codes " and " ++ decimal second ++
    codes " have one key"

-- What is said of runs that can't wait or be merged.
abbrev pub store_text : StoreFault → List ℕ
store_text stores.Memory = codes "out of memory"
store_text stores.Make = codes "a file for a run can't be made"
store_text stores.Write = codes "write failed"
store_text stores.Read = codes "the file of a run can't be read"
store_text stores.TooMany = codes "too many records"

-- What is said of a sorter that is not done.
abbrev pub sorter_text : SorterFault → List ℕ
sorter_text (sorters.Store fault) = store_text fault
sorter_text (sorters.Doubled first second) = doubled_text first second

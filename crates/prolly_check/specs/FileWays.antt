-- Look-ups in a file that was checked.
use Rattle.std.specs.List.{AllByRecursion}
use Rattle.std.specs.Prelude.{◌≡◌, ℕ, suc, ◌^◌, ◌<◌, List, length}
use Rattle.prolly_entry.specs.Reference.{reference_of}
use Rattle.prolly_entry.specs.declared.version.Version.{Version}
use Rattle.prolly_entry.specs.declared.version.Version.TheVariants.{Two}
use Rattle.prolly_tree.specs.Chunk.{IsIn}
use Rattle.prolly_tree.specs.Tree.{Tree, bytes_of, pairs_below}
use Rattle.prolly_look_up.specs.Content.{chunks_of, Content, root_bytes, nth_chunk}
use Rattle.prolly_look_up.specs.MapTree.{IsTreeOf}
use Rattle.prolly_look_up.specs.Kinds.{kind_of}
use Rattle.prolly_look_up.specs.Sought.{Sought, LeadsOn, sought_of}
use Rattle.prolly_look_up.specs.Sought.Sought.{Key, Number}
use Rattle.prolly_look_up.specs.Way.{IsNamed, IsWayTo, level_of}
use Rattle.prolly_check.specs.declared.look_up.descent.At.{At}

-- It can be sought in chunks of the version: only those of version Two have counts.
abbrev pub CanBeSought : Version → Sought → Type 0
CanBeSought version (Key key) = Unit {0}
CanBeSought version (Number n) = version ≡ Two

-- It is the top of a tree of the file, of fewer pairs than a number of eight bytes can tell.
pub record IsTop (content : Content) (number : ℕ) : Type 0 where
  pub within : number < length (chunks_of content)
  pub level : ℕ
  pub tree : Tree level
  pub is : nth_chunk content number ≡ bytes_of content.version level tree
  pub of : IsTreeOf content.version (chunks_of content) level tree
  pub few : length (pairs_below level tree) < 2 ^ 64

-- It can be read by its reference.
abbrev pub IsNamedAt : Content → ℕ → Type 0
IsNamedAt content number = IsNamed content.version (reference_of (nth_chunk content number))
    (nth_chunk content number)

-- A look-up goes on from the one chunk at the other, which stands one level below it.
pub record IsNextOnWay (content : Content) (at next : At) : Type 0 where
  pub leads : LeadsOn (sought_of at.sought) (kind_of content.version (nth_chunk content at.number))
      (reference_of (nth_chunk content next.number)) (sought_of next.sought)
  pub falls : level_of (nth_chunk content at.number) ≡
      suc (level_of (nth_chunk content next.number))
  pub top : IsTop content next.number
  pub counted : CanBeSought content.version (sought_of next.sought)

-- A look-up ends at the chunk of this number: some chunks of the file are its way, and this one is
-- the last of them.
pub record IsWayEnd (content : Content) (sought : Sought) (at : At) : Type 0 where
  pub chunks : List (List ℕ)
  pub inside : AllByRecursion (λ c. IsIn c (chunks_of content)) chunks
  pub way : IsWayTo content.version (reference_of (root_bytes content)) sought chunks
  pub within : at.number < length (chunks_of content)
  pub last : way.last ≡ nth_chunk content at.number
  pub there : way.there ≡ sought_of at.sought

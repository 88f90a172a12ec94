-- What a source over the frames of a file finds.
use Rattle.std.proofs.Common.{◌≡◌, ◌≤◌, ◌<◌, ◌^◌, ◌⊎◌, ℕ, ◌-◌, List, length, Some, None}
use Rattle.std.proofs.Common.{inl}
use Rattle.std.proofs.Common.{inr, Ok, refl, sym, subst}
use Rattle.prolly_look_up.specs.Content.{Content, IsFileOf}
use Rattle.prolly_look_up.specs.Way.{level_of}
use Rattle.prolly_entry.specs.declared.version.Version.{Version}
use Rattle.prolly_io.specs.Device.{DeviceView}
use Rattle.prolly_root.specs.ChunkFile.{ChunkFile, HoldsChunks, chunk_file, file_fault}
use Rattle.prolly_root.specs.ChunkFile.{frames_fault}
use Rattle.prolly_root.specs.ChunkFile.{header_or_version_fault, nth_in}
use Rattle.prolly_root.specs.ChunkSource.{FindsChild}
use Rattle.prolly_root.specs.RootFault.{OnlyRead}
use Rattle.prolly_root.specs.Subtree.{FindsNth, KeepsLastChild, StandsThere}
use Rattle.prolly_root.specs.Walk.{HoldsFile, IsBehind, IsNth}
use Rattle.prolly_root.specs.declared.file.subtree.Place.{Place}
use Rattle.prolly_root.specs.declared.file.subtree.Subtree.{Subtree}
use Rattle.prolly_root.specs.declared.root_fault.RootFault.{RootFault}
use Rattle.prolly_root.specs.Walk.{NoneBetween}
use Rattle.prolly_root.specs.lemmas.Levels.{behind_before}
use Rattle.prolly_root.specs.ChunkFile.{IsLawful, fault_behind}
use Rattle.std.proofs.Common.{zero, suc, Err}

-- ---- what is found

-- what is told of the header, or of the frames behind a header that is fine, is told of the file
pub header_told : (version : Version) (file : ChunkFile) {fault : RootFault} →
    OnlyRead fault ⊎ (header_or_version_fault version file ≡ Some fault) →
    OnlyRead fault ⊎ (file_fault version file ≡ Some fault)
header_told version file (inl only) = inl only
header_told version file (inr told) = inr (rw told refl)

pub frames_told : (version : Version) (file : ChunkFile) {fault : RootFault} →
    header_or_version_fault version file ≡ None →
    OnlyRead fault ⊎ (frames_fault file ≡ Some fault) →
    OnlyRead fault ⊎ (file_fault version file ≡ Some fault)
frames_told version file fine (inl only) = inl only
frames_told version file fine (inr told) = inr (rw (fine, told) refl)

-- ---- a lawful file

pub is_lawful : {bytes : List ℕ} {content : Content} → IsFileOf bytes content → IsLawful content
is_lawful {content = content} f = subst (λ bytes. IsFileOf bytes content) f.is f

pub holds_file : {device : DeviceView} {content : Content} → IsLawful content →
    HoldsChunks device (chunk_file content) → HoldsFile device content
holds_file {content = content} f holds = record {
  honest = holds.honest;
  short = subst (λ bytes. length bytes < 2 ^ 64) (sym holds.are) holds.cut.short;
  is = subst (λ bytes. IsFileOf bytes content) (sym holds.are) f;
}

-- ---- a child

-- what is kept of the child that was gone to last is of the level that is asked for
pub keeps_level : {file : ChunkFile} {node : Subtree} {n from level : ℕ} →
    level ≡ level_of (nth_in file n) - 1 → StandsThere file node n from →
    KeepsLastChild file level node.top.below node.last
keeps_level {file = file} {node = node} is stands =
    subst (λ level. KeepsLastChild file level node.top.below node.last) (sym is) stands.last

-- the place that is found is that of the child
pub child_found : {file : ChunkFile} {node : Subtree} {n from level number : ℕ} →
    StandsThere file node n from → (place : Place) →
    FindsNth file level node.top.below.number number (Ok place) →
    FindsChild StandsThere file level from number (Ok (record { top = place; last = None }))
child_found {file = file} {level = level} {number = number} stands place found =
    let from = stands.from_is in (
      place.frame.number,
      place.below.number,
      record {
        frame = found.frame;
        number_is = refl;
        below = found.below;
        from_is = refl;
        last = tt;
      },
      subst (λ from. IsNth file level from number place.frame.number) from found.nth,
      subst (λ from. IsBehind file level from number place.below.number) from found.behind,
    )

module _ (file : ChunkFile) (level : ℕ) where
  -- where it is sought behind fewer children, and there is none, there is none
  pub misses : (k j from behind : ℕ) → j ≤ k → IsBehind file level from j behind →
      {fault : RootFault} → OnlyRead fault ⊎
      (NoneBetween file level behind (length file.chunks) × (fault ≡ fault_behind file)) →
      FindsNth file level from k (Err fault)
  misses k j from behind few here (inl only) = inl only
  misses k j from behind few here (inr none) = inr (
    none.1,
    λ n h.
        there k h (behind_before file level k j from behind n few here h),
  )
    where
      there : (k : ℕ) {n : ℕ} → IsNth file level from k n → behind ≤ n → ⊥
      there zero h before = none.0 _ before h.within h.is
      there (suc k) h before = none.0 _ before h.2.within h.2.is

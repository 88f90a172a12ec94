-- That chunks which are read stand in the chunk file.
use Rattle.std.proofs.Common.{◌≡◌, ◌<◌, ℕ, zero, suc, List, [], ◌∷◌, get_or, length, refl, sym}
use Rattle.std.proofs.Common.{arith, inl, inr, subst}
use Rattle.std.specs.List.{AllByRecursion}
use Rattle.prolly_entry.specs.declared.version.Version.{Version}
use Rattle.prolly_entry.specs.lemmas.Lists.{all_append}
use Rattle.prolly_tree.specs.Chunk.{IsIn}
use Rattle.prolly_look_up.specs.Sought.{Sought}
use Rattle.prolly_look_up.specs.Way.{IsNamed, IsWayTo, Lead}
use Rattle.prolly_look_up.specs.lemmas.HeldPairs.{some_byte}
use Rattle.prolly_root.specs.ChunkFile.{ChunkFile, nth_in}
use Rattle.prolly_root.specs.Descent.{IsKeptOf, chunks_on_way}
use Rattle.prolly_root.specs.Reader.{IsReaderIn, ReaderView, way_of}
use Rattle.prolly_root.specs.declared.look_up.chunk_on_way.ChunkOnWay.{ChunkOnWay}

nth_is_in : (chunks : List (List ℕ)) (n : ℕ) → 0 < length (get_or chunks n []) →
    IsIn (get_or chunks n []) chunks
nth_is_in [] n some = absurd (omega (arith, some))
nth_is_in (c ∷ chunks) zero some = inl refl
nth_is_in (c ∷ chunks) (suc n) some = inr (nth_is_in chunks n some)

-- The chunk of a number stands in the file where it can be read.
pub chunk_stands : (version : Version) (file : ChunkFile) (number : ℕ) (reference chunk : List ℕ) →
    chunk ≡ nth_in file number → IsNamed version reference chunk → IsIn chunk file.chunks
chunk_stands version file number reference chunk is named =
    subst (λ c. IsIn c file.chunks) (sym is) (nth_is_in file.chunks number
    (subst (λ c. 0 < length c) is (some_byte version chunk named.ordered.whole)))

-- ---- the way of a look-up

-- It can be read by some reference.
record IsReadable (version : Version) (chunk : List ℕ) : Type 0 where
  pub reference : List ℕ
  pub named : IsNamed version reference chunk

led_readable : (version : Version) (sought : Sought) (from : List ℕ) (chunks : List (List ℕ))
    (to : List ℕ) (there : Sought) → Lead version sought from chunks to there →
    AllByRecursion (IsReadable version) chunks
led_readable version sought from [] to there lead = tt
led_readable version sought from (chunk ∷ chunks) to there lead = (
  record { reference = from; named = lead.0 },
  led_readable version lead.2 lead.1 chunks to there lead.4,
)

way_readable : (version : Version) (root : List ℕ) (sought : Sought) (chunks : List (List ℕ)) →
    IsWayTo version root sought chunks → AllByRecursion (IsReadable version) chunks
way_readable version root sought chunks way =
    subst (AllByRecursion (IsReadable version)) (sym way.are)
    (all_append (IsReadable version) way.before (way.last ∷ [])
    (led_readable version sought root way.before way.reference way.there way.lead)
    (record { reference = way.reference; named = way.named }, tt))

module _ {T : Type 0} (stands : ChunkFile → T → ℕ → ℕ → Type 0) (file : ChunkFile)
    (version : Version) where
  kept_stand : (levels : List (ChunkOnWay T)) → AllByRecursion (IsKeptOf stands file) levels →
      AllByRecursion (IsReadable version) (chunks_on_way levels) →
      AllByRecursion (λ c. IsIn c file.chunks) (chunks_on_way levels)
  kept_stand [] kept readable = tt
  kept_stand (level ∷ levels) kept readable = (
    chunk_stands version file kept.0.number readable.0.reference level.chunk.items kept.0.is
        readable.0.named,
    kept_stand levels kept.1 readable.1,
  )

  -- The way that a reader of the file went stands there.
  pub way_stands : (root : List ℕ) (sought : Sought) (reader : ReaderView T) →
      IsReaderIn stands file reader → IsWayTo version root sought (way_of reader) →
      AllByRecursion (λ c. IsIn c file.chunks) (way_of reader)
  way_stands root sought reader of way = kept_stand reader.levels of.levels
      (way_readable version root sought (way_of reader) way)

-- What a build leaves where a worker was refused memory.
use Rattle.std.specs.Prelude.{◌≡◌, ℕ, true, List, [], ◌∷◌, Option}
use Rattle.prolly_tree.specs.Chunk.{chunks}
use Rattle.prolly_entry.specs.Cut.{sha512_cut}
use Rattle.prolly_tree.specs.File.{header}
use Rattle.prolly_entry.specs.Overlay.{overlay}
use Rattle.prolly_entry.specs.Pair.{Pair}
use Rattle.prolly_entry.specs.Prefix.{IsPrefix}
use Rattle.prolly_entry.specs.Reading.{IsReading}
use Rattle.prolly_entry.specs.Record.{Record}
use Rattle.prolly_entry.specs.declared.next.Flaw.{Flaw}
use Rattle.prolly_io.specs.Source.{SourceView}
use Rattle.prolly_io.specs.Sink.{SinkView, TakesPrefix}
use Rattle.prolly_build.specs.Config.{Settings}
use Rattle.prolly_build.specs.WriterState.{frames_of}

module _ {S : Type 0} (seen : S → SourceView) where
  -- The records are the good ones of some bytes, whatever follows them. Where the source is honest
  -- these are the bytes that it had left.
  pub record AreGoodOf (limit : ℕ) (before : S) (good : List Record) : Type 0 where
    pub bytes : List ℕ
    pub left : (seen before).is_honest ≡ true → bytes ≡ (seen before).left
    pub ending : Option Flaw
    pub reading : IsReading bytes limit good ending

  -- So it is with each source, in its place.
  abbrev pub AreGood : ℕ → List S → List (List Record) → Type 0
  AreGood limit [] [] = Unit {0}
  AreGood limit (s ∷ ss) (g ∷ gs) = AreGoodOf limit s g × AreGood limit ss gs
  AreGood limit _ _ = ⊥

  -- The sink took a prefix of the header and of the frames of the tree's chunks, without the end
  -- record, of the first pairs of the overlay of all good records.
  pub record IsRefused (settings : Settings) (before : List S) (old new : SinkView) : Type 0 where
    pub goods : List (List Record)
    pub are_good : AreGood settings.max_records before goods
    pub pairs : List Pair
    pub first : IsPrefix pairs (overlay goods)
    pub taken : old.is_keeping ≡ true → TakesPrefix old.taken new.taken
        (frames_of (header settings.version settings.bits)
        (chunks (sha512_cut settings.bits) settings.version pairs))

-- The chunks that are read on the way of a walk: that they can be read, and where they stand.
use Rattle.std.proofs.Common.{◌≡◌, ◌⊎◌, ℕ, inl, inr, List, [], ◌∷◌, refl, sym, subst}
use Rattle.prolly_entry.specs.Reference.{reference_of}
use Rattle.prolly_entry.specs.declared.version.Version.{Version}
use Rattle.prolly_look_up.specs.Way.{IsNamed}
use Rattle.prolly_tree.specs.Chunk.{IsIn}
use Rattle.prolly_root_diff.specs.FileWalks.{ReadChunksStand}
use Rattle.prolly_root_diff.specs.Left.{Left, Opens}
use Rattle.prolly_root_diff.specs.Notes.{read_new, read_old}
use Rattle.prolly_root_diff.specs.Walks.{AreReadable, Leads, Lefts, Move, new_steps, old_steps}
use Rattle.prolly_root_diff.specs.Walks.{read_on}
use Rattle.prolly_root_diff.specs.lemmas.ReadChunks.{steps_stand}

-- a chunk that was opened can be read
opened_so : (version : Version) (old new : Left) (chunk : List ℕ) (o : Opens version old new) →
    chunk ≡ o.chunk → IsNamed version (reference_of chunk) chunk
opened_so version old new chunk o is = subst (λ c. IsNamed version (reference_of c) c) (sym is)
    (record { bytes = o.named.bytes; is = refl; ordered = o.named.ordered })

ways_readable : (version : Version) (old new : Lefts) (way : List Move) →
    Leads version old way new → AreReadable version (read_on way)
ways_readable version old new [] lead = tt
ways_readable version old new (Move.ReadsOld chunk ∷ way) lead = (
  opened_so version old.before lead.0.before chunk lead.1.0 lead.1.1,
  ways_readable version lead.0 new way lead.2,
)
ways_readable version old new (Move.ReadsNew chunk ∷ way) lead = (
  opened_so version old.after lead.0.after chunk lead.1.0 lead.1.1,
  ways_readable version lead.0 new way lead.2,
)
ways_readable version old new (Move.PassesBoth ∷ way) lead =
    ways_readable version lead.0 new way lead.2
ways_readable version old new (Move.SkipsBoth ∷ way) lead =
    ways_readable version lead.0 new way lead.2
ways_readable version old new (Move.Gives change ∷ way) lead =
    ways_readable version lead.0 new way lead.2

of_one : (way : List Move) (chunk : List ℕ) → IsIn chunk (read_on way) →
    IsIn chunk (read_old way) ⊎ IsIn chunk (read_new way)
of_one [] chunk none = absurd none
of_one (Move.ReadsOld c ∷ way) chunk (inl is) = inl (inl is)
of_one (Move.ReadsOld c ∷ way) chunk (inr more) = further (of_one way chunk more)
  where
    further : IsIn chunk (read_old way) ⊎ IsIn chunk (read_new way) →
        IsIn chunk (c ∷ read_old way) ⊎ IsIn chunk (read_new way)
    further (inl k) = inl (inr k)
    further (inr k) = inr k
of_one (Move.ReadsNew c ∷ way) chunk (inl is) = inr (inl is)
of_one (Move.ReadsNew c ∷ way) chunk (inr more) = further (of_one way chunk more)
  where
    further : IsIn chunk (read_old way) ⊎ IsIn chunk (read_new way) →
        IsIn chunk (read_old way) ⊎ IsIn chunk (c ∷ read_new way)
    further (inl k) = inl k
    further (inr k) = inr (inr k)
of_one (Move.PassesBoth ∷ way) chunk read = of_one way chunk read
of_one (Move.SkipsBoth ∷ way) chunk read = of_one way chunk read
of_one (Move.Gives change ∷ way) chunk read = of_one way chunk read

pub read_chunks_stand : ReadChunksStand
read_chunks_stand = record {
  readable = ways_readable;
  of_old = λ version file way due rest comes. steps_stand version file (old_steps way) due rest comes;
  of_new = λ version file way due rest comes. steps_stand version file (new_steps way) due rest comes;
  either = of_one;
}

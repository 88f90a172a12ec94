-- What holds of no loader, and of one more, holds of all.
use Rattle.std.proofs.Common.{ℕ, ◌+◌, List, [], ◌∷◌}
use Rattle.prolly_entry.specs.Record.{Record}
use Rattle.prolly_io.specs.Source.{SourceView}
use Rattle.prolly_link.specs.Views.{Batching, Whole}
use Rattle.prolly_build.specs.RunResult.{AreLoaded}
use Rattle.prolly_build.specs.Workers.{IsLoadedFrom}

module _ {S : Type 0} (seen : S → SourceView) (limit : ℕ)
    (P : ℕ → List S → List (Batching Record) → List S → List (Whole Record) → Type 0)
    (none : (file : ℕ) → P file [] [] [] [])
    (more : (file : ℕ) (s : S) (o : Batching Record) (t : S) (c : Whole Record) (ss : List S)
    (os : List (Batching Record)) (ts : List S) (cs : List (Whole Record)) →
    IsLoadedFrom seen file limit s o.link t c → P (file + 1) ss os ts cs →
    P file (s ∷ ss) (o ∷ os) (t ∷ ts) (c ∷ cs)) where
  pub of_all : (file : ℕ) (ss : List S) (os : List (Batching Record)) (ts : List S)
      (cs : List (Whole Record)) → AreLoaded seen limit file ss os ts cs → P file ss os ts cs
  of_all file [] [] [] [] h = none file
  of_all file [] [] [] (c ∷ cs) h = absurd h
  of_all file [] [] (t ∷ ts) cs h = absurd h
  of_all file [] (o ∷ os) ts cs h = absurd h
  of_all file (s ∷ ss) [] ts cs h = absurd h
  of_all file (s ∷ ss) (o ∷ os) [] cs h = absurd h
  of_all file (s ∷ ss) (o ∷ os) (t ∷ ts) [] h = absurd h
  of_all file (s ∷ ss) (o ∷ os) (t ∷ ts) (c ∷ cs) h =
      more file s o t c ss os ts cs h.0 (of_all (file + 1) ss os ts cs h.1)

-- Chunks of a proof that are taken one after another.
use Rattle.std.proofs.Common.{ℕ, List, [], ◌∷◌, ◌++◌, refl, sym, ap, ◌∙◌, subst}
use Rattle.std.proofs.Common.{append_assoc, append-nil}
use Rattle.prolly_entry.specs.Pair.{Pair}
use Rattle.prolly_entry.specs.declared.version.Version.{Version}
use Rattle.prolly_range.specs.SetProof.{AreTaken, Due, Takes}

-- One more chunk is taken.
pub taken_more : (version : Version) (due : List Due) (chunks : List (List ℕ)) (pairs : List Pair)
    (rest : List Due) (chunk : List ℕ) (shown : List Pair) (next : List Due) →
    AreTaken version due chunks pairs rest → Takes version rest chunk shown next →
    AreTaken version due (chunks ++ chunk ∷ []) (pairs ++ shown) next
taken_more version due [] pairs rest chunk shown next taken takes = (
  shown,
  [],
  next,
  subst (λ d. Takes version d chunk shown next) (sym taken.0) takes,
  (refl, refl),
  ap (λ ps. ps ++ shown) taken.1 ∙ sym (append-nil shown),
)
taken_more version due (c ∷ chunks) pairs rest chunk shown next taken takes = (
  taken.0,
  taken.1 ++ shown,
  taken.2,
  taken.3,
  taken_more version taken.2 chunks taken.1 rest chunk shown next taken.4 takes,
  ap (λ ps. ps ++ shown) taken.5 ∙ append_assoc taken.0 taken.1 shown,
)

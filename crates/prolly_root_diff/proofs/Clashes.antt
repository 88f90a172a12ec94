-- Clashes of chunks that are read with those of trees.
use Rattle.std.proofs.Common.{ℕ, List, [], ◌∷◌, ◌++◌, sym, subst, append_assoc}
use Rattle.prolly_tree.specs.Chunk.{IsIn}
use Rattle.prolly_tree.specs.lemmas.Trees.{in_front, in_back}
use Rattle.prolly_look_up.specs.Way.{Clash}
use Rattle.prolly_look_up.specs.lemmas.Clashes.{wider}
use Rattle.prolly_root_diff.specs.Walks.{Clashing}

-- what clashes with a few that are read clashes with more
pub more_last : (xs ys zs : List (List ℕ)) → Clashing ys zs → Clashing (xs ++ ys) zs
more_last xs ys zs c = subst (λ l. Clash l zs) (sym (append_assoc xs ys zs))
    (wider (ys ++ zs) zs (xs ++ (ys ++ zs)) zs (λ c. in_back c xs (ys ++ zs)) (λ c h. h) c)

-- the first chunk that is read clashes with some of the trees
pub read_clash : (part trees : List (List ℕ)) →
    ((c : List ℕ) → IsIn c part → IsIn c trees) → (chunk : List ℕ) (read : List (List ℕ)) →
    Clash (chunk ∷ []) part → Clashing (chunk ∷ read) trees
read_clash part trees are chunk read clash = wider (chunk ∷ []) part ((chunk ∷ read) ++ trees)
    trees (λ c h. in_front c (chunk ∷ read) trees (in_front c (chunk ∷ []) read h)) are clash

-- a chunk of the one tree clashes with one of the other
pub both_clash : (cs ds read : List (List ℕ)) → Clash cs ds → Clashing read (cs ++ ds)
both_clash cs ds read clash = wider cs ds (read ++ (cs ++ ds)) (cs ++ ds)
    (λ c h. in_back c read (cs ++ ds) (in_front c cs ds h)) (λ c. in_back c cs ds) clash

-- Chunks that have the reference of another one.
use Rattle.std.proofs.Common.{◌≡◌, ℕ, inl, inr, ◌⊎◌, List, sym, ◌∙◌}
use Rattle.std.specs.Str.{bytes_eq}
use Rattle.std.proofs.lemmas.Bool.{cases_Bool, false≢true}
use Rattle.std.proofs.lemmas.Slice.Eq.{bytes_eq-Decides}
use Rattle.prolly_entry.specs.Reference.{reference_of}
use Rattle.prolly_entry.specs.declared.version.Version.{Version}
use Rattle.prolly_laws.specs.Trees.{top_in}
use Rattle.prolly_tree.specs.Chunk.{IsIn, chunk_of}
use Rattle.prolly_tree.specs.Tree.{Tree, bytes_of}
use Rattle.prolly_look_up.specs.MapTree.{HasTree}
use Rattle.prolly_look_up.specs.Way.{Clash}

-- A chunk that has the reference of a tree's top is that, or shows a clash.
pub top_or_clash : (version : Version) (cs : List (List ℕ)) (level : ℕ) (t : Tree level)
    (chunk : List ℕ) (chunks : List (List ℕ)) → HasTree version cs level t → IsIn chunk chunks →
    reference_of chunk ≡ reference_of (bytes_of version level t) →
    (chunk ≡ bytes_of version level t) ⊎ Clash chunks cs
top_or_clash version cs level t chunk chunks has is_in same =
    let top = bytes_of version level t in
    elim (cases_Bool (bytes_eq chunk top)) [
      | inl e ↦ inl ((bytes_eq-Decides chunk top).0 e)
      | inr e ↦ inr (record {
        one = chunk;
        other = top;
        in_one = is_in;
        in_other = has (chunk_of version level t) (top_in version level t);
        differ = λ f. false≢true (sym e ∙ (bytes_eq-Decides chunk top).1 f);
        same = same;
      })
    ]

-- What clashes with few clashes with more.
pub wider : (xs ys us vs : List (List ℕ)) → ((c : List ℕ) → IsIn c xs → IsIn c us) →
    ((c : List ℕ) → IsIn c ys → IsIn c vs) → Clash xs ys → Clash us vs
wider xs ys us vs f g c = record {
  one = c.one;
  other = c.other;
  in_one = f c.one c.in_one;
  in_other = g c.other c.in_other;
  differ = c.differ;
  same = c.same;
}

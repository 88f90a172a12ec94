-- Runs in files, one after another.
use Rattle.std.proofs.Common.{◌≡◌, List, [], ◌∷◌, ◌++◌, flat_map, refl, sym, ap, ◌∙◌}
use Rattle.std.proofs.Common.{append-nil}
use Rattle.std.proofs.lemmas.List.Concat.{flat_map-append}
use Rattle.prolly_entry.specs.Record.{Record}
use Rattle.prolly_io.specs.Source.{SourceView}
use Rattle.prolly_merge.specs.Each.{Each}
use Rattle.prolly_sort.specs.declared.key_rule.KeyRule.{KeyRule}
use Rattle.prolly_sort.specs.declared.stored_runs.StoredRun.{StoredRun}
use Rattle.prolly_sort.specs.Shelf.{AreStored, GivesBack}

-- What stands beside two lists, one after the other.
record Divided {A B : Type 0} (R : A → B → Type 0) (xs ys : List A) (zs : List B) : Type 0 where
  front : List B
  back : List B
  all : zs ≡ front ++ back
  each_front : Each R xs front
  each_back : Each R ys back

divided : {A B : Type 0} (R : A → B → Type 0) (xs ys : List A) (zs : List B) →
    Each R (xs ++ ys) zs → Divided R xs ys zs
divided R [] ys zs h = record {
  front = [];
  back = zs;
  all = refl;
  each_front = tt;
  each_back = h;
}
divided R (x ∷ xs) ys [] h = absurd h
divided R (x ∷ xs) ys (z ∷ zs) h = let more = divided R xs ys zs h.1 in record {
  front = z ∷ more.front;
  back = more.back;
  all = ap (λ ws. z ∷ ws) more.all;
  each_front = (h.0, more.each_front);
  each_back = more.each_back;
}

each_push : {A B : Type 0} (R : A → B → Type 0) (xs : List A) (zs : List B) (x : A) (z : B) →
    Each R xs zs → R x z → Each R (xs ++ x ∷ []) (zs ++ z ∷ [])
each_push R [] [] x z h k = (k, tt)
each_push R [] (w ∷ zs) x z h k = absurd h
each_push R (y ∷ xs) [] x z h k = absurd h
each_push R (y ∷ xs) (w ∷ zs) x z h k = (h.0, each_push R xs zs x z h.1 k)

module _ {S : Type 0} (seen : S → SourceView) (rule : KeyRule) where
  abbrev pub joined : List (List Record) → List Record
  joined parts = flat_map (λ part. part) parts

  -- One run more stands behind the others.
  pub one_more : (runs : List (StoredRun S)) (run : StoredRun S) (came part : List Record) →
      AreStored seen rule runs came → GivesBack seen rule run part →
      AreStored seen rule (runs ++ run ∷ []) (came ++ part)
  one_more runs run came part h k = record {
    parts = h.parts ++ part ∷ [];
    all = ap (λ rs. rs ++ part) h.all ∙ ap (λ rs. joined h.parts ++ rs) (sym (append-nil part)) ∙
        sym (flat_map-append (λ rs. rs) h.parts (part ∷ []));
    each = each_push (GivesBack seen rule) runs h.parts run part h.each k;
  }

  -- The records of the first runs, and those of the others.
  pub record AreTwo (first others : List (StoredRun S)) (came : List Record) : Type 0 where
    pub before : List Record
    pub behind : List Record
    pub all : came ≡ before ++ behind
    pub first_are : AreStored seen rule first before
    pub others_are : AreStored seen rule others behind

  pub two : (first others : List (StoredRun S)) (came : List Record) →
      AreStored seen rule (first ++ others) came → AreTwo first others came
  two first others came h =
      let d = divided (GivesBack seen rule) first others h.parts h.each in record {
        before = joined d.front;
        behind = joined d.back;
        all = h.all ∙ ap joined d.all ∙ flat_map-append (λ rs. rs) d.front d.back;
        first_are = record { parts = d.front; all = refl; each = d.each_front };
        others_are = record { parts = d.back; all = refl; each = d.each_back };
      }

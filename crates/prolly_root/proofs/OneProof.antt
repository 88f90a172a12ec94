-- That there is one proof for a root and a key.
use Rattle.std.proofs.Common.{◌≡◌, ℕ, List, [], ◌∷◌, ◌++◌, ◌⊎◌, inl, inr, refl, sym, ap, ◌∙◌}
use Rattle.std.proofs.Common.{rules, subst}
use Rattle.std.proofs.lemmas.Bool.{cases_Bool, false≢true}
use Rattle.std.proofs.lemmas.Slice.Eq.{bytes_eq-Decides}
use Rattle.std.specs.Str.{bytes_eq}
use Rattle.prolly_look_up.specs.Kinds.{kind_of}
use Rattle.prolly_look_up.specs.Sought.{EndsAt, LeadsOn, Sought}
use Rattle.prolly_look_up.specs.Sought.Sought.{Key}
use Rattle.prolly_look_up.specs.Way.{Clash, IsNamed, Lead}
use Rattle.prolly_look_up.specs.lemmas.Ways.{no_way_on, one_way_on}
use Rattle.prolly_entry.specs.Reference.{reference_of}
use Rattle.prolly_entry.specs.declared.version.Version.{Version}
use Rattle.prolly_root.specs.ProofFile.{ProofsAreOne, proof_file}

-- two chunks with one reference are one, or show a clash
same_or_clash : (x y : List ℕ) (xs ys : List (List ℕ)) → reference_of x ≡ reference_of y →
    (x ≡ y) ⊎ Clash (x ∷ xs) (y ∷ ys)
same_or_clash x y xs ys same = elim (cases_Bool (bytes_eq x y)) [
  | inl e ↦ inl ((bytes_eq-Decides x y).0 e)
  | inr e ↦ inr (record {
    one = x;
    other = y;
    in_one = inl refl;
    in_other = inl refl;
    differ = λ f. false≢true (sym e ∙ (bytes_eq-Decides x y).1 f);
    same = same;
  })
]

lifted : (x y : List ℕ) (xs ys : List (List ℕ)) → Clash xs ys → Clash (x ∷ xs) (y ∷ ys)
lifted x y xs ys c = search rules

-- two ways from one reference, with one thing sought, are one, or show a clash
module _ (version : Version) (last reference : List ℕ) (there : Sought)
    (named : IsNamed version reference last) (ends : EndsAt there (kind_of version last))
    (other their : List ℕ) (others_there : Sought) (is_named : IsNamed version their other)
    (they_end : EndsAt others_there (kind_of version other)) where
  abbrev OneWay : List (List ℕ) → List (List ℕ) → Type 0
  OneWay before others = (before ++ last ∷ [] ≡ others ++ other ∷ []) ⊎
      Clash (before ++ last ∷ []) (others ++ other ∷ [])

  joined_by : (x y : List ℕ) (before others : List (List ℕ)) → x ≡ y → OneWay before others →
      OneWay (x ∷ before) (y ∷ others)
  joined_by x y before others e (inl same) = inl cc
  joined_by x y before others e (inr clash) = inr (lifted x y _ _ clash)

  one_way : (sought : Sought) (from : List ℕ) (before others : List (List ℕ)) →
      Lead version sought from before reference there →
      Lead version sought from others their others_there → OneWay before others
  one_way sought from [] [] lead to =
      elim (same_or_clash last other [] [] (named.is ∙ sym lead.0 ∙ to.0 ∙ sym is_named.is)) [
        | inl e ↦ inl (ap (λ c. c ∷ []) e)
        | inr clash ↦ inr clash
      ]
  one_way sought from [] (d ∷ others) lead to =
      elim (same_or_clash last d [] (others ++ other ∷ [])
      (named.is ∙ sym lead.0 ∙ sym to.0.is)) [
        | inl e ↦ absurd (no_way_on sought (kind_of version d) to.1 to.2
            (subst (λ c. EndsAt sought (kind_of version c)) e
            (subst (λ s. EndsAt s (kind_of version last)) (sym lead.1) ends)) to.3)
        | inr clash ↦ inr clash
      ]
  one_way sought from (c ∷ before) [] lead to =
      elim (same_or_clash c other (before ++ last ∷ []) []
      (lead.0.is ∙ to.0 ∙ sym is_named.is)) [
        | inl e ↦ absurd (no_way_on sought (kind_of version c) lead.1 lead.2
            (subst (λ c. EndsAt sought (kind_of version c)) (sym e)
            (subst (λ s. EndsAt s (kind_of version other)) (sym to.1) they_end)) lead.3)
        | inr clash ↦ inr clash
      ]
  one_way sought from (c ∷ before) (d ∷ others) lead to =
      elim (same_or_clash c d (before ++ last ∷ []) (others ++ other ∷ [])
      (lead.0.is ∙ sym to.0.is)) [
        | inl e ↦
            let same = one_way_on sought (kind_of version d) (lead.1, lead.2) (to.1, to.2)
            (subst (λ c. LeadsOn sought (kind_of version c) lead.1 lead.2) e lead.3) to.3 in
            joined_by c d before others e (one_way lead.2 lead.1 before others lead.4
            (subst (λ x. Lead version x.1 x.0 others their others_there) (sym same) to.4))
        | inr clash ↦ inr clash
      ]

pub proofs_are_one : ProofsAreOne
proofs_are_one version root key bytes others value other p q =
    let w = p.way.way in
    let v = q.way.way in
    elim (one_way version w.last w.reference w.there w.named w.ends v.last v.reference v.there
    v.named v.ends (Key key) root w.before v.before w.lead v.lead) [
      | inl e ↦ inl (p.is ∙ ap (proof_file version) (w.are ∙ e ∙ sym v.are) ∙ sym q.is)
      | inr clash ↦ inr (rw (w.are, v.are) clash)
    ]

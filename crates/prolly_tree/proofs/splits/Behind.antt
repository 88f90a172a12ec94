-- What is behind a list, and how its split goes on.
use Rattle.std.proofs.Common.{◌≡◌, ℕ, Bool, true, List, [], ◌∷◌, ◌++◌}
use Rattle.std.proofs.Common.{sym, ap, ◌∙◌, subst, append_assoc}
use Rattle.std.proofs.lemmas.Bool.{false≢true}
use Rattle.std.proofs.lemmas.List.Concat.{flat_map-append}
use Rattle.prolly_tree.specs.Split.{split, is_closed, closed_groups, open_entries}
use Rattle.prolly_tree.specs.Split.{SplitGoesOn}
use Rattle.prolly_tree.specs.lemmas.Splits.{flat, as_group, Open, Ends, AllEnd}
use Rattle.prolly_tree.proofs.splits.Parts.{parts, open_rest_of, split_parts, closed_parts}
use Rattle.prolly_tree.proofs.splits.Parts.{open_parts, open_not_closed}
use Rattle.prolly_tree.proofs.splits.Splits.{flat_parts}
use Rattle.prolly_entry.specs.lemmas.Lists.{head_is, tail_is}

module _ {A : Type 0} (test : A → Bool) (least : ℕ) where
  all_end_append : (gs hs : List (List A)) → AllEnd test least 0 gs → AllEnd test least 0 hs →
      AllEnd test least 0 (gs ++ hs)
  all_end_append [] hs h k = k
  all_end_append (g ∷ gs) hs h k = (h.0, all_end_append gs hs h.1 k)

  goes_on : (gs : List (List A)) (rest ys : List A) → AllEnd test least 0 gs →
      Open test least 0 rest → SplitGoesOn test least (flat gs ++ rest) ys
  goes_on gs rest ys h o =
      let list = flat gs ++ rest in
      let p = parts test least (rest ++ ys) in
      let o' : Open test least 0 p.rest = open_rest_of test least (rest ++ ys) p in
      let h' : AllEnd test least 0 (gs ++ p.groups) = all_end_append gs p.groups h p.ends in
      let whole : list ++ ys ≡ flat (gs ++ p.groups) ++ p.rest =
      append_assoc (flat gs) rest ys ∙ ap (λ a. flat gs ++ a) (sym p.whole)
      ∙ sym (append_assoc (flat gs) (flat p.groups) p.rest)
      ∙ ap (λ a. a ++ p.rest) (sym (flat_map-append (λ g. g) gs p.groups)) in
      let closed : closed_groups test least list ≡ gs = closed_parts test least gs rest h o in
      let entries : open_entries test least list ≡ rest =
      ap flat (open_parts test least gs rest h o) ∙ flat_parts [] rest in
      let more : open_entries test least list ++ ys ≡ flat p.groups ++ p.rest =
      ap (λ a. a ++ ys) entries ∙ sym p.whole in (
        ap (split test least) whole
            ∙ split_parts test least (gs ++ p.groups) p.rest h' o'
            ∙ append_assoc gs p.groups (as_group p.rest)
            ∙ ap (λ a. a ++ (p.groups ++ as_group p.rest)) (sym closed)
            ∙ ap (λ a. closed_groups test least list ++ a)
            (sym (ap (split test least) more ∙ split_parts test least p.groups p.rest p.ends o')),
        ap (closed_groups test least) whole
            ∙ closed_parts test least (gs ++ p.groups) p.rest h' o'
            ∙ ap (λ a. a ++ p.groups) (sym closed)
            ∙ ap (λ a. closed_groups test least list ++ a)
            (sym (ap (closed_groups test least) more
            ∙ closed_parts test least p.groups p.rest p.ends o')),
        ap (open_entries test least) whole
            ∙ ap flat (open_parts test least (gs ++ p.groups) p.rest h' o')
            ∙ sym (ap (open_entries test least) more
            ∙ ap flat (open_parts test least p.groups p.rest p.ends o')),
      )

  -- Behind a list a split goes on from the list's open group.
  pub split_goes_on : (xs ys : List A) → SplitGoesOn test least xs ys
  split_goes_on xs ys =
      let p = parts test least xs in
      subst (λ l. SplitGoesOn test least l ys) p.whole
      (goes_on p.groups p.rest ys p.ends (open_rest_of test least xs p))

  -- ---- the first group of a split

  -- A group that ends a list, where no entry before its last closes it, is that list's split.
  pub record FirstGroup (list g : List A) (others : List (List A)) : Type 0 where
    pub ends : Ends test least 0 g
    pub whole : list ≡ g ++ flat others
    pub rest : split test least (flat others) ≡ others

  first_of_parts : (gs : List (List A)) (rest : List A) (g : List A) (others : List (List A)) →
      AllEnd test least 0 gs → Open test least 0 rest → gs ++ as_group rest ≡ g ∷ others →
      is_closed test least g ≡ true → FirstGroup (flat gs ++ rest) g others
  first_of_parts [] [] g others h o e c = cc
  first_of_parts [] (x ∷ xs) g others h o e c =
      absurd (false≢true (sym (open_not_closed test least (x ∷ xs) o)
      ∙ ap (is_closed test least) (head_is (x ∷ xs) g [] others e) ∙ c))
  first_of_parts (g' ∷ gs) rest g others h o e c =
      let same : g' ≡ g = head_is g' g (gs ++ as_group rest) others e in
      let more : gs ++ as_group rest ≡ others = tail_is g' g (gs ++ as_group rest) others e in
      let flat_more : flat gs ++ rest ≡ flat others = sym (flat_parts gs rest) ∙ ap flat more in
      record {
        ends = subst (Ends test least 0) same h.0;
        whole = append_assoc g' (flat gs) rest ∙ ap (λ a. a ++ (flat gs ++ rest)) same
            ∙ ap (λ a. g ++ a) flat_more;
        rest = ap (split test least) (sym flat_more)
            ∙ split_parts test least gs rest h.1 o ∙ more;
      }

  -- The first group of a split, where it is closed, stands in front of the others' entries.
  pub first_group : (list g : List A) (others : List (List A)) →
      split test least list ≡ g ∷ others → is_closed test least g ≡ true →
      FirstGroup list g others
  first_group list g others e c =
      let p = parts test least list in
      let o = open_rest_of test least list p in
      subst (λ l. FirstGroup l g others) p.whole (first_of_parts p.groups p.rest g others p.ends o
      (sym (split_parts test least p.groups p.rest p.ends o) ∙ ap (split test least) p.whole ∙ e)
      c)

  -- A group that its last entry closes is the first of each list that it begins.
  pub split_group : (g ys : List A) → Ends test least 0 g →
      split test least (g ++ ys) ≡ g ∷ split test least ys
  split_group g ys h =
      let p = parts test least ys in
      let o = open_rest_of test least ys p in
      ap (λ a. split test least (g ++ a)) (sym p.whole)
      ∙ ap (split test least) (sym (append_assoc g (flat p.groups) p.rest))
      ∙ split_parts test least (g ∷ p.groups) p.rest (h, p.ends) o
      ∙ ap (λ a. g ∷ a) (sym (split_parts test least p.groups p.rest p.ends o)
      ∙ ap (split test least) p.whole)

  -- So is it of the closed groups, and the open entries are those behind it.
  pub closed_group : (g ys : List A) → Ends test least 0 g →
      closed_groups test least (g ++ ys) ≡ g ∷ closed_groups test least ys
  closed_group g ys h =
      let p = parts test least ys in
      let o = open_rest_of test least ys p in
      ap (λ a. closed_groups test least (g ++ a)) (sym p.whole)
      ∙ ap (closed_groups test least) (sym (append_assoc g (flat p.groups) p.rest))
      ∙ closed_parts test least (g ∷ p.groups) p.rest (h, p.ends) o
      ∙ ap (λ a. g ∷ a) (sym (closed_parts test least p.groups p.rest p.ends o)
      ∙ ap (closed_groups test least) p.whole)

  pub open_group_behind : (g ys : List A) → Ends test least 0 g →
      open_entries test least (g ++ ys) ≡ open_entries test least ys
  open_group_behind g ys h =
      let p = parts test least ys in
      let o = open_rest_of test least ys p in
      ap (λ a. open_entries test least (g ++ a)) (sym p.whole)
      ∙ ap (open_entries test least) (sym (append_assoc g (flat p.groups) p.rest))
      ∙ ap flat (open_parts test least (g ∷ p.groups) p.rest (h, p.ends) o)
      ∙ ap flat (sym (open_parts test least p.groups p.rest p.ends o))
      ∙ ap (open_entries test least) p.whole

  -- A group that is all closed groups of itself is closed by its last entry, and by none before.
  pub whole_ends : (g : List A) → closed_groups test least g ≡ g ∷ [] → Ends test least 0 g
  whole_ends g e =
      let p = parts test least g in
      let same : p.groups ≡ g ∷ [] = sym (closed_parts test least p.groups p.rest p.ends
      (open_rest_of test least g p)) ∙ ap (closed_groups test least) p.whole ∙ e in
      (subst (AllEnd test least 0) same p.ends).0

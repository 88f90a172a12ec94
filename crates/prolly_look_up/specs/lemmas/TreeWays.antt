-- The ways of look-ups down a tree, for who knows the root alone.
use Rattle.std.proofs.Common.{rules, ◌≡◌, ℕ, inl, inr, ◌⊎◌, List, [], ◌∷◌, ◌++◌, refl, sym, ap, ◌∙◌}
use Rattle.std.proofs.Common.{subst, arith, append_assoc, append-nil, zero, suc}
use Rattle.std.specs.List.{AllByRecursion, flat_map}
use Rattle.std.specs.Prelude.{option_map}
use Rattle.std.proofs.lemmas.Grind.{common_steps}
use Rattle.std.proofs.lemmas.List.{length-append}
use Rattle.std.proofs.lemmas.List.Concat.{flat_map-append}
use Rattle.std.proofs.lemmas.Option.{slice_get_past}
use Rattle.prolly_entry.specs.Cut.{sha512_cut}
use Rattle.prolly_entry.specs.Pair.{Pair, IsPair}
use Rattle.prolly_entry.specs.Reference.{reference_of}
use Rattle.prolly_entry.specs.declared.version.Version.{Version}
use Rattle.prolly_entry.specs.declared.version.Version.TheVariants.{Two}
use Rattle.prolly_entry.specs.lemmas.Lists.{all_append}
use Rattle.prolly_tree.specs.Difference.{IsMap}
use Rattle.prolly_tree.specs.File.{root_reference}
use Rattle.prolly_tree.specs.LookUp.{find, nth}
use Rattle.prolly_tree.specs.Tree.{Tree, pairs_below, bytes_of, tree_of}
use Rattle.prolly_tree.specs.lemmas.Maps.{Rises, rises}
use Rattle.prolly_tree.specs.lemmas.Trees.{in_back, in_front}
use Rattle.prolly_laws.specs.Trees.{pairs_are}
use Rattle.prolly_look_up.specs.MapTree.{IsTreeOf}
use Rattle.prolly_look_up.specs.HeldPairs.{pairs_held}
use Rattle.prolly_look_up.specs.Content.{chunk_bytes}
use Rattle.prolly_look_up.specs.Kinds.{kind_of}
use Rattle.prolly_look_up.specs.PairsFrom.{pairs_from}
use Rattle.prolly_look_up.specs.ScanWay.{AreFirstFrom, ScansAreRight, HaveFirstFrom, ScansGoOn}
use Rattle.prolly_look_up.specs.ScanWay.{from_behind, joined}
use Rattle.prolly_look_up.specs.Sought.{Sought, EndsAt, LeadsOn, child_sought, reference_and_sought}
use Rattle.prolly_look_up.specs.Sought.Sought.{Key, Number}
use Rattle.prolly_look_up.specs.Way.{nth_sought, Clash, CountWaysAreRight, IsNamed, IsWayTo, Lead}
use Rattle.prolly_look_up.specs.Way.{WaysAreRight}
use Rattle.prolly_look_up.specs.lemmas.Clashes.{top_or_clash}
use Rattle.prolly_look_up.specs.lemmas.Chosen.{AllPast, CanCount, ChosenIn, Has, IsPast, chosen}
use Rattle.prolly_look_up.specs.lemmas.Chosen.{none_chosen, past_more, past_none}
use Rattle.prolly_look_up.specs.lemmas.MapTree.{child_is, root_is, children_are, own_pairs}
use Rattle.prolly_look_up.specs.lemmas.PairsFrom.{find_in_part, first_in_part, find_over, nth_back}
use Rattle.prolly_look_up.specs.lemmas.PairsFrom.{nth_front, none_from}

-- ---- what a look-up seeks in a map, and below a tree to which it has come

-- What is sought in the map is sought in these of its pairs.
pub record StandsIn (sought : Sought) (m : List Pair) (there : Sought) (pairs : List Pair) : Type 0
  where
    pub before : List Pair
    pub after : List Pair
    pub are : m ≡ before ++ (pairs ++ after)
    pub past : IsPast sought before there
    pub here : (after ≡ []) ⊎ Has there pairs

-- So that these tell of it what the map does.
abbrev pub Tells : Sought → List Pair → Sought → List Pair → Type 0
Tells (Key key) m there pairs = (find pairs key ≡ find m key) ×
    AreFirstFrom key m (pairs_from key pairs)
Tells (Number n) m there pairs = nth_sought there pairs ≡ nth m n

-- ---- at the top

-- What is sought in a map is sought in all of its pairs.
pub stands_in_all : (sought : Sought) (m pairs : List Pair) → pairs ≡ m →
    StandsIn sought m sought pairs
stands_in_all sought m pairs same = record {
  before = [];
  after = [];
  are = sym same ∙ sym (append-nil pairs);
  past = past_none sought;
  here = inl refl;
}

-- ---- one level down

can_more : (version : Version) (there next : Sought) (pre own rest : List Pair) →
    CanCount version there (pre ++ (own ++ rest)) → IsPast there pre next →
    CanCount version next own
can_more version (Key key) (Key other) pre own rest can past = tt
can_more version (Key key) (Number n) pre own rest can past = absurd past
can_more version (Number n) (Key key) pre own rest can past = absurd past
can_more version (Number n) (Number k) pre own rest can past = search (rules, length-append)

module _ (sought : Sought) (m : List Pair) (version : Version) (level : ℕ)
    (trees : List (Tree level)) (there next : Sought) (reference : List ℕ)
    (c : ChosenIn version level trees there next reference) where
  abbrev pre : List Pair
  pre = flat_map (pairs_below level) c.before

  abbrev own : List Pair
  own = pairs_below level c.child

  abbrev back : List Pair
  back = flat_map (pairs_below level) c.after

  pub parts : flat_map (pairs_below level) trees ≡ pre ++ (own ++ back)
  parts = search (rules, flat_map-append)

  pub stands_below : StandsIn sought m there (flat_map (pairs_below level) trees) →
      StandsIn sought m next own
  stands_below s = grind (arith, parts, past_more, append_assoc)

  pub can_below : CanCount version there (flat_map (pairs_below level) trees) →
      CanCount version next own
  can_below can = search (rules, can_more, parts)

-- ---- at the end

-- In the pairs of a leaf.
pub tells_leaf : (sought there : Sought) (m pairs : List Pair) → Rises m →
    StandsIn sought m there pairs → Tells sought m there pairs
tells_leaf (Key key) (Number n) m pairs rising s = absurd s.past
tells_leaf (Number n) (Key key) m pairs rising s = absurd s.past
tells_leaf (Key key) (Key other) m pairs rising s = search (rules, find_in_part, first_in_part)
tells_leaf (Number n) (Number k) m pairs rising s = search (rules, nth_back, nth_front)

-- At a node, behind all of whose pairs it is.
pub tells_none : (sought there : Sought) (m pairs : List Pair) → StandsIn sought m there pairs →
    AllPast there pairs → Tells sought m there []
tells_none sought there m pairs s all =
    search (rules, all_append, find_over, none_from, slice_get_past, length-append)

-- ---- the ways of look-ups down a tree, for who knows the root alone

module _ (version : Version) (cs : List (List ℕ)) where
  lifted : (chunk : List ℕ) (chunks : List (List ℕ)) → Clash chunks cs → Clash (chunk ∷ chunks) cs
  lifted chunk chunks c = grind arith

  module _ (m : List Pair) (sought : Sought) where
    -- a look-up has come to the top of this tree
    pub record IsAt (there : Sought) (level : ℕ) (t : Tree level) : Type 0 where
      pub of : IsTreeOf version cs level t
      pub stands : StandsIn sought m there (pairs_below level t)
      pub can : CanCount version there (pairs_below level t)

    -- and goes on at this one, one level lower
    pub record GoesTo (next : Sought) (reference : List ℕ) (above : ℕ) : Type 0 where
      pub level : ℕ
      pub t : Tree level
      pub lower : above ≡ suc level
      pub named : reference ≡ reference_of (bytes_of version level t)
      pub at : IsAt next level t

    -- A look-up that goes on from the top of a tree goes to one below it.
    pub goes_to : (there next : Sought) (reference : List ℕ) (level : ℕ) (t : Tree level) →
        IsAt there level t → LeadsOn there (kind_of version (bytes_of version level t)) reference
        next → GoesTo next reference level
    goes_to there next reference zero leaf at on = absurd on
    goes_to there next reference (suc level) ts at on =
        let c = chosen version level ts there next reference
        (rises (pairs_below (suc level) ts) at.of.rising) at.of.full at.can
        (ap (λ cs. option_map reference_and_sought (child_sought there cs))
        (sym (children_are version level ts at.of.lawful)) ∙ on) in
        record {
          level = level;
          t = c.child;
          lower = refl;
          named = c.named;
          at = record {
            of = child_is version cs level c.before c.after c.child
                (subst (IsTreeOf version cs (suc level)) c.is at.of);
            stands = stands_below sought m version level ts there next reference c at.stands;
            can = can_below sought m version level ts there next reference c at.can;
          };
        }

    -- or ends there
    tells_end : Rises m → (there : Sought) (level : ℕ) (t : Tree level) → IsAt there level t →
        EndsAt there (kind_of version (bytes_of version level t)) →
        Tells sought m there (pairs_held (bytes_of version level t))
    tells_end rising there zero leaf at ends = search (rules, own_pairs, tells_leaf)
    tells_end rising there (suc level) ts at ends =
        tells_none sought there m (pairs_below (suc level) ts) at.stands
        (none_chosen version level ts there (rises (pairs_below (suc level) ts) at.of.rising) at.can
        (ap (child_sought there) (sym (children_are version level ts at.of.lawful)) ∙ ends))

    -- what is found at the end of a way is what the map has, or there is a clash
    abbrev pub Right : Sought → List (List ℕ) → List Pair → Type 0
    Right end chunks pairs = Tells sought m end pairs ⊎ Clash chunks cs

    pub right : Rises m → (before : List (List ℕ)) (last reference from : List ℕ)
        (there end : Sought) (level : ℕ) (t : Tree level) →
        from ≡ reference_of (bytes_of version level t) → IsAt there level t →
        Lead version there from before reference end → IsNamed version reference last →
        EndsAt end (kind_of version last) → Right end (before ++ last ∷ []) (pairs_held last)
    right rising [] last reference from there end level t is at lead named ends =
        elim (top_or_clash version cs level t last (last ∷ []) at.of.has (inl refl)
        (named.is ∙ sym lead.0 ∙ is)) [
          | inl e ↦ inl (subst (λ c. Tells sought m end (pairs_held c)) (sym e)
              (subst (λ s. Tells sought m s (pairs_held (bytes_of version level t))) lead.1
              (tells_end rising there level t at
              (subst (λ s. EndsAt s (kind_of version (bytes_of version level t))) (sym lead.1)
              (subst (λ c. EndsAt end (kind_of version c)) e ends)))))
          | inr clash ↦ inr clash
        ]
    right rising (chunk ∷ before) last reference from there end level t is at lead named ends =
        elim (top_or_clash version cs level t chunk (chunk ∷ (before ++ last ∷ [])) at.of.has (inl refl)
        (lead.0.is ∙ is)) [
          | inl e ↦
              let to = goes_to there lead.2 lead.1 level t at
              (subst (λ c. LeadsOn there (kind_of version c) lead.1 lead.2) e lead.3) in
              elim (right rising before last reference lead.1 lead.2 end to.level to.t to.named
              to.at lead.4 named ends) [
                | inl tells ↦ inl tells
                | inr clash ↦ inr (lifted chunk (before ++ last ∷ []) clash)
              ]
          | inr clash ↦ inr clash
        ]

-- ---- from the root of a map

-- The last chunk of a way tells what the map does, or there is a clash.
pub way_right : (version : Version) (bits : ℕ) (m : List Pair) (sought : Sought)
    (chunks : List (List ℕ)) → IsMap m → AllByRecursion IsPair m → CanCount version sought m →
    (w : IsWayTo version (root_reference (sha512_cut bits) version m) sought chunks) →
    Tells sought m w.there (pairs_held w.last) ⊎ Clash chunks (chunk_bytes version bits m)
way_right version bits m sought chunks rising lawful can w =
    let root = tree_of (sha512_cut bits) version m in
    let cs = chunk_bytes version bits m in
    let same : pairs_below root.level root.tree ≡ m = pairs_are (sha512_cut bits) version m in
    subst (λ xs. Tells sought m w.there (pairs_held w.last) ⊎ Clash xs cs) (sym w.are)
    (right version cs m sought (rises m rising) w.before w.last w.reference
    (reference_of (bytes_of version root.level root.tree)) sought w.there root.level root.tree refl
    (record {
      of = root_is version bits m lawful rising;
      stands = stands_in_all sought m (pairs_below root.level root.tree) same;
      can = subst (CanCount version sought) (sym same) can;
    }) w.lead w.named w.ends)

pub ways_are_right : WaysAreRight
ways_are_right version bits m key chunks value rising lawful w =
    elim (way_right version bits m (Key key) chunks rising lawful tt w.way) [
      | inl tells ↦ inl (w.value_is ∙ tells.0)
      | inr clash ↦ inr clash
    ]

pub scans_are_right : ScansAreRight
scans_are_right version bits m key chunks found rising lawful w =
    elim (way_right version bits m (Key key) chunks rising lawful tt w.way) [
      | inl tells ↦ inl (subst (AreFirstFrom key m) (sym w.found_is) tells.1)
      | inr clash ↦ inr clash
    ]

pub count_ways_are_right : CountWaysAreRight
count_ways_are_right bits m n chunks pair few rising lawful w =
    elim (way_right Two bits m (Number n) chunks rising lawful (refl, few) w.way) [
      | inl tells ↦ inl (w.pair_is ∙ tells)
      | inr clash ↦ inr clash
    ]

-- ---- scans that go on leaf by leaf, for who knows the root alone

module _ (cs : List (List ℕ)) where
  clash_front : (way : List (List ℕ)) (ways : List (List (List ℕ))) → Clash way cs →
      Clash (joined (way ∷ ways)) cs
  clash_front way ways c = grind (arith, in_front)

  clash_back : (way : List (List ℕ)) (ways : List (List (List ℕ))) → Clash (joined ways) cs →
      Clash (joined (way ∷ ways)) cs
  clash_back way ways c = grind (arith, in_back)

-- Pairs that were found before the others.
one_more : (from : List ℕ) (m found : List Pair) (lists : List (List Pair)) →
    AreFirstFrom from m found → HaveFirstFrom (from_behind from found) m lists →
    HaveFirstFrom from m (found ∷ lists)
one_more from m [] [] first rest = grind (arith, common_steps)
one_more from m [] (more ∷ lists) first rest = grind (arith, common_steps)
one_more from m (p ∷ ps) [] first rest = grind (arith, append_assoc)
one_more from m (p ∷ ps) (more ∷ lists) first rest = grind (arith, append_assoc)

pub scans_go_on : ScansGoOn
scans_go_on version bits m from [] [] rising lawful scanned = grind arith
scans_go_on version bits m from [] (way ∷ ways) rising lawful scanned = absurd scanned
scans_go_on version bits m from (found ∷ lists) [] rising lawful scanned = absurd scanned
scans_go_on version bits m from (found ∷ lists) (way ∷ ways) rising lawful scanned =
    let cs = chunk_bytes version bits m in
    elim (scans_are_right version bits m from way found rising lawful scanned.0) [
      | inl first ↦
          elim (scans_go_on version bits m (from_behind from found) lists ways rising lawful
          scanned.1) [
            | inl rest ↦ inl (one_more from m found lists first rest)
            | inr clash ↦ inr (clash_back cs way ways clash)
          ]
      | inr clash ↦ inr (clash_front cs way ways clash)
    ]

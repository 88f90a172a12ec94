-- That the proof of a set of keys has no fault in the chunk file of a lawful content.
use Rattle.std.proofs.Common.{◌≡◌, ◌∙◌, ◌-◌, ℕ, zero, suc, List, [], ◌∷◌, ◌++◌, length, map, Some, None}
use Rattle.std.proofs.Common.{Option, ◌⊎◌, Err, inl, inr, refl, sym, ap, subst, arith, append_assoc}
use Rattle.std.specs.List.{AllByRecursion}
use Rattle.std.proofs.lemmas.List.{length-append}
use Rattle.std.proofs.lemmas.Simd.{map-map}
use Rattle.prolly_look_up.specs.Content.{chunks_of, Content}
use Rattle.prolly_look_up.specs.Kinds.{Entries, kind_of}
use Rattle.prolly_look_up.specs.Kinds.Entries.{Node}
use Rattle.prolly_look_up.specs.MapTree.{ChildIsTree, IsTreeOf, RootIsTree, TopIsRead, child_of}
use Rattle.prolly_look_up.specs.MapTree.{entries_below}
use Rattle.prolly_look_up.specs.Way.{FallsTo, level_of}
use Rattle.prolly_entry.specs.Cut.{sha512_cut}
use Rattle.prolly_entry.specs.declared.version.Version.{Version}
use Rattle.prolly_entry.specs.lemmas.Lists.{all_append, head_is, tail_is}
use Rattle.prolly_entry.specs.lemmas.Overlays.{some_none}
use Rattle.prolly_tree.specs.File.{root_reference}
use Rattle.prolly_tree.specs.Tree.{Tree, bytes_of, greatest_key}
use Rattle.prolly_root.specs.ChunkFile.{ChunkFile, IsLawful, chunk_file, file_fault}
use Rattle.prolly_root.specs.FileTrees.{IsChildNumber, IsTreeAt}
use Rattle.prolly_root.specs.Path.{IsPath}
use Rattle.prolly_root.specs.RootFault.{MayFail}
use Rattle.prolly_root.specs.declared.root_fault.RootFault.{RootFault}
use Rattle.prolly_root.specs.lemmas.FileTrees.{child_among, top_nth, top_number}
use Rattle.prolly_root.specs.lemmas.FileTrees.{tree_found}
use Rattle.prolly_root.specs.lemmas.LawfulFiles.{IsTopDue, entries_there, level_there, no_fault_there}
use Rattle.prolly_root.specs.lemmas.LawfulFiles.{no_file_fault, root_due}
use Rattle.prolly_root.specs.lemmas.FileTrees.{level_is}
use Rattle.prolly_range.specs.FirstFault.{AreChildren, DueAt, GoesOn, IsFaultAt, IsFirstSetFault, LacksOne}
use Rattle.prolly_range.specs.FirstFault.{LawfulFilesHaveProofs, StopsWith, TellsFirstFault}
use Rattle.prolly_range.specs.FirstFault.{chunk_at, numbers_met}
use Rattle.prolly_range.specs.FirstFault.{root_at as root_due_at}
use Rattle.prolly_range.specs.KeySet.{KeySet, Met, met_first, met_in, part_behind, part_below}
use Rattle.prolly_range.specs.Places.{TellsRest}
use Rattle.prolly_range.specs.Prover.{MayFailTo}
use Rattle.prolly_range.specs.SetProof.{Due, child_due, due_below}
use Rattle.prolly_range.specs.declared.prove_fault.ProveFault.{ProveFault}
use Rattle.prolly_range.specs.declared.prove_fault.ProveFault.TheVariants as faults
use Rattle.prolly_range.proofs.Taking.{as_child, met_children}

-- ---- the children of a node that are met

module _ (level : ℕ) where
  -- each is the one of its number
  abbrev AreNumbered : List (Tree level) → List (Met (Tree level)) → Type 0
  AreNumbered ts ms = AllByRecursion (λ m. IsChildNumber level ts m.number m.item) ms

  first_numbered : (ts : List (Tree level)) (number : ℕ) (t : Tree level) (part : Option KeySet)
      (others : List (Met (Tree level))) → IsChildNumber level ts number t →
      AreNumbered ts others → AreNumbered ts (met_first number t part others)
  first_numbered ts number t None others at each = each
  first_numbered ts number t (Some part) others at each = (at, each)

  numbered : (front after : List (Tree level)) (number : ℕ) (part : Option KeySet) →
      length front ≡ number →
      AreNumbered (front ++ after) (met_in (greatest_key level) number part after)
  numbered front after number None at = tt
  numbered front [] number (Some set) at = tt
  numbered front (t ∷ after) number (Some set) at =
      let key = greatest_key level t in
      let same : (front ++ t ∷ []) ++ after ≡ front ++ t ∷ after =
      append_assoc front (t ∷ []) after in
      first_numbered (front ++ t ∷ after) number t (part_below set key)
      (met_in (greatest_key level) (suc number) (part_behind set key) after)
      (record { front = front; after = after; are = refl; number_is = at })
      (subst (λ ts. AreNumbered ts (met_in (greatest_key level) (suc number)
      (part_behind set key) after)) same (numbered (front ++ t ∷ []) after (suc number)
      (part_behind set key) (omega (arith, at, length-append front (t ∷ [])))))

-- ---- one chunk behind another

module _ (content : Content) (child_tree : ChildIsTree content.version)
    (read : TopIsRead content.version) where
  abbrev version : Version
  version = content.version

  abbrev file : ChunkFile
  file = chunk_file content

  -- the chunk that is due is the top of a tree, and stands there
  abbrev StandsAtTree : DueAt → Type 0
  StandsAtTree at = IsTopDue content at.due.reference at.due.above at.number at.from

  module _ (level : ℕ) (ts : List (Tree level)) (n from : ℕ)
      (below : IsTreeOf version (chunks_of content) (suc level) ts)
      (stands : IsTreeAt content (suc level) ts n from) where
    abbrev due_of : Met (Tree level) → Due
    due_of m = child_due (suc level) (as_child version level m)

    -- so are its children that are met
    trees_below : (ms : List (Met (Tree level))) → AreNumbered level ts ms → (qs : List DueAt) →
        map (λ d. d.due) qs ≡ map due_of ms →
        AreChildren file level from (map (λ m. m.number) ms) qs → AllByRecursion StandsAtTree qs
    trees_below [] each [] e are = tt
    trees_below [] each (q ∷ qs) e are = absurd are
    trees_below (m ∷ ms) each [] e are = absurd are
    trees_below (m ∷ ms) each (q ∷ qs) e are =
        let same : q.due ≡ due_of m = head_is _ _ _ _ e in (
          record {
            level = level;
            t = m.item;
            below = child_tree (chunks_of content) level each.0.front each.0.after m.item
                (subst (IsTreeOf version (chunks_of content) (suc level)) each.0.are below);
            named = ap (λ d. d.reference) same;
            stands = tree_found (child_among stands each.0) are.0 are.1;
            falls = subst (λ d. FallsTo d.above (bytes_of version level m.item)) (sym same)
                (ap suc (sym (level_is version level m.item)));
          },
          trees_below ms each.1 qs (tail_is _ _ _ _ e) are.2,
        )

    -- and none of them is missing
    none_missing : (ms : List (Met (Tree level))) → AreNumbered level ts ms →
        LacksOne file level from (map (λ m. m.number) ms) → ⊥
    none_missing [] each lacks = lacks
    none_missing (m ∷ ms) each (inl none) =
        none (top_number (child_among stands each.0)) (top_nth (child_among stands each.0))
    none_missing (m ∷ ms) each (inr more) = none_missing ms each.1 more

  module _ (at : DueAt) (s : StandsAtTree at) where
    abbrev Below : ℕ → Entries → List DueAt → Type 0
    Below level entries qs = map (λ d. d.due) qs ≡ due_below level at.due.set entries →
        AreChildren file (level - 1) at.from (numbers_met at.due.set entries) qs →
        AllByRecursion StandsAtTree qs

    stand_below : (qs : List DueAt) →
        Below (level_of (chunk_at file at)) (kind_of version (chunk_at file at)) qs
    stand_below qs = subst (λ l. Below l (kind_of version (chunk_at file at)) qs) (sym (level_there s))
        (subst (λ entries. Below s.level entries qs) (sym (entries_there s read))
        (by_level s.level s.t s.below s.stands qs))
      where
        by_level : (level : ℕ) (t : Tree level) → IsTreeOf version (chunks_of content) level t →
            IsTreeAt content level t at.number at.from → (qs : List DueAt) →
            Below level (entries_below version level t) qs
        by_level zero t below stands [] e are = tt
        by_level zero t below stands (q ∷ qs) e are = absurd are
        by_level (suc level) ts below stands qs e are =
            let ms = met_in (greatest_key level) 0 (Some at.due.set) ts in
            let met = met_children version level 0 (Some at.due.set) ts in
            trees_below level ts at.number at.from below stands ms
            (numbered level [] ts 0 (Some at.due.set) refl) qs
            (e ∙ ap (map (child_due (suc level))) met ∙
            map-map (child_due (suc level)) (as_child version level) ms)
            (subst (λ ns. AreChildren file level at.from ns qs)
            (ap (map (λ m. m.number)) met ∙
            map-map (λ m. m.number) (as_child version level) ms)
            (subst (λ l. AreChildren file l at.from (numbers_met at.due.set
            (Node (map (child_of version level) ts))) qs) (one_less level) are))
          where
            one_less : (n : ℕ) → suc n - 1 ≡ n
            one_less n = omega arith

    abbrev Lacks : ℕ → Entries → Type 0
    Lacks level entries = LacksOne file (level - 1) at.from (numbers_met at.due.set entries) → ⊥

    all_there : Lacks (level_of (chunk_at file at)) (kind_of version (chunk_at file at))
    all_there = subst (λ l. Lacks l (kind_of version (chunk_at file at))) (sym (level_there s))
        (subst (Lacks s.level) (sym (entries_there s read)) (by_level s.level s.t s.below s.stands))
      where
        by_level : (level : ℕ) (t : Tree level) → IsTreeOf version (chunks_of content) level t →
            IsTreeAt content level t at.number at.from → Lacks level (entries_below version level t)
        by_level zero t below stands lacks = lacks
        by_level (suc level) ts below stands lacks =
            let ms = met_in (greatest_key level) 0 (Some at.due.set) ts in
            none_missing level ts at.number at.from below stands ms
            (numbered level [] ts 0 (Some at.due.set) refl)
            (subst (LacksOne file level at.from)
            (ap (map (λ m. m.number)) (met_children version level 0 (Some at.due.set) ts) ∙
            map-map (λ m. m.number) (as_child version level) ms)
            (subst (λ l. LacksOne file l at.from (numbers_met at.due.set
            (Node (map (child_of version level) ts)))) (one_less level) lacks))
          where
            one_less : (n : ℕ) → suc n - 1 ≡ n
            one_less n = omega arith

  -- ---- and so on

  abbrev AllStand : List DueAt → Type 0
  AllStand due = AllByRecursion StandsAtTree due

  steps_on : (old new : List DueAt) → AllStand old → GoesOn version file old new → AllStand new
  steps_on old new all g =
      let both : StandsAtTree g.first × AllStand g.others = subst AllStand g.was all in
      subst AllStand (sym g.is) (all_append StandsAtTree g.below g.others
      (stand_below g.first both.0 g.below g.dues g.stand) both.1)

  no_stop : (due : List DueAt) (fault : RootFault) → AllStand due →
      StopsWith version file due fault → ⊥
  no_stop due fault all stops = none stops.why
    where
      both : StandsAtTree stops.first × AllStand stops.others
      both = subst AllStand stops.was all

      none : IsFaultAt version file stops.first fault → ⊥
      none (inl flawed) = no_fault_there both.0 read fault flawed
      none (inr lacks) = all_there stops.first both.0 lacks.1

  none_on_path : (due : List DueAt) (steps : List (List DueAt)) (last : List DueAt)
      (fault : RootFault) → AllStand due → IsPath (GoesOn version file) due steps last →
      StopsWith version file last fault → ⊥
  none_on_path due [] last fault all leads stops =
      no_stop due fault all (subst (λ d. StopsWith version file d fault) (sym leads) stops)
  none_on_path due (next ∷ steps) last fault all leads stops =
      none_on_path next steps last fault (steps_on due next all leads.0) leads.1 stops

  pub no_set_fault : RootIsTree → IsLawful content → (set : KeySet) (fault : RootFault) →
      IsFirstSetFault version file
      (root_reference (sha512_cut content.bits) content.version content.pairs) set fault → ⊥
  no_set_fault root_tree_is f set fault (inl told) =
      some_none fault (sym told ∙ no_file_fault f refl)
  no_set_fault root_tree_is f set fault (inr way) = none_on_path
      (root_due_at file (root_reference (sha512_cut content.bits) content.version content.pairs) set
      ∷ []) way.1.steps way.1.last fault (root_due root_tree_is f, tt) way.1.leads way.1.stops

-- ---- what is told

-- what is told of the chunks that are due is told of the file
pub rest_told : (version : Version) (file : ChunkFile) (root : List ℕ) (set : KeySet) →
    file_fault version file ≡ None → (fault : ProveFault) →
    TellsRest {C = Unit {0}} version file (root_due_at file root set ∷ []) (Err fault) →
    TellsFirstFault version file root set fault
rest_told version file root set fine (faults.Chunks fault) (inl may) = inl may
rest_told version file root set fine (faults.Chunks fault) (inr stops) = inr (inr (fine, stops))
rest_told version file root set fine faults.Write told = tt

-- so is what is told before the first of them
pub root_told : {version : Version} {file : ChunkFile} {root : List ℕ} {set : KeySet}
    {fault : RootFault} → MayFail fault ⊎ (file_fault version file ≡ Some fault) →
    MayFail fault ⊎ IsFirstSetFault version file root set fault
root_told (inl may) = inl may
root_told (inr told) = inr (inl told)

-- of a lawful file no fault is told, but for those of memory, of reads and of writes
pub only_fails : {version : Version} {content : Content} {root : List ℕ} (set : KeySet) →
    LawfulFilesHaveProofs → IsLawful content → version ≡ content.version →
    root ≡ root_reference (sha512_cut content.bits) content.version content.pairs →
    (fault : ProveFault) → TellsFirstFault version (chunk_file content) root set fault →
    MayFailTo fault
only_fails set law f same named (faults.Chunks fault) (inl may) = may
only_fails {version = version} {content = content} set law f same named (faults.Chunks fault)
    (inr first) =
    absurd (law content set fault f
    (subst (λ v. IsFirstSetFault v (chunk_file content)
    (root_reference (sha512_cut content.bits) content.version content.pairs) set fault) same
    (subst (λ r. IsFirstSetFault version (chunk_file content) r set fault) named first)))
only_fails set law f same named faults.Write told = tt

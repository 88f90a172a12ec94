-- A run of the stage, from its first leaf to its end.
use Rattle.std.proofs.Common.{◌≡◌, Bool, false, List, [], ◌∷◌, ◌++◌, Option}
use Rattle.std.proofs.Common.{map, refl, sym, ap, ◌∙◌, subst, append-nil, append_assoc}
use Rattle.std.proofs.lemmas.List.Concat.{flat_map-append}
use Rattle.std.specs.Option.{option_to_list}
use Rattle.prolly_entry.specs.declared.version.Version.{Version}
use Rattle.prolly_entry.specs.Cut.{Cut}
use Rattle.prolly_entry.specs.Overlay.{AllRising}
use Rattle.prolly_entry.specs.Pair.{Pair}
use Rattle.prolly_entry.specs.Record.{Record}
use Rattle.prolly_tree.specs.Chunk.{Chunk, chunk_of}
use Rattle.prolly_tree.specs.Events.{faulty, leaf_events}
use Rattle.prolly_tree.specs.Merge.{merged_part, stop, stop_fault}
use Rattle.prolly_tree.specs.Tree.{pair_is_boundary}
use Rattle.prolly_laws.specs.Splits.{closed_parts}
use Rattle.prolly_link.specs.Progress.{HasEnded, end_given}
use Rattle.prolly_link.specs.declared.fault.RunFault.{RunFault}
use Rattle.prolly_link.specs.declared.message.End.{End}
use Rattle.prolly_link.specs.declared.message.End.TheVariants.{Clean, Fault}
use Rattle.prolly_link.specs.declared.message.Progress.{Progress}
use Rattle.prolly_merge.specs.Head.{in_hand}
use Rattle.prolly_merge.specs.Inputs.{end_of, fault_in, lists_of}
use Rattle.prolly_merge.specs.Places.{Place, after}
use Rattle.prolly_merge.specs.declared.heads.Head.{Head}
use Rattle.prolly_merge.specs.declared.heads.Head.TheVariants.{Ended}
use Rattle.prolly_chunk.specs.LeafLevel.{LeafBegins, LeafEnds, LeafState}
use Rattle.prolly_apply.specs.Applied.{EndsClean, MayBe, RefusesAt, StopsAt}
use Rattle.prolly_apply.specs.Cutting.{Admits, AreCut, AreSeen, IsAdmitted, RestAreCut, Seen}
use Rattle.prolly_apply.specs.Taking.{Any, IsCutAs, May, Over, SentFirst, StopsBy, StopsInFront}
use Rattle.prolly_apply.specs.Taking.{StopsInRest, TakesFront, TakesRest, Took, at, both}
use Rattle.prolly_apply.specs.Taking.{pairs_of, whole}
use Rattle.prolly_apply.specs.declared.cutting.Cutting.{Cutting}
use Rattle.prolly_apply.specs.declared.stop.Stop.{Stop}
use Rattle.prolly_apply.specs.declared.stop.Stop.TheVariants as stops
use Rattle.prolly_apply.proofs.Cuttings.{leaf_is_cut, refused_is_wrong, rest_front}
use Rattle.prolly_apply.proofs.Steps.{both_ended, changes_stay, gives_up, old_failed, old_goes}
use Rattle.prolly_apply.proofs.Steps.{old_stays, stops_by}

pairs_one : (leaves : List (List Pair)) (leaf : List Pair) →
    pairs_of (leaves ++ leaf ∷ []) ≡ pairs_of leaves ++ leaf
pairs_one leaves leaf = flat_map-append (λ l. l) leaves (leaf ∷ [])
    ∙ ap (λ ps. pairs_of leaves ++ ps) (append-nil leaf)

-- What changes gave in two stretches, as their place.
pub place_moves : (h xs ys both : List Record) (head : Head) → both ≡ xs ++ ys →
    at (h ++ both) head ≡ at ((h ++ xs) ++ ys) head
place_moves h xs ys both head e = ap (λ rs. at rs head)
    (ap (λ rs. h ++ rs) e ∙ sym (append_assoc h xs ys))

-- ---- fewer may be left

stops_fewer : (cut : Cut) (before : List Chunk) (gone : List Pair) (place : Place) (may may' : May)
    (stop : Stop) (sent : List Chunk) →
    ((m : List Pair) (f : Option RunFault) → may' m f → may m f) →
    StopsBy cut before gone place may stop sent → StopsBy cut before gone place may' stop sent
stops_fewer cut before gone place may may' stop sent weaker h = go stop h
  where
    first : SentFirst cut before gone place may sent → SentFirst cut before gone place may' sent
    first h = record {
      pairs = h.pairs;
      events = h.events;
      first = λ m f more k fit rising. h.first m f more (weaker m f k) fit rising;
    }

    go : (stop : Stop) → StopsBy cut before gone place may stop sent →
        StopsBy cut before gone place may' stop sent
    go stops.Memory h = first h
    go (stops.Fault g) h = record {
      pairs = h.pairs;
      events = h.events;
      all = λ m f more k fit rising. h.all m f more (weaker m f k) fit rising;
    }

module _ {C : Type 0} (cut_of : C → Cut) where
  took_fewer : (cut : C) (before : List Chunk) (gone : List Pair) (place : Place) (may may' : May)
      (level : LeafState C) (sent : List Chunk) →
      ((m : List Pair) (f : Option RunFault) → may' m f → may m f) →
      Took cut_of cut before gone place may level sent →
      Took cut_of cut before gone place may' level sent
  took_fewer cut before gone place may may' level sent weaker t = record {
    pairs = t.pairs;
    state = t.state;
    events = t.events;
    over = λ m f more k fit rising. t.over m f more (weaker m f k) fit rising;
  }

  -- ---- the beginning

  pub took_begins : (cut : C) (level : LeafState C) (sent : List Chunk) (head : Head)
      (received : List Record) → LeafBegins cut_of cut level → received ≡ in_hand head →
      Took cut_of cut sent [] (at received head) Any level sent
  took_begins cut level sent head received b e = record {
    pairs = [];
    state = b.state;
    events = λ version. sym (append-nil sent) ∙ ap (λ es. sent ++ es) (sym (b.events version));
    over = λ m f more k fit rising. record {
      merged = ap (λ rs. merged_part (both m f (after rs more))) e;
      fault = ap (λ rs. stop_fault (stop (both m f (after rs more)))) e;
      rising = subst (λ rs. AllRising (lists_of (both m f (after rs more)))) e rising;
    };
  }

  no_events : (cut : C) (version : Version) → leaf_events (cut_of cut) version faulty [] ≡ []
  no_events cut version = ap (λ gs. map (chunk_of version 0) gs)
      (closed_parts (pair_is_boundary (cut_of cut)) 1 [] [] tt tt)

  -- Memory was refused before the first leaf.
  pub begins_refused : (cut : C) (leaves : List (List Pair)) (progress : Progress) (place : Place)
      (sent : List Chunk) → leaves ≡ [] →
      StopsAt (cut_of cut) leaves progress place sent stops.Memory sent
  begins_refused cut leaves progress place sent e rest = record {
    pairs = [];
    events = λ version. sym (append-nil sent) ∙ ap (λ es. sent ++ es)
        (sym (no_events cut version));
    first = λ m f more k fit rising. (merged_part (whole (pairs_of leaves) place m f more), refl);
  }

  -- ---- one leaf

  module _ (cut : C) (before : List Chunk) (leaves leaves' : List (List Pair)) (leaf : List Pair)
      (are : leaves' ≡ leaves ++ leaf ∷ []) (place place' : Place) (got : List Record)
      (moved : place' ≡ at (place.received ++ got) place'.head) (level level' : LeafState C)
      (sent sent' : List Chunk) (old new : Cutting) (seen : Seen (cut_of cut) leaves old)
      (took : RestAreCut (cut_of cut) leaves →
      Took cut_of cut before (pairs_of leaves) place Any level sent) where
    gone_is : pairs_of leaves ++ leaf ≡ pairs_of leaves'
    gone_is = sym (pairs_one leaves leaf) ∙ ap pairs_of (sym are)

    fewer : RestAreCut (cut_of cut) leaves' → RestAreCut (cut_of cut) leaves
    fewer rest = rest_front (cut_of cut) leaves (leaf ∷ []) (subst (RestAreCut (cut_of cut)) are rest)

    pub run_more : (ends : Bool) → IsAdmitted (cut_of cut) leaf old new → ends ≡ new.ended →
        TakesFront cut_of (IsCutAs ends leaf) leaf level level' sent sent' place.head got
        place'.head → RestAreCut (cut_of cut) leaves' →
        Took cut_of cut before (pairs_of leaves') place' Any level' sent'
    run_more ends a same takes rest =
        subst (λ q. Took cut_of cut before (pairs_of leaves') q Any level' sent') (sym moved)
        (subst (λ g. Took cut_of cut before g (at (place.received ++ got) place'.head) Any level'
        sent') gone_is
        (takes cut before (pairs_of leaves) place.received
        (leaf_is_cut (cut_of cut) leaves leaf old new ends seen a same
        (subst (RestAreCut (cut_of cut)) are rest)) (took (fewer rest))))

    pub run_stops : (ends : Bool) (progress : Progress) (stop : Stop) →
        IsAdmitted (cut_of cut) leaf old new → ends ≡ new.ended →
        StopsInFront cut_of (IsCutAs ends leaf) leaf level sent stop sent' place.head got
        place'.head → RestAreCut (cut_of cut) leaves' →
        StopsBy (cut_of cut) before (pairs_of leaves') place' (MayBe progress) stop sent'
    run_stops ends progress stop a same takes rest =
        stops_fewer (cut_of cut) before (pairs_of leaves') place' Any (MayBe progress) stop sent'
        (λ m f h. tt)
        (subst (λ q. StopsBy (cut_of cut) before (pairs_of leaves') q Any stop sent') (sym moved)
        (subst (λ g. StopsBy (cut_of cut) before g (at (place.received ++ got) place'.head) Any stop
        sent') gone_is
        (takes cut before (pairs_of leaves) place.received
        (leaf_is_cut (cut_of cut) leaves leaf old new ends seen a same
        (subst (RestAreCut (cut_of cut)) are rest)) (took (fewer rest)))))

    -- The leaf is refused.
    pub run_refused : (progress : Progress) → Admits (cut_of cut) leaf old new false →
        RefusesAt (cut_of cut) leaves' progress place before sent
    run_refused progress a = record {
      first = λ rest. stops_fewer (cut_of cut) before (pairs_of leaves') place Any (MayBe progress)
          stops.Memory sent (λ m f h. tt)
          (subst (λ g. SentFirst (cut_of cut) before g place Any sent) gone_is
          (gives_up cut_of cut before (pairs_of leaves) (pairs_of leaves ++ leaf) place place Any Any
          (old_goes (pairs_of leaves) leaf) (changes_stay place) level sent sent (took (fewer rest))
          refl));
      wrong = λ more h. refused_is_wrong (cut_of cut) leaves leaf old new more seen a
          (subst (λ ls. AreCut (cut_of cut) (ls ++ more)) are h);
    }

  -- ---- the end of the old tree

  module _ (cut : C) (before : List Chunk) (leaves leaves' : List (List Pair))
      (are : leaves' ≡ leaves) (progress : Progress) (end : End) (ended : HasEnded progress)
      (is : end_given progress ≡ end) (place : Place) (level : LeafState C) (sent : List Chunk)
      (took : RestAreCut (cut_of cut) leaves →
      Took cut_of cut before (pairs_of leaves) place Any level sent) where
    over : (m : List Pair) (f : Option RunFault) → MayBe progress m f → Over end m f
    over m f h = let both = h ended in (both.0, both.1 ∙ ap fault_in is)

    took_all : RestAreCut (cut_of cut) leaves' →
        Took cut_of cut before (pairs_of leaves') place Any level sent
    took_all rest = subst (λ ls. Took cut_of cut before (pairs_of ls) place Any level sent) (sym are)
        (took (subst (RestAreCut (cut_of cut)) are rest))

    pub took_over : RestAreCut (cut_of cut) leaves' →
        Took cut_of cut before (pairs_of leaves') place (Over end) level sent
    took_over rest = took_fewer cut before (pairs_of leaves') place Any (Over end) level sent
        (λ m f h. tt) (took_all rest)

    -- It is a fault.
    pub old_stops : (fault : RunFault) → end ≡ Fault fault →
        StopsAt (cut_of cut) leaves' progress place before (stops.Fault fault) sent
    old_stops fault e rest =
        stops_fewer (cut_of cut) before (pairs_of leaves') place (Over end)
        (MayBe progress) (stops.Fault fault) sent over
        (stops_by cut_of cut before (pairs_of leaves') (pairs_of leaves') place place (Over end)
        (Over end) (old_stays (pairs_of leaves') (Over end) (Over end) (λ m f h. h))
        (changes_stay place) level sent fault (took_over rest)
        (λ m f more h k. old_failed m f more place.head fault
        (subst (λ x. Over x m f) e h) k))

    -- The changes that are left were taken, or the stage stopped at them.
    module _ (place' : Place) (got : List Record)
        (moved : place' ≡ at (place.received ++ got) place'.head) (level' : LeafState C)
        (sent' : List Chunk) (clean_end : end ≡ Clean) where
      pub rest_stops : (stop : Stop) →
          StopsInRest cut_of level sent stop sent' place.head got place'.head →
          StopsAt (cut_of cut) leaves' progress place' before stop sent'
      rest_stops stop takes rest =
          stops_fewer (cut_of cut) before (pairs_of leaves') place' (Over Clean)
          (MayBe progress) stop sent' (λ m f h. subst (λ x. Over x m f) clean_end (over m f h))
          (subst (λ q. StopsBy (cut_of cut) before (pairs_of leaves') q (Over Clean) stop sent')
          (sym moved) (takes cut before (pairs_of leaves') place.received
          (subst (λ x. Took cut_of cut before (pairs_of leaves') place (Over x) level sent)
          clean_end (took_over rest))))

      module _ (takes : TakesRest cut_of level level' sent sent' place.head got place'.head) where
        took_rest : RestAreCut (cut_of cut) leaves' →
            Took cut_of cut before (pairs_of leaves') place' (Over Clean) level' sent'
        took_rest rest = subst (λ q. Took cut_of cut before (pairs_of leaves') q (Over Clean) level'
            sent') (sym moved) (takes cut before (pairs_of leaves') place.received
            (subst (λ x. Took cut_of cut before (pairs_of leaves') place (Over x) level sent)
            clean_end (took_over rest)))

        -- Memory was refused for the last leaf.
        pub last_refused : (sent'' : List Chunk) → sent'' ≡ sent' →
            StopsAt (cut_of cut) leaves' progress place' before stops.Memory sent''
        last_refused sent'' e rest =
            stops_fewer (cut_of cut) before (pairs_of leaves') place' (Over Clean)
            (MayBe progress) stops.Memory sent''
            (λ m f h. subst (λ x. Over x m f) clean_end (over m f h))
            (gives_up cut_of cut before (pairs_of leaves') (pairs_of leaves') place' place'
            (Over Clean) (Over Clean)
            (old_stays (pairs_of leaves') (Over Clean) (Over Clean) (λ m f h. h))
            (changes_stay place') level' sent' sent'' (took_rest rest) e)

        -- All was sent.
        pub all_sent : (cutting : Cutting) (closed : Option Chunk) (sent'' : List Chunk) →
            Seen (cut_of cut) leaves cutting → place'.head ≡ Ended Clean →
            LeafEnds cut_of level' closed → sent'' ≡ sent' ++ option_to_list closed →
            EndsClean (cut_of cut) leaves' progress place' before sent''
        all_sent cutting closed sent'' seen head ends e = record {
          sends = λ rest. let t = took_rest rest in record {
            pairs = t.pairs;
            events = λ version. e ∙ ap (λ es. es ++ option_to_list closed) (t.events version)
                ∙ append_assoc before (leaf_events (cut_of cut) version faulty t.pairs)
                (option_to_list closed)
                ∙ ap (λ es. before ++ es) (sym (ends cut version t.pairs t.state));
            all = λ m f more h fit rising.
                let o = subst (λ x. Over x m f) clean_end (over m f h) in
                let step = t.over m f more o fit rising in
                let last = both_ended m f more place'.head o head fit in (
                  step.merged ∙ ap (λ ps. t.pairs ++ ps) last.0 ∙ append-nil t.pairs,
                  ap end_of step.fault ∙ last.1,
                );
          };
          seen = subst (λ ls. AreSeen (cut_of cut) ls) (sym are) seen.are;
          ended = ended;
          clean_end = is ∙ clean_end;
        }

-- What was taken, step by step.
use Rattle.std.proofs.Common.{◌≡◌, ℕ, ◌<◌, Bool, true, false, List, [], ◌∷◌, ◌++◌, length, Option}
use Rattle.std.proofs.Common.{Some, None, inl, inr, refl, sym, ap, ◌∙◌, subst, append-nil, arith}
use Rattle.std.proofs.Common.{append_assoc, cond, map}
use Rattle.std.proofs.lemmas.Result.{IfOk-from_err}
use Rattle.std.specs.Prelude.{Result, Ok, Err, IfErr, OnOk}
use Rattle.std.specs.Option.{option_to_list}
use Rattle.std.specs.Result.{IsErr, IsErrAnd}
use Rattle.std.specs.declared.cmp.Ordering.TheVariants.{Equal}
use Rattle.std.specs.Ordering.{is_eq, is_lt}
use Rattle.prolly_entry.specs.declared.version.Version.{Version}
use Rattle.prolly_entry.specs.declared.version.Version.TheVariants.{One}
use Rattle.prolly_entry.specs.Cut.{Cut}
use Rattle.prolly_entry.specs.Keys.{key_order, KeyBelow, Rising}
use Rattle.prolly_entry.specs.Overlay.{AllRising, NotBelow, change_of, or_else}
use Rattle.prolly_entry.specs.Overlay.{pairs_of_change, pairs_put, rest_after}
use Rattle.prolly_entry.specs.Pair.{Pair}
use Rattle.prolly_entry.specs.Prefix.{IsPrefix}
use Rattle.prolly_entry.specs.Record.{Record, keys_of}
use Rattle.prolly_entry.specs.lemmas.Orders.{below_greater, not_eq_above, order_self}
use Rattle.prolly_entry.specs.lemmas.Orders.{order_trans}
use Rattle.prolly_entry.specs.lemmas.RisingRecords.{AllAbove, is_rising, rising_is}
use Rattle.prolly_tree.specs.Chunk.{Chunk, chunk_of}
use Rattle.prolly_tree.specs.Difference.{IsMap, puts}
use Rattle.prolly_tree.specs.Events.{faulty, leaf_events}
use Rattle.prolly_tree.specs.Merge.{Input, merged_part, stop, stop_fault}
use Rattle.prolly_tree.specs.MergeSteps.{SaysOn, rests}
use Rattle.prolly_tree.specs.Passing.{AllBehind, map_input}
use Rattle.prolly_tree.specs.Tree.{last_key, pair_is_boundary}
use Rattle.prolly_tree.specs.lemmas.Maps.{map_behind}
use Rattle.prolly_laws.specs.Merging.{merged_step}
use Rattle.prolly_laws.specs.Passing.{front_stays_merged}
use Rattle.prolly_link.specs.declared.message.End.TheVariants.{Clean, Fault}
use Rattle.prolly_link.specs.declared.fault.RunFault.{RunFault}
use Rattle.prolly_merge.specs.Head.{Fits, IsFaultIn, in_hand}
use Rattle.prolly_merge.specs.Inputs.{end_of, input_of, lists_of, stop_end}
use Rattle.prolly_merge.specs.lemmas.Stops.{left_is}
use Rattle.prolly_merge.specs.Places.{Place, after}
use Rattle.prolly_merge.specs.Peeked.{Advances}
use Rattle.prolly_merge.specs.declared.heads.Peeked.{Peeked}
use Rattle.prolly_link.specs.Identity.{LinkId}
use Rattle.prolly_link.specs.declared.message.Progress.{Progress}
use Rattle.prolly_merge.specs.declared.heads.Head.{Head}
use Rattle.prolly_merge.specs.declared.heads.Head.TheVariants.{Ready, Ended}
use Rattle.prolly_chunk.specs.LeafLevel.{LeafPasses, LeafState, is_whole_leaf, leaf_level}
use Rattle.prolly_stage.specs.StageStep.{SendsLeaf}
use Rattle.prolly_apply.specs.Taking.{Any, IsCutAs, IsDecided, From, IsBehind, IsChange, May, Merges, Over}
use Rattle.prolly_apply.specs.Taking.{SentAll, SentFirst, Stands, StopsInFront, TakesChange}
use Rattle.prolly_apply.specs.Taking.{StopsBy, StopsInRest, TakesFront, TakesRest}
use Rattle.prolly_apply.specs.Taking.{Stopped, TakesPairs, Took, closes_leaf, at, both, left, whole}
use Rattle.prolly_apply.specs.Cutting.{NoneInside}
use Rattle.prolly_apply.proofs.Cuttings.{last_at, whole_is}
use Rattle.prolly_apply.specs.declared.old_pairs.Standing.{Standing}
use Rattle.prolly_apply.specs.declared.old_pairs.Standing.TheVariants as standings
use Rattle.prolly_apply.specs.declared.stop.Stop.{Stop}
use Rattle.prolly_apply.specs.declared.stop.Stop.TheVariants as stops

-- ---- the two inputs go on

-- What may be left of the old tree behind a step was left before it, behind what was gone then.
abbrev pub OldGoes : List Pair → May → List Pair → May → Type 0
OldGoes gone may gone' may' = (m : List Pair) (fault : Option RunFault) → may' m fault →
    (before : List Pair) × may before fault × (gone ++ before ≡ gone' ++ m)

-- So it is of the changes.
abbrev pub ChangesGo : Place → Place → Type 0
ChangesGo place place' = (more : Input RunFault) → Fits place'.head more →
    (before : Input RunFault) × Fits place.head before ×
    (after place.received before ≡ after place'.received more)

abbrev pub old_stays : (gone : List Pair) (may may' : May) →
    ((m : List Pair) (fault : Option RunFault) → may' m fault → may m fault) →
    OldGoes gone may gone may'
old_stays gone may may' weaker m fault h = (m, weaker m fault h, refl)

abbrev pub old_goes : (gone front : List Pair) → OldGoes gone Any (gone ++ front) Any
old_goes gone front m fault h = (front ++ m, tt, sym (append_assoc gone front m))

abbrev pub pair_goes : (gone : List Pair) (p : Pair) → OldGoes gone (From p) (gone ++ p ∷ []) Any
pair_goes gone p m fault h = (p ∷ m, (m, refl), sym (append_assoc gone (p ∷ []) m))

abbrev pub changes_stay : (place : Place) → ChangesGo place place
changes_stay place more fit = (more, fit, refl)

-- The change in hand was taken, and these were received.
abbrev pub changes_go : (received got : List Record) (r : Record) (head : Head) →
    ChangesGo (at received (Ready r)) (at (received ++ got) head)
changes_go received got r head more fit = (
  after got more,
  tt,
  ap (λ rs. record { records = rs; fault = more.fault })
      (sym (append_assoc received got more.records)),
)

-- Nothing was received.
pub got_nothing : (received got : List Record) (head : Head) → got ≡ [] →
    at (received ++ got) head ≡ at received head
got_nothing received got head e = ap (λ rs. at rs head) (ap (λ g. received ++ g) e ∙
    append-nil received)

-- ---- the level goes on

module _ {C : Type 0} (cut_of : C → Cut) where
  pub takes_none : (level : LeafState C) (sent : List Chunk) →
      TakesPairs cut_of level level [] sent sent
  takes_none level sent = record {
    state = λ cut past e. e ∙ ap (leaf_level cut_of cut) (sym (append-nil past));
    events = λ cut version past before e s. s ∙ ap (λ ps. before ++
        leaf_events (cut_of cut) version faulty ps) (sym (append-nil past));
  }

  pub takes_one : (old new : LeafState C) (p : Pair) (sent sent' : List Chunk) →
      SendsLeaf cut_of old new p sent sent' → TakesPairs cut_of old new (p ∷ []) sent sent'
  takes_one old new p sent sent' s = record {
    state = λ cut past e. s.1.state cut past e;
    events = λ cut version past before e f. s.2 ∙ ap (λ o. o ++ option_to_list s.0) f
        ∙ append_assoc before (leaf_events (cut_of cut) version faulty past) (option_to_list s.0)
        ∙ ap (λ es. before ++ es) (sym (s.1.events cut version past e));
  }

  -- It took pairs and sent what they bring, where this is its cut.
  pub record Takes (cut : C) (old new : LeafState C) (pairs : List Pair) (sent sent' : List Chunk)
      : Type 0 where
    pub state : (past : List Pair) → old ≡ leaf_level cut_of cut past →
        new ≡ leaf_level cut_of cut (past ++ pairs)
    pub events : (version : Version) (past : List Pair) (before : List Chunk) →
        old ≡ leaf_level cut_of cut past →
        sent ≡ before ++ leaf_events (cut_of cut) version faulty past →
        sent' ≡ before ++ leaf_events (cut_of cut) version faulty (past ++ pairs)

  takes_by : (cut : C) (old new : LeafState C) (pairs : List Pair) (sent sent' : List Chunk) →
      TakesPairs cut_of old new pairs sent sent' → Takes cut old new pairs sent sent'
  takes_by cut old new pairs sent sent' t = record {
    state = λ past e. t.state cut past e;
    events = λ version past before e s. t.events cut version past before e s;
  }

  takes_leaf : (cut : C) (old new : LeafState C) (leaf : List Pair) (sent : List Chunk) →
      LeafPasses cut_of old new → is_whole_leaf (cut_of cut) leaf ≡ true →
      Takes cut old new leaf sent (sent ++ chunk_of One 0 leaf ∷ [])
  takes_leaf cut old new leaf sent t h = record {
    state = λ past e. t.state cut past leaf h e;
    events = λ version past before e s. ap (λ o. o ++ chunk_of One 0 leaf ∷ []) s
        ∙ append_assoc before (leaf_events (cut_of cut) version faulty past)
        (chunk_of One 0 leaf ∷ [])
        ∙ ap (λ es. before ++ es) (sym (t.events cut version past leaf h e));
  }

  module _ (cut : C) (before : List Chunk) (gone gone' : List Pair) (place place' : Place)
      (may may' : May) (old : OldGoes gone may gone' may') (changes : ChangesGo place place') where
    same_whole : (m : List Pair) (fault : Option RunFault) (more : Input RunFault)
        (h : may' m fault) (k : Fits place'.head more) →
        whole gone place (old m fault h).0 fault (changes more k).0 ≡
        whole gone' place' m fault more
    same_whole m fault more h k =
        ap (λ ps. both ps fault (after place.received (changes more k).0)) (old m fault h).2
        ∙ ap (both (gone' ++ m) fault) (changes more k).2

    -- Pairs came first in what was left, and the level took them.
    pub took_step : (level level' : LeafState C) (sent sent' : List Chunk) (pairs : List Pair) →
        Took cut_of cut before gone place may level sent →
        Takes cut level level' pairs sent sent' →
        ((m : List Pair) (fault : Option RunFault) (more : Input RunFault) (h : may' m fault)
        (k : Fits place'.head more) → AllRising (lists_of (left place (old m fault h).0 fault
        (changes more k).0)) → Merges (left place (old m fault h).0 fault (changes more k).0) pairs
        (left place' m fault more)) →
        Took cut_of cut before gone' place' may' level' sent'
    took_step level level' sent sent' pairs t takes step = record {
      pairs = t.pairs ++ pairs;
      state = takes.state t.pairs t.state;
      events = λ version. takes.events version t.pairs before t.state (t.events version);
      over = λ m fault more h k rising.
          let all = same_whole m fault more h k in
          let o = t.over (old m fault h).0 fault (changes more k).0 (old m fault h).1
          (changes more k).1 (subst (λ i. AllRising (lists_of i)) (sym all) rising) in
          let s = step m fault more h k o.rising in
          record {
            merged = ap merged_part (sym all) ∙ o.merged ∙ ap (λ ps. t.pairs ++ ps) s.merged
                ∙ sym (append_assoc t.pairs pairs (merged_part (left place' m fault more)));
            fault = ap (λ i. stop_fault (stop i)) (sym all) ∙ o.fault ∙ s.fault;
            rising = s.rising;
          };
    }

    -- The stage gives up: nothing was sent that does not come first.
    pub gives_up : (level : LeafState C) (sent sent' : List Chunk) →
        Took cut_of cut before gone place may level sent → sent' ≡ sent →
        SentFirst (cut_of cut) before gone' place' may' sent'
    gives_up level sent sent' t e = record {
      pairs = t.pairs;
      events = λ version. e ∙ t.events version;
      first = λ m fault more h k rising.
          let all = same_whole m fault more h k in
          let o = t.over (old m fault h).0 fault (changes more k).0 (old m fault h).1
          (changes more k).1 (subst (λ i. AllRising (lists_of i)) (sym all) rising) in (
            merged_part (left place (old m fault h).0 fault (changes more k).0),
            ap merged_part (sym all) ∙ o.merged,
          );
    }

    -- It stops: nothing of what is left is to be sent, and this fault is named.
    pub stops_by : (level : LeafState C) (sent : List Chunk) (fault : RunFault) →
        Took cut_of cut before gone place may level sent →
        ((m : List Pair) (f : Option RunFault) (more : Input RunFault) → may m f →
        Fits place.head more → Stopped (left place m f more) [] fault) →
        SentAll (cut_of cut) before gone' place' may' fault sent
    stops_by level sent fault t none = record {
      pairs = t.pairs;
      events = t.events;
      all = λ m f more h k rising.
          let all = same_whole m f more h k in
          let o = t.over (old m f h).0 f (changes more k).0 (old m f h).1 (changes more k).1
          (subst (λ i. AllRising (lists_of i)) (sym all) rising) in
          let s = none (old m f h).0 f (changes more k).0 (old m f h).1 (changes more k).1 in
          record {
            merged = ap merged_part (sym all) ∙ o.merged ∙ ap (λ ps. t.pairs ++ ps) s.merged
                ∙ append-nil t.pairs;
            fault_is = ap (λ i. stop_fault (stop i)) (sym all) ∙ o.fault ∙ s.fault_is;
          };
    }

-- ---- what comes first

rising_tail : (r : Record) (rs : List Record) → Rising (keys_of (r ∷ rs)) → Rising (keys_of rs)
rising_tail r rs h = rising_is rs (is_rising (r ∷ rs) h).1

-- What is left of pairs behind a key, where the key is the first of them.
abbrev behind_key : List ℕ → List Pair → List Pair
behind_key key [] = []
behind_key key (p ∷ m) = cond (is_eq (key_order p.key key)) m (p ∷ m)

rest_of_puts : (key : List ℕ) (m : List Pair) →
    rest_after key (puts m) ≡ puts (behind_key key m)
rest_of_puts key [] = refl
rest_of_puts key (p ∷ m) = go (is_eq (key_order p.key key))
  where
    go : (b : Bool) → cond b (puts m) (puts (p ∷ m)) ≡ puts (cond b m (p ∷ m))
    go true = refl
    go false = refl

rising_rest : (key : List ℕ) (m : List Pair) → Rising (keys_of (puts m)) →
    Rising (keys_of (puts (behind_key key m)))
rising_rest key [] h = h
rising_rest key (p ∷ m) h = go (is_eq (key_order p.key key))
  where
    go : (b : Bool) → Rising (keys_of (puts (cond b m (p ∷ m))))
    go true = rising_tail (record { key = p.key; value = Some p.value }) (puts m) h
    go false = h

-- A change that is not behind the first pair comes first, in the place of a pair of its key.
change_first : (m : List Pair) (fault : Option RunFault) (r : Record) (more : Input RunFault) →
    NotBelow r.key (puts m) → (m ≡ [] → fault ≡ None) →
    AllRising (lists_of (both m fault (after (r ∷ []) more))) →
    Merges (both m fault (after (r ∷ []) more)) (pairs_of_change r.key r.value)
    (both (behind_key r.key m) fault more)
change_first m fault r more not_below says rising =
    let self : is_eq (key_order r.key r.key) ≡ true = ap is_eq (order_self r.key) in
    let inputs : List (Input RunFault) = both m fault (after (r ∷ []) more) in
    let step = merged_step {F = RunFault} inputs r.key r.value rising
    (not_below, (ap is_lt (order_self r.key), tt))
    (says_on m says, ((λ e. absurd (cons_nil e)), tt))
    (ap (λ b. or_else (cond b (Some r.value) (change_of more.records r.key))
    (change_of (puts m) r.key)) self) in
    let rest : rests r.key inputs ≡ both (behind_key r.key m) fault more =
    ap (λ rs. record { records = rs; fault = fault } ∷ record {
      records = cond (is_eq (key_order r.key r.key)) more.records (r ∷ more.records);
      fault = more.fault;
    } ∷ []) (rest_of_puts r.key m)
    ∙ ap (λ b. record { records = puts (behind_key r.key m); fault = fault } ∷ record {
      records = cond b more.records (r ∷ more.records);
      fault = more.fault;
    } ∷ []) self in
    record {
      merged = ap pairs_put step.0
          ∙ ap (λ i. pairs_of_change r.key r.value ++ merged_part i) rest;
      fault = step.1 ∙ ap (λ i. stop_fault (stop i)) rest;
      rising = (rising_rest r.key m rising.0, (rising_tail r more.records rising.1.0, tt));
    }
  where
    cons_nil : r ∷ more.records ≡ [] → ⊥
    cons_nil e = cc

    says_on : (ps : List Pair) → (ps ≡ [] → fault ≡ None) → puts ps ≡ [] → fault ≡ None
    says_on [] says e = says refl
    says_on (p ∷ ps) says e = cc

keys_put : (m : List Pair) → keys_of (puts m) ≡ map (λ p. p.key) m
keys_put [] = refl
keys_put (p ∷ m) = ap (λ ks. p.key ∷ ks) (keys_put m)

map_of_puts : (m : List Pair) → Rising (keys_of (puts m)) → IsMap m
map_of_puts m h = subst Rising (keys_put m) h

puts_rise : (m : List Pair) → IsMap m → Rising (keys_of (puts m))
puts_rise m h = subst Rising (sym (keys_put m)) h

-- What stands behind a key stands behind it with all that follows.
all_behind : (key : List ℕ) (head : Head) (more : Input RunFault) → IsBehind key head →
    Fits head more → Rising (keys_of (in_hand head ++ more.records)) →
    AllBehind key (in_hand head ++ more.records)
all_behind key (Ended end) more b fit rising =
    subst (λ i. AllBehind key i.records) (sym fit) tt
all_behind key (Ready r) more b fit rising = (
  b,
  go more.records (is_rising (r ∷ more.records)
      rising).0,
)
  where
    go : (rs : List Record) → AllAbove r.key rs → AllBehind key rs
    go [] h = tt
    go (s ∷ rs) h = (order_trans key r.key s.key b h.0, go rs h.1)

says_on_behind : (key : List ℕ) (head : Head) (more : Input RunFault) → IsBehind key head →
    Fits head more → SaysOn (after (in_hand head) more)
says_on_behind key (Ended end) more b fit e = ap (λ i. i.fault) fit ∙ ap (λ x. (input_of [] x).fault) b
says_on_behind key (Ready r) more b fit e = absurd (cons_nil e)
  where
    cons_nil : r ∷ more.records ≡ [] → ⊥
    cons_nil e = cc

-- The first pairs come first as they are, where the changes stand behind them.
front_first : (front m : List Pair) (fault : Option RunFault) (head : Head)
    (more : Input RunFault) → 0 < length front → IsBehind (last_key front) head → Fits head more →
    AllRising (lists_of (both (front ++ m) fault (after (in_hand head) more))) →
    Merges (both (front ++ m) fault (after (in_hand head) more)) front
    (both m fault (after (in_hand head) more))
front_first front m fault head more some behind fit rising =
    let map_is : IsMap (front ++ m) = map_of_puts (front ++ m) rising.0 in
    let law = front_stays_merged RunFault front m fault (after (in_hand head) more) map_is
    rising.1.0 some (all_behind (last_key front) head more behind fit rising.1.0)
    (says_on_behind (last_key front) head more behind fit) in
    record {
      merged = law.0;
      fault = law.1;
      rising = (puts_rise m (map_behind front m map_is), (rising.1.0, tt));
    }

-- ---- stops

fault_named : (inputs : List (Input RunFault)) (fault : RunFault) → Fault fault ≡ stop_end inputs →
    stop_fault (stop inputs) ≡ Some fault
fault_named inputs fault e = go (stop_fault (stop inputs)) e
  where
    go : (o : Option RunFault) → Fault fault ≡ end_of o → o ≡ Some fault
    go None e = cc
    go (Some f) e = cc

-- The changes ended with a fault, and a pair of the old tree is in hand.
pub changes_failed : (p : Pair) (m : List Pair) (f : Option RunFault) (more : Input RunFault)
    (head : Head) (fault : RunFault) → From p m f → head ≡ Ended (Fault fault) → Fits head more →
    Stopped (both m f (after (in_hand head) more)) [] fault
changes_failed p m f more head fault (rest, is) ended fit =
    subst (λ ps. Stopped (both ps f (after (in_hand head) more)) [] fault) (sym is)
    (let law = left_is (at [] (Ready (record { key = p.key; value = Some p.value })) ∷
    at [] head ∷ []) (map_input rest f ∷ more ∷ []) (Fault fault)
    (inl (subst (λ h. IsFaultIn (h ∷ []) (Fault fault)) (sym ended) refl)) (tt, (fit, tt)) in
    record {
      merged = ap pairs_put law.0;
      fault_is = fault_named (both (p ∷ rest) f (after (in_hand head) more)) fault law.1;
    })

-- They did, and nothing is left of the old tree.
pub rest_failed : (m : List Pair) (f : Option RunFault) (more : Input RunFault) (head : Head)
    (fault : RunFault) → Over Clean m f → head ≡ Ended (Fault fault) → Fits head more →
    Stopped (both m f (after (in_hand head) more)) [] fault
rest_failed m f more head fault (none, clean) ended fit =
    subst (λ ps. Stopped (both ps f (after (in_hand head) more)) [] fault) (sym none)
    (subst (λ g. Stopped (both [] g (after (in_hand head) more)) [] fault) (sym clean)
    (let law = left_is (at [] (Ended Clean) ∷ at [] head ∷ []) (input_of [] Clean ∷ more ∷ [])
    (Fault fault) (inl (subst (λ h. IsFaultIn (h ∷ []) (Fault fault)) (sym ended) refl))
    (refl, (fit, tt)) in
    record {
      merged = ap pairs_put law.0;
      fault_is = fault_named (both [] None (after (in_hand head) more)) fault law.1;
    }))

-- The old tree ended with a fault.
pub old_failed : (m : List Pair) (f : Option RunFault) (more : Input RunFault) (head : Head)
    (fault : RunFault) → Over (Fault fault) m f → Fits head more →
    Stopped (both m f (after (in_hand head) more)) [] fault
old_failed m f more head fault (none, failed) fit =
    subst (λ ps. Stopped (both ps f (after (in_hand head) more)) [] fault) (sym none)
    (subst (λ g. Stopped (both [] g (after (in_hand head) more)) [] fault) (sym failed)
    (let law = left_is (at [] (Ended (Fault fault)) ∷ at [] head ∷ [])
    (input_of [] (Fault fault) ∷ more ∷ []) (Fault fault) (inl refl) (refl, (fit, tt)) in
    record {
      merged = ap pairs_put law.0;
      fault_is = fault_named (both [] (Some fault) (after (in_hand head) more)) fault law.1;
    }))

-- Both ended clean.
pub both_ended : (m : List Pair) (f : Option RunFault) (more : Input RunFault) (head : Head) →
    Over Clean m f → head ≡ Ended Clean → Fits head more →
    (merged_part (both m f (after (in_hand head) more)) ≡ []) ×
    (stop_end (both m f (after (in_hand head) more)) ≡ Clean)
both_ended m f more head (none, clean) ended fit =
    subst (λ ps. (merged_part (both ps f (after (in_hand head) more)) ≡ []) ×
    (stop_end (both ps f (after (in_hand head) more)) ≡ Clean)) (sym none)
    (subst (λ g. (merged_part (both [] g (after (in_hand head) more)) ≡ []) ×
    (stop_end (both [] g (after (in_hand head) more)) ≡ Clean)) (sym clean)
    (let law = left_is (at [] (Ended Clean) ∷ at [] head ∷ []) (input_of [] Clean ∷ more ∷ [])
    Clean (inr (refl, (refl, (ended, tt)))) (refl, (fit, tt)) in
    (ap pairs_put law.0, sym law.1)))

pub on_ok : {T E : Type 0} (r : Result T E) (P Q : Type 0) → (P → Q) → OnOk r P → OnOk r Q
on_ok (Ok x) P Q f h = f h
on_ok (Err x) P Q f h = tt

pub if_err : {T E : Type 0} (r : Result T E) (P Q : E → Type 0) → ((e : E) → P e → Q e) →
    IfErr r P → IfErr r Q
if_err (Ok x) P Q f h = tt
if_err (Err e) P Q f h = f e h

-- ---- a pair of the old tree

pub stands_at : (key : List ℕ) (p q : Pair) (head : Head) (s s' : Standing) → Stands key head s →
    key ≡ p.key → p ≡ q → s ≡ s' → Stands q.key head s'
stands_at key p q head s s' h e f g =
    subst (Stands q.key head) g (subst (λ k. Stands k head s) (e ∙ ap (λ (x : Pair). x.key) f) h)

pub is_change : (key : List ℕ) (head : Head) → Stands key head standings.Below → IsChange head
is_change key head b = (b.0, b.1)

pub is_same_change : (key : List ℕ) (head : Head) → Stands key head standings.Same → IsChange head
is_same_change key head b = (b.0, b.1)

pub on_err : {T E : Type 0} (r : Result T E) (P : Type 0) → IsErr r → OnOk r P
on_err {T} {E} (Ok x) P e = absurd (IfOk-from_err {T = T} {E = E} (Ok x) (λ y. ⊥) e)
on_err (Err x) P e = tt

pub stops_as : {T : Type 0} (r : Result T Stop) (stop : Stop) (Q : Stop → Type 0) →
    IsErrAnd r (λ s. s ≡ stop) → Q stop → IfErr r Q
stops_as (Ok x) stop Q e q = tt
stops_as (Err s) stop Q e q = subst Q (sym e) q

pub stops_memory : {T : Type 0} (r : Result T Stop) (Q : Stop → Type 0) →
    IsErrAnd r (λ s. s ≡ stops.Memory) → Q stops.Memory → IfErr r Q
stops_memory (Ok x) Q e q = tt
stops_memory (Err s) Q e q = subst Q (sym e) q

module _ {C : Type 0} (cut_of : C → Cut) where
  -- The level took the changes below a pair that is in hand.
  abbrev pub PairLoop : Pair → LeafState C → LeafState C → List Chunk → List Chunk → Head →
      List Record → Head → Type 0
  PairLoop p old new sent sent' head got head' = (cut : C) (before : List Chunk)
      (gone : List Pair) (received : List Record) →
      Took cut_of cut before gone (at received head) Any old sent →
      Took cut_of cut before gone (at (received ++ got) head') (From p) new sent'

  pub pair_init : (p : Pair) (level : LeafState C) (sent : List Chunk) (head : Head)
      (got : List Record) → got ≡ [] → PairLoop p level level sent sent head got head
  pair_init p level sent head got none cut before gone received t =
      subst (λ q. Took cut_of cut before gone q (From p) level sent)
      (sym (got_nothing received got head none))
      (took_step cut_of cut before gone gone (at received head) (at received head) Any (From p)
      (old_stays gone Any (From p) (λ m f h. tt)) (changes_stay (at received head)) level level sent
      sent [] t (takes_by cut_of cut level level [] sent sent (takes_none cut_of level sent))
      (λ m f more h k rising. record { merged = refl; fault = refl; rising = rising }))

  -- What was received in two stretches, behind what was received before.
  got_both : (received got got' both : List Record) (head : Head) → both ≡ got ++ got' →
      at ((received ++ got) ++ got') head ≡ at (received ++ both) head
  got_both received got got' both head e = ap (λ rs. at rs head)
      (append_assoc received got got' ∙ ap (λ rs. received ++ rs) (sym e))

  below_not : (p : Pair) (r : Record) (m : List Pair) → KeyBelow r.key p.key →
      NotBelow r.key (puts (p ∷ m))
  below_not p r m b = ap is_lt (below_greater r.key p.key b)

  same_not : (p : Pair) (r : Record) (m : List Pair) → r.key ≡ p.key →
      NotBelow r.key (puts (p ∷ m))
  same_not p r m e = ap is_lt (subst (λ k. key_order p.key k ≡ Equal) (sym e) (order_self p.key))

  behind_below : (p : Pair) (r : Record) (m : List Pair) → KeyBelow r.key p.key →
      behind_key r.key (p ∷ m) ≡ p ∷ m
  behind_below p r m b = ap (λ x. cond x m (p ∷ m)) (not_eq_above r.key p.key b)

  behind_same : (p : Pair) (r : Record) (m : List Pair) → r.key ≡ p.key →
      behind_key r.key (p ∷ m) ≡ m
  behind_same p r m e = ap (λ x. cond x m (p ∷ m))
      (ap is_eq (subst (λ k. key_order p.key k ≡ Equal) (sym e) (order_self p.key)))

  some_left : {A : Type 0} (p : Pair) (m : List Pair) → p ∷ m ≡ [] → A
  some_left p m e = cc

  -- A change below the pair in hand was taken.
  pub pair_below : (p : Pair) (old mid new : LeafState C) (sent sent' sent'' : List Chunk)
      (head head' head'' : Head) (got got' both : List Record) →
      PairLoop p old mid sent sent' head got head' → TakesChange cut_of mid new sent' sent'' head' →
      Stands p.key head' standings.Below → got' ≡ in_hand head'' → both ≡ got ++ got' →
      PairLoop p old new sent sent'' head both head''
  pair_below p old mid new sent sent' sent'' head head' head'' got got' all loop c b g e cut before
      gone received t =
      let r = c.change in
      let below : KeyBelow r.key p.key = subst (λ x. KeyBelow x.key p.key)
      (ready_is b.0 r (sym b.1 ∙ c.was)) b.2 in
      subst (λ q. Took cut_of cut before gone q (From p) new sent'') (got_both received got got' all
      head'' e)
      (took_step cut_of cut before gone gone (at (received ++ got) (Ready r))
      (at ((received ++ got) ++ got') head'') (From p) (From p)
      (old_stays gone (From p) (From p) (λ m f h. h)) (changes_go (received ++ got) got' r head'')
      mid new sent' sent'' (pairs_of_change r.key r.value)
      (subst (λ h. Took cut_of cut before gone (at (received ++ got) h) (From p) mid sent') c.was
      (loop cut before gone received t))
      (takes_by cut_of cut mid new (pairs_of_change r.key r.value) sent' sent'' c.takes)
      (λ m f more h k rising. one m f more h.0 h.1 below rising))
    where
      ready_is : (a b : Record) → Ready a ≡ Ready b → a ≡ b
      ready_is a b e = cc

      one : (m : List Pair) (f : Option RunFault) (more : Input RunFault) (rest : List Pair) →
          m ≡ p ∷ rest → KeyBelow c.change.key p.key →
          AllRising (lists_of (both m f (after (c.change ∷ []) (after got' more)))) →
          Merges (both m f (after (c.change ∷ []) (after got' more)))
          (pairs_of_change c.change.key c.change.value) (both m f (after (in_hand head'') more))
      one m f more rest is below rising =
          let P : List Pair → Type 0 = λ ps. AllRising (lists_of (both ps f
          (after (c.change ∷ []) (after got' more)))) → Merges (both ps f (after (c.change ∷ [])
          (after got' more))) (pairs_of_change c.change.key c.change.value)
          (both ps f (after (in_hand head'') more)) in
          subst P (sym is) (λ rises.
          subst (λ ps. Merges (both (p ∷ rest) f (after (c.change ∷ []) (after got' more)))
          (pairs_of_change c.change.key c.change.value) (both ps f (after (in_hand head'') more)))
          (behind_below p c.change rest below)
          (subst (λ x. Merges (both (p ∷ rest) f (after (c.change ∷ []) (after got' more)))
          (pairs_of_change c.change.key c.change.value)
          (both (behind_key c.change.key (p ∷ rest)) f (after x more))) g
          (change_first (p ∷ rest) f c.change (after got' more) (below_not p c.change rest below)
          (λ e. some_left p rest e) rises))) rising

  -- A change of its key takes the place of the pair.
  pub pair_same : (Such : Cut → Type 0) (p : Pair) (old mid new : LeafState C) (sent sent' sent'' : List Chunk)
      (head head' head'' : Head) (got got' both : List Record) →
      PairLoop p old mid sent sent' head got head' → TakesChange cut_of mid new sent' sent'' head' →
      Stands p.key head' standings.Same → got' ≡ in_hand head'' → both ≡ got ++ got' →
      TakesFront cut_of Such (p ∷ []) old new sent sent'' head both head''
  pair_same Such p old mid new sent sent' sent'' head head' head'' got got' all loop c b g e cut before
      gone received such t =
      let r = c.change in
      let same : r.key ≡ p.key = ap (λ (x : Record). x.key) (sym (ready_is b.0 r (sym b.1 ∙ c.was)))
      ∙ b.2 in
      subst (λ q. Took cut_of cut before (gone ++ p ∷ []) q Any new sent'')
      (got_both received got got' all head'' e)
      (took_step cut_of cut before gone (gone ++ p ∷ []) (at (received ++ got) (Ready r))
      (at ((received ++ got) ++ got') head'') (From p) Any
      (pair_goes gone p) (changes_go (received ++ got) got' r head'')
      mid new sent' sent'' (pairs_of_change r.key r.value)
      (subst (λ h. Took cut_of cut before gone (at (received ++ got) h) (From p) mid sent') c.was
      (loop cut before gone received t))
      (takes_by cut_of cut mid new (pairs_of_change r.key r.value) sent' sent'' c.takes)
      (λ m f more h k rises.
      subst (λ ps. Merges (both (p ∷ m) f (after (r ∷ []) (after got' more)))
      (pairs_of_change r.key r.value) (both ps f (after (in_hand head'') more)))
      (behind_same p r m same)
      (subst (λ x. Merges (both (p ∷ m) f (after (r ∷ []) (after got' more)))
      (pairs_of_change r.key r.value) (both (behind_key r.key (p ∷ m)) f (after x more))) g
      (change_first (p ∷ m) f r (after got' more) (same_not p r m same)
      (λ e. some_left p m e) rises))))
    where
      ready_is : (a b : Record) → Ready a ≡ Ready b → a ≡ b
      ready_is a b e = cc

  -- The pair goes on, where the changes stand behind it.
  pub pair_behind : (p : Pair) (old mid new : LeafState C) (sent sent' sent'' : List Chunk)
      (head head' : Head) (got : List Record) → PairLoop p old mid sent sent' head got head' →
      (is_boundary : Bool) → (IsDecided is_boundary p (cut_of mid.cut) →
      SendsLeaf cut_of mid new p sent' sent'') → IsBehind p.key head' →
      TakesFront cut_of (IsDecided is_boundary p) (p ∷ []) old new sent sent'' head got head'
  pair_behind p old mid new sent sent' sent'' head head' got loop is_boundary sends b cut before gone
      received such t =
      let took = loop cut before gone received t in
      let s = sends (subst (λ x. IsDecided is_boundary p (cut_of x)) (sym (ap (λ l. l.cut) took.state))
      such) in
      took_step cut_of cut before gone (gone ++ p ∷ []) (at (received ++ got) head')
      (at (received ++ got) head') (From p) Any (pair_goes gone p)
      (changes_stay (at (received ++ got) head')) mid new sent' sent'' (p ∷ []) took
      (takes_by cut_of cut mid new (p ∷ []) sent' sent'' (takes_one cut_of mid new p sent' sent'' s))
      (λ m f more h k rising. front_first (p ∷ []) m f head' more (omega arith) b k rising)

  -- Memory was refused, before or behind the next head.
  pub pair_refused : (Such : Cut → Type 0) (p : Pair) (old mid : LeafState C) (sent sent' sent'' : List Chunk)
      (head head' : Head) (got : List Record) → PairLoop p old mid sent sent' head got head' →
      sent'' ≡ sent' →
      StopsInFront cut_of Such (p ∷ []) old sent stops.Memory sent'' head got head'
  pair_refused Such p old mid sent sent' sent'' head head' got loop s cut before gone received such t =
      gives_up cut_of cut before gone (gone ++ p ∷ []) (at (received ++ got) head')
      (at (received ++ got) head') (From p) Any (pair_goes gone p)
      (changes_stay (at (received ++ got) head')) mid sent' sent'' (loop cut before gone received t) s

  pub change_refused : (Such : Cut → Type 0) (p : Pair) (old mid : LeafState C) (sent sent' sent'' : List Chunk)
      (head head' head'' : Head) (got got' both : List Record) →
      PairLoop p old mid sent sent' head got head' → IsChange head' → sent'' ≡ sent' →
      both ≡ got ++ got' →
      StopsInFront cut_of Such (p ∷ []) old sent stops.Memory sent'' head both head''
  change_refused Such p old mid sent sent' sent'' head head' head'' got got' all loop c s e cut before
      gone received such t =
      subst (λ q. SentFirst (cut_of cut) before (gone ++ p ∷ []) q Any sent'')
      (got_both received got got' all head'' e)
      (gives_up cut_of cut before gone (gone ++ p ∷ []) (at (received ++ got) (Ready c.0))
      (at ((received ++ got) ++ got') head'') (From p) Any (pair_goes gone p)
      (changes_go (received ++ got) got' c.0 head'') mid sent' sent''
      (subst (λ h. Took cut_of cut before gone (at (received ++ got) h) (From p) mid sent') c.1
      (loop cut before gone received t)) s)

  -- The changes ended with a fault.
  pub pair_failed : (Such : Cut → Type 0) (p : Pair) (old mid : LeafState C) (sent sent' : List Chunk)
      (head head' : Head) (got : List Record) (fault : RunFault) →
      PairLoop p old mid sent sent' head got head' → head' ≡ Ended (Fault fault) →
      StopsInFront cut_of Such (p ∷ []) old sent (stops.Fault fault) sent' head got head'
  pair_failed Such p old mid sent sent' head head' got fault loop e cut before gone received such t =
      stops_by cut_of cut before gone (gone ++ p ∷ []) (at (received ++ got) head')
      (at (received ++ got) head') (From p) Any (pair_goes gone p)
      (changes_stay (at (received ++ got) head')) mid sent' fault (loop cut before gone received t)
      (λ m f more h k. changes_failed p m f more head' fault h e k)

-- ---- the changes advance

module _ {I : Type 0} (link : I → LinkId) (progress : I → Progress) (Follows : I → I → Type 0)
    (goes_on : (a b c : I) → Follows a b → Follows b c → Follows a c) where
  pub advances_on : (o m n : Peeked I) → Advances link progress Follows o m →
      Advances link progress Follows m n → Advances link progress Follows o n
  advances_on o m n a b = record {
    link_is = b.link_is ∙ a.link_is;
    follows = goes_on o.input m.input n.input a.follows b.follows;
    held = b.held;
  }

-- ---- the pairs of a leaf

-- of a leaf, a pair before the last one is no boundary
inside_at : (cut : Cut) (front : List Pair) (p q : Pair) (left : List Pair) →
    NoneInside cut (front ++ p ∷ q ∷ left) → pair_is_boundary cut p ≡ false
inside_at cut [] p q left h = h.0
inside_at cut (x ∷ []) p q left h = h.1.0
inside_at cut (x ∷ y ∷ front) p q left h = inside_at cut (y ∷ front) p q left h.1

decided : (ends : Bool) (cut : Cut) (front : List Pair) (p : Pair) (left : List Pair) →
    IsCutAs ends (front ++ p ∷ left) cut → IsDecided (closes_leaf ends left) p cut
decided ends cut front p [] h = sym (last_at cut front p) ∙ h.last
decided ends cut front p (q ∷ left) h = inside_at cut front p q left h.inside

module _ {C : Type 0} (cut_of : C → Cut) (ends : Bool) where
  -- The level took the first pairs of some, of which these are left.
  pub record PairsLoop (all pairs : List Pair) (old new : LeafState C) (sent sent' : List Chunk)
      (head : Head) (got : List Record) (head' : Head) : Type 0 where
    pub front : List Pair
    pub whole : all ≡ front ++ pairs
    pub took : TakesFront cut_of (IsCutAs ends all) front old new sent sent' head got head'

  pub pairs_init : (pairs : List Pair) (level : LeafState C) (sent : List Chunk) (head : Head)
      (got : List Record) → got ≡ [] → PairsLoop pairs pairs level level sent sent head got head
  pairs_init pairs level sent head got none = record {
    front = [];
    whole = refl;
    took = λ cut before gone received such t.
        subst (λ g. Took cut_of cut before g (at (received ++ got) head) Any level sent)
        (sym (append-nil gone))
        (subst (λ q. Took cut_of cut before gone q Any level sent)
        (sym (got_nothing received got head none)) t);
  }

  pair_decided : (all pairs pairs' : List Pair) (p : Pair) (front : List Pair) (is_boundary : Bool)
      (cut : C) → all ≡ front ++ p ∷ pairs' → is_boundary ≡ closes_leaf ends pairs' →
      IsCutAs ends all (cut_of cut) → IsDecided is_boundary p (cut_of cut)
  pair_decided all pairs pairs' p front is_boundary cut whole is such =
      decided ends (cut_of cut) front p pairs' (subst (λ ps. IsCutAs ends ps (cut_of cut)) whole such)
      ∙ sym is

  pub pairs_more : (all pairs pairs' : List Pair) (p : Pair) (old mid new : LeafState C)
      (sent sent' sent'' : List Chunk) (head head' head'' : Head) (got got' both : List Record) →
      (is_boundary : Bool) → PairsLoop all pairs old mid sent sent' head got head' →
      pairs ≡ p ∷ pairs' → is_boundary ≡ closes_leaf ends pairs' →
      TakesFront cut_of (IsDecided is_boundary p) (p ∷ []) mid new sent' sent'' head' got' head'' →
      both ≡ got ++ got' → PairsLoop all pairs' old new sent sent'' head both head''
  pairs_more all pairs pairs' p old mid new sent sent' sent'' head head' head'' got got' both
      is_boundary l e is t f = record {
        front = l.front ++ p ∷ [];
        whole = l.whole ∙ ap (λ ps. l.front ++ ps) e ∙ sym (append_assoc l.front (p ∷ []) pairs');
        took = λ cut before gone received such took.
            subst (λ g. Took cut_of cut before g (at (received ++ both) head'') Any new sent'')
            (append_assoc gone l.front (p ∷ []))
            (subst (λ q. Took cut_of cut before ((gone ++ l.front) ++ p ∷ []) q Any new sent'')
            (got_both cut_of received got got' both head'' f)
            (t cut before (gone ++ l.front) (received ++ got)
            (pair_decided all pairs pairs' p l.front is_boundary cut (l.whole ∙ ap (λ ps. l.front ++ ps)
            e) is such) (l.took cut before gone received such took)));
      }

  pub pairs_all : (all pairs : List Pair) (old new : LeafState C) (sent sent' : List Chunk)
      (head head' : Head) (got : List Record) → PairsLoop all pairs old new sent sent' head got head' →
      pairs ≡ [] → TakesFront cut_of (IsCutAs ends all) all old new sent sent' head got head'
  pairs_all all pairs old new sent sent' head head' got l none =
      subst (λ ps. TakesFront cut_of (IsCutAs ends all) ps old new sent sent' head got head')
      (sym (l.whole ∙ ap (λ ps. l.front ++ ps) none ∙ append-nil l.front)) l.took

  -- What stopped with fewer pairs gone stopped with more.
  stops_further : (cut : Cut) (before : List Chunk) (gone more all : List Pair) (place : Place)
      (stop : Stop) (sent : List Chunk) → gone ++ more ≡ all →
      StopsBy cut before gone place Any stop sent → StopsBy cut before all place Any stop sent
  stops_further cut before gone more all place stop sent e h =
      subst (λ g. StopsBy cut before g place Any stop sent) e (go stop h)
    where
      first : SentFirst cut before gone place Any sent →
          SentFirst cut before (gone ++ more) place Any sent
      first h = record {
        pairs = h.pairs;
        events = h.events;
        first = λ m fault later may fit rising.
            let same = ap (λ ps. both ps fault (after place.received later))
            (sym (append_assoc gone more m)) in
            subst (λ i. IsPrefix h.pairs (merged_part i)) same (h.first (more ++ m) fault later tt fit
            (subst (λ i. AllRising (lists_of i)) (sym same) rising));
      }

      go : (stop : Stop) → StopsBy cut before gone place Any stop sent →
          StopsBy cut before (gone ++ more) place Any stop sent
      go stops.Memory h = first h
      go (stops.Fault f) h = record {
        pairs = h.pairs;
        events = h.events;
        all = λ m fault later may fit rising.
            let same = ap (λ ps. both ps fault (after place.received later))
            (sym (append_assoc gone more m)) in
            subst (λ i. Stopped i h.pairs f) same (h.all (more ++ m) fault later tt fit
            (subst (λ i. AllRising (lists_of i)) (sym same) rising));
      }

  pub pairs_stop : (all pairs pairs' : List Pair) (p : Pair) (old mid : LeafState C)
      (sent sent' sent'' : List Chunk) (head head' head'' : Head) (got got' both : List Record)
      (stop : Stop) (is_boundary : Bool) → PairsLoop all pairs old mid sent sent' head got head' →
      pairs ≡ p ∷ pairs' → is_boundary ≡ closes_leaf ends pairs' →
      StopsInFront cut_of (IsDecided is_boundary p) (p ∷ []) mid sent' stop sent'' head' got' head'' →
      both ≡ got ++ got' →
      StopsInFront cut_of (IsCutAs ends all) all old sent stop sent'' head both head''
  pairs_stop all pairs pairs' p old mid sent sent' sent'' head head' head'' got got' both stop
      is_boundary l e is t f cut before gone received such took =
      stops_further (cut_of cut) before ((gone ++ l.front) ++ p ∷ []) pairs' (gone ++ all)
      (at (received ++ both) head'') stop sent''
      (append_assoc (gone ++ l.front) (p ∷ []) pairs' ∙ append_assoc gone l.front (p ∷ pairs')
      ∙ ap (λ ps. gone ++ (l.front ++ ps)) (sym e) ∙ ap (λ ps. gone ++ ps) (sym l.whole))
      (subst (λ q. StopsBy (cut_of cut) before ((gone ++ l.front) ++ p ∷ []) q Any stop sent'')
      (got_both cut_of received got got' both head'' f)
      (t cut before (gone ++ l.front) (received ++ got)
      (pair_decided all pairs pairs' p l.front is_boundary cut (l.whole ∙ ap (λ ps. l.front ++ ps) e) is
      such) (l.took cut before gone received such took)))

  pub pairs_refused : (all pairs : List Pair) (old mid : LeafState C) (sent sent' : List Chunk)
      (head head' : Head) (got : List Record) →
      PairsLoop all pairs old mid sent sent' head got head' →
      StopsInFront cut_of (IsCutAs ends all) all old sent stops.Memory sent' head got head'
  pairs_refused all pairs old mid sent sent' head head' got l cut before gone received such took =
      stops_further (cut_of cut) before (gone ++ l.front) pairs (gone ++ all)
      (at (received ++ got) head') stops.Memory sent'
      (append_assoc gone l.front pairs ∙ ap (λ ps. gone ++ ps) (sym l.whole))
      (gives_up cut_of cut before (gone ++ l.front) (gone ++ l.front) (at (received ++ got) head')
      (at (received ++ got) head') Any Any (old_stays (gone ++ l.front) Any Any (λ m f h. h))
      (changes_stay (at (received ++ got) head')) mid sent' sent'
      (l.took cut before gone received such took) refl)

-- ---- a leaf

module _ {C : Type 0} (cut_of : C → Cut) where
  some_whole : (cut : Cut) (leaf : List Pair) → is_whole_leaf cut leaf ≡ true → 0 < length leaf
  some_whole cut [] h = cc
  some_whole cut (p ∷ leaf) h = omega arith

  -- It goes on whole.
  pub leaf_passes : (leaf : List Pair) (ends : Bool) (old new : LeafState C)
      (sent sent' : List Chunk) (head : Head) (got : List Record) → got ≡ [] → ends ≡ true →
      IsBehind (last_key leaf) head → LeafPasses cut_of old new →
      sent' ≡ sent ++ chunk_of One 0 leaf ∷ [] →
      TakesFront cut_of (IsCutAs ends leaf) leaf old new sent sent' head got head
  leaf_passes leaf ends old new sent sent' head got none end behind passes is cut before gone
      received such t =
      let whole = whole_is (cut_of cut) leaf such.inside (such.last ∙ end) in
      subst (λ q. Took cut_of cut before (gone ++ leaf) q Any new sent')
      (sym (got_nothing received got head none))
      (took_step cut_of cut before gone (gone ++ leaf) (at received head) (at received head) Any Any
      (old_goes gone leaf) (changes_stay (at received head)) old new sent sent' leaf t
      (subst (Takes cut_of cut old new leaf sent) (sym is)
      (takes_leaf cut_of cut old new leaf sent passes whole))
      (λ m f more h k rising. front_first leaf m f head more (some_whole (cut_of cut) leaf whole)
      behind k rising))

  pub leaf_refused : (leaf : List Pair) (ends : Bool) (old : LeafState C)
      (sent sent' : List Chunk) (head : Head) (got : List Record) → got ≡ [] → sent' ≡ sent →
      StopsInFront cut_of (IsCutAs ends leaf) leaf old sent stops.Memory sent' head got head
  leaf_refused leaf ends old sent sent' head got none is cut before gone received such t =
      subst (λ q. SentFirst (cut_of cut) before (gone ++ leaf) q Any sent')
      (sym (got_nothing received got head none))
      (gives_up cut_of cut before gone (gone ++ leaf) (at received head) (at received head) Any Any
      (old_goes gone leaf) (changes_stay (at received head)) old sent sent' t is)

  -- ---- the changes that are left

  pub rest_init : (level : LeafState C) (sent : List Chunk) (head : Head) (got : List Record) →
      got ≡ [] → TakesRest cut_of level level sent sent head got head
  rest_init level sent head got none cut before gone received t =
      subst (λ q. Took cut_of cut before gone q (Over Clean) level sent)
      (sym (got_nothing received got head none)) t

  pub rest_more : (old mid new : LeafState C) (sent sent' sent'' : List Chunk)
      (head head' head'' : Head) (got got' both : List Record) →
      TakesRest cut_of old mid sent sent' head got head' →
      TakesChange cut_of mid new sent' sent'' head' → got' ≡ in_hand head'' → both ≡ got ++ got' →
      TakesRest cut_of old new sent sent'' head both head''
  rest_more old mid new sent sent' sent'' head head' head'' got got' all loop c g e cut before gone
      received t =
      let r = c.change in
      subst (λ q. Took cut_of cut before gone q (Over Clean) new sent'')
      (got_both cut_of received got got' all head'' e)
      (took_step cut_of cut before gone gone (at (received ++ got) (Ready r))
      (at ((received ++ got) ++ got') head'') (Over Clean) (Over Clean)
      (old_stays gone (Over Clean) (Over Clean) (λ m f h. h))
      (changes_go (received ++ got) got' r head'') mid new sent' sent''
      (pairs_of_change r.key r.value)
      (subst (λ h. Took cut_of cut before gone (at (received ++ got) h) (Over Clean) mid sent') c.was
      (loop cut before gone received t))
      (takes_by cut_of cut mid new (pairs_of_change r.key r.value) sent' sent'' c.takes)
      (λ m f more h k rising. one m f more h.0 h.1 rising))
    where
      one : (m : List Pair) (f : Option RunFault) (more : Input RunFault) → m ≡ [] → f ≡ None →
          AllRising (lists_of (both m f (after (c.change ∷ []) (after got' more)))) →
          Merges (both m f (after (c.change ∷ []) (after got' more)))
          (pairs_of_change c.change.key c.change.value) (both m f (after (in_hand head'') more))
      one m f more none clean rising =
          let P : List Pair → Type 0 = λ ps. AllRising (lists_of (both ps f
          (after (c.change ∷ []) (after got' more)))) → Merges (both ps f (after (c.change ∷ [])
          (after got' more))) (pairs_of_change c.change.key c.change.value)
          (both ps f (after (in_hand head'') more)) in
          subst P (sym none) (λ rises.
          subst (λ x. Merges (both [] f (after (c.change ∷ []) (after got' more)))
          (pairs_of_change c.change.key c.change.value) (both [] f (after x more))) g
          (change_first [] f c.change (after got' more) tt (λ e. clean) rises)) rising

  pub rest_refused : (old mid : LeafState C) (sent sent' sent'' : List Chunk)
      (head head' head'' : Head) (got got' both : List Record) →
      TakesRest cut_of old mid sent sent' head got head' → IsChange head' → sent'' ≡ sent' →
      both ≡ got ++ got' → StopsInRest cut_of old sent stops.Memory sent'' head both head''
  rest_refused old mid sent sent' sent'' head head' head'' got got' all loop c s e cut before gone
      received t =
      subst (λ q. SentFirst (cut_of cut) before gone q (Over Clean) sent'')
      (got_both cut_of received got got' all head'' e)
      (gives_up cut_of cut before gone gone (at (received ++ got) (Ready c.0))
      (at ((received ++ got) ++ got') head'') (Over Clean) (Over Clean)
      (old_stays gone (Over Clean) (Over Clean) (λ m f h. h))
      (changes_go (received ++ got) got' c.0 head'') mid sent' sent''
      (subst (λ h. Took cut_of cut before gone (at (received ++ got) h) (Over Clean) mid sent') c.1
      (loop cut before gone received t)) s)

  pub rest_failed_by : (old mid : LeafState C) (sent sent' : List Chunk) (head head' : Head)
      (got : List Record) (fault : RunFault) → TakesRest cut_of old mid sent sent' head got head' →
      head' ≡ Ended (Fault fault) →
      StopsInRest cut_of old sent (stops.Fault fault) sent' head got head'
  rest_failed_by old mid sent sent' head head' got fault loop e cut before gone received t =
      stops_by cut_of cut before gone gone (at (received ++ got) head') (at (received ++ got) head')
      (Over Clean) (Over Clean) (old_stays gone (Over Clean) (Over Clean) (λ m f h. h))
      (changes_stay (at (received ++ got) head')) mid sent' fault (loop cut before gone received t)
      (λ m f more h k. rest_failed m f more head' fault h e k)

-- What readers of stored runs gave a merger.
use Rattle.std.proofs.Common.{◌≡◌, List, [], ◌∷◌, ◌++◌, Some, None, inl, inr, map, flat_map}
use Rattle.std.proofs.Common.{refl, sym, ap, subst, ◌∙◌}
use Rattle.std.specs.List.{AllByRecursion}
use Rattle.std.specs.declared.cmp.Ordering.{Ordering}
use Rattle.std.specs.declared.cmp.Ordering.TheVariants.{Less, Equal, Greater}
use Rattle.prolly_entry.specs.Keys.{key_order, Rising}
use Rattle.prolly_entry.specs.Overlay.{AllRising, raw_overlay, with_record, with_record_by}
use Rattle.prolly_entry.specs.Overlay.{with_records}
use Rattle.prolly_entry.specs.Record.{IsRecord, Record, keys_of}
use Rattle.prolly_entry.specs.lemmas.Lists.{all_back, all_front}
use Rattle.prolly_io.specs.Source.{SourceView}
use Rattle.prolly_link.specs.Growth.{items_between}
use Rattle.prolly_link.specs.Identity.{no_link}
use Rattle.prolly_link.specs.Progress.{end_given}
use Rattle.prolly_link.specs.declared.fault.RunFault.{RunFault}
use Rattle.prolly_link.specs.declared.fault.RunFault.TheVariants.{Memory}
use Rattle.prolly_link.specs.declared.message.End.{End}
use Rattle.prolly_link.specs.declared.message.End.TheVariants.{Clean, Fault}
use Rattle.prolly_load.specs.Reader.{GivesRecords, HasRecords, IsLaterReading, Reading}
use Rattle.prolly_load.specs.lemmas.Readers.{clean_gives_all, new_reader_gives}
use Rattle.prolly_tree.specs.Chunk.{IsIn}
use Rattle.prolly_tree.specs.Merge.{Input, raw_merged_part}
use Rattle.prolly_merge.specs.Each.{Each}
use Rattle.prolly_merge.specs.Inputs.{Ends, fault_in, inputs_of, lists_of, stop_end}
use Rattle.prolly_merge.specs.Merged.{SendsAll}
use Rattle.prolly_merge.specs.lemmas.Clean.{AllClean, all_clean, clean_is}
use Rattle.prolly_sort.specs.declared.key_rule.KeyRule.{KeyRule}
use Rattle.prolly_sort.specs.declared.stored_runs.StoredRun.{StoredRun}
use Rattle.prolly_sort.specs.Overlaid.{overlaid}
use Rattle.prolly_sort.specs.Shelf.{AreStored, GivesBack, readings_of}
use Rattle.prolly_sort.specs.Told.{Obeys}
use Rattle.prolly_sort.proofs.Coming.{come_to, overlaid_rises, parts_come}
use Rattle.prolly_sort.proofs.Telling.{AreAmong, in_front, overlaid_among}

-- ---- lawful records come to lawful records

one_lawful : (r : Record) (m : List Record) → IsRecord r → AllByRecursion IsRecord m →
    AllByRecursion IsRecord (with_record r m)
one_lawful r [] h k = (h, tt)
one_lawful r (s ∷ m) h k = go (key_order r.key s.key) (one_lawful r m h k.1)
  where
    go : (o : Ordering) → AllByRecursion IsRecord (with_record r m) →
        AllByRecursion IsRecord (with_record_by o r s m (with_record r m))
    go Less more = (h, k)
    go Equal more = (h, k.1)
    go Greater more = (k.0, more)

all_lawful : (m rs : List Record) → AllByRecursion IsRecord m → AllByRecursion IsRecord rs →
    AllByRecursion IsRecord (with_records m rs)
all_lawful m [] h k = h
all_lawful m (r ∷ rs) h k = all_lawful (with_record r m) rs (one_lawful r m k.0 h) k.1

pub overlaid_lawful : (rs : List Record) → AllByRecursion IsRecord rs →
    AllByRecursion IsRecord (overlaid rs)
overlaid_lawful rs h = subst (AllByRecursion IsRecord) (sym (come_to rs)) (all_lawful [] rs tt h)

-- ---- the first of rising records rise

rising_front : (xs ys : List Record) → Rising (keys_of (xs ++ ys)) → Rising (keys_of xs)
rising_front [] ys h = tt
rising_front (x ∷ []) ys h = tt
rising_front (x ∷ z ∷ xs) ys h = (h.0, rising_front (z ∷ xs) ys h.1)

given_rise : (rs records : List Record) (end : End) → GivesRecords 0 rs records end →
    Rising (keys_of rs) → Rising (keys_of records)
given_rise rs records end (inl all) h = subst (λ xs. Rising (keys_of xs)) (sym all.1) h
given_rise rs records end (inr (fault, front)) h = rising_front records front.0
    (subst (λ xs. Rising (keys_of xs)) front.1 h)

given_among : (part records : List Record) (end : End) → GivesRecords 0 (overlaid part) records end →
    AreAmong records part
given_among part records end (inl all) r at =
    overlaid_among part r (subst (IsIn r) all.1 at)
given_among part records end (inr (fault, front)) r at =
    overlaid_among part r (subst (IsIn r) (sym front.1) (in_front r records front.0 at))

no_fault : (end : End) → fault_in end ≡ None → end ≡ Clean
no_fault Clean e = refl
no_fault (Fault f) e = absurd (some_none f e)
  where
    some_none : (f : RunFault) → Some f ≡ None → ⊥
    some_none f e = cc

-- ---- reader by reader

module _ {S : Type 0} (seen : S → SourceView) (rule : KeyRule) where
  -- What the readers gave, and their ends.
  abbrev pub given_by : List (StoredRun S) → List Reading → List (Input RunFault)
  given_by runs readers = inputs_of (λ r. r.progress)
      (λ a b. items_between a.records b.records) (readings_of seen runs) readers

  -- What they gave rises, and is of the parts. Where all of them ended clean, it is what the parts
  -- come to.
  pub record GaveParts (runs : List (StoredRun S)) (parts : List (List Record))
      (readers : List Reading) : Type 0 where
    pub rising : AllRising (lists_of (given_by runs readers))
    pub among : Each AreAmong (lists_of (given_by runs readers)) parts
    pub whole : AllClean (given_by runs readers) →
        lists_of (given_by runs readers) ≡ map overlaid parts

  has_part : (run : StoredRun S) (part : List Record) → GivesBack seen rule run part →
      AllByRecursion IsRecord part → HasRecords 0xFFFF_FFFF (seen run.file) (overlaid part)
  has_part run part h lawful = record {
    honest = h.honest;
    left = h.left;
    lawful = overlaid_lawful part lawful;
    rising = overlaid_rises part;
    few = h.few;
  }

  pub gave_parts : (runs : List (StoredRun S)) (parts : List (List Record)) (readers : List Reading) →
      Each (GivesBack seen rule) runs parts →
      AllByRecursion IsRecord (flat_map (λ part. part) parts) →
      Each (Ends {I = Reading} (λ r. no_link) (λ r. r.progress) IsLaterReading)
      (readings_of seen runs) readers → GaveParts runs parts readers
  gave_parts [] [] [] h lawful ends = record { rising = tt; among = tt; whole = λ c. refl }
  gave_parts [] [] (n ∷ readers) h lawful ends = absurd ends
  gave_parts [] (p ∷ parts) readers h lawful ends = absurd h
  gave_parts (run ∷ runs) [] readers h lawful ends = absurd h
  gave_parts (run ∷ runs) (p ∷ parts) [] h lawful ends = absurd ends
  gave_parts (run ∷ runs) (p ∷ parts) (n ∷ readers) h lawful ends =
      let rest = flat_map (λ part. part) parts in
      let more = gave_parts runs parts readers h.1 (all_back IsRecord p rest lawful) ends.1 in
      let gives = new_reader_gives 0 0xFFFF_FFFF (seen run.file) n (overlaid p)
      (has_part run p h.0 (all_front IsRecord p rest lawful)) ends.0.follows ends.0.ended in
      let got = items_between [] n.records in
      record {
        rising = (given_rise (overlaid p) got (end_given n.progress) gives (overlaid_rises p), more.rising);
        among = (given_among p got (end_given n.progress) gives, more.among);
        whole = λ c. let one = clean_gives_all 0 (overlaid p) got (end_given n.progress) gives
            (no_fault (end_given n.progress) c.0) in
            ap (λ rs. rs ∷ lists_of (given_by runs readers)) one ∙
            ap (λ lists. overlaid p ∷ lists) (more.whole c.1);
      }

-- The parts that files give obey the rule.
pub parts_obey : {S : Type 0} (seen : S → SourceView) (rule : KeyRule) (runs : List (StoredRun S))
    (parts : List (List Record)) → Each (GivesBack seen rule) runs parts →
    AllByRecursion (Obeys rule) parts
parts_obey seen rule [] [] h = tt
parts_obey seen rule [] (p ∷ parts) h = absurd h
parts_obey seen rule (run ∷ runs) [] h = absurd h
parts_obey seen rule (run ∷ runs) (p ∷ parts) h =
    (h.0.obeys, parts_obey seen rule runs parts h.1)

-- ---- what the merger sent

-- Where an end is clean, no memory was refused, so all was sent.
pub sent_all : {T : Type 0} (items all_sent : List T) (end end_sent : End) →
    SendsAll [] items end all_sent end_sent → end_sent ≡ Clean → (all_sent ≡ items) × (end ≡ Clean)
sent_all items all_sent end end_sent (inl all) clean = (all.0, sym all.1 ∙ clean)
sent_all items all_sent end end_sent (inr (refused, part)) clean =
    absurd (memory_clean (sym refused ∙ clean))
  where
    memory_clean : Fault Memory ≡ Clean → ⊥
    memory_clean e = cc

-- A merger that sent all of what the readers of stored runs gave, and a clean end, sent what the
-- records come to; and the readers gave what the parts come to.
pub record SentWhole (came : List Record) (parts : List (List Record))
    (given : List (Input RunFault)) (all_sent : List Record) : Type 0 where
  pub sent : all_sent ≡ overlaid came
  pub gave : lists_of given ≡ map overlaid parts

pub sent_whole : {S : Type 0} (seen : S → SourceView) (rule : KeyRule) (runs : List (StoredRun S))
    (came : List Record) (stored : AreStored seen rule runs came) (readers : List Reading) →
    GaveParts seen rule runs stored.parts readers → (all_sent : List Record) (end_sent : End) →
    SendsAll [] (raw_merged_part (given_by seen rule runs readers))
    (stop_end (given_by seen rule runs readers)) all_sent end_sent → end_sent ≡ Clean →
    SentWhole came stored.parts (given_by seen rule runs readers) all_sent
sent_whole seen rule runs came stored readers gave all_sent end_sent sends ended =
    let given = given_by seen rule runs readers in
    let sent = sent_all (raw_merged_part given) all_sent (stop_end given) end_sent sends ended in
    let clean = all_clean given sent.1 in record {
      sent = sent.0 ∙ (clean_is given clean).0 ∙ ap raw_overlay (gave.whole clean) ∙
          parts_come stored.parts ∙ ap overlaid (sym stored.all);
      gave = gave.whole clean;
    }

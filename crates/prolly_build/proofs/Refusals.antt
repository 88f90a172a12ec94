-- What the workers of a build sent where one of them was refused memory.
use Rattle.std.proofs.Common.{◌≡◌, ◌≤◌, ◌<◌, ◌-◌, ◌*◌, ◌^◌, ℕ, zero, suc, Bool, true, false, List}
use Rattle.std.proofs.Common.{[], ◌∷◌, ◌++◌, map, length, Option, Some, None, inl, inr, refl, ap}
use Rattle.std.proofs.Common.{sym, subst, ◌∙◌, arith}
use Rattle.std.specs.List.{flat_map}
use Rattle.std.proofs.lemmas.List.{append-nil, length-append}
use Rattle.std.proofs.lemmas.List.Concat.{flat_map-append}
use Rattle.prolly_tree.specs.Chunk.{Chunk, chunks}
use Rattle.prolly_entry.specs.Cut.{Cut, sha512_cut}
use Rattle.prolly_tree.specs.CutShort.{IsFrontOf, AreFrontsOf}
use Rattle.prolly_tree.specs.File.{header}
use Rattle.prolly_tree.specs.Merge.{Input, stop, stop_fault, raw_merged_part, merged_part}
use Rattle.prolly_entry.specs.Overlay.{raw_overlay, overlay, pairs_of_change, pairs_put, AllRising}
use Rattle.prolly_entry.specs.Pair.{Pair}
use Rattle.prolly_tree.specs.Pipeline.{before_second}
use Rattle.prolly_entry.specs.Prefix.{IsPrefix}
use Rattle.prolly_entry.specs.Reading.{IsReading}
use Rattle.prolly_entry.specs.Record.{Record}
use Rattle.prolly_entry.specs.Spelling.{record_spelling}
use Rattle.prolly_entry.specs.declared.next.Flaw.{Flaw}
use Rattle.prolly_laws.specs.Stages.{composition, within_is_prefix}
use Rattle.prolly_laws.specs.Merging.{all_rising, fronts_merge, rising_two_as_one, two_of_all}
use Rattle.prolly_laws.specs.Merging.{overlay_of_two, overlay_is_small}
use Rattle.prolly_laws.specs.Readings.{begins_all, begins_none, first_are_good, one_reading}
use Rattle.prolly_laws.specs.Readings.{reading_is}
use Rattle.prolly_io.specs.Source.{SourceView}
use Rattle.prolly_io.specs.Sink.{SinkView}
use Rattle.prolly_link.specs.Views.{Batching, Whole}
use Rattle.prolly_link.specs.declared.message.End.{End}
use Rattle.prolly_link.specs.declared.message.End.TheVariants.{Fault}
use Rattle.prolly_link.specs.declared.fault.RunFault.{RunFault}
use Rattle.prolly_link.specs.declared.fault.RunFault.TheVariants.{Memory}
use Rattle.prolly_merge.specs.Inputs.{fault_in, input_of, stop_end}
use Rattle.prolly_merge.specs.Merged.{SendsAll}
use Rattle.prolly_entry.specs.lemmas.Lists.{prefix_trans}
use Rattle.prolly_stage.specs.lemmas.Takings.{writer_takes}
use Rattle.prolly_build.specs.RecordLinks.{IsJoint, Joined}
use Rattle.prolly_build.specs.Mergers.{MergesAll, sent_input}
use Rattle.prolly_build.specs.RunResult.{AreLoaded}
use Rattle.prolly_build.specs.Refusals.{AreGoodOf, AreGood, IsRefused}
use Rattle.prolly_build.specs.Config.{Settings, AreLawful}
use Rattle.prolly_build.specs.End.{IsRefusedAt}
use Rattle.prolly_build.proofs.StagingSteps.{HasStaged}
use Rattle.prolly_build.specs.Workers.{IsLoadedFrom}
use Rattle.prolly_build.specs.WriterState.{frames_of}
use Rattle.prolly_build.proofs.Counted.{LeftAreBytes}
use Rattle.prolly_build.proofs.LoaderSteps.{of_all}
use Rattle.prolly_build.proofs.Loads.{IsBegunLoad, begun, clean_end, not_both, one_read}
use Rattle.prolly_build.proofs.Loads.{own_reading}
use Rattle.prolly_build.proofs.Mergings.{Inputs, fault_of_end_of}
use Rattle.prolly_build.proofs.Tops.{frames_front}
use Rattle.prolly_build.proofs.WritingSteps.{prefix_on}

-- ---- lists, and what was sent of them

record Apart (lists : List (List Record)) (xs ys : Inputs) : Type 0 where
  front : List (List Record)
  back : List (List Record)
  is : lists ≡ front ++ back
  fronts : AreFrontsOf front xs
  backs : AreFrontsOf back ys

apart : (lists : List (List Record)) (xs ys : Inputs) → AreFrontsOf lists (xs ++ ys) →
    Apart lists xs ys
apart lists [] ys h = record { front = []; back = lists; is = refl; fronts = tt; backs = h }
apart [] (x ∷ xs) ys h = absurd h
apart (l ∷ lists) (x ∷ xs) ys h =
    let k = apart lists xs ys h.1 in
    record {
      front = l ∷ k.front;
      back = k.back;
      is = ap (λ ls. l ∷ ls) k.is;
      fronts = (h.0, k.fronts);
      backs = k.backs;
    }

together : (front : List (List Record)) (xs : Inputs) (back : List (List Record)) (ys : Inputs) →
    AreFrontsOf front xs → AreFrontsOf back ys → AreFrontsOf (front ++ back) (xs ++ ys)
together [] [] back ys h k = k
together [] (x ∷ xs) back ys h k = absurd h
together (l ∷ front) [] back ys h k = absurd h
together (l ∷ front) (x ∷ xs) back ys h k = (h.0, together front xs back ys h.1 k)

-- the inputs are what was sent of lists with this raw overlay
pub record AreSent (inputs : Inputs) (whole : List Record) : Type 0 where
  pub lists : List (List Record)
  pub rising : AllRising lists
  pub fronts : AreFrontsOf lists inputs
  pub overlay_is : raw_overlay lists ≡ whole

-- ---- the mergers

-- what a merger of two sent was sent of the overlay of its two lists
front_of_two : (l r : Input RunFault) (a b sent : List Record) (end : End) →
    SendsAll [] (raw_merged_part (l ∷ r ∷ [])) (stop_end (l ∷ r ∷ [])) sent end →
    AllRising (a ∷ b ∷ []) → IsFrontOf a l → IsFrontOf b r →
    IsFrontOf (raw_overlay (a ∷ b ∷ [])) (input_of sent end)
front_of_two l r a b sent end sends rising h k =
    go (fronts_merge RunFault (a ∷ b ∷ []) (l ∷ r ∷ []) rising (h, (k, tt))) sends
  where
    merged : Input RunFault
    merged = record {
      records = raw_merged_part (l ∷ r ∷ []);
      fault = stop_fault (stop (l ∷ r ∷ []));
    }

    none_is_memory : None ≡ Some Memory → ⊥
    none_is_memory e = cc

    go : IsFrontOf (raw_overlay (a ∷ b ∷ [])) merged →
        SendsAll [] (raw_merged_part (l ∷ r ∷ [])) (stop_end (l ∷ r ∷ [])) sent end →
        IsFrontOf (raw_overlay (a ∷ b ∷ [])) (input_of sent end)
    go front (inl s) = record {
      first = subst (λ (rs : List Record). IsPrefix rs (raw_overlay (a ∷ b ∷ []))) (sym s.0)
          front.first;
      all = λ e. s.0 ∙ front.all (sym (ap fault_in s.1 ∙
          fault_of_end_of (stop_fault (stop (l ∷ r ∷ [])))) ∙ e);
    }
    go front (inr s) = record {
      first = subst (λ (rs : List Record). IsPrefix rs (raw_overlay (a ∷ b ∷ []))) (sym s.1.2)
          (prefix_trans s.1.0 (raw_merged_part (l ∷ r ∷ [])) (raw_overlay (a ∷ b ∷ [])) s.1.1
          front.first);
      all = λ e. absurd (none_is_memory (sym e ∙ ap fault_in s.0));
    }

joint_sent : (before after : Inputs) (j : IsJoint before after) (whole : List Record) →
    AreSent before whole → AreSent after whole
joint_sent before after j whole h =
    let parts = apart h.lists j.forked.front (j.left ∷ j.right ∷ j.forked.back)
    (subst (λ (is : Inputs). AreFrontsOf h.lists is) j.forked.now h.fronts) in
    go parts.front parts.back parts.is parts.fronts parts.backs
  where
    go : (front back : List (List Record)) → h.lists ≡ front ++ back →
        AreFrontsOf front j.forked.front → AreFrontsOf back (j.left ∷ j.right ∷ j.forked.back) →
        AreSent after whole
    go front [] is f k = absurd k
    go front (a ∷ []) is f k = absurd k.1
    go front (a ∷ b ∷ back) is f k =
        let rising = subst AllRising is h.rising in
        let two = two_of_all front back a b rising in
        let sends = j.merges (all_rising (a ∷ b ∷ []) (j.left ∷ j.right ∷ []) two (
          k.0,
          (k.1.0, tt),
        )) in
        let one = front_of_two j.left j.right a b j.sent j.end sends two k.0 k.1.0 in
        record {
          lists = front ++ raw_overlay (a ∷ b ∷ []) ∷ back;
          rising = rising_two_as_one front back a b rising;
          fronts = subst (λ (is : Inputs). AreFrontsOf (front ++ raw_overlay (a ∷ b ∷ []) ∷ back)
              is) (sym j.forked.was)
              (together front j.forked.front (raw_overlay (a ∷ b ∷ []) ∷ back)
              (input_of j.sent j.end ∷ j.forked.back) f (one, k.1.1));
          overlay_is = sym (overlay_of_two front back a b rising) ∙
              (ap raw_overlay (sym is) ∙ h.overlay_is);
        }

pub joined_sent : (n : ℕ) (files inputs : Inputs) → Joined n files inputs → (whole : List Record) →
    AreSent files whole → AreSent inputs whole
joined_sent zero files inputs j whole h = subst (λ (is : Inputs). AreSent is whole) (sym j) h
joined_sent (suc n) files inputs j whole h = joint_sent j.0 inputs j.2 whole
    (joined_sent n files j.0 j.1 whole h)

put_front : (a b : List Record) → IsPrefix a b → IsPrefix (pairs_put a) (pairs_put b)
put_front a b h = (
  pairs_put h.0,
  ap pairs_put h.1 ∙
      flat_map-append (λ (r : Record). pairs_of_change r.key r.value) a h.0,
)

-- the last merger sent the first pairs that the whole overlay puts
pub first_pairs : (inputs : Inputs) (pairs : List Pair) (end : End) (whole : List Record) →
    AreSent inputs whole → MergesAll inputs pairs end → IsPrefix pairs (pairs_put whole)
first_pairs inputs pairs end whole h merges =
    go (merges (all_rising h.lists inputs h.rising h.fronts))
  where
    part : IsPrefix (merged_part inputs) (pairs_put whole)
    part = put_front (raw_merged_part inputs) whole
        (subst (λ (rs : List Record). IsPrefix (raw_merged_part inputs) rs) h.overlay_is
        (fronts_merge RunFault h.lists inputs h.rising h.fronts).first)

    go : SendsAll [] (merged_part inputs) (stop_end inputs) pairs end →
        IsPrefix pairs (pairs_put whole)
    go (inl s) = subst (λ (ps : List Pair). IsPrefix ps (pairs_put whole)) (sym s.0) part
    go (inr s) = subst (λ (ps : List Pair). IsPrefix ps (pairs_put whole)) (sym s.1.2)
        (prefix_trans s.1.0 (merged_part inputs) (pairs_put whole) s.1.1 part)

-- ---- the loaders

module _ {S : Type 0} (seen : S → SourceView) (limit : ℕ) where
  -- the good records of the files, and what was sent of them
  pub record Good (ss : List S) (sent : Inputs) : Type 0 where
    pub goods : List (List Record)
    pub are_good : AreGood seen limit ss goods
    pub fronts : AreFrontsOf goods sent
    pub rising : AllRising goods

  -- the good records of what an honest source has left
  left_good : {s : S} {good : List Record} {ending : Option Flaw} → (seen s).is_honest ≡ true →
      IsReading (seen s).left limit good ending → AreGoodOf seen limit s good
  left_good {s} {good} {ending} is reading = record {
    bytes = (seen s).left;
    left = λ _. refl;
    ending = ending;
    reading = reading;
  }

  -- the good records of a source, and what was sent of them
  record OneGood (s : S) (sent : Input RunFault) : Type 0 where
    good : List Record
    is_good : AreGoodOf seen limit s good
    front : IsFrontOf good sent

  -- what a loader sent are the first good records of its file
  one_good : LeftAreBytes seen → (file : ℕ) (s : S) (o : Batching Record) (t : S)
      (c : Whole Record) → IsLoadedFrom seen file limit s o.link t c → OneGood s (sent_input c)
  one_good bytes file s o t c h = go (seen s).is_honest refl
    where
      sent : IsBegunLoad h.loaded.handed limit c.items
      sent = begun seen limit file s o t c h

      go : (honest : Bool) → (seen s).is_honest ≡ honest → OneGood s (sent_input c)
      go true is =
          let has = reading_is (seen s).left limit (bytes s is) in record {
            good = has.good;
            is_good = left_good is has.reading;
            front = record {
              first = first_are_good (seen s).left limit c.items (sent.rest ++ (seen t).left)
                  has.good has.ending
                  (begins_all (seen s).left h.loaded.handed (seen t).left limit c.items sent.rest
                  sent.begins (h.loaded.kept is)) has.reading;
              all = λ e.
                  let read = one_read seen limit file s o t c h (clean_end c.end e) in
                  (one_reading (seen s).left limit c.items has.good None has.ending
                  (subst (λ (numbers : List ℕ). IsReading numbers limit c.items None) (read.left is)
                  read.reading) has.reading).0;
            };
          }
      go false is = record {
        good = c.items;
        is_good = record {
          bytes = flat_map record_spelling c.items;
          left = λ honest. absurd (not_both (seen s).is_honest is honest);
          ending = None;
          reading = own_reading sent.begins;
        };
        front = record { first = ([], sym (append-nil c.items)); all = λ e. refl };
      }

  pub all_fronts : LeftAreBytes seen → (file : ℕ) (ss : List S) (os : List (Batching Record))
      (ts : List S) (cs : List (Whole Record)) →
      AreLoaded seen limit file ss os ts cs → Good ss (map sent_input cs)
  all_fronts bytes = of_all seen limit
      (λ _ ss _ _ cs. Good ss (map sent_input cs))
      (λ _. record { goods = []; are_good = tt; fronts = tt; rising = tt })
      (λ file s o t c _ _ _ _ h rest.
      let one = one_good bytes file s o t c h in
      record {
        goods = one.good ∷ rest.goods;
        are_good = (one.is_good, rest.are_good);
        fronts = (one.front, rest.fronts);
        rising = (one.is_good.reading.begins.rising, rest.rising);
      })

  -- n files have at most n times as many good records as one may have
  pub good_few : (ss : List S) (goods : List (List Record)) → AreGood seen limit ss goods →
      limit ≤ 16777216 → length (flat_map (λ records. records) goods) ≤ length ss * 16777216
  good_few [] [] h small = omega arith
  good_few [] (g ∷ goods) h small = absurd h
  good_few (s ∷ ss) [] h small = absurd h
  good_few (s ∷ ss) (g ∷ goods) h small =
      let one = h.0.reading.begins.few in
      let rest = good_few ss goods h.1 small in
      let both = length-append g (flat_map (λ records. records) goods) in
      omega (arith, one, rest, both, small)

  -- sources that nobody read have good records
  pub some_good : LeftAreBytes seen → (ss : List S) → (goods : List (List Record)) ×
      AreGood seen limit ss goods
  some_good bytes [] = ([], tt)
  some_good bytes (s ∷ ss) =
      let one = unread (seen s).is_honest refl in
      let rest = some_good bytes ss in
      (one.0 ∷ rest.0, (one.1, rest.1))
    where
      unread : (honest : Bool) → (seen s).is_honest ≡ honest →
          (good : List Record) × AreGoodOf seen limit s good
      unread true is =
          let has = reading_is (seen s).left limit (bytes s is) in
          (has.good, left_good is has.reading)
      unread false is = (
        [],
        record {
          bytes = [];
          left = λ honest. absurd (not_both (seen s).is_honest is honest);
          ending = None;
          reading = own_reading (begins_none [] limit);
        },
      )

-- ---- all workers

-- a sink that was left alone
pub untouched_refused : {S : Type 0} (seen : S → SourceView) → LeftAreBytes seen →
    (settings : Settings) (before : List S) (old : SinkView) →
    IsRefused seen settings before old old
untouched_refused seen bytes settings before old =
    let has = some_good seen settings.max_records bytes before in record {
      goods = has.0;
      are_good = has.1;
      pairs = [];
      first = (overlay has.0, refl);
      taken = λ keeps. record {
        part = [];
        grown = sym (append-nil old.taken);
        is_prefix = (
          frames_of (header settings.version settings.bits)
              (chunks (sha512_cut settings.bits) settings.version []),
          refl,
        );
      };
    }

module _ {S : Type 0} (seen : S → SourceView) (settings : Settings) (before after : List S)
  where
    abbrev cut : Cut
    cut = sha512_cut settings.bits

    abbrev level : ℕ
    level = settings.stages - 1

    -- what the last stage sent, by the first pairs of the overlay of all good records
    pub record IsRefusedRun (events : List Chunk) : Type 0 where
      pub goods : List (List Record)
      pub are_good : AreGood seen settings.max_records before goods
      pub pairs : List Pair
      pub first : IsPrefix pairs (overlay goods)
      pub taken : IsPrefix (before_second level events) (chunks cut settings.version pairs)

    pub source_refused : LeftAreBytes seen → AreLawful settings → length before ≤ 16 →
        (events : List Chunk) (end : End) →
        HasStaged seen settings level before after events end → end ≡ Fault Memory →
        IsRefusedRun events
    source_refused bytes lawful sixteen events end h end_is =
        let sent = all_fronts seen settings.max_records bytes 0 before h.gathered.loader_outs after
        h.gathered.files h.gathered.loaded in
        let files : AreSent (map sent_input h.gathered.files) (raw_overlay sent.goods) =
        record {
          lists = sent.goods;
          rising = sent.rising;
          fronts = sent.fronts;
          overlay_is = refl;
        } in
        let inputs = joined_sent h.gathered.mergers (map sent_input h.gathered.files)
        h.gathered.inputs h.gathered.joined (raw_overlay sent.goods) files in
        let first = first_pairs h.gathered.inputs h.pairs h.pairs_end (raw_overlay sent.goods) inputs
        h.gathered.merges in
        let all = good_few seen settings.max_records before sent.goods sent.are_good
        lawful.max_records.1 in
        let small = overlay_is_small sent.goods in
        let more : length (overlay sent.goods) ≡ length (h.pairs ++ first.0) =
        ap (λ (ps : List Pair). length ps) first.1 in
        let sum = length-append h.pairs first.0 in
        let few : length h.pairs < 2 ^ 64 = omega (arith, all, small, more, sum, sixteen) in
        let takes = writer_takes cut settings.version h.pairs level
        (composition cut settings.version h.pairs few level) h.pairs_end events end h.staged in
        let tree = chunks cut settings.version h.pairs in
        record {
          goods = sent.goods;
          are_good = sent.are_good;
          pairs = h.pairs;
          first = first;
          taken = prefix_trans (before_second level events) (before_second level tree) tree
              (takes.memory end_is)
              (within_is_prefix (suc level) tree tree ([], sym (append-nil tree))).1;
        }

    -- what the sink took of that
    pub refused : {old new : SinkView} {sent : Whole Chunk} → IsRefusedRun sent.items →
        IsRefusedAt settings sent old new → IsRefused seen settings before old new
    refused h at = record {
      goods = h.goods;
      are_good = h.are_good;
      pairs = h.pairs;
      first = h.first;
      taken = λ keeps. prefix_on _ (at.took keeps)
          (frames_front (header settings.version settings.bits) _
          (chunks cut settings.version h.pairs) h.taken);
    }

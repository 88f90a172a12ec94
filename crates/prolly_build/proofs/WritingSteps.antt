-- How the writer's state goes on.
use Rattle.std.proofs.Common.{◌≡◌, ◌≢◌, ◌<◌, ◌^◌, Option, Some, length, ℕ, suc, ◌≤◌, Bool, true}
use Rattle.std.proofs.Common.{false, List, [], ◌∷◌, ◌++◌, refl, sym, ap, ◌∙◌, subst, arith}
use Rattle.std.proofs.Common.{append_assoc}
use Rattle.std.proofs.lemmas.List.{append-nil}
use Rattle.prolly_tree.specs.Chunk.{Chunk}
use Rattle.prolly_tree.specs.File.{frame, end_record}
use Rattle.prolly_tree.specs.Events.{has_level, greatest_count}
use Rattle.prolly_tree.specs.Pipeline.{before_second}
use Rattle.prolly_entry.specs.Prefix.{IsPrefix}
use Rattle.prolly_entry.specs.lemmas.Lists.{all_append, prefix_trans}
use Rattle.prolly_tree.specs.lemmas.Stages.{count, count_true, count_false}
use Rattle.prolly_laws.specs.Stages.{within_is_prefix}
use Rattle.prolly_io.specs.Sink.{SinkView, TakesPrefix}
use Rattle.prolly_build.specs.declared.run.writer.OpenFile.{OpenFile}
use Rattle.prolly_build.specs.declared.run.writer.LastChunk.{LastChunk}
use Rattle.prolly_build.specs.declared.run.writer.WriterState.{WriterState}
use Rattle.prolly_build.specs.WriterState.{AreSmall, frames_of, count_told, IsLastOf}
use Rattle.prolly_build.specs.WriterState.{AreAllWritten, IsTall}
use Rattle.prolly_build.specs.WriterState.{IsFailed, IsUnended, HasWritten}
use Rattle.prolly_build.proofs.Tops.{one_more, second_all, second_last, second_stays, frames_front}
use Rattle.prolly_build.proofs.Tops.{frames_more}

-- too tall a tree stays so
pub tall_stays : {head : List ℕ} {level : ℕ} {events : List Chunk} {old new : SinkView}
    (e : Chunk) → IsTall head level events old new →
    IsTall head level (events ++ e ∷ []) old new
tall_stays {head} {level} {events} {old} e h = let more = one_more level events e in let two =
    h.second in record {
      second = omega (arith, more, two);
      small = subst AreSmall (sym (second_stays level events (e ∷ []) h.second)) h.small;
      unfailed = h.unfailed;
      taken_is = λ k. h.taken_is k ∙ ap (λ cs. old.taken ++ frames_of head cs)
          (sym (second_stays level events (e ∷ []) h.second));
      keeps = h.keeps;
    }

-- what is a prefix of the wanted bytes is one of bytes that they begin
pub prefix_on : {old new wanted : List ℕ} (more : List ℕ) → TakesPrefix old new wanted →
    IsPrefix wanted more → TakesPrefix old new more
prefix_on {wanted} more h k = record {
  part = h.part;
  grown = h.grown;
  is_prefix = prefix_trans h.part wanted more h.is_prefix k;
}

-- so does a failed file
pub failed_stays : {head : List ℕ} {level : ℕ} {events : List Chunk} {old new : SinkView}
    (e : Chunk) → IsFailed head level events old new →
    IsFailed head level (events ++ e ∷ []) old new
failed_stays {head} {level} {events} e h = record {
  failed = h.failed;
  tried = h.tried;
  small = h.small;
  first = prefix_trans h.tried (before_second level events) (before_second level (events ++ e ∷ []))
      h.first
      (within_is_prefix (suc level) events (events ++ e ∷ []) (e ∷ [], refl)).0;
  taken_is = h.taken_is;
  keeps = h.keeps;
}

-- and what was taken of it is a prefix of the frames of all that the writer takes
pub failed_part : {head : List ℕ} {level : ℕ} {events : List Chunk} {old new : SinkView} →
    IsFailed head level events old new → old.is_keeping ≡ true →
    TakesPrefix old.taken new.taken (frames_of head (before_second level events))
failed_part {head} {level} {events} h k =
    prefix_on (frames_of head (before_second level events)) (h.taken_is k)
    (frames_front head h.tried (before_second level events) h.first)

-- a chunk more whose length its frame can spell
pub small_more : (events : List Chunk) (e : Chunk) → AreSmall events → length e.bytes < 2 ^ 64 →
    AreSmall (events ++ e ∷ [])
small_more events e h k = all_append (λ c. length c.bytes < 2 ^ 64) events (e ∷ []) h (k, tt)

-- the second event of the last stage's level
pub tall_now : {head : List ℕ} {level : ℕ} {events : List Chunk} {old new : SinkView}
    {begun : OpenFile} (e : Chunk) → AreAllWritten head level events old new begun →
    begun.has_last_level ≡ true → has_level level e ≡ true → IsTall head level (events ++ e ∷ []) old new
tall_now {head} {level} {events} {old} e h top t =
    let one : count level events ≡ 1 = h.few ∙ ap count_told top in
    let more = one_more level events e in
    let its : count level (e ∷ []) ≡ suc (count level []) = count_true level e [] t in record {
      second = omega (arith, one, more, its);
      small = subst AreSmall (sym (second_last level events e one t)) h.small;
      unfailed = h.unfailed;
      taken_is = λ k. h.taken_is k ∙ ap (λ cs. old.taken ++ frames_of head cs)
          (sym (second_last level events e one t));
      keeps = h.keeps;
    }

-- no second one of the last stage's level is there with one event more
abbrev pub IsFew : ℕ → List Chunk → Bool → Bool → Chunk → Type 0
IsFew level events has_last_level is_top e = (has_level level e ≡ is_top) ×
    (is_top ≡ true → has_last_level ≡ false)

one_at_most : (b : Bool) → count_told b ≤ 1
one_at_most true = omega arith
one_at_most false = omega arith

part_behind : (old mid new before wanted : List ℕ) → mid ≡ old ++ before →
    TakesPrefix mid new wanted → TakesPrefix old new (before ++ wanted)
part_behind old mid new before wanted e h = record {
  part = before ++ h.part;
  grown = h.grown ∙ (ap (λ (z : List ℕ). z ++ h.part) e ∙ append_assoc old before h.part);
  is_prefix = (
    h.is_prefix.0,
    ap (λ (z : List ℕ). before ++ z) h.is_prefix.1 ∙
        sym (append_assoc before h.part h.is_prefix.0),
  );
}

-- a frame fails
pub failed_now : {head : List ℕ} {level : ℕ} {events : List Chunk} {old mid new : SinkView}
    {begun : OpenFile} (e : Chunk) (is_top : Bool) →
    AreAllWritten head level events old mid begun → IsFew level events begun.has_last_level is_top e →
    length e.bytes < 2 ^ 64 →
    (mid.is_keeping ≡ true → TakesPrefix mid.taken new.taken (frame e)) →
    new.failures ≢ mid.failures → (mid.is_keeping ≡ true → new.is_keeping ≡ true) →
    IsFailed head level (events ++ e ∷ []) old new
failed_now {head} {level} {events} {old} {mid} {new} {begun} e is_top h few short part failed keeps
    = record {
      failed = λ f. failed (f ∙ sym h.unfailed);
      tried = events ++ e ∷ [];
      small = small_more events e h.small short;
      first = (
        [],
        second_all level (events ++ e ∷ []) (low begun.has_last_level is_top h.few few) ∙
            sym (append-nil (events ++ e ∷ [])),
      );
      taken_is = λ k. subst (TakesPrefix old.taken new.taken) (sym (frames_more head events e))
          (part_behind old.taken mid.taken new.taken (frames_of head events) (frame e)
          (h.taken_is k)
          (part (h.keeps k)));
      keeps = λ k. keeps (h.keeps k);
    }
  where
    low : (b c : Bool) → count level events ≡ count_told b → IsFew level events b c e →
        count level (events ++ e ∷ []) ≤ 1
    low true true h k = absurd (let f : true ≡ false = k.1 refl in cc)
    low true false h k = let more = one_more level events e in let its =
        count_false level e [] k.0 in omega (arith, h, more, its)
    low false true h k = let more = one_more level events e in let its =
        count_true level e [] k.0 in omega (arith, h, more, its)
    low false false h k = let more = one_more level events e in let its =
        count_false level e [] k.0 in omega (arith, h, more, its)

-- the end record fails
pub unended : {head : List ℕ} {level : ℕ} {events : List Chunk} {old mid new : SinkView}
    {begun : OpenFile} (top : LastChunk) → AreAllWritten head level events old mid begun →
    begun.last ≡ Some top → begun.file.chunks < greatest_count →
    (mid.is_keeping ≡ true → TakesPrefix mid.taken new.taken
    (end_record top.reference.0 begun.file.chunks)) → new.failures ≢ mid.failures →
    (mid.is_keeping ≡ true → new.is_keeping ≡ true) → IsUnended head level events old new
unended {head} {level} {events} {old} {mid} {new} {begun} top h top_is few part failed keeps =
    let last = subst (λ (t : Option LastChunk). IsLastOf events t) top_is h.last_is in
    let count_is = h.count_is in
    let chunks_are : begun.file.chunks ≡ length events = omega (arith, count_is, few) in
    let one = one_at_most begun.has_last_level in
    let some = h.few in
    record {
      before = last.0;
      root = last.1;
      whole = last.2;
      few = omega (arith, one, some);
      failed = λ f. failed (f ∙ sym h.unfailed);
      taken_is = λ k.
          subst (λ (bytes : List ℕ). TakesPrefix old.taken new.taken
          (frames_of head events ++ bytes))
          (ap (λ (n : ℕ). end_record top.reference.0 n) chunks_are ∙
          ap (λ (r : List ℕ). end_record r (length events)) last.3)
          (part_behind old.taken mid.taken new.taken (frames_of head events)
          (end_record top.reference.0 begun.file.chunks) (h.taken_is k) (part (h.keeps k)));
      keeps = λ k. keeps (h.keeps k);
    }

-- the same events
pub written_of : (head : List ℕ) (level : ℕ) (es more : List Chunk) (old new : SinkView)
    (written : WriterState) → more ≡ es → HasWritten head level es old new written →
    HasWritten head level more old new written
written_of head level es more old new written e h =
    subst (λ (cs : List Chunk). HasWritten head level cs old new written) (sym e) h

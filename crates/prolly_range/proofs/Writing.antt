-- Writing the chunks of a proof, one after another.
use Rattle.std.proofs.Common.{◌≡◌, ℕ, true, List, [], ◌∷◌, ◌++◌, Some, refl, sym, ap, ◌∙◌, subst}
use Rattle.std.proofs.Common.{append_assoc, append-nil, map}
use Rattle.std.specs.List.{AllByRecursion, flat_map}
use Rattle.std.proofs.lemmas.List.Concat.{flat_map-append}
use Rattle.prolly_entry.specs.Pair.{Pair}
use Rattle.prolly_entry.specs.declared.version.Version.{Version}
use Rattle.prolly_entry.specs.lemmas.Lists.{all_append}
use Rattle.prolly_io.specs.Frame.{framed, IsSmall}
use Rattle.prolly_io.specs.Sink.{SinkView, TakesPrefix}
use Rattle.prolly_range.specs.KeySet.{KeySet}
use Rattle.prolly_range.specs.Prover.{ProvesNext, WritesPart, WritesProof, WritesRest, located_due}
use Rattle.prolly_range.specs.declared.located.Located.{Located}
use Rattle.prolly_range.specs.SetProof.{AreTaken, Due, root_due, set_file, set_start}
use Rattle.prolly_range.specs.lemmas.Taken.{taken_more}

frames_more : (chunks : List (List ℕ)) (chunk : List ℕ) →
    flat_map framed chunks ++ framed chunk ≡ flat_map framed (chunks ++ chunk ∷ [])
frames_more chunks chunk = ap (λ x. flat_map framed chunks ++ x) (sym (append-nil (framed chunk))) ∙
    sym (flat_map-append framed chunks (chunk ∷ []))

-- a sink took the frames of chunks that were taken, and this is due behind them
pub record HaveWritten (version : Version) (due : List Due) (old now : SinkView) (rest : List Due)
    : Type 0 where
  pub chunks : List (List ℕ)
  pub pairs : List Pair
  pub small : AllByRecursion IsSmall chunks
  pub taken : AreTaken version due chunks pairs rest
  pub wrote : old.is_keeping ≡ true → now.taken ≡ old.taken ++ flat_map framed chunks
  pub keeping : old.is_keeping ≡ true → now.is_keeping ≡ true

pub none_written : (version : Version) (due : List Due) (sink : SinkView) →
    HaveWritten version due sink sink due
none_written version due sink = record {
  chunks = [];
  pairs = [];
  small = tt;
  taken = (refl, refl);
  wrote = λ keeping. sym (append-nil sink.taken);
  keeping = λ keeping. keeping;
}

module _ (version : Version) (due : List Due) (old mid : SinkView) (rest : List Due)
    (h : HaveWritten version due old mid rest) where
  pub one_written : (new : SinkView) (chunk : List ℕ) (next : List Due) →
      ProvesNext version rest (Some chunk) next →
      (mid.is_keeping ≡ true → new.taken ≡ mid.taken ++ framed chunk) →
      (mid.is_keeping ≡ true → new.is_keeping ≡ true) → HaveWritten version due old new next
  one_written new chunk next takes wrote keeping = record {
    chunks = h.chunks ++ chunk ∷ [];
    pairs = h.pairs ++ takes.0;
    small = all_append IsSmall h.chunks (chunk ∷ []) h.small (takes.2, tt);
    taken = taken_more version due h.chunks h.pairs rest chunk takes.0 next h.taken takes.1;
    wrote = λ keeps. wrote (h.keeping keeps) ∙ ap (λ x. x ++ framed chunk) (h.wrote keeps) ∙
        append_assoc old.taken (flat_map framed h.chunks) (framed chunk) ∙
        ap (λ x. old.taken ++ x) (frames_more h.chunks chunk);
    keeping = λ keeps. keeping (h.keeping keeps);
  }

  pub all_written : rest ≡ [] → WritesRest version due old mid
  all_written none = record {
    chunks = h.chunks;
    pairs = h.pairs;
    small = h.small;
    taken = subst (AreTaken version due h.chunks h.pairs) none h.taken;
    wrote = h.wrote;
  }

  pub part_written : WritesPart version due [] old mid
  part_written = record {
    chunks = h.chunks;
    pairs = h.pairs;
    rest = rest;
    taken = h.taken;
    wrote = λ keeps. record {
      part = flat_map framed h.chunks;
      grown = h.wrote keeps;
      is_prefix = ([], sym (append-nil (flat_map framed h.chunks)));
    };
  }

  -- of the frame of one more a part was written
  pub frame_part : (new : SinkView) (chunk : List ℕ) (next : List Due) →
      ProvesNext version rest (Some chunk) next →
      (mid.is_keeping ≡ true → TakesPrefix mid.taken new.taken (framed chunk)) →
      WritesPart version due [] old new
  frame_part new chunk next takes part = record {
    chunks = h.chunks ++ chunk ∷ [];
    pairs = h.pairs ++ takes.0;
    rest = next;
    taken = taken_more version due h.chunks h.pairs rest chunk takes.0 next h.taken takes.1;
    wrote = λ keeps.
        let p = part (h.keeping keeps) in
        let front = flat_map framed h.chunks in
        record {
          part = front ++ p.part;
          grown = p.grown ∙ ap (λ x. x ++ p.part) (h.wrote keeps) ∙
              append_assoc old.taken front p.part;
          is_prefix = (
            p.is_prefix.0,
            sym (frames_more h.chunks chunk) ∙ ap (λ x. front ++ x) p.is_prefix.1 ∙
                sym (append_assoc front p.part p.is_prefix.0),
          );
        };
  }

-- ---- behind the start

module _ (version : Version) (due : List Due) (old mid : SinkView)
    (begun : old.is_keeping ≡ true → mid.taken ≡ old.taken ++ set_start version)
    (keeps : old.is_keeping ≡ true → mid.is_keeping ≡ true) where
  pub start_part : (new : SinkView) → WritesPart version due [] mid new →
      WritesPart version due (set_start version) old new
  start_part new w = record {
    chunks = w.chunks;
    pairs = w.pairs;
    rest = w.rest;
    taken = w.taken;
    wrote = λ k.
        let p = w.wrote (keeps k) in
        record {
          part = set_start version ++ p.part;
          grown = p.grown ∙ ap (λ x. x ++ p.part) (begun k) ∙
              append_assoc old.taken (set_start version) p.part;
          is_prefix = (
            p.is_prefix.0,
            ap (λ x. set_start version ++ x) p.is_prefix.1 ∙
                sym (append_assoc (set_start version) p.part p.is_prefix.0),
          );
        };
  }

  module _ (last : SinkView) (w : WritesRest version due mid last) where
    wrote_all : old.is_keeping ≡ true →
        last.taken ≡ old.taken ++ (set_start version ++ flat_map framed w.chunks)
    wrote_all k = w.wrote (keeps k) ∙ ap (λ x. x ++ flat_map framed w.chunks) (begun k) ∙
        append_assoc old.taken (set_start version) (flat_map framed w.chunks)

    -- all was written, but not flushed
    pub flush_part : (new : SinkView) → (old.is_keeping ≡ true → new.taken ≡ last.taken) →
        WritesPart version due (set_start version) old new
    flush_part new same = record {
      chunks = w.chunks;
      pairs = w.pairs;
      rest = [];
      taken = w.taken;
      wrote = λ k. record {
        part = set_start version ++ flat_map framed w.chunks;
        grown = same k ∙ wrote_all k;
        is_prefix = ([], sym (append-nil (set_start version ++ flat_map framed w.chunks)));
      };
    }

pub proof_written : (version : Version) (root : List ℕ) (set : KeySet) (old mid last new : SinkView) →
    (old.is_keeping ≡ true → mid.taken ≡ old.taken ++ set_start version) →
    (old.is_keeping ≡ true → mid.is_keeping ≡ true) →
    WritesRest version (root_due root set ∷ []) mid last →
    (old.is_keeping ≡ true → new.taken ≡ last.taken) → WritesProof version root set old new
proof_written version root set old mid last new begun keeps w same = record {
  bytes = set_file version w.chunks;
  pairs = w.pairs;
  proof = record { chunks = w.chunks; small = w.small; is = refl; taken = w.taken };
  wrote = λ k. same k ∙ wrote_all version (root_due root set ∷ []) old mid begun keeps last w k;
}

-- nothing was written yet, or a part of the start
pub begun_part : (version : Version) (due : List Due) (old new : SinkView) →
    (old.is_keeping ≡ true → TakesPrefix old.taken new.taken (set_start version)) →
    WritesPart version due (set_start version) old new
begun_part version due old new part = record {
  chunks = [];
  pairs = [];
  rest = due;
  taken = (refl, refl);
  wrote = λ k.
      let p = part k in
      record {
        part = p.part;
        grown = p.grown;
        is_prefix = (p.is_prefix.0, append-nil (set_start version) ∙ p.is_prefix.1);
      };
}

-- what is due, where some was put before the others
module _ {T : Type 0} (others : List (Located T)) where
  put_before : (xs : List (Located T)) →
      map located_due (xs ++ others) ≡ map located_due xs ++ map located_due others
  put_before [] = refl
  put_before (x ∷ xs) = ap (λ ds. located_due x ∷ ds) (put_before xs)

  pub joined_due : (first all : List (Located T)) → all ≡ first ++ others →
      map located_due all ≡ map located_due first ++ map located_due others
  joined_due first all e = ap (map located_due) e ∙ put_before first

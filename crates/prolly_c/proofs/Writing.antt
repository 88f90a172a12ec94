-- An index that is written, run by run.
use Rattle.std.proofs.Common.{◌≡◌, ℕ, ◌+◌, ◌-◌, ◌<◌, ◌≤◌, ◌⊎◌, inl, inr, List, [], ◌∷◌, ◌++◌}
use Rattle.std.proofs.Common.{length, take, drop, refl, sym, ap, ◌∙◌, subst, arith, append_assoc}
use Rattle.std.proofs.Common.{append-nil, set}
use Rattle.std.proofs.Math.Nat.{eq-or-lt_of_le}
use Rattle.std.proofs.lemmas.Grind.{take-set_at}
use Rattle.std.proofs.lemmas.List.{length-append}
use Rattle.std.proofs.lemmas.List.Concat.{flat_map-append}
use Rattle.std.specs.List.{flat_map, AllByRecursion}
use Rattle.prolly_entry.specs.Front.{NoPairAt}
use Rattle.prolly_entry.specs.Pair.{Pair, IsPair}
use Rattle.prolly_entry.specs.Spelling.{BeginsWith, pair_spelling}
use Rattle.prolly_entry.specs.lemmas.Lists.{all_append}
use Rattle.prolly_entry.specs.lemmas.Spellings.{pair_spellings_apart}
use Rattle.prolly_c.proofs.Entries.{end_behind, some_bytes}
use Rattle.prolly_c.specs.Runs.{AreRuns, IsEnd, IsRun, runs_for}
use Rattle.prolly_c.specs.Writing.{Passes, Spells, Wrote, WroteChunk}
use Rattle.prolly_c.specs.declared.writer.Written.{Written}
use Rattle.prolly_c.specs.declared.run.Run.{Run}

-- ---- the pairs of a run

-- Where bytes are left before the tail, one more pair is.
pub passes_more : (bytes : List ℕ) (pairs : List Pair) (tail : List ℕ) (count : ℕ)
    (rest next : List ℕ) (p : Pair) → length tail < length rest →
    BeginsWith pair_spelling IsPair rest p next → Passes bytes pairs tail count rest →
    Passes bytes pairs tail (count + 1) next
passes_more bytes pairs tail count rest next p some b s = go s.behind s.are s.left.is s.left.lawful
  where
    go : (behind : List Pair) → pairs ≡ s.here ++ behind →
        rest ≡ flat_map pair_spelling behind ++ tail → AllByRecursion IsPair behind →
        Passes bytes pairs tail (count + 1) next
    go [] are is lawful = absurd (let same = ap length is in omega arith)
    go (q ∷ qs) are is lawful =
        let r = pair_spellings_apart p q next (flat_map pair_spelling qs ++ tail) b.lawful lawful.0
        (sym b.is ∙ is ∙ append_assoc (pair_spelling q) (flat_map pair_spelling qs) tail) in
        let many = s.many in
        let long = length-append s.here (q ∷ []) in
        record {
          here = s.here ++ q ∷ [];
          behind = qs;
          are = are ∙ sym (append_assoc s.here (q ∷ []) qs);
          many = omega arith;
          lawful = all_append IsPair s.here (q ∷ []) s.lawful (lawful.0, tt);
          passed = s.passed ∙ ap (λ x. flat_map pair_spelling s.here ++ x)
              (b.is ∙ ap (λ x. pair_spelling x ++ next) r.0) ∙
              sym (append_assoc (flat_map pair_spelling s.here) (pair_spelling q) next) ∙
              ap (λ x. x ++ next) (sym (flat_map-append pair_spelling s.here (q ∷ []) ∙
              ap (λ x. flat_map pair_spelling s.here ++ x) (append-nil (pair_spelling q))));
          left = record { is = r.1; lawful = lawful.1 };
        }

-- So a pair begins them.
pub passes_some : (bytes : List ℕ) (pairs : List Pair) (tail : List ℕ) (count : ℕ)
    (rest : List ℕ) → length tail < length rest → NoPairAt rest →
    Passes bytes pairs tail count rest → ⊥
passes_some bytes pairs tail count rest some none s = go s.behind s.left.is s.left.lawful
  where
    go : (behind : List Pair) → rest ≡ flat_map pair_spelling behind ++ tail →
        AllByRecursion IsPair behind → ⊥
    go [] is lawful = let same = ap length is in omega arith
    go (q ∷ qs) is lawful = none q (flat_map pair_spelling qs ++ tail) lawful.0
        (is ∙ append_assoc (pair_spelling q) (flat_map pair_spelling qs) tail)

-- ---- a run of the bytes

-- What was passed of the last of the bytes lies where a run says.
pub run_there : (bytes left rest : List ℕ) (pairs : List Pair) (tail : List ℕ) (count : ℕ)
    (run : Run) → IsEnd bytes left → (s : Passes left pairs tail count rest) → 0 < count →
    run.start ≡ length bytes - length left → run.end ≡ length bytes - length rest →
    IsRun bytes run s.here
run_there bytes left rest pairs tail count run end s some start_is end_is =
    let spelled = flat_map pair_spelling s.here in
    let whole : bytes ≡ end.front ++ (spelled ++ rest) = end.is ∙
    ap (λ x. end.front ++ x) s.passed in
    let long = ap length whole ∙ length-append end.front (spelled ++ rest) in
    let more = length-append spelled rest in
    let left_long = ap length s.passed in
    let start : run.start ≡ length end.front = omega arith in
    let size : run.end - run.start ≡ length spelled = omega arith in
    let many = s.many in
    record {
      is = record {
        order = omega arith;
        within = omega arith;
        leaf = record {
          is = ap (λ n. take n (drop run.start bytes)) size ∙
              ap (λ n. take (length spelled) (drop n bytes)) start ∙
              ap (λ x. take (length spelled) (drop (length end.front) x)) whole ∙
              ap (take (length spelled)) (drop_front end.front (spelled ++ rest)) ∙
              take_front spelled rest;
          lawful = s.lawful;
        };
      };
      some = omega arith;
    }
  where
    drop_front : (xs ys : List ℕ) → drop (length xs) (xs ++ ys) ≡ ys
    drop_front [] ys = refl
    drop_front (x ∷ xs) ys = drop_front xs ys

    take_front : (xs ys : List ℕ) → take (length xs) (xs ++ ys) ≡ xs
    take_front [] ys = refl
    take_front (x ∷ xs) ys = ap (λ zs. x ∷ zs) (take_front xs ys)

-- ---- a run more

-- Runs go on with a run of the pairs behind theirs.
pub runs_more : (bytes : List ℕ) (number : ℕ) (runs : List Run) (run : Run) (pairs here : List Pair) →
    AreRuns bytes number runs pairs → run.first ≡ number + length pairs → IsRun bytes run here →
    AreRuns bytes number (runs ++ run ∷ []) (pairs ++ here)
runs_more bytes number [] run pairs here are first is = (
  here,
  [],
  ap (λ x. x ++ here) are ∙ sym (append-nil here),
  (let none = ap length are in omega arith),
  is,
  refl,
)
runs_more bytes number (r ∷ runs) run pairs here are first is = (
  are.0,
  are.1 ++ here,
  ap (λ x. x ++ here) are.2 ∙ append_assoc are.0 are.1 here,
  are.3,
  are.4,
  runs_more bytes (number + length are.0) runs run are.1 here are.5
      (let long = ap length are.2 ∙ length-append are.0 are.1 in omega arith) is,
)

-- The run is put behind those that were written, where there is room.
pub wrote_room : (bytes : List ℕ) (out : List Run) (written : Written) (done here : List Pair)
    (run : Run) (count : ℕ) → Wrote bytes out written done → run.first ≡ written.pairs →
    IsRun bytes run here → count ≡ length here → written.runs < length out →
    Wrote bytes (set out written.runs run)
    (record { runs = written.runs + 1; pairs = written.pairs + count }) (done ++ here)
wrote_room bytes out written done here run count wrote first is many room = record {
  many = let before = wrote.many in let long = length-append done here in omega arith;
  runs_are = λ within. subst (λ runs. AreRuns bytes 0 runs (done ++ here))
      (sym (take-set_at out written.runs (written.runs + 1) run refl room))
      (runs_more bytes 0 (take written.runs out) run done here (wrote.runs_are (omega arith))
      (let before = wrote.many in omega arith) is);
}

-- Where there is none, it is counted.
pub wrote_full : (bytes : List ℕ) (out : List Run) (written : Written) (done here : List Pair)
    (count : ℕ) → Wrote bytes out written done → count ≡ length here →
    length out ≤ written.runs →
    Wrote bytes out (record { runs = written.runs + 1; pairs = written.pairs + count })
    (done ++ here)
wrote_full bytes out written done here count wrote many full = record {
  many = let before = wrote.many in let long = length-append done here in omega arith;
  runs_are = λ within. absurd (omega arith);
}

-- ---- a leaf

-- So far the first pairs of a leaf were added, and the others are left.
pub record Adds (bytes : List ℕ) (out : List Run) (written : Written) (pairs : List Pair)
    (tail : List ℕ) (done : List Pair) (left : List ℕ) (begun : Written) : Type 0 where
  pub added : List Pair
  pub rest : List Pair
  pub are : pairs ≡ added ++ rest
  pub end : IsEnd bytes left
  pub spells : Spells left rest tail
  pub wrote : Wrote bytes out written (done ++ added)
  pub runs : written.runs + runs_for (length rest) ≡ begun.runs + runs_for (length pairs)

pub adds_none : (bytes : List ℕ) (out : List Run) (written : Written) (pairs : List Pair)
    (tail : List ℕ) (done : List Pair) (left : List ℕ) → IsEnd bytes left → Spells left pairs tail →
    Wrote bytes out written done → Adds bytes out written pairs tail done left written
adds_none bytes out written pairs tail done left end spells wrote = record {
  added = [];
  rest = pairs;
  are = refl;
  end = end;
  spells = spells;
  wrote = subst (Wrote bytes out written) (sym (append-nil done)) wrote;
  runs = refl;
}

-- A run of 16 pairs, or of the last ones, is one of those that the pairs have.
run_more : (here behind : ℕ) → 0 < here → here ≤ 16 → (here ≡ 16) ⊎ (behind ≡ 0) →
    runs_for (here + behind) ≡ 1 + runs_for behind
run_more here behind some few (inl full) = omega arith
run_more here behind some few (inr last) = omega arith

-- No pair is left where no more bytes are left than the tail has.
none_left : (bytes : List ℕ) (pairs : List Pair) (tail : List ℕ) → Spells bytes pairs tail →
    length bytes ≤ length tail → length pairs ≡ 0
none_left bytes [] tail s few = refl
none_left bytes (q ∷ qs) tail s few = absurd (
    let same = ap length (s.is ∙ append_assoc (pair_spelling q) (flat_map pair_spelling qs) tail) in
    let long = length-append (pair_spelling q) (flat_map pair_spelling qs ++ tail) in
    let more = length-append (flat_map pair_spelling qs) tail in
    let whole = some_bytes q [] in
    let own = length-append (pair_spelling q) [] in
    omega arith)

full_or_last : (count : ℕ) (rest : List ℕ) (pairs : List Pair) (tail : List ℕ) →
    Spells rest pairs tail → count ≤ 16 → (count < 16 → length rest ≤ length tail) →
    (count ≡ 16) ⊎ (length pairs ≡ 0)
full_or_last count rest pairs tail s few full = elim (eq-or-lt_of_le few) [
  | inl same ↦ inl same
  | inr less ↦ inr (none_left rest pairs tail s (full less))
]

-- One run more is added.
pub adds_run : (bytes : List ℕ) (out next_out : List Run) (written next_written : Written)
    (pairs : List Pair) (tail : List ℕ) (done : List Pair) (left next : List ℕ) (begun : Written)
    (run : Run) (count : ℕ) → (a : Adds bytes out written pairs tail done left begun) →
    Passes left a.rest tail count next → 0 < count → count ≤ 16 →
    (count < 16 → length next ≤ length tail) → next_written.runs ≡ written.runs + 1 →
    run.start ≡ length bytes - length left → run.end ≡ length bytes - length next →
    run.first ≡ written.pairs →
    ((bytes : List ℕ) (done here : List Pair) → Wrote bytes out written done →
    run.first ≡ written.pairs → IsRun bytes run here → count ≡ length here →
    Wrote bytes next_out next_written (done ++ here)) →
    Adds bytes next_out next_written pairs tail done next begun
adds_run bytes out next_out written next_written pairs tail done left next begun run count a p some
    few full one start end first wrote = record {
      added = a.added ++ p.here;
      rest = p.behind;
      are = a.are ∙ ap (λ x. a.added ++ x) p.are ∙ sym (append_assoc a.added p.here p.behind);
      end = end_behind bytes left next (flat_map pair_spelling p.here) a.end p.passed;
      spells = p.left;
      wrote = subst (Wrote bytes next_out next_written) (append_assoc done a.added p.here)
          (wrote bytes (done ++ a.added) p.here a.wrote first
          (run_there bytes left next a.rest tail count run a.end p some start end) p.many);
      runs =
          let more = run_more count (length p.behind) some few
          (full_or_last count next p.behind tail p.left few full) in
          let long = ap length p.are ∙ length-append p.here p.behind in
          let many = p.many in
          let same : length a.rest ≡ count + length p.behind = omega arith in
          let so = ap runs_for same ∙ more in
          let before = a.runs in
          omega arith;
    }

-- Where no more bytes are left than the tail has, all pairs were added.
pub adds_all : (bytes : List ℕ) (out : List Run) (written : Written) (pairs : List Pair)
    (tail : List ℕ) (done : List Pair) (left : List ℕ) (begun : Written) →
    length left ≤ length tail → Adds bytes out written pairs tail done left begun →
    (length left ≡ length tail) × WroteChunk bytes out begun written done pairs
adds_all bytes out written pairs tail done left begun few a = go a.rest a.are a.spells a.runs
  where
    go : (rest : List Pair) → pairs ≡ a.added ++ rest → Spells left rest tail →
        written.runs + runs_for (length rest) ≡ begun.runs + runs_for (length pairs) →
        (length left ≡ length tail) × WroteChunk bytes out begun written done pairs
    go [] are spells runs = (
      ap length spells.is,
      record {
        wrote = subst (λ x. Wrote bytes out written (done ++ x))
            (sym (are ∙ append-nil a.added)) a.wrote;
        runs = omega (arith, runs);
      },
    )
    go (q ∷ qs) are spells runs = absurd
        (let none = none_left left (q ∷ qs) tail spells few in omega arith)

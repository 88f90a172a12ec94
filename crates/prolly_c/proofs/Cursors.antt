-- Where cursors stand, and where they go.
use Rattle.std.proofs.Common.{◌≡◌, ℕ, suc, ◌+◌, ◌-◌, ◌<◌, ◌≤◌, List, [], ◌∷◌, ◌++◌, length, take}
use Rattle.std.proofs.Common.{drop, get_or, refl, sym, ap, ◌∙◌, subst, arith}
use Rattle.std.proofs.Math.Seq.{drop-cons}
use Rattle.std.proofs.lemmas.List.{drop-drop, drop-take, length-append, length-drop, length-take-le}
use Rattle.prolly_entry.specs.Front.{NoPairAt}
use Rattle.prolly_entry.specs.Pair.{Pair, IsPair}
use Rattle.prolly_entry.specs.Spelling.{BeginsWith, pair_spelling}
use Rattle.prolly_look_up.specs.Entries.{IsLeaf}
use Rattle.prolly_look_up.specs.PairsFrom.{pairs_from}
use Rattle.prolly_look_up.specs.Sought.Sought.{Key}
use Rattle.prolly_look_up.specs.lemmas.PairLists.{from_all}
use Rattle.prolly_tree.specs.Difference.{IsMap}
use Rattle.std.specs.List.{flat_map}
use Rattle.prolly_c.proofs.Entries.{goes_on, no_bytes, reads_first, some_bytes}
use Rattle.prolly_c.proofs.RunLists.{Around, all_above, from_there, some_run}
use Rattle.prolly_c.specs.Cursor.{IsAt, first_place}
use Rattle.prolly_c.specs.Runs.{AreRuns, AreUpTo, IsEnd, IsPart, IsRun, part}
use Rattle.prolly_c.specs.declared.cursor.Cursor.{Cursor}
use Rattle.prolly_c.specs.declared.run.Run.{Run}

-- ---- parts of the bytes

-- What is behind the first bytes.
pub drop_front : (xs ys : List ℕ) → drop (length xs) (xs ++ ys) ≡ ys
drop_front [] ys = refl
drop_front (x ∷ xs) ys = drop_front xs ys

part_length : (bytes : List ℕ) (start end : ℕ) → start ≤ end → end ≤ length bytes →
    length (part bytes start end) ≡ end - start
part_length bytes start end order within = length-take-le (end - start) (drop start bytes)
    (let long = length-drop start bytes in omega arith)

-- What is left of a part is the part from so many bytes before its end on.
pub part_end : (bytes : List ℕ) (start end : ℕ) (front rest : List ℕ) → start ≤ end →
    end ≤ length bytes → part bytes start end ≡ front ++ rest →
    part bytes (end - length rest) end ≡ rest
part_end bytes start end front rest order within is =
    let size = part_length bytes start end order within in
    let same = ap length is in
    let long = length-append front rest in
    let at : end - length rest ≡ start + length front = omega arith in
    let left : end - (end - length rest) ≡ length rest = omega arith in
    let whole : end - start ≡ length front + length rest = omega arith in
    ap (λ n. take n (drop (end - length rest) bytes)) left ∙
    ap (λ n. take (length rest) (drop n bytes)) at ∙
    ap (take (length rest)) (sym (drop-drop (length front) start bytes)) ∙
    sym (drop-take (length front) (length rest) (drop start bytes)) ∙
    ap (λ n. drop (length front) (take n (drop start bytes))) (sym whole) ∙
    ap (drop (length front)) is ∙ drop_front front rest

-- So what was not read of a part that holds pairs holds those that are left.
pub rest_is : (bytes : List ℕ) (start end at : ℕ) (entries front rest : List ℕ) (here : List Pair) →
    start ≤ end → end ≤ length bytes → entries ≡ part bytes start end → entries ≡ front ++ rest →
    at ≡ end - length rest → IsLeaf rest here → IsPart bytes at end here
rest_is bytes start end at entries front rest here order within is spelled at_is leaf = record {
  order = omega arith;
  within = within;
  leaf = subst (λ x. IsLeaf x here)
      (sym (ap (λ n. part bytes n end) at_is ∙
      part_end bytes start end front rest order within (sym is ∙ spelled))) leaf;
}

-- ---- seeking

-- Where no run begins up to the key, the cursor stands before all pairs.
pub at_first : (bytes : List ℕ) (runs : List Run) (pairs : List Pair) (from : List ℕ) (next : ℕ) →
    next ≡ 0 → AreUpTo bytes runs (Key from) next → AreRuns bytes 0 runs pairs → IsMap pairs →
    IsAt bytes runs (record { at = 0; end = 0; next = next }) (pairs_from from pairs)
at_first bytes runs pairs from next none up are is_map =
    let above = all_above bytes runs pairs from are is_map
    (subst (AreUpTo bytes runs (Key from)) none up) in record {
      hand = [];
      behind = pairs;
      number = 0;
      are = from_all from pairs above;
      hand_is = record {
        order = omega arith;
        within = omega arith;
        leaf = record { is = refl; lawful = tt };
      };
      runs_are = subst (λ n. AreRuns bytes 0 (drop n runs) pairs) (sym none) are;
    }

-- Else in the last run that does, or behind it.
pub at_found : (bytes : List ℕ) (runs : List Run) (pairs : List Pair) (from : List ℕ)
    (start end next at : ℕ) (entries rest : List ℕ) → (a : Around bytes runs pairs from next) →
    IsPart bytes start end a.here → entries ≡ part bytes start end → IsEnd entries rest →
    at ≡ end - length rest → IsLeaf rest (pairs_from from a.here) →
    IsAt bytes runs (record { at = at; end = end; next = next }) (pairs_from from pairs)
at_found bytes runs pairs from start end next at entries rest a here is left at_is leaf = record {
  hand = pairs_from from a.here;
  behind = a.behind;
  number = a.number;
  are = from_there bytes runs pairs from next a;
  hand_is = rest_is bytes start end at entries left.front rest (pairs_from from a.here) here.order
      here.within is left.is at_is leaf;
  runs_are = a.rest;
}

-- ---- going on

-- Behind the last run there is no pair.
pub at_end : (bytes : List ℕ) (runs : List Run) (cursor : Cursor) (pairs : List Pair) →
    IsAt bytes runs cursor pairs → cursor.at ≡ cursor.end → length runs ≤ cursor.next → pairs ≡ []
at_end bytes runs cursor pairs at same past =
    let size = part_length bytes cursor.at cursor.end at.hand_is.order at.hand_is.within in
    let hand : at.hand ≡ [] = no_bytes (part bytes cursor.at cursor.end) at.hand (omega arith)
    at.hand_is.leaf in
    at.are ∙ ap (λ x. x ++ at.behind) hand ∙ go (drop cursor.next runs) refl at.runs_are
  where
    go : (left : List Run) → drop cursor.next runs ≡ left →
        AreRuns bytes at.number left at.behind → at.behind ≡ []
    go [] e are = are
    go (run ∷ left) e are = absurd
        (let long = length-drop cursor.next runs in let size = ap length e in omega arith)

-- The next run is taken in hand.
pub at_next : (bytes : List ℕ) (runs : List Run) (cursor : Cursor) (pairs : List Pair) →
    IsAt bytes runs cursor pairs → cursor.at ≡ cursor.end → cursor.next < length runs →
    IsAt bytes runs (record {
      at = (get_or runs cursor.next some_run).start;
      end = (get_or runs cursor.next some_run).end;
      next = cursor.next + 1;
    }) pairs × ((get_or runs cursor.next some_run).start < (get_or runs cursor.next some_run).end)
at_next bytes runs cursor pairs at same within =
    let run : Run = get_or runs cursor.next some_run in
    let size = part_length bytes cursor.at cursor.end at.hand_is.order at.hand_is.within in
    let hand : at.hand ≡ [] = no_bytes (part bytes cursor.at cursor.end) at.hand (omega arith)
    at.hand_is.leaf in
    let begun : drop cursor.next runs ≡ run ∷ drop (suc cursor.next) runs =
    drop-cons runs cursor.next some_run within in
    let are : AreRuns bytes at.number (run ∷ drop (suc cursor.next) runs) at.behind =
    subst (λ left. AreRuns bytes at.number left at.behind) begun at.runs_are in
    let next : suc cursor.next ≡ cursor.next + 1 = omega arith in (
      record {
        hand = are.0;
        behind = are.1;
        number = at.number + length are.0;
        are = at.are ∙ ap (λ x. x ++ at.behind) hand ∙ are.2;
        hand_is = are.4.is;
        runs_are = subst (λ n. AreRuns bytes (at.number + length are.0) (drop n runs) are.1) next
            are.5;
      },
      go run are.0 are.4,
    )
  where
    go : (run : Run) (here : List Pair) → IsRun bytes run here → run.start < run.end
    go run [] held = absurd (let some = held.some in omega arith)
    go run (p ∷ ps) held =
        let size = part_length bytes run.start run.end held.is.order held.is.within in
        let spelled = ap length held.is.leaf.is in
        let some = some_bytes p (flat_map pair_spelling ps) in
        omega arith

-- The pair in hand is read, and the cursor goes behind it.
pub at_behind : (bytes : List ℕ) (runs : List Run) (cursor : Cursor) (pairs : List Pair)
    (entries rest : List ℕ) (p : Pair) (next : ℕ) → IsAt bytes runs cursor pairs →
    entries ≡ part bytes cursor.at cursor.end →
    BeginsWith pair_spelling IsPair entries p rest → next ≡ cursor.end - length rest →
    (left : List Pair) × (pairs ≡ p ∷ left) ×
    IsAt bytes runs (record { at = next; end = cursor.end; next = cursor.next }) left
at_behind bytes runs cursor pairs entries rest p next at is b next_is =
    let r = reads_first entries rest p at.hand b
    (subst (λ x. IsLeaf x at.hand) (sym is) at.hand_is.leaf) in (
      r.0 ++ at.behind,
      at.are ∙ ap (λ x. x ++ at.behind) r.1,
      record {
        hand = r.0;
        behind = at.behind;
        number = at.number;
        are = refl;
        hand_is = rest_is bytes cursor.at cursor.end next entries (pair_spelling p) rest r.0
            at.hand_is.order at.hand_is.within is b.is next_is r.2;
        runs_are = at.runs_are;
      },
    )

-- There is one.
pub pair_there : (bytes : List ℕ) (runs : List Run) (cursor : Cursor) (pairs : List Pair)
    (entries : List ℕ) → IsAt bytes runs cursor pairs → cursor.at < cursor.end →
    entries ≡ part bytes cursor.at cursor.end → NoPairAt entries → ⊥
pair_there bytes runs cursor pairs entries at some is none =
    let size = part_length bytes cursor.at cursor.end at.hand_is.order at.hand_is.within in
    let same = ap length is in
    goes_on entries at.hand (omega arith) none
    (subst (λ x. IsLeaf x at.hand) (sym is) at.hand_is.leaf)

-- ---- at the start

-- A cursor of zeros stands before all pairs of an index.
pub at_start : (bytes : List ℕ) (runs : List Run) (pairs : List Pair) → AreRuns bytes 0 runs pairs →
    IsAt bytes runs first_place pairs
at_start bytes runs pairs are = record {
  hand = [];
  behind = pairs;
  number = 0;
  are = refl;
  hand_is = record {
    order = omega arith;
    within = omega arith;
    leaf = record { is = refl; lawful = tt };
  };
  runs_are = are;
}

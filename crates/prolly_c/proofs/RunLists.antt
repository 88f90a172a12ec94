-- The runs of an index, and what is found by them.
use Rattle.std.proofs.Common.{◌≡◌, ℕ, zero, suc, ◌+◌, ◌-◌, ◌<◌, ◌⊎◌, inl, inr, List, [], ◌∷◌}
use Rattle.std.proofs.Common.{◌++◌, length, get_or, drop, None, Ordering, refl, sym, ap, ◌∙◌, subst}
use Rattle.std.proofs.Common.{arith, append_assoc, append-nil}
use Rattle.std.proofs.Math.Seq.{drop-cons}
use Rattle.std.proofs.lemmas.List.{length-append, length-drop}
use Rattle.std.specs.List.{AllByRecursion}
use Rattle.std.specs.declared.cmp.Ordering.TheVariants.{Less, Equal, Greater}
use Rattle.prolly_entry.specs.Keys.{key_order, KeyBelow}
use Rattle.prolly_entry.specs.Pair.{Pair}
use Rattle.prolly_entry.specs.lemmas.Lists.{all_back}
use Rattle.prolly_entry.specs.lemmas.Orders.{order_trans, order_same, greater_below}
use Rattle.prolly_tree.specs.Difference.{IsMap}
use Rattle.prolly_tree.specs.LookUp.{find, nth}
use Rattle.prolly_tree.specs.lemmas.Maps.{Above, FirstAbove, Rises, above_first, find_above}
use Rattle.prolly_tree.specs.lemmas.Maps.{map_behind, rises, rises_front}
use Rattle.prolly_look_up.specs.PairsFrom.{pairs_from}
use Rattle.prolly_look_up.specs.Sought.Sought.{Key, Number}
use Rattle.prolly_look_up.specs.lemmas.PairLists.{find_first, find_over, from_all, none_from}
use Rattle.prolly_look_up.specs.lemmas.PairLists.{nth_back, nth_front, pairs_from-append}
use Rattle.prolly_c.specs.Runs.{AreRuns, AreUpTo, IsRun}
use Rattle.prolly_c.specs.declared.run.Run.{Run}

-- ---- one of the runs

-- Some run, where one has to be given.
abbrev pub some_run : Run
some_run = record { start = 0; end = 0; first = 0 }

same_head : {x y : Run} {xs ys : List Run} → x ∷ xs ≡ y ∷ ys → x ≡ y
same_head e = cc

-- What is left of runs from a place on begins with the run of that number.
head_is : (runs left : List Run) (run : Run) (count : ℕ) → drop count runs ≡ run ∷ left →
    (count < length runs) × (get_or runs count run ≡ run)
head_is runs left run count e =
    let within : count < length runs =
    let long = length-drop count runs in let same = ap length e in omega arith in
    (within, same_head (sym (drop-cons runs count run within) ∙ e))

-- What the run of this number holds, what the runs before it hold, and what those behind it do.
pub record RunAt (bytes : List ℕ) (number : ℕ) (runs : List Run) (pairs : List Pair) (k : ℕ) : Type 0
  where
    pub before : List Pair
    pub here : List Pair
    pub behind : List Pair
    pub are : pairs ≡ before ++ (here ++ behind)
    pub is : (other : Run) → IsRun bytes (get_or runs k other) here
    pub first : (other : Run) → (get_or runs k other).first ≡ number + length before
    pub rest : AreRuns bytes (number + length before + length here) (drop (suc k) runs) behind

pub run_at : (bytes : List ℕ) (number : ℕ) (runs : List Run) (pairs : List Pair) (k : ℕ) →
    AreRuns bytes number runs pairs → k < length runs → RunAt bytes number runs pairs k
run_at bytes number [] pairs k are within = absurd (omega arith)
run_at bytes number (run ∷ runs) pairs zero are within = record {
  before = [];
  here = are.0;
  behind = are.1;
  are = are.2;
  is = λ other. are.4;
  first = λ other. let e : run.first ≡ number = are.3 in omega arith;
  rest = let e : number + 0 + length are.0 ≡ number + length are.0 = omega arith in
      subst (λ n. AreRuns bytes n runs are.1) (sym e) are.5;
}
run_at bytes number (run ∷ runs) pairs (suc k) are within =
    let r = run_at bytes (number + length are.0) runs are.1 k are.5 (omega arith) in
    let long = length-append are.0 r.before in
    record {
      before = are.0 ++ r.before;
      here = r.here;
      behind = r.behind;
      are = are.2 ∙ ap (λ x. are.0 ++ x) r.are ∙
          sym (append_assoc are.0 r.before (r.here ++ r.behind));
      is = r.is;
      first = λ other. let e = r.first other in omega arith;
      rest =
          let e : number + length are.0 + length r.before + length r.here ≡
          number + length (are.0 ++ r.before) + length r.here = omega arith in
          subst (λ n. AreRuns bytes n (drop (suc k) runs) r.behind) e r.rest;
    }

-- The runs hold a pair, where there is one: it is the first of the first run.
pub first_run : (bytes : List ℕ) (number : ℕ) (run : Run) (runs : List Run) (pairs : List Pair) →
    AreRuns bytes number (run ∷ runs) pairs →
    (p : Pair) × (ps : List Pair) × (more : List Pair) × (pairs ≡ p ∷ (ps ++ more)) ×
    IsRun bytes run (p ∷ ps)
first_run bytes number run runs pairs are = go are.0 are.2 are.4
  where
    go : (here : List Pair) → pairs ≡ here ++ are.1 → IsRun bytes run here →
        (p : Pair) × (ps : List Pair) × (more : List Pair) × (pairs ≡ p ∷ (ps ++ more)) ×
        IsRun bytes run (p ∷ ps)
    go [] e is = absurd (let some = is.some in omega arith)
    go (p ∷ ps) e is = (p, ps, are.1, e, is)

-- ---- keys

-- Where a run begins behind the key, so do the pairs of all runs from it on.
pub first_above : (bytes : List ℕ) (number : ℕ) (runs : List Run) (pairs : List Pair) (key : List ℕ)
    (count : ℕ) → AreUpTo bytes runs (Key key) count →
    AreRuns bytes number (drop count runs) pairs → FirstAbove key pairs
first_above bytes number runs pairs key count up are = go (drop count runs) refl are
  where
    go : (left : List Run) → drop count runs ≡ left → AreRuns bytes number left pairs →
        FirstAbove key pairs
    go [] e are = subst (FirstAbove key) (sym are) tt
    go (run ∷ left) e are =
        let f = first_run bytes number run left pairs are in
        let h = head_is runs left run count e in
        subst (FirstAbove key) (sym f.3)
        (up.behind run h.0 f.0 f.1 (subst (λ r. IsRun bytes r (f.0 ∷ f.1)) (sym h.1) f.4))

-- Pairs before one that is not above a key are below it.
below_key : (before rest : List Pair) (p : Pair) (key : List ℕ) → Rises (before ++ p ∷ rest) →
    (KeyBelow key p.key → ⊥) → AllByRecursion (λ q. KeyBelow q.key key) before
below_key [] rest p key rise up = tt
below_key (q ∷ qs) rest p key rise up = (
  go (key_order key p.key) refl,
  below_key qs rest p key rise.1 up,
)
  where
    below : KeyBelow q.key p.key
    below = (all_back (λ x. KeyBelow q.key x.key) qs (p ∷ rest) rise.0).0

    go : (o : Ordering) → key_order key p.key ≡ o → KeyBelow q.key key
    go Less e = absurd (up e)
    go Equal e = subst (KeyBelow q.key) (sym (order_same key p.key e)) below
    go Greater e = order_trans q.key p.key key below (greater_below key p.key e)

-- The last run that begins up to a key: the pairs before it are below the key, those behind it
-- above.
pub record Around (bytes : List ℕ) (runs : List Run) (pairs : List Pair) (key : List ℕ) (count : ℕ)
    : Type 0 where
  pub before : List Pair
  pub here : List Pair
  pub behind : List Pair
  pub are : pairs ≡ before ++ (here ++ behind)
  pub is : (other : Run) → IsRun bytes (get_or runs (count - 1) other) here
  pub below : AllByRecursion (λ q. KeyBelow q.key key) before
  pub above : Above key behind
  pub rising : Rises here
  pub number : ℕ
  pub rest : AreRuns bytes number (drop count runs) behind

pub around : (bytes : List ℕ) (runs : List Run) (pairs : List Pair) (key : List ℕ) (count : ℕ) →
    0 < count → AreRuns bytes 0 runs pairs → IsMap pairs → AreUpTo bytes runs (Key key) count →
    Around bytes runs pairs key count
around bytes runs pairs key count some are is_map up =
    let r = run_at bytes 0 runs pairs (count - 1) are (let w = up.within in omega arith) in
    let whole : IsMap (r.before ++ (r.here ++ r.behind)) = subst IsMap r.are is_map in
    let from_here = map_behind r.before (r.here ++ r.behind) whole in
    let next : suc (count - 1) ≡ count = omega arith in
    let rest = subst (λ n. AreRuns bytes (0 + length r.before + length r.here) (drop n runs) r.behind)
    next r.rest in
    record {
      before = r.before;
      here = r.here;
      behind = r.behind;
      are = r.are;
      is = r.is;
      below = go r.before r.here r.behind whole r.is;
      above = above_first key r.behind (map_behind r.here r.behind from_here)
          (first_above bytes (0 + length r.before + length r.here) runs r.behind key count up rest);
      rising = rises_front r.here r.behind (rises (r.here ++ r.behind) from_here);
      number = 0 + length r.before + length r.here;
      rest = rest;
    }
  where
    go : (before here behind : List Pair) → IsMap (before ++ (here ++ behind)) →
        ((other : Run) → IsRun bytes (get_or runs (count - 1) other) here) →
        AllByRecursion (λ q. KeyBelow q.key key) before
    go before [] behind whole is = absurd (let none = (is some_run).some in omega arith)
    go before (p ∷ ps) behind whole is = below_key before (ps ++ behind) p key
        (rises (before ++ p ∷ (ps ++ behind)) whole)
        (up.last some_run some p ps (is some_run))

-- Where no run begins up to the key, all pairs are above it.
pub all_above : (bytes : List ℕ) (runs : List Run) (pairs : List Pair) (key : List ℕ) →
    AreRuns bytes 0 runs pairs → IsMap pairs → AreUpTo bytes runs (Key key) 0 → Above key pairs
all_above bytes runs pairs key are is_map up = above_first key pairs is_map
    (first_above bytes 0 runs pairs key 0 up are)

-- What is found of the key is found in that run.
pub found_there : (bytes : List ℕ) (runs : List Run) (pairs : List Pair) (key : List ℕ)
    (count : ℕ) → (a : Around bytes runs pairs key count) → find pairs key ≡ find a.here key
found_there bytes runs pairs key count a = ap (λ m. find m key) a.are ∙
    find_over a.before (a.here ++ a.behind) key a.below ∙
    find_first a.here a.behind key (find_above a.behind key a.above)

-- The pairs from the key on are those of that run, and all behind it.
pub from_there : (bytes : List ℕ) (runs : List Run) (pairs : List Pair) (key : List ℕ) (count : ℕ) →
    (a : Around bytes runs pairs key count) →
    pairs_from key pairs ≡ pairs_from key a.here ++ a.behind
from_there bytes runs pairs key count a = ap (pairs_from key) a.are ∙
    pairs_from-append key a.before (a.here ++ a.behind) ∙
    ap (λ x. x ++ pairs_from key (a.here ++ a.behind)) (none_from key a.before a.below) ∙
    pairs_from-append key a.here a.behind ∙
    ap (λ x. pairs_from key a.here ++ x) (from_all key a.behind a.above)

-- ---- numbers

-- Where the next run begins behind the number, a pair that is behind its own run is none.
ends_there : (bytes : List ℕ) (first : ℕ) (runs : List Run) (behind : List Pair) (n : ℕ)
    (count : ℕ) → AreUpTo bytes runs (Number n) count → AreRuns bytes first (drop count runs) behind →
    (behind ≡ []) ⊎ (n < first)
ends_there bytes first runs behind n count up are = go (drop count runs) refl are
  where
    go : (left : List Run) → drop count runs ≡ left → AreRuns bytes first left behind →
        (behind ≡ []) ⊎ (n < first)
    go [] e are = inl are
    go (run ∷ left) e are =
        let h = head_is runs left run count e in
        let past : n < (get_or runs count run).first = up.behind run h.0 in
        let same : (get_or runs count run).first ≡ run.first = ap (λ r. r.first) h.1 in
        let number : run.first ≡ first = are.3 in
        inr (omega arith)

-- Where no run begins up to the number, there is no pair.
pub none_at : (bytes : List ℕ) (runs : List Run) (pairs : List Pair) (n : ℕ) →
    AreRuns bytes 0 runs pairs → AreUpTo bytes runs (Number n) 0 → nth pairs n ≡ None
none_at bytes runs pairs n are up = go (ends_there bytes 0 runs pairs n 0 up are)
  where
    go : (pairs ≡ []) ⊎ (n < 0) → nth pairs n ≡ None
    go (inl e) = ap (λ m. nth m n) e
    go (inr k) = absurd (omega arith)

-- The pair of the number is found in that run.
pub record NthAt (bytes : List ℕ) (runs : List Run) (pairs : List Pair) (n count : ℕ) : Type 0 where
  pub here : List Pair
  pub is : (other : Run) → IsRun bytes (get_or runs (count - 1) other) here
  pub found : (other : Run) →
      nth pairs n ≡ nth here (n - (get_or runs (count - 1) other).first)

pub nth_there : (bytes : List ℕ) (runs : List Run) (pairs : List Pair) (n count : ℕ) → 0 < count →
    AreRuns bytes 0 runs pairs → AreUpTo bytes runs (Number n) count →
    NthAt bytes runs pairs n count
nth_there bytes runs pairs n count some are up =
    let r = run_at bytes 0 runs pairs (count - 1) are (let w = up.within in omega arith) in
    let next : suc (count - 1) ≡ count = omega arith in
    let rest = subst (λ m. AreRuns bytes (0 + length r.before + length r.here) (drop m runs) r.behind)
    next r.rest in
    let ends = ends_there bytes (0 + length r.before + length r.here) runs r.behind n count up rest in
    record {
      here = r.here;
      is = r.is;
      found = λ other.
          let first = r.first other in
          let reached = up.last other some in
          let m = n - (get_or runs (count - 1) other).first in
          let number : n ≡ length r.before + m = omega arith in
          ap (λ m. nth m n) r.are ∙ ap (nth (r.before ++ (r.here ++ r.behind))) number ∙
          nth_back r.before (r.here ++ r.behind) m ∙ go r.before r.here r.behind m number ends;
    }
  where
    go : (before here behind : List Pair) (m : ℕ) → n ≡ length before + m →
        (behind ≡ []) ⊎ (n < 0 + length before + length here) →
        nth (here ++ behind) m ≡ nth here m
    go before here behind m number (inl e) = ap (λ x. nth (here ++ x) m) e ∙
        ap (λ x. nth x m) (append-nil here)
    go before here behind m number (inr h) = nth_front here behind m (omega arith)

-- Reading the entries of a leaf, one pair after another.
use Rattle.std.proofs.Common.{◌≡◌, ℕ, zero, suc, ◌+◌, ◌-◌, ◌<◌, ◌≤◌, true, false, cond, not}
use Rattle.std.proofs.Common.{List, [], ◌∷◌, ◌++◌, length, take, drop, Some, None, refl, sym, ap}
use Rattle.std.proofs.Common.{◌∙◌, subst, arith, append_assoc}
use Rattle.std.specs.Int.{w16, w32, to_be_bytes}
use Rattle.std.specs.Ordering.{is_eq, is_lt}
use Rattle.std.proofs.lemmas.List.{length-append}
use Rattle.std.specs.List.{flat_map}
use Rattle.prolly_entry.specs.Front.{NoPairAt}
use Rattle.prolly_entry.specs.Pair.{Pair, IsPair}
use Rattle.prolly_entry.specs.Spelling.{BeginsWith, pair_spelling, key_spelling, value_spelling}
use Rattle.prolly_entry.specs.lemmas.Spellings.{pair_spellings_apart}
use Rattle.prolly_entry.specs.Keys.{key_order}
use Rattle.prolly_tree.specs.LookUp.{find, nth}
use Rattle.prolly_tree.specs.lemmas.Maps.{Rises}
use Rattle.prolly_look_up.specs.Entries.{IsLeaf}
use Rattle.prolly_look_up.specs.PairsFrom.{pairs_from}
use Rattle.prolly_look_up.specs.lemmas.PairLists.{from_first}
use Rattle.prolly_c.specs.Runs.{IsEnd}

-- A spelled pair has bytes.
pub some_bytes : (p : Pair) (rest : List ℕ) → 0 < length (pair_spelling p ++ rest)
some_bytes p rest = omega (
  arith,
  length-append (pair_spelling p) rest,
  length-append (key_spelling p.key) (value_spelling p.value),
)

-- What is read first is the first pair, and the others are behind it.
pub reads_first : (entries rest : List ℕ) (p : Pair) (pairs : List Pair) →
    BeginsWith pair_spelling IsPair entries p rest → IsLeaf entries pairs →
    (ps : List Pair) × (pairs ≡ p ∷ ps) × IsLeaf rest ps
reads_first entries rest p [] b leaf = absurd
    (let some = some_bytes p rest in let same = ap length (sym b.is ∙ leaf.is) in omega arith)
reads_first entries rest p (q ∷ qs) b leaf =
    let r = pair_spellings_apart p q rest (flat_map pair_spelling qs) b.lawful leaf.lawful.0
    (sym b.is ∙ leaf.is) in
    (qs, ap (λ x. x ∷ qs) (sym r.0), record { is = r.1; lawful = leaf.lawful.1 })

-- Where there are no bytes, there is no pair.
pub no_bytes : (entries : List ℕ) (pairs : List Pair) → length entries ≡ 0 → IsLeaf entries pairs →
    pairs ≡ []
no_bytes entries [] none leaf = refl
no_bytes entries (q ∷ qs) none leaf = absurd (
    let some = some_bytes q (flat_map pair_spelling qs) in let same = ap length leaf.is in
    omega arith)

-- ---- reading them until something is found

-- What is left of the entries is shorter behind the first pair, by six bytes at least.
pub shorter : (entries rest : List ℕ) (p : Pair) → BeginsWith pair_spelling IsPair entries p rest →
    length rest + 6 ≤ length entries
shorter entries rest p b = let same = ap length b.is in
    let whole = length-append (pair_spelling p) rest in
    let spelled = length-append (key_spelling p.key) (value_spelling p.value) in
    let key = length-append (to_be_bytes w16 (length p.key)) p.key in
    let value = length-append (to_be_bytes w32 (length p.value)) p.value in
    omega arith

-- A leaf's entries that are read go on with pairs, where some are left.
pub goes_on : (entries : List ℕ) (pairs : List Pair) → 0 < length entries → NoPairAt entries →
    IsLeaf entries pairs → ⊥
goes_on entries [] some none leaf = let same = ap length leaf.is in omega arith
goes_on entries (q ∷ qs) some none leaf = none q (flat_map pair_spelling qs) leaf.lawful.0 leaf.is

-- What is found of the key in the whole of the entries is found in those that are left.
abbrev pub FindsIn : List ℕ → List ℕ → List ℕ → Type 0
FindsIn key whole left = (pairs : List Pair) → IsLeaf whole pairs →
    (rest : List Pair) × IsLeaf left rest × (find pairs key ≡ find rest key)

pub finds_more : (key whole left rest : List ℕ) (p : Pair) →
    BeginsWith pair_spelling IsPair left p rest → is_eq (key_order p.key key) ≡ false →
    FindsIn key whole left → FindsIn key whole rest
finds_more key whole left rest p b other finds pairs leaf =
    let f = finds pairs leaf in
    let r = reads_first left rest p f.0 b f.1 in (
      r.0,
      r.2,
      f.2 ∙ ap (λ m. find m key) r.1 ∙
          ap (λ t. cond t (Some p.value) (find r.0 key)) other,
    )

pub finds_here : (key whole left rest : List ℕ) (p : Pair) →
    BeginsWith pair_spelling IsPair left p rest → is_eq (key_order p.key key) ≡ true →
    FindsIn key whole left → (pairs : List Pair) → IsLeaf whole pairs →
    Some p.value ≡ find pairs key
finds_here key whole left rest p b same finds pairs leaf =
    let f = finds pairs leaf in
    let r = reads_first left rest p f.0 b f.1 in
    sym (f.2 ∙ ap (λ m. find m key) r.1 ∙
    ap (λ t. cond t (Some p.value) (find r.0 key)) same)

pub finds_none : (key whole left : List ℕ) → length left ≡ 0 → FindsIn key whole left →
    (pairs : List Pair) → IsLeaf whole pairs → None ≡ find pairs key
finds_none key whole left none finds pairs leaf =
    let f = finds pairs leaf in
    sym (f.2 ∙ ap (λ m. find m key) (no_bytes left f.0 none f.1))

pub finds_on : (key whole left : List ℕ) → 0 < length left → NoPairAt left →
    FindsIn key whole left → (pairs : List Pair) → IsLeaf whole pairs → ⊥
finds_on key whole left some none finds pairs leaf =
    let f = finds pairs leaf in goes_on left f.0 some none f.1

-- The pair of a number in the whole of the entries is that of another one in those that are left.
abbrev pub CountsIn : ℕ → ℕ → List ℕ → List ℕ → Type 0
CountsIn number ahead whole left = (pairs : List Pair) → IsLeaf whole pairs →
    (rest : List Pair) × IsLeaf left rest × (nth pairs number ≡ nth rest ahead)

pub counts_more : (number ahead : ℕ) (whole left rest : List ℕ) (p : Pair) →
    BeginsWith pair_spelling IsPair left p rest → 0 < ahead →
    CountsIn number ahead whole left → CountsIn number (ahead - 1) whole rest
counts_more number ahead whole left rest p b some counts pairs leaf =
    let f = counts pairs leaf in
    let r = reads_first left rest p f.0 b f.1 in
    let next : ahead ≡ suc (ahead - 1) = omega arith in
    (r.0, r.2, f.2 ∙ ap (λ m. nth m ahead) r.1 ∙ ap (nth (p ∷ r.0)) next)

pub counts_here : (number ahead : ℕ) (whole left rest : List ℕ) (p : Pair) →
    BeginsWith pair_spelling IsPair left p rest → ahead ≡ 0 →
    CountsIn number ahead whole left → (pairs : List Pair) → IsLeaf whole pairs →
    Some p ≡ nth pairs number
counts_here number ahead whole left rest p b none counts pairs leaf =
    let f = counts pairs leaf in
    let r = reads_first left rest p f.0 b f.1 in
    sym (f.2 ∙ ap (λ m. nth m ahead) r.1 ∙ ap (nth (p ∷ r.0)) none)

pub counts_none : (number ahead : ℕ) (whole left : List ℕ) → length left ≡ 0 →
    CountsIn number ahead whole left → (pairs : List Pair) → IsLeaf whole pairs →
    None ≡ nth pairs number
counts_none number ahead whole left none counts pairs leaf =
    let f = counts pairs leaf in
    sym (f.2 ∙ ap (λ m. nth m ahead) (no_bytes left f.0 none f.1))

pub counts_on : (number ahead : ℕ) (whole left : List ℕ) → 0 < length left → NoPairAt left →
    CountsIn number ahead whole left → (pairs : List Pair) → IsLeaf whole pairs → ⊥
counts_on number ahead whole left some none counts pairs leaf =
    let f = counts pairs leaf in goes_on left f.0 some none f.1

-- The pairs from the key on of the whole of the entries are those of the entries that are left.
abbrev pub SeeksIn : List ℕ → List ℕ → List ℕ → Type 0
SeeksIn from whole left = (pairs : List Pair) → IsLeaf whole pairs → Rises pairs →
    (rest : List Pair) × IsLeaf left rest × Rises rest ×
    (pairs_from from pairs ≡ pairs_from from rest)

pub seeks_more : (from whole left rest : List ℕ) (p : Pair) →
    BeginsWith pair_spelling IsPair left p rest → is_lt (key_order p.key from) ≡ true →
    SeeksIn from whole left → SeeksIn from whole rest
seeks_more from whole left rest p b past seeks pairs leaf rise =
    let f = seeks pairs leaf rise in
    let r = reads_first left rest p f.0 b f.1 in (
      r.0,
      r.2,
      (subst Rises r.1 f.2).1,
      f.3 ∙ ap (pairs_from from) r.1 ∙
          ap (λ t. cond (not t) (p ∷ pairs_from from r.0) (pairs_from from r.0)) past,
    )

pub seeks_here : (from whole left rest : List ℕ) (p : Pair) →
    BeginsWith pair_spelling IsPair left p rest → is_lt (key_order p.key from) ≡ false →
    SeeksIn from whole left → (pairs : List Pair) → IsLeaf whole pairs → Rises pairs →
    IsLeaf left (pairs_from from pairs)
seeks_here from whole left rest p b here seeks pairs leaf rise =
    let f = seeks pairs leaf rise in
    let r = reads_first left rest p f.0 b f.1 in
    let same : f.0 ≡ pairs_from from pairs =
    r.1 ∙ sym (f.3 ∙ ap (pairs_from from) r.1 ∙
    from_first from p r.0 (subst Rises r.1 f.2) here) in
    subst (IsLeaf left) same f.1

pub seeks_none : (from whole left : List ℕ) → length left ≡ 0 → SeeksIn from whole left →
    (pairs : List Pair) → IsLeaf whole pairs → Rises pairs → IsLeaf left (pairs_from from pairs)
seeks_none from whole left none seeks pairs leaf rise =
    let f = seeks pairs leaf rise in
    let empty = no_bytes left f.0 none f.1 in
    let same : f.0 ≡ pairs_from from pairs =
    empty ∙ sym (f.3 ∙ ap (pairs_from from) empty) in
    subst (IsLeaf left) same f.1

pub seeks_on : (from whole left : List ℕ) → 0 < length left → NoPairAt left →
    SeeksIn from whole left → (pairs : List Pair) → IsLeaf whole pairs → Rises pairs → ⊥
seeks_on from whole left some none seeks pairs leaf rise =
    let f = seeks pairs leaf rise in goes_on left f.0 some none f.1

-- ---- the last of the bytes

-- Where some bytes are the last of others, so is what is left behind a first part of them.
pub end_behind : (bytes left rest spelled : List ℕ) → IsEnd bytes left → left ≡ spelled ++ rest →
    IsEnd bytes rest
end_behind bytes left rest spelled end is = record {
  front = end.front ++ spelled;
  is = end.is ∙ ap (λ x. end.front ++ x) is ∙ sym (append_assoc end.front spelled rest);
}

pub end_begins : (bytes left rest : List ℕ) (p : Pair) → IsEnd bytes left →
    BeginsWith pair_spelling IsPair left p rest → IsEnd bytes rest
end_begins bytes left rest p end b = end_behind bytes left rest (pair_spelling p) end b.is

parts_are : (n : ℕ) (xs : List ℕ) → xs ≡ take n xs ++ drop n xs
parts_are zero xs = refl
parts_are (suc n) [] = refl
parts_are (suc n) (x ∷ xs) = ap (λ ys. x ∷ ys) (parts_are n xs)

-- What stands behind the first n of them is.
pub end_drop : (bytes rest : List ℕ) (n : ℕ) → rest ≡ drop n bytes → IsEnd bytes rest
end_drop bytes rest n is = record {
  front = take n bytes;
  is = parts_are n bytes ∙ ap (λ x. take n bytes ++ x) (sym is);
}

-- So is what stands behind the first n of the last of them.
pub end_back : (bytes left rest : List ℕ) (n : ℕ) → IsEnd bytes left → rest ≡ drop n left →
    IsEnd bytes rest
end_back bytes left rest n end is = let e = end_drop left rest n is in
    end_behind bytes left rest e.front end e.is

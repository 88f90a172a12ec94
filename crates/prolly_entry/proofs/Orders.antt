-- The order of keys in words, and that bytes have one reading.
use Rattle.std.proofs.Common.{◌≡◌, ℕ, suc, ◌<◌, ◌≤◌, List, [], ◌∷◌, ◌++◌, length, Option, Some}
use Rattle.std.proofs.Common.{None, Ordering, nat_cmp, refl, sym, ap, ◌∙◌, subst, arith}
use Rattle.std.proofs.Common.{append_assoc, length-append}
use Rattle.std.specs.declared.cmp.Ordering.TheVariants.{Less, Equal, Greater}
use Rattle.std.specs.Ordering.{ordering_then}
use Rattle.std.proofs.lemmas.Bool.Decides.{nat_tests}
use Rattle.std.proofs.lemmas.List.{append-nil}
use Rattle.std.specs.List.{flat_map, AllByRecursion}
use Rattle.prolly_entry.specs.Record.{Record, IsRecord}
use Rattle.prolly_entry.specs.Spelling.{record_spelling}
use Rattle.prolly_entry.specs.Keys.{key_order, KeyBelow, ComesBefore, KeyOrderIsBytewise}
use Rattle.prolly_entry.specs.declared.next.Flaw.{Flaw}
use Rattle.prolly_entry.specs.Reading.{Begins, EndsIn, IsReading, OneReading, FirstAreGood}
use Rattle.prolly_entry.specs.lemmas.Spellings.{record_spellings_apart}

cmp_less : (a b : ℕ) → a < b → nat_cmp a b ≡ Less
cmp_less a b h = grind (arith, nat_tests)

cmp_self : (a : ℕ) → nat_cmp a a ≡ Equal
cmp_self a = grind (arith, nat_tests)

less_cmp : (a b : ℕ) → nat_cmp a b ≡ Less → a < b
less_cmp a b h = grind (arith, nat_tests)

equal_cmp : (a b : ℕ) → nat_cmp a b ≡ Equal → a ≡ b
equal_cmp a b h = grind (arith, nat_tests)

front_below : (x : List ℕ) (b : ℕ) (y : List ℕ) → KeyBelow x (x ++ b ∷ y)
front_below [] b y = refl
front_below (a ∷ x) b y = ap (λ o. ordering_then o (key_order x (x ++ b ∷ y))) (cmp_self a) ∙
    front_below x b y

less_below : (same : List ℕ) (a b : ℕ) (x y : List ℕ) → a < b →
    KeyBelow (same ++ a ∷ x) (same ++ b ∷ y)
less_below [] a b x y h = ap (λ o. ordering_then o (key_order x y)) (cmp_less a b h)
less_below (c ∷ same) a b x y h = ap (λ o. ordering_then o
    (key_order (same ++ a ∷ x) (same ++ b ∷ y))) (cmp_self c) ∙ less_below same a b x y h

below : {x y : List ℕ} → ComesBefore x y → KeyBelow x y
below (ComesBefore.is_prefix x b y) = front_below x b y
below (ComesBefore.is_less same a b x y h) = less_below same a b x y h

one_more : {x y : List ℕ} (a : ℕ) → ComesBefore x y → ComesBefore (a ∷ x) (a ∷ y)
one_more a (ComesBefore.is_prefix x b y) = ComesBefore.is_prefix (a ∷ x) b y
one_more a (ComesBefore.is_less same c b x y h) = ComesBefore.is_less (a ∷ same) c b x y h

comes : (x y : List ℕ) → KeyBelow x y → ComesBefore x y
comes [] [] h = absurd (not_less h)
  where
    not_less : Equal ≡ Less → ⊥
    not_less e = cc
comes [] (b ∷ y) h = ComesBefore.is_prefix [] b y
comes (a ∷ x) [] h = absurd (not_less h)
  where
    not_less : Greater ≡ Less → ⊥
    not_less e = cc
comes (a ∷ x) (b ∷ y) h = go (nat_cmp a b) refl (λ k. comes x y k) h
  where
    go : (o : Ordering) → nat_cmp a b ≡ o → (KeyBelow x y → ComesBefore x y) →
        ordering_then (nat_cmp a b) (key_order x y) ≡ Less → ComesBefore (a ∷ x) (b ∷ y)
    go Less e more k = ComesBefore.is_less [] a b x y (less_cmp a b e)
    go Equal e more k = subst (λ c. ComesBefore (a ∷ x) (c ∷ y)) (equal_cmp a b e)
        (one_more a (more (sym (ap (λ o. ordering_then o (key_order x y)) e) ∙ k)))
    go Greater e more k = absurd (not_less (sym (ap (λ o. ordering_then o (key_order x y)) e) ∙ k))
      where
        not_less : Greater ≡ Less → ⊥
        not_less e = cc

pub key_order_is : KeyOrderIsBytewise
key_order_is x y = (below, comes x y)

-- ---- one reading

-- The second list goes on where the first one ends, and so do the bytes behind the first one.
record GoesOn (rs ss : List Record) (x y : List ℕ) : Type 0 where
  more : List Record
  records : ss ≡ rs ++ more
  rest : x ≡ flat_map record_spelling more ++ y

-- Of two lists of records that begin the same bytes the shorter one begins the longer one.
goes_on : (rs ss : List Record) (x y : List ℕ) → AllByRecursion IsRecord rs →
    AllByRecursion IsRecord ss → length rs ≤ length ss →
    flat_map record_spelling rs ++ x ≡ flat_map record_spelling ss ++ y → GoesOn rs ss x y
goes_on [] ss x y h k n e = record { more = ss; records = refl; rest = e }
goes_on (r ∷ rs) [] x y h k n e = absurd (let n' : suc (length rs) ≤ 0 = n in omega arith)
goes_on (r ∷ rs) (s ∷ ss) x y h k n e =
    let n' : suc (length rs) ≤ suc (length ss) = n in
    let first = record_spellings_apart r s (flat_map record_spelling rs ++ x)
    (flat_map record_spelling ss ++ y) h.0 k.0
    (sym (append_assoc (record_spelling r) (flat_map record_spelling rs) x) ∙ e ∙
    append_assoc (record_spelling s) (flat_map record_spelling ss) y) in
    let further = goes_on rs ss x y h.1 k.1 (omega arith) first.1 in
    record {
      more = further.more;
      records = ap (λ q. q ∷ ss) (sym first.0) ∙
          ap (λ q. r ∷ q) further.records;
      rest = further.rest;
    }

begun_goes_on : (bytes : List ℕ) (limit : ℕ) (records : List Record) (rest : List ℕ)
    (good : List Record) (ending : Option Flaw) →
    Begins bytes limit records rest → (k : IsReading bytes limit good ending) →
    GoesOn records good rest k.rest
begun_goes_on bytes limit records rest good ending h k =
    goes_on records good rest k.rest h.lawful k.begins.lawful (k.longest records rest h)
    (sym h.spelled ∙ k.begins.spelled)

-- what begins some bytes begins all that go on behind them
pub begins_all : (bytes handed left : List ℕ) (limit : ℕ) (records : List Record)
    (unparsed : List ℕ) → Begins handed limit records unparsed → bytes ≡ handed ++ left →
    Begins bytes limit records (unparsed ++ left)
begins_all bytes handed left limit records unparsed h e = record {
  spelled = e ∙ (ap (λ (x : List ℕ). x ++ left) h.spelled ∙
      append_assoc (flat_map record_spelling records) unparsed left);
  lawful = h.lawful;
  rising = h.rising;
  few = h.few;
}

pub first_are_good : FirstAreGood
first_are_good bytes limit records rest good ending h k = let m =
    begun_goes_on bytes limit records rest good ending h k in (m.more, m.records)

ending_same : (limit : ℕ) (good : List Record) (rest : List ℕ) (e f : Option Flaw) →
    EndsIn limit good rest e → EndsIn limit good rest f → e ≡ f
ending_same limit good [] e f h k = h ∙ sym k
ending_same limit good (b ∷ rest) None f h k = absurd h
ending_same limit good (b ∷ rest) (Some e) None h k = absurd k
ending_same limit good (b ∷ rest) (Some e) (Some f) h k = sym h ∙ k

pub one_reading : OneReading
one_reading bytes limit good good' ending ending' h k =
    let m = begun_goes_on bytes limit good h.rest good' ending' h.begins k in
    let same = nothing_more m.more m.records m.rest in (
      same.0,
      ending_same limit good h.rest ending ending' h.ends
          (subst (λ r. EndsIn limit good r ending') (sym same.1)
          (subst (λ g. EndsIn limit g k.rest ending') (sym same.0) k.ends)),
    )
  where
    nothing_more : (more : List Record) → good' ≡ good ++ more →
        h.rest ≡ flat_map record_spelling more ++ k.rest → (good ≡ good') × (h.rest ≡ k.rest)
    nothing_more [] e rest = (sym (e ∙ append-nil good), rest)
    nothing_more (m ∷ more) e rest =
        let shorter : length good' ≤ length good = h.longest good' k.rest k.begins in
        let longer = ap length e in
        let sum = length-append good (m ∷ more) in
        absurd (omega (arith, shorter, longer, sum))

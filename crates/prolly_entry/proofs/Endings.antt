-- One more good record, and when there is none.
use Rattle.std.proofs.Common.{◌≡◌, ◌≢◌, ℕ, suc, ◌<◌, ◌≤◌, true, false, List, [], ◌∷◌, ◌++◌, length}
use Rattle.std.proofs.Common.{drop, Option, Some, None, inl, inr, refl, sym, ap, ◌∙◌, subst, arith}
use Rattle.std.proofs.Common.{append_assoc, length-append, Ordering}
use Rattle.std.specs.declared.cmp.Ordering.TheVariants.{Less, Equal, Greater}
use Rattle.std.specs.Ordering.{is_lt}
use Rattle.std.proofs.lemmas.Bool.{cases_lt}
use Rattle.std.proofs.lemmas.List.{append-nil}
use Rattle.std.proofs.lemmas.List.Concat.{flat_map-append}
use Rattle.std.specs.List.{flat_map, AllByRecursion}
use Rattle.prolly_entry.specs.Record.{Record, IsRecord, keys_of}
use Rattle.prolly_entry.specs.Spelling.{record_spelling}
use Rattle.prolly_entry.specs.Keys.{key_order, Rising, RisingFrom}
use Rattle.prolly_entry.specs.Position.{Position, last_position, is_before}
use Rattle.prolly_entry.specs.declared.next.Flaw.{Flaw}
use Rattle.prolly_entry.specs.declared.next.Flaw.TheVariants as flaws
use Rattle.prolly_entry.specs.Reading.{Begins, EndsIn, IsReading, next_flaw}
use Rattle.prolly_entry.specs.Front.{IsRecordAt}
use Rattle.prolly_entry.specs.NextRecord.{IsNext, IsUndecided, IsFlawed}
use Rattle.prolly_entry.specs.lemmas.Spellings.{record_spellings_apart, record_size}
use Rattle.prolly_entry.proofs.NextFlaws.{whole_flaw, front_flaw}

-- ---- rising keys

is_less : (o : Ordering) → is_lt o ≡ true → o ≡ Less
is_less Less e = refl
is_less Equal e = cc
is_less Greater e = cc

less_is : (o : Ordering) → o ≡ Less → is_lt o ≡ true
less_is o e = ap is_lt e

from_more : (s : Record) (rs : List Record) (r : Record) → RisingFrom s.key (keys_of rs) →
    is_before (last_position (s ∷ rs)) (Some r.key) ≡ true →
    RisingFrom s.key (keys_of (rs ++ r ∷ []))
from_more s [] r h k = (is_less (key_order s.key r.key) k, tt)
from_more s (t ∷ rs) r h k = (h.0, from_more t rs r h.1 k)

rising_more : (rs : List Record) (r : Record) → Rising (keys_of rs) →
    is_before (last_position rs) (Some r.key) ≡ true → Rising (keys_of (rs ++ r ∷ []))
rising_more [] r h k = tt
rising_more (s ∷ rs) r h k = from_more s rs r h k

from_last : (s : Record) (rs : List Record) (r : Record) (others : List Record) →
    RisingFrom s.key (keys_of (rs ++ r ∷ others)) →
    is_before (last_position (s ∷ rs)) (Some r.key) ≡ true
from_last s [] r others h = less_is (key_order s.key r.key) h.0
from_last s (t ∷ rs) r others h = from_last t rs r others h.1

rising_last : (rs : List Record) (r : Record) (others : List Record) →
    Rising (keys_of (rs ++ r ∷ others)) → is_before (last_position rs) (Some r.key) ≡ true
rising_last [] r others h = refl
rising_last (s ∷ rs) r others h = from_last s rs r others h

pub last_more : (rs : List Record) (r : Record) → last_position (rs ++ r ∷ []) ≡ Some r.key
last_more [] r = refl
last_more (s ∷ []) r = refl
last_more (s ∷ t ∷ rs) r = last_more (t ∷ rs) r

all_more : (rs : List Record) (r : Record) → AllByRecursion IsRecord rs → IsRecord r →
    AllByRecursion IsRecord (rs ++ r ∷ [])
all_more [] r h k = (k, tt)
all_more (s ∷ rs) r h k = (h.0, all_more rs r h.1 k)

-- ---- one more

spelled_more : (good : List Record) (r : Record) (rest : List ℕ) →
    flat_map record_spelling good ++ (record_spelling r ++ rest) ≡ flat_map record_spelling
    (good ++ r ∷ []) ++ rest
spelled_more good r rest =
    sym (ap (λ (t : List ℕ). t ++ rest) (flat_map-append record_spelling good (r ∷ [])) ∙
    (append_assoc (flat_map record_spelling good) (record_spelling r ++ []) rest
    ∙ ap (λ (t : List ℕ). flat_map record_spelling good ++ (t ++ rest))
    (append-nil (record_spelling r))))

pub begins_more : (bytes : List ℕ) (limit : ℕ) (good : List Record) (rest hand left : List ℕ)
    (r : Record) (len : ℕ) →
    Begins bytes limit good rest → rest ≡ hand ++ left →
    IsNext limit (length good) (last_position good) hand r len →
    Begins bytes limit (good ++ r ∷ []) (drop len hand ++ left)
begins_more bytes limit good rest hand left r len h e k = record {
  spelled = h.spelled ∙ (ap (λ (t : List ℕ). flat_map record_spelling good ++ t)
      (e ∙ (ap (λ (t : List ℕ). t ++ left) k.there.spelled ∙
      append_assoc (record_spelling r) (drop len hand) left))
      ∙ spelled_more good r (drop len hand ++ left));
  lawful = all_more good r h.lawful k.there.lawful;
  rising = rising_more good r h.rising k.rises;
  few = let a = h.few in let b = k.room in let s = length-append good (r ∷ []) in omega arith;
}

pub begins_none : (bytes : List ℕ) (limit : ℕ) → Begins bytes limit [] bytes
begins_none bytes limit = record { spelled = refl; lawful = tt; rising = tt; few = omega arith }

-- ---- none more

record Longer (rs ss : List Record) (x y : List ℕ) : Type 0 where
  next : Record
  others : List Record
  list : ss ≡ rs ++ next ∷ others
  rest : x ≡ record_spelling next ++ (flat_map record_spelling others ++ y)
  lawful : IsRecord next

longer : (rs ss : List Record) (x y : List ℕ) → AllByRecursion IsRecord rs →
    AllByRecursion IsRecord ss → length rs < length ss →
    flat_map record_spelling rs ++ x ≡ flat_map record_spelling ss ++ y → Longer rs ss x y
longer rs [] x y h k n e = absurd (omega arith)
longer [] (s ∷ ss) x y h k n e = record {
  next = s;
  others = ss;
  list = refl;
  rest = e ∙ append_assoc (record_spelling s) (flat_map record_spelling ss) y;
  lawful = k.0;
}
longer (r ∷ rs) (s ∷ ss) x y h k n e =
    let n' : suc (length rs) < suc (length ss) = n in
    let first = record_spellings_apart r s (flat_map record_spelling rs ++ x)
    (flat_map record_spelling ss ++ y) h.0 k.0
    (sym (append_assoc (record_spelling r) (flat_map record_spelling rs) x) ∙ e ∙
    append_assoc (record_spelling s) (flat_map record_spelling ss) y) in
    let more = longer rs ss x y h.1 k.1 (omega arith) first.1 in record {
      next = more.next;
      others = more.others;
      list = ap (λ q. q ∷ ss) (sym first.0) ∙ ap (λ q. r ∷ q) more.list;
      rest = more.rest;
      lawful = more.lawful;
    }

pub good_next : (limit count : ℕ) (position : Position) (r : Record) (more bytes : List ℕ) →
    IsRecord r → bytes ≡ record_spelling r ++ more → count ≢ limit →
    is_before position (Some r.key) ≡ true → next_flaw limit count position bytes ≡ None
good_next limit count position r more bytes h e d k =
    whole_flaw limit count position r more bytes h e d ∙ rw k

no_next : (limit : ℕ) (good : List Record) (rest : List ℕ) (ending : Option Flaw) (r : Record)
    (more : List ℕ) → IsRecord r → rest ≡ record_spelling r ++ more →
    length good ≢ limit → is_before (last_position good) (Some r.key) ≡ true →
    EndsIn limit good rest ending → ⊥
no_next limit good [] ending r more h e d k n =
    omega (arith, ap length e, length-append (record_spelling r) more, record_size r)
no_next limit good (b ∷ rest) None r more h e d k n = n
no_next limit good (b ∷ rest) (Some fault) r more h e d k n =
    apart (sym (good_next limit (length good) (last_position good) r more (b ∷ rest) h e d k) ∙ n)
  where
    apart : ◌≡◌ {A = Option Flaw} None (Some fault) → ⊥
    apart e = cc

pub ends_here : (bytes : List ℕ) (limit : ℕ) (good : List Record) (rest : List ℕ)
    (ending : Option Flaw) →
    Begins bytes limit good rest → EndsIn limit good rest ending → IsReading bytes limit good ending
ends_here bytes limit good rest ending h n = record {
  rest = rest;
  begins = h;
  longest = longest;
  ends = n;
}
  where
    longest : (records : List Record) (more : List ℕ) → Begins bytes limit records more →
        length records ≤ length good
    longest records more k =
        elim (cases_lt (length good) (length records)) [
          | inl lt ↦
              let t = longer good records rest more h.lawful k.lawful lt (sym h.spelled ∙ k.spelled)
              in
              let few = k.few in
              let room : length good ≢ limit = λ e. omega arith in
              let up : Rising (keys_of (good ++ t.next ∷ t.others)) =
              subst (λ q. Rising (keys_of q)) t.list k.rising in
              absurd (no_next limit good rest ending t.next (flat_map record_spelling t.others ++
              more) t.lawful t.rest room
              (rising_last good t.next t.others up) n)
          | inr le ↦ le
        ]

-- the three ways to end
pub ends_clean : (bytes : List ℕ) (limit : ℕ) (good : List Record) → Begins bytes limit good [] →
    IsReading bytes limit good None
ends_clean bytes limit good h = ends_here bytes limit good [] None h refl

ends_some : (limit : ℕ) (good : List Record) (rest : List ℕ) (fault : Flaw) → 0 < length rest →
    next_flaw limit (length good) (last_position good) rest ≡ Some fault →
    EndsIn limit good rest (Some fault)
ends_some limit good [] fault h e = absurd (omega arith)
ends_some limit good (b ∷ rest) fault h e = e

pub ends_flawed : (bytes : List ℕ) (limit : ℕ) (good : List Record) (rest hand left : List ℕ)
    (fault : Flaw) → Begins bytes limit good rest → rest ≡ hand ++ left →
    IsFlawed limit (length good) (last_position good) hand fault →
    IsReading bytes limit good (Some fault)
ends_flawed bytes limit good rest hand left fault h e k =
    ends_here bytes limit good rest (Some fault) h
    (ends_some limit good rest fault (let some = k.some in
    omega (arith, ap length e, length-append hand left))
    (ap (next_flaw limit (length good) (last_position good)) e ∙ k.is left))

pub ends_cut : (bytes : List ℕ) (limit : ℕ) (good : List Record) (hand : List ℕ) →
    Begins bytes limit good hand → 0 < length hand →
    IsUndecided limit (length good) (last_position good) hand →
    IsReading bytes limit good (Some flaws.Truncated)
ends_cut bytes limit good hand h n k = ends_here bytes limit good hand (Some flaws.Truncated) h
    (ends_some limit good hand flaws.Truncated n (k.cut n))

-- ---- a record out of order

pub order_flawed : (limit count : ℕ) (position : Position) (bytes : List ℕ) (r : Record) (len : ℕ) →
    0 < length bytes → IsRecordAt bytes r len → count ≢ limit →
    is_before position (Some r.key) ≡ false → IsFlawed limit count position bytes flaws.OutOfOrder
order_flawed limit count position bytes r len n h d k = record {
  some = n;
  is = λ more. front_flaw limit count position bytes more r len h d ∙ rw k;
}

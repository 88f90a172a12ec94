-- Reading keys line by line.
use Rattle.std.proofs.Common.{◌≡◌, ℕ, ◌≤◌, List, [], ◌∷◌, ◌++◌, length, refl, sym, ap, ◌∙◌, subst, arith}
use Rattle.std.proofs.Common.{append_assoc, Some, Ordering, true, map, slice_get, suc, ◌-◌}
use Rattle.std.proofs.lemmas.Bool.{false≢true}
use Rattle.std.proofs.lemmas.List.{append-nil}
use Rattle.std.specs.List.{AllByRecursion, AllZip}
use Rattle.std.specs.Ordering.{is_lt}
use Rattle.std.specs.declared.cmp.Ordering.TheVariants.{Less, Equal, Greater}
use Rattle.prolly_entry.specs.Keys.{Rising, RisingFrom, key_order}
use Rattle.prolly_entry.specs.Position.{is_before}
use Rattle.prolly_text.specs.KeyLines.{AreKeysOf, IsFirstWrongKey, IsKeyList, IsKeysFault, IsNextKey}
use Rattle.prolly_text.specs.KeyLines.{IsWrongNext, key_fault_at, last_of}
use Rattle.prolly_text.specs.Lines.{IsMarked, lines_of}
use Rattle.prolly_text.specs.Notations.{IsWritten}
use Rattle.prolly_text.specs.declared.lines.keys.KeyFlaw.{KeyFlaw}
use Rattle.prolly_text.specs.declared.lines.keys.KeyFlaw.TheVariants as flaws
use Rattle.prolly_text.specs.declared.notation.Notation.{Notation}
use Rattle.prolly_text.specs.declared.notation.Notation.TheVariants.{Hex, Text}

-- the text begins with no byte order mark, some lines are read as keys, and the rest follows
pub record AreRead (notation : Notation) (text rest : List ℕ) (keys : List (List ℕ)) : Type 0 where
  pub unmarked : IsMarked notation text → ⊥
  pub before : List (List ℕ)
  pub whole : lines_of text ≡ before ++ lines_of rest
  pub are : AreKeysOf notation before keys

pub none_read : (notation : Notation) (text : List ℕ) → (IsMarked notation text → ⊥) →
    AreRead notation text text []
none_read notation text unmarked = record {
  unmarked = unmarked;
  before = [];
  whole = refl;
  are = record { written = tt; rising = tt; short = tt };
}

zip_snoc : {A B : Type 0} (R : A → B → Type 0) (xs : List A) (ys : List B) (x : A) (y : B) →
    AllZip R xs ys → R x y → AllZip R (xs ++ x ∷ []) (ys ++ y ∷ [])
zip_snoc R [] [] x y h k = (k, tt)
zip_snoc R [] (b ∷ ys) x y h k = absurd h
zip_snoc R (a ∷ xs) [] x y h k = absurd h
zip_snoc R (a ∷ xs) (b ∷ ys) x y h k = (h.0, zip_snoc R xs ys x y h.1 k)

zip_length : {A B : Type 0} (R : A → B → Type 0) (xs : List A) (ys : List B) → AllZip R xs ys →
    length ys ≡ length xs
zip_length R [] [] h = refl
zip_length R [] (b ∷ ys) h = absurd h
zip_length R (a ∷ xs) [] h = absurd h
zip_length R (a ∷ xs) (b ∷ ys) h = let more = zip_length R xs ys h.1 in omega arith

all_snoc : {A : Type 0} (P : A → Type 0) (xs : List A) (x : A) → AllByRecursion P xs → P x →
    AllByRecursion P (xs ++ x ∷ [])
all_snoc P [] x h k = (k, tt)
all_snoc P (y ∷ xs) x h k = (h.0, all_snoc P xs x h.1 k)

is_less : (o : Ordering) → is_lt o ≡ true → o ≡ Less
is_less Less e = refl
is_less Equal e = absurd (false≢true e)
is_less Greater e = absurd (false≢true e)

from_snoc : (x : List ℕ) (keys : List (List ℕ)) (key : List ℕ) → RisingFrom x keys →
    is_before (last_of (x ∷ keys)) (Some key) ≡ true → RisingFrom x (keys ++ key ∷ [])
from_snoc x [] key h b = (is_less (key_order x key) b, tt)
from_snoc x (k ∷ keys) key h b = (h.0, from_snoc k keys key h.1 b)

rising_snoc : (keys : List (List ℕ)) (key : List ℕ) → Rising keys →
    is_before (last_of keys) (Some key) ≡ true → Rising (keys ++ key ∷ [])
rising_snoc [] key h b = tt
rising_snoc (k ∷ keys) key h b = from_snoc k keys key h b

pub one_read : (notation : Notation) (text rest line next : List ℕ) (keys : List (List ℕ))
    (key : List ℕ) → AreRead notation text rest keys → lines_of rest ≡ line ∷ lines_of next →
    IsNextKey notation keys line key → AreRead notation text next (keys ++ key ∷ [])
one_read notation text rest line next keys key h e k = record {
  unmarked = h.unmarked;
  before = h.before ++ line ∷ [];
  whole = h.whole ∙ ap (λ ls. h.before ++ ls) e ∙
      sym (append_assoc h.before (line ∷ []) (lines_of next));
  are = record {
    written = zip_snoc (IsWritten notation) h.before keys line key h.are.written k.written;
    rising = rising_snoc keys key h.are.rising k.rises;
    short = all_snoc (λ k. length k ≤ 1024) keys key h.are.short k.short;
  };
}

pub all_read : (notation : Notation) (text rest : List ℕ) (keys : List (List ℕ)) →
    AreRead notation text rest keys → rest ≡ [] → IsKeyList notation text keys
all_read notation text rest keys h e =
    let all : lines_of text ≡ h.before =
    h.whole ∙ ap (λ t. h.before ++ lines_of t) e ∙ append-nil h.before in record {
      unmarked = h.unmarked;
      are = subst (λ ls. AreKeysOf notation ls keys) (sym all) h.are;
    }

pub key_refused : (notation : Notation) (text rest line next : List ℕ) (keys : List (List ℕ))
    (flaw : KeyFlaw) (number : ℕ) → AreRead notation text rest keys →
    lines_of rest ≡ line ∷ lines_of next → IsWrongNext notation keys line flaw →
    number ≡ length keys → IsKeysFault notation text (key_fault_at notation flaw number)
key_refused notation text rest line next keys flaw number h e wrong n = go notation refl flaw wrong
  where
    first : (flaw : KeyFlaw) → IsWrongNext notation keys line flaw →
        IsFirstWrongKey notation text number flaw
    first flaw wrong = record {
      unmarked = h.unmarked;
      before = h.before;
      line = line;
      after = lines_of next;
      whole = h.whole ∙ ap (λ ls. h.before ++ ls) e;
      number_is = n ∙ zip_length (IsWritten notation) h.before keys h.are.written;
      keys = keys;
      are = h.are;
      wrong = wrong;
    }

    go : (n : Notation) → notation ≡ n → (flaw : KeyFlaw) → IsWrongNext notation keys line flaw →
        IsKeysFault notation text (key_fault_at n flaw number)
    go n is flaws.Memory wrong = tt
    go Hex is flaws.Bad wrong = (is, first flaws.Bad wrong)
    go Text is flaws.Bad wrong = (is, first flaws.Bad wrong)
    go n is flaws.TooLong wrong = first flaws.TooLong wrong
    go n is flaws.NotRising wrong = first flaws.NotRising wrong

same_some : {X : Type 0} (f : X → List ℕ) (x y : X) → Some x ≡ Some y → Some (f x) ≡ Some (f y)
same_some f x y e = cc

-- what a slice has last is the last of its keys
pub last_is : {X : Type 0} (f : X → List ℕ) (xs : List X) (last : X) →
    slice_get xs (length xs - 1) ≡ Some last → last_of (map f xs) ≡ Some (f last)
last_is f [] last is = absurd cc
last_is f (x ∷ []) last is = same_some f x last is
last_is f (x ∷ y ∷ xs) last is =
    let n : length (x ∷ y ∷ xs) - 1 ≡ suc (length (y ∷ xs) - 1) = omega arith in
    last_is f (y ∷ xs) last (subst (λ n. slice_get (x ∷ y ∷ xs) n ≡ Some last) n is)

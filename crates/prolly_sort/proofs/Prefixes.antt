-- Bytes of keys as numbers, and places in the order of these.
use Rattle.std.proofs.Common.{◌≡◌, ℕ, zero, suc, ◌+◌, ◌*◌, ◌^◌, ◌<◌, ◌≤◌, Bool, cond}
use Rattle.std.proofs.Common.{List, [], ◌∷◌, ◌++◌, drop, get_or, length, All}
use Rattle.std.proofs.Common.{Ordering, refl, sym, ap, ◌∙◌, subst, arith}
use Rattle.std.proofs.Common.{mul-le-mul_right}
use Rattle.std.proofs.Common.{add-one, mul_assoc, suc-mul, pow-suc, slice_range, true, false}
use Rattle.std.proofs.Math.Seq.{drop-append_seam}
use Rattle.std.proofs.lemmas.Cmp.{nat_cmp_total, ranked, tied_itself}
use Rattle.std.proofs.lemmas.List.{get_or_default}
use Rattle.std.proofs.lemmas.List.Elements.{All-drop, All-nil, All-take, recursion_from_All}
use Rattle.std.proofs.Math.Nat.{pow-le-pow_right}
use Rattle.std.proofs.lemmas.Nat.{mul-add-lt}
use Rattle.std.specs.List.{AllByRecursion}
use Rattle.std.specs.Ordering.{nat_cmp, ordering_then}
use Rattle.std.specs.declared.cmp.Ordering.TheVariants.{Less, Equal, Greater}
use Rattle.prolly_entry.specs.Byte.{IsByte}
use Rattle.prolly_entry.specs.Keys.{KeyBelow, key_order}
use Rattle.prolly_entry.specs.Prefix.{IsPrefix}
use Rattle.prolly_entry.specs.lemmas.Lists.{all_back}
use Rattle.prolly_sort.specs.declared.place.Place.{Place}
use Rattle.prolly_sort.specs.Place.{key_in, prefix_of}

-- ---- the number of the first bytes

-- With a byte more the number is the one before it times 256, and the byte.
pub prefix_more : (n : ℕ) (bytes : List ℕ) →
    prefix_of (suc n) bytes ≡ prefix_of n bytes * 256 + get_or bytes n 0
prefix_more zero [] = omega arith
prefix_more zero (byte ∷ bytes) = omega arith
prefix_more (suc n) [] = omega arith
prefix_more (suc n) (byte ∷ bytes) =
    let weight : byte * 256 ^ suc n ≡ byte * 256 ^ n * 256 =
    ap (λ k. byte * k) (pow-suc 256 n) ∙ sym (mul_assoc byte (256 ^ n) 256) in
    omega (arith, weight, prefix_more n bytes)

prefix_below : (n : ℕ) (bytes : List ℕ) → AllByRecursion IsByte bytes → prefix_of n bytes < 256 ^ n
prefix_below zero bytes h = omega arith
prefix_below (suc n) [] h = omega (arith, prefix_below n [] tt, pow-suc 256 n)
prefix_below (suc n) (byte ∷ bytes) h = omega (
  arith,
  mul-add-lt byte (256 ^ n) (prefix_of n bytes) 256 h.0 (prefix_below n bytes h.1),
  pow-suc 256 n,
)

powers_rise : (base i k : ℕ) → 0 < base → i ≤ k → base ^ i ≤ base ^ k
powers_rise base i k above within = pow-le-pow_right above within

-- A byte more leaves the number a number of 64 bits, up to the eighth byte.
module _ (bytes : List ℕ) (n prefix byte : ℕ) (is : prefix ≡ prefix_of n bytes)
    (next : byte ≡ get_or bytes n 0) where
  pub pushed : prefix * 256 + byte ≡ prefix_of (n + 1) bytes
  pushed = omega (arith, is, next, prefix_more n bytes) ∙ ap (λ k. prefix_of k bytes) (sym (add-one n))

  pub pushed_fits : All IsByte bytes → n < 8 → prefix * 256 + byte < 2 ^ 64
  pushed_fits are_bytes within =
      let below = prefix_below (suc n) bytes (recursion_from_All IsByte bytes are_bytes) in
      let powers = powers_rise 256 (suc n) 8 (omega arith) (omega arith) in
      omega (arith, below, powers, is, next, prefix_more n bytes)

-- A key whose first bytes are less is less.
prefix_less : (n : ℕ) (xs ys : List ℕ) → AllByRecursion IsByte ys →
    prefix_of n xs < prefix_of n ys → KeyBelow xs ys
prefix_less zero xs ys h l = absurd (omega (arith, l))
prefix_less (suc n) [] [] h l = absurd (omega (arith, l))
prefix_less (suc n) [] (y ∷ ys) h l = refl
prefix_less (suc n) (x ∷ xs) [] h l = absurd (omega (arith, l))
prefix_less (suc n) (x ∷ xs) (y ∷ ys) h l = go (nat_cmp x y) refl (prefix_less n xs ys h.1)
  where
    first : (o : Ordering) → nat_cmp x y ≡ o →
        key_order (x ∷ xs) (y ∷ ys) ≡ ordering_then o (key_order xs ys)
    first o e = ap (λ r. ordering_then r (key_order xs ys)) e

    rest : x ≡ y → prefix_of n xs < prefix_of n ys
    rest e = omega (arith, l, ap (λ k. k * 256 ^ n) e)

    not_above : y < x → ⊥
    not_above m =
        let more : suc y * 256 ^ n ≤ x * 256 ^ n = mul-le-mul_right (256 ^ n) m in
        omega (arith, l, more, suc-mul y (256 ^ n), prefix_below n ys h.1)

    go : (o : Ordering) → nat_cmp x y ≡ o → (prefix_of n xs < prefix_of n ys → KeyBelow xs ys) →
        KeyBelow (x ∷ xs) (y ∷ ys)
    go Less e next = first Less e
    go Equal e next = first Equal e ∙ next (rest (ranked x y Equal (sym e)))
    go Greater e next = absurd (not_above (ranked x y Greater (sym e)))

-- ---- keys with one front

-- A front that two keys have in common leaves their order to what is behind it.
front_order : (front x y : List ℕ) → key_order (front ++ x) (front ++ y) ≡ key_order x y
front_order [] x y = refl
front_order (b ∷ front) x y =
    ap (λ o. ordering_then o (key_order (front ++ x) (front ++ y))) (tied_itself nat_cmp_total b) ∙
    front_order front x y

-- Of two such keys the one with less behind the front is less.
less_behind : (front k l : List ℕ) → IsPrefix front k → IsPrefix front l → AllByRecursion IsByte l →
    prefix_of 8 (drop (length front) k) < prefix_of 8 (drop (length front) l) → KeyBelow k l
less_behind front k l (x, e) (y, f) are_bytes less =
    let first : prefix_of 8 (drop (length front) k) ≡ prefix_of 8 x =
    ap (λ z. prefix_of 8 (drop (length front) z)) e ∙ ap (prefix_of 8) (drop-append_seam front x) in
    let second : prefix_of 8 (drop (length front) l) ≡ prefix_of 8 y =
    ap (λ z. prefix_of 8 (drop (length front) z)) f ∙ ap (prefix_of 8) (drop-append_seam front y) in
    ap (λ z. key_order z l) e ∙ ap (key_order (front ++ x)) f ∙ front_order front x y ∙
    prefix_less 8 x y (all_back IsByte front y (subst (AllByRecursion IsByte) f are_bytes))
    (omega (arith, first, second, less))

-- ---- places

-- The place's key begins with this front, and the place has the number of the eight bytes behind it.
pub record IsRanked (bytes front : List ℕ) (p : Place) : Type 0 where
  pub shares : IsPrefix front (key_in bytes p)
  pub begins : p.prefix ≡ prefix_of 8 (drop (length front) (key_in bytes p))

-- What a slice holds are bytes.
pub all_bytes : (bytes : List ℕ) → ((k : ℕ) → get_or bytes k 0 < 256) → All IsByte bytes
all_bytes bytes fit = λ k d within. omega (arith, fit k, get_or_default bytes k d 0 within)

module _ (bytes : List ℕ) (are_bytes : All IsByte bytes) where
  part_bytes : (from to : ℕ) (b : Bool) → All IsByte (cond b [] (slice_range bytes from to))
  part_bytes from to true = All-nil IsByte
  part_bytes from to false = All-take IsByte _ _ (All-drop IsByte from bytes are_bytes)

  key_bytes : (p : Place) → AllByRecursion IsByte (key_in bytes p)
  key_bytes p = recursion_from_All IsByte (key_in bytes p)
      (part_bytes (p.start + 2) (p.start + 2 + p.key_len) _)

  -- Of two places that are ranked behind one front the one with the lesser number has the lesser key.
  pub ranked_below : (front : List ℕ) (p q : Place) → IsRanked bytes front p → IsRanked bytes front q →
      p.prefix < q.prefix → KeyBelow (key_in bytes p) (key_in bytes q)
  ranked_below front p q h k less = less_behind front (key_in bytes p) (key_in bytes q) h.shares k.shares
      (key_bytes q) (omega (arith, h.begins, k.begins, less))

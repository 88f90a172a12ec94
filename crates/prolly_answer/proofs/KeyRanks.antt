-- How far a key is below the greatest one that there may be, by which a loop over rising keys ends.
use Rattle.std.proofs.Common.{◌≡◌, ℕ, zero, suc, ◌+◌, ◌*◌, ◌-◌, ◌<◌, ◌≤◌, List, [], ◌∷◌}
use Rattle.std.proofs.Common.{length, get_or, false, arith, refl, sym, ap, ◌∙◌, Ordering}
use Rattle.std.proofs.Math.Nat.{mul-le-mul_right, suc-mul}
use Rattle.std.proofs.lemmas.Bool.{false≢true}
use Rattle.std.proofs.lemmas.Cmp.{ranked}
use Rattle.std.specs.Cmp.Lexicographic.{slice_cmp}
use Rattle.std.specs.Ordering.{is_lt, nat_cmp, ordering_then}
use Rattle.std.specs.Prelude.{All}
use Rattle.std.specs.declared.cmp.Ordering.TheVariants.{Less, Equal, Greater}
use Rattle.prolly_look_up.specs.ScanWay.{next_key}
use Rattle.prolly_entry.specs.Byte.{IsByte}
use Rattle.prolly_entry.specs.Keys.{key_order}

-- Its elements are bytes.
abbrev pub AreBytes : List ℕ → Type 0
AreBytes xs = (i : ℕ) → get_or xs i 0 < 256

-- More than the rank of each key, of which so many bytes count.
unfoldable span : ℕ → ℕ
span zero = 1
span (suc n) = 1 + 256 * span n

-- The place of a key among those of so many bytes.
unfoldable rank : ℕ → List ℕ → ℕ
rank zero key = 0
rank (suc n) [] = 0
rank (suc n) (b ∷ key) = 1 + (b * span n + rank n key)

below_span : (n : ℕ) (key : List ℕ) → AreBytes key → rank n key < span n
unfolding span rank
below_span zero key bytes = omega arith
below_span (suc n) [] bytes = omega arith
below_span (suc n) (b ∷ key) bytes =
    let rest = below_span n key (λ i. bytes (suc i)) in
    let first : b < 256 = bytes 0 in
    let most : b * span n ≤ 255 * span n = mul-le-mul_right {m = b} {n = 255} (span n) (omega arith) in
    omega arith

-- A key that is not less has no lower rank.
not_lower : (n : ℕ) (x y : List ℕ) → AreBytes x → is_lt (key_order y x) ≡ false →
    rank n x ≤ rank n y
unfolding span rank
not_lower zero x y bytes over = omega arith
not_lower (suc n) [] y bytes over = omega arith
not_lower (suc n) (a ∷ x) [] bytes over = absurd (false≢true (sym over))
not_lower (suc n) (a ∷ x) (b ∷ y) bytes over =
    go (nat_cmp b a) refl (not_lower n x y (λ i. bytes (suc i)))
  where
    go : (o : Ordering) → o ≡ nat_cmp b a →
        (is_lt (key_order y x) ≡ false → rank n x ≤ rank n y) →
        1 + (a * span n + rank n x) ≤ 1 + (b * span n + rank n y)
    go Less e below = absurd (false≢true (sym over ∙
        ap (λ o. is_lt (ordering_then o (slice_cmp nat_cmp y x))) (sym e)))
    go Equal e below =
        let same : b ≡ a = ranked b a Equal e in
        let rest =
        below (ap (λ o. is_lt (ordering_then o (slice_cmp nat_cmp y x))) e ∙ over) in
        rw same (omega arith)
    go Greater e below =
        let less : a < b = ranked b a Greater e in
        let rest = below_span n x (λ i. bytes (suc i)) in
        let most : suc a * span n ≤ b * span n = mul-le-mul_right {m = suc a} {n = b} (span n) less in
        let step : suc a * span n ≡ a * span n + span n = suc-mul a (span n) in
        omega arith

-- The next key has a greater one.
next_higher : (n : ℕ) (key : List ℕ) → length key < n → rank n key < rank n (next_key key)
unfolding span rank
next_higher zero key short = absurd (omega arith)
next_higher (suc n) [] short = omega arith
next_higher (suc n) (b ∷ key) short =
    let rest = next_higher n key (omega arith) in omega arith

pub all_bytes : (xs : List ℕ) → All IsByte xs → AreBytes xs
all_bytes [] all zero = omega arith
all_bytes [] all (suc i) = omega arith
all_bytes (b ∷ xs) all zero = all 0 0 (omega arith)
all_bytes (b ∷ xs) all (suc i) = all_bytes xs (λ i d within. all (suc i) d (omega arith)) i

-- Its elements are bytes, too.
pub next_bytes : (key : List ℕ) → AreBytes key → AreBytes (next_key key)
next_bytes [] bytes zero = omega arith
next_bytes [] bytes (suc i) = omega arith
next_bytes (b ∷ key) bytes zero = bytes zero
next_bytes (b ∷ key) bytes (suc i) = next_bytes key (λ i. bytes (suc i)) i

less_room : (n : ℕ) (from last : List ℕ) → AreBytes from → AreBytes last → length last < n →
    is_lt (key_order last from) ≡ false → span n - rank n (next_key last) < span n - rank n from
less_room n from last bytes own short over =
    let a = not_lower n from last bytes over in
    let b = next_higher n last short in
    let c = below_span n (next_key last) (next_bytes last own) in
    omega arith

-- How far a key is below all that have more than so many bytes.
pub room_above : List ℕ → ℕ
room_above key = span 1025 - rank 1025 key

-- Behind a key that is not less, the next one has less room.
pub less_room_above : (from last : List ℕ) → AreBytes from → AreBytes last → length last ≤ 1024 →
    is_lt (key_order last from) ≡ false → room_above (next_key last) < room_above from
unfolding room_above
less_room_above from last bytes own short over = less_room 1025 from last bytes own (omega arith) over

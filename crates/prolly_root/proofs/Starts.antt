-- What is told of the first bytes of a frame.
use Rattle.std.proofs.Common.{◌≡◌, ℕ, suc, ◌^◌, ◌<◌, ◌≤◌, List, [], ◌∷◌, ◌++◌, length}
use Rattle.std.proofs.Common.{take, drop, get_or, inl, inr, ◌⊎◌, Result, Ok, Err, refl, sym, ap}
use Rattle.std.proofs.Common.{◌∙◌, subst, arith, append_assoc, take-append-drop}
use Rattle.std.specs.Int.{w64, from_be_bytes, to_be_bytes}
use Rattle.std.proofs.lemmas.Bool.{cases_eq, cases_lt, eq-eqb, le-ltb, ne_eqb}
use Rattle.std.proofs.lemmas.List.{get_or-take, get_or_past, length-take}
use Rattle.std.proofs.lemmas.List.{length-take-le, take-take, take_all, take_more}
use Rattle.std.proofs.lemmas.Nat.{be_bytes_8}
use Rattle.prolly_io.specs.declared.format.frame.FrameStart.{FrameStart}
use Rattle.prolly_io.specs.declared.format.frame.FrameStart.TheVariants.{Chunk as ChunkStart, End}
use Rattle.prolly_entry.specs.Byte.{IsByte}
use Rattle.std.specs.Prelude.{All}
use Rattle.prolly_root.specs.Walk.{StartsAs}
use Rattle.prolly_root.specs.declared.root_fault.RootFault.{RootFault}
use Rattle.prolly_root.specs.declared.root_fault.RootFault.TheVariants as roots

-- ---- what is told of the first bytes of a frame

abbrev pub IsBytes : List ℕ → Type 0
IsBytes bytes = (i : ℕ) → get_or bytes i 0 < 256

pub bytes_taken : (n : ℕ) (bytes : List ℕ) → IsBytes bytes → IsBytes (take n bytes)
bytes_taken n bytes h i =
    elim (cases_lt i n) [
      | inl lt ↦ rw (get_or-take n bytes i 0 lt) (h i)
      | inr le ↦ rw (get_or_past (take n bytes) i 0 (omega (arith, length-take n bytes)))
          (omega arith)
    ]

pub all_bytes : (bytes : List ℕ) → All IsByte bytes → IsBytes bytes
all_bytes bytes all i =
    elim (cases_lt i (length bytes)) [
      | inl lt ↦ all i 0 lt
      | inr le ↦ rw (get_or_past bytes i 0 le) (omega arith)
    ]

pub few_in_eight : (bytes : List ℕ) → IsBytes bytes → from_be_bytes w64 bytes < 2 ^ 64
few_in_eight bytes h = omega (arith, h 0, h 1, h 2, h 3, h 4, h 5, h 6, h 7)

-- what ten bytes tell
pub record TellsStart (number : ℕ) (bytes : List ℕ) (result : Result FrameStart RootFault) : Type 0
  where
    pub are : IsBytes bytes
    pub ends : (more : List ℕ) → bytes ≡ 0x45 ∷ more → result ≡ Ok End
    pub begins : (len level : ℕ) → len < 2 ^ 64 →
        bytes ≡ 0x43 ∷ (to_be_bytes w64 len ++ level ∷ []) → result ≡ Ok (ChunkStart len level)
    pub empty : bytes ≡ [] → result ≡ Err roots.Truncated
    pub cut : (more : List ℕ) → bytes ≡ 0x43 ∷ more → length more < 9 →
        result ≡ Err roots.Truncated
    pub other : (letter : ℕ) (more : List ℕ) → bytes ≡ letter ∷ more → (letter ≡ 0x45 → ⊥) →
        (letter ≡ 0x43 → ⊥) → result ≡ Err (roots.Frame number)

module _ {number : ℕ} {result : Result FrameStart RootFault} where
  -- so much is told of the first ten
  pub starts_as : (there : List ℕ) → TellsStart number (take 10 there) result →
      StartsAs number there result
  starts_as [] tells = subst (StartsAs number []) (sym (tells.empty refl)) (inr refl)
  starts_as (b ∷ more) tells = by_letter (cases_eq b 0x43) (cases_eq b 0x45)
    where
      by_length : b ≡ 0x43 → (length more < 9) ⊎ (9 ≤ length more) →
          StartsAs number (b ∷ more) result
      by_length is (inl less) =
          let all = ap length (take_all 9 more (omega (arith, less))) in
          subst (StartsAs number (b ∷ more)) (sym (tells.cut (take 9 more)
          (ap (λ b. b ∷ take 9 more) is) (omega (arith, all, less))))
          (inr (rw (eq-eqb b 0x43 is, le-ltb 8 (length more) (omega (arith, less))) refl))
      by_length is (inr enough) =
          let len = from_be_bytes w64 (take 8 more) in
          let level = get_or more 8 0 in
          let eight : to_be_bytes w64 len ≡ take 8 more =
          be_bytes_8 (take 8 more) len (length-take-le 8 more (omega (arith, enough)))
          first_eight refl in
          let nine : take 9 more ≡ to_be_bytes w64 len ++ level ∷ [] =
          take_more more 8 0 (omega (arith, enough)) ∙ ap (λ x. x ++ level ∷ []) (sym eight) in
          let all : more ≡ (to_be_bytes w64 len ++ level ∷ []) ++ drop 9 more =
          sym (take-append-drop 9 more) ∙ ap (λ x. x ++ drop 9 more) nine in
          subst (StartsAs number (b ∷ more)) (sym (tells.begins len level few
          (ap (λ b. b ∷ take 9 more) is ∙ ap (λ x. 0x43 ∷ x) nine)))
          (drop 9 more, few, ap (λ b. b ∷ more) is ∙ ap (λ x. 0x43 ∷ x) (all ∙ simp append_assoc))
        where
          first_eight : IsBytes (take 8 more)
          first_eight = subst IsBytes (take-take 8 9 more (omega arith))
              (bytes_taken 8 (take 9 more) (λ i. tells.are (suc i)))

          few : from_be_bytes w64 (take 8 more) < 2 ^ 64
          few = few_in_eight (take 8 more) first_eight

      by_letter : (b ≡ 0x43) ⊎ (b ≡ 0x43 → ⊥) → (b ≡ 0x45) ⊎ (b ≡ 0x45 → ⊥) →
          StartsAs number (b ∷ more) result
      by_letter (inl is) end = by_length is (cases_lt (length more) 9)
      by_letter (inr other) (inl is) = subst (StartsAs number (b ∷ more))
          (sym (tells.ends (take 9 more) (ap (λ b. b ∷ take 9 more) is)))
          (more, ap (λ b. b ∷ more) is)
      by_letter (inr other) (inr none) = subst (StartsAs number (b ∷ more))
          (sym (tells.other b (take 9 more) refl none other))
          (inr (rw (ne_eqb b 0x43 other, ne_eqb b 0x45 none) refl))

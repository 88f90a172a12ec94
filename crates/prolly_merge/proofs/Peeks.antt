-- Inputs beside their heads, read and written.
use Rattle.std.proofs.Common.{◌≡◌, ℕ, zero, suc, ◌<◌, List, [], ◌∷◌, length, Some, slice_get}
use Rattle.std.proofs.Common.{slice_set, get_or, take, drop, ◌++◌, refl, sym, ap, ◌∙◌, subst, arith}
use Rattle.std.proofs.Math.Seq.{take-append_seam}
use Rattle.std.proofs.lemmas.Option.{slice_get-get_or}
use Rattle.prolly_entry.specs.Record.{Record}
use Rattle.prolly_link.specs.declared.message.Progress.{Progress}
use Rattle.prolly_merge.specs.declared.heads.Head.{Head}
use Rattle.prolly_merge.specs.declared.heads.Peeked.{Peeked}
use Rattle.prolly_merge.specs.Each.{Each}
use Rattle.prolly_merge.specs.Inputs.{inputs_of}
use Rattle.prolly_merge.specs.Peeked.{peeked_of, heads_in}
use Rattle.prolly_merge.proofs.Equal.{none_some, some_same, suc_same, suc_zero, zero_suc}

pred_less : (i n : ℕ) → suc i < suc n → i < n
pred_less i n lt = omega arith

not_less_zero : (i : ℕ) → i < 0 → ⊥
not_less_zero i lt = omega arith

module _ {I : Type 0} where
  abbrev pub peeked : I → Head → Peeked I
  peeked n h = record { input = n; head = h }

  pub peeked_get : (ns : List I) (hs : List Head) (at : ℕ) (n : I) (h : Head) →
      slice_get ns at ≡ Some n → slice_get hs at ≡ Some h →
      slice_get (peeked_of ns hs) at ≡ Some (peeked n h)
  peeked_get [] hs at n h e f = absurd (none_some n e)
  peeked_get (m ∷ ns) [] at n h e f = absurd (none_some h f)
  peeked_get (m ∷ ns) (k ∷ hs) zero n h e f = ap (λ x. Some (peeked x k)) (some_same m n e) ∙
      ap (λ x. Some (peeked n x)) (some_same k h f)
  peeked_get (m ∷ ns) (k ∷ hs) (suc at) n h e f = peeked_get ns hs at n h e f

  pub peeked_set : (ns : List I) (hs : List Head) (at : ℕ) (n : I) (h : Head) →
      peeked_of (slice_set ns at n) (slice_set hs at h) ≡ slice_set (peeked_of ns hs)
      at (peeked n h)
  peeked_set [] hs at n h = refl
  peeked_set (m ∷ ns) [] zero n h = refl
  peeked_set (m ∷ ns) [] (suc at) n h = refl
  peeked_set (m ∷ ns) (k ∷ hs) zero n h = refl
  peeked_set (m ∷ ns) (k ∷ hs) (suc at) n h = ap (λ ps. peeked m k ∷ ps) (peeked_set ns hs at n h)

  pub peeked_head : (ns : List I) (hs : List Head) (at : ℕ) (p : Peeked I) →
      slice_get (peeked_of ns hs) at ≡ Some p → slice_get hs at ≡ Some p.head
  peeked_head [] hs at p e = absurd (none_some p e)
  peeked_head (m ∷ ns) [] at p e = absurd (none_some p e)
  peeked_head (m ∷ ns) (k ∷ hs) zero p e = ap (λ x. Some x.head) (some_same (peeked m k) p e)
  peeked_head (m ∷ ns) (k ∷ hs) (suc at) p e = peeked_head ns hs at p e

  pub peeked_some : (ns : List I) (hs : List Head) (at : ℕ) → at < length ns → at < length hs →
      (p : Peeked I) × (slice_get (peeked_of ns hs) at ≡ Some p)
  peeked_some [] hs at lt lt' = absurd (not_less_zero at lt)
  peeked_some (m ∷ ns) [] at lt lt' = absurd (not_less_zero at lt')
  peeked_some (m ∷ ns) (k ∷ hs) zero lt lt' = (peeked m k, refl)
  peeked_some (m ∷ ns) (k ∷ hs) (suc at) lt lt' =
      peeked_some ns hs at (pred_less at (length ns) lt) (pred_less at (length hs) lt')

  pub heads_are : (ns : List I) (hs : List Head) → length hs ≡ length ns →
      heads_in (peeked_of ns hs) ≡ hs
  heads_are [] [] e = refl
  heads_are [] (h ∷ hs) e = absurd (suc_zero (length hs) e)
  heads_are (m ∷ ns) [] e = absurd (zero_suc (length ns) e)
  heads_are (m ∷ ns) (h ∷ hs) e = ap (λ xs. h ∷ xs)
      (heads_are ns hs (suc_same (length hs) (length ns) e))

  front_set : (ps : List (Peeked I)) (at : ℕ) (p : Peeked I) →
      take at (heads_in (slice_set ps at p)) ≡ take at (heads_in ps)
  front_set [] at p = refl
  front_set (q ∷ ps) zero p = refl
  front_set (q ∷ ps) (suc at) p = ap (λ hs. q.head ∷ hs) (front_set ps at p)

  -- Where one was replaced, the heads before it stay.
  pub front_stays : (ns : List I) (hs : List Head) (ns' : List I) (hs' : List Head) (at : ℕ)
      (p : Peeked I) → length hs ≡ length ns → length hs' ≡ length ns' →
      peeked_of ns' hs' ≡ slice_set (peeked_of ns hs) at p → take at hs' ≡ take at hs
  front_stays ns hs ns' hs' at p e f is =
      ap (take at) (sym (heads_are ns' hs' f) ∙ ap heads_in is)
      ∙ front_set (peeked_of ns hs) at p ∙ ap (take at) (heads_are ns hs e)

  pub get_same : (xs : List (Peeked I)) (at : ℕ) (p q : Peeked I) → slice_get xs at ≡ Some p →
      slice_get xs at ≡ Some q → p ≡ q
  get_same xs at p q e f = some_same p q (sym e ∙ f)

  -- The head that was read is that of the input.
  pub read_same : (ns : List I) (hs : List Head) (at : ℕ) (p : Peeked I) (d : Head) →
      slice_get (peeked_of ns hs) at ≡ Some p → at < length hs → p.head ≡ get_or hs at d
  read_same ns hs at p d e lt = some_same p.head (get_or hs at d) (sym (peeked_head ns hs at p e) ∙
      slice_get-get_or hs at d lt)

  -- The inputs are those beside the heads.
  pub inputs_are : (ns : List I) (hs : List Head) → length hs ≡ length ns →
      Each (λ old new. new ≡ old.input) (peeked_of ns hs) ns
  inputs_are [] hs e = tt
  inputs_are (m ∷ ns) [] e = absurd (zero_suc (length ns) e)
  inputs_are (m ∷ ns) (h ∷ hs) e = (refl, inputs_are ns hs (suc_same (length hs) (length ns) e))

-- A vector whose slice was written has what was written.
pub written : {A : Type 0} (new old : List A) (len : ℕ) → length new ≡ len →
    take len (new ++ drop (length new) old) ≡ new
written new old len e = subst (λ k. take k (new ++ drop (length new) old) ≡ new) e
    (take-append_seam new (drop (length new) old))

-- What inputs gave, where a vector of them was written.
pub given_written : {I : Type 0} (progress : I → Progress) (received : I → I → List Record)
    (es ds ns : List I) (len : ℕ) → ds ≡ es → length ns ≡ len →
    inputs_of progress received es (take len (ns ++ drop (length ns) es)) ≡
    inputs_of progress received ds ns
given_written progress received es ds ns len e f =
    ap (inputs_of progress received es) (written ns es len f)
    ∙ ap (λ os. inputs_of progress received os ns) (sym e)

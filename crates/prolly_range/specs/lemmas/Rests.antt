-- What is left of the proof of a set of keys.
use Rattle.std.proofs.Common.{◌≡◌, ◌≢◌, ℕ, List, [], ◌∷◌, ◌++◌, length, refl, sym, ap, ◌∙◌, subst}
use Rattle.std.proofs.Common.{arith}
use Rattle.std.specs.List.{AllByRecursion, flat_map}
use Rattle.std.proofs.lemmas.List.{length-append}
use Rattle.prolly_look_up.specs.Kinds.{kind_of}
use Rattle.prolly_look_up.specs.Way.{level_of}
use Rattle.prolly_entry.specs.Pair.{Pair}
use Rattle.prolly_entry.specs.declared.version.Version.{Version}
use Rattle.prolly_entry.specs.declared.version.Version.TheVariants.{One, Two}
use Rattle.prolly_entry.specs.lemmas.Lists.{apart, head_is, tail_is}
use Rattle.prolly_io.specs.Frame.{framed, IsSmall}
use Rattle.prolly_io.specs.FrameLaws.{one_front}
use Rattle.prolly_range.specs.KeySet.{KeySet}
use Rattle.prolly_range.specs.SetProof.{AreTaken, Due, IsSetProof, Takes, due_below, root_due}
use Rattle.prolly_range.specs.SetProof.{set_start}
use Rattle.prolly_range.specs.Start.{IsSetStartFault}
use Rattle.prolly_range.specs.Verifier.{IsRestOf}
use Rattle.prolly_root.specs.declared.proof.fault.ProofFault.{ProofFault}
use Rattle.prolly_root.specs.declared.proof.fault.ProofFault.TheVariants as faults

-- Behind its start all chunks of a proof are left.
pub rest_begins : (version : Version) (root : List ℕ) (set : KeySet) (bytes left : List ℕ)
    (pairs : List Pair) → bytes ≡ set_start version ++ left →
    IsSetProof version root set bytes pairs → IsRestOf version (root_due root set ∷ []) left
rest_begins version root set bytes left pairs start p = record {
  chunks = p.chunks;
  pairs = pairs;
  small = p.small;
  is = (apart (set_start version) (set_start version) left (flat_map framed p.chunks) refl
      (sym start ∙ p.is)).rest;
  taken = p.taken;
}

-- Behind a chunk that was taken the others are left.
pub rest_behind : (version : Version) (due : List Due) (chunk : List ℕ) (shown : List Pair)
    (next : List Due) (left after : List ℕ) → Takes version due chunk shown next → IsSmall chunk →
    left ≡ framed chunk ++ after → IsRestOf version due left → IsRestOf version next after
rest_behind version due chunk shown next left after t small is r =
    go r.chunks r.pairs r.small r.is r.taken
  where
    go : (chunks : List (List ℕ)) (pairs : List Pair) → AllByRecursion IsSmall chunks →
        left ≡ flat_map framed chunks → AreTaken version due chunks pairs [] →
        IsRestOf version next after
    go [] pairs smalls are taken = absurd (nothing (sym t.was ∙ taken.0))
      where
        nothing : {x : Due} {xs : List Due} → ◌≡◌ {A = List Due} (x ∷ xs) [] → ⊥
        nothing e = cc
    go (c ∷ chunks) pairs smalls are taken =
        let one = one_front chunk c after (flat_map framed chunks) small smalls.0 (sym is ∙ are) in
        let was = sym t.was ∙ taken.3.was in
        let same : next ≡ taken.2 = t.is ∙
        ap (λ x. due_below (level_of x) t.first.set (kind_of version x) ++ t.others) one.front ∙
        ap (λ d. due_below (level_of c) d.set (kind_of version c) ++ t.others) (head_is _ _ _ _ was) ∙
        ap (λ ds. due_below (level_of c) taken.3.first.set (kind_of version c) ++ ds) (tail_is _ _ _ _ was) ∙
        sym taken.3.is in
        record {
          chunks = chunks;
          pairs = taken.1;
          small = smalls.1;
          is = one.rest;
          taken = subst (λ ds. AreTaken version ds chunks taken.1 []) (sym same) taken.4;
        }

-- ---- the start

fifths : (p q : ℕ) (xs ys : List ℕ) → 0x50 ∷ 0x52 ∷ 0x4C ∷ 0x50 ∷ p ∷ xs ≡
    0x50 ∷ 0x52 ∷ 0x4C ∷ 0x50 ∷ q ∷ ys → p ≡ q
fifths p q xs ys e = cc

other_start : (version other : Version) (xs ys : List ℕ) → other ≢ version →
    set_start version ++ xs ≡ set_start other ++ ys → ⊥
other_start One One xs ys differs e = differs refl
other_start One Two xs ys differs e =
    let same : 17 ≡ 18 = fifths 17 18 xs ys e in omega (arith, same)
other_start Two One xs ys differs e =
    let same : 18 ≡ 17 = fifths 18 17 xs ys e in omega (arith, same)
other_start Two Two xs ys differs e = differs refl

-- Bytes that do not begin as a proof are none.
pub not_begun : (version : Version) (root : List ℕ) (set : KeySet) (bytes : List ℕ)
    (fault : ProofFault) (pairs : List Pair) → IsSetStartFault version bytes fault →
    IsSetProof version root set bytes pairs → ⊥
not_begun version root set bytes faults.Header pairs s p =
    s.none version (record { rest = flat_map framed p.chunks; is = p.is })
not_begun version root set bytes faults.Version pairs s p =
    other_start version s.other (flat_map framed p.chunks) s.begins.rest s.differs
    (sym p.is ∙ s.begins.is)
not_begun version root set bytes faults.Truncated pairs s p = omega (
  arith,
  ap length p.is,
  length-append (set_start version) (flat_map framed p.chunks),
  ap length s.is,
  length-append bytes (s.byte ∷ s.more),
)
not_begun version root set bytes (faults.Frame n) pairs s p = s
not_begun version root set bytes (faults.Reference n) pairs s p = s
not_begun version root set bytes (faults.Chunk n) pairs s p = s
not_begun version root set bytes (faults.KeysOutOfOrder n) pairs s p = s
not_begun version root set bytes (faults.Level n) pairs s p = s
not_begun version root set bytes faults.Trailing pairs s p = s

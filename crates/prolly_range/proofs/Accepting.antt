-- A proof is accepted, chunk by chunk.
use Rattle.std.proofs.Common.{◌≡◌, ℕ, ◌-◌, inl, inr, zero, suc, List, [], ◌∷◌, ◌++◌, length, refl}
use Rattle.std.proofs.Common.{sym, ◌∙◌, subst, arith, drop, take}
use Rattle.std.specs.List.{AllByRecursion, flat_map}
use Rattle.std.proofs.lemmas.Bool.{false≢true}
use Rattle.std.proofs.lemmas.List.{length-drop, take_all}
use Rattle.prolly_look_up.specs.HeldPairs.{pairs_held}
use Rattle.prolly_look_up.specs.Kinds.{kind_of}
use Rattle.prolly_look_up.specs.Way.{FallsTo, IsNamed}
use Rattle.prolly_look_up.specs.lemmas.Ways.{no_flaw}
use Rattle.prolly_entry.specs.Pair.{Pair}
use Rattle.prolly_entry.specs.declared.version.Version.{Version}
use Rattle.prolly_io.specs.Frame.{framed, IsSmall}
use Rattle.prolly_io.specs.FrameLaws.{begins_frame, one_front}
use Rattle.prolly_root.specs.ProofFault.{IsFrameFault}
use Rattle.prolly_root.specs.declared.proof.fault.ProofFault.{ProofFault}
use Rattle.prolly_root.specs.declared.proof.fault.ProofFault.TheVariants as proofs
use Rattle.prolly_range.specs.KeySet.{KeySet, pairs_wanted}
use Rattle.prolly_range.specs.SetProof.{AreTaken, Due, pairs_there}
use Rattle.prolly_range.specs.Verifier.{IsNextFault, IsProofFault, IsRestOf, IsWrongChunk, MayFail}
use Rattle.prolly_range.specs.declared.fault.SetFault.{SetFault}
use Rattle.prolly_range.specs.declared.fault.SetFault.TheVariants.{Memory, Proof, Read, Stopped}

-- the chunk behind the start of its frame is what the slice of it is
pub behind_nine : (bytes : List ℕ) → take (length bytes - 9) (drop 9 bytes) ≡ drop 9 bytes
behind_nine bytes =
    take_all (length bytes - 9) (drop 9 bytes) (omega (arith, length-drop 9 bytes))

-- what a chunk shows are those of its pairs whose keys are of the set
pub shown : (version : Version) (set : KeySet) (chunk : List ℕ) →
    pairs_wanted set (pairs_held chunk) ≡ pairs_there set (kind_of version chunk)
shown version set [] = refl
shown version set (zero ∷ entries) = refl
shown version set (suc level ∷ entries) = refl

-- ---- the rest of a proof has no fault

same_due : {d e : Due} {ds es : List Due} → d ∷ ds ≡ e ∷ es → e ≡ d
same_due e = cc

none_due : {A : Type 0} {d : Due} {ds : List Due} → ◌≡◌ {A = List Due} [] (d ∷ ds) → A
none_due e = cc

frame_there : (chunk more : List ℕ) (number : ℕ) (fault : ProofFault) → IsSmall chunk →
    IsFrameFault number (framed chunk ++ more) fault → ⊥
frame_there chunk more number proofs.Truncated small h =
    false≢true (sym (begins_frame chunk more small) ∙ h.1)
frame_there chunk more number (proofs.Frame n) small h = h.2 (record { rest = _; is = refl })
frame_there chunk more number proofs.Header small h = h
frame_there chunk more number proofs.Version small h = h
frame_there chunk more number (proofs.Reference n) small h = h
frame_there chunk more number (proofs.Chunk n) small h = h
frame_there chunk more number (proofs.KeysOutOfOrder n) small h = h
frame_there chunk more number (proofs.Level n) small h = h
frame_there chunk more number proofs.Trailing small h = h

chunk_there : (version : Version) (d : Due) (chunk more : List ℕ) (number : ℕ) (fault : ProofFault) →
    IsSmall chunk → IsNamed version d.reference chunk → FallsTo d.above chunk →
    IsWrongChunk version d number (framed chunk ++ more) fault → ⊥
chunk_there version d chunk more number fault small named falls w =
    let one = one_front chunk w.chunk more w.rest small w.small w.is in
    let same = subst (IsNamed version d.reference) one.front named in
    no_flaw version d.reference d.above w.chunk w.so.flaw same.is same.ordered
    (subst (FallsTo d.above) one.front falls) w.so.so

no_fault : (version : Version) (due : List Due) (number : ℕ) (left : List ℕ) (fault : ProofFault) →
    IsRestOf version due left → IsProofFault version due number left fault → ⊥
no_fault version due number left fault r h = go due r.chunks r.pairs r.small r.is r.taken h
  where
    go : (due : List Due) (chunks : List (List ℕ)) (pairs : List Pair) →
        AllByRecursion IsSmall chunks → left ≡ flat_map framed chunks →
        AreTaken version due chunks pairs [] → IsProofFault version due number left fault → ⊥
    go [] [] pairs small is taken h = h.1 is
    go [] (chunk ∷ chunks) pairs small is taken h = none_due taken.3.was
    go (d ∷ ds) [] pairs small is taken h = none_due (sym taken.0)
    go (d ∷ ds) (chunk ∷ chunks) pairs small is taken (inl h) = frame_there chunk
        (flat_map framed chunks) number fault small.0
        (subst (λ bytes. IsFrameFault number bytes fault) is h)
    go (d ∷ ds) (chunk ∷ chunks) pairs small is taken (inr h) =
        let first : taken.3.first ≡ d = same_due taken.3.was in
        chunk_there version d chunk (flat_map framed chunks) number fault small.0
        (subst (λ x. IsNamed version x.reference chunk) first taken.3.named)
        (subst (λ x. FallsTo x.above chunk) first taken.3.falls)
        (subst (λ bytes. IsWrongChunk version d number bytes fault) is h)

pub accepted : (version : Version) (due : List Due) (number : ℕ) (left : List ℕ) (fault : SetFault) →
    IsRestOf version due left → IsNextFault version due number left fault → MayFail fault
accepted version due number left Memory r h = inl refl
accepted version due number left Read r h = inr refl
accepted version due number left (Proof fault) r h =
    absurd (no_fault version due number left fault r h)
accepted version due number left Stopped r h = absurd h

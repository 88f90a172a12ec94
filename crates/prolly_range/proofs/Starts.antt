-- Bytes that begin as a proof, or as none.
use Rattle.std.proofs.Common.{◌≡◌, ◌≢◌, ℕ, ◌≤◌, List, [], ◌∷◌, ◌++◌, length, sym, ap, ◌∙◌, subst}
use Rattle.std.proofs.Common.{arith, append-nil, append_assoc, refl, ◌⊎◌, inl, inr}
use Rattle.prolly_entry.specs.lemmas.Lists.{apart}
use Rattle.std.proofs.lemmas.List.{length-append}
use Rattle.prolly_entry.specs.declared.version.Version.{Version}
use Rattle.prolly_entry.specs.declared.version.Version.TheVariants.{One, Two}
use Rattle.prolly_root.specs.ProofFault.{EndsWithin, IsStartOf}
use Rattle.prolly_range.specs.SetProof.{set_start}
use Rattle.prolly_root.specs.declared.proof.fault.ProofFault.{ProofFault}
use Rattle.prolly_root.specs.declared.proof.fault.ProofFault.TheVariants as faults
use Rattle.prolly_range.specs.Start.{BeginsAsNone, IsSetStartFault}

-- bytes that another list begins with, and that are not it, end within it
pub within : (start bytes left : List ℕ) → start ≡ bytes ++ left → (bytes ≡ start → ⊥) →
    EndsWithin start bytes
within start bytes [] e other = absurd (other (sym (append-nil bytes) ∙ sym e))
within start bytes (b ∷ left) e other = record { byte = b; more = left; is = e }

-- a few bytes that begin with a start are that start
pub whole_start : (any : Version) (bytes : List ℕ) → length bytes ≤ 5 →
    IsStartOf (set_start any) bytes → bytes ≡ set_start any
whole_start any bytes few begins = go begins.rest begins.is
  where
    go : (rest : List ℕ) → bytes ≡ set_start any ++ rest → bytes ≡ set_start any
    go [] e = e ∙ append-nil (set_start any)
    go (b ∷ rest) e = absurd (omega (
      arith,
      few,
      ap length e ∙ length-append (set_start any) (b ∷ rest),
    ))

-- which of both versions it is
one_of : (version other any : Version) → other ≢ version → (any ≡ version → ⊥) → any ≡ other
one_of One One any differs e = absurd (differs refl)
one_of One Two One differs e = absurd (e refl)
one_of One Two Two differs e = refl
one_of Two One One differs e = refl
one_of Two One Two differs e = absurd (e refl)
one_of Two Two any differs e = absurd (differs refl)

pub begins_as_none : (version other : Version) (bytes : List ℕ) → length bytes ≤ 5 →
    other ≢ version → (bytes ≡ set_start version → ⊥) → (bytes ≡ set_start other → ⊥) →
    (EndsWithin (set_start version) bytes → ⊥) → BeginsAsNone version bytes
begins_as_none version other bytes few differs not_this not_other not_part = record {
  whole = not_part;
  none = none;
}
  where
    none : (any : Version) → IsStartOf (set_start any) bytes → ⊥
    none any begins =
        let is = whole_start any bytes few begins in
        not_other (is ∙ ap set_start (one_of version other any differs
        (λ e. not_this (is ∙ ap set_start e))))

-- the first bytes are all that there are, or so many as a proof begins with
abbrev pub AreFront : List ℕ → List ℕ → Type 0
AreFront front more = (more ≡ []) ⊎ (length front ≡ 5)

-- what is wrong with the first bytes is wrong with all
pub wrong_start : (version : Version) (front more : List ℕ) (fault : ProofFault) →
    AreFront front more → IsSetStartFault version front fault →
    IsSetStartFault version (front ++ more) fault
wrong_start version front more fault (inl none) h = subst (λ bytes. IsSetStartFault version bytes fault)
    (sym (append-nil front) ∙ ap (λ xs. front ++ xs) (sym none)) h
wrong_start version front more faults.Header (inr five) h = record {
  whole = λ e. omega (
    arith,
    five,
    ap length e.is ∙ length-append (front ++ more) (e.byte ∷ e.more),
    length-append front more,
  );
  none = λ any begins. h.none any (record {
    rest = [];
    is = (apart front (set_start any) more begins.rest five begins.is).front ∙
        sym (append-nil (set_start any));
  });
}
wrong_start version front more faults.Version (inr five) h = record {
  other = h.other;
  differs = h.differs;
  begins = record {
    rest = h.begins.rest ++ more;
    is = ap (λ xs. xs ++ more) h.begins.is ∙ append_assoc (set_start h.other) h.begins.rest more;
  };
}
wrong_start version front more faults.Truncated (inr five) h = absurd (omega (
  arith,
  five,
  ap length h.is ∙ length-append front (h.byte ∷ h.more),
))
wrong_start version front more (faults.Frame n) (inr five) h = h
wrong_start version front more (faults.Reference n) (inr five) h = h
wrong_start version front more (faults.Chunk n) (inr five) h = h
wrong_start version front more (faults.KeysOutOfOrder n) (inr five) h = h
wrong_start version front more (faults.Level n) (inr five) h = h
wrong_start version front more faults.Trailing (inr five) h = h

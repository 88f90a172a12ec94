-- What reads leave of a source.
use Rattle.std.proofs.Common.{◌≡◌, ◌≢◌, ◌↔◌, true, Result, Ok, Err, IfErr, OnOk, IsErrOf, refl, ap}
use Rattle.std.proofs.Common.{◌∙◌}
use Rattle.prolly_io.specs.Source.{SourceView}
use Rattle.prolly_io.specs.declared.device.part_reader.ReadFault.{ReadFault}
use Rattle.prolly_io.specs.declared.device.part_reader.ReadFault.TheVariants as part
use Rattle.prolly_check.specs.Incoming.{Reads, WasRead}
use Rattle.prolly_io.specs.declared.format.header.HeaderFault.{HeaderFault}
use Rattle.prolly_io.specs.declared.format.header.HeaderFault.TheVariants as header
use Rattle.prolly_check.specs.Verdict.{fault_of_header, fault_of_read}
use Rattle.prolly_check.specs.declared.stream.fault.StreamFault.TheVariants as stream
use Rattle.prolly_check.specs.declared.verdict.fault.CheckFault.{CheckFault}
use Rattle.prolly_check.specs.declared.verdict.fault.CheckFault.TheVariants.{Read}

-- before the first read
pub none_read : (source : SourceView) → WasRead source source × (source.failures ≡ source.failures)
none_read source = (record { never = λ _. refl; honest = λ h. h; steady = λ h. h }, refl)

-- what is said in three clauses
pub was_read : (old new : SourceView) → (old.is_steady ≡ true → new.failures ≡ old.failures) →
    (old.is_honest ≡ true → new.is_honest ≡ true) → (old.is_steady ≡ true → new.is_steady ≡ true) →
    WasRead old new
was_read old new never honest steady = record { never = never; honest = honest; steady = steady }

-- behind reads of which none failed
module _ (old mid : SourceView) (before : WasRead old mid × (mid.failures ≡ old.failures)) where
  both : (new : SourceView) → WasRead mid new → WasRead old new
  both new more = record {
    never = λ steady. more.never (before.0.steady steady) ∙ before.1;
    honest = λ honest. more.honest (before.0.honest honest);
    steady = λ steady. more.steady (before.0.steady steady);
  }

  -- no other one failed
  pub read_on : (new : SourceView) → WasRead mid new × (new.failures ≡ mid.failures) →
      WasRead old new × (new.failures ≡ old.failures)
  read_on new more = (both new more.0, more.1 ∙ before.1)

  -- the next ones failed or not, as is told
  pub read_told : {told : Type 0} (new : SourceView) →
      WasRead mid new × (told ↔ (new.failures ≢ mid.failures)) →
      WasRead old new × (told ↔ (new.failures ≢ old.failures))
  read_told new more = (both new more.0, rw before.1 at more.1)

  -- there was none, and so none is told
  pub read_other : {told : Type 0} → (told → ⊥) →
      WasRead old mid × (told ↔ (mid.failures ≢ old.failures))
  read_other apart = (before.0, (λ t. absurd (apart t), λ failed. absurd (failed before.1)))

  pub read_no_more : {T E : Type 0} (told : E) (result : Result T E) →
      IfErr result (λ fault. fault ≢ told) → Reads old mid told result
  read_no_more told (Ok x) other = before
  read_no_more told (Err fault) other = read_other other

-- the fault of a read as one of checking
pub part_failed : {T failed : Type 0} (fault : ReadFault) →
    (IsErrOf {T = T} (Err fault) part.Read ↔ failed) → (fault_of_read fault ≡ Read) ↔ failed
part_failed part.Memory h = (λ e. absurd (cc e), λ failed. absurd (cc (h.1 failed)))
part_failed part.Read h = (λ e. h.0 refl, λ failed. refl)

-- and that of checking as one of checking by the root
pub stream_failed : {failed : Type 0} (fault : CheckFault) → ((fault ≡ Read) ↔ failed) →
    (stream.Check fault ≡ stream.Check Read) ↔ failed
stream_failed fault h = (λ e. h.0 (cc e), λ failed. ap stream.Check (h.1 failed))

-- that of a header is another one
pub header_other : (why : HeaderFault) (fault : CheckFault) → fault ≡ fault_of_header why →
    stream.Check fault ≡ stream.Check Read → ⊥
header_other header.Truncated fault is e = cc
header_other header.BadByte fault is e = cc

-- and in clauses again
pub failure_told : {T E : Type 0} (old new : SourceView) (told : E) (result : Result T E) →
    Reads old new told result → IsErrOf result told ↔ (new.failures ≢ old.failures)
failure_told old new told (Ok x) r = (λ e. cc e, λ failed. absurd (failed r.1))
failure_told old new told (Err fault) r = (λ e. r.1.0 (cc e), λ failed. ap Err (r.1.1 failed))

pub none_failed : {T E : Type 0} (old new : SourceView) (told : E) (result : Result T E) →
    Reads old new told result → OnOk result (new.failures ≡ old.failures)
none_failed old new told (Ok x) r = r.1
none_failed old new told (Err fault) r = tt

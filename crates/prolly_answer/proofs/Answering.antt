-- What a command answers where writing its file fails, and of a file that was checked.
use Rattle.std.proofs.Common.{◌≡◌, ◌≤◌, List, ℕ, length, ◌⊎◌, inl, inr, subst, ap, Result, Ok, Err}
use Rattle.std.specs.Prelude.{◌↔◌, IfOk, IsErrOf, OnErr}
use Rattle.prolly_entry.specs.Record.{Record}
use Rattle.prolly_check.specs.Chunks.{IsFile}
use Rattle.prolly_look_up.specs.Content.{Content, IsFileOf}
use Rattle.prolly_check.specs.Verdict.{IsRefusal}
use Rattle.prolly_check.specs.declared.verdict.fault.CheckFault.{CheckFault}
use Rattle.prolly_check.specs.declared.verdict.fault.CheckFault.TheVariants.{Read}
use Rattle.prolly_fault.specs.Answers.{ShowsFault}
use Rattle.prolly_answer.specs.LookUps.{IsLookedUp, IsNoFileAs, file_limit}
use Rattle.prolly_fault.specs.OutputFault.{told}
use Rattle.prolly_answer.specs.Outputs.{IsAnswer, IsShownPart, IsCutShort, IsPart}
use Rattle.prolly_fault.specs.declared.answer.Answer.{Answer}
use Rattle.prolly_fault.specs.declared.fault.Fault.{Fault}
use Rattle.prolly_fault.specs.declared.fault.Fault.TheVariants.{Write}
use Rattle.prolly_fault.specs.declared.output_fault.OutputFault.{OutputFault}

pub short_answer : {E : Type 0} (makes : List ℕ → List ℕ → Type 0) (at_fault : Fault → Type 0)
    (took_all took_part : List ℕ → Type 0) (untouched : Type 0)
    (result : Result Answer E) → IsCutShort makes took_part →
    IfOk result (λ answer. ShowsFault answer Write) →
    IfOk result (IsAnswer makes at_fault took_all took_part untouched)
short_answer makes at_fault took_all took_part untouched (Ok answer) short shows =
    inr (inl (short, shows))
short_answer makes at_fault took_all took_part untouched (Err e) short shows = tt

pub short_refused : {E : Type 0} (makes : List ℕ → List ℕ → Type 0) (took_part : List ℕ → Type 0)
    (untouched : Type 0)
    (result : Result Answer E) → IsCutShort makes took_part →
    OnErr result (untouched ⊎ IsCutShort makes took_part)
short_refused makes took_part untouched (Ok answer) short = tt
short_refused makes took_part untouched (Err e) short = inr short

-- The bytes that a check accepted were read whole, and of their content this is shown.
pub looked_up : (bytes left : List ℕ) (failed : Type 0) (shows : Content → Type 0) →
    bytes ≡ left → IsFile bytes → length bytes ≤ file_limit → ¬ failed →
    ((content : Content) → IsFileOf bytes content → shows content) →
    IsLookedUp left failed shows
looked_up bytes left failed shows same file within unfailed shown =
    subst (λ b. IsLookedUp b failed shows) same (record {
      whole = record { within = within; unfailed = unfailed };
      content = file.content;
      is = file.is;
      shown = shown file.content file.is;
    })

-- The bytes were refused, and the fault is shown.
pub no_file : {T E : Type 0} (told : CheckFault → Fault) (bytes : List ℕ) (failed : Type 0)
    (result : Result Answer E) (fault : CheckFault) → IsRefusal bytes file_limit fault →
    (IsErrOf {T = T} (Err fault) Read ↔ failed) →
    IfOk result (λ answer. ShowsFault answer (told fault)) →
    IfOk result (IsNoFileAs told bytes failed)
no_file told bytes failed (Ok answer) fault is read shows = record {
  fault = fault;
  is = is;
  read = (λ e. read.0 (ap Err e), λ f. let e = read.1 f in cc);
  shows = shows;
}
no_file told bytes failed (Err e) fault is read shows = tt

-- A read failed, and the fault of that is shown.
pub failed_read : {T E : Type 0} (told : CheckFault → Fault) (failed : Type 0)
    (result : Result Answer E) (fault : CheckFault) → (IsErrOf {T = T} (Err fault) Read ↔ failed) →
    failed → IfOk result (λ answer. ShowsFault answer (told fault)) →
    IfOk result (λ answer. ShowsFault answer (told Read))
failed_read told failed (Ok answer) fault read f shows =
    let e = read.1 f in
    let is : fault ≡ Read = cc in
    subst (λ fault. ShowsFault answer (told fault)) is shows
failed_read told failed (Err e) fault read f shows = tt

-- ---- records that are written

pub cut_off : {E : Type 0} (are : (List Record → Type 0) → Type 0)
    (took_until : OutputFault → List Record → Type 0) (is_done refused : Answer → Type 0)
    (result : Result Answer E) (output : OutputFault) (fault : Fault) → are (took_until output) →
    fault ≡ told output → IfOk result (λ answer. ShowsFault answer fault) →
    IfOk result (λ answer. is_done answer ⊎ IsShownPart are took_until answer ⊎ refused answer)
cut_off are took_until is_done refused (Ok answer) output fault is same shows = inr (inl (record {
  fault = output;
  is = is;
  shows = subst (ShowsFault answer) same shows;
}))
cut_off are took_until is_done refused (Err e) output fault is same shows = tt

pub stopped : {E : Type 0} (are : (List Record → Type 0) → Type 0)
    (took_until : OutputFault → List Record → Type 0) (untouched : Type 0) (result : Result Answer E)
    (fault : OutputFault) → are (took_until fault) →
    OnErr result (untouched ⊎ IsPart are took_until)
stopped are took_until untouched (Ok answer) fault is = tt
stopped are took_until untouched (Err e) fault is = inr (record { fault = fault; is = is })

-- ---- a fault that is shown

-- What is so of each answer that shows the fault is so of this one.
pub is_shown : {E : Type 0} (P : Answer → Type 0) (fault : Fault) (result : Result Answer E) →
    ((answer : Answer) → ShowsFault answer fault → P answer) →
    IfOk result (λ answer. ShowsFault answer fault) → IfOk result P
is_shown P fault (Ok answer) so shows = so answer shows
is_shown P fault (Err e) so shows = tt

pub is_unshown : {E : Type 0} (P : Type 0) (result : Result Answer E) → P → OnErr result P
is_unshown P (Ok answer) so = tt
is_unshown P (Err e) so = so

-- What is wrong with a chunk, and that it is one flaw.
use Rattle.std.proofs.Common.{◌≡◌, ◌∙◌, ℕ, List, Option, refl, sym, ap}
use Rattle.prolly_look_up.specs.Step.{IsFlawedChunk}
use Rattle.prolly_look_up.specs.Way.{FallsTo, IsNamed}
use Rattle.prolly_look_up.specs.declared.step.ChunkFlaw.{ChunkFlaw}
use Rattle.prolly_look_up.specs.declared.step.ChunkFlaw.TheVariants as flaws
use Rattle.prolly_look_up.specs.lemmas.Ways.{no_flaw}
use Rattle.prolly_entry.specs.declared.version.Version.{Version}
use Rattle.prolly_root.specs.LookUpFault.{IsFaultOfChunk, fault_of_flaw}
use Rattle.prolly_root.specs.declared.root_fault.RootFault.{RootFault}

-- A chunk has one flaw.
pub one_flaw : (version : Version) (due : List ℕ) (above : Option ℕ) (chunk : List ℕ)
    (flaw other : ChunkFlaw) →
    IsFlawedChunk version due above chunk flaw → IsFlawedChunk version due above chunk other →
    flaw ≡ other
one_flaw version due above chunk flaws.Reference flaws.Reference h k = refl
one_flaw version due above chunk flaws.Reference flaws.Entries h k = absurd (h k.0)
one_flaw version due above chunk flaws.Reference flaws.Order h k = absurd (h k.0)
one_flaw version due above chunk flaws.Reference flaws.Level h k = absurd (h k.0.is)
one_flaw version due above chunk flaws.Entries flaws.Reference h k = absurd (k h.0)
one_flaw version due above chunk flaws.Entries flaws.Entries h k = refl
one_flaw version due above chunk flaws.Entries flaws.Order h k = absurd (h.1 k.1.pairs k.1.holds)
one_flaw version due above chunk flaws.Entries flaws.Level h k =
    absurd (h.1 k.0.ordered.whole.pairs k.0.ordered.whole.holds)
one_flaw version due above chunk flaws.Order flaws.Reference h k = absurd (k h.0)
one_flaw version due above chunk flaws.Order flaws.Entries h k = absurd (k.1 h.1.pairs h.1.holds)
one_flaw version due above chunk flaws.Order flaws.Order h k = refl
one_flaw version due above chunk flaws.Order flaws.Level h k = absurd (h.2 k.0.ordered.rising)
one_flaw version due above chunk flaws.Level flaws.Reference h k = absurd (k h.0.is)
one_flaw version due above chunk flaws.Level flaws.Entries h k =
    absurd (k.1 h.0.ordered.whole.pairs h.0.ordered.whole.holds)
one_flaw version due above chunk flaws.Level flaws.Order h k = absurd (k.2 h.0.ordered.rising)
one_flaw version due above chunk flaws.Level flaws.Level h k = refl

-- So it has one fault.
pub one_fault_of : {version : Version} {due : List ℕ} (above : Option ℕ) {chunk : List ℕ}
    {number : ℕ} {fault other : RootFault} → IsFaultOfChunk version due above chunk number fault →
    IsFaultOfChunk version due above chunk number other → fault ≡ other
one_fault_of {version = version} {due = due} above {chunk = chunk} {number = number} f g =
    f.2 ∙ ap (λ flaw. fault_of_flaw flaw number)
    (one_flaw version due above chunk f.0 g.0 f.1 g.1) ∙ sym g.2

-- The chunk that is due has none.
pub no_fault_of : {version : Version} {due : List ℕ} (above : Option ℕ) {chunk : List ℕ}
    {number : ℕ} {fault : RootFault} → IsNamed version due chunk → FallsTo above chunk →
    IsFaultOfChunk version due above chunk number fault → ⊥
no_fault_of {version = version} {due = due} above {chunk = chunk} named falls f =
    no_flaw version due above chunk f.0 named.is named.ordered falls f.1

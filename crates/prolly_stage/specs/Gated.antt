-- An output behind a gate.
use Rattle.std.specs.Prelude.{◌≡◌, ℕ, ◌+◌, min, List, [], ◌∷◌, ◌++◌, Result, OnOk, IfErr}
use Rattle.prolly_link.specs.Identity.{LinkId}
use Rattle.prolly_stage.specs.declared.gate.Worker.{Worker}

-- The output, the worker that sends, the gate that it asks, and the number of its next item.
pub record GatedOutput (G O : Type 0) : Type 0 where
  pub out : O
  pub worker : Worker
  pub gate : G
  pub next : ℕ

-- The number behind a number, where the greatest one is followed by itself.
abbrev pub next_number : ℕ → ℕ
next_number n = min (n + 1) 0xFFFF_FFFF_FFFF_FFFF

-- What comes of sending an item through a gate: what comes of sending it to the output alone; the
-- gate had opened for its number, which the next one follows, and nothing else changed. `link` and
-- `sent` are what an output says of itself, `opened` is what a gate says of an item.
pub record SendsThrough {T G O : Type 0} (link : O → LinkId) (sent : O → List T) (opened : G →
    Worker → ℕ → Type 0)
    (old new : GatedOutput G O) (item : T) (result : Result Unit T) : Type 0 where
  pub link_is : link new.out ≡ link old.out
  pub ok : OnOk result (sent new.out ≡ sent old.out ++ item ∷ [])
  pub err : IfErr result (λ back. (back ≡ item) × (sent new.out ≡ sent old.out))
  pub asked : opened old.gate old.worker old.next
  pub worker : new.worker ≡ old.worker
  pub gate : new.gate ≡ old.gate
  pub next : new.next ≡ next_number old.next

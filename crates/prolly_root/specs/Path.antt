-- Going on from one to the next, step by step.
use Rattle.std.specs.Prelude.{◌≡◌, List, [], ◌∷◌}

-- It goes on by these steps from the one to the last.
abbrev pub IsPath : {A : Type 0} → (A → A → Type 0) → A → List A → A → Type 0
IsPath Step at [] last = at ≡ last
IsPath Step at (next ∷ steps) last = Step at next × IsPath Step next steps last

-- What a buffer of read bytes holds, and what a read adds to it.
use Rattle.std.specs.Prelude.{◌≡◌, ℕ, Bool, true, List, [], ◌++◌, length, Option, Result, MatchResult}

-- The bytes that are kept, if any are; those behind them that are not consumed yet; and how many
-- bytes have room behind these.
pub record Held : Type 0 where
  pub kept : Option (List ℕ)
  pub unparsed : List ℕ
  pub room : ℕ

-- Some bytes came behind the unparsed ones: the first that an honest source had left, and none only
-- where it had none.
pub record Gains (honest : Bool) (left left' unparsed unparsed' : List ℕ) (count : ℕ) : Type 0 where
  pub given : List ℕ
  pub behind : unparsed' ≡ unparsed ++ given
  pub size : length given ≡ count
  pub first : honest ≡ true → left ≡ given ++ left'
  pub over : honest ≡ true → count ≡ 0 → left' ≡ []

-- Nothing came.
pub record GainsNothing (honest : Bool) (left left' unparsed unparsed' : List ℕ) : Type 0 where
  pub same : unparsed' ≡ unparsed
  pub kept : honest ≡ true → left' ≡ left

-- What a read did, by its answer.
abbrev pub Fills : {E : Type 0} → Bool → List ℕ → List ℕ → List ℕ → List ℕ → Result ℕ E → Type 0
Fills honest left left' unparsed unparsed' result =
    MatchResult result (λ count. Gains honest left left' unparsed unparsed' count)
    (λ _. GainsNothing honest left left' unparsed unparsed')

-- Which of many inputs is next.
use Rattle.std.specs.Prelude.{◌≡◌, ℕ, zero, suc, Bool, true, false, List, [], ◌∷◌, Option, Some}
use Rattle.std.specs.Prelude.{None}
use Rattle.std.specs.List.{AllByRecursion}
use Rattle.prolly_entry.specs.Record.{Record}
use Rattle.prolly_link.specs.declared.message.End.TheVariants.{Clean}
use Rattle.prolly_merge.specs.Head.{Allows, has_key, Stops}
use Rattle.prolly_merge.specs.declared.heads.Head.{Head}
use Rattle.prolly_merge.specs.declared.heads.Head.TheVariants.{Ready, Ended}
use Rattle.prolly_merge.specs.declared.round.Least.{Least}
use Rattle.prolly_merge.specs.declared.round.Choice.{Choice}
use Rattle.prolly_merge.specs.declared.round.Choice.TheVariants.{Take, Stop}

-- The head is above the record, or a clean end.
abbrev pub IsAbove : Record → Head → Type 0
IsAbove r h = Allows r.key h × (has_key r.key h ≡ false)

-- The record is that of head number `at`. No head is below it, and those behind it are above it.
abbrev pub IsChosen : ℕ → List Head → Record → Type 0
IsChosen at [] r = ⊥
IsChosen zero (h ∷ hs) r = (h ≡ Ready r) × AllByRecursion (IsAbove r) hs
IsChosen (suc at) (h ∷ hs) r = Allows r.key h × IsChosen at hs r

-- No head before number `at` has the record's key.
abbrev pub IsFirstHead : ℕ → List Head → Record → Type 0
IsFirstHead zero hs r = Unit {0}
IsFirstHead (suc at) [] r = ⊥
IsFirstHead (suc at) (h ∷ hs) r = (has_key r.key h ≡ false) × IsFirstHead at hs r

-- Where the key is not shared, no other head has it.
abbrev pub IsFirstUnless : Bool → ℕ → List Head → Record → Type 0
IsFirstUnless true at hs r = Unit {0}
IsFirstUnless false at hs r = IsFirstHead at hs r

-- The last head of the least key; none where all heads are clean ends.
abbrev pub IsLeast : List Head → Option Least → Type 0
IsLeast hs None = AllByRecursion (λ h. h ≡ Ended Clean) hs
IsLeast hs (Some least) = (r : Record) × IsChosen least.at hs r ×
    IsFirstUnless least.is_shared least.at hs r

-- The choice is the last head of the least key; or the merger stops.
abbrev pub IsChoice : List Head → Choice → Type 0
IsChoice hs (Take least) = IsLeast hs (Some least)
IsChoice hs (Stop end) = Stops hs end

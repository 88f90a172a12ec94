-- The pairs of a record file are in order, so the plain builder finds none that isn't.
use Rattle.std.proofs.Common.{ℕ, zero, suc, ◌+◌, List, [], ◌∷◌, take, sym, subst}
use Rattle.prolly_entry.specs.Keys.{Rising, RisingFrom}
use Rattle.prolly_entry.specs.Pair.{Pair}
use Rattle.prolly_entry.specs.RecordList.{ArePairsOf}
use Rattle.prolly_entry.specs.lemmas.Overlays.{overlay_rises}
use Rattle.prolly_file.specs.Scratch.{keys_in, FallsAt}

pub pairs_rise : (bytes : List ℕ) (limit : ℕ) (pairs : List Pair) → ArePairsOf bytes limit pairs →
    Rising (keys_in pairs)
pairs_rise bytes limit pairs h = subst (λ ps. Rising (keys_in ps)) (sym h.are)
    (overlay_rises (h.good ∷ []))

front_from : (x : List ℕ) (ps : List Pair) (n : ℕ) → RisingFrom x (keys_in ps) →
    RisingFrom x (keys_in (take n ps))
front_from x [] zero h = tt
front_from x [] (suc n) h = tt
front_from x (p ∷ ps) zero h = tt
front_from x (p ∷ ps) (suc n) h = (h.0, front_from p.key ps n h.1)

front_rises : (ps : List Pair) (n : ℕ) → Rising (keys_in ps) → Rising (keys_in (take n ps))
front_rises [] zero h = tt
front_rises [] (suc n) h = tt
front_rises (p ∷ ps) zero h = tt
front_rises (p ∷ ps) (suc n) h = front_from p.key ps n h

pub none_falls : (ps : List Pair) (place : ℕ) → Rising (keys_in ps) → FallsAt ps place → ⊥
none_falls ps place h k = k.falls (front_rises ps (place + 1) h)

-- A walk over the leaves of a tree, one part after another.
use Rattle.std.proofs.Common.{◌≡◌, ◌∙◌, ◌<◌, ℕ, arith, length, List, [], ◌∷◌, ◌++◌, map, refl, sym, ap, subst}
use Rattle.std.proofs.lemmas.List.{map-append}
use Rattle.prolly_look_up.specs.HeldPairs.{pairs_held}
use Rattle.prolly_entry.specs.Pair.{Pair}
use Rattle.prolly_entry.specs.declared.version.Version.{Version}
use Rattle.prolly_root_diff.specs.Leaves.{LeadDown, leaves_on, with_pairs}
use Rattle.prolly_root_diff.specs.Walks.{AreReadable}
use Rattle.prolly_root_diff.specs.Left.{Due}

-- The leaves that have pairs among two lists of leaves, one after the other.
pub with_more : (xs ys : List (List Pair)) → with_pairs (xs ++ ys) ≡ with_pairs xs ++ with_pairs ys
with_more [] ys = refl
with_more ([] ∷ xs) ys = with_more xs ys
with_more ((p ∷ ps) ∷ xs) ys = ap (λ ls. (p ∷ ps) ∷ ls) (with_more xs ys)

-- It read more chunks.
pub leaves_more : (read more : List (List ℕ)) →
    leaves_on (read ++ more) ≡ leaves_on read ++ leaves_on more
leaves_more read more = ap with_pairs (map-append pairs_held read more) ∙
    with_more (map pairs_held read) (map pairs_held more)

pub lead_on : (version : Version) (old mid new : List Due) (read more : List (List ℕ)) →
    LeadDown version old read mid → LeadDown version mid more new →
    LeadDown version old (read ++ more) new
lead_on version old mid new [] more first then =
    subst (λ d. LeadDown version d more new) (sym first) then
lead_on version old mid new (chunk ∷ read) more first then =
    (first.0, first.1, lead_on version first.0 mid new read more first.2 then)

-- What it read can be read.
pub lead_readable : (version : Version) (old new : List Due) (read : List (List ℕ)) →
    LeadDown version old read new → AreReadable version read
lead_readable version old new [] lead = tt
lead_readable version old new (chunk ∷ read) lead = (
  record { bytes = lead.1.named.bytes; is = refl; ordered = lead.1.named.ordered },
  lead_readable version lead.0 new read lead.2,
)

-- The last chunk that was read holds the only leaf that has pairs.
pub leaf_given : (before : List (List ℕ)) (chunk : List ℕ) → leaves_on before ≡ [] →
    0 < length (pairs_held chunk) → leaves_on (before ++ chunk ∷ []) ≡ pairs_held chunk ∷ []
leaf_given before chunk none some = leaves_more before (chunk ∷ []) ∙
    ap (λ ls. ls ++ with_pairs (pairs_held chunk ∷ [])) none ∙ one (pairs_held chunk) some
  where
    one : (leaf : List Pair) → 0 < length leaf → with_pairs (leaf ∷ []) ≡ leaf ∷ []
    one [] h = absurd (omega arith)
    one (p ∷ ps) h = refl

-- Where a look-up goes on, and where it ends.
use Rattle.std.proofs.Common.{rules, arith, ◌≡◌, ℕ, List, [], ◌∷◌, ◌++◌, Option}
use Rattle.prolly_entry.specs.Reference.{reference_of}
use Rattle.prolly_entry.specs.declared.version.Version.{Version}
use Rattle.prolly_look_up.specs.Kinds.{Entries as EntriesOf, kind_of}
use Rattle.prolly_look_up.specs.Sought.{Sought, EndsAt, IsChildOf, LeadsOn, sought_of}
use Rattle.prolly_look_up.specs.Step.{IsFlawedChunk}
use Rattle.prolly_look_up.specs.Way.{FallsTo, IsNamed, IsOrdered, Lead}
use Rattle.prolly_look_up.specs.Kinds.Entries.{Leaf, Node}
use Rattle.prolly_look_up.specs.declared.sought.ChildSought.{ChildSought}
use Rattle.prolly_look_up.specs.declared.step.ChunkFlaw.{ChunkFlaw}
use Rattle.prolly_look_up.specs.declared.step.ChunkFlaw.TheVariants.{Entries, Level, Order}
use Rattle.prolly_look_up.specs.declared.step.ChunkFlaw.TheVariants.{Reference}

-- A look-up that ends at entries does not go on from them.
pub no_way_on : (sought : Sought) (entries : EntriesOf) (reference : List ℕ) (next : Sought) →
    EndsAt sought entries → LeadsOn sought entries reference next → ⊥
no_way_on sought (Leaf pairs) reference next ends on = on
no_way_on sought (Node children) reference next ends on = grind arith

-- It goes on at one reference, and seeks one thing there.
pub one_way_on : (sought : Sought) (entries : EntriesOf) (x y : List ℕ × Sought) →
    LeadsOn sought entries x.0 x.1 → LeadsOn sought entries y.0 y.1 → x ≡ y
one_way_on sought (Leaf pairs) x y on too = absurd on
one_way_on sought (Node children) x y on too = grind arith

-- It goes on at the child that was found.
pub child_leads : (sought : Sought) (entries : EntriesOf) (child : ChildSought) →
    IsChildOf sought entries child →
    LeadsOn sought entries child.reference.0 (sought_of child.sought)
child_leads sought (Leaf pairs) child is = is
child_leads sought (Node children) child is = grind arith

-- A chunk that has the reference, can be read and stands where it may has no flaw.
pub no_flaw : (version : Version) (due : List ℕ) (above : Option ℕ) (chunk : List ℕ)
    (flaw : ChunkFlaw) → reference_of chunk ≡ due → IsOrdered version chunk → FallsTo above chunk →
    IsFlawedChunk version due above chunk flaw → ⊥
no_flaw version due above chunk Reference is ordered falls h = h is
no_flaw version due above chunk Entries is ordered falls h = search rules
no_flaw version due above chunk Order is ordered falls h = h.2 ordered.rising
no_flaw version due above chunk Level is ordered falls h = h.1 falls

-- One more chunk leads on.
pub lead_more : (version : Version) (sought : Sought) (from : List ℕ) (chunks : List (List ℕ))
    (to : List ℕ) (there : Sought) (chunk reference : List ℕ) (next : Sought) →
    Lead version sought from chunks to there → IsNamed version to chunk →
    LeadsOn there (kind_of version chunk) reference next →
    Lead version sought from (chunks ++ chunk ∷ []) reference next
lead_more version sought from [] to there chunk reference next lead named on = search rules
lead_more version sought from (c ∷ chunks) to there chunk reference next lead named on =
    search (
      rules,
      lead_more version lead.2 lead.1 chunks to there chunk reference next lead.4 named on,
    )

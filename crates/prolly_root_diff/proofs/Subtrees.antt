-- The subtrees that are due below one node.
use Rattle.std.proofs.Common.{◌≡◌, ℕ, zero, suc, ◌<◌, ◌^◌, inl, inr, List, [], ◌∷◌, ◌++◌}
use Rattle.std.proofs.Common.{map, length, drop, Option, Some, None, refl, sym, ap}
use Rattle.std.proofs.Common.{◌∙◌, arith, option_map}
use Rattle.std.specs.List.{flat_map}
use Rattle.std.proofs.lemmas.Simd.{map-map}
use Rattle.prolly_entry.specs.declared.reference.Ref.{Ref}
use Rattle.prolly_entry.specs.declared.version.Version.{Version}
use Rattle.prolly_look_up.specs.Entries.{children_in}
use Rattle.prolly_look_up.specs.Kinds.{kind_of}
use Rattle.prolly_look_up.specs.Way.{FallsTo, IsNamed, level_of}
use Rattle.prolly_root_diff.specs.DueTrees.{ReadsFirst, all_due, due_behind}
use Rattle.prolly_root_diff.specs.Left.{Due, due_of, opened}
use Rattle.prolly_root_diff.specs.Notes.{Reads}
use Rattle.prolly_root_diff.specs.declared.notes.Note.{Note}
use Rattle.prolly_root_diff.specs.Sides.{AreChildrenOf, AreOne, HaveSame}
use Rattle.prolly_root_diff.specs.Sides.{PutBehindFirst, bound_of, due_at, dues, left_of}
use Rattle.prolly_root_diff.specs.Sides.{level_above}
use Rattle.prolly_root_diff.specs.declared.side.Side.{Side}
use Rattle.prolly_root_diff.specs.declared.siblings.Parent.{Parent}
use Rattle.prolly_root_diff.specs.declared.siblings.Siblings.{Siblings}
use Rattle.prolly_root_diff.proofs.Lists.{left_is}

pub same_level : {T : Type 0} (old new : Option (Parent T)) → AreOne old new →
    option_map (λ p. p.level) new ≡ option_map (λ p. p.level) old
same_level None None h = refl
same_level None (Some p) h = absurd h
same_level (Some p) None h = absurd h
same_level (Some p) (Some q) h = ap Some h.0

pub same_bound : {T : Type 0} (old new : Option (Parent T)) → AreOne old new →
    bound_of new ≡ bound_of old
same_bound None None h = refl
same_bound None (Some p) h = absurd h
same_bound (Some p) None h = absurd h
same_bound (Some p) (Some q) h = h.0

-- ---- what is due

module _ {T : Type 0} where
  others_due : (bound : ℕ) (behind : List Ref) (new : Siblings T) → behind ≡ new.next ∷ new.behind.items →
      bound_of new.parent ≡ bound → dues new ≡ map (due_at bound) behind
  others_due bound behind new are same = rw (sym same, are) refl

  pub put_dues : (old first : Siblings T) (others all : List (Siblings T)) → HaveSame old first →
      PutBehindFirst first others all →
      flat_map dues all ≡ map (due_at (bound_of old.parent)) old.behind.items ++ flat_map dues others
  put_dues old first others all same (inl none) =
      ap (flat_map dues) none.1 ∙ ap (λ rs. map (due_at (bound_of old.parent)) rs ++ flat_map dues
      others) (sym (sym (ap (λ d. d.items) same.behind) ∙ none.0))
  put_dues old first others all same (inr some) =
      ap (flat_map dues) some.2 ∙ ap (λ ds. ds ++ flat_map dues others)
      (others_due (bound_of old.parent) old.behind.items some.0
      (sym (ap (λ d. d.items) same.behind) ∙ some.1.are)
      (ap bound_of some.1.parent ∙ same_bound old.parent first.parent same.above))

  children_due : (version : Version) (level : ℕ) (entries : List ℕ) (place : T) (s : Siblings T) →
      AreChildrenOf version (level ∷ entries) place s →
      dues s ≡ due_of level (children_in version entries)
  children_due version level entries place s c =
      let bound : bound_of s.parent ≡ level = ap bound_of c.above ∙ c.level in
      let named : map (λ r. record { reference = r; bound = level })
      (s.next.0 ∷ map (λ r. r.0) s.behind.items) ≡ map (λ r. record { reference = r; bound = level })
      (map (λ c. c.reference) (children_in version entries)) =
      ap (map (λ r. record { reference = r; bound = level })) c.references in
      ap (λ b. due_at b s.next ∷ map (due_at b) s.behind.items) bound ∙
      ap (λ ds. due_at level s.next ∷ ds) (sym (map-map (λ r. record { reference = r; bound = level })
      (λ r. r.0) s.behind.items)) ∙ named ∙ map-map (λ r. record { reference = r; bound = level })
      (λ c. c.reference) (children_in version entries)

  falls_below : (parent : Option (Parent T)) (chunk : List ℕ) →
      FallsTo (option_map (λ p. p.level) parent) chunk → level_of chunk < 256 →
      level_of chunk < bound_of parent
  falls_below None chunk falls byte = byte
  falls_below (Some p) chunk falls byte = omega (arith, falls)

  -- a node was read
  pub reads_node : (version : Version) (first left s : Siblings T)
      (old others all new : List (Siblings T)) (reference chunk : List ℕ) →
      reference ≡ left.next.0 → (place : T) → old ≡ first ∷ others → HaveSame first left →
      PutBehindFirst left others all → IsNamed version first.next.0 chunk →
      FallsTo (level_above first) chunk → level_of chunk < 256 → length chunk < 2 ^ 64 →
      0 < level_of chunk → AreChildrenOf version chunk place s → new ≡ s ∷ all →
      ReadsFirst version (all_due old) reference chunk (all_due new)
  reads_node version first left s old others all new reference chunk named_so place was same put
      named falls byte short high c is = record {
        first = due_at (bound_of first.parent) first.next;
        due = map (due_at (bound_of first.parent)) first.behind.items ++ flat_map dues others;
        was = ap (flat_map dues) was;
        reference_is = named_so ∙ ap (λ r. r.0) same.next;
        named = named;
        falls = falls_below first.parent chunk falls byte;
        short = short;
        is = ap (flat_map dues) is ∙ ap (λ ds. dues s ++ ds)
            (put_dues first left others all same put) ∙ by_chunk chunk high c;
      }
    where
      by_chunk : (chunk : List ℕ) → 0 < level_of chunk → AreChildrenOf version chunk place s →
          dues s ++ (map (due_at (bound_of first.parent)) first.behind.items ++
          flat_map dues others) ≡ due_behind version chunk
          (map (due_at (bound_of first.parent)) first.behind.items ++ flat_map dues others)
      by_chunk [] high c = absurd (omega (arith, high))
      by_chunk (zero ∷ entries) high c = absurd (omega (arith, high))
      by_chunk (suc level ∷ entries) high c = ap (λ ds. ds ++
          (map (due_at (bound_of first.parent)) first.behind.items ++ flat_map dues others))
          (children_due version (suc level) entries place s c)

  -- a leaf was read, or a node without children
  pub reads_low : (version : Version) (first left : Siblings T)
      (old others all : List (Siblings T)) (reference chunk : List ℕ) →
      reference ≡ left.next.0 → old ≡ first ∷ others → HaveSame first left →
      PutBehindFirst left others all → IsNamed version first.next.0 chunk →
      FallsTo (level_above first) chunk → level_of chunk < 256 → length chunk < 2 ^ 64 →
      ((due : List Due) → due_behind version chunk due ≡ due) →
      ReadsFirst version (all_due old) reference chunk (all_due all)
  reads_low version first left old others all reference chunk named_so was same put named falls byte
      short low =
      let due = map (due_at (bound_of first.parent)) first.behind.items ++ flat_map dues others in
      record {
        first = due_at (bound_of first.parent) first.next;
        due = due;
        was = ap (flat_map dues) was;
        reference_is = named_so ∙ ap (λ r. r.0) same.next;
        named = named;
        falls = falls_below first.parent chunk falls byte;
        short = short;
        is = put_dues first left others all same put ∙ sym (low due);
      }

  -- what is in hand behind it is what the chunk holds
  abbrev pub reads_so : (version : Version) (old new : Side T) (reference chunk : List ℕ) (note : Note) →
      (reads : ReadsFirst version (all_due old.due.items) reference chunk
      (all_due new.due.items)) → note.reference.0 ≡ reference → note.length ≡ length chunk →
      old.leaf ≡ [] →
      new.leaf ≡ (opened (level_of chunk) (kind_of version chunk) reads.due).pairs →
      Reads version (left_of old) (left_of new) note
  reads_so version old new reference chunk note reads noted long none held = record {
    opens = record {
      first = reads.first;
      due = reads.due;
      chunk = chunk;
      was = left_is (left_of old) _ none reads.was;
      named = reads.named;
      falls = reads.falls;
      short = reads.short;
      is = ap (λ ps. record { pairs = ps; due = all_due new.due.items }) held ∙
          ap (λ ds. record {
            pairs = (opened (level_of chunk) (kind_of version chunk) reads.due).pairs;
            due = ds;
          }) reads.is;
    };
    reference = noted ∙ reads.reference_is ∙ sym reads.named.is;
    length = long;
  }

-- nothing is due behind a leaf but what was before
pub behind_leaf : (version : Version) (chunk : List ℕ) → level_of chunk ≡ 0 → (due : List Due) →
    due_behind version chunk due ≡ due
behind_leaf version [] low due = refl
behind_leaf version (zero ∷ entries) low due = refl
behind_leaf version (suc level ∷ entries) low due = absurd (omega (arith, low))

-- nor behind a node without children
pub behind_none : (version : Version) (chunk : List ℕ) → 0 < level_of chunk →
    children_in version (drop 1 chunk) ≡ [] → (due : List Due) →
    due_behind version chunk due ≡ due
behind_none version [] high none due = absurd (omega (arith, high))
behind_none version (zero ∷ entries) high none due = absurd (omega (arith, high))
behind_none version (suc level ∷ entries) high none due =
    ap (λ cs. due_of (suc level) cs ++ due) none

-- a node holds no pairs
pub node_pairs : (version : Version) (chunk : List ℕ) (level : ℕ) (due : List Due) →
    0 < level_of chunk → [] ≡ (opened level (kind_of version chunk) due).pairs
node_pairs version [] level due high = absurd (omega (arith, high))
node_pairs version (zero ∷ entries) level due high = absurd (omega (arith, high))
node_pairs version (suc n ∷ entries) level due high = refl

-- Two cursors side by side: what is taken of the least key, and what is left.
use Rattle.std.proofs.Common.{◌≡◌, ℕ, suc, ◌+◌, ◌<◌, List, ◌∷◌, length, get_or, drop}
use Rattle.std.proofs.Common.{Some, None, refl, sym, ap, ◌∙◌, subst, arith}
use Rattle.std.proofs.Math.Seq.{drop-cons}
use Rattle.std.proofs.lemmas.List.Sums.{sum_by-cons}
use Rattle.std.specs.List.{sum_by}
use Rattle.std.specs.Borrow.{Bor}
use Rattle.std.specs.declared.cmp.Ordering.TheVariants.{Equal}
use Rattle.prolly_entry.specs.Keys.{key_order, KeyBelow}
use Rattle.prolly_entry.specs.Pair.{Pair}
use Rattle.prolly_entry.specs.lemmas.Orders.{order_same}
use Rattle.prolly_tree.specs.Difference.{IsMap}
use Rattle.prolly_tree.specs.lemmas.Maps.{Above, above_first}
use Rattle.prolly_tree.specs.Walks.{Maps, TakesLeast}
use Rattle.prolly_c.proofs.RunLists.{some_run}
use Rattle.prolly_c.specs.Changes.{AreAt, pair_is}
use Rattle.prolly_c.specs.Cursor.{StepsOver, run_size, weight}
use Rattle.prolly_c.specs.declared.cursor.Cursor.{Cursor}
use Rattle.prolly_c.specs.declared.cursor.Cursors.{Cursors}
use Rattle.prolly_c.specs.declared.run.Run.{Run}

-- ---- how many bytes are left

-- Taking the next run in hand leaves as many.
pub weight_next : (runs : List Run) (cursor : Cursor) → cursor.at ≡ cursor.end →
    cursor.next < length runs →
    weight runs (record {
      at = (get_or runs cursor.next some_run).start;
      end = (get_or runs cursor.next some_run).end;
      next = cursor.next + 1;
    }) ≡ weight runs cursor
weight_next runs cursor same within =
    let run : Run = get_or runs cursor.next some_run in
    let next : cursor.next + 1 ≡ suc cursor.next = omega arith in
    let left : sum_by run_size (drop (cursor.next + 1) runs) ≡
    sum_by run_size (drop (suc cursor.next) runs) =
    ap (λ n. sum_by run_size (drop n runs)) next in
    let whole : sum_by run_size (drop cursor.next runs) ≡
    run_size run + sum_by run_size (drop (suc cursor.next) runs) =
    ap (sum_by run_size) (drop-cons runs cursor.next some_run within) ∙
    sum_by-cons run_size run (drop (suc cursor.next) runs) in
    omega arith

-- ---- the pair of the least key

-- The one has a pair, and the other none.
pub takes_old : (old : List ℕ) (old_runs : List Run) (new : List ℕ) (new_runs : List Run)
    (at : Cursors) (maps : Maps) (entry : Bor (List ℕ) × Bor (List ℕ)) (behind : Cursor) →
    AreAt old old_runs new new_runs at maps →
    StepsOver old old_runs maps.before (entry, behind) → Above entry.0.now maps.after →
    (rest : Maps) × TakesLeast maps (Some (pair_is entry)) None rest ×
    AreAt old old_runs new new_runs (record { before = behind; after = at.after }) rest
takes_old old old_runs new new_runs at maps entry behind are step above = (
  record { before = step.0; after = maps.after },
  (step.1, refl, above),
  record { old_at = step.2; new_at = are.new_at },
)

pub takes_new : (old : List ℕ) (old_runs : List Run) (new : List ℕ) (new_runs : List Run)
    (at : Cursors) (maps : Maps) (entry : Bor (List ℕ) × Bor (List ℕ)) (behind : Cursor) →
    AreAt old old_runs new new_runs at maps →
    StepsOver new new_runs maps.after (entry, behind) → Above entry.0.now maps.before →
    (rest : Maps) × TakesLeast maps None (Some (pair_is entry)) rest ×
    AreAt old old_runs new new_runs (record { before = at.before; after = behind }) rest
takes_new old old_runs new new_runs at maps entry behind are step above = (
  record { before = maps.before; after = step.0 },
  (refl, step.1, above),
  record { old_at = are.old_at; new_at = step.2 },
)

-- Both have one.
pub takes_both : (old : List ℕ) (old_runs : List Run) (new : List ℕ) (new_runs : List Run)
    (maps : Maps) (one other : Bor (List ℕ) × Bor (List ℕ)) (old_behind new_behind : Cursor) →
    StepsOver old old_runs maps.before (one, old_behind) →
    StepsOver new new_runs maps.after (other, new_behind) →
    key_order one.0.now other.0.now ≡ Equal →
    (rest : Maps) × TakesLeast maps (Some (pair_is one)) (Some (pair_is other)) rest ×
    AreAt old old_runs new new_runs (record { before = old_behind; after = new_behind }) rest
takes_both old old_runs new new_runs maps one other old_behind new_behind before after same = (
  record { before = before.0; after = after.0 },
  (before.1, after.1, order_same one.0.now other.0.now same),
  record { old_at = before.2; new_at = after.2 },
)

-- A map is above a key that is below its first one.
pub above_map : (key : List ℕ) (pairs : List Pair) (p : Pair) (ps : List Pair) → pairs ≡ p ∷ ps →
    IsMap pairs → KeyBelow key p.key → Above key pairs
above_map key pairs p ps are is_map below = subst (Above key) (sym are)
    (above_first key (p ∷ ps) (subst IsMap are is_map) below)

-- Going over the pairs of a tree by its root, leaf by leaf.
use Rattle.std.proofs.Common.{◌≡◌, ◌≢◌, ℕ, ◌<◌, ◌≤◌, inl, inr, true, false, Bool, List, [], ◌∷◌}
use Rattle.std.proofs.Common.{◌++◌, length, Ok, Err, refl, sym, ap, ◌∙◌, subst, arith, append-nil}
use Rattle.std.specs.List.{AllByRecursion}
use Rattle.std.specs.Ordering.{is_lt}
use Rattle.prolly_look_up.specs.HeldPairs.{pairs_held}
use Rattle.prolly_look_up.specs.PairsFrom.{pairs_from}
use Rattle.prolly_look_up.specs.ScanWay.{EndsEmpty, IsScanWay, from_behind, joined}
use Rattle.prolly_look_up.specs.ScanWay.{next_key}
use Rattle.prolly_entry.specs.Keys.{key_order}
use Rattle.prolly_entry.specs.Pair.{Pair}
use Rattle.prolly_entry.specs.lemmas.Lists.{all_append}
use Rattle.prolly_entry.specs.declared.version.Version.{Version}
use Rattle.prolly_io.specs.Failures.{after_failure}
use Rattle.prolly_io.specs.Sink.{IsSettled, SinkView}
use Rattle.prolly_io.specs.Writes.{Writes}
use Rattle.prolly_root.specs.declared.root_fault.RootFault.{RootFault}
use Rattle.prolly_text.specs.declared.lines.form.RecordForm.TheVariants.{Records}
use Rattle.prolly_tree.specs.RecordFile.{record_file}
use Rattle.prolly_tree.specs.Tree.{last_key}
use Rattle.prolly_answer.specs.Outputs.{IsSettledAs, TookAll, TookBytes, TookPart, TookUntil}
use Rattle.prolly_answer.specs.RootLookUps.{IsFoundByRoot}
use Rattle.prolly_answer.specs.RootOutcomes.{AreEnough, FitsOutcome, IsWrittenByRoot, Outcome}
use Rattle.prolly_answer.specs.RootOutcomes.{Scanned, TakesAllFor, TakesFor, behind, left_of}
use Rattle.prolly_answer.specs.RootOutcomes.{portion_bytes}
use Rattle.prolly_answer.specs.declared.answers.root_pairs.Portion.{Portion}
use Rattle.prolly_answer.specs.declared.answers.root_pairs.Portion.TheVariants.{Whole}
use Rattle.prolly_fault.specs.declared.output_fault.OutputFault.{OutputFault}
use Rattle.prolly_fault.specs.declared.output_fault.OutputFault.TheVariants.{Memory, Write}
use Rattle.prolly_fault.specs.declared.root_output_fault.RootOutputFault.TheVariants.{Output}
use Rattle.prolly_fault.specs.declared.root_output_fault.RootOutputFault.TheVariants.{Root}
use Rattle.prolly_answer.proofs.DumpSteps.{record_files_are_dumped}
use Rattle.prolly_answer.proofs.KeyRanks.{AreBytes, less_room_above, room_above}
use Rattle.prolly_answer.proofs.Portions.{all_left, bytes_more, bytes_none, enough_at_end}
use Rattle.prolly_answer.proofs.Portions.{enough_found, left_more, more_wanted}
use Rattle.prolly_answer.proofs.ScanSteps.{all_flushed, all_unflushed, behind_more}
use Rattle.prolly_answer.proofs.ScanSteps.{ends_empty, ends_full, joined_more, prefix_flushed}
use Rattle.prolly_answer.proofs.ScanSteps.{prefix_unflushed, scanned_more, so_told, took_also}
use Rattle.prolly_answer.proofs.ScanSteps.{until_also}
use Rattle.prolly_answer.proofs.WaysStand.{all_also}
use Rattle.prolly_answer.proofs.Writing.{TookSoFar, took_front, took_none, wrote_part}

-- ---- the pairs of a leaf from a key on

all_over : (from : List ℕ) (ps : List Pair) →
    AllByRecursion (λ p. is_lt (key_order p.key from) ≡ false) (pairs_from from ps)
all_over from [] = tt
all_over from (p ∷ ps) = split (is_lt (key_order p.key from)) refl (all_over from ps)
  where
    split : (under : Bool) → under ≡ is_lt (key_order p.key from) →
        AllByRecursion (λ p. is_lt (key_order p.key from) ≡ false) (pairs_from from ps) →
        AllByRecursion (λ p. is_lt (key_order p.key from) ≡ false) (pairs_from from (p ∷ ps))
    split true e rest = rw (sym e) rest
    split false e rest = rw (sym e) (sym e, rest)

last_of : (from : List ℕ) (ps : List Pair) →
    AllByRecursion (λ p. is_lt (key_order p.key from) ≡ false) ps → 0 < length ps →
    is_lt (key_order (last_key ps) from) ≡ false
last_of from [] all some = absurd (omega arith)
last_of from (p ∷ []) all some = all.0
last_of from (p ∷ q ∷ ps) all some = last_of from (q ∷ ps) all.1 (omega arith)

-- The last of them has no lower key.
pub last_over : (from : List ℕ) (ps : List Pair) → 0 < length (pairs_from from ps) →
    is_lt (key_order (last_key (pairs_from from ps)) from) ≡ false
last_over from ps some = last_of from (pairs_from from ps) (all_over from ps) some

-- From the least key on these are all.
not_under_least : (key : List ℕ) → is_lt (key_order key []) ≡ false
not_under_least [] = refl
not_under_least (b ∷ key) = refl

pub from_least : (ps : List Pair) → pairs_from [] ps ≡ ps
from_least [] = refl
from_least (p ∷ ps) = rw (not_under_least p.key) (ap (λ qs. p ∷ qs) (from_least ps))

-- ---- what a look-up finds

-- Behind the pairs that it finds there is less room.
pub less_room_behind : {there : List ℕ → Type 0} {version : Version} {root next last key : List ℕ}
    {leaf : List Pair} → IsFoundByRoot there (IsScanWay version root next) leaf →
    (0 < length leaf) × (last ≡ last_key leaf) → length last ≤ 1024 → AreBytes next →
    AreBytes last → key ≡ next_key last → room_above key < room_above next
less_room_behind {next = next} {last = last} found is short bytes own behind =
    let over = subst (λ ps. 0 < length ps → is_lt (key_order (last_key ps) next) ≡ false)
    (sym found.is.found_is) (last_over next (pairs_held found.is.way.last)) is.0 in
    subst (λ key. room_above key < room_above next) (sym behind)
    (less_room_above next last bytes own short
    (subst (λ key. is_lt (key_order key next) ≡ false) (sym is.1) over))

-- A leaf is written from where its pairs lie.
same_bytes : {portion : Portion} {bytes : List ℕ} (m : List Pair) → portion ≡ Whole Records →
    bytes ≡ record_file m → bytes ≡ portion_bytes portion m
same_bytes m is are = are ∙ sym (record_files_are_dumped m) ∙ ap (λ p. portion_bytes p m) (sym is)

module _ {W : Type 0} {seen : W → SinkView} {portion : Portion} {bytes : List ℕ} {old new : W}
    (m : List Pair) (is : portion ≡ Whole Records) (are : bytes ≡ record_file m) where
  pub leaf_spelled : {T E : Type 0} {x : T} →
      Writes {T = T} {E = E} bytes (seen old) (seen new) (Ok x) →
      TookBytes seen (portion_bytes portion m) old new
  leaf_spelled w = subst (λ b. TookBytes seen b old new) (same_bytes m is are)
      (record { unfailed = w.failures; took = w.written })

  pub leaf_cut_off : {T E : Type 0} {x : E} →
      Writes {T = T} {E = E} bytes (seen old) (seen new) (Err x) →
      TookPart seen (portion_bytes portion m) old new
  leaf_cut_off {x = x} w = subst (λ b. TookPart seen b old new) (same_bytes m is are)
      (wrote_part seen x bytes old new w)

-- ---- a command on its way

-- No more is sought behind a leaf that has no pairs.
pub none_behind : (lists : List (List Pair)) (found : List Pair) → found ≡ [] →
    EndsEmpty (lists ++ found ∷ [])
none_behind lists found none =
    subst (λ ps. EndsEmpty (lists ++ ps ∷ [])) (sym none) (ends_empty lists)

-- More is sought behind one that has some.
pub some_behind : (lists : List (List Pair)) (found : List Pair) → 0 < length found →
    ¬ (EndsEmpty (lists ++ found ∷ []))
some_behind lists [] some = absurd (omega arith)
some_behind lists (p ∷ ps) some = ends_full lists (p ∷ ps) (λ e. cc)

module _ {W : Type 0} (seen : W → SinkView) (there : List ℕ → Type 0) (version : Version)
    (root from : List ℕ) (portion : Portion) where
  -- What was found is not enough: this is wanted behind it, and this key is looked up next.
  pub record IsUnderWay (left : Portion) (next : List ℕ) (old new : W) : Type 0 where
    pub found : Scanned there version root from
    pub few : ¬ (AreEnough portion found.lists)
    pub left_is : left ≡ left_of portion (joined found.lists)
    pub next_is : next ≡ behind from found.lists
    pub took : TookSoFar seen (portion_bytes portion (joined found.lists)) old new

abbrev nothing_found : {there : List ℕ → Type 0} {version : Version} {root from : List ℕ} →
    Scanned there version root from
nothing_found = record { lists = []; ways = []; are = tt; stand = tt }

took_nothing : {W : Type 0} (seen : W → SinkView) (portion : Portion) (old : W) →
    TookSoFar seen (portion_bytes portion []) old old
took_nothing seen portion old = subst (λ b. TookSoFar seen b old old) (sym (bytes_none portion))
    (took_none seen old)

module _ {W : Type 0} {seen : W → SinkView} {there : List ℕ → Type 0} {version : Version}
    {root from : List ℕ} {portion : Portion} where
  pub begins : {next : List ℕ} {old : W} → next ≡ from → ¬ (AreEnough portion []) →
      IsUnderWay seen there version root from portion portion next old old
  begins {old = old} is few = record {
    found = nothing_found;
    few = few;
    left_is = all_left portion;
    next_is = is;
    took = took_nothing seen portion old;
  }

  -- Memory is wanted behind what was written.
  wants : {may : List ℕ → RootFault → Type 0} {old new : W}
      (found : Scanned there version root from) →
      TookSoFar seen (portion_bytes portion (joined found.lists)) old new →
      IsWrittenByRoot there may version root from portion (TakesFor seen old new)
      (Err (Output Memory))
  wants {old = old} {new = new} found took =
      let bytes = portion_bytes portion (joined found.lists) in
      record {
        found = found;
        fits = tt;
        took = took_front seen bytes old new took bytes [] (sym (append-nil bytes));
      }

  -- Memory is wanted before anything is sought.
  pub wants_first : {may : List ℕ → RootFault → Type 0} {old : W} → IsWrittenByRoot there may
      version root from portion (TakesFor seen old old) (Err (Output Memory))
  wants_first {old = old} = wants nothing_found (took_nothing seen portion old)

  module _ {left : Portion} {next : List ℕ} {old mid : W}
      (d : IsUnderWay seen there version root from portion left next old mid) where
    -- A look-up has a fault.
    pub seek_fails : {may : List ℕ → RootFault → Type 0} {fault : RootFault} → may next fault →
        IsWrittenByRoot there may version root from portion (TakesFor seen old mid)
        (Err (Root fault))
    seek_fails {may = may} {fault = fault} lawful = record {
      found = d.found;
      fits = (d.few, subst (λ key. may key fault) d.next_is lawful);
      took = d.took.all;
    }

    module _ {leaf : List Pair} (more : IsFoundByRoot there (IsScanWay version root next) leaf)
      where
        abbrev with_more : Scanned there version root from
        with_more = record {
          lists = d.found.lists ++ leaf ∷ [];
          ways = d.found.ways ++ more.way ∷ [];
          are = scanned_more version root from d.found.lists d.found.ways leaf more.way
              d.found.are (subst (λ key. IsScanWay version root key more.way leaf) d.next_is
              more.is);
          stand = subst (AllByRecursion there) (sym (joined_more d.found.ways more.way))
              (all_append there (joined d.found.ways) more.way d.found.stand more.stand);
        }

        text : portion_bytes portion (joined with_more.lists) ≡
            portion_bytes portion (joined d.found.lists) ++ portion_bytes left leaf
        text = ap (portion_bytes portion) (joined_more d.found.lists leaf) ∙
            bytes_more portion (joined d.found.lists) leaf ∙
            ap (λ p. portion_bytes portion (joined d.found.lists) ++ portion_bytes p leaf)
            (sym d.left_is)

        -- It finds that there are no more.
        pub seek_ends : {may : List ℕ → RootFault → Type 0} → leaf ≡ [] →
            IsWrittenByRoot there may version root from portion (TakesFor seen old mid) (Ok tt)
        seek_ends none = let done = portion_bytes portion (joined d.found.lists) in record {
          found = with_more;
          fits = enough_at_end portion with_more.lists (none_behind d.found.lists leaf none);
          took = subst (λ b. TookBytes seen b old mid) (sym (text ∙
              ap (λ ps. done ++ portion_bytes left ps) none ∙
              ap (λ b. done ++ b) (bytes_none left) ∙ append-nil done)) d.took.all;
        }

        module _ {new : W} where
          -- What is to be written of its leaf is not written whole.
          pub leaf_unwritten : {may : List ℕ → RootFault → Type 0} {fault : OutputFault} →
              TookUntil seen fault (portion_bytes left leaf) mid new →
              IsWrittenByRoot there may version root from portion (TakesFor seen old new)
              (Err (Output fault))
          leaf_unwritten {fault = fault} t = record {
            found = with_more;
            fits = tt;
            took = subst (λ b. TookUntil seen fault b old new) (sym text)
                (until_also seen _ (portion_bytes left leaf) old mid new d.took fault t);
          }

          module _ (t : TookBytes seen (portion_bytes left leaf) mid new)
              (keeping : (seen mid).is_keeping ≡ true → (seen new).is_keeping ≡ true) where
            took_leaf : TookSoFar seen (portion_bytes portion (joined with_more.lists)) old new
            took_leaf = subst (λ b. TookSoFar seen b old new) (sym text)
                (took_also seen _ (portion_bytes left leaf) old mid new d.took t keeping)

            -- It is written, and memory is wanted before more is sought.
            pub leaf_wants : {may : List ℕ → RootFault → Type 0} → IsWrittenByRoot there may
                version root from portion (TakesFor seen old new) (Err (Output Memory))
            leaf_wants = wants with_more took_leaf

            module _ {rest : Portion} (is : rest ≡ left_of left leaf) where
              rest_is : rest ≡ left_of portion (joined with_more.lists)
              rest_is = is ∙ ap (λ p. left_of p leaf) d.left_is ∙
                  left_more portion (joined d.found.lists) leaf ∙
                  ap (left_of portion) (sym (joined_more d.found.lists leaf))

              -- It is written, and that is enough.
              pub leaf_fills : {may : List ℕ → RootFault → Type 0} → AreEnough rest [] →
                  IsWrittenByRoot there may version root from portion (TakesFor seen old new)
                  (Ok tt)
              leaf_fills none = record {
                found = with_more;
                fits = enough_found portion with_more.lists
                    (subst (λ p. AreEnough p []) rest_is none);
                took = took_leaf.all;
              }

              pub goes_on : {key : List ℕ} → ¬ (AreEnough rest []) → 0 < length leaf →
                  key ≡ next_key (last_key leaf) →
                  IsUnderWay seen there version root from portion rest key old new
              goes_on {key = key} wanted some is = record {
                found = with_more;
                few = more_wanted portion with_more.lists
                    (subst (λ p. ¬ (AreEnough p [])) rest_is wanted)
                    (some_behind d.found.lists leaf some);
                left_is = rest_is;
                next_is = is ∙ sym (behind_more from d.found.lists leaf ∙ behind_some leaf some);
                took = took_leaf;
              }
                where
                  behind_some : (ps : List Pair) → 0 < length ps →
                      from_behind (behind from d.found.lists) ps ≡ next_key (last_key ps)
                  behind_some [] some = absurd (omega arith)
                  behind_some (p ∷ ps) some = refl

-- ---- the end

-- What fits by one account of faults does by another.
fits_may : (portion : Portion) (may also : RootFault → Type 0) (lists : List (List Pair))
    (outcome : Outcome) → ((fault : RootFault) → may fault → also fault) →
    FitsOutcome portion may lists outcome → FitsOutcome portion also lists outcome
fits_may portion may also lists (Ok done) so fits = fits
fits_may portion may also lists (Err (Root fault)) so fits = (fits.0, so fault fits.1)
fits_may portion may also lists (Err (Output fault)) so fits = tt

module _ {W : Type 0} (seen : W → SinkView) (old mid new : W)
    (keeping : (seen old).is_keeping ≡ true → (seen mid).is_keeping ≡ true) (bytes : List ℕ) where
  same_taken : (outcome : Outcome) → outcome ≢ Err (Output Write) →
      ((seen mid).is_keeping ≡ true → (seen new).taken ≡ (seen mid).taken) →
      (seen new).failures ≡ (seen mid).failures → IsSettled (seen new) →
      ((seen mid).is_keeping ≡ true → (seen new).is_keeping ≡ true) →
      TakesFor seen old mid bytes outcome → TakesAllFor seen old new bytes outcome
  same_taken (Ok done) other same counted settled still t =
      all_flushed seen old mid new keeping same counted settled still bytes t
  same_taken (Err (Root fault)) other same counted settled still t =
      all_flushed seen old mid new keeping same counted settled still bytes t
  same_taken (Err (Output Memory)) other same counted settled still t =
      prefix_flushed seen old mid new keeping same counted bytes t
  same_taken (Err (Output Write)) other same counted settled still t = absurd (other refl)

  part_taken : (outcome : Outcome) → outcome ≢ Err (Output Write) →
      ((seen mid).is_keeping ≡ true → (seen new).taken ≡ (seen mid).taken) →
      (seen new).failures ≡ after_failure (seen mid).failures →
      TakesFor seen old mid bytes outcome → TookPart seen bytes old new
  part_taken (Ok done) other same counted t =
      all_unflushed seen old mid new keeping same counted bytes t
  part_taken (Err (Root fault)) other same counted t =
      all_unflushed seen old mid new keeping same counted bytes t
  part_taken (Err (Output Memory)) other same counted t =
      prefix_unflushed seen old mid new keeping same counted bytes t
  part_taken (Err (Output Write)) other same counted t = absurd (other refl)

  pub taken_told : (outcome told : Outcome) → IsSettledAs seen (Output Write) mid new outcome told →
      TakesFor seen old mid bytes outcome → TakesAllFor seen old new bytes told
  taken_told outcome told (inl is) t =
      subst (TakesAllFor seen old new bytes) (sym (is.1 ∙ is.0))
      (subst (λ last. TookPart seen bytes old last) (sym is.2)
      (subst (TakesFor seen old mid bytes) is.0 t))
  taken_told outcome told (inr is) t = elim is.1.tells [
    | inl s ↦ subst (TakesAllFor seen old new bytes) (sym s.0)
        (same_taken outcome is.0 is.1.same s.1 s.2 is.1.keeping t)
    | inr s ↦ subst (TakesAllFor seen old new bytes) (sym s.0)
        (part_taken outcome is.0 is.1.same s.1 t)
  ]

nothing_taken : {W : Type 0} (seen : W → SinkView) (portion : Portion) (old : W) →
    TookAll seen (portion_bytes portion []) old old
nothing_taken seen portion old = subst (λ b. TookAll seen b old old) (sym (bytes_none portion))
    (record {
      unfailed = refl;
      took = λ k. sym (append-nil (seen old).taken);
      keeping = λ k. k;
      settled = λ before. before;
    })

module _ {W : Type 0} {seen : W → SinkView} {there : List ℕ → Type 0}
    {may : List ℕ → RootFault → Type 0} {version : Version} {root from : List ℕ}
    {portion : Portion} where
  -- Nothing is sought.
  pub nothing_sought : {old : W} → AreEnough portion [] →
      IsWrittenByRoot there may version root from portion (TakesAllFor seen old old) (Ok tt)
  nothing_sought {old = old} all = record {
    found = nothing_found;
    fits = all;
    took = nothing_taken seen portion old;
  }

  -- The root is not found.
  pub root_refused : {old : W} {fault : RootFault} → ¬ (AreEnough portion []) → may from fault →
      IsWrittenByRoot there may version root from portion (TakesAllFor seen old old)
      (Err (Root fault))
  root_refused {old = old} few lawful = record {
    found = nothing_found;
    fits = (few, lawful);
    took = nothing_taken seen portion old;
  }

  -- What was written is flushed, and told of the version and the root of the reader.
  pub flushed_told : {near : List ℕ → Type 0} {by : List ℕ → RootFault → Type 0} {v : Version}
      {r : List ℕ} {old mid new : W} {outcome told : Outcome} →
      IsWrittenByRoot near by v r from portion (TakesFor seen old mid) outcome →
      (v ≡ version) × (r ≡ root) →
      ((seen old).is_keeping ≡ true → (seen mid).is_keeping ≡ true) →
      IsSettledAs seen (Output Write) mid new outcome told →
      ((chunk : List ℕ) → near chunk → there chunk) →
      ((key : List ℕ) (fault : RootFault) → by key fault → may key fault) →
      IsWrittenByRoot there may version root from portion (TakesAllFor seen old new) told
  flushed_told {near = near} {by = by} {v = v} {old = old} {mid = mid} {new = new}
      {outcome = outcome} {told = told} d is keeping settled stands so =
      let next = behind from d.found.lists in
      subst (λ v. IsWrittenByRoot there may v root from portion (TakesAllFor seen old new) told)
      is.0
      (subst (λ r. IsWrittenByRoot there may v r from portion (TakesAllFor seen old new) told) is.1
      (record {
        found = record {
          lists = d.found.lists;
          ways = d.found.ways;
          are = d.found.are;
          stand = all_also near there stands (joined d.found.ways) d.found.stand;
        };
        fits = so_told seen (Output Write) mid new outcome told settled
            (FitsOutcome portion (may next) d.found.lists)
            (fits_may portion (by next) (may next) d.found.lists outcome (so next) d.fits) tt;
        took = taken_told seen old mid new keeping
            (portion_bytes portion (joined d.found.lists)) outcome told settled d.took;
      }))

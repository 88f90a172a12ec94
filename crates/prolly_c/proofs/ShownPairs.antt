-- The pairs of a range that the chunks of its proof show, one chunk after another.
use Rattle.std.proofs.Common.{◌≡◌, ℕ, zero, suc, ◌+◌, ◌<◌, ◌≤◌, Bool, true, false, List, [], ◌∷◌}
use Rattle.std.proofs.Common.{◌++◌, length, drop, get_or, map, Option, Some, None, refl, sym, ap}
use Rattle.std.proofs.Common.{◌∙◌, subst, arith, append_assoc, append-nil, if◌then◌else◌}
use Rattle.std.proofs.lemmas.Bool.{false≢true}
use Rattle.std.specs.List.{flat_map, AllByRecursion}
use Rattle.std.specs.Ordering.{is_lt}
use Rattle.prolly_look_up.specs.Entries.{Child, IsLeaf, pairs_in}
use Rattle.prolly_look_up.specs.Kinds.{Entries, kind_of}
use Rattle.prolly_look_up.specs.Kinds.Entries.{Leaf, Node}
use Rattle.prolly_look_up.specs.Way.{level_of}
use Rattle.prolly_entry.specs.Keys.{key_order}
use Rattle.prolly_entry.specs.Pair.{Pair}
use Rattle.prolly_entry.specs.declared.version.Version.{Version}
use Rattle.prolly_entry.specs.declared.version.Version.TheVariants.{One, Two}
use Rattle.prolly_entry.specs.lemmas.Lists.{all_append}
use Rattle.prolly_io.specs.Frame.{IsSmall, framed, has_no_frame}
use Rattle.prolly_io.specs.FrameLaws.{begins_frame, one_front}
use Rattle.prolly_range.specs.KeySet.{KeySet, is_before, met_first, met_in, pairs_wanted}
use Rattle.prolly_range.specs.KeySet.KeySet.{Range}
use Rattle.prolly_range.specs.SetProof.{AreTaken, Due, IsSetProof, child_due, due_below}
use Rattle.prolly_range.specs.SetProof.{pairs_there, root_due, set_start}
use Rattle.prolly_tree.specs.lemmas.Maps.{Rises, rises}
use Rattle.prolly_c.proofs.Entries.{end_behind}
use Rattle.prolly_look_up.specs.lemmas.ReadEntries.{leaf_pairs}
use Rattle.prolly_c.specs.RangeProofs.{Shows, runs_shown}
use Rattle.prolly_c.specs.Runs.{IsEnd}
use Rattle.prolly_c.specs.Writing.{Wrote, WroteChunk}
use Rattle.prolly_c.specs.declared.run.Run.{Run}
use Rattle.prolly_c.specs.declared.writer.Written.{Written}

-- ---- what is sought in chunks that are due

-- In each chunk that is due the same keys are sought.
abbrev pub AllSeek : KeySet → List Due → Type 0
AllSeek set due = AllByRecursion (λ d. d.set ≡ set) due

below_seek : (from : List ℕ) (to : Option (List ℕ)) (level number : ℕ) (children : List Child) →
    AllSeek (Range from to) (map (child_due level)
    (met_in (λ c. c.key) number (Some (Range from to)) children))
below_seek from to level number [] = tt
below_seek from to level number (c ∷ cs) =
    go (is_lt (key_order c.key from)) (is_before to c.key) (below_seek from to level (suc number) cs)
  where
    set : KeySet
    set = Range from to

    go : (past on : Bool) →
        AllSeek set (map (child_due level) (met_in (λ c. c.key) (suc number) (Some set) cs)) →
        AllSeek set (map (child_due level) (met_first number c (if past then None else Some set)
        (met_in (λ c. c.key) (suc number) (if on then Some set else None) cs)))
    go true true more = more
    go true false more = tt
    go false true more = (refl, more)
    go false false more = (refl, tt)

due_seek : (from : List ℕ) (to : Option (List ℕ)) (level : ℕ) (entries : Entries) →
    AllSeek (Range from to) (due_below level (Range from to) entries)
due_seek from to level (Leaf pairs) = tt
due_seek from to level (Node children) = below_seek from to level 0 children

-- ---- the chunks of a proof

-- The index of the pairs that a proof shows is written up to these bytes: chunks are left, and the
-- pairs that they show.
pub record IsShownTo (version : Version) (from : List ℕ) (to : Option (List ℕ)) (bytes rest : List ℕ)
    (pairs : List Pair) (out : List Run) (written : Written) (total : ℕ) : Type 0 where
  pub chunks : List (List ℕ)
  pub due : List Due
  pub more : List Pair
  pub done : List Pair
  pub end : IsEnd bytes rest
  pub spelled : rest ≡ flat_map framed chunks
  pub small : AllByRecursion IsSmall chunks
  pub seek : AllSeek (Range from to) due
  pub taken : AreTaken version due chunks more []
  pub are : pairs ≡ done ++ more
  pub wrote : Wrote bytes out written done
  pub runs : written.runs + runs_shown version (Range from to) chunks ≡ total

start_length : (version : Version) (tail : List ℕ) → length (set_start version ++ tail) ≡ 5 + length tail
start_length One tail = omega arith
start_length Two tail = omega arith

-- A proof has a start.
pub has_start : (version : Version) (root : List ℕ) (set : KeySet) (bytes : List ℕ)
    (pairs : List Pair) → IsSetProof version root set bytes pairs → 5 ≤ length bytes
has_start version root set bytes pairs p =
    let size = ap length p.is in
    let start = start_length version (flat_map framed p.chunks) in
    omega arith

-- Nothing is written at first.
pub shown_none : (version : Version) (root from : List ℕ) (to : Option (List ℕ))
    (bytes front rest : List ℕ) (pairs : List Pair) (out : List Run) →
    (p : IsSetProof version root (Range from to) bytes pairs) → rest ≡ drop 5 bytes →
    bytes ≡ front ++ rest →
    IsShownTo version from to bytes rest pairs out (record { runs = 0; pairs = 0 })
    (runs_shown version (Range from to) p.chunks)
shown_none version root from to bytes front rest pairs out p is begins = record {
  chunks = p.chunks;
  due = root_due root (Range from to) ∷ [];
  more = pairs;
  done = [];
  end = record { front = front; is = begins };
  spelled = is ∙ ap (drop 5) p.is ∙ behind version;
  small = p.small;
  seek = (refl, tt);
  taken = p.taken;
  are = refl;
  wrote = record { many = refl; runs_are = λ within. refl };
  runs = omega arith;
}
  where
    behind : (version : Version) → drop 5 (set_start version ++ flat_map framed p.chunks) ≡
        flat_map framed p.chunks
    behind One = refl
    behind Two = refl

-- The next chunk shows the next pairs, and what is behind its frame is left.
pub record NextShown (version : Version) (from : List ℕ) (to : Option (List ℕ))
    (bytes behind chunk : List ℕ) (pairs : List Pair) (before : Written) (total : ℕ)
    (done : List Pair) : Type 0 where
  pub here : List Pair
  pub shows : Shows version (Range from to) chunk here
  pub goes_on : (out : List Run) (written : Written) →
      WroteChunk bytes out before written done here →
      IsShownTo version from to bytes behind pairs out written total

framed_some : (chunk behind : List ℕ) → framed chunk ++ behind ≡ [] → ⊥
framed_some chunk behind e = cc

pub next_shown : (version : Version) (from : List ℕ) (to : Option (List ℕ))
    (bytes rest chunk behind : List ℕ) (pairs : List Pair) (out : List Run) (written : Written)
    (total : ℕ) → IsSmall chunk → rest ≡ framed chunk ++ behind →
    (w : IsShownTo version from to bytes rest pairs out written total) →
    NextShown version from to bytes behind chunk pairs written total w.done
next_shown version from to bytes rest chunk behind pairs out written total small is w =
    go w.chunks w.more w.spelled w.small w.taken w.are w.runs
  where
    go : (chunks : List (List ℕ)) (more : List Pair) → rest ≡ flat_map framed chunks →
        AllByRecursion IsSmall chunks → AreTaken version w.due chunks more [] →
        pairs ≡ w.done ++ more →
        written.runs + runs_shown version (Range from to) chunks ≡ total →
        NextShown version from to bytes behind chunk pairs written total w.done
    go [] more spelled smalls taken are runs = absurd (framed_some chunk behind (sym is ∙ spelled))
    go (c ∷ cs) more spelled smalls taken are runs =
        let same = one_front c chunk (flat_map framed cs) behind smalls.0 small
        (sym spelled ∙ is) in
        let takes = taken.3 in
        let seek : AllSeek (Range from to) (takes.first ∷ takes.others) =
        subst (AllSeek (Range from to)) takes.was w.seek in
        let shows : Shows version (Range from to) c taken.0 = record {
          ordered = takes.named.ordered;
          are = subst (λ s. taken.0 ≡ pairs_there s (kind_of version c)) seek.0 takes.shows;
        } in
        record {
          here = taken.0;
          shows = subst (λ x. Shows version (Range from to) x taken.0) same.front shows;
          goes_on = λ out next wrote. record {
            chunks = cs;
            due = taken.2;
            more = taken.1;
            done = w.done ++ taken.0;
            end = end_behind bytes rest behind (framed chunk) w.end is;
            spelled = sym same.rest;
            small = smalls.1;
            seek = subst (AllSeek (Range from to)) (sym takes.is)
                (all_append (λ d. d.set ≡ Range from to)
                (due_below (level_of c) takes.first.set (kind_of version c)) takes.others
                (subst (λ s. AllSeek (Range from to) (due_below (level_of c) s (kind_of version c)))
                (sym seek.0) (due_seek from to (level_of c) (kind_of version c))) seek.1);
            taken = taken.4;
            are = are ∙ ap (λ x. w.done ++ x) taken.5 ∙
                sym (append_assoc w.done taken.0 taken.1);
            wrote = wrote.wrote;
            runs = let size = ap length shows.are in omega (arith, runs, wrote.runs, size);
          };
        }

-- Where no frame follows, all pairs were written.
pub shown_all : (version : Version) (from : List ℕ) (to : Option (List ℕ)) (bytes rest : List ℕ)
    (pairs : List Pair) (out : List Run) (written : Written) (total : ℕ) →
    has_no_frame rest ≡ true → IsShownTo version from to bytes rest pairs out written total →
    Wrote bytes out written pairs × (written.runs ≡ total)
shown_all version from to bytes rest pairs out written total none w =
    go w.chunks w.more w.spelled w.small w.taken w.are w.runs
  where
    go : (chunks : List (List ℕ)) (more : List Pair) → rest ≡ flat_map framed chunks →
        AllByRecursion IsSmall chunks → AreTaken version w.due chunks more [] →
        pairs ≡ w.done ++ more →
        written.runs + runs_shown version (Range from to) chunks ≡ total →
        Wrote bytes out written pairs × (written.runs ≡ total)
    go [] more spelled smalls taken are runs = (
      subst (Wrote bytes out written)
          (sym (are ∙ ap (λ x. w.done ++ x) taken.1 ∙ append-nil w.done)) w.wrote,
      omega (arith, runs),
    )
    go (c ∷ cs) more spelled smalls taken are runs = absurd (false≢true
        (sym (begins_frame c (flat_map framed cs) smalls.0) ∙
        ap has_no_frame (sym spelled) ∙ none))

-- ---- one chunk

-- A leaf's entries are pairs that rise, and it shows those of the range.
pub record LeafShows (from : List ℕ) (to : Option (List ℕ)) (entries : List ℕ) (pairs : List Pair)
    : Type 0 where
  pub all : List Pair
  pub leaf : IsLeaf entries all
  pub rise : Rises all
  pub are : pairs ≡ pairs_wanted (Range from to) all

pub leaf_shows : (version : Version) (from : List ℕ) (to : Option (List ℕ)) (chunk : List ℕ)
    (pairs : List Pair) → Shows version (Range from to) chunk pairs → 0 < length chunk →
    get_or chunk 0 0 ≡ 0 → LeafShows from to (drop 1 chunk) pairs
leaf_shows version from to [] pairs s some leaf = absurd (omega arith)
leaf_shows version from to (zero ∷ entries) pairs s some leaf =
    let whole = s.ordered.whole in
    let same = leaf_pairs entries whole.pairs whole.holds in record {
      all = whole.pairs;
      leaf = whole.holds;
      rise = subst Rises same (rises (pairs_in entries) s.ordered.rising);
      are = s.are ∙ ap (pairs_wanted (Range from to)) same;
    }
leaf_shows version from to (suc level ∷ entries) pairs s some leaf = absurd (omega arith)

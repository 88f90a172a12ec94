-- What the chunks of a file that were read so far say of those that must follow, step by step.
use Rattle.std.proofs.Common.{◌≡◌, ℕ, zero, suc, ◌+◌, ◌<◌, Bool, true, false, List, []}
use Rattle.std.proofs.Common.{◌∷◌, ◌++◌, length, take, drop, get_or, Option, Some, None, refl}
use Rattle.std.proofs.Common.{sym, ap, ◌∙◌, subst, arith, append_assoc, append-nil, inl, inr, ◌⊎◌}
use Rattle.std.proofs.Common.{Result, Ok, Err}
use Rattle.std.specs.Option.{is_some}
use Rattle.std.specs.Prelude.{MatchResult, OnOk, IfErr, ◌==◌}
use Rattle.std.specs.List.{flat_map, list_any, AllByRecursion}
use Rattle.std.specs.Str.{bytes_eq}
use Rattle.std.proofs.Math.Seq.{drop-cons, get_or-append_seam, take-append_seam}
use Rattle.std.proofs.lemmas.Bool.{cond-false, false_from_ne_true, ne_eqb}
use Rattle.std.proofs.lemmas.List.{append_cancel_left, get_or_append_left, length-append}
use Rattle.std.proofs.lemmas.List.{map-append, take-append-drop, take-append-le}
use Rattle.std.proofs.lemmas.List.Concat.{flat_map-append}
use Rattle.std.proofs.lemmas.Slice.Eq.{bytes_eq-Decides}
use Rattle.prolly_entry.specs.Cut.{sha512_cut}
use Rattle.prolly_entry.specs.Pair.{Pair, IsPair}
use Rattle.prolly_entry.specs.Prefix.{IsPrefix}
use Rattle.prolly_entry.specs.Spelling.{pair_spelling}
use Rattle.prolly_entry.specs.declared.version.Version.{Version}
use Rattle.prolly_entry.specs.lemmas.Lists.{all_front, all_back, all_append}
use Rattle.prolly_tree.specs.Chunk.{Chunk, chunk_of}
use Rattle.prolly_tree.specs.Events.{clean, leaf_events}
use Rattle.prolly_tree.specs.Tree.{pair_is_boundary}
use Rattle.prolly_tree.specs.lemmas.Splits.{flat}
use Rattle.prolly_laws.specs.Splits.{split_splits}
use Rattle.prolly_chunk.specs.LeafLevel.{is_whole_leaf}
use Rattle.prolly_chunk.specs.NodeLevel.{NodeState}
use Rattle.prolly_look_up.specs.Entries.{AreWhole, IsWhole}
use Rattle.prolly_check.specs.FirstFault.{difference}
use Rattle.prolly_check.specs.Follower.{AllWhole, leaf_chunks, sent_of_leaves, all_of, IsGoing}
use Rattle.prolly_check.specs.Follower.{IsEnding, IsOutOfPlace, PassesOn, Follows, FollowsIn}
use Rattle.prolly_check.specs.Follower.{PartsAt, PartsFrom, place_of_end}
use Rattle.prolly_check.specs.Follower.{IsAlike, IsTooShort, ClosesAll, ClosesBehind}
use Rattle.prolly_look_up.specs.HeldPairs.{bytes_in, pairs_held}
use Rattle.prolly_check.specs.OpenLevels.{AreBehind, AreUnused, node_levels, sent_through}
use Rattle.prolly_check.specs.Verdict.{UnlessMemory}
use Rattle.prolly_check.specs.declared.verdict.follower.Follower.{Follower}
use Rattle.prolly_check.specs.declared.verdict.fault.CheckFault.{CheckFault}
use Rattle.prolly_check.specs.declared.verdict.fault.CheckFault.TheVariants.{NotCanonical}
use Rattle.prolly_look_up.specs.lemmas.LeafEvents.{leaf_bytes}
use Rattle.prolly_look_up.specs.lemmas.EntryLists.{leaf_pairs}
use Rattle.prolly_look_up.specs.lemmas.HeldPairs.{bytes_append}
use Rattle.prolly_check.proofs.NextLeaf.{held_all, held_leaves, held_sent, leaf_follows}
use Rattle.prolly_check.proofs.NextLeaf.{sent_begins, other_group, ends_open}
use Rattle.prolly_check.proofs.OpenLevels.{unused_behind, unused_sent}
use Rattle.prolly_check.proofs.OpenLevels.{difference_along}

-- before the first chunk
pub going_begins : (bits : ℕ) (version : Version) (nodes : List (NodeState ℕ)) (due : List Chunk) →
    AreUnused bits version 1 nodes → length nodes ≡ node_levels → due ≡ [] →
    IsGoing bits version [] nodes due
going_begins bits version nodes due unused many none = record {
  leaves = [];
  whole = tt;
  lawful = tt;
  held = refl;
  behind = unused_behind bits version 1 nodes unused;
  many = many;
  sent = ap bytes_in (none ∙ sym (unused_sent bits version 1 nodes unused) ∙
      ap (λ n. sent_through (sha512_cut bits) version 1 n []) many);
  none_due = ap (λ ds. flat_map pairs_held (bytes_in ds)) none;
}

-- ---- one chunk more

abbrev pub held_in : List (List ℕ) → List Pair
held_in chunks = flat_map pairs_held chunks

pub held_snoc : (read : List (List ℕ)) (chunk : List ℕ) →
    held_in (read ++ chunk ∷ []) ≡ held_in read ++ pairs_held chunk
held_snoc read chunk = flat_map-append pairs_held read (chunk ∷ []) ∙
    ap (λ ps. held_in read ++ ps) (append-nil (pairs_held chunk))

pub front_none : {A : Type 0} (xs ys : List A) → xs ++ ys ≡ [] → xs ≡ []
front_none [] ys e = refl
front_none (x ∷ xs) ys e = cc

back_none : {A : Type 0} (xs ys : List A) → xs ++ ys ≡ [] → ys ≡ []
back_none [] ys e = e
back_none (x ∷ xs) ys e = cc

-- the pairs of a whole chunk are lawful
pub held_lawful : (version : Version) (chunk : List ℕ) → IsWhole version chunk →
    AllByRecursion IsPair (pairs_held chunk)
held_lawful version [] w = absurd w.holds
held_lawful version (zero ∷ entries) w =
    subst (AllByRecursion IsPair) (sym (leaf_pairs entries w.pairs w.holds)) w.holds.lawful
held_lawful version (suc level ∷ entries) w = tt

-- so are those of whole chunks
pub whole_lawful : (version : Version) (chunks : List (List ℕ)) → AreWhole version chunks →
    AllByRecursion IsPair (held_in chunks)
whole_lawful version [] w = tt
whole_lawful version (c ∷ chunks) w = all_append IsPair (pairs_held c) (held_in chunks)
    (held_lawful version c w.0) (whole_lawful version chunks w.1)

one_longer : (read : List (List ℕ)) (chunk : List ℕ) → length (read ++ chunk ∷ []) ≡ suc (length read)
one_longer read chunk = omega (arith, length-append read (chunk ∷ []))

-- ---- where chunks part from others

-- their difference is there
pub parts_difference : (wanted read : List (List ℕ)) (n : ℕ) → PartsAt wanted read n →
    difference 0 wanted read ≡ Some (NotCanonical n)
parts_difference wanted read n p =
    let within = p.within in
    let e : 0 + n ≡ n = omega arith in
    ap (λ ws. difference 0 ws read) p.are ∙ difference_along read p.tail 0 n (omega arith) ∙
    ap (difference (0 + n) p.tail) (drop-cons read n [] within) ∙
    go p.tail p.other ∙ ap (λ k. Some (NotCanonical k)) e
  where
    go : (tail : List (List ℕ)) → ((rest : List (List ℕ)) → tail ≡ get_or read n [] ∷ rest → ⊥) →
        difference (0 + n) tail (get_or read n [] ∷ drop (suc n) read) ≡
        Some (NotCanonical (0 + n))
    go [] other = refl
    go (d ∷ tail) other =
        cond-false (bytes_eq d (get_or read n []))
        (difference (suc (0 + n)) tail (drop (suc n) read)) (Some (NotCanonical (0 + n)))
        (false_from_ne_true (bytes_eq d (get_or read n [])) (λ t. other tail
        (ap (λ c. c ∷ tail) ((bytes_eq-Decides d (get_or read n [])).0 t))))

-- and the chunks do not begin the others
pub parts_no_prefix : (wanted read : List (List ℕ)) (n : ℕ) → PartsAt wanted read n →
    IsPrefix read wanted → ⊥
parts_no_prefix wanted read n p q =
    p.other (drop (suc n) read ++ q.0) (append_cancel_left (take n read) p.tail
    (get_or read n [] ∷ (drop (suc n) read ++ q.0)) (sym p.are ∙ q.1 ∙
    ap (λ cs. cs ++ q.0) (sym (take-append-drop n read) ∙
    ap (λ cs. take n read ++ cs) (drop-cons read n [] p.within)) ∙
    append_assoc (take n read) (get_or read n [] ∷ drop (suc n) read) q.0))

-- chunks that part from those of each file with the pairs that they hold begin none
pub out_of_place : (bits : ℕ) (version : Version) (read : List (List ℕ)) (n later : ℕ) →
    PartsFrom bits version (held_in read) read n →
    ((more : List Pair) → (more ≡ [] → ⊥) → AllByRecursion IsPair (held_in read ++ more) →
    PartsFrom bits version (held_in read ++ more) read later) →
    IsOutOfPlace bits version read later (NotCanonical n)
out_of_place bits version read n later p parts = record {
  number = n;
  is = refl;
  parts = p;
  parts_later = parts;
  none = λ m lawful q. begins (held_in q.0) m (sym (held_all bits version m lawful) ∙
      ap held_in q.1 ∙ flat_map-append pairs_held read q.0) lawful q;
}
  where
    begins : (rest m : List Pair) → m ≡ held_in read ++ rest → AllByRecursion IsPair m →
        IsPrefix read (bytes_in (all_of bits version m)) → ⊥
    begins [] m are lawful q = parts_no_prefix _ read n p
        (subst (λ ps. IsPrefix read (bytes_in (all_of bits version ps)))
        (are ∙ append-nil (held_in read)) q)
    begins (r ∷ rest) m are lawful q =
        parts_no_prefix _ read later (parts (r ∷ rest) (λ e. absurd (cc e))
        (subst (AllByRecursion IsPair) are lawful))
        (subst (λ ps. IsPrefix read (bytes_in (all_of bits version ps))) are q)

-- ---- the leaf that follows

-- Whole leaves are followed by another chunk than this one.
pub record OtherNext (bits : ℕ) (version : Version) (leaves : List (List Pair)) (more : List Pair)
    (chunk : List ℕ) : Type 0 where
  pub next : List ℕ
  pub rest : List (List ℕ)
  pub are : bytes_in (all_of bits version (flat leaves ++ more)) ≡
      bytes_in (sent_of_leaves bits version leaves) ++ next ∷ rest
  pub other : next ≡ chunk → ⊥

-- a chunk whose pairs are no whole leaf, and have a boundary or others behind them, is not next
pub other_next : (bits : ℕ) (version : Version) (leaves : List (List Pair)) (last more : List Pair)
    (chunk : List ℕ) → AllWhole bits leaves → pairs_held chunk ≡ last →
    is_whole_leaf (sha512_cut bits) last ≡ false → (last ++ more ≡ [] → ⊥) →
    ((more ≡ [] → ⊥) ⊎ (list_any (pair_is_boundary (sha512_cut bits)) last ≡ true)) →
    AllByRecursion IsPair (last ++ more) → OtherNext bits version leaves (last ++ more) chunk
other_next bits version leaves last more chunk whole held not_whole some why lawful =
    let cut = sha512_cut bits in
    let o = other_group cut last more not_whole some why in
    let follows = leaf_follows bits version leaves (last ++ more) o.group o.others whole o.are in
    let leaf = chunk_of version 0 o.group in
    let sent = sent_of_leaves bits version leaves in
    let parts : flat (o.group ∷ o.others) ≡ last ++ more = ap flat (sym o.are) ∙
    (split_splits (pair_is_boundary cut) 1 (last ++ more)).whole in
    let own : AllByRecursion IsPair o.group = all_front IsPair o.group (flat o.others)
    (subst (AllByRecursion IsPair) (sym parts) lawful) in
    record {
      next = leaf.bytes;
      rest = bytes_in follows.0;
      are = ap bytes_in follows.1 ∙ bytes_append (sent ++ leaf ∷ []) follows.0 ∙
          ap (λ cs. cs ++ bytes_in follows.0) (bytes_append sent (leaf ∷ [])) ∙
          append_assoc (bytes_in sent) (leaf.bytes ∷ []) (bytes_in follows.0);
      other = λ e. o.other (sym held ∙ ap pairs_held (sym e) ∙
          leaf_pairs (flat_map pair_spelling o.group) o.group (record { is = refl; lawful = own }));
    }

-- so the chunks part from those of the file there
other_parts : (bits : ℕ) (version : Version) (leaves : List (List Pair)) (more : List Pair)
    (read : List (List ℕ)) (n : ℕ) → n < length read →
    take n read ≡ bytes_in (sent_of_leaves bits version leaves) →
    OtherNext bits version leaves more (get_or read n []) →
    PartsAt (bytes_in (all_of bits version (flat leaves ++ more))) read n
other_parts bits version leaves more read n within before o = record {
  within = within;
  tail = o.next ∷ o.rest;
  are = o.are ∙ ap (λ cs. cs ++ o.next ∷ o.rest) (sym before);
  other = λ rest e. o.other (cc e);
}

-- ---- a whole leaf

module _ (bits : ℕ) (version : Version) (read : List (List ℕ)) (nodes : List (NodeState ℕ))
    (due : List Chunk) (g : IsGoing bits version read nodes due) (chunk : List ℕ)
    (w : IsWhole version chunk) where
  abbrev ps : List Pair
  ps = pairs_held chunk

  abbrev next : List (List ℕ)
  next = read ++ chunk ∷ []

  held_next : held_in next ≡ flat g.leaves ++ ps
  held_next = held_snoc read chunk ∙ ap (λ qs. qs ++ ps) g.held

  flat_more : flat (g.leaves ++ ps ∷ []) ≡ flat g.leaves ++ ps
  flat_more = flat_map-append (λ l. l) g.leaves (ps ∷ []) ∙
      ap (λ qs. flat g.leaves ++ qs) (append-nil ps)

  lawful_next : AllByRecursion IsPair (flat g.leaves ++ ps)
  lawful_next = all_append IsPair (flat g.leaves) ps g.lawful (held_lawful version chunk w)

  whole_more : (leaves : List (List Pair)) → AllWhole bits leaves →
      is_whole_leaf (sha512_cut bits) ps ≡ true → AllWhole bits (leaves ++ ps ∷ [])
  whole_more [] h is = (is, tt)
  whole_more (l ∷ leaves) h is = (h.0, whole_more leaves h.1 is)

  pub some_held : is_whole_leaf (sha512_cut bits) ps ≡ true → ps ≡ [] → ⊥
  some_held is none = absurd (cc (sym is ∙ ap (is_whole_leaf (sha512_cut bits)) none))

  chunks_more : leaf_chunks version g.leaves ++ chunk_of version 0 ps ∷ [] ≡
      leaf_chunks version (g.leaves ++ ps ∷ [])
  chunks_more = sym (map-append (chunk_of version 0) g.leaves (ps ∷ []))

  -- a leaf that passes the levels behind those that were read
  module _ (nodes' : List (NodeState ℕ)) (due' : List Chunk) (event : Chunk) (none : due ≡ [])
      (same : event ≡ chunk_of version 0 ps) (some : ps ≡ [] → ⊥)
      (passes : PassesOn nodes nodes' event [] (event.bytes ∷ bytes_in due')) where
    is_chunk : event.bytes ≡ chunk
    is_chunk = ap (λ (e : Chunk). e.bytes) same ∙ sym (leaf_bytes version chunk w some)

    low : event.level < 1
    low = subst (λ (e : Chunk). e.level < 1) (sym same) (omega arith)

    sent_before : read ++ [] ≡ bytes_in (sent_through (sha512_cut bits) version 1 (length nodes)
        (leaf_chunks version g.leaves))
    sent_before = ap (λ ds. read ++ bytes_in ds) (sym none) ∙ g.sent ∙
        ap (λ n. bytes_in (sent_through (sha512_cut bits) version 1 n
        (leaf_chunks version g.leaves))) (sym g.many)

    pub leaf_behind : AreBehind bits version 1 nodes'
        (leaf_chunks version g.leaves ++ chunk_of version 0 ps ∷ [])
    leaf_behind = subst (λ e. AreBehind bits version 1 nodes' (leaf_chunks version g.leaves ++ e ∷ []))
        same (passes bits version 1 (leaf_chunks version g.leaves) low g.behind).behind

    pub leaf_sent : next ++ bytes_in due' ≡ bytes_in (sent_through (sha512_cut bits) version 1
        node_levels (leaf_chunks version g.leaves ++ chunk_of version 0 ps ∷ []))
    leaf_sent = append_assoc read (chunk ∷ []) (bytes_in due') ∙
        ap (λ c. read ++ c ∷ bytes_in due') (sym is_chunk) ∙
        (passes bits version 1 (leaf_chunks version g.leaves) low g.behind).sent read sent_before ∙
        ap (λ n. bytes_in (sent_through (sha512_cut bits) version 1 n
        (leaf_chunks version g.leaves ++ event ∷ []))) g.many ∙
        ap (λ e. bytes_in (sent_through (sha512_cut bits) version 1 node_levels
        (leaf_chunks version g.leaves ++ e ∷ []))) same

    -- what is due behind it holds no pairs
    no_pairs_due : (chunks : List Chunk) → next ++ bytes_in due' ≡ bytes_in chunks →
        held_in (bytes_in chunks) ≡ flat g.leaves ++ ps → held_in (bytes_in due') ≡ []
    no_pairs_due chunks e all =
        append_cancel_left (flat g.leaves ++ ps) (held_in (bytes_in due')) []
        (ap (λ qs. qs ++ held_in (bytes_in due')) (sym held_next) ∙
        sym (flat_map-append pairs_held next (bytes_in due')) ∙ ap held_in e ∙ all ∙
        sym (append-nil (flat g.leaves ++ ps)))

    pub leaf_taken : is_whole_leaf (sha512_cut bits) ps ≡ true → length nodes' ≡ length nodes →
        IsGoing bits version next nodes' due'
    leaf_taken is size =
        let events = leaf_chunks version (g.leaves ++ ps ∷ []) in
        let e = leaf_sent ∙ ap (λ es. bytes_in (sent_through (sha512_cut bits) version 1
        node_levels es)) chunks_more in
        let lawful : AllByRecursion IsPair (flat (g.leaves ++ ps ∷ [])) =
        subst (AllByRecursion IsPair) (sym flat_more) lawful_next in
        record {
          leaves = g.leaves ++ ps ∷ [];
          whole = whole_more g.leaves g.whole is;
          lawful = lawful;
          held = held_next ∙ sym flat_more;
          behind = subst (AreBehind bits version 1 nodes') chunks_more leaf_behind;
          many = size ∙ g.many;
          sent = e;
          none_due = no_pairs_due (sent_of_leaves bits version (g.leaves ++ ps ∷ [])) e
              (held_sent (sha512_cut bits) version 1 node_levels events ∙
              held_leaves version (g.leaves ++ ps ∷ []) lawful ∙ flat_more);
        }

    -- the levels are closed behind a last leaf
    pub leaf_closes : (due'' : List (List ℕ)) → list_any (pair_is_boundary (sha512_cut bits)) ps ≡ false →
        length nodes' ≡ length nodes → ClosesAll nodes' (bytes_in due') due'' →
        next ++ due'' ≡ bytes_in (all_of bits version (flat g.leaves ++ ps))
    leaf_closes due'' open_leaf size closes =
        let cut = sha512_cut bits in
        let ends : leaf_events cut version clean (flat g.leaves ++ ps) ≡
        leaf_chunks version g.leaves ++ chunk_of version 0 ps ∷ [] =
        last_events ps some open_leaf in
        closes bits version (flat g.leaves ++ ps) 0 (omega (arith, size, g.many))
        (subst (AreBehind bits version 1 nodes') (sym ends) leaf_behind) next
        (leaf_sent ∙ ap (λ n. bytes_in (sent_through cut version 1 n
        (leaf_chunks version g.leaves ++ chunk_of version 0 ps ∷ []))) (sym (size ∙ g.many)) ∙
        ap (λ es. bytes_in (sent_through cut version 1 (length nodes') es)) (sym ends))
      where
        last_events : (qs : List Pair) → (qs ≡ [] → ⊥) →
            list_any (pair_is_boundary (sha512_cut bits)) qs ≡ false →
            leaf_events (sha512_cut bits) version clean (flat g.leaves ++ qs) ≡
            leaf_chunks version g.leaves ++ chunk_of version 0 qs ∷ []
        last_events [] some open_leaf = absurd (some refl)
        last_events (q ∷ qs) some open_leaf =
            ends_open (sha512_cut bits) version g.leaves q qs g.whole open_leaf

  -- a last leaf, behind which all levels were closed
  pub leaf_ends : (due'' : List Chunk) → due ≡ [] → is_whole_leaf (sha512_cut bits) ps ≡ false →
      next ++ bytes_in due'' ≡ bytes_in (all_of bits version (flat g.leaves ++ ps)) →
      IsEnding bits version next due'' (length read)
  leaf_ends due'' none not_whole e =
      record {
        leaves = g.leaves;
        whole = g.whole;
        last = ps;
        not_whole = not_whole;
        lawful = lawful_next;
        held = held_next;
        before = take-append_seam read (chunk ∷ []) ∙ sym (append-nil read) ∙
            ap (λ ds. read ++ bytes_in ds) (sym none) ∙ g.sent;
        within = omega (arith, one_longer read chunk);
        there = ap pairs_held (get_or-append_seam read chunk [] []);
        sent = e;
        none_due = append_cancel_left (flat g.leaves ++ ps) (held_in (bytes_in due'')) []
            (ap (λ qs. qs ++ held_in (bytes_in due'')) (sym held_next) ∙
            sym (flat_map-append pairs_held next (bytes_in due'')) ∙ ap held_in e ∙
            held_all bits version (flat g.leaves ++ ps) lawful_next ∙
            sym (append-nil (flat g.leaves ++ ps)));
      }

  -- ---- a chunk that is not due

  -- it parts from what is due
  due_parts : (more : List Pair) → (due ≡ [] → ⊥) →
      ((rest : List (List ℕ)) → bytes_in due ≡ chunk ∷ rest → ⊥) →
      PartsAt (bytes_in (all_of bits version (flat g.leaves ++ more))) next (length read)
  due_parts more some other =
      let begins = sent_begins bits version g.leaves more g.whole in
      record {
        within = omega (arith, one_longer read chunk);
        tail = bytes_in due ++ bytes_in begins.0;
        are = ap bytes_in begins.1 ∙
            bytes_append (sent_of_leaves bits version g.leaves) begins.0 ∙
            ap (λ cs. cs ++ bytes_in begins.0) (sym g.sent) ∙
            append_assoc read (bytes_in due) (bytes_in begins.0) ∙
            ap (λ cs. cs ++ (bytes_in due ++ bytes_in begins.0)) (sym (take-append_seam read (chunk ∷ [])));
        other = λ rest e. first (bytes_in begins.0) rest due some other (e ∙ ap (λ c. c ∷ rest) (get_or-append_seam read chunk [] []));
      }
    where
      first : (tail rest : List (List ℕ)) (due : List Chunk) → (due ≡ [] → ⊥) →
          ((rest : List (List ℕ)) → bytes_in due ≡ chunk ∷ rest → ⊥) →
          bytes_in due ++ tail ≡ chunk ∷ rest → ⊥
      first tail rest [] some other e = some refl
      first tail rest (d ∷ ds) some other e = other (bytes_in ds) (ap (λ c. c ∷ bytes_in ds) (cc e))

  pub not_due : (due ≡ [] → ⊥) → ((rest : List (List ℕ)) → bytes_in due ≡ chunk ∷ rest → ⊥) →
      IsOutOfPlace bits version next (length read) (NotCanonical (length read))
  not_due some other =
      let parts : (more : List Pair) → PartsAt (bytes_in (all_of bits version
      (held_in next ++ more))) next (length read) = λ more.
      subst (λ qs. PartsAt (bytes_in (all_of bits version qs)) next (length read))
      (sym (append_assoc (flat g.leaves) ps more) ∙ ap (λ qs. qs ++ more) (sym held_next))
      (due_parts (ps ++ more) some other) in
      out_of_place bits version next (length read) (length read)
      (subst (λ qs. PartsAt (bytes_in (all_of bits version qs)) next (length read))
      (append-nil (held_in next)) (parts []))
      (λ more others lawful. parts more)

  -- ---- a leaf that has a boundary, and is not whole

  module _ (none : due ≡ []) (not_whole : is_whole_leaf (sha512_cut bits) ps ≡ false) where
    at_leaves : take (length read) next ≡ bytes_in (sent_of_leaves bits version g.leaves)
    at_leaves = take-append_seam read (chunk ∷ []) ∙ sym (append-nil read) ∙
        ap (λ ds. read ++ bytes_in ds) (sym none) ∙ g.sent

    pub leaf_parts : (more : List Pair) → (ps ++ more ≡ [] → ⊥) →
        ((more ≡ [] → ⊥) ⊎ (list_any (pair_is_boundary (sha512_cut bits)) ps ≡ true)) →
        AllByRecursion IsPair (ps ++ more) →
        PartsAt (bytes_in (all_of bits version (flat g.leaves ++ (ps ++ more)))) next (length read)
    leaf_parts more some why lawful =
        other_parts bits version g.leaves (ps ++ more) next (length read)
        (omega (arith, one_longer read chunk)) at_leaves
        (subst (OtherNext bits version g.leaves (ps ++ more)) (sym (get_or-append_seam read chunk [] []))
        (other_next bits version g.leaves ps more chunk g.whole refl not_whole some why lawful))

    some_any : list_any (pair_is_boundary (sha512_cut bits)) ps ≡ true → ps ≡ [] → ⊥
    some_any any e = absurd (cc (sym any ∙ ap (list_any (pair_is_boundary (sha512_cut bits))) e))

    pub leaf_is_cut : list_any (pair_is_boundary (sha512_cut bits)) ps ≡ true →
        IsOutOfPlace bits version next (length read) (NotCanonical (length read))
    leaf_is_cut any =
        let some : (more : List Pair) → ps ++ more ≡ [] → ⊥ =
        λ more e. some_any any (front_none ps more e) in
        let parts : (more : List Pair) → AllByRecursion IsPair (held_in next ++ more) →
        PartsAt (bytes_in (all_of bits version (held_in next ++ more))) next (length read) =
        λ more lawful.
        let e = ap (λ qs. qs ++ more) held_next ∙ append_assoc (flat g.leaves) ps more in
        subst (λ qs. PartsAt (bytes_in (all_of bits version qs)) next (length read)) (sym e)
        (leaf_parts more (some more) (inr any) (all_back IsPair (flat g.leaves) (ps ++ more)
        (subst (AllByRecursion IsPair) e lawful))) in
        out_of_place bits version next (length read) (length read)
        (subst (λ qs. PartsAt (bytes_in (all_of bits version qs)) next (length read))
        (append-nil (held_in next)) (parts [] (subst (AllByRecursion IsPair)
        (sym held_next ∙ sym (append-nil (held_in next))) lawful_next)))
        (λ more others lawful. parts more lawful)

    -- ---- a chunk without pairs, where the levels were closed

    -- it is the next one
    pub end_begins : ps ≡ [] → (due' due'' : List Chunk) →
        read ++ bytes_in due' ≡ bytes_in (all_of bits version (flat g.leaves)) →
        bytes_in due' ≡ chunk ∷ bytes_in due'' → IsEnding bits version next due'' (length read)
    end_begins empty due' due'' all e = leaf_ends due'' none not_whole
        (append_assoc read (chunk ∷ []) (bytes_in due'') ∙ ap (λ cs. read ++ cs) (sym e) ∙ all ∙
        ap (λ qs. bytes_in (all_of bits version qs)) (sym (append-nil (flat g.leaves)) ∙
        ap (λ qs. flat g.leaves ++ qs) (sym empty)))

    -- or it is out of its place
    pub end_parts : ps ≡ [] → (due' : List Chunk) →
        read ++ bytes_in due' ≡ bytes_in (all_of bits version (flat g.leaves)) →
        ((rest : List (List ℕ)) → bytes_in due' ≡ chunk ∷ rest → ⊥) →
        IsOutOfPlace bits version next (length read) (NotCanonical (length read))
    end_parts empty due' all other =
        let here : PartsAt (bytes_in (all_of bits version (held_in next))) next (length read) =
        record {
          within = omega (arith, one_longer read chunk);
          tail = bytes_in due';
          are = ap (λ qs. bytes_in (all_of bits version qs)) (held_next ∙
              ap (λ qs. flat g.leaves ++ qs) empty ∙ append-nil (flat g.leaves)) ∙ sym all ∙
              ap (λ cs. cs ++ bytes_in due') (sym (take-append_seam read (chunk ∷ [])));
          other = λ rest e. other rest (e ∙ ap (λ c. c ∷ rest) (get_or-append_seam read chunk [] []));
        } in
        out_of_place bits version next (length read) (length read) here
        (λ more some lawful.
        let e = ap (λ qs. qs ++ more) held_next ∙ append_assoc (flat g.leaves) ps more in
        subst (λ qs. PartsAt (bytes_in (all_of bits version qs)) next (length read)) (sym e)
        (leaf_parts more (λ h. some (back_none ps more h)) (inl some)
        (all_back IsPair (flat g.leaves) (ps ++ more)
        (subst (AllByRecursion IsPair) e lawful))))

-- ---- a chunk that is due

taken_due : (due due' : List Chunk) (chunk : List ℕ) → bytes_in due ≡ chunk ∷ bytes_in due' →
    held_in (bytes_in due) ≡ [] → pairs_held chunk ≡ []
taken_due due due' chunk e none = front_none (pairs_held chunk) (held_in (bytes_in due'))
    (ap held_in (sym e) ∙ none)

left_due : (due due' : List Chunk) (chunk : List ℕ) → bytes_in due ≡ chunk ∷ bytes_in due' →
    held_in (bytes_in due) ≡ [] → held_in (bytes_in due') ≡ []
left_due due due' chunk e none = back_none (pairs_held chunk) (held_in (bytes_in due'))
    (ap held_in (sym e) ∙ none)

same_held : (read : List (List ℕ)) (chunk : List ℕ) → pairs_held chunk ≡ [] →
    held_in (read ++ chunk ∷ []) ≡ held_in read
same_held read chunk none = held_snoc read chunk ∙ ap (λ qs. held_in read ++ qs) none ∙
    append-nil (held_in read)

pub due_taken : (bits : ℕ) (version : Version) (read : List (List ℕ)) (nodes : List (NodeState ℕ))
    (due due' : List Chunk) (chunk : List ℕ) → IsGoing bits version read nodes due →
    bytes_in due ≡ chunk ∷ bytes_in due' → IsGoing bits version (read ++ chunk ∷ []) nodes due'
due_taken bits version read nodes due due' chunk g e = record {
  leaves = g.leaves;
  whole = g.whole;
  lawful = g.lawful;
  held = same_held read chunk (taken_due due due' chunk e g.none_due) ∙ g.held;
  behind = g.behind;
  many = g.many;
  sent = append_assoc read (chunk ∷ []) (bytes_in due') ∙ ap (λ cs. read ++ cs) (sym e) ∙ g.sent;
  none_due = left_due due due' chunk e g.none_due;
}

pub end_taken : (bits : ℕ) (version : Version) (read : List (List ℕ)) (due due' : List Chunk)
    (from : ℕ) (chunk : List ℕ) → IsEnding bits version read due from →
    bytes_in due ≡ chunk ∷ bytes_in due' →
    IsEnding bits version (read ++ chunk ∷ []) due' from
end_taken bits version read due due' from chunk g e =
    let within = g.within in record {
      leaves = g.leaves;
      whole = g.whole;
      last = g.last;
      not_whole = g.not_whole;
      lawful = g.lawful;
      held = same_held read chunk (taken_due due due' chunk e g.none_due) ∙ g.held;
      before = take-append-le from read (chunk ∷ []) (omega arith) ∙ g.before;
      within = omega (arith, one_longer read chunk);
      there = ap pairs_held (get_or_append_left read (chunk ∷ []) [] from within) ∙ g.there;
      sent = append_assoc read (chunk ∷ []) (bytes_in due') ∙ ap (λ cs. read ++ cs) (sym e) ∙
          g.sent;
      none_due = left_due due due' chunk e g.none_due;
    }

-- ---- a chunk behind the beginning of the end

module _ (bits : ℕ) (version : Version) (read : List (List ℕ)) (due : List Chunk) (from : ℕ)
    (g : IsEnding bits version read due from) (chunk : List ℕ) (w : IsWhole version chunk) where
  abbrev then : List (List ℕ)
  then = read ++ chunk ∷ []

  held_then : held_in then ≡ flat g.leaves ++ (g.last ++ pairs_held chunk)
  held_then = held_snoc read chunk ∙ ap (λ qs. qs ++ pairs_held chunk) g.held ∙
      append_assoc (flat g.leaves) g.last (pairs_held chunk)

  -- more pairs part where the end began
  more_parts : (more : List Pair) → (more ≡ [] → ⊥) → AllByRecursion IsPair (g.last ++ more) →
      PartsAt (bytes_in (all_of bits version (flat g.leaves ++ (g.last ++ more)))) then from
  more_parts more some lawful =
      let within = g.within in
      other_parts bits version g.leaves (g.last ++ more) then from
      (omega (arith, one_longer read chunk))
      (take-append-le from read (chunk ∷ []) (omega arith) ∙ g.before)
      (other_next bits version g.leaves g.last more (get_or then from []) g.whole
      (ap pairs_held (get_or_append_left read (chunk ∷ []) [] from within) ∙ g.there) g.not_whole
      (λ e. some (back_none g.last more e)) (inl some) lawful)

  -- a leaf with pairs
  pub leaf_behind_end : (pairs_held chunk ≡ [] → ⊥) →
      IsOutOfPlace bits version then from (NotCanonical from)
  leaf_behind_end some =
      let parts : (more : List Pair) → AllByRecursion IsPair (held_in then ++ more) →
      PartsAt (bytes_in (all_of bits version (held_in then ++ more))) then from = λ more lawful.
      let e = ap (λ qs. qs ++ more) held_then ∙
      append_assoc (flat g.leaves) (g.last ++ pairs_held chunk) more ∙
      ap (λ qs. flat g.leaves ++ qs) (append_assoc g.last (pairs_held chunk) more) in
      subst (λ qs. PartsAt (bytes_in (all_of bits version qs)) then from) (sym e)
      (more_parts (pairs_held chunk ++ more) (λ h. some (front_none (pairs_held chunk) more h))
      (all_back IsPair (flat g.leaves) (g.last ++ (pairs_held chunk ++ more))
      (subst (AllByRecursion IsPair) e lawful))) in
      let lawful : AllByRecursion IsPair (held_in then ++ []) =
      subst (AllByRecursion IsPair) (sym (held_snoc read chunk ∙
      ap (λ qs. qs ++ pairs_held chunk) g.held) ∙ sym (append-nil (held_in then)))
      (all_append IsPair (flat g.leaves ++ g.last) (pairs_held chunk) g.lawful
      (held_lawful version chunk w)) in
      out_of_place bits version then from from
      (subst (λ qs. PartsAt (bytes_in (all_of bits version qs)) then from)
      (append-nil (held_in then)) (parts [] lawful))
      (λ more others lawful. parts more lawful)

  -- another chunk than the one that is due
  pub not_due_at_end : pairs_held chunk ≡ [] →
      ((rest : List (List ℕ)) → bytes_in due ≡ chunk ∷ rest → ⊥) →
      IsOutOfPlace bits version then from (NotCanonical (length read))
  not_due_at_end empty other =
      let here : PartsAt (bytes_in (all_of bits version (held_in then))) then (length read) =
      record {
        within = omega (arith, one_longer read chunk);
        tail = bytes_in due;
        are = ap (λ qs. bytes_in (all_of bits version qs)) (same_held read chunk empty ∙ g.held) ∙
            sym g.sent ∙ ap (λ cs. cs ++ bytes_in due) (sym (take-append_seam read (chunk ∷ [])));
        other = λ rest e. other rest (e ∙ ap (λ c. c ∷ rest) (get_or-append_seam read chunk [] []));
      } in
      out_of_place bits version then (length read) from here
      (λ more some lawful.
      let e = ap (λ qs. qs ++ more) (same_held read chunk empty ∙ g.held) ∙
      append_assoc (flat g.leaves) g.last more in
      subst (λ qs. PartsAt (bytes_in (all_of bits version qs)) then from) (sym e)
      (more_parts more some (all_back IsPair (flat g.leaves) (g.last ++ more)
      (subst (AllByRecursion IsPair) e lawful))))

-- ---- the same, as the code has it

-- a follower is seen by its parts
pub as_parts : (read : List (List ℕ)) (f : Follower) {bits : ℕ} {version : Version}
    {nodes : List (NodeState ℕ)} {due : List Chunk} {ending : Option ℕ} → f.cut ≡ bits →
    f.version ≡ version → f.nodes.items ≡ nodes → f.due.items ≡ due → f.ending ≡ ending →
    FollowsIn bits version read nodes due ending → Follows read f
as_parts read f c v n d e h = rw (c, v, n, d, e) h

-- the chunk was the one that is due, or another one, where more may follow
pub expected_going : (old new : Follower) (read : List (List ℕ)) (number : ℕ) (chunk : List ℕ)
    (result : Result (Unit {0}) CheckFault) → old.ending ≡ None →
    (old.due.items ≡ [] → ⊥) → IsWhole old.version chunk →
    OnOk result (bytes_in old.due.items ≡ chunk ∷ bytes_in new.due.items) →
    IfErr result (λ fault. (fault ≡ NotCanonical number) ×
    ((rest : List (List ℕ)) → bytes_in old.due.items ≡ chunk ∷ rest → ⊥)) →
    IsAlike old new → new.nodes ≡ old.nodes → new.ending ≡ old.ending →
    number ≡ length read → Follows read old →
    MatchResult result (λ done. Follows (read ++ chunk ∷ []) new)
    (UnlessMemory (IsOutOfPlace old.cut old.version (read ++ chunk ∷ [])
    (place_of_end old.ending number)))
expected_going old new read number chunk (Ok done) none some w due err alike nodes ending n h =
    as_parts (read ++ chunk ∷ []) new alike.0 alike.1 (ap (λ v. v.items) nodes) refl
    (ending ∙ none) (due_taken old.cut old.version read old.nodes.items old.due.items
    new.due.items chunk (rw none at h) due)
expected_going old new read number chunk (Err fault) none some w due err alike nodes ending n h =
    rw (none, err.0, n) (inr (not_due old.cut old.version read old.nodes.items old.due.items
    (rw none at h) chunk w some err.1))

-- the same where the end has begun
pub expected_ending : (old new : Follower) (read : List (List ℕ)) (number from : ℕ) (chunk : List ℕ)
    (result : Result (Unit {0}) CheckFault) → old.ending ≡ Some from →
    pairs_held chunk ≡ [] → IsWhole old.version chunk →
    OnOk result (bytes_in old.due.items ≡ chunk ∷ bytes_in new.due.items) →
    IfErr result (λ fault. (fault ≡ NotCanonical number) ×
    ((rest : List (List ℕ)) → bytes_in old.due.items ≡ chunk ∷ rest → ⊥)) →
    IsAlike old new → new.nodes ≡ old.nodes → new.ending ≡ old.ending →
    number ≡ length read → Follows read old →
    MatchResult result (λ done. Follows (read ++ chunk ∷ []) new)
    (UnlessMemory (IsOutOfPlace old.cut old.version (read ++ chunk ∷ [])
    (place_of_end old.ending number)))
expected_ending old new read number from chunk (Ok done) some empty w due err alike nodes ending n h =
    as_parts (read ++ chunk ∷ []) new alike.0 alike.1 (ap (λ v. v.items) nodes) refl
    (ending ∙ some) (end_taken old.cut old.version read old.due.items new.due.items from chunk
    (rw some at h) due)
expected_ending old new read number from chunk (Err fault) some empty w due err alike nodes ending n h =
    rw (some, err.0, n) (inr (not_due_at_end old.cut old.version read old.due.items from
    (rw some at h) chunk w empty err.1))

-- ---- the end

-- the chunks are too few
too_short : (bits : ℕ) (version : Version) (read : List (List ℕ)) (due : List Chunk) →
    (due ≡ [] → ⊥) → (rest : List (List ℕ)) →
    bytes_in (all_of bits version (held_in read)) ≡ read ++ (bytes_in due ++ rest) →
    IsTooShort bits version read (NotCanonical (length read))
too_short bits version read [] some rest e = absurd (some refl)
too_short bits version read (d ∷ due) some rest e = record {
  next = d.bytes;
  more = bytes_in due ++ rest;
  are = e;
  is = refl;
}

pub going_short : (bits : ℕ) (version : Version) (read : List (List ℕ)) (nodes : List (NodeState ℕ))
    (due : List Chunk) → IsGoing bits version read nodes due → (due ≡ [] → ⊥) →
    IsTooShort bits version read (NotCanonical (length read))
going_short bits version read nodes due g some =
    let begins = sent_begins bits version g.leaves [] g.whole in
    too_short bits version read due some (bytes_in begins.0)
    (ap (λ ps. bytes_in (all_of bits version ps)) (g.held ∙ sym (append-nil (flat g.leaves))) ∙
    ap bytes_in begins.1 ∙ bytes_append (sent_of_leaves bits version g.leaves) begins.0 ∙
    ap (λ cs. cs ++ bytes_in begins.0) (sym g.sent) ∙
    append_assoc read (bytes_in due) (bytes_in begins.0))

-- what is left when the levels were closed
pub closed_short : (bits : ℕ) (version : Version) (read : List (List ℕ)) (pairs : List Pair)
    (due : List Chunk) → held_in read ≡ pairs →
    read ++ bytes_in due ≡ bytes_in (all_of bits version pairs) → (due ≡ [] → ⊥) →
    IsTooShort bits version read (NotCanonical (length read))
closed_short bits version read pairs due held all some =
    too_short bits version read due some []
    (ap (λ ps. bytes_in (all_of bits version ps)) held ∙ sym all ∙
    ap (λ cs. read ++ cs) (sym (append-nil (bytes_in due))))

pub closed_all : (bits : ℕ) (version : Version) (read : List (List ℕ)) (pairs : List Pair)
    (due : List Chunk) → held_in read ≡ pairs →
    read ++ bytes_in due ≡ bytes_in (all_of bits version pairs) → due ≡ [] →
    bytes_in (all_of bits version (held_in read)) ≡ read
closed_all bits version read pairs due held all none =
    ap (λ ps. bytes_in (all_of bits version ps)) held ∙ sym all ∙
    ap (λ ds. read ++ bytes_in ds) none ∙ append-nil read

-- ---- what the code finds of a chunk's pairs

pub some_there : (b : Bool) (ps qs : List Pair) → qs ≡ ps → b ≡ (length qs == 0) → b ≡ false →
    ps ≡ [] → ⊥
some_there b [] [] e h f none = absurd (cc (sym f ∙ h))
some_there b [] (q ∷ qs) e h f none = cc e
some_there b (p ∷ ps) qs e h f none = cc none

-- what must follow whole leaves once the levels were closed
pub all_behind : (bits : ℕ) (version : Version) (read : List (List ℕ)) (nodes : List (NodeState ℕ))
    (due : List Chunk) (g : IsGoing bits version read nodes due) (number : ℕ) (due' : List Chunk) →
    due ≡ [] → number ≡ length read → ClosesBehind bits nodes number (bytes_in due') →
    read ++ bytes_in due' ≡ bytes_in (all_of bits version (flat g.leaves))
all_behind bits version read nodes due g number due' none n closes =
    closes version g.leaves read g.whole g.many g.behind
    (sym (append-nil read) ∙ ap (λ ds. read ++ bytes_in ds) (sym none) ∙ g.sent) n

-- the first chunk of the end has no pairs, and is the one that is due or another one
pub expected_first : (bits : ℕ) (version : Version) (read : List (List ℕ))
    (nodes : List (NodeState ℕ)) (due : List Chunk) (g : IsGoing bits version read nodes due)
    (chunk : List ℕ) (w : IsWhole version chunk) (none : due ≡ [])
    (not_whole : is_whole_leaf (sha512_cut bits) (pairs_held chunk) ≡ false)
    (empty : pairs_held chunk ≡ []) (mid new : Follower) (number : ℕ)
    (result : Result (Unit {0}) CheckFault) → number ≡ length read → mid.cut ≡ bits →
    mid.version ≡ version → mid.ending ≡ Some number →
    read ++ bytes_in mid.due.items ≡ bytes_in (all_of bits version (flat g.leaves)) →
    OnOk result (bytes_in mid.due.items ≡ chunk ∷ bytes_in new.due.items) →
    IfErr result (λ fault. (fault ≡ NotCanonical number) ×
    ((rest : List (List ℕ)) → bytes_in mid.due.items ≡ chunk ∷ rest → ⊥)) →
    IsAlike mid new → new.nodes ≡ mid.nodes → new.ending ≡ mid.ending →
    MatchResult result (λ done. Follows (read ++ chunk ∷ []) new)
    (UnlessMemory (IsOutOfPlace bits version (read ++ chunk ∷ []) number))
expected_first bits version read nodes due g chunk w none not_whole empty mid new number (Ok done) n
    c v some all taken err alike same ending =
    as_parts (read ++ chunk ∷ []) new (alike.0 ∙ c) (alike.1 ∙ v) refl refl
    (ending ∙ some ∙ ap Some n)
    (end_begins bits version read nodes due g chunk w none not_whole empty mid.due.items
    new.due.items all taken)
expected_first bits version read nodes due g chunk w none not_whole empty mid new number (Err fault) n
    c v some all taken err alike same ending =
    rw (err.0, n) (inr (end_parts bits version read nodes due g chunk w none not_whole empty
    mid.due.items all err.1))

-- the chunks of an end are all, or too few
pub end_is_all : (f : Follower) (read : List (List ℕ)) (ending : Option ℕ) (number : ℕ)
    (result : Result (Unit {0}) CheckFault) → is_some ending ≡ true → number ≡ length read →
    FollowsIn f.cut f.version read f.nodes.items f.due.items ending →
    OnOk result (f.due.items ≡ []) →
    IfErr result (λ fault. (fault ≡ NotCanonical number) × (f.due.items ≡ [] → ⊥)) →
    MatchResult result (λ done. bytes_in (all_of f.cut f.version (held_in read)) ≡ read)
    (UnlessMemory (IsTooShort f.cut f.version read))
end_is_all f read None number result some n h none other = cc some
end_is_all f read (Some from) number (Ok done) some n h none other =
    closed_all f.cut f.version read (flat h.leaves ++ h.last) f.due.items h.held h.sent none
end_is_all f read (Some from) number (Err fault) some n h none other =
    rw (other.0, n) (inr (closed_short f.cut f.version read (flat h.leaves ++ h.last) f.due.items
    h.held h.sent other.1))

-- whole leaves are all, or too few
pub leaves_are_all : (bits : ℕ) (version : Version) (read : List (List ℕ))
    (nodes : List (NodeState ℕ)) (due due' : List Chunk) (g : IsGoing bits version read nodes due)
    (number : ℕ) (result : Result (Unit {0}) CheckFault) → due ≡ [] → number ≡ length read →
    ClosesBehind bits nodes number (bytes_in due') → OnOk result (due' ≡ []) →
    IfErr result (λ fault. (fault ≡ NotCanonical number) × (due' ≡ [] → ⊥)) →
    MatchResult result (λ done. bytes_in (all_of bits version (held_in read)) ≡ read)
    (UnlessMemory (IsTooShort bits version read))
leaves_are_all bits version read nodes due due' g number result none n closes ok err =
    go result ok err (all_behind bits version read nodes due g number due' none n closes)
  where
    go : (result : Result (Unit {0}) CheckFault) → OnOk result (due' ≡ []) →
        IfErr result (λ fault. (fault ≡ NotCanonical number) × (due' ≡ [] → ⊥)) →
        read ++ bytes_in due' ≡ bytes_in (all_of bits version (flat g.leaves)) →
        MatchResult result (λ done. bytes_in (all_of bits version (held_in read)) ≡ read)
        (UnlessMemory (IsTooShort bits version read))
    go (Ok done) ok err all = closed_all bits version read (flat g.leaves) due' g.held all ok
    go (Err fault) ok err all = rw (err.0, n)
        (inr (closed_short bits version read (flat g.leaves) due' g.held all err.1))

pub is_none : {A : Type 0} (o : Option A) → is_some o ≡ false → o ≡ None
is_none None h = refl
is_none (Some x) h = cc

pub no_items : {A : Type 0} (b : Bool) (n : ℕ) (xs : List A) → length xs ≡ n → b ≡ (n == 0) →
    b ≡ true → xs ≡ []
no_items b n [] e h t = refl
no_items b n (x ∷ xs) e h t = absurd (cc (sym t ∙ h ∙ ne_eqb n 0 (λ none. absurd (omega (arith, e, none)))))

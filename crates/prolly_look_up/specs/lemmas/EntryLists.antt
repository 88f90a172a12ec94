-- Lawful entries and nothing else, one after another.
use Rattle.std.proofs.Common.{rules, ◌≡◌, ℕ, ◌<◌, ◌≤◌, List, [], ◌∷◌, ◌++◌, length, drop}
use Rattle.std.proofs.Common.{map, refl, sym, ap, ◌∙◌, arith, append_assoc, ◌+◌, ◌==◌}
use Rattle.std.proofs.Common.{length-drop, ◌-◌, take}
use Rattle.std.specs.List.{flat_map, AllByRecursion}
use Rattle.std.proofs.lemmas.Bool.Decides.{nat_tests}
use Rattle.std.proofs.lemmas.List.{length-append, take_at, drop-drop}
use Rattle.prolly_entry.specs.ChildAt.{tail_length, NoChildAt}
use Rattle.prolly_entry.specs.Front.{NoPairAt}
use Rattle.prolly_entry.specs.Pair.{Pair, IsPair}
use Rattle.prolly_entry.specs.Reading.{key_length}
use Rattle.prolly_entry.specs.Spelling.{key_spelling, pair_spelling, count_spelling}
use Rattle.prolly_entry.specs.declared.version.Version.{Version}
use Rattle.prolly_entry.specs.declared.version.Version.TheVariants.{One, Two}
use Rattle.prolly_entry.specs.lemmas.Spellings.{pair_spellings_apart, found_key}
use Rattle.prolly_entry.specs.lemmas.Spellings.{key_there, after_two, child_spellings_apart}
use Rattle.prolly_tree.specs.RecordFile.{record_file}
use Rattle.prolly_tree.specs.Tree.{last_key}
use Rattle.prolly_look_up.specs.Entries.{BeginsWith, entries_in, NoLeaf}
use Rattle.prolly_look_up.specs.Entries.{first_pair, behind_pair, pairs_in, NoNode, Child, IsChild}
use Rattle.prolly_look_up.specs.Entries.{IsNode, entry_of, first_count, first_child, behind_child}
use Rattle.prolly_look_up.specs.Entries.{children_in, IsSomeLeaf}
pub use Rattle.prolly_look_up.specs.lemmas.ReadEntries.{leaf_pairs}
use Rattle.prolly_look_up.specs.lemmas.ReadEntries.{drop_front, pair_reads, pair_shrinks, reads_all}
use Rattle.prolly_look_up.specs.lemmas.ReadEntries.{reads_on, Reads, Shrinks}

-- ---- lawful entries and nothing else

pub record AreEntries {A : Type 0} (spelling : A → List ℕ) (Lawful : A → Type 0) (bytes : List ℕ)
    : Type 0 where
  pub entries : List A
  pub is : bytes ≡ flat_map spelling entries
  pub lawful : AllByRecursion Lawful entries

abbrev pub NoneBegins : {A : Type 0} → (A → List ℕ) → (A → Type 0) → List ℕ → Type 0
NoneBegins spelling Lawful bytes = (entry : _) (more : List ℕ) → Lawful entry →
    bytes ≡ spelling entry ++ more → ⊥

-- Entries have bytes, and none begins another.
pub record AreApart {A : Type 0} (spelling : A → List ℕ) (Lawful : A → Type 0) : Type 0 where
  pub some : (a : A) → 0 < length (spelling a)
  pub rests : (a b : A) (x y : List ℕ) → Lawful a → Lawful b → spelling a ++ x ≡ spelling b ++ y →
      x ≡ y

module _ {A : Type 0} (spelling : A → List ℕ) (Lawful : A → Type 0)
    (apart : AreApart spelling Lawful) where
  -- Behind an entry fewer bytes are left.
  pub shorter : (bytes rest : List ℕ) (entry : A) → BeginsWith spelling Lawful bytes entry rest →
      length rest < length bytes
  shorter bytes rest entry b = grind (arith, length-append)

  pub behind_first : (bytes rest : List ℕ) (entry : A) →
      BeginsWith spelling Lawful bytes entry rest → rest ≡ drop (length bytes - length rest) bytes
  behind_first bytes rest entry b =
      let size = length bytes - length rest in
      sym (ap (drop size) b.is ∙ drop_front (spelling entry) rest size (omega (
        arith,
        ap length b.is,
        length-append (spelling entry) rest,
      )))

  pub one_more : (bytes rest : List ℕ) (entry : A) → BeginsWith spelling Lawful bytes entry rest →
      AreEntries spelling Lawful rest → AreEntries spelling Lawful bytes
  one_more bytes rest entry b e = record {
    entries = entry ∷ e.entries;
    is = b.is ∙ ap (λ x. spelling entry ++ x) e.is;
    lawful = (b.lawful, e.lawful);
  }

  pub one_less : (bytes rest : List ℕ) (entry : A) → BeginsWith spelling Lawful bytes entry rest →
      AreEntries spelling Lawful bytes → AreEntries spelling Lawful rest
  one_less bytes rest entry b e = go e.entries e.is e.lawful
    where
      go : (entries : List A) → bytes ≡ flat_map spelling entries → AllByRecursion Lawful entries →
          AreEntries spelling Lawful rest
      go [] is lawful = absurd (let few = shorter bytes rest entry b in let size = ap length is in
          omega arith)
      go (a ∷ entries) is lawful = record {
        entries = entries;
        is = apart.rests entry a rest (flat_map spelling entries) b.lawful lawful.0 (sym b.is ∙ is);
        lawful = lawful.1;
      }

  pub nothing_left : (bytes : List ℕ) → NoneBegins spelling Lawful bytes →
      AreEntries spelling Lawful bytes → bytes ≡ []
  nothing_left bytes none e = go e.entries e.is e.lawful
    where
      go : (entries : List A) → bytes ≡ flat_map spelling entries → AllByRecursion Lawful entries →
          bytes ≡ []
      go [] is lawful = is
      go (a ∷ entries) is lawful = absurd (none a (flat_map spelling entries) lawful.0 is)

  -- behind lawful entries, bytes that none begins are no entries
  pub rest_is_none : (done : List A) (rest : List ℕ) → AllByRecursion Lawful done →
      (rest ≡ [] → ⊥) → NoneBegins spelling Lawful rest →
      AreEntries spelling Lawful (flat_map spelling done ++ rest) → ⊥
  rest_is_none [] rest lawful left none e = left (nothing_left rest none e)
  rest_is_none (d ∷ done) rest lawful left none e =
      let more = flat_map spelling done ++ rest in
      let b : BeginsWith spelling Lawful (flat_map spelling (d ∷ done) ++ rest) d more =
      record { lawful = lawful.0; is = append_assoc (spelling d) (flat_map spelling done) rest }
      in
      rest_is_none done rest lawful.1 left none
      (one_less (flat_map spelling (d ∷ done) ++ rest) more d b e)

-- ---- the pairs that entries spell

-- Pairs' spellings have bytes, and none begins another.
pub leaf_apart : AreApart pair_spelling IsPair
leaf_apart = grind (arith, pair_spellings_apart)

pub some_leaf : (entries : List ℕ) → AreEntries pair_spelling IsPair entries → IsSomeLeaf entries
some_leaf entries e = record { pairs = e.entries; is = record { is = e.is; lawful = e.lawful } }

module _ (entries rest : List ℕ) (p : Pair) (b : BeginsWith pair_spelling IsPair entries p rest)
  where
    pub leaf_more : IsSomeLeaf rest → IsSomeLeaf entries
    leaf_more l = search (rules, some_leaf, one_more, leaf_apart)

    pub leaf_less : IsSomeLeaf entries → IsSomeLeaf rest
    leaf_less l = search (rules, some_leaf, one_less, leaf_apart)

pub leaf_left : (entries : List ℕ) → NoPairAt entries → IsSomeLeaf entries → entries ≡ []
leaf_left entries none l = search (rules, nothing_left, leaf_apart)

-- Behind lawful pairs there are bytes that no pair's spelling begins.
pub no_leaf : NoLeaf
no_leaf done pairs rest lawful left none l =
    rest_is_none pair_spelling IsPair leaf_apart done rest lawful left none
    (record { entries = pairs; is = l.is; lawful = l.lawful })

-- They have more bytes than there are pairs.
pub each_has_bytes : (pairs : List Pair) → length pairs ≤ length (flat_map pair_spelling pairs)
each_has_bytes [] = omega arith
each_has_bytes (p ∷ pairs) = grind (arith, length-append, each_has_bytes pairs)

-- ---- what is read of them

pub next_pair : (entries : List ℕ) (p : Pair) (rest : List ℕ) →
    BeginsWith pair_spelling IsPair entries p rest → pairs_in entries ≡ p ∷ pairs_in rest
unfolding pairs_in
next_pair entries p rest b = search (rules, reads_on, pair_shrinks, pair_reads)

-- The bytes before what is left are the pair's spelling.
pub spelling_is : (entries rest : List ℕ) (p : Pair) (n : ℕ) →
    BeginsWith pair_spelling IsPair entries p rest → n ≡ length entries - length rest →
    take n entries ≡ pair_spelling p
spelling_is entries rest p n b e = ap (take n) b.is ∙ take_at (pair_spelling p) rest n
    (omega (arith, ap length b.is, length-append (pair_spelling p) rest))

pub no_next : (entries : List ℕ) → NoPairAt entries → IsSomeLeaf entries → pairs_in entries ≡ []
unfolding pairs_in
no_next entries none l = ap (entries_in first_pair behind_pair) (leaf_left entries none l)

-- No bytes spell no pair.
pub no_pairs : pairs_in [] ≡ []
unfolding pairs_in
no_pairs = refl

-- The bytes of a leaf's entries are the spellings of its pairs.
pub leaf_spelled : (entries : List ℕ) → IsSomeLeaf entries →
    entries ≡ record_file (pairs_in entries)
leaf_spelled entries l = l.is.is ∙ ap record_file (sym (leaf_pairs entries l.pairs l.is))

-- So entries that have the same pairs are the same.
pub entries_same : (entries other : List ℕ) → IsSomeLeaf entries → IsSomeLeaf other →
    pairs_in entries ≡ pairs_in other → entries ≡ other
entries_same entries other l m e = leaf_spelled entries l ∙ ap record_file e ∙
    sym (leaf_spelled other m)

-- And entries have bytes exactly where they have pairs.
pub some_spelled : (entries : List ℕ) → IsSomeLeaf entries →
    (length entries == 0) ≡ (length (pairs_in entries) == 0)
some_spelled entries l = ap (λ bytes. length bytes == 0) (leaf_spelled entries l) ∙
    some (pairs_in entries)
  where
    some : (pairs : List Pair) → (length (record_file pairs) == 0) ≡ (length pairs == 0)
    some [] = refl
    some (p ∷ ps) = grind (arith, nat_tests)

-- ---- the children that entries spell

pub node_apart : (version : Version) → AreApart (entry_of version) IsChild
node_apart version = record {
  some = λ c. omega arith;
  rests = λ c d x y h k e. (child_spellings_apart version c.key d.key c.reference d.reference
      c.count d.count x y h.key k.key (h.reference ∙ sym k.reference) e).3;
}

some_node : (version : Version) (entries : List ℕ) → AreEntries (entry_of version) IsChild entries →
    IsNode version entries []
some_node version entries e = grind arith

node_entries : (version : Version) (entries : List ℕ) → IsNode version entries [] →
    AreEntries (entry_of version) IsChild entries
node_entries version entries n = record { entries = n.children; is = n.is; lawful = n.lawful }

module _ (version : Version) (entries rest : List ℕ) (c : Child)
    (b : BeginsWith (entry_of version) IsChild entries c rest) where
  pub node_more : IsNode version rest [] → IsNode version entries []
  node_more n = search (rules, some_node, one_more, node_apart)

  pub node_less : IsNode version entries [] → IsNode version rest []
  node_less n = search (rules, some_node, one_less, node_apart)

  pub child_behind : rest ≡ drop (length entries - length rest) entries
  child_behind = behind_first (entry_of version) IsChild (node_apart version) entries rest c b

pub node_left : (version : Version) (entries : List ℕ) → NoChildAt version entries →
    IsNode version entries [] → entries ≡ []
node_left version entries none n = nothing_left (entry_of version) IsChild (node_apart version)
    entries
    (λ c more h e. none c.key c.reference c.count more h.key h.reference e)
    (node_entries version entries n)

-- Behind lawful child entries there are bytes that none begins.
pub no_node : (version : Version) → NoNode version
no_node version done pairs rest lawful left none n =
    rest_is_none (entry_of version) IsChild (node_apart version) done rest lawful left none
    (record { entries = n.children; is = n.is; lawful = n.lawful })

-- ---- what is read of them

child_shrinks : (version : Version) → Shrinks (behind_child version)
child_shrinks version b bytes = grind (arith, length-drop)

-- A child as it is read from its entry.
abbrev pub as_read : Version → Child → Child
as_read version c = record {
  key = c.key;
  reference = c.reference;
  count = first_count version (count_spelling version c.count);
}

count_in_front : (version : Version) (count : ℕ) (more : List ℕ) →
    first_count version (count_spelling version count ++ more) ≡
    first_count version (count_spelling version count)
count_in_front One count more = refl
count_in_front Two count more = refl

tail_size : (version : Version) (count : ℕ) →
    tail_length version ≡ 20 + length (count_spelling version count)
tail_size One count = refl
tail_size Two count = refl

child_reads : (version : Version) (c : Child) → IsChild c →
    Reads (first_child version) (behind_child version) (entry_of version c) (as_read version c)
child_reads version c h = record {
  some = (node_apart version).some c;
  read = λ more. (both more).0;
  left = λ more. (both more).1;
}
  where
    both : (more : List ℕ) → (first_child version (entry_of version c ++ more) ≡ as_read version c)
        × (behind_child version (entry_of version c ++ more) ≡ more)
    both more =
        let size = length c.key in
        let tail = count_spelling version c.count in
        let rest = c.reference ++ (tail ++ more) in
        let bytes = key_spelling c.key ++ rest in
        let parts : entry_of version c ++ more ≡ bytes = simp append_assoc in
        let found : key_length bytes ≡ size = found_key c.key rest h.key in
        let behind : drop (2 + size) bytes ≡ rest = after_two c.key rest size refl in
        let reference : take 20 rest ≡ c.reference = take_at c.reference (tail ++ more) 20 h.reference
        in
        let counted : drop (2 + size + 20) bytes ≡ tail ++ more =
        sym (drop-drop 20 (2 + size) bytes) ∙ ap (drop 20) behind ∙
        drop_front c.reference (tail ++ more) 20 (sym h.reference) in
        let left : drop (2 + size + tail_length version) bytes ≡ more =
        sym (drop-drop (tail_length version) (2 + size) bytes) ∙
        ap (drop (tail_length version)) (behind ∙ sym (append_assoc c.reference tail more))
        ∙ drop_front (c.reference ++ tail) more (tail_length version) (tail_size version c.count ∙
        omega (arith, length-append c.reference tail, h.reference)) in (
          ap (first_child version) parts ∙
              rw (found, key_there c.key rest size refl, behind, reference, counted, count_in_front version c.count more) refl,
          ap (behind_child version) parts ∙ rw found left,
        )

pub children_read : (version : Version) (children : List Child) → AllByRecursion IsChild children →
    children_in version (flat_map (entry_of version) children) ≡ map (as_read version) children
unfolding children_in
children_read version = reads_all (first_child version) (behind_child version)
    (child_shrinks version) (entry_of version) (as_read version) IsChild (child_reads version)

pub next_child : (version : Version) (entries rest : List ℕ) (c : Child) →
    BeginsWith (entry_of version) IsChild entries c rest →
    first_count version (count_spelling version c.count) ≡ c.count →
    children_in version entries ≡ c ∷ children_in version rest
unfolding children_in
next_child version entries rest c b counted =
    reads_on (first_child version) (behind_child version) (child_shrinks version) entries
    (entry_of version c) rest (as_read version c) (child_reads version c b.lawful) b.is
    ∙ ap (λ n. record { key = c.key; reference = c.reference; count = n } ∷ entries_in
    (first_child version) (behind_child version) rest) counted

pub no_next_child : (version : Version) (entries : List ℕ) → NoChildAt version entries →
    IsNode version entries [] → children_in version entries ≡ []
unfolding children_in
no_next_child version entries none n = ap (entries_in (first_child version) (behind_child version))
    (node_left version entries none n)

-- ---- the last key of pairs, and how many they are

pub last_behind : (ps : List Pair) (p : Pair) → last_key (ps ++ p ∷ []) ≡ p.key
last_behind [] p = refl
last_behind (q ∷ []) p = refl
last_behind (q ∷ r ∷ ps) p = last_behind (r ∷ ps) p

-- The last key of a pair with this key and those behind it.
unfoldable pub key_at_end : List ℕ → List Pair → List ℕ
key_at_end key [] = key
key_at_end key (p ∷ ps) = key_at_end p.key ps

pub at_end : (p : Pair) (ps : List Pair) → last_key (p ∷ ps) ≡ key_at_end p.key ps
unfolding key_at_end
at_end p [] = refl
at_end p (q ∷ ps) = at_end q ps

pub one_behind : (p : Pair) (key : List ℕ) (ps : List Pair) →
    key_at_end key (p ∷ ps) ≡ key_at_end p.key ps
unfolding key_at_end
one_behind p key ps = refl

pub none_behind : (key : List ℕ) (ps : List Pair) → ps ≡ [] → key ≡ key_at_end key ps
unfolding key_at_end
none_behind key ps none = ap (key_at_end key) (sym none)

-- Some first pairs were read of all, the last one has this key, and so many they are.
pub record AreRead (all rest : List Pair) (last : List ℕ) (count : ℕ) : Type 0 where
  pub front : List Pair
  pub whole : all ≡ front ++ rest
  pub key : last ≡ last_key front
  pub many : count ≡ length front
  pub short : length last ≤ 1024

pub one_more_read : (all rest rest' : List Pair) (last : List ℕ) (count : ℕ) (p : Pair) →
    AreRead all rest last count → rest ≡ p ∷ rest' → length p.key ≤ 1024 →
    AreRead all rest' p.key (count + 1)
one_more_read all rest rest' last count p r e short = record {
  front = r.front ++ p ∷ [];
  whole = r.whole ∙ ap (λ ps. r.front ++ ps) e ∙ sym (append_assoc r.front (p ∷ []) rest');
  key = sym (last_behind r.front p);
  many = omega (arith, r.many, length-append r.front (p ∷ []));
  short = short;
}

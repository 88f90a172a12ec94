-- What the notes of a walk tell of the chunks that the old tree lacks.
use Rattle.std.proofs.Common.{◌≡◌, ℕ, ◌+◌, ◌<◌, ◌≤◌, ◌⊎◌, inl, inr, Bool, true, false, cond, not}
use Rattle.std.proofs.Common.{List, [], ◌∷◌, ◌++◌, map, length, refl, sym, ap, ◌∙◌, subst, arith, Option}
use Rattle.std.proofs.Common.{None, Some, append-nil}
use Rattle.std.proofs.Math.Path.{fun_ext}
use Rattle.std.proofs.lemmas.Bool.{cases_Bool, cases_lt, false≢true}
use Rattle.std.proofs.lemmas.List.Concat.{length-flat_map}
use Rattle.std.proofs.lemmas.List.Sums.{length-filter, sum_by-cons}
use Rattle.std.proofs.lemmas.Slice.Eq.{bytes_eq-Decides}
use Rattle.std.specs.List.{filter, list_any, sum_by, AllByRecursion}
use Rattle.std.specs.Prelude.{◌||◌, IfSome}
use Rattle.std.specs.Str.{bytes_eq}
use Rattle.prolly_look_up.specs.MapTree.{ChildIsTree, RootIsTree, TopIsRead}
use Rattle.prolly_look_up.specs.Content.{chunk_bytes}
use Rattle.prolly_chunk.specs.Missing.{AreSo, has_reference, lacking}
use Rattle.prolly_chunk.specs.declared.missing.Missing.{Missing}
use Rattle.prolly_entry.specs.Cut.{sha512_cut}
use Rattle.prolly_entry.specs.Reference.{reference_of}
use Rattle.prolly_entry.specs.declared.version.Version.{Version}
use Rattle.prolly_laws.specs.Trees.{chunks_differ}
use Rattle.prolly_tree.specs.Chunk.{AllDiffer, Chunk, IsIn, chunks}
use Rattle.prolly_tree.specs.File.{root_reference}
use Rattle.prolly_tree.specs.Tree.{LeveledTree, tree_of}
use Rattle.prolly_root_diff.specs.Notes.{AreNotesOf, AreOf, NotesAreRight, TellsMissing, is_unknown}
use Rattle.prolly_root_diff.specs.Notes.{read_new, read_old, said_by, said_of, unknown_of}
use Rattle.prolly_root_diff.specs.Walks.{Clashing, Lefts, Move, at_roots, read_on}
use Rattle.prolly_root_diff.specs.declared.notes.Notes.{Notes}
use Rattle.prolly_root_diff.proofs.Clashes.{both_clash}
use Rattle.prolly_root_diff.proofs.Shares.{Parted, parted}

-- ---- how often a chunk is there

abbrev is : List ℕ → List ℕ → ℕ
is c x = cond (bytes_eq x c) 1 0

-- how often it is
abbrev times : List ℕ → List (List ℕ) → ℕ
times c xs = sum_by (is c) xs

is_one : (c x : List ℕ) → bytes_eq x c ≡ true → is c x ≡ 1
is_one c x e = ap (λ b. cond b 1 0) e

is_none : (c x : List ℕ) → bytes_eq x c ≡ false → is c x ≡ 0
is_none c x e = ap (λ b. cond b 1 0) e

there : (c : List ℕ) (xs : List (List ℕ)) → IsIn c xs → 1 ≤ times c xs
there c [] k = absurd k
there c (x ∷ xs) (inl e) =
    let one = is_one c x ((bytes_eq-Decides x c).1 (sym e)) in
    let all = sum_by-cons (is c) x xs in
    omega arith
there c (x ∷ xs) (inr k) =
    let more = there c xs k in
    let all = sum_by-cons (is c) x xs in
    omega arith

is_there : (c : List ℕ) (xs : List (List ℕ)) → 1 ≤ times c xs → IsIn c xs
is_there c [] h = absurd (omega arith)
is_there c (x ∷ xs) h = go (cases_Bool (bytes_eq x c)) (is_there c xs)
  where
    go : (bytes_eq x c ≡ true) ⊎ (bytes_eq x c ≡ false) → (1 ≤ times c xs → IsIn c xs) →
        IsIn c (x ∷ xs)
    go (inl e) more = inl (sym ((bytes_eq-Decides x c).0 e))
    go (inr e) more =
        let none = is_none c x e in
        let all = sum_by-cons (is c) x xs in
        inr (more (omega arith))

-- chunks that are all different are there once
no_more : (c : List ℕ) (x : Chunk) (xs : List Chunk) → bytes_eq x.bytes c ≡ true →
    AllByRecursion (λ d. x.bytes ≡ d.bytes → ⊥) xs → times c (map (λ d. d.bytes) xs) ≡ 0
no_more c x [] e h = refl
no_more c x (d ∷ xs) e h =
    let more = no_more c x xs e h.1 in
    let all = sum_by-cons (is c) d.bytes (map (λ d. d.bytes) xs) in
    go (cases_Bool (bytes_eq d.bytes c)) more all
  where
    go : (bytes_eq d.bytes c ≡ true) ⊎ (bytes_eq d.bytes c ≡ false) →
        times c (map (λ d. d.bytes) xs) ≡ 0 →
        times c (map (λ d. d.bytes) (d ∷ xs)) ≡ is c d.bytes + times c (map (λ d. d.bytes) xs) →
        times c (map (λ d. d.bytes) (d ∷ xs)) ≡ 0
    go (inl f) more all = absurd (h.0 ((bytes_eq-Decides x.bytes c).0 e ∙
        sym ((bytes_eq-Decides d.bytes c).0 f)))
    go (inr f) more all =
        let none = is_none c d.bytes f in
        omega arith

once : (c : List ℕ) (xs : List Chunk) → AllDiffer xs → times c (map (λ d. d.bytes) xs) ≤ 1
once c [] h = omega arith
once c (x ∷ xs) h = go (cases_Bool (bytes_eq x.bytes c)) (once c xs h.1)
    (sum_by-cons (is c) x.bytes (map (λ d. d.bytes) xs))
  where
    go : (bytes_eq x.bytes c ≡ true) ⊎ (bytes_eq x.bytes c ≡ false) →
        times c (map (λ d. d.bytes) xs) ≤ 1 →
        times c (map (λ d. d.bytes) (x ∷ xs)) ≡ is c x.bytes + times c (map (λ d. d.bytes) xs) →
        times c (map (λ d. d.bytes) (x ∷ xs)) ≤ 1
    go (inl e) more all =
        let one = is_one c x.bytes e in
        let none = no_more c x xs e h.0 in
        omega arith
    go (inr e) more all =
        let none = is_none c x.bytes e in
        omega arith

-- ---- references

known_in : (cs : List (List ℕ)) (r : List ℕ) → has_reference cs r ≡ true →
    (d : List ℕ) × IsIn d cs × (reference_of d ≡ r)
known_in [] r e = absurd (false≢true e)
known_in (c ∷ cs) r e = go (cases_Bool (bytes_eq (reference_of c) r)) (known_in cs r)
  where
    go : (bytes_eq (reference_of c) r ≡ true) ⊎ (bytes_eq (reference_of c) r ≡ false) →
        (has_reference cs r ≡ true → (d : List ℕ) × IsIn d cs × (reference_of d ≡ r)) →
        (d : List ℕ) × IsIn d (c ∷ cs) × (reference_of d ≡ r)
    go (inl f) more = (c, inl refl, (bytes_eq-Decides (reference_of c) r).0 f)
    go (inr f) more =
        let d = more (sym (ap (λ b. b || has_reference cs r) f) ∙ e) in
        (d.0, inr d.1, d.2)

in_known : (cs : List (List ℕ)) (r d : List ℕ) → IsIn d cs → reference_of d ≡ r →
    has_reference cs r ≡ true
in_known [] r d k same = absurd k
in_known (c ∷ cs) r d (inl e) same =
    ap (λ b. b || has_reference cs r) ((bytes_eq-Decides (reference_of c) r).1
    (ap reference_of (sym e) ∙ same))
in_known (c ∷ cs) r d (inr k) same = or_true (bytes_eq (reference_of c) r) (in_known cs r d k same)
  where
    or_true : (a : Bool) {b : Bool} → b ≡ true → (a || b) ≡ true
    or_true true e = refl
    or_true false e = e

-- ---- sums

abbrev weighed : (List ℕ → Bool) → (List ℕ → ℕ) → List ℕ → ℕ
weighed test weight c = cond (test c) (weight c) 0

nothing : (f : List ℕ → ℕ) (xs : List (List ℕ)) → ((c : List ℕ) → IsIn c xs → f c ≡ 0) →
    sum_by f xs ≡ 0
nothing f [] h = refl
nothing f (x ∷ xs) h =
    let more = nothing f xs (λ c k. h c (inr k)) in
    let one = h x (inl refl) in
    let all = sum_by-cons f x xs in
    omega arith

-- what is decided of each is decided of all
each_or : {Z : Type 0} (f g : List ℕ → Bool) (xs : List (List ℕ)) →
    ((c : List ℕ) → IsIn c xs → (f c ≡ g c) ⊎ Z) →
    ((weight : List ℕ → ℕ) → sum_by (weighed f weight) xs ≡ sum_by (weighed g weight) xs) ⊎ Z
each_or f g [] h = inl (λ weight. refl)
each_or {Z} f g (x ∷ xs) h = join (h x (inl refl)) (each_or f g xs (λ c k. h c (inr k)))
  where
    join : (f x ≡ g x) ⊎ Z →
        ((weight : List ℕ → ℕ) → sum_by (weighed f weight) xs ≡ sum_by (weighed g weight) xs) ⊎ Z →
        ((weight : List ℕ → ℕ) → sum_by (weighed f weight) (x ∷ xs) ≡
        sum_by (weighed g weight) (x ∷ xs)) ⊎ Z
    join (inr z) more = inr z
    join (inl e) (inr z) = inr z
    join (inl e) (inl same) = inl (λ weight.
        let first = sum_by-cons (weighed f weight) x xs in
        let second = sum_by-cons (weighed g weight) x xs in
        let one = ap (λ b. cond b (weight x) 0) e in
        let more = same weight in
        omega arith)

pub sum_filter : {A : Type 0} (test : A → Bool) (f : A → ℕ) (xs : List A) →
    sum_by f (filter test xs) ≡ sum_by (λ x. cond (test x) (f x) 0) xs
sum_filter test f [] = refl
sum_filter {A} test f (x ∷ xs) = go (cases_Bool (test x)) (sum_filter test f xs)
    (sum_by-cons (λ x. cond (test x) (f x) 0) x xs)
  where
    go : (test x ≡ true) ⊎ (test x ≡ false) →
        sum_by f (filter test xs) ≡ sum_by (λ x. cond (test x) (f x) 0) xs →
        sum_by (λ x. cond (test x) (f x) 0) (x ∷ xs) ≡
        cond (test x) (f x) 0 + sum_by (λ x. cond (test x) (f x) 0) xs →
        sum_by f (filter test (x ∷ xs)) ≡ sum_by (λ x. cond (test x) (f x) 0) (x ∷ xs)
    go (inl e) more all =
        let one = ap (λ b. cond b (f x) 0) e in
        let kept = ap (λ b. sum_by f (cond b (x ∷ filter test xs) (filter test xs))) e in
        let first = sum_by-cons f x (filter test xs) in
        omega arith
    go (inr e) more all =
        let one = ap (λ b. cond b (f x) 0) e in
        let kept = ap (λ b. sum_by f (cond b (x ∷ filter test xs) (filter test xs))) e in
        omega arith

sum_map : {A B : Type 0} (f : A → B) (g : B → ℕ) (xs : List A) →
    sum_by g (map f xs) ≡ sum_by (λ x. g (f x)) xs
sum_map f g [] = refl
sum_map f g (x ∷ xs) =
    let more = sum_map f g xs in
    let first = sum_by-cons g (f x) (map f xs) in
    let second = sum_by-cons (λ x. g (f x)) x xs in
    omega arith

any_map : {A B : Type 0} (f : A → B) (test : B → Bool) (xs : List A) →
    list_any test (map f xs) ≡ list_any (λ x. test (f x)) xs
any_map f test [] = refl
any_map f test (x ∷ xs) = ap (λ b. test (f x) || b) (any_map f test xs)

-- ---- what was read

-- whether none of the chunks has the chunk's reference
abbrev lacks : List (List ℕ) → List ℕ → Bool
lacks others c = not (has_reference others (reference_of c))

module _ (version : Version) (cs : List (List ℕ)) (ds : List Chunk) (differ : AllDiffer ds)
    (a b passed read : List (List ℕ))
    (old : (f : List ℕ → ℕ) → sum_by f cs ≡ sum_by f a + sum_by f passed)
    (new : (f : List ℕ → ℕ) → sum_by f (map (λ d. d.bytes) ds) ≡ sum_by f b + sum_by f passed)
  where
    abbrev news : List (List ℕ)
    news = map (λ d. d.bytes) ds

    old_passed : (c : List ℕ) → IsIn c passed → IsIn c cs
    old_passed c k =
        let one = there c passed k in
        let all = old (is c) in
        is_there c cs (omega arith)

    old_read : (c : List ℕ) → IsIn c a → IsIn c cs
    old_read c k =
        let one = there c a k in
        let all = old (is c) in
        is_there c cs (omega arith)

    new_passed : (c : List ℕ) → IsIn c passed → IsIn c news
    new_passed c k =
        let one = there c passed k in
        let all = new (is c) in
        is_there c news (omega arith)

    new_read : (c : List ℕ) → IsIn c b → IsIn c news
    new_read c k =
        let one = there c b k in
        let all = new (is c) in
        is_there c news (omega arith)

    -- a chunk of the old tree was read or passed by
    old_either : (c : List ℕ) → IsIn c cs → IsIn c a ⊎ IsIn c passed
    old_either c k = go (cases_lt 0 (times c a)) (there c cs k) (old (is c))
      where
        go : (0 < times c a) ⊎ (times c a ≤ 0) → 1 ≤ times c cs →
            times c cs ≡ times c a + times c passed → IsIn c a ⊎ IsIn c passed
        go (inl some) one all = inl (is_there c a (omega arith))
        go (inr none) one all = inr (is_there c passed (omega arith))

    -- one of the new tree was not read and passed by
    not_both : (c : List ℕ) → IsIn c b → IsIn c passed → ⊥
    not_both c k l =
        let one = there c b k in
        let other = there c passed l in
        let all = new (is c) in
        let few = once c ds differ in
        absurd (omega arith)

    -- the old tree lacks a chunk that was read in the new one where none of those that were read in
    -- it has its reference
    lacks_alike : (c : List ℕ) → IsIn c b → (lacks cs c ≡ lacks a c) ⊎ Clashing read (cs ++ news)
    lacks_alike c k = go (cases_Bool (has_reference a (reference_of c)))
        (cases_Bool (has_reference cs (reference_of c)))
      where
        same : (x y : Bool) → has_reference cs (reference_of c) ≡ x →
            has_reference a (reference_of c) ≡ y → x ≡ y → lacks cs c ≡ lacks a c
        same x y e f g = ap not (e ∙ g ∙ sym f)

        was_passed : (d : List ℕ) → IsIn d passed → reference_of d ≡ reference_of c →
            (lacks cs c ≡ lacks a c) ⊎ Clashing read (cs ++ news)
        was_passed d l e = by (cases_Bool (bytes_eq d c))
          where
            by : (bytes_eq d c ≡ true) ⊎ (bytes_eq d c ≡ false) →
                (lacks cs c ≡ lacks a c) ⊎ Clashing read (cs ++ news)
            by (inl f) = absurd (not_both c k
                (subst (λ x. IsIn x passed) ((bytes_eq-Decides d c).0 f) l))
            by (inr f) = inr (both_clash cs news read (record {
              one = d;
              other = c;
              in_one = old_passed d l;
              in_other = new_read c k;
              differ = λ g. false≢true (sym f ∙ (bytes_eq-Decides d c).1 g);
              same = e;
            }))

        was_known : (d : List ℕ) → IsIn d a ⊎ IsIn d passed → reference_of d ≡ reference_of c →
            has_reference a (reference_of c) ≡ false →
            (lacks cs c ≡ lacks a c) ⊎ Clashing read (cs ++ news)
        was_known d (inl l) e none =
            absurd (false≢true (sym none ∙ in_known a (reference_of c) d l e))
        was_known d (inr l) e none = was_passed d l e

        go : (has_reference a (reference_of c) ≡ true) ⊎
            (has_reference a (reference_of c) ≡ false) →
            (has_reference cs (reference_of c) ≡ true) ⊎
            (has_reference cs (reference_of c) ≡ false) →
            (lacks cs c ≡ lacks a c) ⊎ Clashing read (cs ++ news)
        go (inl e) (inl f) = inl (same true true f e refl)
        go (inr e) (inr f) = inl (same false false f e refl)
        go (inl e) (inr f) =
            let d = known_in a (reference_of c) e in
            absurd (false≢true (sym f ∙ in_known cs (reference_of c) d.0 (old_read d.0 d.1) d.2))
        go (inr e) (inl f) =
            let d = known_in cs (reference_of c) f in
            was_known d.0 (old_either d.0 d.1) d.2 e

    -- so the chunks that are lacking are among those that were read, whatever is counted of them
    lacking_read : ((weight : List ℕ → ℕ) → sum_by (weighed (lacks cs) weight) news ≡
        sum_by (weighed (lacks a) weight) b) ⊎ Clashing read (cs ++ news)
    lacking_read = go (each_or (lacks cs) (lacks a) b lacks_alike)
      where
        none : (weight : List ℕ → ℕ) (c : List ℕ) → IsIn c passed →
            weighed (lacks cs) weight c ≡ 0
        none weight c k = ap (λ h. cond (not h) (weight c) 0)
            (in_known cs (reference_of c) c (old_passed c k) refl)

        go : ((weight : List ℕ → ℕ) → sum_by (weighed (lacks cs) weight) b ≡
            sum_by (weighed (lacks a) weight) b) ⊎ Clashing read (cs ++ news) →
            ((weight : List ℕ → ℕ) → sum_by (weighed (lacks cs) weight) news ≡
            sum_by (weighed (lacks a) weight) b) ⊎ Clashing read (cs ++ news)
        go (inr clash) = inr clash
        go (inl same) = inl (λ weight.
            let all = new (weighed (lacks cs) weight) in
            let zero = nothing (weighed (lacks cs) weight) passed (none weight) in
            let one = same weight in
            omega arith)

-- ---- what was noted

module _ (way : List Move) (notes : Notes) (are : AreNotesOf way notes) where
  abbrev a : List (List ℕ)
  a = read_old way

  known_alike : (r : List ℕ) →
      list_any (λ x. bytes_eq x.0 r) notes.old.items ≡ has_reference a r
  known_alike r = sym (any_map (λ x. x.0) (λ x. bytes_eq x r) notes.old.items) ∙
      ap (list_any (λ x. bytes_eq x r)) are.old ∙
      any_map reference_of (λ x. bytes_eq x r) a

  -- what is counted of the notes is what is counted of the chunks
  noted_sum : (weight : ℕ → ℕ) →
      sum_by (λ n. cond (is_unknown notes.old.items n) (weight n.length) 0) notes.new.items ≡
      sum_by (weighed (lacks a) (λ c. weight (length c))) (read_new way)
  noted_sum weight =
      let by : List ℕ × ℕ → ℕ = λ p. cond (not (list_any (λ x. bytes_eq x.0 p.0) notes.old.items))
      (weight p.1) 0 in
      sym (sum_map said_by by notes.new.items) ∙
      ap (sum_by by) are.new ∙
      sum_map said_of by (read_new way) ∙
      ap (λ g. sum_by g (read_new way))
      (fun_ext (λ c. ap (λ h. cond (not h) (weight (length c)) 0) (known_alike (reference_of c))))

-- ---- from the roots to the end

module _ (root_is : RootIsTree) (child_is : (version : Version) → ChildIsTree version)
    (top_is_read : (version : Version) → TopIsRead version) where
  pub notes_are_right : NotesAreRight
  notes_are_right version to notes missing are bits bits' m m' way rising lawful rising' lawful'
      lead noted at_end at_end' =
      told (parted child_is top_is_read version cs ds way (at_roots root root') to (tree ∷ [])
      (tree' ∷ []) (root_is version bits m lawful rising, tt)
      (root_is version bits' m' lawful' rising', tt) refl refl lead
      (ap (map (λ d. d.reference)) at_end.1) (ap (map (λ d. d.reference)) at_end'.1))
    where
      cs : List (List ℕ)
      cs = chunk_bytes version bits m

      ds : List (List ℕ)
      ds = chunk_bytes version bits' m'

      tree : LeveledTree
      tree = tree_of (sha512_cut bits) version m

      tree' : LeveledTree
      tree' = tree_of (sha512_cut bits') version m'

      root : List ℕ
      root = root_reference (sha512_cut bits) version m

      root' : List ℕ
      root' = root_reference (sha512_cut bits') version m'

      a : List (List ℕ)
      a = read_old way

      b : List (List ℕ)
      b = read_new way

      so : ((weight : List ℕ → ℕ) → sum_by (weighed (lacks cs) weight) ds ≡
          sum_by (weighed (lacks a) weight) b) ⊎ Clashing (read_on way) (cs ++ ds) →
          AreSo (lacking cs ds) missing ⊎ Clashing (read_on way) (cs ++ ds)
      so (inr clash) = inr clash
      so (inl same) = inl (record {
        chunks_are = are.chunks_are ∙ length-filter (is_unknown notes.old.items) notes.new.items ∙
            noted_sum way notes noted (λ n. 1) ∙ sym (same (λ c. 1)) ∙
            sym (length-filter (lacks cs) ds);
        bytes_are = are.bytes_are ∙
            sum_filter (is_unknown notes.old.items) (λ n. n.length) notes.new.items ∙
            noted_sum way notes noted (λ n. n) ∙ sym (same (λ c. length c)) ∙
            sym (sum_filter (lacks cs) (λ c. length c) ds) ∙
            sym (length-flat_map (λ c. c) (lacking cs ds));
      })

      told : Parted version (tree ∷ []) (tree' ∷ []) way ⊎
          Clashing (read_on way) (cs ++ ds) →
          AreSo (lacking cs ds) missing ⊎ Clashing (read_on way) (cs ++ ds)
      told (inr clash) = inr clash
      told (inl p) = so (lacking_read version cs
          (chunks (sha512_cut bits') version m')
          (chunks_differ (sha512_cut bits') version m' lawful' rising') a b p.passed (read_on way)
          (λ f. ap (sum_by f) (sym (append-nil cs)) ∙ p.old f)
          (λ f. ap (sum_by f) (sym (append-nil ds)) ∙ p.new f))

-- so the numbers of the notes tell what is missing, where there are notes
pub tells_missing : NotesAreRight → (version : Version) (to : Lefts) (taken : Option Notes)
    (notes : Notes) → taken ≡ Some notes → (found : Option Missing) →
    IfSome found (AreOf (unknown_of notes)) → IfSome found (TellsMissing version to taken)
tells_missing right version to taken notes is None are = tt
tells_missing right version to taken notes is (Some missing) are =
    subst (λ n. TellsMissing version to n missing) (sym is) (right version to notes missing are)

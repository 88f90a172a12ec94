-- Looking up key after key, and writing the line of each.
use Rattle.std.proofs.Common.{◌≡◌, ℕ, ◌+◌, ◌<◌, inl, inr, true, List, [], ◌∷◌, ◌++◌, length}
use Rattle.std.proofs.Common.{map, take, drop, Option, Ok, Err, refl, sym, ap, ◌∙◌, subst}
use Rattle.std.proofs.Common.{append_assoc, append-nil, get_or, suc}
use Rattle.std.proofs.Math.Seq.{drop-cons}
use Rattle.std.proofs.lemmas.List.{map-append, take-append-drop, take_more}
use Rattle.std.proofs.lemmas.List.Concat.{flat_map-append}
use Rattle.prolly_entry.specs.Pair.{Pair}
use Rattle.prolly_entry.specs.lemmas.Lists.{all_append}
use Rattle.prolly_look_up.specs.Content.{chunk_bytes}
use Rattle.prolly_look_up.specs.ScanWay.{joined}
use Rattle.prolly_look_up.specs.Way.{IsWay, WaysAreRight}
use Rattle.prolly_look_up.specs.lemmas.Clashes.{wider}
use Rattle.prolly_entry.specs.Record.{Record, keys_of}
use Rattle.prolly_entry.specs.declared.version.Version.{Version}
use Rattle.prolly_root.specs.declared.root_fault.RootFault.{RootFault}
use Rattle.std.specs.List.{AllByRecursion, AllZip}
use Rattle.prolly_io.specs.Sink.{SinkView, TakesPrefix}
use Rattle.prolly_text.specs.declared.notation.Notation.{Notation}
use Rattle.prolly_tree.specs.LookUp.{find}
use Rattle.prolly_tree.specs.lemmas.Trees.{in_back, in_front}
use Rattle.prolly_answer.specs.KeyLookUps.{AreFoundByRoot, AreWays, FitsKeys, KeysByRootAreRight}
use Rattle.prolly_answer.specs.KeyLookUps.{found_at, found_line, found_lines}
use Rattle.prolly_answer.specs.RootLookUps.{IsFoundByRoot}
use Rattle.prolly_answer.specs.RootOutcomes.{Outcome, TakesAllFor, TakesFor}
use Rattle.prolly_answer.specs.Outputs.{IsSettledAs, TookBytes, TookSoFar, TookUntil}
use Rattle.prolly_fault.specs.declared.output_fault.OutputFault.{OutputFault}
use Rattle.prolly_fault.specs.declared.output_fault.OutputFault.TheVariants as outputs
use Rattle.prolly_fault.specs.declared.root_output_fault.RootOutputFault.TheVariants.{Output}
use Rattle.prolly_fault.specs.declared.root_output_fault.RootOutputFault.TheVariants.{Root}
use Rattle.prolly_answer.proofs.RootSteps.{taken_told}
use Rattle.prolly_answer.proofs.ScanSteps.{joined_more, so_told, took_also, until_also}
use Rattle.prolly_answer.proofs.WaysStand.{all_also}
use Rattle.prolly_answer.proofs.Writing.{took_none}

-- ---- lines

pub lines_more : (notation : Notation) (records : List Record) (found : Record) →
    found_lines notation (records ++ found ∷ []) ≡
    found_lines notation records ++ found_line notation found
lines_more notation records found =
    flat_map-append (found_line notation) records (found ∷ []) ∙
    ap (λ bytes. found_lines notation records ++ bytes) (append-nil (found_line notation found))

-- the first keys, and one more
pub keys_more : {X : Type 0} (f : X → List ℕ) (xs : List X) (i : ℕ) (x : X) → i < length xs →
    x ≡ get_or xs i x → map f (take (i + 1) xs) ≡ map f (take i xs) ++ f x ∷ []
keys_more f xs i x within is =
    ap (map f) (take_more xs i x within ∙ ap (λ y. take i xs ++ y ∷ []) (sym is)) ∙
    map-append f (take i xs) (x ∷ [])

-- all keys are the first ones, and those behind them
pub keys_split : {X : Type 0} (f : X → List ℕ) (xs : List X) (i : ℕ) →
    map f xs ≡ map f (take i xs) ++ map f (drop i xs)
keys_split f xs i = ap (map f) (sym (take-append-drop i xs)) ∙ map-append f (take i xs) (drop i xs)

-- ---- the sink

-- a part of some bytes is a part of these and more
pub until_longer : {W : Type 0} (seen : W → SinkView) (fault : OutputFault) (bytes more : List ℕ)
    (old new : W) → TookUntil seen fault bytes old new → TookUntil seen fault (bytes ++ more) old new
until_longer seen fault bytes more old new t = go fault t
  where
    longer : TakesPrefix (seen old).taken (seen new).taken bytes →
        TakesPrefix (seen old).taken (seen new).taken (bytes ++ more)
    longer q = record {
      part = q.part;
      grown = q.grown;
      is_prefix = (
        q.is_prefix.0 ++ more,
        ap (λ b. b ++ more) q.is_prefix.1 ∙ append_assoc q.part q.is_prefix.0 more,
      );
    }

    go : (fault : OutputFault) → TookUntil seen fault bytes old new →
        TookUntil seen fault (bytes ++ more) old new
    go outputs.Memory t = record { unfailed = t.unfailed; took = λ k. longer (t.took k) }
    go outputs.Write t = record { failed = t.failed; took = λ k. longer (t.took k) }

module _ {W : Type 0} (seen : W → SinkView) (notation : Notation) where
  abbrev pub HasWritten : List Record → W → W → Type 0
  HasWritten records old new = TookSoFar seen (found_lines notation records) old new

  -- one more line is written, or a part of it
  module _ (records : List Record) (found : Record) (old mid new : W)
      (so_far : HasWritten records old mid) where
    pub one_written : TookBytes seen (found_line notation found) mid new →
        ((seen mid).is_keeping ≡ true → (seen new).is_keeping ≡ true) →
        HasWritten (records ++ found ∷ []) old new
    one_written t keeping = subst (λ bytes. TookSoFar seen bytes old new)
        (sym (lines_more notation records found))
        (took_also seen (found_lines notation records) (found_line notation found) old mid new so_far
        t keeping)

    pub one_cut_off : (fault : OutputFault) →
        TookUntil seen fault (found_line notation found) mid new →
        TookUntil seen fault (found_lines notation (records ++ found ∷ [])) old new
    one_cut_off fault t = subst (λ bytes. TookUntil seen fault bytes old new)
        (sym (lines_more notation records found))
        (until_also seen (found_lines notation records) (found_line notation found) old mid new so_far
        fault t)

  -- ---- what a map has at each key

  module _ {X : Type 0} (f : X → List ℕ) (m : List Pair) (xs : List X) (i : ℕ) (x : X)
      (within : i < length xs) (is : x ≡ get_or xs i x) (key : List ℕ) (key_is : key ≡ f x)
      (value : Option (List ℕ)) (value_is : value ≡ find m key) (old mid new : W)
      (so_far : HasWritten (found_at m (map f (take i xs))) old mid) where
    abbrev this : Record
    this = record { key = key; value = value }

    this_is : this ≡ record { key = f x; value = find m (f x) }
    this_is = ap (λ v. record { key = key; value = v }) value_is ∙
        ap (λ k. record { key = k; value = find m k }) key_is

    more : found_at m (map f (take (i + 1) xs)) ≡ found_at m (map f (take i xs)) ++ this ∷ []
    more = ap (found_at m) (keys_more f xs i x within is) ∙
        map-append (λ k. record { key = k; value = find m k }) (map f (take i xs)) (f x ∷ []) ∙
        ap (λ r. found_at m (map f (take i xs)) ++ r ∷ []) (sym this_is)

    pub key_cut_off : (fault : OutputFault) →
        TookUntil seen fault (found_line notation this) mid new →
        TookUntil seen fault (found_lines notation (found_at m (map f xs))) old new
    key_cut_off fault t =
        let rest = found_at m (map f (drop (i + 1) xs)) in
        let all : found_lines notation (found_at m (map f xs)) ≡
        found_lines notation (found_at m (map f (take i xs)) ++ this ∷ []) ++
        found_lines notation rest =
        ap (λ ks. found_lines notation (found_at m ks)) (keys_split f xs (i + 1)) ∙
        ap (found_lines notation) (map-append (λ k. record { key = k; value = find m k })
        (map f (take (i + 1) xs)) (map f (drop (i + 1) xs))) ∙
        flat_map-append (found_line notation) (found_at m (map f (take (i + 1) xs))) rest ∙
        ap (λ records. found_lines notation records ++ found_lines notation rest) more in
        subst (λ bytes. TookUntil seen fault bytes old new) (sym all)
        (until_longer seen fault (found_lines notation (found_at m (map f (take i xs)) ++ this ∷ []))
        (found_lines notation rest) old new
        (one_cut_off (found_at m (map f (take i xs))) this old mid new so_far fault t))

-- ---- by a root

zip_snoc : {A B : Type 0} (R : A → B → Type 0) (xs : List A) (ys : List B) (x : A) (y : B) →
    AllZip R xs ys → R x y → AllZip R (xs ++ x ∷ []) (ys ++ y ∷ [])
zip_snoc R [] [] x y h k = (k, tt)
zip_snoc R [] (b ∷ ys) x y h k = absurd h
zip_snoc R (a ∷ xs) [] x y h k = absurd h
zip_snoc R (a ∷ xs) (b ∷ ys) x y h k = (h.0, zip_snoc R xs ys x y h.1 k)

module _ {W : Type 0} (seen : W → SinkView) (there : List ℕ → Type 0) (version : Version)
    (root : List ℕ) (notation : Notation) {X : Type 0} (f : X → List ℕ) (xs : List X) where
  -- what is at the first keys was found, and their lines were written
  pub record IsAsking (i : ℕ) (old new : W) : Type 0 where
    pub records : List Record
    pub ways : List (List (List ℕ))
    pub found : AreWays version root records ways
    pub stand : AllByRecursion there (joined ways)
    pub keys_are : keys_of records ≡ map f (take i xs)
    pub took : HasWritten seen notation records old new

module _ {W : Type 0} {seen : W → SinkView} {there : List ℕ → Type 0} {version : Version}
    {root : List ℕ} {notation : Notation} {X : Type 0} {f : X → List ℕ} {xs : List X} where
  pub asking_begins : {old : W} → IsAsking seen there version root notation f xs 0 old old
  asking_begins {old = old} = record {
    records = [];
    ways = [];
    found = tt;
    stand = tt;
    keys_are = refl;
    took = took_none seen old;
  }

  module _ {i : ℕ} {old mid : W} (a : IsAsking seen there version root notation f xs i old mid)
    where
      behind_first : map f xs ≡ keys_of a.records ++ map f (drop i xs)
      behind_first = keys_split f xs i ∙ ap (λ ks. ks ++ map f (drop i xs)) (sym a.keys_are)

      -- the look-up of the next key has a fault
      pub asking_fails : {may : List (List ℕ) → RootFault → Type 0} {x : X} {key : List ℕ}
          {fault : RootFault} → i < length xs → x ≡ get_or xs i x → key ≡ f x →
          ((left : List (List ℕ)) → may (key ∷ left) fault) → AreFoundByRoot there may version root
          notation (map f xs) (TakesFor seen old mid) (Err (Root fault))
      asking_fails {may = may} {x = x} {fault = fault} within is key_is lawful = record {
        records = a.records;
        ways = a.ways;
        found = a.found;
        stand = a.stand;
        left = map f (drop i xs);
        keys_are = behind_first;
        fits = subst (λ keys. may keys fault) (ap (λ k. k ∷ map f (drop (suc i) xs))
            (key_is ∙ ap f is) ∙ ap (map f) (sym (drop-cons xs i x within)))
            (lawful (map f (drop (suc i) xs)));
        took = a.took.all;
      }

      module _ {x : X} {key : List ℕ} {value : Option (List ℕ)} (within : i < length xs)
          (is : x ≡ get_or xs i x) (key_is : key ≡ f x)
          (one : IsFoundByRoot there (IsWay version root key) value) where
        abbrev one_found : Record
        one_found = record { key = key; value = value }

        one_more : keys_of (a.records ++ one_found ∷ []) ≡ map f (take (i + 1) xs)
        one_more = map-append (λ r. r.key) a.records (one_found ∷ []) ∙
            ap (λ ks. ks ++ key ∷ []) a.keys_are ∙
            ap (λ k. map f (take i xs) ++ k ∷ []) key_is ∙ sym (keys_more f xs i x within is)

        ways_more : AreWays version root (a.records ++ one_found ∷ []) (a.ways ++ one.way ∷ [])
        ways_more = zip_snoc (λ found way. IsWay version root found.key way found.value) a.records
            a.ways one_found one.way a.found one.is

        stand_more : AllByRecursion there (joined (a.ways ++ one.way ∷ []))
        stand_more = subst (AllByRecursion there) (sym (joined_more a.ways one.way))
            (all_append there (joined a.ways) one.way a.stand one.stand)

        pub asks_on : {new : W} → TookBytes seen (found_line notation one_found) mid new →
            ((seen mid).is_keeping ≡ true → (seen new).is_keeping ≡ true) →
            IsAsking seen there version root notation f xs (i + 1) old new
        asks_on {new = new} t keeping = record {
          records = a.records ++ one_found ∷ [];
          ways = a.ways ++ one.way ∷ [];
          found = ways_more;
          stand = stand_more;
          keys_are = one_more;
          took = one_written seen notation a.records one_found old mid new a.took t keeping;
        }

        pub asking_cut_off : {may : List (List ℕ) → RootFault → Type 0} {new : W}
            {fault : OutputFault} → TookUntil seen fault (found_line notation one_found) mid new →
            AreFoundByRoot there may version root notation (map f xs) (TakesFor seen old new)
            (Err (Output fault))
        asking_cut_off {new = new} {fault = fault} t = record {
          records = a.records ++ one_found ∷ [];
          ways = a.ways ++ one.way ∷ [];
          found = ways_more;
          stand = stand_more;
          left = map f (drop (i + 1) xs);
          keys_are = keys_split f xs (i + 1) ∙
              ap (λ ks. ks ++ map f (drop (i + 1) xs)) (sym one_more);
          fits = tt;
          took = one_cut_off seen notation a.records one_found old mid new a.took fault t;
        }

-- what fits by one account of faults does by another
fits_may : (may also : List (List ℕ) → RootFault → Type 0) (left : List (List ℕ))
    (outcome : Outcome) → ((fault : RootFault) → may left fault → also left fault) →
    FitsKeys may left outcome → FitsKeys also left outcome
fits_may may also left (Ok done) so fits = fits
fits_may may also left (Err (Root fault)) so fits = so fault fits
fits_may may also left (Err (Output fault)) so fits = tt

module _ {W : Type 0} {seen : W → SinkView} {there : List ℕ → Type 0} {version : Version}
    {root : List ℕ} {notation : Notation} {keys : List (List ℕ)}
    {may : List (List ℕ) → RootFault → Type 0} where
  -- the root is not found
  pub keys_refused : {fault : RootFault} {old : W} → may keys fault → AreFoundByRoot there may
      version root notation keys (TakesAllFor seen old old) (Err (Root fault))
  keys_refused {old = old} lawful = record {
    records = [];
    ways = [];
    found = tt;
    stand = tt;
    left = keys;
    keys_are = refl;
    fits = lawful;
    took = record {
      unfailed = refl;
      took = λ k. sym (append-nil (seen old).taken);
      keeping = λ k. k;
      settled = λ before. before;
    };
  }

  -- what was written is flushed, and told of the version and the root of the reader
  pub keys_told : {near : List ℕ → Type 0} {by : List (List ℕ) → RootFault → Type 0} {v : Version}
      {r : List ℕ} {old mid new : W} {outcome told : Outcome} →
      AreFoundByRoot near by v r notation keys (TakesFor seen old mid) outcome →
      (v ≡ version) × (r ≡ root) →
      ((seen old).is_keeping ≡ true → (seen mid).is_keeping ≡ true) →
      IsSettledAs seen (Output outputs.Write) mid new outcome told →
      ((chunk : List ℕ) → near chunk → there chunk) →
      ((left : List (List ℕ)) (fault : RootFault) → by left fault → may left fault) →
      AreFoundByRoot there may version root notation keys (TakesAllFor seen old new) told
  keys_told {near = near} {by = by} {v = v} {old = old} {mid = mid} {new = new}
      {outcome = outcome} {told = told} d is keeping settled stands so =
      subst (λ v. AreFoundByRoot there may v root notation keys (TakesAllFor seen old new) told)
      is.0
      (subst (λ r. AreFoundByRoot there may v r notation keys (TakesAllFor seen old new) told) is.1
      (record {
        records = d.records;
        ways = d.ways;
        found = d.found;
        stand = all_also near there stands (joined d.ways) d.stand;
        left = d.left;
        keys_are = d.keys_are;
        fits = so_told seen (Output outputs.Write) mid new outcome told settled
            (FitsKeys may d.left) (fits_may by may d.left outcome (so d.left) d.fits) tt;
        took = taken_told seen old mid new keeping (found_lines notation d.records) outcome told
            settled d.took;
      }))

-- what was found is what the map has, or a chunk of the ways clashes
pub keys_right : WaysAreRight → KeysByRootAreRight
keys_right w version bits m [] [] rising lawful h = inl refl
keys_right w version bits m [] (way ∷ ways) rising lawful h = absurd h
keys_right w version bits m (r ∷ rs) [] rising lawful h = absurd h
keys_right w version bits m (r ∷ rs) (way ∷ ways) rising lawful h =
    let cs = chunk_bytes version bits m in
    elim (w version bits m r.key way r.value rising lawful h.0) [
      | inl same ↦ elim (keys_right w version bits m rs ways rising lawful h.1) [
        | inl others ↦ inl (ap (λ v. record { key = r.key; value = v } ∷ rs) same ∙
            ap (λ found. record { key = r.key; value = find m r.key } ∷ found) others)
        | inr clash ↦ inr (wider (joined ways) cs (way ++ joined ways) cs
            (λ c. in_back c way (joined ways)) (λ c h. h) clash)
      ]
      | inr clash ↦ inr (wider way cs (way ++ joined ways) cs (λ c. in_front c way (joined ways))
          (λ c h. h) clash)
    ]

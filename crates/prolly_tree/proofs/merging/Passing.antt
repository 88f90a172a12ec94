-- Overlays of lists that are cut at a key, and what of a map stays where changes are laid over it.
use Rattle.std.proofs.Common.{◌≡◌, ℕ, Bool, true, false, cond, List, [], ◌∷◌, ◌++◌}
use Rattle.std.proofs.Common.{Option, Some, None, Ordering, refl, sym, ap, ◌∙◌, subst, arith}
use Rattle.std.proofs.Common.{append-nil, ◌&&◌, not}
use Rattle.std.proofs.lemmas.List.{map-append}
use Rattle.std.proofs.lemmas.List.Elements.{filter-append}
use Rattle.std.proofs.lemmas.List.Concat.{flat_map-append}
use Rattle.std.specs.declared.cmp.Ordering.TheVariants.{Less, Equal, Greater}
use Rattle.std.specs.List.{AllByRecursion, filter}
use Rattle.std.specs.Ordering.{is_eq, is_lt}
use Rattle.prolly_entry.specs.Keys.{key_order, KeyBelow, Rising}
use Rattle.prolly_entry.specs.Overlay.{change_of, or_else, with_record_by, with_record}
use Rattle.prolly_entry.specs.Overlay.{with_records, raw_overlay, pairs_put, pairs_of_change}
use Rattle.prolly_entry.specs.Pair.{Pair}
use Rattle.prolly_entry.specs.Record.{Record, keys_of}
use Rattle.prolly_entry.specs.lemmas.Lists.{all_append}
use Rattle.prolly_entry.specs.lemmas.Orders.{order_trans, order_same, greater_below, less_self}
use Rattle.prolly_entry.specs.lemmas.Orders.{eq_true}
use Rattle.prolly_entry.specs.lemmas.Overlays.{same_lookups, found_raw, rising_raw}
use Rattle.prolly_entry.specs.lemmas.RisingRecords.{AllAbove, IsRising, is_rising, rising_is}
use Rattle.prolly_entry.specs.lemmas.RisingRecords.{found_above}
use Rattle.prolly_tree.specs.Difference.{IsMap, puts}
use Rattle.prolly_tree.specs.Merge.{Input, Stop, stop_at, earlier_stop, stop, is_within, stop_fault}
use Rattle.prolly_tree.specs.MergeSteps.{SaysOn}
use Rattle.prolly_tree.specs.Passing.{AllBehind, AllUpTo, OverlayAtKey, FrontStays}
use Rattle.prolly_tree.specs.Passing.{FrontStaysMerged}
use Rattle.prolly_entry.specs.Position.{last_position, is_before}
use Rattle.prolly_tree.proofs.merging.Joins.{within_earlier, earlier_none}
use Rattle.prolly_tree.specs.Tree.{last_key}
use Rattle.prolly_tree.specs.lemmas.Maps.{Above, Rises, rises, has_last, above_key, rises_front}
use Rattle.prolly_tree.specs.lemmas.Maps.{above_last}
use Rattle.prolly_tree.proofs.merging.Differences.{puts_rise}

-- ---- what holds of all records of lists, holds of all of their raw overlay

module _ (P : Record → Type 0) where
  all_with : (r : Record) (m : List Record) → P r → AllByRecursion P m →
      AllByRecursion P (with_record r m)
  all_with r [] h k = (h, tt)
  all_with r (s ∷ m) h k = go (key_order r.key s.key) (all_with r m h k.1)
    where
      go : (o : Ordering) → AllByRecursion P (with_record r m) →
          AllByRecursion P (with_record_by o r s m (with_record r m))
      go Less more = (h, k)
      go Equal more = (h, k.1)
      go Greater more = (k.0, more)

  all_with_all : (m rs : List Record) → AllByRecursion P m → AllByRecursion P rs →
      AllByRecursion P (with_records m rs)
  all_with_all m [] h k = h
  all_with_all m (r ∷ rs) h k = all_with_all (with_record r m) rs (all_with r m k.0 h) k.1

  all_raw_two : (a b : List Record) → AllByRecursion P a → AllByRecursion P b →
      AllByRecursion P (raw_overlay (a ∷ b ∷ []))
  unfolding raw_overlay
  all_raw_two a b h k = all_with_all [] (a ++ (b ++ [])) tt (all_append P a (b ++ []) h
      (all_append P b [] k tt))

-- ---- lists that are cut at a key

found_in_two : (xs ys : List Record) (key : List ℕ) →
    change_of (xs ++ ys) key ≡ or_else (change_of xs key) (change_of ys key)
found_in_two [] ys key = refl
found_in_two (r ∷ xs) ys key = go (is_eq (key_order r.key key)) (found_in_two xs ys key)
  where
    go : (b : Bool) → change_of (xs ++ ys) key ≡ or_else (change_of xs key) (change_of ys key) →
        cond b (Some r.value) (change_of (xs ++ ys) key) ≡
        or_else (cond b (Some r.value) (change_of xs key)) (change_of ys key)
    go true e = refl
    go false e = e

rising_front : (xs ys : List Record) → IsRising (xs ++ ys) → IsRising xs
rising_front [] ys h = tt
rising_front (x ∷ xs) ys h = (above_front xs h.0, rising_front xs ys h.1)
  where
    above_front : (zs : List Record) → AllAbove x.key (zs ++ ys) → AllAbove x.key zs
    above_front [] k = tt
    above_front (z ∷ zs) k = (k.0, above_front zs k.1)

rising_back : (xs ys : List Record) → IsRising (xs ++ ys) → IsRising ys
rising_back [] ys h = h
rising_back (x ∷ xs) ys h = rising_back xs ys h.1

module _ (key : List ℕ) where
  -- A key that is not above the key is below each that is.
  up_to_below : (x y : List ℕ) → (KeyBelow key x → ⊥) → KeyBelow key y → KeyBelow x y
  up_to_below x y h k = go (key_order x key) refl
    where
      go : (o : Ordering) → key_order x key ≡ o → KeyBelow x y
      go Less e = order_trans x key y e k
      go Equal e = subst (λ z. KeyBelow z y) (sym (order_same x key e)) k
      go Greater e = absurd (h (greater_below x key e))

  above_all : (x : List ℕ) (ys : List Record) → (KeyBelow key x → ⊥) → AllBehind key ys →
      AllAbove x ys
  above_all x [] h k = tt
  above_all x (y ∷ ys) h k = (up_to_below x y.key h k.0, above_all x ys h k.1)

  rising_two : (xs ys : List Record) → IsRising xs → IsRising ys → AllUpTo key xs →
      AllBehind key ys → IsRising (xs ++ ys)
  rising_two [] ys h k u b = k
  rising_two (x ∷ xs) ys h k u b = (
    above_two x.key xs h.0 (above_all x.key ys u.0 b),
    rising_two xs ys h.1 k u.1 b,
  )
    where
      above_two : (z : List ℕ) (rs : List Record) → AllAbove z rs → AllAbove z ys →
          AllAbove z (rs ++ ys)
      above_two z [] p q = q
      above_two z (r ∷ rs) p q = (p.0, above_two z rs p.1 q)

  -- Nothing is said of a key above by what has none above, nor of one that is not by what has.
  none_up_to : (xs : List Record) (q : List ℕ) → AllUpTo key xs → KeyBelow key q →
      change_of xs q ≡ None
  none_up_to [] q h k = refl
  none_up_to (x ∷ xs) q h k = rw (apart (is_eq (key_order x.key q)) refl) (none_up_to xs q h.1 k)
    where
      apart : (b : Bool) → is_eq (key_order x.key q) ≡ b → is_eq (key_order x.key q) ≡ false
      apart true e = absurd (h.0 (subst (λ z. KeyBelow key z)
          (sym (order_same x.key q (eq_true (key_order x.key q) e))) k))
      apart false e = e

  none_behind : (ys : List Record) (q : List ℕ) → AllBehind key ys → (KeyBelow key q → ⊥) →
      change_of ys q ≡ None
  none_behind ys q h k = found_above q ys (above_all q ys k h)

  abbrev Same : (v w x y : Option (Option (List ℕ))) → Type 0
  Same v w x y = or_else (or_else x y) (or_else v w) ≡ or_else (or_else x v) (or_else y w)

  front_words : {X : Type 0} (v w : Option X) → or_else (or_else w None) (or_else v None) ≡
      or_else (or_else w v) None
  front_words None None = refl
  front_words None (Some w) = refl
  front_words (Some v) None = refl
  front_words (Some v) (Some w) = refl

  -- What is said of a key comes from in front of the cut, or from behind it.
  words : (a b c d : List Record) (q : List ℕ) → AllUpTo key a → AllBehind key b →
      AllUpTo key c → AllBehind key d →
      or_else (or_else (change_of c q) (change_of d q)) (or_else (change_of a q) (change_of b q))
      ≡ or_else (or_else (change_of c q) (change_of a q)) (or_else (change_of d q) (change_of b q))
  words a b c d q h k l m = go (key_order key q) refl
    where
      in_front : (KeyBelow key q → ⊥) → Same (change_of a q) (change_of b q) (change_of c q)
          (change_of d q)
      in_front not_above = rw (none_behind b q k not_above, none_behind d q m not_above)
          (front_words (change_of a q) (change_of c q))

      behind : KeyBelow key q → Same (change_of a q) (change_of b q) (change_of c q)
          (change_of d q)
      behind above = rw (none_up_to a q h above, none_up_to c q l above) refl

      less_equal : Less ≡ Equal → ⊥
      less_equal e = cc

      less_greater : Less ≡ Greater → ⊥
      less_greater e = cc

      go : (o : Ordering) → key_order key q ≡ o → Same (change_of a q) (change_of b q)
          (change_of c q) (change_of d q)
      go Less e = behind e
      go Equal e = in_front (λ above. less_equal (sym above ∙ e))
      go Greater e = in_front (λ above. less_greater (sym above ∙ e))

  raw_at_key : (a b c d : List Record) → Rising (keys_of (a ++ b)) → Rising (keys_of (c ++ d)) →
      AllUpTo key a → AllBehind key b → AllUpTo key c → AllBehind key d →
      raw_overlay ((a ++ b) ∷ (c ++ d) ∷ []) ≡ raw_overlay (a ∷ c ∷ []) ++
      raw_overlay (b ∷ d ∷ [])
  raw_at_key a b c d h k ua bb uc bd =
      let ra : IsRising (a ++ b) = is_rising (a ++ b) h in
      let rc : IsRising (c ++ d) = is_rising (c ++ d) k in
      let fronts = raw_overlay (a ∷ c ∷ []) in
      let backs = raw_overlay (b ∷ d ∷ []) in
      same_lookups (raw_overlay ((a ++ b) ∷ (c ++ d) ∷ [])) (fronts ++ backs)
      (rising_raw ((a ++ b) ∷ (c ++ d) ∷ []))
      (rising_two fronts backs (rising_raw (a ∷ c ∷ [])) (rising_raw (b ∷ d ∷ []))
      (all_raw_two (λ r. KeyBelow key r.key → ⊥) a c ua uc)
      (all_raw_two (λ r. KeyBelow key r.key) b d bb bd))
      (λ q. found_raw ((a ++ b) ∷ (c ++ d) ∷ []) q (h, (k, tt))
      ∙ ap (λ w. or_else w (change_of (a ++ b) q)) (found_in_two c d q)
      ∙ ap (or_else (or_else (change_of c q) (change_of d q))) (found_in_two a b q)
      ∙ words a b c d q ua bb uc bd
      ∙ ap (λ w. or_else w (or_else (change_of d q) (change_of b q)))
      (sym (found_raw (a ∷ c ∷ []) q (
        rising_is a (rising_front a b ra),
        (rising_is c (rising_front c d rc), tt),
      )))
      ∙ ap (or_else (change_of fronts q)) (sym (found_raw (b ∷ d ∷ []) q (
        rising_is b (rising_back a b ra),
        (rising_is d (rising_back c d rc), tt),
      )))
      ∙ sym (found_in_two fronts backs q))

-- Two lists that are cut at one key may be overlaid in front of it and behind it.
pub overlay_at_key : OverlayAtKey
overlay_at_key key a b c d h k ua bb uc bd =
    let raw = raw_at_key key a b c d h k ua bb uc bd in (
      raw,
      ap pairs_put raw ∙ flat_map-append (λ r. pairs_of_change r.key r.value)
          (raw_overlay (a ∷ c ∷ [])) (raw_overlay (b ∷ d ∷ [])),
    )

-- ---- the first pairs of a map

-- No key of a map is above its last one.
up_to_last : (ps : List Pair) → Rises ps → AllUpTo (last_key ps) (puts ps)
up_to_last [] h = tt
up_to_last (p ∷ []) h = (less_self p.key, tt)
up_to_last (p ∷ q ∷ ps) h =
    let last : KeyBelow p.key (last_key (q ∷ ps)) =
    above_key p.key (last_key (q ∷ ps)) (q ∷ ps) h.0 (has_last q ps) in (
      λ above. less_self p.key (order_trans p.key (last_key (q ∷ ps)) p.key last above),
      up_to_last (q ∷ ps) h.1,
    )

puts_behind : (key : List ℕ) (ps : List Pair) → Above key ps → AllBehind key (puts ps)
puts_behind key [] h = tt
puts_behind key (p ∷ ps) h = (h.0, puts_behind key ps h.1)

put_pairs : (m : List Pair) → pairs_put (puts m) ≡ m
put_pairs [] = refl
put_pairs (p ∷ m) = ap (λ x. p ∷ x) (put_pairs m)

no_change : (a b : List Record) → a ++ (b ++ []) ≡ a ++ b
no_change a b = ap (λ x. a ++ x) (append-nil b)

-- Nothing laid over records leaves them.
raw_none : (a : List Record) → Rising (keys_of a) → raw_overlay (a ∷ [] ∷ []) ≡ a
raw_none a h = same_lookups (raw_overlay (a ∷ [] ∷ [])) a (rising_raw (a ∷ [] ∷ []))
    (is_rising a h) (λ q. found_raw (a ∷ [] ∷ []) q (h, (tt, tt)))

-- The first pairs of a map stay where no change has a key up to their last one.
raw_front : (p : Pair) (front rest : List Pair) (changes : List Record) →
    IsMap ((p ∷ front) ++ rest) → Rising (keys_of changes) →
    AllBehind (last_key (p ∷ front)) changes →
    raw_overlay (puts ((p ∷ front) ++ rest) ∷ changes ∷ []) ≡ puts (p ∷ front) ++
    raw_overlay (puts rest ∷ changes ∷ [])
raw_front p front rest changes h k behind =
    let key = last_key (p ∷ front) in
    let all : Rises ((p ∷ front) ++ rest) = rises ((p ∷ front) ++ rest) h in
    let put : puts ((p ∷ front) ++ rest) ≡ puts (p ∷ front) ++ puts rest =
    map-append (λ x. record { key = x.key; value = Some x.value }) (p ∷ front) rest in
    let rising : Rising (keys_of (puts (p ∷ front) ++ puts rest)) =
    subst (λ rs. Rising (keys_of rs)) put (puts_rise ((p ∷ front) ++ rest) h) in
    let front_rising : Rising (keys_of (puts (p ∷ front))) =
    rising_is (puts (p ∷ front)) (rising_front (puts (p ∷ front)) (puts rest)
    (is_rising (puts (p ∷ front) ++ puts rest) rising)) in
    ap (λ rs. raw_overlay (rs ∷ changes ∷ [])) put
    ∙ (overlay_at_key key (puts (p ∷ front)) (puts rest) [] changes rising k
    (up_to_last (p ∷ front) (rises_front (p ∷ front) rest all))
    (puts_behind key rest (above_last (p ∷ front) rest (omega arith) all)) tt behind).0
    ∙ ap (λ rs. rs ++ raw_overlay (puts rest ∷ changes ∷ [])) (raw_none (puts (p ∷ front))
    front_rising)

put_front : (front : List Pair) (rs : List Record) → pairs_put (puts front ++ rs) ≡ front ++
    pairs_put rs
put_front front rs = flat_map-append (λ r. pairs_of_change r.key r.value) (puts front) rs
    ∙ ap (λ ps. ps ++ pairs_put rs) (put_pairs front)

pub front_stays : FrontStays
front_stays [] rest changes h k some behind = absurd (omega arith)
front_stays (p ∷ front) rest changes h k some behind =
    ap pairs_put (raw_front p front rest changes h k behind)
    ∙ put_front (p ∷ front) (raw_overlay (puts rest ∷ changes ∷ []))

-- ---- and where either end may be a fault

all_kept : (t : List ℕ → Bool) (rs : List Record) → AllByRecursion (λ r. t r.key ≡ true) rs →
    filter (λ r. t r.key) rs ≡ rs
all_kept t [] h = refl
all_kept t (r ∷ rs) h = rw h.0 (ap (λ ss. r ∷ ss) (all_kept t rs h.1))

kept_alike : (t u : List ℕ → Bool) (rs : List Record) →
    AllByRecursion (λ r. t r.key ≡ u r.key) rs → filter (λ r. t r.key) rs ≡ filter (λ r. u r.key) rs
kept_alike t u [] h = refl
kept_alike t u (r ∷ rs) h = rw h.0 (ap (λ ss. cond (u r.key) (r ∷ ss) ss) (kept_alike t u rs h.1))

all_map : (P Q : Record → Type 0) (rs : List Record) → ((r : Record) → P r → Q r) →
    AllByRecursion P rs → AllByRecursion Q rs
all_map P Q [] f h = tt
all_map P Q (r ∷ rs) f h = (f r h.0, all_map P Q rs f h.1)

last_behind : (xs : List Record) (y : Record) (ys : List Record) →
    last_position (xs ++ y ∷ ys) ≡ last_position (y ∷ ys)
last_behind [] y ys = refl
last_behind (x ∷ []) y ys = refl
last_behind (x ∷ z ∷ xs) y ys = last_behind (z ∷ xs) y ys

last_put : (p : Pair) (ps : List Pair) → last_position (puts (p ∷ ps)) ≡ Some (last_key (p ∷ ps))
last_put p [] = refl
last_put p (q ∷ ps) = last_put q ps

-- The position of records that are all above a key is above it, where there are any.
last_above : (key : List ℕ) (r : Record) (rs : List Record) → AllBehind key (r ∷ rs) →
    (z : List ℕ) × (last_position (r ∷ rs) ≡ Some z) × KeyBelow key z
last_above key r [] h = (r.key, refl, h.0)
last_above key r (s ∷ rs) h = last_above key s rs h.1

not_before : (z q : List ℕ) → (KeyBelow z q → ⊥) → is_before (Some z) (Some q) ≡ false
not_before z q h = go (key_order z q) refl
  where
    go : (o : Ordering) → key_order z q ≡ o → is_lt (key_order z q) ≡ false
    go Less e = absurd (h e)
    go Equal e = ap is_lt e
    go Greater e = ap is_lt e

module _ {F : Type 0} (key : List ℕ) where
  -- A fault behind records above a key lets pass what is not above it.
  within_above : (rs : List Record) (f : Option F) (q : List ℕ) → AllBehind key rs →
      (rs ≡ [] → f ≡ None) → (KeyBelow key q → ⊥) →
      is_within (stop_at (last_position rs) f) q ≡ true
  within_above rs None q h s b = refl
  within_above [] (Some f) q h s b = absurd (some_none f (s refl))
    where
      some_none : (f : F) → Some f ≡ None → ⊥
      some_none f e = cc
  within_above (r ∷ rs) (Some f) q h s b =
      let l = last_above key r rs h in
      ap (λ p. not (is_before p (Some q))) l.1
      ∙ ap not (not_before l.0 q (λ less. b (order_trans key l.0 q l.2 less)))

  -- Behind pairs up to the key, a fault has the position of what follows, or that key.
  within_front : (p : Pair) (ps rest : List Pair) (f : Option F) (q : List ℕ) →
      last_key (p ∷ ps) ≡ key → Above key rest → (KeyBelow key q → ⊥) →
      is_within (stop_at (last_position (puts (p ∷ ps) ++ puts rest)) f) q ≡ true
  within_front p ps rest None q e h b = refl
  within_front p ps [] (Some f) q e h b =
      ap (λ rs. not (is_before (last_position rs) (Some q))) (append-nil (puts (p ∷ ps)))
      ∙ ap (λ o. not (is_before o (Some q))) (last_put p ps ∙ ap Some e)
      ∙ ap not (not_before key q b)
  within_front p ps (r ∷ rest) (Some f) q e h b =
      ap (λ o. not (is_before o (Some q))) (last_behind (puts (p ∷ ps))
      (record { key = r.key; value = Some r.value }) (puts rest))
      ∙ within_above (puts (r ∷ rest)) (Some f) q (puts_behind key (r ∷ rest) h)
      (λ bad. absurd (cons_nil bad)) b
    where
      cons_nil : puts (r ∷ rest) ≡ [] → ⊥
      cons_nil bad = cc

  within_rest : (p : Pair) (ps rest : List Pair) (f : Option F) (q : List ℕ) →
      last_key (p ∷ ps) ≡ key → KeyBelow key q →
      is_within (stop_at (last_position (puts (p ∷ ps) ++ puts rest)) f) q ≡
      is_within (stop_at (last_position (puts rest)) f) q
  within_rest p ps rest None q e b = refl
  within_rest p ps [] (Some f) q e b =
      ap (λ rs. not (is_before (last_position rs) (Some q))) (append-nil (puts (p ∷ ps)))
      ∙ ap (λ o. not (is_before o (Some q))) (last_put p ps ∙ ap Some e)
      ∙ ap (λ o. not (is_lt o)) b
  within_rest p ps (r ∷ rest) (Some f) q e b =
      ap (λ o. not (is_before o (Some q))) (last_behind (puts (p ∷ ps))
      (record { key = r.key; value = Some r.value }) (puts rest))

  same_fault : (p : Pair) (ps rest : List Pair) (f : Option F) (changes : Input F) →
      last_key (p ∷ ps) ≡ key → AllBehind key changes.records → SaysOn changes →
      stop_fault (earlier_stop (stop_at (last_position (puts (p ∷ ps) ++ puts rest)) f)
      (stop (changes ∷ []))) ≡
      stop_fault (earlier_stop (stop_at (last_position (puts rest)) f) (stop (changes ∷ [])))
  same_fault p ps rest None changes e b s = refl
  same_fault p ps [] (Some f) changes e b s =
      ap (λ rs. stop_fault (earlier_stop (stop_at (last_position rs) (Some f))
      (stop (changes ∷ [])))) (append-nil (puts (p ∷ ps)))
      ∙ ap (λ o. stop_fault (earlier_stop (stop_at o (Some f)) (stop (changes ∷ []))))
      (last_put p ps ∙ ap Some e)
      ∙ go changes.fault changes.records refl s b
    where
      none_some : (g : F) → Some g ≡ None → ⊥
      none_some g e = cc

      go : (g : Option F) (rs : List Record) → g ≡ g → (rs ≡ [] → g ≡ None) → AllBehind key rs →
          stop_fault (earlier_stop (stop_at (Some key) (Some f))
          (earlier_stop (stop_at (last_position rs) g) None)) ≡
          stop_fault (earlier_stop (stop_at None (Some f))
          (earlier_stop (stop_at (last_position rs) g) None))
      go None rs i n h = refl
      go (Some g) [] i n h = absurd (none_some g (n refl))
      go (Some g) (r ∷ rs) i n h =
          let l = last_above key r rs h in
          let at_key : is_before (last_position (r ∷ rs)) (Some key) ≡ false =
          ap (λ o. is_before o (Some key)) l.1 ∙ not_before l.0 key
          (λ less. less_self key (order_trans key l.0 key l.2 less)) in
          ap (λ b. stop_fault (cond b (Some (record { position = last_position (r ∷ rs); fault = g }))
          (Some (record { position = Some key; fault = f })))) at_key
  same_fault p ps (r ∷ rest) (Some f) changes e b s =
      ap (λ o. stop_fault (earlier_stop (stop_at o (Some f)) (stop (changes ∷ []))))
      (last_behind (puts (p ∷ ps)) (record { key = r.key; value = Some r.value }) (puts rest))

-- So the first pairs of a map are in the merged part as they are.
pub front_stays_merged : {F : Type 0} → FrontStaysMerged F
front_stays_merged [] rest f changes h k some b s = absurd (omega arith)
front_stays_merged {F} (p ∷ front) rest f changes h k some b s =
    let key = last_key (p ∷ front) in
    let all : Rises ((p ∷ front) ++ rest) = rises ((p ∷ front) ++ rest) h in
    let above : Above key rest = above_last (p ∷ front) rest (omega arith) all in
    let put : puts ((p ∷ front) ++ rest) ≡ puts (p ∷ front) ++ puts rest =
    map-append (λ x. record { key = x.key; value = Some x.value }) (p ∷ front) rest in
    let own : List Record → Option (Stop F) = λ rs. stop_at (last_position rs) f in
    let others : Option (Stop F) = stop (changes ∷ []) in
    let whole : Option (Stop F) = earlier_stop (own (puts (p ∷ front) ++ puts rest)) others in
    let left : Option (Stop F) = earlier_stop (own (puts rest)) others in
    let t : List ℕ → Bool = λ q. is_within whole q in
    let u : List ℕ → Bool = λ q. is_within left q in
    let fronts : AllByRecursion (λ r. t r.key ≡ true) (puts (p ∷ front)) =
    all_map (λ r. KeyBelow key r.key → ⊥) (λ r. t r.key ≡ true) (puts (p ∷ front))
    (λ r not_above. within_earlier (own (puts (p ∷ front) ++ puts rest)) others r.key
    ∙ both (within_front {F = F} key p front rest f r.key refl above not_above)
    (ap (λ o. is_within o r.key) (earlier_none (stop_at (last_position changes.records)
    changes.fault)) ∙ within_above {F = F} key changes.records changes.fault r.key b s not_above))
    (up_to_last (p ∷ front) (rises_front (p ∷ front) rest all)) in
    let merged = raw_overlay (puts rest ∷ changes.records ∷ []) in
    let rests : AllByRecursion (λ r. t r.key ≡ u r.key) merged =
    all_map (λ r. KeyBelow key r.key) (λ r. t r.key ≡ u r.key) merged
    (λ r is_above. within_earlier (own (puts (p ∷ front) ++ puts rest)) others r.key
    ∙ ap (λ w. w && is_within others r.key) (within_rest {F = F} key p front rest f r.key refl
    is_above)
    ∙ sym (within_earlier (own (puts rest)) others r.key))
    (all_raw_two (λ r. KeyBelow key r.key) (puts rest) changes.records
    (puts_behind key rest above) b) in (
      ap (λ rs. pairs_put (filter (λ r. is_within (earlier_stop (own rs) others) r.key)
          (raw_overlay (puts ((p ∷ front) ++ rest) ∷ changes.records ∷ [])))) put
          ∙ ap (λ rs. pairs_put (filter (λ r. t r.key) rs))
          (raw_front p front rest changes.records h k b)
          ∙ ap pairs_put (filter-append (λ r. t r.key) (puts (p ∷ front)) merged
          ∙ ap (λ rs. rs ++ filter (λ r. t r.key) merged) (all_kept t (puts (p ∷ front)) fronts)
          ∙ ap (λ rs. puts (p ∷ front) ++ rs) (kept_alike t u merged rests))
          ∙ put_front (p ∷ front) (filter (λ r. u r.key) merged),
      ap (λ rs. stop_fault (earlier_stop (own rs) others)) put
          ∙ same_fault {F = F} key p front rest f changes refl b s,
    )
  where
    both : {x y : Bool} → x ≡ true → y ≡ true → (x && y) ≡ true
    both e g = rw (e, g) refl

-- Maps by what they say of each key, and their differences.
use Rattle.std.proofs.Common.{◌≡◌, ℕ, Bool, true, false, cond, List, [], ◌∷◌, ◌++◌, map, Option}
use Rattle.std.proofs.Common.{Some, None, refl, sym, ap, ◌∙◌, subst}
use Rattle.std.specs.Ordering.{is_eq}
use Rattle.prolly_entry.specs.Keys.{key_order, Rising}
use Rattle.prolly_entry.specs.Overlay.{change_of, or_else, last_change_of, raw_overlay, pairs_put}
use Rattle.prolly_entry.specs.Overlay.{pairs_of_change, overlay, AllRising}
use Rattle.prolly_entry.specs.Pair.{Pair}
use Rattle.prolly_entry.specs.Record.{Record, keys_of}
use Rattle.prolly_entry.specs.lemmas.Orders.{order_same, eq_true, not_eq_above}
use Rattle.prolly_entry.specs.lemmas.Overlays.{found_raw, rising_raw, same_lookups, overlay_rises}
use Rattle.prolly_entry.specs.lemmas.RisingRecords.{AllAbove, IsRising, is_rising}
use Rattle.prolly_tree.specs.LookUp.{find}
use Rattle.prolly_tree.specs.Difference.{IsChangeTo, IsDifference, IsMap, puts, OneDifference}
use Rattle.prolly_tree.specs.Difference.{DifferenceTurns, EqualsDifferNowhere, DifferencesCompose}
use Rattle.prolly_tree.specs.Applying.{AppliedTwice, NoneApplied, FilesApply}
use Rattle.prolly_tree.specs.File.{file}
use Rattle.prolly_entry.specs.Cut.{Cut}
use Rattle.prolly_entry.specs.declared.version.Version.{Version}
use Rattle.prolly_entry.specs.lemmas.Lists.{head_is, tail_is}
use Rattle.prolly_tree.proofs.merging.Joins.{overlay_of_two}

-- ---- a map as the records that put its pairs

put_keys : (m : List Pair) → keys_of (puts m) ≡ map (λ p. p.key) m
put_keys [] = refl
put_keys (p ∷ m) = ap (λ ks. p.key ∷ ks) (put_keys m)

-- The records that put the pairs of a map rise.
pub puts_rise : (m : List Pair) → IsMap m → Rising (keys_of (puts m))
puts_rise m h = subst Rising (sym (put_keys m)) h

-- What a value that is found, or none, says of its key.
as_change : Option (List ℕ) → Option (Option (List ℕ))
as_change None = None
as_change (Some v) = Some (Some v)

puts_say : (m : List Pair) (key : List ℕ) → change_of (puts m) key ≡ as_change (find m key)
unfolding as_change
puts_say [] key = refl
puts_say (p ∷ m) key = go (is_eq (key_order p.key key)) (puts_say m key)
  where
    go : (b : Bool) → change_of (puts m) key ≡ as_change (find m key) →
        cond b (Some (Some p.value)) (change_of (puts m) key) ≡
        as_change (cond b (Some p.value) (find m key))
    go true e = refl
    go false e = e

same_puts : (m n : List Pair) → puts m ≡ puts n → m ≡ n
same_puts [] [] e = refl
same_puts [] (q ∷ n) e = absurd (let bad : ◌≡◌ {A = List Record} []
    (record { key = q.key; value = Some q.value } ∷ puts n) = e in cc)
same_puts (p ∷ m) [] e = absurd (let bad : ◌≡◌ {A = List Record}
    (record { key = p.key; value = Some p.value } ∷ puts m) [] = e in cc)
same_puts (p ∷ m) (q ∷ n) e =
    let r : Pair → Record = λ p. record { key = p.key; value = Some p.value } in
    let same : r p ≡ r q = head_is (r p) (r q) (puts m) (puts n) e in
    ap (λ x. x ∷ m) (same_pair p q (ap (λ x. x.key) same)
    (some_is p.value q.value (ap (λ x. x.value) same)))
    ∙ ap (λ x. q ∷ x) (same_puts m n (tail_is (r p) (r q) (puts m) (puts n) e))
  where
    some_is : (x y : List ℕ) → Some x ≡ Some y → x ≡ y
    some_is x y e = cc

    same_pair : (p q : Pair) → p.key ≡ q.key → p.value ≡ q.value → p ≡ q
    same_pair p q e f = let P : List ℕ → List ℕ → Type 0 =
        λ k v. ◌≡◌ {A = Pair} p (record { key = k; value = v }) in
        subst (λ v. P q.key v) f (subst (λ k. P k p.value) e refl)

-- Maps in which each key is found alike are the same.
pub same_finds : (m n : List Pair) → IsMap m → IsMap n →
    ((key : List ℕ) → find m key ≡ find n key) → m ≡ n
same_finds m n h k same = same_puts m n (same_lookups (puts m) (puts n)
    (is_rising (puts m) (puts_rise m h)) (is_rising (puts n) (puts_rise n k))
    (λ key. puts_say m key ∙ ap as_change (same key) ∙ sym (puts_say n key)))

-- ---- what an overlay finds

-- What is found of a key after a word about it: the value that it puts, or none.
abbrev found_by : Option (Option (List ℕ)) → Option (List ℕ)
found_by None = None
found_by (Some value) = value

none_put : (x : List ℕ) (rs : List Record) → AllAbove x rs → find (pairs_put rs) x ≡ None
none_put x [] h = refl
none_put x (r ∷ rs) h = go r.value (none_put x rs h.1)
  where
    go : (v : Option (List ℕ)) → find (pairs_put rs) x ≡ None →
        find (pairs_of_change r.key v ++ pairs_put rs) x ≡ None
    go None more = more
    go (Some v) more = rw (not_eq_above x r.key h.0) more

put_finds : (rs : List Record) (key : List ℕ) → IsRising rs →
    find (pairs_put rs) key ≡ found_by (change_of rs key)
put_finds [] key h = refl
put_finds (r ∷ rs) key h = go r.value (is_eq (key_order r.key key)) refl (put_finds rs key h.1)
  where
    go : (v : Option (List ℕ)) (b : Bool) → is_eq (key_order r.key key) ≡ b →
        find (pairs_put rs) key ≡ found_by (change_of rs key) →
        find (pairs_of_change r.key v ++ pairs_put rs) key ≡
        found_by (cond b (Some v) (change_of rs key))
    go None true e more = none_put key rs (subst (λ k. AllAbove k rs)
        (order_same r.key key (eq_true (key_order r.key key) e)) h.0)
    go None false e more = more
    go (Some v) true e more = ap (λ b. cond b (Some v) (find (pairs_put rs) key)) e
    go (Some v) false e more = ap (λ b. cond b (Some v) (find (pairs_put rs) key)) e ∙ more

-- An overlay has of a key what the last list that has it says.
pub overlay_finds : (lists : List (List Record)) (key : List ℕ) → AllRising lists →
    find (overlay lists) key ≡ found_by (last_change_of lists key)
overlay_finds lists key h = put_finds (raw_overlay lists) key (rising_raw lists) ∙
    ap found_by (found_raw lists key h)

-- ---- differences

-- A word that is a change from what was found leads to what is to be found.
word_turns : (before after : Option (List ℕ)) (word : Option (Option (List ℕ))) →
    IsChangeTo before after word →
    found_by (or_else word (as_change before)) ≡ after
unfolding as_change
word_turns None after None e = e
word_turns (Some v) after None e = e
word_turns before after (Some said) e = e.0

-- The overlay of a map alone is the map.
pub overlay_alone : (m : List Pair) → IsMap m → overlay (puts m ∷ []) ≡ m
overlay_alone m h = same_finds (overlay (puts m ∷ [])) m (overlay_rises (puts m ∷ [])) h
    (λ key. overlay_finds (puts m ∷ []) key (puts_rise m h, tt) ∙ ap found_by (puts_say m key) ∙
    word_turns (find m key) (find m key) None refl)

turns : (m after : List Pair) (d : List Record) → IsMap m → IsDifference m after d →
    (key : List ℕ) →
    found_by (or_else (change_of d key) (change_of (puts m) key)) ≡ find after key
turns m after d h k key = ap (λ w. found_by (or_else (change_of d key) w)) (puts_say m key) ∙
    word_turns (find m key) (find after key) (change_of d key) (k.says key)

pub difference_turns : DifferenceTurns
difference_turns old new d h k is = same_finds (overlay (puts old ∷ d ∷ [])) new
    (overlay_rises (puts old ∷ d ∷ [])) k
    (λ key. overlay_finds (puts old ∷ d ∷ []) key (puts_rise old h, (is.rising, tt)) ∙
    turns old new d h is key)

same_words : (before after : Option (List ℕ)) (v w : Option (Option (List ℕ))) →
    IsChangeTo before after v → IsChangeTo before after w → v ≡ w
same_words before after None None h k = refl
same_words before after None (Some w) h k = absurd (k.1 h)
same_words before after (Some v) None h k = absurd (h.1 k)
same_words before after (Some v) (Some w) h k = ap Some (h.0 ∙ sym k.0)

pub one_difference : OneDifference
one_difference old new d e h k = same_lookups d e (is_rising d h.rising) (is_rising e k.rising)
    (λ key. same_words (find old key) (find new key) (change_of d key) (change_of e key)
    (h.says key) (k.says key))

pub equals_differ_nowhere : EqualsDifferNowhere
equals_differ_nowhere old new h k = (
  λ e. record { rising = tt; says = λ key. ap (λ m. find m key) e },
  λ d. same_finds old new h k (λ key. d.says key),
)

-- The word of the last list counts, whatever the first one said.
later_word : (w v u : Option (Option (List ℕ))) →
    found_by (or_else (or_else w v) u) ≡ found_by (or_else w (or_else v u))
later_word None v u = refl
later_word (Some w) v u = refl

-- A word about what another word led to.
over_word : (w v u : Option (Option (List ℕ))) (before : Option (List ℕ)) →
    found_by (or_else v u) ≡ before →
    found_by (or_else w (or_else v u)) ≡ found_by (or_else w (as_change before))
unfolding as_change
over_word (Some w) v u before e = refl
over_word None v u None e = e
over_word None v u (Some x) e = e

pub differences_compose : DifferencesCompose
differences_compose a b c d e h k l first second =
    same_finds (overlay (puts a ∷ d ∷ e ∷ [])) c (overlay_rises (puts a ∷ d ∷ e ∷ [])) l
    (λ key. overlay_finds (puts a ∷ d ∷ e ∷ []) key (
      puts_rise a h,
      (first.rising, (second.rising, tt)),
    )
    ∙ later_word (change_of e key) (change_of d key) (change_of (puts a) key)
    ∙ over_word (change_of e key) (change_of d key) (change_of (puts a) key) (find b key)
    (turns a b d h first key)
    ∙ word_turns (find b key) (find c key) (change_of e key) (second.says key))

-- To lay changes over what came of others is to lay both over the map, or their overlay.
pub applied_twice : AppliedTwice
applied_twice m d e h r s =
    let n = overlay (puts m ∷ d ∷ []) in
    let one : (key : List ℕ) → found_by (or_else (change_of d key) (change_of (puts m) key)) ≡
    find n key = λ key. sym (overlay_finds (puts m ∷ d ∷ []) key (puts_rise m h, (r, tt))) in (
      same_finds (overlay (puts n ∷ e ∷ [])) (overlay (puts m ∷ d ∷ e ∷ []))
          (overlay_rises (puts n ∷ e ∷ [])) (overlay_rises (puts m ∷ d ∷ e ∷ []))
          (λ key. overlay_finds (puts n ∷ e ∷ []) key (
            puts_rise n (overlay_rises (puts m ∷ d ∷ [])),
            (s, tt),
          )
          ∙ ap (λ w. found_by (or_else (change_of e key) w)) (puts_say n key)
          ∙ sym (over_word (change_of e key) (change_of d key) (change_of (puts m) key)
          (find n key) (one key))
          ∙ sym (later_word (change_of e key) (change_of d key) (change_of (puts m) key))
          ∙ sym (overlay_finds (puts m ∷ d ∷ e ∷ []) key (puts_rise m h, (r, (s, tt))))),
      ap pairs_put (overlay_of_two (puts m ∷ []) [] d e (puts_rise m h, (r, (s, tt)))),
    )

-- No changes leave a map as it is.
pub none_applied : NoneApplied
none_applied m h = same_finds (overlay (puts m ∷ [] ∷ [])) m (overlay_rises (puts m ∷ [] ∷ [])) h
    (λ key. overlay_finds (puts m ∷ [] ∷ []) key (puts_rise m h, (tt, tt))
    ∙ ap found_by (puts_say m key) ∙ word_turns (find m key) (find m key) None refl)

-- So it is of the files.
pub files_apply : (cut : Cut) (version : Version) → FilesApply cut version
files_apply cut version = (
  λ m h. ap (file cut version) (none_applied m h),
  λ old new d h k is. ap (file cut version) (difference_turns old new d h k is),
  λ m d e h r s.
      let twice = applied_twice m d e h r s in
      ap (file cut version) (twice.0 ∙ twice.1),
)

-- The child of a node that a look-up goes on in.
use Rattle.std.proofs.Common.{rules, ◌≡◌, ℕ, suc, ◌+◌, ◌-◌, ◌^◌, ◌<◌, ◌≤◌, nat_lt, inl, inr, Bool}
use Rattle.std.proofs.Common.{true, false, cond, List, [], ◌∷◌, ◌++◌, length, map, Option, Some}
use Rattle.std.proofs.Common.{None, refl, sym, ap, ◌∙◌, subst, arith, drop, append_assoc}
use Rattle.std.specs.List.{AllByRecursion, flat_map}
use Rattle.std.specs.Ordering.{is_lt}
use Rattle.std.specs.Prelude.{option_map}
use Rattle.std.proofs.lemmas.Bool.{cases_Bool, cond-true, ltb-false, ltb-true}
use Rattle.std.proofs.lemmas.Grind.{common_steps}
use Rattle.std.proofs.lemmas.List.{length-append, drop-drop, length-drop}
use Rattle.std.proofs.lemmas.Nat.{from_be_bytes-to_be_bytes_8}
use Rattle.prolly_entry.specs.Keys.{key_order, KeyBelow, Rising, RisingFrom}
use Rattle.prolly_entry.specs.Pair.{Pair}
use Rattle.prolly_entry.specs.Reference.{reference_of}
use Rattle.prolly_entry.specs.declared.version.Version.{Version}
use Rattle.prolly_entry.specs.declared.version.Version.TheVariants.{Two}
use Rattle.prolly_entry.specs.lemmas.Lists.{all_append}
use Rattle.prolly_entry.specs.lemmas.Orders.{order_trans}
use Rattle.prolly_tree.specs.Tree.{Tree, bytes_of, greatest_key, pair_count, pairs_below}
use Rattle.prolly_tree.specs.lemmas.Maps.{Rises, rises_back, rises_front}
use Rattle.prolly_look_up.specs.MapTree.{NodeFull, child_of}
use Rattle.prolly_look_up.specs.Entries.{Child, IsNode, children_in}
use Rattle.prolly_look_up.specs.PairsFrom.{pairs_from}
use Rattle.prolly_look_up.specs.Sought.{Sought, child_sought, reference_and_sought, IsMark}
use Rattle.prolly_look_up.specs.Sought.Sought.{Key, Number}
use Rattle.prolly_look_up.specs.declared.sought.Mark.{Mark}
use Rattle.prolly_look_up.specs.lemmas.PairsFrom.{all_below, some_from}
use Rattle.prolly_look_up.specs.lemmas.RisingKeys.{is_less}

-- ---- what is sought in pairs, and in trees

-- The pairs are past what is sought, which is this behind them.
abbrev pub IsPast : Sought → List Pair → Sought → Type 0
IsPast (Key key) before (Key other) =
    AllByRecursion (λ p. KeyBelow p.key key) before × (other ≡ key)
IsPast (Key key) before (Number ahead) = ⊥
IsPast (Number n) before (Key other) = ⊥
IsPast (Number n) before (Number ahead) = n ≡ length before + ahead

-- It is not behind all of these pairs.
abbrev pub Has : Sought → List Pair → Type 0
Has (Key key) pairs = pairs_from key pairs ≡ [] → ⊥
Has (Number n) pairs = n < length pairs

-- It is behind all of them.
abbrev pub AllPast : Sought → List Pair → Type 0
AllPast (Key key) pairs = AllByRecursion (λ p. KeyBelow p.key key) pairs
AllPast (Number n) pairs = length pairs ≤ n

-- It can be found in trees of the version, whose counts tell how many of these pairs are below them
abbrev pub CanCount : Version → Sought → List Pair → Type 0
CanCount version (Key key) pairs = Unit {0}
CanCount version (Number n) pairs = (version ≡ Two) × (length pairs < 2 ^ 64)

-- A look-up goes on in one of these trees, which has this reference, and seeks this there.
pub record ChosenIn (version : Version) (level : ℕ) (trees : List (Tree level))
    (sought next : Sought) (reference : List ℕ) : Type 0 where
  pub before : List (Tree level)
  pub child : Tree level
  pub after : List (Tree level)
  pub is : trees ≡ before ++ child ∷ after
  pub named : reference ≡ reference_of (bytes_of version level child)
  pub past : IsPast sought (flat_map (pairs_below level) before) next
  pub has : Has next (pairs_below level child)

-- ---- pairs behind pairs

pub past_none : (sought : Sought) → IsPast sought [] sought
past_none (Key key) = (tt, refl)
past_none (Number n) = omega arith

pub past_more : (sought there next : Sought) (xs ys : List Pair) → IsPast sought xs there →
    IsPast there ys next → IsPast sought (xs ++ ys) next
past_more (Key key) (Key same) (Key other) xs ys h k = grind (arith, all_append)
past_more (Key key) (Key same) (Number n) xs ys h k = absurd k
past_more (Key key) (Number n) next xs ys h k = absurd h
past_more (Number n) (Key key) next xs ys h k = absurd h
past_more (Number n) (Number k) (Key key) xs ys h l = absurd l
past_more (Number n) (Number k) (Number i) xs ys h l = omega (arith, h, l, length-append xs ys)

-- ---- the tree that it goes on in

pub none_left : (sought : Sought) → child_sought sought [] ≡ None
none_left (Key key) = refl
none_left (Number n) = refl

-- Two that are the same, if there, are the same.
pub one_same : {A : Type 0} (x y : A) → ◌≡◌ {A = Option A} (Some x) (Some y) → x ≡ y
one_same x y e = cc

module _ (version : Version) (level : ℕ) where
  abbrev below : List (Tree level) → List Pair
  below trees = flat_map (pairs_below level) trees

  abbrev read : List (Tree level) → List Child
  read trees = map (child_of version level) trees

  -- it is the first one
  in_first : (t : Tree level) (trees : List (Tree level)) (sought next : Sought)
      (reference : List ℕ) → ◌≡◌ {A = Option (List ℕ × Sought)}
      (Some (reference_of (bytes_of version level t), sought)) (Some (reference, next)) →
      Has sought (pairs_below level t) → ChosenIn version level (t ∷ trees) sought next reference
  in_first t trees sought next reference e has =
      let same = one_same (reference_of (bytes_of version level t), sought) (reference, next) e in
      subst (λ next. ChosenIn version level (t ∷ trees) sought next reference)
      (ap (λ x. x.1) same) (record {
        before = [];
        child = t;
        after = trees;
        is = refl;
        named = sym (ap (λ x. x.0) same);
        past = past_none sought;
        has = has;
      })

  -- it is behind the first one
  in_others : (t : Tree level) (trees : List (Tree level)) (sought there next : Sought)
      (reference : List ℕ) → IsPast sought (pairs_below level t) there →
      ChosenIn version level trees there next reference →
      ChosenIn version level (t ∷ trees) sought next reference
  in_others t trees sought there next reference past c = record {
    before = t ∷ c.before;
    child = c.child;
    after = c.after;
    is = ap (λ ts. t ∷ ts) c.is;
    named = c.named;
    past = past_more sought there next (pairs_below level t) (below c.before) past c.past;
    has = c.has;
  }

  -- the count is read as it is
  count_is : (t : Tree level) → version ≡ Two → pair_count level t < 2 ^ 64 →
      (child_of version level t).count ≡ pair_count level t
  count_is t two few = ap (λ v. (child_of v level t).count) two ∙
      from_be_bytes-to_be_bytes_8 (pair_count level t) few

  module _ (t : Tree level) (trees : List (Tree level)) where
    abbrev child : Child
    child = child_of version level t

    for_key : (key : List ℕ) (b : Bool) → is_lt (key_order (greatest_key level t) key) ≡ b →
        child_sought (Key key) (read (t ∷ trees)) ≡
        cond b (child_sought (Key key) (read trees)) (Some (child, Key key))
    for_key key b e =
        ap (λ b. cond b (child_sought (Key key) (read trees)) (Some (child, Key key))) e

    for_number : (n : ℕ) (b : Bool) → nat_lt n child.count ≡ b →
        child_sought (Number n) (read (t ∷ trees)) ≡
        cond b (Some (child, Number n)) (child_sought (Number (n - child.count)) (read trees))
    for_number n b e = ap (λ b. cond b (Some (child, Number n))
        (child_sought (Number (n - child.count)) (read trees))) e

  pub chosen : (trees : List (Tree level)) (sought next : Sought) (reference : List ℕ) →
      Rises (below trees) → NodeFull (suc level) trees → CanCount version sought (below trees) →
      option_map reference_and_sought (child_sought sought (read trees)) ≡ Some (reference, next) →
      ChosenIn version level trees sought next reference
  chosen [] (Key key) next reference r full can e = cc
  chosen [] (Number n) next reference r full can e = cc
  chosen (t ∷ trees) (Key key) next reference r full can e =
      let own = pairs_below level t in
      let order = key_order (greatest_key level t) key in
      elim (cases_Bool (is_lt order)) [
        | inl past ↦ in_others t trees (Key key) (Key key) next reference
            (all_below own key (rises_front own (below trees) r) (is_less order past), refl)
            (chosen trees (Key key) next reference (rises_back own (below trees) r) full.1 can
            (sym (ap (option_map reference_and_sought) (for_key t trees key true past)) ∙ e))
        | inr here ↦ in_first t trees (Key key) next reference
            (sym (ap (option_map reference_and_sought) (for_key t trees key false here)) ∙ e)
            (some_from key own full.0.0 here)
      ]
  chosen (t ∷ trees) (Number n) next reference r full can e =
      let own = pairs_below level t in
      let size = length-append own (below trees) in
      let few = can.1 in
      let count = (child_of version level t).count in
      let is = count_is t can.0 (omega arith) in
      elim (cases_Bool (nat_lt n count)) [
        | inl here ↦
            let under = ltb-true n count here in
            in_first t trees (Number n) next reference
            (sym (ap (option_map reference_and_sought) (for_number t trees n true here)) ∙ e)
            (omega arith)
        | inr past ↦
            let over = ltb-false n count past in
            in_others t trees (Number n) (Number (n - count)) next reference (omega arith)
            (chosen trees (Number (n - count)) next reference (rises_back own (below trees) r)
            full.1 (can.0, omega arith)
            (sym (ap (option_map reference_and_sought) (for_number t trees n false past)) ∙ e))
      ]

  pub none_chosen : (trees : List (Tree level)) (sought : Sought) → Rises (below trees) →
      CanCount version sought (below trees) → child_sought sought (read trees) ≡ None →
      AllPast sought (below trees)
  none_chosen [] (Key key) r can e = tt
  none_chosen [] (Number n) r can e = omega arith
  none_chosen (t ∷ trees) (Key key) r can e =
      let own = pairs_below level t in
      let order = key_order (greatest_key level t) key in
      elim (cases_Bool (is_lt order)) [
        | inl past ↦ all_append (λ p. KeyBelow p.key key) own (below trees)
            (all_below own key (rises_front own (below trees) r) (is_less order past))
            (none_chosen trees (Key key) (rises_back own (below trees) r) can
            (sym (for_key t trees key true past) ∙ e))
        | inr here ↦
            let no = sym (for_key t trees key false here) ∙ e in cc
      ]
  none_chosen (t ∷ trees) (Number n) r can e =
      let own = pairs_below level t in
      let size = length-append own (below trees) in
      let few = can.1 in
      let count = (child_of version level t).count in
      let is = count_is t can.0 (omega arith) in
      elim (cases_Bool (nat_lt n count)) [
        | inl here ↦
            let no = sym (for_number t trees n true here) ∙ e in cc
        | inr past ↦
            let rest = none_chosen trees (Number (n - count)) (rises_back own (below trees) r)
            (can.0, omega arith) (sym (for_number t trees n false past) ∙ e) in
            let over = ltb-false n count past in
            omega arith
      ]

-- ---- children below a key

abbrev keys : List Child → List (List ℕ)
keys children = map (λ c. c.key) children

rising_rest : (x : List ℕ) (xs : List (List ℕ)) → RisingFrom x xs → Rising xs
rising_rest x [] rising = tt
rising_rest x (y ∷ ys) rising = rising.1

module _ (child : Child) (others : List Child) where
  before_it : (x : List ℕ) (before : List Child) →
      RisingFrom x (keys (before ++ child ∷ others)) → KeyBelow x child.key
  before_it x [] rising = rising.0
  before_it x (b ∷ before) rising = search (rules, order_trans, before_it b.key before rising.1)

  -- where one of rising children is below the key, those before it are, too
  pub passed_over : (key : List ℕ) (before : List Child) →
      Rising (keys (before ++ child ∷ others)) → KeyBelow child.key key →
      child_sought (Key key) (before ++ child ∷ others) ≡ child_sought (Key key) (child ∷ others)
  passed_over key [] rising below = refl
  passed_over key (b ∷ before) rising below = search (
    rules,
    common_steps,
    cond-true,
    order_trans,
    before_it,
    rising_rest,
    passed_over key before (rising_rest b.key (keys (before ++ child ∷ others)) rising) below,
  )

-- ---- marks

-- Behind the child that stands there.
module _ (version : Version) (chunk : List ℕ) (mark : Mark) (is : IsMark version chunk mark)
    (child : Child) (entries rest : List ℕ) (are : entries ≡ drop mark.offset chunk)
    (first : children_in version entries ≡ child ∷ children_in version rest)
    (shorter : length rest < length entries)
    (behind : rest ≡ drop (length entries - length rest) entries)
    (node : IsNode version rest []) where
  size : length entries ≡ length chunk - mark.offset
  size = ap length are ∙ length-drop mark.offset chunk

  rest_there : rest ≡ drop (length chunk - length rest) chunk
  rest_there = grind (arith, drop-drop, size)

  pub mark_behind : (next : Mark) → next.number ≡ mark.number + 1 →
      next.offset ≡ length chunk - length rest → IsMark version chunk next
  mark_behind next number offset_is =
      let there : rest ≡ drop next.offset chunk =
      rest_there ∙ ap (λ n. drop n chunk) (sym offset_is) in record {
        before = is.before ++ child ∷ [];
        are = is.are ∙ ap (λ cs. is.before ++ cs)
            (ap (children_in version) (sym are) ∙ first ∙
            ap (λ bytes. child ∷ children_in version bytes) there) ∙
            sym (append_assoc is.before (child ∷ []) (children_in version (drop next.offset chunk)));
        number = omega (arith, number, is.number, length-append is.before (child ∷ []));
        node = λ whole. subst (λ bytes. IsNode version bytes []) there node;
        few = omega (arith, number, offset_is, is.few, is.within, shorter, size);
        within = omega (arith, offset_is);
      }

-- From a mark behind which a child is below the key.
pub begins_there : (version : Version) (chunk : List ℕ) (mark : Mark) →
    IsMark version chunk mark → (child : Child) (others : List Child) →
    children_in version (drop mark.offset chunk) ≡ child ∷ others → (key : List ℕ) →
    Rising (keys (children_in version (drop 1 chunk))) → KeyBelow child.key key →
    child_sought (Key key) (children_in version (drop 1 chunk)) ≡
    child_sought (Key key) (children_in version (drop mark.offset chunk))
begins_there version chunk mark is child others first key rising below = search (rules, passed_over)

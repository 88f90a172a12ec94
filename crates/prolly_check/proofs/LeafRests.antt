-- What is left of a map, leaf by leaf, and what was written of it.
use Rattle.std.proofs.Common.{rules, ◌≡◌, ℕ, ◌+◌, ◌<◌, Bool, true, false, not, cond, List, [], ◌∷◌}
use Rattle.std.proofs.Common.{◌++◌, length, drop, take, get_or, refl, sym, ap, ◌∙◌, subst, arith}
use Rattle.std.proofs.Common.{take-append-drop, Ok, Err, append_assoc}
use Rattle.std.specs.List.{flat_map}
use Rattle.std.specs.Ordering.{is_lt}
use Rattle.std.proofs.Math.Seq.{drop-cons}
use Rattle.std.proofs.lemmas.List.{drop_all}
use Rattle.std.proofs.lemmas.List.Concat.{flat_map-append}
use Rattle.prolly_entry.specs.Keys.{KeyBelow, key_order}
use Rattle.prolly_entry.specs.Pair.{Pair}
use Rattle.prolly_entry.specs.Spelling.{pair_spelling}
use Rattle.prolly_entry.specs.lemmas.Lists.{all_back, all_front}
use Rattle.prolly_entry.specs.lemmas.Orders.{less_self}
use Rattle.prolly_tree.specs.RecordFile.{record_file}
use Rattle.prolly_tree.specs.Tree.{last_key}
use Rattle.prolly_tree.specs.lemmas.Maps.{Above, Rises, rises, rises_back}
use Rattle.prolly_io.specs.Sink.{SinkView, TakesPrefix}
use Rattle.prolly_io.specs.Writes.{Writes}
use Rattle.prolly_check.specs.Chunks.{HasFile}
use Rattle.prolly_look_up.specs.Content.{chunks_of, Content}
use Rattle.prolly_look_up.specs.HeldPairs.{pairs_held}
use Rattle.prolly_look_up.specs.PairsFrom.{pairs_from}
use Rattle.prolly_look_up.specs.ScanWay.{AreFirstFrom, next_key}
use Rattle.prolly_look_up.specs.lemmas.HeldPairs.{map_holds}
use Rattle.prolly_look_up.specs.lemmas.PairsFrom.{above_some, from_all, pairs_from-append}

-- the pairs of the next chunk
held_next : (chunks : List (List ℕ)) (number : ℕ) (held : List Pair) → number < length chunks →
    held ≡ pairs_held (get_or chunks number []) →
    flat_map pairs_held (drop number chunks) ≡ held ++
    flat_map pairs_held (drop (number + 1) chunks)
held_next chunks number held within e = grind (arith, drop-cons)

-- ---- what is left of a map from a key on, leaf by leaf

-- the first of rising pairs from a key on are those of a part that has some: so none stands before it
above_from : (x key : List ℕ) (ps : List Pair) → Above x ps → Above x (pairs_from key ps)
above_from x key [] h = tt
above_from x key (p ∷ ps) h = grind (arith, above_from x key ps h.1)

not_first : (x : Pair) (found xs rest : List Pair) → Above x.key found → x ∷ xs ≡ found ++ rest →
    (found ≡ [] → ⊥) → ⊥
not_first x [] xs rest above e some = some refl
not_first x (p ∷ ps) xs rest above e some = grind (arith, less_self)

first_leaf : (key : List ℕ) (xs leaf ys rest : List Pair) → Rises (xs ++ (leaf ++ ys)) →
    pairs_from key (xs ++ (leaf ++ ys)) ≡ pairs_from key leaf ++ rest →
    (pairs_from key leaf ≡ [] → ⊥) → pairs_from key xs ≡ []
first_leaf key [] leaf ys rest r e some = refl
first_leaf key (x ∷ xs) leaf ys rest r e some = go (is_lt (key_order x.key key))
    (λ e. first_leaf key xs leaf ys rest r.1 e some) e
  where
    go : (b : Bool) → (pairs_from key (xs ++ (leaf ++ ys)) ≡ pairs_from key leaf ++ rest →
        pairs_from key xs ≡ []) →
        cond (not b) (x ∷ pairs_from key (xs ++ (leaf ++ ys)))
        (pairs_from key (xs ++ (leaf ++ ys))) ≡ pairs_from key leaf ++ rest →
        cond (not b) (x ∷ pairs_from key xs) (pairs_from key xs) ≡ []
    go true more e = more e
    go false more e = absurd (not_first x (pairs_from key leaf)
        (pairs_from key (xs ++ (leaf ++ ys))) rest (above_from x.key key leaf
        (all_front (λ p. KeyBelow x.key p.key) leaf ys
        (all_back (λ p. KeyBelow x.key p.key) xs (leaf ++ ys) r.0))) e some)

-- the chunks from a number on hold the last pairs of the map
module _ (content : Content) (f : HasFile content) (number : ℕ) where
  abbrev behind : ℕ → List Pair
  behind n = flat_map pairs_held (drop n (chunks_of content))

  abbrev front : List Pair
  front = flat_map pairs_held (take number (chunks_of content))

  in_front : content.pairs ≡ front ++ behind number
  in_front =
      let cs = chunks_of content in
      sym (map_holds content.version content.bits content.pairs f.is.lawful).are ∙
      ap (flat_map pairs_held) (sym (take-append-drop number cs)) ∙
      flat_map-append pairs_held (take number cs) (drop number cs)

  rest_rises : Rises (behind number)
  rest_rises = search (rules, rises_back, in_front, rises)

  module _ (within : number < length (chunks_of content)) (leaf : List Pair)
      (is : leaf ≡ pairs_held (get_or (chunks_of content) number [])) where
    parts : behind number ≡ leaf ++ behind (number + 1)
    parts = held_next (chunks_of content) number leaf within is

    -- what the leaf has from a key on are the first that the map has: none before it, and all
    -- behind it; and where it has none, there are none
    module _ (key : List ℕ)
        (first : AreFirstFrom key content.pairs (pairs_from key leaf)) where
      whole : content.pairs ≡ front ++ (leaf ++ behind (number + 1))
      whole = in_front ∙ ap (λ ps. front ++ ps) parts

      found : pairs_from key content.pairs ≡
          pairs_from key front ++ (pairs_from key leaf ++ pairs_from key (behind (number + 1)))
      found = grind (arith, whole, pairs_from-append)

      none_found : pairs_from key leaf ≡ [] → pairs_from key content.pairs ≡ []
      none_found none = subst (AreFirstFrom key content.pairs) none first

      none_before : pairs_from key front ≡ []
      none_before = by_first (pairs_from key leaf) refl first
        where
          nothing : (xs ys : List Pair) → xs ++ ys ≡ [] → xs ≡ []
          nothing [] ys e = refl
          nothing (x ∷ xs) ys e = cc

          some : (p : Pair) (ps : List Pair) → p ∷ ps ≡ [] → ⊥
          some p ps e = cc

          by_first : (ps : List Pair) → pairs_from key leaf ≡ ps → AreFirstFrom key content.pairs ps →
              pairs_from key front ≡ []
          by_first [] is none = nothing (pairs_from key front)
              (pairs_from key leaf ++ pairs_from key (behind (number + 1))) (sym found ∙ none)
          by_first (p ∷ ps) is e = first_leaf key front leaf (behind (number + 1))
              (pairs_from (next_key (last_key (p ∷ ps))) content.pairs)
              (subst Rises whole (rises content.pairs f.is.rising))
              (ap (pairs_from key) (sym whole) ∙ e ∙
              ap (λ qs. qs ++ pairs_from (next_key (last_key (p ∷ ps))) content.pairs) (sym is))
              (λ none. some p ps (sym is ∙ none))

      pub from_leaf : (pairs_from key leaf ≡ [] → ⊥) →
          pairs_from key leaf ++ behind (number + 1) ≡ pairs_from key content.pairs
      from_leaf some =
          let rest = behind (number + 1) in
          sym (found ∙ ap (λ ps. ps ++ (pairs_from key leaf ++ pairs_from key rest)) none_before ∙
          ap (λ ps. pairs_from key leaf ++ ps)
          (from_all key rest (above_some key leaf rest (subst Rises parts rest_rises) some)))

      pub from_none : (end : ℕ) → end ≡ length (chunks_of content) → pairs_from key leaf ≡ [] →
          pairs_from key leaf ++ behind end ≡ pairs_from key content.pairs
      from_none end is none = grind (arith, drop_all, none_found)

-- ---- pairs that are written as a record file, part by part

-- of all pairs these are left, and those before them were written
pub record IsDumped (pairs left : List Pair) (old new : SinkView) : Type 0 where
  pub done : List Pair
  pub all : pairs ≡ done ++ left
  pub written : old.is_keeping ≡ true → new.taken ≡ old.taken ++ record_file done
  pub keeping : old.is_keeping ≡ true → new.is_keeping ≡ true
  pub failures : new.failures ≡ old.failures

-- ---- one part more

module _ (pairs left part rest : List Pair) (split : left ≡ part ++ rest) (old mid new : SinkView)
    (d : IsDumped pairs left old mid) where
  abbrev own : List ℕ
  own = record_file part

  one_more : record_file (d.done ++ part) ≡ record_file d.done ++ own
  one_more = flat_map-append pair_spelling d.done part

  all_parts : record_file pairs ≡ record_file d.done ++ (own ++ record_file rest)
  all_parts = grind (arith, flat_map-append)

  pub one_dumped : {T E : Type 0} (x : T) → Writes {T = T} {E = E} own mid new (Ok x) →
      IsDumped pairs rest old new
  one_dumped x w = grind (arith, append_assoc, one_more)

  -- a prefix of its records is one of all records, behind those that were written
  part_of_all : old.is_keeping ≡ true → TakesPrefix mid.taken new.taken own →
      TakesPrefix old.taken new.taken (record_file pairs)
  part_of_all k t = grind (arith, append_assoc, all_parts)

  pub dump_failed : {T E : Type 0} (x y : E) → Writes {T = T} {E = E} own mid new (Err x) →
      Writes {T = T} {E = E} (record_file pairs) old new (Err y)
  dump_failed x y w = grind (arith, part_of_all)

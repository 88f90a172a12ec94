-- Counting the pairs of a leaf, one after another.
use Rattle.std.proofs.Common.{◌≡◌, ℕ, ◌+◌, ◌<◌, ◌≤◌, Bool, true, false, ◌&&◌, ◌||◌, not, List, []}
use Rattle.std.proofs.Common.{◌∷◌, ◌++◌, length, drop, None, Some, refl, sym, ap, ◌∙◌, arith}
use Rattle.std.proofs.Common.{◌-◌, zero, suc, get_or, subst, append_assoc, append-nil}
use Rattle.std.specs.List.{flat_map, list_any, AllByRecursion}
use Rattle.std.proofs.lemmas.List.{length-append}
use Rattle.std.proofs.Math.Seq.{drop-length}
use Rattle.std.proofs.lemmas.List.Concat.{flat_map-append}
use Rattle.std.proofs.lemmas.List.Folds.{list_any-append}
use Rattle.prolly_entry.specs.Cut.{Cut, sha512_cut}
use Rattle.prolly_entry.specs.Front.{NoPairAt}
use Rattle.prolly_entry.specs.Pair.{Pair, IsPair}
use Rattle.prolly_entry.specs.Position.{Position}
use Rattle.prolly_entry.specs.Spelling.{pair_spelling}
use Rattle.prolly_entry.specs.declared.version.Version.{Version}
use Rattle.prolly_entry.specs.lemmas.Lists.{all_append}
use Rattle.prolly_tree.specs.Tree.{last_key, pair_is_boundary}
use Rattle.prolly_chunk.specs.LeafLevel.{is_whole_leaf}
use Rattle.prolly_check.specs.Digests.{AreCounted, IsPairsDigest, TellsOf}
use Rattle.prolly_look_up.specs.Entries.{BeginsWith, IsLeaf, IsNode, IsSomeLeaf, pairs_in}
use Rattle.prolly_look_up.specs.HeldPairs.{pairs_held}
use Rattle.prolly_check.specs.FirstFault.{last_behind, rises_behind}
use Rattle.prolly_check.specs.declared.verdict.pairs_digest.PairsDigest.{PairsDigest}
use Rattle.prolly_look_up.specs.lemmas.EntryLists.{each_has_bytes, leaf_pairs, no_leaf, no_pairs}
use Rattle.prolly_check.proofs.RisingKeys.{last_append, rises_append}
use Rattle.prolly_look_up.specs.lemmas.ReadEntries.{drop_front}

module _ (cut : Cut) where
  whole_more : (ps : List Pair) (p : Pair) → is_whole_leaf cut (ps ++ p ∷ []) ≡
      (not (list_any (pair_is_boundary cut) ps) && pair_is_boundary cut p)
  whole_more [] p = refl
  whole_more (q ∷ []) p = go (pair_is_boundary cut q)
    where
      go : (b : Bool) → (not b && pair_is_boundary cut p) ≡
          (not (b || false) && pair_is_boundary cut p)
      go true = refl
      go false = refl
  whole_more (q ∷ r ∷ ps) p =
      go (pair_is_boundary cut q) _ _ (whole_more (r ∷ ps) p)
    where
      go : (b : Bool) (w a : Bool) → w ≡ (not a && pair_is_boundary cut p) → (not b && w) ≡
          (not (b || a) && pair_is_boundary cut p)
      go true w a e = refl
      go false w a e = e

-- one pair more
pub counted_more : (bits : ℕ) (ps : List Pair) (p : Pair) (old new : PairsDigest) →
    AreCounted bits ps old → new.count ≡ old.count + 1 →
    new.rises ≡ (old.rises && rises_behind (last_behind None ps) (p ∷ [])) →
    new.has_boundary ≡ (old.has_boundary || pair_is_boundary (sha512_cut bits) p) →
    new.is_whole_leaf ≡ (not old.has_boundary && pair_is_boundary (sha512_cut bits) p) →
    AreCounted bits (ps ++ p ∷ []) new
counted_more bits ps p old new c count rises some whole = record {
  count = omega (arith, count, c.count, length-append ps (p ∷ []));
  rises = rises ∙ ap (λ b. b && rises_behind (last_behind None ps) (p ∷ [])) c.rises ∙
      sym (rises_append None ps (p ∷ []));
  some = some ∙ any old.has_boundary (list_any (pair_is_boundary (sha512_cut bits)) ps)
      (pair_is_boundary (sha512_cut bits) p) c.some ∙
      sym (list_any-append (pair_is_boundary (sha512_cut bits)) ps (p ∷ []));
  whole = whole ∙ ap (λ b. not b && pair_is_boundary (sha512_cut bits) p) c.some ∙
      sym (whole_more (sha512_cut bits) ps p);
}
  where
    any : (b a t : Bool) → b ≡ a → (b || t) ≡ (a || (t || false))
    any true true t e = refl
    any false false true e = refl
    any false false false e = refl
    any true false t e = cc e
    any false true t e = cc e

-- ---- reading the entries of a leaf

-- the first pairs of the entries were read, the last one of them is this, and the rest is left
pub record LeafRead (bits : ℕ) (entries rest : List ℕ) (last_key : Position) (digest : PairsDigest)
    : Type 0 where
  pub done : List Pair
  pub is : entries ≡ flat_map pair_spelling done ++ rest
  pub lawful : AllByRecursion IsPair done
  pub counted : AreCounted bits done digest
  pub key : last_key ≡ last_behind None done
  pub last : List Pair
  pub within : digest.last_pair ≤ length entries
  pub there : drop digest.last_pair entries ≡ flat_map pair_spelling last ++ rest
  pub last_lawful : AllByRecursion IsPair last
  pub one : length last ≤ 1
  pub ends : last_behind None last ≡ last_behind None done

pub read_begins : (bits : ℕ) (entries : List ℕ) (digest : PairsDigest) → AreCounted bits [] digest →
    digest.last_pair ≡ 0 → LeafRead bits entries entries None digest
read_begins bits entries digest c at = record {
  done = [];
  is = refl;
  lawful = tt;
  counted = c;
  key = refl;
  last = [];
  within = omega (arith, at);
  there = ap (λ n. drop n entries) at;
  last_lawful = tt;
  one = omega arith;
  ends = refl;
}

module _ (bits : ℕ) (entries rest : List ℕ) (last_key : Position) (digest : PairsDigest)
    (r : LeafRead bits entries rest last_key digest) where
  pub few_read : length r.done + length rest ≤ length entries
  few_read = omega (
    arith,
    ap length r.is,
    length-append (flat_map pair_spelling r.done) rest,
    each_has_bytes r.done,
  )

  pub read_more : (behind : List ℕ) (p : Pair) (new : PairsDigest) →
      BeginsWith pair_spelling IsPair rest p behind → AreCounted bits (r.done ++ p ∷ []) new →
      new.last_pair ≡ length entries - length rest →
      LeafRead bits entries behind (Some p.key) new
  read_more behind p new b c at =
      let front = flat_map pair_spelling r.done in
      let one : flat_map pair_spelling (p ∷ []) ++ behind ≡ rest =
      ap (λ x. x ++ behind) (append-nil (pair_spelling p)) ∙ sym b.is in
      let past : last_behind None (r.done ++ p ∷ []) ≡ Some p.key = last_append None r.done (p ∷ []) in
      let size = length-append front rest in
      record {
        done = r.done ++ p ∷ [];
        is = r.is ∙ ap (λ x. front ++ x) (sym one) ∙
            sym (append_assoc front (flat_map pair_spelling (p ∷ [])) behind) ∙
            ap (λ x. x ++ behind) (sym (flat_map-append pair_spelling r.done (p ∷ [])));
        lawful = all_append IsPair r.done (p ∷ []) r.lawful (b.lawful, tt);
        counted = c;
        key = sym past;
        last = p ∷ [];
        within = omega (arith, at);
        there = ap (λ n. drop n entries) at ∙ ap (drop (length entries - length rest)) r.is ∙
            drop_front front rest (length entries - length rest) (omega (arith, ap length r.is, size)) ∙
            sym one;
        last_lawful = (b.lawful, tt);
        one = omega arith;
        ends = sym past;
      }

  pub read_none : NoPairAt rest → (rest ≡ [] → ⊥) → (pairs : List Pair) → IsLeaf entries pairs → ⊥
  read_none none some pairs l = no_leaf r.done pairs rest r.lawful some none
      (subst (λ bytes. IsLeaf bytes pairs) r.is l)

  module _ (over : rest ≡ []) where
    all_read : (bytes : List ℕ) (ps : List Pair) → bytes ≡ flat_map pair_spelling ps ++ rest →
        AllByRecursion IsPair ps → IsLeaf bytes ps
    all_read bytes ps e lawful = record {
      is = e ∙ ap (λ x. flat_map pair_spelling ps ++ x) over ∙
          append-nil (flat_map pair_spelling ps);
      lawful = lawful;
    }

    leaf : IsLeaf entries r.done
    leaf = all_read entries r.done r.is r.lawful

    leaf_there : IsLeaf (drop digest.last_pair entries) r.last
    leaf_there = all_read _ r.last r.there r.last_lawful

    pub read_leaf : IsSomeLeaf entries
    read_leaf = record { pairs = r.done; is = leaf }

    pub read_tells : TellsOf bits entries (pairs_in entries) digest
    read_tells =
        let are = leaf_pairs entries r.done leaf in
        let last = leaf_pairs (drop digest.last_pair entries) r.last leaf_there in
        record {
          counted = subst (λ ps. AreCounted bits ps digest) (sym are) r.counted;
          last = record {
            within = r.within;
            leaf = record { pairs = r.last; is = leaf_there };
            one = subst (λ ps. length ps ≤ 1) (sym last) r.one;
            last = ap (last_behind None) last ∙ r.ends ∙ ap (last_behind None) (sym are);
          };
        }

-- a node has no pairs
pub none_told : (bits : ℕ) (version : Version) (chunk : List ℕ) (digest : PairsDigest) →
    (get_or chunk 0 0 ≡ 0 → ⊥) → IsNode version (drop 1 chunk) [] → AreCounted bits [] digest →
    digest.last_pair ≡ length (drop 1 chunk) → IsPairsDigest bits chunk digest
none_told bits version chunk digest other n c at = record {
  counted = subst (λ ps. AreCounted bits ps digest) (sym none) c;
  last = record {
    within = omega (arith, at);
    leaf = record { pairs = []; is = record { is = end; lawful = tt } };
    one = omega (arith, ap length (ap pairs_in end ∙ no_pairs));
    last = ap (last_behind None) (ap pairs_in end ∙ no_pairs ∙ sym none);
  };
}
  where
    none : pairs_held chunk ≡ []
    none = held chunk other
      where
        held : (chunk : List ℕ) → (get_or chunk 0 0 ≡ 0 → ⊥) → pairs_held chunk ≡ []
        held [] other = refl
        held (zero ∷ entries) other = absurd (other refl)
        held (suc level ∷ entries) other = refl

    end : drop digest.last_pair (drop 1 chunk) ≡ []
    end = ap (λ n. drop n (drop 1 chunk)) at ∙ drop-length (drop 1 chunk)

-- the last key of pairs, where there are some
pub last_some : (ps : List Pair) → 0 < length ps → last_behind None ps ≡ Some (last_key ps)
last_some [] some = absurd (omega arith)
last_some (p ∷ []) some = refl
last_some (p ∷ q ∷ ps) some = last_some (q ∷ ps) (omega arith)

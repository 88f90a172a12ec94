-- What is told of chunks, of one after another.
use Rattle.std.proofs.Common.{◌≡◌, ℕ, zero, suc, ◌+◌, ◌<◌, ◌≤◌, List, [], ◌∷◌, ◌++◌, length, map}
use Rattle.std.proofs.Common.{get_or, take, drop, true, false, refl, sym, ap, ◌∙◌, subst, arith}
use Rattle.std.proofs.Math.Seq.{drop-cons}
use Rattle.std.specs.List.{AllByRecursion}
use Rattle.std.proofs.lemmas.List.{length-append, length-take-le, take-append-drop, take_more}
use Rattle.prolly_entry.specs.Reference.{reference_of}
use Rattle.prolly_entry.specs.declared.version.Version.{Version}
use Rattle.prolly_check.specs.Chunks.{AreReferences}
use Rattle.prolly_check.specs.Digests.{AreDigests, AreDigestsOf, AreNamed, EachHas, IsBroken}
use Rattle.prolly_check.specs.Digests.{IsDigest, Tells}
use Rattle.prolly_look_up.specs.Entries.{AreWhole}
use Rattle.prolly_check.specs.ReadChunks.{IsBad}
use Rattle.prolly_look_up.specs.HeldPairs.{pairs_held}
use Rattle.prolly_check.specs.declared.verdict.digests.ChunkDigest.{ChunkDigest}
use Rattle.prolly_check.specs.declared.verdict.fault.CheckFault.TheVariants.{BadChunk}
use Rattle.prolly_check.proofs.HeldPairs.{all_hold}

-- one chunk more
module _ {A : Type 0} (Has : List ℕ → A → Type 0) where
  has_snoc : (chunks : List (List ℕ)) (xs : List A) (chunk : List ℕ) (x : A) →
      EachHas Has chunks xs → Has chunk x → EachHas Has (chunks ++ chunk ∷ []) (xs ++ x ∷ [])
  has_snoc chunks xs chunk x e has = record {
    many = omega (
      arith,
      e.many,
      length-append chunks (chunk ∷ []),
      length-append xs (x ∷ []),
    );
    each = go chunks xs e.many e.each;
  }
    where
      go : (cs : List (List ℕ)) (ys : List A) → length ys ≡ length cs →
          ((k : ℕ) (other : A) → k < length cs → Has (get_or cs k []) (get_or ys k other)) →
          (n : ℕ) (other : A) → n < length (cs ++ chunk ∷ []) →
          Has (get_or (cs ++ chunk ∷ []) n []) (get_or (ys ++ x ∷ []) n other)
      go [] [] many each zero other within = has
      go [] [] many each (suc n) other within = absurd (omega arith)
      go [] (y ∷ ys) many each n other within = absurd (omega (arith, many))
      go (c ∷ cs) [] many each n other within = absurd (omega (arith, many))
      go (c ∷ cs) (y ∷ ys) many each zero other within = each 0 other (omega arith)
      go (c ∷ cs) (y ∷ ys) many each (suc n) other within =
          go cs ys (omega (arith, many)) (λ k o h. each (suc k) o (omega arith)) n other
          (omega arith)

  pub has_more : (chunks : List (List ℕ)) (n : ℕ) (xs : List A) (x : A) →
      EachHas Has (take n chunks) xs → n < length chunks → Has (get_or chunks n []) x →
      EachHas Has (take (n + 1) chunks) (xs ++ x ∷ [])
  has_more chunks n xs x e within has = rw (take_more chunks n [] within)
      (has_snoc (take n chunks) xs (get_or chunks n []) x e has)

  pub has_none : (chunks : List (List ℕ)) (n : ℕ) → n ≡ 0 → EachHas Has (take n chunks) []
  has_none chunks n e = subst (λ k. EachHas Has (take k chunks) []) (sym e)
      (record { many = refl; each = λ k other h. absurd (omega arith) })

  pub has_behind : (chunk : List ℕ) (chunks : List (List ℕ)) (x : A) (xs : List A) →
      EachHas Has (chunk ∷ chunks) (x ∷ xs) → EachHas Has chunks xs
  has_behind chunk chunks x xs e =
      let many = e.many in
      record { many = omega arith; each = λ k other h. e.each (suc k) other (omega arith) }

module _ (version : Version) (bits : ℕ) where
  -- the first chunk that has no digest stands there, or no chunk does
  pub stops_there : (chunks : List (List ℕ)) (n : ℕ) (digests : List ChunkDigest) →
      AreDigests version bits (take n chunks) digests → n ≤ length chunks →
      (n < length chunks → IsBroken version (get_or chunks n [])) →
      AreDigestsOf version bits chunks digests
  stops_there chunks n digests e within bad =
      let many : length digests ≡ n = e.many ∙ length-take-le n chunks within in record {
        few = omega (arith, many);
        front = subst (λ k. AreDigests version bits (take k chunks) digests) (sym many) e;
        bad = λ h. subst (λ k. IsBroken version (get_or chunks k [])) (sym many)
            (bad (omega (arith, many)));
      }

  -- a front of whole chunks has its digests
  front_each : (n : ℕ) (chunks : List (List ℕ)) (told : List ChunkDigest) →
      length told ≡ length chunks → ((k : ℕ) (other : ChunkDigest) → k < length chunks →
      Tells version bits (get_or chunks k []) (get_or told k other)) →
      AllByRecursion (λ digest. digest.is_whole ≡ true) (take n told) →
      (k : ℕ) (other : ChunkDigest) → k < length (take n chunks) →
      IsDigest version bits (get_or (take n chunks) k []) (get_or (take n told) k other)
  front_each zero chunks told many each whole k other h = absurd (omega (arith, h))
  front_each (suc n) [] told many each whole k other h = absurd (omega (arith, h))
  front_each (suc n) (c ∷ chunks) [] many each whole k other h = absurd (omega (arith, many))
  front_each (suc n) (c ∷ chunks) (t ∷ told) many each whole zero other h =
      (each 0 t (omega arith)).whole whole.0
  front_each (suc n) (c ∷ chunks) (t ∷ told) many each whole (suc k) other h =
      front_each n chunks told (omega (arith, many)) (λ i o less. each (suc i) o (omega arith))
      whole.1 k other (omega (arith, h))

  broken_there : (chunks : List (List ℕ)) (told : List ChunkDigest) (n : ℕ) →
      EachHas (Tells version bits) chunks told →
      ((other : ChunkDigest) → n < length told → (get_or told n other).is_whole ≡ false) →
      n < length chunks → IsBroken version (get_or chunks n [])
  broken_there chunks [] n e bad h = absurd (let many = e.many in omega (arith, h))
  broken_there chunks (t ∷ told) n e bad h =
      (e.each n t h).broken (bad t (omega (arith, e.many)))

  -- what is told of chunks up to the first that is broken are their digests
  pub front_told : (chunks : List (List ℕ)) (told : List ChunkDigest) (n : ℕ) →
      EachHas (Tells version bits) chunks told → n ≤ length told →
      AllByRecursion (λ digest. digest.is_whole ≡ true) (take n told) →
      ((other : ChunkDigest) → n < length told → (get_or told n other).is_whole ≡ false) →
      AreDigestsOf version bits chunks (take n told)
  front_told chunks told n e few whole bad =
      stops_there chunks n (take n told) (record {
        many = length-take-le n told few ∙
            sym (length-take-le n chunks (omega (arith, e.many)));
        each = front_each n chunks told e.many e.each whole;
      }) (omega (arith, e.many)) (broken_there chunks told n e bad)

  -- chunks that have digests are whole
  pub digests_whole : (chunks : List (List ℕ)) (digests : List ChunkDigest) →
      AreDigests version bits chunks digests → AreWhole version chunks
  digests_whole [] digests are = tt
  digests_whole (c ∷ chunks) [] are = absurd (let many = are.many in omega arith)
  digests_whole (c ∷ chunks) (d ∷ digests) are = (
    (are.each 0 d (omega arith)).whole,
    digests_whole chunks digests (has_behind (IsDigest version bits) c chunks d digests are),
  )

  -- the first chunk that has none is named
  pub first_bad : (chunks : List (List ℕ)) (digests : List ChunkDigest) →
      AreDigestsOf version bits chunks digests → length digests < length chunks →
      IsBad version chunks (BadChunk (length digests))
  first_bad chunks digests of h =
      let n = length digests in
      let front = take n chunks in record {
        before = front;
        chunk = get_or chunks n [];
        after = drop (suc n) chunks;
        lists = map pairs_held front;
        whole = sym (take-append-drop n chunks) ∙
            ap (λ rest. front ++ rest) (drop-cons chunks n [] h);
        good = all_hold version front (digests_whole front digests of.front);
        bad = of.bad h;
        is = ap BadChunk (sym (length-take-le n chunks of.few));
      }

  -- the digests of chunks have their references
  pub digests_refer : (chunks : List (List ℕ)) (digests : List ChunkDigest) →
      AreDigests version bits chunks digests → AreReferences chunks (map (λ d. d.reference) digests)
  digests_refer [] [] are = refl
  digests_refer [] (d ∷ digests) are = absurd (let many = are.many in omega arith)
  digests_refer (c ∷ chunks) [] are = absurd (let many = are.many in omega arith)
  digests_refer (c ∷ chunks) (d ∷ digests) are =
      ap (λ r. r ∷ map (λ r. r.0) (map (λ (d : ChunkDigest). d.reference) digests))
      (are.each 0 d (omega arith)).reference ∙
      ap (λ rs. reference_of c ∷ rs) (digests_refer chunks digests
      (has_behind (IsDigest version bits) c chunks d digests are))

  pub named : (chunks : List (List ℕ)) (digests : List ChunkDigest) →
      AreDigests version bits chunks digests → AreNamed chunks digests
  named chunks digests are =
      record { many = are.many; each = λ n other h. (are.each n other h).reference }

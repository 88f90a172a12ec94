-- The chunks of a file, followed from the first to the last.
use Rattle.std.proofs.Common.{◌≡◌, ℕ, suc, ◌<◌, ◌^◌, List, [], ◌∷◌, ◌++◌, length, take, drop, Some}
use Rattle.std.proofs.Common.{None, ◌+◌, ◌≤◌, Result, Ok, Err, get_or, sym, ap, ◌∙◌, subst, arith}
use Rattle.std.proofs.Common.{append-nil, inl, inr}
use Rattle.std.proofs.Math.Logic.{⊎_map}
use Rattle.std.proofs.Math.Seq.{drop-cons}
use Rattle.std.specs.List.{AllByRecursion}
use Rattle.std.specs.Prelude.{IfErr, IfOk, MatchResult}
use Rattle.std.proofs.lemmas.List.{get_or_append_left, length-append, take-append-drop}
use Rattle.std.proofs.lemmas.List.{take-append-le, take_all, take_more}
use Rattle.std.proofs.lemmas.List.Concat.{flat_map-append}
use Rattle.prolly_entry.specs.Pair.{IsPair}
use Rattle.prolly_entry.specs.declared.version.Version.{Version}
use Rattle.prolly_look_up.specs.Entries.{AreWhole}
use Rattle.prolly_check.specs.FirstFault.{CompareAs, difference}
use Rattle.prolly_check.specs.Follower.{EndsWith, Follows, IsOutOfPlace, PartsAt, PartsFrom, all_of}
use Rattle.prolly_check.specs.Follower.{place_of_end}
use Rattle.prolly_look_up.specs.HeldPairs.{bytes_in, pairs_held}
use Rattle.prolly_check.specs.declared.verdict.fault.CheckFault.{CheckFault}
use Rattle.prolly_check.specs.declared.verdict.follower.Follower.{Follower}
use Rattle.prolly_check.specs.Verdict.{UnlessMemory}
use Rattle.prolly_check.specs.declared.verdict.fault.CheckFault.TheVariants.{Memory, NotCanonical}
use Rattle.prolly_check.proofs.ChunkSteps.{ends_as_difference, none_differs}
use Rattle.prolly_check.proofs.FollowerSteps.{front_none, held_in, parts_difference, whole_lawful}
use Rattle.prolly_check.proofs.OpenLevels.{all_sent}

-- chunks that part do so whatever follows
parts_longer : (wanted read rest : List (List ℕ)) (n : ℕ) → PartsAt wanted read n →
    PartsAt wanted (read ++ rest) n
parts_longer wanted read rest n p =
    let within = p.within in record {
      within = omega (arith, length-append read rest);
      tail = p.tail;
      are = p.are ∙ ap (λ cs. cs ++ p.tail) (sym (take-append-le n read rest (omega arith)));
      other = λ more e. p.other more (e ∙ ap (λ c. c ∷ more) (get_or_append_left read rest [] n within));
    }

-- where a chunk has pairs, so have it and the chunks behind it together
pub held_from : (chunks : List (List ℕ)) (n : ℕ) → n < length chunks →
    (pairs_held (get_or chunks n []) ≡ [] → ⊥) → held_in (drop n chunks) ≡ [] → ⊥
held_from chunks n within some none = some (front_none (pairs_held (get_or chunks n []))
    (held_in (drop (suc n) chunks)) (ap held_in (sym (drop-cons chunks n [] within)) ∙ none))

module _ (bits : ℕ) (version : Version) (chunks : List (List ℕ))
    (few : length (held_in chunks) < 2 ^ 64) where
  -- the first difference is where they part
  compare_parts : (n : ℕ) → PartsFrom bits version (held_in chunks) chunks n →
      CompareAs version bits chunks (Some (NotCanonical n))
  compare_parts n p =
      ap (λ wanted. difference 0 wanted chunks)
      (sym (ap bytes_in (all_sent bits version (held_in chunks) few))) ∙
      parts_difference (bytes_in (all_of bits version (held_in chunks))) chunks n p

  -- the last one of the first chunks, so many, is out of its place
  module _ (count later : ℕ) (fault : CheckFault)
      (o : IsOutOfPlace bits version (take count chunks) later fault) where
    abbrev read : List (List ℕ)
    read = take count chunks

    abbrev rest : List (List ℕ)
    rest = drop count chunks

    all_held : held_in chunks ≡ held_in read ++ held_in rest
    all_held = ap held_in (sym (take-append-drop count chunks)) ∙
        flat_map-append pairs_held read rest

    parts_all : (n : ℕ) → PartsFrom bits version (held_in chunks) read n →
        CompareAs version bits chunks (Some (NotCanonical n))
    parts_all n p = compare_parts n
        (subst (λ cs. PartsFrom bits version (held_in chunks) cs n) (take-append-drop count chunks)
        (parts_longer (bytes_in (all_of bits version (held_in chunks))) read rest n p))

    -- no pairs follow
    pub first_is : held_in rest ≡ [] → CompareAs version bits chunks (Some fault)
    first_is none = subst (λ told. CompareAs version bits chunks (Some told)) (sym o.is)
        (parts_all o.number (subst (λ ps. PartsFrom bits version ps read o.number)
        (sym (all_held ∙ ap (λ ps. held_in read ++ ps) none ∙ append-nil (held_in read))) o.parts))

    -- pairs follow
    pub later_is : (held_in rest ≡ [] → ⊥) → AreWhole version chunks →
        CompareAs version bits chunks (Some (NotCanonical later))
    later_is some whole = parts_all later
        (subst (λ ps. PartsFrom bits version ps read later) (sym all_held)
        (o.parts_later (held_in rest) some
        (subst (AllByRecursion IsPair) all_held (whole_lawful version chunks whole))))

  -- the same, unless memory was refused
  pub told_first : (count later : ℕ) (fault : CheckFault) → held_in (drop count chunks) ≡ [] →
      UnlessMemory (IsOutOfPlace bits version (take count chunks) later) fault →
      UnlessMemory (λ told. CompareAs version bits chunks (Some told)) fault
  told_first count later fault none = ⊎_map (λ memory. memory) (λ o. first_is count later fault o none)

  pub told_later : (count later : ℕ) (fault : CheckFault) → (fault ≡ Memory → ⊥) →
      (held_in (drop count chunks) ≡ [] → ⊥) → AreWhole version chunks →
      UnlessMemory (IsOutOfPlace bits version (take count chunks) later) fault →
      UnlessMemory (λ told. CompareAs version bits chunks (Some told)) (NotCanonical later)
  told_later count later fault apart some whole (inl memory) = absurd (apart memory)
  told_later count later fault apart some whole (inr o) =
      inr (later_is count later fault o some whole)

  -- ---- the same, as the code has it

  module _ (f : Follower) (cut : f.cut ≡ bits) (same : f.version ≡ version) (number : ℕ)
      (h : Follows (take number chunks) f) where
    -- the next chunk is out of its place
    pub out_next : (later : ℕ) (chunk : List ℕ) (fault : CheckFault) → number < length chunks →
        chunk ≡ get_or chunks number [] → later ≡ place_of_end f.ending number →
        number ≡ length (take number chunks) →
        ((read : List (List ℕ)) → number ≡ length read → Follows read f →
        UnlessMemory (IsOutOfPlace f.cut f.version (read ++ chunk ∷ [])
        (place_of_end f.ending number)) fault) →
        UnlessMemory (IsOutOfPlace bits version (take (number + 1) chunks) later) fault
    out_next later chunk fault within is there count takes =
        rw (take_more chunks number [] within, there)
        (rw (cut, same, is) at (takes (take number chunks) count h))

    -- the next chunk was taken
    pub taken_next : (new : Follower) (chunk : List ℕ) → number < length chunks →
        chunk ≡ get_or chunks number [] → number ≡ length (take number chunks) →
        ((read : List (List ℕ)) → number ≡ length read → Follows read f →
        Follows (read ++ chunk ∷ []) new) → Follows (take (number + 1) chunks) new
    taken_next new chunk within there count takes =
        rw (take_more chunks number [] within, sym there) (takes (take number chunks) count h)

    -- there is no next chunk
    pub ends_all : (count : ℕ) (result : Result (Unit {0}) CheckFault) → count ≡ length chunks →
        length chunks ≤ number → EndsWith f count result →
        MatchResult result (λ done. CompareAs version bits chunks None)
        (UnlessMemory (λ told. CompareAs version bits chunks (Some told)))
    ends_all count (Ok done) n past ends = none_differs bits version chunks few
        (rw (cut, same) at (ends chunks n (subst (λ cs. Follows cs f) (take_all number chunks past) h)))
    ends_all count (Err fault) n past ends =
        ⊎_map (λ memory. memory) (ends_as_difference bits version chunks fault few)
        (rw (cut, same) at (ends chunks n (subst (λ cs. Follows cs f) (take_all number chunks past) h)))

-- a result with a clause of each kind
pub ok_of : {T E : Type 0} (P : T → Type 0) (Q : E → Type 0) (result : Result T E) →
    MatchResult result P Q → IfOk result P
ok_of P Q (Ok done) h = h
ok_of P Q (Err fault) h = tt

pub err_of : {T E : Type 0} (P : T → Type 0) (Q : E → Type 0) (result : Result T E) →
    MatchResult result P Q → IfErr result Q
err_of P Q (Ok done) h = tt
err_of P Q (Err fault) h = h

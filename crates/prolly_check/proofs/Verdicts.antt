-- Bytes are accepted exactly where they are the file of a map.
use Rattle.std.proofs.Common.{rules, ◌≡◌, ◌↔◌, ℕ, zero, suc, ◌≤◌, Bool, true, false, cond, List, []}
use Rattle.std.proofs.Common.{◌∷◌, ◌++◌, length, drop, Option, Some, None, Result, Ok, Err, refl}
use Rattle.std.proofs.Common.{sym, ap, ◌∙◌, subst, ◌+◌, ◌^◌, ◌<◌, map, arith, append_assoc}
use Rattle.std.specs.Int.{w64, to_be_bytes}
use Rattle.std.specs.List.{flat_map, list_any, AllByRecursion}
use Rattle.std.specs.Prelude.{slice_index}
use Rattle.std.specs.Str.{bytes_eq}
use Rattle.std.proofs.lemmas.Bool.{cond-true, cond-false}
use Rattle.std.proofs.lemmas.List.{length-append}
use Rattle.std.proofs.lemmas.Slice.Eq.{bytes_eq-Decides}
use Rattle.prolly_entry.specs.Cut.{sha512_cut}
use Rattle.prolly_entry.specs.Keys.{Rising}
use Rattle.prolly_entry.specs.Overlay.{or_else}
use Rattle.prolly_entry.specs.Pair.{Pair, IsPair}
use Rattle.prolly_entry.specs.Position.{Position}
use Rattle.prolly_entry.specs.Reference.{reference_of}
use Rattle.prolly_entry.specs.declared.version.Version.{Version}
use Rattle.prolly_entry.specs.declared.version.Version.TheVariants.{One, Two}
use Rattle.prolly_entry.specs.lemmas.Lists.{all_append}
use Rattle.prolly_entry.specs.lemmas.Spellings.{reference_length}
use Rattle.prolly_tree.specs.Chunk.{chunks}
use Rattle.prolly_tree.specs.File.{header, frame, file}
use Rattle.prolly_tree.specs.lemmas.Splits.{flat}
use Rattle.prolly_io.specs.Frame.{framed, IsSmall}
use Rattle.prolly_io.specs.FrameLaws.{frames_bytes}
use Rattle.prolly_io.specs.Header.{header_tests, header_fault, version_of}
use Rattle.prolly_look_up.specs.Content.{Content, chunk_bytes, AllApart, IsFileOf}
use Rattle.prolly_look_up.specs.Entries.{Holds}
use Rattle.prolly_check.specs.ReadChunks.{AllHold, IsRead}
use Rattle.prolly_check.specs.Frames.{ending_of, IsFramed}
use Rattle.prolly_look_up.specs.HeldPairs.{pairs_held}
use Rattle.prolly_check.specs.FirstFault.{order_fault, difference, end_fault, reuse}
use Rattle.prolly_check.specs.FirstFault.{ending_for, canonical_fault, judged, rises_behind}
use Rattle.prolly_check.specs.FirstFault.{last_behind, or_content}
use Rattle.prolly_check.specs.Verdict.{ReadVerdict, EndVerdict, IsVerdict}
use Rattle.prolly_check.specs.Verdict.{FramesVerdict, AcceptsFiles}
use Rattle.prolly_check.specs.declared.verdict.fault.CheckFault.{CheckFault}
use Rattle.prolly_check.specs.declared.verdict.fault.CheckFault.TheVariants.{NotCanonical}
use Rattle.prolly_check.specs.declared.verdict.fault.CheckFault.TheVariants.{Collision}
pub use Rattle.prolly_check.specs.lemmas.Faults.{difference_ok, if_none, or_none}
use Rattle.prolly_check.proofs.HeldPairs.{flat_held, all_hold}
use Rattle.prolly_look_up.specs.lemmas.HeldPairs.{map_holds}
use Rattle.prolly_check.proofs.RisingKeys.{rises_append, rising_is}

-- ---- what is accepted is the file of a map

pub unless_none : (t : Bool) (f : CheckFault) (o : Option CheckFault) → cond t (Some f) o ≡ None →
    (t ≡ false) × (o ≡ None)
unless_none true f o e = cc
unless_none false f o e = (refl, e)

-- ---- the header

pub record HeaderIs (bytes : List ℕ) : Type 0 where
  pub bits : slice_index bytes 5 ≤ 24
  pub is : bytes ≡ header (version_of (slice_index bytes 4)) (slice_index bytes 5) ++ drop 6 bytes

pub header_ok : (bytes : List ℕ) → header_fault header_tests bytes ≡ None → HeaderIs bytes
header_ok bytes h = grind arith

-- ---- the end

pub ending_ok : (number : ℕ) (tail ending : List ℕ) → ending_of number tail ≡ Ok ending →
    tail ≡ 0x45 ∷ ending
ending_ok number [] ending e = cc
ending_ok number (b ∷ rest) ending e = grind arith

-- ---- the pairs

hold_one : (version : Version) (chunk : List ℕ) (pairs : List Pair) → Holds version chunk pairs →
    AllByRecursion IsPair pairs
hold_one version [] pairs h = absurd h
hold_one version (zero ∷ entries) pairs h = h.lawful
hold_one version (suc level ∷ entries) pairs h = subst (AllByRecursion IsPair) (sym h.none) tt

hold_pairs : (version : Version) (cs : List (List ℕ)) (lists : List (List Pair)) →
    AllHold version cs lists → AllByRecursion IsPair (flat lists)
hold_pairs version [] [] h = tt
hold_pairs version [] (ps ∷ lists) h = absurd h
hold_pairs version (c ∷ cs) [] h = absurd h
hold_pairs version (c ∷ cs) (ps ∷ lists) h = all_append IsPair ps (flat lists)
    (hold_one version c ps h.0) (hold_pairs version cs lists h.1)

-- ---- their order

pub order_is : (last : Position) (number : ℕ) (lists : List (List Pair)) →
    (order_fault last number lists ≡ None) ↔ (rises_behind last (flat lists) ≡ true)
order_is last number [] = (λ h. refl, λ h. refl)
order_is last number (ps ∷ lists) =
    search (rules, rises_append, order_is (last_behind last ps) (suc number) lists)

-- ---- the one file

pub end_is : (found wanted : List ℕ) → (end_fault found wanted ≡ None) ↔ (found ≡ wanted)
end_is found wanted = grind (arith, bytes_eq-Decides)

-- ---- references

abbrev pub Other : List ℕ → List ℕ → Type 0
Other c d = reference_of d ≡ reference_of c → ⊥

is_new : (c : List ℕ) (before : List (List ℕ)) →
    (list_any (λ d. bytes_eq (reference_of d) (reference_of c)) before ≡ false) ↔ AllByRecursion
    (Other c) before
is_new c [] = (λ h. tt, λ h. refl)
is_new c (d ∷ ds) = search (rules, is_new c ds)

all_both : (P Q : List ℕ → Type 0) (cs : List (List ℕ)) →
    AllByRecursion (λ c. P c × Q c) cs ↔ (AllByRecursion P cs × AllByRecursion Q cs)
all_both P Q [] = (λ h. (tt, tt), λ h. tt)
all_both P Q (c ∷ cs) = grind (arith, all_both P Q cs)

pub reuse_is : (before : List (List ℕ)) (number : ℕ) (cs : List (List ℕ)) →
    (reuse before number cs ≡ None) ↔ (AllByRecursion (λ c. AllByRecursion (Other c) before) cs ×
    AllApart cs)
reuse_is before number [] = (λ h. (tt, tt), λ h. refl)
reuse_is before number (c ∷ cs) =
    let known = list_any (λ d. bytes_eq (reference_of d) (reference_of c)) before in
    let rest = reuse (c ∷ before) (suc number) cs in
    let new = is_new c before in
    let both = all_both (λ d. Other d c) (λ d. AllByRecursion (Other d) before) cs in
    let more = reuse_is (c ∷ before) (suc number) cs in (
      λ h.
          let s = unless_none known (Collision number) rest h in
          let r = more.0 s.1 in
          ((new.0 s.0, (both.0 r.0).1), ((both.0 r.0).0, r.1)),
      λ h. cond-false known (Some (Collision number)) rest (new.1 h.0.0) ∙
          more.1 (both.1 (h.1.0, h.0.1), h.1.1),
    )

-- ---- all of it

-- nothing is wrong with the keys, the chunks and the end record
pub record IsCanonical (version : Version) (bits : ℕ) (cs : List (List ℕ)) (ending : List ℕ)
    (lists : List (List Pair)) : Type 0 where
  pub order : order_fault None 0 lists ≡ None
  pub same : chunk_bytes version bits (flat lists) ≡ cs
  pub last : ending ≡ ending_for version bits (flat lists)

pub canonical_ok : (version : Version) (bits : ℕ) (cs : List (List ℕ)) (ending : List ℕ)
    (lists : List (List Pair)) → canonical_fault version bits cs ending lists ≡ None →
    IsCanonical version bits cs ending lists
canonical_ok version bits cs ending lists e =
    let pairs = flat lists in
    let chunks_fault = difference 0 (chunk_bytes version bits pairs) cs in
    let last_fault = end_fault ending (ending_for version bits pairs) in
    let keys = or_none (order_fault None 0 lists) (or_else chunks_fault last_fault) e in
    let others = or_none chunks_fault last_fault keys.1 in
    record {
      order = keys.0;
      same = difference_ok 0 (chunk_bytes version bits pairs) cs others.0;
      last = (end_is ending (ending_for version bits pairs)).0 others.1;
    }

judged_none : (it content : Content) (fault : Option CheckFault) →
    ◌≡◌ {A = Result Content CheckFault} (Ok content) (or_content it fault) →
    (fault ≡ None) × (it ≡ content)
judged_none it content None e = (refl, cc)
judged_none it content (Some fault) e = cc

judged_file : (bytes : List ℕ) (content : Content) → HeaderIs bytes →
    (cs : List (List ℕ)) (ending : List ℕ) (lists : List (List Pair)) →
    drop 6 bytes ≡ flat_map framed cs ++ 0x45 ∷ ending →
    AllHold (version_of (slice_index bytes 4)) cs lists →
    Ok content ≡ judged (version_of (slice_index bytes 4)) (slice_index bytes 5) cs ending lists →
    IsFileOf bytes content
judged_file bytes content head cs ending lists spelled hold so =
    let version = version_of (slice_index bytes 4) in
    let bits = slice_index bytes 5 in
    let pairs = flat lists in
    let it : Content = record { version = version; bits = bits; pairs = pairs } in
    let fault = canonical_fault version bits cs ending lists in
    let none = judged_none it content (or_else fault (reuse [] 0 cs)) so in
    let both = or_none fault (reuse [] 0 cs) none.0 in
    let canonical = canonical_ok version bits cs ending lists both.0 in
    let own = chunks (sha512_cut bits) version pairs in
    subst (IsFileOf bytes) none.1 (record {
      bits = head.bits;
      lawful = hold_pairs version cs lists hold;
      rising = (rising_is pairs).0 ((order_is None 0 lists).0 canonical.order);
      is = head.is ∙ ap (λ rest. header version bits ++ rest) (spelled ∙
          ap (λ frames. frames ++ 0x45 ∷ ending)
          (ap (flat_map framed) (sym canonical.same) ∙ sym (frames_bytes own)) ∙
          ap (λ ending. flat_map frame own ++ 0x45 ∷ ending) canonical.last);
      apart = subst AllApart (sym canonical.same) ((reuse_is [] 0 cs).0 both.1).1;
    })

read_file : (bytes : List ℕ) (content : Content) → HeaderIs bytes →
    (cs : List (List ℕ)) (ending : List ℕ) →
    drop 6 bytes ≡ flat_map framed cs ++ 0x45 ∷ ending →
    (read : Result (List (List Pair)) CheckFault) →
    IsRead (version_of (slice_index bytes 4)) cs read →
    ReadVerdict (version_of (slice_index bytes 4)) (slice_index bytes 5) cs ending read
    (Ok content) → IsFileOf bytes content
read_file bytes content header cs ending spelled (Ok lists) is so = search (rules, judged_file)
read_file bytes content header cs ending spelled (Err fault) is so = cc

end_file : (bytes : List ℕ) (content : Content) → HeaderIs bytes →
    (cs : List (List ℕ)) (ending : Result (List ℕ) CheckFault) → IsFramed (drop 6 bytes) cs ending →
    EndVerdict (version_of (slice_index bytes 4)) (slice_index bytes 5) cs ending (Ok content) →
    IsFileOf bytes content
end_file bytes content header cs (Ok ending) is so =
    read_file bytes content header cs ending (is.spelled ∙
    ap (λ tail. flat_map framed cs ++ tail) (ending_ok (length cs) is.tail ending is.is)) so.read
    so.is so.so
end_file bytes content header cs (Err fault) is so = cc

pub accepted_is_file : (bytes : List ℕ) (content : Content) → IsVerdict bytes (Ok content) →
    IsFileOf bytes content
accepted_is_file bytes content v = grind (arith, end_file, header_ok)

-- ---- the one file and the references

pub difference_same : (number : ℕ) (cs : List (List ℕ)) → difference number cs cs ≡ None
difference_same number [] = refl
difference_same number (c ∷ cs) = cond-true (bytes_eq c c) (difference (suc number) cs cs)
    (Some (NotCanonical number)) ((bytes_eq-Decides c c).1 refl) ∙ difference_same (suc number) cs

no_before : (cs : List (List ℕ)) → AllByRecursion (λ c. AllByRecursion (Other c) []) cs
no_before [] = tt
no_before (c ∷ cs) = (tt, no_before cs)

-- ---- all of it

judged_ok : (version : Version) (bits : ℕ) (lists : List (List Pair)) (pairs : List Pair) →
    flat lists ≡ pairs → Rising (map (λ p. p.key) pairs) →
    AllApart (chunk_bytes version bits pairs) →
    judged version bits (chunk_bytes version bits pairs) (ending_for version bits pairs) lists ≡
    Ok (record { version = version; bits = bits; pairs = pairs })
judged_ok version bits lists pairs e rising apart =
    let cs = chunk_bytes version bits pairs in
    let rises = (order_is None 0 lists).1 ((rising_is (flat lists)).1
    (subst (λ ps. Rising (map (λ p. p.key) ps)) (sym e) rising)) in
    rw (
      rises,
      e,
      difference_same 0 cs,
      (end_is (ending_for version bits pairs)
          (ending_for version bits pairs)).1 refl,
      (reuse_is [] 0 cs).1 (no_before cs, apart),
    )

header_verdict : (version : Version) (bits : ℕ) (rest : List ℕ)
    (verdict : Result Content CheckFault) → bits ≤ 24 → FramesVerdict version bits rest verdict →
    IsVerdict (header version bits ++ rest) verdict
header_verdict One bits rest verdict h f = search rules
header_verdict Two bits rest verdict h f = search rules

pub ending_long : (version : Version) (bits : ℕ) (pairs : List Pair) →
    length (ending_for version bits pairs) ≡ 28
ending_long version bits pairs = grind (arith, length-append, reference_length)

-- a list is as short as one that it is a part of
pub all_small : (cs : List (List ℕ)) (tail : List ℕ) →
    length (flat_map framed cs ++ tail) < 2 ^ 64 → AllByRecursion IsSmall cs
all_small [] tail h = tt
all_small (c ∷ cs) tail h =
    let a : length (flat_map framed (c ∷ cs) ++ tail) ≡ length (framed c) +
    length (flat_map framed cs ++ tail) =
    ap length (append_assoc (framed c) (flat_map framed cs) tail) ∙
    length-append (framed c) (flat_map framed cs ++ tail) in
    let b : length (framed c) ≡ 9 + length c =
    length-append (0x43 ∷ to_be_bytes w64 (length c)) c in
    (omega arith, all_small cs tail (omega arith))

-- the frames of the file of a map
pub file_framed : (version : Version) (bits : ℕ) (pairs : List Pair) →
    length (file (sha512_cut bits) version pairs) < 2 ^ 64 →
    IsFramed (flat_map frame (chunks (sha512_cut bits) version pairs) ++ 0x45 ∷ ending_for version
    bits pairs) (chunk_bytes version bits pairs) (Ok (ending_for version bits pairs))
file_framed version bits pairs short = search (rules, frames_bytes, all_small, ending_long)

pub file_is_accepted : (bytes : List ℕ) (content : Content) → length bytes < 2 ^ 64 →
    IsFileOf bytes content → IsVerdict bytes (Ok content)
file_is_accepted bytes content short f =
    let version = content.version in
    let pairs = content.pairs in
    let rest = flat_map frame (chunks (sha512_cut content.bits) version pairs) ++
    0x45 ∷ ending_for version content.bits pairs in
    let cs = chunk_bytes version content.bits pairs in
    let holding = map_holds version content.bits pairs f.lawful in
    let verdict : FramesVerdict version content.bits rest (Ok content) = record {
      chunks = cs;
      ending = Ok (ending_for version content.bits pairs);
      is = file_framed version content.bits pairs (subst (λ b. length b < 2 ^ 64) f.is short);
      so = record {
        read = Ok (map pairs_held cs);
        is = all_hold version cs holding.whole;
        so = sym (judged_ok version content.bits (map pairs_held cs) pairs (flat_held cs ∙
            holding.are) f.rising f.apart);
      };
    } in
    subst (λ b. IsVerdict b (Ok content)) (sym f.is)
    (header_verdict version content.bits rest (Ok content) f.bits verdict)

pub accepts_files : AcceptsFiles
accepts_files bytes content = (accepted_is_file bytes content, file_is_accepted bytes content)

-- What is read as a child entry is spelled there.
use Rattle.std.proofs.Common.{◌≡◌, ℕ, ◌+◌, ◌-◌, ◌≤◌, List, ◌++◌, length, take, drop, refl, sym, ap}
use Rattle.std.proofs.Common.{◌∙◌, subst, arith, append_assoc}
use Rattle.std.proofs.lemmas.List.{length-take, drop-drop}
use Rattle.std.proofs.lemmas.Nat.{be_bytes_8}
use Rattle.std.specs.Int.{w64, to_be_bytes, from_be_bytes}
use Rattle.prolly_entry.specs.declared.version.Version.{Version}
use Rattle.prolly_entry.specs.declared.version.Version.TheVariants.{One, Two}
use Rattle.prolly_entry.specs.Spelling.{BeginsWith, key_spelling, count_spelling, child_spelling}
use Rattle.prolly_entry.specs.Reading.{key_length}
use Rattle.prolly_entry.specs.declared.child.ChildAt.{ChildAt}
use Rattle.prolly_entry.specs.Child.{IsChild, entry_of, first_count}
use Rattle.prolly_entry.specs.ChildAt.{tail_length, key_at, reference_at, IsChildAt}
use Rattle.prolly_entry.proofs.ByteLists.{AreBytes, AreBytes-drop, AreBytes-take, cut_at}
use Rattle.prolly_entry.proofs.ByteLists.{length_of_cut, key_is_spelled}

-- The count lies behind a reference at offset a. Version One has none, so what follows the reference
-- is left as it is.
count_is_spelled : (version : Version) (a : ℕ) (bytes : List ℕ) → AreBytes bytes →
    a + tail_length version ≤ length bytes →
    drop (a + 20) bytes ≡ count_spelling version (from_be_bytes w64 (take 8 (drop (a + 20) bytes)))
    ++ drop (a + tail_length version) bytes
count_is_spelled One a bytes h w = refl
count_is_spelled Two a bytes h w =
    let eight = take 8 (drop (a + 20) bytes) in
    let there : a + 20 + 8 ≡ a + 28 = omega arith in
    let back : to_be_bytes w64 (from_be_bytes w64 eight) ≡ eight =
    be_bytes_8 eight (from_be_bytes w64 eight)
    (length_of_cut (a + 20) 8 bytes (omega arith))
    (AreBytes-take 8 (drop (a + 20) bytes) (AreBytes-drop (a + 20) bytes h)) refl in
    cut_at (a + 20) 8 bytes
    ∙ (ap (λ k. eight ++ drop k bytes) there
    ∙ ap (λ (t : List ℕ). t ++ drop (a + 28) bytes) (sym back))

-- The key, the reference and the count together.
child_is_spelled : (version : Version) (bytes : List ℕ) (n : ℕ) → AreBytes bytes →
    n ≡ key_length bytes → 2 + n + tail_length version ≤ length bytes →
    bytes ≡ child_spelling version (take n (drop 2 bytes)) (take 20 (drop (2 + n) bytes))
    (from_be_bytes w64 (take 8 (drop (2 + n + 20) bytes)))
    ++ drop (2 + n + tail_length version) bytes
child_is_spelled version bytes n h e w =
    let key = take n (drop 2 bytes) in
    let reference = take 20 (drop (2 + n) bytes) in
    let count = from_be_bytes w64 (take 8 (drop (2 + n + 20) bytes)) in
    key_is_spelled bytes n h e (omega arith)
    ∙ (ap (λ (t : List ℕ). key_spelling key ++ t) (cut_at (2 + n) 20 bytes)
    ∙ (ap (λ (t : List ℕ). key_spelling key ++ (reference ++ t))
    (count_is_spelled version (2 + n) bytes h w)
    ∙ simp append_assoc))

-- A reference follows each key.
least_tail : (version : Version) → 20 ≤ tail_length version
least_tail One = omega arith
least_tail Two = omega arith

-- A child entry whose key is not too long lies in front of bytes that hold the whole of it.
pub child_is_there : (version : Version) (bytes : List ℕ) (n : ℕ) → AreBytes bytes →
    n ≡ key_length bytes → n ≤ 1024 →
    2 + n + tail_length version ≤ length bytes →
    IsChildAt version bytes (record { key_end = 2 + n; len = 2 + n + tail_length version })
child_is_there version bytes n h e k w =
    let same : n ≡ 2 + n - 2 = omega arith in
    let least = least_tail version in record {
      spelled = subst (λ m. bytes ≡ child_spelling version (take m (drop 2 bytes))
          (take 20 (drop (2 + n) bytes))
          (from_be_bytes w64 (take 8 (drop (2 + n + 20) bytes))) ++
          drop (2 + n + tail_length version) bytes)
          same (child_is_spelled version bytes n h e w);
      key = omega (arith, length-take (2 + n - 2) (drop 2 bytes));
      reference = length_of_cut (2 + n) 20 bytes (omega arith);
      starts = omega arith;
      ends = refl;
      within = w;
    }

-- What is read behind the key is what the entry says.
pub child_found : (version : Version) (bytes : List ℕ) (at : ChildAt) → IsChildAt version bytes at →
    BeginsWith (entry_of version) IsChild bytes (record {
      key = key_at bytes at;
      reference = reference_at bytes at;
      count = first_count version (drop 20 (drop at.key_end bytes));
    }) (drop at.len bytes)
child_found One bytes at h = record {
  lawful = record { key = h.key; reference = h.reference };
  is = h.spelled;
}
child_found Two bytes at h = record {
  lawful = record { key = h.key; reference = h.reference };
  is = h.spelled ∙ ap (λ tail. child_spelling Two (key_at bytes at) (reference_at bytes at)
      (from_be_bytes w64 (take 8 tail)) ++ drop at.len bytes) (sym (drop-drop 20 at.key_end bytes));
}

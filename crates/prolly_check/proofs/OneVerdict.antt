-- Bytes have one verdict, which is never a fault of the reading.
use Rattle.std.proofs.Common.{rules, arith, ◌≡◌, ℕ, suc, true, List, [], ◌∷◌, ◌++◌, length, drop}
use Rattle.std.proofs.Common.{Option, Some, None, Result, Ok, Err, refl, sym, ap, ◌∙◌, subst}
use Rattle.std.proofs.Common.{append_assoc, ◌≤◌, inl, inr}
use Rattle.std.specs.List.{flat_map, AllByRecursion}
use Rattle.std.specs.Prelude.{slice_index, IfSome, IfErr}
use Rattle.prolly_entry.specs.Pair.{Pair}
use Rattle.prolly_entry.specs.Position.{Position}
use Rattle.prolly_entry.specs.declared.version.Version.{Version}
use Rattle.prolly_entry.specs.lemmas.Lists.{all_back, tail_is}
use Rattle.prolly_io.specs.Frame.{framed, has_no_frame, IsSmall}
use Rattle.prolly_io.specs.FrameLaws.{begins_frame, one_front}
use Rattle.prolly_io.specs.Header.{header_tests, header_fault, version_of}
use Rattle.prolly_io.specs.declared.format.header.HeaderFault.{HeaderFault}
use Rattle.prolly_look_up.specs.Content.{Content}
use Rattle.prolly_look_up.specs.Entries.{Holds, AreWhole}
use Rattle.prolly_check.specs.ReadChunks.{IsRead}
use Rattle.prolly_check.specs.Frames.{ending_of}
use Rattle.prolly_check.specs.FirstFault.{order_fault, difference, reuse, or_content, last_behind}
use Rattle.prolly_check.specs.Verdict.{UnlessMemory, IsRefusal, ReadVerdict, EndVerdict}
use Rattle.prolly_check.specs.Verdict.{FramesVerdict, HeaderVerdict, OneVerdict, IsVerdict}
use Rattle.prolly_check.specs.declared.verdict.fault.CheckFault.{CheckFault}
use Rattle.prolly_check.specs.declared.verdict.fault.CheckFault.TheVariants.{BadChunk}
use Rattle.prolly_check.proofs.HeldPairs.{lists_are, are_whole}
use Rattle.prolly_check.specs.declared.verdict.fault.CheckFault.TheVariants as faults

-- ---- bytes have one verdict

-- ---- the frames

regroup : (d : List ℕ) (ds : List (List ℕ)) (y : List ℕ) →
    flat_map framed (d ∷ ds) ++ y ≡ framed d ++ (flat_map framed ds ++ y)
regroup d ds y = append_assoc (framed d) (flat_map framed ds) y

pub record Same (cs ds : List (List ℕ)) (x y : List ℕ) : Type 0 where
  pub chunks : cs ≡ ds
  pub tail : x ≡ y

pub framed_one : (cs ds : List (List ℕ)) (x y : List ℕ) → AllByRecursion IsSmall cs →
    AllByRecursion IsSmall ds → has_no_frame x ≡ true → has_no_frame y ≡ true →
    flat_map framed cs ++ x ≡ flat_map framed ds ++ y → Same cs ds x y
framed_one [] [] x y h k a b e = record { chunks = refl; tail = e }
framed_one [] (d ∷ ds) x y h k a b e = search (rules, begins_frame, regroup)
framed_one (c ∷ cs) [] x y h k a b e = search (rules, begins_frame, regroup)
framed_one (c ∷ cs) (d ∷ ds) x y h k a b e =
    let p = one_front c d (flat_map framed cs ++ x) (flat_map framed ds ++ y) h.0 k.0
    (sym (regroup c cs x) ∙ e ∙ regroup d ds y) in
    let r = framed_one cs ds x y h.1 k.1 a b p.rest in
    record { chunks = ap (λ z. z ∷ cs) p.front ∙ ap (λ zs. d ∷ zs) r.chunks; tail = r.tail }

-- ---- the chunks

module _ (version : Version) where
  not_bad : (cs before : List (List ℕ)) (c : List ℕ) (after : List (List ℕ)) →
      cs ≡ before ++ c ∷ after → AreWhole version cs →
      ((pairs : List Pair) → Holds version c pairs → ⊥) → ⊥
  not_bad cs before c after e w bad = search (rules, all_back)

  bad_same : (before other : List (List ℕ)) (c d : List ℕ) (after rest : List (List ℕ)) →
      before ++ c ∷ after ≡ other ++ d ∷ rest → AreWhole version before → AreWhole version other →
      ((pairs : List Pair) → Holds version c pairs → ⊥) →
      ((pairs : List Pair) → Holds version d pairs → ⊥) → length before ≡ length other
  bad_same [] [] c d after rest e h k bad worse = refl
  bad_same [] (o ∷ other) c d after rest e h k bad worse = search rules
  bad_same (b ∷ before) [] c d after rest e h k bad worse = search rules
  bad_same (b ∷ before) (o ∷ other) c d after rest e h k bad worse =
      ap suc (bad_same before other c d after rest
      (tail_is b o (before ++ c ∷ after) (other ++ d ∷ rest) e) h.1 k.1 bad worse)

  read_one : (cs : List (List ℕ)) (r s : Result (List (List Pair)) CheckFault) →
      IsRead version cs r → IsRead version cs s → r ≡ s
  read_one cs (Ok ls) (Ok ms) h k = search (rules, lists_are)
  read_one cs (Ok ls) (Err f) h k = search (rules, not_bad, are_whole)
  read_one cs (Err f) (Ok ms) h k = search (rules, not_bad, are_whole)
  read_one cs (Err f) (Err g) h k = grind (arith, bad_same, are_whole)

-- ---- the verdicts

end_same : (version : Version) (bits : ℕ) (cs : List (List ℕ)) (ending : Result (List ℕ) CheckFault)
    (v w : Result Content CheckFault) →
    EndVerdict version bits cs ending v → EndVerdict version bits cs ending w → v ≡ w
end_same version bits cs (Ok ending) v w h k = grind (arith, read_one)
end_same version bits cs (Err f) v w h k = h ∙ sym k

frames_same : (version : Version) (bits : ℕ) (bytes : List ℕ) (v w : Result Content CheckFault) →
    FramesVerdict version bits bytes v → FramesVerdict version bits bytes w → v ≡ w
frames_same version bits bytes v w h k = grind (arith, framed_one, end_same)

pub one_verdict : OneVerdict
one_verdict bytes v w h k = go (header_fault header_tests bytes) h k
  where
    go : (fault : Option HeaderFault) → HeaderVerdict fault bytes v → HeaderVerdict fault bytes w →
        v ≡ w
    go (Some f) h k = h ∙ sym k
    go None h k = frames_same (version_of (slice_index bytes 4)) (slice_index bytes 5)
        (drop 6 bytes) v w h k

-- ---- a verdict is never want of memory, a failed read, or that there are too many bytes

abbrev pub OfBytes : CheckFault → Type 0
OfBytes faults.Memory = ⊥
OfBytes faults.Read = ⊥
OfBytes faults.TooLong = ⊥
OfBytes fault = Unit {0}

abbrev AnyOfBytes : Option CheckFault → Type 0
AnyOfBytes fault = IfSome fault OfBytes

abbrev ErrOfBytes : {A : Type 0} → Result A CheckFault → Type 0
ErrOfBytes result = IfErr result OfBytes

of_ending : (number : ℕ) (bytes : List ℕ) → ErrOfBytes (ending_of number bytes)
of_ending number [] = tt
of_ending number (b ∷ rest) = grind arith

of_order : (last : Position) (number : ℕ) (lists : List (List Pair)) →
    AnyOfBytes (order_fault last number lists)
of_order last number [] = tt
of_order last number (ps ∷ lists) =
    search (rules, of_order (last_behind last ps) (suc number) lists)

of_difference : (number : ℕ) (cs ds : List (List ℕ)) → AnyOfBytes (difference number cs ds)
of_difference number [] [] = tt
of_difference number [] (d ∷ ds) = tt
of_difference number (c ∷ cs) [] = tt
of_difference number (c ∷ cs) (d ∷ ds) = search (rules, of_difference (suc number) cs ds)

of_reuse : (before : List (List ℕ)) (number : ℕ) (cs : List (List ℕ)) →
    AnyOfBytes (reuse before number cs)
of_reuse before number [] = tt
of_reuse before number (c ∷ cs) = search (rules, of_reuse (c ∷ before) (suc number) cs)

of_content : (content : Content) (fault : Option CheckFault) → AnyOfBytes fault →
    ErrOfBytes (or_content content fault)
of_content content None h = tt
of_content content (Some fault) h = h

of_read : (version : Version) (bits : ℕ) (cs : List (List ℕ)) (ending : List ℕ)
    (read : Result (List (List Pair)) CheckFault) (verdict : Result Content CheckFault) →
    IsRead version cs read → ReadVerdict version bits cs ending read verdict → ErrOfBytes verdict
of_read version bits cs ending (Ok lists) verdict is so =
    search (rules, of_content, of_order, of_difference, of_reuse)
of_read version bits cs ending (Err fault) verdict is so = search rules

of_end : (version : Version) (bits : ℕ) (cs : List (List ℕ)) (ending : Result (List ℕ) CheckFault)
    (verdict : Result Content CheckFault) → ErrOfBytes ending →
    EndVerdict version bits cs ending verdict → ErrOfBytes verdict
of_end version bits cs (Ok ending) verdict h so = search (rules, of_read)
of_end version bits cs (Err fault) verdict h so = subst ErrOfBytes (sym so) h

pub verdict_of_bytes : (bytes : List ℕ) (fault : CheckFault) → IsVerdict bytes (Err fault) →
    OfBytes fault
verdict_of_bytes bytes fault v = grind (arith, of_end, of_ending)

-- ---- refusals of the bytes that were read

pub no_failed_read : (bytes : List ℕ) → UnlessMemory (λ fault. IsVerdict bytes (Err fault))
    faults.Read → ⊥
no_failed_read bytes (inl e) = cc
no_failed_read bytes (inr v) = verdict_of_bytes bytes faults.Read v

pub refusal : (read bytes : List ℕ) (max_bytes : ℕ) (fault : CheckFault) → length read ≤ max_bytes →
    read ≡ bytes → UnlessMemory (λ fault. IsVerdict read (Err fault)) fault →
    IsRefusal bytes max_bytes fault
refusal read bytes max_bytes fault within e (inl memory) = search rules
refusal read bytes max_bytes fault within e (inr h) = search (rules, verdict_of_bytes)

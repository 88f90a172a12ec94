-- What is known of a file that is checked, and of one that was accepted.
use Rattle.std.proofs.Common.{rules, ◌≡◌, ℕ, zero, suc, ◌-◌, ◌^◌, ◌<◌, List, [], ◌∷◌, ◌++◌, length}
use Rattle.std.proofs.Common.{map, get_or, Ok, Err, inl, inr, ◌⊎◌, refl, sym, ap, ◌∙◌, subst, arith}
use Rattle.std.proofs.Common.{◌≤◌, drop, length-drop, true, Option, Some, None, Result, ◌+◌, take}
use Rattle.std.proofs.Common.{append_assoc, append-nil}
use Rattle.std.specs.List.{flat_map, AllByRecursion}
use Rattle.std.specs.Prelude.{slice_index}
use Rattle.std.specs.declared.ops.Range.{Range}
use Rattle.std.proofs.Math.Logic.{⊎_map}
use Rattle.std.proofs.lemmas.Grind.{common_steps}
use Rattle.std.proofs.lemmas.List.{length-append, length-map, map_push, length-take-le, drop-drop}
use Rattle.std.proofs.lemmas.List.Concat.{flat_map-append}
use Rattle.prolly_entry.specs.Cut.{sha512_cut}
use Rattle.prolly_entry.specs.Pair.{Pair}
use Rattle.prolly_entry.specs.Reference.{reference_of}
use Rattle.prolly_entry.specs.declared.reference.Ref.{Ref}
use Rattle.prolly_entry.specs.declared.version.Version.{Version}
use Rattle.prolly_entry.specs.lemmas.Lists.{all_append}
use Rattle.prolly_tree.specs.Chunk.{Chunk, chunk_of, chunks, post_order, IsIn}
use Rattle.prolly_tree.specs.File.{header, end_record}
use Rattle.prolly_tree.specs.Tree.{Tree, bytes_of, tree_of}
use Rattle.prolly_tree.specs.lemmas.Splits.{flat}
use Rattle.prolly_io.specs.Frame.{framed, has_no_frame, IsSmall, BeginsFrame}
use Rattle.prolly_io.specs.Header.{header_tests, header_fault, version_of}
use Rattle.prolly_io.specs.declared.format.header.Header.{Header}
use Rattle.prolly_look_up.specs.Content.{chunks_of, Content, root_bytes, chunk_bytes, IsFileOf}
use Rattle.prolly_check.specs.Chunks.{IsChecked, content_of, IsLaidOut, HasAt, IsIndex}
use Rattle.prolly_check.specs.Chunks.{AreReferences}
use Rattle.prolly_check.specs.ReadChunks.{IsBad, IsRead}
use Rattle.prolly_look_up.specs.Entries.{AreWhole}
use Rattle.prolly_check.specs.Frames.{ending_of, IsFramed, chunks_in, FramesTo, chunk_in, IsWithin}
use Rattle.prolly_look_up.specs.HeldPairs.{pairs_held}
use Rattle.prolly_check.specs.FirstFault.{Says, reuse, canonical_fault, or_content, judged}
use Rattle.prolly_check.specs.FirstFault.{CompareAs, ending_of_chunks, order_fault, ending_for}
use Rattle.prolly_chunk.specs.Missing.{chunks_size}
use Rattle.prolly_check.specs.Verdict.{UnlessMemory, IsVerdict, ReadVerdict, FramesVerdict}
use Rattle.prolly_check.specs.declared.chunks.Index.{Index}
use Rattle.prolly_check.specs.declared.verdict.fault.CheckFault.{CheckFault}
use Rattle.prolly_check.specs.lemmas.Sizes.{few_in_frames, frames_in}
use Rattle.prolly_check.proofs.HeldPairs.{all_hold, flat_held}
use Rattle.prolly_check.proofs.IndexSteps.{as_many, reference_at}
use Rattle.prolly_check.proofs.OneVerdict.{one_verdict}
use Rattle.prolly_check.proofs.Verdicts.{file_is_accepted, header_ok, ending_ok, canonical_ok}
use Rattle.prolly_check.proofs.Verdicts.{accepted_is_file, difference_ok}
use Rattle.prolly_check.specs.declared.verdict.fault.CheckFault.TheVariants as faults

-- ---- what is known of a file that was accepted

-- bytes are the file of one map
pub one_content : (bytes : List ℕ) (a b : Content) → length bytes < 2 ^ 64 → IsFileOf bytes a →
    IsFileOf bytes b → a ≡ b
one_content bytes a b short f g =
    let one = one_verdict bytes (Ok a) (Ok b) (file_is_accepted bytes a short f)
    (file_is_accepted bytes b short g) in cc

-- ---- the number of chunks, and the last one

last_is : (version : Version) (level : ℕ) (t : Tree level) → (before : List Chunk) ×
    (post_order version level t ≡ before ++ chunk_of version level t ∷ [])
last_is version zero t = ([], refl)
last_is version (suc level) ts = (flat_map (post_order version level) ts, refl)

last_bytes : (before : List Chunk) (c : Chunk) →
    get_or (map (λ c. c.bytes) (before ++ c ∷ [])) (length (before ++ c ∷ []) - 1) [] ≡ c.bytes
last_bytes before c = search (rules, common_steps)

-- the chunks of a map are some, and the last is the root's
pub chunks_some : (version : Version) (bits : ℕ) (pairs : List Pair) →
    0 < length (chunk_bytes version bits pairs)
chunks_some version bits pairs = grind (arith, length-map, length-append)

pub chunks_last : (version : Version) (bits : ℕ) (pairs : List Pair) →
    get_or (chunk_bytes version bits pairs) (length (chunk_bytes version bits pairs) - 1) []
    ≡ bytes_of version (tree_of (sha512_cut bits) version pairs).level
    (tree_of (sha512_cut bits) version pairs).tree
chunks_last version bits pairs =
    let tree = tree_of (sha512_cut bits) version pairs in
    let l = last_is version tree.level tree.tree in
    ap (λ n. get_or (chunk_bytes version bits pairs) (n - 1) [])
    (length-map (chunks (sha512_cut bits) version pairs) (λ c. c.bytes))
    ∙ ap (λ cs. get_or (map (λ c. c.bytes) cs) (length cs - 1) []) l.1 ∙
    last_bytes l.0 (chunk_of version tree.level tree.tree)

-- ---- no file is refused

pub not_refused : (read bytes : List ℕ) (content : Content) (fault : CheckFault) →
    length bytes < 2 ^ 64 → read ≡ bytes → IsFileOf bytes content →
    UnlessMemory (λ fault. IsVerdict read (Err fault)) fault → (fault ≡ faults.Memory) ⊎
    (fault ≡ faults.Read)
not_refused read bytes content fault short e f (inl memory) = inl memory
not_refused read bytes content fault short e f (inr v) =
    let one = one_verdict bytes (Ok content) (Err fault)
    (file_is_accepted bytes content short f) (subst (λ b. IsVerdict b (Err fault)) e v) in cc

-- where nothing is read, only memory is wanted
pub only_memory : (bytes : List ℕ) (content : Content) (fault : CheckFault) →
    length bytes < 2 ^ 64 → IsFileOf bytes content →
    UnlessMemory (λ fault. IsVerdict bytes (Err fault)) fault → fault ≡ faults.Memory
only_memory bytes content fault short f (inl memory) = memory
only_memory bytes content fault short f (inr v) =
    let one = one_verdict bytes (Ok content) (Err fault)
    (file_is_accepted bytes content short f) v in cc

-- ---- its chunks have no more pairs and no more bytes than the file has

pub few_held : (version : Version) (bytes : List ℕ) (spans : List (Range ℕ)) (offset : ℕ) →
    FramesTo bytes 6 spans offset → AreWhole version (chunks_in bytes spans) →
    length (flat_map pairs_held (chunks_in bytes spans)) ≤ length bytes
few_held version bytes spans offset frames whole =
    search (rules, few_in_frames, length-append, length-drop)

few_framed : (cs : List (List ℕ)) → chunks_size cs ≤ length (flat_map framed cs)
few_framed [] = omega arith
few_framed (c ∷ cs) = grind (arith, length-append, few_framed cs)

pub few_bytes : (bytes : List ℕ) (content : Content) → IsFileOf bytes content →
    chunks_size (chunks_of content) ≤ length bytes
few_bytes bytes content f = grind (arith, few_framed, frames_in)

-- ---- the chunks of a file that was checked, found by their numbers and their references

-- the chunks are those of whatever the bytes are a file of
pub chunks_are : (bytes : List ℕ) (header : Header) (spans : List (Range ℕ))
    (index : Index) → IsChecked bytes header spans index → (content : Content) →
    length bytes < 2 ^ 64 → IsFileOf bytes content → chunks_in bytes spans ≡ chunks_of content
chunks_are bytes header spans index checked content short is =
    checked.chunks_are ∙ ap chunks_of (one_content bytes
    (content_of header (chunks_in bytes spans)) content short checked.is is)

-- the last is the root
pub root_there : (content : Content) (number : ℕ) → number ≡ length (chunks_of content) - 1 →
    get_or (chunks_of content) number [] ≡ root_bytes content
root_there content number is = search (rules, chunks_last)

-- a chunk that has a reference has a number
pub number_of : (chunks : List (List ℕ)) (reference : List ℕ) (chunk : List ℕ) →
    IsIn chunk chunks → reference_of chunk ≡ reference → (n : ℕ) × HasAt chunks n reference
number_of [] reference chunk is_in is = absurd is_in
number_of (c ∷ cs) reference chunk (inl e) is = search rules
number_of (c ∷ cs) reference chunk (inr there) is =
    let at = number_of cs reference chunk there is in
    let within = at.1.within in
    (suc at.0, record { within = omega arith; is = at.1.is })

-- ---- what the steps of the checker find, in the words of the verdict

abbrev pub Refused : List ℕ → CheckFault → Type 0
Refused bytes fault = UnlessMemory (λ fault. IsVerdict bytes (Err fault)) fault

module _ (bytes : List ℕ) (header : Header) (spans : List (Range ℕ)) (offset : ℕ) where
  abbrev cs : List (List ℕ)
  cs = chunks_in bytes spans

  abbrev lists : List (List Pair)
  lists = map pairs_held cs

  -- ---- the header, the frames, the end record and the entries

  module _ (lawful : header_fault header_tests bytes ≡ None)
      (version_is : header.version ≡ version_of (slice_index bytes 4))
      (bits_are : header.bits ≡ slice_index bytes 5) (frames : FramesTo bytes 6 spans offset)
      (all : has_no_frame (drop offset bytes) ≡ true) where
    framed_so : (ending : Result (List ℕ) CheckFault) → ending_of (length spans)
        (drop offset bytes) ≡ ending → IsFramed (drop 6 bytes) cs ending
    framed_so ending e = grind (arith, length-map)

    verdict_so : (verdict : Result Content CheckFault) →
        FramesVerdict header.version header.bits (drop 6 bytes) verdict → IsVerdict bytes verdict
    verdict_so verdict f = grind arith

    -- what follows the frames, as the code has it
    module _ (rest : List ℕ) (number : ℕ) (left : rest ≡ drop offset bytes)
        (count : number ≡ length spans) where
      ending_is : ending_of (length spans) (drop offset bytes) ≡ ending_of number rest
      ending_is = search rules

      pub at_ending : (fault : CheckFault) → ending_of number rest ≡ Err fault →
          Refused bytes fault
      at_ending fault h = inr
          (verdict_so (Err fault) (record {
            chunks = cs;
            ending = Err fault;
            is = framed_so (Err fault) (ending_is ∙ h);
            so = refl;
          }))

      module _ (ended : ending_of number rest ≡ Ok (drop 1 rest)) where
        read_so : (read : Result (List (List Pair)) CheckFault)
            (verdict : Result Content CheckFault) → IsRead header.version cs read →
            ReadVerdict header.version header.bits cs (drop 1 rest) read verdict →
            IsVerdict bytes verdict
        read_so read verdict is so = verdict_so verdict
            (record {
              chunks = cs;
              ending = Ok (drop 1 rest);
              is = framed_so (Ok (drop 1 rest)) (ending_is ∙ ended);
              so =
                  record { read = read; is = is; so = so };
            })

        pub at_read : (fault : CheckFault) → UnlessMemory (IsBad header.version cs) fault →
            Refused bytes fault
        at_read fault = ⊎_map (λ memory. memory)
            (λ bad. read_so (Err fault) (Err fault) bad refl)

        pub at_entries : AreWhole header.version cs → IsLaidOut bytes header spans offset
        at_entries whole = record {
          within = frames.within;
          whole = whole;
          few = few_held header.version bytes spans offset frames whole;
          bits = subst (λ n. n ≤ 24) (sym bits_are) (header_ok bytes lawful).bits;
          reached = frames.reached;
          ending = drop 1 rest;
          behind = sym left ∙ ending_ok number rest (drop 1 rest) ended;
          so = read_so (Ok lists) _ (all_hold header.version cs whole) refl;
        }

  -- ---- the chunks of the pairs, and the references

  module _ (l : IsLaidOut bytes header spans offset) (chunks : List (List ℕ)) (are : chunks ≡ cs)
    where
      module _ (cut : ℕ) (same : cut ≡ header.bits) (rest : List ℕ) (left : rest ≡ drop offset bytes)
        where
          abbrev it : Content
          it = record { version = header.version; bits = header.bits; pairs = flat lists }

          says : (o : Option CheckFault) → Says header.version cut chunks rest o →
              canonical_fault header.version header.bits cs l.ending lists ≡ o
          says o h = search rules

          pub at_canonical : (fault : CheckFault) →
              UnlessMemory (λ fault. Says header.version cut chunks rest (Some fault)) fault →
              Refused bytes fault
          at_canonical fault = grind arith

          module _ (canonical : Says header.version cut chunks rest None) where
            then_reuse : judged header.version header.bits cs l.ending lists ≡
                or_content it (reuse [] 0 chunks)
            then_reuse = search rules

            pub at_references : (fault : CheckFault) →
                UnlessMemory (λ fault. reuse [] 0 chunks ≡ Some fault) fault → Refused bytes fault
            at_references fault = search rules

            pub at_end : (index : Index) → reuse [] 0 chunks ≡ None →
                IsIndex index chunks → IsChecked bytes header spans index
            at_end index apart indexed =
                let content : it ≡ content_of header cs =
                ap (λ ps. record { version = header.version; bits = header.bits; pairs = ps })
                (flat_held cs) in
                record {
                  is = subst (IsFileOf bytes) content
                      (accepted_is_file bytes it
                      (subst (IsVerdict bytes) (then_reuse ∙ ap (or_content it) apart) l.so));
                  chunks_are = subst (λ content. cs ≡ chunks_of content) content
                      (sym (canonical_ok header.version header.bits cs l.ending lists
                      (says None canonical)).same);
                  within = l.within;
                  whole = l.whole;
                  indexed = subst (IsIndex index) are indexed;
                }

-- ---- one more frame of a file

pub one_more : (bytes : List ℕ) (from : ℕ) (spans : List (Range ℕ)) (offset len : ℕ) →
    FramesTo bytes from spans offset →
    BeginsFrame (drop offset bytes) len →
    FramesTo bytes from (spans ++ record { start = offset + 9; end = offset + 9 + len } ∷ []) (offset + 9 + len)
one_more bytes from spans offset len f b =
    let span : Range ℕ = record { start = offset + 9; end = offset + 9 + len } in
    let rest = drop offset bytes in
    let long : length rest ≡ length bytes - offset = length-drop offset bytes in
    let inside : 9 + len ≤ length rest = b.within in
    let reached : offset ≤ length bytes = f.reached in
    let chunk : take len (drop 9 rest) ≡ chunk_in bytes span =
    ap (take len) (drop-drop 9 offset bytes) ∙
    ap (λ n. take n (drop (offset + 9) bytes)) (let e : len ≡ offset + 9 + len - (offset + 9) =
    omega arith in e) in
    let behind : drop (9 + len) rest ≡ drop (offset + 9 + len) bytes =
    drop-drop (9 + len) offset bytes ∙ ap (λ n. drop n bytes) (let e : offset + (9 + len) ≡ offset +
    9 + len = omega arith in e) in
    let cs = chunks_in bytes spans in
    let short : length (take len (drop 9 rest)) ≡ len =
    length-take-le len (drop 9 rest) (omega (arith, length-drop 9 rest)) in
    let fits : offset + 9 + len ≤ length bytes = omega arith in
    record {
      reached = fits;
      spelled = f.spelled ∙ ap (λ x. flat_map framed cs ++ x) b.is ∙
          sym (append_assoc (flat_map framed cs) (framed (take len (drop 9 rest)))
          (drop (9 + len) rest))
          ∙ ap (λ x. x ++ drop (9 + len) rest)
          (sym (flat_map-append framed cs (take len (drop 9 rest) ∷ []) ∙
          ap (λ x. flat_map framed cs ++ x) (append-nil (framed (take len (drop 9 rest))))))
          ∙ ap (λ c. flat_map framed (cs ++ c ∷ []) ++ drop (9 + len) rest) chunk
          ∙ ap (λ x. flat_map framed x ++ drop (9 + len) rest)
          (sym (map_push (chunk_in bytes) spans span))
          ∙ ap (λ x. flat_map framed (chunks_in bytes (spans ++ span ∷ [])) ++ x) behind;
      small = subst (AllByRecursion IsSmall) (sym (map_push (chunk_in bytes) spans span))
          (all_append IsSmall cs (chunk_in bytes span ∷ []) f.small
          (subst IsSmall chunk (let s : len < 2 ^ 64 = b.small in omega arith), tt));
      within = all_append (IsWithin bytes) spans (span ∷ []) f.within ((omega arith, fits), tt);
    }

-- ---- the tests against the file of the pairs

own_ending : (version : Version) (bits : ℕ) (pairs : List Pair) →
    ending_of_chunks (chunk_bytes version bits pairs) ≡ ending_for version bits pairs
own_ending version bits pairs = grind (arith, chunks_last, length-map)

-- the end record of the last reference and the number of chunks is theirs
pub ends_so : (cs : List (List ℕ)) (references : List Ref) (count : ℕ) (other : Ref) →
    AreReferences cs references → count ≡ length cs → 0 < length cs →
    end_record (get_or references (count - 1) other).0 count ≡ 0x45 ∷ ending_of_chunks cs
ends_so cs references count other are e some = search (rules, reference_at, as_many, get_or)

-- where the keys rise, the chunks are tested, and then the end record
module _ (version : Version) (bits : ℕ) (cs : List (List ℕ))
    (rise : order_fault None 0 (map pairs_held cs) ≡ None) (behind : List ℕ) where
  pub chunks_say : (fault : CheckFault) → CompareAs version bits cs (Some fault) →
      Says version bits cs behind (Some fault)
  chunks_say fault differ ending e = rw (rise, flat_held cs, differ)

  module _ (same : CompareAs version bits cs None) where
    abbrev wanted : List ℕ
    wanted = ending_for version bits (flat_map pairs_held cs)

    are_chunks : chunk_bytes version bits (flat_map pairs_held cs) ≡ cs
    are_chunks = difference_ok 0 (chunk_bytes version bits (flat_map pairs_held cs)) cs same

    pub some_chunks : 0 < length cs
    some_chunks = search (rules, are_chunks, chunks_some)

    ends_as : 0x45 ∷ ending_of_chunks cs ≡ 0x45 ∷ wanted
    ends_as = search (rules, are_chunks, own_ending)

    pub end_says : (fault : CheckFault) → (fault ≡ faults.BadEnd) ×
        (behind ≡ 0x45 ∷ ending_of_chunks cs → ⊥) → Says version bits cs behind (Some fault)
    end_says fault bad ending e = search (rules, flat_held, ends_as)

    pub all_say : behind ≡ 0x45 ∷ ending_of_chunks cs → Says version bits cs behind None
    all_say is ending e = search (rules, flat_held, ends_as)

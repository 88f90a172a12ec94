-- The frames of a file of a map, one after another.
use Rattle.std.proofs.Common.{◌≡◌, ℕ, zero, suc, ◌+◌, ◌<◌, ◌≤◌, ◌^◌, true, List, [], ◌∷◌, ◌++◌}
use Rattle.std.proofs.Common.{length, drop, get_or, map, Option, Some, None, Result, Ok, Err}
use Rattle.std.proofs.Common.{refl, sym, ap, ◌∙◌, subst, arith, append_assoc, append-nil}
use Rattle.std.proofs.lemmas.Bool.{false≢true}
use Rattle.std.proofs.lemmas.List.{length-append}
use Rattle.std.specs.List.{flat_map, AllByRecursion}
use Rattle.prolly_entry.specs.Pair.{Pair}
use Rattle.prolly_entry.specs.declared.version.Version.{Version}
use Rattle.prolly_io.specs.Frame.{IsSmall, framed, has_no_frame}
use Rattle.prolly_io.specs.FrameLaws.{begins_frame, one_front}
use Rattle.prolly_io.specs.Header.{header_fault, header_tests}
use Rattle.prolly_io.specs.declared.format.header.HeaderFault.{HeaderFault}
use Rattle.prolly_look_up.specs.Content.{chunks_of, Content, chunk_bytes, IsFileOf}
use Rattle.prolly_check.specs.ReadChunks.{AllHold, IsRead}
use Rattle.prolly_look_up.specs.Entries.{Holds}
use Rattle.prolly_check.specs.FirstFault.{canonical_fault, difference, judged}
use Rattle.prolly_check.specs.FirstFault.{or_content, order_fault}
use Rattle.prolly_check.specs.Frames.{IsFramed}
use Rattle.prolly_look_up.specs.HeldPairs.{pairs_held}
use Rattle.prolly_check.specs.Verdict.{EndVerdict, HeaderVerdict, AcceptsFiles, ReadVerdict}
use Rattle.prolly_check.specs.declared.verdict.fault.CheckFault.{CheckFault}
use Rattle.prolly_check.specs.lemmas.Faults.{difference_ok, or_none}
use Rattle.prolly_look_up.specs.lemmas.HeldPairs.{held_is}
use Rattle.prolly_c.proofs.Entries.{end_behind}
use Rattle.prolly_c.specs.Runs.{IsEnd, run_count, runs_in}
use Rattle.prolly_c.specs.Writing.{Spells, Wrote, WroteChunk}
use Rattle.prolly_c.specs.declared.run.Run.{Run}
use Rattle.prolly_c.specs.declared.writer.Written.{Written}

-- The index of a file is written up to these bytes: chunks are left, and those pairs that they hold.
pub record IsWrittenTo (bytes rest : List ℕ) (content : Content) (out : List Run) (written : Written)
    : Type 0 where
  pub chunks : List (List ℕ)
  pub lists : List (List Pair)
  pub tail : List ℕ
  pub done : List Pair
  pub end : IsEnd bytes rest
  pub spelled : rest ≡ flat_map framed chunks ++ tail
  pub none : has_no_frame tail ≡ true
  pub small : AllByRecursion IsSmall chunks
  pub hold : AllHold content.version chunks lists
  pub are : content.pairs ≡ done ++ flat_map (λ pairs. pairs) lists
  pub wrote : Wrote bytes out written done
  pub runs : written.runs + runs_in lists ≡ run_count content

-- ---- at the start

-- The chunks of a file, and the pairs that each holds.
pub record HasChunks (bytes : List ℕ) (content : Content) : Type 0 where
  pub chunks : List (List ℕ)
  pub lists : List (List Pair)
  pub tail : List ℕ
  pub spelled : drop 6 bytes ≡ flat_map framed chunks ++ tail
  pub none : has_no_frame tail ≡ true
  pub small : AllByRecursion IsSmall chunks
  pub hold : AllHold content.version chunks lists
  pub are : content.pairs ≡ flat_map (λ pairs. pairs) lists
  pub lists_are : lists ≡ map pairs_held (chunks_of content)

same_ok : {a b : Content} → ◌≡◌ {A = Result Content CheckFault} (Ok a) (Ok b) → a ≡ b
same_ok e = cc

not_err : {a : Content} {fault : CheckFault} →
    ◌≡◌ {A = Result Content CheckFault} (Ok a) (Err fault) → ⊥
not_err e = cc

content_is : (content found : Content) (fault : Option CheckFault) →
    ◌≡◌ {A = Result Content CheckFault} (Ok content) (or_content found fault) →
    (content ≡ found) × (fault ≡ None)
content_is content found None e = (same_ok e, refl)
content_is content found (Some fault) e = absurd (not_err e)

-- What is judged to be a file has the chunks of its content.
judged_is : (content : Content) (version : Version) (bits : ℕ) (chunks : List (List ℕ))
    (ending : List ℕ) (lists : List (List Pair)) →
    ◌≡◌ {A = Result Content CheckFault} (Ok content) (judged version bits chunks ending lists) →
    (content ≡ record { version = version; bits = bits; pairs = flat_map (λ pairs. pairs) lists })
    × (chunk_bytes version bits (flat_map (λ pairs. pairs) lists) ≡ chunks)
judged_is content version bits chunks ending lists e =
    let pairs = flat_map (λ pairs. pairs) lists in
    let is = content_is content _ _ e in
    let canonical = or_none (canonical_fault version bits chunks ending lists) _ is.1 in
    let behind = or_none (order_fault None 0 lists) _ canonical.0 in (
      is.0,
      difference_ok 0 (chunk_bytes version bits pairs) chunks
          (or_none (difference 0 (chunk_bytes version bits pairs) chunks) _ behind.1).0,
    )

all_held : (version : Version) (chunks : List (List ℕ)) (lists : List (List Pair)) →
    AllHold version chunks lists → lists ≡ map pairs_held chunks
all_held version [] [] hold = refl
all_held version [] (pairs ∷ lists) hold = absurd hold
all_held version (c ∷ cs) [] hold = absurd hold
all_held version (c ∷ cs) (pairs ∷ lists) hold =
    ap (λ x. x ∷ lists) (held_is version c pairs hold.0) ∙
    ap (λ xs. pairs_held c ∷ xs) (all_held version cs lists hold.1)

read_is : (bytes : List ℕ) (content : Content) (version : Version) (bits : ℕ)
    (chunks : List (List ℕ)) (ending tail : List ℕ) → drop 6 bytes ≡ flat_map framed chunks ++ tail →
    has_no_frame tail ≡ true → AllByRecursion IsSmall chunks →
    (read : Result (List (List Pair)) CheckFault) → IsRead version chunks read →
    ReadVerdict version bits chunks ending read (Ok content) → HasChunks bytes content
read_is bytes content version bits chunks ending tail spelled none small (Ok lists) is so =
    let judged_so = judged_is content version bits chunks ending lists so in
    let same = judged_so.0 in record {
      chunks = chunks;
      lists = lists;
      tail = tail;
      spelled = spelled;
      none = none;
      small = small;
      hold = subst (λ v. AllHold v chunks lists) (sym (ap (λ c. c.version) same)) is;
      are = ap (λ c. c.pairs) same;
      lists_are = all_held version chunks lists is ∙ ap (map pairs_held) (sym judged_so.1) ∙
          ap (λ c. map pairs_held (chunks_of c)) (sym same);
    }
read_is bytes content version bits chunks ending tail spelled none small (Err fault) is so =
    absurd (not_err so)

ending_is : (bytes : List ℕ) (content : Content) (version : Version) (bits : ℕ)
    (chunks : List (List ℕ)) (ending : Result (List ℕ) CheckFault) →
    IsFramed (drop 6 bytes) chunks ending →
    EndVerdict version bits chunks ending (Ok content) → HasChunks bytes content
ending_is bytes content version bits chunks (Ok ending) framed so = read_is bytes content version bits
    chunks ending framed.tail framed.spelled framed.all framed.small so.read so.is so.so
ending_is bytes content version bits chunks (Err fault) framed so = absurd (not_err so)

header_is : (bytes : List ℕ) (content : Content) (found : Option HeaderFault) →
    HeaderVerdict found bytes (Ok content) → HasChunks bytes content
header_is bytes content (Some fault) so = absurd (not_err so)
header_is bytes content None so = ending_is bytes content _ _ so.chunks so.ending so.is so.so

pub has_chunks : AcceptsFiles → (bytes : List ℕ) (content : Content) → length bytes < 2 ^ 64 →
    IsFileOf bytes content → HasChunks bytes content
has_chunks law bytes content short f = header_is bytes content (header_fault header_tests bytes)
    ((law bytes content).1 short f)

-- A file has a header.
pub has_header : (bytes : List ℕ) (content : Content) → IsFileOf bytes content → 6 ≤ length bytes
has_header bytes content f = let size = ap length f.is in omega arith

-- Nothing is written at first.
pub written_none : (bytes front rest : List ℕ) (content : Content) (out : List Run) →
    HasChunks bytes content → rest ≡ drop 6 bytes → bytes ≡ front ++ rest →
    IsWrittenTo bytes rest content out (record { runs = 0; pairs = 0 })
written_none bytes front rest content out has is begins = record {
  chunks = has.chunks;
  lists = has.lists;
  tail = has.tail;
  done = [];
  end = record { front = front; is = begins };
  spelled = is ∙ has.spelled;
  none = has.none;
  small = has.small;
  hold = has.hold;
  are = has.are;
  wrote = record { many = refl; runs_are = λ within. refl };
  runs = omega (arith, ap runs_in has.lists_are);
}

-- ---- at a frame

-- The chunk of the next frame holds the next pairs, and what is behind it is left.
pub record NextChunk (bytes behind chunk : List ℕ) (content : Content) (before : Written)
    (done : List Pair) : Type 0 where
  pub pairs : List Pair
  pub holds : Holds content.version chunk pairs
  pub goes_on : (out : List Run) (written : Written) →
      WroteChunk bytes out before written done pairs → IsWrittenTo bytes behind content out written

pub next_chunk : (bytes rest chunk behind : List ℕ) (content : Content) (out : List Run)
    (written : Written) → IsSmall chunk → rest ≡ framed chunk ++ behind →
    (w : IsWrittenTo bytes rest content out written) →
    NextChunk bytes behind chunk content written w.done
next_chunk bytes rest chunk behind content out written small is w =
    go w.chunks w.lists w.spelled w.small w.hold w.are w.runs
  where
    go : (chunks : List (List ℕ)) (lists : List (List Pair)) →
        rest ≡ flat_map framed chunks ++ w.tail → AllByRecursion IsSmall chunks →
        AllHold content.version chunks lists →
        content.pairs ≡ w.done ++ flat_map (λ pairs. pairs) lists →
        written.runs + runs_in lists ≡ run_count content →
        NextChunk bytes behind chunk content written w.done
    go [] lists spelled smalls hold are runs = absurd (false≢true
        (sym (begins_frame chunk behind small) ∙ ap has_no_frame (sym is ∙ spelled) ∙ w.none))
    go (c ∷ cs) [] spelled smalls hold are runs = absurd hold
    go (c ∷ cs) (pairs ∷ lists) spelled smalls hold are runs =
        let same = one_front c chunk (flat_map framed cs ++ w.tail) behind smalls.0 small
        (sym (append_assoc (framed c) (flat_map framed cs) w.tail) ∙ sym spelled ∙ is) in
        record {
          pairs = pairs;
          holds = subst (λ x. Holds content.version x pairs) same.front hold.0;
          goes_on = λ out next wrote. record {
            chunks = cs;
            lists = lists;
            tail = w.tail;
            done = w.done ++ pairs;
            end = end_behind bytes rest behind (framed chunk) w.end is;
            spelled = sym same.rest;
            none = w.none;
            small = smalls.1;
            hold = hold.1;
            are = are ∙ sym (append_assoc w.done pairs (flat_map (λ pairs. pairs) lists));
            wrote = wrote.wrote;
            runs = omega (arith, runs, wrote.runs);
          };
        }

-- Where no frame follows, all pairs were written.
pub written_all : (bytes rest : List ℕ) (content : Content) (out : List Run) (written : Written) →
    has_no_frame rest ≡ true → IsWrittenTo bytes rest content out written →
    Wrote bytes out written content.pairs × (written.runs ≡ run_count content)
written_all bytes rest content out written none w =
    go w.chunks w.lists w.spelled w.small w.hold w.are w.runs
  where
    go : (chunks : List (List ℕ)) (lists : List (List Pair)) →
        rest ≡ flat_map framed chunks ++ w.tail → AllByRecursion IsSmall chunks →
        AllHold content.version chunks lists →
        content.pairs ≡ w.done ++ flat_map (λ pairs. pairs) lists →
        written.runs + runs_in lists ≡ run_count content →
        Wrote bytes out written content.pairs × (written.runs ≡ run_count content)
    go [] [] spelled smalls hold are runs = (
      subst (Wrote bytes out written) (sym (are ∙ append-nil w.done)) w.wrote,
      omega (arith, runs),
    )
    go [] (pairs ∷ lists) spelled smalls hold are runs = absurd hold
    go (c ∷ cs) lists spelled smalls hold are runs = absurd (false≢true
        (sym (begins_frame c (flat_map framed cs ++ w.tail) smalls.0) ∙
        ap has_no_frame (sym (append_assoc (framed c) (flat_map framed cs) w.tail) ∙ sym spelled) ∙
        none))

-- ---- the entries of a leaf

pub frame_length : (chunk behind : List ℕ) →
    length (framed chunk ++ behind) ≡ 9 + length chunk + length behind
frame_length chunk behind =
    let whole = length-append (framed chunk) behind in
    let frame : length (framed chunk) ≡
    suc (suc (suc (suc (suc (suc (suc (suc (suc (length chunk))))))))) = refl in
    omega arith

-- Behind the front of its frame a leaf's entries begin.
pub leaf_begins : (version : Version) (rest chunk behind : List ℕ) (pairs : List Pair) →
    rest ≡ framed chunk ++ behind → Holds version chunk pairs → 0 < length chunk →
    get_or chunk 0 0 ≡ 0 → Spells (drop 10 rest) pairs behind
leaf_begins version rest [] behind pairs is holds some leaf = absurd holds
leaf_begins version rest (zero ∷ entries) behind pairs is holds some leaf = record {
  is = ap (drop 10) is ∙ ap (λ x. x ++ behind) holds.is;
  lawful = holds.lawful;
}
leaf_begins version rest (suc level ∷ entries) behind pairs is holds some leaf =
    absurd (omega arith)

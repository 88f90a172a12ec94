-- The key of a chunk's last entry lies in the chunk's bytes.
use Rattle.std.proofs.Common.{◌≡◌, ℕ, ◌+◌, ◌-◌, min, List, ◌++◌, length, take, drop, refl, sym, ap}
use Rattle.std.proofs.Common.{◌∙◌, arith, append_assoc}
use Rattle.std.proofs.Math.Seq.{drop-append-add, take-append_seam}
use Rattle.std.specs.Prelude.{slice_range}
use Rattle.prolly_entry.specs.declared.version.Version.{Version}
use Rattle.prolly_entry.specs.Pair.{Pair}
use Rattle.prolly_entry.specs.Spelling.{key_spelling, value_spelling, pair_spelling, count_spelling}
use Rattle.prolly_entry.specs.Spelling.{child_spelling}
use Rattle.prolly_tree.specs.Chunk.{Chunk}
use Rattle.prolly_entry.specs.Reference.{reference_of}
use Rattle.prolly_tree.specs.Events.{greatest_count, event_entry}
use Rattle.prolly_chunk.specs.Chunk.{with_entry, with_pair, with_child}

abbrev pub make : ℕ → List ℕ → ℕ → List ℕ → Chunk
make level key count bytes = record { level = level; key = key; count = count; bytes = bytes }

pub same_chunk : {l l' : ℕ} {k k' : List ℕ} {c c' : ℕ} {b b' : List ℕ} → l ≡ l' → k ≡ k' → c ≡ c' →
    b ≡ b' → make l k c b ≡ make l' k' c' b'
same_chunk {l} {l'} {k} {k'} {c} {c'} {b} {b'} e f g h =
    ap (λ x. make x k c b) e ∙ ap (λ x. make l' x c b) f ∙ ap (λ x. make l' k' x b) g ∙
    ap (λ x. make l' k' c' x) h

-- A key lies behind the two bytes of its length.
key_there : (front key rest : List ℕ) → slice_range (front ++ (key_spelling key ++ rest))
    (length front + 2) (length front + 2 + length key) ≡ key
key_there front key rest =
    let size : length front + 2 + length key - (length front + 2) ≡ length key = omega arith in
    let behind : drop 2 (key_spelling key ++ rest) ≡ key ++ rest = refl in
    ap (λ n. take n (drop (length front + 2) (front ++ (key_spelling key ++ rest)))) size
    ∙ ap (take (length key)) (drop-append-add front (key_spelling key ++ rest) 2 ∙ behind)
    ∙ take-append_seam key rest

-- The chunk with an entry that begins with the key, where the key's place is noted.
pub entry_added : (old : Chunk) (level start count key_length : ℕ) (bytes key rest : List ℕ)
    (more : ℕ) →
    level ≡ old.level → start ≡ length old.bytes → key_length ≡ length key →
    bytes ≡ old.bytes ++ (key_spelling key ++ rest) →
    count ≡ min (old.count + more) greatest_count →
    make level (slice_range bytes (start + 2) (start + 2 + key_length)) count bytes ≡
    with_entry old key more (key_spelling key ++ rest)
entry_added old level start count key_length bytes key rest more l s k b c =
    same_chunk l
    (ap (λ bs. slice_range bs (start + 2) (start + 2 + key_length)) b
    ∙ ap (λ n. slice_range (old.bytes ++ (key_spelling key ++ rest)) (n + 2) (n + 2 + key_length)) s
    ∙ ap (λ n. slice_range (old.bytes ++ (key_spelling key ++ rest)) (length old.bytes + 2)
    (length old.bytes + 2 + n)) k
    ∙ key_there old.bytes key rest)
    c b

-- A child's entry begins with its key.
child_begins : (version : Version) (event : Chunk) →
    event_entry version event ≡ key_spelling event.key ++
    (reference_of event.bytes ++ count_spelling version event.count)
child_begins version event = append_assoc (key_spelling event.key) (reference_of event.bytes)
    (count_spelling version event.count)

-- A child's entry, from its parts.
entry_of : (version : Version) (event : Chunk) {key reference : List ℕ} {count : ℕ} →
    key ≡ event.key → reference ≡ reference_of event.bytes → count ≡ event.count →
    child_spelling version key reference count ≡ event_entry version event
entry_of version event {key} {reference} {count} k r c =
    ap (λ x. child_spelling version x reference count) k
    ∙ ap (λ x. child_spelling version event.key x count) r
    ∙ ap (child_spelling version event.key (reference_of event.bytes)) c

-- What the code notes of a pair and of a child, where it sees the old chunk as `before`.
pub pair_added : {old before : Chunk} {level start count key_length : ℕ} {bytes key : List ℕ}
    (pair : Pair) →
    before ≡ old → level ≡ before.level → start ≡ length before.bytes → key_length ≡ length key →
    key ≡ pair.key →
    bytes ≡ before.bytes ++ pair_spelling pair → count ≡ min (before.count + 1) greatest_count →
    make level (slice_range bytes (start + 2) (start + 2 + key_length)) count bytes ≡
    with_pair old pair
pair_added {old} {before} {level} {start} {count} {key_length} {bytes} {key} pair same l s k e b c =
    entry_added before level start count key_length bytes pair.key (value_spelling pair.value) 1 l s
    (k ∙ ap length e) b c
    ∙ ap (λ o. with_pair o pair) same

pub child_added : {old before : Chunk} {level start count key_length : ℕ}
    {bytes key reference : List ℕ} {child_count : ℕ} (version : Version) (event : Chunk) →
    before ≡ old → level ≡ before.level → start ≡ length before.bytes → key_length ≡ length key →
    key ≡ event.key →
    reference ≡ reference_of event.bytes → child_count ≡ event.count →
    bytes ≡ before.bytes ++ child_spelling version key reference child_count →
    count ≡ min (before.count + event.count) greatest_count →
    make level (slice_range bytes (start + 2) (start + 2 + key_length)) count bytes ≡
    with_child version old event
child_added {old} {before} {level} {start} {count} {key_length} {bytes} {key} {reference}
    {child_count} version event same l s k e r n b c =
    let rest = reference_of event.bytes ++ count_spelling version event.count in
    let entry = entry_of version event e r n ∙ child_begins version event in
    entry_added before level start count key_length bytes event.key rest event.count l s
    (k ∙ ap length e) (b ∙ ap (λ x. before.bytes ++ x) entry) c
    ∙ ap (with_entry before event.key event.count) (sym (child_begins version event))
    ∙ ap (λ o. with_child version o event) same

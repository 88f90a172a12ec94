-- Header and frames hold no end record.
use Rattle.std.proofs.Common.{◌≡◌, ℕ, List, [], ◌∷◌, ◌++◌, length, refl, sym, ap, ◌∙◌, arith}
use Rattle.std.proofs.Common.{append_assoc}
use Rattle.std.specs.Int.{w64, to_be_bytes}
use Rattle.std.specs.List.{flat_map}
use Rattle.std.proofs.lemmas.List.{append_cancel_left}
use Rattle.prolly_tree.specs.Chunk.{Chunk}
use Rattle.prolly_tree.specs.File.{header, frame}
use Rattle.prolly_entry.specs.lemmas.Spellings.{eight_bytes}
use Rattle.prolly_entry.specs.lemmas.Lists.{apart, head_is, tail_is}
use Rattle.prolly_io.specs.Sink.{SinkView}
use Rattle.prolly_build.specs.Config.{Settings}
use Rattle.prolly_build.specs.BuiltFile.{NoEndIsBegun}
use Rattle.prolly_build.specs.WriterState.{AreSmall}

-- a frame and what follows it
one_frame : (c : Chunk) (more : List ℕ) → frame c ++ more ≡
    0x43 ∷ (to_be_bytes w64 (length c.bytes) ++ (c.bytes ++ more))
one_frame c more = append_assoc (0x43 ∷ to_be_bytes w64 (length c.bytes)) c.bytes more

none_begins : (b : ℕ) (bytes : List ℕ) → [] ≡ b ∷ bytes → ⊥
none_begins b bytes e = cc

letters_differ : (xs ys : List ℕ) → 0x43 ∷ xs ≡ 0x45 ∷ ys → ⊥
letters_differ xs ys e = let letters : ◌≡◌ {A = ℕ} 0x43 0x45 = head_is 0x43 0x45 xs ys e in omega arith

no_end_in_frames : (whole begun : List Chunk) (behind : List ℕ) → AreSmall whole → AreSmall begun →
    flat_map frame begun ≡ flat_map frame whole ++ 0x45 ∷ behind → ⊥
no_end_in_frames [] [] behind h k e = none_begins 0x45 behind e
no_end_in_frames [] (d ∷ ds) behind h k e =
    letters_differ (to_be_bytes w64 (length d.bytes) ++ (d.bytes ++ flat_map frame ds)) behind
    (sym (one_frame d (flat_map frame ds)) ∙ e)
no_end_in_frames (c ∷ cs) [] behind h k e =
    none_begins 0x43 (to_be_bytes w64 (length c.bytes) ++
    (c.bytes ++ (flat_map frame cs ++ 0x45 ∷ behind)))
    (e ∙ (append_assoc (frame c) (flat_map frame cs) (0x45 ∷ behind) ∙
    one_frame c (flat_map frame cs ++ 0x45 ∷ behind)))
no_end_in_frames (c ∷ cs) (d ∷ ds) behind h k e =
    let more = flat_map frame cs ++ 0x45 ∷ behind in
    let frames : 0x43 ∷ (to_be_bytes w64 (length d.bytes) ++ (d.bytes ++ flat_map frame ds)) ≡
    0x43 ∷ (to_be_bytes w64 (length c.bytes) ++ (c.bytes ++ more)) =
    sym (one_frame d (flat_map frame ds)) ∙ (e ∙
    (append_assoc (frame c) (flat_map frame cs) (0x45 ∷ behind) ∙ one_frame c more)) in
    let lengths = apart (to_be_bytes w64 (length d.bytes)) (to_be_bytes w64 (length c.bytes))
    (d.bytes ++ flat_map frame ds) (c.bytes ++ more) refl
    (tail_is 0x43 0x43 (to_be_bytes w64 (length d.bytes) ++ (d.bytes ++ flat_map frame ds))
    (to_be_bytes w64 (length c.bytes) ++ (c.bytes ++ more)) frames) in
    let chunks = apart d.bytes c.bytes (flat_map frame ds) more
    (eight_bytes (length d.bytes) (length c.bytes) k.0 h.0 lengths.front) lengths.rest in
    no_end_in_frames cs ds behind h.1 k.1 chunks.rest

pub no_end_is_begun : (settings : Settings) (old new : SinkView) → NoEndIsBegun settings old new
no_end_is_begun settings old new begun keeps whole behind small is =
    let head = header settings.version settings.bits in
    let taken = begun.taken keeps in
    let ended = head ++ (flat_map frame whole ++ 0x45 ∷ behind) in
    let part : taken.part ≡ ended ++ is.0 =
    append_cancel_left old.taken taken.part (ended ++ is.0) (sym taken.grown ∙
    (is.1 ∙ append_assoc old.taken ended is.0)) in
    let frames : head ++ flat_map frame begun.chunks_begun ≡ head ++
    (flat_map frame whole ++ 0x45 ∷ (behind ++ (is.0 ++ taken.is_prefix.0))) =
    taken.is_prefix.1 ∙ (ap (λ (z : List ℕ). z ++ taken.is_prefix.0) part ∙
    regroup head (flat_map frame whole) behind is.0 taken.is_prefix.0) in
    no_end_in_frames whole begun.chunks_begun (behind ++ (is.0 ++ taken.is_prefix.0)) small
    begun.small
    (append_cancel_left head (flat_map frame begun.chunks_begun)
    (flat_map frame whole ++ 0x45 ∷ (behind ++ (is.0 ++ taken.is_prefix.0))) frames)
  where
    regroup : (a b c d e : List ℕ) → ((a ++ (b ++ 0x45 ∷ c)) ++ d) ++ e ≡ a ++
        (b ++ 0x45 ∷ (c ++ (d ++ e)))
    regroup a b c d e =
        append_assoc (a ++ (b ++ 0x45 ∷ c)) d e ∙
        (append_assoc a (b ++ 0x45 ∷ c) (d ++ e) ∙
        ap (λ (z : List ℕ). a ++ z) (append_assoc b (0x45 ∷ c) (d ++ e)))

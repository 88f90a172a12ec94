-- Bytes stand in front of what is appended to them, piece by piece.
use Rattle.std.proofs.Common.{◌≡◌, ◌++◌, List, ℕ, ap, take, length, ◌∙◌}
use Rattle.std.proofs.Math.Seq.{take-append_seam, take-length}
use Rattle.std.specs.Io.{StartsWith}
use Rattle.prolly_text.proofs.Appended.{still_front}

pub kept_all : (old : List ℕ) → StartsWith old old
kept_all old = take-length old

pub kept_first : (old new wanted : List ℕ) → new ≡ old ++ wanted → StartsWith new old
kept_first old new wanted e = ap (take (length old)) e ∙ take-append_seam old wanted

pub kept_more : (old mid new wanted : List ℕ) → StartsWith mid old → new ≡ mid ++ wanted →
    StartsWith new old
kept_more old mid new wanted h e = still_front old mid new h (kept_first mid new wanted e)

pub kept_same : (old mid new : List ℕ) → StartsWith mid old → new ≡ mid → StartsWith new old
kept_same old mid new h e = ap (take (length old)) e ∙ h

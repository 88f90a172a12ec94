-- Looking at one source after another.
use Rattle.std.proofs.Common.{◌≡◌, ℕ, List, [], ◌∷◌, ◌++◌, length, take, true, refl, sym, ap, subst}
use Rattle.std.proofs.Common.{◌∙◌, ◌≢◌, suc}
use Rattle.std.proofs.lemmas.List.{append-nil, append_assoc, map-append}
use Rattle.prolly_entry.specs.lemmas.Lists.{all_back, all_front}
use Rattle.prolly_io.specs.Source.{AreHonest, SourceView}
use Rattle.prolly_answer.specs.ChunkBytes.{Sampled, Samples}
use Rattle.prolly_answer.specs.Peeks.{ArePutBack, IsPutBack, IsUnreadOf, SamplesAll, lefts_of}

-- One file more was seen.
samples_more : (files : List (List ℕ)) (file : List ℕ) (old now new : Sampled) →
    SamplesAll files old now → Samples (take now.left file) now new →
    SamplesAll (files ++ file ∷ []) old new
samples_more [] file old now new is samples =
    (new, subst (λ (s : Sampled). Samples (take s.left file) s new) is samples, refl)
samples_more (first ∷ files) file old now new (between, seen, more) samples =
    (between, seen, samples_more files file between now new more samples)

module _ {S T : Type 0} (seen : S → SourceView) (seen' : T → SourceView) where
  -- One source more was put back.
  put_back_more : (ss : List S) (ts : List T) (s : S) (t : T) → ArePutBack seen seen' ss ts →
      ((seen s).is_honest ≡ true → IsPutBack (seen s) (seen' t)) →
      ArePutBack seen seen' (ss ++ s ∷ []) (ts ++ t ∷ [])
  put_back_more [] [] s t are is = (is, record {})
  put_back_more (a ∷ ss) (b ∷ ts) s t (first, more) is = (first, put_back_more ss ts s t more is)
  put_back_more [] (b ∷ ts) s t are is = absurd are
  put_back_more (a ∷ ss) [] s t are is = absurd are

  -- There are as many as there were.
  pub as_many : (ss : List S) (ts : List T) → ArePutBack seen seen' ss ts → length ts ≡ length ss
  as_many [] [] are = refl
  as_many (a ∷ ss) (b ∷ ts) (first, more) = ap suc (as_many ss ts more)
  as_many [] (b ∷ ts) are = absurd are
  as_many (a ∷ ss) [] are = absurd are

  -- Some of the sources were looked at; the others follow.
  pub record ArePeeked (sources yielded rest : List S) (wholes : List T) (old now : Sampled)
      : Type 0 where
    pub all : yielded ++ rest ≡ sources
    pub put_back : ArePutBack seen seen' yielded wholes
    pub sampled : AreHonest seen yielded → SamplesAll (lefts_of seen yielded) old now

  -- One source more was looked at.
  pub one_peeked : (sources yielded left rest : List S) (wholes more : List T) (old now new : Sampled)
      (s : S) (t : T) → ArePeeked sources yielded left wholes old now → left ≡ s ∷ rest →
      ((seen s).is_honest ≡ true → Samples (take now.left (seen s).left) now new) →
      ((seen s).is_honest ≡ true → IsPutBack (seen s) (seen' t)) → more ≡ wholes ++ t ∷ [] →
      ArePeeked sources (yielded ++ s ∷ []) rest more old new
  one_peeked sources yielded left rest wholes more old now new s t h next samples is pushed = record {
    all = append_assoc yielded (s ∷ []) rest ∙ (ap (λ ss. yielded ++ ss) (sym next) ∙ h.all);
    put_back = subst (ArePutBack seen seen' (yielded ++ s ∷ [])) (sym pushed)
        (put_back_more yielded wholes s t h.put_back is);
    sampled = λ honest.
        subst (λ (files : List (List ℕ)). SamplesAll files old new)
        (sym (map-append (λ (x : S). (seen x).left) yielded (s ∷ [])))
        (samples_more (lefts_of seen yielded) (seen s).left old now new
        (h.sampled (all_front (λ (x : S). (seen x).is_honest ≡ true) yielded (s ∷ []) honest))
        (samples (all_back (λ (x : S). (seen x).is_honest ≡ true) yielded (s ∷ []) honest).0));
  }

  -- A read of the next one failed.
  pub peek_failed : (sources yielded left rest : List S) (wholes : List T) (old now : Sampled)
      (s after : S) (number : ℕ) → ArePeeked sources yielded left wholes old now → left ≡ s ∷ rest →
      number ≡ length wholes → (seen after).failures ≢ (seen s).failures →
      (seen s).is_steady ≢ true → IsUnreadOf seen sources number after
  peek_failed sources yielded left rest wholes old now s after number h next is failed unsteady = record {
    before = yielded;
    source = s;
    behind = rest;
    place = sym h.all ∙ ap (λ ss. yielded ++ ss) next;
    numbered = is ∙ as_many yielded wholes h.put_back;
    failed = failed;
    unsteady = unsteady;
  }

  -- All were looked at.
  pub all_peeked : (sources yielded left : List S) (wholes : List T) (old now : Sampled) →
      ArePeeked sources yielded left wholes old now → left ≡ [] →
      ArePutBack seen seen' sources wholes
      × (AreHonest seen sources → SamplesAll (lefts_of seen sources) old now)
  all_peeked sources yielded left wholes old now h none =
      subst (λ (ss : List S). ArePutBack seen seen' ss wholes
      × (AreHonest seen ss → SamplesAll (lefts_of seen ss) old now))
      (sym (append-nil yielded) ∙ (ap (λ ss. yielded ++ ss) (sym none) ∙ h.all))
      (h.put_back, h.sampled)

-- Explaining the faulty lines of a text, one after another.
use Rattle.std.proofs.Common.{◌≡◌, ◌≢◌, ◌⊎◌, ℕ, ◌+◌, ◌<◌, true, List, [], ◌∷◌, ◌++◌, ap, arith}
use Rattle.std.proofs.Common.{◌∙◌, append_assoc, append-nil, drop, inl, inr, length, length-append}
use Rattle.std.proofs.Common.{length-drop, refl, subst, sym, take, if◌then◌else◌}
use Rattle.std.proofs.lemmas.Bool.Decides.{nat_tests}
use Rattle.std.proofs.lemmas.List.{length-take-le, take-take}
use Rattle.std.specs.Prelude.{codes, nat_lt}
use Rattle.prolly_text.specs.Ahead.{BeginsWithLine, LiesWithin, LooksLong, PassesLine}
use Rattle.prolly_text.specs.Defects.{HasDefect}
use Rattle.prolly_text.specs.FaultyLines.{Explains, IsExplained, IsGood, IsSeen, SeesFaulty}
use Rattle.prolly_text.specs.FaultyLines.{SeesGood, StopsAtFault, defect_lines, lines_with}
use Rattle.prolly_text.specs.FaultyLines.{place_after, place_behind, shown_line, start}
use Rattle.prolly_text.specs.Lines.{lines_of}
use Rattle.prolly_text.specs.Notations.{written}
use Rattle.prolly_text.specs.declared.lines.buffer.TheConstants.{LINE_LIMIT}
use Rattle.prolly_text.specs.declared.lines.defect.Defect.{Defect}
use Rattle.prolly_text.specs.declared.lines.defect.Defect.TheVariants.{LineTooLong}
use Rattle.prolly_text.specs.declared.lines.defect.LinePlace.{LinePlace}
use Rattle.prolly_text.specs.declared.lines.explain.Seen.{Seen}
use Rattle.prolly_text.specs.declared.lines.explain.Seen.TheVariants.{End, Good, Faulty}
use Rattle.prolly_text.specs.declared.lines.form.LineForm.{LineForm}
use Rattle.prolly_text.specs.declared.notation.Notation.TheVariants.{Text}

-- ---- a line at hand

held_passes : (text unparsed left passed : List ℕ) (len size : ℕ) → text ≡ unparsed ++ left →
    BeginsWithLine unparsed left len size → LiesWithin unparsed len size →
    passed ≡ drop size unparsed → PassesLine text (passed ++ left) size
held_passes text unparsed left passed len size is begins lies e =
    let line_size : length (take len unparsed) ≡ len = let f = lies.front in let w = lies.within in
    length-take-le len unparsed (omega arith) in record {
      line = take len unparsed;
      whole = ap lines_of is ∙ (begins.whole ∙
          ap (λ (t : List ℕ). take len unparsed ∷ lines_of (t ++ left)) (sym e));
      bytes_are = let w = lies.within in omega (
        arith,
        ap length is,
        ap length e,
        length-append unparsed left,
        length-append passed left,
        length-drop size unparsed,
      );
      ends = go line_size begins.ends;
    }
  where
    go : length (take len unparsed) ≡ len →
        (size ≡ len + 1) ⊎ ((size ≡ len) × (drop size unparsed ++ left ≡ [])) →
        (size ≡ length (take len unparsed) + 1)
        ⊎ ((size ≡ length (take len unparsed)) × (passed ++ left ≡ []))
    go same (inl h) = inl (omega arith)
    go same (inr h) = inr (h.0 ∙ sym same, ap (λ (t : List ℕ). t ++ left) e ∙ h.1)

pub held_seen : (form : LineForm) (place : LinePlace) (text unparsed left passed : List ℕ)
    (len size end : ℕ) (old new : List ℕ) (seen : Seen) → text ≡ unparsed ++ left →
    BeginsWithLine unparsed left len size → LiesWithin unparsed len size →
    passed ≡ drop size unparsed → end ≡ place.offset + size →
    IsExplained form place (take len unparsed) end old new seen →
    IsSeen form place text (passed ++ left) old new seen
unfolding held_passes
held_seen form place text unparsed left passed len size end old new End is begins lies e f h =
    absurd h
held_seen form place text unparsed left passed len size end old new (Good end') is begins lies e f
    h = record {
      size = size;
      passes = held_passes text unparsed left passed len size is begins lies e;
      end_is = h.0 ∙ f;
      good = h.2;
      same = h.1;
    }
held_seen form place text unparsed left passed len size end old new (Faulty end') is begins lies e
    f h = record {
      size = size;
      passes = held_passes text unparsed left passed len size is begins lies e;
      end_is = h.0 ∙ f;
      defect = h.1.0;
      wrong = h.1.1;
      appended = h.1.2;
    }

-- ---- a line that is too long

is_long : (n : ℕ) → LINE_LIMIT < n → nat_lt 64 n ≡ true
is_long n h = grind (arith, nat_tests)

long_shown : (a : List ℕ) → LINE_LIMIT < length a →
    shown_line a ≡ written Text (take 64 a) ++ codes "..."
long_shown a h = ap (λ t. if t then written Text (take 64 a) ++ codes "..." else written Text a)
    (is_long (length a) h)

shown_same : (a b : List ℕ) → LINE_LIMIT < length a → LINE_LIMIT < length b →
    take LINE_LIMIT a ≡ take LINE_LIMIT b → shown_line a ≡ shown_line b
shown_same a b h k e =
    let front : take 64 a ≡ take 64 b = sym (take-take 64 LINE_LIMIT a (omega arith)) ∙
    (ap (take 64) e ∙ take-take 64 LINE_LIMIT b (omega arith)) in
    long_shown a h ∙ (ap (λ (t : List ℕ). written Text t ++ codes "...") front ∙
    sym (long_shown b k))

one_first : (lines : List (List ℕ)) (a b : List ℕ) (after rest : List (List ℕ)) →
    lines ≡ a ∷ after → lines ≡ b ∷ rest → a ≡ b
one_first lines a b after rest e f = let g : a ∷ after ≡ b ∷ rest = sym e ∙ f in cc

pub long_seen : (form : LineForm) (place : LinePlace) (text unparsed left rest : List ℕ)
    (size end : ℕ) (old new : List ℕ) → text ≡ unparsed ++ left → LooksLong unparsed left →
    LINE_LIMIT < length unparsed → PassesLine (unparsed ++ left) rest size →
    end ≡ place.offset + size →
    new ≡ old ++ defect_lines form.notation place unparsed LineTooLong →
    IsSeen form place text rest old new (Faulty end)
long_seen form place text unparsed left rest size end old new is looks held passes e f =
    let line : looks.long.line ≡ passes.line = one_first (lines_of (unparsed ++ left))
    looks.long.line passes.line looks.long.after (lines_of rest) looks.long.whole passes.whole in
    record {
      size = size;
      passes = record {
        line = passes.line;
        whole = ap lines_of is ∙ passes.whole;
        bytes_are = ap length is ∙ passes.bytes_are;
        ends = passes.ends;
      };
      end_is = e;
      defect = LineTooLong;
      wrong = subst (λ (t : List ℕ). LINE_LIMIT < length t) line looks.long.over;
      appended = f ∙ ap (λ (t : List ℕ). old ++ lines_with form.notation place LineTooLong t)
          (shown_same unparsed looks.long.line held looks.long.over (sym looks.front) ∙
          ap shown_line line);
    }

-- ---- line after line

place_after-snoc : (place : LinePlace) (lines : List (List ℕ)) (line : List ℕ) →
    place_after place (lines ++ line ∷ []) ≡ place_behind (place_after place lines) line
place_after-snoc place [] line = refl
place_after-snoc place (l ∷ lines) line = place_after-snoc (place_behind place l) lines line

more_good : (form : LineForm) (place : LinePlace) (lines : List (List ℕ)) (line : List ℕ)
    (faulty : ℕ) (text : List ℕ) → Explains form place lines faulty text →
    IsGood form (place_after place lines) line → Explains form place (lines ++ line ∷ []) faulty text
more_good form place [] line faulty text h good = inl (good, h)
more_good form place (l ∷ lines) line faulty text (inl h) good =
    inl (h.0, more_good form (place_behind place l) lines line faulty text h.1 good)
more_good form place (l ∷ lines) line faulty text (inr h) good = inr (
  h.0,
  h.1,
  h.2,
  h.3,
  h.4,
  h.5,
  more_good form (place_behind place l) lines line h.1 h.2 h.6 good,
)

more_faulty : (form : LineForm) (place : LinePlace) (lines : List (List ℕ)) (line : List ℕ)
    (faulty : ℕ) (text : List ℕ) (defect : Defect) → Explains form place lines faulty text →
    HasDefect form (place_after place lines) line defect →
    Explains form place (lines ++ line ∷ []) (faulty + 1)
    (text ++ defect_lines form.notation (place_after place lines) line defect)
more_faulty form place [] line faulty text defect h wrong = inr (
  defect,
  0,
  [],
  wrong,
  ap (λ n. n + 1) h.0,
  ap (λ (t : List ℕ). t ++ defect_lines form.notation place line defect) h.1 ∙
      sym (append-nil (defect_lines form.notation place line defect)),
  (refl, refl),
)
more_faulty form place (l ∷ lines) line faulty text defect (inl h) wrong =
    inl (h.0, more_faulty form (place_behind place l) lines line faulty text defect h.1 wrong)
more_faulty form place (l ∷ lines) line faulty text defect (inr h) wrong = inr (
  h.0,
  h.1 + 1,
  h.2 ++ defect_lines form.notation (place_after place (l ∷ lines)) line defect,
  h.3,
  ap (λ n. n + 1) h.4,
  ap (λ (t : List ℕ). t ++
      defect_lines form.notation (place_after place (l ∷ lines)) line defect) h.5
      ∙ append_assoc (defect_lines form.notation place l h.0) h.2
      (defect_lines form.notation (place_after place (l ∷ lines)) line defect),
  more_faulty form (place_behind place l) lines line h.1 h.2 defect h.6 wrong,
)

-- Some lines are read and explained, and the rest follows.
pub record IsUnderWay (form : LineForm) (limit : ℕ) (text rest : List ℕ) (place : LinePlace)
    (old out : List ℕ) (faulty : ℕ) : Type 0 where
  pub read : List (List ℕ)
  pub whole : lines_of text ≡ read ++ lines_of rest
  pub shown : List ℕ
  pub explains : Explains form start read faulty shown
  pub appended : out ≡ old ++ shown
  pub number_is : place.number ≡ length read
  pub place_is : rest ≢ [] → place ≡ place_after start read
  pub bytes_are : place.offset + length rest ≡ length text
  pub stops : faulty ≡ limit → StopsAtFault form read

pub none_read : (form : LineForm) (limit : ℕ) (text old : List ℕ) →
    IsUnderWay form limit text text start old old 0
none_read form limit text old = record {
  read = [];
  whole = refl;
  shown = [];
  explains = (refl, refl);
  appended = sym (append-nil old);
  number_is = refl;
  place_is = λ _. refl;
  bytes_are = omega arith;
  stops = λ _. inl refl;
}

some_rest : (rest line : List ℕ) (after : List (List ℕ)) → lines_of rest ≡ line ∷ after → rest ≢ []
some_rest rest line after e none = let f : [] ≡ line ∷ after = sym (ap lines_of none) ∙ e in cc

next_place : (text rest rest' : List ℕ) (place : LinePlace) (line : List ℕ) (size end : ℕ) →
    end ≡ place.offset + size →
    (size ≡ length line + 1) ⊎ ((size ≡ length line) × (rest' ≡ [])) → rest' ≢ [] →
    end ≡ place.offset + length line + 1
next_place text rest rest' place line size end e (inl h) some = omega arith
next_place text rest rest' place line size end e (inr h) some = absurd (some h.1)

behind_is : (form : LineForm) (limit : ℕ) (text rest rest' : List ℕ) (place : LinePlace)
    (old out : List ℕ) (faulty size end : ℕ)
    (h : IsUnderWay form limit text rest place old out faulty)
    (p : PassesLine rest rest' size) → end ≡ place.offset + size → rest' ≢ [] →
    record { number = place.number + 1; offset = end } ≡ place_after start (h.read ++ p.line ∷ [])
behind_is form limit text rest rest' place old out faulty size end h p e some =
    let here = h.place_is (some_rest rest p.line (lines_of rest') p.whole) in
    ap (λ (n : ℕ). let r : LinePlace = record { number = place.number + 1; offset = n } in r)
    (next_place text rest rest' place p.line size end e p.ends some)
    ∙ (ap (λ q. place_behind q p.line) here ∙ sym (place_after-snoc start h.read p.line))

pub good_read : (form : LineForm) (limit : ℕ) (text rest rest' : List ℕ) (place : LinePlace)
    (old out out' : List ℕ) (faulty end : ℕ) →
    IsUnderWay form limit text rest place old out faulty → faulty < limit →
    SeesGood form place rest rest' end out out' →
    IsUnderWay form limit text rest' (record { number = place.number + 1; offset = end }) old out'
    faulty
good_read form limit text rest rest' place old out out' faulty end h less k =
    let p = k.passes in
    let here = h.place_is (some_rest rest p.line (lines_of rest') p.whole) in record {
      read = h.read ++ p.line ∷ [];
      whole = h.whole ∙ (ap (λ (ls : List (List ℕ)). h.read ++ ls) p.whole ∙
          sym (append_assoc h.read (p.line ∷ []) (lines_of rest')));
      shown = h.shown;
      explains = more_good form start h.read p.line faulty h.shown h.explains
          (subst (λ q. IsGood form q p.line) here k.good);
      appended = k.same ∙ h.appended;
      number_is = let n = h.number_is in omega (arith, length-append h.read (p.line ∷ []));
      place_is = λ some. behind_is form limit text rest rest' place old out faulty k.size end h p
          k.end_is some;
      bytes_are = let b = h.bytes_are in let c = p.bytes_are in let e = k.end_is in omega arith;
      stops = λ e. absurd (omega arith);
    }

pub faulty_read : (form : LineForm) (limit : ℕ) (text rest rest' : List ℕ) (place : LinePlace)
    (old out out' : List ℕ) (faulty end : ℕ) →
    IsUnderWay form limit text rest place old out faulty →
    SeesFaulty form place rest rest' end out out' →
    IsUnderWay form limit text rest' (record { number = place.number + 1; offset = end }) old out'
    (faulty + 1)
faulty_read form limit text rest rest' place old out out' faulty end h k =
    let p = k.passes in
    let here = h.place_is (some_rest rest p.line (lines_of rest') p.whole) in
    let wrong = subst (λ q. HasDefect form q p.line k.defect) here k.wrong in
    let line = defect_lines form.notation (place_after start h.read) p.line k.defect in record {
      read = h.read ++ p.line ∷ [];
      whole = h.whole ∙ (ap (λ (ls : List (List ℕ)). h.read ++ ls) p.whole ∙
          sym (append_assoc h.read (p.line ∷ []) (lines_of rest')));
      shown = h.shown ++ line;
      explains = more_faulty form start h.read p.line faulty h.shown k.defect h.explains wrong;
      appended = k.appended
          ∙ (ap (λ q. out ++ defect_lines form.notation q p.line k.defect) here
          ∙ (ap (λ (t : List ℕ). t ++ line) h.appended ∙ append_assoc old h.shown line));
      number_is = let n = h.number_is in omega (arith, length-append h.read (p.line ∷ []));
      place_is = λ some. behind_is form limit text rest rest' place old out faulty k.size end h p
          k.end_is some;
      bytes_are = let b = h.bytes_are in let c = p.bytes_are in let e = k.end_is in omega arith;
      stops = λ _. inr (record {
        before = h.read;
        last = p.line;
        is = refl;
        defect = k.defect;
        wrong = wrong;
      });
    }

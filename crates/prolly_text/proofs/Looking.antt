-- Looking for the line that a text begins with.
use Rattle.std.proofs.Common.{◌≡◌, ◌≢◌, ℕ, zero, suc, ◌+◌, ◌<◌, ◌≤◌, List, [], ◌∷◌, ◌++◌}
use Rattle.std.proofs.Common.{inl, inr, length, length-append, take}
use Rattle.std.proofs.Common.{drop, All, Some, refl, sym, ap, ◌∙◌, subst, arith, append_assoc}
use Rattle.std.proofs.Common.{get_or-drop, length-drop}
use Rattle.std.specs.Prelude.{slice_get}
use Rattle.std.proofs.lemmas.List.{append-nil, length-take-le, nil_from_length}
use Rattle.std.proofs.lemmas.List.{take-append-drop, take-append-le, take-take}
use Rattle.std.proofs.lemmas.List.Elements.{All-append}
use Rattle.std.proofs.lemmas.Option.{get_or_from_slice_get, slice_get-get_or}
use Rattle.std.proofs.Math.Seq.{take-add}
use Rattle.prolly_tree.specs.Split.{in_front}
use Rattle.prolly_text.specs.Ahead.{BeginsWithLine, IsAhead, LooksLong, last_ahead}
use Rattle.prolly_text.specs.Lines.{lines_of}
use Rattle.prolly_text.specs.declared.lines.buffer.TheConstants.{LINE_LIMIT}
use Rattle.prolly_text.proofs.LineLemmas.{Lacks, cut_there, lacks, last_line, line_first}
use Rattle.prolly_text.proofs.LineLemmas.{lines_in_front}

-- The line ends with a newline among the unparsed bytes.
line_whole : (unparsed left : List ℕ) (n : ℕ) → All (λ b. b ≢ 0x0A) (take n unparsed) →
    slice_get unparsed n ≡ Some 0x0A →
    lines_of (unparsed ++ left) ≡ take n unparsed ∷ lines_of (drop (n + 1) unparsed ++ left)
line_whole unparsed left n none there =
    ap (λ (t : List ℕ). lines_of (t ++ left)) (cut_there unparsed n 0x0A there)
    ∙ (ap lines_of (append_assoc (take n unparsed) (0x0A ∷ drop (n + 1) unparsed) left)
    ∙ line_first (take n unparsed) (drop (n + 1) unparsed ++ left)
    (lacks 0x0A (take n unparsed) none))

pub line_found : (unparsed left : List ℕ) (n : ℕ) → All (λ b. b ≢ 0x0A) (take n unparsed) →
    slice_get unparsed n ≡ Some 0x0A → BeginsWithLine unparsed left n (n + 1)
line_found unparsed left n none there =
    record { whole = line_whole unparsed left n none there; ends = inl refl }

-- The line ends where the text does.
last_whole : (unparsed left : List ℕ) (n : ℕ) → All (λ b. b ≢ 0x0A) (take n unparsed) →
    n ≡ length unparsed → 0 < n → left ≡ [] →
    lines_of (unparsed ++ left) ≡ take n unparsed ∷ lines_of (drop n unparsed ++ left)
last_whole unparsed left n none all some over =
    ap (λ (t : List ℕ). lines_of (unparsed ++ t)) over
    ∙ (ap lines_of (append-nil unparsed)
    ∙ (last_line unparsed (take n unparsed) (drop n unparsed) n none refl refl
    (omega (arith, length-drop n unparsed)) (omega arith)
    ∙ ap (λ (t : List ℕ). take n unparsed ∷ lines_of t)
    (sym (append-nil (drop n unparsed)) ∙
    ap (λ (t : List ℕ). drop n unparsed ++ t) (sym over))))

last_found : (unparsed left : List ℕ) (n : ℕ) → All (λ b. b ≢ 0x0A) (take n unparsed) →
    n ≡ length unparsed → 0 < n → left ≡ [] → BeginsWithLine unparsed left n n
last_found unparsed left n none all some over = record {
  whole = last_whole unparsed left n none all some over;
  ends = inr (
    refl,
    ap (λ (t : List ℕ). drop n unparsed ++ t) over ∙ (append-nil (drop n unparsed) ∙
        nil_from_length (drop n unparsed) (omega (arith, length-drop n unparsed))),
  );
}

-- ---- a line that is too long

-- The first of the lines, which begins with these bytes.
record HasFirst (lines : List (List ℕ)) (front : List ℕ) : Type 0 where
  more : List ℕ
  after : List (List ℕ)
  is : lines ≡ (front ++ more) ∷ after

put_in_front : (x : ℕ) (lines : List (List ℕ)) (front : List ℕ) → HasFirst lines front →
    HasFirst (in_front x lines) (x ∷ front)
put_in_front x lines front h =
    record { more = h.more; after = h.after; is = ap (in_front x) h.is }

alone_in_front : (x : ℕ) (lines : List (List ℕ)) → HasFirst (in_front x lines) (x ∷ [])
alone_in_front x [] = record { more = []; after = []; is = refl }
alone_in_front x (l ∷ lines) = record { more = l; after = lines; is = refl }

-- The first line of a text begins with the bytes before its first newline.
first_line : (x : ℕ) (front rest : List ℕ) → Lacks 0x0A (x ∷ front) →
    HasFirst (lines_of (x ∷ front ++ rest)) (x ∷ front)
first_line x [] rest h = subst (λ ls. HasFirst ls (x ∷ [])) (sym (lines_in_front x rest h.0))
    (alone_in_front x (lines_of rest))
first_line x (y ∷ front) rest h = subst (λ ls. HasFirst ls (x ∷ y ∷ front))
    (sym (lines_in_front x (y ∷ front ++ rest) h.0))
    (put_in_front x (lines_of (y ∷ front ++ rest)) (y ∷ front) (first_line y front rest h.1))

first_of_front : (front rest : List ℕ) → Lacks 0x0A front → 0 < length front →
    HasFirst (lines_of (front ++ rest)) front
first_of_front [] rest h some = absurd (omega arith)
first_of_front (x ∷ front) rest h some = first_line x front rest h

pub long_found : (unparsed left : List ℕ) (n : ℕ) → All (λ b. b ≢ 0x0A) (take n unparsed) →
    LINE_LIMIT < n → n ≤ length unparsed → LooksLong unparsed left
long_found unparsed left n none over within =
    let front = take n unparsed in
    let size : length front ≡ n = length-take-le n unparsed within in
    let whole : unparsed ++ left ≡ front ++ (drop n unparsed ++ left) =
    ap (λ (t : List ℕ). t ++ left) (sym (take-append-drop n unparsed)) ∙
    append_assoc front (drop n unparsed) left in
    let first = first_of_front front (drop n unparsed ++ left) (lacks 0x0A front none)
    (omega arith) in record {
      long = record {
        line = front ++ first.more;
        after = first.after;
        whole = ap lines_of whole ∙ first.is;
        over = omega (arith, length-append front first.more);
      };
      front = take-append-le LINE_LIMIT front first.more (omega arith) ∙
          take-take LINE_LIMIT n unparsed (omega arith);
    }

-- ---- a newline behind the bytes that were looked at

-- Where the first bytes have no newline, and so many behind them have none, all of these have none.
pub none_further : (xs : List ℕ) (scanned n : ℕ) → All (λ b. b ≢ 0x0A) (take scanned xs) →
    All (λ b. b ≢ 0x0A) (take n (drop scanned xs)) →
    All (λ b. b ≢ 0x0A) (take (scanned + n) xs)
none_further xs scanned n h k = subst (All (λ b. b ≢ 0x0A)) (sym (take-add scanned n xs))
    (All-append (λ b. b ≢ 0x0A) (take scanned xs) (take n (drop scanned xs)) h k)

-- A newline behind them stands at that place of all.
pub there_further : (xs : List ℕ) (scanned n : ℕ) → scanned + n < length xs →
    slice_get (drop scanned xs) n ≡ Some 0x0A → slice_get xs (scanned + n) ≡ Some 0x0A
there_further xs scanned n within h =
    slice_get-get_or xs (scanned + n) 0 within
    ∙ ap Some (sym (get_or-drop scanned xs n 0) ∙
    get_or_from_slice_get (drop scanned xs) n 0x0A 0 h)

-- ---- the bytes that a read brings

-- What was there before the read is what is there behind it.
pub same_grown : (all unparsed left unparsed' left' given : List ℕ) → all ≡ unparsed ++ left →
    left ≡ given ++ left' → unparsed' ≡ unparsed ++ given → all ≡ unparsed' ++ left'
same_grown all unparsed left unparsed' left' given h k e =
    h ∙ (ap (λ (t : List ℕ). unparsed ++ t) k ∙ (sym (append_assoc unparsed given left') ∙
    ap (λ (t : List ℕ). t ++ left') (sym e)))

-- The bytes that had no newline before the read have none behind it.
pub none_grown : (xs given xs' : List ℕ) (n : ℕ) → All (λ b. b ≢ 0x0A) (take n xs) →
    n ≡ length xs → xs' ≡ xs ++ given → All (λ b. b ≢ 0x0A) (take (length xs) xs')
none_grown xs given xs' n h all e =
    subst (All (λ b. b ≢ 0x0A)) (ap (λ i. take i xs) all
    ∙ (sym (take-append-le (length xs) xs given (omega arith)) ∙ ap (take (length xs)) (sym e))) h

-- A read that brings nothing shows the end of the text.
pub over_ahead : (unparsed unparsed' left' : List ℕ) (n : ℕ) →
    All (λ b. b ≢ 0x0A) (take n unparsed) → n ≡ length unparsed → unparsed' ≡ unparsed →
    left' ≡ [] → IsAhead unparsed' left' (last_ahead n)
over_ahead unparsed unparsed' left' zero none all same over =
    let nil : unparsed ≡ [] = nil_from_length unparsed (sym all) in
    let nil' : unparsed' ≡ [] = same ∙ nil in cc
over_ahead unparsed unparsed' left' (suc n) none all same over =
    last_found unparsed' left' (suc n)
    (subst (λ (t : List ℕ). All (λ b. b ≢ 0x0A) (take (suc n) t)) (sym same) none)
    (all ∙ ap length (sym same)) (omega arith) over

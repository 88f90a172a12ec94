-- What the getters of clap's matches give, by the rows of the subcommand.
use Rattle.std.proofs.Common.{◌<◌, ◌≤◌, ◌^◌, ◌≡◌, ◌∙◌, ◌∷◌, [], ℕ, List, Option, Some, None, refl}
use Rattle.std.proofs.Common.{length, map, nat_lt, rules, sym, ap}
use Rattle.std.proofs.lemmas.List.{length-map}
use Rattle.std.proofs.Common.{subst, arith, option_map, string_bytes, true, false, inl, inr, codes}
use Rattle.std.specs.Prelude.{find, is_some, option_and_then, slice_get, unwrap_or}
use Rattle.std.specs.Str.{bytes_eq}
use Rattle.std.specs.Prelude.{Result, Ok}
use Rattle.std.specs.Borrow.{Bor}
use Rattle.std.specs.Str.Parse.{ParsesUnsigned}
use Rattle.std.proofs.lemmas.Int.{ints}
use Rattle.clap.specs.Matches.{ReadsOne, first_value}
use Rattle.clap.specs.Words.{Row, Text, all_of, first_of, one_text, rows_of, without_minus}
use Rattle.clap.specs.declared.parser.matches.Found.{Found}
use Rattle.clap.proofs.CallerReads.{signed_reads}
use Rattle.clap.proofs.WalkLemmas.{first_value-rows, one_text-rows}
use Rattle.prolly_entry.specs.declared.reference.Ref.{Ref}
use Rattle.prolly_line.specs.AcceptedWords.{DoFit, HasNumber, HasWord, IsRefusedAt}
use Rattle.prolly_line.specs.AcceptedWords.{IsRefusedFitting, IsRefusedSought, MayReadNumber}
use Rattle.prolly_line.specs.AcceptedWords.{ReadsNumber}
use Rattle.prolly_line.specs.GivenCommand.{GivesSought, HasMisfit, IsWordFault, MayGiveNumber}
use Rattle.prolly_line.specs.GivenCommand.{MayGiveRoot, decimal_of, number_given, place_of_last}
use Rattle.prolly_line.specs.declared.parse_fault.ParseFault.{ParseFault}
use Rattle.prolly_line.specs.declared.parse_fault.ParseFault.TheVariants.{BadKey, BadRoot, BadTextKey}
use Rattle.prolly_line.specs.declared.parse_fault.ParseFault.TheVariants.{Help, LoneRoot, Memory, Usage}
use Rattle.prolly_line.specs.declared.sought.Sought.{Sought}
use Rattle.prolly_line.specs.declared.sought.Sought.TheVariants.{Key, Keys, Range}
use Rattle.prolly_text.specs.declared.notation.Notation.{Notation}

-- a typed getter gives a number where a numeral in its range stands under the name
pub number_there : (E : Type 0) (G : Text → Result ℕ E → Type 0) (k low high : ℕ) (f : Found)
    (id : Text) (r : Option ℕ)
    → ((t : Text) (x : Result ℕ E) → G t x → ParsesUnsigned k 10 t x) → high < 2 ^ k →
    HasNumber id low high (rows_of f)
    → ((t : Text) → one_text f id ≡ Some t → ReadsOne G t r) → (n : ℕ) × (r ≡ Some n) × (low ≤ n) ×
    (n ≤ high)
number_there E G k low high f id r only fits has value =
    signed_reads E G k low high has.0 r (value (without_minus has.0) (one_text-rows f id ∙ has.1))
    only fits has.2

-- and it is the one that the rows give
number_read : (E : Type 0) (G : Text → Result ℕ E → Type 0) (k : ℕ) (f : Found) (id : Text) (n : ℕ)
    → ((t : Text) (x : Result ℕ E) → G t x → ParsesUnsigned k 10 t x)
    → (one_text f id ≡ None → Some n ≡ None) →
    ((t : Text) → one_text f id ≡ Some t → ReadsOne G t (Some n))
    → number_given id (rows_of f) ≡ Some n
number_read E G k f id n only none value = go (one_text f id) refl
  where
    go : (o : Option Text) → one_text f id ≡ o → number_given id (rows_of f) ≡ Some n
    go None e = let bad : Some n ≡ None = none e in cc
    go (Some t) e =
        let parsed = only t (Ok n) (value t e) in
        ap (option_map decimal_of) (sym (one_text-rows f id) ∙ e) ∙ ap Some (sym parsed.1)

-- a getter of text gives a word where one stands under the name
pub word_there : (f : Found) (id : Text) (r : Option (Bor Text)) →
    option_map (λ s. s.now) r ≡ first_value f id → HasWord id (rows_of f)
    → (s : Bor Text) × (r ≡ Some s)
word_there f id None e has = let bad : None ≡ Some has.0 = e ∙ (first_value-rows f id ∙ has.1) in cc
word_there f id (Some s) e has = (s, refl)

-- a numeral in a range lies in each wider one
pub HasNumber-wider : (id : Text) (rows : List Row) (low high least most : ℕ) → least ≤ low →
    high ≤ most → HasNumber id low high rows
    → HasNumber id least most rows
HasNumber-wider id rows low high least most below above has =
    (has.0, has.1, (has.2.0, has.2.1, omega (arith, ints), omega (arith, ints)))

-- what a typed getter gave is the number in each range that its type covers
pub reads_number : (E : Type 0) (G : Text → Result ℕ E → Type 0) (k bound : ℕ) (f : Found)
    (id : Text) (r : Option ℕ) (n : ℕ) → r ≡ Some n
    → bound < 2 ^ k → ((t : Text) (x : Result ℕ E) → G t x → ParsesUnsigned k 10 t x)
    → (one_text f id ≡ None → r ≡ None) → ((t : Text) → one_text f id ≡ Some t → ReadsOne G t r)
    → ReadsNumber bound id (rows_of f) n
reads_number E G k bound f id r n is fits only none value low high most has =
    let there = number_there E G k low high f id r only (omega arith) has value in
    let same : Some there.0 ≡ Some n = sym there.1 ∙ is in
    let which : there.0 ≡ n = cc in (
      number_read E G k f id n only (λ e. sym is ∙ none e)
          (λ t e. subst (ReadsOne G t) is (value t e)),
      omega arith,
      omega arith,
    )

-- what a typed getter gave is the number that may stand under the name, or none
pub may_read_number : (E : Type 0) (G : Text → Result ℕ E → Type 0) (k bound : ℕ) (f : Found)
    (id : Text) (r : Option ℕ) → bound < 2 ^ k
    → ((t : Text) (x : Result ℕ E) → G t x → ParsesUnsigned k 10 t x)
    → (one_text f id ≡ None → r ≡ None) → ((t : Text) → one_text f id ≡ Some t → ReadsOne G t r)
    → MayReadNumber bound id (rows_of f) r
may_read_number E G k bound f id r fits only none value low high most (inl gone) =
    subst (MayGiveNumber (rows_of f) id low high) (sym (none (one_text-rows f id ∙ gone)))
    (ap (option_map decimal_of) gone)
may_read_number E G k bound f id r fits only none value low high most (inr has) =
    let there = number_there E G k low high f id r only (omega arith) has value in
    subst (MayGiveNumber (rows_of f) id low high) (sym there.1)
    (reads_number E G k bound f id r there.0 there.1 fits only none value low high most has)

-- the first word under a name, where the getter gave it
pub word_read : (f : Found) (id : Text) (r : Option (Bor Text)) (s : Bor Text) →
    option_map (λ x. x.now) r ≡ first_value f id → r ≡ Some s
    → first_of id (rows_of f) ≡ Some s.now
word_read f id r s e is = sym (first_value-rows f id) ∙
    (sym e ∙ ap (option_map (λ (x : Bor Text). x.now)) is)

-- the getter of text gives the first word under a name, where there is one
pub word_given : (f : Found) (id : Text) (r : Option (Bor Text)) →
    option_map (λ x. x.now) r ≡ first_value f id →
    (is_some r ≡ true → HasWord id (rows_of f)) × (is_some r ≡ false → first_of id (rows_of f) ≡ None)
word_given f id None e = (λ yes. cc, λ no. sym (first_value-rows f id) ∙ sym e)
word_given f id (Some s) e = (λ yes. (s.now, sym (first_value-rows f id) ∙ sym e), λ no. cc)

-- the first word under a name leads all of them
pub first_leads : (name : Text) (rows : List Row) (word : Text) → first_of name rows ≡ Some word →
    (rest : List Text) × (unwrap_or (all_of name rows) [] ≡ word ∷ rest)
first_leads name rows word is = of_row (find (λ r. bytes_eq r.id name) rows) is
  where
    of_values : (values : List Text) → slice_get values 0 ≡ Some word →
        (rest : List Text) × (values ≡ word ∷ rest)
    of_values [] h = cc
    of_values (v ∷ rest) h = let same : v ≡ word = cc in (rest, ap (λ w. w ∷ rest) same)

    of_row : (row : Option Row) → option_and_then (λ r. slice_get r.values 0) row ≡ Some word →
        (rest : List Text) × (unwrap_or (option_map (λ r. r.values) row) [] ≡ word ∷ rest)
    of_row None h = cc
    of_row (Some row) h = of_values row.values h

-- and it is the only one where there are no two
pub only_word : (name : Text) (rows : List Row) (word : Text)
    → length (unwrap_or (all_of name rows) []) < 2 → first_of name rows ≡ Some word
    → unwrap_or (all_of name rows) [] ≡ word ∷ []
only_word name rows word few is =
    let leads = first_leads name rows word is in
    leads.1 ∙ ap (λ rest. word ∷ rest)
    (none leads.0 (subst (λ words. length words < 2) leads.1 few))
  where
    none : (rest : List Text) → length (word ∷ rest) < 2 → rest ≡ []
    none [] h = refl
    none (x ∷ rest) h = absurd (omega arith)

-- the words under a name are as many as their getter gave
pub counted_words : (name : Text) (rows : List Row) (words : List (Bor Text))
    → all_of name rows ≡ Some (map (λ w. w.now) words)
    → (nat_lt 1 (length words) ≡ true → 2 ≤ length (unwrap_or (all_of name rows) []))
    × (nat_lt 1 (length words) ≡ false → length (unwrap_or (all_of name rows) []) < 2)
counted_words name rows words is = (
  λ several. let more = two (length words) several in omega (arith, long),
  λ few. let less = one (length words) few in omega (arith, long),
)
  where
    long : length (unwrap_or (all_of name rows) []) ≡ length words
    long = ap (λ o. length (unwrap_or o [])) is ∙ length-map words (λ w. w.now)

    two : (n : ℕ) → nat_lt 1 n ≡ true → 2 ≤ n
    two n e = search rules

    one : (n : ℕ) → nat_lt 1 n ≡ false → n < 2
    one n e = search rules

-- the last word is there, where it is needed and the words fit
pub last_there : (rows : List Row) (notation : Notation) (sought : Sought) (last : Text) →
    DoFit last true rows → GivesSought rows notation sought →
    HasWord (place_of_last sought last) rows
last_there rows notation (Key key) last fit h = fit.last_word h.0 h.1 refl
last_there rows notation (Range from to) last fit h =
    fit.in_place (inl (h.1.1.0, h.1.1.1)) refl
last_there rows notation (Keys keys) last fit h = fit.in_place (inr (string_bytes keys, h.0)) refl

-- a word for what is sought is refused of `prove` where its root is none or good
pub prove_refused : (rows : List Row) (root : Option Ref) (fault : ParseFault) →
    MayGiveRoot rows root → IsRefusedSought rows fault →
    IsRefusedFitting (codes "prove", rows) fault
prove_refused rows root Memory has bad = tt
prove_refused rows root (Usage text) has bad = absurd bad
prove_refused rows root (Help text) has bad = absurd bad
prove_refused rows root BadRoot has bad = absurd bad
prove_refused rows root LoneRoot has bad = absurd bad
prove_refused rows root BadKey has bad = inr (inl (refl, (root, has)), bad)
prove_refused rows root BadTextKey has bad = inr (inl (refl, (root, has)), bad)

-- words that do not fit are told as usage
pub misfit_refused : (given : Text × List Row) (fault : ParseFault) → HasMisfit given →
    IsWordFault fault → IsRefusedAt given fault
misfit_refused given Memory misfit told = tt
misfit_refused given (Usage text) misfit told = misfit
misfit_refused given (Help text) misfit told = absurd told
misfit_refused given BadRoot misfit told = absurd told
misfit_refused given LoneRoot misfit told = absurd told
misfit_refused given BadKey misfit told = absurd told
misfit_refused given BadTextKey misfit told = absurd told

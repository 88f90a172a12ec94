-- What stands in the rows of the subcommand that clap enters, by the subcommand as it is built.
use Rattle.std.proofs.Common.{◌≡◌, ◌∙◌, ℕ, Bool, List, [], ◌∷◌, ◌||◌, ◌&&◌, Option, Some, None}
use Rattle.std.proofs.Common.{true, false, refl, sym, ap, subst, arith, cond, inl, inr}
use Rattle.std.specs.Prelude.{find, if◌then◌else◌, not, option_and_then, option_map, pos}
use Rattle.std.specs.List.{list_all, list_any}
use Rattle.std.specs.Option.{option_map_or}
use Rattle.std.specs.Str.{bytes_eq}
use Rattle.std.proofs.lemmas.Bool.{ne_eqb}
use Rattle.std.proofs.lemmas.Slice.Eq.{bytes_eq-Decides}
use Rattle.clap.specs.Facts.{parser_of_value}
use Rattle.clap.specs.Faults.{entered_fault, level_fault}
use Rattle.clap.specs.Simple.{Shape, built, entered, label_of, names_of}
use Rattle.clap.specs.Values.{read_as, reading_of}
use Rattle.clap.specs.ValueTests.{accepts}
use Rattle.clap.specs.Walk.{Row, Rule, Text, answers_to, arg_by_id, has_row, is_empty, nothing_held}
use Rattle.clap.specs.Walk.{one_of, first_of, row_text, rows_after, stop_after}
use Rattle.clap.proofs.OnLiterals.{clap_on_literals}
use Rattle.clap.proofs.ValueTestLemmas.{accepts-Accepts}
use Rattle.clap.specs.declared.builder.value_parser.ValueParser.{ValueParser}
use Rattle.clap.specs.declared.builder.value_parser.ValueParser.TheVariants.{Signed, String}
use Rattle.prolly_line.proofs.Passes.{Each, HasPassed, IsSound, level_passed, none_in, wants_value}
use Rattle.prolly_line.proofs.Presence.{default_present, has_default, has_required}
use Rattle.prolly_line.proofs.Presence.{required_present, value_present}
use Rattle.prolly_line.specs.AcceptedWords.{HasNumber, HasWord, IsAccepted, MayHaveNumber}
use Rattle.prolly_line.specs.Line.{line_faults, line_given, program_line}

-- the subcommand that a word names, as clap builds it
abbrev pub shape_at : Text → Option Shape
shape_at name = find (λ s. answers_to name (label_of s)) (built program_line).subs

-- the rows are those of this subcommand at words that it takes
abbrev pub IsLevelOf : Shape → List Row → Type 0
IsLevelOf s rows = (words : List Text) × (rows ≡ rows_after s.rules [] words) ×
    (level_fault s [] nothing_held words false [] ≡ [])

-- a subcommand with no other name answers to its name alone
one_name : (word : Text) (s : Shape) → is_empty s.aliases ≡ true →
    answers_to word (label_of s) ≡ true → s.name ≡ word
one_name word s none e = go (bytes_eq s.name word) refl s.aliases none e
  where
    go : (b : Bool) → bytes_eq s.name word ≡ b → (aliases : List Text) → is_empty aliases ≡ true
        → (b || list_any (λ alias. bytes_eq alias word) aliases) ≡ true → s.name ≡ word
    go true h aliases n e = (bytes_eq-Decides s.name word).0 h
    go false h [] n e = cc
    go false h (x ∷ xs) n e = let some : is_empty (x ∷ xs) ≡ false =
        ne_eqb _ _ (λ z. omega (arith, z)) in cc

-- and so does the one that is found
pub found_name : (word : Text) (subs : List Shape) (s : Shape) →
    list_all (λ x. is_empty x.aliases) subs ≡ true
    → find (λ x. answers_to word (label_of x)) subs ≡ Some s → s.name ≡ word
found_name word [] s none e = cc
found_name word (x ∷ xs) s none e = go (found_name word xs s) (is_empty x.aliases) refl
    (answers_to word (label_of x)) refl none e
  where
    go : (list_all (λ y. is_empty y.aliases) xs ≡ true →
        find (λ y. answers_to word (label_of y)) xs ≡ Some s → s.name ≡ word)
        → (n : Bool) → is_empty x.aliases ≡ n → (b : Bool) → answers_to word (label_of x) ≡ b →
        (n && list_all (λ y. is_empty y.aliases) xs) ≡ true
        → (if b then Some x else find (λ y. answers_to word (label_of y)) xs) ≡ Some s →
        s.name ≡ word
    go below true n true h all e = let same : x ≡ s = cc in
        subst (λ (y : Shape). y.name ≡ word) same (one_name word x n h)
    go below true n false h all e = below all e
    go below false n b h all e = cc

-- where the level below was entered, it is the one that its name names
entered_level : (stop : Option (Text × List Text)) (given : Text × List Row) →
    list_all (λ x. is_empty x.aliases) (built program_line).subs ≡ true
    → entered_fault (built program_line) stop ≡ [] →
    entered (built program_line) stop ≡ Some given
    → (s : Shape) × (shape_at given.0 ≡ Some s) × IsLevelOf s given.1 ×
    ((p : Text × List Text) × (stop ≡ Some p) × (p.0 ≡ given.0))
entered_level None given none fault is = cc
entered_level (Some p) given none fault is = go (shape_at p.0) refl fault is
  where
    go : (o : Option Shape) → shape_at p.0 ≡ o
        → option_map_or (λ s. level_fault s [] nothing_held p.1 false []) o [] ≡ []
        → option_map (λ s. (s.name, rows_after s.rules [] p.1)) o ≡ Some given
        → (s : Shape) × (shape_at given.0 ≡ Some s) × IsLevelOf s given.1 ×
        ((q : Text × List Text) × (Some p ≡ Some q) × (q.0 ≡ given.0))
    go None e f g = cc
    go (Some s) e f g =
        let same : (s.name, rows_after s.rules [] p.1) ≡ given = cc in
        let name : s.name ≡ given.0 = ap (λ (x : Text × List Row). x.0) same in
        let word : p.0 ≡ given.0 = sym (found_name p.0 (built program_line).subs s none e) ∙
        name in (
          s,
          subst (λ (t : Text). shape_at t ≡ Some s) word e,
          (p.1, sym (ap (λ (x : Text × List Row). x.1) same), f),
          (p, refl, word),
        )

pub no_aliases : list_all (λ x. is_empty x.aliases) (built program_line).subs ≡ true
unfolding clap_on_literals
no_aliases = refl

-- the word at which the walk over accepted words stopped, and the level below it
pub accepted_level : (words : List Text) (given : Text × List Row) → line_faults words ≡ [] →
    line_given words ≡ Some given
    → (s : Shape) × (shape_at given.0 ≡ Some s) × IsLevelOf s given.1
    × ((p : Text × List Text) × (stop_after (built program_line).top.rules
    (names_of (built program_line)) words ≡ Some p) × (p.0 ≡ given.0))
unfolding line_faults line_given
accepted_level words given fault is =
    let stop = stop_after (built program_line).top.rules (names_of (built program_line)) words
    in
    let one = none_in _ _ fault in
    let two = none_in (entered_fault (built program_line) stop) _ one.1 in
    entered_level stop given no_aliases two.0 is

-- the level of an accepted subcommand
pub level_at : (name : Text) (s : Shape) (rows : List Row) → shape_at name ≡ Some s →
    IsAccepted (name, rows) → IsLevelOf s rows
level_at name s rows at accepted =
    let level = accepted_level accepted.0 (name, rows) accepted.1 accepted.2 in
    let same : Some level.0 ≡ Some s = sym level.1 ∙ at in
    let is : level.0 ≡ s = cc in
    subst (λ (x : Shape). IsLevelOf x rows) is level.2

-- an accepted subcommand has a row under the id: its argument has a default or is required
abbrev pub is_sure : Shape → Text → Bool
is_sure s id = list_any (has_default id) s.rules ||
    (list_any (has_required id) s.rules && not s.subcommand_negates_reqs)

-- such an id has a row
row_there : (s : Shape) (rows : List Row) (id : Text) → IsLevelOf s rows → is_sure s id ≡ true →
    has_row id rows ≡ true
row_there s rows id level sure =
    rw level.1 (go (list_any (has_default id) s.rules) refl (list_any (has_required id) s.rules)
    refl s.subcommand_negates_reqs refl sure)
  where
    go : (d : Bool) → list_any (has_default id) s.rules ≡ d → (r : Bool) →
        list_any (has_required id) s.rules ≡ r
        → (n : Bool) → s.subcommand_negates_reqs ≡ n → (d || (r && not n)) ≡ true →
        has_row id (rows_after s.rules [] level.0) ≡ true
    go true d r req n neg h = default_present s [] level.0 id d
    go false d true req false neg h = required_present s [] level.0 [] id neg req level.2
    go false d true req true neg h = cc
    go false d false req n neg h = cc

-- the parser of an argument, and whether each use has a value
abbrev pub reader_of : Rule → ValueParser × Bool
reader_of a = (parser_of_value a.parser, wants_value a)

-- the first value under an id that has a row, which passed the parser of its argument
value_of_row : (s : Shape) (rows : List Row) (id : Text) (parser : ValueParser) →
    Each (IsSound s.rules) s.rules → IsLevelOf s rows
    → has_row id rows ≡ true → option_map reader_of (arg_by_id s.rules id) ≡ Some (parser, true)
    → (a : Rule) × (text : Text) × (first_of id rows ≡ Some text) ×
    (one_of id rows ≡ Some (read_as (reading_of parser) text))
    × (accepts a.ignore_case parser text ≡ true)
value_of_row s rows id parser sound level there reader = go (arg_by_id s.rules id) refl reader
  where
    passed : Each (HasPassed s.rules) rows
    passed = subst (Each (HasPassed s.rules)) (sym level.1)
        (level_passed s [] level.0 false [] sound level.2)

    go : (o : Option Rule) → arg_by_id s.rules id ≡ o →
        option_map reader_of o ≡ Some (parser, true)
        → (a : Rule) × (text : Text) × (first_of id rows ≡ Some text) ×
        (one_of id rows ≡ Some (read_as (reading_of parser) text))
        × (accepts a.ignore_case parser text ≡ true)
    go None e r = cc
    go (Some a) e r =
        let both : reader_of a ≡ (parser, true) = cc in
        let is : parser_of_value a.parser ≡ parser =
        ap (λ (x : ValueParser × Bool). x.0) both in
        let wants : wants_value a ≡ true = ap (λ (x : ValueParser × Bool). x.1) both in
        let got = value_present s.rules rows id a passed there e
        wants in (
          a,
          got.0,
          got.1,
          subst (λ (p : ValueParser). one_of id rows ≡ Some (read_as (reading_of p) got.0)) is
              got.2,
          subst (λ (p : ValueParser). accepts a.ignore_case p got.0 ≡ true) is got.3,
        )

-- the same of an id that is sure
value_there : (s : Shape) (rows : List Row) (id : Text) (parser : ValueParser) →
    Each (IsSound s.rules) s.rules → IsLevelOf s rows
    → is_sure s id ≡ true → option_map reader_of (arg_by_id s.rules id) ≡ Some (parser, true)
    → (a : Rule) × (text : Text) × (first_of id rows ≡ Some text) ×
    (one_of id rows ≡ Some (read_as (reading_of parser) text))
    × (accepts a.ignore_case parser text ≡ true)
value_there s rows id parser sound level sure reader =
    value_of_row s rows id parser sound level (row_there s rows id level sure) reader

-- a number of an accepted subcommand
pub number_at : (s : Shape) (rows : List Row) (id : Text) (low high : ℕ) →
    Each (IsSound s.rules) s.rules → IsLevelOf s rows
    → is_sure s id ≡ true → option_map reader_of (arg_by_id s.rules id) ≡
    Some (Signed (pos low) (pos high), true)
    → HasNumber id low high rows
number_at s rows id low high sound level sure reader =
    let there = value_there s rows id (Signed (pos low) (pos high)) sound level sure reader in (
      there.1,
      there.3,
      accepts-Accepts there.0.ignore_case (Signed (pos low) (pos high)) there.1
          there.4,
    )

-- an id without a row has no value
none_there : (id : Text) (rows : List Row) → has_row id rows ≡ false → one_of id rows ≡ None
none_there id [] none = refl
none_there id (r ∷ rs) none = go (none_there id rs) (bytes_eq r.id id) none
  where
    go : (has_row id rs ≡ false → one_of id rs ≡ None) → (b : Bool) → (b || has_row id rs) ≡ false
        → option_and_then row_text (cond b (Some r) (find (λ x. bytes_eq x.id id) rs)) ≡ None
    go below true k = cc
    go below false k = below k

-- a number of an accepted subcommand that may be missing
pub number_if_any : (s : Shape) (rows : List Row) (id : Text) (low high : ℕ) →
    Each (IsSound s.rules) s.rules → IsLevelOf s rows
    → option_map reader_of (arg_by_id s.rules id) ≡ Some (Signed (pos low) (pos high), true)
    → MayHaveNumber id low high rows
number_if_any s rows id low high sound level reader = go (has_row id rows) refl
  where
    go : (b : Bool) → has_row id rows ≡ b → MayHaveNumber id low high rows
    go false none = inl (none_there id rows none)
    go true some =
        let there = value_of_row s rows id (Signed (pos low) (pos high)) sound level some reader in
        inr (
          there.1,
          there.3,
          accepts-Accepts there.0.ignore_case (Signed (pos low) (pos high)) there.1
              there.4,
        )

-- a word of an accepted subcommand
pub word_at : (s : Shape) (rows : List Row) (id : Text) → Each (IsSound s.rules) s.rules →
    IsLevelOf s rows
    → is_sure s id ≡ true → option_map reader_of (arg_by_id s.rules id) ≡ Some (String, true) →
    HasWord id rows
word_at s rows id sound level sure reader =
    let there = value_there s rows id String sound level sure reader in
    (there.1, there.2)

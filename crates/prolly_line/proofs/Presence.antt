-- Where clap takes the words, an argument with a default and a required one have a value.
use Rattle.std.proofs.Common.{◌≡◌, ◌∙◌, ◌<◌, ◌++◌, Bool, List, [], ◌∷◌, length, Some, true, false}
use Rattle.std.proofs.Common.{refl, sym, ap, subst, arith, cond}
use Rattle.std.specs.Prelude.{◌&&◌, ◌||◌, if◌then◌else◌, not, find, fold, option_and_then}
use Rattle.std.specs.Prelude.{option_map, slice_get}
use Rattle.std.specs.List.{list_any}
use Rattle.std.specs.Option.{option_map_or}
use Rattle.std.specs.Str.{bytes_eq}
use Rattle.std.proofs.lemmas.Slice.Eq.{bytes_eq-Decides}
use Rattle.clap.specs.Facts.{explicit_source}
use Rattle.clap.specs.Kinds.{Kinds, check_kinds}
use Rattle.clap.specs.Values.{read_as}
use Rattle.clap.specs.Takes.{is_given, value_passes, values_pass}
use Rattle.clap.specs.Simple.{Shape}
use Rattle.clap.specs.Faults.{defaults_fault, level_fault, settle_fault, walk_fault}
use Rattle.clap.specs.Walk.{Names, Row, Rule, Text, arg_by_id, at_row, default_rows, first_of}
use Rattle.clap.specs.Walk.{has_row, is_empty, more_values, nothing_held, one_of, reading_by}
use Rattle.clap.specs.Walk.{row_text, rows_after, settled, walk, walk_from, with_default}
use Rattle.clap.specs.Walk.{with_values}
use Rattle.clap.specs.declared.parser.matches.ValueSource.{ValueSource}
use Rattle.clap.specs.declared.parser.matches.ValueSource.TheVariants.{DefaultValue}
use Rattle.clap.specs.declared.builder.value_parser.Reading.{Reading}
use Rattle.prolly_line.proofs.Passes.{Each, HasPassed, none_in, wants_value}

-- ---- rows that stay, and rows that are new

pub or_true : (a b : Bool) → b ≡ true → (a || b) ≡ true
or_true true b h = refl
or_true false b h = h

pub same_text : (t : Text) → bytes_eq t t ≡ true
same_text t = (bytes_eq-Decides t t).1 refl

-- a row stays where values join another row, or its own
row_stays : (id i : Text) (s : ValueSource) (vs : List Text) (missing rows : List Row) →
    has_row id rows ≡ true
    → has_row id (at_row i (more_values s vs) missing rows) ≡ true
row_stays id i s vs missing [] h = cc
row_stays id i s vs missing (r ∷ rs) h = go (row_stays id i s vs missing rs) (bytes_eq r.id i)
    (bytes_eq r.id id) refl h
  where
    go : (has_row id rs ≡ true → has_row id (at_row i (more_values s vs) missing rs) ≡ true)
        → (b d : Bool) → bytes_eq r.id id ≡ d → (d || has_row id rs) ≡ true
        → has_row id (if b then more_values s vs r ++ rs else r ∷ at_row i (more_values s vs)
        missing rs) ≡ true
    go below true d e k = rw e k
    go below false true e k = rw e refl
    go below false false e k = rw e (below k)

-- values that join the row of an id leave it with a row
row_new : (id : Text) (s : ValueSource) (vs : List Text) (new : Row) (rows : List Row) → new.id ≡ id
    → has_row id (at_row id (more_values s vs) (new ∷ []) rows) ≡ true
row_new id s vs new [] e = rw e (rw (same_text id) refl)
row_new id s vs new (r ∷ rs) e = go (row_new id s vs new rs e) (bytes_eq r.id id) refl
  where
    go : has_row id (at_row id (more_values s vs) (new ∷ []) rs) ≡ true → (b : Bool) →
        bytes_eq r.id id ≡ b
        → has_row id (if b then more_values s vs r ++ rs else r ∷ at_row id (more_values s vs)
        (new ∷ []) rs) ≡ true
    go below true q = rw q refl
    go below false q = or_true (bytes_eq r.id id) _ below

-- ---- defaults

-- defaults take no row away
default_stays : (id : Text) (a : Rule) (rows : List Row) → has_row id rows ≡ true →
    has_row id (with_default rows a) ≡ true
default_stays id a rows h = go (has_row a.id rows) a.defaults
  where
    go : (b : Bool) (vs : List Text) → has_row id
        (if b then rows else default_rows a.id (reading_by a) vs rows) ≡ true
    go true vs = h
    go false [] = h
    go false (v ∷ vs) = row_stays id a.id DefaultValue (v ∷ vs) _ rows h

-- and an argument with a default gets one
default_new : (id : Text) (a : Rule) (rows : List Row) → a.id ≡ id → is_empty a.defaults ≡ false →
    has_row id (with_default rows a) ≡ true
default_new id a rows e some = go (has_row a.id rows) refl a.defaults some
  where
    go : (b : Bool) → has_row a.id rows ≡ b → (vs : List Text) → is_empty vs ≡ false
        → has_row id (if b then rows else default_rows a.id (reading_by a) vs rows) ≡ true
    go true q vs n = subst (λ (t : Text). has_row t rows ≡ true) e q
    go false q [] n = cc
    go false q (v ∷ vs) n =
        subst (λ (t : Text). has_row t (with_values a.id (reading_by a) DefaultValue (v ∷ vs) rows)
        ≡ true) e
        (row_new a.id DefaultValue (v ∷ vs) _ rows refl)

defaults_stay : (id : Text) (xs : List Rule) (rows : List Row) → has_row id rows ≡ true →
    has_row id (fold with_default rows xs) ≡ true
defaults_stay id [] rows h = h
defaults_stay id (a ∷ xs) rows h = defaults_stay id xs (with_default rows a)
    (default_stays id a rows h)

-- the argument of an id has a default
abbrev pub has_default : Text → Rule → Bool
has_default id a = bytes_eq a.id id && not (is_empty a.defaults)

defaults_new : (id : Text) (xs : List Rule) (rows : List Row) →
    list_any (has_default id) xs ≡ true → has_row id (fold with_default rows xs) ≡ true
defaults_new id [] rows h = cc
defaults_new id (a ∷ xs) rows h =
    go (defaults_new id xs (with_default rows a)) (bytes_eq a.id id) refl (is_empty a.defaults) refl
    h
  where
    go : (list_any (has_default id) xs ≡ true →
        has_row id (fold with_default (with_default rows a) xs) ≡ true)
        → (b : Bool) → bytes_eq a.id id ≡ b → (d : Bool) → is_empty a.defaults ≡ d →
        ((b && not d) || list_any (has_default id) xs) ≡ true
        → has_row id (fold with_default (with_default rows a) xs) ≡ true
    go below true e false q k = defaults_stay id xs (with_default rows a)
        (default_new id a rows ((bytes_eq-Decides a.id id).0 e) q)
    go below true e true q k = below k
    go below false e d q k = below k

-- an argument with a default has a row at the end of a level
pub default_present : (s : Shape) (names : Names) (words : List Text) (id : Text) →
    list_any (has_default id) s.rules ≡ true
    → has_row id (rows_after s.rules names words) ≡ true
default_present s names words id h = defaults_new id s.rules
    (settled s.rules (walk s.rules names nothing_held words).held).rows h

-- ---- required arguments

-- the argument of an id is required
abbrev pub has_required : Text → Rule → Bool
has_required id a = bytes_eq a.id id && a.required

-- what was given has a row
given_row : (id : Text) (rows : List Row) → is_given id rows ≡ true → has_row id rows ≡ true
given_row id [] h = cc
given_row id (r ∷ rs) h = go (given_row id rs) (bytes_eq r.id id) h
  where
    go : (is_given id rs ≡ true → has_row id rs ≡ true) → (b : Bool)
        → option_map_or (λ x. explicit_source x.source)
        (cond b (Some r) (find (λ x. bytes_eq x.id id) rs)) false ≡ true
        → (b || has_row id rs) ≡ true
    go below true k = refl
    go below false k = below k

-- where no required argument is missing, each has a row
required_row : (id : Text) (xs : List Rule) (rows : List Row) → list_any (has_required id) xs ≡ true
    → list_any (λ a. a.required && not (is_given a.id rows)) xs ≡ false → has_row id rows ≡ true
required_row id [] rows h none = cc
required_row id (a ∷ xs) rows h none =
    go (required_row id xs rows) (bytes_eq a.id id) refl a.required (is_given a.id rows) refl h none
  where
    go : (list_any (has_required id) xs ≡ true →
        list_any (λ a. a.required && not (is_given a.id rows)) xs ≡ false → has_row id rows ≡ true)
        → (b : Bool) → bytes_eq a.id id ≡ b → (d g : Bool) → is_given a.id rows ≡ g →
        ((b && d) || list_any (has_required id) xs) ≡ true
        → ((d && not g) || list_any (λ a. a.required && not (is_given a.id rows)) xs) ≡ false →
        has_row id rows ≡ true
    go below true e true true q k n = given_row id rows
        (subst (λ (t : Text). is_given t rows ≡ true) ((bytes_eq-Decides a.id id).0 e) q)
    go below true e true false q k n = cc
    go below true e false g q k n = below k n
    go below false e true true q k n = below k n
    go below false e true false q k n = cc
    go below false e false g q k n = below k n

-- the last checks of a level that clap takes found nothing missing
wanted_none : (help sub b : Bool) → check_kinds help sub b ≡ [] → b ≡ false
wanted_none true sub b h = cc
wanted_none false true b h = cc
wanted_none false false true h = cc
wanted_none false false false h = refl

-- a required argument has a row at the end of a level that clap takes
pub required_present : (s : Shape) (names : Names) (words : List Text) (below : Kinds) (id : Text) →
    s.subcommand_negates_reqs ≡ false
    → list_any (has_required id) s.rules ≡ true →
    level_fault s names nothing_held words false below ≡ []
    → has_row id (rows_after s.rules names words) ≡ true
required_present s names words below id negates h fault =
    let end = (walk s.rules names nothing_held words).held in
    let one = none_in (walk_fault s names (walk_from nothing_held) words) _ fault in
    let two = none_in below _ one.1 in
    let three = none_in (settle_fault s.rules s.args_override_self end) _ two.1 in
    let four = none_in (defaults_fault (settled s.rules end).rows s.rules) _ three.1 in
    let wanted = wanted_none _ _ _ four.1 in
    required_row id s.rules (rows_after s.rules names words) h (rw negates at wanted)

first_pass : (x y : Bool) → (x && y) ≡ true → x ≡ true
first_pass true y h = refl
first_pass false y h = cc

-- the first value of a row that is there
pub value_present : (c : List Rule) (rows : List Row) (id : Text) (a : Rule) →
    Each (HasPassed c) rows → has_row id rows ≡ true
    → arg_by_id c id ≡ Some a → wants_value a ≡ true
    → (v : Text) × (first_of id rows ≡ Some v) ×
    (one_of id rows ≡ Some (read_as (reading_by a) v)) × (value_passes a v ≡ true)
value_present c [] id a all h own wants = cc
value_present c (r ∷ rs) id a all h own wants =
    go (value_present c rs id a all.1) (bytes_eq r.id id) refl h
  where
    head : (vs : List Text) (how : Reading) → values_pass a vs ≡ true → 0 < length vs →
        how ≡ reading_by a
        → (v : Text) × (slice_get vs 0 ≡ Some v) ×
        (option_map (read_as how) (slice_get vs 0) ≡ Some (read_as (reading_by a) v)) ×
        (value_passes a v ≡ true)
    head [] how pass some is = absurd (omega arith)
    head (v ∷ vs) how pass some is = (
      v,
      refl,
      ap (λ (h : Reading). Some (read_as h v)) is,
      first_pass (value_passes a v) _ pass,
    )

    go : (has_row id rs ≡ true → arg_by_id c id ≡ Some a → wants_value a ≡ true
        → (v : Text) × (first_of id rs ≡ Some v) ×
        (one_of id rs ≡ Some (read_as (reading_by a) v)) × (value_passes a v ≡ true))
        → (b : Bool) → bytes_eq r.id id ≡ b → (b || has_row id rs) ≡ true
        → (v : Text) × (option_and_then (λ x. slice_get x.values 0)
        (cond b (Some r) (find (λ x. bytes_eq x.id id) rs)) ≡ Some v)
        × (option_and_then row_text (cond b (Some r) (find (λ x. bytes_eq x.id id) rs)) ≡
        Some (read_as (reading_by a) v)) × (value_passes a v ≡ true)
    go below false e k = below k own wants
    go below true e k =
        let p = all.0 in
        let id_is : r.id ≡ id = (bytes_eq-Decides r.id id).0 e in
        let same : Some p.0 ≡ Some a = sym p.1 ∙ (ap (arg_by_id c) id_is ∙ own) in
        let is : p.0 ≡ a = cc in
        head r.values r.reading (subst (λ (x : Rule). values_pass x r.values ≡ true) is p.2)
        (p.3 (subst (λ (x : Rule). wants_value x ≡ true) (sym is) wants)) (p.4 ∙ ap reading_by is)

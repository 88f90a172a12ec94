-- Where clap takes the words, each value that it gives passed the parser of its argument.
use Rattle.std.proofs.Common.{◌≡◌, ◌∙◌, ◌<◌, ◌++◌, ℕ, Bool, List, [], ◌∷◌, length, drop, Option}
use Rattle.std.proofs.Common.{Some, None, true, false, refl, sym, ap, subst, arith, cond}
use Rattle.std.proofs.Common.{length-append}
use Rattle.std.specs.Prelude.{◌&&◌, ◌||◌, if◌then◌else◌, nat_lt, find, fold, is_some, slice_get}
use Rattle.std.specs.Prelude.{encode_utf8, zero, suc}
use Rattle.std.specs.List.{list_all}
use Rattle.std.specs.Option.{option_map_or}
use Rattle.std.specs.Str.{bytes_eq, chars}
use Rattle.std.proofs.lemmas.List.Folds.{list_all-append}
use Rattle.std.proofs.lemmas.Bool.{ne_eqb}
use Rattle.std.proofs.lemmas.Slice.Eq.{bytes_eq-Decides}
use Rattle.clap.specs.Facts.{unwrap_or_range}
use Rattle.clap.specs.Kinds.{Kinds, or_else, range_kinds, value_kinds, values_kinds}
use Rattle.clap.specs.Values.{is_request, refused_kind}
use Rattle.clap.specs.ValueTests.{accepts}
use Rattle.clap.specs.Takes.{values_pass}
use Rattle.clap.specs.Kinds.{request_kinds}
use Rattle.clap.specs.Simple.{Shape}
use Rattle.clap.specs.Lexer.{long_of, short_of}
use Rattle.clap.specs.Faults.{action_fault, bundle_fault, bundle_step_fault, default_fault}
use Rattle.clap.specs.Faults.{defaults_fault, flag_word_fault, flags_fault, given_default_fault}
use Rattle.clap.specs.Faults.{level_fault, long_fault, option_fault, other_fault, positional_fault}
use Rattle.clap.specs.Faults.{react_fault, repeat_fault, set_fault, settle_fault, short_fault}
use Rattle.clap.specs.Faults.{step_fault, stray_fault, turn_fault, use_fault, values_fault}
use Rattle.clap.specs.Faults.{walk_fault, word_fault}
use Rattle.clap.specs.Walk.{Held, Names, Outcome, Row, Rule, Step, Text, Waiting, Walk, action_of}
use Rattle.clap.specs.Walk.{after_flag, after_step, arg_by_id, arg_by_index, arg_by_long}
use Rattle.clap.specs.Walk.{arg_by_short, at_row, attached_value, bundle, bundle_met, bundle_step}
use Rattle.clap.specs.Walk.{default_rows, done, flag_met, has_row, idle, is_empty, is_pending}
use Rattle.clap.specs.Walk.{long_met, long_or_other, more_values, most_values, next, nothing_held}
use Rattle.clap.specs.Walk.{option, option_met, option_word, plain, plain_word, positional, reacted}
use Rattle.clap.specs.Walk.{reading_by, refused, rows_after, settled, settled_rows, short_met}
use Rattle.clap.specs.Walk.{short_or_plain, subcommand, subcommand_met, subcommand_or_other}
use Rattle.clap.specs.Walk.{takes_several, takes_values, to_positional, trailing, used, used_as}
use Rattle.clap.specs.Walk.{used_by_id, value, values_or_missing, waits, walk, walk_from, walked}
use Rattle.clap.specs.Walk.{walked_from, with_default, with_values, without, word_met}
use Rattle.clap.specs.declared.builder.action.ArgAction.{ArgAction}
use Rattle.clap.specs.declared.builder.action.ArgAction.TheVariants.{Set, Append, SetTrue, SetFalse}
use Rattle.clap.specs.declared.builder.action.ArgAction.TheVariants.{Count, Help, HelpShort}
use Rattle.clap.specs.declared.builder.action.ArgAction.TheVariants.{HelpLong, Version}
use Rattle.clap.specs.declared.builder.value_parser.ValueParser.{ValueParser}
use Rattle.clap.specs.declared.parser.matches.ValueSource.{ValueSource}
use Rattle.clap.specs.declared.parser.matches.ValueSource.TheVariants.{CommandLine, DefaultValue}
use Rattle.clap.specs.declared.error.kind.ErrorKind.TheVariants.{TooManyValues}

-- P holds of each element, by the list's cases
abbrev pub Each : {X : Type 0} → (X → Type 0) → List X → Type 0
Each P [] = Unit {0}
Each P (x ∷ xs) = P x × Each P xs

Each-append : {X : Type 0} (P : X → Type 0) (xs ys : List X) → Each P xs → Each P ys →
    Each P (xs ++ ys)
Each-append P [] ys a b = b
Each-append P (x ∷ xs) ys a b = (a.0, Each-append P xs ys a.1 b)

-- no kind in either
pub none_in : (a b : Kinds) → or_else a b ≡ [] → (a ≡ []) × (b ≡ [])
none_in [] b h = (refl, h)
none_in (k ∷ ks) b h = cc

-- both tests hold
both : (a b : Bool) → a ≡ true → b ≡ true → (a && b) ≡ true
both true b ha hb = hb
both false b ha hb = ha

-- a value that is not refused passes
accepted : (i : Bool) (p : ValueParser) (v : Text) → value_kinds i p v ≡ [] → accepts i p v ≡ true
accepted i p v h = go (accepts i p v) h
  where
    go : (b : Bool) → (if b then [] else refused_kind p ∷ []) ≡ [] → b ≡ true
    go true h = refl
    go false h = cc

-- and so do all of a list
all_accepted : (i : Bool) (p : ValueParser) (vs : List Text) → values_kinds i p vs ≡ [] →
    list_all (accepts i p) vs ≡ true
all_accepted i p [] h = refl
all_accepted i p (v ∷ vs) h =
    let two = none_in (value_kinds i p v) (values_kinds i p vs) h in
    both (accepts i p v) (list_all (accepts i p) vs) (accepted i p v two.0)
    (all_accepted i p vs two.1)

-- an argument that has values, its own or those that stand for a use, or asks for help
abbrev pub takes_value : ArgAction → Bool
takes_value Set = true
takes_value Append = true
takes_value SetTrue = true
takes_value x = is_request x

-- each use of the argument has a value
abbrev pub wants_value : Rule → Bool
wants_value a = nat_lt 0 (unwrap_or_range a.range).start_inclusive

-- the argument is the one of its id, and has values or asks for help
abbrev pub IsSound : List Rule → Rule → Type 0
IsSound c a = (arg_by_id c a.id ≡ Some a) × (takes_value (action_of a) ≡ true)

-- the row is of an argument whose parser its values passed
abbrev pub HasPassed : List Rule → Row → Type 0
HasPassed c r = (a : Rule) × (arg_by_id c r.id ≡ Some a) × (values_pass a r.values ≡ true) ×
    (wants_value a ≡ true → 0 < length r.values)
    × (r.reading ≡ reading_by a)

-- what holds of each element holds of the one that is found
pub found_sound : {X : Type 0} (p : X → Bool) (P : X → Type 0) (xs : List X) (a : X) → Each P xs →
    find p xs ≡ Some a → P a
found_sound p P [] a all e = cc
found_sound p P (x ∷ xs) a all e = go (found_sound p P xs a all.1) (p x) e
  where
    go : (find p xs ≡ Some a → P a) → (b : Bool) → cond b (Some x) (find p xs) ≡ Some a → P a
    go below true h = let same : x ≡ a = cc in subst P same all.0
    go below false h = below h

-- what holds of each row, where the row of an id changes
at_each : (P : Row → Type 0) (id : Text) (change : Row → List Row) (missing : List Row)
    (rows : List Row)
    → ((r : Row) → bytes_eq r.id id ≡ true → P r → Each P (change r)) → Each P missing →
    Each P rows → Each P (at_row id change missing rows)
at_each P id change missing [] step new all = new
at_each P id change missing (r ∷ rs) step new all =
    go (at_each P id change missing rs step new all.1) (bytes_eq r.id id) refl
  where
    go : Each P (at_row id change missing rs) → (b : Bool) → bytes_eq r.id id ≡ b
        → Each P (if b then change r ++ rs else r ∷ at_row id change missing rs)
    go below true e = Each-append P (change r) rs (step r e all.0) all.1
    go below false e = (all.0, below)

-- nor is anything lost where the row of an id goes
none_left : (P : Row → Type 0) (id : Text) (rows : List Row) → Each P rows →
    Each P (without id rows)
none_left P id rows all = at_each P id (λ _. []) [] rows (λ r e h. tt) tt all

-- values that passed are added
more_passed : (c : List Rule) (a : Rule) (s : ValueSource) (vs : List Text) (rows : List Row) →
    arg_by_id c a.id ≡ Some a
    → values_pass a vs ≡ true → (wants_value a ≡ true → 0 < length vs) → Each (HasPassed c) rows
    → Each (HasPassed c) (with_values a.id (reading_by a) s vs rows)
more_passed c a s vs rows own pass some all =
    at_each (HasPassed c) a.id (more_values s vs) _ rows
    (λ r e p.
    let id : r.id ≡ a.id = (bytes_eq-Decides r.id a.id).0 e in
    let same : Some p.0 ≡ Some a = sym p.1 ∙ (ap (arg_by_id c) id ∙ own) in
    let is : p.0 ≡ a = cc in
    let more : values_pass a (r.values ++ vs) ≡ true =
    list_all-append (accepts a.ignore_case _) r.values vs ∙
    both _ _ (subst (λ (x : Rule). values_pass x r.values ≡ true) is p.2) pass in (
      (
        a,
        ap (arg_by_id c) id ∙ own,
        more,
        (λ w. let n = some w in
            omega (arith, length-append r.values vs)),
        p.4 ∙ ap reading_by is,
      ),
      tt,
    ))
    ((a, own, pass, some, refl), tt) all

-- one use of an argument
used_passed : (c : List Rule) (again : Bool) (a : Rule) (values : List Text) (rows : List Row) →
    IsSound c a → use_fault again a values rows ≡ []
    → Each (HasPassed c) rows → Each (HasPassed c) (used a values rows)
used_passed c again a values rows sound fault all =
    let two = none_in (range_kinds (unwrap_or_range a.range).start_inclusive (most_values a)
    (length values))
    (action_fault (action_of a) again a (values_or_missing a values) rows) fault in
    go (action_of a) sound.1 (some values two.0) two.1
  where
    wants : (least most : ℕ) → nat_lt 0 least ≡ true → range_kinds least most 0 ≡ [] → ⊥
    wants least most more h = let bad = rw more at h in cc

    some : (values : List Text) → range_kinds (unwrap_or_range a.range).start_inclusive
        (most_values a) (length values) ≡ []
        → wants_value a ≡ true → 0 < length (values_or_missing a values)
    some [] r w = absurd (wants _ _ w r)
    some (v ∷ vs) r w = omega arith

    set_passed : (vs : List Text) → set_fault again a vs rows ≡ [] → values_pass a vs ≡ true
    set_passed vs h = all_accepted _ _ vs (none_in (repeat_fault again a.id rows)
        (values_fault a vs) h).1

    go : (x : ArgAction) → takes_value x ≡ true →
        (wants_value a ≡ true → 0 < length (values_or_missing a values))
        → action_fault x again a (values_or_missing a values) rows ≡ []
        → Each (HasPassed c) (used_as x a.id (reading_by a) (values_or_missing a values) rows)
    go Set t s f =
        more_passed c a CommandLine (values_or_missing a values) (without a.id rows) sound.0
        (set_passed (values_or_missing a values) f) s
        (none_left (HasPassed c) a.id rows all)
    go Append t s f = more_passed c a CommandLine (values_or_missing a values) rows sound.0
        (all_accepted _ _ (values_or_missing a values) f) s all
    go SetTrue t s f =
        more_passed c a CommandLine (values_or_missing a values) (without a.id rows) sound.0
        (set_passed (values_or_missing a values) f) s
        (none_left (HasPassed c) a.id rows all)
    go SetFalse t s f = cc
    go Count t s f = cc
    go Help t s f = all
    go HelpShort t s f = all
    go HelpLong t s f = all
    go Version t s f = all

-- ---- the walk: what clap takes, step by step, leaves rows whose values passed

settled_passed : (c : List Rule) (again : Bool) (h : Held) → Each (IsSound c) c →
    settle_fault c again h ≡ [] → Each (HasPassed c) h.rows
    → Each (HasPassed c) (settled c h).rows
settled_passed c again h sound fault all = go h.pending fault
  where
    use_one : (o : Option Rule) → ((a : Rule) → o ≡ Some a → IsSound c a) → (values : List Text)
        → option_map_or (λ a. use_fault again a values h.rows) o [] ≡ [] →
        Each (HasPassed c) (used_by_id o values h.rows)
    use_one None s values f = all
    use_one (Some a) s values f = used_passed c again a values h.rows (s a refl) f all

    go : (p : Option (Text × List Text)) → option_map_or
        (λ p. option_map_or (λ a. use_fault again a p.1 h.rows) (arg_by_id c p.0) []) p [] ≡ []
        → Each (HasPassed c) (settled_rows c p h.rows)
    go None f = all
    go (Some p) f = use_one (arg_by_id c p.0) (λ a e. found_sound _ (IsSound c) c a sound e) p.1 f

reacted_passed : (c : List Rule) (again : Bool) (a : Rule) (values : List Text) (h : Held) →
    Each (IsSound c) c → IsSound c a
    → react_fault c again a values h ≡ [] → Each (HasPassed c) h.rows →
    Each (HasPassed c) (reacted c a values h).rows
reacted_passed c again a values h sound one fault all =
    let two = none_in (settle_fault c again h) (use_fault again a values (settled c h).rows) fault
    in
    used_passed c again a values (settled c h).rows one two.1
    (settled_passed c again h sound two.0 all)

option_passed : (c : List Rule) (again : Bool) (a : Rule) (v : Option Text) (h : Held) →
    Each (IsSound c) c → IsSound c a
    → option_fault c again a v h ≡ [] → Each (HasPassed c) h.rows →
    Each (HasPassed c) (option_met c a v h).0.rows
option_passed c again a (Some v) h sound one fault all =
    reacted_passed c again a (v ∷ []) h sound one fault all
option_passed c again a None h sound one fault all = settled_passed c again h sound fault all

long_passed : (c : List Rule) (again : Bool) (found : Option Rule) (v : Option Text) (h : Held) →
    Each (IsSound c) c
    → ((a : Rule) → found ≡ Some a → IsSound c a)
    → long_fault c again found v h ≡ [] → Each (HasPassed c) h.rows →
    Each (HasPassed c) (long_met c found v h).0.rows
long_passed c again None v h sound one fault all = all
long_passed c again (Some a) v h sound one fault all = go (takes_values a) v fault
  where
    go : (b : Bool) (v : Option Text)
        → (if b then option_fault c again a v h else
        (if is_some v then TooManyValues ∷ [] else react_fault c again a [] h)) ≡ []
        → Each (HasPassed c) (if b then option_met c a v h else flag_met c a v h).0.rows
    go true v f = option_passed c again a v h sound (one a refl) f all
    go false (Some v) f = all
    go false None f = reacted_passed c again a [] h sound (one a refl) f all

short_passed : (c : List Rule) (again : Bool) (found : Option Rule) (rest : Text) (h : Held)
    (then_do : Held → Held × Outcome) (then_fault : Held → Kinds)
    → Each (IsSound c) c → ((a : Rule) → found ≡ Some a → IsSound c a)
    → ((g : Held) → then_fault g ≡ [] → Each (HasPassed c) g.rows →
    Each (HasPassed c) (then_do g).0.rows)
    → short_fault c again found rest h then_fault ≡ [] → Each (HasPassed c) h.rows →
    Each (HasPassed c) (short_met c found rest h then_do).0.rows
short_passed c again None rest h then_do then_fault sound one step fault all = all
short_passed c again (Some a) rest h then_do then_fault sound one step fault all =
    go (takes_values a) fault
  where
    go : (b : Bool) → (if b then option_fault c again a (attached_value rest) h else or_else
        (react_fault c again a [] h) (then_fault (reacted c a [] h))) ≡ []
        → Each (HasPassed c) (if b then option_met c a (attached_value rest) h else then_do
        (reacted c a [] h)).0.rows
    go true f = option_passed c again a (attached_value rest) h sound (one a refl) f all
    go false f =
        let two = none_in (react_fault c again a [] h) (then_fault (reacted c a [] h)) f in
        step (reacted c a [] h) two.1 (reacted_passed c again a [] h sound (one a refl) two.0 all)

bundle_passed : (c : List Rule) (again : Bool) (k : ℕ) (flags : Text) (skip : ℕ) (so_far : Outcome)
    (h : Held) → Each (IsSound c) c
    → flags_fault c again k flags skip h ≡ [] → Each (HasPassed c) h.rows →
    Each (HasPassed c) (bundle_met c k flags skip so_far h).0.rows
unfolding flags_fault bundle_met
bundle_passed c again zero flags skip so_far h sound fault all = all
bundle_passed c again (suc k) flags skip so_far h sound fault all =
    go (λ rest left come g none have. bundle_passed c again k rest left come g sound none have)
    (slice_get (chars flags) 0) skip fault
  where
    go : ((rest : Text) (left : ℕ) (come : Outcome) (g : Held) →
        flags_fault c again k rest left g ≡ [] → Each (HasPassed c) g.rows
        → Each (HasPassed c) (bundle_met c k rest left come g).0.rows)
        → (o : Option ℕ) (skip : ℕ) → bundle_step_fault c again o flags skip h
        (flags_fault c again k) ≡ []
        → Each (HasPassed c) (bundle_step c o flags skip so_far h (bundle_met c k)).0.rows
    go below None skip f = all
    go below (Some x) zero f =
        let rest = drop (length (encode_utf8 x)) flags in
        short_passed c again (arg_by_short c x) rest h (bundle_met c k rest 0 done)
        (flags_fault c again k rest 0) sound
        (λ a e. found_sound _ (IsSound c) c a sound e) (below rest 0 done) f all
    go below (Some x) (suc skip) f = below (drop (length (encode_utf8 x)) flags) skip so_far h f all

plain_passed : (c : List Rule) (waiting : Waiting) (word : Text) (h : Held) →
    Each (HasPassed c) h.rows → Each (HasPassed c) (plain_word c waiting word h).0.rows
plain_passed c idle word h all = all
plain_passed c positional word h all = all
plain_passed c (option id) word h all = go (arg_by_id c id)
  where
    go : (o : Option Rule) → Each (HasPassed c) (option_word o id word h).0.rows
    go None = all
    go (Some a) = all

flag_passed : (c : List Rule) (waiting : Waiting) (word : Text) (h : Held) (o : Outcome) →
    Each (HasPassed c) h.rows
    → Each (HasPassed c) (after_flag c waiting word h o).0.rows
flag_passed c waiting word h done all = all
flag_passed c waiting word h (waits id) all = all
flag_passed c waiting word h plain all = plain_passed c waiting word h all
flag_passed c waiting word h refused all = plain_passed c waiting word h all

word_passed : (s : Shape) (names : Names) (is_trailing : Bool) (waiting : Waiting) (position : ℕ)
    (word : Text) (h : Held) → Each (IsSound s.rules) s.rules
    → word_fault s names is_trailing waiting word h ≡ [] → Each (HasPassed s.rules) h.rows
    → Each (HasPassed s.rules) (word_met s.rules names is_trailing waiting position word h).0.rows
word_passed s names true waiting position word h sound fault all = all
word_passed s names false waiting position word h sound fault all =
    go (subcommand_met names waiting word) fault
  where
    short_one : (o : Option Text) → option_map_or
        (λ flags. bundle_fault s.rules s.args_override_self flags h) o [] ≡ []
        → Each (HasPassed s.rules) (short_or_plain s.rules waiting word o h).0.rows
    short_one None f = plain_passed s.rules waiting word h all
    short_one (Some flags) f =
        flag_passed s.rules waiting word (bundle s.rules flags h).0 (bundle s.rules flags h).1
        (bundle_passed s.rules s.args_override_self (length flags) flags h.skip plain
        (record h { skip = 0 }) sound f all)

    long_one : (o : Option (Text × Option Text)) →
        flag_word_fault s.rules s.args_override_self o word h ≡ []
        → Each (HasPassed s.rules) (long_or_other s.rules waiting word o h).0.rows
    long_one None f = short_one (short_of word) f
    long_one (Some p) f =
        flag_passed s.rules waiting word (long_met s.rules (arg_by_long s.rules p.0) p.1 h).0
        (long_met s.rules (arg_by_long s.rules p.0) p.1 h).1
        (long_passed s.rules s.args_override_self (arg_by_long s.rules p.0) p.1 h sound
        (λ a e. found_sound _ (IsSound s.rules) s.rules a sound e) f all)

    other : (b : Bool) → (if b then [] else flag_word_fault s.rules s.args_override_self
        (long_of word) word h) ≡ []
        → Each (HasPassed s.rules) (if b then (h, trailing position) else long_or_other s.rules
        waiting word (long_of word) h).0.rows
    other true f = all
    other false f = long_one (long_of word) f

    go : (o : Option Text) → other_fault s o word h ≡ [] →
        Each (HasPassed s.rules) (subcommand_or_other s.rules o waiting position word h).0.rows
    go (Some name) f = all
    go None f = other (bytes_eq word (45 ∷ 45 ∷ [])) f

step_passed : (s : Shape) (word : Text) (w : Walk) (h : Held) (step : Step) →
    Each (IsSound s.rules) s.rules
    → step_fault s w.position h step ≡ [] → Each (HasPassed s.rules) h.rows →
    Each (HasPassed s.rules) (after_step s.rules word w h step).held.rows
step_passed s word w h (next waiting) sound fault all = all
step_passed s word w h (trailing position) sound fault all = all
step_passed s word w h (subcommand name) sound fault all = all
step_passed s word w h value sound fault all = go (arg_by_index s.rules w.position) fault
  where
    held : (a : Rule) (b : Bool) → (if b then [] else settle_fault s.rules s.args_override_self h) ≡
        []
        → Each (HasPassed s.rules) (if b then h else settled s.rules h).rows
    held a true f = all
    held a false f = settled_passed s.rules s.args_override_self h sound f all

    go : (o : Option Rule) → option_map_or (λ a. positional_fault s.rules s.args_override_self a h)
        o (stray_fault s) ≡ []
        → Each (HasPassed s.rules) (to_positional s.rules o word w h).held.rows
    go None f = all
    go (Some a) f = held a (is_pending a h.pending && takes_several a) f

walked_passed : (s : Shape) (names : Names) (w : Walk) (word : Text) →
    Each (IsSound s.rules) s.rules
    → turn_fault s names w word ≡ [] → Each (HasPassed s.rules) w.held.rows →
    Each (HasPassed s.rules) (walked s.rules names w word).held.rows
unfolding walked
walked_passed s names w word sound fault all = go w.stopped fault
  where
    go : (o : Option (Text × List Text))
        → (if is_some o then [] else or_else (word_fault s names w.is_trailing w.waiting word
        w.held)
        (step_fault s w.position (word_met s.rules names w.is_trailing w.waiting w.position word
        w.held).0
        (word_met s.rules names w.is_trailing w.waiting w.position word w.held).1)) ≡ []
        → Each (HasPassed s.rules) (walked_from s.rules names o w word).held.rows
    go (Some p) f = all
    go None f =
        let two = none_in (word_fault s names w.is_trailing w.waiting word w.held) _ f in
        step_passed s word w _ _ sound two.1 (word_passed s names w.is_trailing w.waiting w.position
        word w.held sound two.0 all)

walk_passed : (s : Shape) (names : Names) (w : Walk) (words : List Text) →
    Each (IsSound s.rules) s.rules
    → walk_fault s names w words ≡ [] → Each (HasPassed s.rules) w.held.rows →
    Each (HasPassed s.rules) (fold (walked s.rules names) w words).held.rows
unfolding walk_fault
walk_passed s names w [] sound fault all = all
walk_passed s names w (word ∷ rest) sound fault all =
    let two = none_in (turn_fault s names w word)
    (walk_fault s names (walked s.rules names w word) rest) fault in
    walk_passed s names (walked s.rules names w word) rest sound two.1
    (walked_passed s names w word sound two.0 all)

-- ---- defaults

default_passed : (c : List Rule) (a : Rule) (rows : List Row) → IsSound c a →
    default_fault rows a ≡ [] → Each (HasPassed c) rows
    → Each (HasPassed c) (with_default rows a)
default_passed c a rows sound fault all = go (has_row a.id rows) a.defaults refl fault
  where
    go : (b : Bool) (values : List Text) → values ≡ a.defaults →
        (if b || is_empty values then [] else given_default_fault a values) ≡ []
        → Each (HasPassed c) (if b then rows else default_rows a.id (reading_by a) values rows)
    go true values e f = all
    go false [] e f = all
    go false (v ∷ vs) e f =
        let some : is_empty (v ∷ vs) ≡ false = ne_eqb _ _ (λ z. omega (arith, z)) in
        let given : or_else (request_kinds (action_of a)) (values_fault a (v ∷ vs)) ≡ [] =
        rw some at f in
        more_passed c a DefaultValue (v ∷ vs) rows sound.0
        (all_accepted _ _ (v ∷ vs) (none_in (request_kinds (action_of a)) (values_fault a (v ∷ vs))
        given).1) (λ w. omega arith) all

defaults_passed : (c xs : List Rule) (rows : List Row) → Each (IsSound c) xs →
    defaults_fault rows xs ≡ [] → Each (HasPassed c) rows
    → Each (HasPassed c) (fold with_default rows xs)
unfolding defaults_fault
defaults_passed c [] rows sound fault all = all
defaults_passed c (a ∷ xs) rows sound fault all =
    let two = none_in (default_fault rows a) (defaults_fault (with_default rows a) xs) fault in
    defaults_passed c xs (with_default rows a) sound.1 two.1
    (default_passed c a rows sound.0 two.0 all)

-- each row of a level that clap takes has values that passed
pub level_passed : (s : Shape) (names : Names) (words : List Text) (has : Bool) (below : Kinds) →
    Each (IsSound s.rules) s.rules
    → level_fault s names nothing_held words has below ≡ [] →
    Each (HasPassed s.rules) (rows_after s.rules names words)
level_passed s names words has below sound fault =
    let end = (walk s.rules names nothing_held words).held in
    let one = none_in (walk_fault s names (walk_from nothing_held) words) _ fault in
    let two = none_in below _ one.1 in
    let three = none_in (settle_fault s.rules s.args_override_self end) _ two.1 in
    let four = none_in (defaults_fault (settled s.rules end).rows s.rules) _ three.1 in
    let held = walk_passed s names (walk_from nothing_held) words sound one.0 tt in
    defaults_passed s.rules s.rules (settled s.rules end).rows sound four.0
    (settled_passed s.rules s.args_override_self end sound three.0 held)

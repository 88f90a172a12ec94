-- Where clap takes the words, the walk over them did not stop at the subcommand `help`, which clap
-- adds.
use Rattle.std.proofs.Common.{◌≡◌, ℕ, Bool, List, [], ◌∷◌, Option, Some, None, true, false, refl}
use Rattle.std.proofs.Common.{ap, subst, codes}
use Rattle.std.specs.Prelude.{◌&&◌, ◌++◌, if◌then◌else◌, is_some, fold, not}
use Rattle.std.specs.Str.{bytes_eq}
use Rattle.clap.specs.Faults.{level_fault, other_fault, step_fault, turn_fault, walk_fault}
use Rattle.clap.specs.Faults.{word_fault}
use Rattle.clap.specs.Kinds.{Kinds, or_else}
use Rattle.clap.specs.Lexer.{long_of, short_of}
use Rattle.clap.specs.Simple.{Shape}
use Rattle.clap.specs.Walk.{Held, Names, Outcome, Rule, Step, Text, Waiting, Walk, after_flag}
use Rattle.clap.specs.Walk.{after_step, arg_by_index, arg_by_long, bundle, done, idle, long_met}
use Rattle.clap.specs.Walk.{long_or_other, next, nothing_held, option, plain, plain_word}
use Rattle.clap.specs.Walk.{positional, refused, short_or_plain, stop_after, subcommand}
use Rattle.clap.specs.Walk.{subcommand_met, subcommand_or_other, to_positional, trailing, value}
use Rattle.clap.specs.Walk.{waits, walk_from, walked, walked_from, word_met}
use Rattle.prolly_line.proofs.Passes.{none_in}

-- the subcommand that a step enters
abbrev entered_by : Step → Option Text
entered_by (subcommand name) = Some name
entered_by _ = None

-- the walk did not stop at `help`
abbrev IsPastHelp : Option (Text × List Text) → Type 0
IsPastHelp stop = (p : Text × List Text) → stop ≡ Some p → bytes_eq p.0 (codes "help") ≡ false

-- a word that is no flag, and one that is, enter no subcommand
plain_enters_none : (c : List Rule) (waiting : Waiting) (word : Text) (h : Held) →
    entered_by (plain_word c waiting word h).1 ≡ None
plain_enters_none c idle word h = refl
plain_enters_none c positional word h = refl
plain_enters_none c (option id) word h = refl

flag_enters_none : (c : List Rule) (waiting : Waiting) (word : Text) (h : Held) (o : Outcome) →
    entered_by (after_flag c waiting word h o).1 ≡ None
flag_enters_none c waiting word h done = refl
flag_enters_none c waiting word h (waits id) = refl
flag_enters_none c waiting word h plain = plain_enters_none c waiting word h
flag_enters_none c waiting word h refused = plain_enters_none c waiting word h

other_enters_none : (c : List Rule) (waiting : Waiting) (word : Text)
    (o : Option (Text × Option Text)) (h : Held)
    → entered_by (long_or_other c waiting word o h).1 ≡ None
other_enters_none c waiting word (Some p) h =
    flag_enters_none c waiting word (long_met c (arg_by_long c p.0) p.1 h).0
    (long_met c (arg_by_long c p.0) p.1 h).1
other_enters_none c waiting word None h = go (short_of word)
  where
    go : (o : Option Text) → entered_by (short_or_plain c waiting word o h).1 ≡ None
    go (Some flags) = flag_enters_none c waiting word (bundle c flags h).0 (bundle c flags h).1
    go None = plain_enters_none c waiting word h

-- a word that clap takes enters no `help`
word_past_help : (s : Shape) (names : Names) (is_trailing : Bool) (waiting : Waiting) (position : ℕ)
    (word : Text) (h : Held) (name : Text)
    → s.disable_help_subcommand ≡ false → word_fault s names is_trailing waiting word h ≡ []
    → entered_by (word_met s.rules names is_trailing waiting position word h).1 ≡ Some name →
    bytes_eq name (codes "help") ≡ false
word_past_help s names true waiting position word h name enabled fault enters = cc
word_past_help s names false waiting position word h name enabled fault enters =
    go (subcommand_met names waiting word) fault enters
  where
    refuses : (b d : Bool) (ks : Kinds) → d ≡ false → (ks ≡ [] → ⊥) →
        (if b && not d then ks else []) ≡ [] → b ≡ false
    refuses true true ks off some e = cc
    refuses true false ks off some e = absurd (some e)
    refuses false d ks off some e = refl

    other : (b : Bool) → entered_by (if b then (h, trailing position) else long_or_other s.rules
        waiting word (long_of word) h).1 ≡ Some name
        → bytes_eq name (codes "help") ≡ false
    other true e = cc
    other false e = let none = other_enters_none s.rules waiting word (long_of word) h in cc

    go : (o : Option Text) → other_fault s o word h ≡ [] →
        entered_by (subcommand_or_other s.rules o waiting position word h).1 ≡ Some name
        → bytes_eq name (codes "help") ≡ false
    go (Some met) f e =
        let same : met ≡ name = cc in
        subst (λ (t : Text). bytes_eq t (codes "help") ≡ false) same
        (refuses (bytes_eq met (codes "help")) s.disable_help_subcommand _ enabled (λ z. cc) f)
    go None f e = other (bytes_eq word (45 ∷ 45 ∷ [])) e

-- a step stops only at the subcommand that it enters
step_stops : (c : List Rule) (word : Text) (w : Walk) (h : Held) (step : Step)
    (p : Text × List Text) → w.stopped ≡ None
    → (after_step c word w h step).stopped ≡ Some p → entered_by step ≡ Some p.0
step_stops c word w h (next waiting) p going e = cc
step_stops c word w h (trailing position) p going e = cc
step_stops c word w h (subcommand name) p going e =
    let same : (name, []) ≡ p = cc in
    ap (λ (q : Text × List Text). Some q.0) same
step_stops c word w h value p going e = go (arg_by_index c w.position) e
  where
    go : (o : Option Rule) → (to_positional c o word w h).stopped ≡ Some p → None ≡ Some p.0
    go None e = cc
    go (Some a) e = cc

-- the walk stays past `help` by one word, and by all
walked_past_help : (s : Shape) (names : Names) (w : Walk) (word : Text) →
    s.disable_help_subcommand ≡ false → turn_fault s names w word ≡ []
    → IsPastHelp w.stopped → IsPastHelp (walked s.rules names w word).stopped
unfolding walked
walked_past_help s names w word enabled fault past = go w.stopped refl fault
  where
    met : Held × Step
    met = word_met s.rules names w.is_trailing w.waiting w.position word w.held

    go : (o : Option (Text × List Text)) → w.stopped ≡ o
        → (if is_some o then [] else or_else (word_fault s names w.is_trailing w.waiting word
        w.held) (step_fault s w.position met.0 met.1)) ≡ []
        → IsPastHelp (walked_from s.rules names o w word).stopped
    go (Some q) at f p e =
        let same : (q.0, q.1 ++ word ∷ []) ≡ p = cc in
        subst (λ (t : Text × List Text). bytes_eq t.0 (codes "help") ≡ false) same (past q at)
    go None at f p e =
        let two = none_in (word_fault s names w.is_trailing w.waiting word w.held) _ f in
        word_past_help s names w.is_trailing w.waiting w.position word w.held p.0 enabled two.0
        (step_stops s.rules word w met.0 met.1 p at e)

walk_past_help : (s : Shape) (names : Names) (w : Walk) (words : List Text) →
    s.disable_help_subcommand ≡ false → walk_fault s names w words ≡ []
    → IsPastHelp w.stopped → IsPastHelp (fold (walked s.rules names) w words).stopped
unfolding walk_fault
walk_past_help s names w [] enabled fault past = past
walk_past_help s names w (word ∷ rest) enabled fault past =
    let two = none_in (turn_fault s names w word)
    (walk_fault s names (walked s.rules names w word) rest) fault in
    walk_past_help s names (walked s.rules names w word) rest enabled two.1
    (walked_past_help s names w word enabled two.0 past)

-- a level that clap takes did not stop at `help`
pub level_past_help : (s : Shape) (names : Names) (words : List Text) (has : Bool) (below : Kinds) →
    s.disable_help_subcommand ≡ false
    → level_fault s names nothing_held words has below ≡ [] →
    IsPastHelp (stop_after s.rules names words)
level_past_help s names words has below enabled fault =
    let one = none_in (walk_fault s names (walk_from nothing_held) words) _ fault in
    walk_past_help s names (walk_from nothing_held) words enabled one.0 (λ p e. cc)

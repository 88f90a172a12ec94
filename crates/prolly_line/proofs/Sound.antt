-- Where no two arguments of a level have one id, each is the one of its id.
use Rattle.std.proofs.Common.{◌≡◌, ◌∙◌, Bool, List, [], ◌∷◌, Some, true, false, refl, sym, ap, cond}
use Rattle.std.specs.Prelude.{◌&&◌, not}
use Rattle.std.specs.List.{list_any}
use Rattle.std.specs.Str.{bytes_eq}
use Rattle.std.proofs.lemmas.Slice.Eq.{bytes_eq-Decides}
use Rattle.clap.specs.Walk.{Rule, Text, action_of, arg_by_id}
use Rattle.prolly_line.proofs.Passes.{Each, IsSound, takes_value}
use Rattle.prolly_line.proofs.Presence.{or_true, same_text}

-- one of the arguments has this id
abbrev has_id : Text → List Rule → Bool
has_id id rules = list_any (λ a. bytes_eq a.id id) rules

-- no id stands twice, and each argument has values or asks for help
abbrev pub are_sound : List Rule → Bool
are_sound [] = true
are_sound (a ∷ rules) = not (has_id a.id rules) && (takes_value (action_of a) && are_sound rules)

-- what such a test says of the first argument, and of the others
parts : (has takes rest : Bool) → (not has && (takes && rest)) ≡ true →
    (has ≡ false) × (takes ≡ true) × (rest ≡ true)
parts false true true h = (refl, refl, refl)
parts false true false h = cc
parts false false rest h = cc
parts true takes rest h = cc

-- the same for the last arguments of a level, where each of their ids leads to one of them
sound_from : (c rules : List Rule)
    → ((id : Text) → has_id id rules ≡ true → arg_by_id c id ≡ arg_by_id rules id)
    → are_sound rules ≡ true → Each (IsSound c) rules
sound_from c [] same test = tt
sound_from c (a ∷ rules) same test =
    let tested = parts _ _ _ test in
    ((own, tested.1), sound_from c rules (below tested.0) tested.2)
  where
    own : arg_by_id c a.id ≡ Some a
    own = same a.id (rw (same_text a.id) refl) ∙ rw (same_text a.id) refl

    passed : (id : Text) → has_id id rules ≡ true → has_id a.id rules ≡ false
        → (b : Bool) → bytes_eq a.id id ≡ b
        → cond b (Some a) (arg_by_id rules id) ≡ arg_by_id rules id
    passed id has new false e = refl
    passed id has new true e =
        let is : a.id ≡ id = (bytes_eq-Decides a.id id).0 e in
        let bad : true ≡ false = sym has ∙ (ap (λ t. has_id t rules) (sym is) ∙ new) in
        cc

    below : has_id a.id rules ≡ false → (id : Text) → has_id id rules ≡ true
        → arg_by_id c id ≡ arg_by_id rules id
    below new id has =
        same id (or_true (bytes_eq a.id id) _ has) ∙ passed id has new (bytes_eq a.id id) refl

-- each argument of a level that passes the test is the one of its id
pub all_sound : (c : List Rule) → are_sound c ≡ true → Each (IsSound c) c
all_sound c test = sound_from c c (λ id has. refl) test

-- An accepted subcommand is one of the fifteen.
use Rattle.std.proofs.Common.{◌≡◌, ◌∙◌, List, false, true, refl, sym, subst, codes}
use Rattle.std.specs.Str.{bytes_eq}
use Rattle.std.proofs.lemmas.Slice.Eq.{bytes_eq-Decides}
use Rattle.clap.specs.Simple.{built, label_of, names_of}
use Rattle.clap.specs.Walk.{Row, Text, answers_to}
use Rattle.clap.proofs.OnLiterals.{clap_on_literals}
use Rattle.prolly_line.proofs.Levels.{accepted_level, found_name, no_aliases}
use Rattle.prolly_line.proofs.Passes.{Each, found_sound}
use Rattle.prolly_line.proofs.Stops.{level_past_help}
use Rattle.prolly_line.specs.AcceptedWords.{IsAccepted}
use Rattle.prolly_line.specs.Line.{line_faults, program_line}

-- the name is that of no subcommand
pub record IsStrange (name : Text) : Type 0 where
  pub pack : name ≡ codes "pack" → ⊥
  pub scratch : name ≡ codes "scratch" → ⊥
  pub build : name ≡ codes "build" → ⊥
  pub apply : name ≡ codes "apply" → ⊥
  pub explain : name ≡ codes "explain" → ⊥
  pub check : name ≡ codes "check" → ⊥
  pub root : name ≡ codes "root" → ⊥
  pub stat : name ≡ codes "stat" → ⊥
  pub get : name ≡ codes "get" → ⊥
  pub scan : name ≡ codes "scan" → ⊥
  pub nth : name ≡ codes "nth" → ⊥
  pub dump : name ≡ codes "dump" → ⊥
  pub diff : name ≡ codes "diff" → ⊥
  pub prove : name ≡ codes "prove" → ⊥
  pub verify : name ≡ codes "verify" → ⊥
  pub help : name ≡ codes "help" → ⊥

-- no subcommand of the line has such a name
none_strange : Each (λ s. IsStrange s.name → ⊥) (built program_line).subs
unfolding clap_on_literals
none_strange = (
  (λ strange. strange.pack refl),
  (
    (λ strange. strange.scratch refl),
    (
      (λ strange. strange.build refl),
      (
        (λ strange. strange.apply refl),
        (
          (λ strange. strange.explain refl),
          (
            (λ strange. strange.check refl),
            (
              (λ strange. strange.root refl),
              (
                (λ strange. strange.stat refl),
                (
                  (λ strange. strange.get refl),
                  (
                    (λ strange. strange.scan refl),
                    (
                      (λ strange. strange.nth refl),
                      (
                        (λ strange. strange.dump refl),
                        (
                          (λ strange. strange.diff refl),
                          (
                            (λ strange. strange.prove refl),
                            (
                              (λ strange. strange.verify refl),
                              ((λ strange. strange.help refl), tt),
                            ),
                          ),
                        ),
                      ),
                    ),
                  ),
                ),
              ),
            ),
          ),
        ),
      ),
    ),
  ),
)

-- clap answers `help` itself, so no words with it are accepted
not_help : (given : Text × List Row) → IsAccepted given → given.0 ≡ codes "help" → ⊥
unfolding line_faults clap_on_literals
not_help given accepted is =
    let level = accepted_level accepted.0 given accepted.1 accepted.2 in
    let past = level_past_help (built program_line).top (names_of (built program_line)) accepted.0 _
    _ refl accepted.1 level.3.0 level.3.1 in
    let same : bytes_eq level.3.0.0 (codes "help") ≡ true =
    (bytes_eq-Decides level.3.0.0 (codes "help")).1 (level.3.2 ∙ is) in
    let bad : true ≡ false = sym same ∙ past in
    cc

-- and so an accepted subcommand has the name of one of the fifteen
pub not_strange : (name : Text) (rows : List Row) → IsAccepted (name, rows)
    → (name ≡ codes "pack" → ⊥) → (name ≡ codes "scratch" → ⊥) → (name ≡ codes "build" → ⊥) →
    (name ≡ codes "apply" → ⊥) → (name ≡ codes "explain" → ⊥) → (name ≡ codes "check" → ⊥) → (name ≡ codes "root" → ⊥) →
    (name ≡ codes "stat" → ⊥)
    → (name ≡ codes "get" → ⊥) → (name ≡ codes "scan" → ⊥) → (name ≡ codes "nth" → ⊥)
    → (name ≡ codes "dump" → ⊥) → (name ≡ codes "diff" → ⊥) → (name ≡ codes "prove" → ⊥) →
    (name ≡ codes "verify" → ⊥) → ⊥
not_strange name rows accepted pack scratch build apply explain check root stat get scan nth dump
    diff prove verify =
    let level = accepted_level accepted.0 (name, rows) accepted.1 accepted.2 in
    let is : level.0.name ≡ name = found_name name (built program_line).subs level.0 no_aliases
    level.1 in
    found_sound (λ s. answers_to name (label_of s)) (λ s. IsStrange s.name →
    ⊥) (built program_line).subs level.0 none_strange level.1
    (subst IsStrange (sym is)
    (record {
      pack = pack;
      scratch = scratch;
      build = build;
      apply = apply;
      explain = explain;
      check = check;
      root = root;
      stat = stat;
      get = get;
      scan = scan;
      nth = nth;
      dump = dump;
      diff = diff;
      prove = prove;
      verify = verify;
      help = not_help (name, rows) accepted;
    }))

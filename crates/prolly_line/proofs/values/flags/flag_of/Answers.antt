use Rattle.std.proofs.Common.{◌≡◌, ◌∙◌, None, Some, ap, codes, sym}
use Rattle.std.proofs.lemmas.Bool.{false≢true}
use Rattle.std.proofs.lemmas.Slice.Eq.{bytes_eq-Decides}
use Rattle.clap.specs.Words.{first_of, found_of}
use Rattle.clap.proofs.WalkLemmas.{first_value-rows}
use Rattle.prolly_line.specs.AcceptedWords.{rows_in}
use Rattle.prolly_line.proofs.values.flags.flag_of.Goals as goal

pub returns-in-Some : goal.returns-in-Some
returns-in-Some c =
    let got : first_of c.args.name.now (rows_in c.args.given.now) ≡ Some c.in-Some.value.now =
    sym (first_value-rows (found_of c.args.given.now) c.args.name.now) ∙ sym c.in-Some.ensures in
    let same = bytes_eq-Decides c.in-Some.value.now (codes "true") in (
      λ on. got ∙ ap Some (same.0 (sym c.eq.ensures ∙ on)),
      λ given. let both : Some c.in-Some.value.now ≡ Some (codes "true") = sym got ∙ given in
          c.eq.ensures ∙ same.1 cc,
    )

pub returns-in-None : goal.returns-in-None
returns-in-None c =
    let got : first_of c.args.name.now (rows_in c.args.given.now) ≡ None =
    sym (first_value-rows (found_of c.args.given.now) c.args.name.now) ∙ sym c.in-None.ensures in (
      λ on. absurd (false≢true on),
      λ given. let none : None ≡ Some (codes "true") = sym got ∙ given in cc,
    )

use Rattle.std.proofs.Common.{◌≡◌, ◌∙◌, None, Some, arith, codes, subst, sym}
use Rattle.clap.specs.Words.{first_of, found_of}
use Rattle.clap.proofs.WalkLemmas.{first_value-rows}
use Rattle.prolly_line.specs.AcceptedWords.{rows_in}
use Rattle.prolly_line.specs.GivenCommand.{MayGiveRoot}
use Rattle.prolly_line.proofs.values.roots.trust_of.Goals.{in-None, in-Some+in_ok-root_of-in-Some}
use Rattle.prolly_line.proofs.values.roots.trust_of.Goals as goal

pub root_of-requires : goal.root_of-requires
root_of-requires c =
    let got : first_of (codes "root") (rows_in c.args.given.now) ≡ Some c.in-Some.field-0.now =
    sym (first_value-rows (found_of c.args.given.now) (codes "root")) ∙ sym c.in-Some.ensures in
    (c.in-Some.field-0.now, got)

pub returns-clause-trust : goal.returns-clause-trust
returns-clause-trust c = (
  elim c.match-get_str.branch [
    | in-None w ↦
        let got : first_of (codes "root") (rows_in c.args.given.now) ≡ None =
        sym (first_value-rows (found_of c.args.given.now) (codes "root")) ∙ sym w.in-None.ensures
        in
        subst (MayGiveRoot (rows_in c.args.given.now)) (sym w.root-is) got
    | in-Some+in_ok-root_of-in-Some w ↦
        subst (MayGiveRoot (rows_in c.args.given.now)) (sym w.root-is)
        w.in_ok-root_of-in-Some.ensures.root
  ],
  c.byte_of.ensures 1 2 (omega arith) c.requires,
)

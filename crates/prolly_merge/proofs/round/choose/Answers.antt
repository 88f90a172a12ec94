use Rattle.std.proofs.lemmas.Grind.{common_steps}
use Rattle.std.proofs.Common.{◌≡◌, ◌+◌, Some, length, take, refl, sym, ap, ◌∙◌, subst, rules, arith}
use Rattle.std.proofs.lemmas.Option.{slice_get_read}
use Rattle.prolly_link.specs.declared.message.End.TheVariants.{Fault}
use Rattle.prolly_merge.specs.declared.heads.Head.TheVariants.{Ended}
use Rattle.prolly_merge.specs.Choice.{IsLeast}
use Rattle.prolly_merge.proofs.Choices.{least_ended, first_fault}
use Rattle.prolly_merge.proofs.round.choose.Goals as goal
use Rattle.prolly_merge.proofs.round.choose.Goals.{in-Ready, in-Ended-Clean}

pub returns-in-Ended-Fault : goal.returns-in-Ended-Fault
returns-in-Ended-Fault c =
    let hs = c.args.heads.now in
    let fault : c.index-heads-i.result ≡ Ended (Fault c.in-Ended-Fault.fault) = search rules in
    first_fault hs c.loop-i.i c.loop-i.least c.in-Ended-Fault.fault c.loop-i.invariant
    (slice_get_read hs (length hs) c.loop-i.i c.index-heads-i.result refl c.loop-i-test.true
    c.index-heads-i.is ∙ ap Some fault)

pub loop-i-preserved : goal.loop-i-preserved
loop-i-preserved c =
    let hs = c.args.heads.now in
    let i = c.loop-i.i in
    let read = slice_get_read hs (length hs) i c.index-heads-i.result refl c.loop-i-test.true
    c.index-heads-i.is in
    elim c.match-head.branch [
      | in-Ready w ↦ subst (IsLeast (take (i + 1) hs)) (sym w.least-is) w.least_with.ensures
      | in-Ended-Clean w ↦ subst (IsLeast (take (i + 1) hs)) (sym w.least-is)
          (least_ended hs i c.index-heads-i.result c.loop-i.least read (search rules)
          c.loop-i.invariant)
    ]

pub returns-in-Some : goal.returns-in-Some
returns-in-Some c = grind (arith, common_steps) steps 2000000

pub returns-in-None : goal.returns-in-None
returns-in-None c = grind (arith, common_steps) steps 2000000

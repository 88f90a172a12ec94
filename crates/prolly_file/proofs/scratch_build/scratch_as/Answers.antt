use Rattle.std.proofs.lemmas.Grind.{common_steps}
use Rattle.std.proofs.Common.{◌∙◌, arith}
use Rattle.prolly_file.proofs.TreeChunks.{builds}
use Rattle.prolly_file.proofs.scratch_build.scratch_as.Goals as goal

pub returns : goal.returns
returns g c =
    let ok = builds (g.C.Cut.cut c.args.cut) c.args.version c.args.pairs.now c.args.max_levels
    c.first_fall.ensures.few c.in_ok-chunks.chunks.items _ _ c.args.out.now.items
    c.append_file.new.out.items
    c.root_of-root.result.0 c.in_default.ensures.none c.in_ok-chunks.ensures.low
    c.in_ok-chunks.ensures.ok
    c.bits.ensures c.deref-2.ensures.value c.in_ok-append_file.ensures.ok
    (λ before last e. c.root_of-root.ensures before last (c.deref.ensures.value ∙ e)) in
    record {
      ok = ok;
      err = tt;
      order = λ falls. absurd (falls c.in_default.ensures.none);
      unchanged = tt;
    }

pub root_of-root-requires : goal.root_of-root-requires
root_of-root-requires g c = grind (arith, common_steps) steps 2000000

-- Three subcommands more at each step.
use Rattle.prolly_line.proofs.line.program_line.Goals as goal

pub returns : goal.returns
returns c =
    let makers = c.with_three-line.ensures _ _ _ _ c.bare_line.ensures c.pack_line.ensures
    c.scratch_line.ensures c.build_line.ensures in
    let checks = c.with_three-line-2.ensures _ _ _ _ makers c.apply_line.ensures
    c.explain_line.ensures c.check_line.ensures in
    let reports = c.with_three-line-3.ensures _ _ _ _ checks c.root_line.ensures
    c.stat_line.ensures c.get_line.ensures in
    let look_ups = c.with_three-line-4.ensures _ _ _ _ reports c.scan_line.ensures
    c.nth_line.ensures c.dump_line.ensures in
    c.with_three.ensures _ _ _ _ look_ups c.diff_line.ensures c.prove_line.ensures
    c.verify_line.ensures

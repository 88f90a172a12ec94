use Rattle.prolly_c.proofs.shown.shown_index.Goals as goal

pub returns-in-Some-clause-ok : goal.returns-in-Some-clause-ok
returns-in-Some-clause-ok c = let p = c.in_ok-verified.ensures.ok in record {
  pairs = p.pairs;
  proof = p.proof;
  runs_are = c.in-Some.ensures.index c.args.version c.args.root.now.0 p.pairs p.proof;
  many = c.in-Some.ensures.count c.args.version c.args.root.now.0 p.pairs p.proof;
}

pub returns-in-None-clause-err : goal.returns-in-None-clause-err
returns-in-None-clause-err c = let p = c.in_ok-verified.ensures.ok in
    c.in-None.ensures.index c.args.version c.args.root.now.0 p.pairs p.proof

pub returns-in-None-clause-stays : goal.returns-in-None-clause-stays
returns-in-None-clause-stays c = let p = c.in_ok-verified.ensures.ok in
    absurd (c.in-None.ensures.index c.args.version c.args.root.now.0 p.pairs p.proof)

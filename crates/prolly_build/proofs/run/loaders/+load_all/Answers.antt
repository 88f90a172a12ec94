use Rattle.std.proofs.lemmas.Grind.{common_steps}
use Rattle.std.proofs.Common.{refl, length, ap, arith}
use Rattle.prolly_build.specs.RunResult.{IsUnsent}
use Rattle.prolly_build.proofs.FirstOnes.{all_first, all_rest}
use Rattle.prolly_build.proofs.RanSteps.{nothing_begun}
use Rattle.prolly_build.proofs.run.loaders.+load_all.Goals as goal

pub start-requires-clause-unsent : goal.start-requires-clause-unsent
start-requires-clause-unsent g t c κs within =
    all_first IsUnsent _ _ _ c.in-Some.ensures.items c.requires.unsent

pub load_all-wrote-requires-clause-unsent : goal.load_all-wrote-requires-clause-unsent
load_all-wrote-requires-clause-unsent g t c κs within =
    all_rest IsUnsent _ _ _ c.in-Some.ensures.items c.requires.unsent

pub returns-in_default-start-clause-hands_on
    : goal.returns-in_default-start-clause-hands_on
returns-in_default-start-clause-hands_on g t c =
    record { written = tt; refused = λ _. refl; begun = nothing_begun c.args.site.now.config _ }

pub returns-in_default-start-clause-loaded
    : goal.returns-in_default-start-clause-loaded
returns-in_default-start-clause-loaded g t c = tt

pub returns-in_default-clause-loaded : goal.returns-in_default-clause-loaded
returns-in_default-clause-loaded g t c = grind (arith, common_steps) steps 2000000

pub returns-in_default-clause-hands_on : goal.returns-in_default-clause-hands_on
returns-in_default-clause-hands_on g t c =
    record { written = c.write_chunks.ensures; refused = tt; begun = tt }

pub returns-in_default-start-clause-fewer
    : goal.returns-in_default-start-clause-fewer
returns-in_default-start-clause-fewer g t c =
    let popped = c.in-Some-pop_first.ensures in omega (arith, popped.len, popped.capacity)

pub overflow_add-file : goal.overflow_add-file
overflow_add-file g t c = omega (arith, c.requires.numbers, c.in-Some.ensures.len)

pub load_all-wrote-requires-clause-numbers : goal.load_all-wrote-requires-clause-numbers
load_all-wrote-requires-clause-numbers g t c κs within =
    omega (arith, c.requires.numbers, c.in-Some.ensures.len)

pub load_all-wrote-requires-clause-each : goal.load_all-wrote-requires-clause-each
load_all-wrote-requires-clause-each g t c κs within =
    omega (arith, c.requires.each, c.in-Some.ensures.len, c.in-Some-pop_first.ensures.len)

pub load_all-wrote-requires-clause-room : goal.load_all-wrote-requires-clause-room
load_all-wrote-requires-clause-room g t c κs within =
    (c.requires.room.0, omega (arith, c.requires.room.1, c.in-Some.ensures.len))

pub push_first-requires : goal.push_first-requires
push_first-requires g t c =
    let popped = c.in-Some-pop_first.ensures in
    omega (
      arith,
      c.load_all-wrote.ensures.fewer,
      popped.len,
      popped.capacity,
      c.args.sources.now.ok,
    )

pub push_first-requires-2 : goal.push_first-requires-2
push_first-requires-2 g t c =
    omega (
      arith,
      c.load_all-wrote.ensures.filled,
      c.requires.room.1,
      c.in-Some.ensures.len,
      c.args.closed.now.ok,
      ap length c.requires.room.0,
    )

pub returns-clause-hands_on : goal.returns-clause-hands_on
returns-clause-hands_on g t c = c.load_all-wrote.ensures.hands_on

pub returns-clause-fewer : goal.returns-clause-fewer
returns-clause-fewer g t c =
    let popped = c.in-Some-pop_first.ensures in
    let pushed = c.push_first.ensures in
    omega (
      arith,
      c.load_all-wrote.ensures.fewer,
      popped.len,
      popped.capacity,
      pushed.len,
      pushed.capacity,
    )

pub returns-clause-filled : goal.returns-clause-filled
returns-clause-filled g t c =
    let pushed = c.push_first-2.ensures in
    omega (
      arith,
      c.load_all-wrote.ensures.filled,
      c.in-Some.ensures.len,
      pushed.len,
      pushed.capacity,
    )

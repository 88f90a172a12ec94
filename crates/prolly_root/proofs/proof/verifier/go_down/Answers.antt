use Rattle.std.proofs.Common.{ap, length, refl, subst, sym, ◌+◌, ◌++◌, ◌==◌, ◌∙◌}
use Rattle.std.proofs.lemmas.Bool.{false≢true}
use Rattle.std.proofs.lemmas.Bool.Decides.{Decides-eqb}
use Rattle.std.proofs.lemmas.List.{nil_from_length}
use Rattle.prolly_tree.specs.LookUp.{find}
use Rattle.prolly_look_up.specs.Sought.{sought_of}
use Rattle.prolly_look_up.specs.Step.{IsStep}
use Rattle.prolly_root.specs.ProofFile.{IsProof, proof_start}
use Rattle.prolly_root.proofs.Passing.{ends_here, goes_on, has_more}
use Rattle.prolly_root.proofs.proof.verifier.go_down.Goals as goal

pub returns-then-is_empty-clause-ok : goal.returns-then-is_empty-clause-ok
returns-then-is_empty-clause-ok c =
    let key = c.args.key.now in
    let chunk = c.in_ok-chunk.chunk.now in
    let behind = c.in_ok-chunk.behind.now in
    let next = c.in_ok-chunk.ensures.ok in
    let due = c.in_ok-pairs.ensures in
    let step = subst (IsStep c.args.version (sought_of c.loop-chunk.due.sought) chunk) c.in-End.is
    due.step in
    subst (IsProof c.args.version c.args.root.now.0 key
    (proof_start c.args.version ++ c.args.chunks.now))
    (sym (c.value_in.ensures ∙ ap (λ ps. find ps key) step.1))
    (ends_here c.loop-chunk.invariant chunk behind next.0 next.1 due.named due.falls step.0
    (nil_from_length behind
    ((Decides-eqb _ 0).0 (sym c.is_empty.ensures ∙ c.if-is_empty.true))))

pub returns-else-is_empty-clause-err : goal.returns-else-is_empty-clause-err
returns-else-is_empty-clause-err c =
    let chunk = c.in_ok-chunk.chunk.now in
    let behind = c.in_ok-chunk.behind.now in
    let next = c.in_ok-chunk.ensures.ok in
    let due = c.in_ok-pairs.ensures in
    let step = subst (IsStep c.args.version (sought_of c.loop-chunk.due.sought) chunk) c.in-End.is
    due.step in
    has_more c.loop-chunk.invariant chunk behind next.0 next.1 due.named due.falls step.0
    (λ none. false≢true (sym c.if-is_empty.false ∙ c.is_empty.ensures ∙
    ap (λ xs. length xs == 0) none))

pub loop-chunk-preserved : goal.loop-chunk-preserved
loop-chunk-preserved c =
    let chunk = c.in_ok-chunk.chunk.now in
    let next = c.in_ok-chunk.ensures.ok in
    let due = c.in_ok-pairs.ensures in
    let step = subst (IsStep c.args.version (sought_of c.loop-chunk.due.sought) chunk) c.in-Below.is
    due.step in
    goes_on c.loop-chunk.invariant chunk c.in_ok-chunk.behind.now next.0 next.1 due.named due.falls
    c.in-Below.next (c.loop-chunk.number + 1) step.0 step.1 refl

use Rattle.std.proofs.Common.{◌==◌, ◌++◌, ◌∙◌, ap, arith, drop, length, sym}
use Rattle.std.specs.List.{flat_map}
use Rattle.std.proofs.lemmas.Bool.{false≢true}
use Rattle.std.proofs.lemmas.List.{drop_all}
use Rattle.prolly_look_up.specs.Content.{chunks_of}
use Rattle.prolly_look_up.specs.HeldPairs.{pairs_held}
use Rattle.prolly_look_up.specs.lemmas.EntryLists.{no_pairs}
use Rattle.prolly_check.proofs.look_up.leaves.Leaves.next.Goals.{then-loop-self-test+else-self-len}
use Rattle.prolly_check.proofs.look_up.leaves.Leaves.next.Goals.{else-loop-self-test}
use Rattle.prolly_check.proofs.look_up.leaves.Leaves.next.Goals as goal

pub returns-then-is_empty-clause-none : goal.returns-then-is_empty-clause-none
returns-then-is_empty-clause-none c =
    let number = c.loop-self.self-inside.number in
    let cs = chunks_of c.loop-self.self-inside.file in
    elim c.loop-self-test.branch [
      | then-loop-self-test+else-self-len w ↦
          ap (λ ps. ps ++ flat_map pairs_held (drop number cs))
          (c.replace-leaf.ensures.after ∙ c.new.ensures ∙ no_pairs) ∙
          ap (flat_map pairs_held) (drop_all number cs (omega arith))
      | else-loop-self-test w ↦ absurd (false≢true (sym w.loop-self-test.false ∙
          c.is_empty.ensures ∙ ap (λ ps. length ps == 0) (sym c.replace-leaf.ensures.value) ∙
          sym c.is_empty-2.ensures ∙ c.if-is_empty.true))
    ]

pub returns-clause-next : goal.returns-clause-next
returns-clause-next c =
    let rest = flat_map pairs_held
    (drop c.loop-self.self-inside.number (chunks_of c.loop-self.self-inside.file)) in
    c.loop-self.invariant ∙ ap (λ ps. ps ++ rest) (sym c.replace-leaf.ensures.value) ∙
    ap (λ ps. c.replace-leaf.result ++ (ps ++ rest))
    (sym (c.replace-leaf.ensures.after ∙ c.new.ensures ∙ no_pairs))

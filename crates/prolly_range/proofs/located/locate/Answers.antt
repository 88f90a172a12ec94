use Rattle.std.proofs.Common.{refl, ◌≡◌, ◌-◌, ◌++◌, ◌∷◌, ◌∙◌, [], List, ap, map, rules, subst}
use Rattle.std.proofs.Common.{sym}
use Rattle.std.proofs.lemmas.List.{nil_from_length}
use Rattle.std.proofs.Common.{refl}
use Rattle.prolly_range.specs.Children.{met_of}
use Rattle.prolly_range.specs.Dues.{seen_due}
use Rattle.prolly_range.specs.Prover.{located_due}
use Rattle.prolly_range.specs.Places.{MayLack}
use Rattle.prolly_root.specs.ChunkSource.{FindsChild}
use Rattle.prolly_range.proofs.Finds.{Finding, all_found, may_lack, none_found, one_found}
use Rattle.prolly_range.proofs.located.locate.Goals as goal

-- one more stands behind the others
one_more : {A B : Type 0} (f : A → B) (old : List A) (x : A) (y : B) (others : List B) → f x ≡ y →
    map f (old ++ x ∷ []) ++ others ≡ map f old ++ y ∷ others
one_more f [] x y others e = ap (λ z. z ∷ others) e
one_more f (w ∷ old) x y others e = ap (λ zs. f w ∷ zs) (one_more f old x y others e)

pub loop-child-preserved : goal.loop-child-preserved
loop-child-preserved g c =
    let stands_at = g.S.ChunkSource.stands in
    let level = c.args.level in
    let child = c.in-Some.child in
    let others = map met_of c.pop_front.new.self.items in
    let before = c.loop-child.found.items in
    record {
      due = ap (λ xs. map located_due xs ++ map (seen_due level) others) c.in_ok-keep.ensures ∙
          one_more located_due before _ (seen_due level (met_of child))
          (map (seen_due level) others) c.below.ensures ∙
          ap (λ ms. map located_due before ++ map (seen_due level) (map met_of ms))
          (sym c.in-Some.ensures.items) ∙ c.loop-child.invariant.due;
      goes = λ file goes.
          c.in_ok-there.ensures.asked.0 file (c.loop-child.invariant.goes file goes);
      failures = c.in_ok-there.ensures.asked.1 ∙ c.loop-child.invariant.failures;
      tells = λ file n from over at high.
          let inv = c.loop-child.invariant.tells file n from over at high in
          let still = c.loop-child.invariant.goes file over in
          let lower = ap (λ l. l - 1) high in
          let finding = subst (Finding stands_at file (level - 1) from before
          (map (λ m. m.number) (map met_of c.args.met.items)))
          (ap (λ ms. map (λ m. m.number) (map met_of ms)) c.in-Some.ensures.items) inv.1 in (
            c.child.ensures.stays file n from still inv.0 lower,
            one_found stands_at file finding _
                (subst (FindsChild stands_at file (level - 1) from child.number) c.in_ok-there.was
                (c.child.ensures.finds file n from still inv.0 lower)) c.keep.new.found.items
                c.in_ok-keep.ensures,
          );
    }

pub returns-in_err-there-clause-tells : goal.returns-in_err-there-clause-tells
returns-in_err-there-clause-tells g c file n from over at high =
    let stands_at = g.S.ChunkSource.stands in
    let level = c.args.level in
    let child = c.in-Some.child in
    let all = map (λ m. m.number) (map met_of c.args.met.items) in
    let fault = c.in_err-there.field-0.0 in
    let inv = c.loop-child.invariant.tells file n from over at high in
    let finding = subst (Finding stands_at file (level - 1) from c.loop-child.found.items all)
    (ap (λ ms. map (λ m. m.number) (map met_of ms)) c.in-Some.ensures.items) inv.1 in
    let may : MayLack file (level - 1) from all fault = may_lack stands_at file finding fault
    (subst (FindsChild stands_at file (level - 1) from child.number) c.in_err-there.was
    (c.child.ensures.finds file n from (c.loop-child.invariant.goes file over) inv.0
    (ap (λ l. l - 1) high))) in
    search rules

pub returns-clause-tells : goal.returns-clause-tells
returns-clause-tells g c file n from over at high =
    all_found g.S.ChunkSource.stands file
    (c.loop-child.invariant.tells file n from over at high).1
    (ap (λ ms. map (λ m. m.number) (map met_of ms))
    (nil_from_length c.loop-child.met.items (search rules)))

pub loop-child-init : goal.loop-child-init
loop-child-init g c = rw c.new-found.ensures.items (record {
  due = refl;
  goes = λ file goes. goes;
  failures = refl;
  tells = λ file n from over at high.
      (at, none_found g.S.ChunkSource.stands file (c.args.level - 1) from _);
})

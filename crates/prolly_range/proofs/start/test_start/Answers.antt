use Rattle.std.proofs.Common.{◌≡◌, ◌∙◌, ◌∷◌, ℕ, List, Bool, drop, length, sym, subst, false, nat_eq}
use Rattle.std.specs.Cmp.Lexicographic.{pointwise}
use Rattle.std.proofs.lemmas.Bool.{false≢true}
use Rattle.std.proofs.lemmas.Bool.Decides.{Decides-eqb}
use Rattle.std.proofs.lemmas.Slice.Eq.{slice_eq-Decides, starts_is}
use Rattle.prolly_root.specs.ProofFault.{EndsWithin}
use Rattle.prolly_range.specs.SetProof.{set_start}
use Rattle.prolly_range.proofs.Starts.{begins_as_none, within}
use Rattle.prolly_range.proofs.start.test_start.Goals as goal

-- what differs in a test is not the same
differ : (xs ys zs : List ℕ) (r : Bool) → r ≡ pointwise nat_eq xs ys → r ≡ false → ys ≡ zs →
    xs ≡ zs → ⊥
differ xs ys zs r is e same f = false≢true (sym e ∙
    (slice_eq-Decides Decides-eqb xs ys r is).1 (f ∙ sym same))

pub returns-then-starts_with-clause-err : goal.returns-then-starts_with-clause-err
returns-then-starts_with-clause-err c =
    let start = c.set_start-start.result in
    let front = c.args.front.now in
    subst (λ start. EndsWithin start front) c.set_start-start.ensures
    (within start front (drop (length front) start)
    ((starts_is Decides-eqb start front c.starts_with.result c.starts_with.ensures.value).0
    c.if-starts_with.true)
    (differ front c.as_slice.result.now start c.eq.result c.eq.ensures c.if-eq.false
    c.as_slice.ensures))

pub returns-else-eq-2-clause-err : goal.returns-else-eq-2-clause-err
returns-else-eq-2-clause-err c =
    let start = c.set_start-start.result in
    let front = c.args.front.now in
    begins_as_none c.args.version c.other.result front c.requires c.other.ensures
    (differ front c.as_slice.result.now (set_start c.args.version) c.eq.result c.eq.ensures
    c.if-eq.false (c.as_slice.ensures ∙ c.set_start-start.ensures))
    (differ front c.as_slice-else-starts_with.result.now (set_start c.other.result)
    c.eq-else-starts_with.result c.eq-else-starts_with.ensures c.if-eq-2.false
    (c.as_slice-else-starts_with.ensures ∙ c.set_start.ensures))
    (λ e. false≢true (sym c.if-starts_with.false ∙
    (starts_is Decides-eqb start front c.starts_with.result c.starts_with.ensures.value).1
    (e.byte ∷ e.more) (c.set_start-start.ensures ∙ e.is)))

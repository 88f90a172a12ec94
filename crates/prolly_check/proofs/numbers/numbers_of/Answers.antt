use Rattle.std.proofs.Common.{◌≡◌, ◌-◌, ◌/◌, ◌∙◌, length, get_or, ap, subst, sym, rules, arith}
use Rattle.std.specs.List.Sorted.{IsPermutation}
use Rattle.std.specs.Prelude.{sum}
use Rattle.std.proofs.lemmas.List.Sorted.{IsNonDecreasingBy-from_sort}
use Rattle.prolly_check.proofs.TreeNumbers.{is_level}
use Rattle.prolly_check.proofs.numbers.numbers_of.Goals as goal

pub returns : goal.returns
returns c = λ chunks is.
    let sorted = c.sort_unstable.new.self.items in
    let count : c.len-count.result ≡ length sorted = omega arith in
    let bytes : c.sum-bytes.result ≡ sum c.args.sizes.items = search rules in
    is_level chunks sorted _
    (subst (λ sizes. IsPermutation sizes sorted) (sym is) c.sort_unstable.ensures.permutation)
    (IsNonDecreasingBy-from_sort (λ size. size) sorted c.sort_unstable.ensures.sorted)
    (let same = c.sort_unstable.ensures.len in let some = c.requires.some in omega arith)
    count (bytes ∙ ap sum (sym is)) c.index.ensures
    (c.index-2.ensures ∙ ap (λ n. get_or sorted (n / 2) c.index-2.result.now) count)
    (c.index-3.ensures ∙ ap (λ n. get_or sorted (n - 1) c.index-3.result.now) count)

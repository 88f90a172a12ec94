use Rattle.std.proofs.Common.{rules, ◌≡◌, ◌∙◌, ap, sym, codes, take, ◌++◌}
use Rattle.std.specs.Str.{bytes_eq}
use Rattle.prolly_answer.proofs.Stating.{stated}
use Rattle.prolly_answer.proofs.answers.stat.answer_stat.Goals as goal

pub returns-clause-shown : goal.returns-clause-shown
returns-clause-shown g c = λ honest.
    let told : c.eq-is_chunk_file.result ≡ bytes_eq (take c.in-Ok.count c.take_front.new.front)
    (codes "PRLY") = search rules in
    let copied : c.in-Ok-to_vec.front.items ≡ take c.in-Ok.count c.take_front.new.front = search rules in
    stated _ _ _ _ _ _ _ _ _ _
    (c.new-whole.ensures.left ∙ (ap (λ f. f ++ (g.S.Source.seen c.take_front.new.source).left) copied
    ∙ c.in-Ok.ensures.joined honest))
    (told ∙ ap (λ f. bytes_eq f (codes "PRLY")) (c.in-Ok.ensures.first honest))
    (c.new-whole.ensures.failures ∙ c.in-Ok.ensures.failures) (sym c.into_rest.ensures.failures)
    (c.whole_answer-answer.ensures.shown
    (c.new-whole.ensures.honest ∙ c.in-Ok.ensures.honest honest))

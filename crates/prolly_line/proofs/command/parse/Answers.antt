use Rattle.std.proofs.Common.{ap, map, option_map, string_bytes, sym, ◌∙◌}
use Rattle.prolly_line.proofs.LineLemmas.{answers_words, entered_at, limits_kept, refused_by}
use Rattle.prolly_line.specs.AcceptedWords.{rows_in}
use Rattle.prolly_line.proofs.command.parse.Goals as goal

pub returns-in-Err-clause-refused : goal.returns-in-Err-clause-refused
returns-in-Err-clause-refused c =
    refused_by c.in_ok-program_line.field-0 _ c.in-Err.error c.refusal.result
    c.in_ok-program_line.ensures c.in-Err.ensures.kinds c.refusal.ensures

pub command_of-requires : goal.command_of-requires
command_of-requires c =
    let entered = entered_at c.in_ok-program_line.field-0 (map string_bytes c.args.words.now)
    c.in-Ok.matches _ c.in_ok-program_line.ensures
    c.in-Ok.ensures.kinds c.in-Ok.ensures.matches (sym c.subcommand_of.ensures ∙
    ap (option_map (λ p. (p.0.now, rows_in p.1.now))) c.unwrap.ensures) in
    (map string_bytes c.args.words.now, entered.0, entered.1)

pub returns-clause-given : goal.returns-clause-given
returns-clause-given c =
    let entered = entered_at c.in_ok-program_line.field-0 (map string_bytes c.args.words.now)
    c.in-Ok.matches _ c.in_ok-program_line.ensures
    c.in-Ok.ensures.kinds c.in-Ok.ensures.matches (sym c.subcommand_of.ensures ∙
    ap (option_map (λ p. (p.0.now, rows_in p.1.now))) c.unwrap.ensures) in
    (answers_words (map string_bytes c.args.words.now) _ c.command_of.result entered
    c.command_of.ensures).0

pub returns-clause-refused : goal.returns-clause-refused
returns-clause-refused c =
    let entered = entered_at c.in_ok-program_line.field-0 (map string_bytes c.args.words.now)
    c.in-Ok.matches _ c.in_ok-program_line.ensures
    c.in-Ok.ensures.kinds c.in-Ok.ensures.matches (sym c.subcommand_of.ensures ∙
    ap (option_map (λ p. (p.0.now, rows_in p.1.now))) c.unwrap.ensures) in
    (answers_words (map string_bytes c.args.words.now) _ c.command_of.result entered
    c.command_of.ensures).1

pub returns-clause-limits : goal.returns-clause-limits
returns-clause-limits c =
    limits_kept (map string_bytes c.args.words.now) c.command_of.result (returns-clause-given c)

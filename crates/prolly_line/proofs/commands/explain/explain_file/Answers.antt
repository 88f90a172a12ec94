use Rattle.prolly_line.proofs.commands.explain.explain_file.Goals as goal

pub text_of-requires : goal.text_of-requires
text_of-requires c = c.requires.fit.file c.requires.none

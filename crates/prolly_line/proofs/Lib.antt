-- What is answered to words that fit.
mod Fits
-- What stands in the rows of the subcommand that clap enters, by the subcommand as it is built.
mod Levels
-- What clap's clauses say of the program's command line.
mod LineLemmas
-- One more argument of a command whose line is known.
mod LineSteps
-- An accepted subcommand is one of the fifteen.
mod Names
-- Where clap takes the words, each value that it gives passed the parser of its argument.
mod Passes
-- Where clap takes the words, an argument with a default and a required one have a value.
mod Presence
-- The subcommands as clap builds them, and what stands in the rows of each where clap takes the
-- words.
mod Shapes
-- Where no two arguments of a level have one id, each is the one of its id.
mod Sound
-- Where clap takes the words, the walk over them did not stop at the subcommand `help`, which clap
-- adds.
mod Stops
-- What the getters of clap's matches give, by the rows of the subcommand.
mod ValueLemmas

-- The command line, in the words of clap's model of commands.
pub mod Line
-- What clap reads an argument and a command by, where no argument goes beyond its own subcommand.
pub mod LocalArgs
-- Which command the words give, and how they are refused.
pub mod GivenCommand
-- What stands in the rows of a subcommand whose words clap takes, and what is made of them.
pub mod AcceptedWords

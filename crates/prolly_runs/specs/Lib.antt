-- What the command `build` prints.
pub mod Build
-- What the command `apply` asks of the old file's header, and what it prints.
pub mod Apply
-- What is answered to words that give no command.
pub mod Refusals
-- What `build` and `apply` answer over files that are open.
pub mod Runs

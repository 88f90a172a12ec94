-- The line and the status of each fault. (This project's texts.)
pub mod Faults
-- What a line says of a file that it names. (This project's texts.)
pub mod Names
-- What the program prints.
pub mod Answers
-- Why an output is not written whole.
pub mod OutputFault
-- What commands tell of the faults of a set of keys, and of its proof.
pub mod SetFaults
-- The flush behind what was written to a sink.
pub mod Flushes

-- Which command is asked for: each module of the program answers one, in all its forms.
use Rattle.std.specs.Prelude.{⊤}
use Rattle.prolly_line.specs.declared.command.Command.{Command}
use Rattle.prolly_line.specs.declared.command.Command.TheVariants.{Pack, PackSorted, Scratch, Build}
use Rattle.prolly_line.specs.declared.command.Command.TheVariants.{Apply, Explain, ExplainLines}
use Rattle.prolly_line.specs.declared.command.Command.TheVariants.{Check, CheckFiles, Stat}
use Rattle.prolly_line.specs.declared.command.Command.TheVariants.{Get, GetKeys, Scan, Nth, Dump, Diff}
use Rattle.prolly_line.specs.declared.command.Command.TheVariants.{Prove, Verify}

-- Lines become a record file.
abbrev pub IsPack : Command → Type 0
IsPack (Pack out notation removals mode) = ⊤
IsPack (PackSorted out notation removals unique memory mode) = ⊤
IsPack _ = ⊥

-- One record file becomes its tree.
abbrev pub IsScratch : Command → Type 0
IsScratch (Scratch bits chunk_bytes version out mode) = ⊤
IsScratch _ = ⊥

-- Record files become their tree.
abbrev pub IsBuild : Command → Type 0
IsBuild (Build bits chunk_bytes stages capacity max_records batch version out files quiet mode) = ⊤
IsBuild _ = ⊥

-- An old tree becomes the next one.
abbrev pub IsApply : Command → Type 0
IsApply (Apply root bits version old out changes quiet mode) = ⊤
IsApply _ = ⊥

-- It is said where and why a record file, or lines, are not good.
abbrev pub IsExplain : Command → Type 0
IsExplain (Explain file notation) = ⊤
IsExplain (ExplainLines notation removals all) = ⊤
IsExplain _ = ⊥

-- It is said whether chunk files are lawful.
abbrev pub IsCheck : Command → Type 0
IsCheck (Check file root version) = ⊤
IsCheck (CheckFiles files root version quiet) = ⊤
IsCheck _ = ⊥

-- The numbers of a file are told.
abbrev pub IsStat : Command → Type 0
IsStat (Stat file json notation) = ⊤
IsStat _ = ⊥

-- What there is at a key is told, or at each of many.
abbrev pub IsGet : Command → Type 0
IsGet (Get file key root version notation raw) = ⊤
IsGet (GetKeys file keys root version notation) = ⊤
IsGet _ = ⊥

-- Pairs are told from a key on.
abbrev pub IsScan : Command → Type 0
IsScan (Scan file from limit root version notation) = ⊤
IsScan _ = ⊥

-- The pair of a number is told.
abbrev pub IsNth : Command → Type 0
IsNth (Nth file n root version notation) = ⊤
IsNth _ = ⊥

-- A tree becomes records, or lines.
abbrev pub IsDump : Command → Type 0
IsDump (Dump file root version out lines mode) = ⊤
IsDump _ = ⊥

-- Two trees are compared.
abbrev pub IsDiff : Command → Type 0
IsDiff (Diff old new roots version out stat notation mode) = ⊤
IsDiff _ = ⊥

-- A proof is written.
abbrev pub IsProve : Command → Type 0
IsProve (Prove file sought root version out notation mode) = ⊤
IsProve _ = ⊥

-- A proof is read.
abbrev pub IsVerify : Command → Type 0
IsVerify (Verify root sought version proof notation) = ⊤
IsVerify _ = ⊥

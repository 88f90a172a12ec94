-- The command line, in the words of clap's model of commands.
use Rattle.std.specs.Prelude.{ℕ, pos, true, Option, Some, List, [], ◌∷◌, codes}
use Rattle.clap.specs.Words.{App, Kinds, Row, Rule, Text, fault_of, new_app, new_rule}
use Rattle.clap.specs.Words.{subcommand_of, with_rule, with_subcommand}
use Rattle.clap.specs.Lexer.{usize_max}
use Rattle.clap.specs.Simple.{on_top}
use Rattle.clap.specs.declared.builder.action.ArgAction.TheVariants.{SetTrue}
use Rattle.clap.specs.declared.builder.value_parser.ValueParser.TheVariants.{Signed}

-- ---- arguments

-- `--NAME VALUE`
abbrev pub option_rule : Text → Rule
option_rule name = record (new_rule name) { long = Some name; value_names = 1 }

-- `--NAME N`, for a number from least to most, with a default
abbrev pub number_option : Text → ℕ → ℕ → Text → Rule
number_option name least most default = record (option_rule name) {
  parser = Some (Signed (pos least) (pos most));
  defaults = default ∷ [];
}

-- such an option without a default
abbrev pub optional_number_option : Text → ℕ → ℕ → Rule
optional_number_option name least most = record (option_rule name)
    { parser = Some (Signed (pos least) (pos most)) }

-- `--NAME`
abbrev pub flag : Text → Rule
flag name = record (new_rule name) { long = Some name; action = Some SetTrue }

-- a word that has to be there
abbrev pub word_rule : Text → Rule
word_rule name = record (new_rule name) { required = true; value_names = 1 }

-- such a word, for a number from least to most
abbrev pub number_word : Text → ℕ → ℕ → Rule
number_word name least most = record (word_rule name)
    { parser = Some (Signed (pos least) (pos most)) }

-- a word that may be missing
abbrev pub optional_word : Text → Rule
optional_word name = record (new_rule name) { value_names = 1 }

-- any number of words
abbrev pub words_rule : Text → Rule
words_rule name = record (new_rule name) {
  range = Some (record { start_inclusive = 0; end_inclusive = usize_max });
  value_names = 1;
}

-- any number of words, at least one
abbrev pub some_words_rule : Text → Rule
some_words_rule name = record (word_rule name) {
  range = Some (record { start_inclusive = 1; end_inclusive = usize_max });
}

-- `--bits Q`, from 0 to 24
abbrev pub bits_option : Rule
bits_option = optional_number_option (codes "bits") 0 24

-- `--chunk-bytes N`, from 1 to 2^30
abbrev pub chunk_bytes_option : Rule
chunk_bytes_option = optional_number_option (codes "chunk-bytes") 1 1073741824

-- `--memory MB`, from 16 to 4000
abbrev pub memory_option : Rule
memory_option = optional_number_option (codes "memory") 16 4000

-- `--stages S`, from 1 to 12, the default
abbrev pub stages_option : Rule
stages_option = number_option (codes "stages") 1 12 (codes "12")

-- `--capacity C`, from 1 to 4096, with the default 64
abbrev pub capacity_option : Rule
capacity_option = number_option (codes "capacity") 1 4096 (codes "64")

-- `--max-records M`, from 1 to 2^24, the default
abbrev pub max_records_option : Rule
max_records_option = number_option (codes "max-records") 1 16777216 (codes "16777216")

-- `--batch B`, from 1 to 1024, with the default 16
abbrev pub batch_option : Rule
batch_option = number_option (codes "batch") 1 1024 (codes "16")

-- `--format V`, the version 1, the default, or 2
abbrev pub format_option : Rule
format_option = number_option (codes "format") 1 2 (codes "1")

-- `--format V` without a default, since OLD has a version
abbrev pub old_format_option : Rule
old_format_option = optional_number_option (codes "format") 1 2

-- `--root ROOT`
abbrev pub root_option : Rule
root_option = option_rule (codes "root")

-- `--root ROOT`, which has to be there
abbrev pub required_root_option : Rule
required_root_option = record root_option { required = true }

-- `--from KEY`
abbrev pub from_option : Rule
from_option = option_rule (codes "from")

-- `--to KEY`
abbrev pub to_option : Rule
to_option = option_rule (codes "to")

-- `--keys KEYS`
abbrev pub keys_option : Rule
keys_option = option_rule (codes "keys")

-- `--old-root ROOT`
abbrev pub old_root_option : Rule
old_root_option = option_rule (codes "old-root")

-- `--new-root ROOT`
abbrev pub new_root_option : Rule
new_root_option = option_rule (codes "new-root")

-- `--out FILE`
abbrev pub out_option : Rule
out_option = option_rule (codes "out")

-- `--atomic`
abbrev pub atomic_flag : Rule
atomic_flag = flag (codes "atomic")

-- `--sync`
abbrev pub sync_flag : Rule
sync_flag = flag (codes "sync")

-- `--force`
abbrev pub force_flag : Rule
force_flag = flag (codes "force")

-- `--text`
abbrev pub text_flag : Rule
text_flag = flag (codes "text")

-- `--removals`
abbrev pub removals_flag : Rule
removals_flag = flag (codes "removals")

-- `--sort`
abbrev pub sort_flag : Rule
sort_flag = flag (codes "sort")

-- `--unique`
abbrev pub unique_flag : Rule
unique_flag = flag (codes "unique")

-- `--lines`
abbrev pub lines_flag : Rule
lines_flag = flag (codes "lines")

-- `--all`
abbrev pub all_flag : Rule
all_flag = flag (codes "all")

-- `--raw`
abbrev pub raw_flag : Rule
raw_flag = flag (codes "raw")

-- `--hex`
abbrev pub hex_flag : Rule
hex_flag = flag (codes "hex")

-- `--stat`
abbrev pub stat_flag : Rule
stat_flag = flag (codes "stat")

-- `--json`
abbrev pub json_flag : Rule
json_flag = flag (codes "json")

-- `--quiet`
abbrev pub quiet_flag : Rule
quiet_flag = flag (codes "quiet")

-- the word OUT
abbrev pub out_word : Rule
out_word = word_rule (codes "out")

-- the word OUT, which may be missing
abbrev pub optional_out_word : Rule
optional_out_word = optional_word (codes "out")

-- the word FILE
abbrev pub file_word : Rule
file_word = word_rule (codes "file")

-- the word FILE, which may be missing
abbrev pub optional_file_word : Rule
optional_file_word = optional_word (codes "file")

-- one word FILE or more
abbrev pub file_words : Rule
file_words = some_words_rule (codes "file")

-- the word PROOF, which may be missing
abbrev pub proof_word : Rule
proof_word = optional_word (codes "proof")

-- the word ROOT
abbrev pub root_word : Rule
root_word = word_rule (codes "root")

-- the word OLD
abbrev pub old_word : Rule
old_word = word_rule (codes "old")

-- the word NEW
abbrev pub new_word : Rule
new_word = word_rule (codes "new")

-- the word KEY
abbrev pub key_word : Rule
key_word = word_rule (codes "key")

-- the word KEY, which may be missing
abbrev pub optional_key_word : Rule
optional_key_word = optional_word (codes "key")

-- the word LIMIT, a number from 0 to 1,000,000
abbrev pub limit_word : Rule
limit_word = number_word (codes "limit") 0 1000000

-- the word N, a number from 0 to 2^32 - 1
abbrev pub n_word : Rule
n_word = number_word (codes "n") 0 4294967295

-- any number of words FILES
abbrev pub files_words : Rule
files_words = words_rule (codes "files")

-- any number of words CHANGES
abbrev pub changes_words : Rule
changes_words = words_rule (codes "changes")

-- ---- subcommands

-- the flags that say how an output is written
abbrev pub with_mode : App → App
with_mode app = with_rule (with_rule (with_rule app atomic_flag) sync_flag) force_flag

-- the options that name the root that is trusted, and the version of its tree's chunks
abbrev pub with_trust : App → App
with_trust app = with_rule (with_rule app root_option) format_option

-- the options that name the roots of two trees that are trusted, and the version of their chunks
abbrev pub with_roots : App → App
with_roots app = with_rule (with_rule (with_rule app old_root_option) new_root_option) format_option

-- the options that give a range, or many keys, in place of a key
abbrev pub with_range : App → App
with_range app = with_rule (with_rule (with_rule app from_option) to_option) keys_option

-- `NAME [--text] [--root ROOT] [--format V] FILE`, a look-up in a file, or by a root that it trusts
abbrev pub look_up_line : Text → App
look_up_line name = with_rule (with_trust (with_rule (new_app name) text_flag)) file_word

-- the options that let lines come in any order
abbrev pub with_sort : App → App
with_sort app = with_rule (with_rule (with_rule app sort_flag) unique_flag) memory_option

-- `pack [--text] [--removals] [--sort] [--unique] [--memory MB] [--atomic] [--sync] [--force] OUT`
abbrev pub pack_line : App
pack_line = with_rule (with_mode (with_sort (with_rule (with_rule (new_app (codes "pack"))
    text_flag) removals_flag))) out_word

-- `scratch [--bits Q] [--chunk-bytes N] [--format V] [--out FILE] [--atomic] [--sync] [--force]`
abbrev pub scratch_line : App
scratch_line = with_mode (with_rule (with_rule (with_rule (with_rule (new_app (codes "scratch"))
    bits_option) chunk_bytes_option) format_option) out_option)

-- `build [--bits Q] [--chunk-bytes N] [--stages S] [--capacity C] [--max-records M] [--batch B]
-- [--format V] [--quiet] [--atomic] [--sync] [--force] OUT [FILES...]`
abbrev pub build_line : App
build_line = with_rule (with_rule (with_mode
    (with_rule (with_rule (with_rule (with_rule (with_rule (with_rule (with_rule (with_rule
    (new_app (codes "build")) bits_option) chunk_bytes_option) stages_option) capacity_option)
    max_records_option) batch_option) format_option) quiet_flag)) out_word) files_words

-- `apply [--bits Q] [--format V] --root ROOT [--quiet] [--atomic] [--sync] [--force] OLD OUT
-- [CHANGES...]`
abbrev pub apply_line : App
apply_line = with_rule (with_rule (with_rule (with_mode (with_rule (with_rule (with_rule (with_rule
    (new_app (codes "apply")) bits_option) old_format_option) required_root_option)
    quiet_flag)) old_word) out_word) changes_words

-- `explain [--text] [--lines] [--removals] [--all] [FILE]`
abbrev pub explain_line : App
explain_line = with_rule (with_rule (with_rule (with_rule (with_rule (new_app (codes "explain"))
    text_flag) lines_flag) removals_flag) all_flag) optional_file_word

-- `check [--root ROOT] [--format V] [--quiet] FILE...`
abbrev pub check_line : App
check_line = with_rule (with_trust (with_rule (new_app (codes "check")) file_words)) quiet_flag

-- `root FILE`
abbrev pub root_line : App
root_line = with_rule (new_app (codes "root")) file_word

-- `stat [--text] [--json] FILE`
abbrev pub stat_line : App
stat_line = with_rule (with_rule (with_rule (new_app (codes "stat")) text_flag) json_flag)
    file_word

-- `get [--text] [--raw] [--root ROOT] [--format V] [--keys KEYS] FILE [KEY]`
abbrev pub get_line : App
get_line = with_rule (with_rule (with_rule (with_trust (with_rule (with_rule (new_app (codes "get"))
    text_flag) raw_flag)) keys_option) file_word) optional_key_word

-- `scan [--text] [--root ROOT] [--format V] FILE KEY LIMIT`
abbrev pub scan_line : App
scan_line = with_rule (with_rule (look_up_line (codes "scan")) key_word) limit_word

-- `nth [--text] [--root ROOT] [--format V] FILE N`
abbrev pub nth_line : App
nth_line = with_rule (look_up_line (codes "nth")) n_word

-- `dump [--text] [--hex] [--root ROOT] [--format V] [--atomic] [--sync] [--force] FILE [OUT]`
abbrev pub dump_line : App
dump_line = with_rule (with_rule (with_mode (with_trust (with_rule (with_rule
    (new_app (codes "dump")) text_flag) hex_flag))) file_word) optional_out_word

-- `diff [--text] [--stat] [--old-root ROOT] [--new-root ROOT] [--format V] [--out FILE] [--atomic]
-- [--sync] [--force] OLD NEW`
abbrev pub diff_line : App
diff_line = with_rule (with_rule (with_mode (with_rule (with_roots (with_rule (with_rule
    (new_app (codes "diff")) text_flag) stat_flag)) out_option)) old_word) new_word

-- `prove [--text] [--root ROOT] [--format V] [--from KEY] [--to KEY] [--keys KEYS] [--atomic]
-- [--sync] [--force] FILE [KEY] [OUT]`
abbrev pub prove_line : App
prove_line = with_rule (with_rule (with_rule (with_mode (with_range (with_trust (with_rule
    (new_app (codes "prove")) text_flag)))) file_word) optional_key_word) optional_out_word

-- `verify [--text] [--format V] [--from KEY] [--to KEY] [--keys KEYS] ROOT [KEY] [PROOF]`
abbrev pub verify_line : App
verify_line = with_rule (with_rule (with_rule (with_range (with_rule (with_rule
    (new_app (codes "verify")) text_flag) format_option)) root_word) optional_key_word) proof_word

-- ---- the whole line

-- what stands above the subcommands: one of them has to be named, by the first word, and there is a
-- version to ask for
abbrev pub bare_line : App
bare_line = on_top (λ s. record s {
  no_binary_name = true;
  subcommand_required = true;
  has_version = true;
}) (new_app (codes "prolly"))

-- the words after the program's name, in the order in which one uses the subcommands
abbrev pub program_line : App
program_line = with_subcommand (with_subcommand (with_subcommand (with_subcommand (with_subcommand
    (with_subcommand (with_subcommand (with_subcommand (with_subcommand
    (with_subcommand (with_subcommand (with_subcommand (with_subcommand (with_subcommand
    (with_subcommand bare_line pack_line.top) scratch_line.top) build_line.top) apply_line.top)
    explain_line.top) check_line.top) root_line.top) stat_line.top) get_line.top) scan_line.top) nth_line.top)
    dump_line.top) diff_line.top) prove_line.top) verify_line.top

-- the kinds of error that clap may give at the words; none where it takes them
unfoldable pub line_faults : List Text → Kinds
line_faults words = fault_of program_line words

-- the subcommand that the words name, with what they and the defaults give for it
unfoldable pub line_given : List Text → Option (Text × List Row)
line_given words = subcommand_of program_line words

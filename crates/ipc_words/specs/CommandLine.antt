-- The options of the commands and their words by place, and the program over its commands, as `clap` reads them.
use Rattle.std.specs.Prelude.{List, Some, true, false, codes}
use Rattle.clap.specs.Walk.{Rule, Text}
use Rattle.clap.specs.Simple.{App, Shape, new_rule, new_shape}
use Rattle.clap.specs.declared.builder.action.ArgAction.TheVariants.{Append, SetTrue}

-- `--name VALUE` or `--name=VALUE`
abbrev pub option : Text → Rule
option name = record (new_rule name) { long = Some name; value_names = 1 }

-- `--name`
abbrev pub flag : Text → Rule
flag name = record (new_rule name) { long = Some name; action = Some SetTrue }

-- a word that may stand at its place
abbrev pub word : Text → Rule
word name = new_rule name

-- a word that has to stand at its place
abbrev pub needed_word : Text → Rule
needed_word name = record (new_rule name) { required = true }

-- one or more words at a place
abbrev pub needed_words : Text → Rule
needed_words name = record (new_rule name) { required = true; action = Some Append }

abbrev pub columns : Rule
columns = option (codes "columns")

abbrev pub limit : Rule
limit = option (codes "limit")

abbrev pub raw : Rule
raw = flag (codes "raw")

abbrev pub append : Rule
append = flag (codes "append")

abbrev pub name : Rule
name = word (codes "NAME")

abbrev pub names : Rule
names = needed_words (codes "NAME")

abbrev pub filter : Rule
filter = needed_word (codes "FILTER")

abbrev pub target : Rule
target = needed_word (codes "TARGET")

abbrev pub number : Rule
number = needed_word (codes "N")

-- the program without its commands: one has to stand first; `--help` and `--version` are known, the command `help` is not
abbrev pub bare : Shape
bare = record (new_shape (codes "vokdrim")) {
  no_binary_name = true;
  disable_help_subcommand = true;
  has_version = true;
  subcommand_required = true;
}

-- the program with these commands
abbrev pub program : List Shape → App
program commands = record { top = record bare { is_leaf = false }; subs = commands }

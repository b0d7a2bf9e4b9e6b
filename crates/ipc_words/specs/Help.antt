-- Words that ask for help or for the version.
use Rattle.std.specs.Prelude.{List, [], ◌∷◌, Bool, true, false}
use Rattle.clap.specs.Walk.{Text}
use Rattle.clap.specs.Faults.{fault_of}
use Rattle.clap.specs.Kinds.{Kinds}
use Rattle.clap.specs.declared.error.kind.ErrorKind.{ErrorKind}
use Rattle.clap.specs.declared.error.kind.ErrorKind.TheVariants as kind
use Rattle.ipc_words.specs.Requests.{command_line}

abbrev pub is_help : ErrorKind → Bool
is_help kind.DisplayHelp = true
is_help kind.DisplayVersion = true
is_help _ = false

-- what `clap` answers is help or the version, and nothing else
abbrev pub shows_help : Kinds → Bool
shows_help (k ∷ []) = is_help k
shows_help _ = false

-- The words after the program's name ask for help or for the version. They are no request.
unfoldable pub asks_for_help : List Text → Bool
asks_for_help words = shows_help (fault_of command_line words)

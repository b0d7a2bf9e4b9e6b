-- What `clap` is told of the commands.
use Rattle.std.specs.Prelude.{◌≡◌, List, [], ◌∷◌, Option, false}
use Rattle.clap.specs.Walk.{Rule, rows_of}
use Rattle.clap.specs.Words.{app_of, found_of, rule_of}
use Rattle.clap.specs.Simple.{App, Shape, with_subcommand}
use Rattle.clap.specs.declared.builder.arg.Arg.{Arg}
use Rattle.clap.specs.declared.builder.command.Command.{Command}
use Rattle.clap.specs.declared.builder.command.Command.TheViews.{out-Command}
use Rattle.clap.specs.declared.parser.matches.ArgMatches.{ArgMatches}
use Rattle.ipc_words.specs.CommandLine.{bare}
use Rattle.ipc_words.specs.Requests.{Entry, Request, shape_of}

-- an argument of this rule, of its own command alone
pub record IsArg (r : Rule) (a : Arg) : Type 0 where
  pub rule : rule_of a ≡ r
  pub own : a.global ≡ false

-- a command that `clap` reads so, none of whose arguments is one of the commands below it too
pub record Reads (app : App) (c : Command) : Type 0 where
  pub reads : app_of c ≡ app
  pub own : (out-Command c).has_globals ≡ false

-- a command of this shape with none below it
abbrev pub leaf : Shape → App
leaf s = record { top = s; subs = [] }

-- the program with these commands, the last one first
abbrev pub with_commands : List Entry → App
with_commands [] = leaf bare
with_commands (e ∷ es) = with_subcommand (with_commands es) (shape_of e)

-- a command of this entry
abbrev pub IsCommand : Entry → Command → Type 0
IsCommand e c = Reads (leaf (shape_of e)) c

-- a program that `clap` reads so
pub record HasCommands (es : List Entry) (c : Command) : Type 0 where
  pub reads : Reads (with_commands es) c

-- what a command of this entry asks for, by what `clap` found of its own words
abbrev pub asked_of : Entry → ArgMatches → Option Request
asked_of e found = e.asks (rows_of (found_of found))

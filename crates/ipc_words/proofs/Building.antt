-- Commands that are built step by step.
use Rattle.std.proofs.Common.{◌≡◌, ◌∙◌, ◌||◌, ℕ, true, false, List, ◌∷◌, Some, ap, ap₂, reverse, Result, Ok, Err, IfOk}
use Rattle.clap.specs.Walk.{Rule}
use Rattle.clap.specs.Simple.{App, Shape, app_of_fields, on_top, with_rule, with_subcommand}
use Rattle.std.specs.Borrow.{Bor}
use Rattle.clap.specs.Words.{AddsArg, AddsSubcommand, app_of}
use Rattle.clap.specs.declared.builder.arg.Arg.{Arg}
use Rattle.clap.specs.declared.builder.command.Command.{Command}
use Rattle.clap.specs.declared.builder.command.Command.TheOpen.{Command-F}
use Rattle.clap.specs.declared.builder.command.Command.TheViews.{out-Command}
use Rattle.ipc_words.specs.Commands.{HasCommands, IsArg, IsCommand, Reads, leaf, with_commands}
use Rattle.ipc_words.specs.Requests.{Entry, command_line, commands, shape_of}

-- an argument more
pub with_arg : (old new : Command) (a : Arg) (app : App) (r : Rule) → Reads app old → IsArg r a → AddsArg old a new → Reads (with_rule app r) new
with_arg old new a app r h i s = record {
  reads = s.shape i.own ∙ ap₂ with_rule h.reads i.rule;
  own = s.globals ∙ ap₂ (λ x y. x || y) h.own i.own;
}

-- a command more
pub with_command : (old sub new : Command) (app : App) (shape : Shape) → Reads app old → Reads (leaf shape) sub → AddsSubcommand old sub new → Reads (with_subcommand app shape) new
with_command old sub new app shape h i s = record {
  reads = s.shape i.own ∙ ap₂ with_subcommand h.reads (ap (λ (x : App). x.top) i.reads);
  own = s.globals ∙ ap₂ (λ x y. x || y) h.own i.own;
}

-- the last argument of a command
pub with_last_arg : {E : Type 0} (old : Command) (result : Result Command E) (a : Arg) (app : App) (r : Rule) → Reads app old → IsArg r a → IfOk result (λ new. AddsArg old a new) → IfOk result (Reads (with_rule app r))
with_last_arg old (Ok new) a app r h i s = with_arg old new a app r h i s
with_last_arg old (Err e) a app r h i s = tt

-- a program with a command more
pub with_last_command : {E : Type 0} (old sub : Command) (result : Result Command E) (es : List Entry) (e : Entry) → HasCommands es old → IsCommand e sub → IfOk result (λ new. AddsSubcommand old sub new) → IfOk result (HasCommands (e ∷ es))
with_last_command old sub (Ok new) es e h i s = record { reads = with_command old sub new (with_commands es) (shape_of e) h.reads i s }
with_last_command old sub (Err x) es e h i s = tt

-- a program with all commands
pub with_all : {E : Type 0} (result : Result Command E) → IfOk result (HasCommands (reverse commands)) → IfOk result (Reads command_line)
unfolding command_line commands
with_all (Ok new) h = h.reads
with_all (Err x) h = tt

-- a text of help
pub with_about : (old new : Command) (text : Bor (List ℕ)) (app : App) → Reads app old → out-Command new ≡ record (out-Command old) { about = Some text } → Reads app new
with_about old new text app h e = record { reads = ap app_of_fields e ∙ h.reads; own = ap (λ (f : Command-F Command). f.has_globals) e ∙ h.own }

-- a text behind help
pub with_after_help : (old new : Command) (text : Bor (List ℕ)) (app : App) → Reads app old → out-Command new ≡ record (out-Command old) { after_help = Some text } → Reads app new
with_after_help old new text app h e = record { reads = ap app_of_fields e ∙ h.reads; own = ap (λ (f : Command-F Command). f.has_globals) e ∙ h.own }

-- a version
pub with_version : (old new : Command) (text : Bor (List ℕ)) (app : App) → Reads app old → out-Command new ≡ record (out-Command old) { version = Some text } → Reads (on_top (λ (s : Shape). record s { has_version = true }) app) new
with_version old new text app h e = record { reads = ap app_of_fields e ∙ ap (on_top (λ (s : Shape). record s { has_version = true })) h.reads; own = ap (λ (f : Command-F Command). f.has_globals) e ∙ h.own }

-- the words begin after the program's name
pub with_no_binary_name : (old new : Command) (app : App) → Reads app old → out-Command new ≡ record (out-Command old) { no_binary_name = true } → Reads (on_top (λ (s : Shape). record s { no_binary_name = true }) app) new
with_no_binary_name old new app h e = record { reads = ap app_of_fields e ∙ ap (on_top (λ (s : Shape). record s { no_binary_name = true })) h.reads; own = ap (λ (f : Command-F Command). f.has_globals) e ∙ h.own }

-- no command help
pub with_no_help_command : (old new : Command) (app : App) → Reads app old → out-Command new ≡ record (out-Command old) { disable_help_subcommand = true } → Reads (on_top (λ (s : Shape). record s { disable_help_subcommand = true }) app) new
with_no_help_command old new app h e = record { reads = ap app_of_fields e ∙ ap (on_top (λ (s : Shape). record s { disable_help_subcommand = true })) h.reads; own = ap (λ (f : Command-F Command). f.has_globals) e ∙ h.own }

-- one command has to stand there
pub with_command_required : (old new : Command) (app : App) → Reads app old → out-Command new ≡ record (out-Command old) { subcommand_required = true } → Reads (on_top (λ (s : Shape). record s { subcommand_required = true }) app) new
with_command_required old new app h e = record { reads = ap app_of_fields e ∙ ap (on_top (λ (s : Shape). record s { subcommand_required = true })) h.reads; own = ap (λ (f : Command-F Command). f.has_globals) e ∙ h.own }

-- a command of this name
pub begun : (new : Command) (app : App) → app_of new ≡ app → (out-Command new).has_globals ≡ false → Reads app new
begun new app e own = record { reads = e; own = own }

-- the program's name in usage
pub with_bin_name : (old new : Command) (app : App) → Reads app old → out-Command new ≡ record (out-Command old) { bin_name = (out-Command new).bin_name } → Reads app new
with_bin_name old new app h e = record { reads = ap app_of_fields e ∙ h.reads; own = ap (λ (f : Command-F Command). f.has_globals) e ∙ h.own }

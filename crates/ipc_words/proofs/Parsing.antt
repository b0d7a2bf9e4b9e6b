-- From what `clap` states of a parse to what is asked for.
use Rattle.std.proofs.Common.{◌≡◌, ◌∙◌, List, [], ◌∷◌, true, false, is_some, Result, IfOk, Option, Some, None, Ok, Err, Box, ap, ap₂, sym, refl, subst, option_map, inl, inr}
use Rattle.std.specs.Box.{box_value}
use Rattle.clap.specs.Walk.{Row, Text}
use Rattle.clap.specs.Simple.{App, built, HasMatchesOf, is_simple, subcommand_of, subcommand_rows, subcommand_rows_of}
use Rattle.clap.specs.Kinds.{HasKind, IsAmong, Kinds}
use Rattle.clap.specs.Faults.{fault_of, is_simple_and_free}
use Rattle.clap.specs.Words.{kind_of}
use Rattle.clap.specs.declared.error.Error.{Error}
use Rattle.clap.specs.declared.error.kind.ErrorKind.{ErrorKind}
use Rattle.clap.specs.declared.error.kind.ErrorKind.TheVariants as kind
use Rattle.clap.specs.declared.parser.matches.ArgMatches.{ArgMatches}
use Rattle.clap.specs.declared.parser.matches.ArgMatches.TheViews.{out-SubCommand}
use Rattle.clap.specs.declared.parser.matches.SubCommand.{SubCommand}
use Rattle.clap.proofs.OnLiterals.{clap_on_literals}
use Rattle.ipc_words.specs.Help.{asks_for_help, is_help, shows_help}
use Rattle.ipc_words.proofs.HelpLemmas.{Pure, fault_pure}
use Rattle.ipc_words.specs.Requests.{Request, asked, command_line, commands, request_of, unless_fault}

line_is_simple : is_simple command_line ≡ true
unfolding clap_on_literals command_line commands
line_is_simple = refl

line_is_free : is_simple_and_free command_line ≡ true
unfolding clap_on_literals command_line commands
line_is_free = refl

-- a parse that passed
pub passed : (app : App) (words : List Text) (m : ArgMatches) → app ≡ command_line → HasMatchesOf app words m → (is_simple_and_free app ≡ true → fault_of app words ≡ []) → request_of words ≡ asked (subcommand_rows_of m)
unfolding request_of
passed app words m is matches kinds =
    let none : fault_of command_line words ≡ [] = ap (λ a. fault_of a words) (sym is) ∙ kinds (ap is_simple_and_free is ∙ line_is_free) in
    let found : subcommand_of command_line words ≡ subcommand_rows_of m = ap (λ a. subcommand_of a words) (sym is) ∙ sym (matches (ap is_simple is ∙ line_is_simple)).1 in
    ap₂ unless_fault none (ap asked found)

among_none : (k : ErrorKind) (kinds : Kinds) (r : Option Request) → IsAmong k kinds → unless_fault kinds r ≡ None
among_none k [] r h = absurd h
among_none k (x ∷ xs) r h = refl

kind_none : (kinds : Kinds) (e : Error) (r : Option Request) → HasKind kinds e → (kind_of e ≡ kind.OutOfMemory → ⊥) → unless_fault kinds r ≡ None
kind_none kinds e r (inl wants) other = absurd (other wants)
kind_none kinds e r (inr among) other = among_none (kind_of e) kinds r among

-- a parse that failed, and not for memory
pub failed : (app : App) (words : List Text) (e : Error) → app ≡ command_line → (is_simple_and_free app ≡ true → HasKind (fault_of app words) e) → (kind_of e ≡ kind.OutOfMemory → ⊥) → request_of words ≡ None
unfolding request_of
failed app words e is kinds other =
    ap (λ a. unless_fault (fault_of a words) (asked (subcommand_of command_line words))) (sym is)
    ∙ kind_none (fault_of app words) e (asked (subcommand_of command_line words)) (kinds (ap is_simple_and_free is ∙ line_is_free)) other

module _ {Z : Type 0} where
  abbrev name_of : Box SubCommand Z → Text
  name_of b = (out-SubCommand (box_value b)).name.now

  -- the command that was entered, by its name and its rows
  pub entered : (o : Option (Box SubCommand Z)) (name : Text) (found : List Row) → Some name ≡ option_map name_of o → Some found ≡ option_map (λ p. p.1) (subcommand_rows o) → subcommand_rows o ≡ Some (name, found)
  entered None name found n r = cc
  entered (Some b) name found n r = cc

  pub not_entered : (o : Option (Box SubCommand Z)) → None ≡ option_map name_of o → subcommand_rows o ≡ None
  not_entered None n = refl
  not_entered (Some b) n = cc

no_help_command : (built command_line).top.disable_help_subcommand ≡ true
unfolding command_line
no_help_command = refl

-- a parse that passed shows no help
pub shows_none : (app : App) (words : List Text) → app ≡ command_line → (is_simple_and_free app ≡ true → fault_of app words ≡ []) → asks_for_help words ≡ false
unfolding asks_for_help
shows_none app words is kinds =
    let none : fault_of command_line words ≡ [] = ap (λ a. fault_of a words) (sym is) ∙ kinds (ap is_simple_and_free is ∙ line_is_free) in
    ap shows_help none

kind_shows : (kinds : Kinds) (e : Error) → Pure kinds → HasKind kinds e → (kind_of e ≡ kind.OutOfMemory → ⊥) → is_help (kind_of e) ≡ shows_help kinds
kind_shows kinds e p (inl wants) other = absurd (other wants)
kind_shows kinds e p (inr among) other = p.alone (kind_of e) among

-- a parse that failed shows help where its kind is that
pub shows : (app : App) (words : List Text) (e : Error) → app ≡ command_line → (is_simple_and_free app ≡ true → HasKind (fault_of app words) e) → (kind_of e ≡ kind.OutOfMemory → ⊥) → is_help (kind_of e) ≡ asks_for_help words
unfolding asks_for_help
shows app words e is kinds other =
    let has : HasKind (fault_of command_line words) e = subst (λ a. HasKind (fault_of a words) e) is (kinds (ap is_simple_and_free is ∙ line_is_free)) in
    kind_shows (fault_of command_line words) e (fault_pure command_line words no_help_command) has other

pub text_shows : {T E : Type 0} (r : Result (Option T) E) (app : App) (words : List Text) (e : Error) → app ≡ command_line → (is_simple_and_free app ≡ true → HasKind (fault_of app words) e)
    → IfOk r (λ text. (is_some text ≡ is_help (kind_of e)) × (kind_of e ≡ kind.OutOfMemory → ⊥)) → IfOk r (λ text. is_some text ≡ asks_for_help words)
text_shows (Ok text) app words e is kinds h = h.0 ∙ shows app words e is kinds h.1
text_shows (Err x) app words e is kinds h = tt

-- words that ask for help are no request
pub help_is_no_request : (words : List Text) → asks_for_help words ≡ true → request_of words ≡ None
unfolding asks_for_help request_of
help_is_no_request words h = go (fault_of command_line words) h
  where
    go : (kinds : Kinds) → shows_help kinds ≡ true → unless_fault kinds (asked (subcommand_of command_line words)) ≡ None
    go [] e = cc
    go (k ∷ ks) e = refl

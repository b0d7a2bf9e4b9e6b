-- Words and what they ask for.
use Rattle.std.proofs.Common.{◌≡◌, ℕ, List, [], ◌∷◌, true, false, Some, None, codes, refl}
use Rattle.clap.specs.Faults.{fault_of, is_simple_and_free}
use Rattle.clap.specs.declared.error.kind.ErrorKind.TheVariants as kind
use Rattle.clap.proofs.OnLiterals.{clap_on_literals}
use Rattle.ipc_words.specs.Requests.{append, asked_by, command_line, commands, request_of, rows, schema, stream}

unfoldable pub line : List ℕ
unfolding command_line commands request_of asked_by
line = []

simple : is_simple_and_free command_line ≡ true
unfolding clap_on_literals line
simple = refl

all_options : request_of (codes "stream" ∷ codes "--columns" ∷ codes "2,0" ∷ codes "--limit" ∷ codes "5" ∷ codes "--raw" ∷ codes "F3" ∷ []) ≡ Some (stream (record { columns = Some (2 ∷ 0 ∷ []); limit = Some 5; raw = true; name = Some (codes "F3") }))
unfolding clap_on_literals line
all_options = refl

alone : request_of (codes "stream" ∷ []) ≡ Some (stream (record { columns = None; limit = None; raw = false; name = None }))
unfolding clap_on_literals line
alone = refl

options_after_name : request_of (codes "stream" ∷ codes "F3" ∷ codes "--raw" ∷ codes "--limit=5" ∷ []) ≡ Some (stream (record { columns = None; limit = Some 5; raw = true; name = Some (codes "F3") }))
unfolding clap_on_literals line
options_after_name = refl

hyphen_is_input : request_of (codes "stream" ∷ codes "-" ∷ []) ≡ Some (stream (record { columns = None; limit = None; raw = false; name = None }))
unfolding clap_on_literals line
hyphen_is_input = refl

empty_columns : request_of (codes "stream" ∷ codes "--columns" ∷ [] ∷ []) ≡ Some (stream (record { columns = Some ([]); limit = None; raw = false; name = None }))
unfolding clap_on_literals line
empty_columns = refl

empty_columns_by_sign : request_of (codes "stream" ∷ codes "--columns=" ∷ []) ≡ Some (stream (record { columns = Some ([]); limit = None; raw = false; name = None }))
unfolding clap_on_literals line
empty_columns_by_sign = refl

-- that a column stands twice is refused later, by the file's reader
columns_by_sign : request_of (codes "stream" ∷ codes "--columns=1,1" ∷ []) ≡ Some (stream (record { columns = Some (1 ∷ 1 ∷ []); limit = None; raw = false; name = None }))
unfolding clap_on_literals line
columns_by_sign = refl

leading_zeros : request_of (codes "stream" ∷ codes "--limit" ∷ codes "007" ∷ []) ≡ Some (stream (record { columns = None; limit = Some 7; raw = false; name = None }))
unfolding clap_on_literals line
leading_zeros = refl

greatest : request_of (codes "stream" ∷ codes "--limit" ∷ codes "18446744073709551615" ∷ []) ≡ Some (stream (record { columns = None; limit = Some 18446744073709551615; raw = false; name = None }))
unfolding clap_on_literals line
greatest = refl

name_behind_hyphens : request_of (codes "stream" ∷ codes "--" ∷ codes "--raw" ∷ []) ≡ Some (stream (record { columns = None; limit = None; raw = false; name = Some (codes "--raw") }))
unfolding clap_on_literals line
name_behind_hyphens = refl

name_of_command : request_of (codes "stream" ∷ codes "schema" ∷ []) ≡ Some (stream (record { columns = None; limit = None; raw = false; name = Some (codes "schema") }))
unfolding clap_on_literals line
name_of_command = refl

schema_alone : request_of (codes "schema" ∷ []) ≡ Some (schema None)
unfolding clap_on_literals line
schema_alone = refl

schema_named : request_of (codes "schema" ∷ codes "F3" ∷ []) ≡ Some (schema (Some (codes "F3")))
unfolding clap_on_literals line
schema_named = refl

rows_alone : request_of (codes "rows" ∷ []) ≡ Some (rows None)
unfolding clap_on_literals line
rows_alone = refl

rows_named : request_of (codes "rows" ∷ codes "F3" ∷ []) ≡ Some (rows (Some (codes "F3")))
unfolding clap_on_literals line
rows_named = refl

no_request_rows_with_limit : request_of (codes "rows" ∷ codes "--limit" ∷ codes "5" ∷ []) ≡ None
unfolding clap_on_literals line
no_request_rows_with_limit = refl

append_to_a_name : request_of (codes "append" ∷ codes "F1" ∷ []) ≡ Some (append (codes "F1"))
unfolding clap_on_literals line
append_to_a_name = refl

append_to_a_hyphen : request_of (codes "append" ∷ codes "-" ∷ []) ≡ Some (append (codes "-"))
unfolding clap_on_literals line
append_to_a_hyphen = refl

no_request_append_alone : request_of (codes "append" ∷ []) ≡ None
unfolding clap_on_literals line
no_request_append_alone = refl

no_request_append_to_two : request_of (codes "append" ∷ codes "F1" ∷ codes "F2" ∷ []) ≡ None
unfolding clap_on_literals line
no_request_append_to_two = refl

no_request_of_no_words : request_of [] ≡ None
unfolding clap_on_literals line
no_request_of_no_words = refl

no_request_no_command : request_of (codes "streams" ∷ []) ≡ None
unfolding clap_on_literals line
no_request_no_command = refl

no_request_nothing_before : request_of (codes "--raw" ∷ codes "stream" ∷ []) ≡ None
unfolding clap_on_literals line
no_request_nothing_before = refl

no_request_hyphens_before : request_of (codes "--" ∷ codes "stream" ∷ []) ≡ None
unfolding clap_on_literals line
no_request_hyphens_before = refl

no_request_help_command : request_of (codes "help" ∷ []) ≡ None
unfolding clap_on_literals line
no_request_help_command = refl

no_request_repeated_limit : request_of (codes "stream" ∷ codes "--limit" ∷ codes "1" ∷ codes "--limit" ∷ codes "2" ∷ []) ≡ None
unfolding clap_on_literals line
no_request_repeated_limit = refl

no_request_repeated_flag : request_of (codes "stream" ∷ codes "--raw" ∷ codes "--raw" ∷ []) ≡ None
unfolding clap_on_literals line
no_request_repeated_flag = refl

no_request_repeated_columns : request_of (codes "stream" ∷ codes "--columns=1" ∷ codes "--columns=1" ∷ []) ≡ None
unfolding clap_on_literals line
no_request_repeated_columns = refl

no_request_no_number : request_of (codes "stream" ∷ codes "--limit" ∷ codes "x" ∷ []) ≡ None
unfolding clap_on_literals line
no_request_no_number = refl

no_request_empty_number : request_of (codes "stream" ∷ codes "--limit=" ∷ []) ≡ None
unfolding clap_on_literals line
no_request_empty_number = refl

no_request_with_plus : request_of (codes "stream" ∷ codes "--limit" ∷ codes "+5" ∷ []) ≡ None
unfolding clap_on_literals line
no_request_with_plus = refl

no_request_below_zero : request_of (codes "stream" ∷ codes "--limit=-5" ∷ []) ≡ None
unfolding clap_on_literals line
no_request_below_zero = refl

no_request_below_zero_apart : request_of (codes "stream" ∷ codes "--limit" ∷ codes "-5" ∷ []) ≡ None
unfolding clap_on_literals line
no_request_below_zero_apart = refl

no_request_too_great : request_of (codes "stream" ∷ codes "--limit" ∷ codes "18446744073709551616" ∷ []) ≡ None
unfolding clap_on_literals line
no_request_too_great = refl

no_request_column_too_great : request_of (codes "stream" ∷ codes "--columns" ∷ codes "18446744073709551616" ∷ []) ≡ None
unfolding clap_on_literals line
no_request_column_too_great = refl

no_request_empty_between : request_of (codes "stream" ∷ codes "--columns" ∷ codes "1,,2" ∷ []) ≡ None
unfolding clap_on_literals line
no_request_empty_between = refl

no_request_comma_last : request_of (codes "stream" ∷ codes "--columns" ∷ codes "1," ∷ []) ≡ None
unfolding clap_on_literals line
no_request_comma_last = refl

no_request_space_between : request_of (codes "stream" ∷ codes "--columns" ∷ codes "1, 2" ∷ []) ≡ None
unfolding clap_on_literals line
no_request_space_between = refl

no_request_no_value : request_of (codes "stream" ∷ codes "--limit" ∷ []) ≡ None
unfolding clap_on_literals line
no_request_no_value = refl

no_request_no_value_before : request_of (codes "stream" ∷ codes "--limit" ∷ codes "--raw" ∷ []) ≡ None
unfolding clap_on_literals line
no_request_no_value_before = refl

no_request_two_names : request_of (codes "stream" ∷ codes "F1" ∷ codes "F2" ∷ []) ≡ None
unfolding clap_on_literals line
no_request_two_names = refl

no_request_unknown_option : request_of (codes "stream" ∷ codes "--row" ∷ []) ≡ None
unfolding clap_on_literals line
no_request_unknown_option = refl

no_request_prefix_of_option : request_of (codes "stream" ∷ codes "--lim" ∷ codes "5" ∷ []) ≡ None
unfolding clap_on_literals line
no_request_prefix_of_option = refl

no_request_flag_with_value : request_of (codes "stream" ∷ codes "--raw=true" ∷ []) ≡ None
unfolding clap_on_literals line
no_request_flag_with_value = refl

no_request_short_option : request_of (codes "stream" ∷ codes "-r" ∷ []) ≡ None
unfolding clap_on_literals line
no_request_short_option = refl

no_request_no_such_option : request_of (codes "schema" ∷ codes "--raw" ∷ []) ≡ None
unfolding clap_on_literals line
no_request_no_such_option = refl

asks_for_help : request_of (codes "--help" ∷ []) ≡ None
unfolding clap_on_literals line
asks_for_help = refl

asks_for_help_of_stream : request_of (codes "stream" ∷ codes "--help" ∷ []) ≡ None
unfolding clap_on_literals line
asks_for_help_of_stream = refl

asks_for_version : request_of (codes "--version" ∷ []) ≡ None
unfolding clap_on_literals line
asks_for_version = refl

help_fault : fault_of command_line (codes "--help" ∷ []) ≡ kind.DisplayHelp ∷ []
unfolding clap_on_literals line
help_fault = refl

short_help_fault : fault_of command_line (codes "-h" ∷ []) ≡ kind.DisplayHelp ∷ []
unfolding clap_on_literals line
short_help_fault = refl

help_of_stream : fault_of command_line (codes "stream" ∷ codes "--limit" ∷ codes "x" ∷ codes "--help" ∷ []) ≡ kind.DisplayHelp ∷ []
unfolding clap_on_literals line
help_of_stream = refl

version_fault : fault_of command_line (codes "--version" ∷ []) ≡ kind.DisplayVersion ∷ []
unfolding clap_on_literals line
version_fault = refl

help_too_late : fault_of command_line (codes "stream" ∷ codes "--row" ∷ codes "--help" ∷ []) ≡ kind.UnknownArgument ∷ []
unfolding clap_on_literals line
help_too_late = refl

no_words_fault : fault_of command_line [] ≡ kind.MissingSubcommand ∷ []
unfolding clap_on_literals line
no_words_fault = refl

version_of_stream : fault_of command_line (codes "stream" ∷ codes "--version" ∷ []) ≡ kind.UnknownArgument ∷ []
unfolding clap_on_literals line
version_of_stream = refl

-- a value that begins with a hyphen has to follow =
columns_of_hyphen : request_of (codes "stream" ∷ codes "--columns" ∷ codes "-1" ∷ []) ≡ None
unfolding clap_on_literals line
columns_of_hyphen = refl

-- the empty word is a name
empty_name : request_of (codes "stream" ∷ [] ∷ []) ≡ Some (stream (record { columns = None; limit = None; raw = false; name = Some [] }))
unfolding clap_on_literals line
empty_name = refl

-- -- twice: the second is the name
hyphens_twice : request_of (codes "schema" ∷ codes "--" ∷ codes "--" ∷ []) ≡ Some (schema (Some (codes "--")))
unfolding clap_on_literals line
hyphens_twice = refl

-- after -- an option is no option
option_behind_hyphens : request_of (codes "stream" ∷ codes "--" ∷ codes "F1" ∷ codes "--raw" ∷ []) ≡ None
unfolding clap_on_literals line
option_behind_hyphens = refl

-- Where what `clap` answers has help in it, it has nothing else.
use Rattle.std.proofs.Common.{◌≡◌, ◌+◌, ◌==◌, ◌&&◌, ◌||◌, not, ℕ, zero, suc, Bool, true, false, cond, List, [], ◌∷◌, length, drop, min, Option, Some, None, ap, sym, inl, inr, subst, codes}
use Rattle.std.specs.Prelude.{encode_utf8, slice_get, nat_lt, is_some, find}
use Rattle.std.specs.List.{list_any}
use Rattle.std.specs.Option.{option_map_or}
use Rattle.std.specs.Str.{bytes_eq, chars}
use Rattle.clap.specs.Lexer.{long_of, short_of}
use Rattle.clap.specs.ValueTests.{accepts}
use Rattle.clap.specs.Values.{refused_kind}
use Rattle.clap.specs.Kinds.{IsAmong, Kinds, check_kinds, or_else, range_kinds, request_kinds, value_kinds, values_kinds}
use Rattle.clap.specs.Faults.{action_fault, bundle_step_fault, count_fault, default_fault, defaults_fault, entered_fault, fault_of, flag_word_fault, flags_fault, given_default_fault, level_fault, long_fault, option_fault, other_fault, react_fault, repeat_fault, set_fault, settle_fault, short_fault, step_fault, stray_fault, turn_fault, use_fault, values_fault, walk_fault}
use Rattle.clap.specs.Walk.{action_of, attached_value, count_of, finished, has_row, is_empty, is_pending, most_values, reacted, settled, takes_several, takes_values, values_or_missing, word_met, answers_to, arg_by_id, arg_by_index, arg_by_long, arg_by_short, idle, nothing_held, option, positional, subcommand_met, with_default, Held, Names, Row, Rule, Step, Text, Waiting, Walk, next, trailing, subcommand, value, walk, walked, walk_from}
use Rattle.clap.specs.Simple.{App, Shape, argument_words, built, entered, label_of, names_of}
use Rattle.clap.specs.Facts.{explicit_source, parser_of_value, unwrap_or_range}
use Rattle.clap.specs.Matches.{count_text}
use Rattle.clap.specs.Takes.{is_given}
use Rattle.clap.specs.declared.builder.action.ArgAction.{ArgAction}
use Rattle.clap.specs.declared.builder.action.ArgAction.TheVariants as action
use Rattle.clap.specs.declared.builder.value_parser.ValueParser.{ValueParser}
use Rattle.clap.specs.declared.error.kind.ErrorKind.{ErrorKind}
use Rattle.clap.specs.declared.error.kind.ErrorKind.TheVariants as kind
use Rattle.ipc_words.specs.Help.{is_help, shows_help}

-- help stands alone among the kinds
pub record Pure (kinds : Kinds) : Type 0 where
  pub alone : (k : ErrorKind) → IsAmong k kinds → is_help k ≡ shows_help kinds

pub none : Pure []
none = record { alone = λ k h. absurd h }

pub one : (x : ErrorKind) → Pure (x ∷ [])
one x = record { alone = one_alone x }
  where
    one_alone : (y : ErrorKind) (k : ErrorKind) → IsAmong k (y ∷ []) → is_help k ≡ shows_help (y ∷ [])
    one_alone y k (inl e) = ap is_help e
    one_alone y k (inr h) = absurd h

stray : Pure (kind.UnknownArgument ∷ kind.InvalidSubcommand ∷ [])
stray = record { alone = stray_alone }
  where
    stray_alone : (k : ErrorKind) → IsAmong k (kind.UnknownArgument ∷ kind.InvalidSubcommand ∷ []) → is_help k ≡ false
    stray_alone k (inl e) = ap is_help e
    stray_alone k (inr (inl e)) = ap is_help e
    stray_alone k (inr (inr h)) = absurd h

either : (a b : Kinds) → Pure a → Pure b → Pure (or_else a b)
either [] b p q = q
either (x ∷ xs) b p q = p

choice : (t : Bool) (a b : Kinds) → Pure a → Pure b → Pure (cond t a b)
choice true a b p q = p
choice false a b p q = q

optional : {A : Type 0} (f : A → Kinds) (o : Option A) → ((x : A) → Pure (f x)) → Pure (option_map_or f o [])
optional f None h = none
optional f (Some x) h = h x

-- ── one use ──

value_pure : (i : Bool) (p : ValueParser) (t : Text) → Pure (value_kinds i p t)
value_pure i p t = choice (accepts i p t) [] (refused_kind p ∷ []) none (one (refused_kind p))

values_pure : (i : Bool) (p : ValueParser) (ts : List Text) → Pure (values_kinds i p ts)
values_pure i p [] = none
values_pure i p (t ∷ ts) = either (value_kinds i p t) (values_kinds i p ts) (value_pure i p t) (values_pure i p ts)

request_pure : (a : ArgAction) → Pure (request_kinds a)
request_pure action.Help = one kind.DisplayHelp
request_pure action.HelpShort = one kind.DisplayHelp
request_pure action.HelpLong = one kind.DisplayHelp
request_pure action.Version = one kind.DisplayVersion
request_pure _ = none

range_pure : (least most n : ℕ) → Pure (range_kinds least most n)
range_pure least most n =
    choice (nat_lt 0 least && n == 0) _ _ (one kind.InvalidValue)
    (choice (least == most) _ _ (choice (least == n) _ _ none (one kind.WrongNumberOfValues))
    (choice (nat_lt n least) _ _ (one kind.TooFewValues) (choice (nat_lt most n) _ _ (one kind.TooManyValues) none)))

check_pure : (a b c : Bool) → Pure (check_kinds a b c)
check_pure a b c =
    choice a _ _ (one kind.DisplayHelpOnMissingArgumentOrSubcommand) (choice b _ _ (one kind.MissingSubcommand) (choice c _ _ (one kind.MissingRequiredArgument) none))

optional_or : {A : Type 0} (f : A → Kinds) (o : Option A) (d : Kinds) → ((x : A) → Pure (f x)) → Pure d → Pure (option_map_or f o d)
optional_or f None d h k = k
optional_or f (Some x) d h k = h x

count_pure : (a : Rule) (vs : List Text) (rows : List Row) → Pure (count_fault a vs rows)
count_pure a [] rows = value_pure a.ignore_case (parser_of_value a.parser) (count_text (min (count_of a.id rows + 1) 255))
count_pure a (v ∷ vs) rows = values_pure a.ignore_case (parser_of_value a.parser) (v ∷ vs)

set_pure : (again : Bool) (a : Rule) (vs : List Text) (rows : List Row) → Pure (set_fault again a vs rows)
set_pure again a vs rows = either (repeat_fault again a.id rows) (values_fault a vs) (choice (has_row a.id rows && not again) (kind.ArgumentConflict ∷ []) [] (one kind.ArgumentConflict) none) (values_pure a.ignore_case (parser_of_value a.parser) vs)

action_pure : (x : ArgAction) (again : Bool) (a : Rule) (vs : List Text) (rows : List Row) → Pure (action_fault x again a vs rows)
action_pure action.Set again a vs rows = set_pure again a vs rows
action_pure action.SetTrue again a vs rows = set_pure again a vs rows
action_pure action.SetFalse again a vs rows = set_pure again a vs rows
action_pure action.Append again a vs rows = values_pure a.ignore_case (parser_of_value a.parser) vs
action_pure action.Count again a vs rows = count_pure a vs rows
action_pure action.Help again a vs rows = request_pure action.Help
action_pure action.HelpShort again a vs rows = request_pure action.HelpShort
action_pure action.HelpLong again a vs rows = request_pure action.HelpLong
action_pure action.Version again a vs rows = request_pure action.Version

use_pure : (again : Bool) (a : Rule) (vs : List Text) (rows : List Row) → Pure (use_fault again a vs rows)
use_pure again a vs rows = either _ _ (range_pure (unwrap_or_range a.range).start_inclusive (most_values a) (length vs)) (action_pure (action_of a) again a (values_or_missing a vs) rows)

-- ── the walk ──

settle_pure : (c : List Rule) (again : Bool) (h : Held) → Pure (settle_fault c again h)
settle_pure c again h = optional _ h.pending (λ p. optional _ (arg_by_id c p.0) (λ a. use_pure again a p.1 h.rows))

react_pure : (c : List Rule) (again : Bool) (a : Rule) (vs : List Text) (h : Held) → Pure (react_fault c again a vs h)
react_pure c again a vs h = either _ _ (settle_pure c again h) (use_pure again a vs (settled c h).rows)

option_pure : (c : List Rule) (again : Bool) (a : Rule) (v : Option Text) (h : Held) → Pure (option_fault c again a v h)
option_pure c again a (Some v) h = react_pure c again a (v ∷ []) h
option_pure c again a None h = settle_pure c again h

long_pure : (c : List Rule) (again : Bool) (a : Option Rule) (v : Option Text) (h : Held) → Pure (long_fault c again a v h)
long_pure c again None v h = one kind.UnknownArgument
long_pure c again (Some a) v h = choice (takes_values a) _ _ (option_pure c again a v h) (choice (is_some v) _ _ (one kind.TooManyValues) (react_pure c again a [] h))

short_pure : (c : List Rule) (again : Bool) (a : Option Rule) (rest : Text) (h : Held) (after : Held → Kinds) → ((k : Held) → Pure (after k)) → Pure (short_fault c again a rest h after)
short_pure c again None rest h after p = one kind.UnknownArgument
short_pure c again (Some a) rest h after p = choice (takes_values a) _ _ (option_pure c again a (attached_value rest) h) (either _ _ (react_pure c again a [] h) (p (reacted c a [] h)))

step_of_bundle_pure : (c : List Rule) (again : Bool) (x : Option ℕ) (flags : Text) (skip : ℕ) (h : Held) (after : Text → ℕ → Held → Kinds) → ((f : Text) (n : ℕ) (k : Held) → Pure (after f n k)) → Pure (bundle_step_fault c again x flags skip h after)
step_of_bundle_pure c again None flags skip h after p = none
step_of_bundle_pure c again (Some x) flags zero h after p = short_pure c again (arg_by_short c x) (drop (length (encode_utf8 x)) flags) h (after (drop (length (encode_utf8 x)) flags) 0) (λ k. p (drop (length (encode_utf8 x)) flags) 0 k)
step_of_bundle_pure c again (Some x) flags (suc skip) h after p = p (drop (length (encode_utf8 x)) flags) skip h

flags_pure : (c : List Rule) (again : Bool) (k : ℕ) (flags : Text) (skip : ℕ) (h : Held) → Pure (flags_fault c again k flags skip h)
unfolding flags_fault
flags_pure c again zero flags skip h = none
flags_pure c again (suc k) flags skip h = step_of_bundle_pure c again (slice_get (chars flags) 0) flags skip h (flags_fault c again k) (λ f n m. flags_pure c again k f n m)

flag_word_pure : (c : List Rule) (again : Bool) (p : Option (Text × Option Text)) (word : Text) (h : Held) → Pure (flag_word_fault c again p word h)
flag_word_pure c again (Some p) word h = long_pure c again (arg_by_long c p.0) p.1 h
flag_word_pure c again None word h = optional _ (short_of word) (λ flags. flags_pure c again (length flags) flags h.skip (record h { skip = 0 }))

no_command_pure : (s : Shape) (word : Text) (h : Held) → Pure (other_fault s None word h)
no_command_pure s word h = choice (bytes_eq word (45 ∷ 45 ∷ [])) _ _ none (flag_word_pure s.rules s.args_override_self (long_of word) word h)

never : (b : Bool) (a c : Kinds) → Pure c → Pure (cond (b && not true) a c)
never true a c p = p
never false a c p = p

other_pure : (s : Shape) (met : Option Text) (word : Text) (h : Held) → s.disable_help_subcommand ≡ true → Pure (other_fault s met word h)
other_pure s None word h e = no_command_pure s word h
other_pure s (Some name) word h e = subst (λ d. Pure (cond (bytes_eq name (codes "help") && not d) (kind.DisplayHelp ∷ kind.InvalidSubcommand ∷ []) [])) (sym e) (never (bytes_eq name (codes "help")) _ [] none)

-- no word at this level is met by the command help
abbrev Level : Shape → Names → Type 0
Level s names = (waiting : Waiting) (word : Text) (h : Held) → Pure (other_fault s (subcommand_met names waiting word) word h)

top_level : (s : Shape) (names : Names) → s.disable_help_subcommand ≡ true → Level s names
top_level s names e = λ waiting word h. other_pure s (subcommand_met names waiting word) word h e

low_level : (s : Shape) → Level s []
low_level s idle word h = no_command_pure s word h
low_level s (option id) word h = no_command_pure s word h
low_level s positional word h = no_command_pure s word h

place_pure : (s : Shape) (position : ℕ) (h : Held) (step : Step) → Pure (step_fault s position h step)
place_pure s position h value = optional_or _ (arg_by_index s.rules position) (stray_fault s) (λ a. choice (is_pending a h.pending && takes_several a) _ _ none (settle_pure s.rules s.args_override_self h)) (choice s.is_leaf _ _ (one kind.UnknownArgument) stray)
place_pure s position h (next w) = none
place_pure s position h (trailing p) = none
place_pure s position h (subcommand n) = none

turn_pure : (s : Shape) (names : Names) (w : Walk) (word : Text) → Level s names → Pure (turn_fault s names w word)
turn_pure s names w word level =
    let met = word_met s.rules names w.is_trailing w.waiting w.position word w.held in
    choice (is_some w.stopped) _ _ none (either _ _ (choice w.is_trailing _ _ none (level w.waiting word w.held)) (place_pure s w.position met.0 met.1))

walk_pure : (s : Shape) (names : Names) (w : Walk) (words : List Text) → Level s names → Pure (walk_fault s names w words)
unfolding walk_fault
walk_pure s names w [] level = none
walk_pure s names w (word ∷ rest) level = either _ _ (turn_pure s names w word level) (walk_pure s names (walked s.rules names w word) rest level)

-- ── after the walk ──

default_pure : (rows : List Row) (a : Rule) → Pure (default_fault rows a)
default_pure rows a = choice (has_row a.id rows || is_empty a.defaults) [] (given_default_fault a a.defaults) none (either _ _ (request_pure (action_of a)) (values_pure a.ignore_case (parser_of_value a.parser) a.defaults))

defaults_pure : (rows : List Row) (rules : List Rule) → Pure (defaults_fault rows rules)
unfolding defaults_fault
defaults_pure rows [] = none
defaults_pure rows (a ∷ rest) = either _ _ (default_pure rows a) (defaults_pure (with_default rows a) rest)

level_pure : (s : Shape) (names : Names) (h : Held) (words : List Text) (has : Bool) (below : Kinds) → Level s names → Pure below → Pure (level_fault s names h words has below)
level_pure s names h words has below level p =
    let end = (walk s.rules names h words).held in
    let rows = finished s.rules end in
    either _ _ (walk_pure s names (walk_from h) words level) (either _ _ p (either _ _ (settle_pure s.rules s.args_override_self end) (either _ _ (defaults_pure (settled s.rules end).rows s.rules)
    (check_pure (not has && (s.arg_required_else_help && not (list_any (λ r. explicit_source r.source) rows))) (not has && s.subcommand_required)
    (not (s.subcommand_negates_reqs && has) && list_any (λ a. a.required && not (is_given a.id rows)) s.rules)))))

entered_pure : (a : App) (stop : Option (Text × List Text)) → Pure (entered_fault a stop)
entered_pure a stop = optional _ stop (λ p. optional _ (find (λ s. answers_to p.0 (label_of s)) a.subs) (λ s. level_pure s [] nothing_held p.1 false [] (low_level s) none))

pub fault_pure : (a : App) (words : List Text) → (built a).top.disable_help_subcommand ≡ true → Pure (fault_of a words)
fault_pure a words e =
    let stop = (walk (built a).top.rules (names_of (built a)) nothing_held (argument_words a words)).stopped in
    level_pure (built a).top (names_of (built a)) nothing_held (argument_words a words) (is_some (entered (built a) stop)) (entered_fault (built a) stop) (top_level (built a).top (names_of (built a)) e) (entered_pure (built a) stop)

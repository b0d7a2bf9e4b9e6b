-- What words ask for.
use Rattle.std.specs.Prelude.{ℕ, List, [], ◌∷◌, Bool, false, Option, Some, None, codes, find, if◌then◌else◌, map, option_map, option_and_then}
use Rattle.std.specs.Str.{bytes_eq}
use Rattle.std.specs.Option.{option_map_or}
use Rattle.clap.specs.Walk.{Row, Rule, Text, all_of, first_of}
use Rattle.clap.specs.Simple.{App, Shape, new_shape, subcommand_of}
use Rattle.clap.specs.Faults.{fault_of}
use Rattle.clap.specs.Kinds.{Kinds}
use Rattle.ipc_words.specs.CommandLine as line
use Rattle.ipc_words.specs.Filters.{filter_of}
use Rattle.ipc_words.specs.Numbers.{decimal_of, numbers_of}
use Rattle.filter_types.specs.declared.filter.Filter.{Filter}

-- stream [--columns LIST] [--limit N] [--raw] [NAME]
pub record Stream : Type 0 where
  -- all of them where there is none
  pub columns : Option (List ℕ)
  -- all rows where there is none
  pub limit : Option ℕ
  -- as bytes, else as hex text
  pub raw : Bool
  -- the input where there is none
  pub name : Option Text

-- cat [--raw] NAME..
pub record Cat : Type 0 where
  -- as bytes, else as hex text
  pub raw : Bool
  -- one or more
  pub names : List Text

-- file [--raw] [NAME]
pub record File : Type 0 where
  -- as bytes, else as hex text
  pub raw : Bool
  -- the input where there is none
  pub name : Option Text

-- scan FILTER [--columns LIST] [--raw] [NAME]
pub record Scan : Type 0 where
  pub filter : Filter
  -- all of them where there is none
  pub columns : Option (List ℕ)
  -- as bytes, else as hex text
  pub raw : Bool
  -- the input where there is none
  pub name : Option Text

-- csv [--columns LIST] [--limit N] [NAME]
pub record Csv : Type 0 where
  -- all of them where there is none
  pub columns : Option (List ℕ)
  -- all rows where there is none
  pub limit : Option ℕ
  -- the input where there is none
  pub name : Option Text

-- log [--append] [--raw] TARGET
pub record Log : Type 0 where
  -- the input's stream is appended, else the log's table is written
  pub appends : Bool
  -- as bytes, else as hex text
  pub raw : Bool
  pub target : Text

-- a request
pub data Request : Type 0 where
  stream : Stream → Request
  -- the name of the file, or the input
  schema : Option Text → Request
  -- the same
  rows : Option Text → Request
  -- the name of the file that the input's stream is appended to
  append : Text → Request
  -- the number that the rows begin with
  gen : ℕ → Request
  cat : Cat → Request
  file : File → Request
  scan : Scan → Request
  csv : Csv → Request
  log : Log → Request

-- ── what the options and places of a command say, by the rows that `clap` found ──

-- an option that is absent asks for all; one that is there has to be read
abbrev pub read_if_there : {A : Type 0} → (Text → Option A) → Option Text → Option (Option A)
read_if_there read None = Some None
read_if_there read (Some text) = option_map (λ x. Some x) (read text)

-- --columns LIST
abbrev pub columns_in : List Row → Option (Option (List ℕ))
columns_in found = read_if_there numbers_of (first_of (codes "columns") found)

-- --limit N
abbrev pub limit_in : List Row → Option (Option ℕ)
limit_in found = read_if_there decimal_of (first_of (codes "limit") found)

-- a flag was given, whose one value is `true` then, and else `false`
abbrev pub is_on : Text → List Row → Bool
is_on id found = option_map_or (λ text. bytes_eq text (codes "true")) (first_of id found) false

abbrev pub raw_in : List Row → Bool
raw_in found = is_on (codes "raw") found

-- the name `-` (45) stands for the input
abbrev pub unless_input : Text → Option Text
unless_input text = if bytes_eq text (45 ∷ []) then None else Some text

-- [NAME]
abbrev pub name_in : List Row → Option Text
name_in found = option_and_then unless_input (first_of (codes "NAME") found)

abbrev pub one_or_more : List Text → Option (List Text)
one_or_more [] = None
one_or_more (text ∷ others) = Some (text ∷ others)

-- NAME.., where `-` is a name like any other
abbrev pub names_in : List Row → Option (List Text)
names_in found = option_and_then one_or_more (all_of (codes "NAME") found)

-- FILTER
abbrev pub filter_in : List Row → Option Filter
filter_in found = option_and_then filter_of (first_of (codes "FILTER") found)

-- TARGET, where `-` is a name like any other
abbrev pub target_in : List Row → Option Text
target_in found = first_of (codes "TARGET") found

-- N
abbrev pub number_in : List Row → Option ℕ
number_in found = option_and_then decimal_of (first_of (codes "N") found)

-- ── the commands ──

-- a command: its name, its options and its words by place, and what they ask for
pub record Entry : Type 0 where
  pub name : Text
  pub rules : List Rule
  pub asks : List Row → Option Request

abbrev pub stream_entry : Entry
stream_entry = record {
  name = codes "stream";
  rules = line.columns ∷ line.limit ∷ line.raw ∷ line.name ∷ [];
  asks = λ found. option_and_then (λ columns. option_map (λ limit. stream (record {
    columns = columns;
    limit = limit;
    raw = raw_in found;
    name = name_in found;
  })) (limit_in found)) (columns_in found);
}

abbrev pub schema_entry : Entry
schema_entry = record {
  name = codes "schema";
  rules = line.name ∷ [];
  asks = λ found. Some (schema (name_in found));
}

abbrev pub rows_entry : Entry
rows_entry = record {
  name = codes "rows";
  rules = line.name ∷ [];
  asks = λ found. Some (rows (name_in found));
}

abbrev pub append_entry : Entry
append_entry = record {
  name = codes "append";
  rules = line.target ∷ [];
  asks = λ found. option_map append (target_in found);
}

abbrev pub gen_entry : Entry
gen_entry = record {
  name = codes "gen";
  rules = line.number ∷ [];
  asks = λ found. option_map gen (number_in found);
}

abbrev pub cat_entry : Entry
cat_entry = record {
  name = codes "cat";
  rules = line.raw ∷ line.names ∷ [];
  asks = λ found. option_map (λ names. cat (record { raw = raw_in found; names = names })) (names_in found);
}

abbrev pub file_entry : Entry
file_entry = record {
  name = codes "file";
  rules = line.raw ∷ line.name ∷ [];
  asks = λ found. Some (file (record { raw = raw_in found; name = name_in found }));
}

abbrev pub scan_entry : Entry
scan_entry = record {
  name = codes "scan";
  rules = line.filter ∷ line.columns ∷ line.raw ∷ line.name ∷ [];
  asks = λ found. option_and_then (λ filter. option_map (λ columns. scan (record {
    filter = filter;
    columns = columns;
    raw = raw_in found;
    name = name_in found;
  })) (columns_in found)) (filter_in found);
}

abbrev pub csv_entry : Entry
csv_entry = record {
  name = codes "csv";
  rules = line.columns ∷ line.limit ∷ line.name ∷ [];
  asks = λ found. option_and_then (λ columns. option_map (λ limit. csv (record {
    columns = columns;
    limit = limit;
    name = name_in found;
  })) (limit_in found)) (columns_in found);
}

abbrev pub log_entry : Entry
log_entry = record {
  name = codes "log";
  rules = line.append ∷ line.raw ∷ line.target ∷ [];
  asks = λ found. option_map (λ target. log (record {
    appends = is_on (codes "append") found;
    raw = raw_in found;
    target = target;
  })) (target_in found);
}

-- all commands, in the order in which help lists them
unfoldable pub commands : List Entry
commands =
    stream_entry ∷
    schema_entry ∷
    rows_entry ∷
    append_entry ∷
    gen_entry ∷
    cat_entry ∷
    file_entry ∷
    scan_entry ∷
    csv_entry ∷
    log_entry ∷
    []

-- a command as `clap` reads it
abbrev pub shape_of : Entry → Shape
shape_of e = record (new_shape e.name) { rules = e.rules }

unfoldable pub command_line : App
command_line = line.program (map shape_of commands)

-- what a command asks for, by its name and what `clap` found of its own words
unfoldable pub asked_by : Text → List Row → Option Request
asked_by name found = option_and_then (λ (e : Entry). e.asks found) (find (λ (e : Entry). bytes_eq name e.name) commands)

abbrev pub asked : Option (Text × List Row) → Option Request
asked command = option_and_then (λ p. asked_by p.0 p.1) command

-- where `clap` finds no fault
abbrev pub unless_fault : Kinds → Option Request → Option Request
unless_fault [] request = request
unless_fault (k ∷ ks) request = None

-- What the words after the program's name ask for: `clap` finds no fault with them, and what it finds in them is a request.
unfoldable pub request_of : List Text → Option Request
request_of words = unless_fault (fault_of command_line words) (asked (subcommand_of command_line words))

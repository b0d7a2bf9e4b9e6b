-- The dictionaries of a file as they are sent in a stream: their values' columns, part by part. (Arrow Columnar Format, "Dictionary Messages".)
use Rattle.std.specs.Prelude.{◌≡◌, ℕ, suc, ◌+◌, ◌^◌, ◌<◌, List, [], ◌∷◌, ◌++◌, length, Bool, true, false, Option, Some, None, not, nat_le, ◌-◌, sum_by, if◌then◌else◌, ℤ, pos}
use Rattle.std.specs.List.{AllByRecursion}
use Rattle.arrow_spec.specs.Flat.{little}
use Rattle.arrow_spec.specs.Kinds as kind
use Rattle.arrow_spec.specs.Kinds.{Kind, Fields, none, field, «list», fixed_size_list, struct, union, dictionary, extension, dictionary_count, numbered_kind, same}
use Rattle.arrow_spec.specs.Cells.{Cell}
use Rattle.arrow_spec.specs.Counts.{Written, first_place}
use Rattle.arrow_spec.specs.Arrays.{Dictionaries, found}
use Rattle.arrow_spec.specs.Readings.{is_absent}
use Rattle.arrow_spec.specs.Sent.{no_source, node_rows, sent_under, written}
use Rattle.arrow_spec.specs.Bodies.{NodeFits}
use Rattle.ipc_write_laws.specs.Columns.{WrittenColumn, Means}
use Rattle.ipc_write_laws.specs.Streams.{written_of}
use Rattle.ipc_write_laws.specs.Messages.{IsKnown, Known, WrittenValues}

-- ── what was read ──

-- each dictionary that is no delta is the first of its id, as in a file
abbrev pub NoneReplaced : Dictionaries → Type 0
NoneReplaced [] = Unit {0}
NoneReplaced (x ∷ e) = (x.is_delta ≡ false → found e x.id ≡ None) × NoneReplaced e

abbrev pub cells_or_none : Option (List Cell) → List Cell
cells_or_none None = []
cells_or_none (Some cells) = cells

-- The messages of an id's parts in order, each with those before it; a dictionary that was never read is one empty part, without messages.
abbrev pub histories_before : Bool → List Dictionaries → List Dictionaries
histories_before false hs = []
histories_before true hs = hs

abbrev pub histories : Dictionaries → ℤ → List Dictionaries
histories [] id = []
histories (x ∷ e) id = if same x.id id then histories_before x.is_delta (histories e id) ++ (x ∷ e) ∷ [] else histories e id

abbrev pub or_never_read : List Dictionaries → List Dictionaries
or_never_read [] = [] ∷ []
or_never_read (h ∷ hs) = h ∷ hs

-- ── columns of parts ──

-- Under the ids that count from a number on, the dictionaries that stand outermost in a kind are known as they were read under the kind's own ids; and those in fields.
abbrev mutual
  pub AreKnown : Dictionaries → Kind → ℕ → Known → Type 0
  AreKnown e («list» o fs) id c = AllAreKnown e fs id c
  AreKnown e (fixed_size_list n fs) id c = AllAreKnown e fs id c
  AreKnown e (struct fs) id c = AllAreKnown e fs id c
  AreKnown e (kind.map sorted fs) id c = AllAreKnown e fs id c
  AreKnown e (union mode stated ids fs) id c = AllAreKnown e fs id c
  AreKnown e (dictionary t ordered old k) id c = c (pos id) ≡ Some (cells_or_none (found e old))
  AreKnown e (extension name metadata k) id c = AreKnown e k id c
  AreKnown e k id c = Unit {0}

  pub AllAreKnown : Dictionaries → Fields → ℕ → Known → Type 0
  AllAreKnown e none id c = Unit {0}
  AllAreKnown e (field name nullable metadata k others) id c = AreKnown e k id c × AllAreKnown e others (id + dictionary_count k) c

-- the column of a part's values, by the messages up to it, as it is written under a kind whose ids count from a number on
abbrev pub Columns : Type 0
Columns = Dictionaries → Kind → ℕ → WrittenColumn

-- the message that a part was read of, and the dictionaries that it was read under
abbrev pub part_written : Kind → Dictionaries → Written
part_written k [] = written no_source k first_place 0 0 0
part_written k (x ∷ e) = x.written

abbrev pub part_cells : Dictionaries → List Cell
part_cells [] = []
part_cells (x ∷ e) = x.cells

abbrev pub read_under : Dictionaries → Dictionaries
read_under [] = []
read_under (x ∷ e) = e

-- A part's column is what the part is written with, and means its cells in a stream that knows the dictionaries that it was read under.
pub record IsColumnOf (h : Dictionaries) (k : Kind) (id : ℕ) (c : WrittenColumn) : Type 0 where
  pub kind : c.kind ≡ numbered_kind k id
  pub written : written_of (c ∷ []) ≡ part_written k h
  pub cells : c.cells ≡ part_cells h
  pub good : (a : Known) (d : Dictionaries) → AreKnown (read_under h) k id a → IsKnown a d → Means little d (length (part_cells h)) c
  pub rows : node_rows c.nodes ≡ length (part_cells h)
  pub few : length (part_cells h) < 2 ^ 63
  pub nodes : AllByRecursion NodeFits c.nodes
  pub views : AllByRecursion (λ n. n < 2 ^ 63) c.views

-- the parts that may be sent: the first, and each further one that holds cells
abbrev pub holding : List Dictionaries → List Dictionaries
holding [] = []
holding (h ∷ hs) = if nat_le (length (part_cells h)) 0 then holding hs else h ∷ holding hs

abbrev pub sendable : List Dictionaries → List Dictionaries
sendable [] = []
sendable (h ∷ hs) = h ∷ holding hs

-- There is such a column of each part that may be sent, for each dictionary that stands in a kind at any depth, under ids that count from a number on.
abbrev mutual
  pub HaveColumns : Columns → Dictionaries → Kind → ℕ → Type 0
  HaveColumns columns d («list» o fs) id = AllHaveColumns columns d fs id
  HaveColumns columns d (fixed_size_list n fs) id = AllHaveColumns columns d fs id
  HaveColumns columns d (struct fs) id = AllHaveColumns columns d fs id
  HaveColumns columns d (kind.map sorted fs) id = AllHaveColumns columns d fs id
  HaveColumns columns d (union mode stated ids fs) id = AllHaveColumns columns d fs id
  HaveColumns columns d (dictionary t ordered old k) id =
      AllByRecursion (λ h. IsColumnOf h k (suc id) (columns h k (suc id))) ([] ∷ sendable (histories d old)) × HaveColumns columns d k (suc id)
  HaveColumns columns d (extension name metadata k) id = HaveColumns columns d k id
  HaveColumns columns d k id = Unit {0}

  pub AllHaveColumns : Columns → Dictionaries → Fields → ℕ → Type 0
  AllHaveColumns columns d none id = Unit {0}
  AllHaveColumns columns d (field name nullable metadata k others) id = HaveColumns columns d k id × AllHaveColumns columns d others (id + dictionary_count k)

-- ── what is sent ──

-- values so far, in order, and how many cells were sent under each new id
pub record SentValues : Type 0 where
  pub values : List WrittenValues
  pub counts : List (ℕ × ℕ)

abbrev pub no_values : SentValues
no_values = record { values = []; counts = [] }

-- the parts that hold cells from a number on; where nothing was sent yet, the first part and each further one that holds cells
abbrev pub histories_beyond : ℕ → List Dictionaries → List Dictionaries
histories_beyond n [] = []
histories_beyond n (h ∷ hs) = if nat_le (length (part_cells h)) n then histories_beyond (n - length (part_cells h)) hs else h ∷ histories_beyond 0 hs

abbrev pub histories_to_send : Option ℕ → List Dictionaries → List Dictionaries
histories_to_send None [] = []
histories_to_send None (h ∷ hs) = h ∷ histories_beyond 0 hs
histories_to_send (Some n) hs = histories_beyond n hs

-- the values of a part under an id
abbrev pub values_at : Columns → Kind → ℕ → Bool → Dictionaries → WrittenValues
values_at columns k id is_delta h = record { id = pos id; is_delta = is_delta; rows = length (part_cells h); column = columns h k (suc id) }

abbrev pub also_values : WrittenValues → SentValues → SentValues
also_values x s = record { values = s.values ++ x ∷ []; counts = s.counts }

-- parts in order, each behind what its inner dictionaries need; all but the first are deltas, and it too where it follows others
abbrev pub send_each : Columns → (Dictionaries → SentValues → SentValues) → Kind → ℕ → Bool → List Dictionaries → SentValues → SentValues
send_each columns inner k id is_delta [] s = s
send_each columns inner k id is_delta (h ∷ hs) s =
    send_each columns inner k id true hs (also_values (values_at columns k id is_delta h) (inner (read_under h) s))

abbrev pub count_values : ℕ → List Dictionaries → SentValues → SentValues
count_values id hs s = record { values = s.values; counts = (id, sum_by (λ h. length (part_cells h)) hs) ∷ s.counts }

abbrev pub send_values : Columns → (Dictionaries → SentValues → SentValues) → Kind → ℕ → List Dictionaries → SentValues → SentValues
send_values columns inner k id hs s =
    count_values id hs (send_each columns inner k id (not (is_absent (sent_under s.counts id))) (histories_to_send (sent_under s.counts id) hs) s)

-- the values of the dictionaries of a kind that was read under some, inner ones first, whose ids count from a number on; and of fields
abbrev mutual
  pub send_of : Columns → Dictionaries → Kind → ℕ → SentValues → SentValues
  send_of columns d («list» o fs) id s = send_all columns d fs id s
  send_of columns d (fixed_size_list n fs) id s = send_all columns d fs id s
  send_of columns d (struct fs) id s = send_all columns d fs id s
  send_of columns d (kind.map sorted fs) id s = send_all columns d fs id s
  send_of columns d (union mode stated ids fs) id s = send_all columns d fs id s
  send_of columns d (dictionary t ordered old k) id s = send_values columns (λ e u. send_of columns e k (suc id) u) k id (or_never_read (histories d old)) s
  send_of columns d (extension name metadata k) id s = send_of columns d k id s
  send_of columns d k id s = s

  pub send_all : Columns → Dictionaries → Fields → ℕ → SentValues → SentValues
  send_all columns d none id s = s
  send_all columns d (field name nullable metadata k others) id s = send_all columns d others (id + dictionary_count k) (send_of columns d k id s)

-- the values of a schema's dictionaries
abbrev pub dictionary_values : Columns → Dictionaries → Fields → List WrittenValues
dictionary_values columns d fs = (send_all columns d fs 0 no_values).values

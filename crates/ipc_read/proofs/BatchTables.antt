-- The tables of a record batch: when it is refused before its columns are read, and what it means with them.
use Rattle.std.proofs.Common.{◌≡◌, ℕ, suc, List, [], ◌∷◌, Option, Some, None, Result, Ok, Err, Bool, true, false, refl, sym, ap, ◌∙◌, subst, inl, ℤ, pos, negsuc, arith}
use Rattle.std.specs.Prelude.{length, nat_le, IfSome}
use Rattle.std.proofs.lemmas.Bool.{le-leb}
use Rattle.arrow_spec.specs.declared.error.IpcError.{IpcError}
use Rattle.arrow_spec.specs.declared.error.IpcError.TheVariants.{OutOfSpec, Unsupported}
use Rattle.arrow_spec.specs.declared.error.Feature.TheVariants as features
use Rattle.arrow_spec.specs.declared.error.OutOfSpecKind.TheVariants as kinds
use Rattle.arrow_spec.specs.declared.message.MetadataVersion.{MetadataVersion}
use Rattle.arrow_spec.specs.Readings.{bind, Reading, IsAmong, Refuses, Gives, refusals, damaged, free_of, ◌>>=◌, natural}
use Rattle.arrow_spec.specs.Messages.{BatchHeader}
use Rattle.arrow_spec.specs.Flat.{Order, order_by}
use Rattle.arrow_spec.specs.Cells.{Cell}
use Rattle.arrow_spec.specs.Kinds.{Fields, none, field, width}
use Rattle.arrow_spec.specs.Counts.{RecordBatch, Place, after, first_place, is_negative, magnitude}
use Rattle.arrow_spec.specs.Columns.{columns_at, is_chosen, chosen_faults, chosen_cells}
use Rattle.arrow_spec.specs.Features.{chosen_floats}
use Rattle.arrow_spec.specs.Files.{batch_of_tables, to_read, none_negative, lengths_sum, record_batch_of, share, as_asked}
use Rattle.arrow_spec.specs.declared.message.FieldNode.{FieldNode}
use Rattle.arrow_spec.specs.declared.message.IpcBuffer.{IpcBuffer}
use Rattle.std.specs.Prelude.{nat_eq}
use Rattle.arrow_types.specs.Schemas.{Keyed}
use Rattle.arrow_arrays.specs.Parts.{Parts}
use Rattle.arrow_arrays.specs.Batches.{have_rows, batch_fault}
use Rattle.ipc_read.specs.Queues.{Left, BatchAt}
use Rattle.ipc_read.specs.Batches.{AreQueuesOf, MayBeRead, batch_reading, columns_asked}
use Rattle.arrow_spec.specs.Arrays.{Dictionaries}
use Rattle.ipc_read_laws.specs.Held.{Held, HoldsCells}
use Rattle.ipc_read_laws.specs.Projection.{are_rising, are_columns, chosen}
use Rattle.ipc_read.proofs.Chosen.{asked_are_chosen}
use Rattle.ipc_read.specs.Sources.{Told, Known, bytes_in}
use Rattle.ipc_read.specs.declared.body.Body.{Body}
use Rattle.ipc_read.proofs.Refusals.{refuses_none}

natural_negative : (z : ℤ) → is_negative z ≡ true → natural z ≡ damaged kinds.UnexpectedNegativeInteger
natural_negative (pos n) h = cc
natural_negative (negsuc n) h = refl

pub is_natural : (z : ℤ) → is_negative z ≡ false → z ≡ pos (magnitude z)
is_natural (pos n) h = refl
is_natural (negsuc n) h = cc

pub refuses_compressed : (columns : Option (List ℕ)) (limit : Option ℕ) (order : Order) (fs : Fields) (d : Dictionaries) (most : ℕ) (version : MetadataVersion) (tables : BatchHeader) (bytes : List ℕ) → tables.compressed ≡ true → IsAmong (refusals (batch_of_tables to_read (columns_asked columns order fs d most) version [] tables bytes limit)) (Unsupported features.Compression)
unfolding batch_of_tables bind
refuses_compressed columns limit order fs d most version tables bytes h = rw h (inl refl)

pub refuses_length : (columns : Option (List ℕ)) (limit : Option ℕ) (order : Order) (fs : Fields) (d : Dictionaries) (most : ℕ) (version : MetadataVersion) (tables : BatchHeader) (bytes : List ℕ) → tables.compressed ≡ false → is_negative tables.length ≡ true → IsAmong (refusals (batch_of_tables to_read (columns_asked columns order fs d most) version [] tables bytes limit)) (OutOfSpec kinds.UnexpectedNegativeInteger)
unfolding batch_of_tables bind
refuses_length columns limit order fs d most version tables bytes h k = rw (h, natural_negative tables.length k) (inl refl)

pub refuses_buffer : (columns : Option (List ℕ)) (limit : Option ℕ) (order : Order) (fs : Fields) (d : Dictionaries) (most : ℕ) (version : MetadataVersion) (tables : BatchHeader) (bytes : List ℕ) → tables.compressed ≡ false → is_negative tables.length ≡ false → none_negative tables.buffers ≡ false → IsAmong (refusals (batch_of_tables to_read (columns_asked columns order fs d most) version [] tables bytes limit)) (OutOfSpec kinds.UnexpectedNegativeInteger)
unfolding batch_of_tables bind
refuses_buffer columns limit order fs d most version tables bytes h k n = rw (h, is_natural tables.length k, n) (inl refl)

pub refuses_sum : (columns : Option (List ℕ)) (limit : Option ℕ) (order : Order) (fs : Fields) (d : Dictionaries) (most : ℕ) (version : MetadataVersion) (tables : BatchHeader) (bytes : List ℕ) → tables.compressed ≡ false → is_negative tables.length ≡ false → none_negative tables.buffers ≡ true → nat_le (lengths_sum tables.buffers) most ≡ false
    → IsAmong (refusals (batch_of_tables to_read (columns_asked columns order fs d most) version [] tables bytes limit)) (OutOfSpec (kinds.InvalidBuffersLength (lengths_sum tables.buffers) most))
unfolding batch_of_tables bind
refuses_sum columns limit order fs d most version tables bytes h k n s = rw (h, is_natural tables.length k, n, s) (inl refl)

-- ── parts of a meaning ──

-- what refuses the first refuses the whole
pub refused_first : {A B : Type 0} → (r : Reading A) (f : A → Reading B) (e : IpcError) → Refuses e (refusals r) → Refuses e (refusals (r >>= f))
unfolding bind
refused_first (Ok x) f e h = refuses_none (refusals (f x)) e h
refused_first (Err es) f e h = h

-- a place refuses what it names
pub refused_place : (es : List IpcError) (e : IpcError) → Refuses e es → Refuses e (refusals (free_of es))
refused_place [] e h = h
refused_place (x ∷ es) e h = h

pub place_none : {A : Type 0} → (es : List IpcError) (f : Unit {0} → Reading A) → es ≡ [] → (free_of es >>= f) ≡ f tt
unfolding bind
place_none es f h = rw h refl

-- what is made of a value refuses nothing
refused_of : {A B : Type 0} → (r : Reading A) (f : A → B) (e : IpcError) → Refuses e (refusals (r >>= λ x. Ok (f x))) → Refuses e (refusals r)
unfolding bind
refused_of (Ok x) f e h = h
refused_of (Err es) f e h = h

-- where the tables let them be read, what refuses the columns refuses the batch
pub batch_refused : (columns : Option (List ℕ)) (limit : Option ℕ) (is_little : Bool) (fs : Fields) (d : Dictionaries) (most rows few : ℕ) (version : MetadataVersion) (tables : BatchHeader) (bytes : List ℕ) (e : IpcError) → few ≡ share limit rows → MayBeRead tables most rows
    → Refuses e (refusals (columns_at (record_batch_of (order_by is_little) version tables bytes) d columns fs 0 first_place rows few >>= λ all. Ok (chosen columns 0 all)))
    → Refuses e (refusals (batch_of_tables to_read (columns_asked columns (order_by is_little) fs d most) version [] tables bytes limit))
unfolding batch_of_tables bind
batch_refused columns limit is_little fs d most rows few version tables bytes e n h k =
    let in_few : nat_le (lengths_sum tables.buffers) most ≡ true = le-leb _ _ h.few in
    let m = record_batch_of (order_by is_little) version tables bytes in
    let r = refused_of (columns_at m d columns fs 0 first_place rows few) (chosen columns 0) e k in
    rw (h.plain, h.count, h.natural, in_few) (refused_first (columns_at m d columns fs 0 first_place rows (share limit rows)) _ e (subst (λ q. Refuses e (refusals (columns_at m d columns fs 0 first_place rows q))) n r))

-- a meaning of columns, of which these are chosen
record IsMeant (asked : Option (List ℕ)) (r : Reading (List (List Cell))) (cs : List (List Cell)) : Type 0 where
  all : List (List Cell)
  is : r ≡ Ok all
  chosen_are : chosen asked 0 all ≡ cs

-- there is a column for each field
columns_count : (m : RecordBatch) (d : Dictionaries) (asked : Option (List ℕ)) (fs : Fields) (c : ℕ) (p : Place) (rows few : ℕ) (all : List (List Cell)) → columns_at m d asked fs c p rows few ≡ Ok all → length all ≡ width fs
unfolding columns_at bind
columns_count m d asked none c p rows few all h = let e : [] ≡ all = cc in ap length (sym e)
columns_count m d asked (field name nullable metadata k others) c p rows few all h =
    by (free_of (chosen_faults (is_chosen asked c) m d k p rows few)) (columns_at m d asked others (suc c) (after m k p) rows few) (λ rest e. columns_count m d asked others (suc c) (after m k p) rows few rest e) h
  where
    by : (first : Reading (Unit {0})) (r : Reading (List (List Cell))) → ((rest : List (List Cell)) → r ≡ Ok rest → length rest ≡ width others) → (first >>= λ fits. r >>= λ rest. Ok (chosen_cells (is_chosen asked c) m d k p few ∷ rest)) ≡ Ok all → length all ≡ suc (width others)
    by (Ok u) (Ok rest) f h = let e : chosen_cells (is_chosen asked c) m d k p few ∷ rest ≡ all = cc in ap length (sym e) ∙ ap suc (f rest refl)
    by (Ok u) (Err es) f h = cc
    by (Err es) r f h = cc

-- what is chosen of the columns of a meaning
of_chosen : (asked : Option (List ℕ)) (r : Reading (List (List Cell))) (cs : List (List Cell)) → (r >>= λ all. Ok (chosen asked 0 all)) ≡ Ok cs → IsMeant asked r cs
unfolding bind
of_chosen asked (Ok all) cs h = record { all = all; is = refl; chosen_are = cc }
of_chosen asked (Err es) cs h = cc

-- and they mean the batch
pub batch_well : (columns : Option (List ℕ)) (limit : Option ℕ) (is_little : Bool) (fs : Fields) (d : Dictionaries) (most rows few : ℕ) (version : MetadataVersion) (tables : BatchHeader) (bytes : List ℕ) (cs : List (List Cell)) → few ≡ share limit rows → are_rising columns ≡ true → are_columns columns (width fs) ≡ true → MayBeRead tables most rows
    → (columns_at (record_batch_of (order_by is_little) version tables bytes) d columns fs 0 first_place rows few >>= λ all. Ok (chosen columns 0 all)) ≡ Ok cs
    → batch_of_tables to_read (columns_asked columns (order_by is_little) fs d most) version [] tables bytes limit ≡ Ok (record { rows = few; columns = cs; custom = [] })
unfolding batch_of_tables bind
batch_well columns limit is_little fs d most rows few version tables bytes cs e rise range h meant =
    let in_few : nat_le (lengths_sum tables.buffers) most ≡ true = le-leb _ _ h.few in
    let m = record_batch_of (order_by is_little) version tables bytes in
    let x = of_chosen columns (columns_at m d columns fs 0 first_place rows few) cs meant in
    let n : length x.all ≡ width fs = columns_count m d columns fs 0 first_place rows few x.all x.is in
    let same : as_asked columns x.all ≡ cs = asked_are_chosen columns x.all rise (ap (are_columns columns) n ∙ range) ∙ x.chosen_are in
    let is : columns_at m d columns fs 0 first_place rows (share limit rows) ≡ Ok x.all = ap (columns_at m d columns fs 0 first_place rows) (sym e) ∙ x.is in
    rw (h.plain, h.count, h.natural, in_few, is, same, e) refl

-- the kinds that are looked at first
pub reading_refused : (columns : Option (List ℕ)) (limit : Option ℕ) (is_little : Bool) (fs : Fields) (d : Dictionaries) (most : ℕ) (version : MetadataVersion) (tables : BatchHeader) (bytes : List ℕ) (e : IpcError) → Refuses e (chosen_floats columns fs 0) → Refuses e (refusals (batch_reading columns limit is_little fs d most version tables bytes))
reading_refused columns limit is_little fs d most version tables bytes e h = refused_first (free_of (chosen_floats columns fs 0)) _ e (refused_place _ e h)

pub reading_is : (columns : Option (List ℕ)) (limit : Option ℕ) (is_little : Bool) (fs : Fields) (d : Dictionaries) (most : ℕ) (version : MetadataVersion) (tables : BatchHeader) (bytes : List ℕ) → chosen_floats columns fs 0 ≡ [] → batch_reading columns limit is_little fs d most version tables bytes ≡ batch_of_tables to_read (columns_asked columns (order_by is_little) fs d most) version [] tables bytes limit
reading_is columns limit is_little fs d most version tables bytes h = place_none (chosen_floats columns fs 0) _ h

-- ── what is told ──

pub if_some : (content : Option (List ℕ)) (P : List ℕ → Type 0) → ((b : List ℕ) → content ≡ Some b → P b) → IfSome content P
if_some None P h = tt
if_some (Some b) P h = h b refl

pub told_some : (content : Option (List ℕ)) (body : Body) (b : List ℕ) → content ≡ Some b → Told content body (bytes_in body b)
told_some None body b h = cc
told_some (Some x) body b h = let e : x ≡ b = cc in ap (bytes_in body) (sym e)

pub gives_err : {X Y : Type 0} → (view : X → Y) (r : Result X IpcError) (e : IpcError) (read : Reading Y) → r ≡ Err e → Refuses e (refusals read) → Gives view r read
gives_err view (Ok x) e read h k = cc
gives_err view (Err f) e read h k = subst (λ g. Refuses g (refusals read)) (let q : e ≡ f = cc in q) k

pub some_err : {X Y : Type 0} → (r : Result X IpcError) (e : IpcError) (content : Option (List ℕ)) (view : X → Y) (read : List ℕ → Reading Y) → r ≡ Err e → ((b : List ℕ) → Refuses e (refusals (read b))) → IfSome content (λ b. Gives view r (read b))
some_err r e None view read h k = tt
some_err r e (Some b) view read h k = gives_err view r e (read b) h (k b)

first_left : {A : Type 0} → (all rest : List A) → rest ≡ all → Left all 0 rest
first_left all rest h = record { is = h; within = omega arith }

-- the queues of a batch's tables are all of them
pub all_at_first : (is_little : Bool) (version : MetadataVersion) (tables : BatchHeader) (bytes : List ℕ) (ns : List FieldNode) (bs : List IpcBuffer) (vs : List ℤ) → AreQueuesOf tables ns bs vs → BatchAt version (record_batch_of (order_by is_little) version tables bytes) first_place ns bs vs
all_at_first is_little version tables bytes ns bs vs q = record { version = refl; all = record { nodes = first_left tables.nodes ns q.nodes; buffers = first_left tables.buffers bs q.buffers; views = first_left tables.variadic vs q.variadic } }

pub known_some : (content : Option (List ℕ)) (body : Body) (is_little : Bool) (version : MetadataVersion) (tables : BatchHeader) (b : List ℕ) → content ≡ Some b → Known content body is_little (record_batch_of (order_by is_little) version tables (bytes_in body b))
known_some content body is_little version tables b h = record { told = told_some content body b h; order = refl }

-- ── the same under an equal schema, and whatever was read of the dictionaries ──

pub some_held : {X Y : Type 0} → (content : Option (List ℕ)) (view : X → Y) (r : Result X IpcError) (e : IpcError) (h : Held) (read : Dictionaries → List ℕ → Reading Y) → r ≡ Err e → ((d : Dictionaries) (b : List ℕ) → Refuses e (refusals (read d b))) → IfSome content (λ b. (d : Dictionaries) → HoldsCells d h → Gives view r (read d b))
some_held None view r e h read p k = tt
some_held (Some b) view r e h read p k = λ d holds. gives_err view r e (read d b) p (k d b)

pub some_refused : {X Y : Type 0} → (content : Option (List ℕ)) (view : X → Y) (r : Result X IpcError) (e : IpcError) (h : Held) (read : List Keyed → Dictionaries → List ℕ → Reading Y) (s t : List Keyed) → r ≡ Err e → s ≡ t → IfSome content (λ b. (d : Dictionaries) → HoldsCells d h → Refuses e (refusals (read s d b))) → IfSome content (λ b. (d : Dictionaries) → HoldsCells d h → Gives view r (read t d b))
some_refused None view r e h read s t p q g = tt
some_refused (Some b) view r e h read s t p q g = λ d holds. gives_err view r e (read t d b) p (subst (λ u. Refuses e (refusals (read u d b))) q (g d holds))

pub some_given : {Y : Type 0} → (content : Option (List ℕ)) (h : Held) (read : List Keyed → Dictionaries → List ℕ → Reading Y) (s t : List Keyed) (x y : Y) → s ≡ t → x ≡ y → IfSome content (λ b. (d : Dictionaries) → HoldsCells d h → read s d b ≡ Ok x) → IfSome content (λ b. (d : Dictionaries) → HoldsCells d h → read t d b ≡ Ok y)
some_given None h read s t x y q e g = tt
some_given (Some b) h read s t x y q e g = λ d holds. subst (λ u. read u d b ≡ Ok y) q (g d holds ∙ ap Ok e)

pub some_same : {Y : Type 0} → (content : Option (List ℕ)) (h : Held) (parts : ℕ → List Keyed → List ℕ → Y) (s t : List Keyed) (m n : ℕ) (x y : Y) → s ≡ t → m ≡ n → x ≡ y → IfSome content (λ b. (d : Dictionaries) → HoldsCells d h → x ≡ parts m s b) → IfSome content (λ b. (d : Dictionaries) → HoldsCells d h → y ≡ parts n t b)
some_same None h parts s t m n x y q e f g = tt
some_same (Some b) h parts s t m n x y q e f g = λ d holds. sym f ∙ g d holds ∙ ap (λ k. parts k s b) e ∙ ap (λ u. parts n u b) q

-- columns of the batch's rows, one for each field, make a batch
pub batch_fine : (rows : ℕ) (s : List Keyed) (ps : List Parts) → length s ≡ length ps → have_rows rows ps ≡ true → batch_fault (record { height = rows; schema = s; arrays = ps; custom = [] }) ≡ None
batch_fine rows s ps h k = let e : nat_eq (length s) (length ps) ≡ true = grind arith in rw (e, k) refl

-- What a refused call leaves, and why it is refused.
use Rattle.std.proofs.Common.{◌≡◌, sym, subst, inl, inr, ℕ, List, length, Option, Some, None, Ok, arith}
use Rattle.std.proofs.lemmas.List.{take_all}
use Rattle.std.specs.Io.KnownBytes.{Appends}
use Rattle.std.proofs.KnownBytes.{Keeps-refl}
use Rattle.arrow_spec.specs.declared.error.IpcError.{IpcError}
use Rattle.arrow_spec.specs.declared.error.IpcError.TheVariants as errors
use Rattle.arrow_spec.specs.Files.{Request, TableBatch}
use Rattle.arrow_spec.specs.Readings.{Refuses, refusals}
use Rattle.csv_texts.specs.Texts.{printed, table_text}
use Rattle.ipc_io.specs.Outside.{AppendsPrefix}
use Rattle.laws_walk.specs.Below.{FileCause}
use Rattle.laws_walk.specs.Places.{Sending, table_sent, walking}
use Rattle.csv_rows.specs.Output.{PutCause}
use Rattle.ipc_csv.specs.Printing.{CallCause, FileRefused, text_so_far}
use Rattle.ipc_csv.specs.Prints.{AddsPart, AddsRows, AddsRowsInPart, StopsBehind}
use Rattle.ipc_csv.proofs.Forms.{table_is}

-- the sink did not fail
abbrev pub NotOfSink : IpcError → Type 0
NotOfSink errors.WriteFault = ⊥
NotOfSink e = Unit {0}

pub not_of_sink : (e : IpcError) (faults faults' : ℕ) → FileCause e faults faults' → NotOfSink e
not_of_sink errors.WriteFault faults faults' h = h
not_of_sink e faults faults' h = tt

-- nothing was put
pub none_put : (e : IpcError) (b : List ℕ) (r : Request) (o : Option (List ℕ)) → NotOfSink e → AddsPart e b r o o
none_put errors.WriteFault b r o h = absurd h
none_put errors.Memory b r o h = inl (Keeps-refl o)
none_put e b r o h = inl (Keeps-refl o)

pub refused_before : (e : IpcError) (b : List ℕ) (r : Request) (o : Option (List ℕ)) → NotOfSink e → Refuses e (refusals (printed b r None)) → FileRefused e b r o o
refused_before e b r o h refused = record { refused = refused; part = none_put e b r o h }

-- the batches before stand there
abbrev pub rows_stand : (x : Sending) (bs : List TableBatch) (now : Option (List ℕ)) → printed x.bytes x.request (Some (length bs)) ≡ Ok (table_sent (walking x) bs) → Appends x.start now (text_so_far x bs) → AddsRows x.bytes x.request x.start now
rows_stand x bs now means added = record { table = table_sent (walking x) bs; means = means; added = subst (Appends x.start now) (sym (table_is x bs)) added }

-- all of a text is a part of it
whole_part : (old new : Option (List ℕ)) (text : List ℕ) → Appends old new text → AppendsPrefix old new text
whole_part old new text h = (length text, subst (Appends old new) (sym (take_all (length text) text (omega arith))) h)

as_part : (b : List ℕ) (r : Request) (old new : Option (List ℕ)) → AddsRows b r old new → AddsRowsInPart b r old new
as_part b r old new h = record { table = h.table; means = h.means; added = whole_part old new (table_text h.table) h.added }

pub behind_rows : (e : IpcError) (b : List ℕ) (r : Request) (old new : Option (List ℕ)) → NotOfSink e → Refuses e (refusals (printed b r None)) → (rows : AddsRows b r old new) → StopsBehind b r (length rows.table.batches) e → FileRefused e b r old new
behind_rows errors.WriteFault b r old new h refused rows stops = absurd h
behind_rows errors.Memory b r old new h refused rows stops = record { refused = refused; part = inr (as_part b r old new rows) }
behind_rows e b r old new h refused rows stops = record { refused = refused; part = inr (rows, stops) }

-- a part of a text stands there
pub text_stands : (x : Sending) (bs : List TableBatch) (now : Option (List ℕ)) → printed x.bytes x.request (Some (length bs)) ≡ Ok (table_sent (walking x) bs) → AppendsPrefix x.start now (text_so_far x bs) → AddsRowsInPart x.bytes x.request x.start now
text_stands x bs now means added = record { table = table_sent (walking x) bs; means = means; added = subst (AppendsPrefix x.start now) (sym (table_is x bs)) added }

pub not_put : (e : IpcError) (b : List ℕ) (r : Request) (old new : Option (List ℕ)) (faults faults' : ℕ) → PutCause e faults faults' → AddsRowsInPart b r old new → FileRefused e b r old new
not_put errors.WriteFault b r old new faults faults' h part = record { refused = tt; part = part }
not_put errors.Memory b r old new faults faults' h part = record { refused = tt; part = inr part }
not_put e b r old new faults faults' h part = absurd h

-- ── causes ──

pub read_cause : (e : IpcError) (reads reads' writes writes' : ℕ) → FileCause e reads reads' → CallCause e reads reads' writes writes'
read_cause errors.ReadFault reads reads' writes writes' h = h
read_cause errors.WriteFault reads reads' writes writes' h = absurd h
read_cause errors.TooLarge reads reads' writes writes' h = h
read_cause errors.SchemaMismatch reads reads' writes writes' h = h
read_cause (errors.DictionaryReplaced id) reads reads' writes writes' h = h
read_cause errors.NotRepresentable reads reads' writes writes' h = h
read_cause errors.State reads reads' writes writes' h = h
read_cause e reads reads' writes writes' h = tt

pub put_cause : (e : IpcError) (reads reads' writes writes' : ℕ) → PutCause e writes writes' → CallCause e reads reads' writes writes'
put_cause errors.WriteFault reads reads' writes writes' h = h
put_cause errors.Memory reads reads' writes writes' h = tt
put_cause e reads reads' writes writes' h = absurd h

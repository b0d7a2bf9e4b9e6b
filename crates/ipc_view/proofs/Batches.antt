-- Record batches whose bodies are lent, by the columns that are seen.
use Rattle.std.proofs.Common.{◌≡◌, ℕ, suc, List, [], ◌∷◌, Bool, true, false, None, Ok, ℤ, refl, sym, ap, subst, ◌∙◌}
use Rattle.std.specs.Prelude.{not, nat_eq, nat_lt, ◌&&◌}
use Rattle.std.proofs.lemmas.Bool.{and_from, and_parts}
use Rattle.arrow_spec.specs.declared.error.IpcError.{IpcError}
use Rattle.arrow_spec.specs.declared.message.FieldNode.{FieldNode}
use Rattle.arrow_spec.specs.declared.message.IpcBuffer.{IpcBuffer}
use Rattle.arrow_spec.specs.declared.message.MetadataVersion.{MetadataVersion}
use Rattle.arrow_spec.specs.Readings.{Reading, Refuses, bind, refusals, ◌>>=◌}
use Rattle.arrow_spec.specs.Arrays.{Dictionaries}
use Rattle.arrow_spec.specs.Cells.{Cell}
use Rattle.arrow_spec.specs.Columns.{columns_at}
use Rattle.arrow_spec.specs.Counts.{RecordBatch, first_place}
use Rattle.arrow_spec.specs.Features.{chosen_floats}
use Rattle.arrow_spec.specs.Files.{record_batch_of}
use Rattle.arrow_spec.specs.Flat.{order_by}
use Rattle.arrow_spec.specs.Kinds as kind
use Rattle.arrow_spec.specs.Kinds.{Kind, Fields, width}
use Rattle.arrow_spec.specs.Messages.{BatchHeader}
use Rattle.arrow_spec.specs.Schema.{first_is_struct_of_two}
use Rattle.arrow_types.specs.Schemas.{Keyed, fields_in}
use Rattle.arrow_types.specs.UnionIds.{are_right}
use Rattle.arrow_arrays.specs.Carried.{are_carried, is_carried}
use Rattle.ipc_read.specs.Batches.{MayBeRead, are_carried_kinds, batch_reading}
use Rattle.ipc_read.proofs.BatchTables.{batch_refused, batch_well, reading_is, refused_first}
use Rattle.ipc_read.proofs.Chosen.{all_chosen}
use Rattle.ipc_read_laws.specs.Projection.{chosen}
use Rattle.view_types.specs.Views.{order_of}
use Rattle.ipc_view.specs.Nested.{are_shown, is_shown}

-- ── kinds that are carried are shown ──

both : (a b c : Bool) → (b ≡ true → c ≡ true) → (a && b) ≡ true → (a && c) ≡ true
both a b c f h = let p = and_parts a b h in and_from a c p.0 (f p.1)

first_of : (a x b c : Bool) → (b ≡ true → c ≡ true) → ((a && x) && b) ≡ true → (a && c) ≡ true
first_of a x b c f h = let p = and_parts (a && x) b h in and_from a c (and_parts a x p.0).0 (f p.1)

mutual
  carried_shown : (k : Kind) → is_carried k ≡ true → is_shown k ≡ true
  carried_shown (kind.«list» o fs) h = both (nat_eq (width fs) 1) _ _ (each_shown fs) h
  carried_shown (kind.map sorted fs) h = first_of (nat_eq (width fs) 1) (first_is_struct_of_two fs) _ _ (each_shown fs) h
  carried_shown (kind.fixed_size_list size fs) h = first_of (nat_eq (width fs) 1) (nat_lt 0 size) _ _ (each_shown fs) h
  carried_shown (kind.struct fs) h = each_shown fs h
  carried_shown (kind.union mode stated ids fs) h = both (are_right ids (width fs)) _ _ (each_shown fs) h
  carried_shown (kind.dictionary t ordered id k) h = refl
  carried_shown (kind.extension name metadata k) h = carried_shown k h
  carried_shown (kind.float kind.half) h = cc
  carried_shown (kind.float kind.single) h = cc
  carried_shown (kind.float kind.double) h = cc
  carried_shown (kind.decimal256 precision scale) h = cc
  carried_shown k h = refl

  each_shown : (fs : Fields) → are_carried fs ≡ true → are_shown fs ≡ true
  each_shown kind.none h = refl
  each_shown (kind.field name nullable metadata k others) h = let p = and_parts (is_carried k) (are_carried others) h in and_from (is_shown k) (are_shown others) (carried_shown k p.0) (each_shown others p.1)

pub schema_shown : (c : ℕ) (s : List Keyed) → are_carried_kinds None c s ≡ true → are_shown (fields_in s) ≡ true
schema_shown c [] h = refl
schema_shown c (p ∷ ps) h = let q = and_parts (is_carried p.1.kind) (are_carried_kinds None (suc c) ps) h in and_from (is_shown p.1.kind) (are_shown (fields_in ps)) (carried_shown p.1.kind q.0) (schema_shown (suc c) ps q.1)

-- ── the batch ──

order_same : (is_little : Bool) → order_of (not is_little) ≡ order_by is_little
order_same true = refl
order_same false = refl

-- the tables as they are lent
abbrev pub lent_batch : Bool → MetadataVersion → List FieldNode → List IpcBuffer → List ℤ → List ℕ → RecordBatch
lent_batch is_big version ns bs vs body = record { order = order_of is_big; version = version; nodes = ns; buffers = bs; variadic = vs; body = body }

batch_same : (is_little : Bool) (version : MetadataVersion) (tables : BatchHeader) (ns : List FieldNode) (bs : List IpcBuffer) (vs : List ℤ) (body : List ℕ) → ns ≡ tables.nodes → bs ≡ tables.buffers → vs ≡ tables.variadic → lent_batch (not is_little) version ns bs vs body ≡ record_batch_of (order_by is_little) version tables body
batch_same is_little version tables ns bs vs body a b c =
    let of : RecordBatch = lent_batch (not is_little) version ns bs vs body in
    rw (order_same is_little, a, b, c) refl

as_chosen : (r : Reading (List (List Cell))) (cs : List (List Cell)) → r ≡ Ok cs → (r >>= λ all. Ok (chosen None 0 all)) ≡ Ok cs
unfolding bind
as_chosen r cs h = rw h (ap Ok (all_chosen 0 cs))

-- what refuses its columns
pub columns_refused : (is_little : Bool) (fs : Fields) (d : Dictionaries) (most rows : ℕ) (version : MetadataVersion) (tables : BatchHeader) (ns : List FieldNode) (bs : List IpcBuffer) (vs : List ℤ) (body : List ℕ) (e : IpcError) → ns ≡ tables.nodes → bs ≡ tables.buffers → vs ≡ tables.variadic → chosen_floats None fs 0 ≡ [] → MayBeRead tables most rows
    → Refuses e (refusals (columns_at (lent_batch (not is_little) version ns bs vs body) d None fs 0 first_place rows rows)) → Refuses e (refusals (batch_reading None None is_little fs d most version tables body))
columns_refused is_little fs d most rows version tables ns bs vs body e a b c fine may h =
    let m = record_batch_of (order_by is_little) version tables body in
    subst (λ r. Refuses e (refusals r)) (sym (reading_is None None is_little fs d most version tables body fine))
    (batch_refused None None is_little fs d most rows rows version tables body e refl may (refused_first (columns_at m d None fs 0 first_place rows rows) _ e
    (subst (λ x. Refuses e (refusals (columns_at x d None fs 0 first_place rows rows))) (batch_same is_little version tables ns bs vs body a b c) h)))

-- and what these mean
pub columns_mean : (is_little : Bool) (fs : Fields) (d : Dictionaries) (most rows : ℕ) (version : MetadataVersion) (tables : BatchHeader) (ns : List FieldNode) (bs : List IpcBuffer) (vs : List ℤ) (body : List ℕ) (cs : List (List Cell)) → ns ≡ tables.nodes → bs ≡ tables.buffers → vs ≡ tables.variadic → chosen_floats None fs 0 ≡ [] → MayBeRead tables most rows
    → columns_at (lent_batch (not is_little) version ns bs vs body) d None fs 0 first_place rows rows ≡ Ok cs → batch_reading None None is_little fs d most version tables body ≡ Ok (record { rows = rows; columns = cs; custom = [] })
columns_mean is_little fs d most rows version tables ns bs vs body cs a b c fine may h =
    reading_is None None is_little fs d most version tables body fine
    ∙ batch_well None None is_little fs d most rows rows version tables body cs refl refl refl may
    (as_chosen _ cs (subst (λ x. columns_at x d None fs 0 first_place rows rows ≡ Ok cs) (batch_same is_little version tables ns bs vs body a b c) h))

-- An array that is not refused is read as sound parts, of its kind and of the rows that were asked for.
use Rattle.std.proofs.Common.{◌≡◌, ℕ, zero, suc, ◌+◌, List, [], ◌++◌, true, Option, Some, None, refl, sym, subst, ap, ◌∙◌, arith}
use Rattle.std.specs.Prelude.{nat_lt}
use Rattle.std.proofs.lemmas.Bool.{ltb-true}
use Rattle.arrow_spec.specs.declared.error.IpcError.{IpcError}
use Rattle.arrow_spec.specs.Kinds as kinds
use Rattle.arrow_spec.specs.Kinds.{Kind, Offsets, small, large}
use Rattle.arrow_spec.specs.declared.error.IpcError.TheVariants.{OutOfSpec}
use Rattle.arrow_spec.specs.declared.error.OutOfSpecKind.TheVariants as out
use Rattle.arrow_spec.specs.Counts.{RecordBatch, Place, magnitude}
use Rattle.arrow_spec.specs.Arrays.{Dictionaries, range_of, view_of}
use Rattle.arrow_spec.specs.Faults.{if_sound, node_faults, bytes_faults, offsets_faults, utf8_faults, view_parts_faults, bad_view_faults, views_faults, view_text_faults, array_faults, cause, some_valid_row, is_no_text_view}
use Rattle.arrow_spec.proofs.Fewer.{none_first, none_second, none_both, sound_first}
use Rattle.arrow_types.specs.Physical.{physical_of}
use Rattle.arrow_types.specs.declared.physical.PhysicalType.{PhysicalType}
use Rattle.arrow_types.specs.declared.physical.PhysicalType.TheVariants as physical
use Rattle.arrow_types.specs.declared.physical.PrimitiveType.{PrimitiveType}
use Rattle.arrow_buffers.specs.declared.error.ArrayError.{ArrayError}
use Rattle.arrow_buffers.specs.declared.error.ArrayError.TheVariants.{DataType, Length, Offsets as BadOffsets, UnionType, Utf8, View, Key, Memory}
use Rattle.arrow_buffers.specs.Variable.{variable_rows}
use Rattle.arrow_buffers.proofs.Parts.{length-from_on}
use Rattle.arrow_arrays.specs.LeafParts.{leaf_fault_in, leaf_kind_in, leaf_rows_in}
use Rattle.arrow_arrays.specs.LeafKinds.{is_leaf_kind}
use Rattle.ipc_read_laws.specs.PartsRead.{parts_in, variable_read, views_read}
use Rattle.ipc_read_laws.specs.LeftFaults.{IsLeft}
use Rattle.ipc_read_laws.specs.LayoutFaults.{buffers_faults, between_faults}
use Rattle.ipc_read_laws.proofs.KindCases.{IsNumbers, by_kind, Like}
use Rattle.ipc_read_laws.proofs.OffsetsRead.{rows-told}
use Rattle.ipc_read_laws.proofs.ViewsRead.{count-rows}
use Rattle.ipc_read_laws.proofs.Sound.{views_held}
use Rattle.ipc_read_laws.proofs.FaultLaws.{fixed_held, fault_under}

-- ── nothing is wrong with the buffers ──

-- the statement at a kind
abbrev BuffersWell : RecordBatch → Dictionaries → Place → ℕ → Kind → Type 0
BuffersWell m d p rows k = array_faults m d k p rows ≡ [] → buffers_faults m k p rows ≡ []

parts_first : (node parts rest : List IpcError) → node ++ if_sound parts rest ≡ [] → node ++ parts ≡ []
parts_first node parts rest h = none_both node parts (none_first node (if_sound parts rest) h) (sound_first parts rest (none_second node (if_sound parts rest) h))

abbrev offsets_at : RecordBatch → Offsets → Place → ℕ → List IpcError
offsets_at m o p rows = offsets_faults m o (p.buffer + 1) rows (magnitude (range_of m (p.buffer + 2)).length)

well_plain : (m : RecordBatch) (d : Dictionaries) (p : Place) (rows : ℕ) (t : PrimitiveType) (k : Kind) → IsNumbers t k → BuffersWell m d p rows k
well_plain m d p zero t k n h = n.buffers m p 0 ∙ n.none m [] p ∙ sym (n.none m d p) ∙ h
well_plain m d p (suc r) t k n h = n.buffers m p (suc r) ∙ n.faults m [] p r ∙ sym (n.faults m d p r) ∙ h

well_null : (m : RecordBatch) (d : Dictionaries) (p : Place) (rows : ℕ) → BuffersWell m d p rows kinds.null
well_null m d p zero h = h
well_null m d p (suc n) h = h

well_bits : (m : RecordBatch) (d : Dictionaries) (p : Place) (rows : ℕ) → BuffersWell m d p rows kinds.boolean
well_bits m d p zero h = h
well_bits m d p (suc n) h = h

well_fixed : (m : RecordBatch) (d : Dictionaries) (p : Place) (rows size : ℕ) → BuffersWell m d p rows (kinds.fixed_size_binary size)
well_fixed m d p zero size h = h
well_fixed m d p (suc n) size h = h

well_binary : (m : RecordBatch) (d : Dictionaries) (p : Place) (rows : ℕ) (o : Offsets) → BuffersWell m d p rows (kinds.binary o)
unfolding bytes_faults
well_binary m d p zero small h = h
well_binary m d p zero large h = h
well_binary m d p (suc n) small h = parts_first (node_faults m p (suc n)) (between_faults m small p (suc n)) (offsets_at m small p (suc n)) h
well_binary m d p (suc n) large h = parts_first (node_faults m p (suc n)) (between_faults m large p (suc n)) (offsets_at m large p (suc n)) h

well_text : (m : RecordBatch) (d : Dictionaries) (p : Place) (rows : ℕ) (o : Offsets) → BuffersWell m d p rows (kinds.utf8 o)
unfolding bytes_faults
well_text m d p zero small h = h
well_text m d p zero large h = h
well_text m d p (suc n) small h = parts_first (node_faults m p (suc n)) (between_faults m small p (suc n)) (offsets_at m small p (suc n)) (parts_first (node_faults m p (suc n)) (if_sound (between_faults m small p (suc n)) (offsets_at m small p (suc n))) (utf8_faults m small p (suc n)) h)
well_text m d p (suc n) large h = parts_first (node_faults m p (suc n)) (between_faults m large p (suc n)) (offsets_at m large p (suc n)) (parts_first (node_faults m p (suc n)) (if_sound (between_faults m large p (suc n)) (offsets_at m large p (suc n))) (utf8_faults m large p (suc n)) h)

well_views : (m : RecordBatch) (d : Dictionaries) (p : Place) (rows : ℕ) → BuffersWell m d p rows kinds.binary_view
unfolding views_faults
well_views m d p zero h = h
well_views m d p (suc n) h = parts_first (node_faults m p (suc n)) (view_parts_faults m p (suc n)) (bad_view_faults m p (suc n)) h

well_text_views : (m : RecordBatch) (d : Dictionaries) (p : Place) (rows : ℕ) → BuffersWell m d p rows kinds.utf8_view
unfolding view_text_faults
well_text_views m d p zero h = h
well_text_views m d p (suc n) h = parts_first (node_faults m p (suc n)) (view_parts_faults m p (suc n)) (bad_view_faults m p (suc n) ++ cause (some_valid_row m p (λ row. is_no_text_view m p (view_of m p row)) (suc n)) (OutOfSpec out.InvalidUtf8)) h

-- nothing is wrong with the buffers of an array that is not refused
pub buffers_well : (m : RecordBatch) (d : Dictionaries) (k : Kind) (p : Place) (rows : ℕ) → is_leaf_kind k ≡ true → array_faults m d k p rows ≡ [] → buffers_faults m k p rows ≡ []
buffers_well m d k p rows leaf = by_kind (BuffersWell m d p rows) (record {
  on_null = well_null m d p rows;
  on_bits = well_bits m d p rows;
  on_numbers = well_plain m d p rows;
  on_fixed = λ size above. well_fixed m d p rows size;
  on_binary = well_binary m d p rows;
  on_text = well_text m d p rows;
  on_binary_view = well_views m d p rows;
  on_text_view = well_text_views m d p rows;
  on_extension = λ name metadata k f. f;
}) k leaf

none_found : (f : Option ArrayError) → IsLeft f [] → f ≡ None
none_found None h = refl
none_found (Some BadOffsets) h = absurd h
none_found (Some Utf8) h = absurd h
none_found (Some View) h = absurd h
none_found (Some DataType) h = absurd h
none_found (Some Length) h = absurd h
none_found (Some UnionType) h = absurd h
none_found (Some Key) h = absurd h
none_found (Some Memory) h = absurd h

-- an array that is not refused is read as sound parts
pub sound_under : (m : RecordBatch) (d : Dictionaries) (k l : Kind) (p : Place) (rows : ℕ) → is_leaf_kind k ≡ true → Like l k → array_faults m d k p rows ≡ [] → leaf_fault_in (parts_in (physical_of k) m l p rows) ≡ None
sound_under m d k l p rows leaf like h =
    let f = leaf_fault_in (parts_in (physical_of k) m l p rows) in
    none_found f (subst (λ es. IsLeft f es) h (fault_under m d k l p rows leaf like (buffers_well m d k p rows leaf h)))

-- ── their kind ──

variable_kind : (m : RecordBatch) (l : Kind) (o : Offsets) (p : Place) (rows : ℕ) → (variable_read m l o p rows).kind ≡ l
variable_kind m l o p zero = refl
variable_kind m l o p (suc n) = refl

views_kind : (m : RecordBatch) (l : Kind) (p : Place) (rows : ℕ) → (views_read m l p rows).kind ≡ l
views_kind m l p zero = refl
views_kind m l p (suc n) = refl

pub kind_under : (layout : PhysicalType) (m : RecordBatch) (l : Kind) (p : Place) (rows : ℕ) → leaf_kind_in (parts_in layout m l p rows) ≡ l
kind_under physical.Binary m l p rows = variable_kind m l small p rows
kind_under physical.LargeBinary m l p rows = variable_kind m l large p rows
kind_under physical.Utf8 m l p rows = variable_kind m l small p rows
kind_under physical.LargeUtf8 m l p rows = variable_kind m l large p rows
kind_under physical.BinaryView m l p rows = views_kind m l p rows
kind_under physical.Utf8View m l p rows = views_kind m l p rows
kind_under layout m l p rows = refl

-- ── their rows ──

abbrev RowsRead : RecordBatch → Dictionaries → Place → ℕ → Kind → Type 0
RowsRead m d p rows k = (l : Kind) → Like l k → array_faults m d k p rows ≡ [] → leaf_rows_in (parts_in (physical_of k) m l p rows) ≡ rows

variable_rows-read : (m : RecordBatch) (l : Kind) (o : Offsets) (p : Place) (rows : ℕ) → variable_rows (variable_read m l o p rows).offsets ≡ rows
variable_rows-read m l o p zero = refl
variable_rows-read m l o p (suc n) = rows-told m o (p.buffer + 1) (suc n)

rows_binary : (m : RecordBatch) (d : Dictionaries) (p : Place) (rows : ℕ) (o : Offsets) → RowsRead m d p rows (kinds.binary o)
rows_binary m d p rows small l like h = variable_rows-read m l small p rows
rows_binary m d p rows large l like h = variable_rows-read m l large p rows

rows_text : (m : RecordBatch) (d : Dictionaries) (p : Place) (rows : ℕ) (o : Offsets) → RowsRead m d p rows (kinds.utf8 o)
rows_text m d p rows small l like h = variable_rows-read m l small p rows
rows_text m d p rows large l like h = variable_rows-read m l large p rows

rows_fixed : (m : RecordBatch) (d : Dictionaries) (p : Place) (rows size : ℕ) → nat_lt 0 size ≡ true → RowsRead m d p rows (kinds.fixed_size_binary size)
rows_fixed m d p rows size above l like h = rw like.size (count-rows m size (p.buffer + 1) rows (ltb-true 0 size above) (fixed_held m d p size rows h))

rows_views : (m : RecordBatch) (d : Dictionaries) (p : Place) (rows : ℕ) → RowsRead m d p rows kinds.binary_view
unfolding views_faults
rows_views m d p zero l like h = refl
rows_views m d p (suc n) l like h = count-rows m 16 (p.buffer + 1) (suc n) (omega arith) (views_held m p (suc n) (sound_first _ _ (none_second (node_faults m p (suc n)) _ h)))

rows_text_views : (m : RecordBatch) (d : Dictionaries) (p : Place) (rows : ℕ) → RowsRead m d p rows kinds.utf8_view
unfolding view_text_faults
rows_text_views m d p zero l like h = refl
rows_text_views m d p (suc n) l like h = count-rows m 16 (p.buffer + 1) (suc n) (omega arith) (views_held m p (suc n) (sound_first _ _ (none_second (node_faults m p (suc n)) _ h)))

-- an array that is not refused is read with its rows
pub rows_under : (m : RecordBatch) (d : Dictionaries) (k l : Kind) (p : Place) (rows : ℕ) → is_leaf_kind k ≡ true → Like l k → array_faults m d k p rows ≡ [] → leaf_rows_in (parts_in (physical_of k) m l p rows) ≡ rows
rows_under m d k l p rows leaf like h = by_kind (RowsRead m d p rows) (record {
  on_null = λ l like h. refl;
  on_bits = λ l like h. length-from_on _ 0 rows;
  on_numbers = λ t k n l like h. ap (λ x. leaf_rows_in (parts_in x m l p rows)) n.layout ∙ length-from_on _ 0 rows;
  on_fixed = rows_fixed m d p rows;
  on_binary = rows_binary m d p rows;
  on_text = rows_text m d p rows;
  on_binary_view = rows_views m d p rows;
  on_text_view = rows_text_views m d p rows;
  on_extension = λ name metadata k f l like h. f l (record { layout = like.layout; size = like.size }) h;
}) k leaf l like h

-- The types and the offsets of unions that were read, and what is wrong with them.
use Rattle.std.proofs.Common.{◌≡◌, inl, ℕ, zero, suc, ◌+◌, ◌*◌, ◌≤◌, List, [], ◌∷◌, ◌++◌, length, Option, Some, Bool, true, false, ◌&&◌, ℤ, Result, Ok, Err, if◌then◌else◌, refl, sym, ap, ◌∙◌, arith, subst}
use Rattle.std.specs.Prelude.{nat_le, nat_lt, slice_get}
use Rattle.std.specs.Int.{Width, byte_len}
use Rattle.std.proofs.lemmas.Bool.{lt-ltb, le-ltb}
use Rattle.arrow_spec.specs.declared.error.IpcError.{IpcError}
use Rattle.arrow_spec.specs.declared.error.IpcError.TheVariants.{OutOfSpec, Unsupported}
use Rattle.arrow_spec.specs.declared.error.OutOfSpecKind.TheVariants as out
use Rattle.arrow_spec.specs.declared.error.Feature.TheVariants.{UnionNulls}
use Rattle.arrow_spec.specs.declared.message.FieldNode.{FieldNode}
use Rattle.arrow_spec.specs.declared.message.IpcBuffer.{IpcBuffer}
use Rattle.arrow_spec.specs.declared.message.MetadataVersion.{MetadataVersion}
use Rattle.arrow_spec.specs.declared.types.UnionMode.{UnionMode}
use Rattle.arrow_spec.specs.declared.types.UnionMode.TheVariants.{Dense, Sparse}
use Rattle.arrow_spec.specs.Readings.{IsAmong, Refuses}
use Rattle.arrow_spec.specs.Counts.{RecordBatch, Place, magnitude, has_union_validity, union_parts, union_buffers}
use Rattle.arrow_spec.specs.Arrays.{buf, from_on, signed_in, has_nulls, types_buffer}
use Rattle.arrow_spec.specs.Faults.{cause, node_faults, numbers_faults}
use Rattle.arrow_spec.proofs.CellLists.{from_on-same}
use Rattle.arrow_types.specs.Numbers.{signed_from_bytes}
use Rattle.ipc_read_laws.specs.PartsRead.{items_read, item_bytes}
use Rattle.ipc_read_laws.specs.Faults.{stated}
use Rattle.ipc_read_laws.proofs.Buffers.{numbers_held}
use Rattle.ipc_read.specs.Queues.{Left, short_of}
use Rattle.ipc_read.specs.Sources.{Answers, faults_where, bytes_where}
use Rattle.ipc_read.specs.Unions.{union_validities, union_places, union_validity_faults, rows_faults, places_faults, union_parts_faults, union_top, places_stated, union_fetched}
use Rattle.ipc_read.proofs.Refusals.{among_right, refuses_left, refuses_right, both_none, none_of_both}
use Rattle.ipc_read.proofs.Counted.{left_next}
use Rattle.ipc_read.proofs.OffsetReads.{signed_is}
use Rattle.ipc_read.proofs.Parts.{item_fits, nulls_of}

-- ── numbers ──

rows_held : (m : RecordBatch) (i width rows : ℕ) → faults_where rows (numbers_faults m i width rows) ≡ [] → width * rows ≤ length (buf m i)
rows_held m i width zero h = omega arith
rows_held m i width (suc n) h = numbers_held m i width (suc n) h

-- numbers of a width are those of their bytes
pub signed_items : (m : RecordBatch) (w : Width) (i rows : ℕ) → rows_faults m i (byte_len w) rows ≡ [] → items_read (signed_from_bytes w) (byte_len w) m i rows ≡ from_on (λ j. signed_in m w i j) 0 rows
signed_items m w i rows h =
    let held = rows_held m i (byte_len w) rows (none_of_both (short_of m.buffers i) _ h).1 in
    from_on-same (λ j. signed_from_bytes w m.order (item_bytes m i (byte_len w) j)) (λ j. signed_in m w i j) 0 rows (λ j below. signed_is m w i j (item_fits (byte_len w) j rows (length (buf m i)) (omega (arith, below)) held))

pub answers_map : {X Y Z : Type 0} → (f : Y → Z) (view : X → Y) (r : Result X IpcError) (es : List IpcError) (v : Y) (w : Z) → (es ≡ [] → f v ≡ w) → Answers view r es v → Answers (λ x. f (view x)) r es w
answers_map f view (Ok x) es v w h a = record { ok = (a.ok.0, ap f a.ok.1 ∙ h a.ok.0); err = tt }
answers_map f view (Err e) es v w h a = record { ok = tt; err = a.err }

-- ── the validity before the types ──

-- where it stands, the types stand behind it
pub with_validity : (m : RecordBatch) (version : MetadataVersion) (p : Place) → m.version ≡ version → has_union_validity version ≡ true → types_buffer m p ≡ suc p.buffer
with_validity m version p e h = let t : has_union_validity m.version ≡ true = ap has_union_validity e ∙ h in rw t refl

pub without_validity : (m : RecordBatch) (version : MetadataVersion) (p : Place) → m.version ≡ version → has_union_validity version ≡ false → types_buffer m p ≡ p.buffer
without_validity m version p e h = let t : has_union_validity m.version ≡ false = ap has_union_validity e ∙ h in rw t refl

pub no_validity_faults : (m : RecordBatch) (p : Place) (rows : ℕ) → types_buffer m p ≡ p.buffer → union_validity_faults m p rows ≡ []
no_validity_faults m p rows e =
    let f : nat_lt p.buffer (types_buffer m p) ≡ false = le-ltb _ _ (omega (arith, e)) in
    by (nat_lt p.buffer (types_buffer m p)) f rows
  where
    by : (b : Bool) → b ≡ false → (rows : ℕ) → cause (b && nat_le (length m.buffers) p.buffer) (OutOfSpec out.ExpectedBuffer) ++ faults_where rows (cause (b && has_nulls m p) (Unsupported UnionNulls)) ≡ []
    by false e zero = refl
    by false e (suc n) = refl
    by true e rows = cc

pub validity_faults_are : (m : RecordBatch) (p : Place) (rows : ℕ) → types_buffer m p ≡ suc p.buffer → union_validity_faults m p rows ≡ short_of m.buffers p.buffer ++ faults_where rows (cause (has_nulls m p) (Unsupported UnionNulls))
validity_faults_are m p rows e =
    let f : nat_lt p.buffer (types_buffer m p) ≡ true = lt-ltb _ _ (omega (arith, e)) in
    ap (λ b. cause (b && nat_le (length m.buffers) p.buffer) (OutOfSpec out.ExpectedBuffer) ++ faults_where rows (cause (b && has_nulls m p) (Unsupported UnionNulls))) f

and_second : (a b c : Bool) → a ≡ true → (a && b) ≡ c → b ≡ c
and_second true b c p h = h
and_second false b c p h = cc

-- nulls are refused where there are rows
pub nulls_none : (m : RecordBatch) (p : Place) (rows : ℕ) (node : FieldNode) → slice_get m.nodes p.node ≡ Some node → (nat_lt 0 rows && nat_lt 0 (magnitude node.null_count)) ≡ false → faults_where rows (cause (has_nulls m p) (Unsupported UnionNulls)) ≡ []
nulls_none m p zero node g h = refl
nulls_none m p (suc n) node g h = ap (λ b. cause b (Unsupported UnionNulls)) (nulls_of m p node g ∙ and_second (nat_lt 0 (suc n)) (nat_lt 0 (magnitude node.null_count)) false (grind arith) h)

nulls_some : (m : RecordBatch) (p : Place) (rows : ℕ) (node : FieldNode) → slice_get m.nodes p.node ≡ Some node → (nat_lt 0 rows && nat_lt 0 (magnitude node.null_count)) ≡ true → faults_where rows (cause (has_nulls m p) (Unsupported UnionNulls)) ≡ Unsupported UnionNulls ∷ []
nulls_some m p zero node g h = cc
nulls_some m p (suc n) node g h = ap (λ b. cause b (Unsupported UnionNulls)) (nulls_of m p node g ∙ and_second (nat_lt 0 (suc n)) (nat_lt 0 (magnitude node.null_count)) true (grind arith) h)

pub nulls_refused : (m : RecordBatch) (p : Place) (rows : ℕ) (node : FieldNode) → types_buffer m p ≡ suc p.buffer → slice_get m.nodes p.node ≡ Some node → (nat_lt 0 rows && nat_lt 0 (magnitude node.null_count)) ≡ true → IsAmong (union_validity_faults m p rows) (Unsupported UnionNulls)
nulls_refused m p rows node e g h =
    subst (λ es. IsAmong es (Unsupported UnionNulls)) (sym (validity_faults_are m p rows e ∙ ap (λ es. short_of m.buffers p.buffer ++ es) (nulls_some m p rows node g h)))
    (among_right (short_of m.buffers p.buffer) _ _ (inl refl))

pub one_validity : (version : MetadataVersion) → has_union_validity version ≡ true → union_validities version ≡ 1
one_validity version h = rw h refl

-- ── the buffers behind one another ──

-- the types and the offsets are a union's own buffers
pub top_end : (m : RecordBatch) (p : Place) (mode : UnionMode) → suc (types_buffer m p) + union_places mode ≡ p.buffer + union_buffers m.version mode
top_end m p mode = by (has_union_validity m.version) mode
  where
    by : (b : Bool) (mode : UnionMode) → suc (if b then suc p.buffer else p.buffer) + union_places mode ≡ p.buffer + (if b then suc (union_parts mode) else union_parts mode)
    by true Sparse = omega arith
    by true Dense = omega arith
    by false Sparse = omega arith
    by false Dense = omega arith

pub top_many : (version : MetadataVersion) (mode : UnionMode) → union_validities version + (1 + union_places mode) ≡ union_buffers version mode
top_many version mode = by (has_union_validity version) mode
  where
    by : (b : Bool) (mode : UnionMode) → (if b then 1 else 0) + (1 + union_places mode) ≡ (if b then suc (union_parts mode) else union_parts mode)
    by true Sparse = refl
    by true Dense = refl
    by false Sparse = refl
    by false Dense = refl

pub parts_left : (m : RecordBatch) (p : Place) (mode : UnionMode) (rest : List IpcBuffer) → Left m.buffers (suc (types_buffer m p) + union_places mode) rest → Left m.buffers (p.buffer + union_buffers m.version mode) rest
parts_left m p mode rest l = left_next m.buffers _ _ rest (top_end m p mode) l

-- ── what is wrong ──

pub types_refused : (m : RecordBatch) (mode : UnionMode) (p : Place) (rows : ℕ) (e : IpcError) → Refuses e (rows_faults m (types_buffer m p) 1 rows) → Refuses e (union_parts_faults m mode p rows)
types_refused m mode p rows e r = refuses_right (node_faults m p rows) _ e (refuses_right (union_validity_faults m p rows) _ e (refuses_left (rows_faults m (types_buffer m p) 1 rows) _ e r))

pub places_refused : (m : RecordBatch) (mode : UnionMode) (p : Place) (rows : ℕ) (e : IpcError) → Refuses e (places_faults m mode (suc (types_buffer m p)) rows) → Refuses e (union_parts_faults m mode p rows)
places_refused m mode p rows e r = refuses_right (node_faults m p rows) _ e (refuses_right (union_validity_faults m p rows) _ e (refuses_right (rows_faults m (types_buffer m p) 1 rows) _ e r))

pub validity_refused : (m : RecordBatch) (mode : UnionMode) (p : Place) (rows : ℕ) (e : IpcError) → Refuses e (union_validity_faults m p rows) → Refuses e (union_parts_faults m mode p rows)
validity_refused m mode p rows e r = refuses_right (node_faults m p rows) _ e (refuses_left (union_validity_faults m p rows) _ e r)

pub parts_well : (m : RecordBatch) (mode : UnionMode) (p : Place) (rows : ℕ) → node_faults m p rows ≡ [] → union_validity_faults m p rows ≡ [] → rows_faults m (types_buffer m p) 1 rows ≡ [] → places_faults m mode (suc (types_buffer m p)) rows ≡ [] → union_parts_faults m mode p rows ≡ []
parts_well m mode p rows a b c d = both_none _ _ a (both_none _ _ b (both_none _ _ c d))

pub tops_same : {a b : List ℤ} {v w : Option (List ℤ)} → a ≡ b → v ≡ w → union_top a v ≡ union_top b w
tops_same e f = rw (e, f) refl

-- ── what is fetched ──

pub top_fetched : (m : RecordBatch) (mode : UnionMode) (p : Place) (rows : ℕ) → bytes_where rows (stated m (types_buffer m p)) + bytes_where rows (places_stated m mode (suc (types_buffer m p))) ≡ union_fetched m mode p rows
top_fetched m mode p zero = refl
top_fetched m Sparse p (suc n) = omega arith
top_fetched m Dense p (suc n) = omega arith

-- Arrays of bytes between offsets: what is wrong with them, by the layout of their kind.
use Rattle.arrow_types.specs.Numbers.{offsets_by}
use Rattle.std.proofs.Common.{◌≡◌, ◌⊎◌, inl, inr, ℕ, zero, suc, ◌+◌, ◌<◌, List, [], ◌∷◌, ◌++◌, length, Bool, true, false, Option, Result, Ok, Err, IfOk, IfErr, ℤ, pos, not, ◌&&◌, refl, sym, ap, ◌∙◌, arith, subst}
use Rattle.arrow_spec.specs.declared.error.IpcError.{IpcError}
use Rattle.arrow_spec.specs.declared.error.IpcError.TheVariants.{OutOfSpec, Memory}
use Rattle.arrow_spec.specs.declared.error.OutOfSpecKind.TheVariants as kinds
use Rattle.arrow_spec.specs.declared.message.FieldNode.{FieldNode}
use Rattle.arrow_spec.specs.declared.message.IpcBuffer.{IpcBuffer}
use Rattle.arrow_spec.specs.Readings.{IsAmong, Refuses}
use Rattle.arrow_spec.specs.Kinds.{Kind, Offsets}
use Rattle.arrow_spec.specs.Counts.{RecordBatch, Place, after, magnitude}
use Rattle.arrow_spec.specs.Arrays.{buf, range_of}
use Rattle.arrow_spec.specs.Faults.{cause, if_sound, node_faults, validity_faults, range_faults, offsets_buffer_faults, offsets_faults, bytes_faults, utf8_faults, array_faults}
use Rattle.arrow_spec.specs.Needed.{validity_looked_at, looked_at}
use Rattle.arrow_types.specs.Physical.{physical_of}
use Rattle.arrow_types.specs.declared.physical.PhysicalType.{PhysicalType}
use Rattle.arrow_types.specs.declared.physical.PhysicalType.TheVariants as physical
use Rattle.arrow_buffers.specs.Layouts.{is_variable, binary_size}
use Rattle.arrow_buffers.specs.Variable.{Variable, variable_rows, are_offsets, has_bad_text}
use Rattle.ipc_read_laws.specs.Faults.{read_faults, fetched_at_most, stated, stated_of}
use Rattle.ipc_read_laws.specs.PartsRead.{validity_read, variable_read}
use Rattle.ipc_read_laws.specs.LayoutFaults.{contents_of}
use Rattle.ipc_read_laws.proofs.OffsetsRead.{offsets-read}
use Rattle.ipc_read_laws.proofs.Sound.{utf8_faults-read}
use Rattle.ipc_read.specs.Queues.{Left, IsWithin, At, short_of}
use Rattle.ipc_read.specs.Sources.{Answers, faults_where, bytes_where, validity_fetched, head_faults, variable_faults, VariableParts, variable_parts, variable_parts_read, offsets_of_rows, values_of}
use Rattle.ipc_read.proofs.Refusals.{among_left, among_right, among_sound, among_cause, refuses_left, refuses_by, memory_refuses, both_none, none_of_both}
use Rattle.ipc_read.proofs.Counted.{Counted, own_buffers, own_looked, refused_in, lacks_or, buffer_end, fine_in, at_next, stated_append}
use Rattle.ipc_read.proofs.LeafArrays.{by_layout, counted_at}

-- ── layouts ──

abbrev pub by_large : Bool → PhysicalType → PhysicalType → PhysicalType
by_large false s l = s
by_large true s l = l

binary_layout : (large : Bool) (l : PhysicalType) → is_variable false large l ≡ true → l ≡ by_large large physical.Binary physical.LargeBinary
binary_layout false physical.Binary h = refl
binary_layout true physical.LargeBinary h = refl
binary_layout true l h = cc
binary_layout false l h = cc

-- ── arrays ──

-- what is wrong with the buffers, and with what stands in them
abbrev pub parts_of : RecordBatch → Offsets → Place → ℕ → List IpcError
parts_of m o p rows = validity_faults m p rows ++ offsets_buffer_faults m o (p.buffer + 1) rows ++ range_faults m (p.buffer + 2)

abbrev pub offsets_at : RecordBatch → Offsets → Place → ℕ → List IpcError
offsets_at m o p rows = offsets_faults m o (p.buffer + 1) rows (magnitude (range_of m (p.buffer + 2)).length)

pub record VariableArray (m : RecordBatch) (k : Kind) (p : Place) (rows : ℕ) (o : Offsets) (more : List IpcError) : Type 0 where
  pub layout : PhysicalType
  pub counted : Counted k layout
  pub three : own_buffers layout ≡ 3
  pub looked : own_looked layout m p ≡ validity_looked_at m p ++ (p.buffer + 1) ∷ (p.buffer + 2) ∷ []
  pub faults : array_faults m [] k p rows ≡ node_faults m p rows ++ faults_where rows (if_sound (if_sound (parts_of m o p rows) (offsets_at m o p rows)) more)

sound_nothing : (es : List IpcError) → es ≡ if_sound es []
sound_nothing [] = refl
sound_nothing (e ∷ es) = refl

binary_contents : (m : RecordBatch) (large : Bool) (size : ℕ) (p : Place) (rows : ℕ) → contents_of (by_large large physical.Binary physical.LargeBinary) size m p rows ≡ faults_where rows (if_sound (if_sound (parts_of m (offsets_by large) p rows) (offsets_at m (offsets_by large) p rows)) [])
unfolding bytes_faults
binary_contents m false size p zero = refl
binary_contents m true size p zero = refl
binary_contents m false size p (suc n) = sound_nothing _
binary_contents m true size p (suc n) = sound_nothing _

variable_binary : (m : RecordBatch) (k : Kind) (p : Place) (rows : ℕ) (large : Bool) → is_variable false large (physical_of k) ≡ true → VariableArray m k p rows (offsets_by large) []
variable_binary m k p rows false h =
    let l = binary_layout false (physical_of k) h in
    record { layout = physical.Binary; counted = counted_at k physical.Binary l refl; three = refl; looked = refl; faults = by_layout m k p rows physical.Binary l refl ∙ ap (λ es. node_faults m p rows ++ es) (binary_contents m false (binary_size k) p rows) }
variable_binary m k p rows true h =
    let l = binary_layout true (physical_of k) h in
    record { layout = physical.LargeBinary; counted = counted_at k physical.LargeBinary l refl; three = refl; looked = refl; faults = by_layout m k p rows physical.LargeBinary l refl ∙ ap (λ es. node_faults m p rows ++ es) (binary_contents m true (binary_size k) p rows) }

-- ── what is refused of them ──

node_refused : (m : RecordBatch) (k : Kind) (p : Place) (rows : ℕ) (o : Offsets) (more : List IpcError) (e : IpcError) → VariableArray m k p rows o more → Refuses e (node_faults m p rows) → Refuses e (read_faults m [] k p rows)
node_refused m k p rows o more e f h = refused_in m k p rows e (subst (λ es. Refuses e es) (sym f.faults) (refuses_left (node_faults m p rows) _ e h))

end_of : (m : RecordBatch) (k : Kind) (p : Place) (rows : ℕ) (o : Offsets) (more : List IpcError) → VariableArray m k p rows o more → (after m k p).buffer ≡ p.buffer + 3
end_of m k p rows o more f = buffer_end m k f.layout p f.counted ∙ ap (λ n. p.buffer + n) f.three

parts_among : (m : RecordBatch) (k : Kind) (p : Place) (rows : ℕ) (o : Offsets) (more : List IpcError) (x : IpcError) → VariableArray m k p rows o more → IsAmong (faults_where rows (parts_of m o p rows)) x → IsAmong (array_faults m [] k p rows) x
parts_among m k p zero o more x f h = absurd h
parts_among m k p (suc n) o more x f h = subst (λ es. IsAmong es x) (sym f.faults) (among_right (node_faults m p (suc n)) _ x (among_sound (if_sound (parts_of m o p (suc n)) (offsets_at m o p (suc n))) more x (among_sound (parts_of m o p (suc n)) _ x h)))

of_validity : (m : RecordBatch) (p : Place) (rows : ℕ) (o : Offsets) (x : IpcError) → IsAmong (validity_faults m p rows) x → IsAmong (faults_where rows (parts_of m o p rows)) x
unfolding validity_faults
of_validity m p zero o x h = absurd h
of_validity m p (suc n) o x h = among_left (validity_faults m p (suc n) ++ offsets_buffer_faults m o (p.buffer + 1) (suc n)) _ x (among_left (validity_faults m p (suc n)) _ x h)

of_offsets : (m : RecordBatch) (p : Place) (rows : ℕ) (o : Offsets) (x : IpcError) → IsAmong (faults_where rows (offsets_buffer_faults m o (p.buffer + 1) rows)) x → IsAmong (faults_where rows (parts_of m o p rows)) x
of_offsets m p zero o x h = absurd h
of_offsets m p (suc n) o x h = among_left (validity_faults m p (suc n) ++ offsets_buffer_faults m o (p.buffer + 1) (suc n)) _ x (among_right (validity_faults m p (suc n)) _ x h)

of_values : (m : RecordBatch) (p : Place) (rows : ℕ) (o : Offsets) (x : IpcError) → IsAmong (faults_where rows (range_faults m (p.buffer + 2))) x → IsAmong (faults_where rows (parts_of m o p rows)) x
of_values m p zero o x h = absurd h
of_values m p (suc n) o x h = among_right (validity_faults m p (suc n) ++ offsets_buffer_faults m o (p.buffer + 1) (suc n)) _ x h

validity_refused : (m : RecordBatch) (k : Kind) (p : Place) (rows : ℕ) (o : Offsets) (more : List IpcError) (e : IpcError) → VariableArray m k p rows o more → Refuses e (short_of m.buffers p.buffer ++ validity_faults m p rows) → Refuses e (read_faults m [] k p rows)
validity_refused m k p rows o more e f h = lacks_or m k p rows p.buffer e _ (omega (arith, end_of m k p rows o more f)) (λ x a. parts_among m k p rows o more x f (of_validity m p rows o x a)) h

offsets_refused : (m : RecordBatch) (k : Kind) (p : Place) (rows : ℕ) (o : Offsets) (more : List IpcError) (e : IpcError) → VariableArray m k p rows o more → Refuses e (short_of m.buffers (p.buffer + 1) ++ faults_where rows (offsets_buffer_faults m o (p.buffer + 1) rows)) → Refuses e (read_faults m [] k p rows)
offsets_refused m k p rows o more e f h = lacks_or m k p rows (p.buffer + 1) e _ (omega (arith, end_of m k p rows o more f)) (λ x a. parts_among m k p rows o more x f (of_offsets m p rows o x a)) h

values_refused : (m : RecordBatch) (k : Kind) (p : Place) (rows : ℕ) (o : Offsets) (more : List IpcError) (e : IpcError) → VariableArray m k p rows o more → Refuses e (short_of m.buffers (p.buffer + 2) ++ faults_where rows (range_faults m (p.buffer + 2))) → Refuses e (read_faults m [] k p rows)
values_refused m k p rows o more e f h = lacks_or m k p rows (p.buffer + 2) e _ (omega (arith, end_of m k p rows o more f)) (λ x a. parts_among m k p rows o more x f (of_values m p rows o x a)) h

pub parts_refused : (m : RecordBatch) (k : Kind) (p : Place) (rows : ℕ) (o : Offsets) (more : List IpcError) (e : IpcError) → VariableArray m k p rows o more → Refuses e (variable_faults m p rows o) → Refuses e (read_faults m [] k p rows)
parts_refused m k p rows o more e f h =
    let all = read_faults m [] k p rows in
    refuses_by (head_faults m p rows) _ all e
    (λ x. refuses_by (node_faults m p rows) _ all e (node_refused m k p rows o more e f) (validity_refused m k p rows o more e f) x)
    (λ x. refuses_by (short_of m.buffers (p.buffer + 1) ++ faults_where rows (offsets_buffer_faults m o (p.buffer + 1) rows)) _ all e (offsets_refused m k p rows o more e f) (values_refused m k p rows o more e f) x) h

pub variable_next : (m : RecordBatch) (k : Kind) (p : Place) (rows : ℕ) (o : Offsets) (more : List IpcError) (ns : List FieldNode) (bs : List IpcBuffer) → VariableArray m k p rows o more → IsWithin m p → Left m.nodes (suc p.node) ns → Left m.buffers (p.buffer + 3) bs → At m (after m k p) ns bs
variable_next m k p rows o more ns bs f w n b = at_next m k f.layout p ns bs (p.buffer + 3) f.counted (omega (arith, f.three)) w n b

pub variable_fetched : (m : RecordBatch) (k : Kind) (p : Place) (rows : ℕ) (o : Offsets) (more : List IpcError) → VariableArray m k p rows o more → fetched_at_most m k p rows ≡ validity_fetched m p rows + bytes_where rows (stated m (p.buffer + 1)) + bytes_where rows (stated m (p.buffer + 2))
variable_fetched m k p zero o more f = refl
variable_fetched m k p (suc n) o more f =
    let r = stated_append m (validity_looked_at m p) ((p.buffer + 1) ∷ (p.buffer + 2) ∷ []) in
    let q : stated_of m (looked_at m k p) ≡ stated_of m (validity_looked_at m p ++ (p.buffer + 1) ∷ (p.buffer + 2) ∷ []) = ap (stated_of m) (f.counted.looked m p ∙ f.looked) in
    omega (arith, q, r)

-- ── what was read ──

-- the parts are all well, and were read
pub record WasRead (m : RecordBatch) (p : Place) (rows : ℕ) (o : Offsets) (a : Variable) : Type 0 where
  pub validity : validity_faults m p rows ≡ []
  pub offsets : faults_where rows (offsets_buffer_faults m o (p.buffer + 1) rows) ≡ []
  pub values : faults_where rows (range_faults m (p.buffer + 2)) ≡ []
  pub is_offsets : a.offsets ≡ offsets_of_rows m o (p.buffer + 1) rows
  pub is_values : a.values ≡ values_of m (p.buffer + 2) rows
  pub is_validity : a.validity ≡ validity_read m p rows

pub was_read : (m : RecordBatch) (p : Place) (rows : ℕ) (o : Offsets) (a : Variable) → variable_faults m p rows o ≡ [] → variable_parts a.offsets a.values a.validity ≡ variable_parts_read m p rows o → WasRead m p rows o a
was_read m p rows o a h e =
    let x = none_of_both (head_faults m p rows) _ h in
    let y = none_of_both (node_faults m p rows) _ x.0 in
    let z = none_of_both (short_of m.buffers (p.buffer + 1) ++ faults_where rows (offsets_buffer_faults m o (p.buffer + 1) rows)) _ x.1 in
    record {
      validity = (none_of_both (short_of m.buffers p.buffer) _ y.1).1;
      offsets = (none_of_both (short_of m.buffers (p.buffer + 1)) _ z.0).1;
      values = (none_of_both (short_of m.buffers (p.buffer + 2)) _ z.1).1;
      is_offsets = ap (λ (t : VariableParts). t.offsets) e;
      is_values = ap (λ (t : VariableParts). t.values) e;
      is_validity = ap (λ (t : VariableParts). t.validity) e;
    }

pub node_well : (m : RecordBatch) (p : Place) (rows : ℕ) (o : Offsets) → variable_faults m p rows o ≡ [] → node_faults m p rows ≡ []
node_well m p rows o h = (none_of_both (node_faults m p rows) _ (none_of_both (head_faults m p rows) _ h).0).0

parts_none : (m : RecordBatch) (p : Place) (n : ℕ) (o : Offsets) (a : Variable) → WasRead m p (suc n) o a → parts_of m o p (suc n) ≡ []
parts_none m p n o a r = both_none (validity_faults m p (suc n) ++ offsets_buffer_faults m o (p.buffer + 1) (suc n)) _ (both_none (validity_faults m p (suc n)) _ r.validity r.offsets) r.values

offsets_are : (m : RecordBatch) (p : Place) (n : ℕ) (o : Offsets) (a : Variable) → WasRead m p (suc n) o a → offsets_at m o p (suc n) ≡ cause (not (are_offsets a.offsets (length a.values))) (OutOfSpec kinds.InvalidOffsets)
offsets_are m p n o a r = offsets-read m o p (suc n) r.values ∙ ap (λ x. cause (not (are_offsets x (length (buf m (p.buffer + 2))))) (OutOfSpec kinds.InvalidOffsets)) (sym r.is_offsets) ∙ ap (λ x. cause (not (are_offsets a.offsets (length x))) (OutOfSpec kinds.InvalidOffsets)) (sym r.is_values)

bad_offsets : (b : Bool) (e : IpcError) → b ≡ false → IsAmong (cause (not b) e) e
bad_offsets b e h = among_cause (not b) e (rw h refl)

contents_refused : (m : RecordBatch) (k : Kind) (p : Place) (rows : ℕ) (o : Offsets) (more : List IpcError) (a : Variable) → VariableArray m k p rows o more → WasRead m p rows o a → are_offsets a.offsets (length a.values) ≡ false → Refuses (OutOfSpec kinds.InvalidOffsets) (read_faults m [] k p rows)
contents_refused m k p zero o more a f r h = let g = rw (r.is_offsets, r.is_values) at h in cc
contents_refused m k p (suc n) o more a f r h =
    refused_in m k p (suc n) (OutOfSpec kinds.InvalidOffsets)
    (subst (λ es. IsAmong es (OutOfSpec kinds.InvalidOffsets)) (sym f.faults) (among_right (node_faults m p (suc n)) _ (OutOfSpec kinds.InvalidOffsets)
    (among_sound (if_sound (parts_of m o p (suc n)) (offsets_at m o p (suc n))) more (OutOfSpec kinds.InvalidOffsets)
    (subst (λ es. IsAmong (if_sound es (offsets_at m o p (suc n))) (OutOfSpec kinds.InvalidOffsets)) (sym (parts_none m p n o a r))
    (subst (λ es. IsAmong es (OutOfSpec kinds.InvalidOffsets)) (sym (offsets_are m p n o a r)) (bad_offsets _ _ h))))))

contents_none : (m : RecordBatch) (p : Place) (n : ℕ) (o : Offsets) (more : List IpcError) (a : Variable) → WasRead m p (suc n) o a → are_offsets a.offsets (length a.values) ≡ true → more ≡ [] → if_sound (if_sound (parts_of m o p (suc n)) (offsets_at m o p (suc n))) more ≡ []
contents_none m p n o more a r h z = rw (parts_none m p n o a r, offsets_are m p n o a r, h) z

variable_fine : (m : RecordBatch) (k : Kind) (p : Place) (rows : ℕ) (o : Offsets) (more : List IpcError) (ns : List FieldNode) (bs : List IpcBuffer) (a : Variable) → VariableArray m k p rows o more → IsWithin m p → Left m.nodes (suc p.node) ns → Left m.buffers (p.buffer + 3) bs → node_faults m p rows ≡ [] → WasRead m p rows o a → are_offsets a.offsets (length a.values) ≡ true → more ≡ [] → read_faults m [] k p rows ≡ []
variable_fine m k p zero o more ns bs a f w n b x r h z = fine_in m k f.layout p zero f.counted n.within (omega (arith, b.within, f.three)) w.views (f.faults ∙ both_none (node_faults m p zero) [] x refl)
variable_fine m k p (suc q) o more ns bs a f w n b x r h z = fine_in m k f.layout p (suc q) f.counted n.within (omega (arith, b.within, f.three)) w.views (f.faults ∙ both_none (node_faults m p (suc q)) _ x (contents_none m p q o more a r h z))

-- ── the value ──

all : (a : Variable) (k : Kind) (offsets : List ℤ) (values : List ℕ) (v : Option (List Bool)) → a.kind ≡ k → a.offsets ≡ offsets → a.values ≡ values → a.validity ≡ v → a ≡ record { kind = k; offsets = offsets; values = values; validity = v }
all a k offsets values v e x y z = rw (← e, ← x, ← y, ← z) refl

variable_same : (m : RecordBatch) (k : Kind) (p : Place) (rows : ℕ) (o : Offsets) (a : Variable) → a.kind ≡ k → WasRead m p rows o a → a ≡ variable_read m k o p rows
variable_same m k p zero o a e r = all a k _ _ _ e r.is_offsets r.is_values r.is_validity
variable_same m k p (suc n) o a e r = all a k _ _ _ e r.is_offsets r.is_values r.is_validity

-- an array of parts that are all well, which is made or refused
pub variable_made : (m : RecordBatch) (k : Kind) (p : Place) (rows : ℕ) (o : Offsets) (more : List IpcError) (ns : List FieldNode) (bs : List IpcBuffer) (a : Variable) (r : Result Variable IpcError) → VariableArray m k p rows o more → IsWithin m p → Left m.nodes (suc p.node) ns → Left m.buffers (p.buffer + 3) bs → node_faults m p rows ≡ [] → WasRead m p rows o a → a.kind ≡ k
    → IfOk r (λ x. x ≡ a) → IfOk r (λ x. are_offsets a.offsets (length a.values) ≡ true) → IfOk r (λ x. more ≡ []) → IfErr r (λ e. Refuses e (read_faults m [] k p rows)) → Answers (λ x. x) r (read_faults m [] k p rows) (variable_read m k o p rows)
variable_made m k p rows o more ns bs a (Ok x) f w n b node read e is sound none err = record { ok = (variable_fine m k p rows o more ns bs a f w n b node read sound none, is ∙ variable_same m k p rows o a e read); err = tt }
variable_made m k p rows o more ns bs a (Err x) f w n b node read e is sound none err = record { ok = tt; err = err }

pub values_some : (m : RecordBatch) (i rows : ℕ) → 0 < rows → buf m i ≡ values_of m i rows
values_some m i zero h = absurd (omega (arith, h))
values_some m i (suc n) h = refl

pub shape_of : (k : Kind) (a : Variable) (offsets : List ℤ) (values : List ℕ) (v : Option (List Bool)) (rows : ℕ) → a ≡ record { kind = k; offsets = offsets; values = values; validity = v } → length offsets ≡ rows + 1 → (a.kind ≡ k) × (variable_rows a.offsets ≡ rows)
shape_of k a offsets values v rows e c = rw e (refl, omega (arith, c))

-- ── texts ──

text_layout : (large : Bool) (l : PhysicalType) → is_variable true large l ≡ true → l ≡ by_large large physical.Utf8 physical.LargeUtf8
text_layout false physical.Utf8 h = refl
text_layout true physical.LargeUtf8 h = refl
text_layout true l h = cc
text_layout false l h = cc

-- what is wrong with the texts
abbrev pub texts_at : RecordBatch → Offsets → Place → ℕ → List IpcError
texts_at m o p rows = faults_where rows (utf8_faults m o p rows)

text_contents : (m : RecordBatch) (large : Bool) (size : ℕ) (p : Place) (rows : ℕ) → contents_of (by_large large physical.Utf8 physical.LargeUtf8) size m p rows ≡ faults_where rows (if_sound (if_sound (parts_of m (offsets_by large) p rows) (offsets_at m (offsets_by large) p rows)) (texts_at m (offsets_by large) p rows))
unfolding bytes_faults
text_contents m false size p zero = refl
text_contents m true size p zero = refl
text_contents m false size p (suc n) = refl
text_contents m true size p (suc n) = refl

variable_text : (m : RecordBatch) (k : Kind) (p : Place) (rows : ℕ) (large : Bool) → is_variable true large (physical_of k) ≡ true → VariableArray m k p rows (offsets_by large) (texts_at m (offsets_by large) p rows)
variable_text m k p rows false h =
    let l = text_layout false (physical_of k) h in
    record { layout = physical.Utf8; counted = counted_at k physical.Utf8 l refl; three = refl; looked = refl; faults = by_layout m k p rows physical.Utf8 l refl ∙ ap (λ es. node_faults m p rows ++ es) (text_contents m false (binary_size k) p rows) }
variable_text m k p rows true h =
    let l = text_layout true (physical_of k) h in
    record { layout = physical.LargeUtf8; counted = counted_at k physical.LargeUtf8 l refl; three = refl; looked = refl; faults = by_layout m k p rows physical.LargeUtf8 l refl ∙ ap (λ es. node_faults m p rows ++ es) (text_contents m true (binary_size k) p rows) }

texts_are : (m : RecordBatch) (p : Place) (n : ℕ) (o : Offsets) (a : Variable) → WasRead m p (suc n) o a → utf8_faults m o p (suc n) ≡ cause (has_bad_text a.offsets a.values a.validity) (OutOfSpec kinds.InvalidUtf8)
texts_are m p n o a r =
    utf8_faults-read m o p (suc n)
    ∙ ap (λ x. cause (has_bad_text x (buf m (p.buffer + 2)) (validity_read m p (suc n))) (OutOfSpec kinds.InvalidUtf8)) (sym r.is_offsets)
    ∙ ap (λ x. cause (has_bad_text a.offsets x (validity_read m p (suc n))) (OutOfSpec kinds.InvalidUtf8)) (sym r.is_values)
    ∙ ap (λ x. cause (has_bad_text a.offsets a.values x) (OutOfSpec kinds.InvalidUtf8)) (sym r.is_validity)

texts_fine : (m : RecordBatch) (p : Place) (rows : ℕ) (o : Offsets) (a : Variable) → WasRead m p rows o a → has_bad_text a.offsets a.values a.validity ≡ false → texts_at m o p rows ≡ []
texts_fine m p zero o a r h = refl
texts_fine m p (suc n) o a r h = texts_are m p n o a r ∙ ap (λ b. cause b (OutOfSpec kinds.InvalidUtf8)) h

no_texts : (values : List ℕ) (v : Option (List Bool)) → has_bad_text (pos 0 ∷ []) values v ≡ false
unfolding has_bad_text
no_texts values v = refl

texts_refused : (m : RecordBatch) (k : Kind) (p : Place) (rows : ℕ) (o : Offsets) (a : Variable) → VariableArray m k p rows o (texts_at m o p rows) → WasRead m p rows o a → are_offsets a.offsets (length a.values) ≡ true → has_bad_text a.offsets a.values a.validity ≡ true → Refuses (OutOfSpec kinds.InvalidUtf8) (read_faults m [] k p rows)
texts_refused m k p zero o a f r s h = let g = rw (r.is_offsets, no_texts a.values a.validity) at h in cc
texts_refused m k p (suc n) o a f r s h =
    let offs : offsets_at m o p (suc n) ≡ [] = offsets_are m p n o a r ∙ ap (λ b. cause (not b) (OutOfSpec kinds.InvalidOffsets)) s in
    let inside : if_sound (if_sound (parts_of m o p (suc n)) (offsets_at m o p (suc n))) (utf8_faults m o p (suc n)) ≡ utf8_faults m o p (suc n) = rw (parts_none m p n o a r, offs) refl in
    refused_in m k p (suc n) (OutOfSpec kinds.InvalidUtf8)
    (subst (λ es. IsAmong es (OutOfSpec kinds.InvalidUtf8)) (sym f.faults) (among_right (node_faults m p (suc n)) _ (OutOfSpec kinds.InvalidUtf8)
    (subst (λ es. IsAmong es (OutOfSpec kinds.InvalidUtf8)) (sym (inside ∙ texts_are m p n o a r)) (among_cause _ _ h))))

-- ── both ──

-- what is wrong beyond the offsets
abbrev pub more_at : Bool → RecordBatch → Offsets → Place → ℕ → List IpcError
more_at false m o p rows = []
more_at true m o p rows = texts_at m o p rows

pub variable_array : (t : Bool) (m : RecordBatch) (k : Kind) (p : Place) (rows : ℕ) (large : Bool) → is_variable t large (physical_of k) ≡ true → VariableArray m k p rows (offsets_by large) (more_at t m (offsets_by large) p rows)
variable_array false m k p rows large h = variable_binary m k p rows large h
variable_array true m k p rows large h = variable_text m k p rows large h

pub more_fine : (t : Bool) (m : RecordBatch) (p : Place) (rows : ℕ) (o : Offsets) (a : Variable) → WasRead m p rows o a → (t && has_bad_text a.offsets a.values a.validity) ≡ false → more_at t m o p rows ≡ []
more_fine false m p rows o a r h = refl
more_fine true m p rows o a r h = texts_fine m p rows o a r h

bad_refused : (t : Bool) (m : RecordBatch) (k : Kind) (p : Place) (rows : ℕ) (o : Offsets) (a : Variable) → VariableArray m k p rows o (more_at t m o p rows) → WasRead m p rows o a → are_offsets a.offsets (length a.values) ≡ true → (t && has_bad_text a.offsets a.values a.validity) ≡ true → Refuses (OutOfSpec kinds.InvalidUtf8) (read_faults m [] k p rows)
bad_refused false m k p rows o a f r s h = cc
bad_refused true m k p rows o a f r s h = texts_refused m k p rows o a f r s h

pub make_refused : (t : Bool) (m : RecordBatch) (k : Kind) (p : Place) (rows : ℕ) (o : Offsets) (a : Variable) (e : IpcError) → VariableArray m k p rows o (more_at t m o p rows) → WasRead m p rows o a
    → (e ≡ Memory) ⊎ (((e ≡ OutOfSpec kinds.InvalidOffsets) × (are_offsets a.offsets (length a.values) ≡ false)) ⊎ ((e ≡ OutOfSpec kinds.InvalidUtf8) × ((are_offsets a.offsets (length a.values) ≡ true) × ((t && has_bad_text a.offsets a.values a.validity) ≡ true)))) → Refuses e (read_faults m [] k p rows)
make_refused t m k p rows o a e f r (inl h) = memory_refuses e (read_faults m [] k p rows) h
make_refused t m k p rows o a e f r (inr (inl h)) = subst (λ x. Refuses x (read_faults m [] k p rows)) (sym h.0) (contents_refused m k p rows o _ a f r h.1)
make_refused t m k p rows o a e f r (inr (inr h)) = subst (λ x. Refuses x (read_faults m [] k p rows)) (sym h.0) (bad_refused t m k p rows o a f r h.1.0 h.1.1)

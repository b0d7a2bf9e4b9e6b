-- What is wrong with an array where nothing is with its buffers is found in the parts that are read.
use Rattle.std.proofs.Common.{◌≡◌, ℕ, zero, suc, ◌+◌, ◌*◌, ◌≤◌, List, [], ◌++◌, Bool, true, false, Option, Some, None, length, not, refl, sym, subst, ap, ◌∙◌, arith, inl, inr}
use Rattle.std.specs.Prelude.{if◌then◌else◌, nat_lt}
use Rattle.arrow_spec.specs.declared.error.IpcError.{IpcError}
use Rattle.arrow_spec.specs.declared.error.IpcError.TheVariants.{OutOfSpec}
use Rattle.arrow_spec.specs.declared.error.OutOfSpecKind.TheVariants as out
use Rattle.arrow_spec.specs.Kinds as kinds
use Rattle.arrow_spec.specs.Kinds.{Kind, Offsets, small, large}
use Rattle.arrow_spec.specs.Counts.{RecordBatch, Place}
use Rattle.arrow_spec.specs.Arrays.{Dictionaries, buf}
use Rattle.arrow_spec.specs.Faults.{cause, if_sound, node_faults, validity_faults, utf8_faults, fixed_faults, view_parts_faults, bad_view_faults, views_faults, view_text_faults, array_faults}
use Rattle.arrow_spec.proofs.Fewer.{none_first, none_second}
use Rattle.arrow_types.specs.Physical.{physical_of}
use Rattle.arrow_types.specs.declared.physical.PhysicalType.TheVariants as physical
use Rattle.arrow_types.specs.declared.physical.PrimitiveType.{PrimitiveType}
use Rattle.arrow_buffers.specs.declared.error.ArrayError.{ArrayError}
use Rattle.arrow_buffers.specs.declared.error.ArrayError.TheVariants.{Offsets as BadOffsets, Utf8, View}
use Rattle.arrow_buffers.specs.Layouts.{is_variable_any}
use Rattle.arrow_buffers.specs.Variable.{are_offsets, has_bad_text}
use Rattle.arrow_buffers.specs.Views.{has_bad_view, has_bad_view_text}
use Rattle.arrow_buffers.proofs.Parts.{length-from_on}
use Rattle.arrow_arrays.specs.LeafParts.{leaf_fault_in}
use Rattle.arrow_arrays.specs.Parts.{fault_in}
use Rattle.arrow_arrays.specs.LeafKinds.{is_leaf_kind}
use Rattle.ipc_read_laws.specs.PartsRead.{parts_in, plain_read, validity_read}
use Rattle.ipc_read_laws.specs.LeftFaults.{IsLeft}
use Rattle.ipc_read_laws.specs.LayoutFaults.{buffers_faults, between_faults}
use Rattle.ipc_read_laws.proofs.Buffers.{numbers_held}
use Rattle.ipc_read_laws.proofs.KindCases.{IsNumbers, Cases, by_kind, Like, like_itself}
use Rattle.ipc_read_laws.proofs.OffsetsRead.{offsets_told}
use Rattle.ipc_read_laws.proofs.ViewsRead.{views_told, buffers_told}
use Rattle.ipc_read_laws.proofs.Sound.{leaf_fault-read, numbers_fault-read, fixed_fault-read, bytes_faults-read, utf8_faults-read, variable_fault-read, variable_fault-none, views_held, bad_view_faults-read, bad_text_faults-read, view_fault-read, view_fault-none}

-- ── what is left of the faults ──

left : (f g : Option ArrayError) (es fs : List IpcError) → f ≡ g → es ≡ fs → IsLeft g fs → IsLeft f es
left f g es fs e h k = subst (λ x. IsLeft x es) (sym e) (subst (λ x. IsLeft g x) (sym h) k)

nothing_left : (f : Option ArrayError) (es : List IpcError) → f ≡ None → es ≡ [] → IsLeft f es
nothing_left f es e h = left f None es [] e h refl

left_binary : (a : Bool) → IsLeft (if not a then Some BadOffsets else None) (cause (not a) (OutOfSpec out.InvalidOffsets))
left_binary true = refl
left_binary false = inl refl

left_text : (a b : Bool) → IsLeft (if not a then Some BadOffsets else (if b then Some Utf8 else None)) (if_sound (cause (not a) (OutOfSpec out.InvalidOffsets)) (cause b (OutOfSpec out.InvalidUtf8)))
left_text true true = inl refl
left_text true false = refl
left_text false b = inl refl

left_view : (v : Bool) → IsLeft (if v then Some View else None) (cause v (OutOfSpec out.InvalidView))
left_view true = inl refl
left_view false = refl

left_text_view : (t v : Bool) → IsLeft (if t then Some Utf8 else (if v then Some View else None)) (cause v (OutOfSpec out.InvalidView) ++ cause t (OutOfSpec out.InvalidUtf8))
left_text_view true true = inr (inl refl)
left_text_view true false = inl refl
left_text_view false true = inl refl
left_text_view false false = refl

behind : (xs ys : List IpcError) → xs ≡ [] → xs ++ ys ≡ ys
behind xs ys h = rw h refl

-- ── kind by kind ──

-- the statement at a kind, for the parts under another kind of the same layout
abbrev Left : RecordBatch → Dictionaries → Place → ℕ → Kind → Type 0
Left m d p rows k = (l : Kind) → Like l k → buffers_faults m k p rows ≡ [] → IsLeft (leaf_fault_in (parts_in (physical_of k) m l p rows)) (array_faults m d k p rows)

null_left : (m : RecordBatch) (d : Dictionaries) (p : Place) (rows : ℕ) → Left m d p rows kinds.null
null_left m d p zero l like h = nothing_left _ _ (rw like.layout refl) h
null_left m d p (suc n) l like h = nothing_left _ _ (rw like.layout refl) h

bits_left : (m : RecordBatch) (d : Dictionaries) (p : Place) (rows : ℕ) → Left m d p rows kinds.boolean
bits_left m d p zero l like h = nothing_left _ _ (leaf_fault-read _ m p 0 _ (rw like.layout refl) refl) h
bits_left m d p (suc n) l like h = nothing_left _ _ (leaf_fault-read _ m p (suc n) _ (rw like.layout refl) (length-from_on _ 0 (suc n))) h

numbers_left : (m : RecordBatch) (d : Dictionaries) (p : Place) (rows : ℕ) (t : PrimitiveType) (k : Kind) → IsNumbers t k → Left m d p rows k
numbers_left m d p zero t k n l like h =
    nothing_left _ _ (ap (λ x. leaf_fault_in (parts_in x m l p 0)) n.layout ∙ numbers_fault-read t m l p 0 (like.layout ∙ n.layout) n.sized)
    (n.none m d p ∙ sym (n.none m [] p) ∙ sym (n.buffers m p 0) ∙ h)
numbers_left m d p (suc r) t k n l like h =
    nothing_left _ _ (ap (λ x. leaf_fault_in (parts_in x m l p (suc r))) n.layout ∙ numbers_fault-read t m l p (suc r) (like.layout ∙ n.layout) n.sized)
    (n.faults m d p r ∙ sym (n.faults m [] p r) ∙ sym (n.buffers m p (suc r)) ∙ h)

-- the rows of byte strings of one size are all there
pub fixed_held : (m : RecordBatch) (d : Dictionaries) (p : Place) (size rows : ℕ) → array_faults m d (kinds.fixed_size_binary size) p rows ≡ [] → size * rows ≤ length (buf m (p.buffer + 1))
fixed_held m d p size zero h = omega arith
fixed_held m d p size (suc n) h =
    let fixed : fixed_faults m p size (suc n) ≡ [] = none_second (node_faults m p (suc n)) _ h in
    numbers_held m (p.buffer + 1) size (suc n) (none_second (validity_faults m p (suc n)) _ fixed)

fixed_fine : (m : RecordBatch) (p : Place) (size rows : ℕ) (l : Kind) → nat_lt 0 size ≡ true → Like l (kinds.fixed_size_binary size) → array_faults m [] (kinds.fixed_size_binary size) p rows ≡ [] → leaf_fault_in (parts_in physical.FixedSizeBinary m l p rows) ≡ None
fixed_fine m p size rows l above like h =
    fixed_fault-read m l p rows (rw like.size above) (rw like.size (fixed_held m [] p size rows h))

fixed_left : (m : RecordBatch) (d : Dictionaries) (p : Place) (rows size : ℕ) → nat_lt 0 size ≡ true → Left m d p rows (kinds.fixed_size_binary size)
fixed_left m d p zero size above l like h = nothing_left _ _ (fixed_fine m p size 0 l above like h) h
fixed_left m d p (suc n) size above l like h = nothing_left _ _ (fixed_fine m p size (suc n) l above like h) h

-- a kind of the same layout suits where the other does
same_suits : (is_text : Bool) (k l : Kind) → Like l k → is_variable_any is_text (physical_of k) ≡ true → is_variable_any is_text (physical_of l) ≡ true
same_suits is_text k l like h = rw like.layout h

bytes_left : (m : RecordBatch) (d : Dictionaries) (o : Offsets) (p : Place) (n : ℕ) → node_faults m p (suc n) ++ between_faults m o p (suc n) ≡ [] → array_faults m d (kinds.binary o) p (suc n) ≡ cause (not (are_offsets (offsets_told m o (p.buffer + 1) (suc n)) (length (buf m (p.buffer + 2))))) (OutOfSpec out.InvalidOffsets)
bytes_left m d o p n h =
    behind (node_faults m p (suc n)) _ (none_first _ _ h) ∙ bytes_faults-read m o p (suc n) (none_second (node_faults m p (suc n)) _ h)

texts_left : (m : RecordBatch) (d : Dictionaries) (o : Offsets) (p : Place) (n : ℕ) → node_faults m p (suc n) ++ between_faults m o p (suc n) ≡ []
    → array_faults m d (kinds.utf8 o) p (suc n) ≡ if_sound (cause (not (are_offsets (offsets_told m o (p.buffer + 1) (suc n)) (length (buf m (p.buffer + 2))))) (OutOfSpec out.InvalidOffsets)) (cause (has_bad_text (offsets_told m o (p.buffer + 1) (suc n)) (buf m (p.buffer + 2)) (validity_read m p (suc n))) (OutOfSpec out.InvalidUtf8))
texts_left m d o p n h =
    behind (node_faults m p (suc n)) _ (none_first _ _ h)
    ∙ ap (λ x. if_sound x (utf8_faults m o p (suc n))) (bytes_faults-read m o p (suc n) (none_second (node_faults m p (suc n)) _ h))
    ∙ ap (if_sound (cause (not (are_offsets (offsets_told m o (p.buffer + 1) (suc n)) (length (buf m (p.buffer + 2))))) (OutOfSpec out.InvalidOffsets))) (utf8_faults-read m o p (suc n))

binary_left : (m : RecordBatch) (d : Dictionaries) (p : Place) (rows : ℕ) (o : Offsets) → Left m d p rows (kinds.binary o)
binary_left m d p zero small l like h = nothing_left _ _ (variable_fault-none false _ m l small p (same_suits false (kinds.binary small) l like refl)) h
binary_left m d p zero large l like h = nothing_left _ _ (variable_fault-none false _ m l large p (same_suits false (kinds.binary large) l like refl)) h
binary_left m d p (suc n) small l like h = left _ _ _ _ (variable_fault-read false _ m l small p n (same_suits false (kinds.binary small) l like refl)) (bytes_left m d small p n h) (left_binary _)
binary_left m d p (suc n) large l like h = left _ _ _ _ (variable_fault-read false _ m l large p n (same_suits false (kinds.binary large) l like refl)) (bytes_left m d large p n h) (left_binary _)

text_left : (m : RecordBatch) (d : Dictionaries) (p : Place) (rows : ℕ) (o : Offsets) → Left m d p rows (kinds.utf8 o)
text_left m d p zero small l like h = nothing_left _ _ (variable_fault-none true _ m l small p (same_suits true (kinds.utf8 small) l like refl)) h
text_left m d p zero large l like h = nothing_left _ _ (variable_fault-none true _ m l large p (same_suits true (kinds.utf8 large) l like refl)) h
text_left m d p (suc n) small l like h = left _ _ _ _ (variable_fault-read true _ m l small p n (same_suits true (kinds.utf8 small) l like refl)) (texts_left m d small p n h) (left_text _ _)
text_left m d p (suc n) large l like h = left _ _ _ _ (variable_fault-read true _ m l large p n (same_suits true (kinds.utf8 large) l like refl)) (texts_left m d large p n h) (left_text _ _)

views_left : (m : RecordBatch) (d : Dictionaries) (p : Place) (n : ℕ) → buffers_faults m kinds.binary_view p (suc n) ≡ [] → array_faults m d kinds.binary_view p (suc n) ≡ cause (has_bad_view (views_told m p (suc n)) (buffers_told m p) (validity_read m p (suc n))) (OutOfSpec out.InvalidView)
unfolding views_faults
views_left m d p n h =
    let parts : view_parts_faults m p (suc n) ≡ [] = none_second (node_faults m p (suc n)) _ h in
    behind (node_faults m p (suc n)) _ (none_first _ _ h) ∙ ap (λ x. if_sound x (bad_view_faults m p (suc n))) parts ∙ bad_view_faults-read m p (suc n) (views_held m p (suc n) parts)

text_views_left : (m : RecordBatch) (d : Dictionaries) (p : Place) (n : ℕ) → buffers_faults m kinds.utf8_view p (suc n) ≡ []
    → array_faults m d kinds.utf8_view p (suc n) ≡ cause (has_bad_view (views_told m p (suc n)) (buffers_told m p) (validity_read m p (suc n))) (OutOfSpec out.InvalidView) ++ cause (has_bad_view_text (views_told m p (suc n)) (buffers_told m p) (validity_read m p (suc n))) (OutOfSpec out.InvalidUtf8)
unfolding view_text_faults
text_views_left m d p n h =
    let parts : view_parts_faults m p (suc n) ≡ [] = none_second (node_faults m p (suc n)) _ h in
    let held = views_held m p (suc n) parts in
    behind (node_faults m p (suc n)) _ (none_first _ _ h)
    ∙ rw (parts, bad_view_faults-read m p (suc n) held, bad_text_faults-read m p (suc n) held) refl

view_left : (m : RecordBatch) (d : Dictionaries) (p : Place) (rows : ℕ) → Left m d p rows kinds.binary_view
view_left m d p zero l like h = nothing_left _ _ (view_fault-none false _ m l p (rw like.layout refl)) h
view_left m d p (suc n) l like h =
    let parts : view_parts_faults m p (suc n) ≡ [] = none_second (node_faults m p (suc n)) _ h in
    left _ _ _ _ (view_fault-read false _ m l p n (rw like.layout refl) (views_held m p (suc n) parts)) (views_left m d p n h) (left_view _)

text_view_left : (m : RecordBatch) (d : Dictionaries) (p : Place) (rows : ℕ) → Left m d p rows kinds.utf8_view
text_view_left m d p zero l like h = nothing_left _ _ (view_fault-none true _ m l p (rw like.layout refl)) h
text_view_left m d p (suc n) l like h =
    let parts : view_parts_faults m p (suc n) ≡ [] = none_second (node_faults m p (suc n)) _ h in
    left _ _ _ _ (view_fault-read true _ m l p n (rw like.layout refl) (views_held m p (suc n) parts)) (text_views_left m d p n h) (left_text_view _ _)

left_cases : (m : RecordBatch) (d : Dictionaries) (p : Place) (rows : ℕ) → Cases (Left m d p rows)
left_cases m d p rows = record {
  on_null = null_left m d p rows;
  on_bits = bits_left m d p rows;
  on_numbers = numbers_left m d p rows;
  on_fixed = fixed_left m d p rows;
  on_binary = binary_left m d p rows;
  on_text = text_left m d p rows;
  on_binary_view = view_left m d p rows;
  on_text_view = text_view_left m d p rows;
  on_extension = λ name metadata k f l like h. f l (record { layout = like.layout; size = like.size }) h;
}

-- with the buffers themselves well, the faults that are left are those that are found in the parts, also under a label
pub fault_under : (m : RecordBatch) (d : Dictionaries) (k l : Kind) (p : Place) (rows : ℕ) → is_leaf_kind k ≡ true → Like l k → buffers_faults m k p rows ≡ [] → IsLeft (leaf_fault_in (parts_in (physical_of k) m l p rows)) (array_faults m d k p rows)
fault_under m d k l p rows leaf like h = by_kind (Left m d p rows) (left_cases m d p rows) k leaf l like h

pub fault_read : (m : RecordBatch) (d : Dictionaries) (k : Kind) (p : Place) (rows : ℕ) → is_leaf_kind k ≡ true → buffers_faults m k p rows ≡ [] → IsLeft (fault_in (plain_read m k p rows)) (array_faults m d k p rows)
fault_read m d k p rows leaf h = fault_under m d k k p rows leaf (like_itself k) h

-- What is wrong with an array is told by its layout, and what is wrong with its buffers is wrong with the array.
use Rattle.std.proofs.Common.{◌≡◌, ℕ, zero, suc, ◌+◌, List, [], ◌∷◌, ◌++◌, true, refl, sym, subst, ap, ◌∙◌, inl, inr}
use Rattle.arrow_spec.specs.declared.error.IpcError.{IpcError}
use Rattle.arrow_spec.specs.declared.error.IpcError.TheVariants.{OutOfSpec}
use Rattle.arrow_spec.specs.declared.error.OutOfSpecKind.TheVariants as out
use Rattle.arrow_spec.specs.Readings.{IsAmong}
use Rattle.arrow_spec.specs.Kinds as kinds
use Rattle.arrow_spec.specs.Kinds.{Kind, Offsets, small, large}
use Rattle.arrow_spec.specs.Counts.{RecordBatch, Place, magnitude}
use Rattle.arrow_spec.specs.Arrays.{Dictionaries, range_of, view_of}
use Rattle.arrow_spec.specs.Faults.{if_sound, cause, some_valid_row, is_no_text_view, node_faults, offsets_faults, bytes_faults, utf8_faults, view_parts_faults, bad_view_faults, views_faults, view_text_faults, array_faults}
use Rattle.arrow_types.specs.declared.physical.PrimitiveType.{PrimitiveType}
use Rattle.arrow_buffers.specs.Layouts.{binary_size}
use Rattle.arrow_arrays.specs.LeafKinds.{is_leaf_kind}
use Rattle.ipc_read_laws.specs.Laws.{FaultsAreTold}
use Rattle.ipc_read_laws.specs.LayoutFaults.{buffers_faults, between_faults, contents_of, layout_faults}
use Rattle.ipc_read_laws.proofs.KindCases.{IsNumbers, by_kind}

-- ── by layout ──

abbrev ByLayout : RecordBatch → Dictionaries → Place → ℕ → Kind → Type 0
ByLayout m d p rows k = array_faults m d k p rows ≡ layout_faults m k p rows

layout_null : (m : RecordBatch) (d : Dictionaries) (p : Place) (rows : ℕ) → ByLayout m d p rows kinds.null
layout_null m d p zero = refl
layout_null m d p (suc n) = refl

layout_bits : (m : RecordBatch) (d : Dictionaries) (p : Place) (rows : ℕ) → ByLayout m d p rows kinds.boolean
layout_bits m d p zero = refl
layout_bits m d p (suc n) = refl

layout_numbers : (m : RecordBatch) (d : Dictionaries) (p : Place) (rows : ℕ) (t : PrimitiveType) (k : Kind) → IsNumbers t k → ByLayout m d p rows k
layout_numbers m d p zero t k n = n.none m d p ∙ ap (λ l. node_faults m p 0 ++ contents_of l (binary_size k) m p 0) (sym n.layout)
layout_numbers m d p (suc r) t k n = n.faults m d p r ∙ ap (λ l. node_faults m p (suc r) ++ contents_of l (binary_size k) m p (suc r)) (sym n.layout)

layout_fixed : (m : RecordBatch) (d : Dictionaries) (p : Place) (rows size : ℕ) → ByLayout m d p rows (kinds.fixed_size_binary size)
layout_fixed m d p zero size = refl
layout_fixed m d p (suc n) size = refl

layout_binary : (m : RecordBatch) (d : Dictionaries) (p : Place) (rows : ℕ) (o : Offsets) → ByLayout m d p rows (kinds.binary o)
layout_binary m d p zero small = refl
layout_binary m d p zero large = refl
layout_binary m d p (suc n) small = refl
layout_binary m d p (suc n) large = refl

layout_text : (m : RecordBatch) (d : Dictionaries) (p : Place) (rows : ℕ) (o : Offsets) → ByLayout m d p rows (kinds.utf8 o)
layout_text m d p zero small = refl
layout_text m d p zero large = refl
layout_text m d p (suc n) small = refl
layout_text m d p (suc n) large = refl

layout_views : (m : RecordBatch) (d : Dictionaries) (p : Place) (rows : ℕ) → ByLayout m d p rows kinds.binary_view
layout_views m d p zero = refl
layout_views m d p (suc n) = refl

layout_text_views : (m : RecordBatch) (d : Dictionaries) (p : Place) (rows : ℕ) → ByLayout m d p rows kinds.utf8_view
layout_text_views m d p zero = refl
layout_text_views m d p (suc n) = refl

-- what is wrong with an array without children is told by its layout, and by no dictionaries
pub faults_by_layout : (m : RecordBatch) (d : Dictionaries) (k : Kind) (p : Place) (rows : ℕ) → is_leaf_kind k ≡ true → array_faults m d k p rows ≡ layout_faults m k p rows
faults_by_layout m d k p rows leaf = by_kind (ByLayout m d p rows) (record {
  on_null = layout_null m d p rows;
  on_bits = layout_bits m d p rows;
  on_numbers = layout_numbers m d p rows;
  on_fixed = λ size above. layout_fixed m d p rows size;
  on_binary = layout_binary m d p rows;
  on_text = layout_text m d p rows;
  on_binary_view = layout_views m d p rows;
  on_text_view = layout_text_views m d p rows;
  on_extension = λ name metadata k f. f;
}) k leaf

-- ── what is wrong with the buffers ──

pub among_left : (xs ys : List IpcError) (e : IpcError) → IsAmong xs e → IsAmong (xs ++ ys) e
among_left [] ys e h = absurd h
among_left (x ∷ xs) ys e (inl h) = inl h
among_left (x ∷ xs) ys e (inr h) = inr (among_left xs ys e h)

pub among_right : (xs ys : List IpcError) (e : IpcError) → IsAmong ys e → IsAmong (xs ++ ys) e
among_right [] ys e h = h
among_right (x ∷ xs) ys e h = inr (among_right xs ys e h)

pub among_sound : (xs ys : List IpcError) (e : IpcError) → IsAmong xs e → IsAmong (if_sound xs ys) e
among_sound [] ys e h = absurd h
among_sound (x ∷ xs) ys e h = h

among_parts : (node parts rest : List IpcError) (e : IpcError) → IsAmong (node ++ parts) e → IsAmong (node ++ if_sound parts rest) e
among_parts [] parts rest e h = among_sound parts rest e h
among_parts (x ∷ node) parts rest e (inl h) = inl h
among_parts (x ∷ node) parts rest e (inr h) = inr (among_parts node parts rest e h)

abbrev Refused : RecordBatch → Dictionaries → Place → ℕ → IpcError → Kind → Type 0
Refused m d p rows e k = IsAmong (buffers_faults m k p rows) e → IsAmong (array_faults m d k p rows) e

abbrev offsets_at : RecordBatch → Offsets → Place → ℕ → List IpcError
offsets_at m o p rows = offsets_faults m o (p.buffer + 1) rows (magnitude (range_of m (p.buffer + 2)).length)

refused_null : (m : RecordBatch) (d : Dictionaries) (p : Place) (rows : ℕ) (e : IpcError) → Refused m d p rows e kinds.null
refused_null m d p zero e h = h
refused_null m d p (suc n) e h = h

refused_bits : (m : RecordBatch) (d : Dictionaries) (p : Place) (rows : ℕ) (e : IpcError) → Refused m d p rows e kinds.boolean
refused_bits m d p zero e h = h
refused_bits m d p (suc n) e h = h

refused_numbers : (m : RecordBatch) (d : Dictionaries) (p : Place) (rows : ℕ) (e : IpcError) (t : PrimitiveType) (k : Kind) → IsNumbers t k → Refused m d p rows e k
refused_numbers m d p zero e t k n h = subst (λ es. IsAmong es e) (n.buffers m p 0 ∙ n.none m [] p ∙ sym (n.none m d p)) h
refused_numbers m d p (suc r) e t k n h = subst (λ es. IsAmong es e) (n.buffers m p (suc r) ∙ n.faults m [] p r ∙ sym (n.faults m d p r)) h

refused_fixed : (m : RecordBatch) (d : Dictionaries) (p : Place) (rows : ℕ) (e : IpcError) (size : ℕ) → Refused m d p rows e (kinds.fixed_size_binary size)
refused_fixed m d p zero e size h = h
refused_fixed m d p (suc n) e size h = h

refused_binary : (m : RecordBatch) (d : Dictionaries) (p : Place) (rows : ℕ) (e : IpcError) (o : Offsets) → Refused m d p rows e (kinds.binary o)
unfolding bytes_faults
refused_binary m d p zero e small h = h
refused_binary m d p zero e large h = h
refused_binary m d p (suc n) e small h = among_parts (node_faults m p (suc n)) (between_faults m small p (suc n)) (offsets_at m small p (suc n)) e h
refused_binary m d p (suc n) e large h = among_parts (node_faults m p (suc n)) (between_faults m large p (suc n)) (offsets_at m large p (suc n)) e h

refused_text : (m : RecordBatch) (d : Dictionaries) (p : Place) (rows : ℕ) (e : IpcError) (o : Offsets) → Refused m d p rows e (kinds.utf8 o)
unfolding bytes_faults
refused_text m d p zero e small h = h
refused_text m d p zero e large h = h
refused_text m d p (suc n) e small h = among_parts (node_faults m p (suc n)) (if_sound (between_faults m small p (suc n)) (offsets_at m small p (suc n))) (utf8_faults m small p (suc n)) e (among_parts (node_faults m p (suc n)) (between_faults m small p (suc n)) (offsets_at m small p (suc n)) e h)
refused_text m d p (suc n) e large h = among_parts (node_faults m p (suc n)) (if_sound (between_faults m large p (suc n)) (offsets_at m large p (suc n))) (utf8_faults m large p (suc n)) e (among_parts (node_faults m p (suc n)) (between_faults m large p (suc n)) (offsets_at m large p (suc n)) e h)

refused_views : (m : RecordBatch) (d : Dictionaries) (p : Place) (rows : ℕ) (e : IpcError) → Refused m d p rows e kinds.binary_view
unfolding views_faults
refused_views m d p zero e h = h
refused_views m d p (suc n) e h = among_parts (node_faults m p (suc n)) (view_parts_faults m p (suc n)) (bad_view_faults m p (suc n)) e h

refused_text_views : (m : RecordBatch) (d : Dictionaries) (p : Place) (rows : ℕ) (e : IpcError) → Refused m d p rows e kinds.utf8_view
unfolding view_text_faults
refused_text_views m d p zero e h = h
refused_text_views m d p (suc n) e h = among_parts (node_faults m p (suc n)) (view_parts_faults m p (suc n)) (bad_view_faults m p (suc n) ++ cause (some_valid_row m p (λ row. is_no_text_view m p (view_of m p row)) (suc n)) (OutOfSpec out.InvalidUtf8)) e h

-- what is wrong with the node or with the buffers is wrong with the array
pub buffers_refused : (m : RecordBatch) (d : Dictionaries) (k : Kind) (p : Place) (rows : ℕ) (e : IpcError) → is_leaf_kind k ≡ true → IsAmong (buffers_faults m k p rows) e → IsAmong (array_faults m d k p rows) e
buffers_refused m d k p rows e leaf = by_kind (Refused m d p rows e) (record {
  on_null = refused_null m d p rows e;
  on_bits = refused_bits m d p rows e;
  on_numbers = refused_numbers m d p rows e;
  on_fixed = λ size above. refused_fixed m d p rows e size;
  on_binary = refused_binary m d p rows e;
  on_text = refused_text m d p rows e;
  on_binary_view = refused_views m d p rows e;
  on_text_view = refused_text_views m d p rows e;
  on_extension = λ name metadata k f. f;
}) k leaf

-- what is wrong with the node is wrong with the array
pub node_refused : (m : RecordBatch) (d : Dictionaries) (k : Kind) (p : Place) (rows : ℕ) (e : IpcError) → is_leaf_kind k ≡ true → IsAmong (node_faults m p rows) e → IsAmong (array_faults m d k p rows) e
node_refused m d k p rows e leaf h = subst (λ es. IsAmong es e) (sym (faults_by_layout m d k p rows leaf)) (among_left (node_faults m p rows) _ e h)

pub faults_told : FaultsAreTold
faults_told m d k p rows leaf = record { all_told = faults_by_layout m d k p rows leaf; all_refused = λ e. buffers_refused m d k p rows e leaf }

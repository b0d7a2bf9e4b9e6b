-- A stream over the lists of another's dictionaries means the same table, and its columns are of the same kinds.
use Rattle.std.proofs.Common.{◌≡◌, ◌&&◌, List, [], ◌∷◌, map, Bool, true, refl, sym, ap, ◌∙◌, ◌⊎◌, inl, inr, All, false, subst, Vec, Global}
use Rattle.std.specs.List.{list_all}
use Rattle.arrow_spec.specs.Cells.{Cell}
use Rattle.arrow_spec.specs.Files.{TableBatch}
use Rattle.arrow_spec.specs.Kinds as kind
use Rattle.arrow_spec.specs.Kinds.{Fields, have_same_kinds}
use Rattle.arrow_arrays.specs.BatchCode.{Holding}
use Rattle.arrow_arrays.specs.Batches.{Batch}
use Rattle.arrow_arrays.specs.CellCode.{Content}
use Rattle.arrow_arrays.specs.Columns.{columns_of}
use Rattle.arrow_arrays.specs.Parts.{Parts, cells_in, forest, kind_in}
use Rattle.arrow_arrays.specs.SameBatches.{contents_in, holding_of}
use Rattle.laws_walk.specs.Below.{table_of}
use Rattle.ipc_append.specs.Below.{StreamMetadata}
use Rattle.ipc_append.specs.Columns.{are_of}
use Rattle.ipc_append.specs.Wholes.{table_read}
use Rattle.ipc_append.specs.declared.stream.WholeStream.{WholeStream}
use Rattle.ipc_to_file.specs.Streams.{IsMadeOf, has_large}
use Rattle.ipc_to_file.specs.Writing.{table_of_stream}
use Rattle.std.specs.Rc.{rc_value}
use Rattle.arrow_types.specs.Schemas.{Keyed, fields_in}
use Rattle.arrow_spec.specs.declared.error.IpcError.{IpcError}
use Rattle.arrow_spec.specs.declared.error.IpcError.TheVariants.{Memory, NotRepresentable}
use Rattle.ipc_unify.specs.Below.{AreOver, has_large_keys, unified, united}

-- ── cells ──

abbrev cells_shown : List Content → List (List Cell)
cells_shown [] = []
cells_shown (c ∷ cs) = c.1 ∷ cells_shown cs

cells_are : (ps : List Parts) → map cells_in ps ≡ cells_shown (contents_in ps)
cells_are [] = refl
cells_are (p ∷ ps) = ap (λ (xs : List (List Cell)). cells_in p ∷ xs) (cells_are ps)

abbrev shown : Holding → TableBatch
shown h = record { rows = h.rows; columns = cells_shown h.columns; custom = h.custom }

table_is : (b : Batch) → table_of b ≡ shown (holding_of b)
table_is b = ap (λ (cells : List (List Cell)). let t : TableBatch = record { rows = b.height; columns = cells; custom = b.custom } in t) (cells_are b.arrays)

all_shown : (bs : List Batch) → map table_of bs ≡ map shown (map holding_of bs)
all_shown [] = refl
all_shown (b ∷ bs) = ap (λ (t : TableBatch). t ∷ map table_of bs) (table_is b) ∙ ap (λ (ts : List TableBatch). shown (holding_of b) ∷ ts) (all_shown bs)

pub same_tables : (xs ys : List Batch) → map holding_of xs ≡ map holding_of ys → map table_of xs ≡ map table_of ys
same_tables xs ys h = all_shown xs ∙ ap (map shown) h ∙ sym (all_shown ys)

-- ── kinds ──

abbrev fields_shown : List Content → Fields
fields_shown [] = kind.none
fields_shown (c ∷ cs) = kind.field [] true [] c.0 (fields_shown cs)

fields_are : (ps : List Parts) → columns_of (forest ps) ≡ fields_shown (contents_in ps)
fields_are [] = refl
fields_are (p ∷ ps) = ap (λ fs. kind.field [] true [] (kind_in p) fs) (fields_are ps)

abbrev has_kinds : Fields → Holding → Bool
has_kinds fs h = have_same_kinds fs (fields_shown h.columns)

all_kinds : (fs : Fields) (bs : List Batch) → are_of fs bs ≡ list_all (has_kinds fs) (map holding_of bs)
all_kinds fs [] = refl
all_kinds fs (b ∷ bs) = ap (λ x. x && are_of fs bs) (ap (have_same_kinds fs) (fields_are b.arrays)) ∙ ap (λ x. has_kinds fs (holding_of b) && x) (all_kinds fs bs)

pub same_kinds : (fs : Fields) (xs ys : List Batch) → map holding_of xs ≡ map holding_of ys → are_of fs ys ≡ true → are_of fs xs ≡ true
same_kinds fs xs ys h k = all_kinds fs xs ∙ ap (list_all (has_kinds fs)) h ∙ sym (all_kinds fs ys) ∙ k

-- ── tables ──

pub made_table : (s u : WholeStream) → IsMadeOf s u → table_read u ≡ table_read s
made_table s u h =
    ap (λ (m : StreamMetadata). table_of_stream m (map table_of u.batches.items)) h.metadata
    ∙ ap (table_of_stream s.metadata) (same_tables u.batches.items s.batches.items h.same)

-- what the dictionaries of a stream are made, by its schema
pub made_of : (s : WholeStream) (schema : List Keyed) (v : Vec Batch Global) (kinds : are_of (fields_in (rc_value s.metadata.schema)) v.items ≡ true) → schema ≡ rc_value s.metadata.schema → v.items ≡ unified schema s.batches.items
    → map holding_of v.items ≡ map holding_of s.batches.items → All (λ (b : Batch). AreOver (united schema s.batches.items) (forest b.arrays) 0) v.items → has_large_keys schema s.batches.items ≡ false
    → IsMadeOf s (record { metadata = s.metadata; batches = v; kinds = kinds })
made_of s schema v kinds is unified_is same over fits = record {
  metadata = refl;
  batches = unified_is ∙ ap (λ x. unified x s.batches.items) is;
  same = same;
  over = subst (λ x. All (λ (b : Batch). AreOver (united x s.batches.items) (forest b.arrays) 0) v.items) is over;
  fits = ap (λ x. has_large_keys x s.batches.items) (sym is) ∙ fits;
}

pub refused_of : (s : WholeStream) (schema : List Keyed) (e : IpcError) → schema ≡ rc_value s.metadata.schema → (e ≡ Memory) ⊎ ((e ≡ NotRepresentable) × (has_large_keys schema s.batches.items ≡ true)) → (e ≡ Memory) ⊎ ((e ≡ NotRepresentable) × has_large s)
refused_of s schema e is (inl h) = inl h
refused_of s schema e is (inr h) = inr (h.0, ap (λ x. has_large_keys x s.batches.items) (sym is) ∙ h.1)

-- What is written of columns means the cells of their arrays.
use Rattle.std.proofs.Common.{◌≡◌, ℕ, ◌+◌, ◌<◌, ◌≤◌, List, [], ◌∷◌, None, true, length, drop, get_or, map, refl, ap, subst, sym, ◌∙◌, Result, Ok, Err}
use Rattle.std.specs.Prelude.{IfOk}
use Rattle.std.specs.List.{AllByRecursion}
use Rattle.std.proofs.lemmas.List.{drop_all}
use Rattle.arrow_spec.specs.Flat.{little}
use Rattle.arrow_spec.specs.Kinds.{Fields, none, field}
use Rattle.arrow_spec.specs.Arrays.{Dictionaries}
use Rattle.arrow_arrays.specs.Batches.{Batch, have_rows}
use Rattle.arrow_arrays.specs.LeafParts.{LeafParts, binary_views, text_views}
use Rattle.arrow_arrays.specs.Parts.{Parts, Forest, leaf, nested, none as no_parts, also, kind_in, rows_in, cells_in, fault_in}
use Rattle.arrow_arrays.specs.PartsOf.{parts_of, all_parts_of}
use Rattle.arrow_arrays.specs.declared.array.Array.{Array}
use Rattle.ipc_write_arrays.specs.Below.{Means, plain_kind, AreOf}
use Rattle.ipc_fields.proofs.SameKinds.{same_itself}
use Rattle.ipc_write_arrays.specs.Dictionaries.{is_alike, HoldsValues}
use Rattle.ipc_write_arrays.specs.Outputs.{LeafMayHaveOrder, MayHaveOrder, MayHaveOrderEach}
use Rattle.ipc_write_arrays.specs.Pieces.{column_in, with_kind, IsMeant}
use Rattle.ipc_write.specs.Batches.{top_column}
use Rattle.ipc_write.specs.Compaction.{top}
use Rattle.ipc_write.specs.Laying.{ColumnFits}
use Rattle.ipc_write.specs.Encoding.{TopMeans, AllMean, AreAlike, HoldAllValues, columns_under}
use Rattle.ipc_write.proofs.ColumnSteps.{next_parts, height_of}
use Rattle.ipc_write.proofs.Compacted.{top_cells, top_kind, top_rows, top_held}

-- ── the order ──

leaf_little : (l : LeafParts) → LeafMayHaveOrder l true
leaf_little (binary_views x) = refl
leaf_little (text_views x) = refl
leaf_little l = tt

-- any array may be written in little-endian order
mutual
  pub may_little : (p : Parts) → MayHaveOrder p true
  may_little (leaf l) = leaf_little l
  may_little (nested h cs) = may_little_each cs

  may_little_each : (cs : Forest) → MayHaveOrderEach cs true
  may_little_each no_parts = tt
  may_little_each (also p cs) = (may_little p, may_little_each cs)

-- ── one column ──

-- an array that stands for a top column
pub top_means : {T E : Type 0} → (r : Result T E) (p q : Parts) → fault_in p ≡ None → ColumnFits p → q ≡ top p → IfOk r (λ _. IsMeant little q) → IfOk r (λ _. TopMeans (rows_in p) p)
top_means (Ok t) p q e fits same h =
    let here : IsMeant little (top p) = subst (IsMeant little) same h in
    record {
      means = λ k d alike held. subst (λ n. Means little d n (with_kind k (column_in little (top p)))) (top_rows p e fits) (here k d (ap (λ l. is_alike l k) (top_kind p) ∙ alike) (top_held d k p held));
      cells = top_cells p e fits;
    }
top_means (Err x) p q e fits same h = tt

-- ── the loop ──

-- those that are left make all of them mean their cells
pub next_means : (xs : List Array) (i : ℕ) (x : Array) (height : ℕ) → x ≡ get_or xs i x → i < length xs → have_rows height (all_parts_of xs) ≡ true → TopMeans (rows_in (parts_of x)) (parts_of x)
    → (AllMean height (all_parts_of (drop i xs)) → AllMean height (all_parts_of xs)) → AllMean height (all_parts_of (drop (i + 1) xs)) → AllMean height (all_parts_of xs)
next_means xs i x height e h rows here before rest =
    let first : TopMeans height (parts_of x) = subst (λ n. TopMeans n (parts_of x)) (height_of xs i x height e h rows) here in
    let both : AllMean height (parts_of x ∷ all_parts_of (drop (i + 1) xs)) = (first, rest) in
    before (subst (AllMean height) (sym (next_parts xs i x e h)) both)

pub means_done : (xs : List Array) (i height : ℕ) → length xs ≤ i → (AllMean height (all_parts_of (drop i xs)) → AllMean height (all_parts_of xs)) → AllMean height (all_parts_of xs)
means_done xs i height h before = before (subst (λ l. AllMean height (all_parts_of l)) (sym (drop_all i xs h)) tt)

-- ── a batch ──

pub batch_means : (rows : ℕ) (ps : List Parts) (b : Batch) → rows ≡ b.height → ps ≡ b.arrays → AllMean rows ps → AllMean b.height b.arrays
batch_means rows ps b hr hp h = subst (λ n. AllMean n b.arrays) hr (subst (AllMean rows) hp h)

-- columns mean their cells under the kinds of fields, where the values of their dictionaries were read under the fields' ids
pub columns_mean : (d : Dictionaries) (rows : ℕ) (fs : Fields) (ps : List Parts) → AllMean rows ps → AreAlike fs ps → HoldAllValues d fs ps → AllByRecursion (λ c. Means little d rows c) (columns_under fs ps)
columns_mean d rows fs [] h alike held = tt
columns_mean d rows none (p ∷ ps) h alike held = absurd alike
columns_mean d rows (field name nullable metadata k others) (p ∷ ps) h alike held = (h.0.means k d alike.0 held.0, columns_mean d rows others ps h.1 alike.1 held.1)

-- and are of the fields
pub columns_under_are_of : (fs : Fields) (ps : List Parts) → AreAlike fs ps → AreOf fs (columns_under fs ps)
columns_under_are_of none [] alike = tt
columns_under_are_of none (p ∷ ps) alike = absurd alike
columns_under_are_of (field name nullable metadata k others) [] alike = absurd alike
columns_under_are_of (field name nullable metadata k others) (p ∷ ps) alike = (refl, columns_under_are_of others ps alike.1)

-- under their own kinds
pub all_columns : (d : Dictionaries) (rows : ℕ) (ps : List Parts) → AllMean rows ps → AllByRecursion (λ p. HoldsValues d p) ps → AllByRecursion (λ c. Means little d rows c) (map top_column ps)
all_columns d rows [] h held = tt
all_columns d rows (p ∷ ps) h held =
    let here : Means little d rows (with_kind (kind_in p) (top_column p)) = h.0.means (kind_in p) d (same_itself (plain_kind (kind_in p))) held.0 in
    (subst (λ k. Means little d rows (with_kind k (top_column p))) (sym (top_kind p)) here, all_columns d rows ps h.1 held.1)

pub all_cells : (rows : ℕ) (ps : List Parts) → AllMean rows ps → map (λ c. c.cells) (map top_column ps) ≡ map cells_in ps
all_cells rows [] h = refl
all_cells rows (p ∷ ps) h = ap (λ x. x ∷ map (λ c. c.cells) (map top_column ps)) h.0.cells ∙ ap (λ l. cells_in p ∷ l) (all_cells rows ps h.1)

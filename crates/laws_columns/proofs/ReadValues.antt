-- The dictionaries of an array that was read hold their values under new ids, where these are known.
use Rattle.std.proofs.Common.{◌≡◌, ℕ, ◌+◌, ◌*◌, List, [], ◌∷◌, Option, Some, None, ℤ, pos, ap, sym, refl, ◌∙◌, append-nil}
use Rattle.std.specs.Option.{option_map}
use Rattle.std.proofs.Math.Nat.{zero-div}
use Rattle.arrow_spec.specs.declared.types.UnionMode.TheVariants.{Dense, Sparse}
use Rattle.arrow_spec.specs.Kinds as kind
use Rattle.arrow_spec.specs.Kinds.{Kind, Fields, dictionary_count, numbered_kind, numbered}
use Rattle.arrow_spec.specs.Counts.{RecordBatch, Place, after, inside, union_buffers}
use Rattle.arrow_spec.specs.Arrays.{Dictionaries, found}
use Rattle.arrow_spec.specs.Sent.{offset_read, dense_rows}
use Rattle.arrow_types.specs.Physical.{physical_of}
use Rattle.arrow_types.specs.declared.physical.PhysicalType.{PhysicalType}
use Rattle.arrow_types.specs.declared.physical.PhysicalType.TheVariants as physical
use Rattle.ipc_write.specs.Below.{binary_size, empty_leaf, empty_under, leaf_cells_in, indexed, joined, Parts, Forest, leaf, nested, cells_in, cells_each, Held, HoldsCells, parts_or_empty, parts_under, forest_read, parts_read, plain_kind, HoldsValuesAt, HoldsEachAt}
use Rattle.laws_transcode.specs.Below.{IsKnown, Known}
use Rattle.laws_transcode.specs.Sending.{cells_or_none, AreKnown, AllAreKnown}

-- ── arrays without rows ──

leaf_without : (p : PhysicalType) (k : Kind) → leaf_cells_in (empty_leaf p k) ≡ []
leaf_without physical.Boolean k = refl
leaf_without (physical.Primitive t) k = refl
leaf_without physical.FixedSizeBinary k = rw (zero-div (binary_size k)) refl
leaf_without physical.Binary k = refl
leaf_without physical.LargeBinary k = refl
leaf_without physical.Utf8 k = refl
leaf_without physical.LargeUtf8 k = refl
leaf_without physical.BinaryView k = refl
leaf_without physical.Utf8View k = refl
leaf_without p k = refl

without_cells : (l k : Kind) → cells_in (empty_under l k) ≡ []
without_cells l (kind.«list» o fs) = refl
without_cells l (kind.map sorted fs) = refl
without_cells l (kind.fixed_size_list size fs) = refl
without_cells l (kind.struct fs) = refl
without_cells l (kind.union Sparse stated ids fs) = refl
without_cells l (kind.union Dense stated ids fs) = refl
without_cells l (kind.dictionary t ordered id k) = refl
without_cells l (kind.extension name metadata k) = without_cells l k
without_cells l k = leaf_without (physical_of k) l

-- ── values ──

-- what is held of a dictionary has the cells that were read, or none
cells_held : (e : Dictionaries) (old : ℤ) (o : Option Forest) (k : Kind) → found e old ≡ option_map (λ parts. joined (cells_each parts)) o → cells_or_none (found e old) ≡ joined (cells_each (parts_or_empty o k))
cells_held e old None k h = ap cells_or_none h ∙ ap (λ xs. joined (xs ∷ [])) (sym (without_cells (plain_kind k) (plain_kind k)))
cells_held e old (Some parts) k h = ap cells_or_none h

-- an extension holds what it stands above
under_extension : (d : Dictionaries) (name : List ℕ) (metadata : Option (List ℕ)) (k : Kind) (p : Parts) → HoldsValuesAt d k p → HoldsValuesAt d (kind.extension name metadata k) p
under_extension d name metadata k (leaf l) h = tt
under_extension d name metadata k (nested (indexed x) cs) h = h
under_extension d name metadata k (nested t cs) h = h

module _ (m : RecordBatch) (h : Held) (e : Dictionaries) (holds : HoldsCells e h) (c : Known) (d : Dictionaries) (told : IsKnown c d) where
  mutual
    values_under : (l k : Kind) (p : Place) (rows id : ℕ) → AreKnown e k id c → HoldsValuesAt d (numbered_kind k id) (parts_under l m h k p rows)
    values_under l (kind.«list» o fs) p rows id known = values_each fs (inside 2 p) (λ q. offset_read m o p rows) id known
    values_under l (kind.map sorted fs) p rows id known = values_each fs (inside 2 p) (λ q. offset_read m kind.small p rows) id known
    values_under l (kind.fixed_size_list size fs) p rows id known = values_each fs (inside 1 p) (λ q. size * rows) id known
    values_under l (kind.struct fs) p rows id known = values_each fs (inside 1 p) (λ q. rows) id known
    values_under l (kind.union Sparse stated ids fs) p rows id known = values_each fs (inside (union_buffers m.version Sparse) p) (λ q. rows) id known
    values_under l (kind.union Dense stated ids fs) p rows id known = values_each fs (inside (union_buffers m.version Dense) p) (λ q. dense_rows m q rows) id known
    values_under l (kind.dictionary t ordered old k) p rows id known =
        ([], told (pos id) ∙ known ∙ ap Some (cells_held e old (h old) k (holds old) ∙ sym (append-nil (joined (cells_each (parts_or_empty (h old) k))))))
    values_under l (kind.extension name metadata k) p rows id known = under_extension d name metadata (numbered_kind k id) (parts_under l m h k p rows) (values_under l k p rows id known)
    values_under l k p rows id known = tt

    values_each : (fs : Fields) (p : Place) (rows : Place → ℕ) (id : ℕ) → AllAreKnown e fs id c → HoldsEachAt d (numbered fs id) (forest_read m h fs p rows)
    values_each kind.none p rows id known = tt
    values_each (kind.field name nullable metadata k others) p rows id known =
        (values_under (plain_kind k) k p (rows p) id known.0, values_each others (after m k p) rows (id + dictionary_count k) known.1)

-- the values of an array's dictionaries, under ids that count from a number on
pub read_values_at : (m : RecordBatch) (h : Held) (e : Dictionaries) (k : Kind) (p : Place) (rows id : ℕ) (c : Known) (d : Dictionaries) → HoldsCells e h → AreKnown e k id c → IsKnown c d
    → HoldsValuesAt d (numbered_kind k id) (parts_read m h k p rows)
read_values_at m h e k p rows id c d holds known told = values_under m h e holds c d told (plain_kind k) k p rows id known

-- Rows that are taken of columns of a file's dictionaries are columns of these too.
use Rattle.std.proofs.Common.{◌≡◌, ◌∙◌, refl, sym, ap, subst, ℕ, List, [], ◌∷◌, true, None, map}
use Rattle.arrow_spec.specs.Arrays.{Dictionaries}
use Rattle.arrow_spec.specs.Kinds as kind
use Rattle.arrow_spec.specs.Kinds.{Fields, Kind, have_same_kinds}
use Rattle.arrow_arrays.specs.Columns.{columns_of}
use Rattle.arrow_arrays.specs.Heads.{indexed, listed, mapped, sized, structured, tagged}
use Rattle.arrow_arrays.specs.LeafParts.{LeafParts, leaf_kind_in, binary, binary_views, bits, fixed, nulls, numbers, text, text_views}
use Rattle.arrow_arrays.specs.Parts.{Forest, Parts, also, fault_each, forest, kind_in, leaf, nested, none}
use Rattle.ipc_fields.specs.IpcFields.{Ids}
use Rattle.laws_sent.specs.Below.{Held, plain_fields}
use Rattle.laws_sent.specs.DictionaryLaws.{AreFileColumns}
use Rattle.laws_sent.specs.Parts.{PartTree}
use Rattle.laws_sent.specs.ReadUnder.{AreReadUnder, IsReadUnder, held_of}
use Rattle.laws_writers.specs.Below.{is_indexed, values_in}
use Rattle.array_filter.specs.Taken.{Left, all_rows, each_taken, leaf_rows_taken, rows_taken, these_rows, left_of}

-- ── kinds ──

leaf_kind_taken : (ns : List ℕ) (l : LeafParts) → leaf_kind_in (leaf_rows_taken ns l) ≡ leaf_kind_in l
leaf_kind_taken ns (nulls n) = refl
leaf_kind_taken ns (bits f) = refl
leaf_kind_taken ns (numbers f) = refl
leaf_kind_taken ns (fixed f) = refl
leaf_kind_taken ns (binary p) = refl
leaf_kind_taken ns (text p) = refl
leaf_kind_taken ns (binary_views p) = refl
leaf_kind_taken ns (text_views p) = refl

pub kind_taken : (ns : List ℕ) (p : Parts) → kind_in (rows_taken ns p) ≡ kind_in p
kind_taken ns (leaf l) = leaf_kind_taken ns l
kind_taken ns (nested (listed l) cs) = refl
kind_taken ns (nested (mapped l) cs) = refl
kind_taken ns (nested (sized c) cs) = refl
kind_taken ns (nested (structured c) cs) = refl
kind_taken ns (nested (tagged t) cs) = refl
kind_taken ns (nested (indexed d) cs) = refl

indexed_taken : (ns : List ℕ) (p : Parts) → is_indexed (rows_taken ns p) ≡ is_indexed p
indexed_taken ns (leaf l) = refl
indexed_taken ns (nested (listed l) cs) = refl
indexed_taken ns (nested (mapped l) cs) = refl
indexed_taken ns (nested (sized c) cs) = refl
indexed_taken ns (nested (structured c) cs) = refl
indexed_taken ns (nested (tagged t) cs) = refl
indexed_taken ns (nested (indexed d) cs) = refl

-- ── the dictionaries ──

-- what is left of the children
left_in : List ℕ → Parts → Left
left_in ns (leaf l) = all_rows
left_in ns (nested h cs) = left_of ns h

values_taken : (ns : List ℕ) (p : Parts) → values_in (rows_taken ns p) ≡ each_taken (left_in ns p) (values_in p)
unfolding left_in
values_taken ns (leaf l) = refl
values_taken ns (nested h cs) = refl

-- a dictionary's parts stay
parts_stay : (ns : List ℕ) (p : Parts) → is_indexed p ≡ true → values_in (rows_taken ns p) ≡ values_in p
parts_stay ns (leaf l) is = cc
parts_stay ns (nested (listed l) cs) is = cc
parts_stay ns (nested (mapped l) cs) is = cc
parts_stay ns (nested (sized c) cs) is = cc
parts_stay ns (nested (structured c) cs) is = cc
parts_stay ns (nested (tagged t) cs) is = cc
parts_stay ns (nested (indexed d) cs) is = refl

none_left : (l : Left) (cs : Forest) → cs ≡ none → each_taken l cs ≡ none
none_left all_rows cs is = is
none_left (these_rows ns) none is = refl
none_left (these_rows ns) (also p cs) is = cc

module _ (h : Held) where
  mutual
    read_taken : (k : Kind) (ns : List ℕ) (p : Parts) → IsReadUnder h k p → IsReadUnder h k (rows_taken ns p)
    read_taken (kind.«list» o fs) ns p r = (indexed_taken ns p ∙ r.0, subst (AreReadUnder h fs) (sym (values_taken ns p)) (each_read fs (left_in ns p) (values_in p) r.1))
    read_taken (kind.fixed_size_list n fs) ns p r = (indexed_taken ns p ∙ r.0, subst (AreReadUnder h fs) (sym (values_taken ns p)) (each_read fs (left_in ns p) (values_in p) r.1))
    read_taken (kind.struct fs) ns p r = (indexed_taken ns p ∙ r.0, subst (AreReadUnder h fs) (sym (values_taken ns p)) (each_read fs (left_in ns p) (values_in p) r.1))
    read_taken (kind.map sorted fs) ns p r = (indexed_taken ns p ∙ r.0, subst (AreReadUnder h fs) (sym (values_taken ns p)) (each_read fs (left_in ns p) (values_in p) r.1))
    read_taken (kind.union mode stated ids fs) ns p r = (indexed_taken ns p ∙ r.0, subst (AreReadUnder h fs) (sym (values_taken ns p)) (each_read fs (left_in ns p) (values_in p) r.1))
    read_taken (kind.dictionary t ordered id k) ns p r = rw (indexed_taken ns p, kind_taken ns p, parts_stay ns p r.0) r
    read_taken (kind.extension name metadata k) ns p r = read_taken k ns p r
    read_taken k ns p r = (indexed_taken ns p ∙ r.0, values_taken ns p ∙ none_left (left_in ns p) (values_in p) r.1)

    each_read : (fs : Fields) (l : Left) (cs : Forest) → AreReadUnder h fs cs → AreReadUnder h fs (each_taken l cs)
    each_read kind.none l cs r = none_left l cs r
    each_read (kind.field name nullable metadata k others) l none r = absurd r
    each_read (kind.field name nullable metadata k others) all_rows (also p cs) r = r
    each_read (kind.field name nullable metadata k others) (these_rows ns) (also p cs) r = (read_taken k ns p r.0, each_read others (these_rows ns) cs r.1)

-- ── columns ──

abbrev pub all_taken : List ℕ → List Parts → List Parts
all_taken ns ps = map (λ p. rows_taken ns p) ps

each_of_list : (ns : List ℕ) (ps : List Parts) → each_taken (these_rows ns) (forest ps) ≡ forest (all_taken ns ps)
each_of_list ns [] = refl
each_of_list ns (p ∷ ps) = ap (λ cs. also (rows_taken ns p) cs) (each_of_list ns ps)

columns_taken : (ns : List ℕ) (ps : List Parts) → columns_of (forest (all_taken ns ps)) ≡ columns_of (forest ps)
columns_taken ns [] = refl
columns_taken ns (p ∷ ps) = rw (kind_taken ns p, columns_taken ns ps) refl

pub file_columns_taken : (fs : Fields) (d : Dictionaries) (parts : List PartTree) (own : Ids) (ns : List ℕ) (ps : List Parts) → AreFileColumns fs d parts own (forest ps) → fault_each (forest (all_taken ns ps)) ≡ None → AreFileColumns fs d parts own (forest (all_taken ns ps))
file_columns_taken fs d parts own ns ps are sound = record {
  parts = are.parts;
  order = are.order;
  read = subst (AreReadUnder (held_of parts) fs) (each_of_list ns ps) (each_read (held_of parts) fs (these_rows ns) (forest ps) are.read);
  kinds = ap (have_same_kinds (plain_fields fs)) (columns_taken ns ps) ∙ are.kinds;
  carried = are.carried;
  sound = sound;
  ids = are.ids;
}

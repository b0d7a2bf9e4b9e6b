-- The lists of a stream's dictionaries: one a place in the schema's preorder, for all dictionaries that stand there one after another.
use Rattle.std.specs.Prelude.{ℕ, suc, ◌+◌, ◌-◌, List, [], ◌∷◌, length, map, Bool, true, false, ◌||◌, nat_eq, nat_le, if◌then◌else◌}
use Rattle.std.specs.List.{list_all}
use Rattle.arrow_spec.specs.Kinds.{Fields, Kind, dictionary_count, have_same_kinds, uses_in, uses_of}
use Rattle.arrow_types.specs.Schemas.{Keyed, fields_in}
use Rattle.arrow_arrays.specs.Batches.{Batch}
use Rattle.arrow_arrays.specs.Columns.{columns_of}
use Rattle.arrow_arrays.specs.EmptyParts.{empty_parts}
use Rattle.arrow_arrays.specs.Heads.{listed, mapped, sized, structured, tagged, indexed}
use Rattle.arrow_arrays.specs.Parts.{Parts, Forest, leaf, nested, none, also, forest, kind_in, part_of, rows_in}
use Rattle.laws_unify.specs.Over.{Lists, are_large, over, over_parts, parts_large, place_in, values_of}

-- ── one list ──

-- parts, and others behind them
abbrev pub behind : Forest → Forest → Forest
behind none qs = qs
behind (also p ps) qs = also p (behind ps qs)

-- a part from a row on
abbrev pub rows_from : ℕ → Parts → Parts
rows_from n p = part_of n (rows_in p - n) p

-- parts from a row of them on; a part that has none of these rows is left out
abbrev pub parts_from : ℕ → Forest → Forest
parts_from n none = none
parts_from n (also p ps) = elim (nat_le (rows_in p) n) [ true ↦ parts_from (n - rows_in p) ps | false ↦ also (rows_from n p) (parts_from 0 ps) ]

-- how many of a dictionary's values a list holds from their place on, where it ends before them
abbrev pub held_in : Forest → Forest → ℕ
held_in list parts = length (values_of list) - place_in list parts

-- a list with what a dictionary has beyond its end
abbrev pub with_parts : Forest → Forest → Forest
with_parts list parts = behind list (parts_from (held_in list parts) parts)

-- ── all lists ──

-- lists, one of which is another now
abbrev pub put : ℕ → Forest → Lists → Lists
put id parts us = λ q. if nat_eq id q then parts else us q

-- The lists behind an array, the first of whose dictionaries has the number. Dictionaries inside a dictionary are taken in those parts of which something is appended.
abbrev mutual
  pub taken : Parts → ℕ → Lists → Lists
  taken (leaf l) id us = us
  taken (nested (indexed d) parts) id us = taken_parts (held_in (us id) parts) parts (suc id) (put id (with_parts (us id) parts) us)
  taken (nested (listed l) cs) id us = taken_each cs id us
  taken (nested (mapped l) cs) id us = taken_each cs id us
  taken (nested (sized c) cs) id us = taken_each cs id us
  taken (nested (structured c) cs) id us = taken_each cs id us
  taken (nested (tagged t) cs) id us = taken_each cs id us

  -- several arrays, one behind another
  pub taken_each : Forest → ℕ → Lists → Lists
  taken_each none id us = us
  taken_each (also p ps) id us = taken_each ps (id + dictionary_count (kind_in p)) (taken p id us)

  -- the parts of one dictionary that have rows from a row of them on
  pub taken_parts : ℕ → Forest → ℕ → Lists → Lists
  taken_parts n none id us = us
  taken_parts n (also p ps) id us = elim (nat_le (rows_in p) n) [ true ↦ taken_parts (n - rows_in p) ps id us | false ↦ taken_parts 0 ps id (taken p id us) ]

-- those behind several batches, from none on
abbrev pub taken_batches : List Batch → Lists → Lists
taken_batches [] us = us
taken_batches (b ∷ bs) us = taken_batches bs (taken_each (forest b.arrays) 0 us)

abbrev pub all_taken : List Batch → Lists
all_taken bs = taken_batches bs (λ q. none)

-- a list without parts is one part without rows
abbrev pub some_part : Kind → Forest → Forest
some_part k none = also (empty_parts k) none
some_part k (also p ps) = also p ps

-- Such lists with their parts over the lists of the numbers behind them: those of the numbers from one on, whose values are of these kinds.
abbrev pub finished : List Kind → ℕ → Lists → Lists
finished [] id taken = taken
finished (k ∷ ks) id taken = put id (over_parts (finished ks (suc id) taken) (some_part k (taken id)) (suc id)) (finished ks (suc id) taken)

-- the kinds of the values of the dictionaries of a kind and of fields, in preorder
abbrev pub kinds_of : Kind → List Kind
kinds_of k = map (λ u. u.values) (uses_of k)

abbrev pub values_kinds : Fields → List Kind
values_kinds fs = map (λ u. u.values) (uses_in fs)

abbrev pub united : List Keyed → List Batch → Lists
united s bs = finished (values_kinds (fields_in s)) 0 (all_taken bs)

-- ── batches ──

-- columns over lists
abbrev pub columns_over : Lists → List Parts → ℕ → List Parts
columns_over us [] id = []
columns_over us (p ∷ ps) id = over us p id ∷ columns_over us ps (id + dictionary_count (kind_in p))

abbrev pub batch_over : Lists → Batch → Batch
batch_over us b = record { height = b.height; schema = b.schema; arrays = columns_over us b.arrays 0; custom = b.custom }

-- a stream's batches over its lists
abbrev pub unified : List Keyed → List Batch → List Batch
unified s bs = map (batch_over (united s bs)) bs

-- some key passes its type: in a batch, or in a part of a list
abbrev pub batches_large : Lists → List Batch → Bool
batches_large us [] = false
batches_large us (b ∷ bs) = are_large us (forest b.arrays) 0 || batches_large us bs

abbrev pub lists_large : Lists → List Kind → ℕ → Lists → Bool
lists_large us [] id taken = false
lists_large us (k ∷ ks) id taken = parts_large us (some_part k (taken id)) (suc id) || lists_large us ks (suc id) taken

abbrev pub has_large_keys : List Keyed → List Batch → Bool
has_large_keys s bs = batches_large (united s bs) bs || lists_large (united s bs) (values_kinds (fields_in s)) 0 (all_taken bs)

-- a batch has a column for each field, of the field's kind, names, nullability and metadata aside; and each of several has
abbrev pub is_of : Fields → Batch → Bool
is_of fs b = have_same_kinds fs (columns_of (forest b.arrays))

abbrev pub are_of : Fields → List Batch → Bool
are_of fs bs = list_all (is_of fs) bs

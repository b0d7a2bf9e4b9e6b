-- Several files of the same fields as one table.
use Rattle.std.specs.Prelude.{◌≡◌, ℕ, List, [], ◌∷◌, ◌++◌, Option, Some, None}
use Rattle.std.specs.Option.{option_map}
use Rattle.std.specs.List.{AllByRecursion, flat_map}
use Rattle.arrow_spec.specs.Files.{ArrowTable, TableBatch, «all»}
use Rattle.arrow_spec.specs.Meaning.{file_table}

-- the bytes of several sources, where each tells its own
abbrev pub told : List (Option (List ℕ)) → Option (List (List ℕ))
told [] = Some []
told (None ∷ contents) = None
told (Some b ∷ contents) = option_map (λ bs. b ∷ bs) (told contents)

-- what several files mean, each by itself
abbrev pub AreTables : List (List ℕ) → List ArrowTable → Type 0
AreTables [] [] = Unit {0}
AreTables [] (t ∷ ts) = ⊥
AreTables (b ∷ bs) [] = ⊥
AreTables (b ∷ bs) (t ∷ ts) = (file_table b «all» ≡ Some t) × AreTables bs ts

-- the batches of several tables, in order
abbrev pub batches_in : List ArrowTable → List TableBatch
batches_in [] = []
batches_in (t ∷ ts) = t.batches ++ batches_in ts

-- the first table with the batches of the others behind its own: its pairs and its fields are the first's
abbrev pub joined : ArrowTable → List ArrowTable → ArrowTable
joined t ts = record { metadata = t.metadata; custom = t.custom; fields = t.fields; batches = t.batches ++ batches_in ts }

-- the same of tables and a last one, which is the first where there is no other
abbrev pub joined_to : List ArrowTable → ArrowTable → ArrowTable
joined_to [] last = last
joined_to (t ∷ ts) last = joined t (ts ++ last ∷ [])

-- tables of the same fields
abbrev pub HaveFieldsOf : ArrowTable → List ArrowTable → Type 0
HaveFieldsOf t ts = AllByRecursion (λ u. u.fields ≡ t.fields) ts

-- a table with one batch more
abbrev pub and_batch : ArrowTable → TableBatch → ArrowTable
and_batch t x = record { metadata = t.metadata; custom = t.custom; fields = t.fields; batches = t.batches ++ x ∷ [] }

-- files that mean tables of the same fields
pub record MeanTables (bs : List (List ℕ)) : Type 0 where
  pub first : ArrowTable
  pub others : List ArrowTable
  pub tables : AreTables bs (first ∷ others)
  pub same : HaveFieldsOf first others

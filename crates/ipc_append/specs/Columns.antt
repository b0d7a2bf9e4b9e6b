-- The columns of a stream's record batches.
use Rattle.std.specs.Prelude.{List, Bool}
use Rattle.std.specs.List.{list_all}
use Rattle.arrow_spec.specs.Kinds.{Fields, have_same_kinds}
use Rattle.arrow_arrays.specs.Batches.{Batch}
use Rattle.arrow_arrays.specs.Parts.{forest}
use Rattle.ipc_file_writer.specs.Below.{columns_of}

-- a batch has a column for each field, of the field's kind
abbrev pub is_of : Fields → Batch → Bool
is_of fs b = have_same_kinds fs (columns_of (forest b.arrays))

-- each of several has
abbrev pub are_of : Fields → List Batch → Bool
are_of fs bs = list_all (is_of fs) bs

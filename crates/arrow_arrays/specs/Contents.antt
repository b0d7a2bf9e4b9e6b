-- What an array holds: its kind and its cells.
use Rattle.arrow_arrays.specs.Parts.{kind_in, cells_in}
use Rattle.arrow_arrays.specs.PartsOf.{parts_of}
use Rattle.arrow_arrays.specs.CellCode.{Content}
use Rattle.arrow_arrays.specs.declared.array.Array.{Array}

abbrev pub content_of : Array → Content
content_of a = (kind_in (parts_of a), cells_in (parts_of a))

-- The rows of the children that are meant.
use Rattle.arrow_arrays.specs.Heads as heads
use Rattle.ipc_write_arrays.specs.declared.cuts.Cut.{Cut}
use Rattle.ipc_write_arrays.specs.declared.cuts.Cut.TheVariants.{Whole, Run}

abbrev pub cut_in : Cut → heads.Cut
cut_in Whole = heads.whole
cut_in (Run offset rows) = heads.run offset rows

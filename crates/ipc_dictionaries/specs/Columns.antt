-- The columns of a batch, and what of their dictionaries is sent before it.
use Rattle.std.specs.Prelude.{◌≡◌, ◌⊎◌, Option, Some, None, Result, Ok, Err, not, ◌&&◌, if◌then◌else◌}
use Rattle.arrow_spec.specs.declared.error.IpcError.{IpcError}
use Rattle.arrow_spec.specs.declared.error.IpcError.TheVariants.{SchemaMismatch, NotRepresentable, Memory}
use Rattle.arrow_spec.specs.Kinds.{Fields, uses_in}
use Rattle.arrow_arrays.specs.Columns.{columns_of}
use Rattle.arrow_arrays.specs.Parts.{Forest}
use Rattle.ipc_fields.specs.IpcFields.{Ids, fields_with, have_shapes}
use Rattle.ipc_dictionaries.specs.NewDictionaries.{Options, Sending, arrays_sent}
use Rattle.ipc_fields.specs.Representable.{all_representable}
use Rattle.ipc_dictionaries.specs.Shapes.{agree}

-- why columns are refused under IPC fields, before their dictionaries are looked at
abbrev pub columns_fault : Fields → Ids → Option IpcError
columns_fault fs below =
    if not (have_shapes fs below && agree (uses_in (fields_with fs below))) then Some SchemaMismatch
    else (if not (all_representable fs) then Some NotRepresentable else None)

-- the test of columns
abbrev pub ChecksColumns : Result (Unit {0}) IpcError → Fields → Ids → Type 0
ChecksColumns (Ok u) fs below = columns_fault fs below ≡ None
ChecksColumns (Err e) fs below = (e ≡ Memory) ⊎ (columns_fault fs below ≡ Some e)

abbrev pub unless_fault : Option IpcError → Result Sending IpcError → Result Sending IpcError
unless_fault None r = r
unless_fault (Some e) r = Err e

-- what of the dictionaries of a batch's columns is sent before it
abbrev pub columns_sent : Options → Forest → Ids → Sending → Result Sending IpcError
columns_sent o columns below s = unless_fault (columns_fault (columns_of columns) below) (arrays_sent o columns below s)

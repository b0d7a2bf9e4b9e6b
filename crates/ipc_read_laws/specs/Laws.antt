-- What holds of the parts of an array as it is read. Each statement is the contract of a public function without a body (src/lib.rt).
use Rattle.std.specs.Prelude.{◌≡◌, ℕ, zero, suc, ℤ, List, [], Bool, true, false, Some, None}
use Rattle.std.specs.Int.{byte_len}
use Rattle.arrow_spec.specs.declared.error.IpcError.{IpcError}
use Rattle.arrow_spec.specs.declared.error.IpcError.TheVariants.{OutOfSpec}
use Rattle.arrow_spec.specs.declared.error.OutOfSpecKind.TheVariants.{InvalidId, InvalidKey}
use Rattle.arrow_spec.specs.declared.types.IntegerType.{IntegerType}
use Rattle.arrow_spec.specs.Readings.{IsAmong, is_absent}
use Rattle.arrow_spec.specs.Kinds.{Kind, dictionary}
use Rattle.arrow_spec.specs.Counts.{RecordBatch, Place}
use Rattle.arrow_spec.specs.Arrays.{Dictionaries, from_on, integer_width}
use Rattle.arrow_spec.specs.ArrayCells.{cell}
use Rattle.arrow_spec.specs.Faults.{array_faults, node_faults, fixed_faults}
use Rattle.arrow_spec.specs.Sent.{written}
use Rattle.arrow_buffers.specs.declared.error.ArrayError.{ArrayError}
use Rattle.arrow_buffers.specs.declared.error.ArrayError.TheVariants.{Key}
use Rattle.arrow_arrays.specs.Parts.{kind_in, rows_in, cells_in, fault_in}
use Rattle.arrow_arrays.specs.LeafKinds.{is_leaf_kind}
use Rattle.arrow_arrays.specs.Carried.{is_carried}
use Rattle.ipc_read_laws.specs.PlainKinds.{plain_kind}
use Rattle.ipc_read_laws.specs.Held.{Held, HoldsCells, HoldsKinds}
use Rattle.ipc_read_laws.specs.PartsRead.{plain_read, parts_read, HaveBytes}
use Rattle.ipc_read_laws.specs.LeftFaults.{IsLeft}
use Rattle.ipc_read_laws.specs.LayoutFaults.{buffers_faults, layout_faults}
use Rattle.ipc_read_laws.specs.WrittenParts.{written_in}

-- Where nothing is wrong with the node and the buffers of an array without children, what is wrong with the array is found in its parts.
abbrev pub FaultsAreFound : Type 0
FaultsAreFound = (m : RecordBatch) (d : Dictionaries) (k : Kind) (p : Place) (rows : ℕ) → is_leaf_kind k ≡ true → buffers_faults m k p rows ≡ []
    → IsLeft (fault_in (plain_read m k p rows)) (array_faults m d k p rows)

-- What is wrong with an array without children is told by its layout, and what is wrong with its buffers is wrong with it.
pub record ToldByLayout (m : RecordBatch) (d : Dictionaries) (k : Kind) (p : Place) (rows : ℕ) : Type 0 where
  pub all_told : array_faults m d k p rows ≡ layout_faults m k p rows
  pub all_refused : (e : IpcError) → IsAmong (buffers_faults m k p rows) e → IsAmong (array_faults m d k p rows) e

abbrev pub FaultsAreTold : Type 0
FaultsAreTold = (m : RecordBatch) (d : Dictionaries) (k : Kind) (p : Place) (rows : ℕ) → is_leaf_kind k ≡ true → ToldByLayout m d k p rows

-- parts that make an array of the kind and of the rows
pub record AreSound (m : RecordBatch) (h : Held) (k : Kind) (p : Place) (rows : ℕ) : Type 0 where
  pub same_kind : kind_in (parts_read m h k p rows) ≡ plain_kind k
  pub all_rows : rows_in (parts_read m h k p rows) ≡ rows
  pub no_fault : fault_in (parts_read m h k p rows) ≡ None

-- The parts of an array that is not refused are sound.
abbrev pub PartsAreSound : Type 0
PartsAreSound = (m : RecordBatch) (d : Dictionaries) (h : Held) (k : Kind) (p : Place) (rows : ℕ) → HoldsCells d h → HoldsKinds h k → is_carried k ≡ true
    → array_faults m d k p rows ≡ [] → AreSound m h k p rows

-- Their cells are the record batch's, where the numbers are of bytes.
abbrev pub CellsAreRead : Type 0
CellsAreRead = (m : RecordBatch) (d : Dictionaries) (h : Held) (k : Kind) (p : Place) (rows : ℕ) → HoldsCells d h → HoldsKinds h k → is_carried k ≡ true
    → HaveBytes m k p rows → array_faults m d k p rows ≡ [] → cells_in (parts_read m h k p rows) ≡ from_on (cell m d k p) 0 rows

-- What is written of the parts of an array is what is written of the record batch.
abbrev pub WrittenAsSent : Type 0
WrittenAsSent = (m : RecordBatch) (d : Dictionaries) (h : Held) (k : Kind) (p : Place) (rows : ℕ) → HoldsCells d h → HoldsKinds h k → is_carried k ≡ true
    → array_faults m d k p rows ≡ [] → written m k p rows 0 rows ≡ written_in (parts_read m h k p rows)

-- how keys are refused: by the id where no dictionary is held under it
abbrev pub key_refusal : Bool → ℤ → IpcError
key_refusal true id = OutOfSpec (InvalidId id)
key_refusal false id = OutOfSpec InvalidKey

-- what is wrong with the buffers of keys, which are looked at where there are rows
abbrev pub keys_buffers_faults : RecordBatch → IntegerType → Place → ℕ → List IpcError
keys_buffers_faults m t p zero = []
keys_buffers_faults m t p (suc n) = fixed_faults m p (byte_len (integer_width t)) (suc n)

-- What is wrong with the keys of a dictionary whose node and buffers are right is found in its parts: a key of a row that is not null is none of their rows.
pub record KeysFound (m : RecordBatch) (d : Dictionaries) (h : Held) (t : IntegerType) (ordered : Bool) (id : ℤ) (k : Kind) (p : Place)
    (rows : ℕ) : Type 0 where
  pub none : fault_in (parts_read m h (dictionary t ordered id k) p rows) ≡ None → array_faults m d (dictionary t ordered id k) p rows ≡ []
  pub some : (e : ArrayError) → fault_in (parts_read m h (dictionary t ordered id k) p rows) ≡ Some e
      → (e ≡ Key) × IsAmong (array_faults m d (dictionary t ordered id k) p rows) (key_refusal (is_absent (h id)) id)

abbrev pub KeysAreFound : Type 0
KeysAreFound = (m : RecordBatch) (d : Dictionaries) (h : Held) (t : IntegerType) (ordered : Bool) (id : ℤ) (k : Kind) (p : Place) (rows : ℕ) → HoldsCells d h
    → HoldsKinds h (dictionary t ordered id k) → is_carried k ≡ true → node_faults m p rows ≡ [] → keys_buffers_faults m t p rows ≡ []
    → KeysFound m d h t ordered id k p rows

-- Lists and maps between offsets, as they are read. (Arrow Columnar Format, "Variable-size List Layout", "Map Layout".)
use Rattle.std.specs.Prelude.{ℕ, suc, ◌+◌, List, ◌++◌, length, nat_le, Bool, true, false, Option, ℤ}
use Rattle.arrow_spec.specs.declared.error.IpcError.{IpcError}
use Rattle.arrow_spec.specs.declared.error.IpcError.TheVariants.{OutOfSpec}
use Rattle.arrow_spec.specs.declared.error.OutOfSpecKind.TheVariants.{ExpectedBuffer}
use Rattle.arrow_spec.specs.Kinds.{Kind, Offsets, small, «list», map, extension}
use Rattle.arrow_spec.specs.Counts.{RecordBatch, Place}
use Rattle.arrow_spec.specs.Faults.{cause, if_sound, offsets_buffer_faults, end_of, offsets_faults}
use Rattle.arrow_arrays.specs.Heads.{Head, Listed, listed, mapped}
use Rattle.ipc_read.specs.Sources.{head_faults, faults_where}

-- a kind of lists or of maps, extensions looked through
abbrev pub is_any_list : Kind → Bool
is_any_list («list» o fs) = true
is_any_list (map sorted fs) = true
is_any_list (extension name metadata k) = is_any_list k
is_any_list k = false

-- a kind of maps
abbrev pub is_any_map : Kind → Bool
is_any_map (map sorted fs) = true
is_any_map (extension name metadata k) = is_any_map k
is_any_map k = false

-- maps lie in buffers as lists of their entries do
abbrev pub as_lists : Kind → Kind
as_lists (map sorted fs) = «list» small fs
as_lists (extension name metadata k) = as_lists k
as_lists k = k

-- the top of lists, or of maps
abbrev pub list_head : Bool → Listed → Head
list_head true l = mapped l
list_head false l = listed l

-- what is wrong with the node, the validity and the offsets of an array of lists or of maps, or a buffer is missing
abbrev pub list_faults : RecordBatch → Place → ℕ → Offsets → List IpcError
list_faults m p rows o = head_faults m p rows
    ++ (cause (nat_le (length m.buffers) (p.buffer + 1)) (OutOfSpec ExpectedBuffer)
    ++ if_sound (faults_where rows (offsets_buffer_faults m o (p.buffer + 1) rows))
    (faults_where rows (offsets_faults m o (p.buffer + 1) rows (end_of m (suc p.node)))))

-- offsets, and the rows that are not null
pub record ListTop : Type 0 where
  pub offsets : List ℤ
  pub validity : Option (List Bool)

abbrev pub list_top : List ℤ → Option (List Bool) → ListTop
list_top offsets validity = record { offsets = offsets; validity = validity }

-- Dictionaries whose values are lent, and keys of rows of their parts. (Arrow Columnar Format, "Dictionary-encoded Layout", "Dictionary Messages".)
use Rattle.std.specs.Prelude.{◌≡◌, ℕ, zero, suc, ◌+◌, ◌<◌, List, [], map, Bool, Option, Some, None, IfSome, ℤ, nat_le, ◌&&◌, ◌||◌}
use Rattle.std.specs.Int.{byte_len}
use Rattle.std.specs.Option.{option_map}
use Rattle.std.specs.Ordering.{int_cmp}
use Rattle.std.specs.BTreeMap.{BTreeMap, get}
use Rattle.std.specs.declared.alloc.Global.{Global}
use Rattle.std.specs.declared.vec.Vec.{Vec}
use Rattle.arrow_spec.specs.declared.error.IpcError.{IpcError}
use Rattle.arrow_spec.specs.declared.types.IntegerType.{IntegerType}
use Rattle.arrow_spec.specs.Kinds as kind
use Rattle.arrow_spec.specs.Kinds.{Kind}
use Rattle.arrow_spec.specs.Counts.{RecordBatch, Place, is_negative, magnitude}
use Rattle.arrow_spec.specs.Arrays.{Dictionaries, found, integer_in, integer_width, valid}
use Rattle.arrow_spec.specs.Faults.{cause, fixed_faults, if_sound, some_row, some_valid_row}
use Rattle.arrow_arrays.specs.Heads.{joined}
use Rattle.ipc_read_laws.specs.Laws.{key_refusal}
use Rattle.view_types.specs.declared.layout.Layout.TheVariants.{Dictionary}
use Rattle.view_types.specs.Sound.{IsSet, Values}
use Rattle.view_types.specs.Views.{Top, View, bits_in, cells_in, is_set, number_in}
use Rattle.ipc_view.specs.Built.{HasBitsIn}

-- the parts under an id, in order
abbrev pub Shown : Type 0
Shown = ℤ → Option (List View)

abbrev pub shown_in : BTreeMap ℤ (Vec View Global) → Shown
shown_in m id = option_map (λ v. v.items) (get int_cmp m id)

abbrev pub parts_or_none : Option (List View) → List View
parts_or_none None = []
parts_or_none (Some vs) = vs

-- under each id the parts have the cells of the messages that were read, one part after another
abbrev pub ShowsCells : Dictionaries → Shown → Type 0
ShowsCells d h = (id : ℤ) → found d id ≡ option_map (λ vs. joined (map cells_in vs)) (h id)

-- ── keys ──

-- the type of a dictionary's keys, extensions looked through; none of other kinds
abbrev pub key_type : Kind → Option IntegerType
key_type (kind.dictionary t ordered id k) = Some t
key_type (kind.extension name metadata k) = key_type k
key_type k = None

-- a key is none of so many rows
abbrev pub is_no_key : ℕ → ℤ → Bool
is_no_key held key = is_negative key || nat_le held (magnitude key)

-- that of a row that is not null, by the ranges that show it and by the record batch
abbrev pub is_bad_key : Top → IntegerType → ℕ → ℕ → Bool
is_bad_key t i held row = is_set (bits_in t.input t.validity) row && is_no_key held (number_in t i row)

abbrev pub key_causes : Top → IntegerType → ℕ → Bool → ℤ → List IpcError
key_causes t i held is_absent id = cause (some_row (is_bad_key t i held) t.rows) (key_refusal is_absent id)

abbrev pub rows_key_faults : RecordBatch → IntegerType → ℕ → Bool → ℤ → Place → ℕ → List IpcError
rows_key_faults m i held is_absent id p rows = cause (some_valid_row m p (λ row. is_no_key held (integer_in m i (p.buffer + 1) row)) rows) (key_refusal is_absent id)

-- what is wrong with the keys of a dictionary whose parts have so many rows together, its node aside
abbrev pub key_top_faults : RecordBatch → IntegerType → ℕ → Bool → ℤ → Place → ℕ → List IpcError
key_top_faults m i held is_absent id p zero = []
key_top_faults m i held is_absent id p (suc n) = if_sound (fixed_faults m p (byte_len (integer_width i)) (suc n)) (rows_key_faults m i held is_absent id p (suc n))

-- the same ranges under the layout of keys
abbrev pub keys_top : Top → IntegerType → Top
keys_top t i = record {
  input = t.input;
  is_big = t.is_big;
  layout = Dictionary i;
  rows = t.rows;
  ids = t.ids;
  validity = t.validity;
  first = t.first;
  second = t.second;
  buffers = t.buffers;
}

-- the parts of a view of keys of so many rows
pub record IsKeysTop (m : RecordBatch) (i : IntegerType) (held : ℕ) (p : Place) (rows : ℕ) (t : Top) : Type 0 where
  pub all_rows : t.rows ≡ rows
  pub layout_is : t.layout ≡ Dictionary i
  pub bits : (row : ℕ) → row < rows → is_set (bits_in t.input t.validity) row ≡ valid m p row
  pub has_bits : IfSome t.validity (HasBitsIn t.input t.rows)
  pub keys : (row : ℕ) → row < rows → number_in t i row ≡ integer_in m i (p.buffer + 1) row
  pub stand : Values t (byte_len (integer_width i))
  pub fit : (row : ℕ) → row < t.rows → IsSet t row → magnitude (number_in t i row) < held

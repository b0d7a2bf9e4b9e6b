-- The cells of arrays without children, of every kind.
use Rattle.std.proofs.Common.{◌≡◌, ℕ, suc, ◌+◌, ◌<◌, [], Bool, true, false, refl, ap, ◌∙◌}
use Rattle.std.specs.Int.{Width, w32, w64}
use Rattle.arrow_spec.specs.declared.types.IntegerType.{IntegerType}
use Rattle.arrow_spec.specs.declared.types.IntegerType.TheVariants.{Int32, Int64, Int128}
use Rattle.arrow_spec.specs.declared.types.IntervalUnit.TheVariants.{YearMonth, DayTime, MonthDayNano}
use Rattle.arrow_spec.specs.Kinds as kind
use Rattle.arrow_spec.specs.Kinds.{Kind, Offsets, small, large}
use Rattle.arrow_spec.specs.Cells as cells
use Rattle.arrow_spec.specs.Cells.{Cell}
use Rattle.arrow_spec.specs.Counts.{RecordBatch, Place}
use Rattle.arrow_spec.specs.Arrays.{Dictionaries, buf, integer_in, offset, row_bytes, unsigned_in, part_of_row}
use Rattle.arrow_spec.specs.ArrayCells.{cell}
use Rattle.view_types.specs.Views.{Top, array, none, held_in, if_set, is_valid_in, number_in, offset_in, order_of, part_in, row_of}
use Rattle.view_types.specs.Views.{part_of_row as part_seen}
use Rattle.ipc_view.specs.Built.{IsViewOf}
use Rattle.ipc_view.specs.Layouts.{IsLeafOf, is_large, is_leaf, kind_layout}
use Rattle.ipc_view.proofs.Viewed.{viewed_same}

pub numbers : (m : RecordBatch) (t : Top) (i : IntegerType) (b row : ℕ) → m.order ≡ order_of t.is_big → part_in t.input t.first ≡ buf m b → number_in t i row ≡ integer_in m i b row
unfolding unsigned_in
numbers m t i b row o h = rw (h, o) refl

parts : (m : RecordBatch) (p : Place) (t : Top) (stride at : ℕ) (w : Width) (row : ℕ) → m.order ≡ order_of t.is_big → part_in t.input t.first ≡ buf m (p.buffer + 1) → part_seen t stride at w row ≡ part_of_row m p stride at w row
parts m p t stride at w row o h = rw (h, o) refl

pub offsets_same : (m : RecordBatch) (t : Top) (o : Offsets) (b j : ℕ) → m.order ≡ order_of t.is_big → part_in t.input t.first ≡ buf m b → offset_in t (is_large o) j ≡ offset m o b j
unfolding unsigned_in
offsets_same m t small b j o h = rw (h, o) refl
offsets_same m t large b j o h = rw (h, o) refl

bytes_between : (m : RecordBatch) (p : Place) (t : Top) (o : Offsets) (row : ℕ) → m.order ≡ order_of t.is_big → part_in t.input t.first ≡ buf m (p.buffer + 1) → part_in t.input t.second ≡ buf m (p.buffer + 2) → row_of t (is_large o) row ≡ row_bytes m o p row
bytes_between m p t o row q h k = rw (offsets_same m t o (p.buffer + 1) row q h, offsets_same m t o (p.buffer + 1) (suc row) q h, k) refl

-- a row's value, null where it is not valid
row_same : (b c : Bool) (x y : Cell) → b ≡ c → x ≡ y → if_set b x ≡ if_set c y
row_same b c x y h e = rw (h, e) refl

pub viewed_row : (b c : Bool) (x y : Cell) → b ≡ c → (b ≡ true → x ≡ y) → if_set b x ≡ if_set c y
viewed_row true c x y h e = rw (← h, e refl) refl
viewed_row false c x y h e = rw (← h) refl

-- what a view shows of a row is what the array has
row_shown : (m : RecordBatch) (d : Dictionaries) (k : Kind) (p : Place) (rows : ℕ) (t : Top) → is_leaf k ≡ true → IsLeafOf m (kind_layout k) p rows t → (row : ℕ) → row < rows
    → if_set (is_valid_in (kind_layout k) t row) (held_in (kind_layout k) t [] [] row) ≡ cell m d k p row
row_shown m d kind.null p rows t l s row h = refl
row_shown m d kind.boolean p rows t l s row h = row_same _ _ _ _ (s.bits refl row h) (rw s.buffers refl)
row_shown m d (kind.integer i) p rows t l s row h = row_same _ _ _ _ (s.bits refl row h) (ap cells.number (numbers m t i (p.buffer + 1) row s.order s.buffers))
row_shown m d kind.date32 p rows t l s row h = row_same _ _ _ _ (s.bits refl row h) (ap cells.number (numbers m t Int32 (p.buffer + 1) row s.order s.buffers))
row_shown m d kind.date64 p rows t l s row h = row_same _ _ _ _ (s.bits refl row h) (ap cells.number (numbers m t Int64 (p.buffer + 1) row s.order s.buffers))
row_shown m d (kind.time32 u) p rows t l s row h = row_same _ _ _ _ (s.bits refl row h) (ap cells.number (numbers m t Int32 (p.buffer + 1) row s.order s.buffers))
row_shown m d (kind.time64 u) p rows t l s row h = row_same _ _ _ _ (s.bits refl row h) (ap cells.number (numbers m t Int64 (p.buffer + 1) row s.order s.buffers))
row_shown m d (kind.timestamp u tz) p rows t l s row h = row_same _ _ _ _ (s.bits refl row h) (ap cells.number (numbers m t Int64 (p.buffer + 1) row s.order s.buffers))
row_shown m d (kind.duration u) p rows t l s row h = row_same _ _ _ _ (s.bits refl row h) (ap cells.number (numbers m t Int64 (p.buffer + 1) row s.order s.buffers))
row_shown m d (kind.interval YearMonth) p rows t l s row h = row_same _ _ _ _ (s.bits refl row h) (ap cells.number (numbers m t Int32 (p.buffer + 1) row s.order s.buffers))
row_shown m d (kind.interval DayTime) p rows t l s row h =
    row_same _ _ _ _ (s.bits refl row h) (rw (parts m p t 8 0 w32 row s.order s.buffers, parts m p t 8 4 w32 row s.order s.buffers) refl)
row_shown m d (kind.interval MonthDayNano) p rows t l s row h =
    row_same _ _ _ _ (s.bits refl row h) (rw (parts m p t 16 0 w32 row s.order s.buffers, parts m p t 16 4 w32 row s.order s.buffers, parts m p t 16 8 w64 row s.order s.buffers) refl)
row_shown m d (kind.decimal a b) p rows t l s row h = row_same _ _ _ _ (s.bits refl row h) (ap cells.number (numbers m t Int128 (p.buffer + 1) row s.order s.buffers))
row_shown m d (kind.binary o) p rows t l s row h = row_same _ _ _ _ (s.bits refl row h) (ap cells.bytes (bytes_between m p t o row s.order s.buffers.0 s.buffers.1))
row_shown m d (kind.utf8 o) p rows t l s row h = row_same _ _ _ _ (s.bits refl row h) (ap cells.text (bytes_between m p t o row s.order s.buffers.0 s.buffers.1))
row_shown m d kind.binary_view p rows t l s row h = viewed_row _ _ _ _ (s.bits refl row h) (λ v. ap cells.bytes (viewed_same m p rows t row s.buffers h v))
row_shown m d kind.utf8_view p rows t l s row h = viewed_row _ _ _ _ (s.bits refl row h) (λ v. ap cells.text (viewed_same m p rows t row s.buffers h v))
row_shown m d (kind.fixed_size_binary n) p rows t l s row h = row_same _ _ _ _ (s.bits refl row h) (rw s.buffers refl)
row_shown m d (kind.extension name metadata k) p rows t l s row h = row_shown m d k p rows t l s row h
row_shown m d k p rows t l s row h = cc

-- the view of such parts is the array's
pub leaf_shown : (m : RecordBatch) (d : Dictionaries) (k : Kind) (p : Place) (rows : ℕ) (t : Top) → is_leaf k ≡ true → IsLeafOf m (kind_layout k) p rows t → IsViewOf m d k p rows (array t none)
leaf_shown m d k p rows t l s = record {
  all_rows = s.all_rows;
  cells = λ row h. ap (λ x. if_set (is_valid_in x t row) (held_in x t [] [] row)) s.layout_is ∙ row_shown m d k p rows t l s row h;
}

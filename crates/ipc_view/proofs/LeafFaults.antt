-- What is wrong with an array without children, by its layout.
use Rattle.std.proofs.Common.{◌≡◌, ℕ, suc, ◌+◌, [], ◌++◌, true, Some, refl, ap, subst}
use Rattle.std.specs.Int.{byte_len}
use Rattle.arrow_spec.specs.declared.types.IntervalUnit.TheVariants.{YearMonth, DayTime, MonthDayNano}
use Rattle.arrow_spec.specs.Kinds as kind
use Rattle.arrow_spec.specs.Kinds.{Kind, small, large}
use Rattle.arrow_spec.specs.Counts.{RecordBatch, Place}
use Rattle.arrow_spec.specs.Arrays.{Dictionaries, buf, integer_width}
use Rattle.arrow_spec.specs.Faults.{array_faults, fixed_faults, node_faults}
use Rattle.view_types.specs.declared.layout.Layout.{Layout}
use Rattle.view_types.specs.declared.layout.Layout.TheVariants as layout
use Rattle.view_types.specs.Sound.{Stands, Values}
use Rattle.view_types.specs.Views.{Top, Views, part_in}
use Rattle.ipc_view.specs.Layouts.{ShowsBuffers, contents_faults, fixed_width, is_leaf, kind_layout}

-- where it has rows
pub leaf_told : (m : RecordBatch) (d : Dictionaries) (k : Kind) (p : Place) (n : ℕ) → is_leaf k ≡ true → array_faults m d k p (suc n) ≡ node_faults m p (suc n) ++ contents_faults m (kind_layout k) p (suc n)
leaf_told m d kind.null p n l = refl
leaf_told m d kind.boolean p n l = refl
leaf_told m d (kind.integer i) p n l = refl
leaf_told m d kind.date32 p n l = refl
leaf_told m d kind.date64 p n l = refl
leaf_told m d (kind.time32 u) p n l = refl
leaf_told m d (kind.time64 u) p n l = refl
leaf_told m d (kind.timestamp u tz) p n l = refl
leaf_told m d (kind.duration u) p n l = refl
leaf_told m d (kind.interval YearMonth) p n l = refl
leaf_told m d (kind.interval DayTime) p n l = refl
leaf_told m d (kind.interval MonthDayNano) p n l = refl
leaf_told m d (kind.decimal a b) p n l = refl
leaf_told m d (kind.binary small) p n l = refl
leaf_told m d (kind.binary large) p n l = refl
leaf_told m d (kind.utf8 small) p n l = refl
leaf_told m d (kind.utf8 large) p n l = refl
leaf_told m d kind.binary_view p n l = refl
leaf_told m d kind.utf8_view p n l = refl
leaf_told m d (kind.fixed_size_binary size) p n l = refl
leaf_told m d (kind.extension name metadata k) p n l = leaf_told m d k p n l
leaf_told m d k p n l = cc

-- and where it has none
pub leaf_none : (m : RecordBatch) (d : Dictionaries) (k : Kind) (p : Place) → is_leaf k ≡ true → array_faults m d k p 0 ≡ node_faults m p 0 ++ []
leaf_none m d kind.null p l = refl
leaf_none m d kind.boolean p l = refl
leaf_none m d (kind.integer i) p l = refl
leaf_none m d kind.date32 p l = refl
leaf_none m d kind.date64 p l = refl
leaf_none m d (kind.time32 u) p l = refl
leaf_none m d (kind.time64 u) p l = refl
leaf_none m d (kind.timestamp u tz) p l = refl
leaf_none m d (kind.duration u) p l = refl
leaf_none m d (kind.interval u) p l = refl
leaf_none m d (kind.decimal a b) p l = refl
leaf_none m d (kind.binary o) p l = refl
leaf_none m d (kind.utf8 o) p l = refl
leaf_none m d kind.binary_view p l = refl
leaf_none m d kind.utf8_view p l = refl
leaf_none m d (kind.fixed_size_binary size) p l = refl
leaf_none m d (kind.extension name metadata k) p l = leaf_none m d k p l
leaf_none m d k p l = cc

-- ── rows of one number of bytes each ──

pub fixed_told : (m : RecordBatch) (l : Layout) (w : ℕ) (p : Place) (rows : ℕ) → fixed_width l ≡ Some w → contents_faults m l p rows ≡ fixed_faults m p w rows
fixed_told m (layout.Number i) w p rows e = let q : byte_len (integer_width i) ≡ w = cc in ap (λ n. fixed_faults m p n rows) q
fixed_told m layout.DayTime w p rows e = let q : 8 ≡ w = cc in ap (λ n. fixed_faults m p n rows) q
fixed_told m layout.MonthDayNano w p rows e = let q : 16 ≡ w = cc in ap (λ n. fixed_faults m p n rows) q
fixed_told m (layout.FixedBytes n) w p rows e = let q : n ≡ w = cc in ap (λ n. fixed_faults m p n rows) q
fixed_told m l w p rows e = cc

pub fixed_shown : (m : RecordBatch) (l : Layout) (w : ℕ) (p : Place) (rows : ℕ) (t : Top) → fixed_width l ≡ Some w → part_in t.input t.first ≡ buf m (p.buffer + 1) → ShowsBuffers l m p rows t
fixed_shown m (layout.Number i) w p rows t e h = h
fixed_shown m layout.DayTime w p rows t e h = h
fixed_shown m layout.MonthDayNano w p rows t e h = h
fixed_shown m (layout.FixedBytes n) w p rows t e h = h
fixed_shown m l w p rows t e h = cc

pub fixed_stands : (l : Layout) (w : ℕ) (t : Top) (cs : Views) → fixed_width l ≡ Some w → Values t w → Stands l t cs
fixed_stands (layout.Number i) w t cs e h = let q : w ≡ byte_len (integer_width i) = cc in subst (Values t) q h
fixed_stands layout.DayTime w t cs e h = let q : w ≡ 8 = cc in subst (Values t) q h
fixed_stands layout.MonthDayNano w t cs e h = let q : w ≡ 16 = cc in subst (Values t) q h
fixed_stands (layout.FixedBytes n) w t cs e h = let q : w ≡ n = cc in subst (Values t) q h
fixed_stands l w t cs e h = cc

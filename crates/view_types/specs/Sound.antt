-- What holds of every view: its ranges lie in the input and have what its rows ask for, texts are UTF-8, and the rows that it leads to are its children's.
use Rattle.std.specs.Prelude.{◌≡◌, ℕ, suc, ◌+◌, ◌*◌, ◌^◌, ◌≤◌, ◌<◌, List, [], ◌∷◌, Bool, true, false, IfSome, length, nat_le}
use Rattle.std.specs.Int.{byte_len}
use Rattle.std.specs.Str.{is_utf8}
use Rattle.arrow_spec.specs.declared.types.UnionMode.{UnionMode}
use Rattle.arrow_spec.specs.declared.types.UnionMode.TheVariants.{Dense, Sparse}
use Rattle.arrow_spec.specs.declared.types.IntegerType.{IntegerType}
use Rattle.arrow_spec.specs.Arrays.{integer_width, u32_of}
use Rattle.view_types.specs.declared.layout.Range.{Range}
use Rattle.view_types.specs.declared.layout.Layout.{Layout}
use Rattle.view_types.specs.declared.layout.Layout.TheVariants.{Boolean, Number, DayTime, MonthDayNano, Bytes, Views as Viewed, FixedBytes, Lists, FixedLists, Struct, Union, Dictionary}
use Rattle.view_types.specs.Ranges.{Lies}
use Rattle.view_types.specs.Spans.{span_in}
use Rattle.view_types.specs.Views.{Top, Views, none, also, rows_of, rows_at, rows_each, is_set, bits_in, offset_bytes, offset_in, row_of, range_at, view_in, viewed}

-- a row that the validity does not say is null
abbrev pub IsSet : Top → ℕ → Type 0
IsSet t row = is_set (bits_in t.input t.validity) row ≡ true

-- a bit for each row
pub record HasBits (t : Top) (r : Range) : Type 0 where
  pub lies : Lies t.input r
  pub room : t.rows ≤ 8 * r.length

-- values of a width, as many as rows
pub record Values (t : Top) (width : ℕ) : Type 0 where
  pub lies : Lies t.input t.first
  pub room : width * t.rows ≤ t.first.length

-- a row between two offsets
pub record Between (t : Top) (is_large : Bool) (limit row : ℕ) : Type 0 where
  pub room : offset_bytes is_large * (row + 2) ≤ t.first.length
  pub rise : offset_in t is_large row ≤ offset_in t is_large (suc row)
  pub within : offset_in t is_large (suc row) ≤ limit

-- byte strings, or texts where rows are not null
pub record AreBytes (t : Top) (is_large is_text : Bool) : Type 0 where
  pub offsets : Lies t.input t.first
  pub values : Lies t.input t.second
  pub rows : (row : ℕ) → row < t.rows → Between t is_large t.second.length row
  pub texts : is_text ≡ true → (row : ℕ) → row < t.rows → IsSet t row → is_utf8 (row_of t is_large row) ≡ true

-- each of some ranges lies in the input
abbrev pub AreRanges : List ℕ → List Range → Type 0
AreRanges input rs = (i : ℕ) → i < length rs → Lies input (range_at rs i)

-- a view of more than 12 bytes leads into one of the buffers
pub record Leads (t : Top) (row : ℕ) : Type 0 where
  pub there : u32_of (view_in t row) 8 < length t.buffers
  pub within : u32_of (view_in t row) 12 + u32_of (view_in t row) 0 ≤ (range_at t.buffers (u32_of (view_in t row) 8)).length

abbrev pub LeadsIn : Top → ℕ → Type 0
LeadsIn t row = nat_le (u32_of (view_in t row) 0) 12 ≡ false → Leads t row

-- views, of texts where rows are not null
pub record AreViews (t : Top) (is_text : Bool) : Type 0 where
  pub views : Values t 16
  pub buffers : AreRanges t.input t.buffers
  pub leads : (row : ℕ) → row < t.rows → IsSet t row → LeadsIn t row
  pub texts : is_text ≡ true → (row : ℕ) → row < t.rows → IsSet t row → is_utf8 (viewed t (view_in t row)) ≡ true

-- each child has so many rows
abbrev pub HaveRows : Views → ℕ → Type 0
HaveRows none n = Unit {0}
HaveRows (also v vs) n = (rows_of v ≡ n) × HaveRows vs n

-- lists between offsets that are rows of the child
pub record AreLists (t : Top) (is_large : Bool) (cs : Views) : Type 0 where
  pub offsets : Lies t.input t.first
  pub rows : (row : ℕ) → row < t.rows → Between t is_large (rows_at cs 0) row

-- lists of one size, whose items can be counted
pub record AreFixedLists (t : Top) (size : ℕ) (cs : Views) : Type 0 where
  pub rows : size * t.rows ≤ rows_at cs 0
  pub few : size * t.rows < 2 ^ 64

-- the rows to which a row leads are rows of its child
abbrev pub SpanFits : Layout → Top → Views → ℕ → Type 0
SpanFits l t cs row = (span_in l t (rows_each cs) row).first + (span_in l t (rows_each cs) row).count ≤ rows_at cs (span_in l t (rows_each cs) row).child

-- offsets, where rows have one each
abbrev pub HasPlaces : Top → UnionMode → Type 0
HasPlaces t Sparse = Unit {0}
HasPlaces t Dense = Lies t.input t.second × (4 * t.rows ≤ t.second.length)

-- rows of children, by their types
pub record AreTagged (t : Top) (mode : UnionMode) (cs : Views) : Type 0 where
  pub types : Values t 1
  pub places : HasPlaces t mode
  pub rows : (row : ℕ) → row < t.rows → SpanFits (Union mode) t cs row

-- keys of rows of the children
pub record AreKeys (t : Top) (i : IntegerType) (cs : Views) : Type 0 where
  pub keys : Values t (byte_len (integer_width i))
  pub rows : (row : ℕ) → row < t.rows → IsSet t row → SpanFits (Dictionary i) t cs row

-- what stands in the rows
abbrev pub Stands : Layout → Top → Views → Type 0
Stands Boolean t cs = HasBits t t.first
Stands (Number i) t cs = Values t (byte_len (integer_width i))
Stands DayTime t cs = Values t 8
Stands MonthDayNano t cs = Values t 16
Stands (Bytes is_large is_text) t cs = AreBytes t is_large is_text
Stands (Viewed is_text) t cs = AreViews t is_text
Stands (FixedBytes n) t cs = Values t n
Stands (Lists is_large) t cs = AreLists t is_large cs
Stands (FixedLists n) t cs = AreFixedLists t n cs
Stands Struct t cs = HaveRows cs t.rows
Stands (Union mode) t cs = AreTagged t mode cs
Stands (Dictionary i) t cs = AreKeys t i cs
Stands l t cs = Unit {0}

pub record IsSound (t : Top) (cs : Views) : Type 0 where
  pub validity : IfSome t.validity (HasBits t)
  pub stands : Stands t.layout t cs

-- ── where each child ends among the rows of all ──

abbrev pub ends_after : ℕ → List ℕ → List ℕ
ends_after n [] = []
ends_after n (m ∷ ms) = (n + m) ∷ ends_after (n + m) ms

-- of a dictionary they are kept
abbrev pub AreEnds : Layout → List ℕ → Views → Type 0
AreEnds (Dictionary i) ends cs = ends ≡ ends_after 0 (rows_each cs)
AreEnds l ends cs = Unit {0}

-- all that holds of a view
pub record IsWhole (t : Top) (cs : Views) (ends : List ℕ) : Type 0 where
  pub sound : IsSound t cs
  pub ends_are : AreEnds t.layout ends cs

-- The tree of a schema's message fits, for all kinds.
use Rattle.std.proofs.Common.{ℕ, suc, zero, ◌^◌, ◌<◌, ◌≤◌, List, Option, Some, None, arith, true, false, Bool, ℤ, pos, negsuc, SFits}
use Rattle.std.proofs.Math.Facts.{Fits-of_z, Fits-lt-pow}
use Rattle.std.specs.Int.{w8, w16, w32, w64, cast_unsigned}
use Rattle.arrow_spec.specs.declared.types.TimeUnit.{TimeUnit}
use Rattle.arrow_spec.specs.declared.types.TimeUnit.TheVariants.{Second, Millisecond, Microsecond, Nanosecond}
use Rattle.arrow_spec.specs.declared.types.IntervalUnit.TheVariants.{YearMonth, DayTime, MonthDayNano}
use Rattle.arrow_spec.specs.declared.types.UnionMode.TheVariants.{Dense, Sparse}
use Rattle.arrow_spec.specs.Kinds as kind
use Rattle.arrow_spec.specs.Flat.{Order, little, big}
use Rattle.arrow_spec.specs.Kinds.{Kind, Fields, none, field, Metadata, small, large, unit_number, uses_of, uses_in}
use Rattle.arrow_spec.specs.Schema.{own_pairs}
use Rattle.arrow_spec.specs.Layout as layout
use Rattle.arrow_spec.specs.Layout.{Node, Slots, Nodes, slot_count}
use Rattle.arrow_spec.specs.Held.{Fits, AllFit, NodesFit}
use Rattle.arrow_spec.specs.Sent.{unless_zero, flag, int_node, type_tag, type_node, encoding_slot, field_pairs, pair_nodes, extension_pair, pairs_slot, child_nodes, field_nodes, order_slot, schema_slots, unit_slot, text_slot, ids_slot}
use Rattle.arrow_spec.specs.WrittenSchemas.{AreIds, Part, of_field, of_dictionary, of_extension, KindFits, FieldsFit}
use Rattle.arrow_spec.proofs.MessagesFit.{count_flag, fit_flag, int_fits, one_more-least, pairs_fit}
use Rattle.arrow_spec.proofs.NestedFields.{within_both}

-- slots that fit, of which there are at most so many
abbrev Few : ℕ → Slots → Type 0
Few n s = (slot_count s ≤ n) × AllFit s

few_fits : (n : ℕ) (s : Slots) → n ≤ 16 → Few n s → Fits (layout.table s)
few_fits n s h few = (omega (arith, h, few.0), few.1)

absent_few : (n : ℕ) (s : Slots) → Few n s → Few (suc n) (layout.absent s)
absent_few n s few = (omega (arith, one_more-least (slot_count s), few.0), few.1)

child_few : (n : ℕ) (m : Node) (s : Slots) → Fits m → Few n s → Few (suc n) (layout.child m s)
child_few n m s fits few = (omega (arith, few.0), (fits, few.1))

zero16_few : (n x : ℕ) (s : Slots) → x < 2 ^ 16 → Few n s → Few (suc n) (unless_zero w16 (pos x) s)
zero16_few n zero s h few = absent_few n s few
zero16_few n (suc x) s h few = (omega (arith, few.0), (omega (arith, h), few.1))

zero32_few : (n x : ℕ) (s : Slots) → x < 2 ^ 32 → Few n s → Few (suc n) (unless_zero w32 (pos x) s)
zero32_few n zero s h few = absent_few n s few
zero32_few n (suc x) s h few = (omega (arith, few.0), (omega (arith, h), few.1))

zero64_few : (n : ℕ) (x : ℤ) (s : Slots) → SFits w64 x → Few n s → Few (suc n) (unless_zero w64 x s)
zero64_few n (pos zero) s h few = absent_few n s few
zero64_few n (pos (suc x)) s h few = (omega (arith, few.0), (Fits-lt-pow (Fits-of_z h), few.1))
zero64_few n (negsuc x) s h few = (omega (arith, few.0), (Fits-lt-pow (Fits-of_z h), few.1))

flag_few : (n : ℕ) (f : Bool) (s : Slots) → Few n s → Few (suc n) (flag f s)
flag_few n f s few = (omega (arith, count_flag f s, few.0), fit_flag f s few.1)

unit_few : (n : ℕ) (u : TimeUnit) (s : Slots) → Few n s → Few (suc n) (unit_slot u s)
unit_few n Millisecond s few = absent_few n s few
unit_few n Second s few = (omega (arith, few.0), (omega arith, few.1))
unit_few n Microsecond s few = (omega (arith, few.0), (omega arith, few.1))
unit_few n Nanosecond s few = (omega (arith, few.0), (omega arith, few.1))

unit_small : (u : TimeUnit) → unit_number u < 2 ^ 16
unit_small Second = omega arith
unit_small Millisecond = omega arith
unit_small Microsecond = omega arith
unit_small Nanosecond = omega arith

text_few : (n : ℕ) (tz : Option (List ℕ)) (s : Slots) → Few n s → Few (suc n) (text_slot tz s)
text_few n None s few = absent_few n s few
text_few n (Some x) s few = child_few n (layout.text x) s tt few

none_few : Few 0 layout.no_more
none_few = (omega arith, tt)

ids_few : (stated : Bool) (ids : List ℤ) → Few 1 (ids_slot stated ids)
ids_few true ids = (omega arith, (tt, tt))
ids_few false ids = (omega arith, tt)

tag_fits : (k : Kind) → cast_unsigned w8 (type_tag k) < 2 ^ 8
tag_fits (kind.binary small) = omega arith
tag_fits (kind.binary large) = omega arith
tag_fits (kind.utf8 small) = omega arith
tag_fits (kind.utf8 large) = omega arith
tag_fits (kind.«list» small fs) = omega arith
tag_fits (kind.«list» large fs) = omega arith
tag_fits (kind.dictionary t ordered id k) = tag_fits k
tag_fits (kind.extension name metadata k) = tag_fits k
tag_fits k = omega arith

type_fits : (k : Kind) (at : Part) (levels : ℕ) → KindFits at levels k → Fits (type_node k)
type_fits (kind.integer i) at levels fits = int_fits i
type_fits (kind.float kind.half) at levels fits = (omega arith, tt)
type_fits (kind.float kind.single) at levels fits = (omega arith, (omega arith, tt))
type_fits (kind.float kind.double) at levels fits = (omega arith, (omega arith, tt))
type_fits kind.date32 at levels fits = (omega arith, (omega arith, tt))
type_fits (kind.time32 u) at levels fits = few_fits 1 (unit_slot u layout.no_more) (omega arith) (unit_few 0 u layout.no_more none_few)
type_fits (kind.time64 u) at levels fits = few_fits 2 (unit_slot u (layout.value w32 (pos 64) layout.no_more)) (omega arith) (unit_few 1 u (layout.value w32 (pos 64) layout.no_more) (omega arith, (omega arith, tt)))
type_fits (kind.timestamp u tz) at levels fits = few_fits 2 (unless_zero w16 (pos (unit_number u)) (text_slot tz layout.no_more)) (omega arith) (zero16_few 1 (unit_number u) (text_slot tz layout.no_more) (unit_small u) (text_few 0 tz layout.no_more none_few))
type_fits (kind.duration u) at levels fits = few_fits 1 (unit_slot u layout.no_more) (omega arith) (unit_few 0 u layout.no_more none_few)
type_fits (kind.interval YearMonth) at levels fits = (omega arith, tt)
type_fits (kind.interval DayTime) at levels fits = (omega arith, (omega arith, tt))
type_fits (kind.interval MonthDayNano) at levels fits = (omega arith, (omega arith, tt))
type_fits (kind.decimal p s) at levels fits = few_fits 2 (unless_zero w32 (pos p) (unless_zero w32 (pos s) layout.no_more)) (omega arith) (zero32_few 1 p (unless_zero w32 (pos s) layout.no_more) (omega (arith, fits.0)) (zero32_few 0 s layout.no_more (omega (arith, fits.1)) none_few))
type_fits (kind.decimal256 p s) at levels fits =
    let bits = layout.value w32 (pos 256) layout.no_more in
    few_fits 3 (unless_zero w32 (pos p) (unless_zero w32 (pos s) bits)) (omega arith) (zero32_few 2 p (unless_zero w32 (pos s) bits) (omega (arith, fits.0)) (zero32_few 1 s bits (omega (arith, fits.1)) (omega arith, (omega arith, tt))))
type_fits (kind.fixed_size_binary n) at levels fits = few_fits 1 (unless_zero w32 (pos n) layout.no_more) (omega arith) (zero32_few 0 n layout.no_more (omega (arith, fits.1)) none_few)
type_fits (kind.fixed_size_list n fs) at levels fits = few_fits 1 (unless_zero w32 (pos n) layout.no_more) (omega arith) (zero32_few 0 n layout.no_more (omega (arith, fits.2)) none_few)
type_fits (kind.map sorted fs) at levels fits = few_fits 1 (flag sorted layout.no_more) (omega arith) (flag_few 0 sorted layout.no_more none_few)
type_fits (kind.union Dense stated ids fs) at levels fits =
    let few = ids_few stated ids in
    (omega (arith, few.0), (omega arith, few.1))
type_fits (kind.union Sparse stated ids fs) at levels fits = few_fits 2 (layout.absent (ids_slot stated ids)) (omega arith) (absent_few 1 (ids_slot stated ids) (ids_few stated ids))
type_fits (kind.dictionary t ordered id k) of_field levels fits = type_fits k of_dictionary levels fits
type_fits (kind.dictionary t ordered id k) of_dictionary levels fits = absurd fits
type_fits (kind.dictionary t ordered id k) of_extension levels fits = absurd fits
type_fits (kind.extension name metadata k) of_field levels fits = type_fits k of_extension levels fits.2
type_fits (kind.extension name metadata k) of_dictionary levels fits = type_fits k of_extension levels fits.2
type_fits (kind.extension name metadata k) of_extension levels fits = absurd fits
type_fits k at levels fits = (omega arith, tt)

encoding_few : (n : ℕ) (k : Kind) (s : Slots) → AreIds (uses_of k) → Few n s → Few (suc n) (encoding_slot k s)
encoding_few n (kind.dictionary t ordered id k) s h few =
    let inner = layout.child (int_node t) (flag ordered layout.no_more) in
    let table = few_fits 3 (unless_zero w64 id inner) (omega arith) (zero64_few 2 id inner h.0 (child_few 1 (int_node t) (flag ordered layout.no_more) (int_fits t) (flag_few 0 ordered layout.no_more none_few))) in
    child_few n (layout.table (unless_zero w64 id inner)) s table few
encoding_few n k s h few = absent_few n s few

extension_fits : (more : Option (List ℕ)) (ns : Nodes) → NodesFit ns → NodesFit (extension_pair more ns)
extension_fits None ns fit = fit
extension_fits (Some x) ns fit = ((omega arith, (tt, (tt, tt))), fit)

field_pairs_fit : (k : Kind) (xs : Metadata) → NodesFit (field_pairs k xs)
field_pairs_fit (kind.extension name more k) xs = extension_fits more _ ((omega arith, (tt, (tt, tt))), pairs_fit (own_pairs xs))
field_pairs_fit (kind.dictionary t ordered id (kind.extension name more k)) xs = extension_fits more _ ((omega arith, (tt, (tt, tt))), pairs_fit (own_pairs xs))
field_pairs_fit k xs = pairs_fit (own_pairs xs)

pairs_few : (n : ℕ) (ns : Nodes) (s : Slots) → NodesFit ns → Few n s → Few (suc n) (pairs_slot ns s)
pairs_few n layout.none s fit few = absent_few n s few
pairs_few n (layout.also m ns) s fit few = child_few n (layout.tables (layout.also m ns)) s fit few

mutual
  children_fit : (k : Kind) (at : Part) (levels : ℕ) → KindFits at levels k → AreIds (uses_of k) → NodesFit (child_nodes k)
  children_fit (kind.«list» o fs) at levels fits within = fields_fit fs levels fits.1 within
  children_fit (kind.fixed_size_list n fs) at levels fits within = fields_fit fs levels fits.3 within
  children_fit (kind.struct fs) at levels fits within = fields_fit fs levels fits within
  children_fit (kind.map sorted fs) at levels fits within = fields_fit fs levels fits.2 within
  children_fit (kind.union mode stated ids fs) at levels fits within = fields_fit fs levels fits.2 within
  children_fit (kind.dictionary t ordered id k) of_field levels fits within = children_fit k of_dictionary levels fits within.1
  children_fit (kind.dictionary t ordered id k) of_dictionary levels fits within = absurd fits
  children_fit (kind.dictionary t ordered id k) of_extension levels fits within = absurd fits
  children_fit (kind.extension name metadata k) of_field levels fits within = children_fit k of_extension levels fits.2 within
  children_fit (kind.extension name metadata k) of_dictionary levels fits within = children_fit k of_extension levels fits.2 within
  children_fit (kind.extension name metadata k) of_extension levels fits within = absurd fits
  children_fit k at levels fits within = tt

  fields_fit : (fs : Fields) (levels : ℕ) → FieldsFit levels fs → AreIds (uses_in fs) → NodesFit (field_nodes fs)
  fields_fit none levels fits within = tt
  fields_fit (field name nullable metadata k others) zero fits within = absurd fits
  fields_fit (field name nullable metadata k others) (suc levels) fits within =
      let both = within_both (uses_of k) (uses_in others) within in
      let ps = pairs_slot (field_pairs k metadata) layout.no_more in
      let cs = layout.child (layout.tables (child_nodes k)) ps in
      let es = encoding_slot k cs in
      let ts = layout.value w8 (type_tag k) (layout.child (type_node k) es) in
      let pairs : Few 1 ps = pairs_few 0 (field_pairs k metadata) layout.no_more (field_pairs_fit k metadata) none_few in
      let children : Few 2 cs = child_few 1 (layout.tables (child_nodes k)) ps (children_fit k of_field levels fits.2 both.0) pairs in
      let encoding : Few 3 es = encoding_few 2 k cs both.0 children in
      let type : Few 4 (layout.child (type_node k) es) = child_few 3 (type_node k) es (type_fits k of_field levels fits.2) encoding in
      let tag : Few 5 ts = (omega (arith, type.0), (tag_fits k, type.1)) in
      let null : Few 6 (flag nullable ts) = flag_few 5 nullable ts tag in
      (few_fits 7 (layout.child (layout.text name) (flag nullable ts)) (omega arith) (child_few 6 (layout.text name) (flag nullable ts) tt null), fields_fit others (suc levels) fits.3 both.1)

order_few : (n : ℕ) (order : Order) (s : Slots) → Few n s → Few (suc n) (order_slot order s)
order_few n little s few = absent_few n s few
order_few n big s few = (omega (arith, few.0), (omega arith, few.1))

pub schema_fits : (order : Order) (fs : Fields) (pairs : Metadata) → FieldsFit 64 fs → AreIds (uses_in fs) → Fits (layout.table (schema_slots order fs pairs))
schema_fits order fs pairs fits within =
    let ps = pairs_slot (pair_nodes pairs) layout.no_more in
    let last : Few 1 ps = pairs_few 0 (pair_nodes pairs) layout.no_more (pairs_fit pairs) none_few in
    let fields : Few 2 (layout.child (layout.tables (field_nodes fs)) ps) = child_few 1 (layout.tables (field_nodes fs)) ps (fields_fit fs 64 fits within) last in
    few_fits 3 (schema_slots order fs pairs) (omega arith) (order_few 2 order (layout.child (layout.tables (field_nodes fs)) ps) fields)

-- No table of a schema has more than 16 slots.
use Rattle.std.proofs.Common.{◌≡◌, Result, Ok, Err, IfOk, subst, sym, ℕ, suc, zero, ◌≤◌, List, [], ◌∷◌, Option, Some, None, arith, true, false, Bool, ℤ, pos, negsuc}
use Rattle.std.specs.Prelude.{◌*◌, if◌then◌else◌}
use Rattle.arrow_spec.specs.Arrays.{integer_width, is_unsigned}
use Rattle.std.specs.Int.{Width, byte_len, w8, w16, w32, w64}
use Rattle.arrow_spec.specs.declared.types.IntegerType.{IntegerType}
use Rattle.arrow_spec.specs.declared.types.TimeUnit.{TimeUnit}
use Rattle.arrow_spec.specs.declared.types.TimeUnit.TheVariants.{Second, Millisecond, Microsecond, Nanosecond}
use Rattle.arrow_spec.specs.declared.types.IntervalUnit.TheVariants.{YearMonth, DayTime, MonthDayNano}
use Rattle.arrow_spec.specs.declared.types.UnionMode.TheVariants.{Dense, Sparse}
use Rattle.arrow_spec.specs.Kinds as kind
use Rattle.arrow_spec.specs.Flat.{Order, little, big}
use Rattle.arrow_spec.specs.Kinds.{Kind, Fields, none, field, Metadata, unit_number}
use Rattle.arrow_spec.specs.Layout as layout
use Rattle.arrow_spec.specs.Layout.{Node, Slots, Nodes, slot_count}
use Rattle.arrow_spec.specs.Schema.{own_pairs}
use Rattle.arrow_spec.specs.Sent.{unless_zero, flag, int_node, type_tag, type_node, encoding_slot, field_pairs, pair_nodes, extension_pair, pairs_slot, child_nodes, field_nodes, order_slot, schema_slots, unit_slot, text_slot, ids_slot, custom_slot, message_slots}
use Rattle.arrow_spec.proofs.MessagesFit.{one_more-least}
use Rattle.arrow_flat.specs.declared.node.Node.{Node as Built}
use Rattle.arrow_flat.specs.Nodes.{node_of, KeepsSlotLimit, ChildrenKeepSlotLimit, NodesKeepSlotLimit}

-- at most so many slots, and no more than 16 in the tables below
abbrev Few : ℕ → Slots → Type 0
Few n s = (slot_count s ≤ n) × ChildrenKeepSlotLimit s

few_keeps : (n : ℕ) (s : Slots) → n ≤ 16 → Few n s → KeepsSlotLimit (layout.table s)
few_keeps n s h few = (omega (arith, h, few.0), few.1)

absent_few : (n : ℕ) (s : Slots) → Few n s → Few (suc n) (layout.absent s)
absent_few n s few = (omega (arith, one_more-least (slot_count s), few.0), few.1)

value_few : (n : ℕ) (w : Width) (x : ℤ) (s : Slots) → Few n s → Few (suc n) (layout.value w x s)
value_few n w x s few = (omega (arith, few.0), few.1)

child_few : (n : ℕ) (m : Node) (s : Slots) → KeepsSlotLimit m → Few n s → Few (suc n) (layout.child m s)
child_few n m s keeps few = (omega (arith, few.0), (keeps, few.1))

zero_few : (n : ℕ) (w : Width) (x : ℤ) (s : Slots) → Few n s → Few (suc n) (unless_zero w x s)
zero_few n w (pos zero) s few = absent_few n s few
zero_few n w (pos (suc x)) s few = value_few n w (pos (suc x)) s few
zero_few n w (negsuc x) s few = value_few n w (negsuc x) s few

flag_few : (n : ℕ) (f : Bool) (s : Slots) → Few n s → Few (suc n) (flag f s)
flag_few n true s few = value_few n w8 (pos 1) s few
flag_few n false s few = absent_few n s few

unit_few : (n : ℕ) (u : TimeUnit) (s : Slots) → Few n s → Few (suc n) (unit_slot u s)
unit_few n Millisecond s few = absent_few n s few
unit_few n Second s few = value_few n w16 (pos 0) s few
unit_few n Microsecond s few = value_few n w16 (pos 2) s few
unit_few n Nanosecond s few = value_few n w16 (pos 3) s few

text_few : (n : ℕ) (tz : Option (List ℕ)) (s : Slots) → Few n s → Few (suc n) (text_slot tz s)
text_few n None s few = absent_few n s few
text_few n (Some x) s few = child_few n (layout.text x) s tt few

none_few : Few 0 layout.no_more
none_few = (omega arith, tt)

ids_few : (stated : Bool) (ids : List ℤ) → Few 1 (ids_slot stated ids)
ids_few true ids = (omega arith, (tt, tt))
ids_few false ids = (omega arith, tt)

int_keeps : (t : IntegerType) → KeepsSlotLimit (int_node t)
int_keeps t =
    let sign : Bool = if is_unsigned t then false else true in
    few_keeps 2 (layout.value w32 (pos (8 * byte_len (integer_width t))) (flag sign layout.no_more)) (omega arith) (value_few 1 w32 (pos (8 * byte_len (integer_width t))) (flag sign layout.no_more) (flag_few 0 sign layout.no_more none_few))

type_keeps : (k : Kind) → KeepsSlotLimit (type_node k)
type_keeps (kind.integer i) = int_keeps i
type_keeps (kind.float kind.half) = (omega arith, tt)
type_keeps (kind.float kind.single) = (omega arith, tt)
type_keeps (kind.float kind.double) = (omega arith, tt)
type_keeps kind.date32 = (omega arith, tt)
type_keeps (kind.time32 u) = few_keeps 1 (unit_slot u layout.no_more) (omega arith) (unit_few 0 u layout.no_more none_few)
type_keeps (kind.time64 u) = few_keeps 2 (unit_slot u (layout.value w32 (pos 64) layout.no_more)) (omega arith) (unit_few 1 u (layout.value w32 (pos 64) layout.no_more) (omega arith, tt))
type_keeps (kind.timestamp u tz) = few_keeps 2 (unless_zero w16 (pos (unit_number u)) (text_slot tz layout.no_more)) (omega arith) (zero_few 1 w16 (pos (unit_number u)) (text_slot tz layout.no_more) (text_few 0 tz layout.no_more none_few))
type_keeps (kind.duration u) = few_keeps 1 (unit_slot u layout.no_more) (omega arith) (unit_few 0 u layout.no_more none_few)
type_keeps (kind.interval YearMonth) = (omega arith, tt)
type_keeps (kind.interval DayTime) = (omega arith, tt)
type_keeps (kind.interval MonthDayNano) = (omega arith, tt)
type_keeps (kind.decimal p s) = few_keeps 2 (unless_zero w32 (pos p) (unless_zero w32 (pos s) layout.no_more)) (omega arith) (zero_few 1 w32 (pos p) (unless_zero w32 (pos s) layout.no_more) (zero_few 0 w32 (pos s) layout.no_more none_few))
type_keeps (kind.decimal256 p s) =
    let bits = layout.value w32 (pos 256) layout.no_more in
    few_keeps 3 (unless_zero w32 (pos p) (unless_zero w32 (pos s) bits)) (omega arith) (zero_few 2 w32 (pos p) (unless_zero w32 (pos s) bits) (zero_few 1 w32 (pos s) bits (omega arith, tt)))
type_keeps (kind.fixed_size_binary n) = few_keeps 1 (unless_zero w32 (pos n) layout.no_more) (omega arith) (zero_few 0 w32 (pos n) layout.no_more none_few)
type_keeps (kind.fixed_size_list n fs) = few_keeps 1 (unless_zero w32 (pos n) layout.no_more) (omega arith) (zero_few 0 w32 (pos n) layout.no_more none_few)
type_keeps (kind.map sorted fs) = few_keeps 1 (flag sorted layout.no_more) (omega arith) (flag_few 0 sorted layout.no_more none_few)
type_keeps (kind.union Dense stated ids fs) = few_keeps 2 (layout.value w16 (pos 1) (ids_slot stated ids)) (omega arith) (value_few 1 w16 (pos 1) (ids_slot stated ids) (ids_few stated ids))
type_keeps (kind.union Sparse stated ids fs) = few_keeps 2 (layout.absent (ids_slot stated ids)) (omega arith) (absent_few 1 (ids_slot stated ids) (ids_few stated ids))
type_keeps (kind.dictionary t ordered id k) = type_keeps k
type_keeps (kind.extension name metadata k) = type_keeps k
type_keeps k = (omega arith, tt)

encoding_few : (n : ℕ) (k : Kind) (s : Slots) → Few n s → Few (suc n) (encoding_slot k s)
encoding_few n (kind.dictionary t ordered id k) s few =
    let inner = layout.child (int_node t) (flag ordered layout.no_more) in
    let table = few_keeps 3 (unless_zero w64 id inner) (omega arith) (zero_few 2 w64 id inner (child_few 1 (int_node t) (flag ordered layout.no_more) (int_keeps t) (flag_few 0 ordered layout.no_more none_few))) in
    child_few n (layout.table (unless_zero w64 id inner)) s table few
encoding_few n k s few = absent_few n s few

pairs_keep : (xs : Metadata) → NodesKeepSlotLimit (pair_nodes xs)
pairs_keep [] = tt
pairs_keep (x ∷ xs) = ((omega arith, (tt, (tt, tt))), pairs_keep xs)

extension_keeps : (more : Option (List ℕ)) (ns : Nodes) → NodesKeepSlotLimit ns → NodesKeepSlotLimit (extension_pair more ns)
extension_keeps None ns keep = keep
extension_keeps (Some x) ns keep = ((omega arith, (tt, (tt, tt))), keep)

field_pairs_keep : (k : Kind) (xs : Metadata) → NodesKeepSlotLimit (field_pairs k xs)
field_pairs_keep (kind.extension name more k) xs = extension_keeps more _ ((omega arith, (tt, (tt, tt))), pairs_keep (own_pairs xs))
field_pairs_keep (kind.dictionary t ordered id (kind.extension name more k)) xs = extension_keeps more _ ((omega arith, (tt, (tt, tt))), pairs_keep (own_pairs xs))
field_pairs_keep k xs = pairs_keep (own_pairs xs)

pairs_few : (n : ℕ) (ns : Nodes) (s : Slots) → NodesKeepSlotLimit ns → Few n s → Few (suc n) (pairs_slot ns s)
pairs_few n layout.none s keep few = absent_few n s few
pairs_few n (layout.also m ns) s keep few = child_few n (layout.tables (layout.also m ns)) s keep few

mutual
  children_keep : (k : Kind) → NodesKeepSlotLimit (child_nodes k)
  children_keep (kind.«list» o fs) = fields_keep fs
  children_keep (kind.fixed_size_list n fs) = fields_keep fs
  children_keep (kind.struct fs) = fields_keep fs
  children_keep (kind.map sorted fs) = fields_keep fs
  children_keep (kind.union mode stated ids fs) = fields_keep fs
  children_keep (kind.dictionary t ordered id k) = children_keep k
  children_keep (kind.extension name metadata k) = children_keep k
  children_keep k = tt

  fields_keep : (fs : Fields) → NodesKeepSlotLimit (field_nodes fs)
  fields_keep none = tt
  fields_keep (field name nullable metadata k others) =
      let ps = pairs_slot (field_pairs k metadata) layout.no_more in
      let cs = layout.child (layout.tables (child_nodes k)) ps in
      let es = encoding_slot k cs in
      let ts = layout.value w8 (type_tag k) (layout.child (type_node k) es) in
      let pairs : Few 1 ps = pairs_few 0 (field_pairs k metadata) layout.no_more (field_pairs_keep k metadata) none_few in
      let children : Few 2 cs = child_few 1 (layout.tables (child_nodes k)) ps (children_keep k) pairs in
      let encoding : Few 3 es = encoding_few 2 k cs children in
      let type : Few 4 (layout.child (type_node k) es) = child_few 3 (type_node k) es (type_keeps k) encoding in
      let tag : Few 5 ts = value_few 4 w8 (type_tag k) (layout.child (type_node k) es) type in
      let null : Few 6 (flag nullable ts) = flag_few 5 nullable ts tag in
      (few_keeps 7 (layout.child (layout.text name) (flag nullable ts)) (omega arith) (child_few 6 (layout.text name) (flag nullable ts) tt null), fields_keep others)

order_few : (n : ℕ) (order : Order) (s : Slots) → Few n s → Few (suc n) (order_slot order s)
order_few n little s few = absent_few n s few
order_few n big s few = value_few n w16 (pos 1) s few

pub schema_keeps : (order : Order) (fs : Fields) (pairs : Metadata) → KeepsSlotLimit (layout.table (schema_slots order fs pairs))
schema_keeps order fs pairs =
    let ps = pairs_slot (pair_nodes pairs) layout.no_more in
    let last : Few 1 ps = pairs_few 0 (pair_nodes pairs) layout.no_more (pairs_keep pairs) none_few in
    let fields : Few 2 (layout.child (layout.tables (field_nodes fs)) ps) = child_few 1 (layout.tables (field_nodes fs)) ps (fields_keep fs) last in
    few_keeps 3 (schema_slots order fs pairs) (omega arith) (order_few 2 order (layout.child (layout.tables (field_nodes fs)) ps) fields)

custom_few : (custom : Metadata) → Few 1 (custom_slot custom)
custom_few [] = (omega arith, tt)
custom_few (x ∷ xs) = (omega arith, (pairs_keep (x ∷ xs), tt))

pub message_keeps : (tag : ℕ) (header : Node) (body : ℕ) (custom : Metadata) → KeepsSlotLimit header → KeepsSlotLimit (layout.table (message_slots tag header body custom))
message_keeps tag header body custom keeps =
    let last : Few 1 (custom_slot custom) = custom_few custom in
    let length : Few 2 (unless_zero w64 (pos body) (custom_slot custom)) = zero_few 1 w64 (pos body) (custom_slot custom) last in
    let below : Few 3 (layout.child header (unless_zero w64 (pos body) (custom_slot custom))) = child_few 2 header (unless_zero w64 (pos body) (custom_slot custom)) keeps length in
    few_keeps 5 (message_slots tag header body custom) (omega arith)
    (value_few 4 w16 (pos 4) (layout.value w8 (pos tag) (layout.child header (unless_zero w64 (pos body) (custom_slot custom))))
    (value_few 3 w8 (pos tag) (layout.child header (unless_zero w64 (pos body) (custom_slot custom))) below))

-- of a message that a call made
pub given_keeps : {E : Type 0} (tag : ℕ) (header : Node) (body : ℕ) (custom : Metadata) (r : Result Built E) → IfOk r (λ n. node_of n ≡ layout.table (message_slots tag header body custom)) → KeepsSlotLimit header → IfOk r (λ n. KeepsSlotLimit (node_of n))
given_keeps tag header body custom (Ok n) is keeps = subst KeepsSlotLimit (sym is) (message_keeps tag header body custom keeps)
given_keeps tag header body custom (Err e) is keeps = tt

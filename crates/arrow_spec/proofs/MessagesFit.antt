-- The trees of messages fit.
use Rattle.std.proofs.Common.{refl, ap, ◌≡◌, ℕ, suc, zero, ◌^◌, ◌<◌, ◌≤◌, List, [], ◌∷◌, length, arith, true, false, Bool, pos}
use Rattle.std.specs.Int.{Width, w64}
use Rattle.arrow_spec.specs.declared.types.IntegerType.{IntegerType}
use Rattle.arrow_spec.specs.declared.types.IntegerType.TheVariants.{UInt8, UInt16, UInt32, UInt64}
use Rattle.arrow_spec.specs.Layout as layout
use Rattle.arrow_spec.specs.Layout.{Node, Slots, slot_count, one_more}
use Rattle.arrow_spec.specs.Held.{Fits, AllFit, NodesFit}
use Rattle.arrow_spec.specs.Kinds.{Metadata}
use Rattle.arrow_spec.specs.Counts.{Written}
use Rattle.arrow_spec.specs.Sent.{unless_zero, flag, int_node, nodes_node, buffers_node, placed, views_slot, batch_node, node_rows, dictionary_slots, custom_slot, message_slots, pair_nodes}

pub one_more-least : (k : ℕ) → one_more k ≤ suc k
one_more-least zero = omega arith
one_more-least (suc k) = omega arith

pub count_zero : (w : Width) (n : ℕ) (s : Slots) → slot_count (unless_zero w (pos n) s) ≤ suc (slot_count s)
count_zero w zero s = one_more-least (slot_count s)
count_zero w (suc n) s = omega arith

fit_zero : (n : ℕ) (s : Slots) → n < 2 ^ 63 → AllFit s → AllFit (unless_zero w64 (pos n) s)
fit_zero zero s h fit = fit
fit_zero (suc n) s h fit = (omega (arith, h), fit)

pub count_flag : (f : Bool) (s : Slots) → slot_count (flag f s) ≤ suc (slot_count s)
count_flag true s = omega arith
count_flag false s = one_more-least (slot_count s)

pub fit_flag : (f : Bool) (s : Slots) → AllFit s → AllFit (flag f s)
fit_flag true s fit = (omega arith, fit)
fit_flag false s fit = fit

pub pairs_fit : (xs : Metadata) → NodesFit (pair_nodes xs)
pairs_fit [] = tt
pairs_fit (x ∷ xs) = ((omega arith, (tt, (tt, tt))), pairs_fit xs)

pub custom_fits : (custom : Metadata) → (slot_count (custom_slot custom) ≤ 1) × AllFit (custom_slot custom)
custom_fits [] = (omega arith, tt)
custom_fits (x ∷ xs) = (omega arith, (pairs_fit (x ∷ xs), tt))

pub message_fits : (tag body : ℕ) (header : Node) (custom : Metadata) → tag < 2 ^ 8 → body < 2 ^ 63 → Fits header → Fits (layout.table (message_slots tag header body custom))
message_fits tag body header custom few short fits =
    let last = custom_fits custom in
    (omega (arith, count_zero w64 body (custom_slot custom), last.0), (omega arith, (few, (fits, fit_zero body (custom_slot custom) short last.1))))

pub length-placed : (ns : List ℕ) (at : ℕ) → length (placed at ns) ≡ length ns
length-placed [] at = refl
length-placed (n ∷ ns) at = ap suc (length-placed ns _)

views_fit : (vs : List ℕ) → (slot_count (layout.absent (views_slot vs layout.no_more)) ≤ 2) × AllFit (layout.absent (views_slot vs layout.no_more))
views_fit [] = (omega arith, tt)
views_fit (v ∷ vs) = (omega arith, (tt, tt))

pub batch_fits : (rows : ℕ) (w : Written) → rows < 2 ^ 63 → length w.nodes < 2 ^ 32 → length w.lengths < 2 ^ 32 → Fits (batch_node rows w)
batch_fits rows w few nodes buffers =
    let last = layout.absent (views_slot w.views layout.no_more) in
    let s = layout.child (nodes_node w.nodes) (layout.child (buffers_node (placed 0 w.lengths)) last) in
    let views = views_fit w.views in
    let count : length (placed 0 w.lengths) < 2 ^ 32 = omega (arith, length-placed w.lengths 0, buffers) in
    (omega (arith, count_zero w64 rows s, views.0), fit_zero rows s few (nodes, (count, views.1)))

pub dictionary_fits : (id : ℕ) (is_delta : Bool) (w : Written) → id < 2 ^ 63 → Fits (batch_node (node_rows w.nodes) w) → Fits (layout.table (dictionary_slots id is_delta w))
dictionary_fits id is_delta w few fits =
    let s = layout.child (batch_node (node_rows w.nodes) w) (flag is_delta layout.no_more) in
    (omega (arith, count_zero w64 id s, count_flag is_delta layout.no_more), fit_zero id s few (fits, fit_flag is_delta layout.no_more tt))

pub int_fits : (i : IntegerType) → Fits (int_node i)
int_fits UInt8 = (omega arith, (omega arith, tt))
int_fits UInt16 = (omega arith, (omega arith, tt))
int_fits UInt32 = (omega arith, (omega arith, tt))
int_fits UInt64 = (omega arith, (omega arith, tt))
int_fits i = (omega arith, (omega arith, (omega arith, tt)))

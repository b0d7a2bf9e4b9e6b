-- The message of a dictionary's values is read back, whatever its id.
use Rattle.std.proofs.Common.{◌≡◌, ℕ, zero, suc, ◌^◌, ◌<◌, ◌≤◌, List, [], ◌++◌, length, Some, Ok, refl, arith, true, Bool, ℤ, pos, negsuc}
use Rattle.std.specs.Prelude.{FitsSigned}
use Rattle.std.specs.Int.{w64}
use Rattle.std.proofs.Math.Facts.{Fits-of_z, Fits-lt-pow}
use Rattle.arrow_spec.specs.Readings.{bind}
use Rattle.arrow_spec.specs.Flat.{Table, slot_bool, slot_table}
use Rattle.arrow_spec.specs.Layout as layout
use Rattle.arrow_spec.specs.Layout.{Slots, slot_count}
use Rattle.arrow_spec.specs.Held.{AllFit, Fits, HoldsSlots}
use Rattle.arrow_spec.specs.Messages.{dictionary_at}
use Rattle.arrow_spec.specs.Counts.{Written}
use Rattle.arrow_spec.specs.Sent.{batch_node, flag, message, node_rows, unless_zero}
use Rattle.arrow_spec.specs.Framing.{message_bytes, padded_size}
use Rattle.arrow_spec.specs.Laws.{IsNextMessage, TablesFit, header_of}
use Rattle.arrow_spec.proofs.BatchTables.{batch_back}
use Rattle.arrow_spec.proofs.Slots.{flag_back, table_there, zero_back}
use Rattle.arrow_spec.proofs.MessagesFit.{batch_fits, count_flag, fit_flag, message_fits, one_more-least}
use Rattle.arrow_spec.proofs.NextMessages.{framed_message_is_next}
use Rattle.ipc_write_laws.specs.Messages.{values_slots}

id_fits : (id : ℤ) (s : Slots) → FitsSigned w64 id → slot_count s ≤ 2 → AllFit s → Fits (layout.table (unless_zero w64 id s))
id_fits (pos zero) s h few fit = (omega (arith, one_more-least (slot_count s), few), fit)
id_fits (pos (suc n)) s h few fit = (omega (arith, few), (Fits-lt-pow (Fits-of_z h), fit))
id_fits (negsuc n) s h few fit = (omega (arith, few), (Fits-lt-pow (Fits-of_z h), fit))

values_fits : (id : ℤ) (is_delta : Bool) (w : Written) → FitsSigned w64 id → Fits (batch_node (node_rows w.nodes) w) → Fits (layout.table (values_slots id is_delta w))
values_fits id is_delta w few fits =
    let last = flag is_delta layout.no_more in
    id_fits id (layout.child (batch_node (node_rows w.nodes) w) last) few (omega (arith, count_flag is_delta layout.no_more)) (fits, fit_flag is_delta layout.no_more tt)

values_back : (id : ℤ) (is_delta : Bool) (w : Written) (b : List ℕ) (t : Table) → FitsSigned w64 id → TablesFit (node_rows w.nodes) w → HoldsSlots (values_slots id is_delta w) b t 0
    → dictionary_at b t ≡ Ok (record { id = id; is_delta = is_delta; values = header_of (node_rows w.nodes) w })
unfolding dictionary_at bind
values_back id is_delta w b t few fit h =
    let number = zero_back w64 id (layout.child (batch_node (node_rows w.nodes) w) (flag is_delta layout.no_more)) b t 0 few h in
    let c = number.1.0 in
    let t' : Table = c.4.0 in
    let values : slot_table b t 1 ≡ Ok (Some t') = table_there b t 1 c.0 c.1 t' c.2 c.3 c.4.1 in
    let delta : slot_bool b t 2 ≡ Ok is_delta = (flag_back is_delta layout.no_more b t 2 number.1.1).0 in
    let batch = batch_back (node_rows w.nodes) w b t' fit c.4.2 in
    rw (number.0, values, delta, batch) refl

pub values_message_back : (taken : ℕ → Bool) (id : ℤ) (is_delta : Bool) (w : Written) (body rest : List ℕ) → taken 2 ≡ true → FitsSigned w64 id → TablesFit (node_rows w.nodes) w → length body < 2 ^ 63 → padded_size (message 2 (layout.table (values_slots id is_delta w)) (length body) []).node < 2 ^ 31
    → (next : IsNextMessage taken 2 (values_slots id is_delta w) body [] rest (message_bytes (message 2 (layout.table (values_slots id is_delta w)) (length body) []).node body ++ rest))
    × (dictionary_at next.framed.metadata next.found.header ≡ Ok (record { id = id; is_delta = is_delta; values = header_of (node_rows w.nodes) w }))
values_message_back taken id is_delta w body rest expected low fit few short =
    let values = batch_fits (node_rows w.nodes) w fit.few fit.node_count fit.buffer_count in
    let fits = message_fits 2 (length body) (layout.table (values_slots id is_delta w)) [] (omega arith) few (values_fits id is_delta w low values) in
    let next = framed_message_is_next taken 2 (values_slots id is_delta w) body [] rest (omega arith) (omega arith) expected few (record { ascend = tt; few = omega arith }) fits short in
    (next, values_back id is_delta w next.framed.metadata next.found.header low fit next.header)

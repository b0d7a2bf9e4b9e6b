use Rattle.std.proofs.Common.{length, ap, ◌∙◌}
use Rattle.std.specs.Int.{w32}
use Rattle.arrow_spec.specs.Flat.{little}
use Rattle.arrow_types.specs.Numbers.{signed_to_bytes}
use Rattle.arrow_buffers.specs.Variable.{are_offsets}
use Rattle.arrow_arrays.specs.LeafParts.{as_bytes, numbers}
use Rattle.arrow_arrays.specs.Parts.{leaf}
use Rattle.ipc_generate.proofs.EachRow.{list_fine}
use Rattle.ipc_generate.proofs.columns.lists_of.Goals as goal

pub list_of-requires : goal.list_of-requires
list_of-requires c =
    list_fine _ c.in_ok-from_vec.field-0 c.args.items.now _ c.in_ok-dtype.ensures (ap (λ f. leaf (numbers (as_bytes (signed_to_bytes w32 little) f))) c.in_ok-from_slice.ensures.ok)
    (ap (λ o. are_offsets o (length c.args.items.now)) c.in_ok-from_vec.ensures ∙ c.requires) c.len-held.ensures.sound

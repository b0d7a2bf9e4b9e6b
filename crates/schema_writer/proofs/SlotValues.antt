-- A slot's value in front of the others.
use Rattle.std.proofs.Common.{◌≡◌, ℕ, zero, suc, List, Bool, true, false, Option, Some, None, ℤ, pos, negsuc, refl}
use Rattle.std.specs.Int.{Width}
use Rattle.arrow_spec.specs.declared.types.TimeUnit.{TimeUnit}
use Rattle.arrow_spec.specs.declared.types.TimeUnit.TheVariants.{Second, Millisecond, Microsecond, Nanosecond}
use Rattle.arrow_spec.specs.declared.types.UnionMode.{UnionMode}
use Rattle.arrow_spec.specs.declared.types.UnionMode.TheVariants.{Dense, Sparse}
use Rattle.arrow_spec.specs.Kinds.{Fields, union}
use Rattle.arrow_spec.specs.Layout.{Node, Slots, table, child, numbers32, no_more}
use Rattle.arrow_spec.specs.Sent.{type_node, flag, unless_zero, unit_slot, text_slot}
use Rattle.arrow_flat.specs.Nodes.{in_front}
use Rattle.schema_writer.specs.SlotValues.{flag_value, nonzero, unit_value, mode_value, text_value}

pub front_flag : (b : Bool) (s : Slots) → in_front (flag_value b) s ≡ flag b s
front_flag true s = refl
front_flag false s = refl

pub front_text : (t : Option (List ℕ)) (s : Slots) → in_front (text_value t) s ≡ text_slot t s
front_text None s = refl
front_text (Some t) s = refl

pub union_without_ids : (t : Node) (mode : UnionMode) (ids : List ℤ) (fs : Fields) → t ≡ table (in_front (mode_value mode) no_more) → t ≡ type_node (union mode false ids fs)
union_without_ids t Dense ids fs h = h
union_without_ids t Sparse ids fs h = h

pub union_with_ids : (t : Node) (mode : UnionMode) (ids : List ℤ) (fs : Fields) → t ≡ table (in_front (mode_value mode) (child (numbers32 ids) no_more)) → t ≡ type_node (union mode true ids fs)
union_with_ids t Dense ids fs h = h
union_with_ids t Sparse ids fs h = h

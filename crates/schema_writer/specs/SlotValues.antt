-- What single slots of a schema's tables have.
use Rattle.std.specs.Prelude.{ℕ, zero, suc, List, Bool, true, false, Option, Some, None, ℤ, pos, negsuc}
use Rattle.std.specs.Int.{Width, w8, w16}
use Rattle.arrow_spec.specs.declared.types.TimeUnit.{TimeUnit}
use Rattle.arrow_spec.specs.declared.types.TimeUnit.TheVariants.{Millisecond}
use Rattle.arrow_spec.specs.declared.types.UnionMode.{UnionMode}
use Rattle.arrow_spec.specs.declared.types.UnionMode.TheVariants.{Dense, Sparse}
use Rattle.arrow_spec.specs.Flat.{Order, little, big}
use Rattle.arrow_spec.specs.Kinds.{unit_number}
use Rattle.arrow_spec.specs.Layout.{text}
use Rattle.arrow_flat.specs.Nodes.{SlotValue, nothing, number, leads_to}

-- a flag, left out where it is false
abbrev pub flag_value : Bool → SlotValue
flag_value true = number w8 (pos 1)
flag_value false = nothing

-- a number, left out where it is 0
abbrev pub nonzero : Width → ℤ → SlotValue
nonzero w (pos zero) = nothing
nonzero w (pos (suc n)) = number w (pos (suc n))
nonzero w (negsuc n) = number w (negsuc n)

-- a unit, left out where it is a Millisecond
abbrev pub unit_value : TimeUnit → SlotValue
unit_value Millisecond = nothing
unit_value u = number w16 (pos (unit_number u))

-- a text, left out where there is none
abbrev pub text_value : Option (List ℕ) → SlotValue
text_value None = nothing
text_value (Some t) = leads_to (text t)

-- a union's mode, left out where it is Sparse
abbrev pub mode_value : UnionMode → SlotValue
mode_value Sparse = nothing
mode_value Dense = number w16 (pos 1)

-- a byte order, left out where it is little-endian
abbrev pub order_value : Order → SlotValue
order_value little = nothing
order_value big = number w16 (pos 1)

use Rattle.std.proofs.Common.{ℕ, ◌+◌, ◌^◌, ◌≤◌, ◌<◌, length, arith}
use Rattle.arrow_types.specs.KindOf.{kind_of}
use Rattle.arrow_buffers.specs.Layouts.{binary_size}
use Rattle.arrow_buffers.specs.Leaf.{Leaf, fixed_rows}
use Rattle.arrow_buffers.proofs.Fixed.{bounded, fixed_fault-part, fixed_cells-part}
use Rattle.arrow_buffers.proofs.Sound.{fixed_sound}
use Rattle.arrow_buffers.proofs.fixed_size_binary.FixedSizeBinaryArray.narrow.Goals as goal

pub overflow_add-offset : goal.overflow_add-offset
overflow_add-offset c =
    let whole : Leaf ℕ = record { kind = kind_of c.self.inside.dtype; values = c.self.inside.values; validity = c.self.inside.validity } in
    let req : c.args.offset + c.args.rows ≤ fixed_rows whole = rw (← c.self.view_is) at c.requires in
    let len : length c.self.inside.values < 2 ^ 64 = omega arith in
    omega (arith, (bounded (binary_size (kind_of c.self.inside.dtype)) (length c.self.inside.values) c.args.offset c.args.rows (fixed_sound whole c.self.invariant).sized len req).2)

pub overflow_mul-size : goal.overflow_mul-size
overflow_mul-size c =
    let sized = (fixed_sound (record { kind = kind_of c.self.inside.dtype; values = c.self.inside.values; validity = c.self.inside.validity }) c.self.invariant).sized in
    omega (arith, (bounded c.binary_size-size.result c.len.result c.args.offset c.args.rows (rw c.binary_size-size.ensures sized) c.len.type_inv c.if-prove.false).0)

pub overflow_mul-size-2 : goal.overflow_mul-size-2
overflow_mul-size-2 c =
    let sized = (fixed_sound (record { kind = kind_of c.self.inside.dtype; values = c.self.inside.values; validity = c.self.inside.validity }) c.self.invariant).sized in
    omega (arith, (bounded c.binary_size-size.result c.len.result c.args.offset c.args.rows (rw c.binary_size-size.ensures sized) c.len.type_inv c.if-prove.false).1)

pub invariant_of-self : goal.invariant_of-self
invariant_of-self c =
    rw (c.narrow.ensures, c.narrow_validity.ensures, c.binary_size-size.ensures)
    (fixed_fault-part (record { kind = kind_of c.self.inside.dtype; values = c.self.inside.values; validity = c.self.inside.validity }) c.args.offset c.args.rows c.self.invariant (rw (← c.self.view_is) at c.requires))

pub returns-clause-cells : goal.returns-clause-cells
returns-clause-cells c =
    rw (← c.self.view_is, c.narrow.ensures, c.narrow_validity.ensures, c.binary_size-size.ensures)
    (fixed_cells-part (record { kind = kind_of c.self.inside.dtype; values = c.self.inside.values; validity = c.self.inside.validity }) c.args.offset c.args.rows c.self.invariant (rw (← c.self.view_is) at c.requires))

use Rattle.std.proofs.Common.{◌≡◌, ℕ, true, ap, sym, ◌∙◌}
use Rattle.arrow_arrays.specs.Parts.{Parts, part_of}
use Rattle.arrow_arrays.specs.PartsOf.{parts_of}
use Rattle.ipc_write_arrays.specs.Trims.{has_no_children, trim}
use Rattle.ipc_write_arrays.proofs.TrimLaws.{leaf-trim}
use Rattle.ipc_write_arrays.proofs.trees.add_slice.Goals as goal

trimmed : (o n : ℕ) (p q r : Parts) → has_no_children p ≡ true → q ≡ p → r ≡ part_of o n q → r ≡ trim o n p
trimmed o n p q r e f h = h ∙ ap (part_of o n) f ∙ sym (leaf-trim o n p e)

pub returns-clause-ok : goal.returns-clause-ok
returns-clause-ok c = rw (trimmed c.args.offset c.args.rows (parts_of c.args.array.now) (parts_of c.in_ok-clone.clone) (parts_of c.sliced-part.result) c.requires.leaf c.in_ok-clone.ensures c.sliced-part.ensures.parts) at c.add_leaf.ensures.ok

pub returns-clause-fit : goal.returns-clause-fit
returns-clause-fit c = rw (trimmed c.args.offset c.args.rows (parts_of c.args.array.now) (parts_of c.in_ok-clone.clone) (parts_of c.sliced-part.result) c.requires.leaf c.in_ok-clone.ensures c.sliced-part.ensures.parts) at c.add_leaf.ensures.fit

-- A validity that is looked at, and one that is not.
use Rattle.std.proofs.Common.{◌≡◌, ℕ, zero, suc, ◌<◌, [], Some, true, false, refl, ◌∙◌, arith}
use Rattle.std.specs.Prelude.{nat_lt, slice_get}
use Rattle.arrow_spec.specs.declared.message.FieldNode.{FieldNode}
use Rattle.arrow_spec.specs.Counts.{RecordBatch, Place, magnitude}
use Rattle.arrow_spec.specs.Arrays.{bit, buf, valid}
use Rattle.arrow_spec.specs.Faults.{bitmap_faults, validity_faults}
use Rattle.ipc_read.proofs.Parts.{nulls_of}

-- one that is not looked at
pub record Unread (m : RecordBatch) (p : Place) (rows : ℕ) : Type 0 where
  pub faults : validity_faults m p rows ≡ []
  pub all_valid : (row : ℕ) → row < rows → true ≡ valid m p row

pub no_rows : (m : RecordBatch) (p : Place) → Unread m p 0
unfolding validity_faults
no_rows m p = record { faults = refl; all_valid = λ row h. absurd (omega (arith, h)) }

pub unread : (m : RecordBatch) (p : Place) (rows : ℕ) (node : FieldNode) → slice_get m.nodes p.node ≡ Some node → nat_lt 0 (magnitude node.null_count) ≡ false → Unread m p rows
unfolding validity_faults valid
unread m p zero node stands few = no_rows m p
unread m p (suc n) node stands few = let e = nulls_of m p node stands ∙ few in record { faults = rw e refl; all_valid = λ row h. rw e refl }

-- and one that is
pub record Read (m : RecordBatch) (p : Place) (rows : ℕ) : Type 0 where
  pub faults : validity_faults m p rows ≡ bitmap_faults m p.buffer rows
  pub bits : (row : ℕ) → bit (buf m p.buffer) row ≡ valid m p row

pub read : (m : RecordBatch) (p : Place) (rows : ℕ) (node : FieldNode) → slice_get m.nodes p.node ≡ Some node → nat_lt 0 (magnitude node.null_count) ≡ true → (rows ≡ 0 → ⊥) → Read m p rows
unfolding validity_faults valid
read m p zero node stands some rows = absurd (rows refl)
read m p (suc n) node stands some rows = let e = nulls_of m p node stands ∙ some in record { faults = rw e refl; bits = λ row. rw e refl }

-- Types before their children.
use Rattle.std.proofs.Common.{◌≡◌, ℕ, Result, Ok, Err, ap}
use Rattle.arrow_spec.specs.declared.error.IpcError.{IpcError}
use Rattle.arrow_spec.specs.Readings.{bind, Reading}
use Rattle.ipc_fields.specs.Causes.{Decodes}
use Rattle.arrow_spec.specs.Kinds.{Kind, Fields, none}
use Rattle.schema_reader.specs.ReadViews.{shape_kind}
use Rattle.schema_reader.specs.declared.data_type.Shape.{Shape}
use Rattle.ipc_fields.proofs.Steps.{fun_same}

abbrev read_as : {A : Type 0} → A → Reading A
read_as x = Ok x

ok_same : {A : Type 0} (x y : A) → read_as x ≡ read_as y → x ≡ y
ok_same x y h = cc

-- a type that makes the right kind of all children is the right one
pub applied : (n : ℕ) (r : Result Shape IpcError) (R : Reading (Fields → Kind)) → ((fs : Fields) → Decodes (λ s. shape_kind n s fs) r (bind R (λ k. Ok (k fs)))) → Decodes (shape_kind n) r R
unfolding bind
applied n (Ok s) (Ok k) h = ap Ok (fun_same (λ fs. ok_same (k fs) (shape_kind n s fs) (h fs)))
applied n (Ok s) (Err es) h = let e = h none in cc
applied n (Err e) (Ok k) h = h none
applied n (Err e) (Err es) h = h none

-- The body of a record batch in its source, and what a reader answers.
use Rattle.arrow_spec.specs.Arrays.{buf, from_on, signed_in, offset_width}
use Rattle.std.specs.Prelude.{◌≡◌, ℕ, zero, suc, ◌+◌, ◌≤◌, ℤ, pos, ◌∷◌, List, [], ◌++◌}
use Rattle.std.specs.Prelude.{length, take, drop, nat_le, ⊤, Bool, Option, Some, None, Result, IfOk, IfErr}
use Rattle.arrow_spec.specs.declared.error.IpcError.{IpcError}
use Rattle.arrow_spec.specs.declared.error.IpcError.TheVariants.{OutOfSpec, Unsupported, Memory, ReadFault}
use Rattle.arrow_spec.specs.declared.error.OutOfSpecKind.TheVariants.{ExpectedBuffer}
use Rattle.arrow_spec.specs.Readings.{Refuses}
use Rattle.arrow_spec.specs.Faults.{cause, node_faults, validity_faults, offsets_buffer_faults, range_faults}
use Rattle.arrow_spec.specs.Flat.{order_by}
use Rattle.arrow_spec.specs.Kinds.{Offsets}
use Rattle.arrow_spec.specs.Counts.{RecordBatch, Place, magnitude}
use Rattle.arrow_spec.specs.declared.message.IpcBuffer.{IpcBuffer}
use Rattle.arrow_spec.specs.Needed.{validity_looked_at}
use Rattle.ipc_io.specs.Outside.{Rose}
use Rattle.ipc_read_laws.specs.Faults.{stated_of}
use Rattle.ipc_read_laws.specs.PartsRead.{validity_read}
use Rattle.ipc_read.specs.declared.body.Body.{Body}

-- a body lies inside the bytes of a source, where they are told
abbrev pub Inside : Option (List ℕ) → Body → Type 0
Inside None body = ⊤
Inside (Some b) body = body.offset + body.length ≤ length b

-- the bytes of a body
abbrev pub bytes_in : Body → List ℕ → List ℕ
bytes_in body b = take body.length (drop body.offset b)

-- a source tells its bytes, and these are those of a body
abbrev pub Told : Option (List ℕ) → Body → List ℕ → Type 0
Told None body bytes = ⊥
Told (Some b) body bytes = bytes ≡ bytes_in body b

-- a source tells its bytes, and a record batch has its body there, in an order
pub record Known (content : Option (List ℕ)) (body : Body) (is_little_endian : Bool) (m : RecordBatch) : Type 0 where
  pub told : Told content body m.body
  pub order : m.order ≡ order_by is_little_endian

-- a call answers a value where nothing is wrong, and else a refusal of what is wrong, want of memory or a fault of the source
pub record Answers {X Y : Type 0} (view : X → Y) (result : Result X IpcError) (faults : List IpcError) (value : Y) : Type 0 where
  pub ok : IfOk result (λ x. (faults ≡ []) × (view x ≡ value))
  pub err : IfErr result (λ e. Refuses e faults)

-- why a read is refused: what the bytes say, want of memory, or a fault of the source, whose count rose
abbrev pub BodyReadCause : IpcError → ℕ → ℕ → Type 0
BodyReadCause (OutOfSpec kind) faults faults' = ⊤
BodyReadCause (Unsupported feature) faults faults' = ⊤
BodyReadCause ReadFault faults faults' = Rose faults faults'
BodyReadCause Memory faults faults' = ⊤
BodyReadCause e faults faults' = ⊥

-- the bytes are damaged or not supported
abbrev pub IsRefusal : IpcError → Type 0
IsRefusal (OutOfSpec kind) = ⊤
IsRefusal (Unsupported feature) = ⊤
IsRefusal e = ⊥

-- where a buffer stands in the source
abbrev pub part_of : Body → IpcBuffer → Body
part_of body buffer = record { offset = body.offset + magnitude buffer.offset; length = magnitude buffer.length }

-- the stated length of the validity that is looked at; 0 where there are no rows
abbrev pub validity_fetched : RecordBatch → Place → ℕ → ℕ
validity_fetched m p zero = 0
validity_fetched m p (suc n) = stated_of m (validity_looked_at m p)

-- what is wrong with the node and the validity of an array, or the buffer is missing
abbrev pub head_faults : RecordBatch → Place → ℕ → List IpcError
head_faults m p rows = node_faults m p rows ++ (cause (nat_le (length m.buffers) p.buffer) (OutOfSpec ExpectedBuffer) ++ validity_faults m p rows)

-- what is wrong, and what is fetched, where there are rows
abbrev pub faults_where : ℕ → List IpcError → List IpcError
faults_where zero faults = []
faults_where (suc n) faults = faults

abbrev pub bytes_where : ℕ → ℕ → ℕ
bytes_where zero bytes = 0
bytes_where (suc n) bytes = bytes

-- the offsets of so many rows, 0 alone where there are none
abbrev pub offsets_of_rows : RecordBatch → Offsets → ℕ → ℕ → List ℤ
offsets_of_rows m o i zero = pos 0 ∷ []
offsets_of_rows m o i (suc n) = from_on (λ j. signed_in m (offset_width o) i j) 0 (suc (suc n))

-- the bytes that they lead to, none where there are no rows
abbrev pub values_of : RecordBatch → ℕ → ℕ → List ℕ
values_of m i zero = []
values_of m i (suc n) = buf m i

-- what is wrong with the parts of an array of byte strings or texts, or a buffer is missing
abbrev pub variable_faults : RecordBatch → Place → ℕ → Offsets → List IpcError
variable_faults m p rows o =
    head_faults m p rows
    ++ ((cause (nat_le (length m.buffers) (p.buffer + 1)) (OutOfSpec ExpectedBuffer) ++ faults_where rows (offsets_buffer_faults m o (p.buffer + 1) rows))
    ++ (cause (nat_le (length m.buffers) (p.buffer + 2)) (OutOfSpec ExpectedBuffer) ++ faults_where rows (range_faults m (p.buffer + 2))))

-- the parts of an array of byte strings or texts: its offsets, their bytes, and the rows that are not null
pub record VariableParts : Type 0 where
  pub offsets : List ℤ
  pub values : List ℕ
  pub validity : Option (List Bool)

abbrev pub variable_parts : List ℤ → List ℕ → Option (List Bool) → VariableParts
variable_parts offsets values validity = record { offsets = offsets; values = values; validity = validity }

abbrev pub variable_parts_read : RecordBatch → Place → ℕ → Offsets → VariableParts
variable_parts_read m p rows o = variable_parts (offsets_of_rows m o (p.buffer + 1) rows) (values_of m (p.buffer + 2) rows) (validity_read m p rows)

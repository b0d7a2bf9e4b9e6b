-- What the message of a schema says, by what a stream that begins with it has.
use Rattle.std.proofs.Common.{◌≡◌, ℕ, List, Result, Ok, Err, sym, subst}
use Rattle.arrow_spec.specs.declared.error.IpcError.{IpcError}
use Rattle.arrow_spec.specs.Readings.{refusals}
use Rattle.arrow_spec.proofs.Projection.{on}
use Rattle.ipc_fields.specs.Causes.{Decodes, RefusesBytes}
use Rattle.ipc_streams.specs.Starts.{Start, head_in, start_view}
use Rattle.ipc_streams.specs.declared.metadata.StreamMetadata.{StreamMetadata}
use Rattle.ipc_streams.proofs.Handed.{bytes_first}
use Rattle.ipc_flight.specs.Firsts.{first_in}

pub refused : (b : List ℕ) (r : Result StreamMetadata IpcError) (e : IpcError) → r ≡ Err e → RefusesBytes e (refusals (head_in b)) → Decodes start_view r (first_in b)
unfolding first_in
refused b r e is h = subst (λ q. Decodes start_view q (first_in b)) (sym is) (bytes_first e (head_in b) _ h)

pub said : (b : List ℕ) (h : Start × ℕ) → head_in b ≡ Ok h → first_in b ≡ Ok h.0
unfolding first_in
said b h is = on (head_in b) _ h is

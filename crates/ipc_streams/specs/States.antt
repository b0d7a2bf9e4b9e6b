-- What a reader of a stream answers.
use Rattle.std.specs.Prelude.{⊤}
use Rattle.ipc_streams.specs.declared.state.StreamState.{StreamState}
use Rattle.ipc_streams.specs.declared.state.StreamState.TheVariants as states

-- it is a batch
abbrev pub IsBatch : StreamState → Type 0
IsBatch states.Waiting = ⊥
IsBatch (states.Some x) = ⊤

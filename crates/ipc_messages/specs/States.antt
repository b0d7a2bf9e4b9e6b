-- Which calls a writer takes.
use Rattle.std.specs.Prelude.{Bool, true, false, not, ◌||◌}
use Rattle.arrow_spec.specs.Readings.{is_absent}
use Rattle.ipc_write.specs.declared.options.WriteOptions.{WriteOptions}
use Rattle.ipc_messages.specs.declared.state.WriterState.{WriterState}
use Rattle.ipc_messages.specs.declared.state.WriterState.TheVariants.{New, Started, Failed}

-- nothing was written yet
abbrev pub is_new : WriterState → Bool
is_new New = true
is_new state = false

-- a stream is begun and not ended
abbrev pub is_started : WriterState → Bool
is_started Started = true
is_started state = false

-- no stream is begun where compression is asked for
abbrev pub may_be_started : WriterState → WriteOptions → Bool
may_be_started state options = not (is_started state) || is_absent options.compression

-- behind a byte that may have been put a writer has failed
abbrev pub state_behind : Bool → WriterState → WriterState
state_behind true state = Failed
state_behind false state = state

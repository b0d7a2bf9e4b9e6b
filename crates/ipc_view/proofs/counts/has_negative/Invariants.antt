use Rattle.std.proofs.Common.{◌≡◌, drop}
use Rattle.arrow_spec.specs.Files.{none_negative}
use Rattle.ipc_view.proofs.counts.has_negative.Given as goal

abbrev pub invariant-loop-buffer : goal.invariant-loop-buffer
invariant-loop-buffer l = none_negative l.buffers ≡ none_negative (drop l.buffer-index l.buffers)

use Rattle.std.proofs.Common.{◌≡◌, ℕ, ◌<◌, true}
use Rattle.std.specs.Str.{is_utf8}
use Rattle.arrow_buffers.specs.Views.{buffer_at}
use Rattle.arrow_buffers.proofs.text_view.are_text_buffers.Given as goal

abbrev pub invariant-loop-buffer : goal.invariant-loop-buffer
invariant-loop-buffer l = (k : ℕ) → k < l.buffer-index → is_utf8 (buffer_at l.buffers k) ≡ true

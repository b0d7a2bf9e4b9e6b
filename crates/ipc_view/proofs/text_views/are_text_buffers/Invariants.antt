use Rattle.std.proofs.Common.{◌≡◌, ℕ, ◌<◌, true}
use Rattle.std.specs.Str.{is_utf8}
use Rattle.arrow_buffers.specs.Views.{buffer_at}
use Rattle.view_types.specs.Tops.{top_in}
use Rattle.ipc_view.specs.Layouts.{buffers_in}
use Rattle.ipc_view.proofs.text_views.are_text_buffers.Given as goal

abbrev pub invariant-loop-number : goal.invariant-loop-number
invariant-loop-number l = (k : ℕ) → k < l.number → is_utf8 (buffer_at (buffers_in (top_in l.parts)) k) ≡ true

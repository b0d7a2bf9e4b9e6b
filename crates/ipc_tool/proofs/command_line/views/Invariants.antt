use Rattle.std.proofs.Common.{◌≡◌, map, string_bytes, take}
use Rattle.ipc_words.specs.Views.{texts}
use Rattle.ipc_tool.proofs.command_line.views.Given as goal

abbrev pub invariant-loop-word : goal.invariant-loop-word
invariant-loop-word l = texts l.all.items ≡ map string_bytes (take l.word-index l.words)

use Rattle.std.proofs.Common.{◌≡◌, ◌+◌, ◌*◌, ◌++◌, take}
use Rattle.std.specs.Prelude.{IsOkAnd}
use Rattle.std.specs.Vec.{vec_capacity, vec_len}
use Rattle.hex.specs.Hex.{decode_of}
use Rattle.hex_input.proofs.decoder.decode_front.Given as goal

abbrev pub invariant-loop-count : goal.invariant-loop-count
invariant-loop-count l = record {
  bytes : IsOkAnd (decode_of (take (l.count * 2) l.text)) (λ more. l.bytes.items ≡ l.fn.bytes.items ++ more);
  len : vec_len l.bytes ≡ vec_len l.fn.bytes + l.count;
  capacity : vec_capacity l.bytes ≡ vec_capacity l.fn.bytes;
}

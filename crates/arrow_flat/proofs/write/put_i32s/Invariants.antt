use Rattle.std.proofs.Common.{◌≡◌, ◌+◌, ◌*◌, ◌++◌, length, take}
use Rattle.std.specs.Int.{w32, to_le_bytes, cast_unsigned}
use Rattle.std.specs.List.{flat_map}
use Rattle.arrow_flat.proofs.write.put_i32s.Given as goal

abbrev pub invariant-loop-number : goal.invariant-loop-number
invariant-loop-number l = record {
  bytes : l.out.items ≡ l.initial.out.items ++ flat_map (λ x. to_le_bytes w32 (cast_unsigned w32 x)) (take l.number-index l.numbers);
  len : length l.out.items ≡ length l.initial.out.items + 4 * l.number-index;
}

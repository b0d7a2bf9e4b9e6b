use Rattle.std.proofs.Common.{◌≡◌, ◌+◌, ◌/◌, not, ap, ◌∙◌, arith}
use Rattle.std.specs.List.{count_by}
use Rattle.arrow_spec.specs.Arrays.{bit}
use Rattle.arrow_buffers.specs.Bits.{bits_from}
use Rattle.arrow_buffers.proofs.Unset.{unset_few, unset_parts}
use Rattle.arrow_buffers.proofs.bitmap.Bitmap.unset_bits.Goals as goal

pub overflow_add-result : goal.overflow_add-result
overflow_add-result c =
    let b = c.self.inside in
    let f = bit c.as_slice-bytes.result.now in
    let parts = unset_parts f b.start b.count (b.start / 8 + 1) ((b.start + b.count) / 8) (omega arith) (omega (arith, c.if-to-from.false)) (omega arith) in
    omega (arith, parts, unset_few f b.start b.count, c.self.invariant.1, c.unset_bit_by_bit-first.ensures, c.unset_in_bytes-whole.ensures)

pub overflow_add-result-2 : goal.overflow_add-result-2
overflow_add-result-2 c =
    let b = c.self.inside in
    let f = bit c.as_slice-bytes.result.now in
    let parts = unset_parts f b.start b.count (b.start / 8 + 1) ((b.start + b.count) / 8) (omega arith) (omega (arith, c.if-to-from.false)) (omega arith) in
    omega (arith, parts, unset_few f b.start b.count, c.self.invariant.1, c.unset_bit_by_bit-first.ensures, c.unset_in_bytes-whole.ensures, c.unset_bit_by_bit-last.ensures)

pub returns : goal.returns
returns c =
    let b = c.self.inside in
    let f = bit c.as_slice-bytes.result.now in
    let parts = unset_parts f b.start b.count (b.start / 8 + 1) ((b.start + b.count) / 8) (omega arith) (omega (arith, c.if-to-from.false)) (omega arith) in
    let sum : c.unset_bit_by_bit-first.result + c.unset_in_bytes-whole.result + c.unset_bit_by_bit-last.result ≡ count_by not (bits_from c.as_slice-bytes.result.now b.start b.count) =
    omega (arith, parts, c.unset_bit_by_bit-first.ensures, c.unset_in_bytes-whole.ensures, c.unset_bit_by_bit-last.ensures) in
    sum ∙ ap (λ xs. count_by not (bits_from xs b.start b.count)) c.as_slice-bytes.ensures.value ∙ ap (count_by not) c.self.view_is

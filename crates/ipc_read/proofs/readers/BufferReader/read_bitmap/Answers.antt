use Rattle.std.proofs.Common.{◌≡◌, ◌+◌, ◌*◌, ◌≤◌, ap, arith, ◌∙◌}
use Rattle.arrow_spec.specs.Counts.{magnitude}
use Rattle.arrow_spec.specs.Arrays.{range_of, bit, buf}
use Rattle.ipc_read.specs.declared.body.Body.{Body}
use Rattle.ipc_read.proofs.Refusals.{err_from}
use Rattle.ipc_read.proofs.Parts.{told_length, bytes_are, bits_same, bitmap_refused, bitmap_short, bitmap_enough, length-told}
use Rattle.ipc_read.proofs.readers.BufferReader.read_bitmap.Goals as goal

pub returns-in_err-part-clause-gives : goal.returns-in_err-part-clause-gives
returns-in_err-part-clause-gives g c = λ m i l t.
    let size = told_length _ c.args.self.now.body m.body c.requires.readable.inside t in
    err_from _ _ c.in_err-part.field-0.0 _ _ _ c.from_residual.ensures.0 c.from_residual.ensures.1 (λ f e. e) (bitmap_refused m i c.args.rows c.in_err-part.field-0.0 (c.in_err-part.ensures.gives m i l size).err)

pub returns-then-part-rows-clause-gives : goal.returns-then-part-rows-clause-gives
returns-then-part-rows-clause-gives g c = λ m i l t.
    let size = told_length _ c.args.self.now.body m.body c.requires.readable.inside t in
    let k = (c.in_ok-part.ensures.gives m i l size).ok in
    let n : c.in_ok-part.part.length ≡ magnitude (range_of m i).length = ap (λ (x : Body). x.length) k.1 in
    record { ok = tt; err = bitmap_short m i c.args.rows (c.in_ok-part.part.length * 8) k.0 (omega (arith, n)) (omega arith) }

pub returns-clause-gives : goal.returns-clause-gives
returns-clause-gives g c = λ m i l t.
    let size = told_length _ c.args.self.now.body m.body c.requires.readable.inside t in
    let k = (c.in_ok-part.ensures.gives m i l size).ok in
    let n : c.in_ok-part.part.length ≡ magnitude (range_of m i).length = ap (λ (x : Body). x.length) k.1 in
    let enough : c.args.rows ≤ 8 * magnitude (range_of m i).length = omega (arith, n) in
    let few : c.bytes_for.result ≤ c.in_ok-part.part.length = omega (arith, c.bytes_for.ensures) in
    let within : c.in_ok-part.part.offset + c.bytes_for.result ≤ c.args.self.now.body.offset + c.args.self.now.body.length = omega (arith, few, c.in_ok-part.ensures.within) in
    let same = bytes_are _ c.args.self.now.body m i c.bytes_for.result c.in_ok-part.part.offset c.in_ok-bytes.bytes.items t (ap (λ (x : Body). x.offset) k.1) (omega (arith, few, n)) within c.in_ok-bytes.ensures.bytes c.in_ok-bytes.ensures.count in
    record { ok = (bitmap_enough m i c.args.rows k.0 enough, c.in_ok-from_vec.ensures ∙ bits_same c.bytes_for.result c.args.rows (buf m i) c.in_ok-bytes.bytes.items c.bytes_for.ensures same); err = tt }

pub returns-clause-rows : goal.returns-clause-rows
returns-clause-rows g c = length-told (bit c.in_ok-bytes.bytes.items) 0 c.args.rows _ c.in_ok-from_vec.ensures

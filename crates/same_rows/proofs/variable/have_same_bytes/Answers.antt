use Rattle.std.proofs.Common.{◌≡◌, ◌+◌, refl}
use Rattle.arrow_types.specs.Physical.{physical_of}
use Rattle.arrow_spec.specs.Arrays.{slice}
use Rattle.arrow_buffers.specs.Layouts.{is_variable}
use Rattle.arrow_buffers.specs.Variable.{place_at}
use Rattle.same_rows.proofs.SameBytes.{same_bytes}
use Rattle.same_rows.proofs.variable.have_same_bytes.Goals as goal

pub returns : goal.returns
returns g c =
    let p = c.args.a.now in
    let q = c.args.b.now in
    let from = c.args.from in
    let start = c.args.start in
    let count = c.args.count in
    let is_text = g.V.ViewType.IS_TEXT in
    let s = is_variable is_text g.O.Offset.IS_LARGE (physical_of p.kind) in
    let t = is_variable is_text g.O.Offset.IS_LARGE (physical_of q.kind) in
    λ h.
    let same : c.bytes_of_rows.result.now ≡ c.bytes_of_rows-2.result.now = c.are_same_bytes.ensures.0 h in
    let bytes : slice p.values (place_at p.offsets from) (place_at p.offsets (from + count)) ≡ slice q.values (place_at q.offsets start) (place_at q.offsets (start + count)) = cc (c.bytes_of_rows.ensures, c.bytes_of_rows-2.ensures, same) in
    same_bytes is_text s t p q from start count c.len-held.ensures.sound c.len-others.ensures.sound (c.if-not-has_no_nulls.ensures refl) (c.if-not-has_no_nulls-2.ensures refl) c.requires.a c.requires.b (c.if-not-are_as_long.ensures refl) bytes

use Rattle.std.proofs.Common.{◌≡◌, length, ap, arith}
use Rattle.arrow_columns.specs.Optional.{zero_of}
use Rattle.arrow_columns.proofs.Nulls.{not_refused, same_length}
use Rattle.arrow_columns.proofs.optional.optional_numbers.Goals as goal

pub returns-clause-err : goal.returns-clause-err
returns-clause-err g c =
    let a = ap length c.in_ok-validity.ensures in
    let b = same_length (zero_of g.T.NativeType.read g.T.NativeType.WIDTH) c.args.rows.now in
    let d = ap (λ x. length x.values) c.in_ok-array.ensures.ok in
    let e = ap length c.as_slice.ensures.value in
    let f = ap length c.in_ok-numbers.ensures in
    let same : length c.in_ok-validity.validity ≡ length c.in_ok-array.array.values = omega arith in
    not_refused g.T.NativeType.PRIMITIVE c.in_ok-array.array.kind c.in_ok-array.array.values c.in_ok-validity.validity c.with_validity.result (ap (λ x. x.kind) c.in_ok-array.ensures.ok) same c.with_validity.ensures.err

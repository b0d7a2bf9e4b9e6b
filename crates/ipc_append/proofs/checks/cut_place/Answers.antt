use Rattle.std.proofs.Common.{arith, sym, ◌∙◌}
use Rattle.ipc_file_writer.proofs.Below.{handed}
use Rattle.ipc_append.specs.Appends.{cut_place}
use Rattle.ipc_append.specs.Places.{Tells}
use Rattle.ipc_append.proofs.Cutting.{IsPlain, big_endian, compressed, cut_at, end_refused, floats_refused, is_asked, many_pairs, not_asked, too_far}
use Rattle.ipc_append.proofs.checks.cut_place.Goals as goal

pub returns-then-not-metadata : goal.returns-then-not-metadata
returns-then-not-metadata c = big_endian c.args.options.now c.args.metadata.now c.if-not-metadata.true

pub returns-then-is_some : goal.returns-then-is_some
returns-then-is_some c = compressed c.args.options.now c.args.metadata.now c.if-not-metadata.false (is_asked c.args.options.now.compression c.is_some.result c.is_some.ensures c.if-is_some.true)

pub returns-in_err-check_kinds : goal.returns-in_err-check_kinds
returns-in_err-check_kinds c =
    let o = c.args.options.now in
    let m = c.args.metadata.now in
    let e = c.in_err-check_kinds.field-0.0 in
    handed (λ r. Tells r (cut_place o m)) c.from_residual.result e c.from_residual.ensures.1
    (floats_refused o m e c.if-not-metadata.false (not_asked o.compression c.is_some.result c.is_some.ensures c.if-is_some.false) c.in_err-check_kinds.ensures)

pub returns-in_err-end : goal.returns-in_err-end
returns-in_err-end c =
    let o = c.args.options.now in
    let m = c.args.metadata.now in
    let e = c.in_err-end.field-0.0 in
    let p : IsPlain o m = record { order = c.if-not-metadata.false; compression = not_asked o.compression c.is_some.result c.is_some.ensures c.if-is_some.false; kinds = c.in_ok-check_kinds.ensures } in
    handed (λ r. Tells r (cut_place o m)) c.from_residual-in_err-end.result e c.from_residual-in_err-end.ensures.1 (end_refused o m e p c.in_err-end.ensures)

pub returns-then-not-has_few_pairs : goal.returns-then-not-has_few_pairs
returns-then-not-has_few_pairs c =
    let o = c.args.options.now in
    let m = c.args.metadata.now in
    let p : IsPlain o m = record { order = c.if-not-metadata.false; compression = not_asked o.compression c.is_some.result c.is_some.ensures c.if-is_some.false; kinds = c.in_ok-check_kinds.ensures } in
    many_pairs o m c.in_ok-end.end p c.in_ok-end.ensures (sym c.has_few_pairs.ensures ∙ c.if-not-has_few_pairs.true)

pub returns-then-end : goal.returns-then-end
returns-then-end c =
    let o = c.args.options.now in
    let m = c.args.metadata.now in
    let p : IsPlain o m = record { order = c.if-not-metadata.false; compression = not_asked o.compression c.is_some.result c.is_some.ensures c.if-is_some.false; kinds = c.in_ok-check_kinds.ensures } in
    too_far o m c.in_ok-end.end p c.in_ok-end.ensures (sym c.has_few_pairs.ensures ∙ c.if-not-has_few_pairs.false) (omega (arith, c.if-end.true))

pub returns : goal.returns
returns c =
    let o = c.args.options.now in
    let m = c.args.metadata.now in
    let p : IsPlain o m = record { order = c.if-not-metadata.false; compression = not_asked o.compression c.is_some.result c.is_some.ensures c.if-is_some.false; kinds = c.in_ok-check_kinds.ensures } in
    cut_at o m c.in_ok-end.end p c.in_ok-end.ensures (sym c.has_few_pairs.ensures ∙ c.if-not-has_few_pairs.false) (omega (arith, c.if-end.false))

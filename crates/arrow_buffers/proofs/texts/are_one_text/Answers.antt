use Rattle.std.proofs.Common.{suc, ◌-◌, ◌≤◌, length, map, sym, ap, ◌∙◌, arith}
use Rattle.std.proofs.lemmas.List.{length-map}
use Rattle.arrow_buffers.specs.Variable.{place_at}
use Rattle.arrow_buffers.proofs.Rising.{offset_climbs, offset_between}
use Rattle.arrow_buffers.proofs.OneText.{between_text}
use Rattle.arrow_buffers.proofs.texts.are_one_text.Goals as goal

pub returns : goal.returns
returns g c = λ t row h.
    let offsets = map g.O.Offset.number c.args.offsets.now in
    let limit = length c.args.values.now in
    let rows = length-map c.args.offsets.now g.O.Offset.number in
    let a : c.place_of-first.result ≤ place_at offsets row = omega (arith, c.place_of-first.ensures.place, offset_between offsets limit 0 c.requires row (omega arith) (omega (arith, rows))) in
    let b : place_at offsets row ≤ place_at offsets (suc row) = offset_climbs offsets limit row c.requires (omega (arith, rows)) in
    let d : place_at offsets (suc row) ≤ c.place_of-last.result = omega (arith, c.place_of-last.ensures.place, ap (λ n. place_at offsets (n - 1)) c.len.ensures, offset_between offsets limit (suc row) c.requires (length c.args.offsets.now - 1) (omega (arith, rows)) (omega (arith, rows))) in
    between_text c.args.values.now c.bytes_from-used.result.now c.place_of-first.result c.place_of-last.result (place_at offsets row) (place_at offsets (suc row)) c.bytes_from-used.ensures a b d (sym c.is_text.ensures ∙ c.if-not-is_text.false)
    (c.loop-i.invariant row (omega (arith, rows))) (c.loop-i.invariant (suc row) (omega (arith, rows)))

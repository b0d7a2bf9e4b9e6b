use Rattle.std.proofs.Common.{◌∙◌, ap, ◌+◌, ◌-◌, ◌++◌, ◌∷◌, [], List, ℤ, map, pos, arith}
use Rattle.std.proofs.lemmas.List.{length-map, map_push}
use Rattle.arrow_spec.specs.Needed.{numbers_from}
use Rattle.arrow_buffers.specs.Variable.{place_at}
use Rattle.arrow_buffers.proofs.Rising.{offset_between}
use Rattle.array_filter.specs.Offsets.{ends_on, row_length}
use Rattle.array_filter.proofs.Lists.{pushed}
use Rattle.array_filter.proofs.OffsetRuns.{ends_more}
use Rattle.array_filter.proofs.offsets.push_ends.Goals as goal

pub overflow_sub-place : goal.overflow_sub-place
overflow_sub-place g c =
    let os = map g.O.Offset.number c.args.offsets.now in
    let up = offset_between os c.args.limit c.args.run.from c.requires.rise (c.args.run.from + c.loop-i.i + 1) (omega arith) (omega (arith, length-map c.args.offsets.now g.O.Offset.number, c.requires.within)) in
    omega (arith, up, c.place_in-first.ensures.place, c.place_in-place.ensures.place)

pub offset_of-requires : goal.offset_of-requires
offset_of-requires g c =
    let os = map g.O.Offset.number c.args.offsets.now in
    let up = offset_between os c.args.limit c.args.run.from c.requires.rise (c.args.run.from + c.loop-i.i + 1) (omega arith) (omega (arith, length-map c.args.offsets.now g.O.Offset.number, c.requires.within)) in
    omega (arith, up, c.requires.low, c.place_in-first.ensures.place, c.place_in-place.ensures.place, c.place_in-place.ensures.fits)

pub loop-i-preserved : goal.loop-i-preserved
loop-i-preserved g c =
    let number = g.O.Offset.number in
    let os = map number c.args.offsets.now in
    let i = c.loop-i.i in
    let from = c.args.run.from in
    let begin = c.args.begin in
    let ends : List ℤ = map number c.loop-i.ends.items in
    let more = ends_more os c.args.limit from i begin c.requires.rise (omega (arith, length-map c.args.offsets.now number, c.requires.within)) in
    let place = c.offset_of.ensures ∙ ap (λ k. pos (begin + (k - c.place_in-first.result))) c.place_in-place.ensures.place ∙ ap (λ k. pos (begin + (place_at os (from + i + 1) - k))) c.place_in-first.ensures.place in
    pushed (map number c.push.new.self.items) ends (map number c.args.ends.now.items) (ends_on begin (map (row_length os) (numbers_from from i))) (ends_on begin (map (row_length os) (numbers_from from (i + 1)))) (pos (begin + (place_at os (from + i + 1) - place_at os from)))
    (ap (map number) c.in_ok-push.ensures.items ∙ map_push number c.loop-i.ends.items c.offset_of.result ∙ ap (λ z. ends ++ z ∷ []) place) c.loop-i.invariant more

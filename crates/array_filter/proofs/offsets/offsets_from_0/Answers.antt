use Rattle.std.proofs.Common.{◌≡◌, ◌∙◌, sym, ap, ◌+◌, ◌-◌, length, map, arith}
use Rattle.std.proofs.lemmas.List.{length-map}
use Rattle.arrow_buffers.proofs.Rising.{some_offset}
use Rattle.array_filter.specs.Runs.{rows_in_runs}
use Rattle.array_filter.specs.Offsets.{offsets_taken}
use Rattle.array_filter.proofs.Kept.{if_kept}
use Rattle.array_filter.proofs.Whole.{whole_offsets}
use Rattle.array_filter.proofs.offsets.offsets_from_0.Goals as goal

pub returns-then-place_in-eq0 : goal.returns-then-place_in-eq0
returns-then-place_in-eq0 g c =
    let number = g.O.Offset.number in
    let held = c.args.offsets.now in
    let os = map number held in
    let runs = c.args.runs.now in
    let long : (c.len-rows.result - 1) + 1 ≡ length os = omega (arith, c.len-rows.ensures, length-map held number, some_offset os c.args.limit c.requires.rise) in
    let same : offsets_taken (rows_in_runs runs) os ≡ os = whole_offsets os c.args.limit runs (c.len-rows.result - 1) c.requires.rise (sym c.place_in.ensures.place ∙ c.if-place_in-eq0.true) long (c.is_one.ensures c.if-is_one.true) in
    if_kept c.try_clone.result (λ b. b ≡ held) (λ b. map number b ≡ offsets_taken (rows_in_runs runs) os) (λ b h. ap (map number) h ∙ sym same) c.try_clone.ensures

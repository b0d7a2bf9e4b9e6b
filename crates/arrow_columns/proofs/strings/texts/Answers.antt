use Rattle.std.proofs.Common.{◌<◌, ◌++◌, ◌∷◌, [], length, map, pos, ap, sym, ◌∙◌, arith, None, refl}
use Rattle.std.proofs.lemmas.List.{length-map}
use Rattle.arrow_columns.specs.Strings.{bytes_each}
use Rattle.arrow_columns.proofs.Laid.{laid_rise, laid_row, laid_texts, next_laid_as, next_text, next_refused, all_laid, each_row}
use Rattle.std.proofs.lemmas.List.{take_all}
use Rattle.std.specs.List.{list_all}
use Rattle.std.specs.Str.{is_utf8}
use Rattle.arrow_columns.proofs.strings.texts.Goals as goal

pub loop-row-init : goal.loop-row-init
loop-row-init g c = record {
  laid = record {
    ends = c.in_ok-push_end.ensures.pushed ∙ ap (λ xs. map g.O.Offset.number xs ++ pos 0 ∷ []) c.new-offsets.ensures.items;
    bytes = c.new-values.ensures.items;
    fits = omega (arith, ap length c.new-values.ensures.items, c.in_ok-push_end.ensures.fits);
  };
  texts = refl;
}

pub loop-row-preserved : goal.loop-row-preserved
loop-row-preserved g c =
    let below : c.loop-row.row-index < length c.args.rows.now = omega arith in
    record {
      laid = next_laid_as (λ row. row.now) g.O.Offset.limit c.args.rows.now c.loop-row.row-index _ c.bytes_of.result.now (map g.O.Offset.number c.loop-row.offsets.items) (map g.O.Offset.number c.push_row.new.offsets.items) c.loop-row.values.items c.push_row.new.values.items below c.loop-row.invariant.laid c.bytes_of.ensures.bytes
          c.in_ok-push_row.ensures.bytes c.in_ok-push_row.ensures.pushed c.in_ok-push_row.ensures.fits;
      texts = next_text (λ row. row.now) c.args.rows.now c.loop-row.row-index _ below c.loop-row.invariant.texts c.bytes_of.ensures.text;
    }

pub returns-in_err-push_row-clause-err : goal.returns-in_err-push_row-clause-err
returns-in_err-push_row-clause-err g c =
    let below : c.loop-row.row-index < length c.args.rows.now = omega arith in
    next_refused (λ row. row.now) g.O.Offset.limit c.args.rows.now c.loop-row.row-index _ (map g.O.Offset.number c.loop-row.offsets.items) c.loop-row.values.items c.from_residual-in_err-push_row.result c.in_err-push_row.field-0.0 below c.loop-row.invariant.laid (rw c.bytes_of.ensures.bytes at c.in_err-push_row.ensures.err) c.from_residual-in_err-push_row.ensures.1

pub strings_of-requires-clause-rise : goal.strings_of-requires-clause-rise
strings_of-requires-clause-rise g c =
    laid_rise g.O.Offset.limit (bytes_each c.args.rows.now) (map g.O.Offset.number c.loop-row.offsets.items) c.loop-row.values.items (all_laid (λ row. row.now) g.O.Offset.limit c.args.rows.now c.loop-row.row-index (map g.O.Offset.number c.loop-row.offsets.items) c.loop-row.values.items (omega arith) c.loop-row.invariant.laid)

pub strings_of-requires-clause-texts : goal.strings_of-requires-clause-texts
strings_of-requires-clause-texts g c =
    let whole = ap (λ l. list_all is_utf8 (bytes_each l)) (take_all c.loop-row.row-index c.args.rows.now (omega arith)) in
    laid_texts g.O.Offset.limit (bytes_each c.args.rows.now) (map g.O.Offset.number c.loop-row.offsets.items) c.loop-row.values.items None (all_laid (λ row. row.now) g.O.Offset.limit c.args.rows.now c.loop-row.row-index (map g.O.Offset.number c.loop-row.offsets.items) c.loop-row.values.items (omega arith) c.loop-row.invariant.laid) (sym whole ∙ c.loop-row.invariant.texts)

pub returns-clause-each : goal.returns-clause-each
returns-clause-each g c =
    let whole = all_laid (λ row. row.now) g.O.Offset.limit c.args.rows.now c.loop-row.row-index (map g.O.Offset.number c.loop-row.offsets.items) c.loop-row.values.items (omega arith) c.loop-row.invariant.laid in
    each_row (bytes_each c.args.rows.now) (length c.args.rows.now) _ (map g.O.Offset.number c.loop-row.offsets.items) c.loop-row.values.items None c.strings_of.result c.strings_of.ensures.ok
    (λ i l. laid_row g.O.Offset.limit (bytes_each c.args.rows.now) (map g.O.Offset.number c.loop-row.offsets.items) c.loop-row.values.items whole i (omega (arith, length-map c.args.rows.now (λ row. row.now))))

use Rattle.std.proofs.Common.{◌<◌, ◌++◌, ◌∷◌, [], length, map, pos, ap, sym, ◌∙◌, arith, Some, is_some, refl}
use Rattle.std.proofs.lemmas.Bool.{eq-eqb}
use Rattle.arrow_buffers.specs.Variable.{variable_rows}
use Rattle.std.proofs.lemmas.List.{length-map}
use Rattle.arrow_columns.specs.Strings.{held_bytes}
use Rattle.arrow_columns.proofs.Laid.{laid_rise, laid_row, laid_rows, laid_texts, next_laid_as, next_text, next_refused, all_laid, each_row}
use Rattle.std.proofs.lemmas.List.{take_all}
use Rattle.std.specs.List.{list_all}
use Rattle.std.specs.Str.{is_utf8}
use Rattle.arrow_columns.proofs.optional.optional_texts.Goals as goal

pub loop-row-init : goal.loop-row-init
loop-row-init g c = record {
  laid = record {
    ends = c.in_ok-push_end.ensures.pushed ∙ ap (λ xs. map g.O.Offset.number xs ++ pos 0 ∷ []) c.new-offsets.ensures.items;
    bytes = c.new-values.ensures.items;
    fits = omega (arith, ap length c.new-values.ensures.items, c.in_ok-push_end.ensures.fits);
  };
  texts = refl;
}

pub loop-row-preserved : goal.loop-row-preserved
loop-row-preserved g c =
    let below : c.loop-row.row-index < length c.args.rows.now = omega arith in
    record {
      laid = next_laid_as held_bytes g.O.Offset.limit c.args.rows.now c.loop-row.row-index _ c.held.result.now (map g.O.Offset.number c.loop-row.offsets.items) (map g.O.Offset.number c.push_row.new.offsets.items) c.loop-row.values.items c.push_row.new.values.items below c.loop-row.invariant.laid c.held.ensures.bytes
          c.in_ok-push_row.ensures.bytes c.in_ok-push_row.ensures.pushed c.in_ok-push_row.ensures.fits;
      texts = next_text held_bytes c.args.rows.now c.loop-row.row-index _ below c.loop-row.invariant.texts c.held.ensures.text;
    }

pub returns-in_err-push_row-clause-err : goal.returns-in_err-push_row-clause-err
returns-in_err-push_row-clause-err g c =
    let below : c.loop-row.row-index < length c.args.rows.now = omega arith in
    next_refused held_bytes g.O.Offset.limit c.args.rows.now c.loop-row.row-index _ (map g.O.Offset.number c.loop-row.offsets.items) c.loop-row.values.items c.from_residual-in_err-push_row.result c.in_err-push_row.field-0.0 below c.loop-row.invariant.laid (rw c.held.ensures.bytes at c.in_err-push_row.ensures.err) c.from_residual-in_err-push_row.ensures.1

pub strings_of-requires-clause-rise : goal.strings_of-requires-clause-rise
strings_of-requires-clause-rise g c =
    laid_rise g.O.Offset.limit (map held_bytes c.args.rows.now) (map g.O.Offset.number c.loop-row.offsets.items) c.loop-row.values.items (all_laid held_bytes g.O.Offset.limit c.args.rows.now c.loop-row.row-index (map g.O.Offset.number c.loop-row.offsets.items) c.loop-row.values.items (omega arith) c.loop-row.invariant.laid)

pub strings_of-requires-clause-texts : goal.strings_of-requires-clause-texts
strings_of-requires-clause-texts g c =
    let whole = ap (λ l. list_all is_utf8 (map held_bytes l)) (take_all c.loop-row.row-index c.args.rows.now (omega arith)) in
    laid_texts g.O.Offset.limit (map held_bytes c.args.rows.now) (map g.O.Offset.number c.loop-row.offsets.items) c.loop-row.values.items (Some c.in_ok-validity.validity) (all_laid held_bytes g.O.Offset.limit c.args.rows.now c.loop-row.row-index (map g.O.Offset.number c.loop-row.offsets.items) c.loop-row.values.items (omega arith) c.loop-row.invariant.laid) (sym whole ∙ c.loop-row.invariant.texts)

pub returns-clause-each : goal.returns-clause-each
returns-clause-each g c =
    let whole = all_laid held_bytes g.O.Offset.limit c.args.rows.now c.loop-row.row-index (map g.O.Offset.number c.loop-row.offsets.items) c.loop-row.values.items (omega arith) c.loop-row.invariant.laid in
    each_row (map held_bytes c.args.rows.now) (length c.args.rows.now) _ (map g.O.Offset.number c.loop-row.offsets.items) c.loop-row.values.items (Some c.in_ok-validity.validity) c.strings_of.result c.strings_of.ensures.ok
    (λ i l. laid_row g.O.Offset.limit (map held_bytes c.args.rows.now) (map g.O.Offset.number c.loop-row.offsets.items) c.loop-row.values.items whole i (omega (arith, length-map c.args.rows.now held_bytes)))

pub strings_of-requires-clause-rows : goal.strings_of-requires-clause-rows
strings_of-requires-clause-rows g c =
    let whole = all_laid held_bytes g.O.Offset.limit c.args.rows.now c.loop-row.row-index (map g.O.Offset.number c.loop-row.offsets.items) c.loop-row.values.items (omega arith) c.loop-row.invariant.laid in
    let n = laid_rows g.O.Offset.limit (map held_bytes c.args.rows.now) (map g.O.Offset.number c.loop-row.offsets.items) c.loop-row.values.items whole in
    eq-eqb (length c.in_ok-validity.validity) (variable_rows (map g.O.Offset.number c.loop-row.offsets.items))
    (ap length c.in_ok-validity.ensures ∙ length-map c.args.rows.now is_some ∙ sym (length-map c.args.rows.now held_bytes) ∙ sym n)

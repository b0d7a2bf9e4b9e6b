use Rattle.std.proofs.Common.{◌≡◌, ℕ, ◌&&◌, Bool, map, sym, ap, ◌∙◌, arith}
use Rattle.std.specs.Prelude.{not}
use Rattle.std.specs.Str.{is_utf8}
use Rattle.std.proofs.lemmas.List.{length-map}
use Rattle.arrow_spec.specs.Faults.{some_row}
use Rattle.arrow_buffers.specs.Rows.{is_valid}
use Rattle.arrow_buffers.specs.Variable.{row_bytes, has_bad_text, variable_rows}
use Rattle.arrow_buffers.proofs.Rows.{some_at, none_more, bad_here, fine_here, null_here}
use Rattle.arrow_buffers.proofs.texts.are_row_texts.Goals as goal
use Rattle.arrow_buffers.proofs.texts.are_row_texts.Goals.{else-validity_at-via-then-validity_at+else-not-is_text, else-validity_at-via-else-validity_at}

pub returns-then-not-is_text : goal.returns-then-not-is_text
unfolding has_bad_text
returns-then-not-is_text g c =
    let offsets = map g.O.Offset.number c.args.offsets.now in
    let bad : ℕ → Bool = λ row. is_valid c.args.validity.now row && not (is_utf8 (row_bytes offsets c.args.values.now row)) in
    let here = bad_here (is_valid c.args.validity.now c.loop-row.row) (is_utf8 (row_bytes offsets c.args.values.now c.loop-row.row)) (sym c.validity_at.ensures ∙ c.if-validity_at.true) (ap is_utf8 (sym c.bytes_of.ensures) ∙ sym c.is_text.ensures ∙ c.if-not-is_text.true) in
    ap not (sym (some_at bad (variable_rows offsets) c.loop-row.row (omega (arith, length-map c.args.offsets.now g.O.Offset.number)) here))

pub loop-row-preserved : goal.loop-row-preserved
loop-row-preserved g c =
    let offsets = map g.O.Offset.number c.args.offsets.now in
    let bad : ℕ → Bool = λ row. is_valid c.args.validity.now row && not (is_utf8 (row_bytes offsets c.args.values.now row)) in
    none_more bad c.loop-row.row c.loop-row.invariant (
    elim c.else-validity_at.branch [
      | else-validity_at-via-then-validity_at+else-not-is_text w ↦ fine_here (is_valid c.args.validity.now c.loop-row.row) (is_utf8 (row_bytes offsets c.args.values.now c.loop-row.row)) (ap is_utf8 (sym w.bytes_of.ensures) ∙ sym w.is_text.ensures ∙ w.if-not-is_text.false)
      | else-validity_at-via-else-validity_at w ↦ null_here (is_valid c.args.validity.now c.loop-row.row) (is_utf8 (row_bytes offsets c.args.values.now c.loop-row.row)) (sym c.validity_at.ensures ∙ w.if-validity_at.false)
    ])

pub returns : goal.returns
unfolding has_bad_text
returns g c =
    let offsets = map g.O.Offset.number c.args.offsets.now in
    let bad : ℕ → Bool = λ row. is_valid c.args.validity.now row && not (is_utf8 (row_bytes offsets c.args.values.now row)) in
    let all : c.loop-row.row ≡ variable_rows offsets = omega (arith, length-map c.args.offsets.now g.O.Offset.number) in
    ap not (sym c.loop-row.invariant ∙ ap (some_row bad) all)

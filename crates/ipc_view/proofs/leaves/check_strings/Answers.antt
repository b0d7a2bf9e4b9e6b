use Rattle.std.proofs.Common.{◌≡◌, true, false, sym, ap, ◌∙◌}
use Rattle.arrow_spec.specs.Faults.{some_row}
use Rattle.view_types.specs.Tops.{top_in}
use Rattle.view_types.specs.Views.{bits_in, order_of, part_in}
use Rattle.ipc_view.specs.Tests.{has_bad_offsets, is_no_text}
use Rattle.ipc_view.proofs.Answered.{is_bad, is_good}
use Rattle.ipc_view.proofs.Strings.{no_text_same, offsets_refused, strings_fine, strings_stand, texts_refused}
use Rattle.ipc_view.proofs.leaves.check_strings.Goals as goal

pub returns-then-not-offsets_fit-clause-gives : goal.returns-then-not-offsets_fit-clause-gives
returns-then-not-offsets_fit-clause-gives c =
    let t = top_in c.args.parts.now in
    let bad : has_bad_offsets (part_in t.input t.first) c.args.is_large (order_of t.is_big) t.rows t.second.length ≡ true =
    ap (λ b. has_bad_offsets b c.args.is_large (order_of t.is_big) t.rows t.second.length) (sym c.part_of-offsets.ensures.part) ∙ is_bad _ _ c.offsets_fit.ensures c.if-not-offsets_fit.true in
    record { ok = tt; err = offsets_refused t c.args.is_large c.args.is_text bad }

pub returns-then-not-is_text-clause-gives : goal.returns-then-not-is_text-clause-gives
returns-then-not-is_text-clause-gives c =
    let t = top_in c.args.parts.now in
    let fine : has_bad_offsets (part_in t.input t.first) c.args.is_large (order_of t.is_big) t.rows t.second.length ≡ false =
    ap (λ b. has_bad_offsets b c.args.is_large (order_of t.is_big) t.rows t.second.length) (sym c.part_of-offsets.ensures.part) ∙ is_good _ _ c.offsets_fit.ensures c.if-not-offsets_fit.false in
    let texts : c.args.is_text ≡ true → some_row (is_no_text (part_in t.input t.first) (part_in t.input t.second) (bits_in t.input t.validity) c.args.is_large (order_of t.is_big)) t.rows ≡ false =
    λ x. let e : true ≡ false = sym x ∙ c.if-not-is_text.true in cc in
    record { ok = (strings_fine t c.args.is_large c.args.is_text fine texts, strings_stand t c.args.is_large c.args.is_text c.requires.offsets c.requires.values c.requires.room fine texts); err = tt }

pub returns-then-not-texts_fit-clause-gives : goal.returns-then-not-texts_fit-clause-gives
returns-then-not-texts_fit-clause-gives c =
    let t = top_in c.args.parts.now in
    let fine : has_bad_offsets (part_in t.input t.first) c.args.is_large (order_of t.is_big) t.rows t.second.length ≡ false =
    ap (λ b. has_bad_offsets b c.args.is_large (order_of t.is_big) t.rows t.second.length) (sym c.part_of-offsets.ensures.part) ∙ is_good _ _ c.offsets_fit.ensures c.if-not-offsets_fit.false in
    let bad : some_row (is_no_text (part_in t.input t.first) (part_in t.input t.second) (bits_in t.input t.validity) c.args.is_large (order_of t.is_big)) t.rows ≡ true =
    no_text_same _ _ _ _ _ _ c.args.is_large (order_of t.is_big) t.rows (sym c.part_of-offsets.ensures.part) (sym c.part_of-values.ensures.part) (sym c.bits_of-bits.ensures.bits) ∙ is_bad _ _ c.texts_fit.ensures c.if-not-texts_fit.true in
    record { ok = tt; err = texts_refused t c.args.is_large c.args.is_text fine c.if-not-is_text.false bad }

pub returns-clause-gives : goal.returns-clause-gives
returns-clause-gives c =
    let t = top_in c.args.parts.now in
    let fine : has_bad_offsets (part_in t.input t.first) c.args.is_large (order_of t.is_big) t.rows t.second.length ≡ false =
    ap (λ b. has_bad_offsets b c.args.is_large (order_of t.is_big) t.rows t.second.length) (sym c.part_of-offsets.ensures.part) ∙ is_good _ _ c.offsets_fit.ensures c.if-not-offsets_fit.false in
    let texts : some_row (is_no_text (part_in t.input t.first) (part_in t.input t.second) (bits_in t.input t.validity) c.args.is_large (order_of t.is_big)) t.rows ≡ false =
    no_text_same _ _ _ _ _ _ c.args.is_large (order_of t.is_big) t.rows (sym c.part_of-offsets.ensures.part) (sym c.part_of-values.ensures.part) (sym c.bits_of-bits.ensures.bits) ∙ is_good _ _ c.texts_fit.ensures c.if-not-texts_fit.false in
    record { ok = (strings_fine t c.args.is_large c.args.is_text fine (λ x. texts), strings_stand t c.args.is_large c.args.is_text c.requires.offsets c.requires.values c.requires.room fine (λ x. texts)); err = tt }

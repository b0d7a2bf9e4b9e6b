use Rattle.std.proofs.Common.{◌≡◌, ◌∙◌, inl, inr, true, false, refl, sym, ap, subst, to_z, of_z, w64}
use Rattle.std.proofs.lemmas.Int.{to_z-of_z}
use Rattle.arrow_arrays.specs.Parts.{kind_in}
use Rattle.arrow_arrays.specs.PartsOf.{parts_of}
use Rattle.ipc_fields.specs.Representable.{are_representable_values}
use Rattle.ipc_write.specs.Outcomes.{refuses_types}
use Rattle.ipc_write.specs.Values.{EncodesValues}
use Rattle.ipc_write.proofs.values.encode_values.Goals as goal

pub returns-then-refuses_types-clause-encodes : goal.returns-then-refuses_types-clause-encodes
returns-then-refuses_types-clause-encodes c =
    let o = c.args.options.now in
    let test : refuses_types o (are_representable_values (kind_in (parts_of c.args.array.now))) ≡ true = ap (λ k. refuses_types o (are_representable_values k)) (sym c.dtype.ensures) ∙ ap (refuses_types o) (sym c.are_representable_values.ensures) ∙ sym c.refuses_types.ensures ∙ c.if-refuses_types.true in
    inl (test, refl)

pub returns-clause-encodes : goal.returns-clause-encodes
returns-clause-encodes c =
    let o = c.args.options.now in
    let x = parts_of c.args.array.now in
    let e : to_z w64 (of_z w64 c.args.id) ≡ c.args.id = to_z-of_z w64 c.args.id c.ranges.id in
    let test : refuses_types o (are_representable_values (kind_in x)) ≡ false = ap (λ k. refuses_types o (are_representable_values k)) (sym c.dtype.ensures) ∙ ap (refuses_types o) (sym c.are_representable_values.ensures) ∙ sym c.refuses_types.ensures ∙ c.if-refuses_types.false in
    let encoded : EncodesValues c.encode_any_values.result o c.args.id c.args.is_delta x = subst (λ z. EncodesValues c.encode_any_values.result o z c.args.is_delta x) e c.encode_any_values.ensures.encodes in
    inr (test, encoded)

use Rattle.std.proofs.Common.{◌≡◌, ◌∙◌, ℕ, Bool, length, pos, sym, ap, arith, rules, SFits, to_z, of_z}
use Rattle.std.specs.Prelude.{not}
use Rattle.std.specs.Int.{w8, w32}
use Rattle.std.proofs.lemmas.Int.{to_z-of_z}
use Rattle.arrow_spec.specs.Arrays.{id_place}
use Rattle.arrow_types.specs.KindOf.{kind_of}
use Rattle.arrow_buffers.proofs.Rows.{some_at, none_more}
use Rattle.arrow_arrays.specs.Heads.{ids_in, number_at, is_bad_place}
use Rattle.arrow_arrays.specs.Parts.{rows_each}
use Rattle.arrow_arrays.specs.PartsOf.{forest_of}
use Rattle.arrow_arrays.proofs.SameRows.{told_at}
use Rattle.arrow_arrays.proofs.union.are_dense_places.Goals as goal

pub returns-then-is_bad_place : goal.returns-then-is_bad_place
returns-then-is_bad_place c =
    let ns = rows_each (forest_of c.args.fields.now) in
    let ids = ids_in (kind_of c.args.dtype.now) in
    let types = c.args.types.now in
    let os = c.args.offsets.now in
    let row = c.loop-row.row in
    let bad : ℕ → Bool = λ row. is_bad_place ns (id_place ids (number_at types row)) (number_at os row) in
    let fits : SFits w8 c.get.result = search rules in
    let t : number_at types row ≡ to_z w8 (of_z w8 c.get.result) = told_at types row (pos 0) c.get.result c.get.ensures ∙ sym (to_z-of_z w8 c.get.result fits) in
    let small : SFits w32 c.get-in-loop-row.result = search rules in
    let o : number_at os row ≡ to_z w32 (of_z w32 c.get-in-loop-row.result) = told_at os row (pos 0) c.get-in-loop-row.result c.get-in-loop-row.ensures ∙ sym (to_z-of_z w32 c.get-in-loop-row.result small) in
    let here : bad row ≡ c.is_bad_place.result =
    ap (λ x. is_bad_place ns (id_place ids x) (number_at os row)) t ∙ ap (is_bad_place ns (id_place ids (to_z w8 (of_z w8 c.get.result)))) o ∙ ap (λ r. is_bad_place ns r (to_z w32 (of_z w32 c.get-in-loop-row.result))) (sym c.child_of_type-child.ensures) ∙ sym c.is_bad_place.ensures in
    ap not (sym (some_at bad (length types) row (omega arith) (here ∙ c.if-is_bad_place.true)))

pub loop-row-preserved : goal.loop-row-preserved
loop-row-preserved c =
    let ns = rows_each (forest_of c.args.fields.now) in
    let ids = ids_in (kind_of c.args.dtype.now) in
    let types = c.args.types.now in
    let os = c.args.offsets.now in
    let row = c.loop-row.row in
    let bad : ℕ → Bool = λ row. is_bad_place ns (id_place ids (number_at types row)) (number_at os row) in
    let fits : SFits w8 c.get.result = search rules in
    let t : number_at types row ≡ to_z w8 (of_z w8 c.get.result) = told_at types row (pos 0) c.get.result c.get.ensures ∙ sym (to_z-of_z w8 c.get.result fits) in
    let small : SFits w32 c.get-in-loop-row.result = search rules in
    let o : number_at os row ≡ to_z w32 (of_z w32 c.get-in-loop-row.result) = told_at os row (pos 0) c.get-in-loop-row.result c.get-in-loop-row.ensures ∙ sym (to_z-of_z w32 c.get-in-loop-row.result small) in
    let here : bad row ≡ c.is_bad_place.result =
    ap (λ x. is_bad_place ns (id_place ids x) (number_at os row)) t ∙ ap (is_bad_place ns (id_place ids (to_z w8 (of_z w8 c.get.result)))) o ∙ ap (λ r. is_bad_place ns r (to_z w32 (of_z w32 c.get-in-loop-row.result))) (sym c.child_of_type-child.ensures) ∙ sym c.is_bad_place.ensures in
    none_more bad row c.loop-row.invariant (here ∙ c.if-is_bad_place.false)

use Rattle.std.proofs.Common.{◌≡◌, ◌∙◌, ℕ, Bool, length, pos, sym, ap, arith, rules, SFits, to_z, of_z}
use Rattle.std.specs.Prelude.{not}
use Rattle.std.specs.Int.{w8}
use Rattle.std.proofs.lemmas.Int.{to_z-of_z}
use Rattle.arrow_spec.specs.Arrays.{id_place}
use Rattle.arrow_spec.specs.Faults.{is_no_id}
use Rattle.arrow_types.specs.KindOf.{kind_of}
use Rattle.arrow_buffers.proofs.Rows.{some_at, none_more}
use Rattle.arrow_arrays.specs.Heads.{ids_in, number_at}
use Rattle.arrow_arrays.proofs.SameRows.{told_at}
use Rattle.arrow_arrays.proofs.union.are_types.Goals as goal

pub returns-then-is_no_id : goal.returns-then-is_no_id
returns-then-is_no_id c =
    let ids = ids_in (kind_of c.args.dtype.now) in
    let types = c.args.types.now in
    let row = c.loop-row.row in
    let bad : ℕ → Bool = λ row. is_no_id (id_place ids (number_at types row)) in
    let fits : SFits w8 c.get.result = search rules in
    let t : number_at types row ≡ to_z w8 (of_z w8 c.get.result) = told_at types row (pos 0) c.get.result c.get.ensures ∙ sym (to_z-of_z w8 c.get.result fits) in
    let here : bad row ≡ c.is_no_id.result = ap (λ x. is_no_id (id_place ids x)) t ∙ ap is_no_id (sym c.child_of_type.ensures) ∙ sym c.is_no_id.ensures in
    ap not (sym (some_at bad (length types) row (omega arith) (here ∙ c.if-is_no_id.true)))

pub loop-row-preserved : goal.loop-row-preserved
loop-row-preserved c =
    let ids = ids_in (kind_of c.args.dtype.now) in
    let types = c.args.types.now in
    let row = c.loop-row.row in
    let bad : ℕ → Bool = λ row. is_no_id (id_place ids (number_at types row)) in
    let fits : SFits w8 c.get.result = search rules in
    let t : number_at types row ≡ to_z w8 (of_z w8 c.get.result) = told_at types row (pos 0) c.get.result c.get.ensures ∙ sym (to_z-of_z w8 c.get.result fits) in
    let here : bad row ≡ c.is_no_id.result = ap (λ x. is_no_id (id_place ids x)) t ∙ ap is_no_id (sym c.child_of_type.ensures) ∙ sym c.is_no_id.ensures in
    none_more bad row c.loop-row.invariant (here ∙ c.if-is_no_id.false)

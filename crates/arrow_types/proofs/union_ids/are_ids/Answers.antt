use Rattle.std.proofs.Common.{◌≡◌, ◌-◌, ◌+◌, ◌&&◌, false, not, sym, refl, ◌∙◌, get_or, drop, pos, ap, to_z, of_z, SFits, subst, arith, rules}
use Rattle.std.specs.Int.{w32}
use Rattle.std.proofs.lemmas.Int.{to_z-of_z}
use Rattle.arrow_spec.specs.Schema.{is_id, is_id_behind}
use Rattle.arrow_types.proofs.UnionIds.{one_wrong, rest_is}
use Rattle.arrow_types.proofs.union_ids.are_ids.Goals as goal

pub returns-then-not-is_right_before : goal.returns-then-not-is_right_before
returns-then-not-is_right_before c =
    let xs = c.args.ids.now in
    let k = c.loop-at.at - 1 in
    let x = get_or xs k (pos 0) in
    let fits : SFits w32 x = search rules in
    let one : (is_id x && not (is_id_behind (drop (k + 1) xs) x)) ≡ false = subst (λ y. (is_id y && not (is_id_behind (drop (k + 1) xs) y)) ≡ false) (to_z-of_z w32 x fits) (ap (λ ys. is_id (to_z w32 (of_z w32 x)) && not (is_id_behind ys (to_z w32 (of_z w32 x)))) (sym (rest_is (k + 1) xs)) ∙ sym c.is_right_before.ensures ∙ c.if-not-is_right_before.true) in
    sym (one_wrong xs c.loop-at.at k x (pos 0) refl (omega arith) (omega arith) refl one)

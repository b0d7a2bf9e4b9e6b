use Rattle.std.proofs.Common.{◌≡◌, sym, ◌∙◌, arith, true, length, ◌<◌}
use Rattle.arrow_types.specs.KindCode.{kind_eq_is}
use Rattle.arrow_types.specs.KindOf.{kind_of}
use Rattle.ipc_fields.specs.IpcFields.{ids_of}
use Rattle.arrow_types.specs.Leaves.{is_leaf}
use Rattle.ipc_fields.proofs.KindSteps.{lengths_differ, kinds_more, kinds_wrong, leaf_same}
use Rattle.ipc_fields.proofs.kinds.+kinds.Goals as goal

pub have_same_kinds-returns-then-a-b : goal.have_same_kinds-returns-then-a-b
have_same_kinds-returns-then-a-b t c = sym (lengths_differ c.args.a.now c.args.b.now (ids_of c.args.a_fields.now) (ids_of c.args.b_fields.now) c.if-a-b.true)

pub have_same_kinds-returns-then-not-is_same_child : goal.have_same_kinds-returns-then-not-is_same_child
have_same_kinds-returns-then-not-is_same_child t c =
    let other : c.loop-i.i < length c.args.b.now = omega arith in
    sym (kinds_wrong c.args.a.now c.args.b.now c.args.a_fields.now c.args.b_fields.now c.loop-i.i c.index-a-i.result c.index-b-i.result _ c.loop-i-test.true other c.index-a-i.is c.index-b-i.is c.loop-i.invariant (sym c.is_same_child.ensures ∙ c.if-not-is_same_child.true))

pub have_same_kinds-loop-i-preserved : goal.have_same_kinds-loop-i-preserved
have_same_kinds-loop-i-preserved t c =
    let other : c.loop-i.i < length c.args.b.now = omega arith in
    kinds_more c.args.a.now c.args.b.now c.args.a_fields.now c.args.b_fields.now c.loop-i.i c.index-a-i.result c.index-b-i.result _ c.loop-i-test.true other c.index-a-i.is c.index-b-i.is c.loop-i.invariant (sym c.is_same_child.ensures ∙ c.if-not-is_same_child.false)

pub is_same_kind-returns-then-is_leaf : goal.is_same_kind-returns-then-is_leaf
is_same_kind-returns-then-is_leaf t c =
    let leaf : is_leaf (kind_of c.args.a.now) ≡ true = sym c.is_leaf.ensures ∙ c.if-is_leaf.true in
    leaf_same (kind_of c.args.a.now) (kind_of c.args.b.now) c.args.a_id c.args.b_id (ids_of c.args.a_fields.now) (ids_of c.args.b_fields.now) c.eq.result leaf (λ h. (kind_eq_is (kind_of c.args.a.now) (kind_of c.args.b.now)).0 (sym c.eq.ensures ∙ h), λ h. c.eq.ensures ∙ (kind_eq_is (kind_of c.args.a.now) (kind_of c.args.b.now)).1 h)

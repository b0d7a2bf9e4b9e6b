use Rattle.std.proofs.Common.{◌≡◌, ℕ, ◌≤◌, List, [], ◌∷◌, ◌++◌, Bool, true, Option, Some, None, length, pos, ap, sym, ◌∙◌, arith, append-nil}
use Rattle.std.specs.Prelude.{not}
use Rattle.std.proofs.lemmas.Bool.{eqb-true}
use Rattle.std.proofs.lemmas.List.Sums.{count_by-le-length}
use Rattle.arrow_spec.specs.Framing.{validity_bytes}
use Rattle.arrow_spec.specs.declared.message.FieldNode.{FieldNode}
use Rattle.arrow_buffers.specs.Rows.{has_rows, null_rows}
use Rattle.ipc_bodies.proofs.Adding.{appends_as}
use Rattle.ipc_write_arrays.proofs.Behind.{put_ok, put_err}
use Rattle.ipc_write_arrays.proofs.trees.add_top.Goals as goal

nulls_within : (v : Option (List Bool)) (rows : ℕ) → has_rows v rows ≡ true → null_rows v ≤ rows
nulls_within None rows e = omega arith
nulls_within (Some bits) rows e = omega (arith, count_by-le-length not bits, eqb-true (length bits) rows e)

pub push_node-requires-clause-nulls : goal.push_node-requires-clause-nulls
push_node-requires-clause-nulls c = omega (arith, c.nulls_in.ensures, nulls_within c.args.validity.now c.args.rows c.requires.bits, c.requires.few)

-- the node has as many nulls as the validity
pub returns-clause-ok : goal.returns-clause-ok
returns-clause-ok c =
    let out = c.args.out.now in
    let rows = c.args.rows in
    let node = c.in_ok-push_node.ensures ∙ ap (λ k. out.nodes.items ++ record { length = pos rows; null_count = pos k } ∷ []) c.nulls_in.ensures in
    let bytes = appends_as c.add_validity.result _ _ _ _ (ap (λ v. validity_bytes v ∷ []) c.as_ref.ensures.value) c.add_validity.ensures in
    let own : FieldNode = record { length = pos rows; null_count = pos (null_rows c.args.validity.now) } in
    put_ok c.add_validity.result (own ∷ []) (validity_bytes c.args.validity.now ∷ []) [] out.nodes.items c.push_node.new.nodes.items out.buffers.items c.add_validity.new.buffers.items out.views.items out.views.items node bytes (sym (append-nil out.views.items))

pub returns-clause-err : goal.returns-clause-err
returns-clause-err c = put_err c.add_validity.result _ _ [] _ _ _ _ _ _ c.in_ok-push_node.ensures c.add_validity.ensures (sym (append-nil c.args.out.now.views.items))

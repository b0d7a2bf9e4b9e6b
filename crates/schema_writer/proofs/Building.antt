-- The nodes of fields, one after another.
use Rattle.std.proofs.Common.{◌≡◌, ℕ, ◌+◌, true, ◌&&◌, List, [], ◌∷◌, ◌++◌, drop, refl, sym, ap, ◌∙◌}
use Rattle.std.proofs.lemmas.Bool.{and_parts}
use Rattle.arrow_spec.specs.Layout as layout
use Rattle.arrow_spec.specs.Layout.{Node, Nodes}
use Rattle.arrow_flat.specs.Nodes.{nodes_from}
use Rattle.arrow_types.specs.Child.{Child, fields_from}
use Rattle.ipc_fields.specs.IpcFields.{Ids, ids_of}
use Rattle.ipc_fields.specs.declared.ipc_field.IpcField.{IpcField}
use Rattle.schema_writer.specs.Nodes.{field_table}
use Rattle.schema_writer.specs.Tables.{below_nodes, nodes_with, kind_sized, all_sized, onto}
use Rattle.ipc_fields.specs.Uses.{first_ids, first_id}
use Rattle.ipc_fields.proofs.UseSteps.{others_at}

pub onto_last : (xs : List Node) (x : Node) (ns : Nodes) → onto (xs ++ x ∷ []) ns ≡ onto xs (layout.also x ns)
onto_last [] x ns = refl
onto_last (y ∷ xs) x ns = ap (layout.also y) (onto_last xs x ns)

pub onto_none : (xs : List Node) → onto xs layout.none ≡ nodes_from xs
onto_none [] = refl
onto_none (x ∷ xs) = ap (layout.also x) (onto_none xs)

-- the nodes of the fields that are left, of which the first stands at a place, and of those behind it
pub node_next : (here behind : List Child) (c : Child) (ts : List IpcField) (i : ℕ) (done new : List Node) (n : Node) (whole : Nodes) → here ≡ c ∷ behind → new ≡ done ++ n ∷ []
    → n ≡ field_table c (first_id (ids_of (drop i ts))) (below_nodes c.kind (first_ids (ids_of (drop i ts))))
    → onto done (nodes_with (fields_from here) (ids_of (drop i ts))) ≡ whole → onto new (nodes_with (fields_from behind) (ids_of (drop (i + 1) ts))) ≡ whole
node_next here behind c ts i done new n whole e l m w =
    let own = ids_of (drop i ts) in
    let rest = nodes_with (fields_from behind) in
    ap (λ xs. onto xs (rest (ids_of (drop (i + 1) ts)))) l ∙ onto_last done n (rest (ids_of (drop (i + 1) ts)))
    ∙ ap (λ x. onto done (layout.also x (rest (ids_of (drop (i + 1) ts))))) m
    ∙ ap (λ k. onto done (layout.also (field_table c (first_id own) (below_nodes c.kind (first_ids own))) (rest k))) (sym (others_at ts i))
    ∙ ap (λ cs. onto done (nodes_with (fields_from cs) own)) (sym e) ∙ w

pub nodes_done : (here : List Child) (own : Ids) (done : List Node) (whole : Nodes) → here ≡ [] → onto done (nodes_with (fields_from here) own) ≡ whole → nodes_from done ≡ whole
nodes_done here own done whole e w = sym (onto_none done) ∙ ap (λ cs. onto done (nodes_with (fields_from cs) own)) (sym e) ∙ w

pub sized_at : (here behind : List Child) (c : Child) → here ≡ c ∷ behind → all_sized (fields_from here) ≡ true → (kind_sized c.kind ≡ true) × (all_sized (fields_from behind) ≡ true)
sized_at here behind c e f =
    let g : (kind_sized c.kind && all_sized (fields_from behind)) ≡ true = ap (λ cs. all_sized (fields_from cs)) (sym e) ∙ f in
    and_parts (kind_sized c.kind) (all_sized (fields_from behind)) g

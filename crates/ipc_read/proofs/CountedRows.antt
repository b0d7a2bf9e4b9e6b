-- Lists of one size with more items than can be counted: no node has as many.
use Rattle.std.proofs.Common.{◌≡◌, ℕ, zero, suc, ◌*◌, ◌++◌, Option, Some, None, true, ◌&&◌, sym, ap, ◌∙◌}
use Rattle.std.specs.Prelude.{slice_get, nat_eq, nat_lt}
use Rattle.std.proofs.lemmas.Bool.{and_parts}
use Rattle.arrow_spec.specs.declared.error.IpcError.{IpcError}
use Rattle.arrow_spec.specs.Readings.{IsAmong, Refuses}
use Rattle.arrow_spec.specs.Kinds.{Kind, Fields, none, field, width, «list», map, fixed_size_list, struct, union, dictionary, extension}
use Rattle.arrow_spec.specs.declared.types.UnionMode.TheVariants.{Dense, Sparse}
use Rattle.arrow_spec.specs.Counts.{RecordBatch, Place, inside}
use Rattle.arrow_spec.specs.Faults.{node_faults, validity_faults, union_faults, array_faults, child_faults}
use Rattle.arrow_spec.specs.Arrays.{Dictionaries}
use Rattle.arrow_types.specs.Physical.{under_extensions}
use Rattle.arrow_arrays.specs.Carried.{is_carried, are_carried}
use Rattle.ipc_read_laws.specs.Faults.{read_faults}
use Rattle.ipc_read_laws.proofs.LayoutLaws.{node_refused}
use Rattle.ipc_read.specs.CountedArrays.{counted_kind, items_faults}
use Rattle.ipc_read.proofs.Refusals.{refuses_more, refuses_right, refuses_none, among_left}
use Rattle.ipc_read.proofs.Nested.{counted_children_refused, carried_under}

-- what is wrong with the node is wrong with the array
node_among : (m : RecordBatch) (d : Dictionaries) (k : Kind) (p : Place) (rows : ℕ) (e : IpcError) → is_carried k ≡ true → IsAmong (node_faults m p rows) e → IsAmong (array_faults m d k p rows) e
node_among m d («list» o fs) p zero e c h = among_left (node_faults m p 0) _ e h
node_among m d («list» o fs) p (suc n) e c h = among_left (node_faults m p (suc n) ++ validity_faults m p (suc n)) _ e (among_left (node_faults m p (suc n)) _ e h)
node_among m d (map sorted fs) p zero e c h = among_left (node_faults m p 0) _ e h
node_among m d (map sorted fs) p (suc n) e c h = among_left (node_faults m p (suc n) ++ validity_faults m p (suc n)) _ e (among_left (node_faults m p (suc n)) _ e h)
node_among m d (fixed_size_list size fs) p rows e c h = among_left (node_faults m p rows ++ validity_faults m p rows) _ e (among_left (node_faults m p rows) _ e h)
node_among m d (struct fs) p rows e c h = among_left (node_faults m p rows ++ validity_faults m p rows) _ e (among_left (node_faults m p rows) _ e h)
node_among m d (union mode stated ids fs) p zero e c h = among_left (node_faults m p 0) _ e h
node_among m d (union Sparse stated ids fs) p (suc n) e c h = among_left (node_faults m p (suc n) ++ union_faults m Sparse ids fs p (suc n)) _ e (among_left (node_faults m p (suc n)) _ e h)
node_among m d (union Dense stated ids fs) p (suc n) e c h = among_left (node_faults m p (suc n) ++ union_faults m Dense ids fs p (suc n)) _ e (among_left (node_faults m p (suc n)) _ e h)
node_among m d (dictionary t ordered id k) p rows e c h = among_left (node_faults m p rows) _ e h
node_among m d (extension name metadata k) p rows e c h = node_among m d k p rows e c h
node_among m d k p rows e c h = node_refused m d k p rows e c h

items_among : (m : RecordBatch) (d : Dictionaries) (fs : Fields) (p : Place) (rows : ℕ) (e : IpcError) → nat_eq (width fs) 1 ≡ true → are_carried fs ≡ true → IsAmong (node_faults m p rows) e → IsAmong (child_faults m d fs p (λ q. rows)) e
items_among m d none p rows e w c h = cc
items_among m d (field name nullable metadata k others) p rows e w c h =
    among_left (array_faults m d k p rows) _ e (node_among m d k p rows e (and_parts (is_carried k) (are_carried others) c).0 h)

pub too_many_refused : (m : RecordBatch) (d : Dictionaries) (k : Kind) (s : Option ℕ) (fs : Fields) (p : Place) (rows : ℕ) (e : IpcError) → under_extensions k ≡ counted_kind s fs → is_carried k ≡ true → Refuses e (items_faults (slice_get m.nodes (suc p.node)) s rows) → Refuses e (read_faults m d k p rows)
unfolding node_faults
too_many_refused m d k None fs p rows e u c r = refuses_none _ e r
too_many_refused m d k (Some size) fs p rows e u c r =
    let a = and_parts (nat_eq (width fs) 1 && nat_lt 0 size) (are_carried fs) (sym (carried_under k ∙ ap is_carried u) ∙ c) in
    let w = (and_parts (nat_eq (width fs) 1) (nat_lt 0 size) a.0).0 in
    counted_children_refused m d k (Some size) fs p rows e u
    (refuses_right _ _ e (refuses_more (node_faults m (inside 1 p) (size * rows)) _ e (λ x h. items_among m d fs (inside 1 p) (size * rows) x w a.1 h) r))

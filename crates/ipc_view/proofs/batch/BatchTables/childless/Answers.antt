use Rattle.std.proofs.Common.{◌≡◌, ap, sym, subst, ◌∙◌, to_z, of_z, w64}
use Rattle.std.proofs.lemmas.Int.{to_z-of_z}
use Rattle.arrow_spec.specs.Kinds.{dictionary}
use Rattle.arrow_types.specs.KindOf.{kind_of}
use Rattle.ipc_fields.specs.IpcFields.{ids_of}
use Rattle.ipc_view.specs.Layouts.{is_leaf_layout}
use Rattle.ipc_view.specs.Nested.{Seen}
use Rattle.ipc_view.proofs.Keys.{keyed_seen}
use Rattle.ipc_view.proofs.ShownKinds.{leaf_layout, leaf_with, shown_leaf}
use Rattle.ipc_view.proofs.batch.BatchTables.childless.Goals as goal

pub flat-requires-clause-leaf : goal.flat-requires-clause-leaf
flat-requires-clause-leaf c =
    let k = kind_of c.args.dtype.now in
    let s = shown_leaf k c.requires.counted c.requires.lists c.requires.unions (sym c.in-None.ensures) c.requires.shown in
    ap is_leaf_layout (c.flat_layout.ensures ∙ sym s.1) ∙ leaf_layout k s.0

pub returns-in-Some-clause-seen : goal.returns-in-Some-clause-seen
returns-in-Some-clause-seen c = λ fields.
    let e : to_z w64 (of_z w64 c.id_or_zero.result) ≡ c.id_or_zero.result = to_z-of_z w64 c.id_or_zero.result (record { sfits = c.id_or_zero.type_inv }) in
    keyed_seen c.args.self.now c.keyed.result (kind_of c.args.dtype.now) c.in-Some.keys c.args.id c.id_or_zero.result (ids_of fields) c.args.place c.args.rows (sym c.in-Some.ensures) c.id_or_zero.ensures
    (λ ordered k. subst (λ z. Seen c.args.self.now c.keyed.result (dictionary c.in-Some.keys ordered z k) c.args.place c.args.rows) e (c.keyed.ensures.seen ordered k))

pub returns-in-None-clause-seen : goal.returns-in-None-clause-seen
returns-in-None-clause-seen c = λ fields.
    let k = kind_of c.args.dtype.now in
    let s = shown_leaf k c.requires.counted c.requires.lists c.requires.unions (sym c.in-None.ensures) c.requires.shown in
    subst (λ x. Seen c.args.self.now c.flat.result x c.args.place c.args.rows) (sym (leaf_with k c.args.id (ids_of fields) s.0)) (c.flat.ensures.seen k s.0 (s.1 ∙ sym c.flat_layout.ensures))

use Rattle.std.proofs.Common.{◌≡◌, ◌+◌, length, map, refl, arith, ◌∙◌}
use Rattle.std.proofs.lemmas.List.{length-map}
use Rattle.arrow_types.specs.KindOf.{kind_of}
use Rattle.arrow_types.specs.Numbers.{offsets_by}
use Rattle.arrow_spec.specs.Counts.{first_place}
use Rattle.ipc_read.proofs.Refusals.{err_from}
use Rattle.ipc_read.proofs.Arrays.{if_any}
use Rattle.ipc_read.proofs.ReaderSteps.{if_ok, if_err}
use Rattle.ipc_read.proofs.VariableArrays.{variable_array, more_fine, parts_refused, was_read, node_well, variable_made, make_refused, variable_next, variable_fetched, shape_of}
use Rattle.ipc_read.proofs.Shortened.{variable_shortened, only_counts}
use Rattle.ipc_read.proofs.readers.ColumnReader.read_variable.Goals as goal

pub returns-in_err-parts-clause-gives : goal.returns-in_err-parts-clause-gives
returns-in_err-parts-clause-gives g c = λ m p a t.
    let f = variable_array g.V.ViewType.IS_TEXT m (kind_of c.args.dtype.now) p c.args.rows g.O.Offset.IS_LARGE c.requires.kind in
    err_from _ _ c.in_err-parts.field-0.0 _ _ _ c.from_residual.ensures.0 c.from_residual.ensures.1 (λ x e. e)
    (parts_refused m (kind_of c.args.dtype.now) p c.args.rows (offsets_by g.O.Offset.IS_LARGE) _ c.in_err-parts.field-0.0 f (c.in_err-parts.ensures.gives m p a t).err)

pub returns-clause-takes : goal.returns-clause-takes
returns-clause-takes g c = if_any c.make_variable.result _ (λ m p a.
    let q = c.in_ok-parts.ensures.takes m p a in
    variable_next m (kind_of c.args.dtype.now) p c.args.rows (offsets_by g.O.Offset.IS_LARGE) _ _ _ (variable_array g.V.ViewType.IS_TEXT m (kind_of c.args.dtype.now) p c.args.rows g.O.Offset.IS_LARGE c.requires.kind) a.within q.0 q.1)

pub returns-clause-shape : goal.returns-clause-shape
returns-clause-shape g c =
    let n : length (map g.O.Offset.number c.in_ok-parts.parts.offsets) ≡ c.args.rows + 1 = length-map c.in_ok-parts.parts.offsets g.O.Offset.number ∙ c.in_ok-parts.ensures.offsets in
    if_ok c.make_variable.result _ _ c.make_variable.ensures.parts (λ a e. shape_of (kind_of c.args.dtype.now) a _ _ _ c.args.rows e n)

pub returns-clause-gives : goal.returns-clause-gives
returns-clause-gives g c = λ m p a t.
    let f = variable_array g.V.ViewType.IS_TEXT m (kind_of c.args.dtype.now) p c.args.rows g.O.Offset.IS_LARGE c.requires.kind in
    let q = c.in_ok-parts.ensures.takes m p a in
    let v = (c.in_ok-parts.ensures.gives m p a t).ok in
    let r = was_read m p c.args.rows (offsets_by g.O.Offset.IS_LARGE) (record { kind = (kind_of c.args.dtype.now); offsets = map g.O.Offset.number c.in_ok-parts.parts.offsets; values = c.in_ok-parts.parts.values; validity = c.in_ok-parts.parts.validity }) v.0 v.1 in
    variable_made m (kind_of c.args.dtype.now) p c.args.rows (offsets_by g.O.Offset.IS_LARGE) _ _ _ (record { kind = (kind_of c.args.dtype.now); offsets = map g.O.Offset.number c.in_ok-parts.parts.offsets; values = c.in_ok-parts.parts.values; validity = c.in_ok-parts.parts.validity }) c.make_variable.result f a.within q.0 q.1 (node_well m p c.args.rows (offsets_by g.O.Offset.IS_LARGE) v.0) r refl c.make_variable.ensures.parts c.make_variable.ensures.sound
    (if_ok c.make_variable.result _ _ c.make_variable.ensures.texts (λ x h. more_fine g.V.ViewType.IS_TEXT m p c.args.rows _ _ r h))
    (if_err c.make_variable.result _ _ c.make_variable.ensures.err (λ e h. make_refused g.V.ViewType.IS_TEXT m (kind_of c.args.dtype.now) p c.args.rows (offsets_by g.O.Offset.IS_LARGE) (record { kind = (kind_of c.args.dtype.now); offsets = map g.O.Offset.number c.in_ok-parts.parts.offsets; values = c.in_ok-parts.parts.values; validity = c.in_ok-parts.parts.validity }) e f r h))

pub returns-in_err-parts-clause-fetched : goal.returns-in_err-parts-clause-fetched
returns-in_err-parts-clause-fetched g c = λ m p a.
    let s = variable_fetched m (kind_of c.args.dtype.now) p c.args.rows (offsets_by g.O.Offset.IS_LARGE) _ (variable_array g.V.ViewType.IS_TEXT m (kind_of c.args.dtype.now) p c.args.rows g.O.Offset.IS_LARGE c.requires.kind) in
    omega (arith, s, c.in_err-parts.ensures.fetched m p a)

pub returns-clause-fetched : goal.returns-clause-fetched
returns-clause-fetched g c = λ m p a.
    let s = variable_fetched m (kind_of c.args.dtype.now) p c.args.rows (offsets_by g.O.Offset.IS_LARGE) _ (variable_array g.V.ViewType.IS_TEXT m (kind_of c.args.dtype.now) p c.args.rows g.O.Offset.IS_LARGE c.requires.kind) in
    omega (arith, s, c.in_ok-parts.ensures.fetched m p a)

pub returns-in_err-parts-clause-shortened : goal.returns-in_err-parts-clause-shortened
returns-in_err-parts-clause-shortened g c = λ version vs. variable_shortened version vs (variable_array g.V.ViewType.IS_TEXT (only_counts version vs) (kind_of c.args.dtype.now) first_place c.args.rows g.O.Offset.IS_LARGE c.requires.kind) c.in_err-parts.ensures.shortened c.in_err-parts.ensures.buffers

pub returns-clause-shortened : goal.returns-clause-shortened
returns-clause-shortened g c = λ version vs. variable_shortened version vs (variable_array g.V.ViewType.IS_TEXT (only_counts version vs) (kind_of c.args.dtype.now) first_place c.args.rows g.O.Offset.IS_LARGE c.requires.kind) c.in_ok-parts.ensures.shortened c.in_ok-parts.ensures.buffers

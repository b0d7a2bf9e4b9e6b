use Rattle.std.proofs.Common.{◌≡◌, ◌∙◌, sym, ap, false, Some, None, rules}
use Rattle.arrow_spec.specs.Kinds.{binary_view}
use Rattle.arrow_types.specs.KindOf.{kind_of}
use Rattle.arrow_types.specs.declared.data_type.ArrowDataType.{BinaryView, the_lemmas}
use Rattle.arrow_buffers.specs.Views.{view_cells}
use Rattle.arrow_arrays.specs.PieceViews.{views_from}
use Rattle.arrow_arrays.proofs.PieceLaws.{pieces_fine, pieces_cells}
use Rattle.arrow_arrays.proofs.pieces.extend_from_lengths.Goals as goal

its_kind : kind_of BinaryView ≡ binary_view
its_kind = search (rules, the_lemmas)

pub unreachable-requires : goal.unreachable-requires
unreachable-requires c =
    let v : c.in_ok-views.views ≡ views_from c.args.bytes 0 c.args.lengths.now = search rules in
    let fine = pieces_fine c.args.bytes c.args.lengths.now c.in_ok-views.views c.in_ok-buffers.buffers.items (kind_of BinaryView) c.shares_of.ensures.small c.requires.each c.requires.all its_kind v c.in_ok-buffers.ensures.buffers in
    let both : None ≡ Some c.in-Err.field-0 = sym fine ∙ c.in-Err.ensures.err in
    cc

pub returns-clause-cells : goal.returns-clause-cells
returns-clause-cells c =
    let v : c.in_ok-views.views ≡ views_from c.args.bytes 0 c.args.lengths.now = search rules in
    ap (view_cells false) c.in-Ok.ensures.ok ∙ pieces_cells c.args.bytes c.args.lengths.now c.in_ok-views.views c.in_ok-buffers.buffers.items (kind_of BinaryView) c.shares_of.ensures.small c.requires.each c.requires.all v c.in_ok-buffers.ensures.buffers

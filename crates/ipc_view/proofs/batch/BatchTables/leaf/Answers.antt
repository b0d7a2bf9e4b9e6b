use Rattle.std.proofs.Common.{◌∙◌, sym, ap, subst}
use Rattle.view_types.specs.Tops.{top_in}
use Rattle.view_types.specs.Views.{Top, array, views}
use Rattle.ipc_view.specs.Built.{IsViewOf, batch_of, place_of}
use Rattle.ipc_view.specs.Layouts.{IsLeafOf}
use Rattle.ipc_view.specs.Lent.{IsLentOf}
use Rattle.ipc_view.proofs.Answered.{err_from}
use Rattle.ipc_view.proofs.LeafCells.{leaf_shown}
use Rattle.ipc_view.proofs.LeafParts.{leaf_fits, leaf_node_refused, leaf_refused, none_fits, none_shown}
use Rattle.ipc_view.proofs.batch.BatchTables.leaf.Goals as goal

pub returns-in_err-node-clause-gives : goal.returns-in_err-node-clause-gives
returns-in_err-node-clause-gives c = λ d k f is. err_from c.from_residual.result c.in_err-node.field-0.0 _ _ c.from_residual.ensures.0 c.from_residual.ensures.1
    (leaf_node_refused (batch_of c.args.self.now) d k (place_of c.args.place) c.args.rows c.in_err-node.field-0.0 f c.in_err-node.ensures.gives.err)

pub returns-then-rows-eq0-clause-gives : goal.returns-then-rows-eq0-clause-gives
returns-then-rows-eq0-clause-gives c = λ d k f is.
    let m = batch_of c.args.self.now in
    let p = place_of c.args.place in
    record {
      ok = (
        none_fits m d k p c.args.rows f c.if-rows-eq0.true c.in_ok-node.ensures.gives.ok.0,
        subst (IsViewOf m d k p c.args.rows) (sym (c.new-then-rows-eq0.ensures ∙ ap (λ vs. array (top_in c.nothing.result) (views vs)) c.new.ensures.items))
            (none_shown m d k p c.args.rows (top_in c.nothing.result) c.if-rows-eq0.true (ap (λ (x : Top). x.rows) c.nothing.ensures)),
      );
      err = tt;
    }

pub returns-in_err-parts-clause-gives : goal.returns-in_err-parts-clause-gives
returns-in_err-parts-clause-gives c = λ d k f is. err_from c.from_residual-in_err-parts.result c.in_err-parts.field-0.0 _ _ c.from_residual-in_err-parts.ensures.0 c.from_residual-in_err-parts.ensures.1
    (leaf_refused (batch_of c.args.self.now) d k c.args.layout (place_of c.args.place) c.args.rows c.in_err-parts.field-0.0 f is c.if-rows-eq0.false c.in_err-parts.ensures.gives.err)

pub returns-clause-gives : goal.returns-clause-gives
returns-clause-gives c = λ d k f is.
    let m = batch_of c.args.self.now in
    let p = place_of c.args.place in
    let s = c.in_ok-parts.ensures.gives.ok in
    record {
      ok = (
        leaf_fits m d k c.args.layout p c.args.rows f is c.if-rows-eq0.false c.in_ok-node.ensures.gives.ok.0 s.0,
        subst (IsViewOf m d k p c.args.rows) (sym (c.new-3.ensures ∙ ap (λ vs. array (top_in c.in_ok-parts.parts) (views vs)) c.new-2.ensures.items))
            (leaf_shown m d k p c.args.rows (top_in c.in_ok-parts.parts) f (subst (λ l. IsLeafOf m l p c.args.rows (top_in c.in_ok-parts.parts)) (sym is) s.1)),
      );
      err = tt;
    }

pub returns-then-rows-eq0-clause-lent : goal.returns-then-rows-eq0-clause-lent
returns-then-rows-eq0-clause-lent c = subst (IsLentOf c.args.self.now.input.now) (sym (c.new-then-rows-eq0.ensures ∙ ap (λ vs. array (top_in c.nothing.result) (views vs)) c.new.ensures.items)) (ap (λ (x : Top). x.input) c.nothing.ensures, tt)

pub returns-clause-lent : goal.returns-clause-lent
returns-clause-lent c = subst (IsLentOf c.args.self.now.input.now) (sym (c.new-3.ensures ∙ ap (λ vs. array (top_in c.in_ok-parts.parts) (views vs)) c.new-2.ensures.items)) (c.in_ok-parts.ensures.input, tt)

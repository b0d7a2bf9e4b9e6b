use Rattle.std.proofs.Common.{◌≡◌, Err}
use Rattle.ipc_read.proofs.Passing.{is_err, answers_err, answers_same, views_refused, at_all, count_known}
use Rattle.std.proofs.Common.{arith}
use Rattle.arrow_spec.specs.declared.message.MetadataVersion.TheVariants.{V5}
use Rattle.ipc_read.proofs.Shortened.{none_taken, taken_more, only_counts, from_first}
use Rattle.ipc_read.proofs.skips.skip_binview.Goals as goal

pub returns-in_err-count-clause-exact : goal.returns-in_err-count-clause-exact
returns-in_err-count-clause-exact c = λ m p a.
    let e : c.from_residual.result ≡ Err c.in_err-count.field-0.0 = is_err _ _ _ c.from_residual.ensures.0 c.from_residual.ensures.1 (λ f h. h) in
    answers_err _ c.from_residual.result c.in_err-count.field-0.0 _ _ e (views_refused m p c.in_err-count.field-0.0 (c.in_err-count.ensures.gives m p a.views).err)

pub returns-clause-exact : goal.returns-clause-exact
returns-clause-exact c = λ m p a.
    let n = c.in_ok-count.ensures.count m p.view a.views in
    answers_same _ c.skip_parts.result _ _ _ (count_known m p _ _ n) (c.skip_parts.ensures.exact m p (at_all a))

pub returns-in_err-count-clause-nodes : goal.returns-in_err-count-clause-nodes
returns-in_err-count-clause-nodes c = none_taken 1 _

pub returns-in_err-count-clause-buffers : goal.returns-in_err-count-clause-buffers
returns-in_err-count-clause-buffers c = none_taken _ _

pub returns-clause-buffers : goal.returns-clause-buffers
returns-clause-buffers c =
    let n = (c.in_ok-count.ensures.count (only_counts V5 c.args.variadic.now.items) 0 (from_first c.args.variadic.now.items)).is in
    taken_more c.skip_parts.ensures.buffers (omega (arith, n))

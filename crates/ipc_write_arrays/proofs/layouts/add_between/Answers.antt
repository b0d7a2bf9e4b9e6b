use Rattle.std.proofs.Common.{◌-◌, [], ◌∷◌, ap, ◌∙◌, map}
use Rattle.arrow_spec.specs.Arrays.{slice}
use Rattle.arrow_buffers.specs.Rows.{part}
use Rattle.arrow_buffers.specs.Variable.{place_at}
use Rattle.ipc_bodies.proofs.Adding.{appends_as}
use Rattle.ipc_write_arrays.proofs.layouts.add_between.Goals as goal

pub returns : goal.returns
returns g c =
    let values = c.args.values.now in
    let first = c.ends_of-first.result.0 in
    let last = c.ends_of-first.result.1 in
    let from = place_at (map g.O.Offset.number c.args.offsets.now) 0 in
    let there = c.sliced-between.ensures ∙ ap (part first (last - first)) c.in_ok-try_clone.ensures in
    let between = ap (λ n. slice values n last) c.ends_of-first.ensures.first ∙ ap (λ n. slice values from n) c.ends_of-first.ensures.last in
    appends_as c.add_bytes.result _ _ _ _ (ap (λ l. l ∷ []) (there ∙ between)) c.add_bytes.ensures

use Rattle.std.proofs.Common.{◌≡◌, true, false, ap, ◌∙◌, to_z, of_z, w64}
use Rattle.std.proofs.lemmas.Int.{to_z-of_z}
use Rattle.arrow_spec.specs.Faults.{some_row}
use Rattle.arrow_spec.proofs.Fewer.{cause-false}
use Rattle.ipc_read_laws.specs.Laws.{key_refusal}
use Rattle.view_types.specs.Tops.{top_in}
use Rattle.ipc_view.specs.Dictionaries.{is_bad_key}
use Rattle.ipc_view.proofs.Answered.{is_bad, is_good}
use Rattle.ipc_view.proofs.Keys.{refused_here}
use Rattle.ipc_view.proofs.dictionaries.check_keys.Goals as goal

pub returns-then-not-keys_fit-clause-gives : goal.returns-then-not-keys_fit-clause-gives
returns-then-not-keys_fit-clause-gives c =
    let t = top_in c.args.parts.now in
    let bad : some_row (is_bad_key t c.args.keys c.args.held) t.rows ≡ true = is_bad _ _ c.keys_fit.ensures c.if-not-keys_fit.true in
    let e : to_z w64 (of_z w64 c.args.id) ≡ c.args.id = to_z-of_z w64 c.args.id c.ranges.id in
    record { ok = tt; err = refused_here (some_row (is_bad_key t c.args.keys c.args.held) t.rows) c.args.is_absent c.args.id c.key_refusal.result bad (c.key_refusal.ensures ∙ ap (key_refusal c.args.is_absent) e) }

pub returns-clause-gives : goal.returns-clause-gives
returns-clause-gives c =
    let t = top_in c.args.parts.now in
    let fine : some_row (is_bad_key t c.args.keys c.args.held) t.rows ≡ false = is_good _ _ c.keys_fit.ensures c.if-not-keys_fit.false in
    record { ok = (cause-false (some_row (is_bad_key t c.args.keys c.args.held) t.rows) (key_refusal c.args.is_absent c.args.id) fine, fine); err = tt }

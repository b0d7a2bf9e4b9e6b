use Rattle.std.proofs.Common.{◌∙◌, sym, subst, length}
use Rattle.std.specs.Rc.{rc_value}
use Rattle.ipc_projection.specs.Places.{ArePlaces, ArePlacesOf, AreRising, StandAt}
use Rattle.ipc_projection.proofs.Prepared.{asked_places, prepared}
use Rattle.ipc_projection.proofs.projection.prepare_projection.Goals as goal

pub schema_at-requires-clause-places : goal.schema_at-requires-clause-places
schema_at-requires-clause-places c =
    let placed = subst (λ cs. ArePlacesOf cs (length cs) c.in_ok-places.places.items c.len.result) (c.as_slice.ensures.value ∙ sym c.as_slice-2.ensures.value) c.in_ok-places.ensures.placed in
    subst (ArePlaces c.as_slice-2.result.now) c.len.ensures.count (asked_places c.as_slice-2.result.now c.in_ok-places.places.items c.len.result placed)

pub returns-clause-ok : goal.returns-clause-ok
returns-clause-ok c =
    let asked = c.args.columns.items in
    let placed = subst (λ cs. ArePlacesOf cs (length cs) c.in_ok-places.places.items c.len.result) c.as_slice.ensures.value c.in_ok-places.ensures.placed in
    prepared c.args.schema.now asked c.in_ok-places.places.items _
    (subst (ArePlacesOf asked (length asked) c.in_ok-places.places.items) c.len.ensures.count placed)
    (subst (λ ps. AreRising ps (length ps) c.in_ok-columns.columns.items c.in_ok-columns.map) c.as_slice-3.ensures.value c.in_ok-columns.ensures.rising)
    (subst (λ cs. StandAt c.args.schema.now cs (rc_value c.in_ok-schema.schema)) c.as_slice-2.ensures.value c.in_ok-schema.ensures.fields)

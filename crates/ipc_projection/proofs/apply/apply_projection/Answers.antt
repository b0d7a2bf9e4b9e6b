use Rattle.std.proofs.Common.{◌≡◌, ◌∙◌, [], sym, ap, subst, length, None}
use Rattle.std.specs.Rc.{rc_value}
use Rattle.std.proofs.lemmas.List.{length-map}
use Rattle.arrow_arrays.specs.Batches.{batch_fault}
use Rattle.arrow_arrays.specs.PartsOf.{all_parts_of, parts_of}
use Rattle.ipc_projection.specs.Places.{ArePlaces, IsInverse, IsPermutation}
use Rattle.ipc_projection.specs.Projections.{IsReordered}
use Rattle.ipc_projection.proofs.Applied.{applied, as_ordered, batch_parts, batch_places, seen_at, stand_same}
use Rattle.ipc_projection.proofs.apply.apply_projection.Goals as goal

pub schema_at-requires-clause-places : goal.schema_at-requires-clause-places
schema_at-requires-clause-places c =
    let schema = c.deref.ensures ∙ c.schema-schema.ensures in
    let back = subst (IsInverse c.args.map.now c.in_ok-places.places.items) (c.len.ensures.count ∙ ap length schema) c.in_ok-places.ensures.inverse in
    let places = batch_places c.args.map.now c.args.batch c.in_ok-places.places.items c.len-height.ensures.sound (subst (IsPermutation c.args.map.now) (batch_parts c.args.batch c.len-height.ensures.sound).0 c.requires.permutes) back in
    let width = sym (batch_parts c.args.batch c.len-height.ensures.sound).0 ∙ ap length (sym (c.deref-2.ensures ∙ c.schema-schema.ensures)) in
    subst (λ ps. ArePlaces ps (length c.deref-2.result.now)) (sym c.as_slice.ensures.value) (subst (ArePlaces c.in_ok-places.places.items) width places)

pub items_at-requires : goal.items_at-requires
items_at-requires c =
    let schema = c.deref.ensures ∙ c.schema-schema.ensures in
    let back = subst (IsInverse c.args.map.now c.in_ok-places.places.items) (c.len.ensures.count ∙ ap length schema) c.in_ok-places.ensures.inverse in
    let places = batch_places c.args.map.now c.args.batch c.in_ok-places.places.items c.len-height.ensures.sound (subst (IsPermutation c.args.map.now) (batch_parts c.args.batch c.len-height.ensures.sound).0 c.requires.permutes) back in
    let width = ap length (sym c.into_arrays_and_metadata-parts.ensures.arrays) ∙ length-map c.into_arrays_and_metadata-parts.result.0.items parts_of in
    record { places = subst (λ ps. ArePlaces ps (length c.into_arrays_and_metadata-parts.result.0.items)) (sym c.as_slice-2.ensures.value) (subst (ArePlaces c.in_ok-places.places.items) width places) }

pub new-ordered-requires : goal.new-ordered-requires
new-ordered-requires c =
    let schema = c.deref.ensures ∙ c.schema-schema.ensures in
    let back = subst (IsInverse c.args.map.now c.in_ok-places.places.items) (c.len.ensures.count ∙ ap length schema) c.in_ok-places.ensures.inverse in
    let fields = stand_same (c.deref-2.ensures ∙ c.schema-schema.ensures) c.as_slice.ensures.value c.in_ok-schema.ensures.fields in
    let arrays = stand_same c.into_arrays_and_metadata-parts.ensures.arrays c.as_slice-2.ensures.value (seen_at parts_of c.into_arrays_and_metadata-parts.result.0.items c.as_slice-2.result.now c.in_ok-arrays.arrays.items c.in_ok-arrays.ensures.items) in
    let sound = (applied c.args.map.now c.args.batch c.in_ok-places.places.items c.len-height.ensures.sound (subst (IsPermutation c.args.map.now) (batch_parts c.args.batch c.len-height.ensures.sound).0 c.requires.permutes) back (rc_value c.in_ok-schema.schema) fields (all_parts_of c.in_ok-arrays.arrays.items) arrays).0 in
    subst (λ h. batch_fault (record { height = h; schema = rc_value c.in_ok-schema.schema; arrays = all_parts_of c.in_ok-arrays.arrays.items; custom = [] }) ≡ None) (sym c.len-height.ensures.rows) sound

pub returns-clause-reordered : goal.returns-clause-reordered
returns-clause-reordered c =
    let schema = c.deref.ensures ∙ c.schema-schema.ensures in
    let back = subst (IsInverse c.args.map.now c.in_ok-places.places.items) (c.len.ensures.count ∙ ap length schema) c.in_ok-places.ensures.inverse in
    let fields = stand_same (c.deref-2.ensures ∙ c.schema-schema.ensures) c.as_slice.ensures.value c.in_ok-schema.ensures.fields in
    let arrays = stand_same c.into_arrays_and_metadata-parts.ensures.arrays c.as_slice-2.ensures.value (seen_at parts_of c.into_arrays_and_metadata-parts.result.0.items c.as_slice-2.result.now c.in_ok-arrays.arrays.items c.in_ok-arrays.ensures.items) in
    let new = (applied c.args.map.now c.args.batch c.in_ok-places.places.items c.len-height.ensures.sound (subst (IsPermutation c.args.map.now) (batch_parts c.args.batch c.len-height.ensures.sound).0 c.requires.permutes) back (rc_value c.in_ok-schema.schema) fields (all_parts_of c.in_ok-arrays.arrays.items) arrays).1 in
    subst (IsReordered c.args.map.now c.args.batch) (sym (as_ordered c.new-ordered.result c.with_optional_metadata.result c.args.batch.height (rc_value c.in_ok-schema.schema) (all_parts_of c.in_ok-arrays.arrays.items) c.len-height.result c.args.batch.custom _ c.len-height.ensures.rows c.new-ordered.ensures c.with_optional_metadata.ensures c.into_arrays_and_metadata-parts.ensures.custom)) new

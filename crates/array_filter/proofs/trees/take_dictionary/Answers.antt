use Rattle.std.proofs.Common.{◌∙◌, ap, length}
use Rattle.std.specs.Option.{option_map}
use Rattle.arrow_types.specs.KindOf.{kind_of}
use Rattle.arrow_arrays.specs.Heads.{indexed}
use Rattle.arrow_arrays.specs.KeysOf.{index_in, indexed_by, key_validity_in, keys_in}
use Rattle.arrow_arrays.specs.Parts.{forest, fault_in, nested}
use Rattle.arrow_arrays.specs.PartsOf.{forest_of}
use Rattle.array_filter.specs.Rows.{taken}
use Rattle.array_filter.specs.Runs.{rows_in_runs}
use Rattle.array_filter.specs.Taken.{indexed_taken, rows_taken}
use Rattle.array_filter.proofs.Made.{fine, indexed_same, nested_same, refused}
use Rattle.array_filter.proofs.RunLaws.{climb_below}
use Rattle.array_filter.proofs.RunSteps.{climb_as}
use Rattle.array_filter.proofs.trees.take_dictionary.Goals as goal

pub take_keys-requires : goal.take_keys-requires
take_keys-requires c = climb_as c.args.runs.now (length c.args.dictionary.now.head.keys) (length (keys_in c.keys.result.now)) (ap length c.keys.ensures.keys) c.requires

pub unreachable-requires : goal.unreachable-requires
unreachable-requires c =
    let d = c.args.dictionary.now.head in
    let cs = c.args.dictionary.now.children in
    let rows = rows_in_runs c.args.runs.now in
    let p = nested (indexed d) cs in
    refused fault_in (nested (indexed (indexed_by (kind_of c.in_ok-dtype.dtype) c.in_ok-keys.keys)) (forest_of c.in_ok-parts.parts.items)) (rows_taken rows p) c.in-Err.field-0
    (nested_same (indexed (indexed_by (kind_of c.in_ok-dtype.dtype) c.in_ok-keys.keys)) (indexed (indexed_taken rows d)) (forest_of c.in_ok-parts.parts.items) cs
    (ap indexed (indexed_same (kind_of c.in_ok-dtype.dtype) d.kind (index_in c.in_ok-keys.keys) d.index (keys_in c.in_ok-keys.keys) (taken rows d.keys) (key_validity_in c.in_ok-keys.keys) (option_map (taken rows) d.validity)
    (c.in_ok-dtype.ensures ∙ c.dtype.ensures) (c.in_ok-keys.ensures.index ∙ c.keys.ensures.index) (c.in_ok-keys.ensures.keys ∙ ap (taken rows) c.keys.ensures.keys)
    (c.in_ok-keys.ensures.validity ∙ ap (option_map (taken rows)) c.keys.ensures.validity)))
    (ap forest c.in_ok-parts.ensures ∙ c.parts.ensures))
    (fine rows p c.len-held.ensures.sound (climb_below 0 c.args.runs.now (length d.keys) c.requires))
    c.in-Err.ensures.err

pub returns : goal.returns
returns c =
    let d = c.args.dictionary.now.head in
    let cs = c.args.dictionary.now.children in
    let rows = rows_in_runs c.args.runs.now in
    ap (λ a. nested (indexed a.head) a.children) c.in-Ok.ensures.ok
    ∙ nested_same (indexed (indexed_by (kind_of c.in_ok-dtype.dtype) c.in_ok-keys.keys)) (indexed (indexed_taken rows d)) (forest_of c.in_ok-parts.parts.items) cs
    (ap indexed (indexed_same (kind_of c.in_ok-dtype.dtype) d.kind (index_in c.in_ok-keys.keys) d.index (keys_in c.in_ok-keys.keys) (taken rows d.keys) (key_validity_in c.in_ok-keys.keys) (option_map (taken rows) d.validity)
    (c.in_ok-dtype.ensures ∙ c.dtype.ensures) (c.in_ok-keys.ensures.index ∙ c.keys.ensures.index) (c.in_ok-keys.ensures.keys ∙ ap (taken rows) c.keys.ensures.keys)
    (c.in_ok-keys.ensures.validity ∙ ap (option_map (taken rows)) c.keys.ensures.validity)))
    (ap forest c.in_ok-parts.ensures ∙ c.parts.ensures)

use Rattle.std.proofs.Common.{◌≡◌, inr, Some, None, ap, ◌∙◌, subst, to_z, of_z, w64}
use Rattle.std.proofs.lemmas.Int.{to_z-of_z}
use Rattle.arrow_types.specs.KindOf.{kind_of}
use Rattle.arrow_arrays.specs.Heads.{indexed}
use Rattle.arrow_arrays.specs.KeysOf.{indexed_by}
use Rattle.arrow_arrays.specs.Parts.{nested, fault_in}
use Rattle.arrow_arrays.specs.PartsOf.{parts_of, forest_of}
use Rattle.arrow_arrays.specs.declared.array.Array.TheVariants as arrays
use Rattle.arrow_arrays.specs.declared.array.DictionaryArray.{DictionaryArray}
use Rattle.ipc_read_laws.specs.Laws.{key_refusal}
use Rattle.ipc_read.proofs.KeysRead.{only_key}
use Rattle.ipc_read.proofs.dictionaries.make_dictionary.Goals as goal

pub returns-in-Ok-clause-parts : goal.returns-in-Ok-clause-parts
returns-in-Ok-clause-parts c = ap (λ (x : DictionaryArray). parts_of (arrays.Dictionary x)) c.in-Ok.ensures.ok ∙ ap (λ k. nested (indexed (indexed_by k c.args.keys)) (forest_of c.args.parts.items)) c.in_ok-dtype.ensures

pub returns-in-Ok-clause-fine : goal.returns-in-Ok-clause-fine
returns-in-Ok-clause-fine c = subst (λ k. fault_in (nested (indexed (indexed_by k c.args.keys)) (forest_of c.args.parts.items)) ≡ None) c.in_ok-dtype.ensures c.in-Ok.ensures.sound

pub returns-in-Err-clause-err : goal.returns-in-Err-clause-err
returns-in-Err-clause-err c =
    let e : to_z w64 (of_z w64 c.args.id) ≡ c.args.id = to_z-of_z w64 c.args.id c.ranges.id in
    let d = indexed_by (kind_of c.args.dtype.now) c.args.keys in
    let cs = forest_of c.args.parts.items in
    let f : fault_in (nested (indexed d) cs) ≡ Some c.in-Err.field-0 = subst (λ k. fault_in (nested (indexed (indexed_by k c.args.keys)) cs) ≡ Some c.in-Err.field-0) c.in_ok-dtype.ensures c.in-Err.ensures.err in
    inr (c.key_refusal.ensures ∙ ap (key_refusal c.args.is_absent) e, f ∙ ap Some (only_key d cs c.in-Err.field-0 c.requires.keys c.requires.values c.validity-validity.ensures.rows c.requires.sound f))

use Rattle.std.proofs.Common.{◌≡◌, ◌↔◌, IsTrue, IfSome, true, ap, sym, ◌∙◌, subst, to_z, of_z, w64}
use Rattle.std.proofs.lemmas.Int.{to_z-of_z}
use Rattle.arrow_types.specs.KindOf.{kind_of}
use Rattle.arrow_arrays.specs.Heads.{each_of}
use Rattle.arrow_arrays.specs.Parts.{kinds_each}
use Rattle.arrow_arrays.specs.PartsOf.{forest_of}
use Rattle.ipc_read_laws.specs.Held.{HasKind}
use Rattle.ipc_read_laws.specs.PlainKinds.{plain_kind}
use Rattle.ipc_read_laws.proofs.PlainTypes.{plain_of}
use Rattle.ipc_read.specs.Held.{held_in}
use Rattle.ipc_read.proofs.HeldKinds.{parts_told, none_told}
use Rattle.ipc_read.proofs.held.are_values.Goals as goal

pub returns-in-Some : goal.returns-in-Some
returns-in-Some c =
    let i : to_z w64 (of_z w64 c.args.id) ≡ c.args.id = to_z-of_z w64 c.args.id c.ranges.id in
    let e = c.are_of_type.ensures ∙ ap (λ k. each_of k (kinds_each (forest_of c.as_slice.result.now))) (sym (plain_of c.args.values.now)) ∙ ap (λ xs. each_of (plain_kind (kind_of c.args.values.now)) (kinds_each (forest_of xs))) c.as_slice.ensures.value in
    subst (λ z. IsTrue c.are_of_type.result ↔ IfSome (held_in c.args.dictionaries.now z) (HasKind (kind_of c.args.values.now))) i (parts_told (kind_of c.args.values.now) _ c.in-Some.parts.now c.are_of_type.result c.in-Some.ensures.value e)

pub returns-in-None : goal.returns-in-None
returns-in-None c =
    let i : to_z w64 (of_z w64 c.args.id) ≡ c.args.id = to_z-of_z w64 c.args.id c.ranges.id in
    subst (λ z. IsTrue true ↔ IfSome (held_in c.args.dictionaries.now z) (HasKind (kind_of c.args.values.now))) i (none_told (kind_of c.args.values.now) _ c.in-None.ensures.value)

use Rattle.std.proofs.Common.{◌≡◌, ◌∙◌, None, ap, arith}
use Rattle.std.proofs.lemmas.Grind.{common_steps}
use Rattle.arrow_types.specs.KindOf.{kind_of}
use Rattle.arrow_spec.specs.Kinds.{small}
use Rattle.arrow_arrays.specs.Heads.{mapped}
use Rattle.arrow_arrays.specs.Parts.{fault_in, nested}
use Rattle.arrow_arrays.specs.PartsOf.{only}
use Rattle.arrow_arrays.specs.declared.array.MapArray.{MapArray}
use Rattle.ipc_unify.proofs.Tops.{mapped_by}
use Rattle.ipc_unify.proofs.over.map_over.Goals as goal

pub unreachable-requires : goal.unreachable-requires
unreachable-requires c =
    let top = mapped_by c.args.map.now.head (kind_of c.in_ok-dtype.dtype) c.in_ok-offsets.offsets c.in_ok-validity.validity (only c.args.field) c.requires (c.in_ok-dtype.ensures ∙ c.dtype.ensures) (c.in_ok-offsets.ensures ∙ c.offsets.ensures) (c.in_ok-validity.ensures ∙ c.validity.ensures.bits) in
    let sound : fault_in (nested (mapped (record { kind = kind_of c.in_ok-dtype.dtype; width = small; offsets = c.in_ok-offsets.offsets; validity = c.in_ok-validity.validity })) (only c.args.field)) ≡ None = ap (λ l. fault_in (nested (mapped l) (only c.args.field))) top ∙ c.requires in
    grind (arith, common_steps)

pub returns-in-Ok-clause-parts : goal.returns-in-Ok-clause-parts
returns-in-Ok-clause-parts c =
    let top = mapped_by c.args.map.now.head (kind_of c.in_ok-dtype.dtype) c.in_ok-offsets.offsets c.in_ok-validity.validity (only c.args.field) c.requires (c.in_ok-dtype.ensures ∙ c.dtype.ensures) (c.in_ok-offsets.ensures ∙ c.offsets.ensures) (c.in_ok-validity.ensures ∙ c.validity.ensures.bits) in
    ap (λ (a : MapArray). nested (mapped a.head) a.children) c.in-Ok.ensures.ok ∙ ap (λ l. nested (mapped l) (only c.args.field)) top

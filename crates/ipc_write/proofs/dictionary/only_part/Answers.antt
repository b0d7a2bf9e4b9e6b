use Rattle.std.proofs.Common.{◌≡◌, None, Some, sym, ap, ◌∙◌}
use Rattle.std.specs.Prelude.{slice_get}
use Rattle.std.specs.Option.{option_copied}
use Rattle.arrow_arrays.specs.Heads.{indexed}
use Rattle.arrow_arrays.specs.Parts.{nested}
use Rattle.ipc_write.specs.Additions.{first_or}
use Rattle.ipc_write.proofs.Additions.{first_part, not_none}
use Rattle.ipc_write.proofs.dictionary.only_part.Goals as goal

pub returns : goal.returns
returns c =
    let own = nested (indexed c.args.array.now.head) c.args.array.now.children in
    let at : slice_get c.parts.result.now 0 ≡ Some c.in-Some.values.now = sym c.first.ensures.value ∙ ap option_copied c.in-Some.is in
    first_part own c.parts.result.now c.in-Some.values.now at ∙ ap (first_or own) c.parts.ensures

pub unreachable-requires : goal.unreachable-requires
unreachable-requires c =
    let at : slice_get c.parts.result.now 0 ≡ None = sym c.first.ensures.value ∙ ap option_copied c.in-None.is in
    not_none c.parts.result.now c.args.array.now.children at c.parts.ensures c.requires

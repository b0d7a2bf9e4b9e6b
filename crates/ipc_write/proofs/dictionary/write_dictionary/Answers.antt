use Rattle.std.proofs.Common.{rules, subst, sym}
use Rattle.arrow_spec.specs.Flat.{order_by}
use Rattle.arrow_arrays.specs.Heads.{indexed}
use Rattle.arrow_arrays.specs.Parts.{nested}
use Rattle.ipc_write_arrays.specs.Pieces.{IsMeant}
use Rattle.ipc_write.specs.Additions.{dictionary_written}
use Rattle.ipc_write.proofs.dictionary.write_dictionary.Goals as goal

pub returns-then-write_keys-clause-means : goal.returns-then-write_keys-clause-means
returns-then-write_keys-clause-means c =
    let own = nested (indexed c.args.array.now.head) c.args.array.now.children in
    let means : IsMeant (order_by c.args.is_little_endian) own = search rules in
    subst (λ b. IsMeant (order_by c.args.is_little_endian) (dictionary_written b own)) (sym c.if-write_keys.true) means

use Rattle.std.proofs.Common.{◌≡◌, ◌∙◌, refl, sym, arith}
use Rattle.arrow_arrays.proofs.SameBatches.{batches_same}
use Rattle.arrow_arrays.proofs.same.is_same_batch.Goals as goal

pub returns-then-eq : goal.returns-then-eq
returns-then-eq c =
    let a = c.args.a.now in
    let b = c.args.b.now in
    let height : a.height ≡ b.height = omega arith in
    let told : c.deref.result.now ≡ c.deref-2.result.now = c.eq.ensures.same.0 c.if-eq.true in
    let schema : a.schema ≡ b.schema = cc in
    let custom : a.custom ≡ b.custom = sym c.custom_metadata.ensures.pairs ∙ c.if-not-may_be_same_pairs.ensures.0 refl ∙ c.custom_metadata-2.ensures.pairs in
    batches_same c.are_same_arrays.result a b c.arrays.result.now c.arrays-then-eq.result.now height schema custom c.arrays.ensures c.arrays-then-eq.ensures c.are_same_arrays.ensures

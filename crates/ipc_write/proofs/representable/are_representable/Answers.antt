use Rattle.std.proofs.Common.{◌≡◌, ℕ, ◌+◌, ◌<◌, ◌&&◌, List, drop, length, get_or, sym, ap, ◌∙◌, arith}
use Rattle.arrow_arrays.specs.Parts.{kind_in}
use Rattle.arrow_arrays.specs.PartsOf.{forest_of, parts_of}
use Rattle.arrow_arrays.specs.declared.array.Array.{Array}
use Rattle.ipc_fields.proofs.Steps.{drop_item}
use Rattle.arrow_arrays.specs.Columns.{columns_of}
use Rattle.ipc_fields.specs.Representable.{is_representable, all_representable}
use Rattle.ipc_write.proofs.representable.are_representable.Goals as goal

-- the first of some columns, and the others
column_at : (xs : List Array) (i : ℕ) (x : Array) → i < length xs → x ≡ get_or xs i x → all_representable (columns_of (forest_of (drop i xs))) ≡ (is_representable (kind_in (parts_of x)) && all_representable (columns_of (forest_of (drop (i + 1) xs))))
column_at xs i x h e = ap (λ ys. all_representable (columns_of (forest_of ys))) (drop_item xs i x x h e)

pub returns-then-not-is_representable : goal.returns-then-not-is_representable
returns-then-not-is_representable c =
    let x = c.array-item.result in
    let i = c.loop-array.array-index in
    let xs = c.args.arrays.now in
    let rest = all_representable (columns_of (forest_of (drop (i + 1) xs))) in
    sym (sym c.loop-array.invariant ∙ column_at xs i x (omega arith) c.array-item.is ∙ ap (λ k. is_representable k && rest) (sym c.dtype.ensures) ∙ ap (λ b. b && rest) (sym c.is_representable.ensures ∙ c.if-not-is_representable.true))

pub loop-array-preserved : goal.loop-array-preserved
loop-array-preserved c =
    let x = c.array-item.result in
    let i = c.loop-array.array-index in
    let xs = c.args.arrays.now in
    let rest = all_representable (columns_of (forest_of (drop (i + 1) xs))) in
    sym (column_at xs i x (omega arith) c.array-item.is ∙ ap (λ k. is_representable k && rest) (sym c.dtype.ensures) ∙ ap (λ b. b && rest) (sym c.is_representable.ensures ∙ c.if-not-is_representable.false)) ∙ c.loop-array.invariant

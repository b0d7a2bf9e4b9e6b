use Rattle.std.proofs.Common.{ℕ, Bool, length, ◌&&◌, ◌∙◌, sym, ap, arith}
use Rattle.std.specs.Prelude.{not}
use Rattle.arrow_buffers.specs.Rows.{is_valid}
use Rattle.arrow_buffers.proofs.Rows.{some_at}
use Rattle.arrow_arrays.specs.Heads.{is_bad_key, number_at}
use Rattle.arrow_arrays.specs.KeysOf.{keys_in, key_validity_in}
use Rattle.arrow_arrays.proofs.dictionary.have_keys.Goals as goal

pub returns-then-is_bad_row : goal.returns-then-is_bad_row
returns-then-is_bad_row c =
    let keys = keys_in c.args.keys.now in
    let bad : ℕ → Bool = λ row. is_valid (key_validity_in c.args.keys.now) row && is_bad_key c.args.held (number_at keys row) in
    ap not (sym (some_at bad (length keys) c.loop-row.row (omega arith) (sym c.is_bad_row.ensures ∙ c.if-is_bad_row.true)))

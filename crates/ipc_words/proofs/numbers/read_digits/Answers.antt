use Rattle.std.proofs.Common.{◌∙◌, sym, arith}
use Rattle.ipc_words.proofs.DecimalSteps.{past, at_end}
use Rattle.ipc_words.proofs.numbers.read_digits.Goals as goal

pub returns-in_err-checked_mul : goal.returns-in_err-checked_mul
returns-in_err-checked_mul c = c.from_residual.ensures ∙ sym (past c.args.text.now c.loop-digit.digit-index c.loop-digit.number (sym c.is_empty.ensures ∙ c.if-is_empty.false) c.loop-digit-test.true (omega arith) (omega arith) c.loop-digit.invariant.1 (omega arith))

pub returns-in_err-number : goal.returns-in_err-number
returns-in_err-number c = c.from_residual-in_err-number.ensures ∙ sym (past c.args.text.now c.loop-digit.digit-index c.loop-digit.number (sym c.is_empty.ensures ∙ c.if-is_empty.false) c.loop-digit-test.true (omega arith) (omega arith) c.loop-digit.invariant.1 (omega arith))

pub returns : goal.returns
returns c = sym (at_end c.args.text.now c.loop-digit.digit-index c.loop-digit.number (sym c.is_empty.ensures ∙ c.if-is_empty.false) c.loop-digit-test.false c.loop-digit.invariant.1 c.loop-digit.invariant.0)

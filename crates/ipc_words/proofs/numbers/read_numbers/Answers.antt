use Rattle.std.proofs.Common.{◌∙◌, sym, rules}
use Rattle.std.proofs.lemmas.Bool.{ne_eqb}
use Rattle.ipc_words.proofs.ErrorSteps.{handed_on}
use Rattle.ipc_words.proofs.NumberSteps.{all_read, comma_next, last_refused, other_next}
use Rattle.ipc_words.proofs.numbers.read_numbers.Goals as goal
use Rattle.ipc_words.proofs.numbers.read_numbers.Goals.{then-text-i-eq44+in_ok-push_number, else-text-i-eq44}

pub loop-i-preserved : goal.loop-i-preserved
loop-i-preserved c = elim c.if-text-i-eq44.branch [
  | then-text-i-eq44+in_ok-push_number w ↦ let n = w.in_ok-push_number.ensures.asked in
      comma_next c.args.text.now _ _ c.loop-i.start _ c.loop-i.i n.0 c.loop-i.invariant c.loop-i-test.true w.if-text-i-eq44.true n.1 (search rules) w.start-is
  | else-text-i-eq44 w ↦ other_next c.args.text.now _ _ c.loop-i.start _ c.loop-i.i c.loop-i.invariant c.loop-i-test.true (ne_eqb _ _ w.if-text-i-eq44.false) (search rules) w.start-is
]

pub returns-in_err-push_number-2-clause-refused : goal.returns-in_err-push_number-2-clause-refused
returns-in_err-push_number-2-clause-refused c =
    handed_on _ _ _ _ c.from_residual-in_err-push_number-2.ensures.1 (λ e. last_refused c.args.text.now _ c.loop-i.start c.loop-i.i (sym c.is_empty.ensures ∙ c.if-is_empty.false) c.loop-i.auto.i-end c.loop-i-test.false c.loop-i.invariant (c.in_err-push_number-2.ensures.refused e))

pub returns-clause-asked : goal.returns-clause-asked
returns-clause-asked c =
    let n = c.in_ok-push_number-2.ensures.asked in
    all_read c.args.text.now _ _ c.loop-i.start c.loop-i.i n.0 (sym c.is_empty.ensures ∙ c.if-is_empty.false) c.loop-i.auto.i-end c.loop-i-test.false c.loop-i.invariant n.1 n.2

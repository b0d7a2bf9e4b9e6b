use Rattle.std.proofs.Common.{◌≡◌, true, false, length, take, nat_lt, if◌then◌else◌, sym, ap, ◌∙◌, arith}
use Rattle.std.proofs.lemmas.Bool.{lt-ltb, le-ltb}
use Rattle.ipc_dictionaries.specs.declared.comparison.Standing.TheVariants.{Same, Longer, Other}
use Rattle.ipc_dictionaries.specs.Standing.{all_cells, are_same_cells}
use Rattle.ipc_dictionaries.proofs.Places.{cells_told}
use Rattle.ipc_dictionaries.proofs.comparison.by_rows.Goals as goal

pub returns-then-not-begin : goal.returns-then-not-begin
returns-then-not-begin c =
    let old = all_cells c.args.held.now in
    let new = all_cells c.args.parts.now in
    let told : are_same_cells old (take (length old) new) ≡ false = sym (cells_told c.begin.result old (take (length old) new) c.begin.ensures) ∙ c.if-not-begin.true in
    sym (ap (λ b. if b then (if nat_lt (length old) (length new) then Longer (length old) else Same) else Other) told)

pub returns-then-count-rows_of : goal.returns-then-count-rows_of
returns-then-count-rows_of c =
    let old = all_cells c.args.held.now in
    let new = all_cells c.args.parts.now in
    let told : are_same_cells old (take (length old) new) ≡ true = sym (cells_told c.begin.result old (take (length old) new) c.begin.ensures) ∙ c.if-not-begin.false in
    let less : nat_lt (length old) (length new) ≡ true = lt-ltb (length old) (length new) (omega (arith, c.rows_of-count.ensures.cells, c.rows_of.ensures.cells)) in
    ap Longer c.rows_of-count.ensures.cells ∙ sym (ap (λ b. if b then Longer (length old) else Same) less)
    ∙ sym (ap (λ b. if b then (if nat_lt (length old) (length new) then Longer (length old) else Same) else Other) told)

pub returns-else-count-rows_of : goal.returns-else-count-rows_of
returns-else-count-rows_of c =
    let old = all_cells c.args.held.now in
    let new = all_cells c.args.parts.now in
    let told : are_same_cells old (take (length old) new) ≡ true = sym (cells_told c.begin.result old (take (length old) new) c.begin.ensures) ∙ c.if-not-begin.false in
    let less : nat_lt (length old) (length new) ≡ false = le-ltb (length old) (length new) (omega (arith, c.rows_of-count.ensures.cells, c.rows_of.ensures.cells)) in
    sym (ap (λ b. if b then Longer (length old) else Same) less) ∙ sym (ap (λ b. if b then (if nat_lt (length old) (length new) then Longer (length old) else Same) else Other) told)

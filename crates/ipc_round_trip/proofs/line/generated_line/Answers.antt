use Rattle.std.proofs.Common.{length, ◌≡◌, ◌∙◌, rules, pos, ◌/◌, of_z, to_z, w64}
use Rattle.std.proofs.lemmas.Int.{to_z-of_z}
use Rattle.ipc_generate.specs.Table.{generated_table, state}
use Rattle.ipc_round_trip.specs.Line.{RefusesLine}
use Rattle.ipc_round_trip.proofs.Tables.{handed, line_is, not_negative}
use Rattle.ipc_round_trip.proofs.line.generated_line.Goals as goal

pub number_back-requires : goal.number_back-requires
number_back-requires c = (c.args.seed, (c.in_ok-summary.ensures.stream (generated_table c.args.seed) c.in_ok-file.ensures.table).says)

pub returns-in_err-first-clause-refused : goal.returns-in_err-first-clause-refused
returns-in_err-first-clause-refused c =
    handed (RefusesLine c.args.seed) c.from_residual-in_err-first.result c.in_err-first.field-0.0 c.from_residual-in_err-first.ensures.1
    (c.in_err-first.ensures.err c.args.seed (c.in_ok-summary.ensures.stream (generated_table c.args.seed) c.in_ok-file.ensures.table).says)

pub line_of-requires : goal.line_of-requires
line_of-requires c =
    let f : c.in_ok-first.first ≡ pos (state c.args.seed 2 / 2) = c.in_ok-first.ensures.number c.args.seed (c.in_ok-summary.ensures.stream (generated_table c.args.seed) c.in_ok-file.ensures.table).says in
    not_negative (to_z w64 (of_z w64 c.in_ok-first.first)) (state c.args.seed 2 / 2) (to_z-of_z w64 c.in_ok-first.first (search rules) ∙ f)

pub returns-clause-line : goal.returns-clause-line
returns-clause-line c =
    let w = c.in_ok-summary.ensures.stream (generated_table c.args.seed) c.in_ok-file.ensures.table in
    let f : c.in_ok-first.first ≡ pos (state c.args.seed 2 / 2) = c.in_ok-first.ensures.number c.args.seed w.says in
    let n : c.len-source.result ≡ length c.in_ok-file.file.items = search rules in
    line_is c.args.seed c.len-source.result c.in_ok-file.file.items c.in_ok-summary.field-0.stream.items c.in_ok-line_of.field-0.items c.in_ok-summary.field-0.summary (to_z w64 (of_z w64 c.in_ok-first.first))
    c.in_ok-file.ensures.table n w (to_z-of_z w64 c.in_ok-first.first (search rules) ∙ f) c.in_ok-line_of.ensures

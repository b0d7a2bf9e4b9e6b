use Rattle.std.proofs.Common.{◌≡◌, ◌∙◌, rules, Some, None, ℕ, pos, ◌/◌, of_z, to_z, w64}
use Rattle.std.proofs.lemmas.Int.{to_z-of_z}
use Rattle.arrow_spec.specs.Streams.{stream_table}
use Rattle.arrow_arrays.specs.PartsOf.{parts_of}
use Rattle.ipc_generate.specs.Table.{generated_table, state}
use Rattle.ipc_round_trip.specs.Line.{RefusesLine}
use Rattle.ipc_round_trip.proofs.Tables.{first_read, first_there, handed, number_of_first, read_refused}
use Rattle.ipc_round_trip.proofs.line.number_back.Goals as goal

pub returns-in_err-stream-clause-err : goal.returns-in_err-stream-clause-err
returns-in_err-stream-clause-err c =
    handed (λ e. (seed : ℕ) → stream_table c.args.stream.items None ≡ Some (generated_table seed) → RefusesLine seed e) c.from_residual.result c.in_err-stream.field-0.0 c.from_residual.ensures.1
    (λ seed h. read_refused _ _ seed c.args.stream.items c.in_err-stream.field-0.0 h c.in_err-stream.ensures.refused c.in_err-stream.ensures.cause)

pub number_in-requires-clause-kind : goal.number_in-requires-clause-kind
number_in-requires-clause-kind c = (first_read c.requires.0 c.args.stream.items c.in_ok-stream.stream _ c.requires.1 c.in_ok-stream.ensures.whole c.in-Some.ensures).kind

pub number_in-requires-clause-there : goal.number_in-requires-clause-there
number_in-requires-clause-there c =
    (pos (state c.requires.0 2 / 2), (first_read c.requires.0 c.args.stream.items c.in_ok-stream.stream _ c.requires.1 c.in_ok-stream.ensures.whole c.in-Some.ensures).cell)

pub unreachable-requires : goal.unreachable-requires
unreachable-requires c = first_there c.requires.0 c.args.stream.items c.in_ok-stream.stream c.requires.1 c.in_ok-stream.ensures.whole c.in-None.ensures

pub returns-clause-number : goal.returns-clause-number
returns-clause-number c seed h =
    let e : to_z w64 (of_z w64 c.number_in.result) ≡ c.number_in.result = to_z-of_z w64 c.number_in.result (search rules) in
    let first = first_read seed c.args.stream.items c.in_ok-stream.stream (parts_of c.in-Some.column.now) h c.in_ok-stream.ensures.whole c.in-Some.ensures in
    e ∙ number_of_first seed (parts_of c.in-Some.column.now) c.number_in.result first c.number_in.ensures

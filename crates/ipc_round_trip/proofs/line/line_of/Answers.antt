use Rattle.std.proofs.Common.{◌∙◌, ap}
use Rattle.ipc_round_trip.proofs.Tables.{line_text}
use Rattle.ipc_round_trip.proofs.line.line_of.Goals as goal

pub returns : goal.returns
returns c = line_text _ _ _ _ c.args.first c.into_bytes.result.items c.ranges.first c.requires (ap (λ v. v.items) c.into_bytes.ensures.value ∙ c.in_ok-line.ensures.ok)

use Rattle.ipc_append.proofs.Handed.{refused}
use Rattle.ipc_bodies.specs.Puts.{moved}
use Rattle.ipc_to_file.proofs.Puts.{sink_same}
use Rattle.ipc_to_file.proofs.Refusals.{put_added, put_cause, put_counts}
use Rattle.ipc_to_file.proofs.conversion.put_hex_text.Goals as goal

pub returns-in_err-scratch-clause-cause : goal.returns-in_err-scratch-clause-cause
returns-in_err-scratch-clause-cause g c = refused _ c.from_residual.result _ c.from_residual.ensures.1 tt

pub returns-in_err-scratch-clause-sink : goal.returns-in_err-scratch-clause-sink
returns-in_err-scratch-clause-sink g c = sink_same _ _ _ _

pub returns-clause-added : goal.returns-clause-added
returns-clause-added g c = put_added (moved _ _ _ _ _ _) c.put_bytes_as.result _ c.put_bytes_as.ensures.puts

pub returns-clause-cause : goal.returns-clause-cause
returns-clause-cause g c = put_cause (moved _ _ _ _ _ _) c.put_bytes_as.result _ c.put_bytes_as.ensures.puts

pub returns-clause-sink : goal.returns-clause-sink
returns-clause-sink g c =
    let counts = put_counts (moved _ _ _ _ _ _) c.put_bytes_as.result _ c.put_bytes_as.ensures.puts in
    record { faults = counts.faults; wants = counts.wants; references = c.put_bytes_as.ensures.same_references }

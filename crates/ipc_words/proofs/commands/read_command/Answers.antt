use Rattle.std.proofs.Common.{rules}
use Rattle.ipc_words.specs.Requests.{asked_by, commands}
use Rattle.ipc_words.proofs.CommandNames.{unknown}
use Rattle.ipc_words.proofs.commands.read_command.Goals as goal

pub returns-in-stream : goal.returns-in-stream
unfolding asked_by commands
returns-in-stream c = record { asked = rw c.in-stream.is c.read_stream.ensures.asked; refused = rw c.in-stream.is c.read_stream.ensures.refused }

pub returns-in-schema-clause-asked : goal.returns-in-schema-clause-asked
unfolding asked_by commands
returns-in-schema-clause-asked c = rw c.in-schema.is c.read_schema.ensures

pub returns-in-rows-clause-asked : goal.returns-in-rows-clause-asked
unfolding asked_by commands
returns-in-rows-clause-asked c = rw c.in-rows.is c.read_rows.ensures

pub returns-in-append : goal.returns-in-append
unfolding asked_by commands
returns-in-append c = record { asked = rw c.in-append.is c.read_append.ensures.asked; refused = rw c.in-append.is c.read_append.ensures.refused }

pub returns-in-gen : goal.returns-in-gen
unfolding asked_by commands
returns-in-gen c = record { asked = rw c.in-gen.is c.read_gen.ensures.asked; refused = rw c.in-gen.is c.read_gen.ensures.refused }

pub returns-in-cat : goal.returns-in-cat
unfolding asked_by commands
returns-in-cat c = record { asked = rw c.in-cat.is c.read_cat.ensures.asked; refused = rw c.in-cat.is c.read_cat.ensures.refused }

pub returns-in-file-clause-asked : goal.returns-in-file-clause-asked
unfolding asked_by commands
returns-in-file-clause-asked c = rw c.in-file.is c.read_file.ensures

pub returns-in-scan : goal.returns-in-scan
unfolding asked_by commands
returns-in-scan c = record { asked = rw c.in-scan.is c.read_scan.ensures.asked; refused = rw c.in-scan.is c.read_scan.ensures.refused }

pub returns-in-csv : goal.returns-in-csv
unfolding asked_by commands
returns-in-csv c = record { asked = rw c.in-csv.is c.read_csv.ensures.asked; refused = rw c.in-csv.is c.read_csv.ensures.refused }

pub returns-in-log : goal.returns-in-log
unfolding asked_by commands
returns-in-log c = record { asked = rw c.in-log.is c.read_log.ensures.asked; refused = rw c.in-log.is c.read_log.ensures.refused }

pub returns-in_default-clause-refused : goal.returns-in_default-clause-refused
unfolding commands
returns-in_default-clause-refused c = λ is. unknown _ _ (search rules)

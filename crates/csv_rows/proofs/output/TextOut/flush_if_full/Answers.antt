use Rattle.csv_rows.proofs.OutputParts.{puts_written}
use Rattle.csv_rows.proofs.output.TextOut.flush_if_full.Goals as goal

pub returns-clause-writes : goal.returns-clause-writes
returns-clause-writes g c = λ start text h. puts_written start (g.W.Sink.written c.flush.new.sink) c.flush.new.self text c.flush.result (c.flush.ensures.puts start text h)

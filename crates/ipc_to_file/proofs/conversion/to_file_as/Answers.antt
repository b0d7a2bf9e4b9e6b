use Rattle.std.proofs.Common.{IfOk, IfSome, subst, sym}
use Rattle.ipc_bodies.specs.Encodings.{text_of}
use Rattle.ipc_to_file.specs.Files.{MakesFile}
use Rattle.ipc_to_file.proofs.conversion.to_file_as.Goals as goal

pub returns-in-Bytes-clause-whole : goal.returns-in-Bytes-clause-whole
returns-in-Bytes-clause-whole g c =
    subst (λ x. IfOk c.to_file.result (λ s. IfSome (g.F.Feed.rest c.args.feed.now) (λ b. MakesFile s b (text_of x) (g.W.Sink.written c.args.sink.now) (g.W.Sink.written c.to_file.new.sink)))) (sym c.in-Bytes.is) c.to_file.ensures.whole

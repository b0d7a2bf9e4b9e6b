use Rattle.std.proofs.Common.{◌≡◌, Ok, Err, refl, subst}
use Rattle.std.specs.Prelude.{IfSome}
use Rattle.ipc_bodies.specs.Puts.{moved}
use Rattle.ipc_files.specs.Selections.{HasFields}
use Rattle.ipc_files.specs.Below.{held_in}
use Rattle.ipc_files.proofs.Errors.{is_err}
use Rattle.laws_walk.specs.Places.{schema_of_reader}
use Rattle.ipc_scan.specs.Sends.{BlockScanned}
use Rattle.ipc_scan.proofs.ScanCalls.{next_fetched, next_not_written, next_passed, next_refused, next_written, write_cause}
use Rattle.ipc_scan.proofs.send.scan_next.Goals as goal

pub returns-in_err-read_block-clause-sends : goal.returns-in_err-read_block-clause-sends
returns-in_err-read_block-clause-sends g c =
    let e : c.from_residual.result ≡ Err c.in_err-read_block.field-0.0 = is_err _ _ _ c.from_residual.ensures.0 c.from_residual.ensures.1 (λ f h. h) in
    next_refused (g.S.Source.content c.args.source.now) c.args.scanner.now c.args.number c.args.dictionaries.now c.args.writer.now (g.W.Sink.written c.args.sink.now) c.requires.within c.requires.uses c.requires.writer
    c.from_residual.result c.in_err-read_block.field-0.0 c.args.writer.now _ _ (g.W.Sink.wants c.args.sink.now) (g.W.Sink.wants c.args.sink.now) e c.in_err-read_block.ensures.cause c.in_err-read_block.ensures.reads

pub returns-in-None-clause-sends : goal.returns-in-None-clause-sends
returns-in-None-clause-sends g c =
    let reads = subst (λ o. BlockScanned (g.S.Source.content c.args.source.now) c.args.scanner.now (held_in c.args.dictionaries.now) c.args.number (Ok o)) c.in-None.is c.in_ok-read_block.ensures.reads in
    next_passed (g.S.Source.content c.args.source.now) c.args.scanner.now c.args.number c.args.dictionaries.now c.args.writer.now (g.W.Sink.written c.args.sink.now) c.requires.within c.requires.uses c.requires.writer (g.W.Sink.wants c.args.sink.now) (g.W.Sink.wants c.args.sink.now) reads

pub returns-in_ok-write-in-Some-clause-sends : goal.returns-in_ok-write-in-Some-clause-sends
returns-in_ok-write-in-Some-clause-sends g c =
    let m = moved (g.W.Sink.written c.args.sink.now) (g.W.Sink.written c.write.new.sink) (g.W.Sink.faults c.args.sink.now) (g.W.Sink.faults c.write.new.sink) (g.W.Sink.wants c.args.sink.now) (g.W.Sink.wants c.write.new.sink) in
    let reads = subst (λ o. BlockScanned (g.S.Source.content c.args.source.now) c.args.scanner.now (held_in c.args.dictionaries.now) c.args.number (Ok o)) c.in-Some.is c.in_ok-read_block.ensures.reads in
    next_written (g.S.Source.content c.args.source.now) c.args.scanner.now c.args.number c.args.dictionaries.now c.args.writer.now (g.W.Sink.written c.args.sink.now) c.requires.within c.requires.uses c.requires.writer
    c.in-Some.batch m refl c.height-rows.ensures.sound c.height-rows.result c.write.new.self (g.W.Sink.wants c.args.sink.now) (g.W.Sink.wants c.write.new.sink) c.height-rows.ensures.rows reads c.in_ok-write-in-Some.ensures.writes

pub returns-in_err-write-in-Some-clause-sends : goal.returns-in_err-write-in-Some-clause-sends
returns-in_err-write-in-Some-clause-sends g c =
    let m = moved (g.W.Sink.written c.args.sink.now) (g.W.Sink.written c.write.new.sink) (g.W.Sink.faults c.args.sink.now) (g.W.Sink.faults c.write.new.sink) (g.W.Sink.wants c.args.sink.now) (g.W.Sink.wants c.write.new.sink) in
    let e : c.from_residual-in_err-write-in-Some.result ≡ Err c.in_err-write-in-Some.field-0.0 = is_err _ _ _ c.from_residual-in_err-write-in-Some.ensures.0 c.from_residual-in_err-write-in-Some.ensures.1 (λ f h. h) in
    let reads = subst (λ o. BlockScanned (g.S.Source.content c.args.source.now) c.args.scanner.now (held_in c.args.dictionaries.now) c.args.number (Ok o)) c.in-Some.is c.in_ok-read_block.ensures.reads in
    next_not_written (g.S.Source.content c.args.source.now) c.args.scanner.now c.args.number c.args.dictionaries.now c.args.writer.now (g.W.Sink.written c.args.sink.now) c.requires.within c.requires.uses c.requires.writer
    c.in-Some.batch m refl c.height-rows.ensures.sound c.from_residual-in_err-write-in-Some.result c.in_err-write-in-Some.field-0.0 c.write.new.self e reads c.in_err-write-in-Some.ensures.writes

pub returns-in_err-write-in-Some-clause-cause : goal.returns-in_err-write-in-Some-clause-cause
returns-in_err-write-in-Some-clause-cause g c =
    let m = moved (g.W.Sink.written c.args.sink.now) (g.W.Sink.written c.write.new.sink) (g.W.Sink.faults c.args.sink.now) (g.W.Sink.faults c.write.new.sink) (g.W.Sink.wants c.args.sink.now) (g.W.Sink.wants c.write.new.sink) in
    let e : c.from_residual-in_err-write-in-Some.result ≡ Err c.in_err-write-in-Some.field-0.0 = is_err _ _ _ c.from_residual-in_err-write-in-Some.ensures.0 c.from_residual-in_err-write-in-Some.ensures.1 (λ f h. h) in
    let has = subst (λ o. IfSome o (λ y. HasFields y (schema_of_reader c.args.scanner.now.reader))) c.in-Some.is c.in_ok-read_block.ensures.schema in
    write_cause (g.S.Source.content c.args.source.now) c.args.scanner.now c.args.number c.args.dictionaries.now c.args.writer.now (g.W.Sink.written c.args.sink.now) c.requires.within c.requires.uses c.requires.writer
    c.in-Some.batch m refl c.height-rows.ensures.sound c.from_residual-in_err-write-in-Some.result c.in_err-write-in-Some.field-0.0 c.write.new.self _ _ e has c.in_err-write-in-Some.ensures.writes

pub returns-in_err-read_block-clause-fetched : goal.returns-in_err-read_block-clause-fetched
returns-in_err-read_block-clause-fetched g c = next_fetched (g.S.Source.content c.args.source.now) c.args.scanner.now c.args.number c.args.dictionaries.now (g.S.Source.fetched c.args.source.now) (g.S.Source.fetched c.read_block.new.source) c.requires.within c.read_block.ensures.fetched

pub returns-in-None-clause-fetched : goal.returns-in-None-clause-fetched
returns-in-None-clause-fetched g c = next_fetched (g.S.Source.content c.args.source.now) c.args.scanner.now c.args.number c.args.dictionaries.now (g.S.Source.fetched c.args.source.now) (g.S.Source.fetched c.read_block.new.source) c.requires.within c.read_block.ensures.fetched

pub returns-in_ok-write-in-Some-clause-fetched : goal.returns-in_ok-write-in-Some-clause-fetched
returns-in_ok-write-in-Some-clause-fetched g c = next_fetched (g.S.Source.content c.args.source.now) c.args.scanner.now c.args.number c.args.dictionaries.now (g.S.Source.fetched c.args.source.now) (g.S.Source.fetched c.read_block.new.source) c.requires.within c.read_block.ensures.fetched

pub returns-in_err-write-in-Some-clause-fetched : goal.returns-in_err-write-in-Some-clause-fetched
returns-in_err-write-in-Some-clause-fetched g c = next_fetched (g.S.Source.content c.args.source.now) c.args.scanner.now c.args.number c.args.dictionaries.now (g.S.Source.fetched c.args.source.now) (g.S.Source.fetched c.read_block.new.source) c.requires.within c.read_block.ensures.fetched

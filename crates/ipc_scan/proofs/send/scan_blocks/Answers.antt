use Rattle.std.proofs.Common.{◌≡◌, ◌+◌, ◌^◌, ◌<◌, ◌≤◌, ℕ, Option, Ok, Err, length, refl, sym, ap, subst, arith, rules}
use Rattle.std.specs.Prelude.{IfSome}
use Rattle.ipc_files.specs.FileDictionaries.{DictionariesFetched, ReadsDictionaries}
use Rattle.ipc_io.proofs.Kept.{sink_kept_on, source_kept_on}
use Rattle.ipc_files.specs.declared.metadata.FileMetadata.{FileMetadata}
use Rattle.ipc_files.specs.FileViews.{meta_view}
use Rattle.ipc_files.proofs.Errors.{is_err}
use Rattle.laws_walk.specs.Places.{schema_of_reader}
use Rattle.laws_walk.specs.Sends.{IsWriter}
use Rattle.laws_walk.specs.declared.summary.Summary.{Summary}
use Rattle.ipc_scan.specs.Sends.{ScansNext, scanning}
use Rattle.ipc_scan.proofs.AllScans.{ScannedSome, all_fetched, all_scanned, begun, dictionaries_fetched, dictionaries_stop, holds_file, more_fetched, no_more, none_fetched, none_scanned, one_more, refused}
use Rattle.ipc_scan.proofs.ScanCalls.{Told}
use Rattle.ipc_scan.proofs.send.scan_blocks.Goals as goal
use Rattle.ipc_scan.proofs.send.scan_blocks.Goals.{in-Some, in_default}

pub returns-then-is_empty-clause-sends : goal.returns-then-is_empty-clause-sends
returns-then-is_empty-clause-sends g c =
    let none : length c.args.scanner.now.reader.metadata.blocks.items ≤ 0 = search rules in
    none_scanned c.args.scanner.now c.args.writer.now.encoding c.args.writer.now (g.W.Sink.written c.args.sink.now) (g.S.Source.content c.args.source.now) _ (g.W.Sink.wants c.args.sink.now) (g.W.Sink.wants c.args.sink.now) none refl refl

pub returns-then-is_empty-clause-fetched : goal.returns-then-is_empty-clause-fetched
returns-then-is_empty-clause-fetched g c = none_fetched c.args.scanner.now (g.S.Source.content c.args.source.now) (g.S.Source.fetched c.args.source.now)

pub returns-in_err-dictionaries-clause-sends : goal.returns-in_err-dictionaries-clause-sends
returns-in_err-dictionaries-clause-sends g c =
    let e : c.from_residual.result ≡ Err c.in_err-dictionaries.field-0.0 = is_err _ _ _ c.from_residual.ensures.0 c.from_residual.ensures.1 (λ f h. h) in
    let some : 0 < length c.args.scanner.now.reader.metadata.blocks.items = search rules in
    dictionaries_stop c.args.scanner.now c.args.writer.now.encoding c.args.writer.now (g.W.Sink.written c.args.sink.now) (g.S.Source.content c.args.source.now) c.from_residual.result c.in_err-dictionaries.field-0.0 _ _ (g.W.Sink.wants c.args.sink.now) (g.W.Sink.wants c.args.sink.now) e c.in_err-dictionaries.ensures.cause some refl c.requires.writer
    (subst (λ (f : FileMetadata). IfSome (g.S.Source.content c.args.source.now) (λ b. ReadsDictionaries b (meta_view f) f.dictionaries.items (Err c.in_err-dictionaries.field-0.0))) c.metadata-file.ensures c.in_err-dictionaries.ensures.reads)

pub returns-in_err-dictionaries-clause-fetched : goal.returns-in_err-dictionaries-clause-fetched
returns-in_err-dictionaries-clause-fetched g c =
    let some : 0 < length c.args.scanner.now.reader.metadata.blocks.items = search rules in
    all_fetched c.args.scanner.now (g.S.Source.content c.args.source.now) 0 (g.S.Source.fetched c.args.source.now) (g.S.Source.fetched c.read_file_dictionaries.new.source) some
    (dictionaries_fetched c.args.scanner.now (g.S.Source.content c.args.source.now) (g.S.Source.fetched c.args.source.now) (g.S.Source.fetched c.read_file_dictionaries.new.source) some
    (subst (λ (f : FileMetadata). DictionariesFetched (g.S.Source.content c.args.source.now) (meta_view f) (g.S.Source.fetched c.args.source.now) (g.S.Source.fetched c.read_file_dictionaries.new.source)) c.metadata-file.ensures c.read_file_dictionaries.ensures.fetched))

pub loop-number-init : goal.loop-number-init
loop-number-init g c =
    let some : 0 < length c.args.scanner.now.reader.metadata.blocks.items = search rules in
    record {
      sends = begun c.args.scanner.now c.args.writer.now.encoding c.args.writer.now (g.W.Sink.written c.args.sink.now) (g.S.Source.content c.args.source.now) c.in_ok-dictionaries.dictionaries;
      writer = c.requires.writer;
      fetched = dictionaries_fetched c.args.scanner.now (g.S.Source.content c.args.source.now) (g.S.Source.fetched c.args.source.now) (g.S.Source.fetched c.read_file_dictionaries.new.source) some
          (subst (λ (f : FileMetadata). DictionariesFetched (g.S.Source.content c.args.source.now) (meta_view f) (g.S.Source.fetched c.args.source.now) (g.S.Source.fetched c.read_file_dictionaries.new.source)) c.metadata-file.ensures c.read_file_dictionaries.ensures.fetched);
      batches = omega arith;
      rows = omega arith;
      kept = c.read_file_dictionaries.ensures.kept;
      sink = record { faults = omega arith; wants = omega arith; references = refl };
    }

pub returns-in_err-rows-clause-sends : goal.returns-in_err-rows-clause-sends
returns-in_err-rows-clause-sends g c =
    let e : c.from_residual-in_err-rows.result ≡ Err c.in_err-rows.field-0.0 = is_err _ _ _ c.from_residual-in_err-rows.ensures.0 c.from_residual-in_err-rows.ensures.1 (λ f h. h) in
    let holds = holds_file (g.S.Source.content c.args.source.now) c.args.scanner.now.reader.metadata c.in_ok-dictionaries.dictionaries
    (subst (λ (f : FileMetadata). IfSome (g.S.Source.content c.args.source.now) (λ b. ReadsDictionaries b (meta_view f) f.dictionaries.items (Ok c.in_ok-dictionaries.dictionaries))) c.metadata-file.ensures c.in_ok-dictionaries.ensures.reads) in
    refused c.args.scanner.now c.args.writer.now.encoding c.args.writer.now (g.W.Sink.written c.args.sink.now) (g.S.Source.content c.args.source.now) (g.S.Source.content c.loop-number.source) c.in_ok-dictionaries.dictionaries c.loop-number.number c.loop-number.writer c.scan_next.new.writer (g.W.Sink.written c.loop-number.sink) (g.W.Sink.written c.scan_next.new.sink)
    c.loop-number.summary.batches c.loop-number.summary.rows (g.W.Sink.wants c.loop-number.sink) (g.W.Sink.wants c.scan_next.new.sink) c.loop-number.invariant.kept.content c.loop-number.invariant.writer.encoding holds c.loop-number.invariant.sends c.in_err-rows.field-0.0 c.from_residual-in_err-rows.result (g.W.Sink.wants c.args.sink.now) c.loop-number.invariant.sink.wants e c.in_err-rows.ensures.sends

pub returns-in_err-rows-clause-fetched : goal.returns-in_err-rows-clause-fetched
returns-in_err-rows-clause-fetched g c =
    let some : 0 < length c.args.scanner.now.reader.metadata.blocks.items = search rules in
    let holds = holds_file (g.S.Source.content c.args.source.now) c.args.scanner.now.reader.metadata c.in_ok-dictionaries.dictionaries
    (subst (λ (f : FileMetadata). IfSome (g.S.Source.content c.args.source.now) (λ b. ReadsDictionaries b (meta_view f) f.dictionaries.items (Ok c.in_ok-dictionaries.dictionaries))) c.metadata-file.ensures c.in_ok-dictionaries.ensures.reads) in
    all_fetched c.args.scanner.now (g.S.Source.content c.args.source.now) (c.loop-number.number + 1) (g.S.Source.fetched c.args.source.now) (g.S.Source.fetched c.scan_next.new.source) some
    (more_fetched c.args.scanner.now (g.S.Source.content c.args.source.now) (g.S.Source.content c.loop-number.source) c.in_ok-dictionaries.dictionaries c.loop-number.number (g.S.Source.fetched c.args.source.now) (g.S.Source.fetched c.loop-number.source) (g.S.Source.fetched c.scan_next.new.source) c.loop-number.invariant.kept.content holds c.loop-number.invariant.fetched c.scan_next.ensures.fetched)

pub loop-number-preserved : goal.loop-number-preserved
loop-number-preserved g c =
    let holds = holds_file (g.S.Source.content c.args.source.now) c.args.scanner.now.reader.metadata c.in_ok-dictionaries.dictionaries
    (subst (λ (f : FileMetadata). IfSome (g.S.Source.content c.args.source.now) (λ b. ReadsDictionaries b (meta_view f) f.dictionaries.items (Ok c.in_ok-dictionaries.dictionaries))) c.metadata-file.ensures c.in_ok-dictionaries.ensures.reads) in
    record {
      sends = elim c.match-rows.branch [
        | in-Some w ↦ subst (λ (s : Summary). ScannedSome c.args.scanner.now c.args.writer.now.encoding c.args.writer.now (g.W.Sink.written c.args.sink.now) (g.S.Source.content c.args.source.now) c.in_ok-dictionaries.dictionaries (c.loop-number.number + 1) c.scan_next.new.writer (g.W.Sink.written c.scan_next.new.sink) s.batches s.rows) (sym w.summary-is)
            (one_more c.args.scanner.now c.args.writer.now.encoding c.args.writer.now (g.W.Sink.written c.args.sink.now) (g.S.Source.content c.args.source.now) (g.S.Source.content c.loop-number.source) c.in_ok-dictionaries.dictionaries c.loop-number.number c.loop-number.writer c.scan_next.new.writer (g.W.Sink.written c.loop-number.sink) (g.W.Sink.written c.scan_next.new.sink)
            c.loop-number.summary.batches c.loop-number.summary.rows (g.W.Sink.wants c.loop-number.sink) (g.W.Sink.wants c.scan_next.new.sink) c.loop-number.invariant.kept.content c.loop-number.invariant.writer.encoding holds c.loop-number.invariant.sends w.in-Some.rows
            (subst (λ o. Told (g.S.Source.content c.loop-number.source) c.args.scanner.now c.loop-number.number c.in_ok-dictionaries.dictionaries c.loop-number.writer (g.W.Sink.written c.loop-number.sink) (λ x bytes bs. ScansNext (Ok o) (scanning c.args.scanner.now.filter x) c.loop-number.number c.in_ok-dictionaries.dictionaries c.scan_next.new.writer (g.W.Sink.written c.scan_next.new.sink) bytes bs (g.W.Sink.wants c.loop-number.sink) (g.W.Sink.wants c.scan_next.new.sink))) w.in-Some.is c.in_ok-rows.ensures.sends))
        | in_default w ↦ subst (λ (s : Summary). ScannedSome c.args.scanner.now c.args.writer.now.encoding c.args.writer.now (g.W.Sink.written c.args.sink.now) (g.S.Source.content c.args.source.now) c.in_ok-dictionaries.dictionaries (c.loop-number.number + 1) c.scan_next.new.writer (g.W.Sink.written c.scan_next.new.sink) s.batches s.rows) (sym w.summary-is)
            (no_more c.args.scanner.now c.args.writer.now.encoding c.args.writer.now (g.W.Sink.written c.args.sink.now) (g.S.Source.content c.args.source.now) (g.S.Source.content c.loop-number.source) c.in_ok-dictionaries.dictionaries c.loop-number.number c.loop-number.writer c.scan_next.new.writer (g.W.Sink.written c.loop-number.sink) (g.W.Sink.written c.scan_next.new.sink)
            c.loop-number.summary.batches c.loop-number.summary.rows (g.W.Sink.wants c.loop-number.sink) (g.W.Sink.wants c.scan_next.new.sink) c.loop-number.invariant.kept.content c.loop-number.invariant.writer.encoding holds c.loop-number.invariant.sends
            (subst (λ o. Told (g.S.Source.content c.loop-number.source) c.args.scanner.now c.loop-number.number c.in_ok-dictionaries.dictionaries c.loop-number.writer (g.W.Sink.written c.loop-number.sink) (λ x bytes bs. ScansNext (Ok o) (scanning c.args.scanner.now.filter x) c.loop-number.number c.in_ok-dictionaries.dictionaries c.scan_next.new.writer (g.W.Sink.written c.scan_next.new.sink) bytes bs (g.W.Sink.wants c.loop-number.sink) (g.W.Sink.wants c.scan_next.new.sink))) w.in_default.is c.in_ok-rows.ensures.sends))
      ];
      writer = subst (λ e. IsWriter (schema_of_reader c.args.scanner.now.reader) e c.scan_next.new.writer) c.loop-number.invariant.writer.encoding c.in_ok-rows.ensures.writer;
      fetched = more_fetched c.args.scanner.now (g.S.Source.content c.args.source.now) (g.S.Source.content c.loop-number.source) c.in_ok-dictionaries.dictionaries c.loop-number.number (g.S.Source.fetched c.args.source.now) (g.S.Source.fetched c.loop-number.source) (g.S.Source.fetched c.scan_next.new.source) c.loop-number.invariant.kept.content holds c.loop-number.invariant.fetched c.scan_next.ensures.fetched;
      batches = elim c.match-rows.branch [ in-Some w ↦ omega (arith, c.loop-number.invariant.batches, ap (λ (s : Summary). s.batches) w.summary-is) | in_default w ↦ omega (arith, c.loop-number.invariant.batches, ap (λ (s : Summary). s.batches) w.summary-is) ];
      rows = elim c.match-rows.branch [
        | in-Some w ↦ omega (arith, c.loop-number.invariant.rows, ap (λ (s : Summary). s.rows) w.summary-is, subst (λ (o : Option ℕ). IfSome o (λ k. k < 2 ^ 64)) w.in-Some.is c.in_ok-rows.ensures.few)
        | in_default w ↦ omega (arith, c.loop-number.invariant.rows, ap (λ (s : Summary). s.rows) w.summary-is)
      ];
      kept = source_kept_on c.loop-number.invariant.kept c.scan_next.ensures.kept;
      sink = sink_kept_on c.loop-number.invariant.sink c.scan_next.ensures.sink;
    }

pub returns-clause-sends : goal.returns-clause-sends
returns-clause-sends g c =
    let done : length c.args.scanner.now.reader.metadata.blocks.items ≤ c.loop-number.number = search rules in
    all_scanned c.args.scanner.now c.args.writer.now.encoding c.args.writer.now (g.W.Sink.written c.args.sink.now) (g.S.Source.content c.args.source.now) c.in_ok-dictionaries.dictionaries c.loop-number.number c.loop-number.writer (g.W.Sink.written c.loop-number.sink) c.loop-number.summary (g.W.Sink.wants c.args.sink.now) (g.W.Sink.wants c.loop-number.sink) done c.loop-number.invariant.sends

pub returns-clause-fetched : goal.returns-clause-fetched
returns-clause-fetched g c =
    let some : 0 < length c.args.scanner.now.reader.metadata.blocks.items = search rules in
    all_fetched c.args.scanner.now (g.S.Source.content c.args.source.now) c.loop-number.number (g.S.Source.fetched c.args.source.now) (g.S.Source.fetched c.loop-number.source) some c.loop-number.invariant.fetched

use Rattle.std.proofs.Common.{◌≡◌, ◌<◌, Ok, Err, map, length, refl, sym, ◌∙◌, ap, subst, arith}
use Rattle.std.specs.Prelude.{IfErr, IfOk, IfSome}
use Rattle.ipc_bodies.specs.Encodings.{text_of}
use Rattle.ipc_io.proofs.Kept.{sink_kept_on}
use Rattle.laws_walk.proofs.Below.{is_err}
use Rattle.ipc_concat.specs.Begins.{Joins}
use Rattle.ipc_concat.specs.Concat.{AddsPart, ConcatCause, IsSmallRefusal}
use Rattle.ipc_concat.specs.Files.{AreAlike, AreUnread}
use Rattle.ipc_concat.specs.Tables.{told}
use Rattle.ipc_concat.proofs.Joining.{unread_length}
use Rattle.ipc_concat.proofs.Joins.{causes_before, complete_of, opening_cause, opening_part, part_of_joins, whole_of}
use Rattle.ipc_concat.proofs.Keeping.{kept_contents, kept_length, kept_on, length_of, rose_before}
use Rattle.ipc_concat.proofs.conversion.concat_as.Goals as goal

pub returns-in_err-readers-clause-part : goal.returns-in_err-readers-clause-part
returns-in_err-readers-clause-part g c =
    let e : c.from_residual.result ≡ Err c.in_err-readers.field-0.0 = is_err _ _ _ c.from_residual.ensures.0 c.from_residual.ensures.1 (λ f h. h) in
    opening_part c.from_residual.result c.in_err-readers.field-0.0 (map g.S.Source.content c.args.sources.now) (text_of c.args.encoding) (g.W.Sink.written c.args.sink.now) _ _ e c.in_err-readers.ensures.refused

pub returns-in_err-readers-clause-cause : goal.returns-in_err-readers-clause-cause
returns-in_err-readers-clause-cause g c =
    let e : c.from_residual.result ≡ Err c.in_err-readers.field-0.0 = is_err _ _ _ c.from_residual.ensures.0 c.from_residual.ensures.1 (λ f h. h) in
    opening_cause c.from_residual.result c.in_err-readers.field-0.0 _ _ e c.in_err-readers.ensures.cause

pub returns-in_err-readers-clause-complete : goal.returns-in_err-readers-clause-complete
returns-in_err-readers-clause-complete g c =
    let e : c.from_residual.result ≡ Err c.in_err-readers.field-0.0 = is_err _ _ _ c.from_residual.ensures.0 c.from_residual.ensures.1 (λ f h. h) in
    complete_of (map g.S.Source.content c.args.sources.now) c.from_residual.result (text_of c.args.encoding) (g.W.Sink.written c.args.sink.now) (g.W.Sink.written c.args.sink.now) 0 0 _ _ _ _
    (opening_part c.from_residual.result c.in_err-readers.field-0.0 (map g.S.Source.content c.args.sources.now) (text_of c.args.encoding) (g.W.Sink.written c.args.sink.now) 0 0 e c.in_err-readers.ensures.refused)
    (opening_cause c.from_residual.result c.in_err-readers.field-0.0 _ _ e c.in_err-readers.ensures.cause)

pub join_files-requires-clause-some : goal.join_files-requires-clause-some
join_files-requires-clause-some g c =
    let n = unread_length (map g.S.Source.content c.args.sources.now) c.in_ok-readers.readers.items c.in_ok-readers.ensures.opened in
    let m = length_of g.S.Source.content c.args.sources.now in
    rw c.as_mut_slice.ensures.value (omega (arith, n, m, c.requires.some))

pub join_files-requires-clause-count : goal.join_files-requires-clause-count
join_files-requires-clause-count g c =
    let n = unread_length (map g.S.Source.content c.args.sources.now) c.in_ok-readers.readers.items c.in_ok-readers.ensures.opened in
    let m = length_of g.S.Source.content c.args.sources.now in
    let k = kept_length g.S.Source.content g.S.Source.faults g.S.Source.references c.args.sources.now c.open_files.new.sources c.in_ok-readers.ensures.kept in
    rw c.as_mut_slice.ensures.value (omega (arith, n, m, k))

pub join_files-requires-clause-unread : goal.join_files-requires-clause-unread
join_files-requires-clause-unread g c = rw c.as_mut_slice.ensures.value (subst (λ os. AreUnread os c.in_ok-readers.readers.items) (sym (kept_contents g.S.Source.content g.S.Source.faults g.S.Source.references c.args.sources.now c.open_files.new.sources c.in_ok-readers.ensures.kept)) c.in_ok-readers.ensures.opened)

pub join_files-requires-clause-alike : goal.join_files-requires-clause-alike
join_files-requires-clause-alike g c = rw c.as_mut_slice.ensures.value c.in_ok-readers.ensures.alike

pub returns-clause-whole : goal.returns-clause-whole
returns-clause-whole g c =
    whole_of (map g.S.Source.content c.args.sources.now) c.join_files.result c.args.encoding (g.W.Sink.written c.args.sink.now) (g.W.Sink.written c.join_files.new.sink) (g.W.Sink.wants c.args.sink.now) (g.W.Sink.wants c.join_files.new.sink)
    (subst (λ os. IfSome (told os) (λ bs. Joins c.join_files.result bs c.args.encoding (g.W.Sink.written c.args.sink.now) (g.W.Sink.written c.join_files.new.sink) (g.W.Sink.wants c.args.sink.now) (g.W.Sink.wants c.join_files.new.sink))) (kept_contents g.S.Source.content g.S.Source.faults g.S.Source.references c.args.sources.now c.open_files.new.sources c.in_ok-readers.ensures.kept) c.join_files.ensures.joins)

pub returns-clause-part : goal.returns-clause-part
returns-clause-part g c =
    part_of_joins (map g.S.Source.content c.args.sources.now) c.join_files.result c.args.encoding (g.W.Sink.written c.args.sink.now) (g.W.Sink.written c.join_files.new.sink) (g.W.Sink.wants c.args.sink.now) (g.W.Sink.wants c.join_files.new.sink)
    (subst (λ os. IfSome (told os) (λ bs. Joins c.join_files.result bs c.args.encoding (g.W.Sink.written c.args.sink.now) (g.W.Sink.written c.join_files.new.sink) (g.W.Sink.wants c.args.sink.now) (g.W.Sink.wants c.join_files.new.sink))) (kept_contents g.S.Source.content g.S.Source.faults g.S.Source.references c.args.sources.now c.open_files.new.sources c.in_ok-readers.ensures.kept) c.join_files.ensures.joins)

pub returns-clause-cause : goal.returns-clause-cause
returns-clause-cause g c = causes_before c.join_files.result _ _ _ (rose_before g.S.Source.content g.S.Source.faults g.S.Source.references c.args.sources.now c.open_files.new.sources c.join_files.new.sources c.in_ok-readers.ensures.kept) c.join_files.ensures.cause

pub returns-clause-complete : goal.returns-clause-complete
returns-clause-complete g c =
    complete_of (map g.S.Source.content c.args.sources.now) c.join_files.result (text_of c.args.encoding) (g.W.Sink.written c.args.sink.now) (g.W.Sink.written c.join_files.new.sink) (g.W.Sink.wants c.args.sink.now) (g.W.Sink.wants c.join_files.new.sink) _ _ _ _
    (part_of_joins (map g.S.Source.content c.args.sources.now) c.join_files.result c.args.encoding (g.W.Sink.written c.args.sink.now) (g.W.Sink.written c.join_files.new.sink) (g.W.Sink.wants c.args.sink.now) (g.W.Sink.wants c.join_files.new.sink)
    (subst (λ os. IfSome (told os) (λ bs. Joins c.join_files.result bs c.args.encoding (g.W.Sink.written c.args.sink.now) (g.W.Sink.written c.join_files.new.sink) (g.W.Sink.wants c.args.sink.now) (g.W.Sink.wants c.join_files.new.sink))) (kept_contents g.S.Source.content g.S.Source.faults g.S.Source.references c.args.sources.now c.open_files.new.sources c.in_ok-readers.ensures.kept) c.join_files.ensures.joins))
    (causes_before c.join_files.result _ _ _ (rose_before g.S.Source.content g.S.Source.faults g.S.Source.references c.args.sources.now c.open_files.new.sources c.join_files.new.sources c.in_ok-readers.ensures.kept) c.join_files.ensures.cause)

pub returns-clause-kept : goal.returns-clause-kept
returns-clause-kept g c = kept_on g.S.Source.content g.S.Source.faults g.S.Source.references c.args.sources.now c.open_files.new.sources c.join_files.new.sources c.in_ok-readers.ensures.kept c.join_files.ensures.kept

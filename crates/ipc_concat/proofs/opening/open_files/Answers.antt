use Rattle.std.proofs.Common.{◌≡◌, ◌∙◌, Err, refl, sym, true≢false, subst, ap, arith}
use Rattle.arrow_spec.specs.declared.error.IpcError.TheVariants as errors
use Rattle.laws_walk.proofs.Below.{is_err}
use Rattle.ipc_concat.specs.Files.{FitsFirst, FitsKinds}
use Rattle.ipc_concat.proofs.Keeping.{kept_itself}
use Rattle.ipc_concat.proofs.OpenCalls.{alike_with, all_opened, kept_with, not_fitting, open_cause, opened_with, push_fails, read_fails, rose_with}
use Rattle.ipc_concat.proofs.opening.open_files.Goals as goal

pub loop-i-init : goal.loop-i-init
loop-i-init g c = record { opened = rw c.new-readers.ensures.items tt; alike = rw c.new-readers.ensures.items tt; kept = kept_itself g.S.Source.content g.S.Source.faults g.S.Source.references c.args.sources.now }

pub loop-i-preserved : goal.loop-i-preserved
loop-i-preserved g c = record {
  opened = rw c.in_ok-push.ensures.items (opened_with g.S.Source.content g.S.Source.faults g.S.Source.references c.args.sources.now c.loop-i.sources c.loop-i.i c.index-sources-i.result c.loop-i.invariant.kept c.loop-i.readers.items c.loop-i-test.true c.loop-i.invariant.opened c.loop-i.invariant.alike c.in_ok-reader.reader c.in_ok-reader.ensures.opened);
  alike = rw c.in_ok-push.ensures.items (alike_with g.S.Source.content g.S.Source.faults g.S.Source.references c.args.sources.now c.loop-i.sources c.loop-i.i c.index-sources-i.result c.loop-i.invariant.kept c.loop-i.readers.items c.loop-i-test.true c.loop-i.invariant.opened c.loop-i.invariant.alike c.in_ok-reader.reader (subst (λ cs. FitsFirst cs c.in_ok-reader.reader) c.as_slice.ensures.value (c.if-not-fits_first.ensures.fields.0 refl)) (subst (λ cs. FitsKinds cs c.in_ok-reader.reader) c.as_slice.ensures.value (c.if-not-fits_first.ensures.kinds refl)));
  kept = kept_with g.S.Source.content g.S.Source.faults g.S.Source.references c.args.sources.now c.loop-i.sources c.loop-i.i c.index-sources-i.result c.loop-i.invariant.kept c.open_file.new.source c.in_ok-reader.ensures.kept;
}

pub returns-in_err-reader-clause-refused : goal.returns-in_err-reader-clause-refused
returns-in_err-reader-clause-refused g c =
    let e : c.from_residual.result ≡ Err c.in_err-reader.field-0.0 = is_err _ _ _ c.from_residual.ensures.0 c.from_residual.ensures.1 (λ f h. h) in
    read_fails g.S.Source.content g.S.Source.faults g.S.Source.references c.args.sources.now c.loop-i.sources c.loop-i.i c.index-sources-i.result c.loop-i.invariant.kept c.loop-i.readers.items c.loop-i-test.true c.loop-i.invariant.opened c.loop-i.invariant.alike c.from_residual.result c.in_err-reader.field-0.0 e c.in_err-reader.ensures.refused

pub returns-in_err-reader-clause-cause : goal.returns-in_err-reader-clause-cause
returns-in_err-reader-clause-cause g c =
    let e : c.from_residual.result ≡ Err c.in_err-reader.field-0.0 = is_err _ _ _ c.from_residual.ensures.0 c.from_residual.ensures.1 (λ f h. h) in
    open_cause c.from_residual.result c.in_err-reader.field-0.0 _ _ _ e (rose_with g.S.Source.content g.S.Source.faults g.S.Source.references c.args.sources.now c.loop-i.sources c.loop-i.i c.index-sources-i.result c.loop-i.invariant.kept c.open_file.new.source c.loop-i-test.true) c.in_err-reader.ensures.cause

pub returns-in_err-reader-clause-kept : goal.returns-in_err-reader-clause-kept
returns-in_err-reader-clause-kept g c = kept_with g.S.Source.content g.S.Source.faults g.S.Source.references c.args.sources.now c.loop-i.sources c.loop-i.i c.index-sources-i.result c.loop-i.invariant.kept c.open_file.new.source c.in_err-reader.ensures.kept

pub returns-then-not-fits_first-clause-refused : goal.returns-then-not-fits_first-clause-refused
returns-then-not-fits_first-clause-refused g c = not_fitting g.S.Source.content g.S.Source.faults g.S.Source.references c.args.sources.now c.loop-i.sources c.loop-i.i c.index-sources-i.result c.loop-i.invariant.kept c.loop-i.readers.items c.loop-i-test.true c.loop-i.invariant.opened c.loop-i.invariant.alike c.in_ok-reader.reader c.in_ok-reader.ensures.opened
    (λ h. true≢false (sym (c.if-not-fits_first.ensures.fields.1 (subst (λ cs. FitsFirst cs c.in_ok-reader.reader) (sym c.as_slice.ensures.value) h))))

pub returns-then-not-fits_first-clause-kept : goal.returns-then-not-fits_first-clause-kept
returns-then-not-fits_first-clause-kept g c = kept_with g.S.Source.content g.S.Source.faults g.S.Source.references c.args.sources.now c.loop-i.sources c.loop-i.i c.index-sources-i.result c.loop-i.invariant.kept c.open_file.new.source c.in_ok-reader.ensures.kept

pub returns-in_err-push-clause-refused : goal.returns-in_err-push-clause-refused
returns-in_err-push-clause-refused g c =
    let e : c.from_residual-in_err-push.result ≡ Err errors.Memory = is_err _ _ _ c.from_residual-in_err-push.ensures.0 c.from_residual-in_err-push.ensures.1 (λ f h. h) in
    push_fails g.S.Source.content g.S.Source.faults g.S.Source.references c.args.sources.now c.loop-i.sources c.loop-i.i c.index-sources-i.result c.loop-i.invariant.kept c.loop-i.readers.items c.loop-i-test.true c.loop-i.invariant.opened c.loop-i.invariant.alike c.from_residual-in_err-push.result e

pub returns-in_err-push-clause-kept : goal.returns-in_err-push-clause-kept
returns-in_err-push-clause-kept g c = kept_with g.S.Source.content g.S.Source.faults g.S.Source.references c.args.sources.now c.loop-i.sources c.loop-i.i c.index-sources-i.result c.loop-i.invariant.kept c.open_file.new.source c.in_ok-reader.ensures.kept

pub returns-clause-opened : goal.returns-clause-opened
returns-clause-opened g c = all_opened g.S.Source.content c.args.sources.now c.loop-i.i c.loop-i.readers.items c.loop-i-test.false c.loop-i.invariant.opened

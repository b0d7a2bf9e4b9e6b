use Rattle.std.proofs.Common.{◌≡◌, ◌+◌, suc, ◌++◌, ◌∷◌, [], rules, arith, sym, ap, subst, ◌∙◌}
use Rattle.arrow_spec.specs.Arrays.{buf, from_on}
use Rattle.arrow_spec.specs.Faults.{ranges_faults}
use Rattle.ipc_read.proofs.Refusals.{err_from}
use Rattle.ipc_read.proofs.Counted.{left_next}
use Rattle.ipc_read.proofs.ReaderSteps.{told_on, keeps_then, readable_on}
use Rattle.ipc_read.proofs.DataReads.{ranges_refused, stated_more, stated_next, ranges_next, from_on_more}
use Rattle.ipc_read.proofs.Shortened.{taken_more, taken_then, read_so_far}
use Rattle.ipc_read.proofs.readers.BufferReader.read_all.Goals as goal

pub returns-in_err-bytes-clause-gives : goal.returns-in_err-bytes-clause-gives
returns-in_err-bytes-clause-gives g c = λ m i l t.
    let v = c.loop-number.invariant in
    err_from _ _ c.in_err-bytes.field-0.0 _ _ _ c.from_residual.ensures.0 c.from_residual.ensures.1 (λ x e. e)
    (ranges_refused m i c.loop-number._number c.args.count c.in_err-bytes.field-0.0 (omega arith) (c.in_err-bytes.ensures.gives m (i + c.loop-number._number) (v.takes m i l) (told_on v.keeps _ t)).err)

pub returns-in_err-bytes-clause-fetched : goal.returns-in_err-bytes-clause-fetched
returns-in_err-bytes-clause-fetched g c = λ m i l.
    let v = c.loop-number.invariant in
    let before = v.fetched m i l in
    let here = c.in_err-bytes.ensures.fetched m (i + c.loop-number._number) (v.takes m i l) in
    let rest = stated_more m i c.loop-number._number c.args.count (omega arith) in
    omega (arith, before, here, rest)

pub returns-in_err-push-clause-fetched : goal.returns-in_err-push-clause-fetched
returns-in_err-push-clause-fetched g c = λ m i l.
    let v = c.loop-number.invariant in
    let before = v.fetched m i l in
    let here = c.in_ok-bytes.ensures.fetched m (i + c.loop-number._number) (v.takes m i l) in
    let rest = stated_more m i c.loop-number._number c.args.count (omega arith) in
    omega (arith, before, here, rest)

pub loop-number-preserved : goal.loop-number-preserved
loop-number-preserved g c =
    let v = c.loop-number.invariant in
    let p : c.push.new.self.items ≡ c.loop-number.data.items ++ c.in_ok-bytes.bytes ∷ [] = search rules in
    record {
      takes = λ m i l. left_next m.buffers (suc (i + c.loop-number._number)) (i + (c.loop-number._number + 1)) _ (omega arith) (c.in_ok-bytes.ensures.takes m (i + c.loop-number._number) (v.takes m i l));
      gives = λ m i l t.
          let was = v.gives m i l t in
          let k = (c.in_ok-bytes.ensures.gives m (i + c.loop-number._number) (v.takes m i l) (told_on v.keeps _ t)).ok in
          (ranges_next m i c.loop-number._number was.0 k.0, p ∙ ap (λ xs. xs ++ c.in_ok-bytes.bytes ∷ []) was.1 ∙ ap (λ x. from_on (buf m) i c.loop-number._number ++ x ∷ []) k.1 ∙ sym (from_on_more (buf m) i c.loop-number._number));
      keeps = keeps_then v.keeps c.in_ok-bytes.ensures.keeps;
      faults_stay = c.in_ok-bytes.ensures.faults_stay ∙ v.faults_stay;
      fetched = λ m i l.
          let before = v.fetched m i l in
          let here = c.in_ok-bytes.ensures.fetched m (i + c.loop-number._number) (v.takes m i l) in
          let all = stated_next m i c.loop-number._number in
          omega (arith, before, here, all);
    }

pub returns-clause-gives : goal.returns-clause-gives
returns-clause-gives g c = λ m i l t.
    let k = c.loop-number.invariant.gives m i l t in
    let all : c.loop-number._number ≡ c.args.count = omega arith in
    record { ok = (subst (λ n. ranges_faults m i n ≡ []) all k.0, k.1 ∙ ap (from_on (buf m) i) all); err = tt }

pub returns-in_err-bytes-clause-shortened : goal.returns-in_err-bytes-clause-shortened
returns-in_err-bytes-clause-shortened g c = taken_then (read_so_far c.loop-number._number c.loop-number.invariant.takes) c.in_err-bytes.ensures.shortened (omega arith)

pub returns-in_err-push-clause-shortened : goal.returns-in_err-push-clause-shortened
returns-in_err-push-clause-shortened g c = taken_then (read_so_far c.loop-number._number c.loop-number.invariant.takes) c.in_ok-bytes.ensures.shortened (omega arith)

pub returns-clause-shortened : goal.returns-clause-shortened
returns-clause-shortened g c = taken_more (read_so_far c.loop-number._number c.loop-number.invariant.takes) (omega arith)

pub read_bytes-requires : goal.read_bytes-requires
read_bytes-requires g c = record { readable = readable_on c.loop-number.invariant.keeps c.requires.readable }

use Rattle.std.proofs.Common.{◌≡◌, ◌+◌, ◌++◌, ◌∷◌, [], List, ℕ, All, length, Some, ◌∙◌, ap, arith, length-append}
use Rattle.std.specs.Prelude.{option_map}
use Rattle.std.proofs.lemmas.List.Elements.{All-nil, All-cons}
use Rattle.ipc_log_disk.specs.Below.{overwritten}
use Rattle.ipc_record_log.specs.Records.{open_records, log_records}
use Rattle.ipc_record_log.proofs.Gates.{is_log, told_once}
use Rattle.ipc_record_log.proofs.Reading.{IsShort, log_read}
use Rattle.ipc_record_log.proofs.Walking.{length-first, size_is, written_first}
use Rattle.ipc_record_log.proofs.record_log.RecordLog.create.Goals as goal

one : (r : List ℕ) → IsShort r → All IsShort (r ∷ [])
one r short = All-cons IsShort r [] short (All-nil IsShort)

pub invariant_of-result : goal.invariant_of-result
invariant_of-result g c =
    let r = c.args.first.now in
    record {
      near = c.in-Ok.ensures.bound;
      ready = λ is d told.
          let from = told_once (g.D.LogDisk.content c.args.disk) _ (λ (b : List ℕ). overwritten b 0 (open_records (r ∷ []) ++ 0 ∷ [])) d c.in-Ok.ensures.content told in
          let whole : d ≡ open_records (r ∷ []) ++ 0 ∷ [] = from.2 ∙ written_first from.0 _ (size_is (g.D.LogDisk.content c.args.disk) 0 from.0 c.requires.empty from.1) in
          let at_end : length (open_records (r ∷ [])) ≡ 24 + length r = omega (arith, length-first r, length-append (open_records (r ∷ [])) (0 ∷ [])) in
          record {
            log = is_log d (r ∷ []) 0 [] c.in-Ok.spans.items (24 + length r) whole (omega arith) (one r (omega (arith, c.in-Ok.ensures.bound))) at_end c.in-Ok.ensures.spans;
            only = λ x left. c.in-Ok.ensures.durable d x told left;
          };
    }

pub returns-in-Ok-clause-created : goal.returns-in-Ok-clause-created
returns-in-Ok-clause-created g c = λ b told.
    let r = c.args.first.now in
    let d = open_records (r ∷ []) ++ 0 ∷ [] in
    let now : g.D.LogDisk.content c.begin.new.disk ≡ Some d = c.in-Ok.ensures.content ∙ ap (option_map (λ (b : List ℕ). overwritten b 0 d)) told ∙ ap (λ (l : List ℕ). Some l) (written_first b d (size_is (g.D.LogDisk.content c.args.disk) 0 b c.requires.empty told)) in
    let means : log_records d ≡ Some (r ∷ []) = log_read 0 (r ∷ []) [] (one r (omega (arith, c.in-Ok.ensures.bound))) (omega arith) in
    record { b = d; told = now; means = means; durable = λ x left. ap log_records (c.in-Ok.ensures.durable d x now left) ∙ means }

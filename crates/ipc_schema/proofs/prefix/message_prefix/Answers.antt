use Rattle.std.proofs.Common.{◌≡◌, true, false, arith}
use Rattle.arrow_spec.specs.Messages.{is_mark}
use Rattle.ipc_schema.proofs.Prefixed.{prefix_short, prefix_cut, prefix_plain, prefix_marked}
use Rattle.ipc_schema.proofs.prefix.message_prefix.Goals as goal

pub returns-then-bytes-lt4 : goal.returns-then-bytes-lt4
returns-then-bytes-lt4 c = record { gives = prefix_short c.args.bytes.now (omega arith) }

pub returns-then-not-is_continuation : goal.returns-then-not-is_continuation
returns-then-not-is_continuation c =
    let plain : is_mark c.split_at.result.0.now ≡ false = cc in
    record { gives = prefix_plain c.args.bytes.now c.split_at.result.0.now c.metadata_length.result (omega arith) c.split_at.ensures.front plain c.metadata_length.ensures.gives }

pub returns-then-rest-lt4 : goal.returns-then-rest-lt4
returns-then-rest-lt4 c =
    let marked : is_mark c.split_at.result.0.now ≡ true = cc in
    record { gives = prefix_cut c.args.bytes.now c.split_at.result.0.now c.split_at.result.1.now (omega arith) c.split_at.ensures.front c.split_at.ensures.back (omega arith) marked }

pub returns : goal.returns
returns c =
    let marked : is_mark c.split_at.result.0.now ≡ true = cc in
    record { gives = prefix_marked c.args.bytes.now c.split_at.result.0.now c.split_at.result.1.now c.split_at-2.result.0.now c.metadata_length-2.result (omega arith) c.split_at.ensures.front c.split_at.ensures.back c.split_at-2.ensures.front marked c.metadata_length-2.ensures.gives }

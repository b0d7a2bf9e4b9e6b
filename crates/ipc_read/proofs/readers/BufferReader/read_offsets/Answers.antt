use Rattle.std.proofs.Common.{arith}
use Rattle.ipc_read.proofs.OffsetReads.{offsets_fine, offsets_value}
use Rattle.ipc_read.proofs.readers.BufferReader.read_offsets.Goals as goal

pub returns-then-rows-gt0-clause-gives : goal.returns-then-rows-gt0-clause-gives
returns-then-rows-gt0-clause-gives g c = λ m i l t.
    let k = (c.in_ok-offsets.ensures.gives m i l t).ok in
    let q = c.in_ok-offsets.ensures.takes m i l in
    record {
      ok = (
        offsets_fine g.O.Offset.IS_LARGE g.O.NativeType.WIDTH g.O.Offset.limit c.args.rows g.O.Offset.number g.O.NativeType.read m i g.met.O.Offset.reads_offsets (omega arith) q.within k.0,
        offsets_value g.O.Offset.IS_LARGE g.O.NativeType.WIDTH g.O.Offset.limit c.args.rows g.O.Offset.number g.O.NativeType.read m i c.in_ok-offsets.offsets g.met.O.Offset.reads_offsets (omega arith) k.0 k.1,
      );
      err = tt;
    }

pub first_offset-requires : goal.first_offset-requires
first_offset-requires g c = record { above = g.met.O.Offset.reads_offsets.above }

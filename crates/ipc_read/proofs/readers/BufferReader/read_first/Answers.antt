use Rattle.std.proofs.Common.{◌*◌, arith, ◌∙◌}
use Rattle.ipc_read.proofs.Parts.{told_length, bytes_are}
use Rattle.ipc_read.proofs.readers.BufferReader.read_first.Goals as goal

pub returns-clause-gives : goal.returns-clause-gives
returns-clause-gives g c = λ m i l t.
    let size = told_length _ c.args.self.now.body m.body c.requires.readable.inside t in
    let k = (c.in_ok-part.ensures.gives m i l size).ok in
    record {
      ok = (
        k.0,
        c.in_ok-from_bytes.ensures ∙ bytes_are _ c.args.self.now.body m i (c.args.size * c.args.rows) c.in_ok-part.part.offset c.in_ok-bytes.bytes.items t k.1 (c.in_ok-part.ensures.enough m i l) (omega (arith, c.in_ok-part.ensures.within, c.in_ok-part.ensures.count)) c.in_ok-bytes.ensures.bytes (c.in_ok-bytes.ensures.count ∙ c.in_ok-part.ensures.count),
      );
      err = tt;
    }

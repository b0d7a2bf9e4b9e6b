use Rattle.std.proofs.Common.{◌∙◌}
use Rattle.ipc_read.proofs.Parts.{told_length, bytes_whole}
use Rattle.ipc_read.proofs.readers.BufferReader.read_bytes.Goals as goal

pub returns-clause-gives : goal.returns-clause-gives
returns-clause-gives g c = λ m i l t.
    let size = told_length _ c.args.self.now.body m.body c.requires.readable.inside t in
    let k = (c.in_ok-part.ensures.gives m i l size).ok in
    record { ok = (k.0, c.in_ok-from_bytes.ensures ∙ bytes_whole _ c.args.self.now.body m i c.in_ok-part.part c.in_ok-bytes.bytes.items t k.1 c.in_ok-part.ensures.within c.in_ok-bytes.ensures.bytes c.in_ok-bytes.ensures.count); err = tt }

use Rattle.std.proofs.Common.{◌^◌, ◌<◌, length, map, subst, sym}
use Rattle.arrow_spec.specs.Flat.{order_by}
use Rattle.arrow_spec.specs.Sent.{body_of}
use Rattle.arrow_arrays.specs.PartsOf.{parts_of}
use Rattle.ipc_write.specs.Below.{pieces_in}
use Rattle.run_values.proofs.Lengths.{order_in, short_in}
use Rattle.run_values.proofs.written.write_alone.Goals as goal

pub write-requires-clause-order : goal.write-requires-clause-order
write-requires-clause-order c = order_in (parts_of c.args.array.now) c.args.is_little_endian c.requires.childless c.requires.plain

pub write-requires-clause-short : goal.write-requires-clause-short
write-requires-clause-short c =
    subst (λ xs. body_of (length xs) (map length (pieces_in (order_by c.args.is_little_endian) (parts_of c.args.array.now))) < 2 ^ 63) (sym c.new.ensures)
    (short_in (parts_of c.args.array.now) c.args.is_little_endian c.requires.childless c.requires.plain c.requires.short)

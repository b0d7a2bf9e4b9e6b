use Rattle.std.proofs.Common.{◌≡◌, ℕ, ◌*◌, ◌≤◌, List, [], take, drop, ap, sym, arith, subst, ◌∙◌}
use Rattle.arrow_spec.specs.Laws.{AreBytes}
use Rattle.arrow_spec.specs.Counts.{magnitude}
use Rattle.arrow_spec.specs.Arrays.{range_of, buf, from_on}
use Rattle.arrow_spec.specs.Faults.{numbers_faults}
use Rattle.arrow_spec.specs.Flat.{order_by}
use Rattle.ipc_read.proofs.Parts.{told_length, bytes_are, items_same, length-told}
use Rattle.ipc_read.proofs.readers.BufferReader.read_numbers.Goals as goal

pub returns-clause-gives : goal.returns-clause-gives
returns-clause-gives g c = λ m i l t.
    let size = told_length _ c.args.self.now.body m.body c.requires.readable.inside t.told in
    let k = (c.in_ok-part.ensures.gives m i l size).ok in
    let all : c.WIDTH.result * c.args.rows ≡ g.T.NativeType.WIDTH * c.args.rows = ap (λ w. w * c.args.rows) c.WIDTH.ensures in
    let enough : g.T.NativeType.WIDTH * c.args.rows ≤ magnitude (range_of m i).length = omega (arith, all, c.in_ok-part.ensures.enough m i l) in
    let same = bytes_are _ c.args.self.now.body m i (g.T.NativeType.WIDTH * c.args.rows) c.in_ok-part.part.offset c.in_ok-bytes.bytes.items t.told k.1 enough (omega (arith, all, c.in_ok-part.ensures.within, c.in_ok-part.ensures.count)) c.in_ok-bytes.ensures.bytes (c.in_ok-bytes.ensures.count ∙ c.in_ok-part.ensures.count ∙ all) in
    let read : List ℕ → g.row.T.Denot = g.T.NativeType.read (order_by c.args.self.now.is_little_endian) in
    record {
      ok = (
        subst (λ w. numbers_faults m i w c.args.rows ≡ []) c.WIDTH.ensures k.0,
        c.in_ok-numbers.ensures.numbers
            ∙ items_same read g.T.NativeType.WIDTH c.args.rows (buf m i) c.in_ok-bytes.bytes.items same
            ∙ ap (λ o. from_on (λ j. g.T.NativeType.read o (take g.T.NativeType.WIDTH (drop (g.T.NativeType.WIDTH * j) (buf m i)))) 0 c.args.rows) (sym t.order),
      );
      err = tt;
    }

pub returns-clause-rows : goal.returns-clause-rows
returns-clause-rows g c = length-told (λ j. g.T.NativeType.read (order_by c.args.self.now.is_little_endian) (take g.T.NativeType.WIDTH (drop (g.T.NativeType.WIDTH * j) c.in_ok-bytes.bytes.items))) 0 c.args.rows _ c.in_ok-numbers.ensures.numbers

pub returns-clause-bytes : goal.returns-clause-bytes
returns-clause-bytes g c = λ m i l t.
    let size = told_length _ c.args.self.now.body m.body c.requires.readable.inside t.told in
    let k = (c.in_ok-part.ensures.gives m i l size).ok in
    let all : c.WIDTH.result * c.args.rows ≡ g.T.NativeType.WIDTH * c.args.rows = ap (λ w. w * c.args.rows) c.WIDTH.ensures in
    let enough : g.T.NativeType.WIDTH * c.args.rows ≤ magnitude (range_of m i).length = omega (arith, all, c.in_ok-part.ensures.enough m i l) in
    let same = bytes_are _ c.args.self.now.body m i (g.T.NativeType.WIDTH * c.args.rows) c.in_ok-part.part.offset c.in_ok-bytes.bytes.items t.told k.1 enough (omega (arith, all, c.in_ok-part.ensures.within, c.in_ok-part.ensures.count)) c.in_ok-bytes.ensures.bytes (c.in_ok-bytes.ensures.count ∙ c.in_ok-part.ensures.count ∙ all) in
    subst AreBytes same c.in_ok-numbers.ensures.bytes

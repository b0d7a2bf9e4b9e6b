-- Where a buffer stands in the input.
use Rattle.std.proofs.Common.{◌≡◌, ℕ, zero, suc, ◌+◌, ◌≤◌, ◌<◌, List, [], ◌∷◌, Some, None, inl, length, take, drop, refl, sym, ap, ◌∙◌, arith}
use Rattle.std.specs.Prelude.{slice_get}
use Rattle.arrow_spec.specs.declared.message.IpcBuffer.{IpcBuffer}
use Rattle.arrow_spec.specs.Counts.{RecordBatch, magnitude}
use Rattle.arrow_spec.specs.declared.error.IpcError.TheVariants.{OutOfSpec}
use Rattle.arrow_spec.specs.declared.error.OutOfSpecKind.TheVariants.{ExpectedBuffer}
use Rattle.arrow_spec.specs.Readings.{IsAmong}
use Rattle.arrow_spec.specs.Arrays.{buf, range_of}
use Rattle.arrow_spec.specs.Faults.{range_faults}
use Rattle.view_types.specs.declared.layout.Range.{Range}
use Rattle.view_types.specs.Ranges.{Lies}
use Rattle.view_types.specs.Views.{part_in}
use Rattle.view_types.proofs.Rooms.{piece}
use Rattle.ipc_read.proofs.Parts.{range_stands}

-- what a range shows of a record batch
pub record Shows (input : List ℕ) (m : RecordBatch) (i : ℕ) (r : Range) : Type 0 where
  pub bytes : part_in input r ≡ buf m i
  pub lies : Lies input r
  pub stated : r.length ≡ magnitude (range_of m i).length

pub range_shows : (input : List ℕ) (body : Range) (m : RecordBatch) (i : ℕ) (buffer : IpcBuffer) (r : Range) → m.body ≡ part_in input body → Lies input body → slice_get m.buffers i ≡ Some buffer
    → r ≡ record { at = body.at + magnitude buffer.offset; length = magnitude buffer.length } → magnitude buffer.offset + magnitude buffer.length ≤ body.length → Shows input m i r
unfolding buf
range_shows input body m i buffer r told lies stands is within =
    let at : r.at ≡ body.at + magnitude buffer.offset = ap (λ (x : Range). x.at) is in
    let size : r.length ≡ magnitude buffer.length = ap (λ (x : Range). x.length) is in
    let same : range_of m i ≡ buffer = range_stands m i buffer stands in
    record {
      bytes = ap (λ n. take n (drop r.at input)) size ∙ ap (λ n. take (magnitude buffer.length) (drop n input)) at
          ∙ sym (piece input body.at body.length (magnitude buffer.offset) (magnitude buffer.length) within)
          ∙ ap (λ b. take (magnitude buffer.length) (drop (magnitude buffer.offset) b)) (sym told)
          ∙ ap (λ (x : IpcBuffer). take (magnitude x.length) (drop (magnitude x.offset) m.body)) (sym same);
      lies = omega (arith, lies, at, size, within);
      stated = size ∙ ap (λ (x : IpcBuffer). magnitude x.length) (sym same);
    }

-- a buffer that is missing
pub range_none : (m : RecordBatch) (i : ℕ) → slice_get m.buffers i ≡ None → IsAmong (range_faults m i) (OutOfSpec ExpectedBuffer)
unfolding range_faults
range_none m i h = rw h (inl refl)

-- what is there has a number below the length
pub get_inside : {A : Type 0} (xs : List A) (i : ℕ) (x : A) → slice_get xs i ≡ Some x → i < length xs
get_inside [] i x h = cc
get_inside (y ∷ ys) zero x h = omega arith
get_inside (y ∷ ys) (suc i) x h = omega (arith, get_inside ys i x h)

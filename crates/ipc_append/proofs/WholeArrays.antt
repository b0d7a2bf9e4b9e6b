-- Streams that were read whole of the same bytes begin alike, and have the same arrays.
use Rattle.std.proofs.Common.{◌≡◌, ◌∙◌, ℕ, List, sym, ap, subst}
use Rattle.arrow_spec.specs.Schema.{Schema}
use Rattle.arrow_spec.proofs.ReadPairs.{same_read}
use Rattle.ipc_streams.specs.Arrays.{StreamArrays, arrays_of}
use Rattle.ipc_streams.specs.Below.{none_held}
use Rattle.ipc_streams.specs.Starts.{Start, start_view, stream_schema}
use Rattle.ipc_streams.proofs.ArraysOnce.{stream_once}
use Rattle.ipc_append.specs.Wholes.{IsWhole, reader_of}
use Rattle.ipc_append.specs.declared.stream.WholeStream.{WholeStream}

pub record AreAlike (s t : WholeStream) : Type 0 where
  pub start : start_view s.metadata ≡ start_view t.metadata
  pub arrays : arrays_of s.batches.items ≡ arrays_of t.batches.items

pub are_alike : (b : List ℕ) (s t : WholeStream) → IsWhole b s → IsWhole b t → AreAlike s t
are_alike b s t v w =
    let same : (start_view s.metadata, v.rest) ≡ (start_view t.metadata, w.rest) = same_read (start_view s.metadata, v.rest) (start_view t.metadata, w.rest) (sym v.begun ∙ w.begun) in
    let start : start_view s.metadata ≡ start_view t.metadata = ap (λ (x : Start × List ℕ). x.0) same in
    let rest : v.rest ≡ w.rest = ap (λ (x : Start × List ℕ). x.1) same in
    let schema : stream_schema s.metadata ≡ stream_schema t.metadata = ap (λ (x : Start). x.schema) start in
    let there : StreamArrays (reader_of (stream_schema s.metadata)) none_held w.rest (arrays_of s.batches.items) = subst (λ r. StreamArrays (reader_of (stream_schema s.metadata)) none_held r (arrays_of s.batches.items)) rest v.arrays in
    let moved : StreamArrays (reader_of (stream_schema t.metadata)) none_held w.rest (arrays_of s.batches.items) = subst (λ (c : Schema). StreamArrays (reader_of c) none_held w.rest (arrays_of s.batches.items)) schema there in
    record { start = start; arrays = stream_once moved w.arrays }

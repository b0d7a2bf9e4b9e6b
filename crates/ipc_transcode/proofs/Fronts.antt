-- What a walk within a request leaves is what a transcoding does.
use Rattle.std.proofs.Common.{◌≡◌, ◌∙◌, inl, inr, ◌⊎◌, sym, refl, ap, subst, ℕ, suc, List, length, Option, Some, None, Ok}
use Rattle.std.specs.Io.KnownBytes.{Keeps}
use Rattle.arrow_spec.specs.declared.error.IpcError.{IpcError}
use Rattle.arrow_spec.specs.declared.error.IpcError.TheVariants as errors
use Rattle.arrow_spec.specs.Files.{Request, TableBatch, to_read, to_send}
use Rattle.arrow_spec.specs.Readings.{meaning}
use Rattle.ipc_bodies.specs.Encodings.{text_of}
use Rattle.ipc_io.specs.Outside.{AppendsPrefix}
use Rattle.ipc_reader.specs.Below.{FileSays, file_custom}
use Rattle.laws_transcode.specs.Files.{IsFrontOf, IsStreamOf, StopsBehind}
use Rattle.laws_walk.specs.Places.{Sending, meta_in, table_sent, walking}
use Rattle.laws_walk.specs.Sends.{IsFront, IsOfPut, IsOfSink, IsWhole, LeavesPart, Refused}
use Rattle.laws_walk.specs.Walks.{walk_reading, within}
use Rattle.laws_walk.proofs.Places.{front_count}
use Rattle.laws_walk.proofs.Requests.{file_refused}
use Rattle.laws_walk.proofs.Walks.{walk_is_file}
use Rattle.ipc_transcode.specs.Sends.{FileRefused}
use Rattle.ipc_transcode.specs.Transcode.{AddsFrontOrNone, AddsPart, AddsPiece}

as_part : (e : IpcError) (b : List ℕ) (r : Request) (text : List ℕ → List ℕ) (old new : Option (List ℕ)) (wants wants' : ℕ) → (IsOfSink e → ⊥) → AddsFrontOrNone e b r text old new → AddsPart e wants wants' b r text old new
as_part errors.WriteFault b r text old new wants wants' n a = absurd (n tt)
as_part errors.Memory b r text old new wants wants' n a = inl a
as_part e b r text old new wants wants' n a = a

-- nothing was put
pub none_put : (e : IpcError) (b : List ℕ) (r : Request) (text : List ℕ → List ℕ) (old new : Option (List ℕ)) (wants wants' : ℕ) → (IsOfSink e → ⊥) → Keeps old new → AddsPart e wants wants' b r text old new
none_put e b r text old new wants wants' n kept = as_part e b r text old new wants wants' n (inl kept)

-- a part of a stream
in_piece : (e : IpcError) (b : List ℕ) (r : Request) (text : List ℕ → List ℕ) (old new : Option (List ℕ)) (wants wants' : ℕ) → IsOfPut e wants wants' → AddsPiece b r text text old new → AddsPart e wants wants' b r text old new
in_piece errors.WriteFault b r text old new wants wants' put piece = piece
in_piece errors.Memory b r text old new wants wants' put piece = inr (put, piece)
in_piece e b r text old new wants wants' put piece = absurd put

module _ (x : Sending) (says : FileSays x.bytes (meta_in x) (file_custom x.file)) where
  -- a front has a batch for each block
  count_of : (n : ℕ) (bytes : List ℕ) (bs : List TableBatch) → IsFront (walking x) n bytes bs → length bs ≡ n
  count_of n bytes bs f = front_count x.bytes x.request (meta_in x) n (table_sent (walking x) bs) says.read f.within f.file

  front_of : (n : ℕ) (bytes : List ℕ) (bs : List TableBatch) → IsFront (walking x) n bytes bs → IsFrontOf x.bytes x.request bytes (table_sent (walking x) bs)
  unfolding count_of
  front_of n bytes bs f = record {
    not_ended = f.not_ended;
    stream = f.stream;
    file = ap meaning (sym (walk_is_file to_read x.bytes x.request (Some (length bs))) ∙ subst (λ k. walk_reading to_read x.bytes (within x.request) (Some k) ≡ Ok (table_sent (walking x) bs)) (sym (count_of n bytes bs f)) f.file);
  }

  pub stream_of : (bytes : List ℕ) (bs : List TableBatch) → IsWhole (walking x) bytes bs → IsStreamOf x.bytes x.request bytes (table_sent (walking x) bs)
  stream_of bytes bs s = record { is_closed = s.is_closed; stream = s.stream; file = ap meaning (sym (walk_is_file to_read x.bytes x.request None) ∙ s.file) }

  part_of : (e : IpcError) (new : Option (List ℕ)) (wants wants' : ℕ) → LeavesPart e (walking x) new wants wants' → AddsPart e wants wants' x.bytes x.request (text_of x.encoding) x.start new
  unfolding count_of front_of
  part_of e new wants wants' (LeavesPart.before never kept) = none_put e x.bytes x.request (text_of x.encoding) x.start new wants wants' never kept
  part_of e new wants wants' (LeavesPart.behind {n = n} {bytes = bytes} {bs = bs} never front added stops) =
      let here : StopsBehind x.bytes x.request n e = file_refused to_send e x.bytes x.request (Some (suc n)) stops in
      as_part e x.bytes x.request (text_of x.encoding) x.start new wants wants' never
      (inr (record { bytes = bytes; table = table_sent (walking x) bs; stream = front_of n bytes bs front; added = added }, subst (λ k. StopsBehind x.bytes x.request k e) (sym (count_of n bytes bs front)) here))
  part_of e new wants wants' (LeavesPart.in_front {n = n} {bytes = bytes} {bs = bs} put front part) =
      in_piece e x.bytes x.request (text_of x.encoding) x.start new wants wants' put (record { bytes = bytes; table = table_sent (walking x) bs; piece = inr (front_of n bytes bs front, part) })
  part_of e new wants wants' (LeavesPart.in_whole {bytes = bytes} {bs = bs} put whole part) =
      in_piece e x.bytes x.request (text_of x.encoding) x.start new wants wants' put (record { bytes = bytes; table = table_sent (walking x) bs; piece = inl (stream_of bytes bs whole, part) })

  -- a refusal is one of the file
  pub refused_of : (e : IpcError) (new : Option (List ℕ)) (wants wants' : ℕ) → Refused e (walking x) new wants wants' → FileRefused e x.bytes x.request x.encoding x.start new wants wants'
  unfolding part_of
  refused_of e new wants wants' r = record { refused = file_refused to_send e x.bytes x.request None r.refused; part = part_of e new wants wants' r.part }

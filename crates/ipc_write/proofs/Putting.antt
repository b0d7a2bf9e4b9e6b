-- A message from its parts, as they are put.
use Rattle.std.proofs.Common.{◌≡◌, ℕ, ◌+◌, ◌-◌, ◌%◌, List, ◌++◌, length, map, refl, sym, ap, ◌∙◌, append_assoc, append-nil, arith, pos, ℤ}
use Rattle.arrow_spec.specs.Layout.{up_to, zeros}
use Rattle.arrow_spec.specs.Framing.{body_bytes}
use Rattle.arrow_spec.proofs.Bodies.{length-body}
use Rattle.ipc_bodies.proofs.Bodies.{body_whole}
use Rattle.ipc_write.specs.Outcomes.{continuation, metadata_frame, message_frame}

pub front_of : (padded : ℕ) (z : ℤ) (metadata : List ℕ) → z ≡ pos padded → padded ≡ up_to 8 (length metadata) → continuation z ++ metadata ++ zeros (padded - length metadata) ≡ metadata_frame metadata
front_of padded z metadata hz h = rw (hz, h) refl

frame_parts : (count : ℕ) (ms bs metadata body : List ℕ) → ms ≡ metadata → bs ≡ body → count ≡ up_to 64 (length bs) - length bs → (metadata_frame ms ++ bs) ++ zeros count ≡ message_frame metadata body
unfolding message_frame
frame_parts count ms bs metadata body hm hb hc = rw (hc, hm, hb) refl

pub frame_of : (count : ℕ) (ms bs metadata body : List ℕ) → ms ≡ metadata → bs ≡ body → count ≡ up_to 64 (length bs) - length bs → metadata_frame ms ++ (bs ++ zeros count) ≡ message_frame metadata body
frame_of count ms bs metadata body hm hb hc = sym (append_assoc (metadata_frame ms) bs (zeros count)) ∙ frame_parts count ms bs metadata body hm hb hc

-- a body ends at a multiple of 64
pub aligned_pieces : (pieces : List (List ℕ)) → length (body_bytes 0 pieces) % 64 ≡ 0
aligned_pieces pieces =
    let counted : 0 + length (body_bytes 0 pieces) ≡ length (body_bytes 0 pieces) = omega arith in
    ap (λ n. n % 64) (sym counted ∙ length-body pieces 0) ∙ body_whole 0 (map length pieces) refl

-- no zeros follow it
pub frame_whole : (metadata body : List ℕ) → length body % 64 ≡ 0 → metadata_frame metadata ++ body ≡ message_frame metadata body
unfolding message_frame
frame_whole metadata body h =
    let none : up_to 64 (length body) - length body ≡ 0 = omega (arith, h) in
    sym (ap (λ k. (metadata_frame metadata ++ body) ++ zeros k) none ∙ append-nil (metadata_frame metadata ++ body))

pub plan_frame : (ms metadata : List ℕ) (ps pieces : List (List ℕ)) → ms ≡ metadata → ps ≡ pieces → metadata_frame ms ++ body_bytes 0 ps ≡ message_frame metadata (body_bytes 0 pieces)
plan_frame ms metadata ps pieces hm hp = rw (hm, hp) (frame_whole metadata (body_bytes 0 pieces) (aligned_pieces pieces))

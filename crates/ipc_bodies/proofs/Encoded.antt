-- What is put of bytes: they, or their hex text.
use Rattle.std.proofs.Common.{◌≡◌, ℕ, ◌+◌, ◌-◌, ◌*◌, ◌/◌, ◌%◌, ◌≤◌, ◌<◌, List, [], ◌∷◌, ◌++◌, length, max, take, drop, Option, Result, IsErrAnd, slice_index, refl, sym, ap, ◌∙◌, subst, arith}
use Rattle.std.proofs.lemmas.List.{drop_all}
use Rattle.std.proofs.Math.Seq.{take-add}
use Rattle.std.specs.Io.KnownBytes.{Appends}
use Rattle.hex.specs.Hex.{encode_with, lower_digits}
use Rattle.arrow_spec.specs.declared.error.IpcError.{IpcError}
use Rattle.ipc_bodies.specs.declared.encoding.Encoding.{Encoding}
use Rattle.ipc_bodies.specs.declared.encoding.Encoding.TheVariants.{Bytes, HexText}
use Rattle.ipc_bodies.specs.Encodings.{text_of, text_width, made_width, HasRoom}
use Rattle.ipc_bodies.specs.Puts.{Moved, moved, NoneFalls, PutsPart, PutsText}
use Rattle.ipc_bodies.proofs.Puts.{in_pieces, puts_as, put_nothing, stopped, stops_in, then_all, then_puts}

encode-append : (t xs ys : List ℕ) → encode_with t (xs ++ ys) ≡ encode_with t xs ++ encode_with t ys
unfolding encode_with
encode-append t [] ys = refl
encode-append t (x ∷ xs) ys = ap (λ l. slice_index t (x / 16) ∷ slice_index t (x % 16) ∷ l) (encode-append t xs ys)

encode-nothing : (t : List ℕ) → encode_with t [] ≡ []
unfolding encode_with
encode-nothing t = refl

-- the text of bytes behind others stands behind theirs
pub text_of-append : (encoding : Encoding) (xs ys : List ℕ) → text_of encoding (xs ++ ys) ≡ text_of encoding xs ++ text_of encoding ys
text_of-append Bytes xs ys = refl
text_of-append HexText xs ys = encode-append lower_digits xs ys

text_of-nothing : (encoding : Encoding) → text_of encoding [] ≡ []
text_of-nothing Bytes = refl
text_of-nothing HexText = encode-nothing lower_digits

-- ── texts after one another ──

pub text_as : {T : Type 0} → (encoding : Encoding) (m : Moved) (r : Result T IpcError) (xs ys : List ℕ) → xs ≡ ys → PutsText m r (text_of encoding xs) → PutsText m r (text_of encoding ys)
text_as encoding m r xs ys e p = puts_as m r (text_of encoding xs) (text_of encoding ys) (ap (text_of encoding) e) p

pub text_stopped : {T : Type 0} → (encoding : Encoding) (m : Moved) (e : IpcError) (r : Result T IpcError) (xs ys : List ℕ) → IsErrAnd r (λ f. f ≡ e) → PutsPart m e (text_of encoding xs) → PutsText m r (text_of encoding (xs ++ ys))
text_stopped encoding m e r xs ys h p = puts_as m r _ _ (sym (text_of-append encoding xs ys)) (stopped m e r (text_of encoding xs) (text_of encoding ys) h p)

pub then_text : {T : Type 0} → (encoding : Encoding) (old mid new : Option (List ℕ)) (f g h w x y : ℕ) (r : Result T IpcError) (xs ys : List ℕ) → Appends old mid (text_of encoding xs) × NoneFalls (moved old mid f g w x) → PutsText (moved mid new g h x y) r (text_of encoding ys)
    → PutsText (moved old new f h w y) r (text_of encoding (xs ++ ys))
then_text encoding old mid new f g h w x y r xs ys p q = puts_as _ r _ _ (sym (text_of-append encoding xs ys)) (then_puts old mid new f g h w x y r (text_of encoding xs) (text_of encoding ys) p q)

pub text_all : (encoding : Encoding) (old mid new : Option (List ℕ)) (f g h w x y : ℕ) (xs ys all : List ℕ) → xs ++ ys ≡ all → Appends old mid (text_of encoding xs) × NoneFalls (moved old mid f g w x) → Appends mid new (text_of encoding ys) × NoneFalls (moved mid new g h x y)
    → Appends old new (text_of encoding all) × NoneFalls (moved old new f h w y)
text_all encoding old mid new f g h w x y xs ys all e p q =
    let both = then_all old mid new f g h w x y (text_of encoding xs) (text_of encoding ys) p q in
    (subst (Appends old new) (sym (text_of-append encoding xs ys) ∙ ap (text_of encoding) e) both.0, both.1)

-- nothing has been put
pub no_text : (encoding : Encoding) (new : Option (List ℕ)) (f w : ℕ) → Appends new new (text_of encoding []) × NoneFalls (moved new new f f w w)
no_text encoding new f w = subst (λ l. Appends new new l × NoneFalls (moved new new f f w w)) (sym (text_of-nothing encoding)) (put_nothing new f w)

pub no_text_of : (encoding : Encoding) (new : Option (List ℕ)) (f w : ℕ) (xs : List ℕ) → xs ≡ [] → Appends new new (text_of encoding xs) × NoneFalls (moved new new f f w w)
no_text_of encoding new f w xs e = subst (λ l. Appends new new (text_of encoding l) × NoneFalls (moved new new f f w w)) (sym e) (no_text encoding new f w)

-- a piece of no more bytes than have their text in a room is no longer than that
pub still_short : (encoding : Encoding) (old mid new n most room : ℕ) → mid ≤ max old room → new ≤ max mid (text_width encoding * n) → n ≤ most → most ≡ room / text_width encoding → new ≤ max old room
still_short Bytes old mid new n most room h k m e = omega (arith, h, k, m, e)
still_short HexText old mid new n most room h k m e = omega (arith, h, k, m, e)

-- nor is one that is made there
pub made_short : (encoding : Encoding) (old new n count room : ℕ) → new ≤ max old (text_width encoding * n) → n ≡ count → count ≤ room / made_width encoding → new ≤ max old room
made_short Bytes old new n count room k e m = omega (arith, k, e, m)
made_short HexText old new n count room k e m = omega (arith, k, e, m)

pub no_text_left : (encoding : Encoding) (new : Option (List ℕ)) (f w : ℕ) (xs : List ℕ) (at : ℕ) → length xs ≤ at → Appends new new (text_of encoding (drop at xs)) × NoneFalls (moved new new f f w w)
no_text_left encoding new f w xs at h = no_text_of encoding new f w (drop at xs) (drop_all at xs h)

-- ── a text in pieces ──

-- a piece stops behind those before it
pub text_stops_in : {T : Type 0} → (encoding : Encoding) (old mid new : Option (List ℕ)) (f g h w x y : ℕ) (e : IpcError) (r : Result T IpcError) (before piece rest all : List ℕ) → (before ++ piece) ++ rest ≡ all → IsErrAnd r (λ k. k ≡ e)
    → Appends old mid (text_of encoding before) × NoneFalls (moved old mid f g w x) → PutsPart (moved mid new g h x y) e (text_of encoding piece) → PutsText (moved old new f h w y) r (text_of encoding all)
text_stops_in encoding old mid new f g h w x y e r before piece rest all s k p q =
    let text = text_of encoding in
    let whole : (text before ++ text piece) ++ text rest ≡ text all = ap (λ l. l ++ text rest) (sym (text_of-append encoding before piece)) ∙ sym (text_of-append encoding (before ++ piece) rest) ∙ ap text s in
    stops_in old mid new f g h w x y e r (text before) (text piece) (text rest) (text all) whole k p q

pub text_piece_stops : {T : Type 0} → (encoding : Encoding) (old mid new : Option (List ℕ)) (f g h w x y : ℕ) (e : IpcError) (r : Result T IpcError) (all piece : List ℕ) (at n : ℕ) → piece ≡ take n (drop at all) → IsErrAnd r (λ k. k ≡ e)
    → Appends old mid (text_of encoding (take at all)) × NoneFalls (moved old mid f g w x) → PutsPart (moved mid new g h x y) e (text_of encoding piece) → PutsText (moved old new f h w y) r (text_of encoding all)
text_piece_stops encoding old mid new f g h w x y e r all piece at n s k p q =
    text_stops_in encoding old mid new f g h w x y e r (take at all) piece (drop (at + n) all) all (ap (λ l. (take at all ++ l) ++ drop (at + n) all) s ∙ in_pieces all at n) k p q

pub text_piece_put : (encoding : Encoding) (old mid new : Option (List ℕ)) (f g h w x y : ℕ) (all piece : List ℕ) (at n to : ℕ) → piece ≡ take n (drop at all) → to ≡ at + n
    → Appends old mid (text_of encoding (take at all)) × NoneFalls (moved old mid f g w x) → Appends mid new (text_of encoding piece) × NoneFalls (moved mid new g h x y)
    → Appends old new (text_of encoding (take to all)) × NoneFalls (moved old new f h w y)
text_piece_put encoding old mid new f g h w x y all piece at n to s t p q =
    let taken : take at all ++ piece ≡ take to all = ap (λ l. take at all ++ l) s ∙ sym (take-add at n all) ∙ ap (λ k. take k all) (sym t) in
    text_all encoding old mid new f g h w x y (take at all) piece (take to all) taken p q

-- ── room ──

pub room_above : (encoding : Encoding) (room : ℕ) → 2 ≤ room → 0 < room / text_width encoding
room_above Bytes room h = omega (arith, h)
room_above HexText room h = omega (arith, h)

pub room_standing : (encoding : Encoding) (n room : ℕ) → n ≤ room / text_width encoding → HasRoom encoding n room
room_standing Bytes n room h = tt
room_standing HexText n room h = omega (arith, h)

-- a scratch of 64 bytes and their text
pub made_above : (encoding : Encoding) (room : ℕ) → 64 * made_width encoding ≤ room → (64 ≤ room / made_width encoding) × (2 ≤ room)
made_above Bytes room h = (omega (arith, h), omega (arith, h))
made_above HexText room h = (omega (arith, h), omega (arith, h))

-- bytes that are made at its front, and their text behind them
pub room_made : (encoding : Encoding) (n room : ℕ) → n ≤ room / made_width encoding → (n ≤ room) × HasRoom encoding n (room - n)
room_made Bytes n room h = (omega (arith, h), tt)
room_made HexText n room h = (omega (arith, h), omega (arith, h))

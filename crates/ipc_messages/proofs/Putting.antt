-- Messages that are put one after another, and where a put stops.
use Rattle.std.proofs.Common.{◌≡◌, inl, ℕ, ◌+◌, ◌<◌, List, [], ◌∷◌, ◌++◌, Bool, true, false, length, map, take, drop, get_or, Option, None, Some, Result, Ok, Err, refl, sym, ap, ◌∙◌, subst, append-nil, arith, ◌^◌, length-append}
use Rattle.std.specs.List.{flat_map}
use Rattle.std.specs.Result.{IsErrAnd}
use Rattle.std.specs.Io.KnownBytes.{Appends, Keeps}
use Rattle.std.proofs.KnownBytes.{Appends-kept, Keeps-refl}
use Rattle.std.proofs.Math.Seq.{take-length}
use Rattle.std.proofs.lemmas.Grind.{flat_map-append}
use Rattle.std.proofs.lemmas.List.{take_more, take-append-drop}
use Rattle.hex.specs.Hex.{encode_with, lower_digits}
use Rattle.hex.proofs.HexLemmas.{length-encode_with}
use Rattle.arrow_spec.specs.declared.error.IpcError.{IpcError}
use Rattle.arrow_spec.specs.declared.error.IpcError.TheVariants.{Memory, WriteFault}
use Rattle.ipc_write.specs.Below.{text_of, Moved, moved, NoneFalls, PutsPart, Encoding, Bytes, HexText, Rose}
use Rattle.ipc_write.proofs.Below.{text_of-append, more_part, then_all, then_part}
use Rattle.ipc_messages.specs.declared.puts.Stop.{Stop}
use Rattle.arrow_arrays.specs.Batches.{Batch}
use Rattle.ipc_dictionaries.specs.NewDictionaries.{ToSend}
use Rattle.ipc_write.specs.declared.options.WriteOptions.{WriteOptions}
use Rattle.ipc_messages.specs.declared.planned.PlannedMessage.{PlannedMessage}
use Rattle.arrow_spec.specs.Framing.{body_bytes}
use Rattle.ipc_messages.specs.Chunks.{MayBeSent}
use Rattle.ipc_messages.specs.Messages.{IsChunkPlanned, chunk_text, planned_sizes, planned_text, total}
use Rattle.ipc_messages.specs.Framed.{framed_text, padded_body}
use Rattle.ipc_messages.specs.declared.framed_message.FramedMessage.{FramedMessage}
use Rattle.ipc_messages.specs.Puts.{Grew, PutsBeforeWant, PutsBehind, PutsOrStops, SendStops, SendsChunk, StopsByFault, StopsIn, Untouched, stop_behind}
use Rattle.ipc_messages.proofs.Lengths.{chunk_length, few_bytes}

-- ── nothing is put ──

pub untouched : (w : Option (List ℕ)) (f x : ℕ) → Untouched (moved w w f f x x)
untouched w f x = record { bytes = Keeps-refl w; counts = record { faults = omega arith; wants = omega arith } }

-- ── stops ──

-- a call that stops in some bytes stops in more
pub stops_more : (b : Bool) (m : Moved) (e : IpcError) (xs ys : List ℕ) → StopsIn b m e xs → StopsIn b m e (xs ++ ys)
stops_more true m e xs ys p = more_part m e xs ys p
stops_more false m e xs ys p = p

pub stop_at : (m : Moved) (s : Stop) (r : Result (Unit {0}) Stop) (bytes : List ℕ) → IsErrAnd r (λ t. t ≡ s) → StopsIn s.has_begun m s.error bytes → PutsOrStops m r bytes
stop_at m s (Ok u) bytes h p = absurd h
stop_at m s (Err t) bytes h p = subst (λ k. StopsIn k.has_begun m k.error bytes) (sym h) p

-- ── bytes behind others ──

stops_true : (b : Bool) (m : Moved) (e : IpcError) (bytes : List ℕ) → b ≡ true → PutsPart m e bytes → StopsIn b m e bytes
stops_true b m e bytes h p = subst (λ c. StopsIn c m e bytes) (sym h) p

pub behind_front : (old mid new : Option (List ℕ)) (f g h w x y : ℕ) (r : Result (Unit {0}) Stop) (xs ys : List ℕ) → Appends old mid xs × NoneFalls (moved old mid f g w x) → PutsBehind (moved mid new g h x y) r ys
    → PutsOrStops (moved old new f h w y) r (xs ++ ys)
behind_front old mid new f g h w x y (Ok u) xs ys p q = then_all old mid new f g h w x y xs ys p q
behind_front old mid new f g h w x y (Err s) xs ys p q = stops_true s.has_begun (moved old new f h w y) s.error (xs ++ ys) q.0 (then_part old mid new f g h w x y s.error xs ys p q.1)

-- nothing was put behind bytes, for want of memory
untouched_part : (old mid new : Option (List ℕ)) (f g h w x y : ℕ) (e : IpcError) (xs : List ℕ) → e ≡ Memory → Appends old mid xs × NoneFalls (moved old mid f g w x) → Untouched (moved mid new g h x y) → Rose x y
    → PutsPart (moved old new f h w y) e xs
untouched_part old mid new f g h w x y e xs k p u r =
    subst (λ t. PutsPart (moved old new f h w y) t xs) (sym k)
    ((length xs, subst (Appends old new) (sym (take-length xs)) (Appends-kept old mid new xs p.0 u.bytes)), record { faults = omega (arith, p.1.faults, u.counts.faults); wants = omega (arith, p.1.wants, u.counts.wants) }, omega (arith, p.1.wants, r))

-- nothing was put at all
untouched_still : (old mid new : Option (List ℕ)) (f g h w x y : ℕ) (xs : List ℕ) → xs ≡ [] → Appends old mid xs × NoneFalls (moved old mid f g w x) → Untouched (moved mid new g h x y) → Untouched (moved old new f h w y)
untouched_still old mid new f g h w x y xs e p u = record {
  bytes = kept old new (subst (Appends old new) e (Appends-kept old mid new xs p.0 u.bytes));
  counts = record { faults = omega (arith, p.1.faults, u.counts.faults); wants = omega (arith, p.1.wants, u.counts.wants) };
}
  where
    kept : (a b : Option (List ℕ)) → Appends a b [] → Keeps a b
    kept None b h = tt
    kept (Some ws) None h = absurd h
    kept (Some ws) (Some bs) h = h ∙ append-nil ws

-- a part of some bytes was put, where those before a piece were
part_behind : (b : Bool) (old mid new : Option (List ℕ)) (f g h w x y : ℕ) (e : IpcError) (before piece rest : List ℕ) → Appends old mid before × NoneFalls (moved old mid f g w x)
    → StopsIn b (moved mid new g h x y) e piece → PutsPart (moved old new f h w y) e ((before ++ piece) ++ rest)
part_behind true old mid new f g h w x y e before piece rest p q =
    more_part (moved old new f h w y) e (before ++ piece) rest (then_part old mid new f g h w x y e before piece p q)
part_behind false old mid new f g h w x y e before piece rest p q =
    let m = moved old new f h w y in
    more_part m e (before ++ piece) rest (more_part m e before piece (untouched_part old mid new f g h w x y e before q.0 p q.1 q.2))

-- the same where none were before it
stops_first : (b : Bool) (old mid new : Option (List ℕ)) (f g h w x y : ℕ) (e : IpcError) (before piece rest : List ℕ) → before ≡ [] → Appends old mid before × NoneFalls (moved old mid f g w x)
    → StopsIn b (moved mid new g h x y) e piece → StopsIn b (moved old new f h w y) e ((before ++ piece) ++ rest)
stops_first true old mid new f g h w x y e before piece rest none p q = part_behind true old mid new f g h w x y e before piece rest p q
stops_first false old mid new f g h w x y e before piece rest none p q =
    (q.0, untouched_still old mid new f g h w x y before none p q.1, omega (arith, p.1.wants, q.2))

-- a piece stops behind those before it, where a byte was put if there are any
pub stops_behind : (begun : Bool) (old mid new : Option (List ℕ)) (f g h w x y : ℕ) (s : Stop) (before piece rest all : List ℕ) → (before ++ piece) ++ rest ≡ all → (begun ≡ false → before ≡ [])
    → Appends old mid before × NoneFalls (moved old mid f g w x) → StopsIn s.has_begun (moved mid new g h x y) s.error piece → StopsIn (stop_behind begun s).has_begun (moved old new f h w y) (stop_behind begun s).error all
stops_behind true old mid new f g h w x y s before piece rest all e none p q =
    subst (PutsPart (moved old new f h w y) s.error) e (part_behind s.has_begun old mid new f g h w x y s.error before piece rest p q)
stops_behind false old mid new f g h w x y s before piece rest all e none p q =
    subst (StopsIn s.has_begun (moved old new f h w y) s.error) e (stops_first s.has_begun old mid new f g h w x y s.error before piece rest (none refl) p q)

-- ── the messages of a list ──

pub item_put : {A : Type 0} (text : A → List ℕ) (xs : List A) (i : ℕ) (x : A) → i < length xs → x ≡ get_or xs i x → flat_map text (take i xs) ++ text x ≡ flat_map text (take (i + 1) xs)
item_put text xs i x h e =
    let one : take (i + 1) xs ≡ take i xs ++ x ∷ [] = take_more xs i x h ∙ ap (λ y. take i xs ++ y ∷ []) (sym e) in
    sym (ap (flat_map text) one ∙ flat_map-append text (take i xs) (x ∷ []) ∙ ap (λ l. flat_map text (take i xs) ++ l) (append-nil (text x)))

pub before_item : {A : Type 0} (text : A → List ℕ) (xs : List A) (i : ℕ) (x : A) → i < length xs → x ≡ get_or xs i x → (flat_map text (take i xs) ++ text x) ++ flat_map text (drop (i + 1) xs) ≡ flat_map text xs
before_item text xs i x h e =
    ap (λ l. l ++ flat_map text (drop (i + 1) xs)) (item_put text xs i x h e) ∙ sym (flat_map-append text (take (i + 1) xs) (drop (i + 1) xs)) ∙ ap (flat_map text) (take-append-drop (i + 1) xs)

-- a front stops, and no more of the message is put
pub message_stops : (m : Moved) (s : Stop) (r : Result (Unit {0}) Stop) (xs front body : List ℕ) → xs ≡ front → IsErrAnd r (λ t. t ≡ s) → StopsIn s.has_begun m s.error xs → PutsOrStops m r (front ++ body)
message_stops m s r xs front body e h p = stop_at m s r (front ++ body) h (subst (λ ys. StopsIn s.has_begun m s.error (ys ++ body)) e (stops_more s.has_begun m s.error xs body p))

-- it is put, and the body behind it
pub message_put : (old mid new : Option (List ℕ)) (f g h w x y : ℕ) (r : Result (Unit {0}) Stop) (xs front body : List ℕ) → xs ≡ front → Appends old mid xs × NoneFalls (moved old mid f g w x) → PutsBehind (moved mid new g h x y) r body
    → PutsOrStops (moved old new f h w y) r (front ++ body)
message_put old mid new f g h w x y r xs front body e p q = subst (λ ys. PutsOrStops (moved old new f h w y) r (ys ++ body)) e (behind_front old mid new f g h w x y r xs body p q)

-- the same of texts: what is at the front of all stops
pub text_stops : (encoding : Encoding) (m : Moved) (s : Stop) (r : Result (Unit {0}) Stop) (xs front body all : List ℕ) → xs ≡ front → front ++ body ≡ all → IsErrAnd r (λ t. t ≡ s) → StopsIn s.has_begun m s.error (text_of encoding xs)
    → PutsOrStops m r (text_of encoding all)
text_stops encoding m s r xs front body all e k h p =
    let text = text_of encoding in
    subst (PutsOrStops m r) (sym (text_of-append encoding front body) ∙ ap text k) (message_stops m s r (text xs) (text front) (text body) (ap text e) h p)

-- it is put, and the rest behind it
pub text_put : (encoding : Encoding) (old mid new : Option (List ℕ)) (f g h w x y : ℕ) (r : Result (Unit {0}) Stop) (xs front body all : List ℕ) → xs ≡ front → front ++ body ≡ all → Appends old mid (text_of encoding xs) × NoneFalls (moved old mid f g w x)
    → PutsBehind (moved mid new g h x y) r (text_of encoding body) → PutsOrStops (moved old new f h w y) r (text_of encoding all)
text_put encoding old mid new f g h w x y r xs front body all e k p q =
    let text = text_of encoding in
    subst (PutsOrStops (moved old new f h w y) r) (sym (text_of-append encoding front body) ∙ ap text k) (message_put old mid new f g h w x y r (text xs) (text front) (text body) (ap text e) p q)

text_of_none : (encoding : Encoding) → text_of encoding [] ≡ []
unfolding encode_with
text_of_none Bytes = refl
text_of_none HexText = refl

-- the text of items is that of each
pub text_of_each : {A : Type 0} (encoding : Encoding) (f : A → List ℕ) (xs : List A) → flat_map (λ x. text_of encoding (f x)) xs ≡ text_of encoding (flat_map f xs)
text_of_each encoding f [] = sym (text_of_none encoding)
text_of_each encoding f (x ∷ xs) = ap (λ l. text_of encoding (f x) ++ l) (text_of_each encoding f xs) ∙ sym (text_of-append encoding (f x) (flat_map f xs))

-- a message of a list stops behind those before it
pub item_stops : {A : Type 0} (begun : Bool) (old mid new : Option (List ℕ)) (f g h w y z : ℕ) (s t : Stop) (text : A → List ℕ) (xs : List A) (i : ℕ) (x : A) → t ≡ stop_behind begun s → i < length xs → x ≡ get_or xs i x
    → (begun ≡ false → flat_map text (take i xs) ≡ []) → Appends old mid (flat_map text (take i xs)) × NoneFalls (moved old mid f g w y) → StopsIn s.has_begun (moved mid new g h y z) s.error (text x)
    → PutsOrStops (moved old new f h w z) (Err t) (flat_map text xs)
item_stops begun old mid new f g h w y z s t text xs i x e lt is none p q =
    subst (λ k. StopsIn k.has_begun (moved old new f h w z) k.error (flat_map text xs)) (sym e)
    (stops_behind begun old mid new f g h w y z s (flat_map text (take i xs)) (text x) (flat_map text (drop (i + 1) xs)) (flat_map text xs) (before_item text xs i x lt is) none p q)

-- or is put behind them
pub item_behind : {A : Type 0} (old mid new : Option (List ℕ)) (f g h w y z : ℕ) (text : A → List ℕ) (xs : List A) (i : ℕ) (x : A) → i < length xs → x ≡ get_or xs i x
    → Appends old mid (flat_map text (take i xs)) × NoneFalls (moved old mid f g w y) → Appends mid new (text x) × NoneFalls (moved mid new g h y z)
    → Appends old new (flat_map text (take (i + 1) xs)) × NoneFalls (moved old new f h w z)
item_behind old mid new f g h w y z text xs i x lt is p q =
    let both = then_all old mid new f g h w y z (flat_map text (take i xs)) (text x) p q in
    (subst (Appends old new) (item_put text xs i x lt is) both.0, both.1)

-- ── where memory is wanted behind a first put ──

-- bytes and what stands behind them
grew_behind : (old mid new : Option (List ℕ)) (xs ys : List ℕ) → 0 < length xs → Appends old mid xs → Appends mid new ys → Grew old new
grew_behind None mid new xs ys some p q = tt
grew_behind (Some a) None new xs ys some p q = absurd p
grew_behind (Some a) (Some b) None xs ys some p q = absurd q
grew_behind (Some a) (Some b) (Some c) xs ys some p q = omega (arith, some, ap length p, ap length q, length-append a xs, length-append b ys)

grew_later : (old mid new : Option (List ℕ)) (xs : List ℕ) → Appends old mid xs → Grew mid new → Grew old new
grew_later None mid new xs p q = tt
grew_later (Some a) None new xs p q = absurd p
grew_later (Some a) (Some b) None xs p q = absurd q
grew_later (Some a) (Some b) (Some c) xs p q = omega (arith, ap length p, q, length-append a xs)

-- a call that stops for want of memory keeps what was put, and may have put more
appends_some : (b : Bool) (m : Moved) (e : IpcError) (piece : List ℕ) → e ≡ Memory → StopsIn b m e piece → (n : ℕ) × Appends m.old m.new (take n piece)
appends_some true m e piece is p = let part : PutsPart m Memory piece = subst (λ k. PutsPart m k piece) is p in part.0
appends_some false m e piece is p = (0, kept m.old m.new p.1.bytes)
  where
    kept : (a b : Option (List ℕ)) → Keeps a b → Appends a b (take 0 piece)
    kept None b h = tt
    kept (Some ws) None h = absurd h
    kept (Some ws) (Some bs) h = h ∙ sym (append-nil ws)

pub wants_as : {T : Type 0} → (r : Result T Stop) (s : Stop) (old new : Option (List ℕ)) → IsErrAnd r (λ t. t ≡ s) → PutsBeforeWant {T = Unit {0}} (Err s) old new → PutsBeforeWant r old new
wants_as (Ok t) s old new h w = tt
wants_as (Err t) s old new h w = λ e b. w (ap (λ (u : Stop). u.error) (sym h) ∙ e) (ap (λ (u : Stop). u.has_begun) (sym h) ∙ b)

-- one put wants memory before a byte of it is put
pub whole_wants : (s : Stop) (old new : Option (List ℕ)) → (s.has_begun ≡ true → s.error ≡ WriteFault) → PutsBeforeWant {T = Unit {0}} (Err s) old new
whole_wants s old new h = λ e b.
    let fault : s.error ≡ WriteFault = h b in
    let both : WriteFault ≡ Memory = sym fault ∙ e in
    absurd (cc)

pub fault_wants : {T : Type 0} → (r : Result T Stop) (old new : Option (List ℕ)) → StopsByFault r → PutsBeforeWant r old new
fault_wants (Ok t) old new h = tt
fault_wants (Err s) old new h = whole_wants s old new h

-- behind a first piece
pub piece_wants : (old mid new : Option (List ℕ)) (g h x y : ℕ) (r : Result (Unit {0}) Stop) (xs ys : List ℕ) → 0 < length xs → Appends old mid xs → PutsBehind (moved mid new g h x y) r ys → PutsBeforeWant r old new
piece_wants old mid new g h x y (Ok u) xs ys some p q = tt
piece_wants old mid new g h x y (Err s) xs ys some p q = λ e b.
    let more = appends_some true (moved mid new g h x y) s.error ys e q.1 in
    grew_behind old mid new xs (take more.0 ys) some p more.1

-- a message of a list behind those before it
pub item_wants : (begun : Bool) (old mid new : Option (List ℕ)) (g h x y : ℕ) (s t : Stop) (before piece : List ℕ) → t ≡ stop_behind begun s → (begun ≡ true → 0 < length before) → Appends old mid before
    → StopsIn s.has_begun (moved mid new g h x y) s.error piece → PutsBeforeWant {T = Unit {0}} (Err s) mid new → PutsBeforeWant {T = Unit {0}} (Err t) old new
item_wants true old mid new g h x y s t before piece is some p q w = λ e b.
    let more = appends_some s.has_begun (moved mid new g h x y) s.error piece (ap (λ (u : Stop). u.error) (sym is) ∙ e) q in
    grew_behind old mid new before (take more.0 piece) (some refl) p more.1
item_wants false old mid new g h x y s t before piece is some p q w = λ e b. grew_later old mid new before p (w (ap (λ (u : Stop). u.error) (sym is) ∙ e) (ap (λ (u : Stop). u.has_begun) (sym is) ∙ b))

-- texts that are not empty
pub text_some : (encoding : Encoding) (xs : List ℕ) → 0 < length xs → 0 < length (text_of encoding xs)
text_some Bytes xs h = h
text_some HexText xs h = omega (arith, h, length-encode_with lower_digits xs)

pub planned_some : (encoding : Encoding) (p : PlannedMessage) → 0 < length (text_of encoding (planned_text p))
planned_some encoding p = text_some encoding (planned_text p) (omega (arith, p.begins, length-append p.front.items (body_bytes 0 p.buffers.items)))

pub framed_some : (p : FramedMessage) → 0 < length (framed_text p)
framed_some p = omega (arith, p.begins, length-append p.front.items (padded_body p.body.now))

pub items_some : {A : Type 0} (text : A → List ℕ) (xs : List A) (i : ℕ) (x : A) → i < length xs → x ≡ get_or xs i x → 0 < length (text x) → 0 < length (flat_map text (take (i + 1) xs))
items_some text xs i x h e some = omega (arith, some, ap length (item_put text xs i x h e), length-append (flat_map text (take i xs)) (text x))

-- ── a batch and its dictionaries ──

stops_so : (encode : List ℕ → List ℕ) (b : Bool) (m : Moved) (e : IpcError) (options : WriteOptions) (sent : List ToSend) (x : Batch) (bytes : List ℕ) → MayBeSent options sent x → bytes ≡ chunk_text sent x → StopsIn b m e (encode bytes)
    → SendStops encode b m e options sent x
stops_so encode true m e options sent x bytes h k q = (h, subst (λ ys. PutsPart m e (encode ys)) k q)
stops_so encode false m e options sent x bytes h k q = (inl q.0, q.1)

pub chunk_sent : (encode : List ℕ → List ℕ) (m : Moved) (n : ℕ) (options : WriteOptions) (sent : List ToSend) (x : Batch) (ps qs : List PlannedMessage) → ps ≡ qs → IsChunkPlanned options sent x qs → PutsOrStops m (Ok tt) (encode (flat_map planned_text ps))
    → n ≡ total (map planned_sizes ps) → length sent < 2 ^ 63 → SendsChunk encode m (Ok n) options sent x
chunk_sent encode m n options sent x ps qs e h p k few =
    let count : n ≡ length (chunk_text sent x) = k ∙ ap (λ ys. total (map planned_sizes ys)) e ∙ ap total h.sizes ∙ chunk_length sent x in
    let short : n < 2 ^ 127 + 2 ^ 96 = omega (arith, count, few_bytes options sent x few h.may) in
    (h.may, subst (λ ys. Appends m.old m.new (encode ys)) (ap (flat_map planned_text) e ∙ h.text) p.0, p.1, count, short)

pub chunk_stops : (encode : List ℕ → List ℕ) (m : Moved) (s : Stop) (r : Result ℕ Stop) (options : WriteOptions) (sent : List ToSend) (x : Batch) (ps qs : List PlannedMessage) → IsErrAnd r (λ t. t ≡ s) → ps ≡ qs → IsChunkPlanned options sent x qs
    → PutsOrStops m (Err s) (encode (flat_map planned_text ps)) → SendsChunk encode m r options sent x
chunk_stops encode m s (Ok n) options sent x ps qs f e h p = absurd f
chunk_stops encode m s (Err t) options sent x ps qs f e h p =
    subst (λ (u : Stop). SendStops encode u.has_begun m u.error options sent x) (sym f) (stops_so encode s.has_begun m s.error options sent x (flat_map planned_text ps) h.may (ap (flat_map planned_text) e ∙ h.text) p)

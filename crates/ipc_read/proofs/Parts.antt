-- A buffer's bytes, bits and items, and what is wrong with them.
use Rattle.std.proofs.Common.{◌≡◌, ℕ, zero, suc, ◌+◌, ◌-◌, ◌*◌, ◌/◌, ◌%◌, ◌≤◌, ◌<◌, List, [], length, take, drop, Option, Some, None, Bool, true, false, refl, sym, ap, ◌∙◌, arith, inl, length-drop, drop-drop}
use Rattle.std.specs.Prelude.{nat_lt, nat_eq, ◌&&◌, slice_get}
use Rattle.std.specs.Int.{bit_at}
use Rattle.std.proofs.Math.Nat.{mul-le-mul_left}
use Rattle.std.proofs.lemmas.List.{length-take, drop-take, take-take, get_or-take}
use Rattle.std.proofs.lemmas.Bool.{le-ltb, lt-ltb}
use Rattle.arrow_spec.specs.declared.error.IpcError.{IpcError}
use Rattle.arrow_spec.specs.declared.error.IpcError.TheVariants.{OutOfSpec}
use Rattle.arrow_spec.specs.declared.error.OutOfSpecKind.TheVariants as kinds
use Rattle.arrow_spec.specs.declared.message.FieldNode.{FieldNode}
use Rattle.arrow_spec.specs.declared.message.IpcBuffer.{IpcBuffer}
use Rattle.arrow_spec.specs.Readings.{IsAmong, Refuses}
use Rattle.arrow_spec.specs.Counts.{RecordBatch, Place, magnitude}
use Rattle.arrow_spec.specs.Arrays.{from_on, range_of, has_nulls, buf, bit}
use Rattle.arrow_spec.specs.Faults.{node_causes, node_faults, range_causes, range_faults, bitmap_faults, numbers_faults, validity_faults}
use Rattle.arrow_spec.proofs.CellLists.{from_on-same}
use Rattle.arrow_buffers.specs.Bits.{bits_from}
use Rattle.ipc_io.specs.Outside.{StandsAt}
use Rattle.ipc_read_laws.specs.PartsRead.{bits_read, validity_read}
use Rattle.ipc_read_laws.specs.Faults.{stated}
use Rattle.ipc_read.specs.Sources.{Inside, Told, part_of, validity_fetched}
use Rattle.ipc_read.specs.declared.body.Body.{Body}
use Rattle.ipc_read.proofs.Refusals.{among_cause, no_cause, none_at, refuses_sound}

-- ── lists by place ──

pub length-told : {A : Type 0} → (f : ℕ → A) (i n : ℕ) (xs : List A) → xs ≡ from_on f i n → length xs ≡ n
length-told f i n xs h = ap length h ∙ count f i n
  where
    count : {A : Type 0} → (f : ℕ → A) (i n : ℕ) → length (from_on f i n) ≡ n
    count f i zero = refl
    count f i (suc n) = ap suc (count f (suc i) n)

-- items of a size that stand in some bytes
pub item_fits : (size row rows n : ℕ) → row < rows → size * rows ≤ n → size * row + size ≤ n
item_fits size row rows n h k =
    let more : suc row ≤ rows = omega (arith, h) in
    let below : size * suc row ≤ size * rows = mul-le-mul_left size more in
    omega (arith, below, k)

-- ── a buffer ──

pub told_length : (content : Option (List ℕ)) (body : Body) (bytes : List ℕ) → Inside content body → Told content body bytes → length bytes ≡ body.length
told_length None body bytes h t = absurd t
told_length (Some b) body bytes h t = rw t (omega (arith, length-take body.length (drop body.offset b), length-drop body.offset b))

-- a buffer's range is what is stated of it
pub range_stands : (m : RecordBatch) (i : ℕ) (buffer : IpcBuffer) → slice_get m.buffers i ≡ Some buffer → range_of m i ≡ buffer
range_stands m i buffer h = rw h refl

pub range_same : (m : RecordBatch) (i size : ℕ) (buffer : IpcBuffer) → slice_get m.buffers i ≡ Some buffer → length m.body ≡ size → range_faults m i ≡ range_causes (Some buffer) size
unfolding range_faults
range_same m i size buffer h k = rw (h, k) refl

pub range_lacks : (m : RecordBatch) (i : ℕ) (e : IpcError) → length m.buffers ≤ i → e ≡ OutOfSpec kinds.ExpectedBuffer → Refuses e (range_faults m i)
unfolding range_faults
range_lacks m i e h k = rw (none_at m.buffers i h, k) (inl refl)

inner : (size at o n : ℕ) (c : List ℕ) → o + n ≤ size → take n (drop o (take size (drop at c))) ≡ take n (drop (at + o) c)
inner size at o n c w =
    let e : size ≡ o + (size - o) = omega arith in
    let f : drop o (take size (drop at c)) ≡ take (size - o) (drop o (drop at c)) = ap (λ z. drop o (take z (drop at c))) e ∙ drop-take o (size - o) (drop at c) in
    let j : n ≤ size - o = omega arith in
    rw f (take-take n (size - o) (drop o (drop at c)) j ∙ ap (take n) (drop-drop o at c))

front : (size o n : ℕ) (c : List ℕ) → o + n ≤ size → take n (drop o (take size c)) ≡ take n (drop o c)
front size o n c w =
    let e : size ≡ o + (size - o) = omega arith in
    let f : drop o (take size c) ≡ take (size - o) (drop o c) = ap (λ z. drop o (take z c)) e ∙ drop-take o (size - o) c in
    let j : n ≤ size - o = omega arith in
    rw f (take-take n (size - o) (drop o c) j)

-- the bytes that were read at a buffer's place are its first bytes in the body
pub bytes_are : (content : Option (List ℕ)) (body : Body) (m : RecordBatch) (i n at : ℕ) (out : List ℕ) → Told content body m.body → at ≡ body.offset + magnitude (range_of m i).offset → n ≤ magnitude (range_of m i).length
    → at + n ≤ body.offset + body.length → StandsAt content at out → length out ≡ n → out ≡ take n (buf m i)
unfolding buf
bytes_are None body m i n at out t p l w s k = absurd t
bytes_are (Some c) body m i n at out t p l w s k =
    let low : magnitude (range_of m i).offset + n ≤ body.length = omega (arith, p, w) in
    s.1
    ∙ ap (λ z. take z (drop at c)) k
    ∙ ap (λ z. take n (drop z c)) p
    ∙ sym (inner body.length body.offset (magnitude (range_of m i).offset) n c low)
    ∙ ap (λ z. take n (drop (magnitude (range_of m i).offset) z)) (sym t)
    ∙ sym (take-take n (magnitude (range_of m i).length) (drop (magnitude (range_of m i).offset) m.body) l)

whole : (n : ℕ) (xs ys : List ℕ) → xs ≡ take n ys → take n xs ≡ xs
whole n xs ys h = rw h (take-take n n ys (omega arith))

-- and all of them
pub bytes_whole : (content : Option (List ℕ)) (body : Body) (m : RecordBatch) (i : ℕ) (part : Body) (out : List ℕ) → Told content body m.body → part ≡ part_of body (range_of m i)
    → part.offset + part.length ≤ body.offset + body.length → StandsAt content part.offset out → length out ≡ part.length → out ≡ buf m i
unfolding buf
bytes_whole content body m i part out t p w s k =
    let at : part.offset ≡ body.offset + magnitude (range_of m i).offset = ap (λ (x : Body). x.offset) p in
    let size : part.length ≡ magnitude (range_of m i).length = ap (λ (x : Body). x.length) p in
    bytes_are content body m i part.length part.offset out t at (omega (arith, size)) w s k
    ∙ ap (λ n. take n (buf m i)) size
    ∙ whole (magnitude (range_of m i).length) (buf m i) (drop (magnitude (range_of m i).offset) m.body) refl

-- ── bits ──

bit_same : (n : ℕ) (bytes : List ℕ) (row rows : ℕ) → row < rows → n ≡ (rows + 7) / 8 → bit (take n bytes) row ≡ bit bytes row
bit_same n bytes row rows h k =
    let low : row / 8 < n = omega (arith, h, k) in
    ap (λ b. nat_eq (bit_at b (row % 8)) 1) (get_or-take n bytes (row / 8) 0 low)

-- the first bits stand in the first bytes
pub bits_same : (n rows : ℕ) (bytes out : List ℕ) → n ≡ (rows + 7) / 8 → out ≡ take n bytes → bits_from out 0 rows ≡ bits_from bytes 0 rows
bits_same n rows bytes out k h =
    ap (λ b. bits_from b 0 rows) h ∙ from_on-same (bit (take n bytes)) (bit bytes) 0 rows (λ j below. bit_same n bytes j rows (omega (arith, below)) k)

pub bitmap_refused : (m : RecordBatch) (i rows : ℕ) (e : IpcError) → Refuses e (range_faults m i) → Refuses e (bitmap_faults m i rows)
unfolding bitmap_faults
bitmap_refused m i rows e h = refuses_sound (range_faults m i) _ e h

pub bitmap_short : (m : RecordBatch) (i rows n : ℕ) → range_faults m i ≡ [] → n ≡ 8 * magnitude (range_of m i).length → n < rows → IsAmong (bitmap_faults m i rows) (OutOfSpec (kinds.InvalidBitmap rows n))
unfolding bitmap_faults
bitmap_short m i rows n h k s = rw (h, k) (among_cause (nat_lt (8 * magnitude (range_of m i).length) rows) _ (lt-ltb _ _ (omega (arith, k, s))))

pub bitmap_enough : (m : RecordBatch) (i rows : ℕ) → range_faults m i ≡ [] → rows ≤ 8 * magnitude (range_of m i).length → bitmap_faults m i rows ≡ []
unfolding bitmap_faults
bitmap_enough m i rows h s = rw h (no_cause (nat_lt (8 * magnitude (range_of m i).length) rows) _ (le-ltb _ _ s))

-- ── numbers ──

pub numbers_refused : (m : RecordBatch) (i width count : ℕ) (e : IpcError) → Refuses e (range_faults m i) → Refuses e (numbers_faults m i width count)
unfolding numbers_faults
numbers_refused m i width count e h = refuses_sound (range_faults m i) _ e h

pub numbers_short : (m : RecordBatch) (i width count n : ℕ) → range_faults m i ≡ [] → n ≡ magnitude (range_of m i).length → n < width * count → IsAmong (numbers_faults m i width count) (OutOfSpec (kinds.InvalidBuffer count (width * count) n))
unfolding numbers_faults
numbers_short m i width count n h k s = rw (h, k) (among_cause (nat_lt (magnitude (range_of m i).length) (width * count)) _ (lt-ltb _ _ (omega (arith, k, s))))

pub numbers_enough : (m : RecordBatch) (i width count : ℕ) → range_faults m i ≡ [] → width * count ≤ magnitude (range_of m i).length → numbers_faults m i width count ≡ []
unfolding numbers_faults
numbers_enough m i width count h s = rw h (no_cause (nat_lt (magnitude (range_of m i).length) (width * count)) _ (le-ltb _ _ s))

-- the first items stand in the first bytes
pub items_same : {A : Type 0} → (read : List ℕ → A) (size rows : ℕ) (bytes out : List ℕ) → out ≡ take (size * rows) bytes → from_on (λ j. read (take size (drop (size * j) out))) 0 rows ≡ from_on (λ j. read (take size (drop (size * j) bytes))) 0 rows
items_same read size rows bytes out h =
    ap (λ b. from_on (λ j. read (take size (drop (size * j) b))) 0 rows) h
    ∙ from_on-same (λ j. read (take size (drop (size * j) (take (size * rows) bytes)))) (λ j. read (take size (drop (size * j) bytes))) 0 rows
    (λ j below. ap read (front (size * rows) (size * j) size bytes (item_fits size j rows (size * rows) (omega (arith, below)) (omega arith))))

-- ── validity ──

pub nulls_of : (m : RecordBatch) (p : Place) (node : FieldNode) → slice_get m.nodes p.node ≡ Some node → has_nulls m p ≡ nat_lt 0 (magnitude node.null_count)
nulls_of m p node h = rw h refl

and_second : (a b c : Bool) → a ≡ true → (a && b) ≡ c → b ≡ c
and_second true b c p h = h
and_second false b c p h = cc

-- a validity that is not read
pub record Unread (m : RecordBatch) (p : Place) (rows : ℕ) : Type 0 where
  pub faults : validity_faults m p rows ≡ []
  pub value : validity_read m p rows ≡ None
  pub fetched : validity_fetched m p rows ≡ 0

-- and one that is
pub record Reads (m : RecordBatch) (p : Place) (rows : ℕ) : Type 0 where
  pub faults : validity_faults m p rows ≡ bitmap_faults m p.buffer rows
  pub value : validity_read m p rows ≡ Some (bits_read m p.buffer rows)
  pub fetched : validity_fetched m p rows ≡ stated m p.buffer + 0

pub unread : (m : RecordBatch) (p : Place) (rows : ℕ) (node : FieldNode) → slice_get m.nodes p.node ≡ Some node → (nat_lt 0 rows && nat_lt 0 (magnitude node.null_count)) ≡ false → Unread m p rows
unfolding validity_faults
unread m p zero node g h = record { faults = refl; value = refl; fetched = refl }
unread m p (suc rows) node g h =
    let e : has_nulls m p ≡ false = nulls_of m p node g ∙ and_second (nat_lt 0 (suc rows)) (nat_lt 0 (magnitude node.null_count)) false (grind arith) h in
    record { faults = rw e refl; value = rw e refl; fetched = rw e refl }

pub reads : (m : RecordBatch) (p : Place) (rows : ℕ) (node : FieldNode) → slice_get m.nodes p.node ≡ Some node → (nat_lt 0 rows && nat_lt 0 (magnitude node.null_count)) ≡ true → Reads m p rows
unfolding validity_faults
reads m p zero node g h = cc
reads m p (suc rows) node g h =
    let e : has_nulls m p ≡ true = nulls_of m p node g ∙ and_second (nat_lt 0 (suc rows)) (nat_lt 0 (magnitude node.null_count)) true (grind arith) h in
    record { faults = rw e refl; value = rw e refl; fetched = rw e refl }

-- ── a node ──

pub node_lacks : (m : RecordBatch) (p : Place) (rows : ℕ) (e : IpcError) → e ≡ OutOfSpec kinds.ExpectedBuffer → length m.nodes ≤ p.node → Refuses e (node_faults m p rows)
unfolding node_faults
node_lacks m p rows e h k = rw (none_at m.nodes p.node k, h) (inl refl)

pub node_is : (m : RecordBatch) (p : Place) (rows : ℕ) (node : FieldNode) → slice_get m.nodes p.node ≡ Some node → node_faults m p rows ≡ node_causes (Some node) rows
unfolding node_faults
node_is m p rows node h = rw h refl

-- How many bytes an array's buffers take: as many in either order, and what a message held is short.
use Rattle.std.proofs.Common.{◌≡◌, inl, inr, ℕ, ◌^◌, ◌≤◌, ◌<◌, List, [], ◌∷◌, ◌++◌, length, take, drop, map, reverse, refl, sym, ap, ◌∙◌, arith, subst, Bool, true, false, length-append, length-take, length-drop, append-nil, ℤ}
use Rattle.std.specs.Prelude.{◌&&◌, min, nat_le, Ok, Err}
use Rattle.std.specs.List.{flat_map}
use Rattle.std.proofs.lemmas.Bool.{and_parts, leb-true}
use Rattle.std.proofs.lemmas.List.{length-reverse}
use Rattle.arrow_spec.specs.declared.error.IpcError.TheVariants.{NotRepresentable}
use Rattle.arrow_spec.specs.Flat.{little, big, order_by}
use Rattle.arrow_spec.specs.Framing.{validity_bytes}
use Rattle.arrow_spec.specs.Arrays.{offset_width}
use Rattle.arrow_spec.specs.Kinds.{Offsets}
use Rattle.arrow_spec.specs.Layout.{up_to, size}
use Rattle.arrow_spec.specs.Sent.{body_of}
use Rattle.arrow_spec.proofs.Bodies.{length-body}
use Rattle.arrow_types.specs.Numbers.{to_bytes}
use Rattle.arrow_types.specs.NumberLaws.{unsigned_width}
use Rattle.arrow_types.specs.Physical.{physical_of}
use Rattle.arrow_types.specs.declared.physical.PhysicalType.{PhysicalType}
use Rattle.arrow_types.specs.declared.physical.PhysicalType.TheVariants as physical
use Rattle.arrow_types.specs.declared.physical.PrimitiveType.{PrimitiveType}
use Rattle.arrow_types.specs.declared.physical.PrimitiveType.TheVariants as primitive
use Rattle.arrow_arrays.specs.LeafParts.{LeafParts, numbers, binary, text, binary_views, text_views}
use Rattle.arrow_arrays.specs.Parts.{Parts, leaf, nested}
use Rattle.arrow_arrays.specs.Batches.{Batch}
use Rattle.ipc_bodies.specs.Pieces.{in_order, rebased, offset_bytes}
use Rattle.ipc_write.specs.Below.{Variable, layout_in_order, width_of_kind, bytes_between, variable_pieces, leaf_pieces, pieces_in, has_no_children, LeafMayHaveOrder, MayHaveOrder}
use Rattle.ipc_write.specs.Batches.{batch_body, columns_pieces, is_within, batch_message}
use Rattle.ipc_write.specs.Compaction.{top}
use Rattle.ipc_write.specs.Outcomes.{Either, Encodes, Same}
use Rattle.ipc_write.specs.declared.encoded.EncodedData.{EncodedData}
use Rattle.ipc_write.specs.declared.options.WriteOptions.{WriteOptions}

-- ── in either order ──

length-in_order : (q : PrimitiveType) (x : List ℕ) → length (in_order big q x) ≡ length x
length-in_order primitive.DaysMs x = omega (arith, length-append (reverse (take 4 x)) (reverse (drop 4 x)), length-reverse (take 4 x), length-reverse (drop 4 x), length-take 4 x, length-drop 4 x)
length-in_order primitive.MonthDayNano x =
    let first = reverse (take 4 x) in
    let second = reverse (take 4 (drop 4 x)) in
    let third = reverse (drop 8 x) in
    omega (arith, length-append (first ++ second) third, length-append first second, length-reverse (take 4 x), length-reverse (take 4 (drop 4 x)), length-reverse (drop 8 x), length-take 4 x, length-take 4 (drop 4 x), length-drop 4 x, length-drop 8 x)
length-in_order q x = length-reverse x

length-turned : (l : PhysicalType) (x : List ℕ) → length (layout_in_order big l x) ≡ length (layout_in_order little l x)
length-turned (physical.Primitive q) x = length-in_order q x
length-turned l x = refl

length-each : {A : Type 0} → (f g : A → List ℕ) (xs : List A) → ((x : A) → length (f x) ≡ length (g x)) → length (flat_map f xs) ≡ length (flat_map g xs)
length-each f g [] h = refl
length-each f g (x ∷ xs) h = omega (arith, length-append (f x) (flat_map f xs), length-append (g x) (flat_map g xs), h x, length-each f g xs h)

length-offsets : (o : Offsets) (offsets : List ℤ) → length (offset_bytes big o offsets) ≡ length (offset_bytes little o offsets)
length-offsets o offsets = length-each (λ n. to_bytes big (offset_width o) n) (λ n. to_bytes little (offset_width o) n) (rebased offsets) (λ n. unsigned_width (offset_width o) big n ∙ sym (unsigned_width (offset_width o) little n))

variable_turned : (p : Variable) → map length (variable_pieces big p) ≡ map length (variable_pieces little p)
variable_turned p = ap (λ n. length (validity_bytes p.validity) ∷ n ∷ length (bytes_between p.offsets p.values) ∷ []) (length-offsets (width_of_kind p.kind) p.offsets)

lengths_turned : (p : LeafParts) → map length (leaf_pieces big p) ≡ map length (leaf_pieces little p)
lengths_turned (numbers f) = ap (λ n. length (validity_bytes f.validity) ∷ n ∷ []) (length-each (layout_in_order big (physical_of f.kind)) (layout_in_order little (physical_of f.kind)) f.values (length-turned (physical_of f.kind)))
lengths_turned (binary p) = variable_turned p
lengths_turned (text p) = variable_turned p
lengths_turned p = refl

-- an array is of no views, and so is written as it is, in either order
plain_top : (p : LeafParts) → LeafMayHaveOrder p false → top (leaf p) ≡ leaf p
plain_top (binary_views p) h = cc
plain_top (text_views p) h = cc
plain_top p h = refl

plain_order : (p : LeafParts) (is_little_endian : Bool) → LeafMayHaveOrder p false → LeafMayHaveOrder p is_little_endian
plain_order p false h = h
plain_order (binary_views p) true h = refl
plain_order (text_views p) true h = refl
plain_order p true h = tt

pub order_in : (p : Parts) (is_little_endian : Bool) → has_no_children p ≡ true → MayHaveOrder p false → MayHaveOrder p is_little_endian
order_in (leaf l) is_little_endian c h = plain_order l is_little_endian h
order_in (nested h cs) is_little_endian c k = cc

pub short_in : (p : Parts) (is_little_endian : Bool) → has_no_children p ≡ true → MayHaveOrder p false → body_of 0 (map length (pieces_in little (top p))) < 2 ^ 63
    → body_of 0 (map length (pieces_in (order_by is_little_endian) p)) < 2 ^ 63
short_in (nested h cs) is_little_endian c k short = cc
short_in (leaf l) true c h short = subst (λ q. body_of 0 (map length (pieces_in little q)) < 2 ^ 63) (plain_top l h) short
short_in (leaf l) false c h short =
    subst (λ ns. body_of 0 ns < 2 ^ 63) (sym (lengths_turned l)) (subst (λ q. body_of 0 (map length (pieces_in little q)) < 2 ^ 63) (plain_top l h) short)

-- ── a message of one column ──

both : (a b c : Bool) → (a && b && c) ≡ true → (b ≡ true) × (c ≡ true)
both a b c h =
    let first = and_parts (a && b) c h in
    ((and_parts a b first.0).1, first.1)

short_and_few : (limit : ℕ) (b : Batch) → is_within limit b ≡ true → (nat_le (length (batch_body b)) 9223372036854775807 ≡ true) × (nat_le b.height 9223372036854775807 ≡ true)
unfolding is_within batch_message
short_and_few limit b h = both (nat_le (up_to 8 (size (batch_message b).node)) (min limit 2147483647)) (nat_le (length (batch_body b)) 9223372036854775807) (nat_le b.height 9223372036854775807) h

pub one_short : (limit : ℕ) (b : Batch) (p : Parts) → is_within limit b ≡ true → b.arrays ≡ p ∷ [] → body_of 0 (map length (pieces_in little (top p))) < 2 ^ 63
one_short limit b p h e =
    let most : length (batch_body b) ≤ 9223372036854775807 = leb-true (length (batch_body b)) 9223372036854775807 (short_and_few limit b h).0 in
    let pieces : columns_pieces b.arrays ≡ pieces_in little (top p) = ap columns_pieces e ∙ append-nil (pieces_in little (top p)) in
    omega (arith, most, length-body (columns_pieces b.arrays) 0, ap (λ xs. body_of 0 (map length xs)) pieces)

pub few_rows : (limit : ℕ) (b : Batch) → is_within limit b ≡ true → b.height < 2 ^ 63
few_rows limit b h =
    let most : b.height ≤ 9223372036854775807 = leb-true b.height 9223372036854775807 (short_and_few limit b h).1 in
    omega (arith, most)

-- a batch that was encoded is within the limit
pub encoded_within : (refuses : Bool) (options : WriteOptions) (b : Batch) (old new : EncodedData) (u : Unit {0}) → Either refuses ((Ok u ≡ Err NotRepresentable) × Same old new) (Encodes (Ok u) options b old new) → is_within options.metadata_limit b ≡ true
encoded_within refuses options b old new u (inl (test, (never, same))) = cc
encoded_within refuses options b old new u (inr (test, encodes)) = encodes.1

-- A footer is read back from its table.
use Rattle.std.proofs.Common.{◌≡◌, ℕ, suc, ◌+◌, ◌*◌, ◌^◌, ◌<◌, ◌≤◌, List, [], ◌∷◌, ◌++◌, length, Some, Ok, refl, ◌∙◌, ap, subst, arith, length-append, pos, SFits}
use Rattle.std.specs.Int.{w16, w32, w64, to_le_bytes, cast_unsigned}
use Rattle.std.specs.List.{flat_map, AllByRecursion}
use Rattle.std.proofs.lemmas.Int.{to_z-of_z}
use Rattle.std.proofs.Math.Facts.{Fits-of_z, Fits-lt-pow}
use Rattle.std.proofs.lemmas.List.Concat.{flat_map-cons}
use Rattle.arrow_spec.specs.declared.error.FlatError.{FlatError}
use Rattle.arrow_spec.specs.declared.error.IpcError.{IpcError}
use Rattle.arrow_spec.specs.declared.error.IpcError.TheVariants.{OutOfSpec}
use Rattle.arrow_spec.specs.declared.error.OutOfSpecKind.TheVariants as kinds
use Rattle.arrow_spec.specs.Readings.{as_kind, bind, each, required}
use Rattle.arrow_spec.specs.Flat.{Table, Vector, little, signed_at, slot_vector}
use Rattle.arrow_spec.specs.Kinds.{Fields, Metadata}
use Rattle.arrow_spec.specs.Schema.{Schema}
use Rattle.arrow_spec.specs.Layout as layout
use Rattle.arrow_spec.specs.Layout.{Slots, zeros}
use Rattle.arrow_spec.specs.Held.{Fits, HoldsSlots, Stands}
use Rattle.arrow_spec.specs.Sent.{custom_slot, i64_bytes, schema_node}
use Rattle.arrow_spec.specs.Files.{FileBlock, block_at, blocks_at, meta_in}
use Rattle.arrow_spec.specs.Footers.{block_bytes, blocks_node, footer_node}
use Rattle.arrow_spec.specs.WrittenSchemas.{IdsMayBeWritten, SchemaMayBeWritten}
use Rattle.arrow_spec.proofs.Back.{layout_back}
use Rattle.arrow_spec.proofs.Found.{number_stands, right_at, within}
use Rattle.arrow_spec.proofs.MessageTables.{fits_pos, signed_stands}
use Rattle.arrow_spec.proofs.MessagesFit.{custom_fits}
use Rattle.arrow_spec.proofs.NestedSchemas.{schema_back}
use Rattle.arrow_spec.proofs.Projection.{on}
use Rattle.arrow_spec.proofs.SchemaPairs.{custom_back}
use Rattle.arrow_spec.proofs.SchemasFit.{schema_fits}
use Rattle.arrow_spec.proofs.Slots.{table_there, vector_there}
use Rattle.arrow_spec.proofs.Standing.{stands_left}
use Rattle.laws_files.specs.FileLaws.{BlockFits, BlocksFit, FooterReadsBack}

-- ── blocks ──

short_stands : (b : List ℕ) (k n : ℕ) → n < 2 ^ 31 → Stands b k (to_le_bytes w32 (cast_unsigned w32 (pos n))) → signed_at w32 b k ≡ Ok (pos n)
unfolding bind
short_stands b k n h s =
    let fits : SFits w32 (pos n) = record { sfits = h } in
    rw (number_stands w32 b k (cast_unsigned w32 (pos n)) (Fits-lt-pow (Fits-of_z fits)) s) (ap Ok (to_z-of_z w32 (pos n) fits))

block_back : (fault : FlatError → IpcError) (b : List ℕ) (k : ℕ) (x : FileBlock) → BlockFits x → Stands b k (block_bytes x) → block_at fault b k ≡ Ok x
unfolding bind
block_back fault b k x fits h =
    let size = to_le_bytes w32 (cast_unsigned w32 (pos x.metadata)) in
    let tail = size ++ zeros 4 ++ i64_bytes (pos x.body) in
    let offset : signed_at w64 b k ≡ Ok (pos x.offset) = signed_stands b k (pos x.offset) (fits_pos x.offset fits.offset) (stands_left b k (i64_bytes (pos x.offset)) tail h) in
    let behind : Stands b (k + 8) tail = right_at b k (i64_bytes (pos x.offset)) tail (k + 8) refl h in
    let metadata : signed_at w32 b (k + 8) ≡ Ok (pos x.metadata) = short_stands b (k + 8) x.metadata fits.metadata (stands_left b (k + 8) size (zeros 4 ++ i64_bytes (pos x.body)) behind) in
    let padding : Stands b (k + 12) (zeros 4 ++ i64_bytes (pos x.body)) = right_at b (k + 8) size (zeros 4 ++ i64_bytes (pos x.body)) (k + 12) (omega arith) behind in
    let body : signed_at w64 b (k + 16) ≡ Ok (pos x.body) = signed_stands b (k + 16) (pos x.body) (fits_pos x.body fits.body) (right_at b (k + 12) (zeros 4) (i64_bytes (pos x.body)) (k + 16) (omega arith) padding) in
    rw (offset, metadata, body) refl

blocks_from : (fault : FlatError → IpcError) (xs : List FileBlock) (b : List ℕ) (first i : ℕ) → AllByRecursion BlockFits xs → Stands b (first + 24 * i) (flat_map block_bytes xs) → each (λ j. block_at fault b (first + 24 * j)) i (length xs) ≡ Ok xs
unfolding bind
blocks_from fault [] b first i fits h = refl
blocks_from fault (x ∷ xs) b first i fits h =
    let u = block_bytes x in
    let v = flat_map block_bytes xs in
    let both : Stands b (first + 24 * i) (u ++ v) = subst (λ t. Stands b (first + 24 * i) t) (flat_map-cons block_bytes x xs) h in
    let here : block_at fault b (first + 24 * i) ≡ Ok x = block_back fault b (first + 24 * i) x fits.0 (stands_left b (first + 24 * i) u v both) in
    let others : each (λ j. block_at fault b (first + 24 * j)) (suc i) (length xs) ≡ Ok xs = blocks_from fault xs b first (suc i) fits.1 (right_at b (first + 24 * i) u v (first + 24 * suc i) (omega arith) both) in
    on _ _ x here ∙ on _ _ xs others

length-blocks : (xs : List FileBlock) → length (flat_map block_bytes xs) ≡ 24 * length xs
length-blocks [] = omega arith
length-blocks (x ∷ xs) = omega (arith, ap length (flat_map-cons block_bytes x xs), length-append (block_bytes x) (flat_map block_bytes xs), length-blocks xs)

-- the vector of some blocks, and what is read of it
record BlocksBack (xs : List FileBlock) (b : List ℕ) (t : Table) (i : ℕ) : Type 0 where
  vector : Vector
  found : slot_vector 24 b t i ≡ Ok (Some vector)
  read : (fault : FlatError → IpcError) → blocks_at fault b vector ≡ Ok xs

blocks_slot : (xs : List FileBlock) (s : Slots) (b : List ℕ) (t : Table) (i : ℕ) → AllByRecursion BlockFits xs → HoldsSlots (layout.child (blocks_node xs) s) b t i → BlocksBack xs b t i
blocks_slot xs s b t i fits h =
    let q = h.0.1 in
    let bytes : Stands b (q + 4) (flat_map block_bytes xs) = h.0.4.1 in
    let inside : q + 4 + length xs * 24 ≤ length b = omega (arith, within b (q + 4) (flat_map block_bytes xs) bytes, length-blocks xs) in
    let start : q + 4 ≡ q + 4 + 24 * 0 = omega arith in
    record {
      vector = record { first = q + 4; count = length xs };
      found = vector_there 24 b t i h.0.0 q (length xs) h.0.2 h.0.3 h.0.4.0 inside;
      read = λ fault. blocks_from fault xs b (q + 4) 0 fits (subst (λ k. Stands b k (flat_map block_bytes xs)) start bytes);
    }

-- ── the footer ──

abbrev footer_slots : Fields → Metadata → Metadata → List FileBlock → List FileBlock → Slots
footer_slots fs pairs custom dictionaries records = layout.value w16 (pos 4)
    (layout.child (schema_node little fs pairs) (layout.child (blocks_node dictionaries) (layout.child (blocks_node records) (custom_slot custom))))

footer_fits : (fs : Fields) (pairs custom : Metadata) (dictionaries records : List FileBlock) → SchemaMayBeWritten fs pairs → IdsMayBeWritten fs → BlocksFit dictionaries → BlocksFit records → Fits (footer_node fs pairs custom dictionaries records)
footer_fits fs pairs custom dictionaries records w ids d r =
    let last = custom_fits custom in
    (omega (arith, last.0), (omega arith, (schema_fits little fs pairs w.fit ids.within, (d.count, (r.count, last.1)))))

pub footer_back : FooterReadsBack
unfolding meta_in
footer_back fs pairs custom dictionaries records rest w ids may d r short =
    let b = layout.layout (footer_node fs pairs custom dictionaries records) ++ rest in
    let back = layout_back (footer_slots fs pairs custom dictionaries records) rest (footer_fits fs pairs custom dictionaries records w ids d r) short in
    let t = back.root_table in
    let s = back.slots.1.0 in
    let schema : Schema = record { order = little; fields = fs; metadata = pairs } in
    let schema_is = schema_back little fs pairs b s.4.0 w ids s.4.2 in
    let held = blocks_slot dictionaries (layout.child (blocks_node records) (custom_slot custom)) b t 2 d.numbers back.slots.1.1 in
    let blocks = blocks_slot records (custom_slot custom) b t 3 r.numbers back.slots.1.1.1 in (
      on _ _ t (ap (λ x. as_kind kinds.InvalidFlatbufferFooter x) back.found)
          ∙ on _ _ blocks.vector (on _ (λ v. required (OutOfSpec kinds.MissingRecordBatches) v) (Some blocks.vector) (ap (λ x. as_kind kinds.InvalidFlatbufferRecordBatches x) blocks.found))
          ∙ on _ _ records (blocks.read (λ e. OutOfSpec (kinds.InvalidFlatbufferRecordBatches e)))
          ∙ on _ _ (Some held.vector) (ap (λ x. as_kind kinds.InvalidFlatbufferDictionaries x) held.found)
          ∙ on _ _ dictionaries (held.read (λ e. OutOfSpec (kinds.InvalidFlatbufferDictionaries e)))
          ∙ on _ _ s.4.0 (on _ (λ v. required (OutOfSpec kinds.MissingSchema) v) (Some s.4.0) (ap (λ x. as_kind kinds.InvalidFlatbufferSchema x) (table_there b t 1 s.0 s.1 s.4.0 s.2 s.3 s.4.1)))
          ∙ on _ _ schema schema_is,
      custom_back kinds.InvalidFlatbufferFooter custom b t may back.found back.slots.1.1.1.1,
    )

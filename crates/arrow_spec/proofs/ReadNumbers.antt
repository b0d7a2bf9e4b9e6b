-- Sizes and ids that are read of bytes fit their widths.
use Rattle.std.proofs.Common.{◌≡◌, ℕ, zero, suc, ◌+◌, ◌^◌, ◌<◌, List, [], length, take, drop, get_or, Option, Some, None, Ok, refl, subst, sym, arith, true, false, Bool, ℤ, pos, negsuc, SFits, cond}
use Rattle.std.specs.Prelude.{nat_eq, nat_le, nat_lt, ◌&&◌}
use Rattle.std.specs.Int.{w32, w64, from_le_bytes, cast_signed}
use Rattle.std.proofs.Math.Facts.{sfits_to_z}
use Rattle.std.proofs.lemmas.List.{get_or-take, get_or-drop}
use Rattle.arrow_spec.specs.declared.types.UnionMode.TheVariants.{Dense, Sparse}
use Rattle.arrow_spec.specs.Readings.{bind, ◌>>=◌, Reading, required}
use Rattle.arrow_spec.specs.Flat.{Table, slot, if_present, or_default, unsigned_at, signed_at, slot_signed}
use Rattle.arrow_spec.specs.Kinds as kind
use Rattle.arrow_spec.specs.Kinds.{Kind, Fields, Metadata, Use, small, large, uses_in, uses_of}
use Rattle.arrow_spec.specs.Schema as schema
use Rattle.arrow_spec.specs.Schema.{Encoding, Tag, schema_part, natural_slot, positive, natural_scale, encoding_at, with_encoding, with_extension, type_at, decimal_at, time_at, timestamp_at, union_at, encoding_in, value_of, extension_name, extension_metadata}
use Rattle.arrow_spec.specs.Laws.{AreBytes}
use Rattle.arrow_spec.specs.WrittenSchemas.{AreIds, AreSizes, sizes_in, sizes_of}
use Rattle.arrow_spec.proofs.ReadPairs.{goes, in_schema, same_read, through}
use Rattle.arrow_spec.proofs.ReadTypes.{time_by}
use Rattle.arrow_spec.proofs.ExtensionPairs.{extension_there, no_extension}

-- ── numbers at a place ──

-- what is read where there are so many bytes
at_place : (t : Bool) (x : List ℕ) (n : ℕ) → Rattle.arrow_spec.specs.Flat.in_range (Rattle.arrow_spec.specs.Flat.fold_number Rattle.arrow_spec.specs.Flat.little w32 (cond t (Some x) None)) ≡ Ok n → from_le_bytes w32 x ≡ n
at_place true x n h = cc
at_place false x n h = cc

at_place64 : (t : Bool) (x : List ℕ) (n : ℕ) → Rattle.arrow_spec.specs.Flat.in_range (Rattle.arrow_spec.specs.Flat.fold_number Rattle.arrow_spec.specs.Flat.little w64 (cond t (Some x) None)) ≡ Ok n → from_le_bytes w64 x ≡ n
at_place64 true x n h = cc
at_place64 false x n h = cc

byte : (b : List ℕ) (at n i : ℕ) → AreBytes b → i < n → get_or (take n (drop at b)) i 0 < 256
byte b at n i bytes h = rw (get_or-take n (drop at b) i 0 h, get_or-drop at b i 0) (omega (arith, bytes (at + i)))

four : (b : List ℕ) (at : ℕ) → AreBytes b → from_le_bytes w32 (take 4 (drop at b)) < 2 ^ 32
four b at bytes = omega (arith, byte b at 4 0 bytes (omega arith), byte b at 4 1 bytes (omega arith), byte b at 4 2 bytes (omega arith), byte b at 4 3 bytes (omega arith))

eight : (b : List ℕ) (at : ℕ) → AreBytes b → from_le_bytes w64 (take 8 (drop at b)) < 2 ^ 64
eight b at bytes = omega (arith, byte b at 8 0 bytes (omega arith), byte b at 8 1 bytes (omega arith), byte b at 8 2 bytes (omega arith), byte b at 8 3 bytes (omega arith), byte b at 8 4 bytes (omega arith), byte b at 8 5 bytes (omega arith), byte b at 8 6 bytes (omega arith), byte b at 8 7 bytes (omega arith))

signed32 : (b : List ℕ) (at : ℕ) (z : ℤ) → AreBytes b → signed_at w32 b at ≡ Ok z → SFits w32 z
signed32 b at z bytes h =
    let n = goes (unsigned_at w32 b at) _ z h in
    let same : from_le_bytes w32 (take 4 (drop at b)) ≡ n.got = at_place (nat_le (at + 4) (length b)) (take 4 (drop at b)) n.got (n.first) in
    let small : n.got < 2 ^ 32 = subst (λ m. m < 2 ^ 32) same (four b at bytes) in
    let e : cast_signed w32 n.got ≡ z = cc (n.rest) in
    subst (λ x. SFits w32 x) e (sfits_to_z (record { fits = small }))

signed64 : (b : List ℕ) (at : ℕ) (z : ℤ) → AreBytes b → signed_at w64 b at ≡ Ok z → SFits w64 z
signed64 b at z bytes h =
    let n = goes (unsigned_at w64 b at) _ z h in
    let same : from_le_bytes w64 (take 8 (drop at b)) ≡ n.got = at_place64 (nat_le (at + 8) (length b)) (take 8 (drop at b)) n.got (n.first) in
    let small : n.got < 2 ^ 64 = subst (λ m. m < 2 ^ 64) same (eight b at bytes) in
    let e : cast_signed w64 n.got ≡ z = cc (n.rest) in
    subst (λ x. SFits w64 x) e (sfits_to_z (record { fits = small }))

-- ── numbers in slots ──

present32 : (b : List ℕ) (p : Option ℕ) (d : ℤ) (x : Option ℤ) → AreBytes b → SFits w32 d → if_present (signed_at w32 b) p ≡ Ok x → SFits w32 (or_default d x)
present32 b None d x bytes fits h = let e : None ≡ x = cc in subst (λ y. SFits w32 (or_default d y)) e fits
present32 b (Some p) d x bytes fits h =
    let z = goes (signed_at w32 b p) _ x h in
    let e : Some z.got ≡ x = cc (z.rest) in
    subst (λ y. SFits w32 (or_default d y)) e (signed32 b p z.got bytes z.first)

present64 : (b : List ℕ) (p : Option ℕ) (d : ℤ) (x : Option ℤ) → AreBytes b → SFits w64 d → if_present (signed_at w64 b) p ≡ Ok x → SFits w64 (or_default d x)
present64 b None d x bytes fits h = let e : None ≡ x = cc in subst (λ y. SFits w64 (or_default d y)) e fits
present64 b (Some p) d x bytes fits h =
    let z = goes (signed_at w64 b p) _ x h in
    let e : Some z.got ≡ x = cc (z.rest) in
    subst (λ y. SFits w64 (or_default d y)) e (signed64 b p z.got bytes z.first)

slot32 : (d : ℤ) (b : List ℕ) (t : Table) (i : ℕ) (z : ℤ) → AreBytes b → SFits w32 d → schema_part (slot_signed w32 d b t i) ≡ Ok z → SFits w32 z
slot32 d b t i z bytes fits h =
    let p = goes (slot b t i) _ z (in_schema _ z h) in
    let x = goes (if_present (signed_at w32 b) p.got) _ z p.rest in
    let e : or_default d x.got ≡ z = cc (x.rest) in
    subst (λ y. SFits w32 y) e (present32 b p.got d x.got bytes fits x.first)

slot64 : (d : ℤ) (b : List ℕ) (t : Table) (i : ℕ) (z : ℤ) → AreBytes b → SFits w64 d → schema_part (slot_signed w64 d b t i) ≡ Ok z → SFits w64 z
slot64 d b t i z bytes fits h =
    let p = goes (slot b t i) _ z (in_schema _ z h) in
    let x = goes (if_present (signed_at w64 b) p.got) _ z p.rest in
    let e : or_default d x.got ≡ z = cc (x.rest) in
    subst (λ y. SFits w64 y) e (present64 b p.got d x.got bytes fits x.first)

natural_by : (d : ℕ) (b : List ℕ) (t : Table) (i n : ℕ) (z : ℤ) → SFits w32 z → schema_part (slot_signed w32 (pos d) b t i) ≡ Ok z → natural_slot d b t i ≡ Ok n → n < 2 ^ 31
unfolding bind
natural_by d b t i n (pos m) fits e h = let same : m ≡ n = same_read m n (rw e at h) in subst (λ x. x < 2 ^ 31) same fits.sfits
natural_by d b t i n (negsuc m) fits e h = refused (rw e at h)
  where
    refused : {P : Type 0} → Rattle.arrow_spec.specs.Readings.damaged {A = ℕ} Rattle.arrow_spec.specs.declared.error.OutOfSpecKind.TheVariants.UnexpectedNegativeInteger ≡ Ok n → P
    refused g = cc

natural_small : (d : ℕ) (b : List ℕ) (t : Table) (i n : ℕ) → AreBytes b → d < 2 ^ 31 → natural_slot d b t i ≡ Ok n → n < 2 ^ 31
natural_small d b t i n bytes few h = through _ _ n h λ z z_is rest. natural_by d b t i n z (slot32 (pos d) b t i z bytes (record { sfits = few }) z_is) z_is h

scale_small : (z : ℤ) (n : ℕ) → SFits w32 z → natural_scale z ≡ Ok n → n < 2 ^ 31
scale_small (pos m) n fits h = let e : m ≡ n = same_read m n h in subst (λ x. x < 2 ^ 31) e fits.sfits
scale_small (negsuc m) n fits h = cc

positive_same : (m n : ℕ) → positive m ≡ Ok n → m ≡ n
positive_same zero n h = cc
positive_same (suc m) n h = same_read _ n h

-- ── numbers of a kind ──

-- the sizes and ids of a kind and of fields fit
pub record NumbersFit (sizes : List ℕ) (uses : List Use) : Type 0 where
  pub sizes_fit : AreSizes sizes
  pub ids_fit : AreIds uses

abbrev pub KindNumbers : Kind → Type 0
KindNumbers k = NumbersFit (sizes_of k) (uses_of k)

no_numbers : NumbersFit [] []
no_numbers = record { sizes_fit = tt; ids_fit = tt }

built_flat : (fs : Fields) (k : Kind) (build : Fields → Kind) → schema.flat k ≡ Ok build → KindNumbers k → KindNumbers (build fs)
built_flat fs k build h r = subst (λ f. KindNumbers (f fs)) (same_read (λ g. k) build h) r

float_numbers : (n : ℕ) → KindNumbers (schema.float_of n)
float_numbers zero = no_numbers
float_numbers (suc zero) = no_numbers
float_numbers (suc (suc n)) = no_numbers

date_numbers : (n : ℕ) → KindNumbers (schema.date_of n)
date_numbers zero = no_numbers
date_numbers (suc n) = no_numbers

interval_numbers : (n : ℕ) → KindNumbers (schema.interval_of n)
interval_numbers zero = no_numbers
interval_numbers (suc zero) = no_numbers
interval_numbers (suc (suc n)) = no_numbers

time_numbers : (bits unit : ℕ) (k : Kind) → schema.time_of bits unit ≡ Ok k → KindNumbers k
time_numbers bits unit k h = by_tests (nat_eq bits 32 && nat_lt unit 2) (nat_eq bits 64 && nat_le 2 unit) h
  where
    by_tests : (low high : Bool) → time_by low high unit ≡ Ok k → KindNumbers k
    by_tests true high g = subst KindNumbers (same_read _ k g) no_numbers
    by_tests false true g = subst KindNumbers (same_read _ k g) no_numbers
    by_tests false false g = cc

decimal_numbers : (bits precision scale : ℕ) (k : Kind) → precision < 2 ^ 31 → scale < 2 ^ 31 → schema.decimal_of bits precision scale ≡ Ok k → KindNumbers k
unfolding bind
decimal_numbers bits precision scale k p s h = by_tests (nat_eq bits 128) (nat_eq bits 256) (nat_eq bits 32) (nat_eq bits 64) h
  where
    by_tests : (a b c d : Bool)
        → (required (Rattle.arrow_spec.specs.declared.error.IpcError.TheVariants.OutOfSpec Rattle.arrow_spec.specs.declared.error.OutOfSpecKind.TheVariants.InvalidDataType) (cond a (Some (Ok (kind.decimal precision scale))) (cond b (Some (Ok (kind.decimal256 precision scale))) (cond c (Some (Rattle.arrow_spec.specs.Readings.unsupported Rattle.arrow_spec.specs.declared.error.Feature.TheVariants.DecimalWidth)) (cond d (Some (Rattle.arrow_spec.specs.Readings.unsupported Rattle.arrow_spec.specs.declared.error.Feature.TheVariants.DecimalWidth)) None)))) >>= λ x. x) ≡ Ok k
        → KindNumbers k
    by_tests true b c d g = subst KindNumbers (same_read _ k g) (record { sizes_fit = (p, (s, tt)); ids_fit = tt })
    by_tests false true c d g = subst KindNumbers (same_read _ k g) (record { sizes_fit = (p, (s, tt)); ids_fit = tt })
    by_tests false false true d g = cc
    by_tests false false false true g = cc
    by_tests false false false false g = cc

one_build : (n : ℕ) (f build : Fields → Kind) → schema.of_one_child n f ≡ Ok build → f ≡ build
one_build n f build h = through _ _ build h λ u one rest. same_read f build rest

-- a type that is read, of fields whose numbers fit
pub type_numbers : (b : List ℕ) (t : Table) (n : ℕ) (tag : Tag) (fs : Fields) (build : Fields → Kind) → AreBytes b → type_at b t n tag ≡ Ok build → NumbersFit (sizes_in fs) (uses_in fs) → KindNumbers (build fs)
unfolding type_at decimal_at time_at timestamp_at union_at
type_numbers b t n schema.null fs build bytes h below = built_flat fs kind.null build h no_numbers
type_numbers b t n schema.int fs build bytes h below = through _ _ build h λ i i_is h1. built_flat fs (kind.integer i) build h1 no_numbers
type_numbers b t n schema.floating_point fs build bytes h below = through _ _ build h λ i i_is h1. built_flat fs (schema.float_of i) build h1 (float_numbers i)
type_numbers b t n schema.binary fs build bytes h below = built_flat fs (kind.binary small) build h no_numbers
type_numbers b t n schema.utf8 fs build bytes h below = built_flat fs (kind.utf8 small) build h no_numbers
type_numbers b t n schema.bool fs build bytes h below = built_flat fs kind.boolean build h no_numbers
type_numbers b t n schema.decimal fs build bytes h below =
    through _ _ build h λ k k_is h1. through _ _ k k_is λ precision p_is g1. through _ _ k g1 λ scale s_is g2. through _ _ scale s_is λ z z_is z_scale. through _ _ k g2 λ bits b_is g3.
    built_flat fs k build h1 (decimal_numbers bits precision scale k (natural_small 0 b t 0 precision bytes (omega arith) p_is) (scale_small z scale (slot32 (pos 0) b t 1 z bytes (record { sfits = omega arith }) z_is) z_scale) g3)
type_numbers b t n schema.date fs build bytes h below = through _ _ build h λ i i_is h1. built_flat fs (schema.date_of i) build h1 (date_numbers i)
type_numbers b t n schema.time fs build bytes h below = through _ _ build h λ k k_is h1. through _ _ k k_is λ unit u_is g1. through _ _ k g1 λ bits b_is g2. built_flat fs k build h1 (time_numbers bits unit k g2)
type_numbers b t n schema.timestamp fs build bytes h below = through _ _ build h λ k k_is h1. through _ _ k k_is λ unit u_is g1. through _ _ k g1 λ tz tz_is g2. built_flat fs k build h1 (subst KindNumbers (same_read _ k g2) no_numbers)
type_numbers b t n schema.interval fs build bytes h below = through _ _ build h λ i i_is h1. built_flat fs (schema.interval_of i) build h1 (interval_numbers i)
type_numbers b t n schema.«list» fs build bytes h below = subst (λ f. KindNumbers (f fs)) (one_build n (λ gs. kind.«list» small gs) build h) below
type_numbers b t n schema.struct fs build bytes h below = subst (λ f. KindNumbers (f fs)) (same_read (λ gs. kind.struct gs) build h) below
type_numbers b t n schema.union fs build bytes h below =
    through _ _ build h λ mode mode_is h1. through _ _ build h1 λ ids ids_are h2. subst (λ f. KindNumbers (f fs)) (same_read (λ gs. kind.union (cond (nat_eq mode 0) Sparse Dense) ids.0 ids.1 gs) build h2) below
type_numbers b t n schema.fixed_size_binary fs build bytes h below =
    through _ _ build h λ w w_is h1. through _ _ w w_is λ m m_is g1. built_flat fs (kind.fixed_size_binary w) build h1 (record { sizes_fit = (subst (λ x. x < 2 ^ 31) (positive_same m w g1) (natural_small 0 b t 0 m bytes (omega arith) m_is), tt); ids_fit = tt })
type_numbers b t n schema.fixed_size_list fs build bytes h below =
    through _ _ build h λ w w_is h1. through _ _ w w_is λ m m_is g1.
    subst (λ f. KindNumbers (f fs)) (one_build n (λ gs. kind.fixed_size_list w gs) build h1) (record { sizes_fit = (subst (λ x. x < 2 ^ 31) (positive_same m w g1) (natural_small 0 b t 0 m bytes (omega arith) m_is), below.sizes_fit); ids_fit = below.ids_fit })
type_numbers b t n schema.map_of fs build bytes h below = through _ _ build h λ sorted sorted_is h1. subst (λ f. KindNumbers (f fs)) (one_build n (λ gs. kind.map sorted gs) build h1) below
type_numbers b t n schema.duration fs build bytes h below = through _ _ build h λ u u_is h1. built_flat fs (kind.duration (schema.unit_of u)) build h1 no_numbers
type_numbers b t n schema.large_binary fs build bytes h below = built_flat fs (kind.binary large) build h no_numbers
type_numbers b t n schema.large_utf8 fs build bytes h below = built_flat fs (kind.utf8 large) build h no_numbers
type_numbers b t n schema.large_list fs build bytes h below = subst (λ f. KindNumbers (f fs)) (one_build n (λ gs. kind.«list» large gs) build h) below
type_numbers b t n schema.run_end_encoded fs build bytes h below = cc
type_numbers b t n schema.binary_view fs build bytes h below = built_flat fs kind.binary_view build h no_numbers
type_numbers b t n schema.utf8_view fs build bytes h below = built_flat fs kind.utf8_view build h no_numbers
type_numbers b t n schema.list_view fs build bytes h below = cc
type_numbers b t n schema.large_list_view fs build bytes h below = cc

-- ── dictionaries and extensions ──

-- a dictionary's id fits
abbrev pub IdFits : Option Encoding → Type 0
IdFits None = Unit {0}
IdFits (Some e) = SFits w64 e.id

pub encoding_fits : (b : List ℕ) (t : Table) (e : Option Encoding) → AreBytes b → encoding_at b t ≡ Ok e → IdFits e
unfolding encoding_at
encoding_fits b t e bytes h = through _ _ e h λ table table_is rest. by_table table rest
  where
    by_table : (table : Option Table) → encoding_in b table ≡ Ok e → IdFits e
    by_table None g = let nothing : None ≡ e = same_read None e g in subst IdFits nothing tt
    by_table (Some t') g =
        through _ _ e g λ id id_is g1. through _ _ e g1 λ index index_is g2. through _ _ e g2 λ ordered ordered_is g3.
        subst IdFits (same_read _ e g3) (slot64 (pos 0) b t' 0 id bytes (record { sfits = omega arith }) id_is)

with_id : (e : Option Encoding) (k : Kind) → IdFits e → KindNumbers k → KindNumbers (with_encoding e k)
with_id None k h r = r
with_id (Some e) k h r = record { sizes_fit = r.sizes_fit; ids_fit = (h, r.ids_fit) }

-- a field's kind, with its extension and dictionary
pub field_numbers : (e : Option Encoding) (m : Metadata) (k : Kind) → IdFits e → KindNumbers k → KindNumbers (with_encoding e (with_extension m k))
field_numbers e m k h r = by_name (value_of extension_name m) refl
  where
    by_name : (o : Option (List ℕ)) → value_of extension_name m ≡ o → KindNumbers (with_encoding e (with_extension m k))
    by_name None n = subst (λ x. KindNumbers (with_encoding e x)) (sym (no_extension m k n)) (with_id e k h r)
    by_name (Some name) n = subst (λ x. KindNumbers (with_encoding e x)) (sym (extension_there name (value_of extension_metadata m) m k n refl)) (with_id e (kind.extension name (value_of extension_metadata m) k) h r)

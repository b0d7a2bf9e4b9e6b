-- A type that is read may be written, whatever is read as its children, and with its extension and dictionary.
use Rattle.std.proofs.Common.{◌≡◌, ℕ, zero, suc, ◌+◌, ◌*◌, ◌<◌, ◌≤◌, List, ◌∷◌, length, Option, Some, None, Ok, refl, sym, ap, ◌∙◌, subst, arith, true, false, Bool, ◌&&◌, cond, ℤ, not}
use Rattle.std.specs.Prelude.{nat_lt, nat_le, nat_eq}
use Rattle.std.specs.Int.{w32}
use Rattle.std.proofs.lemmas.Bool.{and_parts, eqb-true, ltb-true}
use Rattle.arrow_spec.specs.declared.error.IpcError.TheVariants.{OutOfSpec}
use Rattle.arrow_spec.specs.declared.error.OutOfSpecKind.TheVariants.{InvalidDataType}
use Rattle.arrow_spec.specs.declared.types.IntegerType.{IntegerType}
use Rattle.arrow_spec.specs.declared.types.UnionMode.TheVariants.{Dense, Sparse}
use Rattle.arrow_spec.specs.Readings.{bind, ◌>>=◌, Reading, only_if, unsupported, each, is_absent, required}
use Rattle.arrow_spec.specs.Flat.{Table, Vector, signed_at}
use Rattle.arrow_spec.specs.Kinds as kind
use Rattle.arrow_spec.specs.Kinds.{Kind, Fields, Metadata, none, small, large, width, unit_number}
use Rattle.arrow_spec.specs.Schema as schema
use Rattle.arrow_spec.specs.Schema.{Before, Encoding, Tag, is_nested, are_ids, counted_ids, schema_part, natural_slot, choice, positive, one_of, time_of, unit_of, decimal_of, decimal_at, time_at, timestamp_at, of_one_child, flat, ids_at, union_at, integer_at, type_at, is_whole, first_is_struct_of_two, value_of, extension_name, extension_metadata, own_pairs, with_extension, with_encoding}
use Rattle.arrow_spec.specs.WrittenSchemas.{AreSizes, AreStated, FieldsFit, IsText, KindFits, Part, of_field, of_dictionary, of_extension, after_fields, after_kind, pairs_for, sizes_in, sizes_of}
use Rattle.arrow_spec.proofs.SchemaPairs.{AreTexts}
use Rattle.arrow_spec.proofs.ExtensionPairs.{extension_there, no_extension}
use Rattle.arrow_spec.proofs.ReadPairs.{is_true, length_own, own_few, same_read, slot_text_is, through, value_is_text}

-- neither a dictionary nor an extension
abbrev pub is_plain : Kind → Bool
is_plain (kind.dictionary t ordered id k) = false
is_plain (kind.extension name metadata k) = false
is_plain k = true

-- a kind that is read of such fields: it fits, and counts what they count
pub record TypeRead (levels : ℕ) (fs : Fields) (k : Kind) : Type 0 where
  pub fits : (at : Part) → is_whole k ≡ true → AreSizes (sizes_of k) → KindFits at levels k
  pub plain : is_plain k ≡ true
  pub counts : (p : Before) → after_kind k p ≡ after_fields fs p
  pub sizes : AreSizes (sizes_of k) → AreSizes (sizes_in fs)

-- what the fields below have to hold
pub record ChildrenRead (levels n : ℕ) (fs : Fields) : Type 0 where
  pub fit : AreSizes (sizes_in fs) → FieldsFit levels fs
  pub count : width fs ≡ n

-- ── kinds without children ──

flat_read : (levels : ℕ) (fs : Fields) (k : Kind) → fs ≡ none → ((at : Part) → AreSizes (sizes_of k) → KindFits at levels k) → is_plain k ≡ true → ((p : Before) → after_kind k p ≡ p) → TypeRead levels fs k
flat_read levels fs k e fits plain same = record {
  fits = λ at whole sizes. fits at sizes;
  plain = plain;
  counts = λ p. same p ∙ ap (λ g. after_fields g p) (sym e);
  sizes = λ s. subst (λ g. AreSizes (sizes_in g)) (sym e) tt;
}

-- a reading of one kind without children
is_flat : (levels : ℕ) (fs : Fields) (k : Kind) (build : Fields → Kind) → flat k ≡ Ok build → TypeRead levels fs k → TypeRead levels fs (build fs)
is_flat levels fs k build h r = subst (λ f. TypeRead levels fs (f fs)) (same_read (λ g. k) build h) r

float_read : (n levels : ℕ) (fs : Fields) → fs ≡ none → TypeRead levels fs (schema.float_of n)
float_read zero levels fs e = flat_read levels fs (kind.float kind.half) e (λ at s. tt) refl (λ p. refl)
float_read (suc zero) levels fs e = flat_read levels fs (kind.float kind.single) e (λ at s. tt) refl (λ p. refl)
float_read (suc (suc n)) levels fs e = flat_read levels fs (kind.float kind.double) e (λ at s. tt) refl (λ p. refl)

date_read : (n levels : ℕ) (fs : Fields) → fs ≡ none → TypeRead levels fs (schema.date_of n)
date_read zero levels fs e = flat_read levels fs kind.date32 e (λ at s. tt) refl (λ p. refl)
date_read (suc n) levels fs e = flat_read levels fs kind.date64 e (λ at s. tt) refl (λ p. refl)

interval_read : (n levels : ℕ) (fs : Fields) → fs ≡ none → TypeRead levels fs (schema.interval_of n)
interval_read zero levels fs e = flat_read levels fs (schema.interval_of 0) e (λ at s. tt) refl (λ p. refl)
interval_read (suc zero) levels fs e = flat_read levels fs (schema.interval_of 1) e (λ at s. tt) refl (λ p. refl)
interval_read (suc (suc n)) levels fs e = flat_read levels fs (schema.interval_of 2) e (λ at s. tt) refl (λ p. refl)

low_unit : (n : ℕ) → nat_lt n 2 ≡ true → nat_lt (unit_number (unit_of n)) 2 ≡ true
low_unit zero h = refl
low_unit (suc zero) h = refl
low_unit (suc (suc n)) h = absurd (omega (arith, ltb-true (suc (suc n)) 2 h))

high_unit : (n : ℕ) → nat_le 2 n ≡ true → nat_le 2 (unit_number (unit_of n)) ≡ true
high_unit zero h = cc
high_unit (suc zero) h = cc
high_unit (suc (suc zero)) h = refl
high_unit (suc (suc (suc n))) h = refl

abbrev pub time_by : Bool → Bool → ℕ → Reading Kind
time_by low high unit = elim low [ true ↦ Ok (kind.time32 (unit_of unit)) | false ↦ elim high [ true ↦ Ok (kind.time64 (unit_of unit)) | false ↦ Rattle.arrow_spec.specs.Readings.damaged InvalidDataType ] ]

time_read : (bits unit levels : ℕ) (fs : Fields) (k : Kind) → fs ≡ none → time_of bits unit ≡ Ok k → TypeRead levels fs k
time_read bits unit levels fs k e h = by_tests (nat_eq bits 32 && nat_lt unit 2) (nat_eq bits 64 && nat_le 2 unit) (λ t. (and_parts (nat_eq bits 32) (nat_lt unit 2) t).1) (λ t. (and_parts (nat_eq bits 64) (nat_le 2 unit) t).1) h
  where
    by_tests : (low high : Bool) → (low ≡ true → nat_lt unit 2 ≡ true) → (high ≡ true → nat_le 2 unit ≡ true) → time_by low high unit ≡ Ok k → TypeRead levels fs k
    by_tests true high is_low is_high g = subst (λ x. TypeRead levels fs x) (same_read _ k g) (flat_read levels fs (kind.time32 (unit_of unit)) e (λ at s. low_unit unit (is_low refl)) refl (λ p. refl))
    by_tests false true is_low is_high g = subst (λ x. TypeRead levels fs x) (same_read _ k g) (flat_read levels fs (kind.time64 (unit_of unit)) e (λ at s. high_unit unit (is_high refl)) refl (λ p. refl))
    by_tests false false is_low is_high g = cc

decimal_read : (bits precision scale levels : ℕ) (fs : Fields) (k : Kind) → fs ≡ none → decimal_of bits precision scale ≡ Ok k → TypeRead levels fs k
unfolding bind
decimal_read bits precision scale levels fs k e h = by_tests (nat_eq bits 128) (nat_eq bits 256) (nat_eq bits 32) (nat_eq bits 64) h
  where
    by_tests : (a b c d : Bool)
        → (required (OutOfSpec InvalidDataType) (cond a (Some (Ok (kind.decimal precision scale))) (cond b (Some (Ok (kind.decimal256 precision scale))) (cond c (Some (unsupported Rattle.arrow_spec.specs.declared.error.Feature.TheVariants.DecimalWidth)) (cond d (Some (unsupported Rattle.arrow_spec.specs.declared.error.Feature.TheVariants.DecimalWidth)) None)))) >>= λ x. x) ≡ Ok k
        → TypeRead levels fs k
    by_tests true b c d g = subst (λ x. TypeRead levels fs x) (same_read _ k g) (flat_read levels fs (kind.decimal precision scale) e (λ at s. (s.0, s.1.0)) refl (λ p. refl))
    by_tests false true c d g = subst (λ x. TypeRead levels fs x) (same_read _ k g) (flat_read levels fs (kind.decimal256 precision scale) e (λ at s. (s.0, s.1.0)) refl (λ p. refl))
    by_tests false false true d g = cc
    by_tests false false false true g = cc
    by_tests false false false false g = cc

above : (n m : ℕ) → positive n ≡ Ok m → 0 < m
above zero m h = cc
above (suc n) m h = let e : suc n ≡ m = same_read _ m h in subst (λ x. 0 < x) e (omega arith)

-- ── kinds with children ──

one_child : (n : ℕ) (f build : Fields → Kind) → of_one_child n f ≡ Ok build → (n ≡ 1) × (f ≡ build)
one_child n f build h = through _ _ build h λ u one rest. (eqb-true n 1 (is_true (nat_eq n 1) _ u one), same_read f build rest)

-- ids that are stated, or count from 0
abbrev ids_by : ℕ → Option Vector → List ℕ → Reading (List ℤ)
ids_by n v b = elim v [ None ↦ Ok (counted_ids 0 n) | Some w ↦ schema_part (each (λ i. signed_at w32 b (w.first + 4 * i)) 0 w.count) ]

ids_stated : (n : ℕ) (v : Option Vector) (ids : List ℤ) (b : List ℕ) → ids_by n v b ≡ Ok ids → AreStated (not (is_absent v)) ids n
ids_stated n None ids b h = sym (same_read _ ids h)
ids_stated n (Some w) ids b h = tt

-- what is read of a union's ids
record IdsRead (n : ℕ) (ids : Bool × List ℤ) : Type 0 where
  right : (are_ids ids.1 && nat_eq (length ids.1) n && nat_lt 0 n) ≡ true
  said : AreStated ids.0 ids.1 n

ids_read : (b : List ℕ) (t : Table) (n : ℕ) (ids : Bool × List ℤ) → ids_at b t n ≡ Ok ids → IdsRead n ids
unfolding ids_at
ids_read b t n ids h =
    through _ _ ids h λ v v_is h1. through _ _ ids h1 λ is is_is h2. through _ _ ids h2 λ u right h3.
    subst (λ x. IdsRead n x) (same_read _ ids h3) (record { right = is_true _ _ u right; said = ids_stated n v is b is_is })

union_read : (mode : Bool) (ids : Bool × List ℤ) (levels n : ℕ) (fs : Fields) → IdsRead n ids → ChildrenRead levels n fs → TypeRead levels fs (kind.union (cond mode Sparse Dense) ids.0 ids.1 fs)
union_read mode ids levels n fs is below = record {
  fits = λ at whole sizes. (subst (λ m. (are_ids ids.1 && nat_eq (length ids.1) m && nat_lt 0 m) ≡ true) (sym below.count) is.right, subst (λ m. AreStated ids.0 ids.1 m) (sym below.count) is.said, below.fit sizes);
  plain = refl;
  counts = λ p. refl;
  sizes = λ s. s;
}

-- ── a type by its tag ──

pub type_read : (b : List ℕ) (t : Table) (levels n : ℕ) (tag : Tag) (fs : Fields) (build : Fields → Kind) → type_at b t n tag ≡ Ok build → ChildrenRead levels n fs → (is_nested tag ≡ false → fs ≡ none) → TypeRead levels fs (build fs)
unfolding type_at decimal_at time_at timestamp_at union_at
type_read b t levels n schema.null fs build h below nothing = is_flat levels fs kind.null build h (flat_read levels fs kind.null (nothing refl) (λ at s. tt) refl (λ p. refl))
type_read b t levels n schema.int fs build h below nothing = through _ _ build h λ i i_is h1. is_flat levels fs (kind.integer i) build h1 (flat_read levels fs (kind.integer i) (nothing refl) (λ at s. tt) refl (λ p. refl))
type_read b t levels n schema.floating_point fs build h below nothing = through _ _ build h λ i i_is h1. is_flat levels fs (schema.float_of i) build h1 (float_read i levels fs (nothing refl))
type_read b t levels n schema.binary fs build h below nothing = is_flat levels fs (kind.binary small) build h (flat_read levels fs (kind.binary small) (nothing refl) (λ at s. tt) refl (λ p. refl))
type_read b t levels n schema.utf8 fs build h below nothing = is_flat levels fs (kind.utf8 small) build h (flat_read levels fs (kind.utf8 small) (nothing refl) (λ at s. tt) refl (λ p. refl))
type_read b t levels n schema.bool fs build h below nothing = is_flat levels fs kind.boolean build h (flat_read levels fs kind.boolean (nothing refl) (λ at s. tt) refl (λ p. refl))
type_read b t levels n schema.decimal fs build h below nothing =
    through _ _ build h λ k k_is h1. through _ _ k k_is λ precision p_is g1. through _ _ k g1 λ scale s_is g2. through _ _ k g2 λ bits b_is g3. is_flat levels fs k build h1 (decimal_read bits precision scale levels fs k (nothing refl) g3)
type_read b t levels n schema.date fs build h below nothing = through _ _ build h λ i i_is h1. is_flat levels fs (schema.date_of i) build h1 (date_read i levels fs (nothing refl))
type_read b t levels n schema.time fs build h below nothing =
    through _ _ build h λ k k_is h1. through _ _ k k_is λ unit u_is g1. through _ _ k g1 λ bits b_is g2. is_flat levels fs k build h1 (time_read bits unit levels fs k (nothing refl) g2)
type_read b t levels n schema.timestamp fs build h below nothing =
    through _ _ build h λ k k_is h1. through _ _ k k_is λ unit u_is g1. through _ _ k g1 λ tz tz_is g2.
    let text : IsText tz = slot_text_is b t 1 tz tz_is in
    is_flat levels fs k build h1 (subst (λ x. TypeRead levels fs x) (same_read _ k g2) (flat_read levels fs (kind.timestamp (unit_of unit) tz) (nothing refl) (λ at s. text) refl (λ p. refl)))
type_read b t levels n schema.interval fs build h below nothing = through _ _ build h λ i i_is h1. is_flat levels fs (schema.interval_of i) build h1 (interval_read i levels fs (nothing refl))
type_read b t levels n schema.«list» fs build h below nothing =
    let one = one_child n (λ gs. kind.«list» small gs) build h in
    subst (λ f. TypeRead levels fs (f fs)) one.1 (record { fits = λ at whole sizes. (below.count ∙ one.0, below.fit sizes); plain = refl; counts = λ p. refl; sizes = λ s. s })
type_read b t levels n schema.struct fs build h below nothing = subst (λ f. TypeRead levels fs (f fs)) (same_read (λ gs. kind.struct gs) build h) (record { fits = λ at whole sizes. below.fit sizes; plain = refl; counts = λ p. refl; sizes = λ s. s })
type_read b t levels n schema.union fs build h below nothing =
    through _ _ build h λ mode mode_is h1. through _ _ build h1 λ ids ids_are h2.
    subst (λ f. TypeRead levels fs (f fs)) (same_read (λ gs. kind.union (cond (nat_eq mode 0) Sparse Dense) ids.0 ids.1 gs) build h2) (union_read (nat_eq mode 0) ids levels n fs (ids_read b t n ids ids_are) below)
type_read b t levels n schema.fixed_size_binary fs build h below nothing =
    through _ _ build h λ w w_is h1. through _ _ w w_is λ m m_is g1. let size : 0 < w = above m w g1 in is_flat levels fs (kind.fixed_size_binary w) build h1 (flat_read levels fs (kind.fixed_size_binary w) (nothing refl) (λ at s. (size, s.0)) refl (λ p. refl))
type_read b t levels n schema.fixed_size_list fs build h below nothing =
    through _ _ build h λ w w_is h1. through _ _ w w_is λ m m_is g1.
    let size : 0 < w = above m w g1 in
    let one = one_child n (λ gs. kind.fixed_size_list w gs) build h1 in
    subst (λ f. TypeRead levels fs (f fs)) one.1 (record { fits = λ at whole sizes. (below.count ∙ one.0, size, sizes.0, below.fit sizes.1); plain = refl; counts = λ p. refl; sizes = λ s. s.1 })
type_read b t levels n schema.map_of fs build h below nothing =
    through _ _ build h λ sorted sorted_is h1.
    let one = one_child n (λ gs. kind.map sorted gs) build h1 in
    subst (λ f. TypeRead levels fs (f fs)) one.1 (record { fits = λ at whole sizes. (below.count ∙ one.0, whole, below.fit sizes); plain = refl; counts = λ p. refl; sizes = λ s. s })
type_read b t levels n schema.duration fs build h below nothing = through _ _ build h λ u u_is h1. is_flat levels fs (kind.duration (unit_of u)) build h1 (flat_read levels fs (kind.duration (unit_of u)) (nothing refl) (λ at s. tt) refl (λ p. refl))
type_read b t levels n schema.large_binary fs build h below nothing = is_flat levels fs (kind.binary large) build h (flat_read levels fs (kind.binary large) (nothing refl) (λ at s. tt) refl (λ p. refl))
type_read b t levels n schema.large_utf8 fs build h below nothing = is_flat levels fs (kind.utf8 large) build h (flat_read levels fs (kind.utf8 large) (nothing refl) (λ at s. tt) refl (λ p. refl))
type_read b t levels n schema.large_list fs build h below nothing =
    let one = one_child n (λ gs. kind.«list» large gs) build h in
    subst (λ f. TypeRead levels fs (f fs)) one.1 (record { fits = λ at whole sizes. (below.count ∙ one.0, below.fit sizes); plain = refl; counts = λ p. refl; sizes = λ s. s })
type_read b t levels n schema.run_end_encoded fs build h below nothing = cc
type_read b t levels n schema.binary_view fs build h below nothing = is_flat levels fs kind.binary_view build h (flat_read levels fs kind.binary_view (nothing refl) (λ at s. tt) refl (λ p. refl))
type_read b t levels n schema.utf8_view fs build h below nothing = is_flat levels fs kind.utf8_view build h (flat_read levels fs kind.utf8_view (nothing refl) (λ at s. tt) refl (λ p. refl))
type_read b t levels n schema.list_view fs build h below nothing = cc
type_read b t levels n schema.large_list_view fs build h below nothing = cc

-- ── with extension and dictionary ──

-- a field's kind, whose pairs are m: it fits, and counts what the fields below it count and no more pairs than are there
pub record FieldKind (levels : ℕ) (fs : Fields) (m : Metadata) (k : Kind) : Type 0 where
  pub fits : is_whole k ≡ true → AreSizes (sizes_of k) → KindFits of_field levels k
  pub counts : (p : Before) → after_kind k p ≡ after_fields fs p
  pub sizes : AreSizes (sizes_of k) → AreSizes (sizes_in fs)
  pub pairs : length (pairs_for k (own_pairs m)) ≤ length m

plain_pairs : (k : Kind) (m : Metadata) → is_plain k ≡ true → pairs_for k m ≡ own_pairs m
plain_pairs (kind.dictionary t ordered id k) m h = cc
plain_pairs (kind.extension name metadata k) m h = cc
plain_pairs k m h = refl

plain_values_pairs : (t : IntegerType) (ordered : Bool) (id : ℤ) (k : Kind) (m : Metadata) → is_plain k ≡ true → pairs_for (kind.dictionary t ordered id k) m ≡ own_pairs m
plain_values_pairs t ordered id (kind.dictionary u sorted other k) m h = cc
plain_values_pairs t ordered id (kind.extension name metadata k) m h = cc
plain_values_pairs t ordered id k m h = refl

plain_kind : (e : Option Encoding) (levels : ℕ) (fs : Fields) (m : Metadata) (k : Kind) → value_of extension_name m ≡ None → TypeRead levels fs k → FieldKind levels fs m (with_encoding e k)
plain_kind None levels fs m k n r = record { fits = r.fits of_field; counts = r.counts; sizes = r.sizes; pairs = omega (arith, ap length (plain_pairs k (own_pairs m) r.plain), length_own (own_pairs m), length_own m) }
plain_kind (Some e) levels fs m k n r = record { fits = r.fits of_dictionary; counts = r.counts; sizes = r.sizes; pairs = omega (arith, ap length (plain_values_pairs e.index e.ordered e.id k (own_pairs m) r.plain), length_own (own_pairs m), length_own m) }

extension_pairs_few : (m : Metadata) (name : List ℕ) (metadata : Option (List ℕ)) → value_of extension_name m ≡ Some name → value_of extension_metadata m ≡ metadata → length (Rattle.arrow_spec.specs.WrittenSchemas.extension_first metadata ((extension_name, name) ∷ own_pairs (own_pairs m))) ≤ length m
extension_pairs_few m name None n d = omega (arith, own_few m (Some name) None n d, length_own (own_pairs m))
extension_pairs_few m name (Some value) n d = omega (arith, own_few m (Some name) (Some value) n d, length_own (own_pairs m))

extension_kind : (e : Option Encoding) (levels : ℕ) (fs : Fields) (m : Metadata) (k : Kind) (name : List ℕ) (metadata : Option (List ℕ)) → AreTexts m → value_of extension_name m ≡ Some name → value_of extension_metadata m ≡ metadata → TypeRead levels fs k
    → FieldKind levels fs m (with_encoding e (kind.extension name metadata k))
extension_kind None levels fs m k name metadata texts n d r = record { fits = λ whole sizes. (value_is_text extension_name m (Some name) texts n, value_is_text extension_metadata m metadata texts d, r.fits of_extension whole sizes); counts = r.counts; sizes = r.sizes; pairs = extension_pairs_few m name metadata n d }
extension_kind (Some e) levels fs m k name metadata texts n d r = record { fits = λ whole sizes. (value_is_text extension_name m (Some name) texts n, value_is_text extension_metadata m metadata texts d, r.fits of_extension whole sizes); counts = r.counts; sizes = r.sizes; pairs = extension_pairs_few m name metadata n d }

pub field_kind : (e : Option Encoding) (levels : ℕ) (fs : Fields) (m : Metadata) (k : Kind) → AreTexts m → TypeRead levels fs k → FieldKind levels fs m (with_encoding e (with_extension m k))
field_kind e levels fs m k texts r = by_name (value_of extension_name m) refl
  where
    by_name : (o : Option (List ℕ)) → value_of extension_name m ≡ o → FieldKind levels fs m (with_encoding e (with_extension m k))
    by_name None n = subst (λ x. FieldKind levels fs m (with_encoding e x)) (sym (no_extension m k n)) (plain_kind e levels fs m k n r)
    by_name (Some name) n = subst (λ x. FieldKind levels fs m (with_encoding e x)) (sym (extension_there name (value_of extension_metadata m) m k n refl)) (extension_kind e levels fs m k name (value_of extension_metadata m) texts n refl r)

-- What a file is looked at for before it is cut, one thing after another.
use Rattle.std.proofs.Common.{◌≡◌, ℕ, ◌≤◌, ◌<◌, Bool, true, false, List, [], ◌∷◌, length, Option, None, Some, Ok, refl, sym, ap, ◌∙◌, subst, arith}
use Rattle.std.specs.Prelude.{is_some, nat_le}
use Rattle.std.proofs.lemmas.Bool.{leb-true, lt-leb, le-leb}
use Rattle.arrow_spec.specs.declared.error.IpcError.{IpcError}
use Rattle.arrow_spec.specs.declared.error.IpcError.TheVariants.{TooLarge, TooMany, Unsupported}
use Rattle.arrow_spec.specs.declared.error.Counted.TheVariants.{Pairs}
use Rattle.arrow_spec.specs.declared.error.Feature.TheVariants.{BigEndianAppend, Compression}
use Rattle.arrow_spec.specs.Features.{chosen_floats}
use Rattle.arrow_spec.specs.Layout.{up_to}
use Rattle.arrow_spec.specs.Readings.{◌>>=◌, IsAmong, Reading, free_of, is_absent, refusals, unless}
use Rattle.arrow_spec.proofs.ReadPairs.{goes, is_true}
use Rattle.ipc_streams.specs.Below.{file_custom, meta_view, FileMetadata, WriteOptions}
use Rattle.ipc_append.specs.Appends.{cut_place}
use Rattle.ipc_append.specs.Places.{last_end}
use Rattle.ipc_append.proofs.Places.{on, passes, refused_behind, refused_first, same_number, stops}

-- ── what is left to be looked at ──

abbrev near : ℕ → Reading ℕ
near end = unless (nat_le (up_to 8 end) 9223372036854775807) TooLarge >>= λ _. Ok end

abbrev few : FileMetadata → ℕ → Reading ℕ
few m end = unless (nat_le (length (file_custom m)) 1048576) (TooMany Pairs) >>= λ _. near end

abbrev ends : FileMetadata → Reading ℕ
ends m = last_end m >>= λ end. few m end

abbrev floats : FileMetadata → Reading ℕ
floats m = free_of (chosen_floats None (meta_view m).schema.fields 0) >>= λ _. ends m

abbrev plain : WriteOptions → FileMetadata → Reading ℕ
plain options m = unless (is_absent options.compression) (Unsupported Compression) >>= λ _. floats m

cut_steps : (options : WriteOptions) (m : FileMetadata) → cut_place options m ≡ (unless m.ipc_schema.is_little_endian (Unsupported BigEndianAppend) >>= λ _. plain options m)
unfolding cut_place
cut_steps options m = refl

-- whether compression is asked for
pub is_asked : {A : Type 0} (o : Option A) (b : Bool) → b ≡ is_some o → b ≡ true → is_absent o ≡ false
is_asked None b e f = cc
is_asked (Some x) b e f = refl

pub not_asked : {A : Type 0} (o : Option A) (b : Bool) → b ≡ is_some o → b ≡ false → is_absent o ≡ true
not_asked None b e f = refl
not_asked (Some x) b e f = cc

-- ── refused ──

pub big_endian : (options : WriteOptions) (m : FileMetadata) → m.ipc_schema.is_little_endian ≡ false → IsAmong (refusals (cut_place options m)) (Unsupported BigEndianAppend)
big_endian options m h =
    subst (λ r. IsAmong (refusals r) (Unsupported BigEndianAppend)) (sym (cut_steps options m))
    (refused_first (unless m.ipc_schema.is_little_endian (Unsupported BigEndianAppend)) (λ _. plain options m) (Unsupported BigEndianAppend) (stops m.ipc_schema.is_little_endian (Unsupported BigEndianAppend) h))

behind_order : (options : WriteOptions) (m : FileMetadata) (e : IpcError) → m.ipc_schema.is_little_endian ≡ true → IsAmong (refusals (plain options m)) e → IsAmong (refusals (cut_place options m)) e
behind_order options m e h k =
    subst (λ r. IsAmong (refusals r) e) (sym (cut_steps options m))
    (refused_behind (unless m.ipc_schema.is_little_endian (Unsupported BigEndianAppend)) (λ _. plain options m) tt e (passes m.ipc_schema.is_little_endian (Unsupported BigEndianAppend) h) k)

pub compressed : (options : WriteOptions) (m : FileMetadata) → m.ipc_schema.is_little_endian ≡ true → is_absent options.compression ≡ false → IsAmong (refusals (cut_place options m)) (Unsupported Compression)
compressed options m h k =
    behind_order options m (Unsupported Compression) h (refused_first (unless (is_absent options.compression) (Unsupported Compression)) (λ _. floats m) (Unsupported Compression) (stops (is_absent options.compression) (Unsupported Compression) k))

behind_plain : (options : WriteOptions) (m : FileMetadata) (e : IpcError) → m.ipc_schema.is_little_endian ≡ true → is_absent options.compression ≡ true → IsAmong (refusals (floats m)) e → IsAmong (refusals (cut_place options m)) e
behind_plain options m e h k l =
    behind_order options m e h (refused_behind (unless (is_absent options.compression) (Unsupported Compression)) (λ _. floats m) tt e (passes (is_absent options.compression) (Unsupported Compression) k) l)

pub floats_refused : (options : WriteOptions) (m : FileMetadata) (e : IpcError) → m.ipc_schema.is_little_endian ≡ true → is_absent options.compression ≡ true
    → IsAmong (refusals (free_of (chosen_floats None (meta_view m).schema.fields 0))) e → IsAmong (refusals (cut_place options m)) e
floats_refused options m e h k l = behind_plain options m e h k (refused_first (free_of (chosen_floats None (meta_view m).schema.fields 0)) (λ _. ends m) e l)

-- a file is little-endian, no compression is asked for, and its columns are such that arrays are of
pub record IsPlain (options : WriteOptions) (m : FileMetadata) : Type 0 where
  pub order : m.ipc_schema.is_little_endian ≡ true
  pub compression : is_absent options.compression ≡ true
  pub kinds : free_of (chosen_floats None (meta_view m).schema.fields 0) ≡ Ok tt

behind_kinds : (options : WriteOptions) (m : FileMetadata) (e : IpcError) → IsPlain options m → IsAmong (refusals (ends m)) e → IsAmong (refusals (cut_place options m)) e
behind_kinds options m e p l =
    behind_plain options m e p.order p.compression (refused_behind (free_of (chosen_floats None (meta_view m).schema.fields 0)) (λ _. ends m) tt e p.kinds l)

pub end_refused : (options : WriteOptions) (m : FileMetadata) (e : IpcError) → IsPlain options m → IsAmong (refusals (last_end m)) e → IsAmong (refusals (cut_place options m)) e
end_refused options m e p l = behind_kinds options m e p (refused_first (last_end m) (few m) e l)

pub many_pairs : (options : WriteOptions) (m : FileMetadata) (end : ℕ) → IsPlain options m → last_end m ≡ Ok end → nat_le (length (file_custom m)) 1048576 ≡ false → IsAmong (refusals (cut_place options m)) (TooMany Pairs)
many_pairs options m end p l k =
    behind_kinds options m (TooMany Pairs) p
    (refused_behind (last_end m) (few m) end (TooMany Pairs) l (refused_first (unless (nat_le (length (file_custom m)) 1048576) (TooMany Pairs)) (λ _. near end) (TooMany Pairs) (stops (nat_le (length (file_custom m)) 1048576) (TooMany Pairs) k)))

pub too_far : (options : WriteOptions) (m : FileMetadata) (end : ℕ) → IsPlain options m → last_end m ≡ Ok end → nat_le (length (file_custom m)) 1048576 ≡ true → 9223372036854775800 < end → IsAmong (refusals (cut_place options m)) TooLarge
too_far options m end p l k f =
    behind_kinds options m TooLarge p
    (refused_behind (last_end m) (few m) end TooLarge l
    (refused_behind (unless (nat_le (length (file_custom m)) 1048576) (TooMany Pairs)) (λ _. near end) tt TooLarge (passes (nat_le (length (file_custom m)) 1048576) (TooMany Pairs) k)
    (refused_first (unless (nat_le (up_to 8 end) 9223372036854775807) TooLarge) (λ _. Ok end) TooLarge (stops (nat_le (up_to 8 end) 9223372036854775807) TooLarge (lt-leb (up_to 8 end) 9223372036854775807 (omega (arith, f)))))))

-- ── cut ──

pub cut_at : (options : WriteOptions) (m : FileMetadata) (end : ℕ) → IsPlain options m → last_end m ≡ Ok end → nat_le (length (file_custom m)) 1048576 ≡ true → end ≤ 9223372036854775800 → cut_place options m ≡ Ok end
cut_at options m end p l k f =
    cut_steps options m
    ∙ on (unless m.ipc_schema.is_little_endian (Unsupported BigEndianAppend)) (λ _. plain options m) tt (passes m.ipc_schema.is_little_endian (Unsupported BigEndianAppend) p.order)
    ∙ on (unless (is_absent options.compression) (Unsupported Compression)) (λ _. floats m) tt (passes (is_absent options.compression) (Unsupported Compression) p.compression)
    ∙ on (free_of (chosen_floats None (meta_view m).schema.fields 0)) (λ _. ends m) tt p.kinds
    ∙ on (last_end m) (few m) end l
    ∙ on (unless (nat_le (length (file_custom m)) 1048576) (TooMany Pairs)) (λ _. near end) tt (passes (nat_le (length (file_custom m)) 1048576) (TooMany Pairs) k)
    ∙ on (unless (nat_le (up_to 8 end) 9223372036854775807) TooLarge) (λ _. Ok end) tt (passes (nat_le (up_to 8 end) 9223372036854775807) TooLarge (le-leb (up_to 8 end) 9223372036854775807 (omega (arith, f))))

none_free : (es : List IpcError) (u : Unit {0}) → free_of es ≡ Ok u → es ≡ []
none_free [] u h = refl
none_free (e ∷ es) u h = cc

-- what is known of a file that may be cut
pub record MayCut (m : FileMetadata) (place : ℕ) : Type 0 where
  pub order : m.ipc_schema.is_little_endian ≡ true
  pub kinds : chosen_floats None (meta_view m).schema.fields 0 ≡ []
  pub end : last_end m ≡ Ok place
  pub pairs : length (file_custom m) ≤ 1048576
  pub below : up_to 8 place ≤ 9223372036854775807

pub may_cut : (options : WriteOptions) (m : FileMetadata) (place : ℕ) → cut_place options m ≡ Ok place → MayCut m place
may_cut options m place h =
    let a = goes (unless m.ipc_schema.is_little_endian (Unsupported BigEndianAppend)) (λ _. plain options m) place (sym (cut_steps options m) ∙ h) in
    let b = goes (unless (is_absent options.compression) (Unsupported Compression)) (λ _. floats m) place a.rest in
    let c = goes (free_of (chosen_floats None (meta_view m).schema.fields 0)) (λ _. ends m) place b.rest in
    let d = goes (last_end m) (few m) place c.rest in
    let e = goes (unless (nat_le (length (file_custom m)) 1048576) (TooMany Pairs)) (λ _. near d.got) place d.rest in
    let f = goes (unless (nat_le (up_to 8 d.got) 9223372036854775807) TooLarge) (λ _. Ok d.got) place e.rest in
    let same : d.got ≡ place = same_number d.got place f.rest in
    let below : up_to 8 d.got ≤ 9223372036854775807 = leb-true (up_to 8 d.got) 9223372036854775807 (is_true (nat_le (up_to 8 d.got) 9223372036854775807) TooLarge f.got f.first) in
    record {
      order = is_true m.ipc_schema.is_little_endian (Unsupported BigEndianAppend) a.got a.first;
      kinds = none_free (chosen_floats None (meta_view m).schema.fields 0) c.got c.first;
      end = d.first ∙ ap (λ n. Ok n) same;
      pairs = leb-true (length (file_custom m)) 1048576 (is_true (nat_le (length (file_custom m)) 1048576) (TooMany Pairs) e.got e.first);
      below = subst (λ n. up_to 8 n ≤ 9223372036854775807) same below;
    }

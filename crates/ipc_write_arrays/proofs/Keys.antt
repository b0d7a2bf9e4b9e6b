-- Keys as they are written.
use Rattle.std.proofs.Common.{◌≡◌, ℕ, ◌*◌, ◌<◌, List, [], ◌∷◌, Bool, true, false, ℤ, pos, map, length, get_or, ap, sym, subst, ◌∙◌, Result, IfOk}
use Rattle.std.specs.Prelude.{if◌then◌else◌}
use Rattle.std.specs.Int.{Width, byte_len}
use Rattle.std.specs.List.{flat_map, AllByRecursion}
use Rattle.std.proofs.lemmas.List.Folds.{flat_map-map}
use Rattle.arrow_spec.specs.declared.types.IntegerType.{IntegerType}
use Rattle.arrow_spec.specs.Arrays.{integer_width, is_unsigned}
use Rattle.arrow_spec.specs.Counts.{magnitude}
use Rattle.arrow_spec.specs.Flat.{Order}
use Rattle.arrow_types.specs.Numbers.{signed_to_bytes, unsigned_to_bytes}
use Rattle.arrow_types.specs.NumberLaws.{signed_width, unsigned_width}
use Rattle.arrow_buffers.specs.Rows.{part}
use Rattle.arrow_buffers.proofs.Parts.{map-part}
use Rattle.arrow_arrays.specs.KeysOf.{keys_in, index_in}
use Rattle.arrow_arrays.specs.declared.keys.DictionaryKeys.{DictionaryKeys}
use Rattle.ipc_bodies.specs.Fitting.{AllFit, ReadsFit}
use Rattle.ipc_write_arrays.specs.Dictionaries.{IsBelow, KeyFits}
use Rattle.ipc_write_arrays.specs.Pieces.{key_written}
use Rattle.ipc_write_arrays.proofs.Adding.{if_ok}
use Rattle.ipc_write_arrays.proofs.RoundTripNumbers.{length-items}

either_width : (b : Bool) (w : Width) (order : Order) (x : ℤ) → length (if b then unsigned_to_bytes w order (magnitude x) else signed_to_bytes w order x) ≡ byte_len w
either_width true w order x = unsigned_width w order (magnitude x)
either_width false w order x = signed_width w order x

-- each takes the bytes of its type
pub length-keys : (order : Order) (t : IntegerType) (keys : List ℤ) → length (flat_map (key_written order t) keys) ≡ byte_len (integer_width t) * length keys
length-keys order t keys = length-items (key_written order t) (byte_len (integer_width t)) keys (pos 0) (λ i lt. either_width (is_unsigned t) (integer_width t) order (get_or keys i (pos 0)))

each_below : (limit : ℕ) (ns : List ℕ) → AllByRecursion (λ x. x < limit) ns → AllByRecursion (λ key. IsBelow limit key) (map pos ns)
each_below limit [] h = tt
each_below limit (n ∷ ns) h = (h.0, each_below limit ns h.1)

-- keys that have no sign are below what their numbers are
pub below_keys : (limit o n : ℕ) (xs : List ℕ) → AllByRecursion (λ x. x < limit) (part o n xs) → AllByRecursion (λ key. IsBelow limit key) (part o n (map pos xs))
below_keys limit o n xs h = subst (AllByRecursion (λ key. IsBelow limit key)) (map-part pos o n xs) (each_below limit (part o n xs) h)

-- and are written as these
pub unsigned_keys : (w : Width) (order : Order) (o n : ℕ) (xs : List ℕ) → flat_map (λ x. unsigned_to_bytes w order (magnitude x)) (part o n (map pos xs)) ≡ flat_map (unsigned_to_bytes w order) (part o n xs)
unsigned_keys w order o n xs =
    let write : ℤ → List ℕ = λ x. unsigned_to_bytes w order (magnitude x) in
    ap (flat_map write) (sym (map-part pos o n xs)) ∙ flat_map-map write pos (part o n xs)

-- keys without a sign are written as their numbers
pub same_bytes : (k l : DictionaryKeys) (order : Order) (w : Width) (o n : ℕ) (ys zs : List ℕ) → k ≡ l → ys ≡ zs → flat_map (key_written order (index_in l)) (part o n (keys_in l)) ≡ flat_map (unsigned_to_bytes w order) (part o n zs)
    → flat_map (key_written order (index_in k)) (part o n (keys_in k)) ≡ flat_map (unsigned_to_bytes w order) (part o n ys)
same_bytes k l order w o n ys zs e d f = ap (λ m. flat_map (key_written order (index_in m)) (part o n (keys_in m))) e ∙ f ∙ ap (λ us. flat_map (unsigned_to_bytes w order) (part o n us)) (sym d)

-- keys fit where their numbers do
pub fit_of : {T E A : Type 0} (r : Result T E) (k l : DictionaryKeys) (o n : ℕ) (fits : A → Type 0) (read : Order → List ℕ → A) (ys zs : List A) → k ≡ l → ys ≡ zs → ReadsFit read fits → (AllByRecursion fits (part o n zs) → AllByRecursion (λ key. KeyFits (index_in l) key) (part o n (keys_in l)))
    → IfOk r (λ x. ReadsFit read fits → AllFit fits (part o n ys)) → IfOk r (λ x. AllFit (KeyFits (index_in k)) (part o n (keys_in k)))
fit_of r k l o n fits read ys zs e d law f h =
    subst (λ m. IfOk r (λ x. AllFit (KeyFits (index_in m)) (part o n (keys_in m)))) (sym e)
    (if_ok r (λ (p : ReadsFit read fits → AllFit fits (part o n zs)). record { each = f (p law).each }) (subst (λ us. IfOk r (λ x. ReadsFit read fits → AllFit fits (part o n us))) d h))

-- The shape of fields, one after another.
use Rattle.std.proofs.Common.{◌≡◌, ◌≢◌, ℕ, zero, suc, ◌+◌, ◌<◌, ◌≤◌, Bool, true, false, ◌&&◌, List, [], ◌∷◌, drop, length, Option, ℤ, nat_eq, refl, sym, ap, ◌∙◌, arith}
use Rattle.std.proofs.Math.Bool.{and-true, and-false}
use Rattle.std.proofs.lemmas.List.{drop_all}
use Rattle.arrow_spec.specs.Kinds.{Kind}
use Rattle.arrow_types.specs.Child.{Child, fields_from, one_field}
use Rattle.ipc_fields.specs.IpcFields.{Ids, ids_of, has_no_fields, has_shape, have_shapes}
use Rattle.ipc_fields.specs.declared.ipc_field.IpcField.{IpcField}
use Rattle.ipc_fields.specs.Uses.{other_ids, first_ids, first_id}
use Rattle.ipc_fields.proofs.UseSteps.{others_at}

-- one IPC field, and one alone
pub one_shape : (c : Child) (ts : List IpcField) → length ts ≡ 1 → has_shape c.kind (first_id (ids_of ts)) (first_ids (ids_of ts)) ≡ have_shapes (one_field c) (ids_of ts)
one_shape c [] h = absurd (omega (arith, h))
one_shape c (t ∷ []) h = sym (and-true _)
one_shape c (t ∷ u ∷ ts) h = absurd (omega (arith, h))

pub not_one : (c : Child) (ts : List IpcField) → length ts ≢ 1 → false ≡ have_shapes (one_field c) (ids_of ts)
not_one c [] h = refl
not_one c (t ∷ []) h = absurd (h refl)
not_one c (t ∷ u ∷ ts) h = sym (and-false _)

pub not_as_many : (cs : List Child) (ts : List IpcField) → length cs ≢ length ts → have_shapes (fields_from cs) (ids_of ts) ≡ false
not_as_many [] [] h = absurd (h refl)
not_as_many [] (t ∷ ts) h = refl
not_as_many (c ∷ cs) [] h = refl
not_as_many (c ∷ cs) (t ∷ ts) h = rw (not_as_many cs ts (λ e. h (ap suc e))) (and-false _)

split_shapes : (c : Child) (cs : List Child) (ts : List IpcField) (i : ℕ) → i < length ts → have_shapes (fields_from (c ∷ cs)) (ids_of (drop i ts)) ≡ (has_shape c.kind (first_id (ids_of (drop i ts))) (first_ids (ids_of (drop i ts))) && have_shapes (fields_from cs) (other_ids (ids_of (drop i ts))))
split_shapes c cs [] i h = absurd (omega (arith, h))
split_shapes c cs (t ∷ ts) zero h = refl
split_shapes c cs (t ∷ ts) (suc i) h = split_shapes c cs ts i (omega (arith, h))

-- the fields that are left, of which the first stands at a place, and those behind it
shapes_at : (here behind : List Child) (c : Child) (ts : List IpcField) (i : ℕ) → here ≡ c ∷ behind → i < length ts → have_shapes (fields_from here) (ids_of (drop i ts)) ≡ (has_shape c.kind (first_id (ids_of (drop i ts))) (first_ids (ids_of (drop i ts))) && have_shapes (fields_from behind) (ids_of (drop (i + 1) ts)))
shapes_at here behind c ts i e h =
    let first = has_shape c.kind (first_id (ids_of (drop i ts))) (first_ids (ids_of (drop i ts))) in
    ap (λ cs. have_shapes (fields_from cs) (ids_of (drop i ts))) e ∙ split_shapes c behind ts i h ∙ ap (λ own. first && have_shapes (fields_from behind) own) (others_at ts i)

pub shape_next : (here behind : List Child) (c : Child) (ts : List IpcField) (i : ℕ) (whole : Bool) → here ≡ c ∷ behind → i < length ts → have_shapes (fields_from here) (ids_of (drop i ts)) ≡ whole
    → has_shape c.kind (first_id (ids_of (drop i ts))) (first_ids (ids_of (drop i ts))) ≡ true → have_shapes (fields_from behind) (ids_of (drop (i + 1) ts)) ≡ whole
shape_next here behind c ts i whole e h w s = sym (shapes_at here behind c ts i e h ∙ ap (λ b. b && have_shapes (fields_from behind) (ids_of (drop (i + 1) ts))) s) ∙ w

pub shape_wrong : (here behind : List Child) (c : Child) (ts : List IpcField) (i : ℕ) (whole : Bool) → here ≡ c ∷ behind → i < length ts → have_shapes (fields_from here) (ids_of (drop i ts)) ≡ whole
    → has_shape c.kind (first_id (ids_of (drop i ts))) (first_ids (ids_of (drop i ts))) ≡ false → whole ≡ false
shape_wrong here behind c ts i whole e h w s = sym w ∙ shapes_at here behind c ts i e h ∙ ap (λ b. b && have_shapes (fields_from behind) (ids_of (drop (i + 1) ts))) s

pub shape_done : (here : List Child) (ts : List IpcField) (i : ℕ) (whole : Bool) → here ≡ [] → length ts ≤ i → have_shapes (fields_from here) (ids_of (drop i ts)) ≡ whole → whole ≡ true
shape_done here ts i whole e h w = sym w ∙ ap (λ cs. have_shapes (fields_from cs) (ids_of (drop i ts))) e ∙ ap (λ us. has_no_fields (ids_of us)) (drop_all i ts h)

pub plain : (ts : List IpcField) (r : Bool) → r ≡ nat_eq (length ts) 0 → r ≡ has_no_fields (ids_of ts)
plain [] r h = h
plain (t ∷ ts) r h = h ∙ suc_zero (length ts)
  where
    suc_zero : (n : ℕ) → nat_eq (suc n) 0 ≡ false
    suc_zero n = grind arith

pub found : (k : Kind) (id jd : Option ℤ) (below own : Ids) (r : Bool) → r ≡ has_shape k id below → id ≡ jd → below ≡ own → r ≡ has_shape k jd own
found k id jd below own r h i b = h ∙ ap (λ z. has_shape k z below) i ∙ ap (λ z. has_shape k jd z) b

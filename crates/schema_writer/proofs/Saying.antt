-- What a schema's tables can say, field after field.
use Rattle.std.proofs.Common.{◌≡◌, ℕ, suc, ◌+◌, Bool, true, false, ◌&&◌, List, [], ◌∷◌, ◌++◌, map, drop, length, Option, None, ℤ, refl, sym, ap, ◌∙◌}
use Rattle.std.proofs.Math.Bool.{and-true}
use Rattle.std.proofs.lemmas.Bool.{and_parts}
use Rattle.std.specs.Prelude.{nat_le, nat_lt}
use Rattle.arrow_spec.specs.Kinds as kind
use Rattle.arrow_spec.specs.Kinds.{Kind, Fields, width}
use Rattle.arrow_spec.specs.Regular.{Standing, fields_below, fields_from as standing, has_right_ids, is_no_dictionary, is_representable_kind, are_representable, representable}
use Rattle.arrow_spec.specs.Schema.{counted_ids}
use Rattle.std.proofs.Common.{Vec, Global}
use Rattle.std.proofs.lemmas.List.{length-map}
use Rattle.arrow_spec.specs.declared.types.UnionMode.{UnionMode}
use Rattle.arrow_types.specs.Child.{Child, fields_from}
use Rattle.arrow_types.proofs.Sameness.{union_of}
use Rattle.arrow_types.specs.KindOf.{child_of, fields_of, are_stated, ids_of as union_ids}
use Rattle.arrow_types.specs.declared.data_type.Field.{Field}
use Rattle.ipc_fields.specs.IpcFields.{Ids, no_fields, ids, ids_of, kind_with, fields_with}
use Rattle.ipc_fields.specs.declared.ipc_field.IpcField.{IpcField}
use Rattle.schema_writer.specs.Tables.{kind_fits, fits_below, all_fit, sizes_fit, sized_below, all_sized}
use Rattle.ipc_fields.specs.Uses.{other_ids, first_ids, first_id}
use Rattle.arrow_types.specs.UnionIds.{are_right}
use Rattle.arrow_types.proofs.Children.{width_from}
use Rattle.arrow_types.proofs.UnionIds.{counted_few}
use Rattle.arrow_spec.proofs.SameIds.{ids_self}
use Rattle.ipc_fields.proofs.UseSteps.{others_at}

pub and_more : (a b c : Bool) → (a && (b && c)) ≡ ((a && b) && c)
and_more true b c = refl
and_more false b c = refl

-- ── the ids of unions ──

pub stated_right : (xs : List ℤ) (n : ℕ) (r : Bool) → r ≡ are_right xs n → r ≡ has_right_ids true xs n
stated_right xs n r h = h ∙ sym (and-true (are_right xs n))

pub counted_right : (n : ℕ) (r : Bool) → r ≡ (nat_lt 0 n && nat_le n 128) → r ≡ has_right_ids false (counted_ids 0 n) n
counted_right n r h = counted_few n r h ∙ sym (ap (λ b. are_right (counted_ids 0 n) n && b) (ids_self (counted_ids 0 n)) ∙ and-true _)

-- ── fields ──

pub width_with : (fs : Fields) (own : Ids) → width (fields_with fs own) ≡ width fs
width_with kind.none own = refl
width_with (kind.field name nullable metadata k fs) no_fields = ap suc (width_with fs no_fields)
width_with (kind.field name nullable metadata k fs) (ids id below others) = ap suc (width_with fs others)

abbrev pub here_fits : Child → Ids → Bool
here_fits c own = kind_fits (kind_with c.kind (first_id own) (first_ids own))

split_fits : (c : Child) (cs : List Child) (own : Ids) → all_fit (fields_with (fields_from (c ∷ cs)) own) ≡ (here_fits c own && all_fit (fields_with (fields_from cs) (other_ids own)))
split_fits c cs no_fields = refl
split_fits c cs (ids id below others) = refl

-- the fields that are left, of which the first stands at a place, and those behind it
fits_at : (here behind : List Child) (c : Child) (ts : List IpcField) (i : ℕ) → here ≡ c ∷ behind → all_fit (fields_with (fields_from here) (ids_of (drop i ts))) ≡ (here_fits c (ids_of (drop i ts)) && all_fit (fields_with (fields_from behind) (ids_of (drop (i + 1) ts))))
fits_at here behind c ts i e =
    ap (λ cs. all_fit (fields_with (fields_from cs) (ids_of (drop i ts)))) e ∙ split_fits c behind (ids_of (drop i ts)) ∙ ap (λ own. here_fits c (ids_of (drop i ts)) && all_fit (fields_with (fields_from behind) own)) (others_at ts i)

pub fit_next : (here behind : List Child) (c : Child) (ts : List IpcField) (i : ℕ) (whole : Bool) → here ≡ c ∷ behind → all_fit (fields_with (fields_from here) (ids_of (drop i ts))) ≡ whole → here_fits c (ids_of (drop i ts)) ≡ true → all_fit (fields_with (fields_from behind) (ids_of (drop (i + 1) ts))) ≡ whole
fit_next here behind c ts i whole e w s = sym (fits_at here behind c ts i e ∙ ap (λ b. b && all_fit (fields_with (fields_from behind) (ids_of (drop (i + 1) ts)))) s) ∙ w

pub fit_wrong : (here behind : List Child) (c : Child) (ts : List IpcField) (i : ℕ) (whole : Bool) → here ≡ c ∷ behind → all_fit (fields_with (fields_from here) (ids_of (drop i ts))) ≡ whole → here_fits c (ids_of (drop i ts)) ≡ false → whole ≡ false
fit_wrong here behind c ts i whole e w s = sym w ∙ fits_at here behind c ts i e ∙ ap (λ b. b && all_fit (fields_with (fields_from behind) (ids_of (drop (i + 1) ts)))) s

pub fit_done : (here : List Child) (own : Ids) (whole : Bool) → here ≡ [] → all_fit (fields_with (fields_from here) own) ≡ whole → whole ≡ true
fit_done here own whole e w = sym w ∙ ap (λ cs. all_fit (fields_with (fields_from cs) own)) e ∙ nothing own
  where
    nothing : (own : Ids) → all_fit (fields_with kind.none own) ≡ true
    nothing no_fields = refl
    nothing (ids id below others) = refl

pub found_fits : (k : Kind) (id jd : Option ℤ) (below own : Ids) (r : Bool) → r ≡ kind_fits (kind_with k id below) → id ≡ jd → below ≡ own → r ≡ kind_fits (kind_with k jd own)
found_fits k id jd below own r h i b = h ∙ ap (λ z. kind_fits (kind_with k z below)) i ∙ ap (λ z. kind_fits (kind_with k jd z)) b

pub no_dictionary_with : (k : Kind) (id : Option ℤ) (below : Ids) → is_no_dictionary (kind_with k id below) ≡ is_no_dictionary k
no_dictionary_with (kind.dictionary index ordered old k) id below = refl
no_dictionary_with k id below = refl

-- ── fields of all levels ──

representable_parts : (xs ys : List Standing) → are_representable (xs ++ ys) ≡ (are_representable xs && are_representable ys)
representable_parts [] ys = refl
representable_parts (x ∷ xs) ys = ap (λ b. is_representable_kind x.kind && b) (representable_parts xs ys) ∙ and_more (is_representable_kind x.kind) (are_representable xs) (are_representable ys)

mutual
  below_said : (level : ℕ) (k : Kind) → are_representable (fields_below level k) ≡ fits_below k
  below_said level (kind.«list» o fs) = all_said (suc level) fs
  below_said level (kind.fixed_size_list n fs) = all_said (suc level) fs
  below_said level (kind.struct fs) = all_said (suc level) fs
  below_said level (kind.map sorted fs) = all_said (suc level) fs
  below_said level (kind.union mode stated types fs) = all_said (suc level) fs
  below_said level (kind.dictionary index ordered id k) = below_said level k
  below_said level (kind.extension name metadata k) = below_said level k
  below_said level k = refl

  all_said : (level : ℕ) (fs : Fields) → are_representable (standing level fs) ≡ all_fit fs
  all_said level kind.none = refl
  all_said level (kind.field name nullable metadata k fs) =
      ap (λ b. is_representable_kind k && b) (representable_parts (fields_below level k) (standing level fs) ∙ ap (λ b. b && are_representable (standing level fs)) (below_said level k) ∙ ap (λ b. fits_below k && b) (all_said level fs)) ∙ and_more (is_representable_kind k) (fits_below k) (all_fit fs)

pub representable_is : (fs : Fields) → representable fs ≡ all_fit fs
representable_is fs = all_said 1 fs

-- ── sizes alone ──

sizes_with : (k : Kind) (id : Option ℤ) (own : Ids) → is_representable_kind (kind_with k id own) ≡ true → sizes_fit k ≡ true
sizes_with (kind.decimal precision scale) id own h = h
sizes_with (kind.decimal256 precision scale) id own h = h
sizes_with (kind.fixed_size_binary n) id own h = h
sizes_with (kind.fixed_size_list n fs) id own h = h
sizes_with (kind.dictionary index ordered old k) id own h = sizes_with k None own (and_parts _ _ h).1
sizes_with (kind.extension name metadata k) id own h = sizes_with k id own (and_parts _ _ h).1
sizes_with k id own h = refl

mutual
  below_sizes : (k : Kind) (id : Option ℤ) (own : Ids) → fits_below (kind_with k id own) ≡ true → sized_below k ≡ true
  below_sizes (kind.«list» o fs) id own h = all_sizes fs own h
  below_sizes (kind.fixed_size_list n fs) id own h = all_sizes fs own h
  below_sizes (kind.struct fs) id own h = all_sizes fs own h
  below_sizes (kind.map sorted fs) id own h = all_sizes fs own h
  below_sizes (kind.union mode stated types fs) id own h = all_sizes fs own h
  below_sizes (kind.dictionary index ordered old k) id own h = below_sizes k None own h
  below_sizes (kind.extension name metadata k) id own h = below_sizes k id own h
  below_sizes k id own h = refl

  pub all_sizes : (fs : Fields) (own : Ids) → all_fit (fields_with fs own) ≡ true → all_sized fs ≡ true
  all_sizes kind.none own h = refl
  all_sizes (kind.field name nullable metadata k fs) no_fields h =
      let parts = and_parts _ _ h in
      let mine = and_parts _ _ parts.0 in
      rw (sizes_with k None no_fields mine.0, below_sizes k None no_fields mine.1, all_sizes fs no_fields parts.1) refl
  all_sizes (kind.field name nullable metadata k fs) (ids id below others) h =
      let parts = and_parts _ _ h in
      let mine = and_parts _ _ parts.0 in
      rw (sizes_with k id below mine.0, below_sizes k id below mine.1, all_sizes fs others parts.1) refl

-- ── kinds of types ──

pub union_said : (m : UnionMode) (types : Option (Vec ℤ Global)) (fs : List Field) (n : ℕ) (own : Ids) (id : Option ℤ) (h : Bool) → n ≡ length fs → h ≡ has_right_ids (are_stated types) (union_ids types n) n
    → kind_fits (kind_with (union_of m types (map child_of fs)) id own) ≡ (h && all_fit (fields_with (fields_of fs) own))
union_said m types fs n own id h e g =
    let count : length (map child_of fs) ≡ n = length-map fs child_of ∙ sym e in
    let wide : width (fields_with (fields_of fs) own) ≡ n = width_with (fields_of fs) own ∙ width_from child_of fs ∙ sym e in
    ap (λ a. has_right_ids (are_stated types) (union_ids types a) (width (fields_with (fields_of fs) own)) && all_fit (fields_with (fields_of fs) own)) count
    ∙ ap (λ b. has_right_ids (are_stated types) (union_ids types n) b && all_fit (fields_with (fields_of fs) own)) wide
    ∙ ap (λ b. b && all_fit (fields_with (fields_of fs) own)) (sym g)

-- Each kind is one with itself, and kinds that are one with a kind are with each other.
use Rattle.std.proofs.Common.{◌≡◌, ◌∙◌, ℕ, List, Bool, true, false, refl, sym, ap, ◌&&◌}
use Rattle.std.specs.Prelude.{nat_eq}
use Rattle.std.proofs.lemmas.Bool.{and_parts, eqb-true}
use Rattle.arrow_spec.specs.declared.types.UnionMode.{UnionMode}
use Rattle.arrow_spec.specs.declared.types.UnionMode.TheVariants.{Dense, Sparse}
use Rattle.std.specs.Str.{bytes_eq}
use Rattle.std.proofs.lemmas.Slice.Eq.{bytes_eq-Decides}
use Rattle.arrow_spec.specs.Kinds as kind
use Rattle.arrow_spec.specs.Kinds.{Kind, Fields, same, integer_number, is_same_kind, have_same_kinds, is_same_flag, is_same_mode, are_same_ids, is_same_integer, is_same_offsets, is_same_text}
use Rattle.arrow_spec.proofs.Forms.{form, forms, form_same}
use Rattle.arrow_spec.proofs.SameIds.{id_self, id_true, ids_self, ids_true}
use Rattle.ipc_fields.proofs.KindSteps.{leaf_self, leaf_true, integer_true, number_self, offsets_self, offsets_true, text_self, text_true}

flag_self : (b : Bool) → is_same_flag b b ≡ true
flag_self true = refl
flag_self false = refl

mode_self : (m : UnionMode) → is_same_mode m m ≡ true
mode_self Dense = refl
mode_self Sparse = refl

name_self : (s : List ℕ) → bytes_eq s s ≡ true
name_self s = (bytes_eq-Decides s s).1 refl

mutual
  pub same_itself : (k : Kind) → is_same_kind k k ≡ true
  same_itself (kind.«list» o fs) = rw (offsets_self o, fields_itself fs) refl
  same_itself (kind.fixed_size_list n fs) = rw (number_self n, fields_itself fs) refl
  same_itself (kind.struct fs) = fields_itself fs
  same_itself (kind.map sorted fs) = rw (flag_self sorted, fields_itself fs) refl
  same_itself (kind.union mode stated types fs) = rw (mode_self mode, ids_self types, fields_itself fs) refl
  same_itself (kind.dictionary t ordered id k) = rw (number_self (integer_number t), flag_self ordered, id_self id, same_itself k) refl
  same_itself (kind.extension name metadata k) = rw (name_self name, text_self metadata, same_itself k) refl
  same_itself k = leaf_self k refl

  fields_itself : (fs : Fields) → have_same_kinds fs fs ≡ true
  fields_itself kind.none = refl
  fields_itself (kind.field name nullable metadata k fs) = rw (same_itself k, fields_itself fs) refl

-- ── kinds that are one with the same kind ──

three : (a b c : Bool) → (a && b && c) ≡ true → (a ≡ true) × (b ≡ true) × (c ≡ true)
three true true true h = (refl, refl, refl)
three true true false h = cc
three true false c h = cc
three false b c h = cc

four : (a b c e : Bool) → (a && b && c && e) ≡ true → (a ≡ true) × (b ≡ true) × (c ≡ true) × (e ≡ true)
four true true true true h = (refl, refl, refl, refl)
four true true true false h = cc
four true true false e h = cc
four true false c e h = cc
four false b c e h = cc

flag_true : (b c : Bool) → is_same_flag b c ≡ true → b ≡ c
flag_true true c h = sym h
flag_true false true h = cc
flag_true false false h = refl

mode_true : (m n : UnionMode) → is_same_mode m n ≡ true → m ≡ n
mode_true Dense Dense h = refl
mode_true Dense Sparse h = cc
mode_true Sparse Dense h = cc
mode_true Sparse Sparse h = refl

mutual
  same_form : (k l : Kind) → is_same_kind k l ≡ true → form k ≡ form l
  same_form (kind.«list» o fs) (kind.«list» q gs) h = let both = and_parts (is_same_offsets o q) (have_same_kinds fs gs) h in rw (offsets_true o q both.0, same_forms fs gs both.1) refl
  same_form (kind.«list» o fs) l h = cc
  same_form (kind.fixed_size_list m fs) (kind.fixed_size_list n gs) h = let both = and_parts (nat_eq m n) (have_same_kinds fs gs) h in rw (eqb-true m n both.0, same_forms fs gs both.1) refl
  same_form (kind.fixed_size_list m fs) l h = cc
  same_form (kind.struct fs) (kind.struct gs) h = ap kind.struct (same_forms fs gs h)
  same_form (kind.struct fs) l h = cc
  same_form (kind.map b fs) (kind.map c gs) h = let both = and_parts (is_same_flag b c) (have_same_kinds fs gs) h in rw (flag_true b c both.0, same_forms fs gs both.1) refl
  same_form (kind.map b fs) l h = cc
  same_form (kind.union m stated types fs) (kind.union n too others gs) h =
      let all = three (is_same_mode m n) (are_same_ids types others) (have_same_kinds fs gs) h in
      rw (mode_true m n all.0, ids_true types others all.1, same_forms fs gs all.2) refl
  same_form (kind.union m stated types fs) l h = cc
  same_form (kind.dictionary s b i k) (kind.dictionary t c j l) h =
      let all = four (is_same_integer s t) (is_same_flag b c) (same i j) (is_same_kind k l) h in
      rw (integer_true s t all.0, flag_true b c all.1, id_true i j all.2, same_form k l all.3) refl
  same_form (kind.dictionary s b i k) l h = cc
  same_form (kind.extension m x k) (kind.extension n y l) h =
      let all = three (bytes_eq m n) (is_same_text x y) (is_same_kind k l) h in
      rw ((bytes_eq-Decides m n).0 all.0, text_true x y all.1, same_form k l all.2) refl
  same_form (kind.extension m x k) l h = cc
  same_form k l h = ap form (leaf_true k l refl h)

  same_forms : (fs gs : Fields) → have_same_kinds fs gs ≡ true → forms fs ≡ forms gs
  same_forms kind.none kind.none h = refl
  same_forms kind.none (kind.field n c y l gs) h = cc
  same_forms (kind.field m b x k fs) kind.none h = cc
  same_forms (kind.field m b x k fs) (kind.field n c y l gs) h = let both = and_parts (is_same_kind k l) (have_same_kinds fs gs) h in rw (same_form k l both.0, same_forms fs gs both.1) refl

pub form_is_same : (k l : Kind) → is_same_kind k l ≡ true → form k ≡ form l
form_is_same = same_form

pub same_by_form : (k l : Kind) → form k ≡ form l → is_same_kind k l ≡ true
same_by_form k l e = sym (form_same k l) ∙ ap (is_same_kind (form k)) (sym e) ∙ same_itself (form k)

pub same_through : (k l m : Kind) → is_same_kind k l ≡ true → is_same_kind l m ≡ true → is_same_kind k m ≡ true
same_through k l m h g = same_by_form k m (same_form k l h ∙ same_form l m g)

-- of kinds that are one with a kind each is with the others
pub same_as_other : (k l m : Kind) → is_same_kind k l ≡ true → is_same_kind k m ≡ true → is_same_kind l m ≡ true
same_as_other k l m h g = same_by_form l m (sym (same_form k l h) ∙ same_form k m g)

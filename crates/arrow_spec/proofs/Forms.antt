-- Kinds are of one kind where they are the same without names, nullability and metadata.
use Rattle.std.proofs.Common.{◌≡◌, suc, [], true, refl, ap, ◌&&◌}
use Rattle.std.specs.Prelude.{nat_eq}
use Rattle.std.specs.Str.{bytes_eq}
use Rattle.arrow_spec.specs.Kinds as kind
use Rattle.arrow_spec.specs.Kinds.{Kind, Fields, dictionary_count, dictionary_counts, same, is_same_kind, have_same_kinds, is_same_flag, is_same_mode, are_same_ids, is_same_integer, is_same_offsets, is_same_text}

-- a kind without names, nullability and metadata
abbrev mutual
  pub form : Kind → Kind
  form (kind.«list» o fs) = kind.«list» o (forms fs)
  form (kind.fixed_size_list n fs) = kind.fixed_size_list n (forms fs)
  form (kind.struct fs) = kind.struct (forms fs)
  form (kind.map sorted fs) = kind.map sorted (forms fs)
  form (kind.union mode stated types fs) = kind.union mode true types (forms fs)
  form (kind.dictionary t ordered id k) = kind.dictionary t ordered id (form k)
  form (kind.extension name metadata k) = kind.extension name metadata (form k)
  form k = k

  pub forms : Fields → Fields
  forms kind.none = kind.none
  forms (kind.field name nullable metadata k fs) = kind.field [] true [] (form k) (forms fs)

mutual
  pub form_same : (k l : Kind) → is_same_kind (form k) (form l) ≡ is_same_kind k l
  form_same (kind.«list» o fs) (kind.«list» q gs) = ap (λ x. is_same_offsets o q && x) (forms_same fs gs)
  form_same (kind.fixed_size_list m fs) (kind.fixed_size_list n gs) = ap (λ x. nat_eq m n && x) (forms_same fs gs)
  form_same (kind.struct fs) (kind.struct gs) = forms_same fs gs
  form_same (kind.map b fs) (kind.map c gs) = ap (λ x. is_same_flag b c && x) (forms_same fs gs)
  form_same (kind.union m stated ids fs) (kind.union n too others gs) = ap (λ x. is_same_mode m n && are_same_ids ids others && x) (forms_same fs gs)
  form_same (kind.dictionary s b i k) (kind.dictionary t c j l) = ap (λ x. is_same_integer s t && is_same_flag b c && same i j && x) (form_same k l)
  form_same (kind.extension m x k) (kind.extension n y l) = ap (λ z. bytes_eq m n && is_same_text x y && z) (form_same k l)
  form_same k (kind.struct gs) = refl
  form_same k l = refl

  pub forms_same : (fs gs : Fields) → have_same_kinds (forms fs) (forms gs) ≡ have_same_kinds fs gs
  forms_same kind.none kind.none = refl
  forms_same kind.none (kind.field n c y l gs) = refl
  forms_same (kind.field m b x k fs) kind.none = refl
  forms_same (kind.field m b x k fs) (kind.field n c y l gs) = rw (form_same k l, forms_same fs gs) refl

mutual
  pub count_form : (k : Kind) → dictionary_count (form k) ≡ dictionary_count k
  count_form (kind.«list» o fs) = counts_form fs
  count_form (kind.fixed_size_list n fs) = counts_form fs
  count_form (kind.struct fs) = counts_form fs
  count_form (kind.map sorted fs) = counts_form fs
  count_form (kind.union mode stated types fs) = counts_form fs
  count_form (kind.dictionary t ordered id k) = ap suc (count_form k)
  count_form (kind.extension name metadata k) = count_form k
  count_form k = refl

  pub counts_form : (fs : Fields) → dictionary_counts (forms fs) ≡ dictionary_counts fs
  counts_form kind.none = refl
  counts_form (kind.field name nullable metadata k fs) = rw (count_form k, counts_form fs) refl

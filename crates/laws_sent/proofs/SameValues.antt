-- Under kinds that are one, names, nullability and metadata aside, the same dictionaries are known and held.
use Rattle.std.proofs.Common.{◌≡◌, ◌∙◌, ℕ, suc, ◌+◌, true, pos, refl, sym, ap, subst}
use Rattle.arrow_spec.specs.Kinds as kind
use Rattle.arrow_spec.specs.Kinds.{Kind, Fields, dictionary_count, is_same_kind, numbered, numbered_kind}
use Rattle.arrow_spec.specs.Arrays.{Dictionaries, found}
use Rattle.ipc_files.specs.Below.{child_fields, indexed, joined, Parts, Forest, leaf, nested, none, also, cells_each, Begins, HoldsEachAt, HoldsValuesAt, dictionary_id, first_kind, other_fields}
use Rattle.arrow_spec.proofs.Forms.{count_form, form, forms}
use Rattle.ipc_fields.proofs.SameKinds.{form_is_same}
use Rattle.laws_transcode.specs.Below.{Known}
use Rattle.laws_transcode.specs.Sending.{AllAreKnown, AreKnown}

move : {A B : Type 0} → A ≡ B → A → B
move e a = subst (λ (x : Type 0). x) e a

-- ── what is known ──

mutual
  known_form : (e : Dictionaries) (k : Kind) (id : ℕ) (c : Known) → AreKnown e (form k) id c ≡ AreKnown e k id c
  known_form e (kind.«list» o fs) id c = all_form e fs id c
  known_form e (kind.fixed_size_list n fs) id c = all_form e fs id c
  known_form e (kind.struct fs) id c = all_form e fs id c
  known_form e (kind.map sorted fs) id c = all_form e fs id c
  known_form e (kind.union mode stated types fs) id c = all_form e fs id c
  known_form e (kind.dictionary t ordered old k) id c = refl
  known_form e (kind.extension name metadata k) id c = known_form e k id c
  known_form e k id c = refl

  all_form : (e : Dictionaries) (fs : Fields) (id : ℕ) (c : Known) → AllAreKnown e (forms fs) id c ≡ AllAreKnown e fs id c
  all_form e kind.none id c = refl
  all_form e (kind.field name nullable metadata k fs) id c = rw (count_form k, known_form e k id c, all_form e fs (id + dictionary_count k) c) refl

pub known_as : (e : Dictionaries) (k l : Kind) (id : ℕ) (c : Known) → is_same_kind k l ≡ true → AreKnown e l id c → AreKnown e k id c
known_as e k l id c same h = move (known_form e k id c) (subst (λ z. AreKnown e z id c) (sym (form_is_same k l same)) (move (sym (known_form e l id c)) h))

-- ── what is held ──

mutual
  form_numbered : (k : Kind) (id : ℕ) → form (numbered_kind k id) ≡ numbered_kind (form k) id
  form_numbered (kind.«list» o fs) id = ap (kind.«list» o) (forms_numbered fs id)
  form_numbered (kind.fixed_size_list n fs) id = ap (kind.fixed_size_list n) (forms_numbered fs id)
  form_numbered (kind.struct fs) id = ap kind.struct (forms_numbered fs id)
  form_numbered (kind.map sorted fs) id = ap (kind.map sorted) (forms_numbered fs id)
  form_numbered (kind.union mode stated types fs) id = ap (kind.union mode true types) (forms_numbered fs id)
  form_numbered (kind.dictionary t ordered old k) id = ap (kind.dictionary t ordered (pos id)) (form_numbered k (suc id))
  form_numbered (kind.extension name metadata k) id = ap (kind.extension name metadata) (form_numbered k id)
  form_numbered k id = refl

  forms_numbered : (fs : Fields) (id : ℕ) → forms (numbered fs id) ≡ numbered (forms fs) id
  forms_numbered kind.none id = refl
  forms_numbered (kind.field name nullable metadata k fs) id = rw (count_form k, form_numbered k id, forms_numbered fs (id + dictionary_count k)) refl

id_form : (k : Kind) → dictionary_id (form k) ≡ dictionary_id k
id_form (kind.extension name metadata k) = id_form k
id_form k = refl

children_form : (k : Kind) → child_fields (form k) ≡ forms (child_fields k)
children_form (kind.extension name metadata k) = children_form k
children_form k = refl

first_form : (fs : Fields) → first_kind (forms fs) ≡ form (first_kind fs)
first_form kind.none = refl
first_form (kind.field name nullable metadata k fs) = refl

others_form : (fs : Fields) → other_fields (forms fs) ≡ forms (other_fields fs)
others_form kind.none = refl
others_form (kind.field name nullable metadata k fs) = refl

mutual
  held_form : (d : Dictionaries) (k : Kind) (p : Parts) → HoldsValuesAt d (form k) p ≡ HoldsValuesAt d k p
  held_form d k (leaf l) = refl
  held_form d k (nested (indexed x) cs) = ap (λ id. Begins (joined (cells_each cs)) (found d id)) (id_form k)
  held_form d k (nested h cs) = ap (λ fs. HoldsEachAt d fs cs) (children_form k) ∙ each_form d (child_fields k) cs

  each_form : (d : Dictionaries) (fs : Fields) (cs : Forest) → HoldsEachAt d (forms fs) cs ≡ HoldsEachAt d fs cs
  each_form d fs none = refl
  each_form d fs (also p cs) = rw (first_form fs, others_form fs, held_form d (first_kind fs) p, each_form d (other_fields fs) cs) refl

pub held_as : (d : Dictionaries) (k l : Kind) (id : ℕ) (p : Parts) → is_same_kind k l ≡ true → HoldsValuesAt d (numbered_kind k id) p → HoldsValuesAt d (numbered_kind l id) p
held_as d k l id p same h =
    let one : form (numbered_kind k id) ≡ form (numbered_kind l id) = form_numbered k id ∙ ap (λ z. numbered_kind z id) (form_is_same k l same) ∙ sym (form_numbered l id) in
    move (held_form d (numbered_kind l id) p) (subst (λ z. HoldsValuesAt d z p) one (move (sym (held_form d (numbered_kind k id) p)) h))

-- Types and fields with the ids of their IPC fields, one after another.
use Rattle.std.proofs.Common.{◌≡◌, ℕ, suc, ◌+◌, List, [], ◌∷◌, ◌++◌, map, drop, Bool, true, false, Option, Some, None, ℤ, pos, refl, sym, ◌∙◌, ap, append_assoc, append-nil, codes}
use Rattle.arrow_spec.specs.Flat.{or_default}
use Rattle.arrow_spec.specs.Kinds as kind
use Rattle.arrow_spec.specs.Kinds.{Kind, Fields, Metadata, small, large}
use Rattle.arrow_spec.specs.SchemaText.{type_text, indent, quoted, nullable_text, field_line, pair_lines, child_lines, field_lines, order_line, schema_text}
use Rattle.arrow_types.specs.Child.{Child, fields_from, one_field}
use Rattle.arrow_types.specs.Schemas.{Keyed, fields_in}
use Rattle.arrow_types.specs.declared.data_type.ArrowDataType.TheVariants as of
use Rattle.ipc_fields.specs.IpcFields.{Ids, no_fields, ids, ids_of, kind_with, fields_with, schema_with}
use Rattle.ipc_fields.specs.Uses.{first_id, first_ids, other_ids}
use Rattle.ipc_fields.specs.declared.ipc_field.IpcField.{IpcField}
use Rattle.ipc_fields.proofs.UseSteps.{others_at}
use Rattle.ipc_text.specs.Types.{type_text_with, dictionary_front, extension_front}
use Rattle.ipc_text.specs.Lines.{field_text}

-- ── types ──

pub text_with : (k : Kind) (id : Option ℤ) (below : Ids) → type_text (kind_with k id below) ≡ type_text_with k id
text_with (kind.dictionary index false old k) id below = ap (λ s. dictionary_front index false (or_default (pos 0) id) ++ s) (text_with k None below)
text_with (kind.dictionary index true old k) id below = ap (λ s. dictionary_front index true (or_default (pos 0) id) ++ s) (text_with k None below)
text_with (kind.extension name None k) id below = ap (λ s. extension_front name None ++ s) (text_with k id below)
text_with (kind.extension name (Some metadata) k) id below = ap (λ s. extension_front name (Some metadata) ++ s) (text_with k id below)
text_with (kind.«list» small fs) id below = refl
text_with (kind.«list» large fs) id below = refl
text_with (kind.map false fs) id below = refl
text_with (kind.map true fs) id below = refl
text_with k id below = refl

-- ── fields ──

joined : (level : ℕ) (c : Child) (own : Ids) (rest : List ℕ) → field_line level c.name c.nullable (kind_with c.kind (first_id own) (first_ids own)) ++ pair_lines (suc level) c.metadata ++ child_lines (suc level) (kind_with c.kind (first_id own) (first_ids own)) ++ rest ≡ field_text level c own ++ rest
joined level c own rest = ap (λ t. indent level ++ quoted c.name ++ codes " " ++ t ++ nullable_text c.nullable ++ codes "\n" ++ pair_lines (suc level) c.metadata ++ child_lines (suc level) (kind_with c.kind (first_id own) (first_ids own)) ++ rest) (text_with c.kind (first_id own) (first_ids own))

-- the lines of fields are those of the first one and of the others
first_lines : (level : ℕ) (c : Child) (fs : Fields) (own : Ids) → field_lines level (fields_with (kind.field c.name c.nullable c.metadata c.kind fs) own) ≡ field_text level c own ++ field_lines level (fields_with fs (other_ids own))
first_lines level c fs no_fields = joined level c no_fields (field_lines level (fields_with fs no_fields))
first_lines level c fs (ids id below others) = joined level c (ids id below others) (field_lines level (fields_with fs others))

pub one_line : (level : ℕ) (c : Child) (own : Ids) → field_text level c own ≡ field_lines level (fields_with (one_field c) own)
one_line level c own = sym (first_lines level c kind.none own ∙ append-nil (field_text level c own))

-- the lines of the fields that are left, of which the first stands at a place, and of those behind it
pub next_lines : (level : ℕ) (here behind : List Child) (c : Child) (fs : List IpcField) (i : ℕ) (old new whole : List ℕ) → here ≡ c ∷ behind → new ≡ old ++ field_text level c (ids_of (drop i fs))
    → old ++ field_lines level (fields_with (fields_from here) (ids_of (drop i fs))) ≡ whole → new ++ field_lines level (fields_with (fields_from behind) (ids_of (drop (i + 1) fs))) ≡ whole
next_lines level here behind c fs i old new whole e h w =
    let own = ids_of (drop i fs) in
    let first = field_text level c own in
    let rest = field_lines level (fields_with (fields_from behind) (ids_of (drop (i + 1) fs))) in
    ap (λ s. s ++ rest) h ∙ append_assoc old first rest ∙ ap (λ b. old ++ (first ++ field_lines level (fields_with (fields_from behind) b))) (sym (others_at fs i)) ∙ ap (λ s. old ++ s) (sym (first_lines level c (fields_from behind) own)) ∙ ap (λ cs. old ++ field_lines level (fields_with (fields_from cs) own)) (sym e) ∙ w

-- the byte order, the pairs and the fields, one behind another
pub whole_text : (s : List Keyed) (own : Ids) (is_little_endian : Bool) (metadata : Metadata) (start a b new : List ℕ) → start ≡ []
    → a ≡ start ++ order_line (schema_with s own is_little_endian metadata).order → b ≡ a ++ pair_lines 0 metadata → new ≡ b ++ field_lines 0 (fields_with (fields_in s) own)
    → new ≡ schema_text (schema_with s own is_little_endian metadata)
unfolding schema_text
whole_text s own is_little_endian metadata start a b new none h g f =
    let lines = field_lines 0 (fields_with (fields_in s) own) in
    f ∙ ap (λ z. z ++ lines) (g ∙ ap (λ z. z ++ pair_lines 0 metadata) (h ∙ ap (λ z. z ++ order_line (schema_with s own is_little_endian metadata).order) none))

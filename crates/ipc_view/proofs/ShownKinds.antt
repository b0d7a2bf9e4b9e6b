-- Kinds that are shown, and their children.
use Rattle.std.proofs.Common.{◌≡◌, ℕ, zero, suc, ◌<◌, List, [], ◌∷◌, length, get_or, Bool, true, false, ◌&&◌, Option, Some, None, IfSome, ℤ, refl, sym, ap, ◌∙◌, arith}
use Rattle.std.specs.Prelude.{nat_eq}
use Rattle.std.proofs.lemmas.Bool.{and_parts, eqb-true}
use Rattle.arrow_spec.specs.declared.types.IntervalUnit.TheVariants.{YearMonth, DayTime, MonthDayNano}
use Rattle.arrow_spec.specs.Kinds as kind
use Rattle.arrow_spec.specs.Kinds.{Kind, Fields, Offsets, width}
use Rattle.arrow_types.specs.KindOf.{kind_of, child_of, fields_of}
use Rattle.arrow_types.specs.Physical.{under_extensions}
use Rattle.arrow_types.specs.declared.data_type.Field.{Field}
use Rattle.arrow_types.proofs.Children.{width_from}
use Rattle.arrow_types.proofs.DataTypes.{kind_of_child}
use Rattle.ipc_fields.specs.IpcFields.{Ids, kind_with}
use Rattle.ipc_fields.specs.declared.ipc_field.IpcField.{IpcField}
use Rattle.ipc_read.specs.CountedArrays.{counted_kind, is_any_counted}
use Rattle.ipc_read.specs.Held.{column_fields}
use Rattle.ipc_read.specs.Lists.{as_lists, is_any_list}
use Rattle.ipc_read.specs.Unions.{is_any_union}
use Rattle.ipc_read.proofs.LeftFields.{width_by}
use Rattle.ipc_read.proofs.Nested.{fields_size, kind_size}
use Rattle.view_types.specs.Views.{is_keys}
use Rattle.ipc_view.specs.Dictionaries.{key_type}
use Rattle.ipc_view.specs.Layouts.{flat_layout, is_leaf, is_leaf_layout, kind_layout}
use Rattle.ipc_view.specs.Nested.{are_shown, counted_layout, is_shown}

shown_under : (k : Kind) → is_shown k ≡ is_shown (under_extensions k)
shown_under (kind.extension name metadata k) = shown_under k
shown_under k = refl

one_and : (fs : Fields) (b : Bool) → (nat_eq (width fs) 1 && b) ≡ true → (width fs ≡ 1) × (b ≡ true)
one_and fs b h = let p = and_parts (nat_eq (width fs) 1) b h in (eqb-true (width fs) 1 p.0, p.1)

-- the children of structs and of lists of one size are shown
pub counted_seen : (k : Kind) (size : Option ℕ) (fs : Fields) → under_extensions k ≡ counted_kind size fs → is_shown k ≡ true → (are_shown fs ≡ true) × IfSome size (λ n. width fs ≡ 1)
counted_seen k None fs e h = (ap is_shown (sym e) ∙ sym (shown_under k) ∙ h, tt)
counted_seen k (Some size) fs e h = let p = one_and fs (are_shown fs) (ap is_shown (sym e) ∙ sym (shown_under k) ∙ h) in (p.1, p.0)

shown_lists : (k : Kind) → is_shown k ≡ is_shown (as_lists k)
shown_lists (kind.extension name metadata k) = shown_lists k
shown_lists (kind.map sorted fs) = refl
shown_lists k = refl

-- and those of lists and maps
pub list_seen : (k : Kind) (o : Offsets) (fs : Fields) → as_lists k ≡ kind.«list» o fs → is_shown k ≡ true → (are_shown fs ≡ true) × (width fs ≡ 1)
list_seen k o fs e h = let p = one_and fs (are_shown fs) (ap is_shown (sym e) ∙ sym (shown_lists k) ∙ h) in (p.1, p.0)

size_lists : (k : Kind) → kind_size k ≡ kind_size (as_lists k)
size_lists (kind.extension name metadata k) = size_lists k
size_lists (kind.map sorted fs) = refl
size_lists k = refl

pub lists_tree : (k : Kind) (o : Offsets) (fs : Fields) → as_lists k ≡ kind.«list» o fs → kind_size k ≡ suc (fields_size fs)
lists_tree k o fs e = size_lists k ∙ ap kind_size e

-- a child of those that are shown
pub child_shown_kind : (cs : List Field) (i : ℕ) (x : Field) → i < length cs → x ≡ get_or cs i x → are_shown (fields_of cs) ≡ true → is_shown (kind_of x.dtype) ≡ true
child_shown_kind [] i x h e f = absurd (omega (arith, h))
child_shown_kind (c ∷ cs) zero x h e f =
    let k : (child_of c).kind ≡ kind_of x.dtype = ap (λ y. (child_of y).kind) (sym e) ∙ kind_of_child x in
    ap is_shown (sym k) ∙ (and_parts (is_shown (child_of c).kind) (are_shown (fields_of cs)) f).0
child_shown_kind (c ∷ cs) (suc i) x h e f = child_shown_kind cs i x (omega (arith, h)) e (and_parts (is_shown (child_of c).kind) (are_shown (fields_of cs)) f).1

-- with ids there are as many fields
pub column_width : (cs : List Field) (ts : List IpcField) → width (column_fields cs ts) ≡ width (fields_of cs)
column_width cs ts = width_by child_of cs ts ∙ sym (width_from child_of cs)

-- ── kinds without children ──

pub shown_leaf : (k : Kind) → is_any_counted k ≡ false → is_any_list k ≡ false → is_any_union k ≡ false → key_type k ≡ None → is_shown k ≡ true → (is_leaf k ≡ true) × (kind_layout k ≡ flat_layout k)
shown_leaf (kind.«list» o fs) a b u x h = cc
shown_leaf (kind.fixed_size_list n fs) a b u x h = cc
shown_leaf (kind.struct fs) a b u x h = cc
shown_leaf (kind.map sorted fs) a b u x h = cc
shown_leaf (kind.union mode stated ids fs) a b u x h = cc
shown_leaf (kind.dictionary t ordered id k) a b u x h = cc
shown_leaf (kind.extension name metadata k) a b u x h = shown_leaf k a b u x h
shown_leaf (kind.float f) a b u x h = cc
shown_leaf (kind.decimal256 precision scale) a b u x h = cc
shown_leaf k a b u x h = (refl, refl)

pub leaf_with : (k : Kind) (id : Option ℤ) (below : Ids) → is_leaf k ≡ true → kind_with k id below ≡ k
leaf_with (kind.«list» o fs) id below h = cc
leaf_with (kind.fixed_size_list n fs) id below h = cc
leaf_with (kind.struct fs) id below h = cc
leaf_with (kind.map sorted fs) id below h = cc
leaf_with (kind.union mode stated ids fs) id below h = cc
leaf_with (kind.dictionary t ordered old k) id below h = cc
leaf_with (kind.extension name metadata k) id below h = ap (kind.extension name metadata) (leaf_with k id below h)
leaf_with k id below h = refl

pub leaf_layout : (k : Kind) → is_leaf k ≡ true → is_leaf_layout (kind_layout k) ≡ true
leaf_layout (kind.«list» o fs) h = cc
leaf_layout (kind.fixed_size_list n fs) h = cc
leaf_layout (kind.struct fs) h = cc
leaf_layout (kind.map sorted fs) h = cc
leaf_layout (kind.union mode stated ids fs) h = cc
leaf_layout (kind.dictionary t ordered id k) h = cc
leaf_layout (kind.extension name metadata k) h = leaf_layout k h
leaf_layout (kind.interval YearMonth) h = refl
leaf_layout (kind.interval DayTime) h = refl
leaf_layout (kind.interval MonthDayNano) h = refl
leaf_layout k h = refl

pub counted_keys : (size : Option ℕ) → is_keys (counted_layout size) ≡ false
counted_keys None = refl
counted_keys (Some n) = refl

pub one_with : (size : Option ℕ) (fs gs : Fields) → width fs ≡ width gs → IfSome size (λ n. width gs ≡ 1) → IfSome size (λ n. width fs ≡ 1)
one_with None fs gs e h = tt
one_with (Some n) fs gs e h = e ∙ h

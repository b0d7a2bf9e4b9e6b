-- Kinds of unions, and their children.
use Rattle.std.proofs.Common.{◌≡◌, ℕ, zero, suc, ◌+◌, ◌≤◌, List, [], ◌∷◌, ◌++◌, true, ◌&&◌, length, Option, ℤ, pos, refl, sym, ap, ◌∙◌, arith}
use Rattle.std.specs.Prelude.{nat_eq, nat_le, nat_lt}
use Rattle.std.proofs.lemmas.Bool.{and_parts, eqb-true, leb-true}
use Rattle.arrow_spec.specs.Kinds as kind
use Rattle.arrow_spec.specs.Kinds.{Kind, Fields, width}
use Rattle.arrow_spec.specs.Schema.{are_ids, counted_ids}
use Rattle.arrow_types.specs.KindOf.{child_of, fields_of, ids_of}
use Rattle.arrow_types.specs.Physical.{under_extensions}
use Rattle.arrow_types.specs.UnionIds.{are_right}
use Rattle.arrow_types.proofs.Children.{width_from}
use Rattle.arrow_types.proofs.UnionIds.{counted_few}
use Rattle.ipc_fields.specs.IpcFields.{Ids, fields_with, kind_with}
use Rattle.ipc_fields.specs.declared.ipc_field.IpcField.{IpcField}
use Rattle.ipc_read.specs.Held.{column_fields}
use Rattle.ipc_read.proofs.Nested.{fields_size, kind_size}
use Rattle.ipc_view.specs.declared.unions.UnionFields.{UnionFields}
use Rattle.ipc_view.specs.Nested.{are_shown, is_shown}
use Rattle.ipc_view.specs.Unions.{UnionShown, union_of}
use Rattle.ipc_view.proofs.ShownKinds.{column_width}

shown_under : (k : Kind) → is_shown k ≡ is_shown (under_extensions k)
shown_under (kind.extension name metadata k) = shown_under k
shown_under k = refl

-- the ids of unions that are shown are right, and their children are shown
pub union_seen : (k : Kind) (u : UnionFields) → under_extensions k ≡ union_of u (fields_of u.children.now) → is_shown k ≡ true → UnionShown u
union_seen k u e h =
    let ids = ids_of u.ids.now (length u.children.now) in
    let fs = fields_of u.children.now in
    let p = and_parts (are_right ids (width fs)) (are_shown fs) (ap is_shown (sym e) ∙ sym (shown_under k) ∙ h) in
    record { ids = ap (are_right ids) (sym (width_from child_of u.children.now)) ∙ p.0; children = p.1 }

-- there are as many ids as children
ids_many : (ids : List ℤ) (n : ℕ) → are_right ids n ≡ true → length ids ≡ n
ids_many ids n h =
    let l = (and_parts (are_ids ids && nat_eq (length ids) n) (nat_lt 0 n) h).0 in
    eqb-true (length ids) n (and_parts (are_ids ids) (nat_eq (length ids) n) l).1

pub union_many : (u : UnionFields) (ts : List IpcField) → UnionShown u → length (ids_of u.ids.now (length u.children.now)) ≡ width (column_fields u.children.now ts)
union_many u ts s = ids_many (ids_of u.ids.now (length u.children.now)) (length u.children.now) s.ids ∙ sym (column_width u.children.now ts ∙ width_from child_of u.children.now)

size_under : (k : Kind) → kind_size k ≡ kind_size (under_extensions k)
size_under (kind.extension name metadata k) = size_under k
size_under k = refl

pub union_tree : (k : Kind) (u : UnionFields) (fs : Fields) → under_extensions k ≡ union_of u fs → kind_size k ≡ suc (fields_size fs)
union_tree k u fs e = size_under k ∙ ap kind_size e

-- with ids of dictionaries it is a kind of unions as before
under_with : (k : Kind) (id : Option ℤ) (below : Ids) → under_extensions (kind_with k id below) ≡ kind_with (under_extensions k) id below
under_with (kind.extension name metadata k) id below = under_with k id below
under_with k id below = refl

pub unions_with : (k : Kind) (id : Option ℤ) (below : Ids) (u : UnionFields) (fs : Fields) → under_extensions k ≡ union_of u fs → under_extensions (kind_with k id below) ≡ union_of u (fields_with fs below)
unions_with k id below u fs e = under_with k id below ∙ ap (λ l. kind_with l id below) e

-- ── ids that are counted ──

pub few_counted : (n : ℕ) → are_right (counted_ids 0 n) n ≡ true → n ≤ 128
few_counted n h = leb-true n 128 (and_parts (nat_lt 0 n) (nat_le n 128) (counted_few n _ refl ∙ h)).1

more_counted : (from n : ℕ) → counted_ids from (suc n) ≡ counted_ids from n ++ pos (from + n) ∷ []
more_counted from zero = let e : from ≡ from + 0 = omega arith in ap (λ k. pos k ∷ []) e
more_counted from (suc n) = let e : suc from + n ≡ from + suc n = omega arith in ap (λ xs. pos from ∷ xs) (more_counted (suc from) n ∙ ap (λ k. counted_ids (suc from) n ++ pos k ∷ []) e)

pub counted_more : (n : ℕ) → counted_ids 0 (n + 1) ≡ counted_ids 0 n ++ pos n ∷ []
counted_more n = let e : n + 1 ≡ suc n = omega arith in let z : 0 + n ≡ n = omega arith in ap (counted_ids 0) e ∙ more_counted 0 n ∙ ap (λ k. counted_ids 0 n ++ pos k ∷ []) z

-- Kinds of one form, ids aside: what is written of arrays of them without rows is the same.
use Rattle.std.proofs.Common.{◌≡◌, ℕ, suc, ◌+◌, ◌-◌, ◌*◌, [], ◌∷◌, refl, sym, ap, ◌∙◌, arith, true, pos}
use Rattle.std.specs.Prelude.{nat_eq}
use Rattle.arrow_spec.specs.declared.types.IntervalUnit.TheVariants.{YearMonth, DayTime, MonthDayNano}
use Rattle.arrow_spec.specs.declared.types.UnionMode.TheVariants.{Dense, Sparse}
use Rattle.std.specs.Int.{byte_len}
use Rattle.arrow_spec.specs.Kinds as kind
use Rattle.arrow_spec.specs.Kinds.{Kind, Fields, small, width}
use Rattle.arrow_spec.specs.Counts.{RecordBatch, Place, Written, after, first_place, inside, union_buffers}
use Rattle.arrow_spec.specs.Arrays.{offset, offset_width}
use Rattle.arrow_spec.specs.Schema.{first_is_struct_of_two, is_struct_of_two}
use Rattle.arrow_spec.specs.Sent.{also_written, no_source, own, parts_written, written, written_part}
use Rattle.ipc_files.specs.Below.{is_carried, are_carried}
use Rattle.arrow_spec.proofs.Forms.{form, forms}
use Rattle.laws_writers.proofs.Below.{form_plain, plain_twice}
use Rattle.laws_writers.specs.Below.{plain_kind, plain_fields}

-- a kind without names, nullability, metadata and ids
abbrev pub bare_form : Kind → Kind
bare_form k = form (plain_kind k)

abbrev pub bare_forms : Fields → Fields
bare_forms fs = forms (plain_fields fs)

-- a kind of the form of one without ids has that form without ids too
pub bare_of : (k l : Kind) → bare_form k ≡ form l → bare_form l ≡ bare_form k
bare_of k l e = form_plain l ∙ ap plain_kind (sym e) ∙ sym (form_plain (plain_kind k)) ∙ ap form (plain_twice k)

-- ── carried ──

width_bare : (fs : Fields) → width (bare_forms fs) ≡ width fs
width_bare kind.none = refl
width_bare (kind.field name nullable metadata k others) = ap suc (width_bare others)

struct_bare : (k : Kind) → is_struct_of_two (bare_form k) ≡ is_struct_of_two k
struct_bare (kind.struct fs) = ap (λ n. nat_eq n 2) (width_bare fs)
struct_bare (kind.extension name metadata k) = struct_bare k
struct_bare k = refl

first_bare : (fs : Fields) → first_is_struct_of_two (bare_forms fs) ≡ first_is_struct_of_two fs
first_bare kind.none = refl
first_bare (kind.field name nullable metadata k others) = struct_bare k

mutual
  carried_bare : (k : Kind) → is_carried (bare_form k) ≡ is_carried k
  carried_bare (kind.«list» o fs) = rw (width_bare fs, are_carried_bare fs) refl
  carried_bare (kind.map sorted fs) = rw (width_bare fs, first_bare fs, are_carried_bare fs) refl
  carried_bare (kind.fixed_size_list size fs) = rw (width_bare fs, are_carried_bare fs) refl
  carried_bare (kind.struct fs) = are_carried_bare fs
  carried_bare (kind.union mode stated ids fs) = rw (width_bare fs, are_carried_bare fs) refl
  carried_bare (kind.dictionary t ordered id k) = carried_bare k
  carried_bare (kind.extension name metadata k) = carried_bare k
  carried_bare k = refl

  are_carried_bare : (fs : Fields) → are_carried (bare_forms fs) ≡ are_carried fs
  are_carried_bare kind.none = refl
  are_carried_bare (kind.field name nullable metadata k others) = rw (carried_bare k, are_carried_bare others) refl

pub carried_as : (k l : Kind) → bare_form k ≡ bare_form l → is_carried k ≡ true → is_carried l ≡ true
carried_as k l e c = sym (carried_bare l) ∙ ap is_carried (sym e) ∙ carried_bare k ∙ c

-- ── what is written of no rows ──

abbrev AreNone : (Place → ℕ) → Type 0
AreNone f = (q : Place) → f q ≡ 0

nothing_between : (x : ℕ → ℕ) (n : ℕ) → x (n + 0) - x n ≡ 0
nothing_between x n = let start : n + 0 ≡ n = omega arith in let zero_left : x n - x n ≡ 0 = omega arith in ap (λ i. x i - x n) start ∙ zero_left

times_none : (n : ℕ) → n * 0 ≡ 0
times_none n = omega arith

abbrev of_lengths : RecordBatch → Place → ℕ → ℕ → ℕ → Written
of_lengths m p from first second = own m p 0 from 0 (first ∷ second ∷ [])

module _ (m : RecordBatch) where
  mutual
    none_written : (k : Kind) (p q : Place) (a b : ℕ) → written_part m (bare_form k) p 0 a 0 ≡ written_part m k q 0 b 0
    none_written (kind.«list» o fs) p q a b =
        ap (also_written (own m p 0 a 0 (byte_len (offset_width o) * 1 ∷ [])))
        (nones_written fs (inside 2 p) (inside 2 q) (λ x. 0) (λ x. 0) (offset m o (p.buffer + 1) a) (offset m o (q.buffer + 1) b) (λ x. offset m o (p.buffer + 1) (a + 0) - offset m o (p.buffer + 1) a) (λ x. offset m o (q.buffer + 1) (b + 0) - offset m o (q.buffer + 1) b)
        (λ x. refl) (λ x. refl) (λ x. nothing_between (offset m o (p.buffer + 1)) a) (λ x. nothing_between (offset m o (q.buffer + 1)) b))
    none_written (kind.map sorted fs) p q a b =
        ap (also_written (own m p 0 a 0 (4 * 1 ∷ [])))
        (nones_written fs (inside 2 p) (inside 2 q) (λ x. 0) (λ x. 0) (offset m small (p.buffer + 1) a) (offset m small (q.buffer + 1) b) (λ x. offset m small (p.buffer + 1) (a + 0) - offset m small (p.buffer + 1) a) (λ x. offset m small (q.buffer + 1) (b + 0) - offset m small (q.buffer + 1) b)
        (λ x. refl) (λ x. refl) (λ x. nothing_between (offset m small (p.buffer + 1)) a) (λ x. nothing_between (offset m small (q.buffer + 1)) b))
    none_written (kind.fixed_size_list n fs) p q a b =
        ap (also_written (own m p 0 a 0 [])) (nones_written fs (inside 1 p) (inside 1 q) (λ x. n * 0) (λ x. n * 0) (n * a) (n * b) (λ x. n * 0) (λ x. n * 0) (λ x. times_none n) (λ x. times_none n) (λ x. times_none n) (λ x. times_none n))
    none_written (kind.struct fs) p q a b =
        ap (also_written (own m p 0 a 0 [])) (nones_written fs (inside 1 p) (inside 1 q) (λ x. 0) (λ x. 0) a b (λ x. 0) (λ x. 0) (λ x. refl) (λ x. refl) (λ x. refl) (λ x. refl))
    none_written (kind.union Sparse stated ids fs) p q a b =
        ap (also_written (record { nodes = record { length = pos 0; null_count = pos 0 } ∷ []; lengths = 0 ∷ []; views = [] }))
        (nones_written fs (inside (union_buffers m.version Sparse) p) (inside (union_buffers m.version Sparse) q) (λ x. 0) (λ x. 0) a b (λ x. 0) (λ x. 0) (λ x. refl) (λ x. refl) (λ x. refl) (λ x. refl))
    none_written (kind.union Dense stated ids fs) p q a b =
        ap (also_written (record { nodes = record { length = pos 0; null_count = pos 0 } ∷ []; lengths = 0 ∷ 0 ∷ []; views = [] }))
        (nones_written fs (inside (union_buffers m.version Dense) p) (inside (union_buffers m.version Dense) q) (λ x. 0) (λ x. 0) 0 0 (λ x. 0) (λ x. 0) (λ x. refl) (λ x. refl) (λ x. refl) (λ x. refl))
    none_written (kind.dictionary t ordered id k) p q a b = refl
    none_written (kind.extension name metadata k) p q a b = none_written k p q a b
    none_written (kind.binary o) p q a b =
        ap (of_lengths m p a (byte_len (offset_width o) * 1)) (nothing_between (offset m o (p.buffer + 1)) a) ∙ ap (of_lengths m q b (byte_len (offset_width o) * 1)) (sym (nothing_between (offset m o (q.buffer + 1)) b))
    none_written (kind.utf8 o) p q a b =
        ap (of_lengths m p a (byte_len (offset_width o) * 1)) (nothing_between (offset m o (p.buffer + 1)) a) ∙ ap (of_lengths m q b (byte_len (offset_width o) * 1)) (sym (nothing_between (offset m o (q.buffer + 1)) b))
    none_written (kind.interval YearMonth) p q a b = refl
    none_written (kind.interval DayTime) p q a b = refl
    none_written (kind.interval MonthDayNano) p q a b = refl
    none_written k p q a b = refl

    nones_written : (fs : Fields) (p q : Place) (f g : Place → ℕ) (a b : ℕ) (r s : Place → ℕ) → AreNone f → AreNone g → AreNone r → AreNone s → parts_written m (bare_forms fs) p f a r ≡ parts_written m fs q g b s
    nones_written kind.none p q f g a b r s h i j l = refl
    nones_written (kind.field name nullable metadata k others) p q f g a b r s h i j l =
        ap (λ n. also_written (written_part m (bare_form k) p n a (r p)) (parts_written m (bare_forms others) (after m (bare_form k) p) f a r)) (h p)
        ∙ ap (λ n. also_written (written_part m (bare_form k) p 0 a n) (parts_written m (bare_forms others) (after m (bare_form k) p) f a r)) (j p)
        ∙ ap (λ w. also_written w (parts_written m (bare_forms others) (after m (bare_form k) p) f a r)) (none_written k p q a b)
        ∙ ap (also_written (written_part m k q 0 b 0)) (nones_written others (after m (bare_form k) p) (after m k q) f g a b r s h i j l)
        ∙ ap (λ n. also_written (written_part m k q 0 b n) (parts_written m others (after m k q) g b s)) (sym (l q))
        ∙ ap (λ n. also_written (written_part m k q n b (s q)) (parts_written m others (after m k q) g b s)) (sym (i q))

-- of kinds of one form it is the same
pub none_written_as : (k l : Kind) → bare_form k ≡ bare_form l → written no_source k first_place 0 0 0 ≡ written no_source l first_place 0 0 0
unfolding written
none_written_as k l e = sym (none_written no_source k first_place first_place 0 0) ∙ ap (λ x. written_part no_source x first_place 0 0 0) e ∙ none_written no_source l first_place first_place 0 0

-- The children of rows that are laid anew, and maps as lists.
use Rattle.std.proofs.Common.{◌≡◌, ℕ, ◌+◌, ◌*◌, ◌-◌, ◌≤◌, ◌<◌, List, ◌∷◌, ℤ, Bool, true, Option, None, length, drop, get_or, ap, sym, refl, ◌∙◌, arith}
use Rattle.std.proofs.lemmas.Bool.{and_parts}
use Rattle.arrow_spec.specs.Kinds.{Kind, Offsets, small, large, null, extension}
use Rattle.arrow_buffers.specs.Variable.{place_at}
use Rattle.arrow_arrays.specs.Heads.{Head, Listed, Counted, Cut, whole, run, Reaches, head_rows, mapped, list_size, is_map, are_of, child_fields}
use Rattle.arrow_arrays.specs.Parts.{Parts, Forest, nested, none, also, rows_in, rows_each, kinds_each, fault_in}
use Rattle.arrow_arrays.specs.PartsOf.{parts_of, forest_of}
use Rattle.arrow_arrays.specs.declared.array.Array.{Array}
use Rattle.arrow_arrays.specs.declared.offsets.ListOffsets.TheVariants.{Small}
use Rattle.arrow_arrays.proofs.Sliced.{top_sound}
use Rattle.ipc_write_arrays.specs.Trims.{cut_from, cut_count, lists_of, held_between, held_by, trim, trim_each}
use Rattle.ipc_write_arrays.proofs.TrimLaws.{head_holds}
use Rattle.ipc_write_arrays.proofs.Behind.{next_forest}

-- the only child of lists
pub child_trim : (o n : ℕ) (os : List ℤ) (cs : Forest) (v : Parts) (first last : ℕ) → also v none ≡ cs → first ≡ place_at os o → last ≡ place_at os (o + n) → trim_each (held_between o n os) cs ≡ also (trim first (last - first) v) none
child_trim o n os cs v first last e f g = ap (trim_each (held_between o n os)) (sym e) ∙ rw (f, g) refl

-- the only child of lists of one size
pub sized_child : (o n : ℕ) (h : Counted) (cs : Forest) (v : Parts) (s from count : ℕ) → also v none ≡ cs → s ≡ list_size h.kind → from ≡ s * o → count ≡ s * n
    → trim_each (run (list_size h.kind * o) (list_size h.kind * n)) cs ≡ also (trim from count v) none
sized_child o n h cs v s from count e z f g = ap (trim_each (run (list_size h.kind * o) (list_size h.kind * n))) (sym e) ∙ rw (f, g, z) refl

-- rows of the children that an array's rows hold are there
pub holds : (o n : ℕ) (h : Head) (cs : Forest) → fault_in (nested h cs) ≡ None → o + n ≤ head_rows h → Reaches (held_by o n h) (rows_each cs)
holds o n h cs e le = let s = (top_sound h cs e).0 in head_holds o n h (rows_each cs) s.rows s.offsets le

-- one child, and those behind it
trim_next : (k : Cut) (p : Parts) (cs : Forest) → trim_each k (also p cs) ≡ also (trim (cut_from k) (cut_count k (rows_in p)) p) (trim_each k cs)
trim_next whole p cs = refl
trim_next (run o n) p cs = refl

pub reach_next : (k : Cut) (m : ℕ) (ns : List ℕ) → Reaches k (m ∷ ns) → (cut_from k + cut_count k m ≤ m) × Reaches k ns
reach_next whole m ns r = (omega arith, tt)
reach_next (run o n) m ns r = r

pub next_trim : (k : Cut) (xs : List Array) (i : ℕ) (x : Array) (from count : ℕ) → x ≡ get_or xs i x → i < length xs → from ≡ cut_from k → count ≡ cut_count k (rows_in (parts_of x))
    → trim_each k (forest_of (drop i xs)) ≡ also (trim from count (parts_of x)) (trim_each k (forest_of (drop (i + 1) xs)))
next_trim k xs i x from count e h f g = ap (trim_each k) (next_forest xs i x e h) ∙ trim_next k (parts_of x) (forest_of (drop (i + 1) xs)) ∙ rw (f, g) refl

-- maps have offsets of 32 bits
no_large : (k : Kind) → is_map large k ≡ true → ⊥
no_large (extension name metadata k) e = no_large k e
no_large k e = cc

map_width : (w : Offsets) (k : Kind) → is_map w k ≡ true → small ≡ w
map_width small k e = refl
map_width large k e = absurd (no_large k e)

-- of lists' kind nothing is written
abbrev pub unnamed : Listed → Listed
unnamed l = record { kind = null; width = l.width; offsets = l.offsets; validity = l.validity }

pub map_is : (l : Listed) (os : List ℤ) (v : Option (List Bool)) → is_map l.width l.kind ≡ true → os ≡ l.offsets → v ≡ l.validity → lists_of (Small os) v ≡ unnamed l
map_is l os v m e f = ap (λ xs. lists_of (Small xs) v) e ∙ ap (lists_of (Small l.offsets)) f ∙ ap (λ w. record { kind = null; width = w; offsets = l.offsets; validity = l.validity }) (map_width l.width l.kind m)

pub is_mapped : (l : Listed) (cs : Forest) → fault_in (nested (mapped l) cs) ≡ None → is_map l.width l.kind ≡ true
is_mapped l cs e = (and_parts (is_map l.width l.kind) (are_of (child_fields l.kind) (kinds_each cs)) (top_sound (mapped l) cs e).0.suits).0

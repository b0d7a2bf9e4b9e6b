-- Fields that are read one after another, each with its children.
use Rattle.std.proofs.Common.{◌≡◌, ℕ, suc, ◌+◌, ◌-◌, ◌*◌, ◌<◌, ◌≤◌, List, [], ◌∷◌, ◌++◌, length, Bool, true, false, ◌&&◌, Result, Ok, Err, refl, sym, ◌∙◌, ap, arith, subst}
use Rattle.arrow_spec.specs.declared.error.IpcError.{IpcError}
use Rattle.arrow_spec.specs.declared.error.IpcError.TheVariants.{TooDeep}
use Rattle.arrow_spec.specs.Readings.{bind, Reading, refusals}
use Rattle.ipc_fields.specs.Causes.{RefusesBytes, Decodes}
use Rattle.arrow_spec.specs.Flat.{Vector}
use Rattle.arrow_spec.specs.Kinds as kind
use Rattle.arrow_spec.specs.Kinds.{Kind, Fields}
use Rattle.arrow_spec.specs.Schema.{Before, Head, head_at, field_at, fields_by}
use Rattle.arrow_types.specs.Child.{Child, fields_from}
use Rattle.ipc_fields.specs.IpcFields.{Tree, ids_from, has_shape, have_shapes, kind_with, fields_with}
use Rattle.schema_reader.specs.Parts.{child_by, name_at, tagged_at, tag_part, form_at, head_by, head_from, entry_at, entries_at, entry_by}
use Rattle.schema_reader.specs.ReadViews.{child_with}
use Rattle.ipc_fields.proofs.Steps.{bind_twice, none_refused}

pub ok_bind : {A B E : Type 0} (x : A) (g : A → Result B E) → bind (Ok x) g ≡ g x
unfolding bind
ok_bind x g = refl

-- ── heads ──

pub head_same : (b : List ℕ) (at : ℕ) (before : Before) → head_at b at before ≡ head_from b at before
unfolding head_at head_from head_by name_at tagged_at tag_part form_at
head_same b at before = simp (bind_twice, ok_bind)

-- a field of one level more
unfoldable pub entry_from : ℕ → List ℕ → ℕ → Before → Reading (Child × Before)
entry_from levels b at before = bind (head_from b at before) (λ h. bind (entries_at levels b h.children h.before) (λ below. entry_by h below))

pub entry_same : (levels : ℕ) (b : List ℕ) (at : ℕ) (before : Before) → entry_at (suc levels) b at before ≡ entry_from levels b at before
unfolding entry_at field_at entries_at entry_by entry_from
entry_same levels b at before = rw (head_same b at before) (simp (bind_twice, ok_bind))

pub entry_level : (levels k : ℕ) (b : List ℕ) (at : ℕ) (before : Before) → levels ≡ suc k → entry_at levels b at before ≡ entry_from k b at before
entry_level levels k b at before h = ap (λ n. entry_at n b at before) h ∙ entry_same k b at before

pub entry_deep : (levels : ℕ) (b : List ℕ) (at : ℕ) (before : Before) → levels ≡ 0 → entry_at levels b at before ≡ Err (TooDeep ∷ [])
unfolding entry_at field_at bind
entry_deep levels b at before h = rw h refl

-- ── a field by its parts ──

behind_refused : {A B : Type 0} (e : IpcError) (R : Reading A) (f : A → Reading B) → RefusesBytes e (refusals R) → RefusesBytes e (refusals (bind R f))
unfolding bind
behind_refused e (Ok x) f r = none_refused e (refusals (f x)) r
behind_refused e (Err es) f r = r

pub head_refused : (k : ℕ) (b : List ℕ) (at : ℕ) (before : Before) (e : IpcError) → RefusesBytes e (refusals (head_from b at before)) → RefusesBytes e (refusals (entry_from k b at before))
unfolding entry_from
head_refused k b at before e h = behind_refused e (head_from b at before) (λ x. bind (entries_at k b x.children x.before) (λ below. entry_by x below)) h

pub below_refused : (k : ℕ) (b : List ℕ) (at : ℕ) (before : Before) (h : Head) (e : IpcError) → head_from b at before ≡ Ok h → RefusesBytes e (refusals (entries_at k b h.children h.before)) → RefusesBytes e (refusals (entry_from k b at before))
unfolding entry_from
below_refused k b at before h e got r = subst (λ x. RefusesBytes e (refusals (bind x (λ y. bind (entries_at k b y.children y.before) (λ below. entry_by y below))))) (sym got) (ok_next h e (behind_refused e (entries_at k b h.children h.before) (entry_by h) r))
  where
    ok_next : (x : Head) (er : IpcError) → RefusesBytes er (refusals (bind (entries_at k b x.children x.before) (λ below. entry_by x below))) → RefusesBytes er (refusals (bind (Ok x) (λ y. bind (entries_at k b y.children y.before) (λ below. entry_by y below))))
    ok_next x er s = subst (λ z. RefusesBytes er (refusals z)) (sym (ok_bind x (λ y. bind (entries_at k b y.children y.before) (λ below. entry_by y below)))) s

pub entry_read : (k : ℕ) (b : List ℕ) (at : ℕ) (before : Before) (h : Head) (below : Fields × Before) → head_from b at before ≡ Ok h → entries_at k b h.children h.before ≡ Ok below → entry_from k b at before ≡ entry_by h below
unfolding entry_from
entry_read k b at before h below got read = rw (got, ok_bind) (rw (read, ok_bind) refl)

-- ── fields one after another ──

-- fields with their ids before some others
abbrev pub front_of : List Child → List Tree → Fields → Fields
front_of [] ts rest = rest
front_of (c ∷ cs) [] rest = rest
front_of (c ∷ cs) (t ∷ ts) rest = kind.field c.name c.nullable c.metadata (kind_with c.kind t.id t.children) (front_of cs ts rest)

unfoldable pub with_front : List Child → List Tree → Reading (Fields × Before) → Reading (Fields × Before)
with_front cs ts (Ok r) = Ok (front_of cs ts r.0, r.1)
with_front cs ts (Err es) = Err es

abbrev field_before : Child → Fields × Before → Reading (Fields × Before)
field_before c r = Ok (kind.field c.name c.nullable c.metadata c.kind r.0, r.1)

front_one : (cs : List Child) (ts : List Tree) (c : Child) (t : Tree) (rest : Fields) → length cs ≡ length ts → front_of (cs ++ c ∷ []) (ts ++ t ∷ []) rest ≡ front_of cs ts (kind.field c.name c.nullable c.metadata (kind_with c.kind t.id t.children) rest)
front_one [] [] c t rest h = refl
front_one [] (u ∷ ts) c t rest h = absurd (omega (arith, h))
front_one (d ∷ cs) [] c t rest h = absurd (omega (arith, h))
front_one (d ∷ cs) (u ∷ ts) c t rest h = ap (λ fs. kind.field d.name d.nullable d.metadata (kind_with d.kind u.id u.children) fs) (front_one cs ts c t rest (omega (arith, h)))

with_front-one : (cs : List Child) (ts : List Tree) (c : Child) (t : Tree) (r : Reading (Fields × Before)) → length cs ≡ length ts → with_front (cs ++ c ∷ []) (ts ++ t ∷ []) r ≡ with_front cs ts (bind r (field_before (child_with c t)))
unfolding with_front bind
with_front-one cs ts c t (Ok r) h = ap (λ fs. Ok (fs, r.1)) (front_one cs ts c t r.0 h)
with_front-one cs ts c t (Err es) h = refl

abbrev pub rest_of : ℕ → ℕ → Vector
rest_of first count = record { first = first; count = count }

-- what is left behind those that were read
unfoldable pub entries_left : ℕ → List ℕ → Vector → ℕ → List Child → List Tree → Before → Reading (Fields × Before)
entries_left levels b v i cs ts before = with_front cs ts (entries_at levels b (rest_of (v.first + 4 * i) (v.count - i)) before)

nothing : (ts : List Tree) (r : Reading (Fields × Before)) → with_front [] ts r ≡ r
unfolding with_front
nothing ts (Ok r) = refl
nothing ts (Err es) = refl

pub entries_begun : (levels : ℕ) (b : List ℕ) (v : Vector) (cs : List Child) (ts : List Tree) (before : Before) → cs ≡ [] → entries_left levels b v 0 cs ts before ≡ entries_at levels b v before
unfolding entries_left
entries_begun levels b v cs ts before h =
    let at : v.first + 4 * 0 ≡ v.first = omega arith in
    let n : v.count - 0 ≡ v.count = omega arith in
    rw (h, at, n) (nothing ts (entries_at levels b v before))

abbrev one_of : ℕ → List ℕ → ℕ → Before → Reading (Head × Kind × Before)
one_of levels b at before = field_at levels b at before

abbrev child_read : Head × Kind × Before → Reading (Child × Before)
child_read r = Ok (child_by r.0 r.1, r.2)

entry_step : (R : Reading (Head × Kind × Before)) (F : Before → Reading (Fields × Before)) (x : Child) (next : Before) → bind R child_read ≡ Ok (x, next)
    → bind R (λ first. bind (F first.2) (λ others. Ok (kind.field first.0.name first.0.nullable first.0.metadata first.1 others.0, others.1))) ≡ bind (F next) (field_before x)
unfolding bind
entry_step (Ok r) F x next h =
    let one : Child × Before = (child_by r.0 r.1, r.2) in
    let two : Child × Before = (x, next) in
    let e : one ≡ two = cc in
    ap (λ (y : Child × Before). bind (F y.1) (field_before y.0)) e
entry_step (Err es) F x next h = cc

entries-one : (levels : ℕ) (b : List ℕ) (at n : ℕ) (before next : Before) (x : Child) → entry_at levels b at before ≡ Ok (x, next) → entries_at levels b (rest_of at (suc n)) before ≡ bind (entries_at levels b (rest_of (at + 4) n) next) (field_before x)
unfolding entries_at entry_at fields_by
entries-one levels b at n before next x h = entry_step (one_of levels b at before) (λ s. fields_by (λ p earlier. field_at levels b p earlier) (at + 4) n s) x next h

pub entries_more : (levels : ℕ) (b : List ℕ) (v : Vector) (i : ℕ) (cs all : List Child) (ts trees : List Tree) (before next : Before) (c : Child) (t : Tree) (whole : Reading (Fields × Before))
    → i < v.count → length cs ≡ length ts → entries_left levels b v i cs ts before ≡ whole → entry_at levels b (v.first + 4 * i) before ≡ Ok (child_with c t, next) → all ≡ cs ++ c ∷ [] → trees ≡ ts ++ t ∷ []
    → entries_left levels b v (i + 1) all trees next ≡ whole
unfolding entries_left
entries_more levels b v i cs all ts trees before next c t whole less same h got grown taller =
    let count : v.count - i ≡ suc (v.count - (i + 1)) = omega arith in
    let at : v.first + 4 * (i + 1) ≡ (v.first + 4 * i) + 4 = omega arith in
    let s : entries_at levels b (rest_of (v.first + 4 * i) (v.count - i)) before ≡ bind (entries_at levels b (rest_of ((v.first + 4 * i) + 4) (v.count - (i + 1))) next) (field_before (child_with c t)) = ap (λ k. entries_at levels b (rest_of (v.first + 4 * i) k) before) count ∙ entries-one levels b (v.first + 4 * i) (v.count - (i + 1)) before next (child_with c t) got in
    rw (grown, taller, at) (with_front-one cs ts c t (entries_at levels b (rest_of ((v.first + 4 * i) + 4) (v.count - (i + 1))) next) same ∙ ap (with_front cs ts) (sym s) ∙ h)

front_refused : (e : IpcError) (cs : List Child) (ts : List Tree) (r : Reading (Fields × Before)) → RefusesBytes e (refusals r) → RefusesBytes e (refusals (with_front cs ts r))
unfolding with_front
front_refused e cs ts (Ok r) h = h
front_refused e cs ts (Err es) h = h

step_refused : (e : IpcError) (R : Reading (Head × Kind × Before)) (f : Head × Kind × Before → Reading (Fields × Before)) → RefusesBytes e (refusals (bind R child_read)) → RefusesBytes e (refusals (bind R f))
unfolding bind
step_refused e (Ok r) f h = none_refused e (refusals (f r)) h
step_refused e (Err es) f h = h

first_refused : (levels : ℕ) (b : List ℕ) (at n : ℕ) (before : Before) (e : IpcError) → RefusesBytes e (refusals (entry_at levels b at before)) → RefusesBytes e (refusals (entries_at levels b (rest_of at (suc n)) before))
unfolding entries_at entry_at fields_by
first_refused levels b at n before e h = step_refused e (one_of levels b at before) _ h

pub entries_stopped : (levels : ℕ) (b : List ℕ) (v : Vector) (i : ℕ) (cs : List Child) (ts : List Tree) (before : Before) (whole : Reading (Fields × Before)) (e : IpcError)
    → i < v.count → entries_left levels b v i cs ts before ≡ whole → RefusesBytes e (refusals (entry_at levels b (v.first + 4 * i) before)) → RefusesBytes e (refusals whole)
unfolding entries_left
entries_stopped levels b v i cs ts before whole e less h told =
    let count : v.count - i ≡ suc (v.count - (i + 1)) = omega arith in
    let s : RefusesBytes e (refusals (entries_at levels b (rest_of (v.first + 4 * i) (v.count - i)) before)) = subst (λ k. RefusesBytes e (refusals (entries_at levels b (rest_of (v.first + 4 * i) k) before))) (sym count) (first_refused levels b (v.first + 4 * i) (v.count - (i + 1)) before e told) in
    subst (λ r. RefusesBytes e (refusals r)) h (front_refused e cs ts (entries_at levels b (rest_of (v.first + 4 * i) (v.count - i)) before) s)

front_all : (cs : List Child) (ts : List Tree) → length cs ≡ length ts → front_of cs ts kind.none ≡ fields_with (fields_from cs) (ids_from ts)
front_all [] ts h = refl
front_all (c ∷ cs) [] h = absurd (omega (arith, h))
front_all (c ∷ cs) (t ∷ ts) h = ap (λ fs. kind.field c.name c.nullable c.metadata (kind_with c.kind t.id t.children) fs) (front_all cs ts (omega (arith, h)))

pub entries_done : (levels : ℕ) (b : List ℕ) (v : Vector) (i : ℕ) (cs : List Child) (ts : List Tree) (before : Before) (whole : Reading (Fields × Before)) → v.count ≤ i → length cs ≡ length ts → entries_left levels b v i cs ts before ≡ whole → whole ≡ Ok (fields_with (fields_from cs) (ids_from ts), before)
unfolding entries_left entries_at fields_by with_front
entries_done levels b v i cs ts before whole less same h =
    let count : v.count - i ≡ 0 = omega arith in
    let s : with_front cs ts (entries_at levels b (rest_of (v.first + 4 * i) (v.count - i)) before) ≡ Ok (front_of cs ts kind.none, before) = ap (λ k. with_front cs ts (entries_at levels b (rest_of (v.first + 4 * i) k) before)) count in
    sym h ∙ s ∙ ap (λ fs. Ok (fs, before)) (front_all cs ts same)

and_right : (b c d : Bool) → (b && (c && d)) ≡ ((b && c) && d)
and_right true c d = refl
and_right false c d = refl

and_true : (b : Bool) → (b && true) ≡ b
and_true true = refl
and_true false = refl

shapes_one : (cs : List Child) (ts : List Tree) (c : Child) (t : Tree) → length cs ≡ length ts → have_shapes (fields_from (cs ++ c ∷ [])) (ids_from (ts ++ t ∷ [])) ≡ (have_shapes (fields_from cs) (ids_from ts) && has_shape c.kind t.id t.children)
shapes_one [] [] c t h = and_true (has_shape c.kind t.id t.children)
shapes_one [] (u ∷ ts) c t h = absurd (omega (arith, h))
shapes_one (d ∷ cs) [] c t h = absurd (omega (arith, h))
shapes_one (d ∷ cs) (u ∷ ts) c t h = ap (λ b. has_shape d.kind u.id u.children && b) (shapes_one cs ts c t (omega (arith, h))) ∙ and_right (has_shape d.kind u.id u.children) (have_shapes (fields_from cs) (ids_from ts)) (has_shape c.kind t.id t.children)

pub shapes_more : (cs all : List Child) (ts trees : List Tree) (c : Child) (t : Tree) → length cs ≡ length ts → have_shapes (fields_from cs) (ids_from ts) ≡ true → has_shape c.kind t.id t.children ≡ true → all ≡ cs ++ c ∷ [] → trees ≡ ts ++ t ∷ [] → have_shapes (fields_from all) (ids_from trees) ≡ true
shapes_more cs all ts trees c t same h one grown taller = rw (grown, taller) (shapes_one cs ts c t same ∙ rw (h, one) refl)

pub none_below : (levels : ℕ) (b : List ℕ) (before : Before) → entries_at levels b (rest_of 0 0) before ≡ Ok (kind.none, before)
unfolding entries_at fields_by
none_below levels b before = refl

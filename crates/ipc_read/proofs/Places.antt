-- Places behind one another, and what is missing between them.
use Rattle.std.proofs.Common.{◌≡◌, ℕ, zero, suc, ◌+◌, ◌-◌, ◌≤◌, ◌<◌, List, [], ◌∷◌, ◌++◌, length, take, drop, get_or, Bool, true, false, ◌||◌, refl, sym, ap, ◌∙◌, arith, subst, drop-drop, ℤ}
use Rattle.std.specs.Prelude.{nat_lt}
use Rattle.std.proofs.lemmas.Bool.{lt-ltb, le-ltb}
use Rattle.arrow_spec.specs.declared.error.IpcError.{IpcError}
use Rattle.arrow_spec.specs.declared.error.IpcError.TheVariants.{OutOfSpec}
use Rattle.arrow_spec.specs.declared.error.OutOfSpecKind.TheVariants.{MissingVariadicCount, UnexpectedNegativeInteger}
use Rattle.arrow_spec.specs.declared.message.FieldNode.{FieldNode}
use Rattle.arrow_spec.specs.declared.message.IpcBuffer.{IpcBuffer}
use Rattle.arrow_spec.specs.Readings.{IsAmong, Refuses}
use Rattle.arrow_spec.specs.Kinds.{Kind, Fields, none, field}
use Rattle.arrow_spec.specs.Counts.{RecordBatch, Place, is_negative, after, views}
use Rattle.arrow_spec.specs.Faults.{cause, some_negative, counts_faults, count_faults, place_in}
use Rattle.arrow_types.proofs.DataTypes.{kind_of_child}
use Rattle.arrow_types.specs.Child.{Child}
use Rattle.arrow_types.specs.KindOf.{kind_of, child_of, fields_of}
use Rattle.arrow_types.specs.declared.data_type.Field.{Field}
use Rattle.ipc_read.specs.Queues.{AllAt}
use Rattle.ipc_read.specs.Places.{behind, IsBehind, place_faults}
use Rattle.ipc_read.proofs.Refusals.{among_left, among_right, among_split, refuses_more}

-- ── the order of places ──

pub behind_itself : (p : Place) → IsBehind p p
behind_itself p = record { nodes = omega arith; buffers = omega arith; views = omega arith }

pub behind_then : {p q r : Place} → IsBehind p q → IsBehind q r → IsBehind p r
behind_then a b = record { nodes = omega (arith, a.nodes, b.nodes); buffers = omega (arith, a.buffers, b.buffers); views = omega (arith, a.views, b.views) }

pub after_is_behind : (m : RecordBatch) (k : Kind) (p : Place) → IsBehind p (after m k p)
after_is_behind m k p = record { nodes = omega arith; buffers = omega arith; views = omega arith }

pub same_place : {a b c d e f : ℕ} → a ≡ d → b ≡ e → c ≡ f → let p : Place = record { node = a; buffer = b; view = c } in let q : Place = record { node = d; buffer = e; view = f } in p ≡ q
same_place x y z = rw (x, y, z) refl

-- behind several arrays is behind the others where these stand behind the first
pub behind_first : (m : RecordBatch) (c : Child) (fs : Fields) (p : Place) → behind m (field c.name c.nullable c.metadata c.kind fs) p ≡ behind m fs (after m c.kind p)
behind_first m c fs p = same_place (omega arith) (omega arith) (omega arith)

pub fields_behind : (m : RecordBatch) (fs : Fields) (p : Place) → IsBehind p (behind m fs p)
fields_behind m fs p = record { nodes = omega arith; buffers = omega arith; views = omega arith }

-- ── counts that are negative ──

or_first : (a b : Bool) → a ≡ true → (a || b) ≡ true
or_first a b h = rw h refl

or_second : (a b : Bool) → b ≡ true → (a || b) ≡ true
or_second true b h = refl
or_second false b h = h

or_by : (a b c d : Bool) → (a ≡ true → c ≡ true) → (b ≡ true → d ≡ true) → (a || b) ≡ true → (c || d) ≡ true
or_by true b c d f g h = or_first c d (f refl)
or_by false b c d f g h = or_second c d (g h)

longer : (xs : List ℤ) (n most : ℕ) → n ≤ most → some_negative (take n xs) ≡ true → some_negative (take most xs) ≡ true
longer xs zero most h e = cc
longer [] (suc n) most h e = cc
longer (x ∷ xs) (suc n) zero h e = absurd (omega (arith, h))
longer (x ∷ xs) (suc n) (suc most) h e = or_by (is_negative x) _ (is_negative x) _ (λ a. a) (λ b. longer xs n most (omega (arith, h)) b) e

further : (xs : List ℤ) (i n : ℕ) → some_negative (take n (drop i xs)) ≡ true → some_negative (take (i + n) xs) ≡ true
further xs zero n e = subst (λ k. some_negative (take k xs) ≡ true) (omega arith) e
further [] (suc i) zero e = cc
further [] (suc i) (suc n) e = cc
further (x ∷ xs) (suc i) n e =
    let s : suc (i + n) ≡ suc i + n = omega arith in
    subst (λ k. some_negative (take k (x ∷ xs)) ≡ true) s (or_second (is_negative x) _ (further xs i n e))

-- a negative count is one of a longer stretch
wider_counts : (xs : List ℤ) (i j n most : ℕ) → i ≤ j → j + n ≤ i + most → some_negative (take n (drop j xs)) ≡ true → some_negative (take most (drop i xs)) ≡ true
wider_counts xs i j n most h k e =
    let at : drop (j - i) (drop i xs) ≡ drop j xs = drop-drop (j - i) i xs ∙ ap (λ z. drop z xs) (omega (arith, h)) in
    longer (drop i xs) (j - i + n) most (omega (arith, h, k)) (further (drop i xs) (j - i) n (ap (λ z. some_negative (take n z)) at ∙ e))

or_false : (a b c : Bool) → (a || b) ≡ false → ((a ≡ false) → (b ≡ false) → c ≡ false) → c ≡ false
or_false false b c h k = k refl h
or_false true b c h k = cc

none_behind : (xs : List ℤ) (a b : ℕ) → some_negative (take a xs) ≡ false → some_negative (take b (drop a xs)) ≡ false → some_negative (take (a + b) xs) ≡ false
none_behind xs zero b h k = subst (λ z. some_negative (take z xs) ≡ false) (omega arith) k
none_behind [] (suc a) b h k = let s : suc (a + b) ≡ suc a + b = omega arith in subst (λ z. some_negative (take z []) ≡ false) s refl
none_behind (x ∷ xs) (suc a) b h k =
    let s : suc (a + b) ≡ suc a + b = omega arith in
    subst (λ z. some_negative (take z (x ∷ xs)) ≡ false) s (or_false (is_negative x) (some_negative (take a xs)) (is_negative x || some_negative (take (a + b) xs)) h (λ e f. rw e (none_behind xs a b f k)))

-- ── what is missing ──

cause_by : (a b : Bool) (e x : IpcError) → (a ≡ true → b ≡ true) → IsAmong (cause a e) x → IsAmong (cause b e) x
cause_by true b e x h k = rw (h refl) k
cause_by false b e x h k = absurd k

lt_by : (a b c d : ℕ) → (a < b → c < d) → nat_lt a b ≡ true → nat_lt c d ≡ true
lt_by a b c d h e = lt-ltb c d (h (grind arith))

-- what is missing between two places is missing between places around them
pub wider : (m : RecordBatch) (p q p' q' : Place) (x : IpcError) → IsBehind p p' → p'.view ≤ q'.view → IsBehind q' q → IsAmong (place_faults m p' q') x → IsAmong (place_faults m p q) x
wider m p q p' q' x a w b h =
    let missing = cause (nat_lt (length m.variadic) q.view) (OutOfSpec MissingVariadicCount) in
    let negative = cause (some_negative (take (q.view - p.view) (drop p.view m.variadic))) (OutOfSpec UnexpectedNegativeInteger) in
    among_split (counts_faults m q') _ (place_faults m p q) x
    (λ y k. among_left (counts_faults m q) _ y (cause_by _ _ _ y
    (or_by (nat_lt (length m.nodes) q'.node) _ (nat_lt (length m.nodes) q.node) _ (lt_by _ _ _ _ (λ z. omega (arith, z, b.nodes))) (lt_by _ _ _ _ (λ z. omega (arith, z, b.buffers)))) k))
    (λ y k. among_right (counts_faults m q) (missing ++ negative) y (among_split (cause (nat_lt (length m.variadic) q'.view) (OutOfSpec MissingVariadicCount)) _ (missing ++ negative) y
    (λ z l. among_left missing negative z (cause_by _ _ _ z (lt_by _ _ _ _ (λ v. omega (arith, v, b.views))) l))
    (λ z l. among_right missing negative z (cause_by _ _ _ z (wider_counts m.variadic p.view p'.view (q'.view - p'.view) (q.view - p.view) a.views (omega (arith, w, a.views, b.views))) l)) k)) h

pub wider_refuses : (m : RecordBatch) (p q p' q' : Place) (e : IpcError) → IsBehind p p' → p'.view ≤ q'.view → IsBehind q' q → Refuses e (place_faults m p' q') → Refuses e (place_faults m p q)
wider_refuses m p q p' q' e a w b h = refuses_more (place_faults m p' q') (place_faults m p q) e (λ x k. wider m p q p' q' x a w b k) h

-- no count between two places is negative
abbrev pub AreNatural : RecordBatch → Place → Place → Type 0
AreNatural m p q = some_negative (take (q.view - p.view) (drop p.view m.variadic)) ≡ false

no_cause : (b : Bool) (e : IpcError) → cause b e ≡ [] → b ≡ false
no_cause true e h = cc
no_cause false e h = refl

second_none : (xs ys : List IpcError) → xs ++ ys ≡ [] → ys ≡ []
second_none [] ys h = h
second_none (x ∷ xs) ys h = cc

pub are_natural : (m : RecordBatch) (p q : Place) → place_faults m p q ≡ [] → AreNatural m p q
are_natural m p q h = no_cause _ _ (second_none (cause (nat_lt (length m.variadic) q.view) (OutOfSpec MissingVariadicCount)) _ (second_none (counts_faults m q) _ h))

-- nothing is missing before a place at which the queues stand
pub none_missing : (m : RecordBatch) (p q : Place) (ns : List FieldNode) (bs : List IpcBuffer) (vs : List ℤ) → AllAt m q ns bs vs → AreNatural m p q → place_faults m p q ≡ []
none_missing m p q ns bs vs a n =
    let e : nat_lt (length m.nodes) q.node ≡ false = le-ltb _ _ a.nodes.within in
    let f : nat_lt (length m.buffers) q.buffer ≡ false = le-ltb _ _ a.buffers.within in
    let g : nat_lt (length m.variadic) q.view ≡ false = le-ltb _ _ a.views.within in
    rw (e, f, g, n) refl

pub natural_then : (m : RecordBatch) (p q r : Place) → p.view ≤ q.view → q.view ≤ r.view → AreNatural m p q → AreNatural m q r → AreNatural m p r
natural_then m p q r h k a b =
    let at : drop (q.view - p.view) (drop p.view m.variadic) ≡ drop q.view m.variadic = drop-drop (q.view - p.view) p.view m.variadic ∙ ap (λ z. drop z m.variadic) (omega (arith, h)) in
    let e : (q.view - p.view) + (r.view - q.view) ≡ r.view - p.view = omega (arith, h, k) in
    subst (λ z. some_negative (take z (drop p.view m.variadic)) ≡ false) e
    (none_behind (drop p.view m.variadic) (q.view - p.view) (r.view - q.view) a (ap (λ z. some_negative (take (r.view - q.view) z)) at ∙ b))

pub natural_itself : (m : RecordBatch) (p : Place) → AreNatural m p p
natural_itself m p = let e : 0 ≡ p.view - p.view = omega arith in subst (λ z. some_negative (take z (drop p.view m.variadic)) ≡ false) e refl

-- the counts of an array are what is missing up to the place behind it
pub counts_between : (m : RecordBatch) (k : Kind) (p : Place) → count_faults m k p ≡ place_faults m p (after m k p)
unfolding count_faults
counts_between m k p =
    let e : views k ≡ (p.view + views k) - p.view = omega arith in
    ap (λ n. counts_faults m (after m k p) ++ (cause (nat_lt (length m.variadic) (p.view + views k)) (OutOfSpec MissingVariadicCount) ++ cause (some_negative (take n (drop p.view m.variadic))) (OutOfSpec UnexpectedNegativeInteger))) e

-- ── the places of fields ──

pub first_place_in : (m : RecordBatch) (fs : Fields) (p : Place) → place_in m fs 0 p ≡ p
first_place_in m none p = refl
first_place_in m (field name nullable metadata k others) p = refl

pub next_place_in : (m : RecordBatch) (cs : List Field) (i : ℕ) (x : Field) (p : Place) → i < length cs → x ≡ get_or cs i x → place_in m (fields_of cs) (i + 1) p ≡ after m (kind_of x.dtype) (place_in m (fields_of cs) i p)
next_place_in m [] i x p h e = absurd (omega (arith, h))
next_place_in m (c ∷ cs) zero x p h e = first_place_in m (fields_of cs) (after m (child_of c).kind p) ∙ ap (λ k. after m k p) (ap (λ f. (child_of f).kind) (sym e) ∙ kind_of_child x)
next_place_in m (c ∷ cs) (suc i) x p h e = let s : suc i + 1 ≡ suc (i + 1) = omega arith in rw s (next_place_in m cs i x (after m (child_of c).kind p) (omega (arith, h)) e)

pub last_place_in : (m : RecordBatch) (cs : List Field) (i : ℕ) (p : Place) → length cs ≤ i → i ≤ length cs → place_in m (fields_of cs) i p ≡ behind m (fields_of cs) p
last_place_in m [] zero p h k = same_place (omega arith) (omega arith) (omega arith)
last_place_in m [] (suc i) p h k = absurd (omega (arith, k))
last_place_in m (c ∷ cs) zero p h k = absurd (omega (arith, h))
last_place_in m (c ∷ cs) (suc i) p h k = last_place_in m cs i (after m (child_of c).kind p) (omega (arith, h)) (omega (arith, k)) ∙ sym (behind_first m (child_of c) (fields_of cs) p)

-- a field's array ends before those of all fields do
pub within_fields : (m : RecordBatch) (cs : List Field) (i : ℕ) (x : Field) (p : Place) → i < length cs → x ≡ get_or cs i x → IsBehind (after m (kind_of x.dtype) (place_in m (fields_of cs) i p)) (behind m (fields_of cs) p)
within_fields m [] i x p h e = absurd (omega (arith, h))
within_fields m (c ∷ cs) zero x p h e =
    let k : (child_of c).kind ≡ kind_of x.dtype = ap (λ f. (child_of f).kind) (sym e) ∙ kind_of_child x in
    subst (λ z. IsBehind (after m z p) (behind m (fields_of (c ∷ cs)) p)) k
    (subst (λ q. IsBehind (after m (child_of c).kind p) q) (sym (behind_first m (child_of c) (fields_of cs) p)) (fields_behind m (fields_of cs) (after m (child_of c).kind p)))
within_fields m (c ∷ cs) (suc i) x p h e =
    subst (λ q. IsBehind (after m (kind_of x.dtype) (place_in m (fields_of cs) i (after m (child_of c).kind p))) q) (sym (behind_first m (child_of c) (fields_of cs) p))
    (within_fields m cs i x (after m (child_of c).kind p) (omega (arith, h)) e)

pub field_behind : (m : RecordBatch) (cs : List Field) (i : ℕ) (p : Place) → i ≤ length cs → IsBehind p (place_in m (fields_of cs) i p)
field_behind m [] i p h = behind_itself p
field_behind m (c ∷ cs) zero p h = behind_itself p
field_behind m (c ∷ cs) (suc i) p h = behind_then (after_is_behind m (child_of c).kind p) (field_behind m cs i (after m (child_of c).kind p) (omega (arith, h)))

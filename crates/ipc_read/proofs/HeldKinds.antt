-- What is held of the dictionaries of kinds with children.
use Rattle.std.proofs.Common.{◌≡◌, ◌↔◌, ℕ, suc, ◌≤◌, Bool, true, false, Option, Some, None, IfSome, IsTrue, ℤ, refl, sym, ◌∙◌, ap, subst, []}
use Rattle.std.specs.Option.{option_map}
use Rattle.std.specs.declared.alloc.Global.{Global}
use Rattle.std.specs.BTreeMap.{BTreeMap, is_at}
use Rattle.std.specs.Map.{lookup}
use Rattle.std.specs.Ordering.{int_cmp}
use Rattle.std.specs.declared.vec.Vec.{Vec}
use Rattle.arrow_spec.specs.Kinds as kind
use Rattle.arrow_spec.specs.Kinds.{Kind, Fields, Offsets, none, field, width}
use Rattle.arrow_types.specs.Child.{Child}
use Rattle.arrow_spec.specs.declared.types.IntegerType.{IntegerType}
use Rattle.arrow_spec.specs.declared.types.UnionMode.{UnionMode}
use Rattle.arrow_types.specs.Physical.{under_extensions}
use Rattle.arrow_arrays.specs.Heads.{each_of}
use Rattle.arrow_arrays.specs.Parts.{Forest, kinds_each}
use Rattle.arrow_arrays.specs.PartsOf.{forest_of}
use Rattle.arrow_arrays.specs.declared.array.Array.{Array}
use Rattle.ipc_fields.specs.IpcFields.{Ids, kind_with}
use Rattle.ipc_read_laws.specs.Held.{Held, AllHeld, AllHeldIn, HasKind, HasKinds, HasFields, none_held}
use Rattle.ipc_read_laws.specs.PlainKinds.{plain_kind}
use Rattle.ipc_read.specs.CountedArrays.{is_any_counted, counted_kind}
use Rattle.ipc_read.specs.Held.{is_any_dictionary, held_in}
use Rattle.ipc_read.specs.Lists.{is_any_list, as_lists}
use Rattle.ipc_read.specs.Unions.{is_any_union, union_as}
use Rattle.ipc_read.proofs.LeftFields.{dropped, before, StandsIn, dropped_end}

under : (P : Kind → Forest → Type 0) (h : Held) (k : Kind) → AllHeld P h k ≡ AllHeld P h (under_extensions k)
under P h (kind.extension name metadata k) = under P h k
under P h k = refl

lists : (P : Kind → Forest → Type 0) (h : Held) (k : Kind) → AllHeld P h k ≡ AllHeld P h (as_lists k)
lists P h (kind.map sorted fs) = refl
lists P h (kind.extension name metadata k) = lists P h k
lists P h k = refl

move : {A B : Type 0} → A ≡ B → A → B
move e a = subst (λ (x : Type 0). x) e a

-- of the fields of structs, of lists of one size, of unions, and of lists and maps
counted : (P : Kind → Forest → Type 0) (h : Held) (k : Kind) (s : Option ℕ) (fs : Fields) → under_extensions k ≡ counted_kind s fs → AllHeld P h k ≡ AllHeldIn P h fs
counted P h k None fs u = rw (under P h k, u) refl
counted P h k (Some size) fs u = rw (under P h k, u) refl

pub counted_held : (P : Kind → Forest → Type 0) (h : Held) (k : Kind) (s : Option ℕ) (fs : Fields) → under_extensions k ≡ counted_kind s fs → AllHeld P h k → AllHeldIn P h fs
counted_held P h k s fs u v = move (counted P h k s fs u) v

pub held_counted : (P : Kind → Forest → Type 0) (h : Held) (k : Kind) (s : Option ℕ) (fs : Fields) → under_extensions k ≡ counted_kind s fs → AllHeldIn P h fs → AllHeld P h k
held_counted P h k s fs u v = move (sym (counted P h k s fs u)) v

union : (P : Kind → Forest → Type 0) (h : Held) (k : Kind) (mode : UnionMode) (fs : Fields) → under_extensions k ≡ union_as k mode fs → AllHeld P h k ≡ AllHeldIn P h fs
union P h k mode fs u = rw (under P h k, u) refl

pub union_held : (P : Kind → Forest → Type 0) (h : Held) (k : Kind) (mode : UnionMode) (fs : Fields) → under_extensions k ≡ union_as k mode fs → AllHeld P h k → AllHeldIn P h fs
union_held P h k mode fs u v = move (union P h k mode fs u) v

pub held_union : (P : Kind → Forest → Type 0) (h : Held) (k : Kind) (mode : UnionMode) (fs : Fields) → under_extensions k ≡ union_as k mode fs → AllHeldIn P h fs → AllHeld P h k
held_union P h k mode fs u v = move (sym (union P h k mode fs u)) v

list : (P : Kind → Forest → Type 0) (h : Held) (k : Kind) (o : Offsets) (fs : Fields) → as_lists k ≡ kind.«list» o fs → AllHeld P h k ≡ AllHeldIn P h fs
list P h k o fs u = rw (lists P h k, u) refl

pub list_held : (P : Kind → Forest → Type 0) (h : Held) (k : Kind) (o : Offsets) (x : Child) → as_lists k ≡ kind.«list» o (before x none) → AllHeld P h k → AllHeld P h x.kind
list_held P h k o x u v = (move (list P h k o (before x none) u) v).0

pub held_list : (P : Kind → Forest → Type 0) (h : Held) (k : Kind) (o : Offsets) (x : Child) → as_lists k ≡ kind.«list» o (before x none) → AllHeld P h x.kind → AllHeld P h k
held_list P h k o x u v = move (sym (list P h k o (before x none) u)) (v, tt)

-- of a dictionary
dictionary : (P : Kind → Forest → Type 0) (h : Held) (k : Kind) (t : IntegerType) (ordered : Bool) (id : ℤ) (values : Kind) → under_extensions k ≡ kind.dictionary t ordered id values → AllHeld P h k ≡ IfSome (h id) (P values)
dictionary P h k t ordered id values u = rw (under P h k, u) refl

pub dictionary_held : (P : Kind → Forest → Type 0) (h : Held) (k : Kind) (t : IntegerType) (ordered : Bool) (id : ℤ) (values : Kind) → under_extensions k ≡ kind.dictionary t ordered id values → AllHeld P h k → IfSome (h id) (P values)
dictionary_held P h k t ordered id values u v = move (dictionary P h k t ordered id values u) v

pub held_dictionary : (P : Kind → Forest → Type 0) (h : Held) (k : Kind) (t : IntegerType) (ordered : Bool) (id : ℤ) (values : Kind) → under_extensions k ≡ kind.dictionary t ordered id values → IfSome (h id) (P values) → AllHeld P h k
held_dictionary P h k t ordered id values u v = move (sym (dictionary P h k t ordered id values u)) v

-- where nothing is held
mutual
  pub none_kinds : (P : Kind → Forest → Type 0) (h : Held) → ((id : ℤ) → h id ≡ None) → (k : Kind) → AllHeld P h k
  none_kinds P h f (kind.«list» o fs) = none_fields P h f fs
  none_kinds P h f (kind.fixed_size_list size fs) = none_fields P h f fs
  none_kinds P h f (kind.struct fs) = none_fields P h f fs
  none_kinds P h f (kind.map sorted fs) = none_fields P h f fs
  none_kinds P h f (kind.union mode stated ids fs) = none_fields P h f fs
  none_kinds P h f (kind.dictionary t ordered id k) = subst (λ o. IfSome o (P k)) (sym (f id)) tt
  none_kinds P h f (kind.extension name metadata k) = none_kinds P h f k
  none_kinds P h f k = tt

  pub none_fields : (P : Kind → Forest → Type 0) (h : Held) → ((id : ℤ) → h id ≡ None) → (fs : Fields) → AllHeldIn P h fs
  none_fields P h f none = tt
  none_fields P h f (field name nullable metadata k others) = (none_kinds P h f k, none_fields P h f others)

-- a map without entries holds nothing
pub nothing_held : (m : BTreeMap ℤ (Vec Array Global)) → m.entries ≡ [] → held_in m ≡ none_held
nothing_held m e = ap (λ es id. option_map (λ v. forest_of v.items) (lookup (is_at (int_cmp id)) es)) e

pub empty_holds : (m : BTreeMap ℤ (Vec Array Global)) (k : Kind) → m.entries ≡ [] → HasKinds (held_in m) k
empty_holds m k e = none_kinds HasKind (held_in m) (λ id. ap (λ held. held id) (nothing_held m e)) k

pub empty_holds_fields : (m : BTreeMap ℤ (Vec Array Global)) (fs : Fields) → m.entries ≡ [] → HasFields (held_in m) fs
empty_holds_fields m fs e = none_fields HasKind (held_in m) (λ id. ap (λ held. held id) (nothing_held m e)) fs

-- ── fields one after another ──

pub field_held : (P : Kind → Forest → Type 0) (h : Held) (fs : Fields) (i : ℕ) (x : Child) → StandsIn fs i x → AllHeldIn P h (dropped i fs) → AllHeld P h x.kind
field_held P h fs i x e v = (subst (AllHeldIn P h) e v).0

pub rest_held : (P : Kind → Forest → Type 0) (h : Held) (fs : Fields) (i : ℕ) (x : Child) → StandsIn fs i x → AllHeldIn P h (dropped i fs) → AllHeldIn P h (dropped (suc i) fs)
rest_held P h fs i x e v = (subst (AllHeldIn P h) e v).1

-- what is held of the first fields is held of all where it is of those that are left
abbrev pub HeldDone : (Kind → Forest → Type 0) → Held → Fields → ℕ → Type 0
HeldDone P h fs i = AllHeldIn P h (dropped i fs) → AllHeldIn P h fs

pub next_held : (P : Kind → Forest → Type 0) (h : Held) (fs : Fields) (i : ℕ) (x : Child) → StandsIn fs i x → AllHeld P h x.kind → HeldDone P h fs i → HeldDone P h fs (suc i)
next_held P h fs i x e v d = λ w. d (subst (AllHeldIn P h) (sym e) (v, w))

-- of fields that are looked at one after another, all is held where what is left is, and the other way round
pub record SeenHeld (P : Kind → Forest → Type 0) (h : Held) (fs : Fields) (i : ℕ) : Type 0 where
  pub done : HeldDone P h fs i
  pub left : AllHeldIn P h fs → AllHeldIn P h (dropped i fs)

pub none_seen : (P : Kind → Forest → Type 0) (h : Held) (fs : Fields) → SeenHeld P h fs 0
none_seen P h fs = record { done = λ v. v; left = λ v. v }

pub one_seen : (P : Kind → Forest → Type 0) (h : Held) (fs : Fields) (i : ℕ) (x : Child) → StandsIn fs i x → AllHeld P h x.kind → SeenHeld P h fs i → SeenHeld P h fs (suc i)
one_seen P h fs i x e v s = record { done = next_held P h fs i x e v s.done; left = λ w. rest_held P h fs i x e (s.left w) }

pub all_seen : (P : Kind → Forest → Type 0) (h : Held) (fs : Fields) (i : ℕ) → width fs ≤ i → SeenHeld P h fs i → AllHeldIn P h fs
all_seen P h fs i n s = s.done (subst (AllHeldIn P h) (sym (dropped_end fs i n)) tt)

-- ── what a test tells ──

pub told_as : {A B : Type 0} (r : Bool) → IsTrue r ↔ A → (A → B) → (B → A) → IsTrue r ↔ B
told_as r t f g = (λ e. f (t.0 e), λ b. t.1 (g b))

pub told_false : {A B : Type 0} (r : Bool) → r ≡ false → IsTrue r ↔ A → (B → A) → IsTrue false ↔ B
told_false r e t g = (λ x. cc, λ b. sym e ∙ t.1 (g b))

pub told_true : {B : Type 0} → B → IsTrue true ↔ B
told_true b = (λ e. b, λ w. refl)

-- kinds that are one without ids have the same parts
pub held_as : (o : Option Forest) (k l : Kind) → plain_kind k ≡ plain_kind l → IfSome o (HasKind k) → IfSome o (HasKind l)
held_as o k l e v = subst (λ z. IfSome o (λ parts. each_of z (kinds_each parts) ≡ true)) e v

pub parts_told : (k : Kind) (o : Option (Vec Array Global)) (v : Vec Array Global) (r : Bool) → Some v ≡ o → r ≡ each_of (plain_kind k) (kinds_each (forest_of v.items)) → IsTrue r ↔ IfSome (option_map (λ v. forest_of v.items) o) (HasKind k)
parts_told k None v r e f = cc
parts_told k (Some w) v r e f =
    let x : v ≡ w = cc in
    let g : r ≡ each_of (plain_kind k) (kinds_each (forest_of w.items)) = f ∙ ap (λ (x : Vec Array Global). each_of (plain_kind k) (kinds_each (forest_of x.items))) x in
    (λ h. sym g ∙ h, λ h. g ∙ h)

pub none_told : (k : Kind) (o : Option (Vec Array Global)) → None ≡ o → IsTrue true ↔ IfSome (option_map (λ v. forest_of v.items) o) (HasKind k)
none_told k None e = told_true tt
none_told k (Some w) e = cc

-- one without children has no dictionary in it
pub childless_held : (P : Kind → Forest → Type 0) (h : Held) (k : Kind) (id : Option ℤ) (below : Ids) → is_any_counted k ≡ false → is_any_list k ≡ false → is_any_union k ≡ false → is_any_dictionary k ≡ false → AllHeld P h (kind_with k id below)
childless_held P h (kind.struct fs) id below s l u d = cc
childless_held P h (kind.fixed_size_list size fs) id below s l u d = cc
childless_held P h (kind.«list» o fs) id below s l u d = cc
childless_held P h (kind.map sorted fs) id below s l u d = cc
childless_held P h (kind.union mode stated ids fs) id below s l u d = cc
childless_held P h (kind.dictionary t ordered old k) id below s l u d = cc
childless_held P h (kind.extension name metadata k) id below s l u d = childless_held P h k id below s l u d
childless_held P h k id below s l u d = tt

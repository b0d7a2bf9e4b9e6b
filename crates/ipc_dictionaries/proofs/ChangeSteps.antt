-- Changes of what is held, one after another.
use Rattle.std.proofs.Common.{◌≡◌, ◌++◌, ℤ, List, [], ◌∷◌, Bool, true, false, Option, Some, None, if◌then◌else◌, length, refl, sym, ap, ◌∙◌, arith, subst, cond, Vec}
use Rattle.std.specs.BTreeMap.{BTreeMap, get, is_at}
use Rattle.std.specs.Map.{lookup}
use Rattle.std.specs.Option.{option_map, IsSome}
use Rattle.std.specs.Ordering.{int_cmp}
use Rattle.std.specs.declared.alloc.Global.{Global}
use Rattle.std.proofs.Math.Path.{fun_ext}
use Rattle.std.proofs.lemmas.Bool.{false≢true}
use Rattle.arrow_spec.specs.Kinds.{same}
use Rattle.arrow_arrays.specs.Parts.{Forest, forest}
use Rattle.arrow_arrays.specs.PartsOf.{all_parts_of, forest_of}
use Rattle.arrow_arrays.specs.declared.array.Array.{Array}
use Rattle.ipc_dictionaries.specs.declared.changes.Change.{Change}
use Rattle.ipc_dictionaries.specs.Changes.{parts_in, one_undone, undone, StillStands, CanUndo, Restores}
use Rattle.ipc_dictionaries.specs.NewDictionaries.{held_with}
use Rattle.ipc_dictionaries.specs.Tracker.{Held, held_in}
use Rattle.ipc_dictionaries.proofs.Ids.{same_is, same_self, at_same}

-- ── a map that a value was put into, or taken out of ──

abbrev seen : Option (Vec Array Global) → Option Forest
seen o = option_map (λ w. forest_of w.items) o

pub held_put : (m n : BTreeMap ℤ (Vec Array Global)) (id : ℤ) (v : Vec Array Global) (parts : List Array) → ((q : ℤ) → get int_cmp n q ≡ cond (is_at (int_cmp id) q) (Some v) (get int_cmp m q))
    → all_parts_of v.items ≡ all_parts_of parts → (q : ℤ) → held_in n q ≡ held_with id (forest_of parts) (held_in m) q
held_put m n id v parts u e q = ap seen (u q ∙ ap (λ b. cond b (Some v) (get int_cmp m q)) (at_same id q)) ∙ by (same id q)
  where
    by : (b : Bool) → seen (cond b (Some v) (get int_cmp m q)) ≡ (if b then Some (forest_of parts) else held_in m q)
    by true = ap (λ ps. Some (forest ps)) e
    by false = refl

pub held_out : (m n : BTreeMap ℤ (Vec Array Global)) (id : ℤ) → ((q : ℤ) → get int_cmp n q ≡ cond (is_at (int_cmp id) q) None (get int_cmp m q)) → (q : ℤ) → held_in n q ≡ (if same id q then None else held_in m q)
held_out m n id u q = ap seen (u q ∙ ap (λ b. cond b None (get int_cmp m q)) (at_same id q)) ∙ by (same id q)
  where
    by : (b : Bool) → seen (cond b None (get int_cmp m q)) ≡ (if b then None else held_in m q)
    by true = refl
    by false = refl

pub held_as : (m n : BTreeMap ℤ (Vec Array Global)) → n.entries ≡ m.entries → (q : ℤ) → held_in n q ≡ held_in m q
held_as m n e q = ap (λ es. seen (lookup (is_at (int_cmp q)) es)) e

-- something stands there still, so a value that is put there takes no memory
pub not_absent : (m : BTreeMap ℤ (Vec Array Global)) (id : ℤ) (v : Vec Array Global) → StillStands (Some v) (held_in m id) → get int_cmp m id ≡ None → ⊥
not_absent m id v s e = absurd (false≢true (subst IsSome (ap seen e) s))

-- what was there before a value was put there stands there again
pub undone_put : (c : Change) (h h' : Held) (parts : Forest) → ((q : ℤ) → h' q ≡ held_with c.id parts h q) → parts_in c.parts ≡ h c.id → (q : ℤ) → one_undone c h' q ≡ h q
undone_put c h h' parts u e q = by (same c.id q) refl
  where
    by : (b : Bool) → same c.id q ≡ b → (if b then parts_in c.parts else h' q) ≡ h q
    by true s = e ∙ ap h (same_is c.id q s)
    by false s = u q ∙ ap (λ b. if b then Some parts else h q) s

put_there : (id : ℤ) (h h' : Held) (parts : Forest) → ((q : ℤ) → h' q ≡ held_with id parts h q) → h' id ≡ Some parts
put_there id h h' parts u = u id ∙ ap (λ b. if b then Some parts else h id) (same_self id)

some_stands : (o : Option (Vec Array Global)) (now : Option Forest) (parts : Forest) → now ≡ Some parts → StillStands o now
some_stands None now parts e = tt
some_stands (Some v) now parts e = subst IsSome (sym e) refl

-- ── the last change ──

pub undone-append : (cs : List Change) (c : Change) (h : Held) → undone (cs ++ c ∷ []) h ≡ undone cs (one_undone c h)
undone-append [] c h = refl
undone-append (d ∷ cs) c h = ap (one_undone d) (undone-append cs c h)

pub can-append : (cs : List Change) (c : Change) (h : Held) → CanUndo cs (one_undone c h) → StillStands c.parts (h c.id) → CanUndo (cs ++ c ∷ []) h
can-append [] c h can stands = (tt, stands)
can-append (d ∷ cs) c h can stands = (can-append cs c h can.0 stands, subst (λ g. StillStands d.parts (g d.id)) (sym (undone-append cs c h)) can.1)

pub can_last : (cs : List Change) (c : Change) (h : Held) → CanUndo (cs ++ c ∷ []) h → CanUndo cs (one_undone c h) × StillStands c.parts (h c.id)
can_last [] c h can = (tt, can.1)
can_last (d ∷ cs) c h can =
    let rest : CanUndo cs (one_undone c h) × StillStands c.parts (h c.id) = can_last cs c h can.0 in
    ((rest.0, subst (λ g. StillStands d.parts (g d.id)) (undone-append cs c h) can.1), rest.1)

pub last_stands : (cs ds : List Change) (c : Change) (h : Held) → ds ≡ cs ++ c ∷ [] → CanUndo ds h → CanUndo (c ∷ []) h
last_stands cs ds c h e can = (tt, (can_last cs c h (subst (λ xs. CanUndo xs h) e can)).1)

pub one_fewer : (cs ds : List Change) (c : Change) (h h' whole : Held) → ds ≡ cs ++ c ∷ [] → ((q : ℤ) → h' q ≡ undone (c ∷ []) h q) → CanUndo ds h → ((q : ℤ) → undone ds h q ≡ whole q) → CanUndo cs h' × ((q : ℤ) → undone cs h' q ≡ whole q)
one_fewer cs ds c h h' whole e f can given =
    let is : h' ≡ one_undone c h = fun_ext f in
    let last : CanUndo cs (one_undone c h) × StillStands c.parts (h c.id) = can_last cs c h (subst (λ xs. CanUndo xs h) e can) in (
      subst (CanUndo cs) (sym is) last.0,
      λ q. ap (λ g. undone cs g q) is ∙ ap (λ (g : Held). g q) (sym (undone-append cs c h)) ∙ ap (λ xs. undone xs h q) (sym e) ∙ given q,
    )

pub all_undone : (cs : List Change) (h whole : Held) → length cs ≡ 0 → ((q : ℤ) → undone cs h q ≡ whole q) → (q : ℤ) → h q ≡ whole q
all_undone [] h whole e given q = given q
all_undone (c ∷ cs) h whole e given q = absurd (omega (arith, e))

-- ── what changes give back ──

pub restores_nothing : (cs : List Change) (h : Held) → cs ≡ [] → Restores cs h h
restores_nothing cs h e = subst (λ xs. Restores xs h h) (sym e) (record { can = tt; given = λ q. refl })

pub restores_as : (cs ds : List Change) (h g before : Held) → ds ≡ cs → ((q : ℤ) → g q ≡ h q) → Restores cs h before → Restores ds g before
restores_as cs ds h g before e f r = subst (λ xs. Restores xs g before) (sym e) (subst (λ k. Restores cs k before) (sym (fun_ext f)) r)

pub one_more_change : (cs : List Change) (c : Change) (h h' before : Held) (parts : Forest) → ((q : ℤ) → h' q ≡ held_with c.id parts h q) → parts_in c.parts ≡ h c.id → Restores cs h before → Restores (cs ++ c ∷ []) h' before
one_more_change cs c h h' before parts u e r =
    let back : one_undone c h' ≡ h = fun_ext (undone_put c h h' parts u e) in
    record {
      can = can-append cs c h' (subst (CanUndo cs) (sym back) r.can) (some_stands c.parts (h' c.id) parts (put_there c.id h h' parts u));
      given = λ q. ap (λ g. g q) (undone-append cs c h' ∙ ap (undone cs) back) ∙ r.given q;
    }

pub pushed : (cs ds es : List Change) (c : Change) (h h' before : Held) (parts : Forest) → ds ≡ cs → es ≡ ds ++ c ∷ [] → ((q : ℤ) → h' q ≡ held_with c.id parts h q) → parts_in c.parts ≡ h c.id → Restores cs h before → Restores es h' before
pushed cs ds es c h h' before parts d e u w r = subst (λ xs. Restores xs h' before) (sym (e ∙ ap (λ xs. xs ++ c ∷ []) d)) (one_more_change cs c h h' before parts u w r)

-- Under ids that count up in preorder each dictionary of a batch has an id of its own, so that none is refused for values that the batch has fixed already.
use Rattle.std.proofs.Common.{◌≡◌, ℕ, suc, ◌+◌, ◌<◌, ◌≤◌, ◌||◌, Bool, true, false, Option, Some, None, Result, Ok, Err, refl, ap, subst, ◌∙◌, arith, ℤ, pos}
use Rattle.std.specs.Prelude.{⊤, ◌&&◌, if◌then◌else◌, is_some, nat_le, not}
use Rattle.std.specs.Option.{unwrap_or}
use Rattle.std.proofs.lemmas.Bool.{and_parts, ne_eqb}
use Rattle.arrow_spec.specs.declared.error.IpcError.{IpcError}
use Rattle.arrow_spec.specs.declared.error.IpcError.TheVariants as errors
use Rattle.arrow_spec.specs.declared.types.IntegerType.{IntegerType}
use Rattle.arrow_spec.specs.Kinds as kind
use Rattle.arrow_spec.specs.Kinds.{Kind, Fields, dictionary_count, dictionary_counts, numbered, numbered_kind, same}
use Rattle.ipc_files.specs.Below.{Head, are_of, child_fields, each_of, indexed, is_dictionary, listed, mapped, sized, structured, suits, tagged, values_kind, Parts, Forest, leaf, nested, none, also, fault_each, fault_in, kind_in, kinds_each, rows_in}
use Rattle.ipc_files.proofs.Below.{neither, top_sound}
use Rattle.ipc_fields.specs.IpcFields.{Ids, fields_with, kind_with}
use Rattle.ipc_fields.specs.Uses.{first_id, first_ids, id_under, other_ids}
use Rattle.arrow_spec.proofs.Forms.{form}
use Rattle.laws_writers.specs.Below.{Standing, Absent, Longer, Other, Same, Options, Sending, array_sent, arrays_sent, dictionary_sent, fixing, has_several, holding, message_of, parts_sent, rows_from, scoped, sending, then_by, allowed, delta_start, standing, is_indexed}
use Rattle.laws_writers.proofs.Apart.{PartsUnder, Under, children_under, columns_of_kinds, same_dictionary, values_under_them}
use Rattle.laws_sent.specs.DictionaryLaws.{NoneIsReplaced}
use Rattle.laws_sent.proofs.FieldKinds.{ids_split}
use Rattle.laws_sent.proofs.Walks.{dictionary_ids}

-- ── ids that are free ──

-- no id from a number on is fixed
abbrev IsFree : ℕ → (ℤ → Bool) → Type 0
IsFree i used = (j : ℕ) → i ≤ j → used (pos j) ≡ false

-- a refusal that is not for other values under an id
abbrev IsNoReplacement : IpcError → Type 0
IsNoReplacement (errors.DictionaryReplaced id) = ⊥
IsNoReplacement e = ⊤

-- a walk leaves the ids from a number on free, or is refused for no values under an id
abbrev Leaves : ℕ → Result Sending IpcError → Type 0
Leaves i (Ok t) = IsFree i t.used
Leaves i (Err e) = IsNoReplacement e

later : (i j : ℕ) (r : Result Sending IpcError) → i ≤ j → Leaves i r → Leaves j r
later i j (Ok t) h free = λ l from. free l (omega (arith, h, from))
later i j (Err e) h free = free

one_more : (i j : ℕ) (r : Result Sending IpcError) (f : Sending → Result Sending IpcError) → Leaves i r → ((t : Sending) → IsFree i t.used → Leaves j (f t)) → Leaves j (then_by r f)
one_more i j (Ok t) f free rest = rest t free
one_more i j (Err e) f free rest = free

either_leaves : (i : ℕ) (b : Bool) (q r : Result Sending IpcError) → Leaves i q → Leaves i r → Leaves i (if b then q else r)
either_leaves i true q r f g = f
either_leaves i false q r f g = g

neither_used : (a b : Bool) → a ≡ false → b ≡ false → (a || b) ≡ false
neither_used a b f g = rw (f, g) refl

another : (i j : ℕ) → i < j → same (pos i) (pos j) ≡ false
another i j less = ne_eqb i j (λ e. omega (arith, e, less))

-- ── a dictionary ──

-- values that the batch has not fixed may be put
never_refused : (deltas : Bool) (st : Standing) → allowed false deltas st ≡ None → ⊥
never_refused deltas Absent e = cc
never_refused deltas Same e = cc
never_refused true (Longer n) e = cc
never_refused false (Longer n) e = cc
never_refused deltas Other e = cc

-- its id is not free then, and those behind it are
fixed_leaves : (i j : ℕ) (id : ℤ) (s : Sending) → id ≡ pos i → i < j → IsFree j s.used → IsFree j (fixing id s).used
fixed_leaves i j id s own less free = λ l from. neither_used (s.used (pos l)) (same id (pos l)) (free l from) (ap (λ q. same q (pos l)) own ∙ another i l (omega (arith, less, from)))

dictionary_leaves : (o : Options) (may : Option Bool) (start : Option ℕ) (i j : ℕ) (id : ℤ) (parts : Forest) (s : Sending) (walked : Result Sending IpcError) → (may ≡ None → ⊥) → id ≡ pos i → i < j → IsFree j s.used → Leaves j walked
    → Leaves j (dictionary_sent o may start id parts s walked)
dictionary_leaves o None start i j id parts s walked never own less free there = absurd (never refl)
dictionary_leaves o (Some false) start i j id parts s walked never own less free there = fixed_leaves i j id s own less free
dictionary_leaves o (Some true) start i j id parts s walked never own less free there =
    either_leaves j (not (is_some start) && not o.deltas && has_several parts) (Err errors.NotRepresentable) (then_by walked (λ t. Ok (holding id parts t))) tt
    (one_more j j walked (λ t. Ok (holding id parts t)) there (λ t f. fixed_leaves i j id t own less f))

-- ── the ids of a kind's parts ──

-- its fields have its ids
record AreInside (k : Kind) (i : ℕ) (below : Ids) : Type 0 where
  numbers : fields_with (child_fields k) below ≡ numbered (child_fields k) i
  within : dictionary_counts (child_fields k) ≤ dictionary_count k

fields_inside : (k : Kind) (id : Option ℤ) (below : Ids) (i : ℕ) → kind_with k id below ≡ numbered_kind k i → AreInside k i below
fields_inside (kind.«list» w fs) id below i h =
    let alike : kind.«list» w (fields_with fs below) ≡ kind.«list» w (numbered fs i) = h in
    record { numbers = cc; within = omega arith }
fields_inside (kind.fixed_size_list n fs) id below i h =
    let alike : kind.fixed_size_list n (fields_with fs below) ≡ kind.fixed_size_list n (numbered fs i) = h in
    record { numbers = cc; within = omega arith }
fields_inside (kind.struct fs) id below i h =
    let alike : kind.struct (fields_with fs below) ≡ kind.struct (numbered fs i) = h in
    record { numbers = cc; within = omega arith }
fields_inside (kind.map sorted fs) id below i h =
    let alike : kind.map sorted (fields_with fs below) ≡ kind.map sorted (numbered fs i) = h in
    record { numbers = cc; within = omega arith }
fields_inside (kind.union mode stated types fs) id below i h =
    let alike : kind.union mode stated types (fields_with fs below) ≡ kind.union mode stated types (numbered fs i) = h in
    record { numbers = cc; within = omega arith }
fields_inside (kind.extension name metadata k) id below i h =
    let alike : kind.extension name metadata (kind_with k id below) ≡ kind.extension name metadata (numbered_kind k i) = h in
    let inner = fields_inside k id below i cc in
    record { numbers = inner.numbers; within = inner.within }
fields_inside k id below i h = record { numbers = refl; within = omega arith }

-- a dictionary has the first of its ids, and its values the others
record IsFirst (k : Kind) (id : Option ℤ) (below : Ids) (i : ℕ) : Type 0 where
  own : id_under id ≡ pos i
  values : kind_with (values_kind k) None below ≡ numbered_kind (values_kind k) (suc i)
  count : dictionary_count k ≡ suc (dictionary_count (values_kind k))

first_is : (t : IntegerType) (k : Kind) (id : Option ℤ) (below : Ids) (i : ℕ) → is_dictionary t k ≡ true → kind_with k id below ≡ numbered_kind k i → IsFirst k id below i
first_is t (kind.dictionary index ordered q k) id below i is h =
    let both = dictionary_ids index ordered q k id below i h in
    record { own = both.0; values = both.1; count = refl }
first_is t (kind.extension name metadata k) id below i is h =
    let alike : kind.extension name metadata (kind_with k id below) ≡ kind.extension name metadata (numbered_kind k i) = h in
    let inner = first_is t k id below i is cc in
    record { own = inner.own; values = inner.values; count = inner.count }
first_is t k id below i is h = cc

-- ── arrays ──

-- the children of an array that is no dictionary are arrays of a kind's fields
children_are : (h : Head) (cs : Forest) (k : Kind) → is_indexed (nested h cs) ≡ false → form k ≡ form (kind_in (nested h cs)) → fault_in (nested h cs) ≡ None → Under (child_fields k) cs × (fault_each cs ≡ None)
children_are (indexed d) cs k i e f = cc
children_are (listed l) cs k i e f = let s = top_sound (listed l) cs f in (children_under k l.kind cs e (and_parts (suits (listed l)) (are_of (child_fields l.kind) (kinds_each cs)) s.0.suits).1, s.1)
children_are (mapped l) cs k i e f = let s = top_sound (mapped l) cs f in (children_under k l.kind cs e (and_parts (suits (mapped l)) (are_of (child_fields l.kind) (kinds_each cs)) s.0.suits).1, s.1)
children_are (sized l) cs k i e f = let s = top_sound (sized l) cs f in (children_under k l.kind cs e (and_parts (suits (sized l)) (are_of (child_fields l.kind) (kinds_each cs)) s.0.suits).1, s.1)
children_are (structured l) cs k i e f = let s = top_sound (structured l) cs f in (children_under k l.kind cs e (and_parts (suits (structured l)) (are_of (child_fields l.kind) (kinds_each cs)) s.0.suits).1, s.1)
children_are (tagged l) cs k i e f = let s = top_sound (tagged l) cs f in (children_under k l.kind cs e (and_parts (suits (tagged l)) (are_of (child_fields l.kind) (kinds_each cs)) s.0.suits).1, s.1)

module _ (o : Options) (replaces : o.cannot_replace ≡ false) where
  mutual
    array_leaves : (p : Parts) (k : Kind) (i : ℕ) (id : Option ℤ) (below : Ids) (s : Sending) → kind_with k id below ≡ numbered_kind k i → form k ≡ form (kind_in p) → fault_in p ≡ None → IsFree i s.used → Leaves (i + dictionary_count k) (array_sent o p id below s)
    array_leaves (leaf l) k i id below s ids e f free = later i (i + dictionary_count k) (Ok s) (omega arith) free
    array_leaves (nested (indexed d) parts) k i id below s ids e f free =
        let sound = top_sound (indexed d) parts f in
        let both = and_parts (is_dictionary d.index d.kind) (each_of (values_kind d.kind) (kinds_each parts)) sound.0.suits in
        let v = values_kind k in
        let first = first_is d.index k id below i (same_dictionary d.index k d.kind e both.0) ids in
        let q = id_under id in
        let st = standing (s.held q) (values_kind d.kind) parts in
        let start = delta_start o.deltas st in
        let end = i + dictionary_count k in
        let inside : suc i + dictionary_count v ≡ end = omega (arith, first.count) in
        let unused : (o.cannot_replace || s.used q) ≡ false = neither_used o.cannot_replace (s.used q) replaces (ap s.used first.own ∙ free i (omega arith)) in
        let walked = parts_leave parts v (suc i) s.used q below (is_some start) (unwrap_or start 0) s first.values (values_under_them k d.kind parts e both.1) sound.1 (λ j from. free j (omega (arith, from))) (λ j from. free j (omega (arith, from))) in
        dictionary_leaves o (allowed (o.cannot_replace || s.used q) o.deltas st) start i end q parts s (parts_sent o s.used q below (is_some start) (unwrap_or start 0) parts s)
        (λ never. never_refused o.deltas st (subst (λ b. allowed b o.deltas st ≡ None) unused never)) first.own (omega (arith, inside)) (λ j from. free j (omega (arith, from))) (subst (λ n. Leaves n (parts_sent o s.used q below (is_some start) (unwrap_or start 0) parts s)) inside walked)
    array_leaves (nested h cs) k i id below s ids e f free =
        let there = children_are h cs k refl e f in
        let inner = fields_inside k id below i ids in
        later (i + dictionary_counts (child_fields k)) (i + dictionary_count k) (arrays_sent o cs below s) (omega (arith, inner.within)) (arrays_leave cs (child_fields k) i below s inner.numbers there.0 there.1 free)

    arrays_leave : (ps : Forest) (fs : Fields) (i : ℕ) (below : Ids) (s : Sending) → fields_with fs below ≡ numbered fs i → Under fs ps → fault_each ps ≡ None → IsFree i s.used → Leaves (i + dictionary_counts fs) (arrays_sent o ps below s)
    arrays_leave none fs i below s ids u f free = later i (i + dictionary_counts fs) (Ok s) (omega arith) free
    arrays_leave (also p ps) kind.none i below s ids u f free = absurd u
    arrays_leave (also p ps) (kind.field name nullable metadata k fs) i below s ids u f free =
        let sound = neither (fault_in p) (fault_each ps) f in
        let both = ids_split name nullable metadata k fs below i ids in
        let j = i + dictionary_count k in
        let sum : j + dictionary_counts fs ≡ i + dictionary_counts (kind.field name nullable metadata k fs) = omega arith in
        one_more j (i + dictionary_counts (kind.field name nullable metadata k fs)) (array_sent o p (first_id below) (first_ids below) s) (arrays_sent o ps (other_ids below)) (array_leaves p k i (first_id below) (first_ids below) s both.0 u.0 sound.0 free)
        (λ t after. subst (λ n. Leaves n (arrays_sent o ps (other_ids below) t)) sum (arrays_leave ps fs j (other_ids below) t both.1 u.1 sound.1 after))

    -- each part begins with the ids that were fixed before its dictionary
    parts_leave : (ps : Forest) (k : Kind) (i : ℕ) (used : ℤ → Bool) (id : ℤ) (below : Ids) (is_delta : Bool) (n : ℕ) (s : Sending) → kind_with k None below ≡ numbered_kind k i → PartsUnder k ps → fault_each ps ≡ None → IsFree i used → IsFree (i + dictionary_count k) s.used
        → Leaves (i + dictionary_count k) (parts_sent o used id below is_delta n ps s)
    parts_leave none k i used id below is_delta n s ids u f before free = free
    parts_leave (also p ps) k i used id below is_delta n s ids u f before free =
        let sound = neither (fault_in p) (fault_each ps) f in
        let end = i + dictionary_count k in
        let rest = λ (t : Sending). parts_sent o used id below true 0 ps (sending (message_of id is_delta (rows_from n p)) s.used t) in
        either_leaves end (is_delta && nat_le (rows_in p) n) _ (then_by (array_sent o p None below (scoped used s)) rest) (parts_leave ps k i used id below true _ s ids u.1 sound.1 before free)
        (one_more end end (array_sent o p None below (scoped used s)) rest (array_leaves p k i None below (scoped used s) ids u.0 sound.0 before)
        (λ t after. parts_leave ps k i used id below true 0 (sending (message_of id is_delta (rows_from n p)) s.used t) ids u.1 sound.1 before (λ j from. neither_used (s.used (pos j)) (t.used (pos j)) (free j from) (after j from))))

-- ── columns ──

pub none_replaced : NoneIsReplaced
none_replaced o fs below columns s id replaces ids kinds sound unused is =
    let walked = arrays_leave o replaces columns fs 0 below s ids (columns_of_kinds columns fs kinds) sound (λ j from. unused (pos j)) in
    subst (Leaves (0 + dictionary_counts fs)) is walked

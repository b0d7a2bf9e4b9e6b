-- Arrays over one list of values for each dictionary are sent, whatever of the lists is held.
use Rattle.std.proofs.Common.{◌≡◌, ◌⊎◌, inl, inr, ℕ, suc, ◌+◌, ◌-◌, ◌&&◌, ◌||◌, List, length, take, Bool, true, false, Option, Some, None, Result, Ok, refl, sym, ap, subst, ◌∙◌, arith, ℤ, pos, negsuc}
use Rattle.std.specs.Prelude.{cond, is_some, nat_le, nat_lt}
use Rattle.std.specs.Option.{unwrap_or}
use Rattle.std.proofs.lemmas.Bool.{and_parts, eqb-true}
use Rattle.std.proofs.lemmas.List.{take_all}
use Rattle.arrow_spec.specs.declared.error.IpcError.{IpcError}
use Rattle.arrow_spec.specs.declared.types.IntegerType.{IntegerType}
use Rattle.arrow_spec.specs.Cells.{Cell}
use Rattle.arrow_spec.specs.Counts.{magnitude}
use Rattle.arrow_spec.specs.Kinds as kind
use Rattle.arrow_spec.specs.Kinds.{Kind, Fields, dictionary_count, numbered, numbered_kind, same}
use Rattle.arrow_spec.proofs.Forms.{count_form, form}
use Rattle.arrow_types.specs.KindCode.{by_tree_itself}
use Rattle.arrow_arrays.specs.CellCode.{content_eq, content_to}
use Rattle.arrow_arrays.specs.Heads.{Head, are_of, child_fields, each_of, indexed, is_dictionary, joined, listed, mapped, sized, structured, suits, tagged, values_kind}
use Rattle.arrow_arrays.specs.Parts.{Parts, Forest, leaf, nested, none, also, cells_each, fault_each, fault_in, kind_in, kinds_each, rows_in}
use Rattle.arrow_arrays.proofs.Sliced.{neither, top_sound}
use Rattle.ipc_fields.specs.IpcFields.{Ids, fields_with, kind_with}
use Rattle.ipc_fields.specs.Uses.{first_id, first_ids, id_under, other_ids}
use Rattle.ipc_append.specs.Below.{Absent, Same, Options, Sending, allowed, are_same_cells, array_sent, arrays_sent, by_cells, delta_start, dictionary_sent, fixing, holding, is_indexed, message_of, parts_sent, rows_from, scoped, sending, standing, then_by}
use Rattle.ipc_append.proofs.Below.{PartsUnder, Under, children_under, same_dictionary, values_under_them, ids_split, dictionary_ids}
use Rattle.ipc_unify.specs.Below.{AreOver, IsOver, Lists, PartsAreOver}

-- ── values that are held ──

same_itself : (xs : List Cell) → are_same_cells xs xs ≡ true
unfolding content_eq
same_itself xs = by_tree_itself content_to (kind.null, xs) (kind.null, xs) refl

less_itself : (n : ℕ) → nat_lt n n ≡ false
less_itself n = grind arith

by_itself : (xs : List Cell) → by_cells xs xs ≡ Same
by_itself xs =
    let e : take (length xs) xs ≡ xs = take_all (length xs) xs (omega arith) in
    rw (e, same_itself xs, less_itself (length xs)) refl

stands_same : (k : Kind) (parts : Forest) → each_of k (kinds_each parts) ≡ true → standing (Some parts) k parts ≡ Same
stands_same k parts h = rw (h, by_itself (joined (cells_each parts))) refl

same_is : (x y : ℤ) → same x y ≡ true → x ≡ y
same_is (pos a) (pos b) h = ap pos (eqb-true a b h)
same_is (negsuc a) (negsuc b) h = ap negsuc (eqb-true a b h)
same_is (pos a) (negsuc b) h = cc
same_is (negsuc a) (pos b) h = cc

allowed_absent : (f d : Bool) → allowed f d Absent ≡ Some true
allowed_absent true true = refl
allowed_absent true false = refl
allowed_absent false true = refl
allowed_absent false false = refl

allowed_same : (f d : Bool) → allowed f d Same ≡ Some false
allowed_same true true = refl
allowed_same true false = refl
allowed_same false true = refl
allowed_same false false = refl

absent_start : (d : Bool) → delta_start d Absent ≡ None
absent_start true = refl
absent_start false = refl

-- ── the ids of a kind's parts ──

fields_inside : (k : Kind) (id : Option ℤ) (below : Ids) (i : ℕ) → kind_with k id below ≡ numbered_kind k i → fields_with (child_fields k) below ≡ numbered (child_fields k) i
fields_inside (kind.«list» w fs) id below i h = let alike : kind.«list» w (fields_with fs below) ≡ kind.«list» w (numbered fs i) = h in cc
fields_inside (kind.fixed_size_list n fs) id below i h = let alike : kind.fixed_size_list n (fields_with fs below) ≡ kind.fixed_size_list n (numbered fs i) = h in cc
fields_inside (kind.struct fs) id below i h = let alike : kind.struct (fields_with fs below) ≡ kind.struct (numbered fs i) = h in cc
fields_inside (kind.map sorted fs) id below i h = let alike : kind.map sorted (fields_with fs below) ≡ kind.map sorted (numbered fs i) = h in cc
fields_inside (kind.union mode stated types fs) id below i h = let alike : kind.union mode stated types (fields_with fs below) ≡ kind.union mode stated types (numbered fs i) = h in cc
fields_inside (kind.extension name metadata k) id below i h =
    let alike : kind.extension name metadata (kind_with k id below) ≡ kind.extension name metadata (numbered_kind k i) = h in
    fields_inside k id below i cc
fields_inside k id below i h = refl

-- a dictionary has the first of its ids, and its values the others
record IsFirst (k : Kind) (id : Option ℤ) (below : Ids) (i : ℕ) : Type 0 where
  own : id_under id ≡ pos i
  values : kind_with (values_kind k) None below ≡ numbered_kind (values_kind k) (suc i)

first_is : (t : IntegerType) (k : Kind) (id : Option ℤ) (below : Ids) (i : ℕ) → is_dictionary t k ≡ true → kind_with k id below ≡ numbered_kind k i → IsFirst k id below i
first_is t (kind.dictionary index ordered q k) id below i is h =
    let both = dictionary_ids index ordered q k id below i h in
    record { own = both.0; values = both.1 }
first_is t (kind.extension name metadata k) id below i is h =
    let alike : kind.extension name metadata (kind_with k id below) ≡ kind.extension name metadata (numbered_kind k i) = h in
    let inner = first_is t k id below i is cc in
    record { own = inner.own; values = inner.values }
first_is t k id below i is h = cc

-- the children of an array that is no dictionary are arrays of a kind's fields
children_are : (h : Head) (cs : Forest) (k : Kind) → is_indexed (nested h cs) ≡ false → form k ≡ form (kind_in (nested h cs)) → fault_in (nested h cs) ≡ None → Under (child_fields k) cs × (fault_each cs ≡ None)
children_are (indexed d) cs k i e f = cc
children_are (listed l) cs k i e f = let s = top_sound (listed l) cs f in (children_under k l.kind cs e (and_parts (suits (listed l)) (are_of (child_fields l.kind) (kinds_each cs)) s.0.suits).1, s.1)
children_are (mapped l) cs k i e f = let s = top_sound (mapped l) cs f in (children_under k l.kind cs e (and_parts (suits (mapped l)) (are_of (child_fields l.kind) (kinds_each cs)) s.0.suits).1, s.1)
children_are (sized l) cs k i e f = let s = top_sound (sized l) cs f in (children_under k l.kind cs e (and_parts (suits (sized l)) (are_of (child_fields l.kind) (kinds_each cs)) s.0.suits).1, s.1)
children_are (structured l) cs k i e f = let s = top_sound (structured l) cs f in (children_under k l.kind cs e (and_parts (suits (structured l)) (are_of (child_fields l.kind) (kinds_each cs)) s.0.suits).1, s.1)
children_are (tagged l) cs k i e f = let s = top_sound (tagged l) cs f in (children_under k l.kind cs e (and_parts (suits (tagged l)) (are_of (child_fields l.kind) (kinds_each cs)) s.0.suits).1, s.1)

same_count : (k : Kind) (p : Parts) → form k ≡ form (kind_in p) → dictionary_count (kind_in p) ≡ dictionary_count k
same_count k p e = sym (count_form (kind_in p)) ∙ ap dictionary_count (sym e) ∙ count_form k

-- ── walks ──

-- under each id nothing is held, or its list
abbrev pub HoldsLists : Lists → Sending → Type 0
HoldsLists us s = (q : ℤ) → (s.held q ≡ None) ⊎ (s.held q ≡ Some (us (magnitude q)))

-- a walk that comes to an end, and holds nothing else then
pub record Ends (us : Lists) (r : Result Sending IpcError) : Type 0 where
  pub behind : Sending
  pub is : r ≡ Ok behind
  pub holds : HoldsLists us behind

module _ (us : Lists) (o : Options) (deltas : o.deltas ≡ true) where
  then_ends : (r : Result Sending IpcError) (f : Sending → Result Sending IpcError) → Ends us r → ((t : Sending) → HoldsLists us t → Ends us (f t)) → Ends us (then_by r f)
  then_ends r f e k = let t = k e.behind e.holds in record { behind = t.behind; is = ap (λ x. then_by x f) e.is ∙ t.is; holds = t.holds }

  either_ends : (b : Bool) (x y : Result Sending IpcError) → Ends us x → Ends us y → Ends us (cond b x y)
  either_ends true x y e f = e
  either_ends false x y e f = f

  held_it : (id : ℤ) (parts : Forest) (t : Sending) → parts ≡ us (magnitude id) → HoldsLists us t → HoldsLists us (holding id parts t)
  held_it id parts t e h q = by (same id q) refl
    where
      by : (b : Bool) → same id q ≡ b → (cond b (Some parts) (t.held q) ≡ None) ⊎ (cond b (Some parts) (t.held q) ≡ Some (us (magnitude q)))
      by true s = inr (ap (λ x. Some x) (e ∙ ap (λ z. us (magnitude z)) (same_is id q s)))
      by false s = h q

  taken_all : (id : ℤ) (parts : Forest) (s : Sending) (walked : Result Sending IpcError) → dictionary_sent o (Some true) None id parts s walked ≡ then_by walked (λ t. Ok (holding id parts t))
  taken_all id parts s walked = rw (dictionary_sent, deltas) refl

  -- a list of which nothing is held, and one that is held
  new_one : (id : ℤ) (k : Kind) (parts : Forest) (s : Sending) (walked : Result Sending IpcError) (fixed : Bool) → parts ≡ us (magnitude id) → s.held id ≡ None → Ends us walked
      → Ends us (dictionary_sent o (allowed fixed o.deltas (standing (s.held id) k parts)) (delta_start o.deltas (standing (s.held id) k parts)) id parts s walked)
  new_one id k parts s walked fixed e none_held w = record {
    behind = holding id parts w.behind;
    is = ap (λ z. dictionary_sent o (allowed fixed o.deltas (standing z k parts)) (delta_start o.deltas (standing z k parts)) id parts s walked) none_held
        ∙ ap (λ a. dictionary_sent o a (delta_start o.deltas Absent) id parts s walked) (allowed_absent fixed o.deltas)
        ∙ ap (λ d. dictionary_sent o (Some true) d id parts s walked) (absent_start o.deltas)
        ∙ taken_all id parts s walked
        ∙ ap (λ x. then_by x (λ t. Ok (holding id parts t))) w.is;
    holds = held_it id parts w.behind e w.holds;
  }

  same_one : (id : ℤ) (k : Kind) (parts : Forest) (s : Sending) (walked : Result Sending IpcError) (fixed : Bool) → parts ≡ us (magnitude id) → each_of k (kinds_each parts) ≡ true → s.held id ≡ Some (us (magnitude id)) → HoldsLists us s
      → Ends us (dictionary_sent o (allowed fixed o.deltas (standing (s.held id) k parts)) (delta_start o.deltas (standing (s.held id) k parts)) id parts s walked)
  same_one id k parts s walked fixed e kinds is h =
      let there : standing (s.held id) k parts ≡ Same = ap (λ z. standing z k parts) (is ∙ ap (λ x. Some x) (sym e)) ∙ stands_same k parts kinds in
      record {
        behind = fixing id s;
        is = ap (λ z. dictionary_sent o (allowed fixed o.deltas z) (delta_start o.deltas z) id parts s walked) there
            ∙ ap (λ a. dictionary_sent o a (delta_start o.deltas Same) id parts s walked) (allowed_same fixed o.deltas);
        holds = h;
      }

  dictionary_ends : (id : ℤ) (k : Kind) (parts : Forest) (s : Sending) (walked : Result Sending IpcError) (fixed : Bool) → parts ≡ us (magnitude id) → each_of k (kinds_each parts) ≡ true → HoldsLists us s → Ends us walked
      → Ends us (dictionary_sent o (allowed fixed o.deltas (standing (s.held id) k parts)) (delta_start o.deltas (standing (s.held id) k parts)) id parts s walked)
  dictionary_ends id k parts s walked fixed e kinds h w = by (h id)
    where
      by : (s.held id ≡ None) ⊎ (s.held id ≡ Some (us (magnitude id))) → Ends us (dictionary_sent o (allowed fixed o.deltas (standing (s.held id) k parts)) (delta_start o.deltas (standing (s.held id) k parts)) id parts s walked)
      by (inl none_held) = new_one id k parts s walked fixed e none_held w
      by (inr is) = same_one id k parts s walked fixed e kinds is h

  mutual
    array_ends : (p : Parts) (k : Kind) (i : ℕ) (id : Option ℤ) (below : Ids) (s : Sending) → kind_with k id below ≡ numbered_kind k i → form k ≡ form (kind_in p) → fault_in p ≡ None → IsOver us p i → HoldsLists us s → Ends us (array_sent o p id below s)
    array_ends (leaf l) k i id below s ids e f over h = record { behind = s; is = refl; holds = h }
    array_ends (nested (indexed d) parts) k i id below s ids e f over h =
        let sound = top_sound (indexed d) parts f in
        let both = and_parts (is_dictionary d.index d.kind) (each_of (values_kind d.kind) (kinds_each parts)) sound.0.suits in
        let first = first_is d.index k id below i (same_dictionary d.index k d.kind e both.0) ids in
        let q = id_under id in
        let start = delta_start o.deltas (standing (s.held q) (values_kind d.kind) parts) in
        dictionary_ends q (values_kind d.kind) parts s (parts_sent o s.used q below (is_some start) (unwrap_or start 0) parts s) (o.cannot_replace || s.used q) (over.0 ∙ ap (λ z. us (magnitude z)) (sym first.own)) both.1 h
        (parts_end parts (values_kind k) (suc i) s.used q below (is_some start) (unwrap_or start 0) s first.values (values_under_them k d.kind parts e both.1) sound.1 over.1 h)
    array_ends (nested h cs) k i id below s ids e f over holds =
        let there = children_are h cs k refl e f in
        arrays_end cs (child_fields k) i below s (fields_inside k id below i ids) there.0 there.1 over holds

    pub arrays_end : (ps : Forest) (fs : Fields) (i : ℕ) (below : Ids) (s : Sending) → fields_with fs below ≡ numbered fs i → Under fs ps → fault_each ps ≡ None → AreOver us ps i → HoldsLists us s → Ends us (arrays_sent o ps below s)
    arrays_end none fs i below s ids u f over h = record { behind = s; is = refl; holds = h }
    arrays_end (also p ps) kind.none i below s ids u f over h = absurd u
    arrays_end (also p ps) (kind.field name nullable metadata k fs) i below s ids u f over h =
        let sound = neither (fault_in p) (fault_each ps) f in
        let both = ids_split name nullable metadata k fs below i ids in
        then_ends (array_sent o p (first_id below) (first_ids below) s) (arrays_sent o ps (other_ids below)) (array_ends p k i (first_id below) (first_ids below) s both.0 u.0 sound.0 over.0 h)
        (λ t g. arrays_end ps fs (i + dictionary_count k) (other_ids below) t both.1 u.1 sound.1 (subst (λ n. AreOver us ps (i + n)) (same_count k p u.0) over.1) g)

    parts_end : (ps : Forest) (k : Kind) (i : ℕ) (used : ℤ → Bool) (id : ℤ) (below : Ids) (is_delta : Bool) (n : ℕ) (s : Sending) → kind_with k None below ≡ numbered_kind k i → PartsUnder k ps → fault_each ps ≡ None → PartsAreOver us ps i → HoldsLists us s
        → Ends us (parts_sent o used id below is_delta n ps s)
    parts_end none k i used id below is_delta n s ids u f over h = record { behind = s; is = refl; holds = h }
    parts_end (also p ps) k i used id below is_delta n s ids u f over h =
        let sound = neither (fault_in p) (fault_each ps) f in
        either_ends (is_delta && nat_le (rows_in p) n) (parts_sent o used id below true (n - rows_in p) ps s) _
        (parts_end ps k i used id below true (n - rows_in p) s ids u.1 sound.1 over.1 h)
        (then_ends (array_sent o p None below (scoped used s)) _ (array_ends p k i None below (scoped used s) ids u.0 sound.0 over.0 h)
        (λ t g. parts_end ps k i used id below true 0 (sending (message_of id is_delta (rows_from n p)) s.used t) ids u.1 sound.1 over.1 g))

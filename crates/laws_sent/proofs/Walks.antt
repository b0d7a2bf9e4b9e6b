-- The walk over arrays that were read of a file, by the kinds of their fields.
use Rattle.std.proofs.Common.{◌≡◌, ℕ, suc, ◌+◌, List, length, take, refl, sym, ap, subst, ◌∙◌, arith, true, false, Bool, Option, Some, None, Result, ℤ, pos}
use Rattle.std.specs.List.{AllByRecursion}
use Rattle.std.proofs.lemmas.Bool.{and_parts}
use Rattle.arrow_spec.specs.declared.error.IpcError.{IpcError}
use Rattle.arrow_spec.specs.declared.types.IntegerType.{IntegerType}
use Rattle.arrow_spec.specs.Kinds as kind
use Rattle.arrow_spec.specs.Kinds.{Kind, Fields, Use, dictionary_count, dictionary_counts, numbered, numbered_kind, uses_in, uses_of}
use Rattle.arrow_spec.specs.Arrays.{Dictionaries}
use Rattle.arrow_spec.specs.Sent as sent
use Rattle.arrow_spec.specs.Sent.{send_dictionary, send_fields, send_kind}
use Rattle.ipc_files.specs.Below.{is_carried, Indexed, child_fields, each_of, indexed, is_dictionary, listed, mapped, sized, structured, tagged, values_kind, Parts, Forest, leaf, nested, none, also, fault_each, fault_in, kind_in, kinds_each}
use Rattle.ipc_files.proofs.Below.{neither, top_sound}
use Rattle.ipc_fields.specs.IpcFields.{Ids, fields_with, kind_with}
use Rattle.ipc_fields.specs.Uses.{first_id, first_ids, id_under, other_ids, use_as}
use Rattle.arrow_spec.proofs.Forms.{form, forms}
use Rattle.laws_writers.specs.Below.{Options, Sending, array_sent, arrays_sent, then_by, is_indexed, values_in, plain_fields}
use Rattle.laws_sent.specs.Parts.{PartTree}
use Rattle.laws_writers.proofs.Apart.{Under}
use Rattle.laws_sent.specs.ReadUnder.{held_of}
use Rattle.laws_sent.proofs.EmptyArrays.{HaveHeld}
use Rattle.laws_sent.proofs.FieldKinds.{children_of, ids_split, of_form}
use Rattle.laws_sent.proofs.Forms.{bare_form}
use Rattle.laws_sent.proofs.Lists.{all_first, all_second}
use Rattle.laws_sent.proofs.Pieces.{AreSome, IsReadAs, are_shown, shown, trees}
use Rattle.laws_sent.proofs.Visited.{AllVisited, HasSeen, IsBefore, State, Visited, all_visited_as, state, visited_as}
use Rattle.laws_sent.proofs.Visits.{Fits, Inside, IsArray, IsSent, are_parts, moved, visit, visit_sent}

-- a use of a dictionary of a file: its values can be carried, and its parts were read as such
abbrev pub IsUse : List PartTree → Use → Type 0
IsUse ps u = (is_carried u.values ≡ true) × IsReadAs ps u

-- ── arrays with children ──

-- an array that is no dictionary sends what its children send
pub as_children : (o : Options) (p : Parts) (id : Option ℤ) (below : Ids) (s : Sending) → is_indexed p ≡ false → array_sent o p id below s ≡ arrays_sent o (values_in p) below s
as_children o (leaf l) id below s i = refl
as_children o (nested (indexed d) cs) id below s i = cc
as_children o (nested (listed l) cs) id below s i = refl
as_children o (nested (mapped l) cs) id below s i = refl
as_children o (nested (sized l) cs) id below s i = refl
as_children o (nested (structured l) cs) id below s i = refl
as_children o (nested (tagged l) cs) id below s i = refl

-- arrays of fields that were read under the first parts
pub record AreArrays (gs : Fields) (ps : List PartTree) (fs : Fields) (e : Dictionaries) (xs : Forest) : Type 0 where
  pub some : AreSome gs ps e
  pub held : HaveHeld (held_of (take (length e) ps)) fs xs
  pub under : Under (plain_fields fs) xs
  pub sound : fault_each xs ≡ None

pub children_are : (gs : Fields) (ps : List PartTree) (fs : Fields) (e : Dictionaries) (p : Parts) → AreSome gs ps e → is_indexed p ≡ false → HaveHeld (held_of (take (length e) ps)) fs (values_in p) → forms (child_fields (kind_in p)) ≡ forms (plain_fields fs)
    → fault_in p ≡ None → AreArrays gs ps fs e (values_in p)
children_are gs ps fs e p some i r like sound = let c = children_of (held_of (take (length e) ps)) fs p i r like sound in record { some = some; held = r; under = c.under; sound = c.sound }

-- the first of some arrays, and the others
pub first_array : (gs : Fields) (ps : List PartTree) (name : List ℕ) (nullable : Bool) (metadata : kind.Metadata) (k : Kind) (others : Fields) (e : Dictionaries) (p : Parts) (xs : Forest)
    → AreArrays gs ps (kind.field name nullable metadata k others) e (also p xs) → IsArray gs ps k e p × AreArrays gs ps others e xs
first_array gs ps name nullable metadata k others e p xs a =
    let both = neither (fault_in p) (fault_each xs) a.sound in (
      record { some = a.some; held = a.held.0; like = of_form k p a.under.0; sound = both.0 },
      record { some = a.some; held = a.held.1; under = a.under.1; sound = both.1 },
    )

-- ── a dictionary ──

-- the parts of a dictionary in an array
pub record AreValues (ps : List PartTree) (k : Kind) (q : ℤ) (e : Dictionaries) (x : Indexed) (cs : Forest) : Type 0 where
  pub are : cs ≡ trees ps (values_kind x.kind) (shown e q)
  pub alike : bare_form k ≡ form (values_kind x.kind)
  pub kinds : each_of (values_kind x.kind) (kinds_each (trees ps (values_kind x.kind) (shown e q))) ≡ true
  pub sound : fault_each (trees ps (values_kind x.kind) (shown e q)) ≡ None

pub values_are : (gs : Fields) (ps : List PartTree) (t : IntegerType) (ordered : Bool) (q : ℤ) (k : Kind) (e : Dictionaries) (x : Indexed) (cs : Forest) → IsArray gs ps (kind.dictionary t ordered q k) e (nested (indexed x) cs) → AreValues ps k q e x cs
values_are gs ps t ordered q k e x cs a =
    let l = values_kind x.kind in
    let s = top_sound (indexed x) cs a.sound in
    let are : cs ≡ trees ps l (shown e q) = a.held.1 ∙ are_shown gs ps l q e a.some in
    record {
      are = are;
      alike = sym a.like.1;
      kinds = subst (λ z. each_of l (kinds_each z) ≡ true) are (and_parts (is_dictionary x.index x.kind) (each_of l (kinds_each cs)) s.0.suits).1;
      sound = subst (λ z. fault_each z ≡ None) are s.1;
    }

-- its id, and those in its values
pub dictionary_ids : (t : IntegerType) (ordered : Bool) (q : ℤ) (k : Kind) (id : Option ℤ) (below : Ids) (i : ℕ) → kind_with (kind.dictionary t ordered q k) id below ≡ numbered_kind (kind.dictionary t ordered q k) i
    → (id_under id ≡ pos i) × (kind_with k None below ≡ numbered_kind k (suc i))
dictionary_ids t ordered q k id below i e =
    let same : kind.dictionary t ordered (id_under id) (kind_with k None below) ≡ kind.dictionary t ordered (pos i) (numbered_kind k (suc i)) = e in
    let first : id_under id ≡ pos i = cc in
    let rest : kind_with k None below ≡ numbered_kind k (suc i) = cc in
    (first, rest)

module _ (gs : Fields) (ps : List PartTree) (o : Options) (deltas : o.deltas ≡ true) where
  -- what is sent of a kind that was read under some messages
  abbrev KindIsSent : Kind → ℕ → Dictionaries → Result Sending IpcError → Sending → sent.Sending → Type 0
  KindIsSent k i e r s v = IsSent i (dictionary_count k) (Visited ps (HasSeen e) k i) r s v (send_kind e k i v)

  dictionary_case : (t : IntegerType) (ordered : Bool) (q : ℤ) (k : Kind) (i : ℕ) (e : Dictionaries) (p : Parts) (id : Option ℤ) (below : Ids) (s : Sending) (v : sent.Sending) → IsUse ps (use_as q k) → id_under id ≡ pos i
      → IsArray gs ps (kind.dictionary t ordered q k) e p → Inside gs ps o deltas k (suc i) below → Fits s v → Visited ps (IsBefore (Some e)) (kind.dictionary t ordered q k) i (state s v)
      → KindIsSent (kind.dictionary t ordered q k) i e (array_sent o p id below s) s v
  dictionary_case t ordered q k i e (leaf l) id below s v usage own a inner fits seen = absurd (let no : false ≡ true = a.held.0 in cc)
  dictionary_case t ordered q k i e (nested (indexed x) cs) id below s v usage own a inner fits seen =
      let l = values_kind x.kind in
      let values = values_are gs ps t ordered q k e x cs a in
      let done = visit_sent gs ps o deltas k l i below values.alike inner q e s v a.some usage.1 usage.0 values.kinds values.sound fits seen in
      moved i (suc (dictionary_count k)) (Visited ps (HasSeen e) (kind.dictionary t ordered q k) i) (visit o (id_under id) l cs below s) _ s v _ _
      (ap (λ z. visit o z l cs below s) own ∙ ap (λ z. visit o (pos i) l z below s) values.are) (ap (λ xs. send_dictionary (λ c u. send_kind c k (suc i) u) i xs v) (sym (are_parts k e q))) done
  dictionary_case t ordered q k i e (nested (listed l) cs) id below s v usage own a inner fits seen = absurd (let no : false ≡ true = a.held.0 in cc)
  dictionary_case t ordered q k i e (nested (mapped l) cs) id below s v usage own a inner fits seen = absurd (let no : false ≡ true = a.held.0 in cc)
  dictionary_case t ordered q k i e (nested (sized l) cs) id below s v usage own a inner fits seen = absurd (let no : false ≡ true = a.held.0 in cc)
  dictionary_case t ordered q k i e (nested (structured l) cs) id below s v usage own a inner fits seen = absurd (let no : false ≡ true = a.held.0 in cc)
  dictionary_case t ordered q k i e (nested (tagged l) cs) id below s v usage own a inner fits seen = absurd (let no : false ≡ true = a.held.0 in cc)

  -- what the children send
  nested_case : (i count : ℕ) (Seen : State → Type 0) (p : Parts) (id : Option ℤ) (below : Ids) (s : Sending) (v w : sent.Sending) → is_indexed p ≡ false → IsSent i count Seen (arrays_sent o (values_in p) below s) s v w
      → IsSent i count Seen (array_sent o p id below s) s v w
  nested_case i count Seen p id below s v w plain h = moved i count Seen (array_sent o p id below s) (arrays_sent o (values_in p) below s) s v w w (as_children o p id below s plain) refl h

  mutual
    kind_sent : (k : Kind) (i : ℕ) (e : Dictionaries) (p : Parts) (id : Option ℤ) (below : Ids) (s : Sending) (v : sent.Sending) → AllByRecursion (IsUse ps) (uses_of k) → kind_with k id below ≡ numbered_kind k i → IsArray gs ps k e p
        → Fits s v → Visited ps (IsBefore (Some e)) k i (state s v) → KindIsSent k i e (array_sent o p id below s) s v
    kind_sent (kind.«list» w hs) i e p id below s v uses ids a fits seen =
        let same : kind.«list» w (fields_with hs below) ≡ kind.«list» w (numbered hs i) = ids in
        nested_case i _ _ p id below s v _ a.held.0 (fields_sent hs i e (values_in p) below s v uses (cc) (children_are gs ps hs e p a.some a.held.0 a.held.1 a.like.0 a.sound) fits seen)
    kind_sent (kind.fixed_size_list w hs) i e p id below s v uses ids a fits seen =
        let same : kind.fixed_size_list w (fields_with hs below) ≡ kind.fixed_size_list w (numbered hs i) = ids in
        nested_case i _ _ p id below s v _ a.held.0 (fields_sent hs i e (values_in p) below s v uses (cc) (children_are gs ps hs e p a.some a.held.0 a.held.1 a.like.0 a.sound) fits seen)
    kind_sent (kind.struct hs) i e p id below s v uses ids a fits seen =
        let same : kind.struct (fields_with hs below) ≡ kind.struct (numbered hs i) = ids in
        nested_case i _ _ p id below s v _ a.held.0 (fields_sent hs i e (values_in p) below s v uses (cc) (children_are gs ps hs e p a.some a.held.0 a.held.1 a.like.0 a.sound) fits seen)
    kind_sent (kind.map sorted hs) i e p id below s v uses ids a fits seen =
        let same : kind.map sorted (fields_with hs below) ≡ kind.map sorted (numbered hs i) = ids in
        nested_case i _ _ p id below s v _ a.held.0 (fields_sent hs i e (values_in p) below s v uses (cc) (children_are gs ps hs e p a.some a.held.0 a.held.1 a.like.0 a.sound) fits seen)
    kind_sent (kind.union mode stated types hs) i e p id below s v uses ids a fits seen =
        let same : kind.union mode stated types (fields_with hs below) ≡ kind.union mode stated types (numbered hs i) = ids in
        nested_case i _ _ p id below s v _ a.held.0 (fields_sent hs i e (values_in p) below s v uses (cc) (children_are gs ps hs e p a.some a.held.0 a.held.1 a.like.0 a.sound) fits seen)
    kind_sent (kind.dictionary t ordered q k) i e p id below s v uses ids a fits seen =
        let both = dictionary_ids t ordered q k id below i ids in
        dictionary_case t ordered q k i e p id below s v uses.0 both.0 a (λ c x u w b f g. kind_sent k (suc i) c x None below u w uses.1 both.1 b f g) fits seen
    kind_sent (kind.extension name metadata k) i e p id below s v uses ids a fits seen =
        let same : kind.extension name metadata (kind_with k id below) ≡ kind.extension name metadata (numbered_kind k i) = ids in
        kind_sent k i e p id below s v uses (cc) (record { some = a.some; held = a.held; like = a.like; sound = a.sound }) fits seen
    kind_sent k i e p id below s v uses ids a fits seen = record {
      behind = s;
      is = as_children o p id below s a.held.0 ∙ ap (λ xs. arrays_sent o xs below s) a.held.1;
      fits = fits;
      seen = tt;
      kept = λ j out. refl;
    }

    pub fields_sent : (hs : Fields) (i : ℕ) (e : Dictionaries) (xs : Forest) (below : Ids) (s : Sending) (v : sent.Sending) → AllByRecursion (IsUse ps) (uses_in hs) → fields_with hs below ≡ numbered hs i → AreArrays gs ps hs e xs
        → Fits s v → AllVisited ps (IsBefore (Some e)) hs i (state s v) → IsSent i (dictionary_counts hs) (AllVisited ps (HasSeen e) hs i) (arrays_sent o xs below s) s v (send_fields e hs i v)
    fields_sent kind.none i e xs below s v uses ids a fits seen = record {
      behind = s;
      is = ap (λ z. arrays_sent o z below s) a.held;
      fits = fits;
      seen = tt;
      kept = λ j out. refl;
    }
    fields_sent (kind.field name nullable metadata k others) i e none below s v uses ids a fits seen = absurd a.held
    fields_sent (kind.field name nullable metadata k others) i e (also p xs) below s v uses ids a fits seen =
        let under = ids_split name nullable metadata k others below i ids in
        let arrays = first_array gs ps name nullable metadata k others e p xs a in
        let first = kind_sent k i e p (first_id below) (first_ids below) s v (all_first (IsUse ps) (uses_of k) (uses_in others) uses) under.0 arrays.0 fits seen.0 in
        let u = send_kind e k i v in
        let j = i + dictionary_count k in
        let rest = fields_sent others j e xs (other_ids below) first.behind u (all_second (IsUse ps) (uses_of k) (uses_in others) uses) under.1 arrays.1 first.fits
        (all_visited_as ps (IsBefore (Some e)) (IsBefore (Some e)) (λ q z g. g) others j (state s v) (state first.behind u) (λ l low high. sym (first.kept l (λ from. low))) seen.1) in
        record {
          behind = rest.behind;
          is = ap (λ r. then_by r (arrays_sent o xs (other_ids below))) first.is ∙ rest.is;
          fits = rest.fits;
          seen = (
            visited_as ps (HasSeen e) (HasSeen e) (λ q z g. g) k i (state first.behind u) (state rest.behind (send_fields e others j u)) (λ l low high. sym (rest.kept l (λ from. absurd (omega (arith, high, from))))) first.seen,
            rest.seen,
          );
          kept = λ l out. rest.kept l (λ low. omega (arith, low, out (omega (arith, low)))) ∙ first.kept l (λ low. omega (arith, low, out low));
        }

-- Where all cells of the dictionaries in arrays are held, a walk over them sends nothing.
use Rattle.std.proofs.Common.{◌≡◌, ℕ, ◌+◌, List, refl, sym, ap, subst, ◌∙◌, arith, true, false, Bool, Option, Some, Result, Ok, ℤ, pos}
use Rattle.std.specs.Prelude.{cond, nat_lt}
use Rattle.std.proofs.lemmas.Bool.{le-ltb}
use Rattle.arrow_spec.specs.declared.error.IpcError.{IpcError}
use Rattle.arrow_spec.specs.declared.types.IntegerType.{IntegerType}
use Rattle.arrow_spec.specs.Kinds as kind
use Rattle.arrow_spec.specs.Kinds.{Kind, Fields, dictionary_count, numbered, numbered_kind, uses_in, uses_of}
use Rattle.arrow_spec.specs.Arrays.{Dictionaries}
use Rattle.ipc_files.specs.Below.{indexed, listed, mapped, sized, structured, tagged, values_kind, Parts, Forest, leaf, nested, none, also}
use Rattle.ipc_fields.specs.IpcFields.{Ids, fields_with, kind_with}
use Rattle.ipc_fields.specs.Uses.{first_id, first_ids, id_under, other_ids}
use Rattle.laws_writers.specs.Below.{Longer, Same, Options, Sending, array_sent, arrays_sent, fixing, then_by, standing, values_in}
use Rattle.laws_sent.specs.Parts.{PartTree}
use Rattle.laws_sent.proofs.FieldKinds.{ids_split}
use Rattle.laws_sent.proofs.Pieces.{behind_some, shown, trees}
use Rattle.laws_sent.proofs.Standings.{stands_so, total}
use Rattle.laws_sent.proofs.Visited.{AllVisited, HasSeen, Place, SeenAt, State, Visited}
use Rattle.laws_sent.proofs.Visits.{IsArray, as_it_stands, visit, visit_is}
use Rattle.laws_sent.proofs.Walks.{AreArrays, as_children, children_are, dictionary_ids, first_array, values_are}

-- nothing is sent and put
pub record SendsNothing (r : Result Sending IpcError) (s : Sending) : Type 0 where
  pub behind : Sending
  pub is : r ≡ Ok behind
  pub sent : behind.sent ≡ s.sent
  pub held : (q : ℤ) → behind.held q ≡ s.held q

as_before : (x y : Result Sending IpcError) (s : Sending) → x ≡ y → SendsNothing y s → SendsNothing x s
as_before x y s e h = subst (λ z. SendsNothing z s) (sym e) h

-- what is held under new ids, as it was seen
abbrev IsHeldAs : Sending → State → Type 0
IsHeldAs s f = (j : ℕ) → s.held (pos j) ≡ (f j).0

module _ (gs : Fields) (ps : List PartTree) (o : Options) (deltas : o.deltas ≡ true) where
  dictionary_case : (t : IntegerType) (ordered : Bool) (q : ℤ) (k : Kind) (i : ℕ) (e : Dictionaries) (p : Parts) (id : Option ℤ) (below : Ids) (s : Sending) (f : State) → id_under id ≡ pos i
      → IsArray gs ps (kind.dictionary t ordered q k) e p → Visited ps (HasSeen e) (kind.dictionary t ordered q k) i f → IsHeldAs s f → SendsNothing (array_sent o p id below s) s
  dictionary_case t ordered q k i e (leaf l) id below s f own a seen held = absurd (let no : false ≡ true = a.held.0 in cc)
  dictionary_case t ordered q k i e (nested (indexed x) cs) id below s f own a seen held =
      let values = values_are gs ps t ordered q k e x cs a in
      let l = values_kind x.kind in
      let c = seen.1.0 in
      let now = trees ps l (shown e q) in
      let at : SeenAt ps (Some c) q k (f i) = subst (λ u. SeenAt ps u q k (f i)) seen.1.1 seen.2 in
      let there : s.held (pos i) ≡ Some (trees ps at.0 (shown c q)) = held i ∙ ap (λ (z : Place). z.0) at.2 in
      let all : nat_lt (total c q) (total e q) ≡ false = le-ltb _ _ (omega (arith, seen.1.3)) in
      let so : standing (s.held (pos i)) l now ≡ Same =
      ap (λ h. standing h l now) there ∙ stands_so gs ps q c e seen.1.2 a.some k l at.0 (behind_some gs ps c e seen.1.2 a.some) values.alike at.1 values.kinds ∙ ap (λ b. cond b (Longer (total c q)) Same) all in
      as_before (visit o (id_under id) l cs below s) (as_it_stands o true Same (pos i) now below s) s
      (ap (λ z. visit o z l cs below s) own ∙ ap (λ z. visit o (pos i) l z below s) values.are ∙ visit_is o (pos i) l now below s Same deltas so) (record { behind = fixing (pos i) s; is = refl; sent = refl; held = λ z. refl })
  dictionary_case t ordered q k i e (nested (listed l) cs) id below s f own a seen held = absurd (let no : false ≡ true = a.held.0 in cc)
  dictionary_case t ordered q k i e (nested (mapped l) cs) id below s f own a seen held = absurd (let no : false ≡ true = a.held.0 in cc)
  dictionary_case t ordered q k i e (nested (sized l) cs) id below s f own a seen held = absurd (let no : false ≡ true = a.held.0 in cc)
  dictionary_case t ordered q k i e (nested (structured l) cs) id below s f own a seen held = absurd (let no : false ≡ true = a.held.0 in cc)
  dictionary_case t ordered q k i e (nested (tagged l) cs) id below s f own a seen held = absurd (let no : false ≡ true = a.held.0 in cc)

  mutual
    kind_same : (k : Kind) (i : ℕ) (e : Dictionaries) (p : Parts) (id : Option ℤ) (below : Ids) (s : Sending) (f : State) → kind_with k id below ≡ numbered_kind k i → IsArray gs ps k e p → Visited ps (HasSeen e) k i f → IsHeldAs s f
        → SendsNothing (array_sent o p id below s) s
    kind_same (kind.«list» w hs) i e p id below s f ids a seen held =
        let same : kind.«list» w (fields_with hs below) ≡ kind.«list» w (numbered hs i) = ids in
        as_before _ _ s (as_children o p id below s a.held.0) (fields_same hs i e (values_in p) below s f (cc) (children_are gs ps hs e p a.some a.held.0 a.held.1 a.like.0 a.sound) seen held)
    kind_same (kind.fixed_size_list w hs) i e p id below s f ids a seen held =
        let same : kind.fixed_size_list w (fields_with hs below) ≡ kind.fixed_size_list w (numbered hs i) = ids in
        as_before _ _ s (as_children o p id below s a.held.0) (fields_same hs i e (values_in p) below s f (cc) (children_are gs ps hs e p a.some a.held.0 a.held.1 a.like.0 a.sound) seen held)
    kind_same (kind.struct hs) i e p id below s f ids a seen held =
        let same : kind.struct (fields_with hs below) ≡ kind.struct (numbered hs i) = ids in
        as_before _ _ s (as_children o p id below s a.held.0) (fields_same hs i e (values_in p) below s f (cc) (children_are gs ps hs e p a.some a.held.0 a.held.1 a.like.0 a.sound) seen held)
    kind_same (kind.map sorted hs) i e p id below s f ids a seen held =
        let same : kind.map sorted (fields_with hs below) ≡ kind.map sorted (numbered hs i) = ids in
        as_before _ _ s (as_children o p id below s a.held.0) (fields_same hs i e (values_in p) below s f (cc) (children_are gs ps hs e p a.some a.held.0 a.held.1 a.like.0 a.sound) seen held)
    kind_same (kind.union mode stated types hs) i e p id below s f ids a seen held =
        let same : kind.union mode stated types (fields_with hs below) ≡ kind.union mode stated types (numbered hs i) = ids in
        as_before _ _ s (as_children o p id below s a.held.0) (fields_same hs i e (values_in p) below s f (cc) (children_are gs ps hs e p a.some a.held.0 a.held.1 a.like.0 a.sound) seen held)
    kind_same (kind.dictionary t ordered q k) i e p id below s f ids a seen held = dictionary_case t ordered q k i e p id below s f (dictionary_ids t ordered q k id below i ids).0 a seen held
    kind_same (kind.extension name metadata k) i e p id below s f ids a seen held =
        let same : kind.extension name metadata (kind_with k id below) ≡ kind.extension name metadata (numbered_kind k i) = ids in
        kind_same k i e p id below s f (cc) (record { some = a.some; held = a.held; like = a.like; sound = a.sound }) seen held
    kind_same k i e p id below s f ids a seen held = record { behind = s; is = as_children o p id below s a.held.0 ∙ ap (λ xs. arrays_sent o xs below s) a.held.1; sent = refl; held = λ z. refl }

    pub fields_same : (hs : Fields) (i : ℕ) (e : Dictionaries) (xs : Forest) (below : Ids) (s : Sending) (f : State) → fields_with hs below ≡ numbered hs i → AreArrays gs ps hs e xs → AllVisited ps (HasSeen e) hs i f → IsHeldAs s f
        → SendsNothing (arrays_sent o xs below s) s
    fields_same kind.none i e xs below s f ids a seen held = record { behind = s; is = ap (λ z. arrays_sent o z below s) a.held; sent = refl; held = λ z. refl }
    fields_same (kind.field name nullable metadata k others) i e none below s f ids a seen held = absurd a.held
    fields_same (kind.field name nullable metadata k others) i e (also p xs) below s f ids a seen held =
        let under = ids_split name nullable metadata k others below i ids in
        let arrays = first_array gs ps name nullable metadata k others e p xs a in
        let first = kind_same k i e p (first_id below) (first_ids below) s f under.0 arrays.0 seen.0 held in
        let rest = fields_same others (i + dictionary_count k) e xs (other_ids below) first.behind f under.1 arrays.1 seen.1 (λ j. first.held (pos j) ∙ held j) in
        record {
          behind = rest.behind;
          is = ap (λ r. then_by r (arrays_sent o xs (other_ids below))) first.is ∙ rest.is;
          sent = rest.sent ∙ first.sent;
          held = λ z. rest.held z ∙ first.held z;
        }

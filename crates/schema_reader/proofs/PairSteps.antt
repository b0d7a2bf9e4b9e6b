-- Pairs that are read one after another.
use Rattle.std.proofs.Common.{◌≡◌, ℕ, suc, ◌+◌, ◌-◌, ◌*◌, ◌<◌, ◌≤◌, List, [], ◌∷◌, Bool, true, false, cond, Option, Some, Result, Ok, Err, inl, Ordering, Less, Equal, Greater, String, Global, string_bytes, string_cmp, nat_cmp, refl, sym, ◌∙◌, ap, arith, subst}
use Rattle.std.specs.Prelude.{nat_eq, nat_lt, ◌||◌, ◌&&◌}
use Rattle.std.specs.Ordering.{match_ordering, is_eq, is_lt, ordering_then}
use Rattle.std.specs.Cmp.Lexicographic.{slice_cmp}
use Rattle.std.specs.Str.{bytes_eq}
use Rattle.std.specs.BTreeMap.{insert_entry}
use Rattle.std.specs.Option.{option_map}
use Rattle.std.proofs.lemmas.Map.Text.{is_eq-slice_cmp}
use Rattle.arrow_spec.specs.declared.error.IpcError.{IpcError}
use Rattle.arrow_spec.specs.Readings.{bind, Reading, as_kind, refusals}
use Rattle.ipc_fields.specs.Causes.{RefusesBytes}
use Rattle.arrow_spec.specs.Flat.{Vector}
use Rattle.arrow_spec.specs.Kinds.{Metadata}
use Rattle.arrow_spec.specs.declared.error.FlatError.{FlatError}
use Rattle.arrow_spec.specs.declared.error.OutOfSpecKind.{OutOfSpecKind}
use Rattle.arrow_spec.specs.declared.error.IpcError.TheVariants.{OutOfSpec}
use Rattle.arrow_spec.specs.Schema.{pairs_from, with_pair, with_read_pair, stands_before}
use Rattle.arrow_spec.proofs.PairOrder.{key_same}
use Rattle.arrow_types.specs.KindOf.{texts_of}
use Rattle.arrow_types.proofs.Metadata.{Entry, put, texts_of-insert_entry}
use Rattle.schema_reader.specs.Pairs.{owner_text, pair_put, pairs_kind}
use Rattle.schema_reader.specs.declared.pairs.PairsOwner.{PairsOwner}
use Rattle.ipc_fields.proofs.Steps.{step, ok_next, none_refused}
use Rattle.ipc_fields.proofs.TextOrder.{before_same}

-- a fault is a refusal of what it was met in
pub fault_refused : {A B : Type 0} (owner : PairsOwner) (error : IpcError) (e : FlatError) (r : Result A FlatError) (f : A → Reading B) → error ≡ OutOfSpec (pairs_kind owner e) → r ≡ Err e → RefusesBytes error (refusals (bind (as_kind (pairs_kind owner) r) f))
unfolding bind
fault_refused owner error e r f is h = rw (is, h) (inl refl)

-- ── one after another ──

step-one : (kind : FlatError → OutOfSpecKind) (b : List ℕ) (at n : ℕ) (m : Metadata) → pairs_from kind b at (suc n) m ≡ bind (pair_put kind b at m) (λ x. pairs_from kind b (at + 4) n x)
unfolding pairs_from pair_put
step-one kind b at n m = step _ _ _ _ (λ t _. step _ _ _ _ (λ key _. step _ _ _ _ (λ value _. ok_next _ _)))

pub no_pairs_at : (kind : FlatError → OutOfSpecKind) (b : List ℕ) (m : Metadata) → pairs_from kind b 0 0 m ≡ Ok m
unfolding pairs_from
no_pairs_at kind b m = refl

pub pairs_begun : (kind : FlatError → OutOfSpecKind) (b : List ℕ) (v : Vector) (m : Metadata) → m ≡ [] → pairs_from kind b (v.first + 4 * 0) (v.count - 0) m ≡ pairs_from kind b v.first v.count []
pairs_begun kind b v m h =
    let at : v.first + 4 * 0 ≡ v.first = omega arith in
    let n : v.count - 0 ≡ v.count = omega arith in
    rw (at, n, h) refl

pub pairs_more : (kind : FlatError → OutOfSpecKind) (b : List ℕ) (first n i : ℕ) (m next : Metadata) (whole : Reading Metadata) → i < n → pairs_from kind b (first + 4 * i) (n - i) m ≡ whole → pair_put kind b (first + 4 * i) m ≡ Ok next → pairs_from kind b (first + 4 * (i + 1)) (n - (i + 1)) next ≡ whole
unfolding bind
pairs_more kind b first n i m next whole less h got =
    let count : n - i ≡ suc (n - (i + 1)) = omega arith in
    let at : first + 4 * (i + 1) ≡ (first + 4 * i) + 4 = omega arith in
    let s : pairs_from kind b (first + 4 * i) (n - i) m ≡ bind (pair_put kind b (first + 4 * i) m) (λ x. pairs_from kind b ((first + 4 * i) + 4) (n - (i + 1)) x) = ap (λ k. pairs_from kind b (first + 4 * i) k m) count ∙ step-one kind b (first + 4 * i) (n - (i + 1)) m in
    ap (λ a. pairs_from kind b a (n - (i + 1)) next) at ∙ sym (ap (λ r. bind r (λ x. pairs_from kind b ((first + 4 * i) + 4) (n - (i + 1)) x)) got) ∙ sym s ∙ h

stopped_by : (kind : FlatError → OutOfSpecKind) (e : IpcError) (r : Reading Metadata) (b : List ℕ) (first n i : ℕ) (m : Metadata) (whole : Reading Metadata) → i < n → pairs_from kind b (first + 4 * i) (n - i) m ≡ whole → pair_put kind b (first + 4 * i) m ≡ r → RefusesBytes e (refusals r) → RefusesBytes e (refusals whole)
unfolding bind
stopped_by kind e (Ok x) b first n i m whole less h same told = none_refused e (refusals whole) told
stopped_by kind e (Err es) b first n i m whole less h same told =
    let count : n - i ≡ suc (n - (i + 1)) = omega arith in
    let s : pairs_from kind b (first + 4 * i) (n - i) m ≡ bind (pair_put kind b (first + 4 * i) m) (λ x. pairs_from kind b ((first + 4 * i) + 4) (n - (i + 1)) x) = ap (λ k. pairs_from kind b (first + 4 * i) k m) count ∙ step-one kind b (first + 4 * i) (n - (i + 1)) m in
    let all : whole ≡ Err es = sym h ∙ s ∙ ap (λ r. bind r (λ x. pairs_from kind b ((first + 4 * i) + 4) (n - (i + 1)) x)) same in
    subst (λ r. RefusesBytes e (refusals r)) (sym all) told

pub pairs_stopped : (kind : FlatError → OutOfSpecKind) (b : List ℕ) (first n i : ℕ) (m : Metadata) (whole : Reading Metadata) (e : IpcError) → i < n → pairs_from kind b (first + 4 * i) (n - i) m ≡ whole → RefusesBytes e (refusals (pair_put kind b (first + 4 * i) m)) → RefusesBytes e (refusals whole)
pairs_stopped kind b first n i m whole e less h told = stopped_by kind e (pair_put kind b (first + 4 * i) m) b first n i m whole less h refl told

pub pairs_done : (kind : FlatError → OutOfSpecKind) (b : List ℕ) (first n i : ℕ) (m : Metadata) (whole : Reading Metadata) → n ≤ i → pairs_from kind b (first + 4 * i) (n - i) m ≡ whole → whole ≡ Ok m
unfolding pairs_from
pairs_done kind b first n i m whole less h =
    let count : n - i ≡ 0 = omega arith in
    let e : pairs_from kind b (first + 4 * i) (n - i) m ≡ Ok m = ap (λ k. pairs_from kind b (first + 4 * i) k m) count in
    sym h ∙ e

-- ── a map in the order of its keys ──

by_order : {A : Type 0} (o : Ordering) (x y z : A) → match_ordering o x y z ≡ cond (is_eq o) y (cond (is_lt o) x z)
by_order Less x y z = refl
by_order Equal x y z = refl
by_order Greater x y z = refl

by_key : (e : Bool) (l : Bool) (k d q w : List ℕ) (ps more : Metadata) → (e ≡ true → k ≡ q) → cond e ((q, d) ∷ ps) (cond l ((k, d) ∷ (q, w) ∷ ps) more) ≡ cond e ((k, d) ∷ ps) (cond l ((k, d) ∷ (q, w) ∷ ps) more)
by_key true l k d q w ps more h = ap (λ x. (x, d) ∷ ps) (sym (h refl))
by_key false l k d q w ps more h = refl

pub put_same : (k d : List ℕ) (m : Metadata) → put k d m ≡ with_pair k d m
put_same k d [] = refl
put_same k d (p ∷ ps) =
    let o = slice_cmp nat_cmp k p.0 in
    by_order o ((k, d) ∷ p ∷ ps) ((p.0, d) ∷ ps) (p ∷ put k d ps)
    ∙ ap (λ e. cond e ((p.0, d) ∷ ps) (cond (is_lt o) ((k, d) ∷ p ∷ ps) (p ∷ put k d ps))) (is_eq-slice_cmp k p.0)
    ∙ ap (λ l. cond (bytes_eq k p.0) ((p.0, d) ∷ ps) (cond l ((k, d) ∷ p ∷ ps) (p ∷ put k d ps))) (before_same k p.0)
    ∙ ap (λ r. cond (bytes_eq k p.0) ((p.0, d) ∷ ps) (cond (stands_before k p.0) ((k, d) ∷ p ∷ ps) (p ∷ r))) (put_same k d ps)
    ∙ by_key (bytes_eq k p.0) (stands_before k p.0) k d p.0 p.1 ps (p ∷ with_pair k d ps) (key_same k p.0)

pub inserted : (es : List Entry) (k v : String Global) → texts_of (insert_entry string_cmp es k v) ≡ with_pair (string_bytes k) (string_bytes v) (texts_of es)
inserted es k v = texts_of-insert_entry es k v ∙ put_same (string_bytes k) (string_bytes v) (texts_of es)

pub put_read : (es new : List Entry) (k v : String Global) (key value : Option (String Global)) → key ≡ Some k → value ≡ Some v → new ≡ insert_entry string_cmp es k v → texts_of new ≡ with_read_pair (option_map string_bytes key) (option_map string_bytes value) (texts_of es)
put_read es new k v key value a b h = rw (a, b, h) (inserted es k v)

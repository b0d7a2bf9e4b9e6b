-- A walk, one call after another: what is kept, and the parts of a dictionary that are done.
use Rattle.std.proofs.Common.{◌≡◌, ◌⊎◌, inl, inr, ℕ, ◌+◌, ◌<◌, ◌≤◌, ◌++◌, ◌||◌, ◌&&◌, ℤ, List, [], ◌∷◌, Bool, true, false, Option, Some, None, Result, Ok, Err, map, length, drop, get_or, is_some, subst, refl, sym, ap, ◌∙◌, arith, append-nil, append_assoc}
use Rattle.std.specs.Prelude.{nat_le, IfOk, IfErr}
use Rattle.std.specs.Option.{unwrap_or}
use Rattle.std.specs.Result.{IsErrAnd}
use Rattle.std.proofs.Math.Path.{fun_ext}
use Rattle.std.proofs.lemmas.List.{at_drop_all}
use Rattle.std.proofs.lemmas.Bool.{and_parts, and_cases, leb-true, leb-false, or_cases}
use Rattle.arrow_spec.specs.declared.error.IpcError.{IpcError}
use Rattle.arrow_spec.specs.declared.error.IpcError.TheVariants.{Memory}
use Rattle.arrow_arrays.specs.declared.array.Array.{Array}
use Rattle.arrow_spec.specs.Kinds.{same}
use Rattle.arrow_arrays.specs.Heads.{Indexed, indexed, values_kind}
use Rattle.arrow_arrays.specs.Parts.{Forest, nested, rows_in}
use Rattle.arrow_arrays.specs.PartsOf.{parts_of, forest_of}
use Rattle.ipc_fields.specs.IpcFields.{Ids}
use Rattle.ipc_dictionaries.specs.declared.comparison.Standing.{Standing}
use Rattle.ipc_dictionaries.specs.declared.tracker.DictionaryTracker.{DictionaryTracker}
use Rattle.ipc_dictionaries.specs.declared.walk.Progress.{Progress}
use Rattle.ipc_dictionaries.specs.declared.used.UsedIds.{UsedIds}
use Rattle.ipc_dictionaries.specs.Changes.{Restores}
use Rattle.ipc_dictionaries.specs.Standing.{allowed, delta_start, standing}
use Rattle.ipc_dictionaries.specs.NewDictionaries.{Options, Sending, ToSend, message_of, fixing, dictionary_sent, rows_from, scoped, sending, held_with, holding, array_sent, parts_sent}
use Rattle.ipc_dictionaries.specs.Tracker.{Held, held_by}
use Rattle.ipc_dictionaries.specs.Used.{used_by, is_among, Adds}
use Rattle.ipc_dictionaries.specs.Walks.{options_of, to_send, sending_of, Walks, Keeps, Releases, with_added, PartSent, PartsSent, PartsLeft}
use Rattle.ipc_dictionaries.proofs.Ids.{among-append, or_nothing}
use Rattle.ipc_dictionaries.proofs.UsedSteps.{adds_both}
use Rattle.ipc_dictionaries.proofs.Walking.{part_next, part_stopped, part_done, parts_skipped}

-- ── what is kept ──

pub keeps_none : (t : DictionaryTracker) (p : Progress) → Keeps t p t p
keeps_none t p = record { options = refl; restores = λ before r. r }

pub keeps_both : (t : DictionaryTracker) (p : Progress) (u : DictionaryTracker) (q : Progress) (v : DictionaryTracker) (r : Progress) → Keeps t p u q → Keeps u q v r → Keeps t p v r
keeps_both t p u q v r a b = record { options = b.options ∙ a.options; restores = λ before x. b.restores before (a.restores before x) }

-- ── a walk of the same ──

pub walked_as : (r : Result (Unit {0}) IpcError) (step other : Result Sending IpcError) (s : Sending) → step ≡ other → Walks r step s → Walks r other s
walked_as r step other s e w = subst (λ x. Walks r x s) e w

-- an error that is handed on
pub handed : {X : Type 0} (P : Result X IpcError → Type 0) (r : Result X IpcError) (e : IpcError) → IsErrAnd r (λ f. f ≡ e) → P (Err e) → P r
handed P (Ok x) e h k = absurd h
handed P (Err f) e h k = subst (λ g. P (Err g)) (sym h) k

pub refused_as : (r : Result (Unit {0}) IpcError) (e : IpcError) (step : Result Sending IpcError) (s : Sending) → IsErrAnd r (λ f. f ≡ e) → (e ≡ Memory) ⊎ (step ≡ Err e) → Walks r step s
refused_as r e step s h k = handed (λ x. Walks x step s) r e h k

pub parts_refused_as : (r : Result (Unit {0}) IpcError) (e : IpcError) (step other : Result Sending IpcError) (t : DictionaryTracker) (p q : Progress) → step ≡ other → IsErrAnd r (λ f. f ≡ e) → (e ≡ Memory) ⊎ (step ≡ Err e) → PartsSent r t p q other
parts_refused_as r e step other t p q same h k = handed (λ x. PartsSent x t p q other) r e h (subst (λ z. (e ≡ Memory) ⊎ (z ≡ Err e)) same k)

-- ── ids that are released ──

pub releases_none : (p : Progress) → Releases p p []
releases_none p = record { trail = sym (append-nil p.used.trail.items); used = λ q. refl; fresh = λ q h. cc }

pub releases_both : (p q r : Progress) (came more : List ℤ) → Releases p q came → Releases q r more → Releases p r (came ++ more)
releases_both p q r came more a b = record {
  trail = b.trail ∙ ap (λ xs. xs ++ more) a.trail ∙ append_assoc p.used.trail.items came more;
  used = λ x. b.used x ∙ a.used x;
  fresh = λ x h. of_either x (or_cases (is_among x came) (is_among x more) (sym (among-append x came more) ∙ h));
}
  where
    of_either : (x : ℤ) → (is_among x came ≡ true) ⊎ (is_among x more ≡ true) → used_by p.used x ≡ false
    of_either x (inl h) = a.fresh x h
    of_either x (inr h) = sym (a.used x) ∙ b.fresh x h

-- ── from which row on a part is sent ──

pub passed : (d : Bool) (rows n : ℕ) → (d && nat_le rows n) ≡ true → (d ≡ true) × (rows ≤ n)
passed d rows n h = let both = and_parts d (nat_le rows n) h in (both.0, leb-true rows n both.1)

pub begins_inside : (d : Bool) (rows n : ℕ) → (d && nat_le rows n) ≡ false → (d ≡ false → n ≡ 0) → n ≤ rows
begins_inside d rows n h f = by (and_cases d (nat_le rows n) h)
  where
    by : (d ≡ false) ⊎ (nat_le rows n ≡ false) → n ≤ rows
    by (inl e) = omega (arith, f e)
    by (inr e) = omega (arith, leb-false rows n e)

-- ── the parts of a dictionary, one after another ──

none_left : (start : Option ℕ) → is_some start ≡ false → unwrap_or start 0 ≡ 0
none_left None h = refl
none_left (Some n) h = cc

pub begins_whole : (d : Bool) (n : ℕ) (start : Option ℕ) → d ≡ is_some start → n ≡ unwrap_or start 0 → d ≡ false → n ≡ 0
begins_whole d n start e f h = f ∙ none_left start (sym e ∙ h)

pub parts_begin : (o : Options) (id : ℤ) (below : Ids) (d : Bool) (n : ℕ) (start : Option ℕ) (xs : List Array) (t : DictionaryTracker) (p : Progress) → d ≡ is_some start → n ≡ unwrap_or start 0
    → PartsLeft t p p (λ s. parts_sent o (used_by p.used) id below d n (forest_of xs) s) (parts_sent o (used_by p.used) id below (is_some start) (unwrap_or start 0) (forest_of xs) (sending_of t p))
parts_begin o id below d n start xs t p e f =
    let sent : List ToSend = map to_send p.messages.items in
    let u : ℤ → Bool = used_by p.used in (
      [],
      ap (λ b. parts_sent o u id below b n (forest_of xs) (with_added t p [] sent)) e
          ∙ ap (λ k. parts_sent o u id below (is_some start) k (forest_of xs) (with_added t p [] sent)) f
          ∙ ap (λ (v : ℤ → Bool). parts_sent o u id below (is_some start) (unwrap_or start 0) (forest_of xs) (record { held = held_by t; used = v; sent = sent })) (fun_ext (λ q. or_nothing (u q))),
      releases_none p,
    )

pub part_is_passed : (o : Options) (id : ℤ) (below : Ids) (d : Bool) (n m : ℕ) (xs : List Array) (i : ℕ) (x : Array) (t : DictionaryTracker) (first p : Progress) (whole : Result Sending IpcError) → i < length xs → x ≡ get_or xs i x
    → d ≡ true → rows_in (parts_of x) ≤ n → n ≡ rows_in (parts_of x) + m
    → PartsLeft t first p (λ s. parts_sent o (used_by first.used) id below d n (forest_of (drop i xs)) s) whole
    → PartsLeft t first p (λ s. parts_sent o (used_by first.used) id below d m (forest_of (drop (i + 1) xs)) s) whole
part_is_passed o id below d n m xs i x t first p whole h e is le r left =
    let s = with_added t first left.0 (map to_send p.messages.items) in
    (left.0, sym (parts_skipped o (used_by first.used) id below d n m xs i x s h e is le r) ∙ left.1, left.2)

pub part_is_sent : (o : Options) (id : ℤ) (below : Ids) (d : Bool) (row n : ℕ) (xs : List Array) (i : ℕ) (x : Array) (t u : DictionaryTracker) (first p q : Progress) (whole : Result Sending IpcError) → i < length xs → x ≡ get_or xs i x
    → (d && nat_le (rows_in (parts_of x)) n) ≡ false → row ≡ n → options_of t ≡ o
    → PartsLeft t first p (λ s. parts_sent o (used_by first.used) id below d n (forest_of (drop i xs)) s) whole
    → PartSent (Ok tt) u p q (message_of id d (rows_from row (parts_of x))) (array_sent (options_of t) (parts_of x) None below (sending_of t p))
    → PartsLeft u first q (λ s. parts_sent o (used_by first.used) id below true 0 (forest_of (drop (i + 1) xs)) s) whole
part_is_sent o id below d row n xs i x t u first p q whole h e f at alike left part =
    let added : List ℤ = left.0 in
    let more : List ℤ = part.0 in
    let sent : List ToSend = part.1 in
    let new : List ToSend = map to_send q.messages.items in
    let s = with_added t first added (map to_send p.messages.items) in
    let message = message_of id d (rows_from n (parts_of x)) in
    let begun : scoped (used_by first.used) s ≡ sending_of t p = ap (λ (v : ℤ → Bool). record { held = held_by t; used = v; sent = map to_send p.messages.items }) (fun_ext (λ k. sym (left.2.used k))) in
    let step : array_sent o (parts_of x) None below (scoped (used_by first.used) s) ≡ Ok (with_added u p more sent) =
    ap (array_sent o (parts_of x) None below) begun ∙ ap (λ z. array_sent z (parts_of x) None below (sending_of t p)) (sym alike) ∙ part.2 in
    let messages : new ≡ sent ++ message ∷ [] = part.3 ∙ ap (λ k. sent ++ message_of id d (rows_from k (parts_of x)) ∷ []) at in
    let is : sending message s.used (with_added u p more sent) ≡ with_added u first (added ++ more) new =
    part_done (held_by u) (used_by first.used) (used_by p.used) added more sent new message left.2.used messages in (
      added ++ more,
      part_next o (used_by first.used) id below d n xs i x s (with_added u p more sent) (with_added u first (added ++ more) new) whole h e f step is left.1,
      releases_both first p q added more left.2 part.4,
    )

pub part_is_refused : (o : Options) (id : ℤ) (below : Ids) (d : Bool) (n : ℕ) (xs : List Array) (i : ℕ) (x : Array) (t : DictionaryTracker) (first p : Progress) (error : IpcError) (whole : Result Sending IpcError) → i < length xs → x ≡ get_or xs i x
    → (d && nat_le (rows_in (parts_of x)) n) ≡ false → options_of t ≡ o
    → PartsLeft t first p (λ s. parts_sent o (used_by first.used) id below d n (forest_of (drop i xs)) s) whole
    → (error ≡ Memory) ⊎ (array_sent (options_of t) (parts_of x) None below (sending_of t p) ≡ Err error)
    → (error ≡ Memory) ⊎ (whole ≡ Err error)
part_is_refused o id below d n xs i x t first p error whole h e f alike left (inl memory) = inl memory
part_is_refused o id below d n xs i x t first p error whole h e f alike left (inr refused) =
    let s = with_added t first left.0 (map to_send p.messages.items) in
    let begun : scoped (used_by first.used) s ≡ sending_of t p = ap (λ (v : ℤ → Bool). record { held = held_by t; used = v; sent = map to_send p.messages.items }) (fun_ext (λ k. sym (left.2.used k))) in
    let step : array_sent o (parts_of x) None below (scoped (used_by first.used) s) ≡ Err error =
    ap (array_sent o (parts_of x) None below) begun ∙ ap (λ z. array_sent z (parts_of x) None below (sending_of t p)) (sym alike) ∙ refused in
    part_stopped o (used_by first.used) id below d n xs i x s error whole h e f (inr step) left.1

pub parts_are_done : (o : Options) (id : ℤ) (below : Ids) (d : Bool) (n : ℕ) (xs : List Array) (i : ℕ) (t : DictionaryTracker) (first p : Progress) (whole : Result Sending IpcError) → length xs ≤ i
    → PartsLeft t first p (λ s. parts_sent o (used_by first.used) id below d n (forest_of (drop i xs)) s) whole
    → PartsSent (Ok tt) t first p whole
parts_are_done o id below d n xs i t first p whole h left =
    let s = with_added t first left.0 (map to_send p.messages.items) in
    (left.0, sym left.1 ∙ at_drop_all (λ ys. parts_sent o (used_by first.used) id below d n (forest_of ys) s) xs i h, left.2)

-- ── a dictionary whose parts were sent ──

-- it is held, and its id fixed
pub is_held : (id : ℤ) (parts : Forest) (h k : Held) (u v w : ℤ → Bool) (added : List ℤ) (sent : List ToSend) → ((q : ℤ) → k q ≡ held_with id parts h q) → ((q : ℤ) → v q ≡ (u q || is_among q added)) → ((q : ℤ) → w q ≡ (v q || same id q))
    → holding id parts (record { held = h; used = λ q. u q || is_among q added; sent = sent }) ≡ record { held = k; used = w; sent = sent }
is_held id parts h k u v w added sent there came fixed =
    ap (λ (g : Held). record { held = g; used = λ q. (u q || is_among q added) || same id q; sent = sent }) (fun_ext (λ q. sym (there q)))
    ∙ ap (λ (x : ℤ → Bool). record { held = k; used = x; sent = sent }) (fun_ext (λ q. ap (λ b. b || same id q) (sym (came q)) ∙ sym (fixed q)))

pub keeps_more : (t : DictionaryTracker) (p : Progress) (u : DictionaryTracker) (q : Progress) (v : DictionaryTracker) (r : Progress) → Keeps t p u q → options_of v ≡ options_of u
    → ((before : Held) → Restores q.changes.items (held_by u) before → Restores r.changes.items (held_by v) before) → Keeps t p v r
keeps_more t p u q v r a same more = record { options = same ∙ a.options; restores = λ before x. more before (a.restores before x) }

-- ── an id is fixed, if memory allows ──

pub adds_then : (r : Result (Unit {0}) IpcError) (u v w : UsedIds) → Adds u v → IfOk r (λ _. Adds v w) → IfOk r (λ _. Adds u w)
adds_then (Ok x) u v w a b = adds_both u v w a b
adds_then (Err e) u v w a b = tt

pub id_is_fixed : (r : Result (Unit {0}) IpcError) (step : Result Sending IpcError) (s t : Sending) → step ≡ Ok s → IfOk r (λ _. s ≡ t) → IfErr r (λ e. e ≡ Memory) → Walks r step t
id_is_fixed (Ok x) step s t e same memory = e ∙ ap Ok same
id_is_fixed (Err x) step s t e same memory = inl memory

pub fixed_as : (r : Result (Unit {0}) IpcError) (id : ℤ) (h : Held) (u v : ℤ → Bool) (sent : List ToSend) → IfOk r (λ _. (q : ℤ) → v q ≡ (u q || same id q)) → IfOk r (λ _. fixing id (record { held = h; used = u; sent = sent }) ≡ record { held = h; used = v; sent = sent })
fixed_as (Ok x) id h u v sent f = ap (λ (w : ℤ → Bool). record { held = h; used = w; sent = sent }) (fun_ext (λ q. sym (f q)))
fixed_as (Err e) id h u v sent f = tt

pub held_as_fixed : (r : Result (Unit {0}) IpcError) (id : ℤ) (parts : Forest) (h k : Held) (u v w : ℤ → Bool) (added : List ℤ) (sent : List ToSend) → ((q : ℤ) → k q ≡ held_with id parts h q) → ((q : ℤ) → v q ≡ (u q || is_among q added)) → IfOk r (λ _. (q : ℤ) → w q ≡ (v q || same id q))
    → IfOk r (λ _. holding id parts (record { held = h; used = λ q. u q || is_among q added; sent = sent }) ≡ record { held = k; used = w; sent = sent })
held_as_fixed (Ok x) id parts h k u v w added sent there came fixed = is_held id parts h k u v w added sent there came fixed
held_as_fixed (Err e) id parts h k u v w added sent there came fixed = tt

-- ── how a dictionary stands ──

pub stands_so : (o : Options) (d : Indexed) (parts : Forest) (id : ℤ) (below : Ids) (s : Sending) (st : Standing) (fixed : Bool) (may : Option Bool) → st ≡ standing (s.held id) (values_kind d.kind) parts → fixed ≡ (o.cannot_replace || s.used id) → may ≡ allowed fixed o.deltas st
    → array_sent o (nested (indexed d) parts) (Some id) below s ≡ dictionary_sent o may (delta_start o.deltas st) id parts s (parts_sent o s.used id below (is_some (delta_start o.deltas st)) (unwrap_or (delta_start o.deltas st) 0) parts s)
stands_so o d parts id below s st fixed may e f g =
    let sent = λ (z : Standing) (m : Option Bool). dictionary_sent o m (delta_start o.deltas z) id parts s (parts_sent o s.used id below (is_some (delta_start o.deltas z)) (unwrap_or (delta_start o.deltas z) 0) parts s) in
    ap (λ z. sent z (allowed (o.cannot_replace || s.used id) o.deltas z)) (sym e) ∙ ap (λ b. sent st (allowed b o.deltas st)) (sym f) ∙ ap (sent st) (sym g)

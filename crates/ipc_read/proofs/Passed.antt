-- Arrays of any kind that are passed over, with their children one after another.
use Rattle.std.proofs.Common.{◌≡◌, ℕ, zero, suc, ◌+◌, ◌≤◌, ◌<◌, List, [], ◌∷◌, length, drop, get_or, Result, Ok, Err, IfOk, Option, refl, sym, ap, ◌∙◌, arith, subst, ℤ}
use Rattle.std.specs.Result.{IsErr, IsErrAnd}
use Rattle.arrow_spec.specs.declared.error.IpcError.{IpcError}
use Rattle.arrow_spec.specs.declared.message.FieldNode.{FieldNode}
use Rattle.arrow_spec.specs.declared.message.IpcBuffer.{IpcBuffer}
use Rattle.arrow_spec.specs.declared.message.MetadataVersion.{MetadataVersion}
use Rattle.arrow_spec.specs.Flat.{little}
use Rattle.arrow_spec.specs.Readings.{Refuses}
use Rattle.arrow_spec.specs.Kinds.{Kind, Fields, none, field, null, boolean, integer, float, date32, date64, time32, time64, timestamp, duration, interval, decimal, decimal256, binary, utf8, binary_view, utf8_view, fixed_size_binary, «list», fixed_size_list, struct, map, union, dictionary, extension}
use Rattle.arrow_spec.specs.Counts.{RecordBatch, Place, first_place, count_among, after, inside, nodes, buffers, views, nodes_of, buffers_of, views_of}
use Rattle.arrow_spec.specs.Faults.{counts_faults, count_faults, place_in}
use Rattle.arrow_types.specs.KindOf.{kind_of, fields_of}
use Rattle.arrow_types.specs.declared.data_type.Field.{Field}
use Rattle.ipc_read.specs.Queues.{At, AllAt, BatchAt, Shortened, ShortenedBy}
use Rattle.ipc_read.specs.Places.{behind, IsBehind, place_faults}
use Rattle.ipc_read.specs.Skips.{moved, IsDamage, PassesChildless, PassesColumn, PassesTop}
use Rattle.ipc_read.specs.Sources.{Answers}
use Rattle.ipc_read.proofs.Refusals.{refuses_left}
use Rattle.ipc_read.proofs.Passing.{at_all}
use Rattle.ipc_read.proofs.Places.{behind_itself, behind_then, after_is_behind, fields_behind, same_place, wider_refuses, AreNatural, are_natural, none_missing, natural_then, natural_itself, counts_between, first_place_in, next_place_in, last_place_in, within_fields, field_behind}
use Rattle.ipc_read.proofs.Shortened.{none_taken, all_taken, taken_more, taken_then, from_first}

-- ── counts behind those that were taken ──

dropped_count : (xs : List ℤ) (i v : ℕ) → count_among (drop i xs) v ≡ count_among xs (i + v)
dropped_count xs zero v = ap (count_among xs) (omega arith)
dropped_count [] (suc i) v = refl
dropped_count (x ∷ xs) (suc i) v = let s : suc (i + v) ≡ suc i + v = omega arith in dropped_count xs i v ∙ ap (count_among (x ∷ xs)) s

mutual
  pub buffers_dropped : (version : MetadataVersion) (vs : List ℤ) (i : ℕ) (k : Kind) (v : ℕ) → buffers version (drop i vs) k v ≡ buffers version vs k (i + v)
  buffers_dropped version vs i binary_view v = ap (λ n. 2 + n) (dropped_count vs i v)
  buffers_dropped version vs i utf8_view v = ap (λ n. 2 + n) (dropped_count vs i v)
  buffers_dropped version vs i («list» o fs) v = ap (λ n. 2 + n) (all_dropped version vs i fs v)
  buffers_dropped version vs i (fixed_size_list n fs) v = ap (λ n. 1 + n) (all_dropped version vs i fs v)
  buffers_dropped version vs i (struct fs) v = ap (λ n. 1 + n) (all_dropped version vs i fs v)
  buffers_dropped version vs i (map sorted fs) v = ap (λ n. 2 + n) (all_dropped version vs i fs v)
  buffers_dropped version vs i (union mode stated ids fs) v = ap (λ n. Rattle.arrow_spec.specs.Counts.union_buffers version mode + n) (all_dropped version vs i fs v)
  buffers_dropped version vs i (extension name metadata k) v = buffers_dropped version vs i k v
  buffers_dropped version vs i k v = refl

  all_dropped : (version : MetadataVersion) (vs : List ℤ) (i : ℕ) (fs : Fields) (v : ℕ) → buffers_of version (drop i vs) fs v ≡ buffers_of version vs fs (i + v)
  all_dropped version vs i none v = refl
  all_dropped version vs i (field name nullable metadata k others) v =
      let s : i + (v + views k) ≡ (i + v) + views k = omega arith in
      ap (λ n. n + buffers_of version (drop i vs) others (v + views k)) (buffers_dropped version vs i k v)
      ∙ ap (λ n. buffers version vs k (i + v) + n) (all_dropped version vs i others (v + views k) ∙ ap (buffers_of version vs others) s)

-- a record batch that has these tables and nothing else
abbrev pub only_tables : MetadataVersion → List FieldNode → List IpcBuffer → List ℤ → RecordBatch
only_tables version ns bs vs = record { order = little; version = version; nodes = ns; buffers = bs; variadic = vs; body = [] }

pub all_from_first : (version : MetadataVersion) (ns : List FieldNode) (bs : List IpcBuffer) (vs : List ℤ) → AllAt (only_tables version ns bs vs) first_place ns bs vs
all_from_first version ns bs vs = record { nodes = from_first ns; buffers = from_first bs; views = from_first vs }

pub batch_from_first : (version : MetadataVersion) (ns : List FieldNode) (bs : List IpcBuffer) (vs : List ℤ) → BatchAt version (only_tables version ns bs vs) first_place ns bs vs
batch_from_first version ns bs vs = record { version = refl; all = all_from_first version ns bs vs }

-- ── children, one after another ──

-- a node, so many buffers and the arrays of the first fields were passed over
pub record PassedTo (own : ℕ) (fs : Fields) (version : MetadataVersion) (i : ℕ) (ns ns' : List FieldNode) (bs bs' : List IpcBuffer) (vs vs' : List ℤ) : Type 0 where
  pub queues : (m : RecordBatch) (p : Place) → m.version ≡ version → AllAt m p ns bs vs → AllAt m (place_in m fs i (inside own p)) ns' bs' vs'
  pub natural : (m : RecordBatch) (p : Place) → m.version ≡ version → AllAt m p ns bs vs → AreNatural m p (place_in m fs i (inside own p))

inside_is : (own : ℕ) (p : Place) → moved 1 own 0 p ≡ inside own p
inside_is own p = same_place (omega arith) refl (omega arith)

inside_behind : (own : ℕ) (p : Place) → IsBehind p (inside own p)
inside_behind own p = record { nodes = omega arith; buffers = omega arith; views = omega arith }

pub none_passed : (own : ℕ) (fs : Fields) (version : MetadataVersion) (ns ns' : List FieldNode) (bs bs' : List IpcBuffer) (vs : List ℤ) → ((m : RecordBatch) (p : Place) → At m p ns bs → At m (moved 1 own 0 p) ns' bs') → PassedTo own fs version 0 ns ns' bs bs' vs vs
none_passed own fs version ns ns' bs bs' vs h = record {
  queues = λ m p e a.
      let b = subst (λ q. At m q ns' bs') (inside_is own p) (h m p (at_all a)) in
      subst (λ q. AllAt m q ns' bs' vs) (sym (first_place_in m fs (inside own p))) (record { nodes = b.nodes; buffers = b.buffers; views = a.views });
  natural = λ m p e a. subst (λ q. AreNatural m p q) (sym (first_place_in m fs (inside own p))) (natural_itself m p);
}

-- one more was passed over
pub next_passed : (own : ℕ) (cs : List Field) (version : MetadataVersion) (i : ℕ) (x : Field) (ns ns' ns'' : List FieldNode) (bs bs' bs'' : List IpcBuffer) (vs vs' vs'' : List ℤ) → i < length cs → x ≡ get_or cs i x
    → ((m : RecordBatch) (p : Place) → m.version ≡ version → AllAt m p ns' bs' vs' → AllAt m (after m (kind_of x.dtype) p) ns'' bs'' vs'')
    → ((m : RecordBatch) (p : Place) → m.version ≡ version → AllAt m p ns' bs' vs' → count_faults m (kind_of x.dtype) p ≡ [])
    → PassedTo own (fields_of cs) version i ns ns' bs bs' vs vs' → PassedTo own (fields_of cs) version (i + 1) ns ns'' bs bs'' vs vs''
next_passed own cs version i x ns ns' ns'' bs bs' bs'' vs vs' vs'' h e q n d = record {
  queues = λ m p v a. subst (λ r. AllAt m r ns'' bs'' vs'') (sym (next_place_in m cs i x (inside own p) h e)) (q m (place_in m (fields_of cs) i (inside own p)) v (d.queues m p v a));
  natural = λ m p v a.
      let here = place_in m (fields_of cs) i (inside own p) in
      let next = after m (kind_of x.dtype) here in
      let none : place_faults m here next ≡ [] = sym (counts_between m (kind_of x.dtype) here) ∙ n m here v (d.queues m p v a) in
      let front = behind_then (inside_behind own p) (field_behind m cs i (inside own p) (omega (arith, h))) in
      subst (λ r. AreNatural m p r) (sym (next_place_in m cs i x (inside own p) h e)) (natural_then m p here next front.views (after_is_behind m (kind_of x.dtype) here).views (d.natural m p v a) (are_natural m here next none));
}

answers_unit : (es : List IpcError) → es ≡ [] → Answers (λ (u : Unit {0}). u) (Ok tt) es tt
answers_unit es h = record { ok = (h, refl); err = tt }

-- all were passed over
pub all_passed : (own : ℕ) (cs : List Field) (version : MetadataVersion) (i : ℕ) (ns ns' : List FieldNode) (bs bs' : List IpcBuffer) (vs vs' : List ℤ) → length cs ≤ i → i ≤ length cs → PassedTo own (fields_of cs) version i ns ns' bs bs' vs vs' → PassesTop own (fields_of cs) version ns ns' bs bs' vs vs' (Ok tt)
all_passed own cs version i ns ns' bs bs' vs vs' h k d =
    let m = only_tables version ns bs vs in
    let at : (m : RecordBatch) (p : Place) → place_in m (fields_of cs) i (inside own p) ≡ behind m (fields_of cs) (inside own p) = λ m p. last_place_in m cs i (inside own p) h k in
    let queues : (m : RecordBatch) (p : Place) → m.version ≡ version → AllAt m p ns bs vs → AllAt m (behind m (fields_of cs) (inside own p)) ns' bs' vs' = λ m p v a. subst (λ q. AllAt m q ns' bs' vs') (at m p) (d.queues m p v a) in
    let left = queues m first_place refl (all_from_first version ns bs vs) in
    record {
      queues = queues;
      exact = λ m p v a. answers_unit _ (none_missing m p (behind m (fields_of cs) (inside own p)) ns' bs' vs' (queues m p v a) (subst (λ q. AreNatural m p q) (at m p) (d.natural m p v a)));
      nodes = taken_more (all_taken _ ns ns' left.nodes.is) (omega arith);
      buffers = taken_more (all_taken _ bs bs' left.buffers.is) (omega arith);
      views = taken_more (all_taken _ vs vs' left.views.is) (omega arith);
      damage = tt;
    }

-- one that is refused refuses all
pub passed_until : (own : ℕ) (cs : List Field) (version : MetadataVersion) (i : ℕ) (x : Field) (ns ns' ns'' : List FieldNode) (bs bs' bs'' : List IpcBuffer) (vs vs' vs'' : List ℤ) (e : IpcError) → i < length cs → x ≡ get_or cs i x
    → ((m : RecordBatch) (p : Place) → m.version ≡ version → AllAt m p ns' bs' vs' → Refuses e (count_faults m (kind_of x.dtype) p)) → ShortenedBy (kind_of x.dtype) version ns' ns'' bs' bs'' vs' vs'' → IsDamage e
    → PassedTo own (fields_of cs) version i ns ns' bs bs' vs vs' → PassesTop own (fields_of cs) version ns ns'' bs bs'' vs vs'' (Err e)
passed_until own cs version i x ns ns' ns'' bs bs' bs'' vs vs' vs'' e h g r s f d =
    let k = kind_of x.dtype in
    let m = only_tables version ns bs vs in
    let here = place_in m (fields_of cs) i (inside own first_place) in
    let left = d.queues m first_place refl (all_from_first version ns bs vs) in
    let most = within_fields m cs i x (inside own first_place) h g in
    let taken : buffers version vs' k 0 ≡ buffers version vs k here.view = ap (λ z. buffers version z k 0) left.views.is ∙ buffers_dropped version vs here.view k 0 ∙ ap (buffers version vs k) (omega arith) in
    record {
      queues = tt;
      exact = λ m p v a.
          let here = place_in m (fields_of cs) i (inside own p) in
          record {
            ok = tt;
            err = wider_refuses m p (behind m (fields_of cs) (inside own p)) here (after m k here) e
                (behind_then (inside_behind own p) (field_behind m cs i (inside own p) (omega (arith, h)))) (after_is_behind m k here).views (within_fields m cs i x (inside own p) h g)
                (subst (λ es. Refuses e es) (counts_between m k here) (r m here v (d.queues m p v a)));
          };
      nodes = taken_then (all_taken here.node ns ns' left.nodes.is) s.nodes (omega (arith, most.nodes));
      buffers = taken_then (all_taken here.buffer bs bs' left.buffers.is) s.buffers (omega (arith, most.buffers, taken));
      views = taken_then (all_taken here.view vs vs' left.views.is) s.views (omega (arith, most.views));
      damage = f;
    }

-- and so does the array's own part
pub own_refused : (own : ℕ) (fs : Fields) (version : MetadataVersion) (ns ns' : List FieldNode) (bs bs' : List IpcBuffer) (vs : List ℤ) (e : IpcError)
    → ((m : RecordBatch) (p : Place) → At m p ns bs → Refuses e (counts_faults m (moved 1 own 0 p))) → Shortened ns 1 ns' → Shortened bs own bs' → IsDamage e → PassesTop own fs version ns ns' bs bs' vs vs (Err e)
own_refused own fs version ns ns' bs bs' vs e r n b f = record {
  queues = tt;
  exact = λ m p v a. record {
    ok = tt;
    err = wider_refuses m p (behind m fs (inside own p)) p (inside own p) e (behind_itself p) (inside_behind own p).views (fields_behind m fs (inside own p))
        (refuses_left (counts_faults m (inside own p)) _ e (subst (λ q. Refuses e (counts_faults m q)) (inside_is own p) (r m p (at_all a))));
  };
  nodes = taken_more n (omega arith);
  buffers = taken_more b (omega arith);
  views = none_taken _ vs;
  damage = f;
}

-- ── a kind with children ──

-- a kind has a node, so many buffers, and the arrays of these fields behind them
pub record Opens (k : Kind) (version : MetadataVersion) (own : ℕ) (fs : Fields) : Type 0 where
  pub nodes : nodes k ≡ suc (nodes_of fs)
  pub buffers : (vs : List ℤ) (v : ℕ) → buffers version vs k v ≡ own + buffers_of version vs fs v
  pub views : views k ≡ views_of fs

pub after_opens : (m : RecordBatch) (k : Kind) (own : ℕ) (fs : Fields) (p : Place) → Opens k m.version own fs → behind m fs (inside own p) ≡ after m k p
after_opens m k own fs p o = same_place (omega (arith, o.nodes)) (omega (arith, o.buffers m.variadic p.view)) (omega (arith, o.views))

opens_as : (k : Kind) (version version' : MetadataVersion) (own : ℕ) (fs : Fields) → version' ≡ version → Opens k version own fs → Opens k version' own fs
opens_as k version version' own fs e o = subst (λ v. Opens k v own fs) (sym e) o

if_ok_map : {X E : Type 0} → (r : Result X E) (P Q : Type 0) → (P → Q) → IfOk r (λ _. P) → IfOk r (λ _. Q)
if_ok_map (Ok x) P Q h p = h p
if_ok_map (Err e) P Q h p = tt

pub top_passes : (k : Kind) (own : ℕ) (fs : Fields) (version : MetadataVersion) (ns ns' : List FieldNode) (bs bs' : List IpcBuffer) (vs vs' : List ℤ) (r : Result (Unit {0}) IpcError) → Opens k version own fs → PassesTop own fs version ns ns' bs bs' vs vs' r → PassesColumn k version ns ns' bs bs' vs vs' r
top_passes k own fs version ns ns' bs bs' vs vs' r o t = record {
  queues = if_ok_map r _ _ (λ h m p v a. subst (λ q. AllAt m q ns' bs' vs') (after_opens m k own fs p (opens_as k version m.version own fs v o)) (h m p v a)) t.queues;
  exact = λ m p v a. subst (λ es. Answers (λ u. u) r es tt) (ap (place_faults m p) (after_opens m k own fs p (opens_as k version m.version own fs v o)) ∙ sym (counts_between m k p)) (t.exact m p v a);
  shortened = record { nodes = taken_more t.nodes (omega (arith, o.nodes)); buffers = taken_more t.buffers (omega (arith, o.buffers vs 0)); views = taken_more t.views (omega (arith, o.views)) };
  damage = t.damage;
}

pub extension_passes : (name : List ℕ) (metadata : Option (List ℕ)) (k : Kind) (version : MetadataVersion) (ns ns' : List FieldNode) (bs bs' : List IpcBuffer) (vs vs' : List ℤ) (r : Result (Unit {0}) IpcError) → PassesColumn k version ns ns' bs bs' vs vs' r → PassesColumn (extension name metadata k) version ns ns' bs bs' vs vs' r
unfolding count_faults
extension_passes name metadata k version ns ns' bs bs' vs vs' r c = record {
  queues = c.queues;
  exact = c.exact;
  shortened = record { nodes = c.shortened.nodes; buffers = c.shortened.buffers; views = c.shortened.views };
  damage = c.damage;
}

pub flat_passes : (k : Kind) (version : MetadataVersion) (ns ns' : List FieldNode) (bs bs' : List IpcBuffer) (vs vs' : List ℤ) (r : Result (Unit {0}) IpcError) → PassesChildless k ns ns' bs bs' vs vs' r → PassesColumn k version ns ns' bs bs' vs vs' r
flat_passes k version ns ns' bs bs' vs vs' r f = record {
  queues = if_ok_map r _ _ (λ h m p v a. h m p a) f.queues;
  exact = λ m p v a. f.exact m p a;
  shortened = f.shortened version;
  damage = f.damage;
}

-- the same of the kind of a type
pub several_children : (own : ℕ) (xs cs : List Field) (k l : Kind) (version : MetadataVersion) (ns ns' : List FieldNode) (bs bs' : List IpcBuffer) (vs vs' : List ℤ) (r : Result (Unit {0}) IpcError) → l ≡ k → xs ≡ cs → Opens k version own (fields_of cs) → PassesTop own (fields_of xs) version ns ns' bs bs' vs vs' r → PassesColumn l version ns ns' bs bs' vs vs' r
several_children own xs cs k l version ns ns' bs bs' vs vs' r g e o t =
    subst (λ z. PassesColumn z version ns ns' bs bs' vs vs' r) (sym g)
    (top_passes k own (fields_of cs) version ns ns' bs bs' vs vs' r o (subst (λ z. PassesTop own (fields_of z) version ns ns' bs bs' vs vs' r) e t))

pub one_child : (own : ℕ) (xs : List Field) (x y : Field) (k l : Kind) (version : MetadataVersion) (ns ns' : List FieldNode) (bs bs' : List IpcBuffer) (vs vs' : List ℤ) (r : Result (Unit {0}) IpcError) → l ≡ k → xs ≡ x ∷ [] → x ≡ y → Opens k version own (fields_of (y ∷ [])) → PassesTop own (fields_of xs) version ns ns' bs bs' vs vs' r → PassesColumn l version ns ns' bs bs' vs vs' r
one_child own xs x y k l version ns ns' bs bs' vs vs' r g e f o t = several_children own xs (y ∷ []) k l version ns ns' bs bs' vs vs' r g (e ∙ ap (λ z. z ∷ []) f) o t

pub inner_passes : (name : List ℕ) (metadata : Option (List ℕ)) (k l : Kind) (version : MetadataVersion) (ns ns' : List FieldNode) (bs bs' : List IpcBuffer) (vs vs' : List ℤ) (r : Result (Unit {0}) IpcError) → l ≡ extension name metadata k → PassesColumn k version ns ns' bs bs' vs vs' r → PassesColumn l version ns ns' bs bs' vs vs' r
inner_passes name metadata k l version ns ns' bs bs' vs vs' r e c = subst (λ z. PassesColumn z version ns ns' bs bs' vs vs' r) (sym e) (extension_passes name metadata k version ns ns' bs bs' vs vs' r c)

-- the refusal of a call is passed on
pub refused_as : (own : ℕ) (fs : Fields) (version : MetadataVersion) (ns ns' : List FieldNode) (bs bs' : List IpcBuffer) (vs vs' : List ℤ) (r : Result (Unit {0}) IpcError) (e : IpcError) (P : IpcError → Type 0) → IsErr r → IsErrAnd r P → ((f : IpcError) → P f → f ≡ e) → PassesTop own fs version ns ns' bs bs' vs vs' (Err e) → PassesTop own fs version ns ns' bs bs' vs vs' r
refused_as own fs version ns ns' bs bs' vs vs' (Ok x) e P h p k t = cc
refused_as own fs version ns ns' bs bs' vs vs' (Err f) e P h p k t = subst (λ g. PassesTop own fs version ns ns' bs bs' vs vs' (Err g)) (sym (k f p)) t

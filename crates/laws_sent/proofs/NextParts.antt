-- The parts of a file's dictionaries, each read under those before it.
use Rattle.std.proofs.Common.{◌≡◌, ◌∙◌, ℕ, zero, suc, List, [], ◌∷◌, ◌++◌, append_assoc, length, Bool, true, false, Option, Some, None, IfSome, ℤ, refl, sym, ap, subst}
use Rattle.std.proofs.Math.Path.{fun_ext}
use Rattle.std.proofs.lemmas.Bool.{and_from}
use Rattle.std.proofs.lemmas.List.{append-nil}
use Rattle.std.specs.List.{AllByRecursion}
use Rattle.std.specs.Option.{option_map}
use Rattle.std.specs.Prelude.{if◌then◌else◌, slice_get}
use Rattle.arrow_spec.specs.Kinds as kind
use Rattle.arrow_spec.specs.Kinds.{Fields, Kind, Metadata, Use, have_same_kinds, is_same_kind, same, uses_in, values_under}
use Rattle.arrow_spec.specs.Counts.{Place, RecordBatch, after, first_place, magnitude}
use Rattle.arrow_spec.specs.Arrays.{Dictionaries, found}
use Rattle.arrow_spec.specs.Files.{block_body, fields_as_asked, fields_asked, record_batch_of, with_field_at}
use Rattle.ipc_files.specs.Below.{joined, Parts, Forest, also, cells_each, forest, kind_in, Held, HoldsCells, values_of_id, HoldsPart, parts_before, with_part}
use Rattle.ipc_files.specs.Below.Parts as parts
use Rattle.arrow_spec.proofs.SameIds.{id_true}
use Rattle.ipc_fields.proofs.SameKinds.{same_itself}
use Rattle.laws_writers.specs.Below.{columns_of, columns_read, none_held, parts_read, plain_fields, plain_kind}
use Rattle.laws_transcode.specs.Files.{AreAsked, ArePicked}
use Rattle.laws_sent.specs.Parts.{PartTree}
use Rattle.ipc_files.specs.FileDictionaries.{no_block, one_block}
use Rattle.laws_writers.proofs.Below.{Agrees, uses_one}
use Rattle.laws_sent.specs.PartLaws.{AreReadParts, ColumnsAreOfFields, ColumnsAreReadUnder, HeldPartsAreRead, IsLast, NextPartIsRead, NothingIsRead, OrderIsOfAsked}
use Rattle.laws_sent.specs.ReadUnder.{AreReadUnder, EachIsReadUnder, IsReadUnder, held_if_any, held_of, parts_under}
use Rattle.laws_sent.proofs.ReadParts.{block_said, no_parts, one_more_part, uses_asked}
use Rattle.laws_sent.proofs.ReadUnder.{array_kind, array_under, read_as}
use Rattle.laws_sent.proofs.ReadValues.{message_read}

pub nothing_read : NothingIsRead
nothing_read fs = record { read = no_parts fs; order = tt; held = λ id. refl }

-- ── the last part ──

last_with : (xs : Forest) (p : Parts) → IsLast (with_part xs p) p
last_with parts.none p = refl
last_with (also x parts.none) p = refl
last_with (also x (also y xs)) p = last_with (also y xs) p

last_before : (is_delta : Bool) (o : Option Forest) (p : Parts) → IsLast (parts_before is_delta o p) p
last_before false o p = refl
last_before true None p = refl
last_before true (Some xs) p = last_with xs p

-- ── what is held ──

-- behind some parts one more stands under its id
under_more : (id : ℤ) (ps : List PartTree) (q : PartTree) → parts_under id (ps ++ q ∷ []) ≡ (if same q.id id then with_part (parts_under id ps) q.tree else parts_under id ps)
under_more id [] q = by (same q.id id)
  where
    by : (t : Bool) → (if t then also q.tree parts.none else parts.none) ≡ (if t then with_part parts.none q.tree else parts.none)
    by true = refl
    by false = refl
under_more id (p ∷ ps) q = by (same p.id id) (same q.id id) (under_more id ps q)
  where
    by : (t u : Bool) → parts_under id (ps ++ q ∷ []) ≡ (if u then with_part (parts_under id ps) q.tree else parts_under id ps)
        → (if t then also p.tree (parts_under id (ps ++ q ∷ [])) else parts_under id (ps ++ q ∷ []))
        ≡ (if u then with_part (if t then also p.tree (parts_under id ps) else parts_under id ps) q.tree else (if t then also p.tree (parts_under id ps) else parts_under id ps))
    by true true e = ap (also p.tree) e
    by true false e = ap (also p.tree) e
    by false u e = e

any_with : (xs : Forest) (p : Parts) → held_if_any (with_part xs p) ≡ Some (with_part xs p)
any_with parts.none p = refl
any_with (also x xs) p = refl

-- the first message of an id stands behind none
any_before : (is_delta : Bool) (xs : Forest) (p : Parts) → (is_delta ≡ false → held_if_any xs ≡ None) → Some (parts_before is_delta (held_if_any xs) p) ≡ held_if_any (with_part xs p)
any_before false parts.none p first = refl
any_before false (also x xs) p first = let no = first refl in cc
any_before true parts.none p first = refl
any_before true (also x xs) p first = refl

none_found : (o : Option Forest) → None ≡ option_map (λ held. joined (cells_each held)) o → o ≡ None
none_found None h = refl
none_found (Some xs) h = cc

-- of an id that was never read nothing is held
never_held : (d : Dictionaries) (h : Held) (id : ℤ) → HoldsCells d h → found d id ≡ None → h id ≡ None
never_held d h id holds none = none_found (h id) (sym none ∙ holds id)

held_more : (h h' : Held) (ps : List PartTree) (id : ℤ) (is_delta : Bool) (p : Parts) → ((q : ℤ) → h q ≡ held_of ps q) → h' id ≡ Some (parts_before is_delta (h id) p) → ((q : ℤ) → same id q ≡ false → h' q ≡ h q) → (is_delta ≡ false → h id ≡ None)
    → (q : ℤ) → h' q ≡ held_of (ps ++ record { id = id; tree = p } ∷ []) q
held_more h h' ps id is_delta p held here others first q = by (same id q) refl ∙ ap held_if_any (sym (under_more q ps (record { id = id; tree = p })))
  where
    by : (t : Bool) → same id q ≡ t → h' q ≡ held_if_any (if same id q then with_part (parts_under q ps) p else parts_under q ps)
    by true e =
        let one : id ≡ q = id_true id q e in
        let new : h' q ≡ Some (parts_before is_delta (held_of ps q) p) = subst (λ i. h' i ≡ Some (parts_before is_delta (h i) p)) one here ∙ ap (λ o. Some (parts_before is_delta o p)) (held q) in
        let none : is_delta ≡ false → held_of ps q ≡ None = λ is. sym (held q) ∙ subst (λ i. h i ≡ None) one (first is) in
        new ∙ any_before is_delta (parts_under q ps) p none ∙ ap (λ t. held_if_any (if t then with_part (parts_under q ps) p else parts_under q ps)) (sym e)
    by false e = others q e ∙ held q ∙ ap (λ t. held_if_any (if t then with_part (parts_under q ps) p else parts_under q ps)) (sym e)

-- ── in order ──

-- what each use asks of a part
abbrev AsUsed : Held → ℤ → Parts → Use → Type 0
AsUsed h id p u = same u.id id ≡ true → IsReadUnder h u.values p

used : (m : RecordBatch) (h : Held) (k : Kind) (rows : ℕ) (id : ℤ) (all us : List Use) → values_under id all ≡ Some k → AllByRecursion (Agrees all) us → AllByRecursion (AsUsed h id (parts_read m h k first_place rows)) us
used m h k rows id all [] first agree = tt
used m h k rows id all (u ∷ us) first agree = (here, used m h k rows id all us first agree.1)
  where
    here : AsUsed h id (parts_read m h k first_place rows) u
    here is =
        let found : Some agree.0.values ≡ Some k = sym agree.0.first ∙ ap (λ i. values_under i all) (id_true u.id id is) ∙ first in
        let own : agree.0.values ≡ k = cc in
        read_as h k u.values (parts_read m h k first_place rows) (subst (λ z. is_same_kind z u.values ≡ true) own agree.0.one) (array_under m h k first_place rows)

each_behind : (fs : Fields) (before ps : List PartTree) (q : PartTree) → EachIsReadUnder fs before ps → AllByRecursion (AsUsed (held_of (before ++ ps)) q.id q.tree) (uses_in fs) → EachIsReadUnder fs before (ps ++ q ∷ [])
each_behind fs before [] q each last = (subst (λ qs. AllByRecursion (AsUsed (held_of qs) q.id q.tree) (uses_in fs)) (append-nil before) last, tt)
each_behind fs before (p ∷ ps) q each last =
    (each.0, each_behind fs (before ++ p ∷ []) ps q each.1 (subst (λ qs. AllByRecursion (AsUsed (held_of qs) q.id q.tree) (uses_in fs)) (sym (append_assoc before (p ∷ []) ps)) last))

pub next_part : NextPartIsRead
next_part b meta block d h h' x ps id columns agree uses read is more held =
    let fs = meta.schema.fields in
    let m : RecordBatch = record_batch_of meta.schema.order held.message.version held.message.dictionary.values (block_body b block) in
    let rows : ℕ = magnitude held.message.dictionary.values.length in
    let r = message_read meta.schema d (length b) held.message.dictionary held.message.version (block_body b block) x (block_said b meta block d h h' x id is held) in
    let kind : values_of_id fs id ≡ Some r.kind = ap (λ i. values_under i (uses_in fs)) held.under ∙ r.under in
    let p : Parts = parts_read m h r.kind first_place rows in
    let is_delta : Bool = held.message.dictionary.is_delta in
    let here : h' id ≡ Some (parts_before is_delta (h id) p) = subst (λ o. HoldsPart h h' id is_delta o m rows) kind held.part in
    let last : IfSome (h' id) (λ xs. IsLast xs p) = subst (λ o. IfSome o (λ xs. IsLast xs p)) (sym here) (last_before is_delta (h id) p) in
    let one = one_more_part b meta block d h h' x ps id p columns agree uses read.read is more held last in
    let none : is_delta ≡ false → h id ≡ None = λ first. never_held d h id read.read.cells (subst (λ i. found d i ≡ None) (sym (held.under ∙ r.id)) (one.parts.unreplaced.0 (sym r.is_delta ∙ first))) in
    let before : h ≡ held_of ps = fun_ext read.held in
    let as_used : AllByRecursion (AsUsed (held_of ps) id p) (uses_in fs) = subst (λ g. AllByRecursion (AsUsed g id p) (uses_in fs)) before (used m h r.kind rows id (uses_in fs) (uses_in fs) kind (uses_one fs agree)) in (
      p,
      record {
        read = one;
        order = each_behind fs [] ps (record { id = id; tree = p }) read.order as_used;
        held = held_more h h' ps id is_delta p read.held here held.others none;
      },
    )

pub held_parts : HeldPartsAreRead
held_parts b meta [] h columns agree (no_block none) =
    let nothing : h ≡ none_held = fun_ext none in
    ([], subst (λ g. AreReadParts meta.schema.fields [] g []) (sym nothing) (nothing_read meta.schema.fields))
held_parts b meta (x ∷ d) h' columns agree (one_block {h = h} {block = block} {id = id} before uses said held cells) =
    let read = held_parts b meta d h columns agree before in
    let next = next_part b meta block d h h' x read.0 id columns agree uses read.1 said cells held in
    (read.0 ++ record { id = id; tree = next.0 } ∷ [], next.1)

-- ── of the fields that are asked for ──

each_asked : (fs : Fields) (cs : List ℕ) (before ps : List PartTree) → EachIsReadUnder fs before ps → EachIsReadUnder (fields_asked fs cs) before ps
each_asked fs cs before [] each = tt
each_asked fs cs before (p ∷ ps) each = (uses_asked (AsUsed (held_of before) p.id p.tree) fs cs each.0, each_asked fs cs (before ++ p ∷ []) ps each.1)

pub order_asked : OrderIsOfAsked
order_asked fs None ps order = order
order_asked fs (Some cs) ps order = each_asked fs cs [] ps order

-- ── columns ──

-- what holds of no columns, and of a column before others, holds of those that are asked for
module _ (m : RecordBatch) (h : Held) (rows : ℕ) (P : Fields → Forest → Type 0) (none : P kind.none parts.none)
    (one : (name : List ℕ) (nullable : Bool) (metadata : Metadata) (k : Kind) (others : Fields) (p : Place) (ps : Forest) → P others ps → P (kind.field name nullable metadata k others) (also (parts_read m h k p rows) ps)) where
  all_columns : (fs : Fields) (p : Place) → P fs (forest (columns_read m h fs p rows))
  all_columns kind.none p = none
  all_columns (kind.field name nullable metadata k others) p = one name nullable metadata k others p (forest (columns_read m h others (after m k p) rows)) (all_columns others (after m k p))

  column_at : (fs : Fields) (c : ℕ) (p : Place) (x : Parts) (others : Fields) (ps : Forest) → slice_get (columns_read m h fs p rows) c ≡ Some x → P others ps → P (with_field_at fs c others) (also x ps)
  column_at kind.none c p x others ps at rest = cc
  column_at (kind.field name nullable metadata k fs) zero p x others ps at rest =
      let is : parts_read m h k p rows ≡ x = cc in
      subst (λ y. P (kind.field name nullable metadata k others) (also y ps)) is (one name nullable metadata k others p ps rest)
  column_at (kind.field name nullable metadata k fs) (suc c) p x others ps at rest = column_at fs c (after m k p) x others ps at rest

  picked_columns : (fs : Fields) (p : Place) (cs : List ℕ) (xs : List Parts) → ArePicked (columns_read m h fs p rows) cs xs → P (fields_asked fs cs) (forest xs)
  picked_columns fs p [] [] are = none
  picked_columns fs p [] (x ∷ xs) are = absurd are
  picked_columns fs p (c ∷ cs) [] are = absurd are
  picked_columns fs p (c ∷ cs) (x ∷ xs) are = column_at fs c p x (fields_asked fs cs) (forest xs) are.0 (picked_columns fs p cs xs are.1)

  asked_columns : (fs : Fields) (columns : Option (List ℕ)) (xs : List Parts) → AreAsked (columns_read m h fs first_place rows) columns xs → P (fields_as_asked columns fs) (forest xs)
  asked_columns fs None xs are = subst (λ ys. P fs (forest ys)) (sym are) (all_columns fs first_place)
  asked_columns fs (Some cs) xs are = picked_columns fs first_place cs xs are

pub columns_under : ColumnsAreReadUnder
columns_under m h fs columns rows xs are =
    asked_columns m h rows (AreReadUnder h) refl (λ name nullable metadata k others p ps rest. (array_under m h k p rows, rest)) fs columns xs are

pub columns_of_fields : ColumnsAreOfFields
columns_of_fields m h fs columns rows xs carried are =
    asked_columns m h rows (λ gs ps. have_same_kinds (plain_fields gs) (columns_of ps) ≡ true) refl
    (λ name nullable metadata k others p ps rest.
    and_from (is_same_kind (plain_kind k) (kind_in (parts_read m h k p rows))) (have_same_kinds (plain_fields others) (columns_of ps))
    (subst (λ z. is_same_kind (plain_kind k) z ≡ true) (sym (array_kind m h k p rows)) (same_itself (plain_kind k))) rest)
    fs columns xs are

-- The parts of a dictionary as they were read: each by the messages up to its own.
use Rattle.std.proofs.Common.{◌≡◌, ℕ, zero, suc, ◌^◌, ◌<◌, ◌≤◌, List, [], ◌∷◌, ◌++◌, length, take, refl, sym, ap, subst, ◌∙◌, arith, true, false, Bool, None, ℤ, append_assoc, append-nil}
use Rattle.std.specs.Prelude.{cond}
use Rattle.std.specs.List.{AllByRecursion, list_all}
use Rattle.std.proofs.lemmas.Bool.{and_from, and_parts}
use Rattle.arrow_spec.specs.Flat.{little}
use Rattle.arrow_spec.specs.Kinds.{Kind, Fields, Use, is_same_kind, same, uses_in}
use Rattle.arrow_spec.specs.Arrays.{Dictionaries, HeldDictionary}
use Rattle.ipc_files.specs.Below.{is_carried, each_of, Parts, Forest, none, also, cells_in, fault_each, fault_in, kind_in, kinds_each, rows_in, column_in}
use Rattle.ipc_files.proofs.Below.{kind-empty, rows-empty, neither}
use Rattle.ipc_fields.specs.Uses.{use_as}
use Rattle.arrow_spec.proofs.Forms.{form}
use Rattle.arrow_spec.proofs.SameIds.{id_self, id_true}
use Rattle.ipc_fields.proofs.SameKinds.{form_is_same, same_by_form}
use Rattle.laws_writers.specs.Below.{parts_or_empty, plain_kind}
use Rattle.laws_transcode.specs.Below.{written_of}
use Rattle.laws_transcode.specs.Sending.{NoneReplaced, histories, histories_before, or_never_read, part_cells, part_written, read_under}
use Rattle.laws_transcode.proofs.Histories.{IsBehind, none_lost}
use Rattle.laws_sent.specs.Parts.{EachFilePart, PartTree, last_tree, part_behind}
use Rattle.laws_sent.proofs.Empty.{empty_column}
use Rattle.laws_sent.specs.ReadUnder.{AreReadInOrder, EachIsReadUnder, IsReadUnder, held_if_any, held_of, parts_under}
use Rattle.laws_sent.proofs.EmptyArrays.{HasHeld, as_read, empty_held, no_cells}
use Rattle.laws_sent.proofs.Forms.{bare_form, bare_of, carried_as, none_written_as}
use Rattle.laws_sent.proofs.Lists.{all_both, all_first}

-- ── the parts that were held ──

-- the part of the last of some messages; an empty one of a kind before the first
abbrev pub tree : List PartTree → Kind → Dictionaries → Parts
tree ps l h = last_tree ps (plain_kind l) (length h)

abbrev pub trees : List PartTree → Kind → List Dictionaries → Forest
trees ps l [] = none
trees ps l (h ∷ hs) = also (tree ps l h) (trees ps l hs)

-- what was read under an id, and an empty part where nothing was
abbrev pub shown : Dictionaries → ℤ → List Dictionaries
shown e q = or_never_read (histories e q)

-- one part more
abbrev one_more : Forest → Parts → Forest
one_more none p = also p none
one_more (also q qs) p = also q (one_more qs p)

more_under : (q : ℤ) (ps : List PartTree) (p : PartTree) → parts_under q (ps ++ p ∷ []) ≡ cond (same p.id q) (one_more (parts_under q ps) p.tree) (parts_under q ps)
more_under q [] p = refl
more_under q (x ∷ ps) p = by (same x.id q) (same p.id q) (more_under q ps p)
  where
    by : (b c : Bool) → parts_under q (ps ++ p ∷ []) ≡ cond c (one_more (parts_under q ps) p.tree) (parts_under q ps)
        → cond b (also x.tree (parts_under q (ps ++ p ∷ []))) (parts_under q (ps ++ p ∷ [])) ≡ cond c (one_more (cond b (also x.tree (parts_under q ps)) (parts_under q ps)) p.tree) (cond b (also x.tree (parts_under q ps)) (parts_under q ps))
    by true true h = ap (also x.tree) h
    by true false h = ap (also x.tree) h
    by false c h = h

more_trees : (ps : List PartTree) (l : Kind) (hs : List Dictionaries) (h : Dictionaries) → trees ps l (hs ++ h ∷ []) ≡ one_more (trees ps l hs) (tree ps l h)
more_trees ps l [] h = refl
more_trees ps l (g ∷ hs) h = ap (also (tree ps l g)) (more_trees ps l hs h)

take_part : (n : ℕ) (ps : List PartTree) → n < length ps → take (suc n) ps ≡ take n ps ++ part_behind ps n ∷ []
take_part n [] h = absurd (omega arith)
take_part zero (p ∷ ps) h = refl
take_part (suc n) (p ∷ ps) h = ap (λ l. p ∷ l) (take_part n ps (omega (arith, h)))

-- some messages of a file, and their parts
pub record AreSome (fs : Fields) (ps : List PartTree) (e : Dictionaries) : Type 0 where
  pub each : EachFilePart fs e ps
  pub few : length e ≤ length ps
  pub unreplaced : NoneReplaced e

pub fewer : (fs : Fields) (ps : List PartTree) (x : HeldDictionary) (e : Dictionaries) → AreSome fs ps (x ∷ e) → AreSome fs ps e
fewer fs ps x e s = record { each = s.each.1; few = omega (arith, s.few); unreplaced = s.unreplaced.1 }

pub behind_some : (fs : Fields) (ps : List PartTree) (c e : Dictionaries) → IsBehind c e → AreSome fs ps e → AreSome fs ps c
behind_some fs ps c e b s = by b.front (subst (AreSome fs ps) b.whole s)
  where
    by : (front : Dictionaries) → AreSome fs ps (front ++ c) → AreSome fs ps c
    by [] h = h
    by (x ∷ front) h = by front (fewer fs ps x (front ++ c) h)

held_trees : (fs : Fields) (ps : List PartTree) (l : Kind) (q : ℤ) (e : Dictionaries) → AreSome fs ps e → parts_under q (take (length e) ps) ≡ trees ps l (histories e q)
held_trees fs ps l q [] s = refl
held_trees fs ps l q (x ∷ e) s =
    let p = part_behind ps (length e) in
    ap (parts_under q) (take_part (length e) ps (omega (arith, s.few))) ∙ more_under q (take (length e) ps) p ∙ ap (λ i. cond (same i q) (one_more (parts_under q (take (length e) ps)) p.tree) (parts_under q (take (length e) ps))) s.each.0.id
    ∙ by (same x.id q) refl (held_trees fs ps l q e (fewer fs ps x e s))
  where
    by : (b : Bool) → same x.id q ≡ b → parts_under q (take (length e) ps) ≡ trees ps l (histories e q)
        → cond b (one_more (parts_under q (take (length e) ps)) (part_behind ps (length e)).tree) (parts_under q (take (length e) ps)) ≡ trees ps l (cond b (histories_before x.is_delta (histories e q) ++ (x ∷ e) ∷ []) (histories e q))
    by true t h =
        ap (λ f. one_more f (part_behind ps (length e)).tree) h ∙ sym (more_trees ps l (histories e q) (x ∷ e)) ∙ ap (λ hs. trees ps l (hs ++ (x ∷ e) ∷ [])) (sym (none_lost x e q s.unreplaced t))
    by false t h = h

pub are_shown : (fs : Fields) (ps : List PartTree) (l : Kind) (q : ℤ) (e : Dictionaries) → AreSome fs ps e → parts_or_empty (held_of (take (length e) ps) q) l ≡ trees ps l (shown e q)
are_shown fs ps l q e s = ap (λ f. parts_or_empty (held_if_any f) l) (held_trees fs ps l q e s) ∙ by (histories e q)
  where
    by : (hs : List Dictionaries) → parts_or_empty (held_if_any (trees ps l hs)) l ≡ trees ps l (or_never_read hs)
    by [] = refl
    by (h ∷ hs) = refl

-- ── each was read under those before it ──

-- as the values of a use of its dictionary
abbrev pub IsReadAs : List PartTree → Use → Type 0
IsReadAs ps u = (n : ℕ) → n < length ps → same u.id (part_behind ps n).id ≡ true → IsReadUnder (held_of (take n ps)) u.values (part_behind ps n).tree

-- the part behind so many others was read under some
abbrev WasRead : List PartTree → ℕ → List PartTree → Use → Type 0
WasRead ps n before u = same u.id (part_behind ps n).id ≡ true → IsReadUnder (held_of before) u.values (part_behind ps n).tree

each_read : (fs : Fields) (before ps : List PartTree) (n : ℕ) → EachIsReadUnder fs before ps → n < length ps → AllByRecursion (WasRead ps n (before ++ take n ps)) (uses_in fs)
each_read fs before [] n e h = absurd (omega (arith, h))
each_read fs before (p ∷ ps) zero e h = subst (λ b. AllByRecursion (WasRead (p ∷ ps) zero b) (uses_in fs)) (sym (append-nil before)) e.0
each_read fs before (p ∷ ps) (suc n) e h =
    subst (λ b. AllByRecursion (WasRead ps n b) (uses_in fs)) (append_assoc before (p ∷ []) (take n ps)) (each_read fs (before ++ p ∷ []) ps n e.1 (omega (arith, h)))

each_of_all : (P : ℕ → Use → Type 0) (high : ℕ) (us : List Use) → ((n : ℕ) → n < high → AllByRecursion (P n) us) → AllByRecursion (λ u. (n : ℕ) → n < high → P n u) us
each_of_all P high [] h = tt
each_of_all P high (u ∷ us) h = (λ n less. (h n less).0, each_of_all P high us (λ n less. (h n less).1))

pub all_read : (fs : Fields) (ps : List PartTree) → AreReadInOrder fs ps → AllByRecursion (IsReadAs ps) (uses_in fs)
all_read fs ps e = each_of_all (λ n. WasRead ps n (take n ps)) (length ps) (uses_in fs) (λ n less. each_read fs [] ps n e less)

-- ── what is said of a part ──

-- the part of the last of some messages, as values of a kind
pub record IsPiece (fs : Fields) (ps : List PartTree) (k l : Kind) (h : Dictionaries) : Type 0 where
  pub some : AreSome fs ps (read_under h)
  pub held : HasHeld (held_of (take (length (read_under h)) ps)) k (tree ps l h)
  pub cells : cells_in (tree ps l h) ≡ part_cells h
  pub written : written_of (column_in little (tree ps l h) ∷ []) ≡ part_written k h
  pub few : rows_in (tree ps l h) < 2 ^ 63

all_before : (P : Dictionaries → Type 0) (b : Bool) (hs : List Dictionaries) → AllByRecursion P hs → AllByRecursion P (histories_before b hs)
all_before P true hs a = a
all_before P false hs a = tt

pieces_read : (fs : Fields) (ps : List PartTree) (k l : Kind) (q : ℤ) (e : Dictionaries) → AreSome fs ps e → IsReadAs ps (use_as q k) → AllByRecursion (IsPiece fs ps k l) (histories e q)
pieces_read fs ps k l q [] s reads = tt
pieces_read fs ps k l q (x ∷ e) s reads = by (same x.id q) refl (pieces_read fs ps k l q e (fewer fs ps x e s) reads)
  where
    p : PartTree
    p = part_behind ps (length e)

    its : same x.id q ≡ true → same q p.id ≡ true
    its t = subst (λ z. same q z ≡ true) (sym (s.each.0.id ∙ id_true x.id q t)) (id_self q)

    piece : same x.id q ≡ true → IsPiece fs ps k l (x ∷ e)
    piece t = record {
      some = fewer fs ps x e s;
      held = as_read (held_of (take (length e) ps)) k p.tree (reads (length e) (omega (arith, s.few)) (its t));
      cells = s.each.0.cells;
      written = sym s.each.0.written;
      few = s.each.0.few;
    }

    by : (b : Bool) → same x.id q ≡ b → AllByRecursion (IsPiece fs ps k l) (histories e q) → AllByRecursion (IsPiece fs ps k l) (cond b (histories_before x.is_delta (histories e q) ++ (x ∷ e) ∷ []) (histories e q))
    by true t a = all_both (IsPiece fs ps k l) (histories_before x.is_delta (histories e q)) ((x ∷ e) ∷ []) (all_before (IsPiece fs ps k l) x.is_delta (histories e q) a) (piece t, tt)
    by false t a = a

empty_piece : (fs : Fields) (ps : List PartTree) (k l : Kind) → bare_form k ≡ bare_form l → is_carried k ≡ true → IsPiece fs ps k l []
empty_piece fs ps k l e c = record {
  some = record { each = tt; few = omega arith; unreplaced = tt };
  held = empty_held k l e;
  cells = no_cells (plain_kind l) (plain_kind l);
  written = (empty_column ps l 0 (carried_as k l e c)).written ∙ sym (none_written_as k l e);
  few = subst (λ n. n < 2 ^ 63) (sym (rows-empty (plain_kind l) (plain_kind l))) (omega arith);
}

pub pieces_shown : (fs : Fields) (ps : List PartTree) (k l : Kind) (q : ℤ) (e : Dictionaries) → AreSome fs ps e → IsReadAs ps (use_as q k) → bare_form k ≡ bare_form l → is_carried k ≡ true → AllByRecursion (IsPiece fs ps k l) (shown e q)
pieces_shown fs ps k l q e s reads f c = or_empty (histories e q) (pieces_read fs ps k l q e s reads)
  where
    or_empty : (hs : List Dictionaries) → AllByRecursion (IsPiece fs ps k l) hs → AllByRecursion (IsPiece fs ps k l) (or_never_read hs)
    or_empty [] a = (empty_piece fs ps k l f c, tt)
    or_empty (h ∷ hs) a = a

-- ── their kinds ──

abbrev pub HasForm : List PartTree → Kind → Kind → Dictionaries → Type 0
HasForm ps k l h = bare_form k ≡ form (kind_in (tree ps l h))

abbrev pub IsSound : List PartTree → Kind → Dictionaries → Type 0
IsSound ps l h = fault_in (tree ps l h) ≡ None

have_forms : (ps : List PartTree) (k l : Kind) (hs : List Dictionaries) → bare_form k ≡ form l → list_all (is_same_kind l) (kinds_each (trees ps l hs)) ≡ true → AllByRecursion (HasForm ps k l) hs
have_forms ps k l [] e a = tt
have_forms ps k l (h ∷ hs) e a =
    let both = and_parts (is_same_kind l (kind_in (tree ps l h))) (list_all (is_same_kind l) (kinds_each (trees ps l hs))) a in
    (e ∙ form_is_same l (kind_in (tree ps l h)) both.0, have_forms ps k l hs e both.1)

pub forms_shown : (ps : List PartTree) (k l : Kind) (hs : List Dictionaries) → bare_form k ≡ form l → each_of l (kinds_each (trees ps l hs)) ≡ true → AllByRecursion (HasForm ps k l) hs
forms_shown ps k l [] e a = tt
forms_shown ps k l (h ∷ hs) e a = have_forms ps k l (h ∷ hs) e a

all_kinds : (ps : List PartTree) (k l m : Kind) (hs : List Dictionaries) → bare_form k ≡ form l → AllByRecursion (HasForm ps k m) hs → list_all (is_same_kind l) (kinds_each (trees ps m hs)) ≡ true
all_kinds ps k l m [] e a = refl
all_kinds ps k l m (h ∷ hs) e a =
    and_from (is_same_kind l (kind_in (tree ps m h))) (list_all (is_same_kind l) (kinds_each (trees ps m hs))) (same_by_form l (kind_in (tree ps m h)) (sym e ∙ a.0)) (all_kinds ps k l m hs e a.1)

-- where something was read its part is the same, whatever the kind of an empty one
abbrev WasSent : Dictionaries → Type 0
WasSent [] = ⊥
WasSent (x ∷ e) = Unit {0}

all_sent : (q : ℤ) (e : Dictionaries) → AllByRecursion WasSent (histories e q)
all_sent q [] = tt
all_sent q (x ∷ e) = by (same x.id q) (all_sent q e)
  where
    by : (b : Bool) → AllByRecursion WasSent (histories e q) → AllByRecursion WasSent (cond b (histories_before x.is_delta (histories e q) ++ (x ∷ e) ∷ []) (histories e q))
    by true a = all_both WasSent (histories_before x.is_delta (histories e q)) ((x ∷ e) ∷ []) (all_before WasSent x.is_delta (histories e q) a) (tt, tt)
    by false a = a

relabelled : (ps : List PartTree) (k l m : Kind) (hs : List Dictionaries) → AllByRecursion WasSent hs → AllByRecursion (HasForm ps k l) hs → AllByRecursion (HasForm ps k m) hs
relabelled ps k l m [] s a = tt
relabelled ps k l m ([] ∷ hs) s a = absurd s.0
relabelled ps k l m ((x ∷ e) ∷ hs) s a = (a.0, relabelled ps k l m hs s.1 a.1)

-- the first of them, as they were held before, under another such kind
pub kinds_held : (ps : List PartTree) (k l m : Kind) (q : ℤ) (c : Dictionaries) (more : List Dictionaries) → bare_form k ≡ form l → bare_form k ≡ form m → AllByRecursion (HasForm ps k l) (or_never_read (histories c q ++ more))
    → each_of l (kinds_each (trees ps m (shown c q))) ≡ true
kinds_held ps k l m q c more e f a = by (histories c q) (all_sent q c) a
  where
    empty : HasForm ps k m []
    empty = sym (bare_of k m f) ∙ ap form (sym (kind-empty (plain_kind m) (plain_kind m)))

    by : (hs : List Dictionaries) → AllByRecursion WasSent hs → AllByRecursion (HasForm ps k l) (or_never_read (hs ++ more)) → each_of l (kinds_each (trees ps m (or_never_read hs))) ≡ true
    by [] s b = all_kinds ps k l m ([] ∷ []) e (empty, tt)
    by (h ∷ hs) s b = all_kinds ps k l m (h ∷ hs) e (relabelled ps k l m (h ∷ hs) s (all_first (HasForm ps k l) (h ∷ hs) more b))

pub sound_shown : (ps : List PartTree) (l : Kind) (hs : List Dictionaries) → fault_each (trees ps l hs) ≡ None → AllByRecursion (IsSound ps l) hs
sound_shown ps l [] a = tt
sound_shown ps l (h ∷ hs) a =
    let both = neither (fault_in (tree ps l h)) (fault_each (trees ps l hs)) a in
    (both.0, sound_shown ps l hs both.1)

-- ── their cells ──

abbrev pub HasCells : List PartTree → Kind → Dictionaries → Type 0
HasCells ps l h = cells_in (tree ps l h) ≡ part_cells h

-- whatever the kind of an empty one
cells_read : (fs : Fields) (ps : List PartTree) (l : Kind) (q : ℤ) (e : Dictionaries) → EachFilePart fs e ps → AllByRecursion (HasCells ps l) (histories e q)
cells_read fs ps l q [] s = tt
cells_read fs ps l q (x ∷ e) s = by (same x.id q) (cells_read fs ps l q e s.1)
  where
    by : (b : Bool) → AllByRecursion (HasCells ps l) (histories e q) → AllByRecursion (HasCells ps l) (cond b (histories_before x.is_delta (histories e q) ++ (x ∷ e) ∷ []) (histories e q))
    by true a = all_both (HasCells ps l) (histories_before x.is_delta (histories e q)) ((x ∷ e) ∷ []) (all_before (HasCells ps l) x.is_delta (histories e q) a) (s.0.cells, tt)
    by false a = a

pub cells_shown : (fs : Fields) (ps : List PartTree) (l : Kind) (q : ℤ) (e : Dictionaries) → EachFilePart fs e ps → AllByRecursion (HasCells ps l) (shown e q)
cells_shown fs ps l q e s = or_empty (histories e q) (cells_read fs ps l q e s)
  where
    or_empty : (hs : List Dictionaries) → AllByRecursion (HasCells ps l) hs → AllByRecursion (HasCells ps l) (or_never_read hs)
    or_empty [] a = (no_cells (plain_kind l) (plain_kind l), tt)
    or_empty (h ∷ hs) a = a

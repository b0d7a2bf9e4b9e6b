-- What is held: sound arrays of the kinds of the values, and the part that was read last.
use Rattle.std.proofs.Common.{◌≡◌, ◌∙◌, List, [], ◌∷◌, ◌++◌, Bool, true, false, Option, Some, None, IfSome, ℤ, refl, sym, subst}
use Rattle.std.specs.Option.{option_map}
use Rattle.arrow_spec.specs.Kinds as kind
use Rattle.arrow_spec.specs.Kinds.{Kind, Fields, same}
use Rattle.arrow_spec.specs.Cells.{Cell}
use Rattle.arrow_spec.specs.Arrays.{Dictionaries, HeldDictionary, cells_before, found}
use Rattle.ipc_files.specs.Below.{joined, Parts, Forest, also, cells_each, cells_in, fault_each, fault_in, HasKind, Held, HoldsCells, parts_before, with_part}
use Rattle.ipc_files.specs.Below.Parts as parts
use Rattle.ipc_files.proofs.Below.{neither, holds_more}
use Rattle.arrow_spec.proofs.SameIds.{id_self, id_true}
use Rattle.laws_writers.specs.Below.{AreValuesOf, HasFields, HasKinds, HoldsFields, HoldsKinds}
use Rattle.laws_writers.proofs.Below.{both_none}
use Rattle.laws_sent.specs.PartLaws.{IsLast}

-- under each id the parts are arrays
abbrev pub AreSoundParts : Held → Type 0
AreSoundParts h = (id : ℤ) → IfSome (h id) (λ held. fault_each held ≡ None)

both : (k : Kind) (o : Option Forest) → IfSome o (HasKind k) → IfSome o (λ held. fault_each held ≡ None) → IfSome o (AreValuesOf k)
both k None h s = tt
both k (Some held) h s = record { kinds = h; sound = s }

-- parts of the kinds of the values are arrays of these kinds
mutual
  pub kinds_sound : (h : Held) → AreSoundParts h → (k : Kind) → HasKinds h k → HoldsKinds h k
  kinds_sound h s (kind.«list» o fs) v = fields_sound h s fs v
  kinds_sound h s (kind.fixed_size_list size fs) v = fields_sound h s fs v
  kinds_sound h s (kind.struct fs) v = fields_sound h s fs v
  kinds_sound h s (kind.map sorted fs) v = fields_sound h s fs v
  kinds_sound h s (kind.union mode stated ids fs) v = fields_sound h s fs v
  kinds_sound h s (kind.dictionary t ordered id k) v = both k (h id) v (s id)
  kinds_sound h s (kind.extension name metadata k) v = kinds_sound h s k v
  kinds_sound h s k v = tt

  pub fields_sound : (h : Held) → AreSoundParts h → (fs : Fields) → HasFields h fs → HoldsFields h fs
  fields_sound h s kind.none v = tt
  fields_sound h s (kind.field name nullable metadata k others) v = (kinds_sound h s k v.0, fields_sound h s others v.1)

-- ── the last part ──

last_with : (xs : Forest) (p q : Parts) → IsLast (with_part xs p) q → p ≡ q
last_with parts.none p q h = h
last_with (also x parts.none) p q h = h
last_with (also x (also y xs)) p q h = last_with (also y xs) p q h

last_before : (is_delta : Bool) (o : Option Forest) (p q : Parts) → IsLast (parts_before is_delta o p) q → p ≡ q
last_before false o p q h = h
last_before true None p q h = h
last_before true (Some xs) p q h = last_with xs p q h

-- it is the one that was put there
pub last_is : (h h' : Held) (id : ℤ) (is_delta : Bool) (p q : Parts) → h' id ≡ Some (parts_before is_delta (h id) p) → IfSome (h' id) (λ held. IsLast held q) → p ≡ q
last_is h h' id is_delta p q here last = last_before is_delta (h id) p q (subst (λ o. IfSome o (λ held. IsLast held q)) here last)

sound_with : (xs : Forest) (p : Parts) → fault_each xs ≡ None → fault_in p ≡ None → fault_each (with_part xs p) ≡ None
sound_with parts.none p s f = rw f refl
sound_with (also x xs) p s f = let parts = neither (fault_in x) (fault_each xs) s in both_none (fault_in x) (fault_each (with_part xs p)) parts.0 (sound_with xs p parts.1 f)

sound_before : (is_delta : Bool) (o : Option Forest) (p : Parts) → IfSome o (λ held. fault_each held ≡ None) → fault_in p ≡ None → fault_each (parts_before is_delta o p) ≡ None
sound_before false o p s f = rw f refl
sound_before true None p s f = rw f refl
sound_before true (Some xs) p s f = sound_with xs p s f

-- with one more the parts are arrays
pub one_more_sound : (h h' : Held) (id : ℤ) (is_delta : Bool) (p : Parts) → AreSoundParts h → fault_in p ≡ None → h' id ≡ Some (parts_before is_delta (h id) p) → ((q : ℤ) → same id q ≡ false → h' q ≡ h q) → AreSoundParts h'
one_more_sound h h' id is_delta p s f here others q = by (same id q) refl
  where
    by : (t : Bool) → same id q ≡ t → IfSome (h' q) (λ held. fault_each held ≡ None)
    by true e = subst (λ i. IfSome (h' i) (λ held. fault_each held ≡ None)) (id_true id q e) (subst (λ o. IfSome o (λ held. fault_each held ≡ None)) (sym here) (sound_before is_delta (h id) p (s id) f))
    by false e = subst (λ o. IfSome o (λ held. fault_each held ≡ None)) (sym (others q e)) (s q)

-- ── its cells ──

cancelled : (xs ys zs : List Cell) → xs ++ ys ≡ xs ++ zs → ys ≡ zs
cancelled [] ys zs h = h
cancelled (x ∷ xs) ys zs h = cancelled xs ys zs cc

-- they are those that the message says
pub part_cells : (d : Dictionaries) (h h' : Held) (x : HeldDictionary) (p : Parts) → HoldsCells d h → HoldsCells (x ∷ d) h' → h' x.id ≡ Some (parts_before x.is_delta (h x.id) p) → ((q : ℤ) → same x.id q ≡ false → h' q ≡ h q) → cells_in p ≡ x.cells
part_cells d h h' x p holds more here others =
    let y : HeldDictionary = record { id = x.id; is_delta = x.is_delta; cells = cells_in p; written = x.written } in
    let told : HoldsCells (y ∷ d) h' = holds_more d h h' y p refl here others holds in
    let before = cells_before x.is_delta (found d x.id) in
    let one : Some (before ++ cells_in p) ≡ option_map (λ held. joined (cells_each held)) (h' x.id) = rw (id_self x.id) at (told x.id) in
    let other : Some (before ++ x.cells) ≡ option_map (λ held. joined (cells_each held)) (h' x.id) = rw (id_self x.id) at (more x.id) in
    let same_some : Some (before ++ cells_in p) ≡ Some (before ++ x.cells) = one ∙ sym other in
    cancelled before (cells_in p) x.cells cc

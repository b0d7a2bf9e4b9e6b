-- Readings of which every refusal says that the bytes are damaged or not supported.
use Rattle.std.proofs.Common.{◌≡◌, inl, inr, ℕ, zero, suc, List, [], ◌∷◌, Bool, true, false, Option, Some, None, Result, Ok, Err, IfErr, subst, arith}
use Rattle.std.specs.Prelude.{⊤, ℤ, pos, negsuc, nat_le, nat_eq}
use Rattle.std.specs.List.{AllByRecursion}
use Rattle.arrow_spec.specs.declared.error.FlatError.{FlatError}
use Rattle.arrow_spec.specs.declared.error.IpcError.{IpcError}
use Rattle.arrow_spec.specs.declared.error.IpcError.TheVariants.{OutOfSpec, Unsupported}
use Rattle.arrow_spec.specs.declared.error.OutOfSpecKind.{OutOfSpecKind}
use Rattle.arrow_spec.specs.Readings.{IsAmong, Reading, as_kind, bind, each, in_terms_of, natural, refusals, required, unless}
use Rattle.arrow_spec.specs.Files.{block_at, footer_length}
use Rattle.arrow_spec.specs.Messages.{batch_at, message_of, record_message, version_of, version_of_number}
use Rattle.ipc_fields.specs.Causes.{Decodes, RefusesBytes}
use Rattle.ipc_schema.specs.Footers.{footer_length_in, record_blocks_in, records_part}
use Rattle.ipc_schema.specs.Prefixes.{length_in}
use Rattle.ipc_files.specs.RowCounts.{CountCause}

-- the bytes are damaged, or use what is not supported
abbrev pub IsPlain : IpcError → Type 0
IsPlain (OutOfSpec kind) = ⊤
IsPlain (Unsupported feature) = ⊤
IsPlain e = ⊥

-- every refusal of a reading is one of these
unfoldable pub ArePlain : {A : Type 0} → Reading A → Type 0
ArePlain r = AllByRecursion IsPlain (refusals r)

-- ── the steps of readings ──

pub value_plain : {A : Type 0} (x : A) → ArePlain (Ok x)
unfolding ArePlain
value_plain x = tt

pub bind_plain : {A B : Type 0} (r : Reading A) (f : A → Reading B) → ArePlain r → ((x : A) → ArePlain (f x)) → ArePlain (bind r f)
unfolding ArePlain bind
bind_plain (Ok x) f first rest = rest x
bind_plain (Err es) f first rest = first

pub unless_plain : (ok : Bool) (e : IpcError) → IsPlain e → ArePlain (unless ok e)
unfolding ArePlain
unless_plain true e h = tt
unless_plain false e h = (h, tt)

pub named_plain : {A : Type 0} (name : FlatError → IpcError) (r : Result A FlatError) → ((f : FlatError) → IsPlain (name f)) → ArePlain (in_terms_of (λ f. name f ∷ []) r)
unfolding ArePlain
named_plain name (Ok x) h = tt
named_plain name (Err f) h = (h f, tt)

pub kind_plain : {A : Type 0} (kind : FlatError → OutOfSpecKind) (r : Result A FlatError) → ArePlain (as_kind kind r)
kind_plain kind r = named_plain (λ f. OutOfSpec (kind f)) r (λ f. tt)

pub required_plain : {A : Type 0} (e : IpcError) (x : Option A) → IsPlain e → ArePlain (required e x)
unfolding ArePlain
required_plain e None h = (h, tt)
required_plain e (Some x) h = tt

pub natural_plain : (z : ℤ) → ArePlain (natural z)
unfolding ArePlain
natural_plain (pos n) = tt
natural_plain (negsuc n) = (tt, tt)

pub each_plain : {A : Type 0} (f : ℕ → Reading A) (i n : ℕ) → ((j : ℕ) → ArePlain (f j)) → ArePlain (each f i n)
each_plain f i zero h = value_plain []
each_plain f i (suc n) h = bind_plain (f i) _ (h i) (λ x. bind_plain (each f (suc i) n) _ (each_plain f (suc i) n h) (λ xs. value_plain (x ∷ xs)))

-- ── numbers ──

pub footer_length_plain : (z : ℤ) → ArePlain (footer_length z)
unfolding ArePlain
footer_length_plain (pos n) = tt
footer_length_plain (negsuc n) = (tt, tt)

either_plain : {A : Type 0} (test : Bool) (r s : Reading A) → ArePlain r → ArePlain s → ArePlain (elim test [ true ↦ r | false ↦ s ])
either_plain true r s h g = h
either_plain false r s h g = g

pub version_plain : (n : ℕ) → ArePlain (version_of_number n)
unfolding ArePlain
version_plain n = either_plain (nat_le n 2) _ _ (tt, tt) (either_plain (nat_eq n 3) _ _ tt (either_plain (nat_eq n 4) _ _ tt (tt, tt)))

-- ── readings ──

block_plain : (fault : FlatError → IpcError) (b : List ℕ) (p : ℕ) → ((f : FlatError) → IsPlain (fault f)) → ArePlain (block_at fault b p)
block_plain fault b p h = search (bind_plain, named_plain, natural_plain, value_plain) depth 20

pub record_blocks_plain : (f : List ℕ) → ArePlain (record_blocks_in f)
unfolding record_blocks_in records_part
record_blocks_plain f = search (bind_plain, kind_plain, required_plain, each_plain, block_plain) depth 20

pub end_plain : (end : List ℕ) (size : ℕ) → ArePlain (footer_length_in end size)
unfolding footer_length_in
end_plain end size = search (bind_plain, unless_plain, kind_plain, footer_length_plain, value_plain)

pub length_plain : (four : List ℕ) (start size : ℕ) → ArePlain (length_in four start size)
unfolding length_in
length_plain four start size = search (bind_plain, unless_plain, kind_plain, natural_plain, value_plain)

pub message_plain : (b : List ℕ) (taken : ℕ → Bool) → ArePlain (message_of b taken)
unfolding message_of
message_plain b taken = search (bind_plain, unless_plain, kind_plain, required_plain, natural_plain, value_plain) depth 20

pub record_plain : (b : List ℕ) → ArePlain (record_message b)
unfolding record_message batch_at version_of
record_plain b = search (bind_plain, message_plain, kind_plain, required_plain, version_plain, value_plain) depth 20

-- ── a refusal that is given ──

among_plain : (es : List IpcError) (e : IpcError) → AllByRecursion IsPlain es → IsAmong es e → IsPlain e
among_plain [] e h g = absurd g
among_plain (x ∷ es) e h (inl g) = subst IsPlain g h.0
among_plain (x ∷ es) e h (inr g) = among_plain es e h.1 g

plain_told : (e : IpcError) (es : List IpcError) (n m : ℕ) → AllByRecursion IsPlain es → RefusesBytes e es → CountCause e n m
plain_told e es n m h g = grind (arith, among_plain)

-- what bytes refuse that are damaged or not supported
pub plain_cause : {X Y : Type 0} (view : X → Y) (r : Result X IpcError) (R : Reading Y) (n m : ℕ) → ArePlain R → Decodes view r R → IfErr r (λ e. CountCause e n m)
unfolding ArePlain
plain_cause view (Ok x) R n m plain h = tt
plain_cause view (Err e) R n m plain h = plain_told e (refusals R) n m plain h

-- the same where it is handed on
pub plain_handed : {X Y : Type 0} (r : Result X IpcError) (e : IpcError) (R : Reading Y) (n m : ℕ) → r ≡ Err e → ArePlain R → RefusesBytes e (refusals R) → IfErr r (λ f. CountCause f n m)
unfolding ArePlain
plain_handed r e R n m is plain h = rw is (plain_told e (refusals R) n m plain h)

-- Queues, and refusals after one another.
use Rattle.std.proofs.Common.{◌≡◌, ◌⊎◌, ℕ, zero, suc, ◌≤◌, ◌<◌, List, [], ◌∷◌, ◌++◌, length, drop, take, ◌*◌, ◌∙◌, IfOk, IfErr, Option, Some, None, Result, Ok, Err, Bool, true, false, refl, sym, arith, subst, inl, inr}
use Rattle.std.specs.Prelude.{nat_le, slice_get}
use Rattle.std.specs.Result.{IsErr, IsErrAnd}
use Rattle.std.proofs.lemmas.Bool.{le-leb}
use Rattle.arrow_spec.specs.declared.error.IpcError.{IpcError}
use Rattle.arrow_spec.specs.declared.error.IpcError.TheVariants.{OutOfSpec, Unsupported, ReadFault, WriteFault, Memory}
use Rattle.arrow_spec.specs.declared.error.OutOfSpecKind.TheVariants as kinds
use Rattle.arrow_spec.specs.declared.message.IpcBuffer.{IpcBuffer}
use Rattle.arrow_spec.specs.Readings.{IsAmong, Refuses}
use Rattle.arrow_spec.specs.Faults.{cause, if_sound}
use Rattle.ipc_read.specs.Queues.{Left, short_of}
use Rattle.arrow_spec.specs.Counts.{RecordBatch}
use Rattle.arrow_spec.specs.Arrays.{buf}
use Rattle.ipc_read_laws.specs.PartsRead.{bytes_of_rows}
use Rattle.ipc_read.specs.Sources.{Answers, IsRefusal, BodyReadCause, Told, faults_where, bytes_where}
use Rattle.ipc_read.specs.declared.body.Body.{Body}

-- ── queues ──

pub is_left : {A : Type 0} → (all : List A) (i : ℕ) (x : A) (rest : List A) → x ∷ rest ≡ drop i all → (slice_get all i ≡ Some x) × Left all (suc i) rest
is_left [] zero x rest h = cc
is_left [] (suc i) x rest h = cc
is_left (y ∷ ys) zero x rest h = (cc, record { is = cc; within = omega arith })
is_left (y ∷ ys) (suc i) x rest h = let r = is_left ys i x rest h in (r.0, record { is = r.1.is; within = omega (arith, r.1.within) })

pub none_left : {A : Type 0} → (all : List A) (i : ℕ) → [] ≡ drop i all → length all ≤ i
none_left [] i h = omega arith
none_left (y ∷ ys) zero h = cc
none_left (y ∷ ys) (suc i) h = omega (arith, none_left ys i h)

pub none_at : {A : Type 0} → (xs : List A) (i : ℕ) → length xs ≤ i → slice_get xs i ≡ None
none_at [] i h = refl
none_at (x ∷ xs) zero h = absurd (omega (arith, h))
none_at (x ∷ xs) (suc i) h = none_at xs i (omega (arith, h))

-- ── refusals ──

pub refuses_more : (es fs : List IpcError) (e : IpcError) → ((x : IpcError) → IsAmong es x → IsAmong fs x) → Refuses e es → Refuses e fs
refuses_more es fs ReadFault s h = tt
refuses_more es fs WriteFault s h = tt
refuses_more es fs Memory s h = tt
refuses_more es fs e s h = s _ h

-- what refuses nothing refuses anything
pub refuses_none : (fs : List IpcError) (e : IpcError) → Refuses e [] → Refuses e fs
refuses_none fs e h = refuses_more [] fs e (λ x k. absurd k) h

pub among_left : (es fs : List IpcError) (e : IpcError) → IsAmong es e → IsAmong (es ++ fs) e
among_left [] fs e h = absurd h
among_left (x ∷ es) fs e (inl h) = inl h
among_left (x ∷ es) fs e (inr h) = inr (among_left es fs e h)

pub among_right : (es fs : List IpcError) (e : IpcError) → IsAmong fs e → IsAmong (es ++ fs) e
among_right [] fs e h = h
among_right (x ∷ es) fs e h = inr (among_right es fs e h)

pub among_sound : (es fs : List IpcError) (e : IpcError) → IsAmong es e → IsAmong (if_sound es fs) e
among_sound [] fs e h = absurd h
among_sound (x ∷ es) fs e h = h

pub among_cause : (b : Bool) (e : IpcError) → b ≡ true → IsAmong (cause b e) e
among_cause b e h = rw h (inl refl)

pub no_cause : (b : Bool) (e : IpcError) → b ≡ false → cause b e ≡ []
no_cause b e h = rw h refl

pub refuses_left : (es fs : List IpcError) (e : IpcError) → Refuses e es → Refuses e (es ++ fs)
refuses_left es fs e h = refuses_more es (es ++ fs) e (among_left es fs) h

pub refuses_right : (es fs : List IpcError) (e : IpcError) → Refuses e fs → Refuses e (es ++ fs)
refuses_right es fs e h = refuses_more fs (es ++ fs) e (among_right es fs) h

pub refuses_sound : (es fs : List IpcError) (e : IpcError) → Refuses e es → Refuses e (if_sound es fs)
refuses_sound es fs e h = refuses_more es (if_sound es fs) e (among_sound es fs) h

pub among_split : (es fs gs : List IpcError) (e : IpcError) → ((x : IpcError) → IsAmong es x → IsAmong gs x) → ((x : IpcError) → IsAmong fs x → IsAmong gs x) → IsAmong (es ++ fs) e → IsAmong gs e
among_split [] fs gs e l r h = r e h
among_split (x ∷ es) fs gs e l r (inl h) = l e (inl h)
among_split (x ∷ es) fs gs e l r (inr h) = among_split es fs gs e (λ y k. l y (inr k)) r h

-- a refusal by either list is one by both
refused_by : (es fs gs : List IpcError) (e : IpcError) → (IsAmong es e → IsAmong gs e) → (IsAmong fs e → IsAmong gs e) → IsAmong (es ++ fs) e → IsAmong gs e
refused_by [] fs gs e l r h = r h
refused_by (x ∷ es) fs gs e l r (inl h) = l (inl h)
refused_by (x ∷ es) fs gs e l r (inr h) = refused_by es fs gs e (λ k. l (inr k)) r h

pub refuses_by : (es fs gs : List IpcError) (e : IpcError) → (Refuses e es → Refuses e gs) → (Refuses e fs → Refuses e gs) → Refuses e (es ++ fs) → Refuses e gs
refuses_by es fs gs ReadFault l r h = tt
refuses_by es fs gs WriteFault l r h = tt
refuses_by es fs gs Memory l r h = tt
refuses_by es fs gs e l r h = refused_by es fs gs _ l r h

-- where nothing is wrong in front
pub answers_behind : {X Y : Type 0} → (view : X → Y) (r : Result X IpcError) (es fs : List IpcError) (y : Y) → es ≡ [] → Answers view r fs y → Answers view r (es ++ fs) y
answers_behind view r es fs y h a = rw h a

pub none_of_both : (es fs : List IpcError) → es ++ fs ≡ [] → (es ≡ []) × (fs ≡ [])
none_of_both [] fs h = (refl, h)
none_of_both (e ∷ es) fs h = cc

pub both_none : (es fs : List IpcError) → es ≡ [] → fs ≡ [] → es ++ fs ≡ []
both_none es fs h k = rw h k

-- want of memory, or a fault of a source that tells its bytes
pub device_refuses : (content : Option (List ℕ)) (body : Body) (bytes : List ℕ) (e : IpcError) (es : List IpcError) → Told content body bytes → ((e ≡ Memory) ⊎ (e ≡ ReadFault)) ⊎ (content ≡ None) → Refuses e es
device_refuses content body bytes e es t (inl (inl h)) = subst (λ f. Refuses f es) (sym h) tt
device_refuses content body bytes e es t (inl (inr h)) = subst (λ f. Refuses f es) (sym h) tt
device_refuses None body bytes e es t (inr h) = absurd t
device_refuses (Some b) body bytes e es t (inr h) = cc

pub memory_refuses : (e : IpcError) (es : List IpcError) → e ≡ Memory → Refuses e es
memory_refuses e es h = subst (λ f. Refuses f es) (sym h) tt

-- what is refused of a call is refused of its caller
pub err_from : {X Y : Type 0} → (view : X → Y) (r : Result X IpcError) (e : IpcError) (es : List IpcError) (y : Y) (P : IpcError → Type 0) → IsErr r → IsErrAnd r P → ((f : IpcError) → P f → f ≡ e) → Refuses e es → Answers view r es y
err_from view (Ok x) e es y P h p k r = cc
err_from view (Err f) e es y P h p k r = record { ok = tt; err = subst (λ g. Refuses g es) (sym (k f p)) r }

-- ── a queue that ends ──

pub lacks : (all : List IpcBuffer) (i : ℕ) → length all ≤ i → IsAmong (short_of all i) (OutOfSpec kinds.ExpectedBuffer)
lacks all i h = among_cause (nat_le (length all) i) _ (le-leb _ _ h)

pub lacks_refused : (all : List IpcBuffer) (i : ℕ) (e : IpcError) → e ≡ OutOfSpec kinds.ExpectedBuffer → length all ≤ i → Refuses e (short_of all i)
lacks_refused all i e h k = subst (λ f. Refuses f (short_of all i)) (sym h) (lacks all i k)

pub lacks_none : (all : List IpcBuffer) (i : ℕ) → suc i ≤ length all → short_of all i ≡ []
lacks_none all i h = no_cause (nat_le (length all) i) _ (grind (arith, h))

-- ── where there are rows ──

where_some : (rows : ℕ) (es : List IpcError) → 0 < rows → faults_where rows es ≡ es
where_some zero es h = absurd (omega (arith, h))
where_some (suc n) es h = refl

-- what a call gave where there are rows is what is given
pub passed : {X Y : Type 0} → (view : X → Y) (r : Result X IpcError) (rows : ℕ) (all : List IpcBuffer) (i : ℕ) (es : List IpcError) (y z : Y) → 0 < rows → y ≡ z → IfOk r (λ _. suc i ≤ length all) → Answers view r es y → Answers view r (short_of all i ++ faults_where rows es) z
passed view (Ok x) rows all i es y z h e w a = record { ok = (both_none (short_of all i) _ (lacks_none all i w) (where_some rows es h ∙ a.ok.0), a.ok.1 ∙ e); err = tt }
passed view (Err f) rows all i es y z h e w a = record { ok = tt; err = refuses_right (short_of all i) _ f (subst (λ fs. Refuses f fs) (sym (where_some rows es h)) a.err) }

pub within_next : {X A : Type 0} → (r : Result X IpcError) (all : List A) (i : ℕ) (rest : List A) → IfOk r (λ _. Left all (suc i) rest) → IfOk r (λ _. suc i ≤ length all)
within_next (Ok x) all i rest h = h.within
within_next (Err e) all i rest h = tt

pub at_batch : {X : Type 0} → (r : Result X IpcError) (bs rest : List IpcBuffer) (m : RecordBatch) (i : ℕ) → IfOk r (λ _. (m : RecordBatch) (i : ℕ) → Left m.buffers i bs → Left m.buffers (suc i) rest) → Left m.buffers i bs → IfOk r (λ _. Left m.buffers (suc i) rest)
at_batch (Ok x) bs rest m i h l = h m i l
at_batch (Err e) bs rest m i h l = tt

pub bytes_where_some : (rows n : ℕ) → 0 < rows → bytes_where rows n ≡ n
bytes_where_some zero n h = absurd (omega (arith, h))
bytes_where_some (suc k) n h = refl

pub rows_bytes : (m : RecordBatch) (size i rows : ℕ) → 0 < rows → take (size * rows) (buf m i) ≡ bytes_of_rows m size i rows
rows_bytes m size i zero h = absurd (omega (arith, h))
rows_bytes m size i (suc n) h = refl

pub err_if : {X : Type 0} → (r : Result X IpcError) (e : IpcError) (P Q : IpcError → Type 0) → IsErr r → IsErrAnd r P → ((f : IpcError) → P f → f ≡ e) → Q e → IfErr r Q
err_if (Ok x) e P Q h p k q = tt
err_if (Err f) e P Q h p k q = subst Q (sym (k f p)) q

-- a refusal of the bytes is no fault of a source
pub refusal_cause : (e : IpcError) (n : ℕ) → IsRefusal e → BodyReadCause e n n
refusal_cause (OutOfSpec k) n h = tt
refusal_cause (Unsupported k) n h = tt
refusal_cause e n h = absurd h

-- The messages of blocks whose bytes are lent.
use Rattle.std.proofs.Common.{◌≡◌, ℕ, ◌+◌, ◌-◌, ◌≤◌, List, length, take, Bool, true, false, Ok, Err, IfErr, IfOk, Result, refl, sym, subst, ◌∙◌}
use Rattle.std.specs.Prelude.{nat_le, if◌then◌else◌}
use Rattle.std.specs.Int.{w32}
use Rattle.std.proofs.lemmas.Bool.{leb-true}
use Rattle.arrow_spec.specs.declared.error.IpcError.{IpcError}
use Rattle.arrow_spec.specs.declared.error.IpcError.TheVariants as errors
use Rattle.arrow_spec.specs.declared.error.OutOfSpecKind.TheVariants as kinds
use Rattle.arrow_spec.specs.declared.message.Block.{Block}
use Rattle.arrow_spec.specs.declared.error.OutOfSpecKind.{OutOfSpecKind}
use Rattle.arrow_spec.specs.Flat.{signed_at, unsigned_at}
use Rattle.arrow_spec.specs.Messages.{is_mark, prefix_of}
use Rattle.arrow_spec.specs.Readings.{Gives, Reading, Refuses, as_kind, bind, natural, only_if, refusals}
use Rattle.arrow_spec.proofs.Projection.{on, went}
use Rattle.ipc_fields.specs.Causes.{Decodes, IsOfBytes, RefusesBytes}
use Rattle.ipc_fields.proofs.Steps.{gives}
use Rattle.ipc_read.proofs.BatchTables.{refused_first}
use Rattle.ipc_files.specs.FileBlocks.{given, message_metadata}
use Rattle.ipc_files.proofs.GivenBlocks.{given_more}

held : (ok : Bool) (kind : OutOfSpecKind) (u : Unit {0}) → only_if ok kind ≡ Ok u → ok ≡ true
held true kind u h = refl
held false kind u h = cc

pair_is : (a c : ℕ) (p : ℕ × ℕ) (n : ℕ) → (let r : Reading (ℕ × ℕ) = Ok (a, c) in r ≡ Ok p) → a + c ≤ n → p.0 + p.1 ≤ n
pair_is a c p n h k = let e : (a, c) ≡ p = cc in subst (λ (q : ℕ × ℕ). q.0 + q.1 ≤ n) e k

-- a prefix and its metadata lie in the bytes
pub prefix_within : (b : List ℕ) (p : ℕ × ℕ) → prefix_of b ≡ Ok p → p.0 + p.1 ≤ length b
unfolding prefix_of
prefix_within b p h =
    let start = if is_mark (take 4 b) then 8 else 4 in
    let a = went (as_kind (λ f. kinds.MessageRange) (unsigned_at w32 b 0)) _ p h in
    let n = went (as_kind (λ f. kinds.MessageRange) (signed_at w32 b (start - 4))) _ p a.rest in
    let l = went (natural n.got) _ p n.rest in
    let w = went (only_if (nat_le (start + l.got) (length b)) kinds.MessageRange) _ p l.rest in
    pair_is start l.got p (length b) w.rest (leb-true (start + l.got) (length b) (held _ _ w.got w.first))

pub prefix_fits : (b : List ℕ) (r : Result (ℕ × ℕ) IpcError) → Decodes (λ p. p) r (prefix_of b) → IfOk r (λ p. p.0 + p.1 ≤ length b)
prefix_fits b (Ok p) h = prefix_within b p h
prefix_fits b (Err e) h = tt

-- ── what is refused ──

of_bytes : (e : IpcError) (es : List IpcError) → RefusesBytes e es → IsOfBytes e
of_bytes errors.Memory es h = tt
of_bytes (errors.OutOfSpec kind) es h = tt
of_bytes (errors.Unsupported feature) es h = tt
of_bytes (errors.TooMany counted) es h = tt
of_bytes errors.TooDeep es h = tt
of_bytes e es h = absurd h

-- a call that decodes bytes asks no device
pub bytes_cause : {X Y : Type 0} (view : X → Y) (r : Result X IpcError) (read : Reading Y) → Decodes view r read → IfErr r IsOfBytes
bytes_cause view (Ok x) read h = tt
bytes_cause view (Err e) read h = of_bytes e (refusals read) h

-- ── messages ──

-- by the metadata of a block that is given
pub by_metadata : {X Y : Type 0} (b : List ℕ) (x : Block) (view : X → Y) (f : List ℕ → Reading Y) (metadata : List ℕ) (r : Result X IpcError) → given x (message_metadata b) ≡ Ok metadata → Decodes view r (f metadata) → Gives view r (given x (λ y. bind (message_metadata b y) f))
by_metadata b x view f metadata r is h = subst (Gives view r) (sym (given_more x (message_metadata b) f ∙ on (given x (message_metadata b)) f metadata is)) (gives view r (f metadata) h)

pub without_metadata : {Y : Type 0} (b : List ℕ) (x : Block) (f : List ℕ → Reading Y) (e : IpcError) → Refuses e (refusals (given x (message_metadata b))) → Refuses e (refusals (given x (λ y. bind (message_metadata b y) f)))
without_metadata b x f e h = subst (λ r. Refuses e (refusals r)) (sym (given_more x (message_metadata b) f)) (refused_first (given x (message_metadata b)) f e h)

-- The prefix of a message, by its first four bytes and the next.
use Rattle.std.proofs.Common.{◌≡◌, ℕ, ◌<◌, ◌≤◌, List, length, take, drop, Result, Ok, Err, inl, true, false, refl, sym, ◌∙◌, ap, arith, subst, length-drop}
use Rattle.std.specs.Prelude.{nat_le, Bool, if◌then◌else◌, ◌-◌}
use Rattle.std.specs.Int.{w32, from_le_bytes}
use Rattle.std.proofs.lemmas.Bool.{le-leb, lt-leb}
use Rattle.arrow_spec.specs.declared.error.IpcError.{IpcError}
use Rattle.arrow_spec.specs.declared.error.IpcError.TheVariants.{OutOfSpec}
use Rattle.arrow_spec.specs.declared.error.OutOfSpecKind.TheVariants as kinds
use Rattle.arrow_spec.specs.Readings.{bind, damaged}
use Rattle.ipc_fields.specs.Causes.{Decodes}
use Rattle.arrow_spec.specs.Flat.{unsigned_at, signed_at}
use Rattle.arrow_spec.specs.Messages.{prefix_of, is_mark}
use Rattle.ipc_schema.specs.Prefixes.{length_in, TellsLength}
use Rattle.ipc_schema.proofs.Items.{signed-front}

prefix-short : (b : List ℕ) → length b < 4 → prefix_of b ≡ damaged kinds.MessageRange
unfolding prefix_of bind
prefix-short b short =
    let test : nat_le 4 (length b) ≡ false = lt-leb _ _ short in
    rw (prefix_of, test) refl

unsigned-there : (b : List ℕ) → 4 ≤ length b → (n : ℕ) × (unsigned_at w32 b 0 ≡ Ok n)
unsigned-there b long = let test : nat_le 4 (length b) ≡ true = le-leb _ _ long in (from_le_bytes w32 (take 4 (drop 0 b)), rw test refl)

prefix-plain : (b : List ℕ) → 4 ≤ length b → is_mark (take 4 b) ≡ false → prefix_of b ≡ length_in (take 4 b) 4 (length b)
unfolding prefix_of bind length_in
prefix-plain b long plain =
    let first = unsigned-there b long in
    let same : signed_at w32 (take 4 b) 0 ≡ signed_at w32 b 0 = signed-front w32 b 0 4 (omega arith) (omega arith) in
    rw (prefix_of, length_in, first.1, plain, same) refl

prefix-marked : (b : List ℕ) → 4 ≤ length b → is_mark (take 4 b) ≡ true → prefix_of b ≡ length_in (take 4 (drop 4 b)) 8 (length b)
unfolding prefix_of bind length_in
prefix-marked b long marked =
    let first = unsigned-there b long in
    let same : signed_at w32 (take 4 (drop 4 b)) 0 ≡ signed_at w32 b 4 = signed-front w32 b 4 4 (omega arith) (omega arith) in
    rw (prefix_of, length_in, first.1, marked, same) refl

prefix-cut : (b : List ℕ) → length b < 8 → is_mark (take 4 b) ≡ true → 4 ≤ length b → prefix_of b ≡ damaged kinds.MessageRange
unfolding prefix_of bind
prefix-cut b short marked long =
    let first = unsigned-there b long in
    let test : nat_le 8 (length b) ≡ false = lt-leb _ _ short in
    rw (prefix_of, first.1, marked, test) refl

abbrev pub Prefixed : Result (ℕ × ℕ) IpcError → List ℕ → Type 0
Prefixed r b = Decodes (λ p. p) r (prefix_of b)

pub prefix_short : (b : List ℕ) → length b < 4 → Prefixed (Err (OutOfSpec kinds.MessageRange)) b
prefix_short b short = rw (prefix-short b short) (inl refl)

pub prefix_cut : (b front rest : List ℕ) → 4 ≤ length b → front ≡ take 4 b → rest ≡ drop 4 b → length rest < 4 → is_mark front ≡ true → Prefixed (Err (OutOfSpec kinds.MessageRange)) b
prefix_cut b front rest long f r short marked =
    let less : length b < 8 = omega (arith, ap length r, length-drop 4 b) in
    let m : is_mark (take 4 b) ≡ true = sym (ap is_mark f) ∙ marked in
    rw (prefix-cut b less m long) (inl refl)

pub prefix_plain : (b front : List ℕ) (r : Result (ℕ × ℕ) IpcError) → 4 ≤ length b → front ≡ take 4 b → is_mark front ≡ false → Decodes (λ p. p) r (length_in front 4 (length b)) → Prefixed r b
prefix_plain b front r long f plain h =
    let m : is_mark (take 4 b) ≡ false = sym (ap is_mark f) ∙ plain in
    let e : length_in front 4 (length b) ≡ prefix_of b = ap (λ x. length_in x 4 (length b)) f ∙ sym (prefix-plain b long m) in
    subst (Decodes (λ p. p) r) e h

pub prefix_marked : (b front rest four : List ℕ) (r : Result (ℕ × ℕ) IpcError) → 4 ≤ length b → front ≡ take 4 b → rest ≡ drop 4 b → four ≡ take 4 rest → is_mark front ≡ true → Decodes (λ p. p) r (length_in four 8 (length b)) → Prefixed r b
prefix_marked b front rest four r long f k g marked h =
    let m : is_mark (take 4 b) ≡ true = sym (ap is_mark f) ∙ marked in
    let s : four ≡ take 4 (drop 4 b) = g ∙ ap (take 4) k in
    let e : length_in four 8 (length b) ≡ prefix_of b = ap (λ x. length_in x 8 (length b)) s ∙ sym (prefix-marked b long m) in
    subst (Decodes (λ p. p) r) e h

told_by : (m : Bool) (four b : List ℕ) (start size : ℕ) → is_mark (take 4 b) ≡ m → length b ≡ size → TellsLength four start b → length_in four start size ≡ prefix_of b
told_by false four b start size plain whole told =
    let s : start ≡ 4 = told.begins ∙ ap (λ m. if m then 8 else 4) plain in
    let f : four ≡ take 4 b = told.stands ∙ ap (λ n. take 4 (drop (n - 4) b)) s in
    ap (λ x. length_in x start size) f ∙ ap (λ n. length_in (take 4 b) n size) s ∙ ap (length_in (take 4 b) 4) (sym whole) ∙ sym (prefix-plain b told.long plain)
told_by true four b start size marked whole told =
    let s : start ≡ 8 = told.begins ∙ ap (λ m. if m then 8 else 4) marked in
    let f : four ≡ take 4 (drop 4 b) = told.stands ∙ ap (λ n. take 4 (drop (n - 4) b)) s in
    ap (λ x. length_in x start size) f ∙ ap (λ n. length_in (take 4 (drop 4 b)) n size) s ∙ ap (length_in (take 4 (drop 4 b)) 8) (sym whole) ∙ sym (prefix-marked b told.long marked)

-- the length that four bytes tell is that of the prefix
pub prefix_told : (four b : List ℕ) (start size : ℕ) (r : Result (ℕ × ℕ) IpcError) → Decodes (λ p. p) r (length_in four start size) → length b ≡ size → TellsLength four start b → Prefixed r b
prefix_told four b start size r h whole told = subst (Decodes (λ p. p) r) (told_by (is_mark (take 4 b)) four b start size refl whole told) h

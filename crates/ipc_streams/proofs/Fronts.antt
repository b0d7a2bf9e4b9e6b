-- The next message of a stream, pulled four bytes at a time and then its metadata.
use Rattle.std.proofs.Common.{◌≡◌, ◌∙◌, ℕ, ◌+◌, ◌-◌, ◌<◌, ◌≤◌, List, [], ◌∷◌, length, take, drop, true, false, Option, Some, None, Result, Ok, Err, refl, sym, ap, subst, arith, inl, length-take, length-drop, drop-drop, Vec, Global}
use Rattle.std.specs.Prelude.{nat_eq, nat_le, nat_lt, if◌then◌else◌}
use Rattle.std.specs.Int.{w32}
use Rattle.std.proofs.lemmas.Bool.{le-leb, le-ltb, lt-leb, lt-ltb}
use Rattle.std.proofs.lemmas.List.{drop_all}
use Rattle.arrow_spec.specs.declared.error.IpcError.{IpcError}
use Rattle.arrow_spec.specs.declared.error.IpcError.TheVariants.{OutOfSpec}
use Rattle.arrow_spec.specs.declared.error.OutOfSpecKind.TheVariants as kinds
use Rattle.arrow_spec.specs.Flat.{signed_at}
use Rattle.arrow_spec.specs.Messages.{is_mark}
use Rattle.arrow_spec.specs.Readings.{Reading, Refuses, as_kind, bind, ◌>>=◌, natural, refusals}
use Rattle.arrow_spec.specs.Streams.{Framed, framed, next_message, stream_prefix}
use Rattle.arrow_spec.proofs.Projection.{on}
use Rattle.ipc_fields.specs.Causes.{Decodes}
use Rattle.ipc_fields.proofs.Steps.{refuses}
use Rattle.ipc_files.proofs.Below.{signed-front}
use Rattle.ipc_files.proofs.BlockMessages.{bind_twice, refused_first}
use Rattle.ipc_streams.specs.Feeds.{Takes}
use Rattle.ipc_streams.specs.Frames.{GivesFront, GivesLength, IsLength, prefix_length, stated_length}
use Rattle.ipc_streams.specs.declared.frame.Frame.{Frame}
use Rattle.ipc_streams.specs.declared.frame.Frame.TheVariants as frames

-- ── the prefix ──

four_of : (b : List ℕ) (start : ℕ) → as_kind (λ f. kinds.Truncated) (signed_at w32 (take 4 (drop (start - 4) b)) 0) ≡ as_kind (λ f. kinds.Truncated) (signed_at w32 b (start - 4))
four_of b start = ap (as_kind (λ f. kinds.Truncated)) (signed-front w32 b (start - 4) 4 (omega arith) (omega arith))

prefix_by : (b : List ℕ) → stream_prefix b ≡ bind (stated_length (take 4 (drop (prefix_length b - 4) b))) (λ n. Ok (prefix_length b, n))
unfolding stream_prefix stated_length
prefix_by b =
    sym (bind_twice (as_kind (λ f. kinds.Truncated) (signed_at w32 b (prefix_length b - 4))) natural (λ n. Ok (prefix_length b, n)))
    ∙ ap (λ r. bind (bind r natural) (λ n. Ok (prefix_length b, n))) (sym (four_of b (prefix_length b)))

pub length_given : (b four : List ℕ) (rest' : Option (List ℕ)) (start : ℕ) (r : Result ℕ IpcError) → prefix_length b ≡ start → four ≡ take 4 (drop (start - 4) b) → rest' ≡ Some (drop start b) → Decodes (λ n. n) r (stated_length four) → IsLength b rest' r
length_given b four rest' start (Ok n) begins stands left h =
    let here : stated_length (take 4 (drop (prefix_length b - 4) b)) ≡ Ok n = ap (λ k. stated_length (take 4 (drop (k - 4) b))) begins ∙ ap stated_length (sym stands) ∙ h in
    (prefix_by b ∙ on (stated_length (take 4 (drop (prefix_length b - 4) b))) (λ n. Ok (prefix_length b, n)) n here, left ∙ ap (λ k. Some (drop k b)) (sym begins))
length_given b four rest' start (Err e) begins stands left h =
    let same : stated_length four ≡ stated_length (take 4 (drop (prefix_length b - 4) b)) = ap stated_length stands ∙ ap (λ k. stated_length (take 4 (drop (k - 4) b))) (sym begins) in
    subst (λ r. Refuses e (refusals r)) (sym (prefix_by b)) (refused_first e (stated_length (take 4 (drop (prefix_length b - 4) b))) (λ n. Ok (prefix_length b, n)) (subst (λ r. Refuses e (refusals r)) same (refuses e (refusals (stated_length four)) h)))

pub plain_length : (front : List ℕ) (rest : Option (List ℕ)) (r : Result ℕ IpcError) → is_mark front ≡ false → Decodes (λ n. n) r (stated_length front) → GivesLength front rest rest r
plain_length front rest r plain h b long f left =
    let begins : prefix_length b ≡ 4 = ap (λ t. if t then 8 else 4) (ap is_mark (sym f) ∙ plain) in
    length_given b front rest 4 r begins f left h

pub marked_length : (front four : List ℕ) (rest rest' : Option (List ℕ)) (r : Result ℕ IpcError) → is_mark front ≡ true → Takes rest rest' 4 four → Decodes (λ n. n) r (stated_length four) → GivesLength front rest rest' r
marked_length front four rest rest' r marked took h b long f left =
    let begins : prefix_length b ≡ 8 = ap (λ t. if t then 8 else 4) (ap is_mark (sym f) ∙ marked) in
    let here : Takes (Some (drop 4 b)) rest' 4 four = subst (λ o. Takes o rest' 4 four) left took in
    length_given b four rest' 8 r begins here.1 (here.0 ∙ ap Some (drop-drop 4 4 b)) h

pub no_length : (front : List ℕ) (rest rest' : Option (List ℕ)) (r : Result ℕ IpcError) (e : IpcError) → r ≡ Err e → ((es : List IpcError) → Refuses e es) → GivesLength front rest rest' r
no_length front rest rest' r e is any b long f left = subst (IsLength b rest') (sym is) (any (refusals (stream_prefix b)))

-- ── the message ──

none_next : (b : List ℕ) → length b < 4 → next_message b ≡ Ok None
unfolding next_message
none_next b h = let short : nat_lt (length b) 4 ≡ true = lt-ltb _ _ h in rw (next_message, short) refl

-- by the length of its metadata
next_by : (b : List ℕ) (start n : ℕ) → nat_lt (length b) 4 ≡ false → stream_prefix b ≡ Ok (start, n) → next_message b ≡ elim (nat_eq n 0) as (λ t. Reading (Option Framed)) [ true ↦ Ok None | false ↦ framed b (start, n) >>= λ m. Ok (Some m) ]
unfolding next_message bind
next_by b start n long is = rw (next_message, long, is) refl

next_refused : (b : List ℕ) (e : IpcError) → nat_lt (length b) 4 ≡ false → Refuses e (refusals (stream_prefix b)) → Refuses e (refusals (next_message b))
unfolding next_message
next_refused b e long h = rw (next_message, long) (refused_first e (stream_prefix b) _ h)

pub front_waits : (rest rest' : Option (List ℕ)) (front : List ℕ) → Takes rest rest' 4 front → length front < 4 → GivesFront rest rest' (Ok frames.Waiting)
front_waits None rest' front took short = tt
front_waits (Some b) rest' front took short =
    let few : length b < 4 = omega (arith, short, ap length took.1, length-take 4 b) in
    (none_next b few, lt-ltb _ _ few, took.0 ∙ ap Some (drop_all 4 b (omega (arith, few))))

-- four bytes were taken, and so many are told by the prefix
record Prefixed (b : List ℕ) (rest' : Option (List ℕ)) (r : Result ℕ IpcError) : Type 0 where
  long : nat_lt (length b) 4 ≡ false
  is : IsLength b rest' r

prefixed : (b front text : List ℕ) (mid rest' : Option (List ℕ)) (r : Result ℕ IpcError) → text ≡ front → Takes (Some b) mid 4 front → 4 ≤ length front → GivesLength text mid rest' r → Prefixed b rest' r
prefixed b front text mid rest' r same took long gives =
    let enough : 4 ≤ length b = omega (arith, long, ap length took.1, length-take 4 b) in
    record { long = le-ltb _ _ enough; is = gives b enough (same ∙ took.1) took.0 }

pub front_not_read : (rest rest' : Option (List ℕ)) (r : Result Frame IpcError) (e : IpcError) → r ≡ Err e → ((es : List IpcError) → Refuses e es) → GivesFront rest rest' r
front_not_read None rest' r e is any = tt
front_not_read (Some b) rest' r e is any = subst (GivesFront (Some b) rest') (sym is) (any (refusals (next_message b)))

pub front_refused : (rest mid rest' : Option (List ℕ)) (front text : List ℕ) (r : Result Frame IpcError) (e : IpcError) → text ≡ front → r ≡ Err e → Takes rest mid 4 front → 4 ≤ length front → GivesLength text mid rest' (Err e) → GivesFront rest rest' r
front_refused None mid rest' front text r e same is took long gives = tt
front_refused (Some b) mid rest' front text r e same is took long gives =
    let p = prefixed b front text mid rest' (Err e) same took long gives in
    subst (GivesFront (Some b) rest') (sym is) (next_refused b e p.long p.is)

pub front_ends : (rest mid rest' : Option (List ℕ)) (front text : List ℕ) (n : ℕ) → text ≡ front → Takes rest mid 4 front → 4 ≤ length front → GivesLength text mid rest' (Ok n) → n ≡ 0 → GivesFront rest rest' (Ok frames.Ended)
front_ends None mid rest' front text n same took long gives stated = tt
front_ends (Some b) mid rest' front text n same took long gives stated =
    let p = prefixed b front text mid rest' (Ok n) same took long gives in
    let none : nat_eq n 0 ≡ true = ap (λ k. nat_eq k 0) stated in
    (next_by b (prefix_length b) n p.long p.is.0 ∙ ap (λ t. elim t as (λ t. Reading (Option Framed)) [ true ↦ Ok None | false ↦ framed b (prefix_length b, n) >>= λ m. Ok (Some m) ]) none, p.long, p.is.1)

-- its metadata
metadata_next : (b : List ℕ) (start n : ℕ) → nat_lt (length b) 4 ≡ false → stream_prefix b ≡ Ok (start, n) → nat_eq n 0 ≡ false → next_message b ≡ (framed b (start, n) >>= λ m. Ok (Some m))
metadata_next b start n long is some = next_by b start n long is ∙ ap (λ t. elim t as (λ t. Reading (Option Framed)) [ true ↦ Ok None | false ↦ framed b (start, n) >>= λ m. Ok (Some m) ]) some

framed_whole : (b : List ℕ) (start n : ℕ) → nat_le (start + n) (length b) ≡ true → (framed b (start, n) >>= λ m. Ok (Some m)) ≡ Ok (Some (record { metadata = take n (drop start b); behind = drop (start + n) b }))
unfolding framed bind
framed_whole b start n whole = rw whole refl

framed_cut : (b : List ℕ) (start n : ℕ) → nat_le (start + n) (length b) ≡ false → refusals (framed b (start, n) >>= λ m. Ok (Some m)) ≡ OutOfSpec kinds.Truncated ∷ []
unfolding framed bind
framed_cut b start n cut = rw cut refl

positive : (n : ℕ) → nat_eq n 0 ≡ false → 0 < n
positive n h = grind arith

lies : (start n : ℕ) (b items : List ℕ) → 0 < n → items ≡ take n (drop start b) → n ≤ length items → start + n ≤ length b
lies start n b items some is whole = omega (arith, whole, ap length is, length-take n (drop start b), length-drop start b, some)

pub front_whole : (rest mid mid' rest' : Option (List ℕ)) (front text : List ℕ) (n : ℕ) (metadata : Vec ℕ Global) → text ≡ front → Takes rest mid 4 front → 4 ≤ length front → GivesLength text mid mid' (Ok n) → nat_eq n 0 ≡ false → Takes mid' rest' n metadata.items → n ≤ length metadata.items → GivesFront rest rest' (Ok (frames.Message metadata))
front_whole None mid mid' rest' front text n metadata same took long gives some more whole = tt
front_whole (Some b) mid mid' rest' front text n metadata same took long gives some more whole =
    let p = prefixed b front text mid mid' (Ok n) same took long gives in
    let start = prefix_length b in
    let here : Takes (Some (drop start b)) rest' n metadata.items = subst (λ o. Takes o rest' n metadata.items) p.is.1 more in
    let fits : nat_le (start + n) (length b) ≡ true = le-leb _ _ (lies start n b metadata.items (positive n some) here.1 whole) in
    let text : take n (drop start b) ≡ metadata.items = sym here.1 in (
      drop (start + n) b,
      metadata_next b start n p.long p.is.0 some ∙ framed_whole b start n fits ∙ ap (λ x. Ok (Some (record { metadata = x; behind = drop (start + n) b }))) text,
      here.0 ∙ ap Some (drop-drop n start b),
    )

pub front_cut : (rest mid mid' rest' : Option (List ℕ)) (front text : List ℕ) (n : ℕ) (items : List ℕ) → text ≡ front → Takes rest mid 4 front → 4 ≤ length front → GivesLength text mid mid' (Ok n) → nat_eq n 0 ≡ false → Takes mid' rest' n items → length items < n → GivesFront rest rest' (Err (OutOfSpec kinds.Truncated))
front_cut None mid mid' rest' front text n items same took long gives some more short = tt
front_cut (Some b) mid mid' rest' front text n items same took long gives some more short =
    let p = prefixed b front text mid mid' (Ok n) same took long gives in
    let start = prefix_length b in
    let here : Takes (Some (drop start b)) rest' n items = subst (λ o. Takes o rest' n items) p.is.1 more in
    let cut : nat_le (start + n) (length b) ≡ false = lt-leb _ _ (omega (arith, short, ap length here.1, length-take n (drop start b), length-drop start b)) in
    subst (λ es. Refuses (OutOfSpec kinds.Truncated) es) (sym (ap refusals (metadata_next b start n p.long p.is.0 some) ∙ framed_cut b start n cut)) (inl refl)

pub not_zero : (n : ℕ) → (n ≡ 0 → ⊥) → nat_eq n 0 ≡ false
not_zero n h = grind arith

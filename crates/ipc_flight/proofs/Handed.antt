-- The message of a block, by what was fetched of it.
use Rattle.std.proofs.Common.{◌≡◌, ◌∙◌, inl, inr, ℕ, ℤ, pos, negsuc, Bool, ◌+◌, ◌-◌, ◌<◌, ◌≤◌, List, [], ◌∷◌, length, map, take, drop, Option, Some, None, Result, Ok, Err, true, false, refl, sym, ap, arith, subst, IfErr, IfOk, length-take}
use Rattle.std.specs.Prelude.{nat_le, slice_get, ⊤}
use Rattle.std.specs.List.{AllByRecursion}
use Rattle.std.proofs.lemmas.List.{length-map}
use Rattle.std.specs.Option.{option_map}
use Rattle.std.proofs.lemmas.Option.{slice_get-map}
use Rattle.arrow_spec.specs.declared.message.Block.{Block}
use Rattle.std.proofs.lemmas.Bool.{le-leb, leb-true, lt-leb}
use Rattle.std.proofs.lemmas.List.{drop-drop, drop-take, take-take}
use Rattle.arrow_spec.specs.declared.error.IpcError.{IpcError}
use Rattle.arrow_spec.specs.declared.error.FlatError.{FlatError}
use Rattle.arrow_spec.specs.declared.error.IpcError.TheVariants.{OutOfSpec}
use Rattle.arrow_spec.specs.declared.error.IpcError.TheVariants as errors
use Rattle.arrow_spec.specs.declared.error.OutOfSpecKind.{OutOfSpecKind}
use Rattle.arrow_spec.specs.declared.error.OutOfSpecKind.TheVariants as kinds
use Rattle.arrow_spec.specs.Files.{FileBlock, block_body}
use Rattle.arrow_spec.specs.Messages.{prefix_of}
use Rattle.arrow_spec.specs.Readings.{IsAmong, Reading, Refuses, as_kind, bind, natural, only_if, refusals}
use Rattle.arrow_spec.proofs.Projection.{on}
use Rattle.arrow_spec.proofs.ReadPairs.{is_true, same_read, through}
use Rattle.ipc_io.specs.Outside.{IsSize}
use Rattle.ipc_fields.specs.Causes.{RefusesBytes}
use Rattle.ipc_fields.proofs.Steps.{refuses}
use Rattle.ipc_files.specs.FileBlocks.{Faulted, Fetched, file_block}
use Rattle.ipc_write.specs.declared.encoded.EncodedData.{EncodedData}
use Rattle.ipc_files.proofs.BlockMessages.{refused_first}
use Rattle.ipc_files.proofs.BlockPrefixes.{memory_or_fault}
use Rattle.ipc_flight.specs.Flights.{handed}
use Rattle.ipc_flight.specs.Hands.{HandCause, HandsBlock, HandsOver, IsEmptyMessage, a_block, block_size, metadata_in, past_the_last, refused}

-- the metadata of a message ends where the bytes end, or before
pub prefix_within : (b : List ℕ) (p : ℕ × ℕ) → prefix_of b ≡ Ok p → p.0 + p.1 ≤ length b
unfolding prefix_of
prefix_within b p h =
    through _ _ p h λ first first_is h1. through _ _ p h1 λ n n_is h2. through _ _ p h2 λ count count_is h3. through _ _ p h3 λ inside inside_is h4.
    subst (λ (q : ℕ × ℕ). q.0 + q.1 ≤ length b) (same_read _ p h4) (leb-true _ (length b) (is_true _ _ inside inside_is))

-- a part of bytes is the part of those that hold it
part_of : (n k r : ℕ) (xs : List ℕ) → k + n ≤ r → take n (drop k (take r xs)) ≡ take n (drop k xs)
part_of n k r xs h =
    let split : r ≡ k + (r - k) = omega arith in
    ap (λ m. take n (drop k (take m xs))) split ∙ ap (λ ys. take n ys) (drop-take k (r - k) xs) ∙ take-take n (r - k) (drop k xs) (omega arith)

-- what stands in a block's range
abbrev front_of : List ℕ → FileBlock → List ℕ
front_of b block = take block.metadata (drop block.offset b)

in_range : (b : List ℕ) (block : FileBlock) → block.offset + block.metadata + block.body ≤ length b → handed b block ≡ bind (prefix_of (front_of b block)) (λ p. Ok (record { metadata = take p.1 (drop (block.offset + p.0) b); body = block_body b block }))
unfolding handed bind
in_range b block h = let test : nat_le (block.offset + block.metadata + block.body) (length b) ≡ true = le-leb _ _ h in rw test refl

whole : (b : List ℕ) (block : FileBlock) (m : List ℕ) → block.offset + block.metadata + block.body ≤ length b → metadata_in (front_of b block) ≡ Ok m → handed b block ≡ Ok (record { metadata = m; body = block_body b block })
unfolding metadata_in
whole b block m h is = through (prefix_of (front_of b block)) _ m is λ p p_is rest.
    let within : p.0 + p.1 ≤ block.metadata = omega (arith, prefix_within (front_of b block) p p_is, length-take block.metadata (drop block.offset b)) in
    let same : take p.1 (drop (block.offset + p.0) b) ≡ m = ap (λ ys. take p.1 ys) (sym (drop-drop p.0 block.offset b)) ∙ sym (part_of p.1 p.0 block.metadata (drop block.offset b) within) ∙ same_read _ m rest in
    in_range b block h ∙ on (prefix_of (front_of b block)) _ p p_is ∙ ap (λ x. Ok (record { metadata = x; body = block_body b block })) same

same_refusals : {A B : Type 0} (r : Reading A) (f : A → B) → refusals (bind r (λ x. Ok (f x))) ≡ refusals r
unfolding bind
same_refusals (Ok x) f = refl
same_refusals (Err es) f = refl

refused_front : (b : List ℕ) (block : FileBlock) (e : IpcError) → block.offset + block.metadata + block.body ≤ length b → Refuses e (refusals (metadata_in (front_of b block))) → Refuses e (refusals (handed b block))
unfolding metadata_in
refused_front b block e h r =
    subst (λ x. Refuses e (refusals x)) (sym (in_range b block h)) (refused_first e (prefix_of (front_of b block)) _ (subst (Refuses e) (same_refusals (prefix_of (front_of b block)) (λ p. take p.1 (drop p.0 (front_of b block)))) r))

-- ── what a call hands over, where the bytes are told ──

not_in_range : (b : List ℕ) (block : FileBlock) → length b < block.offset + block.metadata + block.body → Refuses (OutOfSpec kinds.BlockRange) (refusals (handed b block))
unfolding handed bind
not_in_range b block h = let test : nat_le (block.offset + block.metadata + block.body) (length b) ≡ false = lt-leb _ _ h in rw test (inl refl)

pub out_of_range : (content : Option (List ℕ)) (size : ℕ) (block : FileBlock) (x : EncodedData) (result : Result (Unit {0}) IpcError) → result ≡ Err (OutOfSpec kinds.BlockRange) → IsSize content size → size < block.offset + block.metadata + block.body → HandsBlock content block x result
out_of_range None size block x result is size_is past = subst (HandsBlock None block x) (sym is) (record { ok = tt; err = tt })
out_of_range (Some b) size block x result is size_is past = subst (HandsBlock (Some b) block x) (sym is) (record { ok = tt; err = not_in_range b block (omega (arith, size_is, past)) })

-- a device's fault, or want of memory
pub not_fetched : (content : Option (List ℕ)) (block : FileBlock) (x : EncodedData) (result : Result (Unit {0}) IpcError) (e : IpcError) → result ≡ Err e → Faulted content e → HandsBlock content block x result
not_fetched None block x result e is fault = subst (HandsBlock None block x) (sym is) (record { ok = tt; err = tt })
not_fetched (Some b) block x result e is fault = subst (HandsBlock (Some b) block x) (sym is) (record { ok = tt; err = memory_or_fault e (handed b block) fault })

pub no_metadata : (content : Option (List ℕ)) (size : ℕ) (block : FileBlock) (o m n : ℕ) (items front : List ℕ) (x : EncodedData) (result : Result (Unit {0}) IpcError) (e : IpcError) → result ≡ Err e → IsSize content size → o ≡ block.offset → m ≡ block.metadata → n ≡ block.body → o + m + n ≤ size → Fetched content o m items → front ≡ items → RefusesBytes e (refusals (metadata_in front)) → HandsBlock content block x result
no_metadata None size block o m n items front x result e is size_is eo em en inside fetched same h = subst (HandsBlock None block x) (sym is) (record { ok = tt; err = tt })
no_metadata (Some b) size block o m n items front x result e is size_is eo em en inside fetched same h =
    let stands : front ≡ front_of b block = same ∙ fetched ∙ ap (λ k. take k (drop o b)) em ∙ ap (λ k. take block.metadata (drop k b)) eo in
    subst (HandsBlock (Some b) block x) (sym is) (record { ok = tt; err = refused_front b block e (omega (arith, size_is, inside, eo, em, en)) (subst (λ y. Refuses e (refusals (metadata_in y))) stands (refuses e (refusals (metadata_in front)) h)) })

pub handed_whole : (content after : Option (List ℕ)) (size : ℕ) (block : FileBlock) (o m n : ℕ) (items front : List ℕ) (x : EncodedData) (result : Result (Unit {0}) IpcError) → IsSize content size → o ≡ block.offset → m ≡ block.metadata → n ≡ block.body → o + m + n ≤ size → after ≡ content → Fetched content o m items → front ≡ items → metadata_in front ≡ Ok x.ipc_message.items
    → IfOk result (λ u. Fetched after (o + m) n x.arrow_data.items) → IfErr result (λ e. Faulted after e) → HandsBlock content block x result
handed_whole None after size block o m n items front x (Ok u) size_is eo em en inside same fetched stood read body fault = record { ok = tt; err = tt }
handed_whole None after size block o m n items front x (Err e) size_is eo em en inside same fetched stood read body fault = record { ok = tt; err = tt }
handed_whole (Some b) after size block o m n items front x (Err e) size_is eo em en inside same fetched stood read body fault = record { ok = tt; err = memory_or_fault e (handed b block) (subst (λ c. Faulted c e) same fault) }
handed_whole (Some b) after size block o m n items front x (Ok u) size_is eo em en inside same fetched stood read body fault =
    let stands : front ≡ front_of b block = stood ∙ fetched ∙ ap (λ k. take k (drop o b)) em ∙ ap (λ k. take block.metadata (drop k b)) eo in
    let there : x.arrow_data.items ≡ take n (drop (o + m) b) = subst (λ c. Fetched c (o + m) n x.arrow_data.items) same body in
    let body_is : x.arrow_data.items ≡ block_body b block = there ∙ ap (λ k. take k (drop (o + m) b)) en ∙ ap (λ k. take block.body (drop (k + m) b)) eo ∙ ap (λ k. take block.body (drop (block.offset + k) b)) em in
    let metadata_is : metadata_in (front_of b block) ≡ Ok x.ipc_message.items = ap metadata_in (sym stands) ∙ read in
    record { ok = whole b block x.ipc_message.items (omega (arith, size_is, inside, eo, em, en)) metadata_is ∙ ap (λ y. Ok (record { metadata = x.ipc_message.items; body = y })) (sym body_is); err = tt }

-- ── why ──

-- the bytes are damaged
abbrev IsDamage : IpcError → Type 0
IsDamage (OutOfSpec kind) = ⊤
IsDamage e = ⊥

unfoldable AreDamage : {A : Type 0} → Reading A → Type 0
AreDamage r = AllByRecursion IsDamage (refusals r)

bind_damage : {A B : Type 0} (r : Reading A) (f : A → Reading B) → AreDamage r → ((x : A) → AreDamage (f x)) → AreDamage (bind r f)
unfolding AreDamage bind
bind_damage (Ok x) f first rest = rest x
bind_damage (Err es) f first rest = first

kind_damage : {A : Type 0} (kind : FlatError → OutOfSpecKind) (r : Result A FlatError) → AreDamage (as_kind kind r)
unfolding AreDamage
kind_damage kind (Ok x) = tt
kind_damage kind (Err f) = (tt, tt)

natural_damage : (z : ℤ) → AreDamage (natural z)
unfolding AreDamage
natural_damage (pos n) = tt
natural_damage (negsuc n) = (tt, tt)

unless_damage : (ok : Bool) (kind : OutOfSpecKind) → AreDamage (only_if ok kind)
unfolding AreDamage
unless_damage true kind = tt
unless_damage false kind = (tt, tt)

value_damage : {A : Type 0} (x : A) → AreDamage (Ok x)
unfolding AreDamage
value_damage x = tt

prefix_damage : (b : List ℕ) → AreDamage (prefix_of b)
unfolding prefix_of
prefix_damage b = bind_damage _ _ (kind_damage _ _) (λ first. bind_damage _ _ (kind_damage _ _) (λ n. bind_damage _ _ (natural_damage n) (λ count. bind_damage _ _ (unless_damage _ _) (λ inside. value_damage _))))

metadata_damage : (b : List ℕ) → AreDamage (metadata_in b)
unfolding metadata_in
metadata_damage b = bind_damage (prefix_of b) _ (prefix_damage b) (λ p. value_damage _)

among : (es : List IpcError) (e : IpcError) → AllByRecursion IsDamage es → IsAmong es e → IsDamage e
among [] e damage h = absurd h
among (x ∷ xs) e damage (inl is) = subst IsDamage is damage.0
among (x ∷ xs) e damage (inr h) = among xs e damage.1 h

caused : (es : List IpcError) (e : IpcError) (n m : ℕ) → AllByRecursion IsDamage es → RefusesBytes e es → HandCause e n m
caused es (OutOfSpec kind) n m damage h = tt
caused es errors.Memory n m damage h = tt
caused es (errors.Unsupported feature) n m damage h = absurd (among es (errors.Unsupported feature) damage h)
caused es (errors.TooMany counted) n m damage h = absurd (among es (errors.TooMany counted) damage h)
caused es errors.TooDeep n m damage h = absurd (among es errors.TooDeep damage h)
caused es e n m damage h = absurd h

pub metadata_caused : (front : List ℕ) (result : Result (Unit {0}) IpcError) (e : IpcError) (n m : ℕ) → result ≡ Err e → RefusesBytes e (refusals (metadata_in front)) → IfErr result (λ f. HandCause f n m)
unfolding AreDamage
metadata_caused front result e n m is h = subst (λ r. IfErr r (λ f. HandCause f n m)) (sym is) (caused (refusals (metadata_in front)) e n m (metadata_damage front) h)

-- ── the next of some blocks ──

mapped_at : (xs : List Block) (i : ℕ) (x : Block) → slice_get xs i ≡ Some x → slice_get (map file_block xs) i ≡ Some (file_block x)
mapped_at xs i x h = slice_get-map file_block xs i ∙ ap (option_map file_block) h

pub none_next : (content : Option (List ℕ)) (xs : List Block) (i : ℕ) (x : EncodedData) → length xs ≤ i → IsEmptyMessage x → HandsOver content (map file_block xs) i i x (Ok None)
none_next content xs i x h e = past_the_last (omega (arith, h, length-map xs file_block)) refl e

pub size_next : (xs : List Block) (i n n' : ℕ) (block : Block) → slice_get xs i ≡ Some block → n' ≤ n + (file_block block).metadata + (file_block block).body → n' ≤ n + block_size (slice_get (map file_block xs) i)
size_next xs i n n' block h few = subst (λ o. n' ≤ n + block_size o) (sym (mapped_at xs i block h)) (omega (arith, few))

pub one_next : (content : Option (List ℕ)) (xs : List Block) (i : ℕ) (x : EncodedData) (block : Block) (u : Unit {0}) → slice_get xs i ≡ Some block → HandsBlock content (file_block block) x (Ok u) → HandsOver content (map file_block xs) i (i + 1) x (Ok (Some tt))
one_next content xs i x block u h hands = a_block (record { stands = mapped_at xs i block h; taken = omega arith }) hands.ok

pub next_refused : (content : Option (List ℕ)) (xs : List Block) (i : ℕ) (x : EncodedData) (block : Block) (e : IpcError) (result : Result (Option (Unit {0})) IpcError) → result ≡ Err e → slice_get xs i ≡ Some block → HandsBlock content (file_block block) x (Err e) → IsEmptyMessage x → HandsOver content (map file_block xs) i (i + 1) x result
next_refused content xs i x block e result is h hands empty = subst (HandsOver content (map file_block xs) i (i + 1) x) (sym is) (refused (record { stands = mapped_at xs i block h; taken = omega arith }) empty hands.err)

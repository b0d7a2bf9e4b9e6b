-- A prefix that is fetched four bytes at a time.
use Rattle.std.proofs.Common.{◌≡◌, ◌⊎◌, inl, inr, ℕ, zero, suc, ◌+◌, ◌-◌, ◌<◌, ◌≤◌, List, [], ◌∷◌, length, take, drop, Option, Some, None, Result, Err, true, false, refl, sym, ◌∙◌, ap, arith, subst, length-take, length-drop, drop-drop}
use Rattle.std.proofs.lemmas.List.{drop-take}
use Rattle.arrow_spec.specs.declared.error.IpcError.{IpcError}
use Rattle.arrow_spec.specs.declared.error.IpcError.TheVariants.{OutOfSpec, Memory, ReadFault}
use Rattle.arrow_spec.specs.declared.error.OutOfSpecKind.TheVariants as kinds
use Rattle.arrow_spec.specs.Readings.{Reading, Refuses, refusals}
use Rattle.arrow_spec.specs.Messages.{prefix_of, is_mark}
use Rattle.ipc_schema.specs.Prefixes.{length_in}
use Rattle.ipc_fields.specs.Causes.{Decodes}
use Rattle.ipc_fields.proofs.Steps.{gives}
use Rattle.ipc_schema.proofs.Prefixed.{prefix_short, prefix_cut, prefix_plain, prefix_marked}
use Rattle.ipc_files.specs.FileBlocks.{Lies, Fetched, Faulted, PrefixIn}

take_less : (n m : ℕ) (xs : List ℕ) → n ≤ m → take n (take m xs) ≡ take n xs
take_less zero m xs less = refl
take_less (suc n) zero xs less = absurd (omega (arith, less))
take_less (suc n) (suc m) [] less = refl
take_less (suc n) (suc m) (x ∷ xs) less = ap (λ ys. x ∷ ys) (take_less n m xs (omega (arith, less)))

region-length : (b : List ℕ) (at size : ℕ) → at + size ≤ length b → length (take size (drop at b)) ≡ size
region-length b at size h = omega (arith, length-take size (drop at b), length-drop at b)

pub region-front : (b : List ℕ) (at size : ℕ) → 4 ≤ size → take 4 (drop at b) ≡ take 4 (take size (drop at b))
region-front b at size h = sym (take_less 4 size (drop at b) h)

region-rest : (b : List ℕ) (at size : ℕ) → 8 ≤ size → take 4 (drop (at + 4) b) ≡ take 4 (drop 4 (take size (drop at b)))
region-rest b at size h =
    let split : size ≡ 4 + (size - 4) = omega arith in
    let e : drop 4 (take size (drop at b)) ≡ take (size - 4) (drop 4 (drop at b)) = ap (λ n. drop 4 (take n (drop at b))) split ∙ drop-take 4 (size - 4) (drop at b) in
    sym (ap (take 4) e ∙ take_less 4 (size - 4) (drop 4 (drop at b)) (omega arith) ∙ ap (take 4) (drop-drop 4 at b))

pub too_short : (content : Option (List ℕ)) (at size : ℕ) → Lies content at size → size < 4 → PrefixIn content at size (Err (OutOfSpec kinds.MessageRange))
too_short None at size lies short = tt
too_short (Some b) at size lies short = let l = region-length b at size lies in prefix_short (take size (drop at b)) (omega (arith, l, short))

pub plain : (content : Option (List ℕ)) (at size : ℕ) (front : List ℕ) (r : Result (ℕ × ℕ) IpcError) → Lies content at size → 4 ≤ size → Fetched content at 4 front → is_mark front ≡ false → Decodes (λ p. p) r (length_in front 4 size) → PrefixIn content at size r
plain None at size front r lies long f m h = tt
plain (Some b) at size front r lies long f m h =
    let l = region-length b at size lies in
    gives (λ p. p) r (prefix_of (take size (drop at b))) (prefix_plain (take size (drop at b)) front r (omega (arith, l, long)) (f ∙ region-front b at size long) m (subst (λ n. Decodes (λ p. p) r (length_in front 4 n)) (sym l) h))

pub cut_off : (content : Option (List ℕ)) (at size : ℕ) (front : List ℕ) → Lies content at size → 4 ≤ size → size < 8 → Fetched content at 4 front → is_mark front ≡ true → PrefixIn content at size (Err (OutOfSpec kinds.MessageRange))
cut_off None at size front lies long short f m = tt
cut_off (Some b) at size front lies long short f m =
    let l = region-length b at size lies in
    prefix_cut (take size (drop at b)) front (drop 4 (take size (drop at b))) (omega (arith, l, long)) (f ∙ region-front b at size long) refl (omega (arith, l, length-drop 4 (take size (drop at b)))) m

pub marked : (content : Option (List ℕ)) (at size : ℕ) (front four : List ℕ) (r : Result (ℕ × ℕ) IpcError) → Lies content at size → 8 ≤ size → Fetched content at 4 front → Fetched content (at + 4) 4 four → is_mark front ≡ true → Decodes (λ p. p) r (length_in four 8 size) → PrefixIn content at size r
marked None at size front four r lies long f g m h = tt
marked (Some b) at size front four r lies long f g m h =
    let l = region-length b at size lies in
    gives (λ p. p) r (prefix_of (take size (drop at b))) (prefix_marked (take size (drop at b)) front (drop 4 (take size (drop at b))) four r (omega (arith, l, long)) (f ∙ region-front b at size (omega (arith, long))) refl (g ∙ region-rest b at size long) m (subst (λ n. Decodes (λ p. p) r (length_in four 8 n)) (sym l) h))

pub memory_or_fault : {A : Type 0} (e : IpcError) (read : Reading A) → (e ≡ Memory) ⊎ (e ≡ ReadFault) → Refuses e (refusals read)
memory_or_fault e read (inl h) = subst (λ x. Refuses x (refusals read)) (sym h) tt
memory_or_fault e read (inr h) = subst (λ x. Refuses x (refusals read)) (sym h) tt

pub faulted : (content : Option (List ℕ)) (at size : ℕ) (e : IpcError) → Faulted content e → PrefixIn content at size (Err e)
faulted None at size e h = tt
faulted (Some b) at size e h = memory_or_fault e (prefix_of (take size (drop at b))) h

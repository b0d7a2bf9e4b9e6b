-- A walk over a batch's arrays, step by step.
use Rattle.std.proofs.Common.{◌≡◌, ◌⊎◌, inl, inr, ℕ, ◌+◌, ◌<◌, ◌≤◌, ◌-◌, ◌++◌, ◌||◌, ◌&&◌, ℤ, List, [], ◌∷◌, Bool, true, false, Option, Some, None, Result, Ok, Err, length, drop, get_or, not, is_some, nat_lt, if◌then◌else◌, refl, sym, ap, ◌∙◌, arith}
use Rattle.std.specs.Prelude.{nat_le}
use Rattle.std.proofs.Math.Path.{fun_ext}
use Rattle.std.proofs.lemmas.Bool.{le-leb, lt-ltb}
use Rattle.std.proofs.lemmas.List.{at_drop_all}
use Rattle.arrow_spec.specs.declared.error.IpcError.{IpcError}
use Rattle.arrow_spec.specs.declared.error.IpcError.TheVariants.{Memory, NotRepresentable}
use Rattle.arrow_arrays.specs.declared.array.Array.{Array}
use Rattle.arrow_arrays.specs.Parts.{Forest, also, rows_in}
use Rattle.arrow_arrays.specs.PartsOf.{parts_of, forest_of}
use Rattle.ipc_fields.specs.IpcFields.{Ids, ids_of}
use Rattle.ipc_fields.specs.declared.ipc_field.IpcField.{IpcField}
use Rattle.ipc_fields.specs.Uses.{first_id, first_ids}
use Rattle.ipc_dictionaries.specs.NewDictionaries.{Options, Sending, ToSend, message_of, then_by, holding, scoped, sending, rows_from, has_several, array_sent, arrays_sent, dictionary_sent, parts_sent}
use Rattle.ipc_dictionaries.specs.Tracker.{Held}
use Rattle.ipc_dictionaries.specs.Used.{is_among}
use Rattle.ipc_dictionaries.proofs.Ids.{among-append, both_came}
use Rattle.ipc_fields.proofs.Steps.{drop_item}
use Rattle.ipc_fields.proofs.UseSteps.{others_at}

-- ── arrays under IPC fields ──

arrays_at : (o : Options) (xs : List Array) (ts : List IpcField) (i : ℕ) (x : Array) (id : Option ℤ) (below : Ids) (s : Sending) → i < length xs → x ≡ get_or xs i x → id ≡ first_id (ids_of (drop i ts)) → below ≡ first_ids (ids_of (drop i ts))
    → arrays_sent o (forest_of (drop i xs)) (ids_of (drop i ts)) s ≡ then_by (array_sent o (parts_of x) id below s) (arrays_sent o (forest_of (drop (i + 1) xs)) (ids_of (drop (i + 1) ts)))
arrays_at o xs ts i x id below s h e f g =
    let own = ids_of (drop i ts) in
    let rest = forest_of (drop (i + 1) xs) in
    ap (λ ys. arrays_sent o (forest_of ys) own s) (drop_item xs i x x h e)
    ∙ ap (λ ks. then_by (array_sent o (parts_of x) (first_id own) (first_ids own) s) (arrays_sent o rest ks)) (others_at ts i)
    ∙ ap (λ z. then_by (array_sent o (parts_of x) z (first_ids own) s) (arrays_sent o rest (ids_of (drop (i + 1) ts)))) (sym f)
    ∙ ap (λ z. then_by (array_sent o (parts_of x) id z s) (arrays_sent o rest (ids_of (drop (i + 1) ts)))) (sym g)

pub arrays_next : (o p q : Options) (xs : List Array) (ts : List IpcField) (i : ℕ) (x : Array) (id : Option ℤ) (below : Ids) (s t : Sending) (whole : Result Sending IpcError) → i < length xs → x ≡ get_or xs i x → id ≡ first_id (ids_of (drop i ts)) → below ≡ first_ids (ids_of (drop i ts))
    → p ≡ o → array_sent o (parts_of x) id below s ≡ Ok t → arrays_sent o (forest_of (drop i xs)) (ids_of (drop i ts)) s ≡ whole → arrays_sent p (forest_of (drop (i + 1) xs)) (ids_of (drop (i + 1) ts)) t ≡ whole
arrays_next o p q xs ts i x id below s t whole h e f g same step w =
    let next = arrays_sent o (forest_of (drop (i + 1) xs)) (ids_of (drop (i + 1) ts)) in
    ap (λ z. arrays_sent z (forest_of (drop (i + 1) xs)) (ids_of (drop (i + 1) ts)) t) same
    ∙ sym (ap (λ r. then_by r next) step) ∙ sym (arrays_at o xs ts i x id below s h e f g) ∙ w

pub arrays_stopped : (o : Options) (xs : List Array) (ts : List IpcField) (i : ℕ) (x : Array) (id : Option ℤ) (below : Ids) (s : Sending) (error : IpcError) (whole : Result Sending IpcError) → i < length xs → x ≡ get_or xs i x → id ≡ first_id (ids_of (drop i ts)) → below ≡ first_ids (ids_of (drop i ts))
    → (error ≡ Memory) ⊎ (array_sent o (parts_of x) id below s ≡ Err error) → arrays_sent o (forest_of (drop i xs)) (ids_of (drop i ts)) s ≡ whole → (error ≡ Memory) ⊎ (whole ≡ Err error)
arrays_stopped o xs ts i x id below s error whole h e f g (inl memory) w = inl memory
arrays_stopped o xs ts i x id below s error whole h e f g (inr step) w =
    let next = arrays_sent o (forest_of (drop (i + 1) xs)) (ids_of (drop (i + 1) ts)) in
    inr (sym w ∙ arrays_at o xs ts i x id below s h e f g ∙ ap (λ r. then_by r next) step)

pub arrays_done : (o : Options) (xs : List Array) (below : Ids) (i : ℕ) (s : Sending) (whole : Result Sending IpcError) → length xs ≤ i → arrays_sent o (forest_of (drop i xs)) below s ≡ whole → whole ≡ Ok s
arrays_done o xs below i s whole h w = sym w ∙ at_drop_all (λ ys. arrays_sent o (forest_of ys) below s) xs i h

-- ── the parts of a dictionary ──

pub parts_skipped : (o : Options) (u : ℤ → Bool) (id : ℤ) (below : Ids) (is_delta : Bool) (n m : ℕ) (xs : List Array) (i : ℕ) (x : Array) (s : Sending) → i < length xs → x ≡ get_or xs i x
    → is_delta ≡ true → rows_in (parts_of x) ≤ n → n ≡ rows_in (parts_of x) + m
    → parts_sent o u id below is_delta n (forest_of (drop i xs)) s ≡ parts_sent o u id below is_delta m (forest_of (drop (i + 1) xs)) s
parts_skipped o u id below is_delta n m xs i x s h e d le r =
    let rows = rows_in (parts_of x) in
    let t : nat_le rows n ≡ true = le-leb rows n le in
    let k : n - rows ≡ m = omega arith in
    let rest = forest_of (drop (i + 1) xs) in
    ap (λ ys. parts_sent o u id below is_delta n (forest_of ys) s) (drop_item xs i x x h e)
    ∙ ap (λ b. parts_sent o u id below b n (also (parts_of x) rest) s) d
    ∙ ap (λ b. if b then parts_sent o u id below true (n - rows) rest s
    else then_by (array_sent o (parts_of x) None below (scoped u s)) (λ t. parts_sent o u id below true 0 rest (sending (message_of id true (rows_from n (parts_of x))) s.used t))) t
    ∙ ap (λ z. parts_sent o u id below true z rest s) k
    ∙ ap (λ b. parts_sent o u id below b m rest s) (sym d)

part_at : (o : Options) (u : ℤ → Bool) (id : ℤ) (below : Ids) (is_delta : Bool) (n : ℕ) (xs : List Array) (i : ℕ) (x : Array) (s : Sending) → i < length xs → x ≡ get_or xs i x
    → (is_delta && nat_le (rows_in (parts_of x)) n) ≡ false
    → parts_sent o u id below is_delta n (forest_of (drop i xs)) s
    ≡ then_by (array_sent o (parts_of x) None below (scoped u s)) (λ t. parts_sent o u id below true 0 (forest_of (drop (i + 1) xs)) (sending (message_of id is_delta (rows_from n (parts_of x))) s.used t))
part_at o u id below is_delta n xs i x s h e f =
    let rest = forest_of (drop (i + 1) xs) in
    ap (λ ys. parts_sent o u id below is_delta n (forest_of ys) s) (drop_item xs i x x h e)
    ∙ ap (λ b. if b then parts_sent o u id below true (n - rows_in (parts_of x)) rest s
    else then_by (array_sent o (parts_of x) None below (scoped u s)) (λ t. parts_sent o u id below true 0 rest (sending (message_of id is_delta (rows_from n (parts_of x))) s.used t))) f

pub part_next : (o : Options) (u : ℤ → Bool) (id : ℤ) (below : Ids) (is_delta : Bool) (n : ℕ) (xs : List Array) (i : ℕ) (x : Array) (s t next : Sending) (whole : Result Sending IpcError) → i < length xs → x ≡ get_or xs i x
    → (is_delta && nat_le (rows_in (parts_of x)) n) ≡ false
    → array_sent o (parts_of x) None below (scoped u s) ≡ Ok t
    → sending (message_of id is_delta (rows_from n (parts_of x))) s.used t ≡ next
    → parts_sent o u id below is_delta n (forest_of (drop i xs)) s ≡ whole
    → parts_sent o u id below true 0 (forest_of (drop (i + 1) xs)) next ≡ whole
part_next o u id below is_delta n xs i x s t next whole h e f step is w =
    let rest = forest_of (drop (i + 1) xs) in
    let go = λ (t : Sending). parts_sent o u id below true 0 rest (sending (message_of id is_delta (rows_from n (parts_of x))) s.used t) in
    ap (parts_sent o u id below true 0 rest) (sym is) ∙ sym (ap (λ r. then_by r go) step) ∙ sym (part_at o u id below is_delta n xs i x s h e f) ∙ w

pub part_stopped : (o : Options) (u : ℤ → Bool) (id : ℤ) (below : Ids) (is_delta : Bool) (n : ℕ) (xs : List Array) (i : ℕ) (x : Array) (s : Sending) (error : IpcError) (whole : Result Sending IpcError) → i < length xs → x ≡ get_or xs i x
    → (is_delta && nat_le (rows_in (parts_of x)) n) ≡ false
    → (error ≡ Memory) ⊎ (array_sent o (parts_of x) None below (scoped u s) ≡ Err error)
    → parts_sent o u id below is_delta n (forest_of (drop i xs)) s ≡ whole
    → (error ≡ Memory) ⊎ (whole ≡ Err error)
part_stopped o u id below is_delta n xs i x s error whole h e f (inl memory) w = inl memory
part_stopped o u id below is_delta n xs i x s error whole h e f (inr step) w =
    let go = λ (t : Sending). parts_sent o u id below true 0 (forest_of (drop (i + 1) xs)) (sending (message_of id is_delta (rows_from n (parts_of x))) s.used t) in
    inr (sym w ∙ part_at o u id below is_delta n xs i x s h e f ∙ ap (λ r. then_by r go) step)

-- what a part's message and its ids make of what was sent before it
pub part_done : (held : Held) (u v : ℤ → Bool) (came more : List ℤ) (sent new : List ToSend) (message : ToSend) → ((q : ℤ) → v q ≡ u q) → new ≡ sent ++ message ∷ []
    → sending message (λ q. u q || is_among q came) (record { held = held; used = λ q. v q || is_among q more; sent = sent })
    ≡ record { held = held; used = λ q. u q || is_among q (came ++ more); sent = new }
part_done held u v came more sent new message same e =
    ap (λ (used : ℤ → Bool). record { held = held; used = used; sent = sent ++ message ∷ [] })
    (fun_ext (λ q. ap (λ b. (u q || is_among q came) || (b || is_among q more)) (same q) ∙ both_came (u q) (is_among q came) (is_among q more) ∙ ap (λ b. u q || b) (sym (among-append q came more))))
    ∙ ap (λ xs. record { held = held; used = λ q. u q || is_among q (came ++ more); sent = xs }) (sym e)

-- ── a dictionary ──

pub several : (xs : List Array) → has_several (forest_of xs) ≡ nat_lt 1 (length xs)
several [] = refl
several (x ∷ []) = refl
several (x ∷ y ∷ xs) = sym (lt-ltb 1 (length (x ∷ y ∷ xs)) (omega arith))

pub dictionary_whole : (o : Options) (start : Option ℕ) (id : ℤ) (parts : Forest) (s t u : Sending) (walked : Result Sending IpcError) → (not (is_some start) && not o.deltas && has_several parts) ≡ false
    → walked ≡ Ok t → holding id parts t ≡ u → dictionary_sent o (Some true) start id parts s walked ≡ Ok u
dictionary_whole o start id parts s t u walked few step is =
    ap (λ b. if b then Err NotRepresentable else then_by walked (λ t. Ok (holding id parts t))) few ∙ ap (λ r. then_by r (λ t. Ok (holding id parts t))) step ∙ ap Ok is

pub dictionary_stopped : (o : Options) (start : Option ℕ) (id : ℤ) (parts : Forest) (s : Sending) (walked : Result Sending IpcError) (error : IpcError) → (not (is_some start) && not o.deltas && has_several parts) ≡ false
    → (error ≡ Memory) ⊎ (walked ≡ Err error) → (error ≡ Memory) ⊎ (dictionary_sent o (Some true) start id parts s walked ≡ Err error)
dictionary_stopped o start id parts s walked error few (inl memory) = inl memory
dictionary_stopped o start id parts s walked error few (inr step) =
    inr (ap (λ b. if b then Err NotRepresentable else then_by walked (λ t. Ok (holding id parts t))) few ∙ ap (λ r. then_by r (λ t. Ok (holding id parts t))) step)

pub dictionary_refused : (o : Options) (start : Option ℕ) (id : ℤ) (parts : Forest) (s : Sending) (walked : Result Sending IpcError) → (not (is_some start) && not o.deltas && has_several parts) ≡ true → dictionary_sent o (Some true) start id parts s walked ≡ Err NotRepresentable
dictionary_refused o start id parts s walked many = ap (λ b. if b then Err NotRepresentable else then_by walked (λ t. Ok (holding id parts t))) many

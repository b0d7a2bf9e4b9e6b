-- The offsets of lists that were read, and what is wrong with them.
use Rattle.std.proofs.Common.{◌≡◌, ℕ, zero, suc, ◌+◌, ◌≤◌, ◌<◌, List, [], ◌∷◌, ◌++◌, length, Option, Bool, true, false, ℤ, pos, negsuc, not, ◌&&◌, refl, sym, ap, ◌∙◌, arith, subst, inl}
use Rattle.std.specs.Prelude.{nat_le}
use Rattle.std.proofs.lemmas.Bool.{le-leb, and_parts, and_from}
use Rattle.arrow_spec.specs.declared.error.IpcError.{IpcError}
use Rattle.arrow_spec.specs.declared.error.IpcError.TheVariants.{OutOfSpec}
use Rattle.arrow_spec.specs.declared.error.OutOfSpecKind.TheVariants as out
use Rattle.arrow_spec.specs.Readings.{IsAmong, Refuses}
use Rattle.arrow_spec.specs.Kinds.{Kind, Offsets, large, map, extension}
use Rattle.arrow_arrays.specs.Heads.{is_map}
use Rattle.arrow_spec.specs.Counts.{RecordBatch, Place}
use Rattle.arrow_spec.specs.Faults.{cause, if_sound, offsets_buffer_faults, end_of, offsets_faults}
use Rattle.arrow_buffers.specs.Variable.{place_at, rise_from, are_offsets}
use Rattle.arrow_buffers.proofs.Rising.{offset_between}
use Rattle.ipc_read_laws.proofs.OffsetsRead.{offsets_told, offsets-bad}
use Rattle.ipc_read.specs.Lists.{list_faults, list_top}
use Rattle.ipc_read.specs.Queues.{short_of}
use Rattle.ipc_read.specs.Sources.{head_faults, faults_where, offsets_of_rows}
use Rattle.ipc_read.proofs.Refusals.{refuses_left, refuses_right, refuses_by, refuses_sound, among_right, both_none, none_of_both}

-- ── offsets that rise up to the last one ──

rise_within : (low : ℕ) (os : List ℤ) (limit last : ℕ) → rise_from low os limit ≡ true → ((i : ℕ) → i < length os → place_at os i ≤ last) → rise_from low os last ≡ true
rise_within low [] limit last h f = refl
rise_within low (pos x ∷ os) limit last h f =
    let a = and_parts (nat_le low x && nat_le x limit) (rise_from x os limit) h in
    let b = and_parts (nat_le low x) (nat_le x limit) a.0 in
    and_from _ _ (and_from _ _ b.0 (le-leb x last (f 0 (omega arith)))) (rise_within x os limit last a.1 (λ i lt. f (suc i) (omega (arith, lt))))
rise_within low (negsuc n ∷ os) limit last h f = cc

pub rise_to_last : (os : List ℤ) (rows limit last : ℕ) → length os ≡ rows + 1 → last ≡ place_at os rows → are_offsets os limit ≡ true → are_offsets os last ≡ true
rise_to_last [] rows limit last l e h = cc
rise_to_last (o ∷ os) rows limit last l e h =
    rise_within 0 (o ∷ os) limit last h (λ i lt. subst (λ z. place_at (o ∷ os) i ≤ z) (sym e) (offset_between (o ∷ os) limit i h rows (omega (arith, l, lt)) (omega (arith, l))))

-- ── what is wrong ──

faults_are : (m : RecordBatch) (o : Offsets) (i rows most : ℕ) → offsets_faults m o i rows most ≡ cause (not (are_offsets (offsets_told m o i rows) most)) (OutOfSpec out.InvalidOffsets)
unfolding offsets_faults
faults_are m o i rows most = ap (λ b. cause b (OutOfSpec out.InvalidOffsets)) (offsets-bad m o i rows most)

pub offsets_refused : (m : RecordBatch) (p : Place) (rows : ℕ) (o : Offsets) (e : IpcError) → Refuses e (short_of m.buffers (p.buffer + 1) ++ faults_where rows (offsets_buffer_faults m o (p.buffer + 1) rows)) → Refuses e (list_faults m p rows o)
offsets_refused m p rows o e r =
    let short = short_of m.buffers (p.buffer + 1) in
    let buffer = faults_where rows (offsets_buffer_faults m o (p.buffer + 1) rows) in
    refuses_right (head_faults m p rows) _ e
    (refuses_by short buffer _ e (λ s. refuses_left short _ e s) (λ s. refuses_right short _ e (refuses_sound buffer _ e s)) r)

pub offsets_well : (m : RecordBatch) (p : Place) (rows : ℕ) (o : Offsets) (os : List ℤ) (most : ℕ) → os ≡ offsets_of_rows m o (p.buffer + 1) rows → most ≡ end_of m (suc p.node) → are_offsets os most ≡ true
    → head_faults m p rows ≡ [] → short_of m.buffers (p.buffer + 1) ++ faults_where rows (offsets_buffer_faults m o (p.buffer + 1) rows) ≡ [] → list_faults m p rows o ≡ []
offsets_well m p zero o os most e f a h b = both_none (head_faults m p 0) _ h b
offsets_well m p (suc n) o os most e f a h b =
    let parts = none_of_both (short_of m.buffers (p.buffer + 1)) _ b in
    let rise : are_offsets (offsets_told m o (p.buffer + 1) (suc n)) (end_of m (suc p.node)) ≡ true = ap (are_offsets (offsets_told m o (p.buffer + 1) (suc n))) (sym f) ∙ ap (λ xs. are_offsets xs most) (sym e) ∙ a in
    let none : offsets_faults m o (p.buffer + 1) (suc n) (end_of m (suc p.node)) ≡ [] = faults_are m o (p.buffer + 1) (suc n) (end_of m (suc p.node)) ∙ ap (λ b. cause (not b) (OutOfSpec out.InvalidOffsets)) rise in
    both_none (head_faults m p (suc n)) _ h (both_none (short_of m.buffers (p.buffer + 1)) _ parts.0 (ap (λ es. if_sound es (offsets_faults m o (p.buffer + 1) (suc n) (end_of m (suc p.node)))) parts.1 ∙ none))

none_bad : (most : ℕ) → are_offsets (pos 0 ∷ []) most ≡ true
none_bad most = let e : nat_le 0 most ≡ true = le-leb 0 most (omega arith) in rw e refl

pub offsets_bad_refused : (m : RecordBatch) (p : Place) (rows : ℕ) (o : Offsets) (os : List ℤ) (most : ℕ) → os ≡ offsets_of_rows m o (p.buffer + 1) rows → most ≡ end_of m (suc p.node) → are_offsets os most ≡ false
    → short_of m.buffers (p.buffer + 1) ++ faults_where rows (offsets_buffer_faults m o (p.buffer + 1) rows) ≡ [] → IsAmong (list_faults m p rows o) (OutOfSpec out.InvalidOffsets)
offsets_bad_refused m p zero o os most e f a b = let c : true ≡ false = sym (none_bad most) ∙ ap (λ xs. are_offsets xs most) (sym e) ∙ a in cc
offsets_bad_refused m p (suc n) o os most e f a b =
    let i = p.buffer + 1 in
    let limit = end_of m (suc p.node) in
    let parts = none_of_both (short_of m.buffers i) _ b in
    let bad : are_offsets (offsets_told m o i (suc n)) limit ≡ false = ap (are_offsets (offsets_told m o i (suc n))) (sym f) ∙ ap (λ xs. are_offsets xs most) (sym e) ∙ a in
    let one : offsets_faults m o i (suc n) limit ≡ OutOfSpec out.InvalidOffsets ∷ [] = faults_are m o i (suc n) limit ∙ ap (λ b. cause (not b) (OutOfSpec out.InvalidOffsets)) bad in
    let last : if_sound (offsets_buffer_faults m o i (suc n)) (offsets_faults m o i (suc n) limit) ≡ OutOfSpec out.InvalidOffsets ∷ [] = ap (λ es. if_sound es (offsets_faults m o i (suc n) limit)) parts.1 ∙ one in
    among_right (head_faults m p (suc n)) _ _ (among_right (short_of m.buffers i) _ _ (subst (λ es. IsAmong es (OutOfSpec out.InvalidOffsets)) (sym last) (inl refl)))

-- maps have offsets of 32 bits
pub no_large_map : (k : Kind) → is_map large k ≡ true → ⊥
no_large_map (extension name metadata k) h = no_large_map k h
no_large_map (map sorted fs) h = cc
no_large_map k h = cc

pub top_same : {a b : List ℤ} {v w : Option (List Bool)} → a ≡ b → v ≡ w → list_top a v ≡ list_top b w
top_same e f = rw (e, f) refl

pub no_rows : (os : List ℤ) (rows last : ℕ) → last ≡ place_at os rows → (rows ≡ 0 → os ≡ pos 0 ∷ []) → rows ≡ 0 → last ≡ 0
no_rows os rows last e f z = e ∙ ap (place_at os) z ∙ ap (λ xs. place_at xs 0) (f z)

-- The head of a message, by its tag.
use Rattle.std.proofs.Common.{◌≡◌, ◌∙◌, ℕ, List, Bool, true, false, Result, Ok, Err, refl, sym, ap, subst}
use Rattle.std.specs.Prelude.{nat_eq, ◌||◌, if◌then◌else◌, pos}
use Rattle.std.specs.Int.{w8, w64}
use Rattle.arrow_spec.specs.declared.error.FlatError.{FlatError}
use Rattle.arrow_spec.specs.declared.error.IpcError.{IpcError}
use Rattle.arrow_spec.specs.declared.error.IpcError.TheVariants.{OutOfSpec}
use Rattle.arrow_spec.specs.declared.error.OutOfSpecKind.{OutOfSpecKind}
use Rattle.arrow_spec.specs.declared.error.OutOfSpecKind.TheVariants as kinds
use Rattle.arrow_spec.specs.Flat.{Table, root, slot_signed, slot_table, slot_unsigned}
use Rattle.arrow_spec.specs.Messages.{Message, message_of}
use Rattle.arrow_spec.specs.Readings.{Reading, as_kind, bind, ◌>>=◌, natural, only_if, refusals, required}
use Rattle.arrow_spec.proofs.Projection.{on}
use Rattle.ipc_fields.specs.Causes.{Decodes, RefusesBytes}
use Rattle.schema_reader.specs.Messages.{taken_by}
use Rattle.schema_reader.specs.declared.message.Expected.{Expected}
use Rattle.schema_reader.specs.declared.message.Expected.TheVariants as expected
use Rattle.ipc_streams.specs.Heads.{head_of_message, is_dictionary_tag, is_taken, tag_of}
use Rattle.ipc_streams.specs.declared.head.Head.{Head}
use Rattle.ipc_streams.proofs.Handed.{bytes_first}

-- what follows a part is the same by what it gave
same_behind : {A B : Type 0} (r : Reading A) (f g : A → Reading B) → ((x : A) → r ≡ Ok x → f x ≡ g x) → bind r f ≡ bind r g
unfolding bind
same_behind (Ok x) f g h = h x refl
same_behind (Err es) f g h = refl

-- what was read under the name of its part was read
pub was_read : {A : Type 0} (kind : FlatError → OutOfSpecKind) (r : Result A FlatError) (x : A) → as_kind kind r ≡ Ok x → r ≡ Ok x
was_read kind (Ok y) x h = cc
was_read kind (Err e) x h = cc

-- a message is the same where its tag is taken by both
same_taken : (b : List ℕ) (p q : ℕ → Bool) → ((t : Table) (n : ℕ) → root b ≡ Ok t → slot_unsigned w8 0 b t 1 ≡ Ok n → p n ≡ q n) → message_of b p ≡ message_of b q
unfolding message_of
same_taken b p q same =
    same_behind _ _ _ (λ t t_is. same_behind _ _ _ (λ n n_is. same_behind _ _ _ (λ place _. same_behind _ _ _ (λ present _. same_behind _ _ _ (λ listed _.
    ap (λ (taken : Bool). only_if taken kinds.UnexpectedMessageType >>= λ expected. as_kind kinds.InvalidFlatbufferHeader (slot_table b t 2) >>= required (OutOfSpec kinds.MissingMessageHeader) >>= λ header.
    as_kind kinds.InvalidFlatbufferBodyLength (slot_signed w64 (pos 0) b t 3) >>= natural >>= λ body. Ok (record { table = t; tag = n; header = header; body = body })) (same t n (was_read _ _ _ t_is) (was_read _ _ _ n_is)))))))

pub tag_read : (b : List ℕ) (t : Table) (n : ℕ) → root b ≡ Ok t → slot_unsigned w8 0 b t 1 ≡ Ok n → tag_of b ≡ Ok n
unfolding bind
tag_read b t n h k = rw (h, k) refl

by_tag : (d : Bool) (n : ℕ) → nat_eq n 2 ≡ d → taken_by (if d then expected.Dictionary else expected.Batch) n ≡ is_taken n
by_tag true n e = e ∙ sym (ap (λ t. t || nat_eq n 3) e)
by_tag false n e = sym (ap (λ t. t || nat_eq n 3) e)

pub expected_by : (b : List ℕ) (d : Bool) → d ≡ is_dictionary_tag (tag_of b) → message_of b (taken_by (if d then expected.Dictionary else expected.Batch)) ≡ message_of b is_taken
expected_by b d is = same_taken b (taken_by (if d then expected.Dictionary else expected.Batch)) is_taken (λ t n t_is n_is. by_tag d n (sym (is ∙ ap is_dictionary_tag (tag_read b t n t_is n_is))))

-- a message that is refused has no head
pub head_refused : (b : List ℕ) (x : Expected) (r : Result Head IpcError) (e : IpcError) → r ≡ Err e → message_of b (taken_by x) ≡ message_of b is_taken → RefusesBytes e (refusals (message_of b (taken_by x))) → Decodes (λ h. h) r (head_of_message b)
unfolding head_of_message
head_refused b x r e is same h =
    subst (λ (q : Result Head IpcError). Decodes (λ h. h) q (bind (message_of b is_taken) (λ m. Ok (record { is_dictionary = nat_eq m.tag 2; body = m.body })))) (sym is) (bytes_first e (message_of b is_taken) _ (subst (λ m. RefusesBytes e (refusals m)) same h))

pub head_given : (b : List ℕ) (x : Expected) (m : Message) → message_of b (taken_by x) ≡ message_of b is_taken → message_of b (taken_by x) ≡ Ok m → head_of_message b ≡ Ok (record { is_dictionary = nat_eq m.tag 2; body = m.body })
unfolding head_of_message
head_given b x m same is = on (message_of b is_taken) _ m (sym same ∙ is)

-- A record batch is its parts, one after another.
use Rattle.std.proofs.Common.{◌≡◌, ℕ, zero, suc, List, Result, Ok, Err, refl, sym, subst, ap}
use Rattle.arrow_spec.specs.Readings.{bind}
use Rattle.ipc_fields.specs.Causes.{Decodes}
use Rattle.arrow_spec.specs.Flat.{Table}
use Rattle.arrow_spec.specs.Messages.{batch_at, dictionary_at, record_message, version_of}
use Rattle.ipc_schema.specs.Views.{nodes_part, buffers_part, variadic_part, batch_parts, record_parts, message_of}
use Rattle.arrow_spec.specs.Headers.{dictionary, batch, header_at, message_header}
use Rattle.ipc_schema.specs.Headers.{whole_in, header_part, header_parts, dictionary_parts, dictionary_message, dictionary_message_of, dictionary_message_parts}
use Rattle.ipc_schema.specs.declared.message.DictionaryMessage.{DictionaryMessage}
use Rattle.ipc_schema.specs.declared.message.Message.{Message}
use Rattle.ipc_schema.specs.declared.message.RecordMessage.{RecordMessage}
use Rattle.arrow_spec.specs.declared.error.IpcError.{IpcError}

bind_twice : {A B C E : Type 0} (r : Result A E) (f : A → Result B E) (g : B → Result C E) → bind (bind r f) g ≡ bind r (λ x. bind (f x) g)
unfolding bind
bind_twice (Ok x) f g = refl
bind_twice (Err e) f g = refl

batch_by_parts : (b : List ℕ) (t : Table) → batch_at b t ≡ batch_parts b t
unfolding batch_at batch_parts nodes_part buffers_part variadic_part
batch_by_parts b t = simp bind_twice

record_same : (b : List ℕ) → record_message b ≡ record_parts b
unfolding record_message record_parts version_of
record_same b = simp batch_by_parts

pub record_by_parts : (b : List ℕ) (r : Result RecordMessage IpcError) → Decodes message_of r (record_parts b) → Decodes message_of r (record_message b)
record_by_parts b r h = subst (Decodes message_of r) (sym (record_same b)) h

bind_ok : {A B E : Type 0} (x : A) (f : A → Result B E) → bind {E = E} (Ok x) f ≡ f x
unfolding bind
bind_ok x f = refl

dictionary_same : (b : List ℕ) (t : Table) → dictionary_at b t ≡ dictionary_parts b t
unfolding dictionary_at dictionary_parts
dictionary_same b t = simp batch_by_parts

dictionary_message_same : (b : List ℕ) → dictionary_message b ≡ dictionary_message_parts b
unfolding dictionary_message dictionary_message_parts version_of
dictionary_message_same b = simp dictionary_same

pub dictionary_by_parts : (b : List ℕ) (r : Result DictionaryMessage IpcError) → Decodes dictionary_message_of r (dictionary_message_parts b) → Decodes dictionary_message_of r (dictionary_message b)
dictionary_by_parts b r h = subst (Decodes dictionary_message_of r) (sym (dictionary_message_same b)) h

header_same : (tag : ℕ) (b : List ℕ) (t : Table) → header_at tag b t ≡ header_part tag b t
header_same zero b t = refl
header_same (suc zero) b t = refl
header_same (suc (suc zero)) b t = ap (λ r. bind r (λ x. Ok (dictionary x))) (dictionary_same b t)
header_same (suc (suc (suc zero))) b t = ap (λ r. bind r (λ x. Ok (batch x))) (batch_by_parts b t)
header_same (suc (suc (suc (suc n)))) b t = refl

whole_same : (b : List ℕ) → message_header b ≡ header_parts b
unfolding message_header header_parts version_of
whole_same b = simp header_same

pub header_by_parts : (b : List ℕ) (r : Result Message IpcError) → Decodes whole_in r (header_parts b) → Decodes whole_in r (message_header b)
header_by_parts b r h = subst (Decodes whole_in r) (sym (whole_same b)) h

-- A file that is read to be sent means what it means, but that a message may be too large.
use Rattle.std.proofs.Common.{◌≡◌, ℕ, List, [], ◌∷◌, Option, Some, Ok, Err, refl, true, false, Bool, ◌⊎◌, inl, inr, ap}
use Rattle.arrow_spec.specs.declared.error.IpcError.TheVariants.{TooLarge}
use Rattle.arrow_spec.specs.declared.message.MetadataVersion.{MetadataVersion}
use Rattle.arrow_spec.specs.Readings.{Reading, bind, ◌>>=◌, meaning}
use Rattle.arrow_spec.specs.Kinds.{Metadata}
use Rattle.arrow_spec.specs.Messages.{BatchHeader}
use Rattle.arrow_spec.specs.Files.{to_send, to_read, file_reading, batches_of, batch_of, batch_of_tables, if_sent, dictionaries_sent, Request, ArrowTable, Asked, FileBlock}

-- the same, or the first is too large
pub data Agrees {A : Type 0} : Reading A → Reading A → Type 0 where
  same : {r : Reading A} → Agrees r r
  too_large : {s : Reading A} → Agrees (Err (TooLarge ∷ [])) s

agrees_then : {A B : Type 0} (r : Reading A) {f g : A → Reading B} → ((x : A) → Agrees (f x) (g x)) → Agrees (r >>= f) (r >>= g)
unfolding bind
agrees_then (Ok x) k = k x
agrees_then (Err es) k = same

agrees_bind : {A B : Type 0} {r s : Reading A} {f g : A → Reading B} → Agrees r s → ((x : A) → Agrees (f x) (g x)) → Agrees (r >>= f) (s >>= g)
unfolding bind
agrees_bind (same {r = r}) k = agrees_then r k
agrees_bind too_large k = too_large

agrees_size : (ok : Bool) → Agrees (if_sent to_send ok) (if_sent to_read ok)
agrees_size true = same
agrees_size false = too_large

tables_agree : (a : Asked) (v : MetadataVersion) (custom : Metadata) (t : BatchHeader) (body : List ℕ) (left : Option ℕ) → Agrees (batch_of_tables to_send a v custom t body left) (batch_of_tables to_read a v custom t body left)
unfolding batch_of_tables
tables_agree a v custom t body left = agrees_then _ λ u. agrees_then _ λ rows. agrees_then _ λ u'. agrees_then _ λ u''. agrees_then _ λ columns. agrees_bind (agrees_size _) λ u'''. same

batch_agrees : (b : List ℕ) (a : Asked) (block : FileBlock) (left : Option ℕ) → Agrees (batch_of to_send b a block left) (batch_of to_read b a block left)
unfolding batch_of
batch_agrees b a block left = agrees_then _ λ m. agrees_then _ λ t. agrees_then _ λ v. agrees_then _ λ custom. tables_agree a v custom t _ left

dictionaries_agree : (is_first : Bool) (a : Asked) → Agrees (dictionaries_sent is_first to_send a) (dictionaries_sent is_first to_read a)
dictionaries_agree true a = agrees_size _
dictionaries_agree false a = same

batches_agree : (b : List ℕ) (a : Asked) (is_first : Bool) (blocks : List FileBlock) (left : Option ℕ) → Agrees (batches_of to_send b a is_first blocks left) (batches_of to_read b a is_first blocks left)
unfolding batches_of
batches_agree b a is_first [] left = same
batches_agree b a is_first (block ∷ blocks) left = agrees_bind (batch_agrees b a block left) λ first. agrees_bind (dictionaries_agree is_first a) λ u. agrees_bind (batches_agree b a false blocks _) λ others. same

pub file_agrees : (b : List ℕ) (r : Request) (j : Option ℕ) → Agrees (file_reading to_send b r j) (file_reading to_read b r j)
unfolding file_reading
file_agrees b r j = agrees_then _ λ meta. agrees_then _ λ custom. agrees_then _ λ u. agrees_then _ λ u'. agrees_bind (agrees_size _) λ u''. agrees_then _ λ d. agrees_bind (batches_agree b _ true _ _) λ batches. same

pub agrees_complete : {A : Type 0} {r s : Reading A} {t : A} → Agrees r s → meaning s ≡ Some t → (r ≡ Ok t) ⊎ (r ≡ Err (TooLarge ∷ []))
agrees_complete (same {r = Ok x}) h = inl cc
agrees_complete (same {r = Err es}) h = cc
agrees_complete too_large h = inr refl

pub agrees_sound : {A : Type 0} {r s : Reading A} {t : A} → Agrees r s → r ≡ Ok t → meaning s ≡ Some t
agrees_sound (same {r = r}) h = ap meaning h
agrees_sound too_large h = cc

-- A file that means a table is sent, or a message of it is too large.
pub sent_or_too_large : (b : List ℕ) (r : Request) (j : Option ℕ) (t : ArrowTable) → meaning (file_reading to_read b r j) ≡ Some t → (file_reading to_send b r j ≡ Ok t) ⊎ (file_reading to_send b r j ≡ Err (TooLarge ∷ []))
sent_or_too_large b r j t h = agrees_complete (file_agrees b r j) h

-- What is sent is what the file means.
pub sent_means : (b : List ℕ) (r : Request) (j : Option ℕ) (t : ArrowTable) → file_reading to_send b r j ≡ Ok t → meaning (file_reading to_read b r j) ≡ Some t
sent_means b r j t h = agrees_sound (file_agrees b r j) h

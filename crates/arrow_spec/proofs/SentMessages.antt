-- Messages that are sent: how large they may be, and how a batch is read whose message is to be sent.
use Rattle.std.proofs.Common.{◌≡◌, ℕ, ◌^◌, ◌<◌, ◌≤◌, List, None, Ok, Err, refl, ap, ◌∙◌, arith, true, not}
use Rattle.std.specs.Prelude.{nat_le}
use Rattle.std.proofs.lemmas.Bool.{and_parts, leb-true}
use Rattle.arrow_spec.specs.declared.error.IpcError.{IpcError}
use Rattle.arrow_spec.specs.declared.error.IpcError.TheVariants.{Unsupported}
use Rattle.arrow_spec.specs.declared.error.Feature.TheVariants as features
use Rattle.arrow_spec.specs.declared.message.MetadataVersion.{MetadataVersion}
use Rattle.arrow_spec.specs.Readings.{bind, ◌>>=◌, Reading, unless, only_if, natural}
use Rattle.arrow_spec.specs.Columns.{columns_at}
use Rattle.arrow_spec.specs.Kinds.{Metadata}
use Rattle.arrow_spec.specs.Messages.{BatchHeader}
use Rattle.arrow_spec.specs.Sent.{SentMessage, batch_message, may_be_sent}
use Rattle.arrow_spec.specs.Framing.{padded_size}
use Rattle.arrow_spec.specs.Files.{Asked, TableBatch, as_asked, batch_of_tables, if_sent, lengths_sum, none_negative, record_batch_of, to_read, to_send}
use Rattle.arrow_spec.proofs.Projection.{nothing, on, went}

-- a message that may be sent is not too large
pub sent_bounds : (x : SentMessage) → may_be_sent x ≡ true → (padded_size x.node < 2 ^ 31) × (x.body < 2 ^ 63)
unfolding may_be_sent
sent_bounds x h =
    let parts = and_parts (nat_le (padded_size x.node) 2147483647) (nat_le x.body 9223372036854775807) h in
    let metadata : padded_size x.node ≤ 2147483647 = leb-true (padded_size x.node) 2147483647 parts.0 in
    let body : x.body ≤ 9223372036854775807 = leb-true x.body 9223372036854775807 parts.1 in
    (omega (arith, metadata), omega (arith, body))

-- nothing is left of a reading that ended
pub on_err : {A B : Type 0} (r : Reading A) (f : A → Reading B) (es : List IpcError) → r ≡ Err es → (r >>= f) ≡ Err es
unfolding bind
on_err (Ok x) f es h = cc
on_err (Err e) f es h = cc

-- a batch is sent where its message may be
pub tables_sent : (a : Asked) (v : MetadataVersion) (custom : Metadata) (tables : BatchHeader) (body : List ℕ) (x : TableBatch) → batch_of_tables to_read a v custom tables body None ≡ Ok x → batch_of_tables to_send a v custom tables body None ≡ (if_sent to_send (may_be_sent (batch_message (record_batch_of a.order v tables body) a.columns a.fields x.rows x.custom)) >>= λ size. Ok x)
unfolding batch_of_tables
tables_sent a v custom tables body x h =
    let compression = went (unless (not tables.compressed) (Unsupported features.Compression)) _ x h in
    let rows = went (natural tables.length) _ x compression.rest in
    let negative = went (only_if (none_negative tables.buffers) _) _ x rows.rest in
    let sum = went (only_if (nat_le (lengths_sum tables.buffers) a.most) _) _ x negative.rest in
    let columns = went (columns_at (record_batch_of a.order v tables body) a.dictionaries a.columns a.fields 0 _ rows.got rows.got) _ x sum.rest in
    let size = went (if_sent to_read true) _ x columns.rest in
    let e : record { rows = rows.got; columns = as_asked a.columns columns.got; custom = custom } ≡ x = cc (size.rest) in
    on _ _ _ compression.first ∙ on _ _ _ rows.first ∙ on _ _ _ negative.first ∙ on _ _ _ sum.first ∙ on _ _ _ columns.first
    ∙ ap (λ y. if_sent to_send (may_be_sent (batch_message (record_batch_of a.order v tables body) a.columns a.fields y.rows y.custom)) >>= λ u. Ok y) e

-- a reading that ended in refusals: at its first part or behind it
data EndsIn {A B : Type 0} (r : Reading A) (f : A → Reading B) (es : List IpcError) : Type 0 where
  first : r ≡ Err es → EndsIn r f es
  behind : (x : A) → r ≡ Ok x → f x ≡ Err es → EndsIn r f es

ends_in : {A B : Type 0} (r : Reading A) (f : A → Reading B) (es : List IpcError) → (r >>= f) ≡ Err es → EndsIn r f es
unfolding bind
ends_in (Ok x) f es h = behind x refl h
ends_in (Err e) f es h = first (let same : e ≡ es = cc in ap Err same)

-- what is refused where one part comes first is refused where the rest is another that is refused so too
refused_along : {A B C : Type 0} (r : Reading A) (f : A → Reading B) (g : A → Reading C) (es : List IpcError) → (r >>= f) ≡ Err es → ((x : A) → f x ≡ Err es → g x ≡ Err es) → (r >>= g) ≡ Err es
refused_along r f g es h k = elim (ends_in r f es h) [ first e ↦ on_err r g es e | behind x is rest ↦ on r g x is ∙ k x rest ]

never : (x : TableBatch) (es : List IpcError) → (nothing >>= λ size. Ok x) ≡ Err es → ⊥
unfolding bind
never x es h = cc

-- a batch that is refused where it is read is refused where it is sent
pub tables_refused : (a : Asked) (v : MetadataVersion) (custom : Metadata) (tables : BatchHeader) (body : List ℕ) (es : List IpcError) → batch_of_tables to_read a v custom tables body None ≡ Err es → batch_of_tables to_send a v custom tables body None ≡ Err es
unfolding batch_of_tables
tables_refused a v custom tables body es h =
    refused_along _ _ _ es h λ u h1. refused_along _ _ _ es h1 λ rows h2. refused_along _ _ _ es h2 λ u' h3. refused_along _ _ _ es h3 λ u'' h4. refused_along _ _ _ es h4 λ columns h5. absurd (never _ es h5)

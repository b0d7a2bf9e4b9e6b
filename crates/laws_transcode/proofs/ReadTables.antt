-- What was read of a batch's tables: its rows and its columns, and how the same tables are read for another purpose or in other columns.
use Rattle.std.proofs.Common.{◌≡◌, ℕ, ◌≤◌, List, Option, None, Some, Ok, Err, refl, ap, ◌∙◌, arith, not}
use Rattle.std.specs.Prelude.{nat_le}
use Rattle.arrow_spec.specs.declared.error.IpcError.{IpcError}
use Rattle.arrow_spec.specs.declared.error.IpcError.TheVariants.{Unsupported}
use Rattle.arrow_spec.specs.declared.error.Feature.TheVariants as features
use Rattle.arrow_spec.specs.declared.message.MetadataVersion.{MetadataVersion}
use Rattle.arrow_spec.specs.Readings.{bind, ◌>>=◌, Reading, natural, only_if, unless}
use Rattle.arrow_spec.specs.Kinds.{Metadata}
use Rattle.arrow_spec.specs.Cells.{Cell}
use Rattle.arrow_spec.specs.Columns.{columns_at}
use Rattle.arrow_spec.specs.Counts.{first_place}
use Rattle.arrow_spec.specs.Messages.{BatchHeader}
use Rattle.arrow_spec.specs.Sent.{batch_message, may_be_sent}
use Rattle.arrow_spec.specs.Files.{Asked, Purpose, TableBatch, as_asked, batch_of_tables, if_sent, lengths_sum, none_negative, record_batch_of, share, to_read, to_send}
use Rattle.arrow_spec.proofs.Projection.{no_size, nothing, on, went}
use Rattle.laws_transcode.specs.Files.{with_columns}

pub share_below : (left : Option ℕ) (n : ℕ) → share left n ≤ n
share_below None n = omega arith
share_below (Some l) n = omega arith

-- the rest of the reading of a batch of so many rows
abbrev rest_of_tables : Purpose → Asked → MetadataVersion → Metadata → BatchHeader → List ℕ → Option ℕ → ℕ → Reading TableBatch
rest_of_tables purpose a version custom tables body left rows =
    columns_at (record_batch_of a.order version tables body) a.dictionaries a.columns a.fields 0 first_place rows (share left rows) >>= λ columns.
    if_sent purpose (may_be_sent (batch_message (record_batch_of a.order version tables body) a.columns a.fields (share left rows) custom)) >>= λ size.
    Ok (record { rows = share left rows; columns = as_asked a.columns columns; custom = custom })

-- a batch that was read, of so many rows before the limit
pub record TablesRead (a : Asked) (v : MetadataVersion) (custom : Metadata) (tables : BatchHeader) (body : List ℕ) (left : Option ℕ) (x : TableBatch) : Type 0 where
  pub rows : ℕ
  pub count : natural tables.length ≡ Ok rows
  pub cells : List (List Cell)
  pub columns : columns_at (record_batch_of a.order v tables body) a.dictionaries a.columns a.fields 0 first_place rows (share left rows) ≡ Ok cells
  pub is : record { rows = share left rows; columns = as_asked a.columns cells; custom = custom } ≡ x
  pub behind : (purpose : Purpose) (asked : Option (List ℕ)) → batch_of_tables purpose (with_columns asked a) v custom tables body left ≡ rest_of_tables purpose (with_columns asked a) v custom tables body left rows

pub tables_read : (a : Asked) (v : MetadataVersion) (custom : Metadata) (tables : BatchHeader) (body : List ℕ) (left : Option ℕ) (x : TableBatch) → batch_of_tables to_read a v custom tables body left ≡ Ok x → TablesRead a v custom tables body left x
unfolding batch_of_tables
tables_read a v custom tables body left x h =
    let compression = went (unless (not tables.compressed) (Unsupported features.Compression)) _ x h in
    let rows = went (natural tables.length) _ x compression.rest in
    let negative = went (only_if (none_negative tables.buffers) _) _ x rows.rest in
    let sum = went (only_if (nat_le (lengths_sum tables.buffers) a.most) _) _ x negative.rest in
    let columns = went (columns_at (record_batch_of a.order v tables body) a.dictionaries a.columns a.fields 0 first_place rows.got (share left rows.got)) _ x sum.rest in
    record {
      rows = rows.got;
      count = rows.first;
      cells = columns.got;
      columns = columns.first;
      is = no_size _ x columns.rest;
      behind = λ purpose asked. on _ _ _ compression.first ∙ on _ _ _ rows.first ∙ on _ _ _ negative.first ∙ on _ _ _ sum.first;
    }

-- a batch is sent where its message may be
pub tables_sent : (a : Asked) (v : MetadataVersion) (custom : Metadata) (tables : BatchHeader) (body : List ℕ) (left : Option ℕ) (x : TableBatch) → batch_of_tables to_read a v custom tables body left ≡ Ok x
    → batch_of_tables to_send a v custom tables body left ≡ (if_sent to_send (may_be_sent (batch_message (record_batch_of a.order v tables body) a.columns a.fields x.rows x.custom)) >>= λ size. Ok x)
tables_sent a v custom tables body left x h =
    let t = tables_read a v custom tables body left x h in
    t.behind to_send a.columns ∙ on _ _ _ t.columns ∙ ap (λ y. if_sent to_send (may_be_sent (batch_message (record_batch_of a.order v tables body) a.columns a.fields y.rows y.custom)) >>= λ size. Ok y) t.is

-- ── what is refused ──

refused_along : {A B C : Type 0} (r : Reading A) (f : A → Reading B) (g : A → Reading C) (es : List IpcError) → (r >>= f) ≡ Err es → ((x : A) → f x ≡ Err es → g x ≡ Err es) → (r >>= g) ≡ Err es
unfolding bind
refused_along (Ok x) f g es h k = k x h
refused_along (Err e) f g es h k = let same : e ≡ es = cc in ap Err same

never : (x : TableBatch) (es : List IpcError) → (nothing >>= λ size. Ok x) ≡ Err es → ⊥
unfolding bind
never x es h = cc

-- a batch that is refused is refused so for whatever purpose, and in other columns that are read so
pub refused_so : (purpose : Purpose) (asked : Option (List ℕ)) (a : Asked) (v : MetadataVersion) (custom : Metadata) (tables : BatchHeader) (body : List ℕ) (left : Option ℕ) (es : List IpcError)
    → ((n few : ℕ) → columns_at (record_batch_of a.order v tables body) a.dictionaries asked a.fields 0 first_place n few ≡ columns_at (record_batch_of a.order v tables body) a.dictionaries a.columns a.fields 0 first_place n few)
    → batch_of_tables to_read a v custom tables body left ≡ Err es → batch_of_tables purpose (with_columns asked a) v custom tables body left ≡ Err es
unfolding batch_of_tables
refused_so purpose asked a v custom tables body left es same h =
    refused_along _ _ _ es h λ u h1. refused_along _ _ _ es h1 λ rows h2. refused_along _ _ _ es h2 λ u' h3. refused_along _ _ _ es h3 λ u'' h4.
    rw (same rows (share left rows)) (refused_along _ _ _ es h4 λ columns h5. absurd (never _ es h5))

-- a batch that is refused where it is read is refused where it is sent
pub tables_refused : (a : Asked) (v : MetadataVersion) (custom : Metadata) (tables : BatchHeader) (body : List ℕ) (left : Option ℕ) (es : List IpcError) → batch_of_tables to_read a v custom tables body left ≡ Err es → batch_of_tables to_send a v custom tables body left ≡ Err es
tables_refused a v custom tables body left es h = refused_so to_send a.columns a v custom tables body left es (λ n few. refl) h

-- What a dictionary message says: the kind of its values, and the array that stands in its body.
use Rattle.std.proofs.Common.{◌≡◌, ◌∙◌, ℕ, List, [], ◌∷◌, true, false, Option, Some, None, Ok, ℤ, pos, negsuc, refl, sym, ap}
use Rattle.arrow_spec.specs.declared.error.IpcError.{IpcError}
use Rattle.arrow_spec.specs.declared.message.MetadataVersion.{MetadataVersion}
use Rattle.arrow_spec.specs.Readings.{free_of, natural, required}
use Rattle.arrow_spec.specs.Kinds.{Kind, field, none, uses_in, values_under}
use Rattle.arrow_spec.specs.Cells.{Cell}
use Rattle.arrow_spec.specs.Counts.{RecordBatch, first_place, magnitude}
use Rattle.arrow_spec.specs.Arrays.{Dictionaries, HeldDictionary}
use Rattle.arrow_spec.specs.Columns.{columns_at}
use Rattle.arrow_spec.specs.Faults.{array_faults, column_faults}
use Rattle.arrow_spec.specs.Features.{float_faults}
use Rattle.arrow_spec.specs.Messages.{DictionaryBatch}
use Rattle.arrow_spec.specs.Schema.{Schema}
use Rattle.arrow_spec.specs.Sent.{written}
use Rattle.arrow_spec.specs.Files.{Asked, TableBatch, dictionary_of, record_batch_of}
use Rattle.arrow_spec.proofs.Fewer.{none_second}
use Rattle.arrow_spec.proofs.Projection.{place-ok}
use Rattle.arrow_spec.proofs.ReadPairs.{same_read, through}
use Rattle.laws_transcode.proofs.ReadTables.{tables_read}

required_is : {A : Type 0} (e : IpcError) (o : Option A) (x : A) → required e o ≡ Ok x → o ≡ Some x
required_is e None x h = cc
required_is e (Some y) x h = cc

free_is : (es : List IpcError) (u : Unit {0}) → free_of es ≡ Ok u → es ≡ []
free_is [] u h = refl
free_is (e ∷ es) u h = cc

natural_is : (z : ℤ) (n : ℕ) → natural z ≡ Ok n → n ≡ magnitude z
natural_is (pos k) n h = cc
natural_is (negsuc k) n h = cc

-- the one column of a batch is without faults
column_fine : (m : RecordBatch) (d : Dictionaries) (k : Kind) (rows few : ℕ) (cells : List (List Cell)) → columns_at m d None (field [] true [] k none) 0 first_place rows few ≡ Ok cells → array_faults m d k first_place few ≡ []
unfolding columns_at column_faults
column_fine m d k rows few cells h = through _ _ cells h λ u fits h1. none_second _ _ (place-ok _ fits)

pub record IsRead (s : Schema) (d : Dictionaries) (y : DictionaryBatch) (version : MetadataVersion) (body : List ℕ) (x : HeldDictionary) : Type 0 where
  pub kind : Kind
  pub under : values_under y.id (uses_in s.fields) ≡ Some kind
  pub floats : float_faults kind ≡ []
  pub count : natural y.values.length ≡ Ok (magnitude y.values.length)
  pub fine : array_faults (record_batch_of s.order version y.values body) d kind first_place (magnitude y.values.length) ≡ []
  pub id : y.id ≡ x.id
  pub is_delta : y.is_delta ≡ x.is_delta
  pub written_is : x.written ≡ written (record_batch_of s.order version y.values body) kind first_place (magnitude y.values.length) 0 (magnitude y.values.length)

pub message_read : (s : Schema) (d : Dictionaries) (most : ℕ) (y : DictionaryBatch) (version : MetadataVersion) (body : List ℕ) (x : HeldDictionary) → dictionary_of s d most y version body false ≡ Ok x → IsRead s d y version body x
unfolding dictionary_of
message_read s d most y version body x h =
    through _ _ x h λ kind kind_is h1. through _ _ x h1 λ u new h2. through _ _ x h2 λ v floats h3. through _ _ x h3 λ values read h4.
    let a : Asked = record { order = s.order; fields = field [] true [] kind none; columns = None; dictionaries = d; most = most } in
    let m : RecordBatch = record_batch_of s.order version y.values body in
    let t = tables_read a version [] y.values body None values read in
    let made = same_read _ x h4 in
    let rows : t.rows ≡ magnitude y.values.length = natural_is y.values.length t.rows t.count in
    let height : values.rows ≡ magnitude y.values.length = sym (ap (λ (z : TableBatch). z.rows) t.is) ∙ rows in
    record {
      kind = kind;
      under = required_is _ _ kind kind_is;
      floats = free_is (float_faults kind) v floats;
      count = t.count ∙ ap Ok rows;
      fine = ap (array_faults m d kind first_place) (sym rows) ∙ column_fine m d kind t.rows t.rows t.cells t.columns;
      id = ap (λ (z : HeldDictionary). z.id) made;
      is_delta = ap (λ (z : HeldDictionary). z.is_delta) made;
      written_is = sym (ap (λ (z : HeldDictionary). z.written) made) ∙ ap (λ n. written m kind first_place n 0 n) height;
    }

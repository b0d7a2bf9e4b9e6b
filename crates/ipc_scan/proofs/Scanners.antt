-- What a file is read for: the filter and the columns are right, or refused.
use Rattle.std.proofs.Common.{◌≡◌, ◌∙◌, ◌⊎◌, inl, inr, refl, ap, subst, ℕ, ◌<◌, ◌≤◌, List, [], ◌∷◌, length, Bool, true, false, nat_lt, Option, Ok, Err}
use Rattle.std.specs.Rc.{rc_value}
use Rattle.std.proofs.lemmas.Bool.{le-ltb, lt-ltb, ltb-true}
use Rattle.arrow_spec.specs.declared.error.Feature.TheVariants.{Predicate}
use Rattle.arrow_spec.specs.declared.error.IpcError.{IpcError}
use Rattle.arrow_spec.specs.declared.error.IpcError.TheVariants as errors
use Rattle.arrow_spec.specs.Features.{chosen_floats}
use Rattle.arrow_spec.specs.Files.{columns_right}
use Rattle.arrow_spec.specs.Kinds.{Fields, width}
use Rattle.arrow_spec.specs.Readings.{IsAmong, Refuses, bind, free_of, refusals, unless}
use Rattle.arrow_spec.proofs.Projection.{place-ok, went}
use Rattle.arrow_types.specs.Schemas.{fields_in}
use Rattle.ipc_fields.specs.IpcFields.{ids_of}
use Rattle.ipc_files.specs.FileViews.{meta_view}
use Rattle.ipc_files.specs.declared.metadata.FileMetadata.{FileMetadata}
use Rattle.ipc_files.proofs.ReadFiles.{file_width}
use Rattle.ipc_read.specs.Sources.{IsRefusal}
use Rattle.filter_types.specs.declared.filter.Filter.{Filter}
use Rattle.row_filters.specs.Filters.{is_tested}
use Rattle.laws_scan.specs.Scan.{scan_right}
use Rattle.ipc_scan.specs.Sends.{NotScanned}
use Rattle.ipc_scan.proofs.TestedColumns.{tested_with}

refused_among : (es : List IpcError) (e : IpcError) → IsAmong es e → IsAmong (refusals (free_of es)) e
refused_among [] e h = h
refused_among (x ∷ es) e h = h

among : (es : List IpcError) (e : IpcError) → IsRefusal e → Refuses e es → IsAmong es e
among es (errors.OutOfSpec kind) is h = h
among es (errors.Unsupported feature) is h = h
among es e is h = absurd is

module _ (f : Filter) (columns : Option (List ℕ)) (file : FileMetadata) where
  abbrev fields : Fields
  fields = (meta_view file).schema.fields

  -- the filter's column is one
  inside : f.column < length (rc_value file.schema) → nat_lt f.column (width fields) ≡ true
  inside less = ap (nat_lt f.column) (file_width file) ∙ lt-ltb f.column (length (rc_value file.schema)) less

  -- each of the columns asked for is one
  asked_right : columns_right columns (length (rc_value file.schema)) ≡ Ok tt → columns_right columns (width fields) ≡ Ok tt
  asked_right right = ap (columns_right columns) (file_width file) ∙ right

  pub file_tested : is_tested fields f.column ≡ is_tested (fields_in (rc_value file.schema)) f.column
  file_tested = tested_with (fields_in (rc_value file.schema)) (ids_of file.ipc_schema.fields.items) f.column

  pub outside : length (rc_value file.schema) ≤ f.column → NotScanned (errors.Projection f.column) fields f columns
  unfolding bind
  outside past =
      let past_all : nat_lt f.column (width fields) ≡ false = ap (nat_lt f.column) (file_width file) ∙ le-ltb f.column (length (rc_value file.schema)) past in
      inr (rw past_all (inl refl))

  pub wrong : (e : IpcError) → f.column < length (rc_value file.schema) → (e ≡ errors.Memory) ⊎ (columns_right columns (length (rc_value file.schema)) ≡ Err (e ∷ [])) → NotScanned e fields f columns
  unfolding bind
  wrong e less (inl memory) = inl memory
  wrong e less (inr refused) =
      let here = inside less in
      let there : columns_right columns (width fields) ≡ Err (e ∷ []) = ap (columns_right columns) (file_width file) ∙ refused in
      inr (rw (here, there) (inl refl))

  pub untested : f.column < length (rc_value file.schema) → columns_right columns (length (rc_value file.schema)) ≡ Ok tt → is_tested (fields_in (rc_value file.schema)) f.column ≡ false → NotScanned (errors.Unsupported Predicate) fields f columns
  unfolding bind
  untested less right clear =
      let here = inside less in
      let there = asked_right right in
      let test : is_tested fields f.column ≡ false = file_tested ∙ clear in
      inr (rw (here, there, test) (inl refl))

  pub unread : (e : IpcError) → f.column < length (rc_value file.schema) → columns_right columns (length (rc_value file.schema)) ≡ Ok tt → is_tested (fields_in (rc_value file.schema)) f.column ≡ true → IsRefusal e → Refuses e (chosen_floats columns fields 0) → NotScanned e fields f columns
  unfolding bind
  unread e less right test is refused =
      let here = inside less in
      let there = asked_right right in
      let tested : is_tested fields f.column ≡ true = file_tested ∙ test in
      inr (rw (here, there, tested) (refused_among (chosen_floats columns fields 0) e (among (chosen_floats columns fields 0) e is refused)))

  pub all_right : f.column < length (rc_value file.schema) → columns_right columns (length (rc_value file.schema)) ≡ Ok tt → is_tested (fields_in (rc_value file.schema)) f.column ≡ true → chosen_floats columns fields 0 ≡ [] → scan_right f columns fields ≡ Ok tt
  unfolding bind
  all_right less right test none =
      let here = inside less in
      let there = asked_right right in
      let tested : is_tested fields f.column ≡ true = file_tested ∙ test in
      rw (here, there, tested, none) refl

-- ── what is right ──

-- the filter's column is one, and of numbers, and no column asked for holds floats
pub record IsRight (f : Filter) (columns : Option (List ℕ)) (fs : Fields) : Type 0 where
  pub within : nat_lt f.column (width fs) ≡ true
  pub tested : is_tested fs f.column ≡ true
  pub floats : chosen_floats columns fs 0 ≡ []

unless_holds : (b : Bool) (e : IpcError) (u : Unit {0}) → unless b e ≡ Ok u → b ≡ true
unless_holds true e u h = refl
unless_holds false e u h = cc

pub right_parts : (f : Filter) (columns : Option (List ℕ)) (fs : Fields) → scan_right f columns fs ≡ Ok tt → IsRight f columns fs
right_parts f columns fs right =
    let here = went _ _ tt right in
    let asked = went _ _ tt here.rest in
    let test = went _ _ tt asked.rest in
    record {
      within = unless_holds _ _ here.got here.first;
      tested = unless_holds _ _ test.got test.first;
      floats = place-ok (chosen_floats columns fs 0) test.rest;
    }

pub right_within : (f : Filter) (columns : Option (List ℕ)) (file : FileMetadata) → scan_right f columns (meta_view file).schema.fields ≡ Ok tt → f.column < length (rc_value file.schema)
right_within f columns file right = subst (λ n. f.column < n) (file_width file) (ltb-true f.column _ (right_parts f columns (meta_view file).schema.fields right).within)

-- Files that mean tables of the same fields are refused where a device failed, memory was wanted or a message is too large.
use Rattle.std.proofs.Common.{◌≡◌, ◌∙◌, ◌⊎◌, sym, refl, ap, inl, inr, ℕ, ◌<◌, List, [], ◌∷◌, ◌++◌, length, Option, Some, None, Ok, subst, arith}
use Rattle.std.specs.List.{AllByRecursion}
use Rattle.arrow_spec.specs.declared.error.IpcError.{IpcError}
use Rattle.arrow_spec.specs.declared.error.IpcError.TheVariants as errors
use Rattle.arrow_spec.specs.Features.{chosen_floats}
use Rattle.arrow_spec.specs.Files.{ArrowTable, Meta, «all», custom_of, file_reading, meta_of, to_read}
use Rattle.arrow_spec.specs.Kinds.{Fields, Metadata, bare}
use Rattle.arrow_spec.specs.Readings.{Reading, Refuses, refusals, ◌>>=◌}
use Rattle.arrow_spec.proofs.Projection.{on}
use Rattle.arrow_spec.proofs.ReadPairs.{same_read}
use Rattle.ipc_io.specs.Outside.{Rose, Stands}
use Rattle.ipc_concat.specs.Concat.{AddsPart, AllStand, ConcatCause, IsOfPut, IsSmallRefusal}
use Rattle.ipc_concat.specs.Opening.{AreOpen, IsOpen, IsOpenWith, IsOpenWithOthers, RefusesStart, StopsOpening, StopsStart, opening}
use Rattle.ipc_concat.specs.Stopping.{IsFront, StopsBehind}
use Rattle.ipc_concat.specs.Tables.{AreTables, MeanTables}
use Rattle.ipc_concat.proofs.Joining.{IsOpenTable, TableAt, open_table, reads_whole, table_at}
use Rattle.ipc_concat.proofs.Keeping.{none_rose, not_rose}

module _ (e : IpcError) (reads reads' : List ℕ) (writes writes' : ℕ) (cause : ConcatCause e reads reads' writes writes') (stand : AllStand reads reads') (stands : Stands writes writes') where
  -- one that no bytes refuse
  small_device : Refuses e [] → IsSmallRefusal e
  small_device h = by e refl h cause
    where
      by : (f : IpcError) → e ≡ f → Refuses f [] → ConcatCause f reads reads' writes writes' → IsSmallRefusal e
      by errors.Memory is r c = inl is
      by errors.ReadFault is r c = absurd (none_rose reads reads' stand c)
      by errors.WriteFault is r c = absurd (not_rose writes writes' stands c)
      by f is r c = absurd r

  small_put : (wants wants' : ℕ) → IsOfPut e wants wants' → IsSmallRefusal e
  small_put wants wants' h = by e refl h cause
    where
      by : (f : IpcError) → e ≡ f → IsOfPut f wants wants' → ConcatCause f reads reads' writes writes' → IsSmallRefusal e
      by errors.Memory is r c = inl is
      by errors.WriteFault is r c = absurd (not_rose writes writes' stands c)
      by f is r c = absurd r

  module _ (bs : List (List ℕ)) (m : MeanTables bs) where
    abbrev Same : ArrowTable → Type 0
    Same u = u.fields ≡ m.first.fields

    all_same : AllByRecursion Same (m.first ∷ m.others)
    all_same = (refl, m.same)

    -- the table of a file among them
    there : (before : List (List ℕ)) (file : List ℕ) (behind : List (List ℕ)) → bs ≡ before ++ file ∷ behind → TableAt file Same
    there before file behind are = table_at Same before file behind (m.first ∷ m.others) (subst (λ xs. AreTables xs (m.first ∷ m.others)) are m.tables) all_same

    -- its metadata is read
    opens : (b : List ℕ) (t : ArrowTable) → IsOpenTable b t → refusals (opening b) ≡ []
    unfolding opening
    opens b t o = ap refusals (on _ _ o.meta o.opened.read ∙ on _ _ o.custom o.opened.pairs)

    same_meta : (b : List ℕ) (x y : Meta) → meta_of b ≡ Ok x → meta_of b ≡ Ok y → x ≡ y
    same_meta b x y h k = same_read x y (sym h ∙ k)

    -- the fields of the first of some files before it
    first_fields : (fields : Fields) (before : List (List ℕ)) (file : List ℕ) (behind : List (List ℕ)) → bs ≡ before ++ file ∷ behind → 0 < length before → AllByRecursion (IsOpenWith fields) before → m.first.fields ≡ fields
    first_fields fields [] file behind are some opened = absurd (omega (arith, some))
    first_fields fields (b ∷ before) file behind are some opened =
        let own : TableAt b Same = there [] b (before ++ file ∷ behind) are in
        let o = open_table b own.table own.means in
        sym own.has ∙ o.fields ∙ ap (λ (x : Meta). bare x.schema.fields) (same_meta b o.meta opened.0.meta o.opened.read opened.0.opened.read) ∙ opened.0.same

    small_opening : StopsOpening e bs → IsSmallRefusal e
    small_opening s = by s.why
      where
        own : TableAt s.file Same
        own = there s.before s.file s.behind s.are

        by : Refuses e (refusals (opening s.file)) ⊎ ((e ≡ errors.SchemaMismatch) × (0 < length s.before) × IsOpenWithOthers s.opened.fields s.file) → IsSmallRefusal e
        by (inl refused) = small_device (subst (Refuses e) (opens s.file own.table (open_table s.file own.table own.means)) refused)
        by (inr others) =
            let o = open_table s.file own.table own.means in
            let fields = first_fields s.opened.fields s.before s.file s.behind s.are others.1 s.opened.each in
            absurd (others.2.other (ap (λ (x : Meta). bare x.schema.fields) (same_meta s.file others.2.meta o.meta others.2.opened.read o.opened.read) ∙ sym o.fields ∙ own.has ∙ fields))

    small_start : StopsStart e bs → IsSmallRefusal e
    small_start s = by s.why
      where
        own : TableAt s.first Same
        own = there [] s.first s.others s.are

        by : RefusesStart e s.meta s.custom → IsSmallRefusal e
        by (inl refused) =
            let o = open_table s.first own.table own.means in
            let none : chosen_floats None s.meta.schema.fields 0 ≡ [] = ap (λ (x : Meta). chosen_floats None x.schema.fields 0) (same_meta s.first s.meta o.meta s.opened.read o.opened.read) ∙ o.readable in
            small_device (subst (Refuses e) none refused)
        by (inr large) = inr large.0

    small_file : {x : List ℕ} (f : IsFront bs x) → StopsBehind e f → IsSmallRefusal e
    small_file f (inl refused) =
        let own : TableAt f.file Same = there f.before f.file f.behind f.are in
        small_device (subst (Refuses e) (ap refusals (reads_whole f.file own.table own.means)) refused.0)
    small_file f (inr large) = inr large.0

    pub small : (text : List ℕ → List ℕ) (old new : Option (List ℕ)) (wants wants' : ℕ) → AddsPart e bs text old new wants wants' → IsSmallRefusal e
    small text old new wants wants' (AddsPart.in_metadata s kept) = small_opening s
    small text old new wants wants' (AddsPart.in_schema opened s kept) = small_start s
    small text old new wants wants' (AddsPart.in_file opened front added why) = small_file front why
    small text old new wants wants' (AddsPart.at_end memory unended joined added) = inl memory
    small text old new wants wants' (AddsPart.in_put opened put piece) = small_put wants wants' put

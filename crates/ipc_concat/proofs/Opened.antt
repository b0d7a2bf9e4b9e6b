-- Files whose metadata is read, one after another.
use Rattle.std.proofs.Common.{◌≡◌, ◌∙◌, ◌⊎◌, sym, refl, ap, inl, inr, ℕ, zero, suc, ◌+◌, ◌<◌, ◌≤◌, List, [], ◌∷◌, ◌++◌, length, get_or, take, drop, slice_get, true, false, Bool, Option, Some, None, Result, Ok, Err, subst, arith}
use Rattle.std.specs.Prelude.{IfErr, IfSome, nat_lt, ◌↔◌, IsTrue}
use Rattle.std.proofs.lemmas.Bool.{ltb-true}
use Rattle.std.specs.Rc.{rc_value}
use Rattle.std.specs.Option.{option_map}
use Rattle.std.specs.List.{AllByRecursion}
use Rattle.std.proofs.lemmas.Option.{get_or_from_slice_get, slice_get_within}
use Rattle.arrow_spec.specs.declared.error.IpcError.{IpcError}
use Rattle.arrow_spec.specs.declared.error.IpcError.TheVariants as errors
use Rattle.arrow_spec.specs.Files.{Meta, Request, «all», columns_right, custom_of, file_reading, meta_of, to_send}
use Rattle.arrow_spec.specs.Kinds.{Metadata, bare, have_same_kinds, struct, width}
use Rattle.arrow_spec.specs.Readings.{IsAmong, Reading, Refuses, bind, refusals, ◌>>=◌}
use Rattle.arrow_spec.proofs.Projection.{on}
use Rattle.arrow_spec.proofs.SentMessages.{on_err}
use Rattle.laws_transcode.proofs.Readings.{columns_refused, custom_refused, meta_refused}
use Rattle.arrow_types.specs.Schemas.{Keyed, fields_in}
use Rattle.ipc_fields.proofs.SameKinds.{same_itself}
use Rattle.ipc_io.specs.Outside.{IsSize}
use Rattle.laws_walk.specs.Below.{FileCause, FileMetadata, MayProject, ProjectionInfo, file_custom, meta_view, FileCursor}
use Rattle.laws_walk.proofs.Places.{split_at, take_next}
use Rattle.ipc_concat.specs.Files.{AreAlike, AreUnread, FitsFirst, FitsKinds, HasFieldsOf, IsUnread, first_schema, schema_of}
use Rattle.ipc_concat.specs.Opening.{AreOpen, IsOpen, IsOpenWith, IsOpenWithOthers, StopsOpening, opening}
use Rattle.ipc_concat.specs.Tables.{told}
use Rattle.ipc_concat.proofs.Fields.{bare_of}
use Rattle.ipc_concat.proofs.Joining.{all_and, length_taken, told_at, told_split, unread_length}

-- ── one file ──

-- A column that is none is refused behind the metadata, and by its own name. So what refuses a file whatever is asked of it refuses its metadata.
wrong_is : (n : ℕ) → columns_right (Some (n ∷ [])) n ≡ Err (errors.Projection n ∷ [])
unfolding bind
wrong_is n = by (nat_lt n n) refl
  where
    by : (t : Bool) → nat_lt n n ≡ t → columns_right (Some (n ∷ [])) n ≡ Err (errors.Projection n ∷ [])
    by true e = let never : n < n = ltb-true n n e in absurd (omega (arith, never))
    by false e = rw e refl

module _ (b : List ℕ) (e : IpcError) (faults faults' : ℕ) (cause : FileCause e faults faults') (refused : (r : Request) → Refuses e (refusals (file_reading to_send b r None))) where
  named : (n : ℕ) → Refuses e (errors.Projection n ∷ []) → Refuses e []
  named n h = by e refl cause h
    where
      by : (f : IpcError) → e ≡ f → FileCause f faults faults' → Refuses f (errors.Projection n ∷ []) → Refuses e []
      by errors.Memory is c h = rw is tt
      by errors.ReadFault is c h = rw is tt
      by (errors.OutOfSpec kind) is c (inl h) = cc
      by (errors.OutOfSpec kind) is c (inr h) = absurd h
      by (errors.Unsupported feature) is c (inl h) = cc
      by (errors.Unsupported feature) is c (inr h) = absurd h
      by (errors.TooMany counted) is c (inl h) = cc
      by (errors.TooMany counted) is c (inr h) = absurd h
      by errors.TooDeep is c (inl h) = cc
      by errors.TooDeep is c (inr h) = absurd h
      by f is c h = absurd c

  pub opening_refused : Refuses e (refusals (opening b))
  unfolding opening
  opening_refused = by (meta_of b) refl
    where
      custom : (meta : Meta) → meta_of b ≡ Ok meta → (r : Reading Metadata) → custom_of b ≡ r → Refuses e (refusals (opening b))
      custom meta is (Err es) k = subst (λ z. Refuses e (refusals z)) (sym (on _ _ meta is ∙ on_err _ _ es k)) (subst (λ z. Refuses e (refusals z)) (custom_refused to_send b «all» None meta es is k) (refused «all»))
      custom meta is (Ok pairs) k =
          let n = width meta.schema.fields in
          let r : Request = record { columns = Some (n ∷ []); limit = None } in
          let all = columns_refused to_send b r None meta pairs (errors.Projection n ∷ []) is k (wrong_is n) in
          subst (λ z. Refuses e (refusals z)) (sym (on _ _ meta is ∙ on _ _ pairs k)) (named n (subst (λ z. Refuses e (refusals z)) all (refused r)))

      by : (r : Reading Meta) → meta_of b ≡ r → Refuses e (refusals (opening b))
      by (Err es) is = subst (λ z. Refuses e (refusals z)) (sym (on_err _ _ es is)) (subst (λ z. Refuses e (refusals z)) (meta_refused to_send b «all» None es is) (refused «all»))
      by (Ok meta) is = custom meta is (custom_of b) refl

pub file_refused : {X : Type 0} (r : Result X IpcError) (e : IpcError) (content : Option (List ℕ)) (faults faults' : ℕ) → r ≡ Err e → FileCause e faults faults' → IfSome content (λ b. (r : Request) → Refuses e (refusals (file_reading to_send b r None))) → IfErr r (λ e. IfSome content (λ b. Refuses e (refusals (opening b))))
file_refused r e None faults faults' is cause h = subst (λ z. IfErr z (λ e. IfSome None (λ b. Refuses e (refusals (opening b))))) (sym is) tt
file_refused r e (Some b) faults faults' is cause h = subst (λ z. IfErr z (λ e. IfSome (Some b) (λ b. Refuses e (refusals (opening b))))) (sym is) (opening_refused b e faults faults' cause h)

-- all columns are right, so a cursor is refused for want of memory alone
only_memory : (e : IpcError) (n : ℕ) → (e ≡ errors.Memory) ⊎ (columns_right None n ≡ Err (e ∷ [])) → e ≡ errors.Memory
only_memory e n (inl memory) = memory
only_memory e n (inr never) = cc

pub cursor_refused : {X : Type 0} (r : Result X IpcError) (e : IpcError) (content : Option (List ℕ)) (columns : Option (List ℕ)) (n : ℕ) → r ≡ Err e → columns ≡ None → (e ≡ errors.Memory) ⊎ (columns_right columns n ≡ Err (e ∷ [])) → IfErr r (λ e. IfSome content (λ b. Refuses e (refusals (opening b))))
cursor_refused r e content columns n is all h = subst (λ z. IfErr z (λ e. IfSome content (λ b. Refuses e (refusals (opening b))))) (is_memory (only_memory e n (subst (λ cs. (e ≡ errors.Memory) ⊎ (columns_right cs n ≡ Err (e ∷ []))) all h))) (by content)
  where
    is_memory : e ≡ errors.Memory → Err errors.Memory ≡ r
    is_memory memory = sym (is ∙ ap (λ x. Err x) memory)

    by : (o : Option (List ℕ)) → IfSome o (λ b. Refuses errors.Memory (refusals (opening b)))
    by None = tt
    by (Some b) = tt

pub cursor_cause : {X : Type 0} (r : Result X IpcError) (e : IpcError) (columns : Option (List ℕ)) (n faults faults' : ℕ) → r ≡ Err e → columns ≡ None → (e ≡ errors.Memory) ⊎ (columns_right columns n ≡ Err (e ∷ [])) → IfErr r (λ e. FileCause e faults faults')
cursor_cause r e columns n faults faults' is all h =
    let memory = only_memory e n (subst (λ cs. (e ≡ errors.Memory) ⊎ (columns_right cs n ≡ Err (e ∷ []))) all h) in
    subst (λ z. IfErr z (λ e. FileCause e faults faults')) (sym (is ∙ ap (λ x. Err x) memory)) tt

pub none_projected : (s : List Keyed) (p : Option ProjectionInfo) → MayProject s None p → p ≡ None
none_projected s None h = refl
none_projected s (Some p) h = absurd h

-- ── several ──

-- those that were opened tell their metadata
pub are_open : (s : List Keyed) (contents : List (Option (List ℕ))) (cs : List FileCursor) (bs : List (List ℕ)) → told contents ≡ Some bs → AreUnread contents cs → AllByRecursion (HasFieldsOf s) cs → AllByRecursion (IsOpenWith (bare (fields_in s))) bs
are_open s [] [] bs h unread fields = let none : [] ≡ bs = cc in subst (AllByRecursion (IsOpenWith (bare (fields_in s)))) none tt
are_open s [] (c ∷ cs) bs h unread fields = absurd unread
are_open s (o ∷ contents) [] bs h unread fields = absurd unread
are_open s (None ∷ contents) (c ∷ cs) bs h unread fields = cc
are_open s (Some b ∷ contents) (c ∷ cs) bs h unread fields =
    let t = told_split b contents bs h in
    let first : IsOpenWith (bare (fields_in s)) b
    = record { meta = meta_view c.metadata; custom = file_custom c.metadata; opened = record { read = unread.0.says.read; pairs = unread.0.says.pairs }; same = bare_of c.metadata ∙ sym fields.0.fields } in
    subst (AllByRecursion (IsOpenWith (bare (fields_in s)))) t.2 (first, are_open s contents cs t.0 t.1 unread.1 fields.1)

-- so do the first of them
told_take : (contents : List (Option (List ℕ))) (bs : List (List ℕ)) (i : ℕ) → told contents ≡ Some bs → told (take i contents) ≡ Some (take i bs)
told_take contents bs zero h = refl
told_take [] bs (suc i) h = let none : [] ≡ bs = cc in ap (λ ds. Some (take (suc i) ds)) none
told_take (None ∷ contents) bs (suc i) h = cc
told_take (Some b ∷ contents) bs (suc i) h =
    let t = told_split b contents bs h in
    ap (option_map (λ ds. b ∷ ds)) (told_take contents t.0 i t.1) ∙ ap (λ xs. Some (take (suc i) xs)) t.2

unread_and : (contents : List (Option (List ℕ))) (cs : List FileCursor) (o : Option (List ℕ)) (c : FileCursor) → AreUnread contents cs → IsUnread o c → AreUnread (contents ++ o ∷ []) (cs ++ c ∷ [])
unread_and [] [] o c h k = (k, tt)
unread_and [] (d ∷ ds) o c h k = absurd h
unread_and (b ∷ bs) [] o c h k = absurd h
unread_and (b ∷ bs) (d ∷ ds) o c h k = (h.0, unread_and bs ds o c h.1 k)

pub unread_more : (contents : List (Option (List ℕ))) (cs : List FileCursor) (i : ℕ) (o : Option (List ℕ)) (c : FileCursor) → slice_get contents i ≡ Some o → AreUnread (take i contents) cs → IsUnread o c → AreUnread (take (i + 1) contents) (cs ++ c ∷ [])
unread_more contents cs i o c at h k = subst (λ xs. AreUnread xs (cs ++ c ∷ [])) (sym (take_next contents i o at)) (unread_and (take i contents) cs o c h k)

pub alike_more : (cs : List FileCursor) (c : FileCursor) → AreAlike cs → FitsFirst cs c → FitsKinds cs c → AreAlike (cs ++ c ∷ [])
alike_more [] c h fields kinds = (record { fields = refl; kinds = same_itself (struct (fields_in (schema_of c))) }, tt)
alike_more (d ∷ ds) c h fields kinds = all_and (HasFieldsOf (schema_of d)) (d ∷ ds) c h (record { fields = fields; kinds = kinds })

pub tell_all : (contents : List (Option (List ℕ))) (P : List (List ℕ) → Type 0) → ((bs : List (List ℕ)) → told contents ≡ Some bs → P bs) → IfSome (told contents) P
tell_all contents P h = by (told contents) refl
  where
    by : (o : Option (List (List ℕ))) → told contents ≡ o → IfSome o P
    by None e = tt
    by (Some bs) e = h bs e

-- ── one of them stops ──

-- a file has other fields than the first
abbrev pub HasOthers : List FileCursor → List ℕ → Type 0
HasOthers cs b = (0 < length cs) × IsOpenWithOthers (bare (fields_in (first_schema cs))) b

pub others_of : (cs : List FileCursor) (b : List ℕ) (c : FileCursor) → IsUnread (Some b) c → (FitsFirst cs c → ⊥) → HasOthers cs b
others_of [] b c u not = absurd (not tt)
others_of (d ∷ ds) b c u not = (
  omega arith,
  record {
    meta = meta_view c.metadata;
    custom = file_custom c.metadata;
    opened = record { read = u.says.read; pairs = u.says.pairs };
    other = λ same. not (sym (sym (bare_of c.metadata) ∙ same));
  },
)

-- why a file stops
abbrev pub StopsFor : IpcError → List FileCursor → List ℕ → Type 0
StopsFor e cs b = Refuses e (refusals (opening b)) ⊎ ((e ≡ errors.SchemaMismatch) × HasOthers cs b)

pub stops_opening : (contents : List (Option (List ℕ))) (i : ℕ) (cs : List FileCursor) (o : Option (List ℕ)) (e : IpcError) → i < length contents → o ≡ get_or contents i o → AreUnread (take i contents) cs → AreAlike cs → ((b : List ℕ) → o ≡ Some b → StopsFor e cs b)
    → IfSome (told contents) (λ bs. StopsOpening e bs)
stops_opening contents i cs o e less at unread alike why = tell_all contents (λ bs. StopsOpening e bs) λ bs told.
    let there = told_at contents bs i told less in
    let own : o ≡ Some there.bytes = at ∙ get_or_from_slice_get contents i (Some there.bytes) o there.content in
    let fields = bare (fields_in (first_schema cs)) in
    let opened : AllByRecursion (IsOpenWith fields) (take i bs) = are_open (first_schema cs) (take i contents) cs (take i bs) (told_take contents bs i told) unread alike in
    record {
      before = take i bs;
      file = there.bytes;
      behind = drop (i + 1) bs;
      are = split_at bs i there.bytes there.own;
      opened = record { fields = fields; each = opened };
      why = elim (why there.bytes own) [ inl refused ↦ inl refused | inr others ↦ inr (others.0, some bs (there.own) others.1.0, others.1.1) ];
    }
  where
    some : (bs : List (List ℕ)) {b : List ℕ} → slice_get bs i ≡ Some b → 0 < length cs → 0 < length (take i bs)
    some bs at more =
        let count : length cs ≡ length (take i contents) = unread_length (take i contents) cs unread in
        let one = length_taken contents i (omega (arith, less)) in
        let two = length_taken bs i (let within = slice_get_within bs i _ at in omega (arith, within)) in
        omega (arith, more, count, one, two)

-- ── the first of some ──

pub fits_as : (cs : List FileCursor) (d c : FileCursor) (r : Bool) (a b : List Keyed) → 0 < length cs → d ≡ get_or cs 0 d → a ≡ rc_value d.metadata.schema → b ≡ rc_value c.metadata.schema → IsTrue r ↔ (bare (fields_in a) ≡ bare (fields_in b)) → IsTrue r ↔ FitsFirst cs c
fits_as [] d c r a b some is p q h = absurd (omega (arith, some))
fits_as (e ∷ es) d c r a b some is p q h =
    let x : bare (fields_in a) ≡ bare (fields_in (schema_of e)) = ap (λ s. bare (fields_in s)) p ∙ ap (λ (k : FileCursor). bare (fields_in (schema_of k))) is in
    let y : bare (fields_in b) ≡ bare (fields_in (schema_of c)) = ap (λ s. bare (fields_in s)) q in
    (λ t. sym x ∙ h.0 t ∙ y, λ t. h.1 (x ∙ t ∙ sym y))

pub kinds_as : (cs : List FileCursor) (d c : FileCursor) (a b : List Keyed) → 0 < length cs → d ≡ get_or cs 0 d → have_same_kinds (fields_in a) (fields_in b) ≡ true → a ≡ rc_value d.metadata.schema → b ≡ rc_value c.metadata.schema → FitsKinds cs c
kinds_as [] d c a b some is h p q = absurd (omega (arith, some))
kinds_as (e ∷ es) d c a b some is h p q =
    subst (λ (k : FileCursor). have_same_kinds (fields_in (schema_of k)) (fields_in (schema_of c)) ≡ true) is
    (subst (λ s. have_same_kinds (fields_in s) (fields_in (schema_of c)) ≡ true) p (subst (λ s. have_same_kinds (fields_in a) (fields_in s) ≡ true) q h))

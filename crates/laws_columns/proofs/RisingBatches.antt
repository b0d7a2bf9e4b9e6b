-- A batch of columns that were read by rising numbers is, in whatever order, that of the columns asked for.
use Rattle.std.proofs.Common.{◌≡◌, inl, inr, ℕ, List, [], ◌∷◌, true, Some, Ok, refl, sym, ap, ◌∙◌, map}
use Rattle.std.specs.Prelude.{slice_get}
use Rattle.arrow_spec.specs.Columns.{columns_at, stands_in}
use Rattle.arrow_spec.specs.Counts.{RecordBatch, first_place}
use Rattle.arrow_spec.specs.Files.{TableBatch, as_asked, record_batch_of, share, to_read}
use Rattle.arrow_spec.proofs.Projection.{on}
use Rattle.ipc_write.specs.Below.{cells_in}
use Rattle.laws_transcode.specs.Files.{ArePicked, with_columns}
use Rattle.laws_columns.specs.Laws.{RisingBatchIsAsked, RisingBatchRefuses}
use Rattle.laws_transcode.proofs.ChosenColumns.{same_columns, stands_either, stands_first, stands_later}
use Rattle.laws_transcode.proofs.ReadTables.{refused_so, tables_read}

-- what two functions give of each of some numbers and of the items there, they give of one of them
one_picked : {A B : Type 0} (f : ℕ → B) (g : A → B) (all : List A) (cs : List ℕ) (xs : List A) (c : ℕ) (x : A) → ArePicked all cs xs → map f cs ≡ map g xs → stands_in cs c ≡ true → slice_get all c ≡ Some x → f c ≡ g x
one_picked f g all [] [] c x are same is at = cc
one_picked f g all [] (y ∷ ys) c x are same is at = absurd are
one_picked f g all (i ∷ cs) [] c x are same is at = absurd are
one_picked f g all (i ∷ cs) (y ∷ ys) c x are same is at = elim (stands_either i c cs is) [ inl e ↦ cc (are.0) | inr later ↦ one_picked f g all cs ys c x are.1 (cc) later at ]

-- so they give the same of all that are picked among them
all_picked : {A B : Type 0} (f : ℕ → B) (g : A → B) (all : List A) (cs : List ℕ) (xs : List A) → ((c : ℕ) (x : A) → stands_in cs c ≡ true → slice_get all c ≡ Some x → f c ≡ g x) → ArePicked all cs xs → map f cs ≡ map g xs
all_picked f g all [] [] one are = refl
all_picked f g all [] (x ∷ xs) one are = absurd are
all_picked f g all (c ∷ cs) [] one are = absurd are
all_picked f g all (c ∷ cs) (x ∷ xs) one are = rw (one c x (stands_first c cs) are.0, all_picked f g all cs xs (λ i y is at. one i y (stands_later c i cs is) at) are.1) refl

pub rising_asked : RisingBatchIsAsked
rising_asked a rising asked v custom tables body left held rows read given same right h picked wanted =
    let m : RecordBatch = record_batch_of a.order v tables body in
    let t = tables_read (with_columns (Some rising) a) v custom tables body left _ h in
    let few : share left t.rows ≡ rows = ap (λ (y : TableBatch). y.rows) t.is in
    let cells_are : as_asked (Some rising) t.cells ≡ map cells_in read = ap (λ (y : TableBatch). y.columns) t.is in
    let others : as_asked (Some asked) t.cells ≡ map cells_in given =
    all_picked _ cells_in _ asked given (λ c x is at. one_picked _ cells_in _ rising read c x picked cells_are (same c ∙ is) at) wanted in
    let columns : columns_at m a.dictionaries (Some asked) a.fields 0 first_place t.rows (share left t.rows) ≡ Ok t.cells = same_columns m a.dictionaries (Some asked) (Some rising) a.fields 0 first_place t.rows (share left t.rows) (λ c. sym (same c)) ∙ t.columns in
    t.behind to_read (Some asked) ∙ on _ _ _ columns ∙ on _ _ tt refl ∙ rw (few, others) refl

pub rising_refuses : RisingBatchRefuses
rising_refuses a rising asked v custom tables body left es same h =
    refused_so to_read (Some asked) (with_columns (Some rising) a) v custom tables body left es (λ n few. same_columns (record_batch_of a.order v tables body) a.dictionaries (Some asked) (Some rising) a.fields 0 first_place n few (λ c. sym (same c))) h

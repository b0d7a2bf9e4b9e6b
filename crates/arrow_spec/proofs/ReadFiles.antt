-- What the footer of a file says of its schema: it may be written.
use Rattle.std.proofs.Common.{◌≡◌, ℕ, zero, suc, List, [], ◌∷◌, take, drop, Ok, subst, arith}
use Rattle.arrow_spec.specs.Flat.{Table}
use Rattle.arrow_spec.specs.Schema.{Schema, schema_of}
use Rattle.arrow_spec.specs.Files.{Meta, footer_of, meta_in}
use Rattle.arrow_spec.specs.Laws.{AreBytes}
use Rattle.arrow_spec.specs.WrittenSchemas.{IdsMayBeWritten, SchemaMayBeWritten}
use Rattle.arrow_spec.proofs.ReadPairs.{same_read, through}
use Rattle.arrow_spec.proofs.ReadSchemas.{read_may}

-- ── bytes ──

bytes_take : (n : ℕ) (b : List ℕ) → AreBytes b → AreBytes (take n b)
bytes_take zero b h i = omega arith
bytes_take (suc n) [] h i = omega arith
bytes_take (suc n) (x ∷ b) h zero = h 0
bytes_take (suc n) (x ∷ b) h (suc i) = bytes_take n b (λ k. h (suc k)) i

bytes_drop : (n : ℕ) (b : List ℕ) → AreBytes b → AreBytes (drop n b)
bytes_drop zero b h i = h i
bytes_drop (suc n) [] h i = omega arith
bytes_drop (suc n) (x ∷ b) h i = bytes_drop n b (λ k. h (suc k)) i

footer_bytes : (b f : List ℕ) → AreBytes b → footer_of b ≡ Ok f → AreBytes f
unfolding footer_of
footer_bytes b f bytes h =
    through _ _ f h λ size size_is h1. through _ _ f h1 λ feather feather_is h2. through _ _ f h2 λ trailer trailer_is h3. through _ _ f h3 λ n n_is h4. through _ _ f h4 λ whole whole_is h5.
    subst (λ x. AreBytes x) (same_read _ f h5) (bytes_take n _ (bytes_drop _ b bytes))

-- ── the schema in a footer ──

-- what follows of the schema that a footer has
in_footer : {P : Schema → Type 0} (f : List ℕ) (meta : Meta) → ((t : Table) (s : Schema) → schema_of f t ≡ Ok s → P s) → meta_in f ≡ Ok meta → P meta.schema
unfolding meta_in
in_footer {P} f meta k h =
    through _ _ meta h λ t t_is h1. through _ _ meta h1 λ v v_is h2. through _ _ meta h2 λ blocks blocks_are h3. through _ _ meta h3 λ w w_is h4. through _ _ meta h4 λ dictionaries dictionaries_are h5.
    through _ _ meta h5 λ table table_is h6. through _ _ meta h6 λ s s_is h7. subst (λ (m : Meta). P m.schema) (same_read _ meta h7) (k table s s_is)

-- the schema of a footer may be written
pub footer_schema_may : (f : List ℕ) (meta : Meta) → AreBytes f → meta_in f ≡ Ok meta → SchemaMayBeWritten meta.schema.fields meta.schema.metadata × IdsMayBeWritten meta.schema.fields
footer_schema_may f meta bytes h = in_footer f meta (λ t s s_is. read_may f t s bytes s_is) h

-- What the first bytes of the worked stream mean.
use Rattle.std.proofs.Common.{◌≡◌, ℕ, zero, suc, List, [], ◌∷◌, take, refl}
use Rattle.std.specs.Prelude.{◌++◌, replicate}
use Rattle.laws_worked.proofs.Vectors.{int32_stream}
use Rattle.laws_worked.proofs.Int32Table.{computed}
use Rattle.arrow_spec.specs.declared.error.IpcError.{IpcError}
use Rattle.arrow_spec.specs.declared.error.IpcError.TheVariants.{OutOfSpec}
use Rattle.arrow_spec.specs.declared.error.OutOfSpecKind.TheVariants as kinds
use Rattle.arrow_spec.specs.Readings.{refusals}
use Rattle.arrow_spec.specs.Streams.{stream_reading}

abbrev pub why : ℕ → List IpcError
why n = refusals (stream_reading (take n int32_stream) Rattle.std.specs.Prelude.None)

abbrev pub whys : ℕ → ℕ → List (List IpcError)
whys i zero = []
whys i (suc n) = why i ∷ whys (suc i) n

abbrev pub same : ℕ → List IpcError → List (List IpcError)
same zero es = []
same (suc n) es = es ∷ same n es

-- a schema is missing, then the stream ends inside a message but where one may begin
pub prefixes : whys 0 425 ≡ same 4 (OutOfSpec kinds.MissingSchema ∷ []) ++ same 132 (OutOfSpec kinds.Truncated ∷ []) ++ same 4 [] ++ same 276 (OutOfSpec kinds.Truncated ∷ []) ++ same 4 [] ++ same 4 (OutOfSpec kinds.Truncated ∷ []) ++ same 1 []
unfolding computed
prefixes = refl

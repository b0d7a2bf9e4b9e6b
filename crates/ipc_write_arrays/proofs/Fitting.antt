-- What is read of bytes is a number of its type.
use Rattle.std.proofs.Common.{ℕ, ◌<◌, ◌^◌, arith}
use Rattle.std.specs.Prelude.{FitsSigned}
use Rattle.std.specs.Int.{Width, cast_signed}
use Rattle.arrow_spec.specs.Flat.{from_bytes}
use Rattle.arrow_types.specs.BytesBack.{number_fits}
use Rattle.arrow_types.specs.Numbers.{signed_from_bytes, unsigned_from_bytes}
use Rattle.ipc_bodies.specs.Fitting.{ReadsFit}
use borrow.Author.Differences.{fits_in, read_fits}
use mir.Val.{bits}

signed_fits : (w : Width) (n : ℕ) → FitsSigned w (cast_signed w n)
signed_fits w n = omega (arith, fits_in, read_fits w n)

pub signed_reads : (w : Width) → ReadsFit (signed_from_bytes w) (FitsSigned w)
signed_reads w = λ order bytes h. signed_fits w (from_bytes order w bytes)

pub unsigned_reads : (w : Width) → ReadsFit (unsigned_from_bytes w) (λ x. x < 2 ^ bits w)
unsigned_reads w = λ order bytes h. number_fits w order bytes h

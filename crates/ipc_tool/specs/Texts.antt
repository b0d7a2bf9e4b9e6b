-- A text that is said of a file's bytes, as it is put.
use Rattle.std.specs.Prelude.{◌≡◌, ◌≤◌, ℕ, List, Option, IfSome, IsOk, Ok}
use Rattle.std.specs.Io.KnownBytes.{Appends, Keeps}
use Rattle.arrow_spec.specs.declared.error.IpcError.{IpcError}
use Rattle.arrow_spec.specs.declared.error.IpcError.TheVariants as errors
use Rattle.arrow_spec.specs.Readings.{Reading, IsAmong, refusals}
use Rattle.ipc_io.specs.Outside.{AppendsPrefix}
use Rattle.ipc_tool.specs.FileTasks.{FileJob}

-- how a text is said of bytes
abbrev pub TextOf : Type 0
TextOf = List ℕ → Reading (List ℕ)

-- The text was added.
pub record AddsText (said_of : TextOf) (b : List ℕ) (old new : Option (List ℕ)) : Type 0 where
  pub text : List ℕ
  pub said : said_of b ≡ Ok text
  pub added : Appends old new text

-- A part of the text was added, from its front.
pub record AddsTextFront (said_of : TextOf) (b : List ℕ) (old new : Option (List ℕ)) : Type 0 where
  pub text : List ℕ
  pub said : said_of b ≡ Ok text
  pub added : AppendsPrefix old new text

-- what printing that was refused added: nothing; after a failed put a part of the text
abbrev pub AddsTextPart : TextOf → IpcError → Option (List ℕ) → Option (List ℕ) → Option (List ℕ) → Type 0
AddsTextPart said_of errors.WriteFault content old new = IfSome content (λ b. AddsTextFront said_of b old new)
AddsTextPart said_of _ content old new = Keeps old new

-- a text is put, in one piece; its own statuses are at most a number
abbrev pub text_job : TextOf → ℕ → FileJob
text_job said_of most = record {
  done = AddsText said_of;
  may = λ e b. IsAmong (refusals (said_of b)) e;
  left = λ e content old new wants wants'. AddsTextPart said_of e content old new;
  must = λ b. IsOk (said_of b);
  still = λ e b. ⊥;
  statuses = λ status. status ≤ most;
}

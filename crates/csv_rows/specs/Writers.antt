-- What a writer of comma-separated fields has written.
use Rattle.std.specs.Prelude.{◌≡◌, ◌==◌, ◌||◌, ◌&&◌, not, ℕ, List, length, Bool, false, Option, Some}
use Rattle.std.specs.declared.alloc.Global.{Global}
use Rattle.std.specs.declared.vec.Vec.{Vec}
use Rattle.std.specs.Io.KnownBytes.{Appends}
use Rattle.csv.specs.Writing.{default_writer, fields_written, has_written, is_blank, row_body, text_written, writer_setup}
use Rattle.csv.specs.declared.writer.Writer.{Writer}

-- a writer over bytes that are held
abbrev pub TextWriter : Type 0
TextWriter = Writer (Vec ℕ Global)

-- the bytes that it has written
abbrev pub text_of : TextWriter → Option (List ℕ)
text_of w = text_written (λ v. Some v.items) w

-- it is at the start of a row
pub record IsAtRow (w : TextWriter) : Type 0 where
  pub setup : writer_setup w ≡ default_writer
  pub fields : fields_written w ≡ 0
  pub wrote : has_written w ≡ false

-- it has written some fields of a row behind what was written before
pub record IsInRow (start : Option (List ℕ)) (w : TextWriter) (cells : List (List ℕ)) : Type 0 where
  pub setup : writer_setup w ≡ default_writer
  pub text : Appends start (text_of w) (row_body default_writer cells)
  pub fields : fields_written w ≡ length cells
  pub blank : is_blank default_writer cells ≡ (not (has_written w) && ((length cells == 0) || (length cells == 1)))

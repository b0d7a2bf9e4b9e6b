-- Texts that are written, and put in parts.
use Rattle.std.proofs.Common.{◌≡◌, ◌∙◌, sym, refl, ap, subst, ℕ, zero, suc, ◌+◌, ◌<◌, ◌≤◌, ◌==◌, true, false, List, [], ◌∷◌, ◌++◌, length, append_assoc, append-nil, Option, Some, None, Result, Ok, Err, arith}
use Rattle.std.specs.Io.KnownBytes.{Appends}
use Rattle.std.proofs.KnownBytes.{Appends-nil, Appends-trans}
use Rattle.std.proofs.lemmas.Bool.{ne_eqb}
use Rattle.std.proofs.lemmas.List.{length-append}
use Rattle.arrow_spec.specs.declared.error.IpcError.{IpcError}
use Rattle.arrow_spec.specs.declared.error.IpcError.TheVariants as errors
use Rattle.arrow_arrays.specs.Parts.{Parts}
use Rattle.std.specs.declared.alloc.Global.{Global}
use Rattle.std.specs.declared.vec.Vec.{Vec}
use Rattle.arrow_arrays.specs.PartsOf.{all_parts_of}
use Rattle.arrow_arrays.specs.declared.array.Array.{Array}
use Rattle.csv.specs.Writing.{default_writer, row_text, writer_pending, writer_under}
use Rattle.arrow_types.specs.Schemas.{Keyed}
use Rattle.csv_rows.specs.Shown.{shown_cells, shown_names, shown_rows}
use Rattle.csv_rows.specs.Writers.{TextWriter, text_of}
use Rattle.ipc_bodies.specs.Puts.{Moved, PutsPart}
use Rattle.ipc_io.specs.Outside.{AppendsPrefix, Rose}
use Rattle.ipc_io.proofs.Known.{AppendsPrefix-after, AppendsPrefix-front, AppendsPrefix-within}
use Rattle.csv_rows.specs.Output.{HasPut, HasWritten, PutCause, Puts, Writes, header_of, rows_of}
use Rattle.csv_rows.specs.declared.output.TextOut.{TextOut}

-- ── one text behind another ──

-- what was put is a part of what was written
pub written_part : (start now : Option (List ℕ)) (o : TextOut) (text : List ℕ) → HasWritten start now o text → AppendsPrefix start now text
written_part start now o text h = subst (AppendsPrefix start now) (sym h.all) (AppendsPrefix-front start now h.put h.held h.added)

-- what was put is written
pub put_is_written : (start now : Option (List ℕ)) (o : TextOut) (text : List ℕ) → HasPut start now o text → HasWritten start now o text
put_is_written start now o text h = record { put = text; held = []; all = sym (append-nil text); added = h.added; kept = h.kept; count = h.count }

-- known bytes with more behind them
appended : (a b : Option (List ℕ)) (xs ys : List ℕ) → a ≡ Some xs → Appends a b ys → b ≡ Some (xs ++ ys)
appended None b xs ys h k = cc
appended (Some x) None xs ys h k = absurd k
appended (Some x) (Some y) xs ys h k = let e : x ≡ xs = cc in ap Some (k ∙ ap (λ z. z ++ ys) e)

-- a row more was written
pub row_written : (start now : Option (List ℕ)) (o o' : TextOut) (text row : List ℕ) → HasWritten start now o text → Appends (text_of o.writer) (text_of o'.writer) row → o'.bytes ≡ o.bytes → HasWritten start now o' (text ++ row)
row_written start now o o' text row h more same = record {
  put = h.put;
  held = h.held ++ row;
  all = ap (λ t. t ++ row) h.all ∙ append_assoc h.put h.held row;
  added = h.added;
  kept = appended (text_of o.writer) (text_of o'.writer) h.held row h.kept more;
  count = same ∙ h.count;
}

-- ── what is held is put ──

same_some : (xs ys : List ℕ) → ◌≡◌ {A = Option (List ℕ)} (Some xs) (Some ys) → xs ≡ ys
same_some xs ys h = cc

pub held_put : (start old new : Option (List ℕ)) (o o' : TextOut) (text v : List ℕ) → HasWritten start old o text → text_of o.writer ≡ Some v → Appends old new v → o'.bytes ≡ o.bytes + length v → text_of o'.writer ≡ Some [] → HasPut start new o' text
held_put start old new o o' text v h is more count empty =
    let same : h.held ≡ v = same_some h.held v (sym h.kept ∙ is) in
    let all : text ≡ h.put ++ v = h.all ∙ ap (λ z. h.put ++ z) same in
    record {
      added = subst (Appends start new) (sym all) (Appends-trans start old new h.put v h.added more);
      kept = empty;
      count = count ∙ ap (λ n. n + length v) h.count ∙ sym (length-append h.put v) ∙ ap length (sym all);
    }

pub held_part : (start old new : Option (List ℕ)) (o : TextOut) (text v : List ℕ) → HasWritten start old o text → text_of o.writer ≡ Some v → AppendsPrefix old new v → AppendsPrefix start new text
held_part start old new o text v h is part =
    let same : h.held ≡ v = same_some h.held v (sym h.kept ∙ is) in
    let all : text ≡ h.put ++ v = h.all ∙ ap (λ z. h.put ++ z) same in
    subst (AppendsPrefix start new) (sym all) (AppendsPrefix-after start old new h.put v h.added part)

-- a put that failed
pub part_put : (m : Moved) (e : IpcError) (bs : List ℕ) → PutsPart m e bs → AppendsPrefix m.old m.new bs
part_put m errors.WriteFault bs h = h.0
part_put m errors.Memory bs h = h.0
part_put m e bs h = absurd h

pub part_cause : (m : Moved) (e : IpcError) (bs : List ℕ) → PutsPart m e bs → PutCause e m.faults m.faults_now
part_cause m errors.WriteFault bs h = h.2
part_cause m errors.Memory bs h = tt
part_cause m e bs h = absurd h

-- ── rows ──

pub rows_more : (ps : List Parts) (i n : ℕ) → shown_rows ps i (n + 1) ≡ shown_rows ps i n ++ row_text default_writer (shown_cells ps (i + n))
rows_more ps i zero =
    let e : i + 0 ≡ i = omega arith in
    append-nil (row_text default_writer (shown_cells ps i)) ∙ ap (λ k. row_text default_writer (shown_cells ps k)) (sym e)
rows_more ps i (suc n) =
    let e : suc n + 1 ≡ suc (n + 1) = omega arith in
    let f : suc i + n ≡ i + suc n = omega arith in
    rw e (ap (λ t. row_text default_writer (shown_cells ps i) ++ t) (rows_more ps (suc i) n ∙ ap (λ k. shown_rows ps (suc i) n ++ row_text default_writer (shown_cells ps k)) f)
    ∙ sym (append_assoc (row_text default_writer (shown_cells ps i)) (shown_rows ps (suc i) n) (row_text default_writer (shown_cells ps (i + suc n)))))

-- fewer rows are a front of more
rows_front : (ps : List Parts) (i n m : ℕ) → n ≤ m → (rest : List ℕ) × (shown_rows ps i m ≡ shown_rows ps i n ++ rest)
rows_front ps i zero m h = (shown_rows ps i m, refl)
rows_front ps i (suc n) zero h = absurd (omega arith)
rows_front ps i (suc n) (suc m) h =
    let p = rows_front ps (suc i) n m (omega arith) in
    (p.0, ap (λ t. row_text default_writer (shown_cells ps i) ++ t) p.1 ∙ sym (append_assoc (row_text default_writer (shown_cells ps i)) (shown_rows ps (suc i) n) p.0))

-- a part of the first rows is a part of all
pub part_of_rows : (ps : List Parts) (row height : ℕ) (start now : Option (List ℕ)) (text : List ℕ) → row < height
    → AppendsPrefix start now ((text ++ shown_rows ps 0 row) ++ row_text default_writer (shown_cells ps row)) → AppendsPrefix start now (text ++ shown_rows ps 0 height)
part_of_rows ps row height start now text less part =
    let p = rows_front ps 0 (row + 1) height (omega arith) in
    let k : 0 + row ≡ row = omega arith in
    let more : shown_rows ps 0 (row + 1) ≡ shown_rows ps 0 row ++ row_text default_writer (shown_cells ps row) = rows_more ps 0 row ∙ ap (λ j. shown_rows ps 0 row ++ row_text default_writer (shown_cells ps j)) k in
    let whole : ((text ++ shown_rows ps 0 row) ++ row_text default_writer (shown_cells ps row)) ++ p.0 ≡ text ++ shown_rows ps 0 height
    = ap (λ t. t ++ p.0) (append_assoc text (shown_rows ps 0 row) (row_text default_writer (shown_cells ps row)) ∙ ap (λ t. text ++ t) (sym more)) ∙ append_assoc text (shown_rows ps 0 (row + 1)) p.0 ∙ ap (λ t. text ++ t) (sym p.1) in
    subst (AppendsPrefix start now) whole (AppendsPrefix-within start now ((text ++ shown_rows ps 0 row) ++ row_text default_writer (shown_cells ps row)) p.0 part)

-- where there are arrays their rows are printed
pub rows_there : (ps : List Parts) (height : ℕ) → (ps ≡ [] → ⊥) → rows_of ps height ≡ shown_rows ps 0 height
rows_there [] height some = absurd (some refl)
rows_there (p ∷ ps) height some = refl

-- what was put was written
pub puts_written : {X : Type 0} (start now : Option (List ℕ)) (o : TextOut) (text : List ℕ) (r : Result X IpcError) → Puts start now o text r → Writes start now o text r
puts_written start now o text (Ok x) h = put_is_written start now o text h
puts_written start now o text (Err e) h = h

-- rows that were put or not, where there are arrays
pub puts_rows : {X : Type 0} (start now : Option (List ℕ)) (o : TextOut) (text : List ℕ) (ps qs : List Parts) (height : ℕ) (r : Result X IpcError) → ps ≡ qs → (ps ≡ [] → ⊥) → Puts start now o (text ++ shown_rows ps 0 height) r → Puts start now o (text ++ rows_of qs height) r
puts_rows start now o text ps qs height r same some h =
    let e : shown_rows ps 0 height ≡ rows_of qs height = sym (rows_there ps height some) ∙ ap (λ z. rows_of z height) same in
    subst (λ t. Puts start now o (text ++ t) r) e h

pub puts_err : {X : Type 0} (start now : Option (List ℕ)) (o : TextOut) (text : List ℕ) (r : Result X IpcError) (e : IpcError) → r ≡ Err e → AppendsPrefix start now text → Puts start now o text r
puts_err start now o text r e is h = subst (Puts start now o text) (sym is) h

pub writes_err : {X : Type 0} (start now : Option (List ℕ)) (o : TextOut) (text : List ℕ) (r : Result X IpcError) (e : IpcError) → r ≡ Err e → AppendsPrefix start now text → Writes start now o text r
writes_err start now o text r e is h = subst (Writes start now o text) (sym is) h

-- a writer over no bytes
pub fresh_text : (w : TextWriter) (v : Vec ℕ Global) → writer_under w ≡ v → writer_pending w ≡ [] → v.items ≡ [] → text_of w ≡ Some []
fresh_text w v under pending none = ap (λ z. Some (z.items ++ writer_pending w)) under ∙ ap (λ z. Some (v.items ++ z)) pending ∙ ap Some (append-nil v.items) ∙ ap Some none

-- arrays that have no parts are none
pub no_parts : (xs : List Array) → all_parts_of xs ≡ [] → xs ≡ []
no_parts [] h = refl
no_parts (x ∷ xs) h = cc

-- arrays that are there have parts
pub some_parts : (xs : List Array) → (length xs == 0) ≡ false → all_parts_of xs ≡ [] → ⊥
some_parts [] h e = cc
some_parts (x ∷ xs) h e = cc

not_none : (n : ℕ) → (suc n == 0) ≡ true → ⊥
not_none n h =
    let e : (suc n == 0) ≡ false = ne_eqb (suc n) 0 (λ q. cc q) in
    let clash : true ≡ false = sym h ∙ e in
    cc

-- where there are none there are no rows
pub no_rows : (xs : List Array) (qs : List Parts) (height : ℕ) → (length xs == 0) ≡ true → all_parts_of xs ≡ qs → rows_of qs height ≡ []
no_rows [] qs height h same = ap (λ z. rows_of z height) (sym same)
no_rows (x ∷ xs) qs height h same = absurd (not_none (length xs) h)

-- ── names ──

pub no_header : (s : List Keyed) → length s ≡ 0 → header_of s ≡ []
no_header [] h = refl
no_header (p ∷ ps) h = absurd (omega arith)

pub header_there : (s : List Keyed) → (length s ≡ 0 → ⊥) → row_text default_writer (shown_names s) ≡ header_of s
header_there [] some = absurd (some refl)
header_there (p ∷ ps) some = refl

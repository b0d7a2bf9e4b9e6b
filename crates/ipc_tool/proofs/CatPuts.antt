-- What the stream of several files adds to its output, by what joining them and the line feed's put added.
use Rattle.std.proofs.Common.{◌≡◌, ◌⊎◌, inl, inr, refl, ℕ, ◌≤◌, arith, List, [], ◌∷◌, ◌++◌, true, false, Option, None, Some, Result, Ok, Err, IfErr, IfSome, IsErrAnd}
use Rattle.std.proofs.KnownBytes.{Appends-trans}
use Rattle.std.specs.Io.KnownBytes.{Appends}
use Rattle.arrow_spec.specs.declared.error.IpcError.{IpcError}
use Rattle.arrow_spec.specs.declared.error.IpcError.TheVariants as errors
use Rattle.ipc_io.specs.declared.outside.PutError.{PutError}
use Rattle.ipc_io.specs.declared.outside.PutError.TheVariants as put
use Rattle.ipc_io.specs.Faults.{put_error}
use Rattle.ipc_io.specs.Outside.{Puts, PutHasCause, Rose, Stands}
use Rattle.ipc_io.proofs.Known.{AppendsPrefix-after, Appends-kept_nil}
use Rattle.ipc_bodies.specs.declared.encoding.Encoding.TheVariants.{Bytes, HexText}
use Rattle.ipc_bodies.specs.Encodings.{text_of}
use Rattle.ipc_round_trip.specs.Below.{Summary}
use Rattle.ipc_log_streams.specs.Below.{AddsPart, ConcatCause, Concatenates, IsSmallRefusal}
use Rattle.ipc_tool.specs.Commands.Cat.{AddsAll, AddsCat}
use Rattle.ipc_tool.proofs.Adding.{IfErr-at}
use Rattle.ipc_tool.proofs.CatNames.{by_told}
use Rattle.ipc_tool.proofs.FileTasks.{stood}

module _ (told : Option (List (List ℕ))) (old : Option (List ℕ)) where
  -- ── as bytes ──

  pub raw_added : (s : Summary) (new : Option (List ℕ)) → IfSome told (λ bs. Concatenates s bs (text_of Bytes) old new) → IfSome told (λ bs. AddsAll bs true old new)
  raw_added s new h = by_told (λ bs. Concatenates s bs (text_of Bytes) old new) (λ bs. AddsAll bs true old new) told (λ bs c. record { bytes = c.bytes; is_closed = c.is_closed; joins = c.joins; added = c.added }) h

  pub raw_refused : (e : IpcError) (new : Option (List ℕ)) (wants wants' : ℕ) → IfSome told (λ bs. AddsPart e bs (text_of Bytes) old new wants wants') → IfSome told (λ bs. AddsCat e bs true old new wants wants')
  raw_refused e new wants wants' h = by_told (λ bs. AddsPart e bs (text_of Bytes) old new wants wants') (λ bs. AddsCat e bs true old new wants wants') told (λ bs p. AddsCat.in_joining p) h

  -- ── as hex text and a line feed ──

  pub hex_refused : (e : IpcError) (new : Option (List ℕ)) (wants wants' : ℕ) → IfSome told (λ bs. AddsPart e bs (text_of HexText) old new wants wants') → IfSome told (λ bs. AddsCat e bs false old new wants wants')
  hex_refused e new wants wants' h = by_told (λ bs. AddsPart e bs (text_of HexText) old new wants wants') (λ bs. AddsCat e bs false old new wants wants') told (λ bs p. AddsCat.in_joining p) h

  module _ (s : Summary) (mid new : Option (List ℕ)) (whole : IfSome told (λ bs. Concatenates s bs (text_of HexText) old mid)) where
    pub hex_added : Appends mid new (10 ∷ []) → IfSome told (λ bs. AddsAll bs false old new)
    hex_added line = by_told (λ bs. Concatenates s bs (text_of HexText) old mid) (λ bs. AddsAll bs false old new) told
        (λ bs c. record { bytes = c.bytes; is_closed = c.is_closed; joins = c.joins; added = Appends-trans old mid new (text_of HexText c.bytes) (10 ∷ []) c.added line }) whole

    rose_later : (a b c : ℕ) → a ≤ b → Rose b c → Rose a c
    rose_later a b c h r = omega (arith, h, r)

    behind_stream : (e : PutError) (bs : List (List ℕ)) (faults faults' before wants wants' : ℕ) → before ≤ wants → PutHasCause faults faults' wants wants' (Err e) → Puts mid new (Err e) (10 ∷ []) → Concatenates s bs (text_of HexText) old mid → AddsCat (put_error e) bs false old new before wants'
    behind_stream put.Failed bs faults faults' before wants wants' later c p w = AddsCat.at_line_feed refl tt w.is_closed w.joins (AppendsPrefix-after old mid new (text_of HexText w.bytes) (10 ∷ []) w.added p)
    behind_stream put.Memory bs faults faults' before wants wants' later c p w =
        AddsCat.at_line_feed refl (rose_later before wants wants' later (c.wanted refl)) w.is_closed w.joins (AppendsPrefix-after old mid new (text_of HexText w.bytes) (10 ∷ []) w.added (0, Appends-kept_nil mid new p))

    pub line_feed_refused : (e : PutError) (faults faults' before wants wants' : ℕ) → before ≤ wants → PutHasCause faults faults' wants wants' (Err e) → Puts mid new (Err e) (10 ∷ []) → IfSome told (λ bs. AddsCat (put_error e) bs false old new before wants')
    line_feed_refused e faults faults' before wants wants' later c p =
        by_told (λ bs. Concatenates s bs (text_of HexText) old mid) (λ bs. AddsCat (put_error e) bs false old new before wants') told (λ bs w. behind_stream e bs faults faults' before wants wants' later c p w) whole

-- ── why ──

-- what is told of a refusal is told of the error that is handed on
pub complete_at : {T : Type 0} (told : Option (List (List ℕ))) (P : List (List ℕ) → Type 0) (A B : Type 0) (S : IpcError → Type 0) (r : Result T IpcError) (e : IpcError) → IsErrAnd r (λ f. f ≡ e) → IfSome told (λ bs. P bs → A → B → S e)
    → IfSome told (λ bs. P bs → A → B → IfErr r S)
complete_at None P A B S r e at h = tt
complete_at (Some bs) P A B S r e at h = λ p a b. IfErr-at r S e at (h p a b)

later_rose : (a b c : ℕ) → a ≤ b → Rose b c → Rose a c
later_rose a b c h r = omega (arith, h, r)

module _ (e : PutError) (reads reads' : List ℕ) (first before now wants wants' : ℕ) (later : first ≤ before) (c : PutHasCause before now wants wants' (Err e)) where
  pub put_cause : ConcatCause (put_error e) reads reads' first now
  put_cause = by e c
    where
      by : (p : PutError) → PutHasCause before now wants wants' (Err p) → ConcatCause (put_error p) reads reads' first now
      by put.Failed k = later_rose first before now later (k.failed refl)
      by put.Memory k = tt

  put_small : Stands first now → IsSmallRefusal (put_error e)
  put_small s = by e c
    where
      by : (p : PutError) → PutHasCause before now wants wants' (Err p) → IsSmallRefusal (put_error p)
      by put.Failed k = absurd (stood first now s (later_rose first before now later (k.failed refl)))
      by put.Memory k = inl refl

  pub put_complete : {T : Type 0} (told : Option (List (List ℕ))) (P : List (List ℕ) → Type 0) (A : Type 0) (r : Result T IpcError) → IsErrAnd r (λ f. f ≡ put_error e) → IfSome told (λ bs. P bs → A → Stands first now → IfErr r IsSmallRefusal)
  put_complete None P A r at = tt
  put_complete (Some bs) P A r at = λ p a s. IfErr-at r IsSmallRefusal (put_error e) at (put_small s)

-- The footer of a file that is fetched, and what it says.
use Rattle.std.proofs.Common.{◌≡◌, inl, ℕ, ◌-◌, ◌<◌, ◌≤◌, List, length, take, drop, Option, Some, None, Result, Ok, Err, refl, sym, ◌∙◌, ap, arith, subst, length-drop}
use Rattle.std.specs.Prelude.{IfSome}
use Rattle.std.proofs.lemmas.List.{take_all}
use Rattle.arrow_spec.specs.declared.error.IpcError.{IpcError}
use Rattle.arrow_spec.specs.declared.error.IpcError.TheVariants.{OutOfSpec}
use Rattle.arrow_spec.specs.declared.error.OutOfSpecKind.TheVariants as kinds
use Rattle.arrow_spec.specs.Readings.{Gives, Reading, Refuses, refusals}
use Rattle.arrow_spec.specs.Files.{Meta, Request, custom_of, file_reading, footer_of, meta_in, meta_of, to_send}
use Rattle.arrow_spec.specs.Kinds.{Metadata}
use Rattle.arrow_spec.specs.Messages.{footer_pairs}
use Rattle.laws_columns.proofs.Below.{custom_refuses, meta_refuses}
use Rattle.ipc_io.specs.Outside.{IsSize}
use Rattle.ipc_schema.proofs.Footers.{footer_cut}
use Rattle.ipc_files.specs.FileBlocks.{Fetched, Faulted, GivesIn}
use Rattle.ipc_fields.specs.Causes.{Decodes}
use Rattle.ipc_fields.proofs.Steps.{gives, refuses}
use Rattle.ipc_files.specs.FileViews.{FileSays}
use Rattle.ipc_files.proofs.BlockPrefixes.{memory_or_fault}
use Rattle.ipc_files.proofs.BlockMessages.{refused_first, after_prefix}

pub cut_short : {X : Type 0} (content : Option (List ℕ)) (size : ℕ) (view : X → List ℕ) → IsSize content size → size < 10 → GivesIn content view (Err (OutOfSpec kinds.Truncated)) footer_of
cut_short None size view s h = tt
cut_short (Some b) size view s h = subst (λ r. Refuses (OutOfSpec kinds.Truncated) (refusals r)) (sym (footer_cut b (omega (arith, s, h)))) (inl refl)

pub footer_faulted : {X Y : Type 0} (content : Option (List ℕ)) (view : X → Y) (e : IpcError) (reading : List ℕ → Reading Y) → Faulted content e → GivesIn content view (Err e) reading
footer_faulted None view e reading h = tt
footer_faulted (Some b) view e reading h = memory_or_fault e (reading b) h

-- the ten bytes at the end of a file
pub end_of : (b : List ℕ) (size : ℕ) (end text : List ℕ) → size ≡ length b → 10 ≤ size → end ≡ take 10 (drop (size - 10) b) → text ≡ end → drop (size - 10) b ≡ text
end_of b size end text s long f t =
    let all : length (drop (size - 10) b) ≡ 10 = omega (arith, length-drop (size - 10) b, s, long) in
    sym (t ∙ f ∙ take_all 10 (drop (size - 10) b) (omega (arith, all)))

-- what the ten bytes at the end say of a file of so many bytes
abbrev pub SaysFooter : ℕ → List ℕ → Result ℕ IpcError → Type 0
SaysFooter size end r = (b : List ℕ) → length b ≡ size → drop (size - 10) b ≡ end → Decodes (λ n. take n (drop (size - 10 - n) b)) r (footer_of b)

pub length_refused : {X : Type 0} (content : Option (List ℕ)) (size : ℕ) (end text : List ℕ) (view : X → List ℕ) (e : IpcError) → IsSize content size → 10 ≤ size → Fetched content (size - 10) 10 end → text ≡ end → SaysFooter size text (Err e) → GivesIn content view (Err e) footer_of
length_refused None size end text view e s long f t h = tt
length_refused (Some b) size end text view e s long f t h = refuses e (refusals (footer_of b)) (h b (sym s) (end_of b size end text s long f t))

pub footer_fetched : {X : Type 0} (content after : Option (List ℕ)) (size : ℕ) (end text : List ℕ) (view : X → List ℕ) (n : ℕ) (x : X)
    → IsSize content size → 10 ≤ size → Fetched content (size - 10) 10 end → text ≡ end → SaysFooter size text (Ok n) → after ≡ content → Fetched after (size - 10 - n) n (view x) → GivesIn content view (Ok x) footer_of
footer_fetched None after size end text view n x s long f t h same g = tt
footer_fetched (Some b) after size end text view n x s long f t h same g =
    let here : view x ≡ take n (drop (size - 10 - n) b) = subst (λ c. Fetched c (size - 10 - n) n (view x)) same g in
    h b (sym s) (end_of b size end text s long f t) ∙ ap Ok (sym here)

-- a refusal that is handed on
pub same_reading : {X : Type 0} (content : Option (List ℕ)) (view : X → List ℕ) (r : Result X IpcError) (e : IpcError) → r ≡ Err e → GivesIn content view (Err e) footer_of → GivesIn content view r footer_of
same_reading content view r e is h = subst (λ q. GivesIn content view q footer_of) (sym is) h

-- the footer that was fetched, with the file's size beside it; or none
pub footer_kept : {X Y : Type 0} (content after : Option (List ℕ)) (view : X → List ℕ) (x : X) (of : Y → List ℕ) (y : Y) → of y ≡ view x → after ≡ content → GivesIn after view (Ok x) footer_of → GivesIn content of (Ok y) footer_of
footer_kept None after view x of y e same h = tt
footer_kept (Some b) after view x of y e same h = let read : footer_of b ≡ Ok (view x) = subst (λ c. GivesIn c view (Ok x) footer_of) same h in read ∙ ap Ok (sym e)

pub footer_lost : {X Y : Type 0} (content after : Option (List ℕ)) (view : X → List ℕ) (of : Y → List ℕ) (r : Result Y IpcError) (e : IpcError) → r ≡ Err e → after ≡ content → GivesIn after view (Err e) footer_of → GivesIn content of r footer_of
footer_lost None after view of r e is same h = tt
footer_lost (Some b) after view of r e is same h = subst (λ q. Gives of q (footer_of b)) (sym is) (subst (λ c. GivesIn c view (Err e) footer_of) same h)

-- ── what the footer says ──

-- a reading of the footer, where the footer was fetched
of_footer : {X : Type 0} (b : List ℕ) (view : X → List ℕ) (x : X) → footer_of b ≡ Ok (view x) → meta_in (view x) ≡ meta_of b
unfolding meta_of
of_footer b view x h = after_prefix (footer_of b) (λ f. meta_in f) (view x) h

pairs_of_footer : {X : Type 0} (b : List ℕ) (view : X → List ℕ) (x : X) → footer_of b ≡ Ok (view x) → footer_pairs (view x) ≡ custom_of b
unfolding custom_of
pairs_of_footer b view x h = after_prefix (footer_of b) (λ f. footer_pairs f) (view x) h

not_fetched : (b : List ℕ) (e : IpcError) → Refuses e (refusals (footer_of b)) → Refuses e (refusals (meta_of b))
unfolding meta_of
not_fetched b e h = refused_first e (footer_of b) (λ f. meta_in f) h

-- the footer was not fetched
pub footer_refused : {X Y : Type 0} (content : Option (List ℕ)) (view : X → List ℕ) (meta : Y → Meta) (r : Result Y IpcError) (e : IpcError) → r ≡ Err e → GivesIn content view (Err e) footer_of → IfSome content (λ b. Gives meta r (meta_of b))
footer_refused None view meta r e is h = tt
footer_refused (Some b) view meta r e is h = subst (λ q. Gives meta q (meta_of b)) (sym is) (not_fetched b e h)

-- it was fetched, and says so
pub meta_said : {X Y : Type 0} (content : Option (List ℕ)) (view : X → List ℕ) (x : X) (meta : Y → Meta) (r : Result Y IpcError) → GivesIn content view (Ok x) footer_of → Decodes meta r (meta_in (view x)) → IfSome content (λ b. Gives meta r (meta_of b))
meta_said None view x meta r h g = tt
meta_said (Some b) view x meta r h g = subst (λ q. Gives meta r q) (of_footer b view x h) (gives meta r (meta_in (view x)) g)

-- ── a file that is to be sent ──

abbrev RefusesToSend : IpcError → List ℕ → Type 0
RefusesToSend e b = (r : Request) → Refuses e (refusals (file_reading to_send b r None))

-- its footer was not fetched
pub footer_not_fetched : {X : Type 0} (content : Option (List ℕ)) (view : X → List ℕ) (e : IpcError) → GivesIn content view (Err e) footer_of → IfSome content (λ b. RefusesToSend e b)
footer_not_fetched None view e h = tt
footer_not_fetched (Some b) view e h = λ r. meta_refuses e b r (not_fetched b e h)

-- it says nothing that is a footer
pub footer_not_read : {X Y : Type 0} (content : Option (List ℕ)) (view : X → List ℕ) (x : X) (meta : Y → Meta) (e : IpcError) → GivesIn content view (Ok x) footer_of → Decodes meta (Err e) (meta_in (view x)) → IfSome content (λ b. RefusesToSend e b)
footer_not_read None view x meta e h g = tt
footer_not_read (Some b) view x meta e h g = λ r. meta_refuses e b r (subst (λ q. Refuses e (refusals q)) (of_footer b view x h) (refuses e (refusals (meta_in (view x))) g))

-- its pairs are damaged, or are too many
pub pairs_refused : {X Y Z : Type 0} (content : Option (List ℕ)) (view : X → List ℕ) (x : X) (text : List ℕ) (meta : Y → Meta) (y : Y) (custom : Z → Metadata) (e : IpcError) → GivesIn content view (Ok x) footer_of → Decodes meta (Ok y) (meta_in (view x)) → text ≡ view x → Decodes custom (Err e) (footer_pairs text) → IfSome content (λ b. RefusesToSend e b)
pairs_refused None view x text meta y custom e h g t p = tt
pairs_refused (Some b) view x text meta y custom e h g t p =
    let read : meta_of b ≡ Ok (meta y) = sym (of_footer b view x h) ∙ g in
    λ r. custom_refuses e b r (meta y) read (subst (λ q. Refuses e (refusals q)) (ap (λ f. footer_pairs f) t ∙ pairs_of_footer b view x h) (refuses e (refusals (footer_pairs text)) p))

-- it says so, and has these pairs
pub whole_said : {X Y Z : Type 0} (content : Option (List ℕ)) (view : X → List ℕ) (x : X) (text : List ℕ) (meta : Y → Meta) (y : Y) (custom : Z → Metadata) (z : Z) (said : Meta) (pairs : Metadata) → said ≡ meta y → pairs ≡ custom z
    → GivesIn content view (Ok x) footer_of → Decodes meta (Ok y) (meta_in (view x)) → text ≡ view x → Decodes custom (Ok z) (footer_pairs text) → IfSome content (λ b. FileSays b said pairs)
whole_said None view x text meta y custom z said pairs e f h g t p = tt
whole_said (Some b) view x text meta y custom z said pairs e f h g t p = record {
  read = sym (of_footer b view x h) ∙ g ∙ ap Ok (sym e);
  pairs = sym (ap (λ f. footer_pairs f) t ∙ pairs_of_footer b view x h) ∙ p ∙ ap Ok (sym f);
}

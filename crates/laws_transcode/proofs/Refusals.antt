-- What refuses a part of a file refuses the file where it is to be sent.
use Rattle.std.proofs.Common.{◌≡◌, ℕ, List, [], ◌∷◌, ◌++◌, None, Ok, Err, refl, ◌∙◌, subst, append-nil}
use Rattle.arrow_spec.specs.declared.error.IpcError.{IpcError}
use Rattle.arrow_spec.specs.Kinds.{Metadata}
use Rattle.arrow_spec.specs.Readings.{Reading, Refuses, free_of, refusals}
use Rattle.arrow_spec.specs.Files.{Meta, Request, custom_of, dictionaries_of, dictionaries_read, file_reading, meta_of, to_send}
use Rattle.arrow_spec.proofs.Causes.{refuses_second}
use Rattle.laws_transcode.specs.Files.{IsSentFile, StopsBehind}
use Rattle.laws_transcode.proofs.Readings.{custom_refused, dictionaries_refuse, meta_refused}

place_refusals : (es : List IpcError) → refusals (free_of es) ≡ es
place_refusals [] = refl
place_refusals (e ∷ es) = refl

-- a device's fault or want of memory is answered whatever is read
pub none_refuses : (e : IpcError) (es : List IpcError) → Refuses e [] → Refuses e es
none_refuses e es h = subst (λ l. Refuses e l) (place_refusals (es ++ []) ∙ append-nil es) (refuses_second es [] e h)

-- what refuses a part of a reading refuses the whole that its refusals refuse
pub refuses_whole : {A B : Type 0} (e : IpcError) (part : Reading A) (whole : Reading B) → ((es : List IpcError) → part ≡ Err es → whole ≡ Err es) → Refuses e (refusals part) → Refuses e (refusals whole)
refuses_whole e (Err es) whole is h = rw (is es refl) h
refuses_whole e (Ok x) whole is h = none_refuses e (refusals whole) h

-- what refuses the footer
pub meta_refuses : (e : IpcError) (b : List ℕ) (r : Request) → Refuses e (refusals (meta_of b)) → Refuses e (refusals (file_reading to_send b r None))
meta_refuses e b r h = refuses_whole e (meta_of b) _ (λ es is. meta_refused to_send b r None es is) h

-- what refuses the footer's pairs
pub custom_refuses : (e : IpcError) (b : List ℕ) (r : Request) (meta : Meta) → meta_of b ≡ Ok meta → Refuses e (refusals (custom_of b)) → Refuses e (refusals (file_reading to_send b r None))
custom_refuses e b r meta is h = refuses_whole e (custom_of b) _ (λ es found. custom_refused to_send b r None meta es is found) h

-- what refuses the dictionaries refuses the file, and the file up to its first block
pub dictionaries_refuse_so : (e : IpcError) (b : List ℕ) (r : Request) (meta : Meta) (custom : Metadata) → IsSentFile b r meta custom
    → Refuses e (refusals (dictionaries_of b meta [] (dictionaries_read meta.blocks meta.dictionaries))) → Refuses e (refusals (file_reading to_send b r None)) × StopsBehind b r 0 e
dictionaries_refuse_so e b r meta custom file h =
    let part = dictionaries_of b meta [] (dictionaries_read meta.blocks meta.dictionaries) in
    (refuses_whole e part _ (λ es is. (dictionaries_refuse b r meta custom es file is).0) h, refuses_whole e part _ (λ es is. (dictionaries_refuse b r meta custom es file is).1) h)

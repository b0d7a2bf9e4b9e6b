-- One of several files, whose reader was opened.
use Rattle.std.proofs.Common.{◌≡◌, sym, ℕ, ◌<◌, List, length, get_or, map, Option, None, subst}
use Rattle.std.specs.List.{AllByRecursion}
use Rattle.arrow_types.specs.Schemas.{Keyed}
use Rattle.ipc_io.specs.Outside.{IsSize}
use Rattle.laws_walk.specs.Below.{FileCursor}
use Rattle.ipc_concat.specs.Concat.{EachKept}
use Rattle.ipc_concat.specs.Files.{AreUnread, HasFieldsOf, IsReaderOf, IsUnread}
use Rattle.ipc_concat.proofs.Files.{all_at, unread_at}
use Rattle.ipc_concat.proofs.OpenCalls.{content_at}

-- its size is the length of what its source tells
pub size_of : {S : Type 0} (content_of : S → Option (List ℕ)) (faults_of : S → ℕ) (references_of : S → List ℕ) (us xs : List S) (i : ℕ) (r : S) (kept : EachKept content_of faults_of references_of us xs) (cs : List FileCursor) (c d : FileCursor) → AreUnread (map content_of us) cs → i < length cs → c ≡ get_or cs i d
    → IsSize (content_of (get_or xs i r)) c.metadata.size
size_of content_of faults_of references_of us xs i r kept cs c d unread less is =
    let o = content_of (get_or xs i r) in
    let u : IsUnread (get_or (map content_of us) i o) c = subst (IsUnread (get_or (map content_of us) i o)) (sym is) (unread_at (map content_of us) cs i o d unread less) in
    subst (λ k. IsSize k c.metadata.size) (sym (content_at content_of faults_of references_of us xs i r kept)) u.size

pub reader_of : (s t : List Keyed) (contents : List (Option (List ℕ))) (cs : List FileCursor) (i : ℕ) (c d : FileCursor) → t ≡ s → AreUnread contents cs → AllByRecursion (HasFieldsOf s) cs → i < length cs → c ≡ get_or cs i d → IsReaderOf t c
reader_of s t contents cs i c d same unread fields less is =
    let u = unread_at contents cs i None d unread less in
    subst (λ k. IsReaderOf k c) (sym same) (subst (IsReaderOf s) (sym is) (record { read = u.read; projection = u.projection; fields = all_at (HasFieldsOf s) cs i d fields less }))

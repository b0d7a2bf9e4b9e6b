-- Files under several names, which are opened and closed.
use Rattle.std.proofs.Common.{◌≡◌, ◌∙◌, ◌⊎◌, inl, inr, refl, sym, ap, ap₂, subst, ℕ, zero, suc, ◌+◌, ◌-◌, ◌<◌, ◌≤◌, arith, true, false, List, [], ◌∷◌, ◌++◌, length, drop, get_or, map, take, Option, Some, None, IfSome, IsSome, IsSomeAnd, option_map}
use Rattle.std.specs.Prelude.{Any}
use Rattle.std.specs.Borrow.{Bor}
use Rattle.std.proofs.lemmas.List.{map-append, take_all, take_more}
use Rattle.arrow_spec.specs.declared.error.IpcError.TheVariants as errors
use Rattle.arrow_spec.specs.Words.{Held}
use Rattle.ipc_io.specs.Outside.{Closes, IsHeld, Lacks, Rose, Stands}
use Rattle.ipc_log_streams.specs.Below.{AllStand, EachKept, OneRose, told}
use Rattle.ipc_words.specs.Views.{text, texts}
use Rattle.ipc_tool.specs.Commands.Cat.{AreHeld, NoneHasFailed, OneHasFailed, OpensNext, WhyNotOpened, first_name, held_under}
use Rattle.ipc_tool.specs.Tasks.{IsMissing}
use Rattle.ipc_tool.specs.declared.refusal.Refusal.{Refusal}
use Rattle.ipc_tool.specs.declared.refusal.Refusal.TheVariants.{Ipc, Words, NotHex, InputTooLong, NoName}

no_none : false ≡ true → ⊥
no_none h = cc

-- ── what is told ──

are_held : (held : Held) (names : List (List ℕ)) (contents : List (Option (List ℕ))) → AreHeld (Some held) names contents → contents ≡ map held names
are_held held [] [] are = refl
are_held held [] (c ∷ cs) are = absurd are
are_held held (n ∷ ns) [] are = absurd are
are_held held (n ∷ ns) (c ∷ cs) are = ap₂ (λ own others. own ∷ others) (sym are.0.1) (are_held held ns cs are.1)

with_others : (b : List ℕ) (o : Option (List (List ℕ))) → IsSome o → IsSome (option_map (λ bs. b ∷ bs) o)
with_others b None there = there
with_others b (Some bs) there = there

all_told : (held : Held) (names : List (List ℕ)) (contents : List (Option (List ℕ))) → AreHeld (Some held) names contents → IsSome (told contents)
all_told held [] [] are = refl
all_told held [] (c ∷ cs) are = absurd are
all_told held (n ∷ ns) [] are = absurd are
all_told held (n ∷ ns) (None ∷ cs) are = absurd (no_none are.0.0)
all_told held (n ∷ ns) (Some b ∷ cs) are = with_others b (told cs) (all_told held ns cs are.1)

module _ (P : List (List ℕ) → Type 0) where
  there_and : (o : Option (List (List ℕ))) → IsSome o → IfSome o P → IsSomeAnd o P
  there_and None there h = absurd (no_none there)
  there_and (Some bs) there h = h

  -- what holds of the bytes of files that were opened holds of what stands under their names
  pub of_files : (held : Option Held) (names : List (List ℕ)) (contents : List (Option (List ℕ))) → AreHeld held names contents → IfSome (told contents) P → IfSome held (λ h. IsSomeAnd (held_under h names) P)
  of_files None names contents are h = tt
  of_files (Some held) names contents are h = subst (λ o. IsSomeAnd o P) (ap told (are_held held names contents are)) (there_and (told contents) (all_told held names contents are) h)

  -- and the other way
  pub of_held : (held : Option Held) (names : List (List ℕ)) (contents : List (Option (List ℕ))) → AreHeld held names contents → IsSomeAnd held (λ h. IsSomeAnd (held_under h names) P) → IsSomeAnd (told contents) P
  of_held None names contents are h = absurd h
  of_held (Some held) names contents are h = subst (λ o. IsSomeAnd o P) (ap told (sym (are_held held names contents are))) h

pub by_told : (P Q : List (List ℕ) → Type 0) (o : Option (List (List ℕ))) → ((bs : List (List ℕ)) → P bs → Q bs) → IfSome o P → IfSome o Q
by_told P Q None f h = tt
by_told P Q (Some bs) f h = f bs h

pub at_told : (P : List (List ℕ) → Type 0) (A : Type 0) (o : Option (List (List ℕ))) → IfSome o (λ bs. P bs → A) → IsSomeAnd o P → A
at_told P A None f h = absurd h
at_told P A (Some bs) f h = f h

-- ── names that are not there ──

pub none_missing : (held : Option Held) (names : List (List ℕ)) (contents : List (Option (List ℕ))) → AreHeld held names contents → IsMissing (first_name names) held → ⊥
none_missing held [] contents are m = m
none_missing None (n ∷ ns) contents are m = m
none_missing (Some held) (n ∷ ns) [] are m = are
none_missing (Some held) (n ∷ ns) (c ∷ cs) are m = no_none (subst IsSome (sym are.0.1 ∙ m) are.0.0)

others_told : (c : Option (List ℕ)) (cs : List (Option (List ℕ))) → IsSome (told (c ∷ cs)) → IsSome (told cs)
others_told None cs there = absurd (no_none there)
others_told (Some b) cs there = without (told cs) there
  where
    without : (o : Option (List (List ℕ))) → IsSome (option_map (λ bs. b ∷ bs) o) → IsSome o
    without None h = h
    without (Some bs) h = h

lacks_one : (held : Held) (names : List (List ℕ)) (k : ℕ) (name : List ℕ) → k < length names → get_or names k name ≡ name → held name ≡ None → IsSome (told (map held names)) → ⊥
lacks_one held [] k name less at none there = absurd (omega (arith, less))
lacks_one held (n ∷ ns) zero name less at none there =
    let gone : held n ≡ None = ap held at ∙ none in
    no_none (subst (λ c. IsSome (told (c ∷ map held ns))) gone there)
lacks_one held (n ∷ ns) (suc k) name less at none there = lacks_one held ns k name (omega (arith, less)) at none (others_told (held n) (map held ns) there)

pub none_lacks : (P : List (List ℕ) → Type 0) (held : Option Held) (names : List (List ℕ)) → IsSomeAnd held (λ h. IsSomeAnd (held_under h names) P) → Any (Lacks held) names → ⊥
none_lacks P None names h lacks = h
none_lacks P (Some held) names h lacks = lacks_one held names lacks.0 lacks.1 lacks.2 lacks.3 lacks.4 (there (held_under held names) h)
  where
    there : (o : Option (List (List ℕ))) → IsSomeAnd o P → IsSome o
    there None h = absurd h
    there (Some bs) h = refl

-- ── opening ──

held_more : (held : Option Held) (names : List (List ℕ)) (contents : List (Option (List ℕ))) (name : List ℕ) (content : Option (List ℕ)) → AreHeld held names contents → IsHeld held name content → AreHeld held (names ++ name ∷ []) (contents ++ content ∷ [])
held_more held [] [] name content are one = (one, tt)
held_more held [] (c ∷ cs) name content are one = absurd are
held_more held (n ∷ ns) [] name content are one = absurd are
held_more held (n ∷ ns) (c ∷ cs) name content are one = (are.0, held_more held ns cs name content are.1 one)

sound_more : (ns : List ℕ) (n : ℕ) → NoneHasFailed ns → n ≡ 0 → NoneHasFailed (ns ++ n ∷ [])
sound_more [] n none one = (one, tt)
sound_more (m ∷ ms) n none one = (none.0, sound_more ms n none.1 one)

module _ {F : Type 0} (content_of : F → Option (List ℕ)) (faults_of : F → ℕ) (held : Option Held) (name : List ℕ) (files files' : List F) (next : OpensNext content_of faults_of held name files files') where
  -- one more of the names is that of a file
  pub next_held : (names : List (List ℕ)) → AreHeld held names (map content_of files) → AreHeld held (names ++ name ∷ []) (map content_of files')
  next_held names are =
      let more : AreHeld held (names ++ name ∷ []) (map content_of files ++ content_of next.file ∷ []) = held_more held names (map content_of files) name (content_of next.file) are next.content in
      let those : map content_of files' ≡ map content_of files ++ content_of next.file ∷ [] = ap (map content_of) next.is ∙ map-append content_of files (next.file ∷ []) in
      subst (AreHeld held (names ++ name ∷ [])) (sym those) more

  pub next_sound : NoneHasFailed (map faults_of files) → NoneHasFailed (map faults_of files')
  next_sound none =
      let more : NoneHasFailed (map faults_of files ++ faults_of next.file ∷ []) = sound_more (map faults_of files) (faults_of next.file) none next.no_faults in
      let those : map faults_of files' ≡ map faults_of files ++ faults_of next.file ∷ [] = ap (map faults_of) next.is ∙ map-append faults_of files (next.file ∷ []) in
      subst NoneHasFailed (sym those) more

pub rose_within : (a b c d : ℕ) → a ≤ b → c ≤ d → Rose b c → Rose a d
rose_within a b c d h k r = omega (arith, h, k, r)

-- ── names that are lent ──

many : {A B : Type 0} (f : A → B) (xs : List A) → length (map f xs) ≡ length xs
many f [] = refl
many f (x ∷ xs) = ap suc (many f xs)

at_again : {A B : Type 0} (f : A → B) (xs : List A) (i : ℕ) (d : A) → i < length xs → get_or (map f xs) i (f (get_or xs i d)) ≡ f (get_or xs i d)
at_again f [] i d less = absurd (omega (arith, less))
at_again f (x ∷ xs) zero d less = refl
at_again f (x ∷ xs) (suc i) d less = at_again f xs i d (omega (arith, less))

pub some_texts : (names : List (Bor (List ℕ))) → 0 < length names → 0 < length (texts names)
some_texts names some = let n : length (texts names) ≡ length names = many text names in omega (arith, some, n)

pub no_names : (names : List (Bor (List ℕ))) → 0 < length names → texts names ≡ [] → ⊥
no_names names some none =
    let n : length (texts names) ≡ length names = many text names in
    let z : length (texts names) ≡ 0 = ap length none in
    omega (arith, some, n, z)

-- one of them is not there
pub one_lacks : (held held' : Option Held) (names : List (Bor (List ℕ))) (i : ℕ) (d : Bor (List ℕ)) → held' ≡ held → i < length names → Lacks held' (get_or names i d).now → Any (Lacks held) (texts names)
one_lacks held held' names i d same less lacks =
    let n : length (texts names) ≡ length names = many text names in
    (i, (get_or names i d).now, omega (arith, less, n), at_again text names i d less, subst (λ h. Lacks h (get_or names i d).now) same lacks)

-- one more of them is that of a file
pub opened_more : {F : Type 0} (content_of : F → Option (List ℕ)) (faults_of : F → ℕ) (held held' : Option Held) (names : List (Bor (List ℕ))) (i : ℕ) (d : Bor (List ℕ)) (files files' : List F) → held' ≡ held → i < length names → OpensNext content_of faults_of held' (get_or names i d).now files files'
    → AreHeld held (texts (take i names)) (map content_of files) → AreHeld held (texts (take (i + 1) names)) (map content_of files')
opened_more content_of faults_of held held' names i d files files' same less next are =
    let next' : OpensNext content_of faults_of held (get_or names i d).now files files' = subst (λ h. OpensNext content_of faults_of h (get_or names i d).now files files') same next in
    let more : texts (take (i + 1) names) ≡ texts (take i names) ++ (get_or names i d).now ∷ [] = ap texts (take_more names i d less) ∙ map-append text (take i names) (get_or names i d ∷ []) in
    subst (λ ns. AreHeld held ns (map content_of files')) (sym more) (next_held content_of faults_of held (get_or names i d).now files files' next' (texts (take i names)) are)

-- all of them are
pub all_opened : (held : Option Held) (names : List (Bor (List ℕ))) (i : ℕ) (contents : List (Option (List ℕ))) → length names ≤ i → AreHeld held (texts (take i names)) contents → AreHeld held (texts names) contents
all_opened held names i contents past are = subst (λ ns. AreHeld held (texts ns) contents) (take_all i names past) are

as_many : (held : Option Held) (names : List (List ℕ)) (contents : List (Option (List ℕ))) → AreHeld held names contents → length contents ≡ length names
as_many held [] [] are = refl
as_many held [] (c ∷ cs) are = absurd are
as_many held (n ∷ ns) [] are = absurd are
as_many held (n ∷ ns) (c ∷ cs) are = ap suc (as_many held ns cs are.1)

pub some_files : {F : Type 0} (content_of : F → Option (List ℕ)) (held : Option Held) (names asked : List (Bor (List ℕ))) (files given : List F) → 0 < length asked → names ≡ asked → given ≡ files → AreHeld held (texts names) (map content_of files) → 0 < length given
some_files content_of held names asked files given some same value are =
    let a : length (map content_of files) ≡ length (texts names) = as_many held (texts names) (map content_of files) are in
    let b : length (map content_of files) ≡ length files = many content_of files in
    let c : length (texts names) ≡ length names = many text names in
    let d : length names ≡ length asked = ap length same in
    let e : length given ≡ length files = ap length value in
    omega (arith, some, a, b, c, d, e)

-- ── why one is not opened ──

-- why one is not opened is why not all are
pub why_one : {A B : Type 0} (e : Refusal) (a b c d : ℕ) → a ≤ b → c ≤ d → (A → B) → WhyNotOpened e A b c → WhyNotOpened e B a d
why_one NoName a b c d h k f w = f w
why_one (Ipc errors.ReadFault) a b c d h k f w = rose_within a b c d h k w
why_one (Ipc errors.Memory) a b c d h k f w = tt
why_one (Ipc e) a b c d h k f w = absurd w
why_one Words a b c d h k f w = absurd w
why_one NotHex a b c d h k f w = absurd w
why_one InputTooLong a b c d h k f w = absurd w

-- ── closing ──

failed_last : (ns : List ℕ) (n : ℕ) → OneHasFailed (ns ++ n ∷ []) → OneHasFailed ns ⊎ (0 < n)
failed_last [] n (inl h) = inr h
failed_last [] n (inr h) = absurd h
failed_last (m ∷ ms) n (inl h) = inl (inl h)
failed_last (m ∷ ms) n (inr h) = later (failed_last ms n h)
  where
    later : OneHasFailed ms ⊎ (0 < n) → OneHasFailed (m ∷ ms) ⊎ (0 < n)
    later (inl k) = inl (inr k)
    later (inr k) = inr k

-- the last of several files was closed
pub closed_last : {F : Type 0} (faults_of : F → ℕ) (files files' : List F) (file : F) (before mid after : ℕ) → files ≡ files' ++ file ∷ [] → before ≤ mid → Closes (faults_of file) mid after → OneHasFailed (map faults_of files) ⊎ Rose before mid → OneHasFailed (map faults_of files') ⊎ Rose before after
closed_last faults_of files files' file before mid after is le closes (inr rose) = inr (rose_within before before mid after (omega arith) closes.later rose)
closed_last faults_of files files' file before mid after is le closes (inl one) = by (failed_last (map faults_of files') (faults_of file) (subst OneHasFailed those one))
  where
    those : map faults_of files ≡ map faults_of files' ++ faults_of file ∷ []
    those = ap (map faults_of) is ∙ map-append faults_of files' (file ∷ [])

    by : OneHasFailed (map faults_of files') ⊎ (0 < faults_of file) → OneHasFailed (map faults_of files') ⊎ Rose before after
    by (inl k) = inl k
    by (inr k) = inr (rose_within before mid after after le (omega arith) (closes.rose k))

-- none is left
pub none_left : {F : Type 0} (faults_of : F → ℕ) (files files' : List F) (count : ℕ) {X : Type 0} → count ≡ 0 → files ≡ files' ++ [] → files' ≡ take (count - 1) files → OneHasFailed (map faults_of files) ⊎ X → X
none_left faults_of files files' count none is rest (inr x) = x
none_left faults_of files files' count none is rest (inl one) =
    let empty : files' ≡ [] = rest ∙ ap (λ n. take (n - 1) files) none in
    let all : files ≡ [] = is ∙ ap (λ l. l ++ []) empty in
    absurd (subst (λ l. OneHasFailed (map faults_of l)) all one)

-- ── failures ──

pub one_failed : (ns ms : List ℕ) → NoneHasFailed ns → OneRose ns ms → OneHasFailed ms
one_failed [] [] none rose = rose
one_failed [] (m ∷ ms) none rose = absurd rose
one_failed (n ∷ ns) [] none rose = absurd rose
one_failed (n ∷ ns) (m ∷ ms) none (inl rose) = inl (omega (arith, none.0, rose))
one_failed (n ∷ ns) (m ∷ ms) none (inr rose) = inr (one_failed ns ms none.1 rose)

stays : (n m : ℕ) → n ≡ 0 → (0 < m → ⊥) → Stands n m
stays n zero z none = record { same = sym z; below = omega arith }
stays n (suc m) z none = absurd (none (omega arith))

pub all_stand : {S : Type 0} (content_of : S → Option (List ℕ)) (faults_of : S → ℕ) (references_of : S → List ℕ) (xs ys : List S) → EachKept content_of faults_of references_of xs ys → NoneHasFailed (map faults_of xs) → (OneHasFailed (map faults_of ys) → ⊥) → AllStand (map faults_of xs) (map faults_of ys)
all_stand content_of faults_of references_of [] [] kept none not = tt
all_stand content_of faults_of references_of [] (y ∷ ys) kept none not = kept
all_stand content_of faults_of references_of (x ∷ xs) [] kept none not = kept
all_stand content_of faults_of references_of (x ∷ xs) (y ∷ ys) kept none not = (stays (faults_of x) (faults_of y) none.0 (λ h. not (inl h)), all_stand content_of faults_of references_of xs ys kept.1 none.1 (λ h. not (inr h)))

-- ── files that were lent ──

front : {A : Type 0} (xs ys : List A) → take (length xs) (xs ++ ys) ≡ xs
front [] ys = refl
front (x ∷ xs) ys = ap (λ l. x ∷ l) (front xs ys)

kept_length : {S : Type 0} (content_of : S → Option (List ℕ)) (faults_of : S → ℕ) (references_of : S → List ℕ) (xs ys : List S) → EachKept content_of faults_of references_of xs ys → length ys ≡ length xs
kept_length content_of faults_of references_of [] [] kept = refl
kept_length content_of faults_of references_of [] (y ∷ ys) kept = absurd kept
kept_length content_of faults_of references_of (x ∷ xs) [] kept = absurd kept
kept_length content_of faults_of references_of (x ∷ xs) (y ∷ ys) kept = ap suc (kept_length content_of faults_of references_of xs ys kept.1)

-- what is written back is what was left of them
pub written_back : {S : Type 0} (content_of : S → Option (List ℕ)) (faults_of : S → ℕ) (references_of : S → List ℕ) (given behind items : List S) (count : ℕ) → EachKept content_of faults_of references_of given behind → length given ≡ count → take count (behind ++ drop (length behind) items) ≡ behind
written_back content_of faults_of references_of given behind items count kept all =
    let same : length behind ≡ count = kept_length content_of faults_of references_of given behind kept ∙ all in
    ap (λ n. take n (behind ++ drop (length behind) items)) (sym same) ∙ front behind (drop (length behind) items)

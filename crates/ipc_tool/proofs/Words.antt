-- Answers to words.
use Rattle.std.proofs.Common.{◌≡◌, ◌≤◌, ℕ, List, Option, Some, None, Ok, Err, IsErrAnd, IsSomeAnd, Result, inl, inr, ap, arith, refl, subst, sym}
use Rattle.std.specs.Prelude.{is_some}
use Rattle.ipc_words.specs.Requests.{Request, request_of}
use Rattle.ipc_words.specs.declared.words_error.WordsError.{WordsError}
use Rattle.ipc_words.specs.declared.words_error.WordsError.TheVariants as words_error
use Rattle.ipc_tool.specs.Commands.{task_of}
use Rattle.ipc_tool.specs.Outside.{Outside}
use Rattle.ipc_tool.specs.Refusal.{number_of, words_refusal}
use Rattle.ipc_tool.specs.Runs.{Answers, WordsCause}
use Rattle.ipc_tool.specs.Tasks.{Does}
use Rattle.ipc_tool.specs.declared.refusal.Refusal.{Refusal}
use Rattle.ipc_tool.specs.declared.refusal.Refusal.TheVariants.{Ipc, Words, NotHex, InputTooLong, NoName}
use Rattle.ipc_tool.proofs.FileTasks.{few}

-- the greatest status
pub at_most_17 : (e : Refusal) → number_of e ≤ 17
at_most_17 (Ipc e) = let low = few e in omega (arith, low)
at_most_17 Words = omega arith
at_most_17 e = omega arith

why : (words : List (List ℕ)) (e : WordsError) → (e ≡ words_error.NoRequest → request_of words ≡ None) → WordsCause (words_refusal e) words
why words words_error.NoRequest h = inl (refl, ap is_some (h refl))
why words words_error.Memory h = inr refl

at_error : (r : Result (Unit {0}) Refusal) (P : Refusal → Type 0) (e : Refusal) → IsErrAnd r (λ f. f ≡ e) → P e → IsErrAnd r P
at_error (Ok x) P e h p = absurd h
at_error (Err f) P e h p = subst P (sym h) p

-- words that were not read
pub words_refused : (words : List (List ℕ)) (r : Result (Unit {0}) Refusal) (e : WordsError) (old : Outside) → IsErrAnd r (λ f. f ≡ words_refusal e) → (e ≡ words_error.NoRequest → request_of words ≡ None) → Answers words r old old
words_refused words r e old is h = inl (record { cause = at_error r (λ x. WordsCause x words) (words_refusal e) is (why words e h); same = refl })

-- words that are a request
pub words_answered : (words : List (List ℕ)) (r : Request) (answer : Result (Unit {0}) Refusal) (old new : Outside) → request_of words ≡ Some r → Does (task_of r) answer old new → Answers words answer old new
words_answered words r answer old new asked d = inr (subst (λ o. IsSomeAnd o (λ q. Does (task_of q) answer old new)) (sym asked) d)

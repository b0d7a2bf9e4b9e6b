-- Digits that are decoded a part at a time.
use Rattle.std.proofs.Common.{◌≡◌, ℕ, ◌+◌, ◌*◌, ◌<◌, List, [], ◌∷◌, ◌++◌, length, take, drop, get_or, not, Bool, true, false, Option, Some, None, Result, Ok, Err, refl, sym, ap, subst, ◌∙◌, arith, append_assoc, append-nil, length-append}
use Rattle.std.specs.Prelude.{option_to_list, IsOkAnd}
use Rattle.std.specs.List.{AllPass, between}
use Rattle.std.proofs.lemmas.List.{take_more, take_at, drop_at, take_rest}
use Rattle.std.proofs.lemmas.List.Elements.{filter-append, All-head, All-tail, All-take, All-drop, All-same}
use Rattle.std.proofs.Math.Seq.{take-add}
use Rattle.hex.specs.Hex.{decode_of, decode_pairs, digit_or_error, hex_digit_value, is_hex_digit, pair_value, ◌>>=◌}
use Rattle.hex.specs.declared.error.FromHexError.{FromHexError}
use Rattle.hex.proofs.HexLemmas.{decode_of-even, decode_of-ok, decode_of-digits}
use Rattle.arrow_spec.specs.Readings.{meaning}
use Rattle.arrow_spec.specs.Words.{is_white}
use Rattle.hex_input.specs.Decoding.{Held, no_white}

-- ── white space ──

-- a digit is no white space
digit_is_black : (c : ℕ) → is_hex_digit c ≡ true → is_white c ≡ false
digit_is_black c digit = grind (arith)

-- digits stay
digits_stay : (s : List ℕ) → AllPass is_hex_digit s → no_white s ≡ s
digits_stay [] all = refl
digits_stay (c ∷ rest) all =
    let black : is_white c ≡ false = digit_is_black c (All-head (λ x. is_hex_digit x ≡ true) c rest all) in
    let ih : no_white rest ≡ rest = digits_stay rest (All-tail (λ x. is_hex_digit x ≡ true) c rest all) in
    rw (black, ih) refl

-- a part more of a text
pub text_more : (text : List ℕ) (at n : ℕ) → no_white (take (at + n) text) ≡ no_white (take at text) ++ no_white (take n (between at (length text) text))
text_more text at n =
    ap no_white (take-add at n text) ∙ filter-append (λ x. not (is_white x)) (take at text) (take n (drop at text)) ∙ ap (λ l. no_white (take at text) ++ no_white (take n l)) (sym (take_rest text at))

-- ── pairs of digits ──

-- the ? of hex, where it gave a value
bind_ok : {A B : Type 0} (r : Result A FromHexError) (f : A → Result B FromHexError) (y : B) → (r >>= f) ≡ Ok y → (x : A) × (r ≡ Ok x) × (f x ≡ Ok y)
bind_ok (Ok x) f y h = (x, refl, h)
bind_ok (Err e) f y h = cc h

-- two digits have one value at each place
pair_at : (high low j k v : ℕ) (oh ol : Option ℕ) → (digit_or_error high j oh >>= (λ h. digit_or_error low (j + 1) ol >>= (λ l. Ok (h * 16 + l)))) ≡ Ok v → (digit_or_error high k oh >>= (λ h. digit_or_error low (k + 1) ol >>= (λ l. Ok (h * 16 + l)))) ≡ Ok v
pair_at high low j k v (Some h) (Some l) e = e
pair_at high low j k v (Some h) None e = cc e
pair_at high low j k v None ol e = cc e

-- digits behind digits, from each place on
pairs_behind : (j k : ℕ) (a b x y : List ℕ) → decode_pairs j a ≡ Ok x → ((n : ℕ) → decode_pairs n b ≡ Ok y) → decode_pairs k (a ++ b) ≡ Ok (x ++ y)
unfolding decode_pairs
pairs_behind j k [] b x y h g = let none : x ≡ [] = cc h in rw none (g k)
pairs_behind j k (d ∷ []) b x y h g = cc h
pairs_behind j k (high ∷ low ∷ rest) b x y h g =
    let p = bind_ok (pair_value high low j) _ x h in
    let q = bind_ok (decode_pairs (j + 2) rest) _ x p.2 in
    let here : pair_value high low k ≡ Ok p.0 = pair_at high low j k p.0 (hex_digit_value high) (hex_digit_value low) p.1 in
    let then : decode_pairs (k + 2) (rest ++ b) ≡ Ok (q.0 ++ y) = pairs_behind (j + 2) (k + 2) rest b q.0 y q.1 g in
    let is : p.0 ∷ q.0 ≡ x = cc q.2 in
    rw (here, then) (ap (λ l. Ok (l ++ y)) is)

pairs_nil : (n : ℕ) → decode_pairs n [] ≡ Ok []
unfolding decode_pairs
pairs_nil n = refl

-- digits decode alike from each place on
pairs_anywhere : (j k : ℕ) (s y : List ℕ) → decode_pairs j s ≡ Ok y → decode_pairs k s ≡ Ok y
pairs_anywhere j k s y h =
    let none : (n : ℕ) → decode_pairs n [] ≡ Ok [] = λ n. pairs_nil n in
    subst (λ l. decode_pairs k l ≡ Ok y) (append-nil s) (subst (λ l. decode_pairs k (s ++ []) ≡ Ok l) (append-nil y) (pairs_behind j k s [] y [] h none))

-- digits behind digits
decode_behind : (a b x y : List ℕ) → decode_of a ≡ Ok x → decode_of b ≡ Ok y → decode_of (a ++ b) ≡ Ok (x ++ y)
decode_behind a b x y h g =
    let ea = (decode_of-ok a x h).0 in
    let eb = (decode_of-ok b y g).0 in
    let pa : decode_pairs 0 a ≡ Ok x = sym (decode_of-even a ea) ∙ h in
    let pb : decode_pairs 0 b ≡ Ok y = sym (decode_of-even b eb) ∙ g in
    decode_of-even (a ++ b) (omega (arith, length-append a b)) ∙ pairs_behind 0 0 a b x y pa (λ n. pairs_anywhere 0 n b y pb)

-- what an Ok with a fact is
ok_and : {A : Type 0} (r : Result A FromHexError) (P : A → Type 0) → IsOkAnd r P → (x : A) × (r ≡ Ok x) × P x
ok_and (Ok x) P h = (x, refl, h)
ok_and (Err e) P h = absurd h

and_ok : {A : Type 0} (r : Result A FromHexError) (x : A) (P : A → Type 0) → r ≡ Ok x → P x → IsOkAnd r P
and_ok r x P is h = subst (λ r. IsOkAnd r P) (sym is) h

-- what has a meaning
meaning_ok : {A : Type 0} (r : Result A FromHexError) (x : A) → meaning r ≡ Some x → r ≡ Ok x
meaning_ok (Ok y) x h = let e : y ≡ x = cc h in ap Ok e
meaning_ok (Err e) x h = cc h

-- two digits that are a byte
pair_decodes : (high low byte : ℕ) → meaning (pair_value high low 0) ≡ Some byte → decode_of (high ∷ low ∷ []) ≡ Ok (byte ∷ [])
unfolding decode_pairs
pair_decodes high low byte h = rw (meaning_ok (pair_value high low 0) byte h) refl

-- nothing decodes to nothing
pub none_decodes : (text bytes : List ℕ) → IsOkAnd (decode_of (take 0 text)) (λ more. bytes ≡ bytes ++ more)
unfolding decode_pairs
none_decodes text bytes = sym (append-nil bytes)

-- a pair more behind those that decode
pub pair_more : (text old new new' : List ℕ) (i byte : ℕ) → i * 2 + 1 < length text → meaning (pair_value (get_or text (i * 2) 0) (get_or text (i * 2 + 1) 0) 0) ≡ Some byte → new' ≡ new ++ byte ∷ [] → IsOkAnd (decode_of (take (i * 2) text)) (λ more. new ≡ old ++ more) → IsOkAnd (decode_of (take ((i + 1) * 2) text)) (λ more. new' ≡ old ++ more)
pair_more text old new new' i byte less pair one h =
    let front = ok_and (decode_of (take (i * 2) text)) (λ more. new ≡ old ++ more) h in
    let high = get_or text (i * 2) 0 in
    let low = get_or text (i * 2 + 1) 0 in
    let count : (i + 1) * 2 ≡ i * 2 + 1 + 1 = omega arith in
    let whole : take ((i + 1) * 2) text ≡ take (i * 2) text ++ high ∷ low ∷ [] =
    ap (λ n. take n text) count ∙ take_more text (i * 2 + 1) 0 less ∙ ap (λ l. l ++ low ∷ []) (take_more text (i * 2) 0 (omega arith)) ∙ append_assoc (take (i * 2) text) (high ∷ []) (low ∷ []) in
    let is = decode_behind (take (i * 2) text) (high ∷ low ∷ []) front.0 (byte ∷ []) front.1 (pair_decodes high low byte pair) in
    and_ok (decode_of (take ((i + 1) * 2) text)) (front.0 ++ byte ∷ []) (λ more. new' ≡ old ++ more) (ap decode_of whole ∙ is) (one ∙ ap (λ l. l ++ byte ∷ []) front.2 ∙ append_assoc old front.0 (byte ∷ []))

-- ── what is held ──

-- all of both are digits
front_digits : (a b : List ℕ) → AllPass is_hex_digit (a ++ b) → AllPass is_hex_digit a
front_digits a b h = All-same (λ x. is_hex_digit x ≡ true) a (take (length a) (a ++ b)) (sym (take_at a b (length a) refl)) (All-take (λ x. is_hex_digit x ≡ true) (length a) (a ++ b) h)

back_digits : (a b : List ℕ) → AllPass is_hex_digit (a ++ b) → AllPass is_hex_digit b
back_digits a b h = All-same (λ x. is_hex_digit x ≡ true) b (drop (length a) (a ++ b)) (sym (drop_at a b (length a) refl)) (All-drop (λ x. is_hex_digit x ≡ true) (length a) (a ++ b) h)

-- nothing yet
pub held_nothing : Held [] None false []
unfolding decode_pairs
held_nothing = record { no_digits = λ s. cc s; decoded = λ _. ([], refl, refl) }

-- nothing more is held of what is no hex text
pub spoiled_more : (bytes : List ℕ) (waiting : Option ℕ) (spoiled : Bool) (digits more : List ℕ) → spoiled ≡ true → Held bytes waiting spoiled digits → Held bytes waiting spoiled (digits ++ more)
spoiled_more bytes waiting spoiled digits more is h = record {
  no_digits = λ s all. h.no_digits s (front_digits digits more all);
  decoded = λ s. cc (s, is);
}

-- pairs of digits that decoded
pairs_held : (bytes bytes' : List ℕ) (waiting : Option ℕ) (spoiled : Bool) (digits more : List ℕ) → waiting ≡ None → IsOkAnd (decode_of more) (λ new. bytes' ≡ bytes ++ new) → Held bytes waiting spoiled digits → Held bytes' waiting spoiled (digits ++ more)
pairs_held bytes bytes' waiting spoiled digits more none d h = record {
  no_digits = λ s all. h.no_digits s (front_digits digits more all);
  decoded = λ s.
      let p = h.decoded s in
      let new = ok_and (decode_of more) (λ new. bytes' ≡ bytes ++ new) d in
      let same : digits ≡ p.0 = p.2 ∙ ap (λ w. p.0 ++ option_to_list w) none ∙ append-nil p.0 in
      let all : decode_of (digits ++ more) ≡ Ok (bytes ++ new.0) = decode_behind digits more bytes new.0 (ap decode_of same ∙ p.1) new.1 in
      (digits ++ more, all ∙ ap Ok (sym new.2), sym (ap (λ w. (digits ++ more) ++ option_to_list w) none ∙ append-nil (digits ++ more)));
}

-- two digits that are a byte
pub pair_held : (bytes bytes' : List ℕ) (waiting : Option ℕ) (spoiled : Bool) (digits : List ℕ) (high low byte : ℕ) → waiting ≡ None → meaning (pair_value high low 0) ≡ Some byte → bytes' ≡ bytes ++ byte ∷ [] → Held bytes waiting spoiled digits → Held bytes' waiting spoiled (digits ++ high ∷ low ∷ [])
pair_held bytes bytes' waiting spoiled digits high low byte none pair one h =
    pairs_held bytes bytes' waiting spoiled digits (high ∷ low ∷ []) none (and_ok (decode_of (high ∷ low ∷ [])) (byte ∷ []) (λ new. bytes' ≡ bytes ++ new) (pair_decodes high low byte pair) one) h

-- the pairs with which a text begins
pub front_held : (bytes mid bytes' : List ℕ) (waiting : Option ℕ) (spoiled : Bool) (digits text : List ℕ) (pairs : ℕ) → waiting ≡ None → mid ≡ bytes → IsOkAnd (decode_of (take (pairs * 2) text)) (λ more. bytes' ≡ mid ++ more) → Held bytes waiting spoiled digits → Held bytes' waiting spoiled (digits ++ no_white (take (pairs * 2) text))
front_held bytes mid bytes' waiting spoiled digits text pairs none same d h =
    let front = take (pairs * 2) text in
    let d' : IsOkAnd (decode_of front) (λ more. bytes' ≡ bytes ++ more) = subst (λ l. IsOkAnd (decode_of front) (λ more. bytes' ≡ l ++ more)) same d in
    let ok = ok_and (decode_of front) (λ more. bytes' ≡ bytes ++ more) d' in
    let stay : no_white front ≡ front = digits_stay front (decode_of-ok front ok.0 ok.1).1 in
    subst (λ l. Held bytes' waiting spoiled (digits ++ l)) (sym stay) (pairs_held bytes bytes' waiting spoiled digits front none d' h)

-- two bytes of which one is no digit
bad_pair : (high low : ℕ) (bytes : List ℕ) → meaning (pair_value high low 0) ≡ None → decode_of (high ∷ low ∷ []) ≡ Ok bytes → ⊥
unfolding decode_pairs
bad_pair high low bytes none is = let p = bind_ok (pair_value high low 0) _ bytes is in cc (none, ap meaning p.1)

pub pair_spoils : (bytes : List ℕ) (waiting : Option ℕ) (digits : List ℕ) (high low : ℕ) → meaning (pair_value high low 0) ≡ None → Held bytes waiting true (digits ++ high ∷ low ∷ [])
pair_spoils bytes waiting digits high low none = record {
  no_digits = λ s all. let ok = decode_of-digits (high ∷ low ∷ []) refl (back_digits digits (high ∷ low ∷ []) all) in bad_pair high low ok.0 none ok.1;
  decoded = λ s. cc s;
}

-- what is added behind what was added
pub adds_behind : (P Q R : List ℕ → Type 0) (a b c : List ℕ) → ((d : List ℕ) → P d → Q (d ++ a)) → ((d : List ℕ) → Q d → R (d ++ b)) → c ≡ a ++ b → (d : List ℕ) → P d → R (d ++ c)
adds_behind P Q R a b c f g is d p = subst R (append_assoc d a b ∙ ap (λ l. d ++ l) (sym is)) (g (d ++ a) (f d p))

-- ── the end ──

-- what is no digit has no meaning
pub no_meaning_spoiled : (bytes digits : List ℕ) (waiting : Option ℕ) (spoiled : Bool) → spoiled ≡ true → Held bytes waiting spoiled digits → None ≡ meaning (decode_of digits)
no_meaning_spoiled bytes digits waiting spoiled s h = no_meaning_of (decode_of digits) refl
  where
    no_meaning_of : (r : Result (List ℕ) FromHexError) → decode_of digits ≡ r → None ≡ meaning r
    no_meaning_of (Ok x) is = absurd (h.no_digits s (decode_of-ok digits x is).1)
    no_meaning_of (Err e) is = refl

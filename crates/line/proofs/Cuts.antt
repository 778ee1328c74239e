-- Where a line is cut into words.
use Rattle.std.proofs.Common.{◌≡◌, ℕ, suc, ◌+◌, ◌-◌, ◌<◌, Bool, true, false, not, cond, eqb, List, [], ◌∷◌, length, get_or, take, drop, Option, Some, None, Bor, IsUtf8, sym, refl, ap, ◌∙◌, subst, ⊎_elim, one-add, arith, length-take-le, true-eqb, false-eqb}
use Rattle.std.specs.Bool.{then_some}
use Rattle.std.specs.Iterator.{YieldsFirstRef, MakesProgress, item_count}
use Rattle.std.specs.Str.{IsCharBoundary}
use Rattle.std.specs.List.{prefix_len, take_while}
use Rattle.std.proofs.lemmas.List.Sums.{prefix_len-le-length, prefix_len_passes, prefix_len_stops, prefix_len-drop_no, prefix_len-drop_all}
use Rattle.std.proofs.lemmas.Bool.{cases_Bool, cases_lt, cond-true, cond-false, not-true, not-false, or_parts, or_cases, true≢false}
use Rattle.std.proofs.lemmas.Str.{IsCharBoundary-start, IsCharBoundary-after_ascii}
use Rattle.std.proofs.lemmas.Bool.Decides.{nat_tests}
use Rattle.line.specs.Words.{blank, letter, words_from, words}

-- the front that passes a test, one byte on
longer : (p : ℕ → Bool) (c : ℕ) (cs : List ℕ) → p c ≡ true → prefix_len p (c ∷ cs) ≡ suc (prefix_len p cs)
longer p c cs e = cond-true (p c) (1 + prefix_len p cs) 0 e ∙ one-add _

none : (p : ℕ → Bool) (c : ℕ) (cs : List ℕ) → p c ≡ false → prefix_len p (c ∷ cs) ≡ 0
none p c cs e = cond-false (p c) (1 + prefix_len p cs) 0 e

-- past the front that passes, no more pass
ends : (p : ℕ → Bool) (cs : List ℕ) → prefix_len p (drop (prefix_len p cs) cs) ≡ 0
ends p cs =
    ⊎_elim
    (λ inside. prefix_len-drop_no p cs (prefix_len p cs) 0 inside (prefix_len_stops p cs 0 inside))
    (λ all. prefix_len-drop_all p cs (prefix_len p cs) all)
    (cases_lt (prefix_len p cs) (length cs))

blank_ascii : (c : ℕ) → blank c ≡ true → c < 128
blank_ascii c e = grind (arith, nat_tests)

other_ascii : (c : ℕ) → letter c ≡ false → c < 128
other_ascii c e = grind (arith, nat_tests)

letter_parts : (c : ℕ) → letter c ≡ true → (blank c ≡ false) × (eqb c 35 ≡ false)
letter_parts c e = or_parts (blank c) (eqb c 35) (not-true _ e)

-- the line may be cut after its leading blanks
pub boundary_blanks : (cs : List ℕ) → IsUtf8 cs → IsCharBoundary cs (prefix_len blank cs)
boundary_blanks cs u =
    ⊎_elim
    (λ some.
    let n = prefix_len blank cs in
    let back : n - 1 + 1 ≡ n = omega arith in
    let last : blank (get_or cs (n - 1) 0) ≡ true = prefix_len_passes blank cs (n - 1) 0 (omega arith) in
    subst (IsCharBoundary cs) back (IsCharBoundary-after_ascii cs (n - 1) u (omega (arith, prefix_len-le-length blank cs)) (blank_ascii _ last)))
    (λ h. let start : 0 ≡ prefix_len blank cs = omega arith in subst (IsCharBoundary cs) start (IsCharBoundary-start cs u))
    (cases_lt 0 (prefix_len blank cs))

-- and after the word with which it begins
pub boundary_letters : (cs : List ℕ) → IsCharBoundary cs (prefix_len letter cs)
boundary_letters cs =
    (prefix_len-le-length letter cs, λ inside high. absurd (omega (arith, other_ascii (get_or cs (prefix_len letter cs) 0) (prefix_len_stops letter cs 0 inside))))

-- leading blanks carry no word
words_past_blanks : (cs : List ℕ) → words (drop (prefix_len blank cs) cs) ≡ words cs
words_past_blanks [] = refl
words_past_blanks (c ∷ cs) =
    ⊎_elim
    (λ e. ap (λ n. words (drop n (c ∷ cs))) (longer blank c cs e) ∙ words_past_blanks cs ∙ sym (cond-true (blank c) (words cs) _ e))
    (λ e. ap (λ n. words (drop n (c ∷ cs))) (none blank c cs e))
    (cases_Bool (blank c))

-- what stands at a letter
at_letter : (within : Bool) (c : ℕ) (cs : List ℕ) → letter c ≡ true → words_from within (c ∷ cs) ≡ cond within (words_from true cs) (take_while letter (c ∷ cs) ∷ words_from true cs)
at_letter within c cs e = cond-false (blank c) _ _ (letter_parts c e).0 ∙ cond-false (eqb c 35) _ _ (letter_parts c e).1

-- at any other byte it does not matter whether the text begins within a word
at_other : (c : ℕ) (cs : List ℕ) → letter c ≡ false → words_from true (c ∷ cs) ≡ words_from false (c ∷ cs)
at_other c cs e =
    ⊎_elim
    (λ b. cond-true (blank c) _ _ b ∙ sym (cond-true (blank c) _ _ b))
    (λ h. ap (λ x. cond (blank c) (words_from false cs) x) (cond-true (eqb c 35) [] _ h ∙ sym (cond-true (eqb c 35) [] _ h)))
    (or_cases (blank c) (eqb c 35) (not-false _ e))

words_past_letters : (cs : List ℕ) → words_from true cs ≡ words (drop (prefix_len letter cs) cs)
words_past_letters [] = refl
words_past_letters (c ∷ cs) =
    ⊎_elim
    (λ e. at_letter true c cs e ∙ words_past_letters cs ∙ sym (ap (λ n. words (drop n (c ∷ cs))) (longer letter c cs e)))
    (λ e. at_other c cs e ∙ sym (ap (λ n. words (drop n (c ∷ cs))) (none letter c cs e)))
    (cases_Bool (letter c))

pub one_word : (text word rest : List ℕ) → word ≡ take (prefix_len letter text) text → rest ≡ drop (prefix_len letter text) text → 0 < length word → words text ≡ word ∷ words rest
one_word [] word rest p q some = absurd (omega (arith, ap length p))
one_word (c ∷ cs) word rest p q some =
    ⊎_elim
    (λ e.
    at_letter false c cs e
    ∙ (λ i. sym p i ∷ (sym (at_letter true c cs e) ∙ words_past_letters (c ∷ cs) ∙ sym (ap words q)) i))
    (λ e. absurd (omega (arith, ap length p, ap (λ n. length (take n (c ∷ cs))) (none letter c cs e))))
    (cases_Bool (letter c))

fails : (p : ℕ → Bool) (c : ℕ) (cs : List ℕ) → prefix_len p (c ∷ cs) ≡ 0 → p c ≡ false
fails p c cs h = ⊎_elim (λ e. absurd (omega (arith, longer p c cs e))) (λ e. e) (cases_Bool (p c))

no_letter : (text : List ℕ) → prefix_len blank text ≡ 0 → prefix_len letter text ≡ 0 → words text ≡ []
no_letter [] p q = refl
no_letter (c ∷ cs) p q =
    let dark : blank c ≡ false = fails blank c cs p in
    let hash : eqb c 35 ≡ true = ⊎_elim (λ b. absurd (true≢false (sym b ∙ dark))) (λ h. h) (or_cases (blank c) (eqb c 35) (not-false _ (fails letter c cs q))) in
    cond-false (blank c) _ _ dark ∙ cond-true (eqb c 35) _ _ hash

pub same_words : (line text : List ℕ) → text ≡ drop (prefix_len blank line) line → words line ≡ words text
same_words line text p = sym (words_past_blanks line) ∙ sym (ap words p)

no_word_left : (line text word rest : List ℕ) → text ≡ drop (prefix_len blank line) line → word ≡ take (prefix_len letter text) text → rest ≡ drop (prefix_len letter text) text → length word ≡ 0 → (words line ≡ []) × (words rest ≡ [])
no_word_left line text word rest p q r none =
    let stop : prefix_len letter text ≡ 0 = omega (arith, ap length q, length-take-le (prefix_len letter text) text (prefix_len-le-length letter text)) in
    let empty = no_letter text (ap (prefix_len blank) p ∙ ends blank line) stop in
    (same_words line text p ∙ empty, ap words (r ∙ ap (λ n. drop n text) stop) ∙ empty)

pub no_word : (line text word : List ℕ) → text ≡ drop (prefix_len blank line) line → word ≡ take (prefix_len letter text) text → length word ≡ 0 → words line ≡ []
no_word line text word p q none = (no_word_left line text word (drop (prefix_len letter text) text) p q refl none).0

-- the cut gives the first word of the line, where there is one, and leaves the others
pub next_word : (line text rest : List ℕ) (word : Bor (List ℕ)) (b : Bool) → text ≡ drop (prefix_len blank line) line → word.now ≡ take (prefix_len letter text) text → rest ≡ drop (prefix_len letter text) text → eqb (length word.now) 0 ≡ b → YieldsFirstRef words line (then_some (not b) word) rest
next_word line text rest word true p q r e = no_word_left line text word.now rest p q r (true-eqb _ 0 (sym e))
next_word line text rest word false p q r e = same_words line text p ∙ one_word text word.now rest q r (omega (arith, false-eqb _ 0 (sym e)))

-- each word is one fewer
pub fewer_words : (ws rest : List (List ℕ)) (r : Option (Bor (List ℕ))) → YieldsFirstRef (λ ws. ws) ws r rest → MakesProgress (λ _. Unit {0}) (item_count (λ ws. ws)) ws r rest
fewer_words ws rest None e = record { on = λ _. tt; keeps = tt; rests = λ _. tt }
fewer_words ws rest (Some word) e = record { on = λ _. (tt, tt, omega (arith, ap length e)); keeps = tt; rests = λ _. tt }

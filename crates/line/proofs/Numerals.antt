-- What `parse` reads, in the words of `specs/Numbers.antt`.
use Rattle.std.proofs.Common.{◌≡◌, ℕ, ◌^◌, ◌<◌, true, ◌&&◌, ltb, List, length, Some, Ok, Err, Result, sym, ap, ◌∙◌, ⊎_elim}
use Rattle.std.specs.Result.{result_ok}
use Rattle.std.specs.Str.Parse.{IsNumeral, ParsesUnsigned, without_leading_plus, digits_value}
use Rattle.std.specs.Str.{all_ascii_digits}
use Rattle.std.proofs.lemmas.Str.Parse.{IsNumeralModel, numerals_by_value, tells_all_ascii_digits}
use Rattle.std.proofs.lemmas.Bool.{cases_Bool, cond-true, cond-false, and_parts, and_from, ltb-true, lt-ltb}
use Rattle.line.specs.Numbers.{whole_word, whole_number}

own : IsNumeralModel (λ ds. all_ascii_digits ds ≡ true) (digits_value 10)
own = numerals_by_value _ tells_all_ascii_digits

whole_from : (k : ℕ) (ds : List ℕ) → IsNumeral 10 ds × (digits_value 10 ds < 2 ^ k) → whole_word k ds ≡ true
whole_from k ds h = and_from _ _ (and_from _ _ (lt-ltb 0 _ h.0.0) (own.from ds h.0.1)) (lt-ltb _ _ h.1)

whole_to : (k : ℕ) (ds : List ℕ) → whole_word k ds ≡ true → IsNumeral 10 ds × (digits_value 10 ds < 2 ^ k)
whole_to k ds e =
    let p = and_parts (ltb 0 (length ds) && all_ascii_digits ds) (ltb (digits_value 10 ds) (2 ^ k)) e in
    let q = and_parts (ltb 0 (length ds)) (all_ascii_digits ds) p.0 in
    ((ltb-true 0 (length ds) q.0, own.to ds q.1), ltb-true (digits_value 10 ds) (2 ^ k) p.1)

pub read_whole : {E : Type 0} (k : ℕ) (w : List ℕ) (r : Result ℕ E) → ParsesUnsigned k 10 w r → result_ok r ≡ whole_number k w
read_whole k w (Ok x) h = ap Some h.1 ∙ sym (cond-true (whole_word k (without_leading_plus w)) _ _ (whole_from k (without_leading_plus w) h.0))
read_whole k w (Err e) h =
    ⊎_elim
    (λ t. absurd (h (whole_to k (without_leading_plus w) t)))
    (λ f. sym (cond-false (whole_word k (without_leading_plus w)) _ _ f))
    (cases_Bool (whole_word k (without_leading_plus w)))

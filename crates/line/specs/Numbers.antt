-- The numbers that words write.
use Rattle.std.specs.Prelude.{◌≡◌, ℕ, ◌^◌, ◌<◌, Bool, true, false, cond, ◌&&◌, ◌||◌, List, length, pos, Some, None, Option, ◌==◌, nat_lt, Float}
use Rattle.std.specs.Float.Ieee.{of_int}
use Rattle.std.specs.Float.{float_is_finite, binary32}
use Rattle.std.specs.Float.Parse.{is_float_text}
use Rattle.std.specs.Str.Parse.{IsNumeral, without_leading_plus, digits_value}
use Rattle.std.specs.Char.{is_ascii_digit}
use Rattle.std.specs.Str.{all_ascii_digits}
use Rattle.std.specs.List.{list_all}

-- one digit or more, after a plus or none, that write a number of at most k bits
abbrev pub whole_word : ℕ → List ℕ → Bool
whole_word k ds = (nat_lt 0 (length ds) && all_ascii_digits ds) && nat_lt (digits_value 10 ds) (2 ^ k)

abbrev pub whole_number : ℕ → List ℕ → Option ℕ
whole_number k w = cond (whole_word k (without_leading_plus w)) (Some (digits_value 10 (without_leading_plus w))) None

-- a digit, a point, a sign or the letter before an exponent
abbrev pub plain : ℕ → Bool
plain c = is_ascii_digit c || (c == 46 || (c == 43 || (c == 45 || (c == 101 || c == 69))))

-- a text of a float that is not the word for an infinity or for what is no number
abbrev pub decimal_text : List ℕ → Bool
decimal_text w = list_all plain w && is_float_text w

-- x is what the text of a float is read as; a whole number of 32 bits is rounded once
abbrev pub Rounds : List ℕ → Float → Type 0
Rounds w x = IsNumeral 10 (without_leading_plus w) → digits_value 10 (without_leading_plus w) < 2 ^ 32 → x ≡ of_int binary32 (pos (digits_value 10 (without_leading_plus w)))

-- a decimal number is read, unless it is too large to round to a finite number
abbrev pub Decimal : List ℕ → Option Float → Type 0
Decimal w None = decimal_text w ≡ true → (x : Float) × Rounds w x × (float_is_finite x ≡ false)
Decimal w (Some x) = (decimal_text w ≡ true) × Rounds w x × (float_is_finite x ≡ true)

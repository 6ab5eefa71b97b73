-- Numbers and words as they are written.
use Rattle.std.specs.Prelude.{ℕ, zero, suc, ◌+◌, ◌/◌, ◌%◌, cond, List, [], ◌∷◌, ◌++◌, ltb, eqb}

-- The bytes of " ", "!", "0" and "?". Those of the texts are words.specs.Symbols.
abbrev pub space : ℕ
space = 32

abbrev pub exclamation : ℕ
exclamation = 33

abbrev pub zero_digit : ℕ
zero_digit = 48

abbrev pub question : ℕ
question = 63

abbrev pub last_digit : ℕ → List ℕ
last_digit n = (zero_digit + n % 10) ∷ []

-- A number in decimal digits, without zeros in front; `more` digits may stand before the last.
unfoldable pub digits : ℕ → ℕ → List ℕ
digits zero n = last_digit n
digits (suc more) n = cond (ltb n 10) (last_digit n) (digits more (n / 10) ++ last_digit n)

-- Twenty digits hold every number of 64 bits.
abbrev pub decimal : ℕ → List ℕ
decimal n = digits 19 n

-- A number behind what stands before it.
abbrev pub field : ℕ → List ℕ
field n = space ∷ decimal n

-- A number with its label.
abbrev pub counted : List ℕ → ℕ → List ℕ
counted label n = label ++ field n

-- "writes each as read with a hyphen at every break": before each byte whose number has a mark on the sheet, the sign of a break.
abbrev pub letter_with : List ℕ → ℕ → ℕ → List ℕ
letter_with sign mark b = cond (eqb mark 0) (b ∷ []) (sign ++ (b ∷ []))

unfoldable pub hyphenated : List ℕ → List ℕ → List ℕ → List ℕ
hyphenated sign marks [] = []
hyphenated sign [] (b ∷ word) = b ∷ hyphenated sign [] word
hyphenated sign (mark ∷ marks) (b ∷ word) = letter_with sign mark b ++ hyphenated sign marks word

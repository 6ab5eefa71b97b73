-- What it says that a word stands in an exception list, by the list's own lines.
use Rattle.std.specs.Prelude.{ℕ, ◌-◌, ◌<◌, List, [], ◌≡◌, length, get_or, take}
use Rattle.words.specs.Symbols.{symbols_of}
use Rattle.words.specs.Words.{word_symbols}
use Rattle.lines.specs.Lines.{cut}

-- "if the word is in the customer's list", "in the house list": one of the text's lines, "symbols without digits and hyphens", has
-- the word's symbols, where "capitals count as small".
pub record Listed (word text : List ℕ) : Type 0 where
  pub at : ℕ
  pub within : at < length (cut text)
  pub symbols : symbols_of (get_or (cut text) at []) ≡ word_symbols word

-- That line "without its line feed", its last byte.
unfoldable pub shown : (word text : List ℕ) → Listed word text → List ℕ
shown word text l = take (length (get_or (cut text) l.at []) - 1) (get_or (cut text) l.at [])

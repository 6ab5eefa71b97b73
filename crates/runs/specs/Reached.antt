-- CR 6: "A state these calls couldn't leave is read as a new text's". What can be held, and after how many bytes.
use Rattle.std.specs.Prelude.{ℕ, ◌+◌, ◌<◌, Bool, ◌&&◌, ◌||◌, List, [], ◌≡◌, leb, eqb, length, get_or, is_ok}
use Rattle.base.specs.Limits.{word_limit}
use Rattle.base.specs.Grounds.{Check}
use Rattle.words.specs.Words.{judge_word}
use Rattle.runs.specs.Text.{Held, Holding, Gone, GoneMarked}
use Rattle.runs.specs.Held.{but_last, waits, held_after}

-- By declaration: some text of this length leaves this held.
pub record Reached (s : Held) (total : ℕ) : Type 0 where
  pub text : List ℕ
  pub bytes : (i : ℕ) → i < length text → get_or text i 0 < 256
  pub long : length text ≡ total
  pub leaves : held_after (Holding []) text ≡ s

-- The same as it is tested. A word is what the hyphenating call takes for one.
abbrev pub is_fine : Check → Bool
is_fine judged = is_ok judged

unfoldable pub is_word : List ℕ → Bool
is_word w = is_fine (judge_word word_limit w)

-- Nothing, a word, or a word and an apostrophe behind it.
unfoldable pub can_be_held : List ℕ → Bool
can_be_held kept = eqb (length kept) 0 || (is_word kept || (waits kept && is_word (but_last kept)))

-- The text has at least the bytes that are held; one let go has passed the word limit, and an apostrophe stands behind that.
unfoldable pub is_reached : Held → ℕ → Bool
is_reached (Holding kept) total = can_be_held kept && leb (length kept) total
is_reached Gone total = leb (word_limit + 1) total
is_reached GoneMarked total = leb (word_limit + 2) total

-- CR 6: the words of a running text, by their declaration: what a whole text gives, and what of it is unfinished.
use Rattle.std.specs.Prelude.{ℕ, zero, suc, true, cond, List, [], ◌∷◌, ◌++◌, leb, eqb, length, take, drop}
use Rattle.base.specs.Limits.{word_limit}
use Rattle.words.specs.Symbols.{letter, apostrophe}
use Rattle.words.specs.Words.{with_apostrophes, leading}

-- "A word is a longest run of letters and single inner apostrophes": behind its first letter it goes on for as many bytes as a word may
-- have there.
abbrev pub onward : List ℕ → ℕ
onward t = leading with_apostrophes true t

-- What a text gives, piece by piece or whole: `byte` is what a byte that goes through gives, `word` what a word gives.
module _ {A : Type 0} (byte : ℕ → List A) (word : List ℕ → List A) where
  unfoldable pub spread : List ℕ → List A
  spread [] = []
  spread (b ∷ t) = byte b ++ spread t

  -- "one over the word limit goes through unchanged"
  unfoldable pub shown : List ℕ → List A
  shown w = cond (leb (length w) word_limit) (word w) (spread w)

  -- A whole text: each word, and each byte outside of them, in turn. The first `skip` bytes belong to a word that stands already.
  unfoldable pub text_out : ℕ → List ℕ → List A
  text_out skip [] = []
  text_out (suc k) (b ∷ t) = text_out k t
  text_out zero (b ∷ t) = cond (letter b) (shown (b ∷ take (onward t) t) ++ text_out (onward t) t) (byte b ++ text_out zero t)

-- What is kept of a text between two pieces.
pub data Held : Type 0 where
  Holding : List ℕ → Held  -- these bytes: none, a word, or a word and an apostrophe behind it
  Gone : Held  -- none, in a run that was let go
  GoneMarked : Held  -- none, behind an apostrophe of such a run

-- "After each piece exactly the unfinished word is held, with an apostrophe right behind it whose right neighbour isn't known yet; a run
-- that passes the word limit is let go". `run` is a word of the text and `rest` what stands behind it: the word is unfinished where that
-- is nothing, or one apostrophe; else what `later` says is held.
unfoldable pub unfinished : List ℕ → List ℕ → Held → Held
unfinished run [] later = cond (leb (length run) word_limit) (Holding run) Gone
unfinished run (c ∷ []) later = cond (eqb c apostrophe) (cond (leb (length run) word_limit) (Holding (run ++ (c ∷ []))) GoneMarked) later
unfinished run (c ∷ (d ∷ t)) later = later

unfoldable pub held_of : ℕ → List ℕ → Held
held_of skip [] = Holding []
held_of (suc k) (b ∷ t) = held_of k t
held_of zero (b ∷ t) = cond (letter b) (unfinished (b ∷ take (onward t) t) (drop (onward t) t) (held_of (onward t) t)) (held_of zero t)

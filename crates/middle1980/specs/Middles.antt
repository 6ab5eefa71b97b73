-- Phase 4 of 004: the consonant pairs in the middle of a word. Labels, registers and the order of the tests are 004's.
use Rattle.std.specs.Prelude.{ℕ, zero, suc, ◌+◌, ◌*◌, ◌-◌, Bool, cond, not, ◌&&◌, ◌||◌, List, eqb}
use Rattle.tables1980.specs.Words.{o, ◌ε◌}
use Rattle.tables1980.specs.Pairs.{btable, hchar, weak_of}
use Rattle.sheet1980.specs.Sheet.{mem, clear, vowel}
use Rattle.middle1980.specs.declared.Label.{Label}
use Rattle.middle1980.specs.declared.Label.TheVariants.{Marki, Phase4c, Vowelscan, Checkc, Phase4v, Phase4vc, Ertest}

-- Where phase 4 stands: at a label with i, b, c and the sheet, or gone on to phase 5 with the sheet.
pub data Middle : Type 0 where
  Goto : Label → ℕ → ℕ → ℕ → List ℕ → Middle
  Phase5 : List ℕ → Middle

-- Is a letter joined with an h behind it into one consonant? The code of the two: "e" for ch, "i" for gh, "o" for ph, "u" for sh and
-- "y" for th.
unfoldable pub joins_h : ℕ → Bool
joins_h c = not (eqb (hchar (btable c)) 0)

unfoldable pub with_h : ℕ → ℕ
with_h c = c + hchar (btable c) - 2

-- Does a break never come between b and c, or only where nothing speaks against it? A pair has its bit in the row of b, a weak one in the
-- row of b's weak letters too.
unfoldable pub is_pair : ℕ → ℕ → Bool
is_pair b c = (c - 1) ε btable b

unfoldable pub is_weak : ℕ → ℕ → Bool
is_weak b c = (c - 1) ε btable (weak_of (btable b) + 26)

-- ll or ss: a letter must follow. Before a vowel the ending "er" is tested; behind a third consonant the search for a vowel goes on.
unfoldable pub liquid : ℕ → ℕ → List ℕ → Middle
liquid i b sheet =
    cond (eqb (mem sheet (i + 1)) 0) (Phase5 sheet)
    (cond (vowel (mem sheet (i + 1))) (Goto Ertest i b (mem sheet (i + 1)) sheet) (Goto Phase4c (i + 2) b (mem sheet (i + 1)) sheet))

-- A double consonant: a hyphen between the two, but for ll and ss.
unfoldable pub doubled : ℕ → ℕ → ℕ → List ℕ → Middle
doubled i b c sheet = cond (not (eqb c (o "l")) && not (eqb c (o "s"))) (Goto Marki i b c sheet) (liquid i b sheet)

-- The word ends behind i in "age", its "e" final, or in "est".
unfoldable pub ends_in_age : ℕ → ℕ → List ℕ → Bool
ends_in_age finale i sheet = eqb (mem sheet (i + 1)) (o "a") && (eqb (mem sheet (i + 2)) (o "g") && eqb finale (i + 3))

unfoldable pub ends_in_est : ℕ → List ℕ → Bool
ends_in_est i sheet = eqb (mem sheet (i + 1)) (o "e") && (eqb (mem sheet (i + 2)) (o "s") && eqb (mem sheet (i + 3)) (o "t"))

-- A weak pair: not before "age" or "est" at the word's end; else "er" is tested.
unfoldable pub weakly : ℕ → ℕ → ℕ → ℕ → List ℕ → Middle
weakly finale i b c sheet =
    cond ((ends_in_age finale i sheet || ends_in_est i sheet) && eqb (mem sheet (i + 4)) 0) (Phase5 sheet) (Goto Ertest i b c sheet)

-- A pair before the vowel at j: a strong one, one that isn't weak, is passed over.
unfoldable pub paired : ℕ → ℕ → ℕ → ℕ → List ℕ → Middle
paired finale j b c sheet = cond (not (is_weak b c)) (Goto Phase4v (j + 1) b c sheet) (weakly finale (j - 1) b c sheet)

-- Vowel, consonant, consonant, and the second vowel at j: a hyphen between the consonants unless they are a pair.
unfoldable pub between : ℕ → ℕ → ℕ → ℕ → ℕ → List ℕ → Middle
between finale i j b c sheet = cond (not (is_pair b c)) (Goto Marki i b c sheet) (paired finale j b c sheet)

-- A vowel is wanted at j: at the word's end there is nothing to do; behind a third consonant the search for a vowel goes on.
unfoldable pub third : ℕ → ℕ → ℕ → ℕ → ℕ → List ℕ → Middle
third finale i j b c sheet =
    cond (eqb (mem sheet j) 0) (Phase5 sheet)
    (cond (vowel (mem sheet j)) (between finale i j b c sheet) (Goto Phase4c (j + 1) b c sheet))

-- The second consonant may be joined with an h.
unfoldable pub second : ℕ → ℕ → ℕ → ℕ → List ℕ → Middle
second finale i b c sheet =
    cond (eqb (mem sheet (i + 1)) (o "h") && joins_h c) (third finale i (i + 2) b (with_h c) sheet) (third finale i (i + 1) b c sheet)

-- phase4vc: b is a consonant behind a vowel, c the letter at i. In this order: "qu" isn't split; a vowel; a double consonant; b joined
-- with an h; "ck"; two consonants.
unfoldable pub pair : ℕ → ℕ → ℕ → ℕ → List ℕ → Middle
pair finale i b c sheet =
    cond (eqb b (o "q") && eqb c (o "u")) (Goto Marki (i - 1) b c sheet)
    (cond (vowel c) (Goto Checkc (i + 1) b c sheet)
    (cond (eqb b c) (doubled i b c sheet)
    (cond (eqb c (o "h") && joins_h b) (Goto Phase4vc (i + 1) (with_h b) c sheet)
    (cond (eqb c (o "k") && eqb b (o "c")) (Goto Marki (i + 1) b c sheet)
    (second finale i b c sheet)))))

-- The word ends behind i in "er".
unfoldable pub ends_in_er : ℕ → List ℕ → Bool
ends_in_er i sheet = eqb (mem sheet (i + 1)) (o "e") && (eqb (mem sheet (i + 2)) (o "r") && eqb (mem sheet (i + 3)) 0)

-- marki: a hyphen before the letter at i, unless only one letter is left before a suffix or the end.
unfoldable pub mark_at : ℕ → ℕ → List ℕ → Middle
mark_at i b sheet = cond (eqb (mem sheet (i + 1)) 0) (Phase5 sheet) (Goto Vowelscan i b (mem sheet i) (clear sheet i))

-- vowelscan: c is the letter that was at i; consonants are passed over.
unfoldable pub scan_vowel : ℕ → ℕ → ℕ → List ℕ → Middle
scan_vowel i b c sheet = cond (vowel c) (Goto Checkc (i + 1) b c sheet) (Goto Phase4c (i + 1) b c sheet)

-- phase4v: a vowel was found, and vowels are passed over up to a consonant.
unfoldable pub pass_vowel : ℕ → ℕ → List ℕ → Middle
pass_vowel i c sheet =
    cond (vowel (mem sheet i)) (Goto Checkc (i + 1) (mem sheet i) (mem sheet i) sheet) (Goto Phase4vc (i + 1) (mem sheet i) c sheet)

-- From a label to the next.
unfoldable pub onward : ℕ → Label → ℕ → ℕ → ℕ → List ℕ → Middle
onward finale Marki i b c sheet = mark_at i b sheet
onward finale Phase4c i b c sheet = Goto Vowelscan i b (mem sheet i) sheet
onward finale Vowelscan i b c sheet = scan_vowel i b c sheet
-- The null code is no vowel of the word, but its end.
onward finale Checkc i b c sheet = cond (eqb c 0) (Phase5 sheet) (Goto Phase4v i b c sheet)
onward finale Phase4v i b c sheet = pass_vowel i c sheet
onward finale Phase4vc i b c sheet = pair finale i b (mem sheet i) sheet
onward finale Ertest i b c sheet = cond (ends_in_er i sheet) (Phase5 sheet) (Goto Marki i b c sheet)

-- So many labels passed. Enough of them come to phase 5 (proofs.Ends.middles_end).
unfoldable pub middles : ℕ → ℕ → Middle → Middle
middles zero finale m = m
middles (suc steps) finale (Phase5 sheet) = Phase5 sheet
middles (suc steps) finale (Goto label i b c sheet) = middles steps finale (onward finale label i b c sheet)

-- More labels than phase 4 passes in a word of n letters, wherever it begins.
abbrev pub enough : ℕ → ℕ
enough n = 5 * n + 13

-- The sheet that phase 4 leaves.
abbrev pub sheet_in : Middle → List ℕ
sheet_in (Goto label i b c sheet) = sheet
sheet_in (Phase5 sheet) = sheet

unfoldable pub phase4 : ℕ → ℕ → Middle → List ℕ
phase4 n finale m = sheet_in (middles (enough n) finale m)

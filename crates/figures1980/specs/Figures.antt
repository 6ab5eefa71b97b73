-- CR 4's figures: words with their breaks and the instructions executed, as another reading of 004 gives them, and what the call says of
-- words at its edges; one table under one statement.
use Rattle.std.specs.Prelude.{ℕ, suc, Bool, true, cond, ◌&&◌, List, [], ◌∷◌, ◌++◌, eqb, length, replicate}
use Prim.Native.Char.{code}
use Prim.Native.String.{String, [] as «empty», ◌∷◌ as ◌then◌}
use Rattle.base.specs.Limits.{budget1980}
use Rattle.base.specs.Grounds.{Said, Finds, Refuses}
use Rattle.base.specs.Tests.{same_list}
use Rattle.machine1980.specs.Run.{Outcome, RanOut, Marked, machine}
use Rattle.machine1980.specs.Breaks.{break_sheet}
use Rattle.machine1980.specs.Calls.{answer1980}

abbrev pub bytes : String → List ℕ
bytes «empty» = []
bytes (c then s) = code c ∷ bytes s

-- The places of the bytes that aren't 0.
abbrev pub marked : ℕ → List ℕ → List ℕ
marked k [] = []
marked k (b ∷ rest) = cond (eqb b 0) (marked (suc k) rest) (k ∷ marked (suc k) rest)

-- The instructions executed, then the gaps that break; nothing where the budget runs out.
abbrev pub found : ℕ → Outcome → List ℕ
found n RanOut = []
found n (Marked finale marks executed) = executed ∷ marked 0 (break_sheet n finale marks)

abbrev pub machined : ℕ → List ℕ → List ℕ
machined budget word = found (length word) (machine budget word)

abbrev pub row : String → List ℕ → ℕ → Bool
row word gaps executed = same_list (machined budget1980 (bytes word)) (executed ∷ gaps)

-- What the call says of a word: 0 and its values, or number, list and place.
abbrev pub in_numbers : Said → List ℕ
in_numbers (Finds values) = 0 ∷ values
in_numbers (Refuses t) = t.number ∷ t.list ∷ t.place ∷ []

abbrev pub says : List ℕ → ℕ → List ℕ → Bool
says word size numbers = same_list (in_numbers (answer1980 budget1980 word size)) numbers

abbrev pub all_of : List Bool → Bool
all_of [] = true
all_of (b ∷ t) = b && all_of t

unfoldable pub words : List Bool
words =
    row "cation" (2 ∷ []) 7
    ∷ row "program" [] 3
    ∷ row "programs" [] 7
    ∷ row "nation" (2 ∷ []) 7
    ∷ row "national" (2 ∷ []) 10
    ∷ row "hyphenation" (7 ∷ []) 11
    ∷ row "concatenation" (3 ∷ 9 ∷ []) 9
    ∷ row "lately" [] 10
    ∷ row "lated" [] 9
    ∷ row "agreeable" (5 ∷ []) 16
    ∷ row "agreeabled" (5 ∷ []) 20
    ∷ row "understatement" (2 ∷ 5 ∷ 10 ∷ []) 15
    ∷ row "interchangeable" (2 ∷ 5 ∷ 11 ∷ []) 21
    ∷ row "typesetting" (7 ∷ []) 11
    ∷ row "algorithm" (2 ∷ []) 2
    ∷ row "metal" (2 ∷ []) 9
    ∷ row "darling" (4 ∷ []) 9
    ∷ row "eulogy" (3 ∷ []) 7
    ∷ row "liquid" (2 ∷ []) 4
    ∷ row "antiquity" (2 ∷ 4 ∷ []) 6
    ∷ row "ticketing" (4 ∷ 6 ∷ []) 11
    ∷ row "master" [] 8
    ∷ row "masters" [] 12
    ∷ row "mastery" (3 ∷ []) 10
    ∷ row "summer" (3 ∷ []) 9
    ∷ row "passage" (3 ∷ []) 10
    ∷ row "passer" [] 5
    ∷ row "vantage" [] 9
    ∷ row "vantages" [] 13
    ∷ row "vantaged" (3 ∷ []) 12
    ∷ row "harvest" (3 ∷ []) 5
    ∷ row "softest" [] 6
    ∷ row "soften" (3 ∷ []) 6
    ∷ row "tablet" [] 5
    ∷ row "carelessness" (4 ∷ 8 ∷ []) 23
    ∷ row "specialized" (3 ∷ 7 ∷ []) 17
    ∷ row "sparkling" (4 ∷ []) 12
    ∷ row "tickling" (4 ∷ []) 11
    ∷ row "crackling" (5 ∷ []) 10
    ∷ row "microscope" (5 ∷ []) 15
    ∷ row "atmosphere" (2 ∷ 4 ∷ []) 13
    ∷ row "photographer" (6 ∷ []) 8
    ∷ row "visionary" (2 ∷ 6 ∷ []) 14
    ∷ row "mercenary" (3 ∷ 6 ∷ []) 12
    ∷ row "ordinary" (2 ∷ 4 ∷ []) 11
    ∷ row "comfortable" (3 ∷ 7 ∷ []) 12
    ∷ row "veritable" [] 8
    ∷ row "sufficient" (3 ∷ 5 ∷ []) 13
    ∷ row "mathematics" (4 ∷ 5 ∷ []) 13
    ∷ row "unidentified" (6 ∷ []) 14
    ∷ row "uniform" [] 5
    ∷ row "disyllabic" (5 ∷ []) 8
    ∷ row "transpose" [] 14
    ∷ row "triangle" (3 ∷ []) 9
    ∷ row "equation" (4 ∷ []) 9
    ∷ row "center" [] 5
    ∷ row "abled" [] 9
    ∷ row "tional" [] 9
    ∷ row "supeed" [] 26
    ∷ row "lateness" (4 ∷ []) 14
    ∷ row "slately" [] 13
    ∷ row "stationary" (3 ∷ 7 ∷ []) 17
    ∷ row "selfishnesses" (3 ∷ 7 ∷ []) 15
    ∷ row "walked" [] 11
    ∷ row "related" (2 ∷ []) 9
    ∷ row "interested" (2 ∷ 5 ∷ []) 14
    ∷ row "unintended" (4 ∷ []) 15
    ∷ row "understood" (2 ∷ 5 ∷ []) 7
    ∷ row "antiquated" (2 ∷ 4 ∷ []) 10
    ∷ row "quickly" [] 6
    ∷ row "ticket" [] 5
    ∷ row "rolling" (4 ∷ []) 8
    ∷ row "sellers" [] 10
    ∷ row "filler" [] 4
    ∷ row "percentage" (3 ∷ []) 10
    ∷ row "nationally" (2 ∷ 6 ∷ []) 12
    ∷ row "dispossessed" (3 ∷ 6 ∷ []) 23
    ∷ row "yearling" (5 ∷ []) 8
    ∷ row "indispensability" (2 ∷ 5 ∷ 8 ∷ []) 16
    ∷ row "untied" [] 17
    ∷ row "the" [] 0
    ∷ row "hyph" [] 0
    ∷ row "Nation" (2 ∷ []) 7
    ∷ row "NATION" (2 ∷ []) 7
    -- "lately" executes ten instructions, so that a budget of nine runs out
    ∷ same_list (machined 10 (bytes "lately")) (10 ∷ [])
    ∷ same_list (machined 9 (bytes "lately")) []
    ∷ []

-- The edges: 63 letters and 64, a room of 63 bytes, an empty word, and what is no letter.
unfoldable pub edges : List Bool
edges =
    says (replicate 63 97) 64 (0 ∷ 0 ∷ 0 ∷ 2 ∷ [])
    ∷ says (replicate 64 97) 64 (4 ∷ 0 ∷ 0 ∷ [])
    ∷ says (replicate 63 97 ++ (49 ∷ [])) 64 (4 ∷ 0 ∷ 0 ∷ [])
    ∷ says (bytes "nation") 63 (5 ∷ 0 ∷ 0 ∷ [])
    ∷ says (bytes "nation") 64 (0 ∷ 0 ∷ 1 ∷ 7 ∷ [])
    ∷ says [] 63 (5 ∷ 0 ∷ 0 ∷ [])
    ∷ says [] 64 (2 ∷ 0 ∷ 0 ∷ [])
    ∷ says (bytes "na1tion") 64 (3 ∷ 0 ∷ 2 ∷ [])
    -- CR 5: "The 1980 machine refuses it with 3."
    ∷ says (bytes "na'tion") 64 (3 ∷ 0 ∷ 2 ∷ [])
    ∷ says (bytes "l'entrata") 64 (3 ∷ 0 ∷ 1 ∷ [])
    ∷ says (bytes "hyph") 64 (0 ∷ 0 ∷ 0 ∷ 0 ∷ [])
    ∷ []

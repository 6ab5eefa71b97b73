-- What the code tells, joined with the sheet.
use Rattle.std.specs.Prelude.{ℕ, ◌+◌, ◌≤◌, ◌<◌, List, Option, Some, None}
use Rattle.sheet1980.specs.Sheet.{u}
use Rattle.middle1980.specs.Middles.{Middle, Goto, Phase5}
use Rattle.middle1980.specs.declared.Label.{Label}
use Rattle.middle1980.specs.declared.Label.TheVariants.{Marki, Phase4c, Vowelscan, Checkc, Phase4v, Phase4vc, Ertest}
use Rattle.middle1980.specs.declared.Goto as registers

-- On to a label; None is phase 5.
abbrev pub Step : Type 0
Step = Option registers.Goto

abbrev pub joined : Step → List ℕ → Middle
joined (Some at) sheet = Goto at.label at.i at.b at.c sheet
joined None sheet = Phase5 sheet

-- Where i may stand at each label in a word of n letters: on a letter or just behind them.
abbrev pub Place : ℕ → Label → ℕ → ℕ → Type 0
Place n Marki i c = (u + 1 ≤ i) × (i ≤ u + n + 1)
Place n Phase4c i c = (u + 1 ≤ i) × (i ≤ u + n + 1)
Place n Vowelscan i c = (u + 1 ≤ i) × (i ≤ u + n + 1) × (0 < c → i ≤ u + n)
Place n Checkc i c = (u + 1 ≤ i) × (i ≤ u + n + 2) × (0 < c → i ≤ u + n + 1)
Place n Phase4v i c = (u + 1 ≤ i) × (i ≤ u + n + 1)
Place n Phase4vc i c = (u + 2 ≤ i) × (i ≤ u + n + 1)
Place n Ertest i c = (u + 1 ≤ i) × (i ≤ u + n + 1)

abbrev pub Placed : ℕ → Step → Type 0
Placed n (Some at) = Place n at.label at.i at.c
Placed n None = Unit {0}

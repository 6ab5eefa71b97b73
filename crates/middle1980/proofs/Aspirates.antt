-- Which letters join with an h: one test over the pair table.
use Prim.Native.Nat.{ℕ, ◌-◌, ◌%◌, ◌<◌, ◌≤◌}
use mathlib.Core.Bool.{Bool, true, false, cond, not, ◌&&◌}
use mathlib.Core.Path.{◌≡◌, refl}
use native.Mathlib.Omega.{arith}
use lib.Dec.{T, leb, eqb}
use lib.ListN.{get_or}
use Rattle.tables1980.specs.Pairs.{pair_words, btable}
use Rattle.tables1980.proofs.Table.{every, at}
use Rattle.tables1980.proofs.Readers.{pair_before, pair_in, pair_past}

-- a row's number is its code less 2: no letter before c nor behind t
near : ℕ → ℕ → Bool
near k w = cond (not (eqb (w % 8) 0)) (leb 1 k && leb k 18) true

tested : T (every near 0 pair_words)
unfolding near pair_words
tested = tt

holds : (t : Bool) → T t → t ≡ true
holds true h = refl
holds false h = absurd h

row : (k : ℕ) → k < 30 → near k (get_or pair_words k 0) ≡ true
unfolding pair_words
row k h = holds (near k (get_or pair_words k 0)) (at near pair_words tested k h)

-- the word of a code that was read
pub joins_rows : {c w : ℕ} → w ≡ btable c → eqb (w % 8) 0 ≡ false → (3 ≤ c) × (c ≤ 20)
unfolding near
joins_rows {c} p e = let h = row (c - 2) in grind (arith, pair_before, pair_in, pair_past)

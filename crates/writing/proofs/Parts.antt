-- Parts that a writer puts one after the other.
use Prim.Native.Nat.{ℕ, suc, ◌+◌, ◌≤◌}
use mathlib.Core.List.{List, [], ◌∷◌, ◌++◌}
use mathlib.Core.Path.{◌≡◌, refl, sym, ◌∙◌, ap}
use native.Mathlib.Nat.{add-zero}
use native.Mathlib.Omega.{arith}
use lib.ListN.{length, set, length-append}
use lib.Seq.{sets, length-sets}
use Rattle.writing.specs.Put.{Put}
use Rattle.writing.specs.Written.{Fits, Writes}
use Rattle.writing.specs.declared.Writer.{Writer}

pub sets_append : (xs ys l : List ℕ) (i : ℕ) → sets l i (xs ++ ys) ≡ sets (sets l i xs) (i + length xs) ys
sets_append [] ys l i = rw (add-zero i)
sets_append (x ∷ xs) ys l i = let e : i + suc (length xs) ≡ suc i + length xs = omega arith in rw e (sets_append xs ys (set l i x) (suc i))

-- other bytes that are equal
pub fits_as : {bytes others : List ℕ} (w : Writer) → bytes ≡ others → Fits bytes w → Fits others w
fits_as w e h = let n : length _ ≡ length _ = ap length e in omega (arith, h, n)

pub written_as : {bytes others : List ℕ} {a b : Writer} → bytes ≡ others → Writes others a b → Writes bytes a b
written_as e p = rw e p

-- no bytes
pub none_written : (a : Writer) → a.at ≤ length a.room.now → Writes [] a a
none_written a h = record { room = refl; size = refl; put = record { fits = omega (arith, h); ends = omega arith; memory = refl } }

-- a room in which bytes were put has its size
pub written_by : {bytes : List ℕ} {a b : Writer} → b.room.ghost_name ≡ a.room.ghost_name → Put bytes a.at a.room.now b.at b.room.now → Writes bytes a b
written_by {bytes} {a} e p = record { room = e; size = rw p.memory (length-sets a.room.now a.at bytes); put = p }

-- writing goes on inside of the room
pub written_within : {bytes : List ℕ} {a b : Writer} → Writes bytes a b → b.at ≤ length b.room.now
written_within p = omega (arith, p.put.fits, p.put.ends, p.size)

-- two parts
module _ (x y : List ℕ) {whole : List ℕ} (e : whole ≡ x ++ y) (a : Writer) where
  pub first_part : Fits whole a → Fits x a
  first_part h = let n : length whole ≡ length x + length y = rw e (length-append x y) in omega (arith, h, n)

  module _ {b : Writer} (p : Writes x a b) where
    pub second_part : Fits whole a → Fits y b
    second_part h =
        let n : length whole ≡ length x + length y = rw e (length-append x y) in
        omega (arith, h, n, p.size, p.put.ends)

    pub both_parts : {c : Writer} → Writes y b c → Writes whole a c
    both_parts q =
        let n : length whole ≡ length x + length y = rw e (length-append x y) in
        record {
          room = q.room ∙ p.room;
          size = q.size ∙ p.size;
          put = record {
            fits = omega (arith, q.put.fits, n, p.size, p.put.ends);
            ends = omega (arith, q.put.ends, p.put.ends, n);
            memory = q.put.memory ∙ rw (p.put.memory, p.put.ends, e) (sym (sets_append x y a.room.now a.at));
          };
        }

pub joined : {x y : List ℕ} {a b c : Writer} → Writes x a b → Writes y b c → Writes (x ++ y) a c
joined {x} {y} {a} p q = both_parts x y refl a p q

-- Of `whole`, which was begun at `a`, the part `rest` is left at `b`.
pub record Going (whole : List ℕ) (a : Writer) (rest : List ℕ) (b : Writer) : Type 0 where
  pub fits : Fits rest b
  pub whole_by : (c : Writer) → Writes rest b c → Writes whole a c

pub go_start : (whole : List ℕ) (a : Writer) → Fits whole a → Going whole a whole a
go_start whole a h = record { fits = h; whole_by = λ c p. p }

module _ (x y : List ℕ) {whole rest : List ℕ} (e : rest ≡ x ++ y) {a b : Writer} (g : Going whole a rest b) where
  -- the next part fits
  pub go_fits : Fits x b
  go_fits = first_part x y e b g.fits

  pub go_step : {c : Writer} → Writes x b c → Going whole a y c
  go_step p = record { fits = second_part x y e b p g.fits; whole_by = λ d q. g.whole_by d (both_parts x y e b p q) }

-- nothing is left
pub go_end : {whole rest : List ℕ} {a b : Writer} → rest ≡ [] → Going whole a rest b → Writes whole a b
go_end {b = b} e g = let n : length _ ≡ 0 = ap length e in g.whole_by b (written_as e (none_written b (omega (arith, g.fits, n))))

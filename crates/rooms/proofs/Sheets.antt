-- What stands at each byte of a sheet, and of a room that a sheet is written into.
use Prim.Native.Nat.{ℕ, zero, suc, ◌+◌, ◌-◌, ◌≤◌, ◌<◌}
use mathlib.Core.List.{List, [], ◌∷◌, ◌++◌}
use mathlib.Core.Path.{◌≡◌, refl, sym, ◌∙◌, ap}
use native.Mathlib.Decide.{dec_lt, ℕ_discrete}
use native.Mathlib.Omega.{arith}
use lib.ListN.{length, get_or, take, drop, set, replicate, length-append, length-drop, length-set, get_or-append}
use lib.Seq.{get_or-set_same, get_or-set_other, get_or-append-add, get_or-drop, ext_get_or, get_or-take, length-take-le, take_at, drop_at}
use Rattle.rooms.specs.Rooms.{sheet_from, sheet, written}

-- sheets
pub sheet_length : (f : ℕ → ℕ) (k n : ℕ) → length (sheet_from f k n) ≡ n
unfolding sheet_from
sheet_length f k zero = refl
sheet_length f k (suc n) = ap suc (sheet_length f (suc k) n)

sheet_at : (f : ℕ → ℕ) (k n i : ℕ) → i < n → get_or (sheet_from f k n) i 0 ≡ f (k + i)
unfolding sheet_from
sheet_at f k zero i h = absurd (omega arith)
sheet_at f k (suc n) zero h = ap f (omega arith)
sheet_at f k (suc n) (suc i) h = sheet_at f (suc k) n i (omega arith) ∙ ap f (omega arith)

sheet_more : (f : ℕ → ℕ) (k n : ℕ) → sheet_from f k (suc n) ≡ sheet_from f k n ++ (f (k + n) ∷ [])
unfolding sheet_from
sheet_more f k zero = ap (λ (i : ℕ). f i ∷ []) (omega arith)
sheet_more f k (suc n) =
    let e : suc k + n ≡ k + suc n = omega arith in
    ap (λ (l : List ℕ). f k ∷ l) (sheet_more f (suc k) n ∙ ap (λ (i : ℕ). sheet_from f (suc k) n ++ (f i ∷ [])) e)

pub sheet_zeros : (k n : ℕ) → replicate n 0 ≡ sheet_from (λ i. 0) k n
unfolding sheet_from
sheet_zeros k zero = refl
sheet_zeros k (suc n) = ap (λ (l : List ℕ). 0 ∷ l) (sheet_zeros (suc k) n)

pub sheet_same : (width : ℕ) (f g : ℕ → ℕ) → ((i : ℕ) → i < width → f i ≡ g i) → sheet width f ≡ sheet width g
unfolding sheet
sheet_same width f g e =
    ext_get_or 0 (sheet_from f 0 width) (sheet_from g 0 width) (sheet_length f 0 width ∙ sym (sheet_length g 0 width))
    (λ i k. at i (omega (arith, k, sheet_length f 0 width)))
  where
    at : (i : ℕ) → i < width → get_or (sheet_from f 0 width) i 0 ≡ get_or (sheet_from g 0 width) i 0
    at i k = sheet_at f 0 width i k ∙ e (0 + i) (omega arith) ∙ sym (sheet_at g 0 width i k)

-- the first bytes of a list are a sheet of it
pub take_sheet : (width : ℕ) (bytes : List ℕ) → width ≤ length bytes → take width bytes ≡ sheet width (λ i. get_or bytes i 0)
unfolding sheet
take_sheet width bytes h =
    ext_get_or 0 (take width bytes) (sheet_from (λ i. get_or bytes i 0) 0 width) (length-take-le width bytes h ∙ sym (sheet_length (λ i. get_or bytes i 0) 0 width))
    (λ i k. at i (omega (arith, k, length-take-le width bytes h)))
  where
    at : (i : ℕ) → i < width → get_or (take width bytes) i 0 ≡ get_or (sheet_from (λ i. get_or bytes i 0) 0 width) i 0
    at i k = let e : i ≡ 0 + i = omega arith in get_or-take width bytes i 0 k ∙ ap (λ (j : ℕ). get_or bytes j 0) e ∙ sym (sheet_at (λ i. get_or bytes i 0) 0 width i k)

-- a room that has a sheet, byte by byte
module _ (width : ℕ) (f : ℕ → ℕ) (d : List ℕ) where
  pub written_length : width ≤ length d → length (written width (sheet width f) d) ≡ length d
  unfolding written sheet
  written_length h = length-append (sheet_from f 0 width) (drop width d) ∙ omega (arith, sheet_length f 0 width, length-drop width d)

  pub written_low : (i : ℕ) → i < width → get_or (written width (sheet width f) d) i 0 ≡ f i
  unfolding written sheet
  written_low i h = get_or-append (sheet_from f 0 width) (drop width d) 0 i (omega (arith, sheet_length f 0 width)) ∙ sheet_at f 0 width i h ∙ ap f (omega arith)

  pub written_high : (i : ℕ) → width ≤ i → get_or (written width (sheet width f) d) i 0 ≡ get_or d i 0
  unfolding written sheet
  written_high i h =
      let e : i ≡ length (sheet_from f 0 width) + (i - width) = omega (arith, sheet_length f 0 width) in
      let g : width + (i - width) ≡ i = omega arith in
      ap (λ (k : ℕ). get_or (sheet_from f 0 width ++ drop width d) k 0) e
      ∙ get_or-append-add (sheet_from f 0 width) (drop width d) (i - width) 0
      ∙ get_or-drop width d (i - width) 0
      ∙ ap (λ (k : ℕ). get_or d k 0) g

  pub written_take : take width (written width (sheet width f) d) ≡ sheet width f
  unfolding written sheet
  written_take = take_at (sheet_from f 0 width) (drop width d) width (sheet_length f 0 width)

  pub written_again : (bytes : List ℕ) → written width bytes (written width (sheet width f) d) ≡ written width bytes d
  unfolding written sheet
  written_again bytes = ap (λ (l : List ℕ). bytes ++ l) (drop_at (sheet_from f 0 width) (drop width d) width (sheet_length f 0 width))

  pub written_is : (a : List ℕ) → width ≤ length d → length a ≡ length d → ((i : ℕ) → i < width → get_or a i 0 ≡ f i)
      → ((i : ℕ) → width ≤ i → i < length d → get_or a i 0 ≡ get_or d i 0) → a ≡ written width (sheet width f) d
  written_is a h l low high = ext_get_or 0 a (written width (sheet width f) d) (l ∙ sym (written_length h)) (λ i k. at i k (dec_lt i width))
    where
      at : (i : ℕ) → i < length a → Dec (i < width) → get_or a i 0 ≡ get_or (written width (sheet width f) d) i 0
      at i k (yes p) = low i p ∙ sym (written_low i p)
      at i k (no p) = high i (omega arith) (omega arith) ∙ sym (written_high i (omega arith))

-- one byte of a sheet set
pub set_written : (width : ℕ) (f g : ℕ → ℕ) (d : List ℕ) (k x : ℕ) → width ≤ length d → k < width → x ≡ g k → ((j : ℕ) → j < width → (j ≡ k → ⊥) → f j ≡ g j)
    → set (written width (sheet width f) d) k x ≡ written width (sheet width g) d
set_written width f g d k x large h e same =
    written_is width g d (set room k x) large (length-set room k x ∙ written_length width f d large) (λ i l. low i l (ℕ_discrete i k)) (λ i l m. high i l)
  where
    room : List ℕ
    room = written width (sheet width f) d

    low : (i : ℕ) → i < width → Dec (i ≡ k) → get_or (set room k x) i 0 ≡ g i
    low i l (yes p) = rw (p, get_or-set_same room k x 0 (omega (arith, written_length width f d large))) e
    low i l (no p) = get_or-set_other room k i x 0 p ∙ written_low width f d i l ∙ same i l p

    high : (i : ℕ) → width ≤ i → get_or (set room k x) i 0 ≡ get_or d i 0
    high i l = get_or-set_other room k i x 0 (λ q. omega (arith, q)) ∙ written_high width f d i l

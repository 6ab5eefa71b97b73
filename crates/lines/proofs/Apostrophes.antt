-- Where an apostrophe may stand, in terms of a line's symbols: every 28 of a good exception line stands between two of the 26, and every
-- 28 of a good pattern line does or is its first or last symbol; and the other way round, for lines whose bytes are good.
use Prim.Native.Nat.{ℕ, zero, suc, ◌+◌, ◌-◌, ◌≤◌, ◌<◌}
use mathlib.Core.Bool.{Bool, true, false, cond, not, ◌&&◌, ◌||◌, or-false, and-true}
use mathlib.Core.List.{List, [], ◌∷◌}
use mathlib.Core.Logic.{◌⊎◌, inl, inr, ◌↔◌}
use mathlib.Core.Path.{◌≡◌, refl, sym, ◌∙◌, ap}
use native.Mathlib.Numerals.{add-one}
use native.Mathlib.Omega.{arith}
use native.Mathlib.Decide.{dec_lt}
use borrow.Author.Tests.{le-leb, lt-leb, eq-eqb, ne_eqb, eqb-true, eqb-false}
use lib.Dec.{eqb}
use lib.ListN.{length, get_or, drop}
use Rattle.base.specs.Limits.{letter_limit, edge, apostrophe_symbol}
use Rattle.base.proofs.Lists.{never, both}
use Rattle.words.specs.Symbols.{line_feed, dot, apostrophe, small, digit, symbol_of, symbols_of}
use Rattle.words.proofs.Laws.{small_low, small_high, symbol_small, symbol_dot, symbol_apostrophe, small_symbol, symbols_skip, symbols_keep, other_symbol, digit_not_dot, digit_not_apostrophe}
use Rattle.lines.specs.Apostrophes.{letter_symbol, letter_next, apostrophes_fit, has_apostrophe, Between, AllBetween, AllBetweenOrEnds}
use Rattle.lines.specs.Lines.{is_nil, starts_with, any_of, line_letter, pattern_form, pattern_bytes, good_pattern, exception_form, exception_bytes, good_exception}
use Rattle.lines.proofs.Laws.{plain_fit}

-- What stands right before place i of some symbols, `before` standing before the first.
abbrev left_of : Bool → List ℕ → ℕ → Bool
left_of before l zero = before
left_of before l (suc k) = letter_symbol (get_or l k 0)

-- On both sides of every apostrophe stands what may.
abbrev Sides : Bool → Bool → List ℕ → Type 0
Sides ends before l = (i : ℕ) → get_or l i 0 ≡ apostrophe_symbol → (left_of before l i ≡ true) × (letter_next ends (drop (suc i) l) ≡ true)

left_on : (before : Bool) (s : ℕ) (t : List ℕ) (k : ℕ) → left_of (letter_symbol s) t k ≡ left_of before (s ∷ t) (suc k)
left_on before s t zero = refl
left_on before s t (suc k) = refl

fits_sides : (ends before : Bool) (l : List ℕ) → apostrophes_fit ends before l ≡ true → Sides ends before l
unfolding apostrophes_fit
fits_sides ends before [] e i q = absurd (omega (arith, q))
fits_sides ends before (s ∷ t) e zero q =
    let here = (both (not (eqb s apostrophe_symbol) || (before && letter_next ends t)) _ e).0 in
    both before (letter_next ends t) (rw (eq-eqb s apostrophe_symbol q) at here)
fits_sides ends before (s ∷ t) e (suc i) q =
    let rest = fits_sides ends (letter_symbol s) t (both (not (eqb s apostrophe_symbol) || (before && letter_next ends t)) _ e).1 i q in
    (sym (left_on before s t i) ∙ rest.0, rest.1)

sides_fit : (ends before : Bool) (l : List ℕ) → Sides ends before l → apostrophes_fit ends before l ≡ true
unfolding apostrophes_fit
sides_fit ends before [] f = refl
sides_fit ends before (s ∷ t) f = rw (here (eqb s apostrophe_symbol) refl, sides_fit ends (letter_symbol s) t (λ i q. let g = f (suc i) q in (left_on before s t i ∙ g.0, g.1)))
  where
    here : (z : Bool) → eqb s apostrophe_symbol ≡ z → (not z || (before && letter_next ends t)) ≡ true
    here true p = let g = f 0 (eqb-true s apostrophe_symbol p) in rw (g.0, g.1)
    here false p = refl

-- past the last symbol stands none of the 26
next_letter : (l : List ℕ) (n : ℕ) → letter_next false (drop n l) ≡ letter_symbol (get_or l n 0)
unfolding letter_next letter_symbol
next_letter [] zero = refl
next_letter (s ∷ t) zero = refl
next_letter [] (suc n) = refl
next_letter (s ∷ t) (suc n) = next_letter t n

behind_letter_lem : (l : List ℕ) (i : ℕ) → letter_symbol (get_or l (i + 1) 0) ≡ letter_next false (drop (suc i) l)
behind_letter_lem l i = rw add-one (sym (next_letter l (suc i)))

one_less : (k : ℕ) → suc k - 1 ≡ k
one_less k = omega arith

sides_between : (l : List ℕ) → Sides false false l → AllBetween l
sides_between l f zero q = never (f 0 q).0
sides_between l f (suc k) q = let g = f (suc k) q in record { inside = omega arith; before = rw (one_less k) g.0; behind = behind_letter_lem l (suc k) ∙ g.1 }

between_sides : (l : List ℕ) → AllBetween l → Sides false false l
between_sides l f zero q = absurd (omega (arith, (f 0 q).inside))
between_sides l f (suc k) q = let g = f (suc k) q in (rw (one_less k) at g.before, sym (behind_letter_lem l (suc k)) ∙ g.behind)

-- An exception line: "under the same rule", "between two of the 26 letters".
pub exception_apostrophes : (line : List ℕ) → (good_exception line ≡ true) ↔ ((exception_bytes line_letter line ≡ true) × AllBetween (symbols_of line))
unfolding good_exception
exception_apostrophes line = (
  λ e. let g = both (exception_bytes line_letter line) _ e in (g.0, sides_between (symbols_of line) (fits_sides false false (symbols_of line) g.1)),
  λ p. rw (p.0, sides_fit false false (symbols_of line) (between_sides (symbols_of line) p.1)),
)

-- a pattern: what stands on both sides, or nothing at its ends
there : (l : List ℕ) (i s : ℕ) → get_or l i 0 ≡ suc s → i < length l
there [] i s q = absurd (omega (arith, q))
there (x ∷ l) zero s q = omega arith
there (x ∷ l) (suc i) s q = omega (arith, there l i s q)

next_or_end : (l : List ℕ) (n : ℕ) → letter_next true (drop n l) ≡ true → (length l ≤ n) ⊎ (letter_symbol (get_or l n 0) ≡ true)
unfolding letter_next
next_or_end [] n e = inl (omega arith)
next_or_end (s ∷ t) zero e = inr e
next_or_end (s ∷ t) (suc n) e = go (next_or_end t n e)
  where
    go : (length t ≤ n) ⊎ (letter_symbol (get_or t n 0) ≡ true) → (length (s ∷ t) ≤ suc n) ⊎ (letter_symbol (get_or t n 0) ≡ true)
    go (inl h) = inl (omega arith)
    go (inr p) = inr p

end_next_lem : (l : List ℕ) (n : ℕ) → (length l ≤ n) ⊎ (letter_symbol (get_or l n 0) ≡ true) → letter_next true (drop n l) ≡ true
unfolding letter_next letter_symbol
end_next_lem [] zero p = refl
end_next_lem [] (suc n) p = refl
end_next_lem (s ∷ t) zero (inl h) = absurd (omega arith)
end_next_lem (s ∷ t) zero (inr p) = p
end_next_lem (s ∷ t) (suc n) (inl h) = end_next_lem t n (inl (omega arith))
end_next_lem (s ∷ t) (suc n) (inr p) = end_next_lem t n (inr p)

sides_ends : (l : List ℕ) → Sides true true l → AllBetweenOrEnds l
sides_ends l f zero q = inr (inl refl)
sides_ends l f (suc k) q = go (next_or_end l (suc (suc k)) (f (suc k) q).1)
  where
    go : (length l ≤ suc (suc k)) ⊎ (letter_symbol (get_or l (suc (suc k)) 0) ≡ true) → Between l (suc k) ⊎ ((suc k ≡ 0) ⊎ (suc (suc k) ≡ length l))
    go (inl h) = inr (inr (omega (arith, there l (suc k) edge q)))
    go (inr p) = inl (record { inside = omega arith; before = rw (one_less k) (f (suc k) q).0; behind = rw add-one p })

-- a symbol is one of the 26, the edge or the apostrophe
abbrev Kinds : List ℕ → Type 0
Kinds l = (i : ℕ) → i < length l → (letter_symbol (get_or l i 0) ≡ true) ⊎ ((get_or l i 0 ≡ edge) ⊎ (get_or l i 0 ≡ apostrophe_symbol))

small_letter : (b : ℕ) → small b ≡ true → letter_symbol (symbol_of b) ≡ true
unfolding letter_symbol
small_letter b e =
    let s = symbol_small b e in
    rw (le-leb 1 (symbol_of b) (omega (arith, s, small_low b e)), le-leb (symbol_of b) letter_limit (omega (arith, s, small_high b e)))

byte_kind : (b : ℕ) → eqb (symbol_of b) 0 ≡ false → (letter_symbol (symbol_of b) ≡ true) ⊎ ((symbol_of b ≡ edge) ⊎ (symbol_of b ≡ apostrophe_symbol))
byte_kind b e = go (small b) refl (eqb b dot) refl (eqb b apostrophe) refl
  where
    go : (z : Bool) → small b ≡ z → (d : Bool) → eqb b dot ≡ d → (a : Bool) → eqb b apostrophe ≡ a
        → (letter_symbol (symbol_of b) ≡ true) ⊎ ((symbol_of b ≡ edge) ⊎ (symbol_of b ≡ apostrophe_symbol))
    go true p d q a r = inl (small_letter b p)
    go false p true q a r = inr (inl (sym (symbol_dot b p (eqb-true b dot q))))
    go false p false q true r = inr (inr (sym (symbol_apostrophe b p (eqb-false b dot q) (eqb-true b apostrophe r))))
    go false p false q false r = never (sym e ∙ other_symbol b p (eqb-false b dot q) (eqb-false b apostrophe r))

line_kinds : (line : List ℕ) → Kinds (symbols_of line)
unfolding symbols_of
line_kinds [] i h = absurd (omega arith)
line_kinds (b ∷ t) i h = go (eqb (symbol_of b) 0) refl i h (line_kinds t)
  where
    go : (z : Bool) → eqb (symbol_of b) 0 ≡ z → (i : ℕ) → i < length (cond z (symbols_of t) (symbol_of b ∷ symbols_of t)) → Kinds (symbols_of t)
        → (letter_symbol (get_or (cond z (symbols_of t) (symbol_of b ∷ symbols_of t)) i 0) ≡ true)
        ⊎ ((get_or (cond z (symbols_of t) (symbol_of b ∷ symbols_of t)) i 0 ≡ edge) ⊎ (get_or (cond z (symbols_of t) (symbol_of b ∷ symbols_of t)) i 0 ≡ apostrophe_symbol))
    go true p i h next = next i h
    go false p zero h next = byte_kind b p
    go false p (suc i) h next = next i (omega arith)

-- one of the 26 is among a line's symbols where a small letter is among its bytes
abbrev HasLetter : List ℕ → Type 0
HasLetter l = (j : ℕ) × (letter_symbol (get_or l j 0) ≡ true)

line_letter_lem : (line : List ℕ) → any_of small line ≡ true → HasLetter (symbols_of line)
unfolding any_of symbols_of
line_letter_lem [] e = never e
line_letter_lem (b ∷ t) e = go (small b) refl e (line_letter_lem t)
  where
    skip : (z : Bool) → HasLetter (symbols_of t) → HasLetter (cond z (symbols_of t) (symbol_of b ∷ symbols_of t))
    skip true h = h
    skip false h = (suc h.0, h.1)

    go : (z : Bool) → small b ≡ z → (z || any_of small t) ≡ true → (any_of small t ≡ true → HasLetter (symbols_of t)) → HasLetter (symbols_of (b ∷ t))
    go true p h next = rw (symbols_keep b t (small_symbol b p)) (0, small_letter b p)
    go false p h next = skip (eqb (symbol_of b) 0) (next h)

-- ""." only as first or last symbol"
abbrev Edged : Bool → List ℕ → Type 0
Edged opening l = (i : ℕ) → get_or l i 0 ≡ edge → ((opening ≡ true) × (i ≡ 0)) ⊎ (suc i ≡ length l)

-- behind the first byte, the edge is last
later : (opening : Bool) (s : ℕ) (l : List ℕ) → (s ≡ edge → ⊥) → Edged false l → Edged opening (s ∷ l)
later opening s l n f zero q = absurd (n q)
later opening s l n f (suc i) q = go (f i q)
  where
    go : ((false ≡ true) × (i ≡ 0)) ⊎ (suc i ≡ length l) → ((opening ≡ true) × (suc i ≡ 0)) ⊎ (suc (suc i) ≡ suc (length l))
    go (inl p) = never p.0
    go (inr p) = inr (ap suc p)

same_edged : (opening : Bool) (l : List ℕ) → Edged false l → Edged opening l
same_edged opening l f i q = go (f i q)
  where
    go : ((false ≡ true) × (i ≡ 0)) ⊎ (suc i ≡ length l) → ((opening ≡ true) × (i ≡ 0)) ⊎ (suc i ≡ length l)
    go (inl p) = never p.0
    go (inr p) = inr p

-- a line feed ends a line, and has no symbol
feed_last : (t : List ℕ) → starts_with line_feed t ≡ true → pattern_form line_letter false false t ≡ true → symbols_of t ≡ []
unfolding starts_with pattern_form line_letter small digit is_nil symbols_of symbol_of
feed_last [] s f = refl
feed_last (b ∷ []) s f = rw (eqb-true b line_feed s)
feed_last (b ∷ c ∷ u) s f = never (rw (eqb-true b line_feed s) at f)

no_edge : (b : ℕ) → line_letter b ≡ true → symbol_of b ≡ edge → ⊥
unfolding line_letter
no_edge b e q = go (small b) refl (eqb b apostrophe) refl e
  where
    go : (z : Bool) → small b ≡ z → (a : Bool) → eqb b apostrophe ≡ a → (z || a) ≡ true → ⊥
    go true p a r h = omega (arith, q, symbol_small b p, small_high b p)
    go false p true r h =
        let s = eqb-true b apostrophe r in omega (arith, q, symbol_apostrophe b p (λ d. omega (arith, d, s)) s)
    go false p false r h = never h

digit_no_edge : (b : ℕ) → digit b ≡ true → symbol_of b ≡ edge → ⊥
digit_no_edge b e s = go (small b) refl
  where
    go : (y : Bool) → small b ≡ y → ⊥
    go true m = omega (arith, s, symbol_small b m, small_high b m)
    go false m = omega (arith, s, eqb-true (symbol_of b) 0 (other_symbol b m (digit_not_dot b e) (digit_not_apostrophe b e)))

fed_edged : (opening : Bool) (b : ℕ) (t : List ℕ) → eqb b line_feed ≡ true → is_nil t ≡ true → Edged opening (symbols_of (b ∷ t))
unfolding is_nil symbols_of symbol_of small
fed_edged opening b [] f n i s = absurd (omega (arith, rw (eqb-true b line_feed f) at s))
fed_edged opening b (x ∷ t) f n i s = never n

line_edged : (opening after_digit : Bool) (line : List ℕ) → pattern_form line_letter opening after_digit line ≡ true → Edged opening (symbols_of line)
unfolding pattern_form
line_edged o a [] e = never e
line_edged o a (b ∷ t) e = by (line_letter b) refl (digit b) refl (eqb b dot) refl e (line_edged false false t) (line_edged false true t)
  where
    -- a symbol that is no edge, or none
    on : (symbol_of b ≡ edge → ⊥) → Edged false (symbols_of t) → Edged o (symbols_of (b ∷ t))
    on n f = keep (eqb (symbol_of b) 0) refl
      where
        keep : (z : Bool) → eqb (symbol_of b) 0 ≡ z → Edged o (symbols_of (b ∷ t))
        keep true p = rw (symbols_skip b t p) (same_edged o (symbols_of t) f)
        keep false p = rw (symbols_keep b t p) (later o (symbol_of b) (symbols_of t) n f)

    dotted : eqb b dot ≡ true → line_letter b ≡ false → (o || starts_with line_feed t) ≡ true → pattern_form line_letter false false t ≡ true → Edged false (symbols_of t) → Edged o (symbols_of (b ∷ t))
    dotted d l s f g = rw (symbols_keep b t kept) (at (symbol_of b) o refl s)
      where
        not_small : small b ≡ false
        not_small = go (small b) refl
          where
            go : (z : Bool) → small b ≡ z → small b ≡ false
            go true p = absurd (omega (arith, small_low b p, eqb-true b dot d))
            go false p = p

        kept : eqb (symbol_of b) 0 ≡ false
        kept = ne_eqb (symbol_of b) 0 (λ z. omega (arith, z, symbol_dot b not_small (eqb-true b dot d)))

        at : (x : ℕ) (z : Bool) → o ≡ z → (z || starts_with line_feed t) ≡ true → Edged o (x ∷ symbols_of t)
        at x true p h zero q = inl (p, refl)
        at x false p h zero q = inr (ap (λ (r : List ℕ). suc (length r)) (sym (feed_last t h f)))
        at x z p h (suc i) q = go (g i q)
          where
            go : ((false ≡ true) × (i ≡ 0)) ⊎ (suc i ≡ length (symbols_of t)) → ((o ≡ true) × (suc i ≡ 0)) ⊎ (suc (suc i) ≡ suc (length (symbols_of t)))
            go (inl p) = never p.0
            go (inr p) = inr (ap suc p)

    by : (l : Bool) → line_letter b ≡ l → (d : Bool) → digit b ≡ d → (z : Bool) → eqb b dot ≡ z
        → cond l (pattern_form line_letter false false t) (cond d (not a && pattern_form line_letter false true t) (cond z ((o || starts_with line_feed t) && pattern_form line_letter false false t) (eqb b line_feed && is_nil t))) ≡ true
        → (pattern_form line_letter false false t ≡ true → Edged false (symbols_of t)) → (pattern_form line_letter false true t ≡ true → Edged false (symbols_of t)) → Edged o (symbols_of (b ∷ t))
    by true l d p z q h next after = on (no_edge b l) (next h)
    by false l true p z q h next after = on (digit_no_edge b p) (after (both (not a) _ h).1)
    by false l false p true q h next after = let g = both (o || starts_with line_feed t) _ h in dotted q l g.0 g.1 (next g.1)
    by false l false p false q h next after = let f = both (eqb b line_feed) (is_nil t) h in fed_edged o b t f.0 f.1

past : (l : List ℕ) (j : ℕ) → length l ≤ j → letter_symbol (get_or l j 0) ≡ false
unfolding letter_symbol
past [] j h = refl
past (x ∷ l) zero h = absurd (omega arith)
past (x ∷ l) (suc j) h = past l j (omega arith)

-- two symbols of which none is a letter are no pattern's
no_letters : (l : List ℕ) → length l ≡ 2 → letter_symbol (get_or l 0 0) ≡ false → letter_symbol (get_or l 1 0) ≡ false → HasLetter l → ⊥
no_letters l n a b (zero, p) = never (sym a ∙ p)
no_letters l n a b (suc zero, p) = never (sym b ∙ p)
no_letters l n a b (suc (suc j), p) = never (sym (past l (suc (suc j)) (omega arith)) ∙ p)

not_letter : (l : List ℕ) (i s : ℕ) → letter_limit < s → get_or l i 0 ≡ s → letter_symbol (get_or l i 0) ≡ false
unfolding letter_symbol
not_letter l i s h e = rw (e, le-leb 1 s (omega arith), lt-leb s letter_limit h)

module _ (l : List ℕ) (kinds : Kinds l) (edged : Edged true l) (letters : HasLetter l) (f : AllBetweenOrEnds l) where
  -- the last symbol is an apostrophe, and not the first: a letter stands before it
  left_last : (k : ℕ) → get_or l (suc k) 0 ≡ apostrophe_symbol → suc (suc k) ≡ length l → letter_symbol (get_or l k 0) ≡ true
  left_last k q n = go (kinds k (omega arith))
    where
      mark : letter_symbol (get_or l (suc k) 0) ≡ false
      mark = not_letter l (suc k) apostrophe_symbol (omega arith) q

      pair : k ≡ 0 → letter_symbol (get_or l k 0) ≡ false → ⊥
      pair z a = no_letters l (omega (arith, n, z)) (rw z at a) (rw z at mark) letters

      go : (letter_symbol (get_or l k 0) ≡ true) ⊎ ((get_or l k 0 ≡ edge) ⊎ (get_or l k 0 ≡ apostrophe_symbol)) → letter_symbol (get_or l k 0) ≡ true
      go (inl p) = p
      go (inr (inl p)) = at (edged k p)
        where
          at : ((true ≡ true) × (k ≡ 0)) ⊎ (suc k ≡ length l) → letter_symbol (get_or l k 0) ≡ true
          at (inl z) = absurd (pair z.1 (not_letter l k edge (omega arith) p))
          at (inr z) = absurd (omega (arith, z, n))
      go (inr (inr p)) = at (f k p)
        where
          at : Between l k ⊎ ((k ≡ 0) ⊎ (suc k ≡ length l)) → letter_symbol (get_or l k 0) ≡ true
          at (inl b) = never (sym mark ∙ rw add-one at b.behind)
          at (inr (inl z)) = absurd (pair z (not_letter l k apostrophe_symbol (omega arith) p))
          at (inr (inr z)) = absurd (omega (arith, z, n))

  -- the first symbol is an apostrophe: it is the last too, or a letter stands behind it
  right_first : get_or l 0 0 ≡ apostrophe_symbol → (length l ≤ 1) ⊎ (letter_symbol (get_or l 1 0) ≡ true)
  right_first q = more (dec_lt 1 (length l))
    where
      mark : letter_symbol (get_or l 0 0) ≡ false
      mark = not_letter l 0 apostrophe_symbol (omega arith) q

      go : (letter_symbol (get_or l 1 0) ≡ true) ⊎ ((get_or l 1 0 ≡ edge) ⊎ (get_or l 1 0 ≡ apostrophe_symbol)) → letter_symbol (get_or l 1 0) ≡ true
      go (inl p) = p
      go (inr (inl p)) = at (edged 1 p)
        where
          at : ((true ≡ true) × ◌≡◌ {A = ℕ} 1 0) ⊎ (2 ≡ length l) → letter_symbol (get_or l 1 0) ≡ true
          at (inl z) = absurd (omega (arith, z.1))
          at (inr z) = absurd (no_letters l (sym z) mark (not_letter l 1 edge (omega arith) p) letters)
      go (inr (inr p)) = at (f 1 p)
        where
          at : Between l 1 ⊎ (◌≡◌ {A = ℕ} 1 0 ⊎ (2 ≡ length l)) → letter_symbol (get_or l 1 0) ≡ true
          at (inl b) = never (sym mark ∙ b.before)
          at (inr (inl z)) = absurd (omega (arith, z))
          at (inr (inr z)) = absurd (no_letters l (sym z) mark (not_letter l 1 apostrophe_symbol (omega arith) p) letters)

      more : Dec (1 < length l) → (length l ≤ 1) ⊎ (letter_symbol (get_or l 1 0) ≡ true)
      more (yes h) = inr (go (kinds 1 h))
      more (no h) = inl (omega arith)

  ends_sides : Sides true true l
  ends_sides zero q = (refl, end_next_lem l 1 (right_first q))
  ends_sides (suc k) q = go (f (suc k) q)
    where
      go : Between l (suc k) ⊎ ((suc k ≡ 0) ⊎ (suc (suc k) ≡ length l)) → (letter_symbol (get_or l k 0) ≡ true) × (letter_next true (drop (suc (suc k)) l) ≡ true)
      go (inl b) = (rw (one_less k) at b.before, end_next_lem l (suc (suc k)) (inr (rw add-one at b.behind)))
      go (inr (inl z)) = absurd (omega (arith, z))
      go (inr (inr z)) = (left_last k q z, end_next_lem l (suc (suc k)) (inl (omega (arith, z))))

-- A pattern line: so too, "but a pattern may begin or end with it".
pub pattern_apostrophes : (line : List ℕ) → (good_pattern line ≡ true) ↔ ((pattern_bytes line_letter line ≡ true) × AllBetweenOrEnds (symbols_of line))
unfolding good_pattern pattern_bytes
pattern_apostrophes line = (
  λ e. let g = both (pattern_bytes line_letter line) _ e in (g.0, sides_ends (symbols_of line) (fits_sides true true (symbols_of line) g.1)),
  λ p.
      let form = both (pattern_form line_letter true false line) _ p.0 in
      let letters = line_letter_lem line (both (any_of small line) _ form.1).0 in
      rw (p.0, sides_fit true true (symbols_of line) (ends_sides (symbols_of line) (line_kinds line) (line_edged true false line form.0) letters p.1)),
)

-- Lines without an apostrophe are judged as document 01 has it, by small letters alone.
plain_letter : (b : ℕ) → eqb b apostrophe ≡ false → line_letter b ≡ small b
unfolding line_letter
plain_letter b q = rw q (or-false (small b))

plain_parts : (b : ℕ) (t : List ℕ) → has_apostrophe (b ∷ t) ≡ false → (eqb b apostrophe ≡ false) × (has_apostrophe t ≡ false)
unfolding has_apostrophe
plain_parts b t e = go (eqb b apostrophe) e
  where
    go : (z : Bool) → (z || has_apostrophe t) ≡ false → (z ≡ false) × (has_apostrophe t ≡ false)
    go true h = never (sym h)
    go false h = (refl, h)

plain_form : (o a : Bool) (line : List ℕ) → has_apostrophe line ≡ false → pattern_form line_letter o a line ≡ pattern_form small o a line
unfolding pattern_form
plain_form o a [] e = refl
plain_form o a (b ∷ t) e =
    let p = plain_parts b t e in
    rw (plain_letter b p.0, plain_form false false t p.1, plain_form false true t p.1)

plain_exception_form : (a : Bool) (line : List ℕ) → has_apostrophe line ≡ false → exception_form line_letter a line ≡ exception_form small a line
unfolding exception_form
plain_exception_form a [] e = refl
plain_exception_form a (b ∷ t) e =
    let p = plain_parts b t e in
    rw (plain_letter b p.0, plain_exception_form true t p.1, plain_exception_form false t p.1)

pub plain_pattern : (line : List ℕ) → has_apostrophe line ≡ false → good_pattern line ≡ pattern_bytes small line
unfolding good_pattern pattern_bytes
plain_pattern line e = rw (plain_form true false line e, plain_fit true true line e) (and-true (pattern_bytes small line))

pub plain_exception : (line : List ℕ) → has_apostrophe line ≡ false → good_exception line ≡ exception_bytes small line
unfolding good_exception exception_bytes
plain_exception line e = rw (plain_exception_form false line e, plain_fit false false line e) (and-true (exception_bytes small line))

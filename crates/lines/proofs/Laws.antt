-- Laws about single lines: one for each way through the code.
use Prim.Native.Nat.{ℕ, suc, ◌+◌, ◌-◌, ◌≤◌, ◌<◌}
use mathlib.Core.Bool.{Bool, true, false, cond, not, ◌&&◌, ◌||◌, or-true, or-false, and-true}
use mathlib.Core.List.{List, [], ◌∷◌}
use mathlib.Core.Path.{◌≡◌, refl, sym, ◌∙◌, ap}
use native.Mathlib.Omega.{arith}
use native.Mathlib.Nat.{add-zero}
use borrow.Author.Tests.{lt-leb, le-leb, lt-ltb, le-ltb, eq-eqb, ne_eqb, eqb-true, not-true, not-false}
use lib.Dec.{leb, ltb, eqb}
use lib.ListN.{length, get_or, take, drop, length-drop, drop_of_length-le}
use lib.Seq.{drop-drop, length-take-le}
use Rattle.base.specs.Limits.{word_limit, pattern_limit, letter_limit, edge, apostrophe_symbol}
use Rattle.base.proofs.Lists.{clash, cons_at, never}
use Rattle.words.specs.Symbols.{line_feed, hyphen, dot, apostrophe, small, digit, symbol_of, symbols_of}
use Rattle.words.proofs.Laws.{range_low, small_low, small_high, small_not_digit, small_not_apostrophe, small_symbol, dot_symbol, apostrophe_symbol_lem, other_symbol, digit_not_dot, digit_not_apostrophe, symbols_skip, symbols_keep}
use Rattle.lines.specs.Apostrophes.{letter_symbol, letter_next, apostrophes_fit, has_apostrophe, fit_if_any}
use Rattle.lines.specs.Lines.{glue, cut, line_length, first_line, is_nil, starts_with, any_of, line_letter, pattern_form, pattern_bytes, good_pattern, exception_form, exception_bytes, good_exception}
use Rattle.lines.specs.Order.{before}
use Rattle.lines.specs.Ends.{end_if}
use Rattle.std.specs.Prelude.{Option, Some, None}
use Rattle.std.specs.Bool.{then_some}

-- where a line ends
module _ (at : ℕ) (w : List ℕ) (i : ℕ) where
  pub end_here : at + line_length (drop at w) ≡ i + line_length (drop i w) → i < length w → get_or w i 0 ≡ line_feed → i + 1 ≡ at + line_length (drop at w)
  unfolding line_length
  end_here e h f = sym (e ∙ rw (cons_at w i h, eq-eqb (get_or w i 0) line_feed f))

  pub end_on : at + line_length (drop at w) ≡ i + line_length (drop i w) → i < length w → (get_or w i 0 ≡ line_feed → ⊥) → at + line_length (drop at w) ≡ i + 1 + line_length (drop (i + 1) w)
  unfolding line_length
  end_on e h f = e ∙ rw (cons_at w i h, ne_eqb (get_or w i 0) line_feed f) (omega arith)

  pub end_out : at + line_length (drop at w) ≡ i + line_length (drop i w) → length w ≤ i → i ≡ at + line_length (drop at w)
  unfolding line_length
  end_out e h = sym (e ∙ rw (drop_of_length-le w h) (add-zero i))

pub dot_out : (w : List ℕ) (i : ℕ) → length w ≤ i → false ≡ starts_with line_feed (drop i w)
unfolding starts_with
dot_out w i h = rw (drop_of_length-le w h)

pub dot_in : (w : List ℕ) (i : ℕ) → i < length w → eqb (get_or w i 0) line_feed ≡ starts_with line_feed (drop i w)
unfolding starts_with
dot_in w i h = rw (cons_at w i h)

-- a text's first line, byte by byte
module _ (w : List ℕ) (i : ℕ) (h : i < length w) where
  first_on : (get_or w i 0 ≡ line_feed → ⊥) → first_line (drop i w) ≡ get_or w i 0 ∷ first_line (drop (i + 1) w)
  unfolding first_line
  first_on f = rw (cons_at w i h, ne_eqb (get_or w i 0) line_feed f)

  first_feed : get_or w i 0 ≡ line_feed → first_line (drop i w) ≡ get_or w i 0 ∷ []
  unfolding first_line
  first_feed f = rw (cons_at w i h, eq-eqb (get_or w i 0) line_feed f)

first_out : (w : List ℕ) (i : ℕ) → length w ≤ i → first_line (drop i w) ≡ []
unfolding first_line
first_out w i h = rw (drop_of_length-le w h)

starts_first : (x : ℕ) (t : List ℕ) → starts_with x (first_line t) ≡ starts_with x t
unfolding starts_with first_line
starts_first x [] = refl
starts_first x (b ∷ t) = go (eqb b line_feed)
  where
    go : (z : Bool) → starts_with x (cond z (b ∷ []) (b ∷ first_line t)) ≡ eqb b x
    go true = refl
    go false = refl

first_taken : (t : List ℕ) → first_line t ≡ take (line_length t) t
unfolding first_line line_length
first_taken [] = refl
first_taken (b ∷ t) = go (eqb b line_feed) (first_taken t)
  where
    go : (z : Bool) → first_line t ≡ take (line_length t) t → cond z (b ∷ []) (b ∷ first_line t) ≡ take (cond z 1 (suc (line_length t))) (b ∷ t)
    go true e = refl
    go false e = ap (λ (l : List ℕ). b ∷ l) e

-- the line at a place, as a part of the text
pub first_line_lem : (w : List ℕ) (at e : ℕ) → e ≡ at + line_length (drop at w) → first_line (drop at w) ≡ take (e - at) (drop at w)
first_line_lem w at e q = let n : e - at ≡ line_length (drop at w) = omega arith in rw n (first_taken (drop at w))

-- letters and digits are no line feed
pub small_not_feed : (b : ℕ) → small b ≡ true → b ≡ line_feed → ⊥
small_not_feed b e f = omega (arith, small_low b e)

pub digit_not_feed : (b : ℕ) → digit b ≡ true → b ≡ line_feed → ⊥
unfolding digit
digit_not_feed b e f = omega (arith, range_low 49 57 b e)

-- a line's letter is a symbol
pub line_letter_symbol : (b : ℕ) → line_letter b ≡ true → eqb (symbol_of b) 0 ≡ false
unfolding line_letter
line_letter_symbol b e = go (small b) refl (eqb b apostrophe) refl e
  where
    go : (z : Bool) → small b ≡ z → (q : Bool) → eqb b apostrophe ≡ q → (z || q) ≡ true → eqb (symbol_of b) 0 ≡ false
    go true p q r h = small_symbol b p
    go false p true r h = apostrophe_symbol_lem b p (eqb-true b apostrophe r)
    go false p false r h = never h

-- what a line's judgement and its end make of each other
pub end_bad : {good : Bool} (e : ℕ) → good ≡ false → None ≡ end_if good e
end_bad e g = rw g

pub end_told : (good : Bool) (e : ℕ) {z : Bool} {r : Option ℕ} → r ≡ then_some z e → good ≡ z → r ≡ end_if good e
end_told true e p q = rw (← q) at p
end_told false e p q = rw (← q) at p

pub ends_bad : (good : Bool) (e : ℕ) {r : Option ℕ} → r ≡ end_if good e → r ≡ None → good ≡ false
ends_bad true e p q = clash cc
ends_bad false e p q = refl

pub ends_good : (good : Bool) (e : ℕ) {r : Option ℕ} {i : ℕ} → r ≡ end_if good e → r ≡ Some i → (good ≡ true) × (i ≡ e)
ends_good true e p q = (refl, cc)
ends_good false e p q = clash cc

-- whether an apostrophe was seen, or is among the bytes left
unfoldable pub seen_or : Bool → List ℕ → Bool
seen_or seen l = seen || has_apostrophe l

pub seen_start : (l : List ℕ) → has_apostrophe l ≡ seen_or false l
unfolding seen_or
seen_start l = refl

module _ (w : List ℕ) (i : ℕ) (h : i < length w) (seen : Bool) where
  pub seen_other : (get_or w i 0 ≡ line_feed → ⊥) → (get_or w i 0 ≡ apostrophe → ⊥) → seen_or seen (first_line (drop i w)) ≡ seen_or seen (first_line (drop (i + 1) w))
  unfolding seen_or has_apostrophe
  seen_other f q = rw (first_on w i h f, ne_eqb (get_or w i 0) apostrophe q)

  pub seen_apostrophe : get_or w i 0 ≡ apostrophe → seen_or seen (first_line (drop i w)) ≡ seen_or true (first_line (drop (i + 1) w))
  unfolding seen_or has_apostrophe
  seen_apostrophe q = rw (first_on w i h (λ f. omega (arith, f, q)), eq-eqb (get_or w i 0) apostrophe q) (or-true seen)

  pub seen_feed : get_or w i 0 ≡ line_feed → seen_or seen (first_line (drop i w)) ≡ seen
  unfolding seen_or has_apostrophe
  seen_feed f = rw (first_feed w i h f, ne_eqb (get_or w i 0) apostrophe (λ q. omega (arith, f, q))) (or-false seen)

-- the apostrophes of a line: what is left to show, where the symbol before is one that waits for what is behind it or not
unfoldable pub fit_rest : Bool → Bool → Bool → List ℕ → Bool
fit_rest ends before waits l = (not waits || letter_next ends l) && apostrophes_fit ends before l

pub fit_start : (ends : Bool) (w : List ℕ) → apostrophes_fit ends ends (symbols_of w) ≡ fit_rest ends ends false (symbols_of (drop 0 w))
unfolding fit_rest
fit_start ends w = refl

module _ (ends before waits : Bool) (w : List ℕ) (i : ℕ) (h : i < length w) {s : ℕ} (p : s ≡ symbol_of (get_or w i 0)) where
  pub fit_skip : s ≡ 0 → fit_rest ends before waits (symbols_of (drop i w)) ≡ fit_rest ends before waits (symbols_of (drop (i + 1) w))
  fit_skip z = rw (cons_at w i h, symbols_skip (get_or w i 0) (drop (i + 1) w) (eq-eqb (symbol_of (get_or w i 0)) 0 (sym p ∙ z)))

  module _ (z : s ≡ 0 → ⊥) where
    next : symbols_of (drop i w) ≡ s ∷ symbols_of (drop (i + 1) w)
    unfolding symbols_of
    next = rw (cons_at w i h, ← p, ne_eqb s 0 z)

    pub fit_letter : s ≤ letter_limit → fit_rest ends before waits (symbols_of (drop i w)) ≡ fit_rest ends true false (symbols_of (drop (i + 1) w))
    unfolding fit_rest apostrophes_fit letter_next letter_symbol
    fit_letter k = rw (next, le-leb 1 s (omega arith), le-leb s letter_limit k, ne_eqb s apostrophe_symbol (λ q. omega (arith, q)), or-true (not waits))

    module _ (k : letter_limit < s) where
      pub fit_waits : waits ≡ true → fit_rest ends before waits (symbols_of (drop i w)) ≡ false
      unfolding fit_rest letter_next letter_symbol
      fit_waits o = rw (next, le-leb 1 s (omega arith), lt-leb s letter_limit k, o)

      module _ (o : waits ≡ false) where
        pub fit_edge : (s ≡ apostrophe_symbol → ⊥) → fit_rest ends before waits (symbols_of (drop i w)) ≡ fit_rest ends false waits (symbols_of (drop (i + 1) w))
        unfolding fit_rest apostrophes_fit letter_symbol
        fit_edge q = rw (next, o, le-leb 1 s (omega arith), lt-leb s letter_limit k, ne_eqb s apostrophe_symbol q)

        pub fit_stray : s ≡ apostrophe_symbol → not before ≡ true → fit_rest ends before waits (symbols_of (drop i w)) ≡ false
        unfolding fit_rest apostrophes_fit
        fit_stray q b = rw (next, o, eq-eqb s apostrophe_symbol q, not-true before b)

        pub fit_apostrophe : s ≡ apostrophe_symbol → not before ≡ false → fit_rest ends before waits (symbols_of (drop i w)) ≡ fit_rest ends false true (symbols_of (drop (i + 1) w))
        unfolding fit_rest apostrophes_fit letter_symbol
        fit_apostrophe q b = rw (next, o, eq-eqb s apostrophe_symbol q, not-false before b, le-leb 1 s (omega arith), lt-leb s letter_limit k)

module _ (ends before : Bool) {waits : Bool} (w : List ℕ) (i : ℕ) (h : length w ≤ i) where
  pub fit_last : waits ≡ true → fit_rest ends before waits (symbols_of (drop i w)) ≡ ends
  unfolding fit_rest apostrophes_fit letter_next symbols_of
  fit_last o = rw (drop_of_length-le w h, o) (and-true ends)

  pub fit_end : waits ≡ false → fit_rest ends before waits (symbols_of (drop i w)) ≡ true
  unfolding fit_rest apostrophes_fit letter_next symbols_of
  fit_end o = rw (drop_of_length-le w h, o)

-- a line without an apostrophe has none in a wrong place
none_at : (b : ℕ) → eqb b apostrophe ≡ false → eqb (symbol_of b) apostrophe_symbol ≡ false
unfolding symbol_of
none_at b q = go (small b) refl (eqb b dot)
  where
    go : (z : Bool) → small b ≡ z → (d : Bool) → eqb (cond z (b - 96) (cond d edge (cond (eqb b apostrophe) apostrophe_symbol 0))) apostrophe_symbol ≡ false
    go true e d = ne_eqb (b - 96) apostrophe_symbol (λ z. omega (arith, small_high b e, z))
    go false e true = refl
    go false e false = rw q

pub plain_fit : (ends before : Bool) (line : List ℕ) → has_apostrophe line ≡ false → apostrophes_fit ends before (symbols_of line) ≡ true
unfolding has_apostrophe apostrophes_fit symbols_of
plain_fit ends before [] e = refl
plain_fit ends before (b ∷ t) e = by (eqb b apostrophe) refl e (λ z. plain_fit ends z t)
  where
    keep : (z : Bool) → eqb b apostrophe ≡ false → ((x : Bool) → apostrophes_fit ends x (symbols_of t) ≡ true)
        → apostrophes_fit ends before (cond z (symbols_of t) (symbol_of b ∷ symbols_of t)) ≡ true
    keep true q next = next before
    keep false q next = rw (none_at b q, next (letter_symbol (symbol_of b)))

    by : (z : Bool) → eqb b apostrophe ≡ z → (z || has_apostrophe t) ≡ false → ((x : Bool) → has_apostrophe t ≡ false → apostrophes_fit ends x (symbols_of t) ≡ true)
        → apostrophes_fit ends before (cond (eqb (symbol_of b) 0) (symbols_of t) (symbol_of b ∷ symbols_of t)) ≡ true
    by true q h next = never (sym h)
    by false q h next = keep (eqb (symbol_of b) 0) q (λ x. next x h)

fit_if : (ends any : Bool) (line : List ℕ) → has_apostrophe line ≡ any → fit_if_any ends any line ≡ apostrophes_fit ends ends (symbols_of line)
unfolding fit_if_any
fit_if ends true line e = refl
fit_if ends false line e = sym (plain_fit ends ends line e)

-- a line whose bytes are good ends here where its apostrophes fit
end_fit : (ends : Bool) (w : List ℕ) (at e : ℕ) (any : Bool) → e ≡ at + line_length (drop at w) → has_apostrophe (first_line (drop at w)) ≡ any → {bytes : Bool} → bytes ≡ true
    → {r : Option ℕ} → r ≡ end_if (fit_if_any ends any (take (e - at) (drop at w))) e
    → r ≡ end_if (bytes && apostrophes_fit ends ends (symbols_of (first_line (drop at w)))) (at + line_length (drop at w))
end_fit ends w at e any q s b p =
    p ∙ ap (λ (l : List ℕ). end_if (fit_if_any ends any l) e) (sym (first_line_lem w at e q)) ∙ rw (fit_if ends any (first_line (drop at w)) s, b, q)

module _ (ends any : Bool) (line : List ℕ) where
  pub fit_none : not any ≡ true → fit_if_any ends any line ≡ true
  unfolding fit_if_any
  fit_none o = rw o

  pub fit_some : not any ≡ false → {r : Bool} → r ≡ apostrophes_fit ends ends (symbols_of line) → {z : Bool} → r ≡ z → fit_if_any ends any line ≡ z
  unfolding fit_if_any
  fit_some o p q = rw o (sym p ∙ q)

pattern_bad : (line : List ℕ) → pattern_bytes line_letter line ≡ false → good_pattern line ≡ false
unfolding good_pattern
pattern_bad line e = rw e

exception_bad : (line : List ℕ) → exception_bytes line_letter line ≡ false → good_exception line ≡ false
unfolding good_exception
exception_bad line e = rw e

-- what is left to show of a pattern line after some of its bytes: letters and digits seen, and how many symbols
unfoldable pub pattern_rest : Bool → Bool → Bool → Bool → ℕ → List ℕ → Bool
pattern_rest opening after_digit letters digits n line =
    pattern_form line_letter opening after_digit line && ((letters || any_of small line) && ((digits || any_of digit line) && leb (n + length (symbols_of line)) pattern_limit))

suc_right : (n k : ℕ) → n + suc k ≡ n + 1 + k
suc_right n k = omega arith

pattern_start : (w : List ℕ) → pattern_bytes line_letter w ≡ pattern_rest true false false false 0 w
unfolding pattern_bytes pattern_rest
pattern_start w = let e : 0 + length (symbols_of w) ≡ length (symbols_of w) = omega arith in rw e

module _ (w : List ℕ) (i : ℕ) (h : i < length w) (o a ls ds : Bool) (n : ℕ) where
  pattern_letter : small (get_or w i 0) ≡ true → pattern_rest o a ls ds n (first_line (drop i w)) ≡ pattern_rest false false true ds (n + 1) (first_line (drop (i + 1) w))
  unfolding pattern_rest pattern_form line_letter any_of
  pattern_letter e =
      rw (first_on w i h (small_not_feed (get_or w i 0) e), symbols_keep (get_or w i 0) (first_line (drop (i + 1) w)) (small_symbol (get_or w i 0) e), e, small_not_digit (get_or w i 0) e, or-true ls, suc_right n)

  module _ (e : small (get_or w i 0) ≡ false) where
    pattern_digit : digit (get_or w i 0) ≡ true → a ≡ false → pattern_rest o a ls ds n (first_line (drop i w)) ≡ pattern_rest false true ls true n (first_line (drop (i + 1) w))
    unfolding pattern_rest pattern_form line_letter any_of
    pattern_digit d z =
        let q = digit_not_apostrophe (get_or w i 0) d in
        rw (
          first_on w i h (digit_not_feed (get_or w i 0) d),
          symbols_skip (get_or w i 0) (first_line (drop (i + 1) w)) (other_symbol (get_or w i 0) e (digit_not_dot (get_or w i 0) d) q),
          e,
          ne_eqb (get_or w i 0) apostrophe q,
          d,
          z,
          or-true ds,
        )

    pattern_digits : digit (get_or w i 0) ≡ true → a ≡ true → pattern_rest o a ls ds n (first_line (drop i w)) ≡ false
    unfolding pattern_rest pattern_form line_letter
    pattern_digits d z = rw (first_on w i h (digit_not_feed (get_or w i 0) d), e, ne_eqb (get_or w i 0) apostrophe (digit_not_apostrophe (get_or w i 0) d), d, z)

    module _ (d : digit (get_or w i 0) ≡ false) where
      pattern_dot : get_or w i 0 ≡ dot → (o || starts_with line_feed (drop (i + 1) w)) ≡ true
          → pattern_rest o a ls ds n (first_line (drop i w)) ≡ pattern_rest false false ls ds (n + 1) (first_line (drop (i + 1) w))
      unfolding pattern_rest pattern_form line_letter any_of
      pattern_dot z s =
          rw (
            first_on w i h (λ f. omega (arith, f, z)),
            symbols_keep (get_or w i 0) (first_line (drop (i + 1) w)) (dot_symbol (get_or w i 0) e z),
            e,
            ne_eqb (get_or w i 0) apostrophe (λ q. omega (arith, q, z)),
            d,
            eq-eqb (get_or w i 0) dot z,
            starts_first line_feed (drop (i + 1) w),
            s,
            suc_right n,
          )

      pattern_no_dot : get_or w i 0 ≡ dot → (o || starts_with line_feed (drop (i + 1) w)) ≡ false → pattern_rest o a ls ds n (first_line (drop i w)) ≡ false
      unfolding pattern_rest pattern_form line_letter
      pattern_no_dot z s =
          rw (
            first_on w i h (λ f. omega (arith, f, z)),
            e,
            ne_eqb (get_or w i 0) apostrophe (λ q. omega (arith, q, z)),
            d,
            eq-eqb (get_or w i 0) dot z,
            starts_first line_feed (drop (i + 1) w),
            s,
          )

      pattern_apostrophe : get_or w i 0 ≡ apostrophe → pattern_rest o a ls ds n (first_line (drop i w)) ≡ pattern_rest false false ls ds (n + 1) (first_line (drop (i + 1) w))
      unfolding pattern_rest pattern_form line_letter any_of
      pattern_apostrophe q =
          rw (
            first_on w i h (λ f. omega (arith, f, q)),
            symbols_keep (get_or w i 0) (first_line (drop (i + 1) w)) (apostrophe_symbol_lem (get_or w i 0) e q),
            e,
            eq-eqb (get_or w i 0) apostrophe q,
            d,
            suc_right n,
          )

      module _ (z : get_or w i 0 ≡ dot → ⊥) (q : get_or w i 0 ≡ apostrophe → ⊥) where
        pattern_other : (get_or w i 0 ≡ line_feed → ⊥) → pattern_rest o a ls ds n (first_line (drop i w)) ≡ false
        unfolding pattern_rest pattern_form line_letter
        pattern_other f = rw (first_on w i h f, e, ne_eqb (get_or w i 0) apostrophe q, d, ne_eqb (get_or w i 0) dot z, ne_eqb (get_or w i 0) line_feed f)

        -- the line feed ends the line: what was seen decides
        module _ (f : get_or w i 0 ≡ line_feed) where
          pattern_feed : pattern_rest o a ls ds n (first_line (drop i w)) ≡ ((ls || false) && ((ds || false) && leb n pattern_limit))
          unfolding pattern_rest pattern_form line_letter any_of is_nil symbols_of
          pattern_feed =
              rw (
                first_feed w i h f,
                symbols_skip (get_or w i 0) [] (other_symbol (get_or w i 0) e z q),
                e,
                ne_eqb (get_or w i 0) apostrophe q,
                d,
                ne_eqb (get_or w i 0) dot z,
                eq-eqb (get_or w i 0) line_feed f,
                add-zero n,
              )

          pattern_letterless : not ls ≡ true → pattern_rest o a ls ds n (first_line (drop i w)) ≡ false
          pattern_letterless l = pattern_feed ∙ rw (not-true ls l)

          pattern_digitless : not ls ≡ false → not ds ≡ true → pattern_rest o a ls ds n (first_line (drop i w)) ≡ false
          pattern_digitless l g = pattern_feed ∙ rw (not-false ls l, not-true ds g)

          pattern_long : not ls ≡ false → not ds ≡ false → pattern_limit < n → pattern_rest o a ls ds n (first_line (drop i w)) ≡ false
          pattern_long l g k = pattern_feed ∙ rw (not-false ls l, not-false ds g, lt-leb n pattern_limit k)

          pattern_whole : not ls ≡ false → not ds ≡ false → n ≤ pattern_limit → pattern_rest o a ls ds n (first_line (drop i w)) ≡ true
          pattern_whole l g k = pattern_feed ∙ rw (not-false ls l, not-false ds g, le-leb n pattern_limit k)

pattern_end : (w : List ℕ) (i : ℕ) (o a ls ds : Bool) (n : ℕ) → length w ≤ i → pattern_rest o a ls ds n (first_line (drop i w)) ≡ false
unfolding pattern_rest pattern_form line_letter
pattern_end w i o a ls ds n h = rw (first_out w i h)

-- What holds inside a pattern line: what was seen, how many symbols there were, and what is left to show.
pub record Patterned (text : List ℕ) (at : ℕ) (o a ls ds seen : Bool) (n i : ℕ) : Type 0 where
  pub begun : at ≤ i
  pub counted : n ≤ i
  pub ends : at + line_length (drop at text) ≡ i + line_length (drop i text)
  pub same : pattern_bytes line_letter (first_line (drop at text)) ≡ pattern_rest o a ls ds n (first_line (drop i text))
  pub has : has_apostrophe (first_line (drop at text)) ≡ seen_or seen (first_line (drop i text))

pub patterned_start : (text : List ℕ) (at : ℕ) → Patterned text at true false false false false 0 at
patterned_start text at =
    record {
      begun = omega arith;
      counted = omega arith;
      ends = refl;
      same = pattern_start (first_line (drop at text));
      has = seen_start (first_line (drop at text));
    }

module _ (text : List ℕ) (at : ℕ) (o a ls ds seen : Bool) (n i : ℕ) (l : Patterned text at o a ls ds seen n i) where
  bad : pattern_rest o a ls ds n (first_line (drop i text)) ≡ false → good_pattern (first_line (drop at text)) ≡ false
  bad e = pattern_bad (first_line (drop at text)) (l.same ∙ e)

  pub patterned_out : length text ≤ i → good_pattern (first_line (drop at text)) ≡ false
  patterned_out h = bad (pattern_end text i o a ls ds n h)

  module _ (h : i < length text) where
    -- one byte more that is neither an apostrophe nor the line feed
    on : {o' a' ls' ds' : Bool} (n' : ℕ) → (get_or text i 0 ≡ line_feed → ⊥) → (get_or text i 0 ≡ apostrophe → ⊥) → n' ≤ i + 1
        → pattern_rest o a ls ds n (first_line (drop i text)) ≡ pattern_rest o' a' ls' ds' n' (first_line (drop (i + 1) text)) → Patterned text at o' a' ls' ds' seen n' (i + 1)
    on n' f q k e =
        record {
          begun = omega (arith, l.begun);
          counted = k;
          ends = end_on at text i l.ends h f;
          same = l.same ∙ e;
          has = l.has ∙ seen_other text i h seen f q;
        }

    pub patterned_letter : small (get_or text i 0) ≡ true → Patterned text at false false true ds seen (n + 1) (i + 1)
    patterned_letter e =
        on (n + 1) (small_not_feed (get_or text i 0) e) (small_not_apostrophe (get_or text i 0) e) (omega (arith, l.counted)) (pattern_letter text i h o a ls ds n e)

    module _ (e : small (get_or text i 0) ≡ false) where
      pub patterned_digit : digit (get_or text i 0) ≡ true → a ≡ false → Patterned text at false true ls true seen n (i + 1)
      patterned_digit d z =
          on n (digit_not_feed (get_or text i 0) d) (digit_not_apostrophe (get_or text i 0) d) (omega (arith, l.counted)) (pattern_digit text i h o a ls ds n e d z)

      pub patterned_digits : digit (get_or text i 0) ≡ true → a ≡ true → good_pattern (first_line (drop at text)) ≡ false
      patterned_digits d z = bad (pattern_digits text i h o a ls ds n e d z)

      module _ (d : digit (get_or text i 0) ≡ false) where
        pub patterned_dot : get_or text i 0 ≡ dot → (o || starts_with line_feed (drop (i + 1) text)) ≡ true → Patterned text at false false ls ds seen (n + 1) (i + 1)
        patterned_dot z s =
            on (n + 1) (λ f. omega (arith, f, z)) (λ q. omega (arith, q, z)) (omega (arith, l.counted)) (pattern_dot text i h o a ls ds n e d z s)

        pub patterned_no_dot : get_or text i 0 ≡ dot → (o || starts_with line_feed (drop (i + 1) text)) ≡ false → good_pattern (first_line (drop at text)) ≡ false
        patterned_no_dot z s = bad (pattern_no_dot text i h o a ls ds n e d z s)

        pub patterned_apostrophe : get_or text i 0 ≡ apostrophe → Patterned text at false false ls ds true (n + 1) (i + 1)
        patterned_apostrophe q =
            record {
              begun = omega (arith, l.begun);
              counted = omega (arith, l.counted);
              ends = end_on at text i l.ends h (λ f. omega (arith, f, q));
              same = l.same ∙ pattern_apostrophe text i h o a ls ds n e d q;
              has = l.has ∙ seen_apostrophe text i h seen q;
            }

        module _ (z : get_or text i 0 ≡ dot → ⊥) (q : get_or text i 0 ≡ apostrophe → ⊥) where
          pub patterned_other : (get_or text i 0 ≡ line_feed → ⊥) → good_pattern (first_line (drop at text)) ≡ false
          patterned_other f = bad (pattern_other text i h o a ls ds n e d z q f)

          module _ (f : get_or text i 0 ≡ line_feed) where
            pub patterned_letterless : not ls ≡ true → good_pattern (first_line (drop at text)) ≡ false
            patterned_letterless g = bad (pattern_letterless text i h o a ls ds n e d z q f g)

            pub patterned_digitless : not ls ≡ false → not ds ≡ true → good_pattern (first_line (drop at text)) ≡ false
            patterned_digitless g k = bad (pattern_digitless text i h o a ls ds n e d z q f g k)

            pub patterned_long : not ls ≡ false → not ds ≡ false → pattern_limit < n → good_pattern (first_line (drop at text)) ≡ false
            patterned_long g k m = bad (pattern_long text i h o a ls ds n e d z q f g k m)

            pub patterned_whole : not ls ≡ false → not ds ≡ false → n ≤ pattern_limit → {r : Option ℕ} → r ≡ end_if (fit_if_any true seen (take (i + 1 - at) (drop at text))) (i + 1)
                → r ≡ end_if (good_pattern (first_line (drop at text))) (at + line_length (drop at text))
            unfolding good_pattern
            patterned_whole g k m p =
                end_fit true text at (i + 1) seen (end_here at text i l.ends h f) (l.has ∙ seen_feed text i h seen f)
                (l.same ∙ pattern_whole text i h o a ls ds n e d z q f g k m) p

-- the same for an exception line
unfoldable pub exception_rest : Bool → ℕ → List ℕ → Bool
exception_rest after_letter n line = exception_form line_letter after_letter line && leb (n + length (symbols_of line)) word_limit

exception_start : (w : List ℕ) → exception_bytes line_letter w ≡ exception_rest false 0 w
unfolding exception_bytes exception_rest
exception_start w = let e : 0 + length (symbols_of w) ≡ length (symbols_of w) = omega arith in rw e

module _ (w : List ℕ) (i : ℕ) (h : i < length w) (a : Bool) (n : ℕ) where
  exception_letter : small (get_or w i 0) ≡ true → exception_rest a n (first_line (drop i w)) ≡ exception_rest true (n + 1) (first_line (drop (i + 1) w))
  unfolding exception_rest exception_form line_letter
  exception_letter e =
      rw (first_on w i h (small_not_feed (get_or w i 0) e), symbols_keep (get_or w i 0) (first_line (drop (i + 1) w)) (small_symbol (get_or w i 0) e), e, suc_right n)

  exception_apostrophe : small (get_or w i 0) ≡ false → get_or w i 0 ≡ apostrophe → exception_rest a n (first_line (drop i w)) ≡ exception_rest true (n + 1) (first_line (drop (i + 1) w))
  unfolding exception_rest exception_form line_letter
  exception_apostrophe e q =
      rw (
        first_on w i h (λ f. omega (arith, f, q)),
        symbols_keep (get_or w i 0) (first_line (drop (i + 1) w)) (apostrophe_symbol_lem (get_or w i 0) e q),
        e,
        eq-eqb (get_or w i 0) apostrophe q,
        suc_right n,
      )

  module _ (e : small (get_or w i 0) ≡ false) (q : get_or w i 0 ≡ apostrophe → ⊥) where
    exception_lone : a ≡ false → exception_rest a n (first_line (drop i w)) ≡ false
    unfolding exception_rest exception_form line_letter first_line
    exception_lone z = rw (cons_at w i h) (go (eqb (get_or w i 0) line_feed))
      where
        go : (f : Bool) → exception_rest a n (cond f (get_or w i 0 ∷ []) (get_or w i 0 ∷ first_line (drop (i + 1) w))) ≡ false
        go true = rw (e, ne_eqb (get_or w i 0) apostrophe q, z)
        go false = rw (e, ne_eqb (get_or w i 0) apostrophe q, z)

    module _ (z : a ≡ true) where
      exception_hyphen : get_or w i 0 ≡ hyphen → exception_rest a n (first_line (drop i w)) ≡ exception_rest false n (first_line (drop (i + 1) w))
      unfolding exception_rest exception_form line_letter
      exception_hyphen y =
          rw (
            first_on w i h (λ f. omega (arith, f, y)),
            symbols_skip (get_or w i 0) (first_line (drop (i + 1) w)) (other_symbol (get_or w i 0) e (λ d. omega (arith, d, y)) q),
            e,
            ne_eqb (get_or w i 0) apostrophe q,
            z,
            eq-eqb (get_or w i 0) hyphen y,
          )

      module _ (y : get_or w i 0 ≡ hyphen → ⊥) where
        exception_other : (get_or w i 0 ≡ line_feed → ⊥) → exception_rest a n (first_line (drop i w)) ≡ false
        unfolding exception_rest exception_form line_letter
        exception_other f = rw (first_on w i h f, e, ne_eqb (get_or w i 0) apostrophe q, z, ne_eqb (get_or w i 0) hyphen y, ne_eqb (get_or w i 0) line_feed f)

        exception_feed : get_or w i 0 ≡ line_feed → exception_rest a n (first_line (drop i w)) ≡ leb n word_limit
        unfolding exception_rest exception_form line_letter is_nil symbols_of
        exception_feed f =
            rw (
              first_feed w i h f,
              symbols_skip (get_or w i 0) [] (other_symbol (get_or w i 0) e (λ d. omega (arith, d, f)) q),
              e,
              ne_eqb (get_or w i 0) apostrophe q,
              z,
              ne_eqb (get_or w i 0) hyphen y,
              eq-eqb (get_or w i 0) line_feed f,
              add-zero n,
            )

        exception_long : get_or w i 0 ≡ line_feed → word_limit < n → exception_rest a n (first_line (drop i w)) ≡ false
        exception_long f k = exception_feed f ∙ rw (lt-leb n word_limit k)

        exception_whole : get_or w i 0 ≡ line_feed → n ≤ word_limit → exception_rest a n (first_line (drop i w)) ≡ true
        exception_whole f k = exception_feed f ∙ rw (le-leb n word_limit k)

exception_end : (w : List ℕ) (i : ℕ) (a : Bool) (n : ℕ) → length w ≤ i → exception_rest a n (first_line (drop i w)) ≡ false
unfolding exception_rest exception_form line_letter
exception_end w i a n h = rw (first_out w i h)

-- What holds inside an exception line: where the letters in hand begin, how many hyphens there were, whether an apostrophe was seen, and
-- what is left to show.
pub record Lettered (text : List ℕ) (at run hyphens : ℕ) (seen : Bool) (i : ℕ) : Type 0 where
  pub begun : run ≤ i
  pub counted : at + hyphens ≤ i
  pub ends : at + line_length (drop at text) ≡ i + line_length (drop i text)
  pub same : exception_bytes line_letter (first_line (drop at text)) ≡ exception_rest (ltb run i) (i - at - hyphens) (first_line (drop i text))
  pub has : has_apostrophe (first_line (drop at text)) ≡ seen_or seen (first_line (drop i text))

pub lettered_start : (text : List ℕ) (at : ℕ) → Lettered text at at 0 false at
lettered_start text at =
    let n : at - at - 0 ≡ 0 = omega arith in
    record {
      begun = omega arith;
      counted = omega arith;
      ends = refl;
      same = exception_start (first_line (drop at text)) ∙ rw (n, le-ltb at at (omega arith));
      has = seen_start (first_line (drop at text));
    }

module _ (text : List ℕ) (at run hyphens : ℕ) (seen : Bool) (i : ℕ) (l : Lettered text at run hyphens seen i) where
  pub lettered_out : length text ≤ i → good_exception (first_line (drop at text)) ≡ false
  lettered_out h = exception_bad (first_line (drop at text)) (l.same ∙ exception_end text i (ltb run i) (i - at - hyphens) h)

  module _ (h : i < length text) where
    further : i + 1 - at - hyphens ≡ i - at - hyphens + 1
    further = omega (arith, l.counted)

    pub lettered_on : small (get_or text i 0) ≡ true → Lettered text at run hyphens seen (i + 1)
    lettered_on e =
        record {
          begun = omega (arith, l.begun);
          counted = omega (arith, l.counted);
          ends = end_on at text i l.ends h (small_not_feed (get_or text i 0) e);
          same = l.same ∙ exception_letter text i h (ltb run i) (i - at - hyphens) e ∙ rw (further, lt-ltb run (i + 1) (omega (arith, l.begun)));
          has = l.has ∙ seen_other text i h seen (small_not_feed (get_or text i 0) e) (small_not_apostrophe (get_or text i 0) e);
        }

    module _ (e : small (get_or text i 0) ≡ false) where
      pub lettered_apostrophe : get_or text i 0 ≡ apostrophe → Lettered text at run hyphens true (i + 1)
      lettered_apostrophe q =
          record {
            begun = omega (arith, l.begun);
            counted = omega (arith, l.counted);
            ends = end_on at text i l.ends h (λ f. omega (arith, f, q));
            same = l.same ∙ exception_apostrophe text i h (ltb run i) (i - at - hyphens) e q ∙ rw (further, lt-ltb run (i + 1) (omega (arith, l.begun)));
            has = l.has ∙ seen_apostrophe text i h seen q;
          }

      module _ (q : get_or text i 0 ≡ apostrophe → ⊥) where
        pub lettered_lone : i ≡ run → good_exception (first_line (drop at text)) ≡ false
        lettered_lone z =
            exception_bad (first_line (drop at text)) (l.same ∙ exception_lone text i h (ltb run i) (i - at - hyphens) e q (le-ltb run i (omega arith)))

        module _ (z : i ≡ run → ⊥) where
          after : ltb run i ≡ true
          after = lt-ltb run i (omega (arith, l.begun))

          pub lettered_hyphen : get_or text i 0 ≡ hyphen → Lettered text at (i + 1) (hyphens + 1) seen (i + 1)
          lettered_hyphen y =
              let n : i + 1 - at - (hyphens + 1) ≡ i - at - hyphens = omega (arith, l.counted) in
              record {
                begun = omega arith;
                counted = omega (arith, l.counted);
                ends = end_on at text i l.ends h (λ f. omega (arith, f, y));
                same = l.same ∙ exception_hyphen text i h (ltb run i) (i - at - hyphens) e q after y ∙ rw (n, le-ltb (i + 1) (i + 1) (omega arith));
                has = l.has ∙ seen_other text i h seen (λ f. omega (arith, f, y)) q;
              }

          module _ (y : get_or text i 0 ≡ hyphen → ⊥) where
            pub lettered_other : (get_or text i 0 ≡ line_feed → ⊥) → good_exception (first_line (drop at text)) ≡ false
            lettered_other f = exception_bad (first_line (drop at text)) (l.same ∙ exception_other text i h (ltb run i) (i - at - hyphens) e q after y f)

            module _ (f : get_or text i 0 ≡ line_feed) where
              pub lettered_long : word_limit < i - at - hyphens → good_exception (first_line (drop at text)) ≡ false
              lettered_long k = exception_bad (first_line (drop at text)) (l.same ∙ exception_long text i h (ltb run i) (i - at - hyphens) e q after y f k)

              pub lettered_whole : i - at - hyphens ≤ word_limit → {r : Option ℕ} → r ≡ end_if (fit_if_any false seen (take (i + 1 - at) (drop at text))) (i + 1)
                  → r ≡ end_if (good_exception (first_line (drop at text))) (at + line_length (drop at text))
              unfolding good_exception
              lettered_whole k p =
                  end_fit false text at (i + 1) seen (end_here at text i l.ends h f) (l.has ∙ seen_feed text i h seen f)
                  (l.same ∙ exception_whole text i h (ltb run i) (i - at - hyphens) e q after y f k) p

-- the order of two lines, at the symbols that the code stands at
unfoldable pub lines_before : List ℕ → ℕ → List ℕ → ℕ → Bool
lines_before a i b j = before (symbols_of (drop i a)) (symbols_of (drop j b))

pub order_start : (a b : List ℕ) → before (symbols_of a) (symbols_of b) ≡ lines_before a 0 b 0
unfolding lines_before
order_start a b = refl

pub order_left : (a b : List ℕ) (i : ℕ) {r : Bool} → r ≡ lines_before a i b i → r ≡ before (symbols_of (drop i a)) (symbols_of (drop i b))
unfolding lines_before
order_left a b i e = e

pub order_at : (a b : List ℕ) (i : ℕ) {r : Bool} → r ≡ before (symbols_of (drop i a)) (symbols_of (drop i b)) → r ≡ lines_before a i b i
unfolding lines_before
order_at a b i e = e

-- two lines with one byte more in common
pub order_same : (a b : List ℕ) (i : ℕ) → i < length a → i < length b → get_or a i 0 ≡ get_or b i 0 → lines_before a i b i ≡ lines_before a (i + 1) b (i + 1)
order_same a b i h k e = unfold lines_before symbols_of in rw (cons_at a i h, cons_at b i k, e) (go (symbol_of (get_or b i 0)) (symbols_of (drop (i + 1) a)) (symbols_of (drop (i + 1) b)))
  where
    more : (s : ℕ) (x y : List ℕ) → before (s ∷ x) (s ∷ y) ≡ before x y
    more s x y = unfold before in rw (le-ltb s s (omega arith), eq-eqb s s refl)

    go : (s : ℕ) (x y : List ℕ) → before (cond (eqb s 0) x (s ∷ x)) (cond (eqb s 0) y (s ∷ y)) ≡ before x y
    go s x y = by (eqb s 0)
      where
        by : (z : Bool) → before (cond z x (s ∷ x)) (cond z y (s ∷ y)) ≡ before x y
        by true = refl
        by false = more s x y

before_nil : (l : List ℕ) → before l [] ≡ false
unfolding before
before_nil [] = refl
before_nil (x ∷ xs) = refl

pub order_end : (a : List ℕ) (i : ℕ) (b : List ℕ) (j : ℕ) → length b ≤ j → lines_before a i b j ≡ false
unfolding lines_before symbols_of
order_end a i b j k = rw (drop_of_length-le b k) (before_nil (symbols_of (drop i a)))

module _ (a : List ℕ) (i : ℕ) (b : List ℕ) (j : ℕ) {y : ℕ} (k : j < length b) (q : y ≡ symbol_of (get_or b j 0)) where
  pub order_skip_right : y ≡ 0 → lines_before a i b j ≡ lines_before a i b (j + 1)
  unfolding lines_before
  order_skip_right e = rw (cons_at b j k, symbols_skip (get_or b j 0) (drop (j + 1) b) (eq-eqb (symbol_of (get_or b j 0)) 0 (sym q ∙ e)))

  pub order_shorter : (y ≡ 0 → ⊥) → length a ≤ i → lines_before a i b j ≡ true
  unfolding lines_before before symbols_of
  order_shorter e h = rw (drop_of_length-le a h, cons_at b j k, ← q, ne_eqb y 0 e)

  module _ (e : y ≡ 0 → ⊥) {x : ℕ} (h : i < length a) (p : x ≡ symbol_of (get_or a i 0)) where
    pub order_skip_left : x ≡ 0 → lines_before a i b j ≡ lines_before a (i + 1) b j
    unfolding lines_before
    order_skip_left d = rw (cons_at a i h, symbols_skip (get_or a i 0) (drop (i + 1) a) (eq-eqb (symbol_of (get_or a i 0)) 0 (sym p ∙ d)))

    pub order_less : (x ≡ 0 → ⊥) → x < y → lines_before a i b j ≡ true
    unfolding lines_before before symbols_of
    order_less d l = rw (cons_at a i h, cons_at b j k, ← p, ← q, ne_eqb y 0 e, ne_eqb x 0 d, lt-ltb x y l)

    pub order_more : (x ≡ 0 → ⊥) → y < x → lines_before a i b j ≡ false
    unfolding lines_before before symbols_of
    order_more d l =
        rw (cons_at a i h, cons_at b j k, ← p, ← q, ne_eqb y 0 e, ne_eqb x 0 d, le-ltb x y (omega arith), ne_eqb x y (λ z. omega (arith, z)))

    pub order_equal : (x ≡ 0 → ⊥) → y ≤ x → x ≤ y → lines_before a i b j ≡ lines_before a (i + 1) b (j + 1)
    unfolding lines_before before symbols_of
    order_equal d l m = rw (cons_at a i h, cons_at b j k, ← p, ← q, ne_eqb y 0 e, ne_eqb x 0 d, le-ltb x y l, eq-eqb x y (omega arith))

-- cutting a text at the end of its first line
pub length_le : (l : List ℕ) → line_length l ≤ length l
unfolding line_length
length_le [] = omega arith
length_le (b ∷ t) = go (eqb b line_feed) (length_le t)
  where
    go : (z : Bool) → line_length t ≤ length t → cond z 1 (suc (line_length t)) ≤ suc (length t)
    go true h = omega arith
    go false h = omega arith

pub length_pos : (l : List ℕ) → 0 < length l → 0 < line_length l
unfolding line_length
length_pos [] h = h
length_pos (b ∷ t) h = go (eqb b line_feed)
  where
    go : (z : Bool) → 0 < cond z 1 (suc (line_length t))
    go true = omega arith
    go false = omega arith

pub cut_first : (l : List ℕ) → 0 < length l → cut l ≡ take (line_length l) l ∷ cut (drop (line_length l) l)
unfolding cut line_length glue
cut_first [] h = absurd (omega arith)
cut_first (b ∷ []) h = go (eqb b line_feed)
  where
    go : (z : Bool) → cond z ((b ∷ []) ∷ []) ((b ∷ []) ∷ []) ≡ take (cond z 1 1) (b ∷ []) ∷ cut (drop (cond z 1 1) (b ∷ []))
    go true = refl
    go false = refl
cut_first (b ∷ c ∷ u) h = go (eqb b line_feed) (cut_first (c ∷ u) (omega arith))
  where
    go : (z : Bool) → cut (c ∷ u) ≡ take (line_length (c ∷ u)) (c ∷ u) ∷ cut (drop (line_length (c ∷ u)) (c ∷ u))
        → cond z ((b ∷ []) ∷ cut (c ∷ u)) (glue b (cut (c ∷ u)))
        ≡ take (cond z 1 (suc (line_length (c ∷ u)))) (b ∷ c ∷ u) ∷ cut (drop (cond z 1 (suc (line_length (c ∷ u)))) (b ∷ c ∷ u))
    go true e = refl
    go false e = ap (glue b) e

-- the line that the code lends from a place to its end
module _ (w : List ℕ) (at e : ℕ) (h : at < length w) (q : e ≡ at + line_length (drop at w)) where
  left_over : 0 < length (drop at w)
  left_over = rw (length-drop at w) (omega arith)

  pub line_starts : at < e
  line_starts = omega (arith, length_pos (drop at w) left_over)

  pub line_ends : e ≤ length w
  line_ends = omega (arith, length_le (drop at w), length-drop at w)

  pub line_size : length (take (e - at) (drop at w)) ≡ e - at
  line_size = length-take-le (e - at) (drop at w) (omega (arith, length_le (drop at w)))

  pub cut_line : cut (drop at w) ≡ take (e - at) (drop at w) ∷ cut (drop e w)
  cut_line =
      let m : e - at ≡ line_length (drop at w) = omega arith in
      rw (m, q) (cut_first (drop at w) left_over ∙ ap (λ (l : List ℕ). take (line_length (drop at w)) (drop at w) ∷ cut l) (drop-drop (line_length (drop at w)) at w))

-- The hyphens of a good exception line: `line_break` says that one counts exactly where one stands with the left margin's letters before
-- it and the right margin's behind it.
use Prim.Native.Nat.{ℕ, zero, suc, ◌+◌, ◌-◌, ◌≤◌}
use mathlib.Core.Bool.{Bool, true, false, cond, ◌&&◌, ◌||◌}
use mathlib.Core.List.{List, [], ◌∷◌, ◌++◌}
use mathlib.Core.Logic.{◌⊎◌, inl, inr}
use mathlib.Core.Path.{◌≡◌, refl, sym, ◌∙◌, ap}
use native.Mathlib.Omega.{arith}
use borrow.Author.Tests.{le-leb, leb-true, eqb-true}
use lib.Dec.{leb, eqb}
use lib.ListN.{length, get_or, take, drop}
use Rattle.std.specs.Prelude.{Ok}
use Rattle.base.proofs.Lists.{clash, never, both, test_iff}
use Rattle.words.specs.Symbols.{line_feed, hyphen, small, symbol_of, symbols_of}
use Rattle.words.proofs.Laws.{symbols_skip, symbols_keep, symbols_length}
use Rattle.lines.specs.Lines.{cut, is_nil, line_letter, exception_form, exception_bytes, good_exception}
use Rattle.lines.proofs.Laws.{line_letter_symbol}
use Rattle.lists.specs.Lists.{good_line, judge_lines, judge_lists}
use Rattle.lists.specs.declared.Form.TheVariants.{Exceptions}
use Rattle.lookup.specs.Listed.{Listed, shown}
use Rattle.lookup.proofs.Theorems.{lists_good}
use Rattle.liang.specs.Breaks.{hyphen_at, in_margins, line_break}
use Rattle.hyphenation.specs.Deciding.{Decided, deciding_line, HyphenCounts}
use Rattle.patterns.proofs.Good.{each_good}

-- letters and hyphens alone
lettered : List ℕ → Bool
lettered [] = true
lettered (b ∷ t) = (line_letter b || eqb b hyphen) && lettered t

hyphen_symbol : (b : ℕ) → eqb b hyphen ≡ true → eqb (symbol_of b) 0 ≡ true
unfolding symbol_of small
hyphen_symbol b p = rw (eqb-true b hyphen p)

feed_symbol : (b : ℕ) → eqb b line_feed ≡ true → eqb (symbol_of b) 0 ≡ true
unfolding symbol_of small
feed_symbol b p = rw (eqb-true b line_feed p)

letter_else : (b : ℕ) (z : Bool) → (line_letter b || z) ≡ true → z ≡ false → line_letter b ≡ true
letter_else b true h p = never (sym p)
letter_else b false h p = go (line_letter b) h
  where
    go : (a : Bool) → (a || false) ≡ true → a ≡ true
    go true e = refl
    go false e = e

-- how a good line goes on: with a letter, or with a hyphen behind one
abbrev GoesOn : Bool → ℕ → List ℕ → Type 0
GoesOn after_letter b rest = ((line_letter b ≡ true) × (exception_form line_letter true rest ≡ true)) ⊎ ((after_letter ≡ true) × (eqb b hyphen ≡ true) × (exception_form line_letter false rest ≡ true))

goes_on_lem : (after_letter : Bool) (b c : ℕ) (t : List ℕ) → exception_form line_letter after_letter (b ∷ c ∷ t) ≡ true
    → GoesOn after_letter b (c ∷ t)
unfolding exception_form is_nil
goes_on_lem a b c t = go (line_letter b) refl a (eqb b hyphen) refl (eqb b line_feed)
  where
    go : (s : Bool) → line_letter b ≡ s → (a y : Bool) → eqb b hyphen ≡ y → (f : Bool)
        → cond s (exception_form line_letter true (c ∷ t)) (a && cond y (exception_form line_letter false (c ∷ t)) (f && is_nil (c ∷ t))) ≡ true
        → GoesOn a b (c ∷ t)
    go true p a y q f e = inl (p, e)
    go false p true true q f e = inr (refl, q, e)
    go false p true false q true e = never e
    go false p true false q false e = never e
    go false p false y q f e = never e

-- a line without its line feed
abbrev unfed : List ℕ → List ℕ
unfed line = take (length line - 1) line

unfed_on : (b c : ℕ) (t : List ℕ) → unfed (b ∷ c ∷ t) ≡ b ∷ unfed (c ∷ t)
unfed_on b c t = let one : length (b ∷ c ∷ t) - 1 ≡ suc (length (c ∷ t) - 1) = omega arith in rw one

-- Of a good line these are letters and hyphens, with the symbols of the whole line.
record Body (line : List ℕ) : Type 0 where
  bytes : lettered (unfed line) ≡ true
  symbols : symbols_of (unfed line) ≡ symbols_of line

body : (after_letter : Bool) (line : List ℕ) → exception_form line_letter after_letter line ≡ true → Body line
unfolding exception_form is_nil lettered symbols_of
body a [] h = never h
body a (b ∷ []) h = go (line_letter b) a (eqb b hyphen) (eqb b line_feed) refl h
  where
    go : (s a y f : Bool) → eqb b line_feed ≡ f → cond s false (a && cond y false (f && is_nil [])) ≡ true → Body (b ∷ [])
    go true a y f p q = never q
    go false false y f p q = never q
    go false true true f p q = never q
    go false true false false p q = never q
    go false true false true p q = record { bytes = refl; symbols = rw (feed_symbol b p) }
body a (b ∷ c ∷ t) h = go (goes_on_lem a b c t h) (λ z. body z (c ∷ t))
  where
    more : (line_letter b || eqb b hyphen) ≡ true → Body (c ∷ t) → Body (b ∷ c ∷ t)
    more e rest = record { bytes = rw (unfed_on b c t, e, rest.bytes); symbols = rw (unfed_on b c t, rest.symbols) }

    either : (s : Bool) → eqb b hyphen ≡ true → (s || eqb b hyphen) ≡ true
    either true q = refl
    either false q = q

    go : GoesOn a b (c ∷ t)
        → ((z : Bool) → exception_form line_letter z (c ∷ t) ≡ true → Body (c ∷ t)) → Body (b ∷ c ∷ t)
    go (inl (p, e)) next = more (rw p) (next true e)
    go (inr (p, q, e)) next = more (either (line_letter b) q) (next false e)

-- where a hyphen stands, by the line's bytes and without regard to margins
stands : (line : List ℕ) (i : ℕ) → lettered line ≡ true → hyphen_at line i ≡ true → HyphenCounts 0 0 line i
unfolding lettered hyphen_at
stands [] i g h = never h
stands (b ∷ t) zero g h =
    record { before = []; behind = t; stands = ap (λ (x : ℕ). x ∷ t) (eqb-true b hyphen h); letters = unfold symbols_of in refl; left_fits = omega arith; right_fits = omega arith }
stands (b ∷ t) (suc i) g h = go (eqb b hyphen) refl h (stands t (suc i) (both (line_letter b || eqb b hyphen) _ g).1) (stands t i (both (line_letter b || eqb b hyphen) _ g).1)
  where
    after : {k : ℕ} (s : HyphenCounts 0 0 t k) → length (symbols_of (b ∷ s.before)) ≡ suc i → HyphenCounts 0 0 (b ∷ t) (suc i)
    after s e =
        record {
          before = b ∷ s.before;
          behind = s.behind;
          stands = ap (λ (l : List ℕ). b ∷ l) s.stands;
          letters = e;
          left_fits = omega arith;
          right_fits = omega arith;
        }

    go : (z : Bool) → eqb b hyphen ≡ z → cond z (hyphen_at t (suc i)) (hyphen_at t i) ≡ true → (hyphen_at t (suc i) ≡ true → HyphenCounts 0 0 t (suc i))
        → (hyphen_at t i ≡ true → HyphenCounts 0 0 t i) → HyphenCounts 0 0 (b ∷ t) (suc i)
    go true p q skip next = let s = skip q in after s (ap length (symbols_skip b s.before (hyphen_symbol b p)) ∙ s.letters)
    go false p q skip next =
        let s = next q in
        after s (ap length (symbols_keep b s.before (line_letter_symbol b (letter_else b (eqb b hyphen) (both (line_letter b || eqb b hyphen) _ g).0 p))) ∙ ap suc s.letters)

found : (before behind : List ℕ) → lettered (before ++ (hyphen ∷ behind)) ≡ true → hyphen_at (before ++ (hyphen ∷ behind)) (length (symbols_of before)) ≡ true
unfolding lettered hyphen_at symbols_of
found [] behind g = refl
found (b ∷ before) behind g = go (eqb b hyphen) refl (found before behind (both (line_letter b || eqb b hyphen) _ g).1)
  where
    rest : List ℕ
    rest = before ++ (hyphen ∷ behind)

    -- another hyphen before this one changes nothing
    again : (m : ℕ) → eqb b hyphen ≡ true → hyphen_at rest m ≡ true → hyphen_at (b ∷ rest) m ≡ true
    again zero p h = p
    again (suc m) p h = rw p h

    go : (z : Bool) → eqb b hyphen ≡ z → hyphen_at rest (length (symbols_of before)) ≡ true → hyphen_at (b ∷ rest) (length (symbols_of (b ∷ before))) ≡ true
    go true p next = rw (symbols_skip b before (hyphen_symbol b p)) (again (length (symbols_of before)) p next)
    go false p next = rw (symbols_keep b before (line_letter_symbol b (letter_else b (eqb b hyphen) (both (line_letter b || eqb b hyphen) _ g).0 p)), p) next

-- the letters of a line are those before a hyphen and those behind it
split_letters : (before behind : List ℕ) → length (symbols_of (before ++ (hyphen ∷ behind))) ≡ length (symbols_of before) + length (symbols_of behind)
unfolding symbols_of symbol_of small
split_letters [] behind = omega arith
split_letters (b ∷ before) behind = go (eqb (symbol_of b) 0) (split_letters before behind)
  where
    go : (z : Bool) → length (symbols_of (before ++ (hyphen ∷ behind))) ≡ length (symbols_of before) + length (symbols_of behind)
        → length (cond z (symbols_of (before ++ (hyphen ∷ behind))) (symbol_of b ∷ symbols_of (before ++ (hyphen ∷ behind))))
        ≡ length (cond z (symbols_of before) (symbol_of b ∷ symbols_of before)) + length (symbols_of behind)
    go true e = e
    go false e = omega (arith, e)

-- a line that is a word's
module _ (left right n : ℕ) (line : List ℕ) (i : ℕ) (bytes : lettered line ≡ true) (whole : length (symbols_of line) ≡ n) where
  breaks_count : line_break left right n line i ≡ true → HyphenCounts left right line i
  unfolding line_break in_margins
  breaks_count e =
      let m = both (leb left i && leb right (n - i)) (hyphen_at line i) e in
      let l = both (leb left i) (leb right (n - i)) m.0 in
      let s = stands line i bytes m.1 in
      record {
        before = s.before;
        behind = s.behind;
        stands = s.stands;
        letters = s.letters;
        left_fits = omega (arith, leb-true left i l.0, s.letters);
        right_fits = omega (arith, leb-true right (n - i) l.1, s.letters, whole, ap (λ (x : List ℕ). length (symbols_of x)) s.stands, split_letters s.before s.behind);
      }

  count_breaks : HyphenCounts left right line i → line_break left right n line i ≡ true
  unfolding line_break in_margins
  count_breaks c =
      let k : n ≡ length (symbols_of c.before) + length (symbols_of c.behind) = sym whole ∙ ap (λ (x : List ℕ). length (symbols_of x)) c.stands ∙ split_letters c.before c.behind in
      let h : hyphen_at line i ≡ true = rw (c.stands, ← c.letters) (found c.before c.behind (rw c.stands at bytes)) in
      rw (le-leb left i (omega (arith, c.left_fits, c.letters)), le-leb right (n - i) (omega (arith, c.right_fits, c.letters, k)), h)

-- "single hyphens only between two letters": a hyphen has a letter behind it, and one before it where the line begins
record Between (after_letter : Bool) (before behind : List ℕ) : Type 0 where
  letter_behind : 1 ≤ length (symbols_of behind)
  letter_before_lem : after_letter ≡ false → 1 ≤ length (symbols_of before)

-- a line goes on with a letter where none stands before it
begins_lettered : (b : ℕ) (t : List ℕ) → exception_form line_letter false (b ∷ t) ≡ true → line_letter b ≡ true
unfolding exception_form
begins_lettered b t = go (line_letter b)
  where
    go : (s : Bool) → cond s (exception_form line_letter true t) false ≡ true → s ≡ true
    go true e = refl
    go false e = e

letter_first : (b : ℕ) (t : List ℕ) → line_letter b ≡ true → 1 ≤ length (symbols_of (b ∷ t))
letter_first b t p = rw (symbols_keep b t (line_letter_symbol b p)) (omega arith)

no_part : (before behind : List ℕ) → [] ≡ before ++ (hyphen ∷ behind) → ⊥
no_part [] behind e = clash cc
no_part (x ∷ before) behind e = clash cc

between : (after_letter : Bool) (line before behind : List ℕ) → exception_form line_letter after_letter line ≡ true → unfed line ≡ before ++ (hyphen ∷ behind) → Between after_letter before behind
unfolding exception_form
between a [] before behind h e = never h
between a (b ∷ []) before behind h e = absurd (no_part before behind e)
between a (b ∷ c ∷ t) [] behind h e = go (goes_on_lem a b c t h)
  where
    parts : b ∷ unfed (c ∷ t) ≡ hyphen ∷ behind
    parts = sym (unfed_on b c t) ∙ e

    here : b ≡ hyphen
    here = ap (λ (l : List ℕ). get_or l 0 0) parts

    rest : unfed (c ∷ t) ≡ behind
    rest = ap (drop 1) parts

    go : GoesOn a b (c ∷ t) → Between a [] behind
    go (inl (p, h)) = never (unfold line_letter small in rw here at p)
    go (inr (p, q, h)) =
        record {
          letter_behind = rw (← rest, (body false (c ∷ t) h).symbols) (letter_first c t (begins_lettered c t h));
          letter_before_lem = λ z. never (sym z ∙ p);
        }
between a (b ∷ c ∷ t) (x ∷ before) behind h e = go (goes_on_lem a b c t h) (λ z g. between z (c ∷ t) before behind g (ap (drop 1) parts))
  where
    parts : b ∷ unfed (c ∷ t) ≡ x ∷ (before ++ (hyphen ∷ behind))
    parts = sym (unfed_on b c t) ∙ e

    here : b ≡ x
    here = ap (λ (l : List ℕ). get_or l 0 0) parts

    go : GoesOn a b (c ∷ t)
        → ((z : Bool) → exception_form line_letter z (c ∷ t) ≡ true → Between z before behind) → Between a (x ∷ before) behind
    go (inl (p, h)) next = record { letter_behind = (next true h).letter_behind; letter_before_lem = λ z. letter_first x before (rw here at p) }
    go (inr (p, q, h)) next = record { letter_behind = (next false h).letter_behind; letter_before_lem = λ z. never (sym z ∙ p) }

-- the line of a listed word
module _ (word text : List ℕ) (good : judge_lines Exceptions text ≡ Ok tt) (l : Listed word text) where
  listed_form : exception_form line_letter false (get_or (cut text) l.at []) ≡ true
  unfolding judge_lines good_line good_exception exception_bytes
  listed_form =
      let g : good_exception (get_or (cut text) l.at []) ≡ true = each_good Exceptions 0 [] (cut text) good l.at l.within in
      (both (exception_form line_letter false (get_or (cut text) l.at [])) _ (both (exception_bytes line_letter (get_or (cut text) l.at [])) _ g).0).0

  listed_body : Body (get_or (cut text) l.at [])
  listed_body = body false _ listed_form

  shown_letters : length (symbols_of (unfed (get_or (cut text) l.at []))) ≡ length word
  shown_letters = ap length (listed_body.symbols ∙ l.symbols) ∙ symbols_length word

  shown_counts : (left right i : ℕ) → line_break left right (length word) (shown word text l) i ≡ true → HyphenCounts left right (shown word text l) i
  unfolding shown
  shown_counts left right i = breaks_count left right (length word) _ i listed_body.bytes shown_letters

  counts_shown : (left right i : ℕ) → HyphenCounts left right (shown word text l) i → line_break left right (length word) (shown word text l) i ≡ true
  unfolding shown
  counts_shown left right i = count_breaks left right (length word) _ i listed_body.bytes shown_letters

  shown_whole : (i : ℕ) → line_break 1 1 (length word) (shown word text l) i ≡ hyphen_at (shown word text l) i
  unfolding shown line_break
  shown_whole i = test_iff _ _ (λ e. (both (in_margins 1 1 (length word) i) _ e).1) counts
    where
      counts : hyphen_at (unfed (get_or (cut text) l.at [])) i ≡ true
          → line_break 1 1 (length word) (unfed (get_or (cut text) l.at [])) i ≡ true
      counts e =
          let s = stands _ i listed_body.bytes e in
          let b = between false (get_or (cut text) l.at []) s.before s.behind listed_form s.stands in
          count_breaks 1 1 (length word) _ i listed_body.bytes shown_letters
          (record {
            before = s.before;
            behind = s.behind;
            stands = s.stands;
            letters = s.letters;
            left_fits = b.letter_before_lem refl;
            right_fits = b.letter_behind;
          })

-- the line that decides
module _ (word customer house : List ℕ) (judged : judge_lists customer house ≡ Ok tt) (left right i : ℕ) where
  pub line_counts : (d : Decided word customer house) → line_break left right (length word) (deciding_line word customer house d) i ≡ true → HyphenCounts left right (deciding_line word customer house d) i
  line_counts (inl l) = shown_counts word customer (lists_good customer house judged).0 l left right i
  line_counts (inr (n, l)) = shown_counts word house (lists_good customer house judged).1 l left right i

  pub counts_line : (d : Decided word customer house) → HyphenCounts left right (deciding_line word customer house d) i → line_break left right (length word) (deciding_line word customer house d) i ≡ true
  counts_line (inl l) = counts_shown word customer (lists_good customer house judged).0 l left right i
  counts_line (inr (n, l)) = counts_shown word house (lists_good customer house judged).1 l left right i

-- With margins 1 and 1 a line stands whole, as document 01 had it for all margins.
pub line_whole : (word customer house : List ℕ) → judge_lists customer house ≡ Ok tt → (d : Decided word customer house) (i : ℕ)
    → line_break 1 1 (length word) (deciding_line word customer house d) i ≡ hyphen_at (deciding_line word customer house d) i
line_whole word customer house judged (inl l) i = shown_whole word customer (lists_good customer house judged).0 l i
line_whole word customer house judged (inr (n, l)) i = shown_whole word house (lists_good customer house judged).1 l i

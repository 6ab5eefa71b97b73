-- Laws about finding a line: one for each way through the code.
use Prim.Native.Nat.{ℕ, suc, ◌+◌, ◌-◌, ◌≤◌, ◌<◌}
use mathlib.Core.Bool.{Bool, true, false, cond}
use mathlib.Core.List.{List, [], ◌∷◌}
use mathlib.Core.Path.{◌≡◌, refl, ap}
use native.Mathlib.Omega.{arith}
use lib.Dec.{eqb}
use lib.ListN.{length}
use Rattle.base.specs.Limits.{word_limit}
use Rattle.base.specs.Grounds.{Check}
use Rattle.std.specs.Prelude.{Ok, Err, Option, Some, None}
use Rattle.base.specs.declared.Ground.{Ground}
use Rattle.base.proofs.Lists.{clash}
use Rattle.words.specs.Symbols.{line_feed, symbols_of}
use Rattle.words.specs.Words.{judge_word, word_symbols}
use Rattle.lines.specs.Lines.{cut, glue}
use Rattle.lists.specs.Lists.{judge_lists}
use Rattle.base.specs.Tests.{same_list}
use Rattle.lookup.specs.Find.{find_line, find, own_first, find_either, span}
use Rattle.lookup.specs.Lookup.{judge_lookup, unless_refused, locate}
use Rattle.lookup.specs.declared.Span.{Span}
use Rattle.lookup.specs.declared.Located.{Located}
use Rattle.lookup.specs.declared.Located.TheVariants.{Customer, House, Nowhere}

-- the loop over the lines
pub find_start : (w t : List ℕ) {rest : List ℕ} → rest ≡ t → find w t ≡ find_line (word_symbols w) 0 (cut rest)
unfolding find
find_start w t e = rw e

pub find_end : (key rest : List ℕ) (start : ℕ) → length rest ≡ 0 → find_line key start (cut rest) ≡ None
unfolding find_line cut
find_end key [] start h = refl
find_end key (b ∷ t) start h = absurd (omega arith)

module _ (key text line rest : List ℕ) (start : ℕ) (e : cut text ≡ line ∷ cut rest) where
  pub find_here : 0 < length line → same_list key (symbols_of line) ≡ true → find_line key start (cut text) ≡ span start (start + length line - 1)
  unfolding find_line
  find_here h s = let n : start + (length line - 1) ≡ start + length line - 1 = omega arith in rw (e, s, n)

  pub find_on : same_list key (symbols_of line) ≡ false → find_line key start (cut text) ≡ find_line key (start + length line) (cut rest)
  unfolding find_line
  find_on s = rw (e, s)

-- the first refusal, then the lists in order
pub lookup_word : (w c h : List ℕ) {s : Check} {g : Ground} → s ≡ judge_word word_limit w → s ≡ Err g → Err g ≡ judge_lookup w c h
unfolding judge_lookup
lookup_word w c h p q = rw (← p, q)

pub lookup_lists : (w c h : List ℕ) {s : Check} → s ≡ judge_word word_limit w → s ≡ Ok tt → judge_lists c h ≡ judge_lookup w c h
unfolding judge_lookup
lookup_lists w c h p q = rw (← p, q)

module _ (w c h : List ℕ) where
  pub either_customer : {f : Option Span} {start end : ℕ} → f ≡ find w c → f ≡ span start end → Customer start end ≡ find_either w c h
  unfolding find_either
  either_customer p q = rw (← p, q)

  pub either_house : {f o : Option Span} {start end : ℕ} → f ≡ find w c → f ≡ None → o ≡ find w h → o ≡ span start end → House start end ≡ find_either w c h
  unfolding find_either
  either_house p q u v = rw (← p, q, ← u, v)

  pub either_nowhere : {f o : Option Span} → f ≡ find w c → f ≡ None → o ≡ find w h → o ≡ None → Nowhere ≡ find_either w c h
  unfolding find_either
  either_nowhere p q u v = rw (← p, q, ← u, v)

  pub locate_refused : {s : Check} {g : Ground} → s ≡ judge_lookup w c h → s ≡ Err g → Nowhere ≡ locate w c h
  unfolding locate
  locate_refused p q = rw (← p, q)

  pub locate_found : {s : Check} → s ≡ judge_lookup w c h → s ≡ Ok tt → find_either w c h ≡ locate w c h
  unfolding locate
  locate_found p q = rw (← p, q)

-- how long some lines are together; cutting loses nothing
unfoldable pub total : List (List ℕ) → ℕ
total [] = 0
total (l ∷ ls) = length l + total ls

total_glue : (b : ℕ) (ls : List (List ℕ)) → total (glue b ls) ≡ suc (total ls)
unfolding glue total
total_glue b [] = refl
total_glue b (l ∷ ls) = omega arith

pub total_cut : (t : List ℕ) → total (cut t) ≡ length t
unfolding cut total
total_cut [] = refl
total_cut (b ∷ t) = go (eqb b line_feed) (total_cut t)
  where
    go : (z : Bool) → total (cut t) ≡ length t → total (cond z ((b ∷ []) ∷ cut t) (glue b (cut t))) ≡ suc (length t)
    go true e = omega (arith, e)
    go false e = omega (arith, total_glue b (cut t), e)

-- a place in a list is told by its two ends
spans : (line : Span) {start end : ℕ} → line.start ≡ start → line.end ≡ end → Some line ≡ span start end
spans line p q = rw (← p, ← q) refl

ends_of : Option Span → ℕ × ℕ
ends_of None = (0, 0)
ends_of (Some line) = (line.start, line.end)

span_starts : {a b c d : ℕ} → span a b ≡ span c d → a ≡ c
unfolding ends_of
span_starts e = ap (λ (s : Option Span). (ends_of s).0) e

span_ends : {a b c d : ℕ} → span a b ≡ span c d → b ≡ d
unfolding ends_of
span_ends e = ap (λ (s : Option Span). (ends_of s).1) e

-- a line that is found lies in its text
pub record Within (n start end : ℕ) : Type 0 where
  pub starts : start ≤ end
  pub ends : end ≤ n

found_within : (key : List ℕ) (at : ℕ) (ls : List (List ℕ)) (start end : ℕ) → find_line key at ls ≡ span start end → Within (at + total ls) start end
unfolding find_line total
found_within key at [] start end e = clash cc
found_within key at (l ∷ ls) start end e = go (same_list key (symbols_of l)) e (found_within key (at + length l) ls start end)
  where
    go : (z : Bool) → cond z (span at (at + (length l - 1))) (find_line key (at + length l) ls) ≡ span start end
        → (find_line key (at + length l) ls ≡ span start end → Within (at + length l + total ls) start end) → Within (at + (length l + total ls)) start end
    go true p next = record { starts = omega (arith, span_starts p, span_ends p); ends = omega (arith, span_ends p) }
    go false p next = let w = next p in record { starts = w.starts; ends = omega (arith, w.ends) }

pub find_within : (w t : List ℕ) {start end : ℕ} → find w t ≡ span start end → Within (length t) start end
unfolding find
find_within w t {start} {end} e =
    let f = found_within (word_symbols w) 0 (cut t) start end e in
    record { starts = f.starts; ends = omega (arith, f.ends, total_cut t) }

customer_found : (f o : Option Span) {start end : ℕ} → own_first f o ≡ Customer start end → f ≡ span start end
customer_found (Some line) o {start} {end} e = let a : line.start ≡ start = cc in let b : line.end ≡ end = cc in spans line a b
customer_found None (Some line) e = clash cc
customer_found None None e = clash cc

house_found : (f o : Option Span) {start end : ℕ} → own_first f o ≡ House start end → o ≡ span start end
house_found (Some line) o e = clash cc
house_found None (Some line) {start} {end} e = let a : line.start ≡ start = cc in let b : line.end ≡ end = cc in spans line a b
house_found None None e = clash cc

allowed_customer : (s : Check) (l : Located) {start end : ℕ} → unless_refused s l ≡ Customer start end → l ≡ Customer start end
allowed_customer (Ok _) l e = e
allowed_customer (Err g) l e = clash cc

allowed_house : (s : Check) (l : Located) {start end : ℕ} → unless_refused s l ≡ House start end → l ≡ House start end
allowed_house (Ok _) l e = e
allowed_house (Err g) l e = clash cc

module _ (w c h : List ℕ) {start end : ℕ} where
  pub customer_within : find_either w c h ≡ Customer start end → Within (length c) start end
  unfolding find_either
  customer_within e = find_within w c (customer_found (find w c) (find w h) e)

  pub house_within : find_either w c h ≡ House start end → Within (length h) start end
  unfolding find_either
  house_within e = find_within w h (house_found (find w c) (find w h) e)

  pub located_customer : locate w c h ≡ Customer start end → Within (length c) start end
  unfolding locate
  located_customer e = customer_within (allowed_customer (judge_lookup w c h) (find_either w c h) e)

  pub located_house : locate w c h ≡ House start end → Within (length h) start end
  unfolding locate
  located_house e = house_within (allowed_house (judge_lookup w c h) (find_either w c h) e)

-- A listed word is found and an unlisted one is not, whatever the case of its letters.
use Prim.Native.Nat.{ℕ, zero, suc, ◌+◌, ◌-◌, ◌≤◌, ◌<◌}
use mathlib.Core.Bool.{Bool, true, false, cond}
use mathlib.Core.List.{List, [], ◌∷◌, ◌++◌, map, List-discrete}
use mathlib.Core.Logic.{◌⊎◌, inl, inr}
use mathlib.Core.Path.{◌≡◌, refl, sym, ◌∙◌, ap}
use native.Mathlib.Decide.{ℕ_discrete}
use native.Mathlib.Omega.{arith}
use lib.Dec.{eqb}
use lib.ListN.{length, get_or, take, drop}
use lib.Seq.{take-append-le, drop-append-add}
use Rattle.base.specs.Limits.{word_limit, exception_text, customer_list, house_list}
use Rattle.base.specs.Grounds.{first, Check}
use Rattle.std.specs.Prelude.{Ok, Err, None}
use Rattle.base.proofs.Lists.{clash, same_true, same_self}
use Rattle.words.specs.Symbols.{line_feed, lower, symbols_of}
use Rattle.words.specs.Words.{judge_word, word_symbols}
use Rattle.words.proofs.Theorems.{same_judgement, same_symbols}
use Rattle.lines.specs.Lines.{cut, glue}
use Rattle.lists.specs.Lists.{judge_lines, judge_size, bad_exception, judge_lists, Lines}
use Rattle.lists.specs.declared.Form.TheVariants.{Exceptions}
use Rattle.lists.proofs.Theorems.{at_most_once}
use Rattle.base.specs.Tests.{same_list}
use Rattle.lookup.specs.Find.{find_line, find, find_either, span}
use Rattle.lookup.specs.Listed.{Listed, shown}
use Rattle.lookup.specs.Lookup.{judge_lookup, locate, line_of}
use Rattle.lookup.specs.declared.Located.TheVariants.{Nowhere}

-- the offset of a line among those that a text is cut into
pub offset_of : List (List ℕ) → ℕ → ℕ
offset_of [] i = 0
offset_of (l ∷ ls) zero = 0
offset_of (l ∷ ls) (suc i) = length l + offset_of ls i

-- a line with these symbols, none before it having them, is found
find_nth : (key : List ℕ) (at : ℕ) (ls : List (List ℕ)) (i : ℕ) → i < length ls → symbols_of (get_or ls i []) ≡ key
    → ((j : ℕ) → j < i → symbols_of (get_or ls j []) ≡ key → ⊥) → find_line key at ls ≡ span (at + offset_of ls i) (at + offset_of ls i + (length (get_or ls i []) - 1))
unfolding find_line offset_of
find_nth key at [] i h e n = absurd (omega arith)
find_nth key at (l ∷ ls) zero h e n = rw (e, same_self key) (let z : at + 0 ≡ at = omega arith in rw z)
find_nth key at (l ∷ ls) (suc i) h e n = go (same_list key (symbols_of l)) refl (find_nth key (at + length l) ls i (omega arith) e (λ j k. n (suc j) (omega arith)))
  where
    here : symbols_of l ≡ key → ⊥
    here = n zero (omega arith)

    go : (z : Bool) → same_list key (symbols_of l) ≡ z
        → find_line key (at + length l) ls ≡ span (at + length l + offset_of ls i) (at + length l + offset_of ls i + (length (get_or ls i []) - 1))
        → cond z (span at (at + (length l - 1))) (find_line key (at + length l) ls) ≡ span (at + (length l + offset_of ls i)) (at + (length l + offset_of ls i) + (length (get_or ls i []) - 1))
    go true p next = absurd (here (sym (same_true key (symbols_of l) p)))
    go false p next = let s : at + length l + offset_of ls i ≡ at + (length l + offset_of ls i) = omega arith in next ∙ rw s

find_none : (key : List ℕ) (at : ℕ) (ls : List (List ℕ)) → ((i : ℕ) → i < length ls → symbols_of (get_or ls i []) ≡ key → ⊥) → find_line key at ls ≡ None
unfolding find_line
find_none key at [] n = refl
find_none key at (l ∷ ls) n = go (same_list key (symbols_of l)) refl (find_none key (at + length l) ls (λ i h. n (suc i) (omega arith)))
  where
    here : symbols_of l ≡ key → ⊥
    here = n zero (omega arith)

    go : (z : Bool) → same_list key (symbols_of l) ≡ z → find_line key (at + length l) ls ≡ None → cond z (span at (at + (length l - 1))) (find_line key (at + length l) ls) ≡ None
    go true p next = absurd (here (sym (same_true key (symbols_of l) p)))
    go false p next = next

-- cutting loses no byte, so a line can be read back at its offset
join : List (List ℕ) → List ℕ
join [] = []
join (l ∷ ls) = l ++ join ls

join_glue : (b : ℕ) (ls : List (List ℕ)) → join (glue b ls) ≡ b ∷ join ls
unfolding join glue
join_glue b [] = refl
join_glue b (l ∷ ls) = refl

join_cut : (t : List ℕ) → join (cut t) ≡ t
unfolding join cut
join_cut [] = refl
join_cut (b ∷ t) = go (eqb b line_feed) (join_cut t)
  where
    go : (z : Bool) → join (cut t) ≡ t → join (cond z ((b ∷ []) ∷ cut t) (glue b (cut t))) ≡ b ∷ t
    go true e = ap (λ (l : List ℕ). b ∷ l) e
    go false e = join_glue b (cut t) ∙ ap (λ (l : List ℕ). b ∷ l) e

read_back : (ls : List (List ℕ)) (i : ℕ) (n : ℕ) → i < length ls → n ≤ length (get_or ls i []) → take n (drop (offset_of ls i) (join ls)) ≡ take n (get_or ls i [])
unfolding join offset_of
read_back [] i n h k = absurd (omega arith)
read_back (l ∷ ls) zero n h k = take-append-le n l (join ls) k
read_back (l ∷ ls) (suc i) n h k = rw (drop-append-add l (join ls) (offset_of ls i)) (read_back ls i n (omega arith) k)

-- the search ends at a listed word's line, and nowhere for another
pub find_listed : (word text : List ℕ) → judge_lines Exceptions text ≡ Ok tt → (l : Listed word text)
    → find word text ≡ span (0 + offset_of (cut text) l.at) (0 + offset_of (cut text) l.at + (length (get_or (cut text) l.at []) - 1))
unfolding find
find_listed word text good l =
    find_nth (word_symbols word) 0 (cut text) l.at l.within l.symbols
    (λ j k e. omega (arith, k, at_most_once Exceptions text good j l.at (omega (arith, l.within)) l.within (e ∙ sym l.symbols)))

pub find_unlisted : (word text : List ℕ) → (Listed word text → ⊥) → find word text ≡ None
unfolding find
find_unlisted word text n = find_none (word_symbols word) 0 (cut text) (λ i h e. n (record { at = i; within = h; symbols = e }))

pub part_listed : (word text : List ℕ) (l : Listed word text) (s e : ℕ) → s ≡ 0 + offset_of (cut text) l.at
    → e ≡ 0 + offset_of (cut text) l.at + (length (get_or (cut text) l.at []) - 1) → take (e - s) (drop s text) ≡ shown word text l
unfolding shown
part_listed word text l s e p q =
    let n : e - s ≡ length (get_or (cut text) l.at []) - 1 = omega arith in
    let o : s ≡ offset_of (cut text) l.at = omega arith in
    rw (n, o) (ap (λ (t : List ℕ). take (length (get_or (cut text) l.at []) - 1) (drop (offset_of (cut text) l.at) t)) (sym (join_cut text))
    ∙ read_back (cut text) l.at (length (get_or (cut text) l.at []) - 1) l.within (omega arith))

-- a line with these symbols is among some lines, or none is
line_or_none : (key : List ℕ) (ls : List (List ℕ))
    → ((i : ℕ) × (i < length ls) × (symbols_of (get_or ls i []) ≡ key)) ⊎ ((i : ℕ) → i < length ls → symbols_of (get_or ls i []) ≡ key → ⊥)
line_or_none key [] = inr (λ i h e. omega arith)
line_or_none key (l ∷ ls) = go (List-discrete ℕ_discrete (symbols_of l) key) (line_or_none key ls)
  where
    go : Dec (symbols_of l ≡ key) → ((i : ℕ) × (i < length ls) × (symbols_of (get_or ls i []) ≡ key)) ⊎ ((i : ℕ) → i < length ls → symbols_of (get_or ls i []) ≡ key → ⊥)
        → ((i : ℕ) × (i < length (l ∷ ls)) × (symbols_of (get_or (l ∷ ls) i []) ≡ key)) ⊎ ((i : ℕ) → i < length (l ∷ ls) → symbols_of (get_or (l ∷ ls) i []) ≡ key → ⊥)
    go (yes e) rest = inl (0, omega arith, e)
    go (no d) (inl (i, h, e)) = inl (suc i, omega arith, e)
    go (no d) (inr none) = inr other
      where
        other : (i : ℕ) → i < length (l ∷ ls) → symbols_of (get_or (l ∷ ls) i []) ≡ key → ⊥
        other zero h e = d e
        other (suc i) h e = none i (omega arith) e

-- A word is listed in a text or it is not: what is said of words that are and of words that are not is said of all.
pub listed_or_not : (word text : List ℕ) → Listed word text ⊎ (Listed word text → ⊥)
listed_or_not word text = go (line_or_none (word_symbols word) (cut text))
  where
    go : ((i : ℕ) × (i < length (cut text)) × (symbols_of (get_or (cut text) i []) ≡ word_symbols word))
        ⊎ ((i : ℕ) → i < length (cut text) → symbols_of (get_or (cut text) i []) ≡ word_symbols word → ⊥)
        → Listed word text ⊎ (Listed word text → ⊥)
    go (inl (i, h, e)) = inl (record { at = i; within = h; symbols = e })
    go (inr none) = inr (λ l. none l.at l.within l.symbols)

-- what it says of the parts that judgements in order are fine
pub first_fine : (a b : Check) → first a b ≡ Ok tt → (a ≡ Ok tt) × (b ≡ Ok tt)
first_fine (Ok _) b e = (refl, e)
first_fine (Err g) b e = clash cc

lines_fine : (list : ℕ) (l : Lines) → bad_exception list l ≡ Ok tt → l ≡ Ok tt
lines_fine list (Ok _) e = refl
lines_fine list (Err o) e = clash cc

-- lists that are judged fine have no bad line
pub lists_good : (c h : List ℕ) → judge_lists c h ≡ Ok tt → (judge_lines Exceptions c ≡ Ok tt) × (judge_lines Exceptions h ≡ Ok tt)
unfolding judge_lists
lists_good c h e =
    let a = first_fine (judge_size exception_text c) _ e in
    let b = first_fine (judge_size exception_text h) _ a.1 in
    let d = first_fine (bad_exception customer_list (judge_lines Exceptions c)) _ b.1 in
    (lines_fine customer_list (judge_lines Exceptions c) d.0, lines_fine house_list (judge_lines Exceptions h) d.1)

module _ (w c h : List ℕ) (fine : judge_lookup w c h ≡ Ok tt) where
  good : (judge_lines Exceptions c ≡ Ok tt) × (judge_lines Exceptions h ≡ Ok tt)
  unfolding judge_lookup
  good = lists_good c h (first_fine (judge_word word_limit w) (judge_lists c h) fine).1

  -- A word in the customer's list is shown that line, whatever the house list says.
  pub lookup_customer : (l : Listed w c) → line_of c h (locate w c h) ≡ shown w c l
  unfolding locate find_either
  lookup_customer l = rw (fine, find_listed w c good.0 l) (part_listed w c l _ _ refl refl)

  -- One that is only in the house list is shown that line.
  pub lookup_house : (Listed w c → ⊥) → (l : Listed w h) → line_of c h (locate w c h) ≡ shown w h l
  unfolding locate find_either
  lookup_house n l = rw (fine, find_unlisted w c n, find_listed w h good.1 l) (part_listed w h l _ _ refl refl)

  -- One that is in neither is shown nothing.
  pub lookup_none : (Listed w c → ⊥) → (Listed w h → ⊥) → locate w c h ≡ Nowhere
  unfolding locate find_either
  lookup_none n m = rw (fine, find_unlisted w c n, find_unlisted w h m)

-- Words that differ only in case are looked up alike.
pub lookup_case : (w v c h : List ℕ) → map lower w ≡ map lower v → locate w c h ≡ locate v c h
unfolding locate judge_lookup find_either find
lookup_case w v c h e = rw (same_judgement w v e word_limit, same_symbols w v e)

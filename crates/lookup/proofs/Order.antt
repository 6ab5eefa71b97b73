-- The lookup's judgement gives the first of its grounds that holds, and its answer says what the order says.
use Prim.Native.Nat.{ℕ}
use mathlib.Core.List.{List}
use mathlib.Core.Path.{◌≡◌, refl, sym, ◌∙◌, ap}
use native.Mathlib.Omega.{arith}
use lib.ListN.{get_or}
use Rattle.base.specs.Limits.{word_limit}
use Rattle.base.specs.Grounds.{Finds, first_of, Check}
use Rattle.std.specs.Prelude.{Ok, Err}
use Rattle.base.proofs.Grounds.{Ordered, ordered_first, said_found, said_refused_lem}
use Rattle.words.proofs.Order.{word_ordered}
use Rattle.lists.proofs.Order.{lists_ordered}
use Rattle.lookup.specs.Find.{find_either}
use Rattle.lookup.specs.Lookup.{lookup_grounds, line_said, values_of, lookup_said, judge_lookup, unless_refused, locate}
use Rattle.lookup.specs.declared.Located.{Located}
use Rattle.lookup.specs.declared.Located.TheVariants.{Customer, House, Nowhere}

pub lookup_ordered : (word customer house : List ℕ) → Ordered (judge_lookup word customer house) (lookup_grounds word customer house)
unfolding judge_lookup lookup_grounds
lookup_ordered word customer house = ordered_first (word_ordered word_limit word) (lists_ordered customer house)

located_said : (word customer house : List ℕ) → line_said (locate word customer house) ≡ lookup_said word customer house
unfolding line_said locate lookup_said
located_said word customer house = go (judge_lookup word customer house) (lookup_ordered word customer house)
  where
    go : (judged : Check) → Ordered judged (lookup_grounds word customer house)
        → line_said (unless_refused judged (find_either word customer house)) ≡ values_of (first_of (Finds (line_said (find_either word customer house))) (lookup_grounds word customer house))
    go (Ok _) o = ap values_of (sym (said_found o (line_said (find_either word customer house))))
    go (Err g) o = ap values_of (sym (said_refused_lem o (line_said (find_either word customer house))))

-- no two places of a line say the same
said_once : (l m : Located) → line_said l ≡ line_said m → l ≡ m
unfolding line_said
said_once (Customer s e) (Customer t f) p = let a : s ≡ t = cc in let b : e ≡ f = cc in rw (a, b)
said_once (House s e) (House t f) p = let a : s ≡ t = cc in let b : e ≡ f = cc in rw (a, b)
said_once Nowhere Nowhere p = refl
said_once (Customer s e) (House t f) p = let z = ap (λ (l : List ℕ). get_or l 0 0) p in absurd (omega (arith, z))
said_once (House s e) (Customer t f) p = let z = ap (λ (l : List ℕ). get_or l 0 0) p in absurd (omega (arith, z))
said_once (Customer s e) Nowhere p = let z = ap (λ (l : List ℕ). get_or l 0 0) p in absurd (omega (arith, z))
said_once (House s e) Nowhere p = let z = ap (λ (l : List ℕ). get_or l 0 0) p in absurd (omega (arith, z))
said_once Nowhere (Customer t f) p = let z = ap (λ (l : List ℕ). get_or l 0 0) p in absurd (omega (arith, z))
said_once Nowhere (House t f) p = let z = ap (λ (l : List ℕ). get_or l 0 0) p in absurd (omega (arith, z))

-- from the place to what is said of it, and back
module _ (word customer house : List ℕ) where
  pub said_located : {r : Located} → r ≡ locate word customer house → line_said r ≡ lookup_said word customer house
  said_located e = ap line_said e ∙ located_said word customer house

  pub located_by : {r : Located} → line_said r ≡ lookup_said word customer house → r ≡ locate word customer house
  located_by {r} e = said_once r (locate word customer house) (e ∙ sym (located_said word customer house))

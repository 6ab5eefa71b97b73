-- What an order of grounds comes to, whatever the call.
use Prim.Native.Nat.{ℕ, zero, suc, ◌<◌}
use mathlib.Core.Bool.{Bool, true, false, cond, ◌||◌, or-true}
use mathlib.Core.List.{List, [], ◌∷◌, ◌++◌}
use mathlib.Core.Logic.{◌↔◌}
use mathlib.Core.Path.{◌≡◌, refl, sym, ◌∙◌, ap}
use native.Mathlib.Omega.{arith}
use borrow.Author.Tests.{eq-eqb, eqb-false}
use lib.Dec.{eqb}
use lib.ListN.{length, get_or}
use Rattle.base.specs.Grounds.{Told, plain, Said, Finds, Refuses, Row, on, first_of, numbers_of, is_finding, any_holds, one_of}
use Rattle.base.proofs.Lists.{never}
use Rattle.base.proofs.Grounds.{no_refusal, refuses_once}

-- The answer is a finding exactly where no ground holds.
pub none_found_lem : (rows : List Row) (values : List ℕ) → any_holds rows ≡ false → first_of (Finds values) rows ≡ Finds values
unfolding first_of any_holds
none_found_lem [] values e = refl
none_found_lem (row ∷ rows) values e = go row.holds e (none_found_lem rows values)
  where
    go : (z : Bool) → (z || any_holds rows) ≡ false → (any_holds rows ≡ false → first_of (Finds values) rows ≡ Finds values)
        → cond z (Refuses row.tells) (first_of (Finds values) rows) ≡ Finds values
    go true p next = never (sym p)
    go false p next = next p

found_none : (rows : List Row) (values found : List ℕ) → first_of (Finds values) rows ≡ Finds found → any_holds rows ≡ false
unfolding first_of any_holds
found_none [] values found e = refl
found_none (row ∷ rows) values found e = go row.holds e (found_none rows values found)
  where
    go : (z : Bool) → cond z (Refuses row.tells) (first_of (Finds values) rows) ≡ Finds found → (first_of (Finds values) rows ≡ Finds found → any_holds rows ≡ false) → (z || any_holds rows) ≡ false
    go true p next = no_refusal (sym p)
    go false p next = next p

-- and then it tells just these values
finds_once : {values found : List ℕ} → Finds values ≡ Finds found → values ≡ found
finds_once e = cc

pub finds_exactly : (rows : List Row) (values found : List ℕ) → (first_of (Finds values) rows ≡ Finds found) ↔ ((any_holds rows ≡ false) × (values ≡ found))
finds_exactly rows values found = (
  λ e. let none = found_none rows values found e in (none, finds_once (sym (none_found_lem rows values none) ∙ e)),
  λ p. none_found_lem rows values p.0 ∙ ap Finds p.1,
)

-- where one holds, it is a refusal
pub some_refused : (rows : List Row) (values : List ℕ) → any_holds rows ≡ true → (t : Told) × (first_of (Finds values) rows ≡ Refuses t)
unfolding first_of any_holds
some_refused [] values e = never e
some_refused (row ∷ rows) values e = go row.holds e (some_refused rows values)
  where
    go : (z : Bool) → (z || any_holds rows) ≡ true → (any_holds rows ≡ true → (t : Told) × (first_of (Finds values) rows ≡ Refuses t))
        → (t : Told) × (cond z (Refuses row.tells) (first_of (Finds values) rows) ≡ Refuses t)
    go true p next = (row.tells, refl)
    go false p next = next p

pub finding_exactly : (rows : List Row) (values : List ℕ) → (is_finding (first_of (Finds values) rows) ≡ true) ↔ (any_holds rows ≡ false)
finding_exactly rows values = (λ e. go (first_of (Finds values) rows) refl e, λ e. ap is_finding (none_found_lem rows values e))
  where
    go : (s : Said) → first_of (Finds values) rows ≡ s → is_finding s ≡ true → any_holds rows ≡ false
    go (Finds found) p e = found_none rows values found p
    go (Refuses t) p e = never e

-- A refusal tells what the first ground that holds tells: the one at a number of the order, with none before it.
pub record Chosen (rows : List Row) (t : Told) : Type 0 where
  pub at : ℕ
  pub within : at < length rows
  pub holds : (get_or rows at (on 0 false)).holds ≡ true
  pub tells : (get_or rows at (on 0 false)).tells ≡ t
  pub before : (i : ℕ) → i < at → (get_or rows i (on 0 false)).holds ≡ false

pub refuses_first : (rows : List Row) (values : List ℕ) {t : Told} → first_of (Finds values) rows ≡ Refuses t → Chosen rows t
unfolding first_of
refuses_first [] values e = no_refusal e
refuses_first (row ∷ rows) values {t} e = go row.holds refl e (refuses_first rows values)
  where
    go : (z : Bool) → row.holds ≡ z → cond z (Refuses row.tells) (first_of (Finds values) rows) ≡ Refuses t → (first_of (Finds values) rows ≡ Refuses t → Chosen rows t) → Chosen (row ∷ rows) t
    go true h p next = record { at = 0; within = omega arith; holds = h; tells = refuses_once p; before = λ i k. absurd (omega arith) }
    go false h p next =
        let c = next p in
        record { at = suc c.at; within = omega (arith, c.within); holds = c.holds; tells = c.tells; before = early c.before }
      where
        early : {n : ℕ} → ((i : ℕ) → i < n → (get_or rows i (on 0 false)).holds ≡ false) → (i : ℕ) → i < suc n → (get_or (row ∷ rows) i (on 0 false)).holds ≡ false
        early f zero k = h
        early f (suc i) k = f i (omega arith)

-- "none is given on other grounds": its number is one of the order's.
chosen_listed : (rows : List Row) (n at : ℕ) → at < length rows → (get_or rows at (on 0 false)).tells.number ≡ n → one_of n (numbers_of rows) ≡ true
unfolding one_of
chosen_listed [] n at h e = absurd (omega arith)
chosen_listed (row ∷ rows) n zero h e = rw (eq-eqb n row.tells.number (sym e))
chosen_listed (row ∷ rows) n (suc at) h e = rw (chosen_listed rows n at (omega arith) e) (or-true (eqb n row.tells.number))

pub refuses_listed : (rows : List Row) (values : List ℕ) {t : Told} → first_of (Finds values) rows ≡ Refuses t → one_of t.number (numbers_of rows) ≡ true
refuses_listed rows values {t} e = let c = refuses_first rows values e in chosen_listed rows t.number c.at c.within (ap (λ (s : Told). s.number) c.tells)

-- The last ground of an order, one that tells no place: refused on exactly where it holds and none before it does.
pub last_exactly : (rows : List Row) (n : ℕ) (test : Bool) (values : List ℕ) → one_of n (numbers_of rows) ≡ false
    → (first_of (Finds values) (rows ++ (on n test ∷ [])) ≡ Refuses (plain n)) ↔ ((any_holds rows ≡ false) × (test ≡ true))
unfolding first_of any_holds one_of
last_exactly [] n true values e = (λ p. (refl, refl), λ p. refl)
last_exactly [] n false values e = (λ p. no_refusal p, λ p. never p.1)
last_exactly (row ∷ rows) n test values e = go row.holds (eqb n row.tells.number) refl e (last_exactly rows n test values)
  where
    go : (z other : Bool) → eqb n row.tells.number ≡ other → (other || one_of n (numbers_of rows)) ≡ false
        → (one_of n (numbers_of rows) ≡ false → (first_of (Finds values) (rows ++ (on n test ∷ [])) ≡ Refuses (plain n)) ↔ ((any_holds rows ≡ false) × (test ≡ true)))
        → (cond z (Refuses row.tells) (first_of (Finds values) (rows ++ (on n test ∷ []))) ≡ Refuses (plain n)) ↔ (((z || any_holds rows) ≡ false) × (test ≡ true))
    go z true q f next = never (sym f)
    go true false q f next = (λ p. absurd (eqb-false n row.tells.number q (sym (ap (λ (t : Told). t.number) (refuses_once p)))), λ p. never (sym p.0))
    go false false q f next = next f

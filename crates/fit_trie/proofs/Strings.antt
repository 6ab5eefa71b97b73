-- Walks that go one symbol further.
use Prim.Native.Nat.{ℕ, ◌+◌}
use mathlib.Core.Bool.{Bool, true, false, cond}
use mathlib.Core.List.{List, [], ◌∷◌}
use mathlib.Core.Path.{◌≡◌, refl, ◌∙◌, ap}
use borrow.Author.Tests.{eqb-true, eqb-false}
use lib.Dec.{eqb}
use Rattle.base.proofs.Lists.{clash}
use Rattle.table.specs.Table.{look, Look, hit}
use Rattle.std.specs.Prelude.{Some, None}
use Rattle.trie.specs.Paths.{onward, along}
use Rattle.fit.specs.Cells.{cell_of}
use Rattle.patterns.proofs.Strings.{◌▸◌}
use Rattle.fit_trie.proofs.Bytes.{link_in}

-- the cell behind a string's next to last one
pub cell_further : (bytes u : List ℕ) (base x s : ℕ) → cell_of bytes base ((u ▸ x) ▸ s) ≡ link_in bytes (cell_of bytes base (u ▸ x)) + s
unfolding cell_of
cell_further bytes [] base x s = refl
cell_further bytes (y ∷ []) base x s = refl
cell_further bytes (y ∷ (z ∷ u)) base x s = cell_further bytes (z ∷ u) (link_in bytes (base + y)) x s

onward_same : (f g : ℕ → Look) → ((l : ℕ) → f l ≡ g l) → (found : Look) → onward f found ≡ onward g found
unfolding onward
onward_same f g h None = refl
onward_same f g h (Some found) = ap (cond (eqb found.link 0) None) (h found.link)

onward_join : (f g : ℕ → Look) (found : Look) → onward (λ l. onward g (f l)) found ≡ onward g (onward f found)
unfolding onward
onward_join f g None = refl
onward_join f g (Some found) = go (eqb found.link 0)
  where
    go : (z : Bool) → cond z None (onward g (f found.link)) ≡ onward g (cond z None (f found.link))
    go true = refl
    go false = refl

pub along_further : (cells u : List ℕ) (base x s : ℕ) → along cells base ((u ▸ x) ▸ s) ≡ onward (λ l. look cells (l + s) s) (along cells base (u ▸ x))
unfolding along
along_further cells [] base x s = refl
along_further cells (y ∷ []) base x s = onward_join (λ l. look cells (l + x) x) (λ l. look cells (l + s) s) (look cells (base + y) y)
along_further cells (y ∷ (z ∷ u)) base x s =
    onward_same _ _ (λ l. along_further cells (z ∷ u) l x s) (look cells (base + y) y)
    ∙ onward_join (λ l. along cells l ((z ∷ u) ▸ x)) (λ l. look cells (l + s) s) (look cells (base + y) y)

-- a walk goes on only over a link that is not 0
pub onward_hit : (go : ℕ → Look) (l o : ℕ) → (l ≡ 0 → ⊥) → onward go (hit l o) ≡ go l
unfolding onward
onward_hit go l o h = skip (eqb l 0) refl
  where
    skip : (z : Bool) → eqb l 0 ≡ z → cond z None (go l) ≡ go l
    skip true p = absurd (h (eqb-true l 0 p))
    skip false p = refl

pub record Onward (go : ℕ → Look) (found : Look) (link output : ℕ) : Type 0 where
  pub from : ℕ
  pub past : ℕ
  pub looked : found ≡ hit from past
  pub some : from ≡ 0 → ⊥
  pub goes : go from ≡ hit link output

pub onward_from : (go : ℕ → Look) (found : Look) (link output : ℕ) → onward go found ≡ hit link output → Onward go found link output
unfolding onward
onward_from go None link output e = clash cc
onward_from go (Some found) link output e = split (eqb found.link 0) refl e
  where
    split : (z : Bool) → eqb found.link 0 ≡ z → cond z None (go found.link) ≡ hit link output → Onward go (hit found.link found.output) link output
    split true p q = clash cc
    split false p q = record { from = found.link; past = found.output; looked = refl; some = eqb-false found.link 0 p; goes = q }

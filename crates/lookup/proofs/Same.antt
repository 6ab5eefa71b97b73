-- The library's order of two lists is equality where it says so.
use Prim.Native.Nat.{ℕ}
use mathlib.Core.List.{List, map}
use mathlib.Core.Bool.{not}
use mathlib.Core.Path.{◌≡◌, refl}
use native.Mathlib.Omega.{arith}
use lib.Dec.{eqb}
use Rattle.std.specs.List.{filter}
use Rattle.std.specs.declared.cmp.Ordering.{Ordering}
use Rattle.std.specs.Ordering.{nat_cmp, is_eq}
use Rattle.std.specs.Cmp.Lexicographic.{slice_cmp}
use Rattle.std.proofs.lemmas.Bool.Decides.{nat_tests}
use Rattle.std.proofs.lemmas.Cmp.{same_from_slice_cmp}
use Rattle.base.specs.Tests.{same_list}
use Rattle.words.specs.Symbols.{lower, symbol_of, symbols_of}
use Rattle.words.specs.Words.{word_symbols}
use Rattle.lines.proofs.Symbols.{symbols_filtered}

pub is_same : (x y : List ℕ) (o : Ordering) → o ≡ slice_cmp nat_cmp x y → is_eq o ≡ same_list x y
unfolding same_list
is_same = same_from_slice_cmp nat_cmp is_eq same_list refl (λ _ _. refl) (λ _ _. refl) (λ x y xs ys o h. grind (arith, nat_tests))

pub same_filtered : (x y : List ℕ) → same_list (map (λ b. symbol_of (lower b)) x) (filter (λ s. not (eqb s 0)) (map symbol_of y)) ≡ same_list (word_symbols x) (symbols_of y)
unfolding word_symbols
same_filtered x y = rw (symbols_filtered y)

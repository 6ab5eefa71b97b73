-- A text that the library's `split_inclusive` parts behind each line feed is parted into its lines.
use Prim.Native.Nat.{ℕ, zero, suc, ◌+◌, ◌≤◌, ◌<◌, min}
use mathlib.Core.Bool.{Bool, true, false}
use mathlib.Core.List.{List, [], ◌∷◌, ◌++◌}
use mathlib.Core.Logic.{◌⊎◌, inl, inr}
use mathlib.Core.Path.{◌≡◌, refl, sym, ◌∙◌, ap}
use native.Mathlib.Omega.{arith}
use denote.Param.Members.{Mut}
use denote.Ref.{Bor}
use lib.Dec.{eqb}
use lib.ListN.{length, take, drop, length-append, drop_of_length-le}
use Rattle.std.proofs.Math.Seq.{take-append_seam, drop-append_seam}
use Rattle.std.proofs.lemmas.Fn.{always_returns_same}
use Rattle.std.specs.Fn.{CalledAt, ComputesKey}
use Rattle.std.specs.List.{IsFirstMatchOrLen}
use Rattle.std.specs.Option.{MatchOption, unwrap_or}
use Rattle.std.specs.Prelude.{Option, Some, None}
use Rattle.words.specs.Symbols.{line_feed}
use Rattle.lines.specs.Lines.{cut, line_length}
use Rattle.lines.proofs.Laws.{cut_first, length_le}

abbrev is_feed : ℕ → Bool
is_feed b = eqb b line_feed

-- a line ends behind the first line feed
length_matched : (t : List ℕ) (i : ℕ) → IsFirstMatchOrLen is_feed t i → line_length t ≡ min (i + 1) (length t)
unfolding line_length
length_matched [] i m = omega arith
length_matched (b ∷ t) zero m = let f : eqb b line_feed ≡ true = m.1 (omega arith) 0 in rw f (omega arith)
length_matched (b ∷ t) (suc i) m =
    let f : eqb b line_feed ≡ false = m.0 0 0 (omega arith) (omega arith) in
    let k = length_matched t i ((λ k d l h. m.0 (suc k) d (omega arith) (omega arith)), (λ h d. m.1 (omega arith) d)) in
    rw f (omega (arith, k))

-- One step of the iterator, as it says itself: of a text it gives a line, and the rest of it is left. The closure tells line feeds.
module _ {F : Type 0} (g : Mut F (Bor ℕ × Unit {0}) Bool) {f f' : F} (text line rest : List ℕ)
    (step : (text ≡ line ++ rest) × ((i : ℕ) × (length line ≡ min (i + 1) (length text)) × ((p : ℕ → Bool) → ComputesKey g p f → ComputesKey g p f' × IsFirstMatchOrLen p text i)) × (0 < length text)) where
  pub split_length : length text ≡ length line + length rest
  split_length = ap length step.0 ∙ length-append line rest

  pub split_some : 0 < length line
  split_some = omega (arith, step.1.1, step.2)

  module _ (tells : (b : ℕ) (r : Bool) (q : F) → CalledAt g f b r q → (q ≡ f) × (r ≡ eqb b line_feed)) where
    pub line_split : line_length text ≡ length line
    line_split =
        let by : ComputesKey g is_feed f = always_returns_same g (λ a r. r ≡ is_feed a.0.now) f (λ a r q k. let m = tells a.0.now r q (record { shown = a.0; shows = refl; called = k }) in (m.1, m.0)) in
        length_matched text step.1.0 (step.1.2 is_feed by).1 ∙ sym step.1.1

    pub cut_split : cut text ≡ line ∷ cut rest
    cut_split =
        let a : take (length line) text ≡ line = ap (take (length line)) step.0 ∙ take-append_seam line rest in
        let b : drop (length line) text ≡ rest = ap (drop (length line)) step.0 ∙ drop-append_seam line rest in
        cut_first text step.2 ∙ rw (line_split, a, b)

-- the first line of a text, of which the iterator gives nothing where the text is empty
pub first_split : {F : Type 0} (g : Mut F (Bor ℕ × Unit {0}) Bool) {f : F} (f' : F) (D : Type 0) (text rest : List ℕ) (r : Option (Bor (List ℕ)))
    → MatchOption r ((length text ≡ 0) × D) (λ x. (text ≡ x.now ++ rest) × ((i : ℕ) × (length x.now ≡ min (i + 1) (length text)) × ((p : ℕ → Bool) → ComputesKey g p f → ComputesKey g p f' × IsFirstMatchOrLen p text i)) × (0 < length text))
    → ((b : ℕ) (r : Bool) (q : F) → CalledAt g f b r q → (q ≡ f) × (r ≡ eqb b line_feed)) → (l : Bor (List ℕ)) → l.now ≡ text → length (unwrap_or r l).now ≡ line_length text
first_split g f' D text rest None m tells l e = omega (arith, m.0, ap length e, length_le text)
first_split g f' D text rest (Some x) m tells l e = sym (line_split g text x.now rest m tells)

-- past a text's end no line begins
pub past_split : (w : List ℕ) (at : ℕ) → (length w < at) ⊎ (length w < length w) → at ≡ at + line_length (drop at w)
unfolding line_length
past_split w at (inl h) = let k : length w ≤ at = omega (arith, h) in rw (drop_of_length-le w k) (omega arith)
past_split w at (inr h) = absurd (omega (arith, h))

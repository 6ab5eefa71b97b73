-- However a text is cut, what it gives is what its words give by their declaration.
use Prim.Native.Nat.{ℕ, ◌≤◌, ◌<◌}
use mathlib.Core.Bool.{Bool, true, false, cond}
use mathlib.Core.List.{List, [], ◌∷◌, ◌++◌, append_assoc, append-nil}
use mathlib.Core.Path.{◌≡◌, refl, sym, ◌∙◌, ap}
use native.Mathlib.Omega.{arith}
use borrow.Author.Tests.{lt-leb, le-leb, eqb-true, ltb-true, ltb-false}
use lib.Dec.{ltb, eqb}
use lib.ListN.{length, take, length-append}
use Rattle.base.specs.Limits.{word_limit}
use Rattle.words.specs.Symbols.{letter, apostrophe}
use Rattle.words.specs.Words.{starts_letter, leading}
use Rattle.runs.specs.Text.{onward, spread, shown, text_out, Held, Holding, Gone, GoneMarked}
use Rattle.runs.specs.Held.{last_of, next, held_after, finished, given, flushed, piece_out, pieces_out, joined}
use Rattle.runs.proofs.Laws.{on_letter, on_mark, off_mark, off_other, last_is, joins_none, joins_letter, joins_mark, finished_word, finished_marked}
use Rattle.runs.proofs.Views.{View, idle, in_word, marked, let_go, let_go_marked, held_in, Fits}

module _ {A : Type 0} (byte : ℕ → List A) (word : List ℕ → List A) where
  abbrev Out : ℕ → List ℕ → List A
  Out = text_out byte word

  -- what a text gives behind what is held, by the declaration
  meant : View → List ℕ → List A
  meant idle t = Out 0 t
  meant (in_word h) t = shown byte word (h ++ take (onward t) t) ++ Out (onward t) t
  meant (marked h) t = cond (starts_letter t) (shown byte word (h ++ (apostrophe ∷ take (onward t) t)) ++ Out (onward t) t) (word h ++ (byte apostrophe ++ Out 0 t))
  meant let_go t = spread byte word (take (onward t) t) ++ Out (onward t) t
  meant let_go_marked t = cond (starts_letter t) (spread byte word (take (onward t) t) ++ Out (onward t) t) (Out 0 t)

  -- the rest as one piece, and what the end flushes
  all : Held → List ℕ → List A
  all s [] = flushed byte word s
  all s (b ∷ t) = given byte word s b ++ all (next s b) t

  shown_short : (w : List ℕ) → length w ≤ word_limit → shown byte word w ≡ word w
  unfolding shown
  shown_short w h = rw (le-leb (length w) word_limit h)

  shown_long : (w : List ℕ) → word_limit < length w → shown byte word w ≡ spread byte word w
  unfolding shown
  shown_long w h = rw (lt-leb (length w) word_limit h)

  spread_append : (u v : List ℕ) → spread byte word (u ++ v) ≡ spread byte word u ++ spread byte word v
  unfolding spread
  spread_append [] v = refl
  spread_append (b ∷ u) v = ap (λ (x : List A). byte b ++ x) (spread_append u v) ∙ sym (append_assoc (byte b) _ _)

  -- a run that passes the limit with this byte goes through from its beginning on
  long_run : (h : List ℕ) (b : ℕ) (t : List ℕ) → word_limit ≤ length h
      → spread byte word (h ++ (b ∷ [])) ++ (spread byte word (take (onward t) t) ++ Out (onward t) t) ≡ shown byte word (h ++ (b ∷ take (onward t) t)) ++ Out (onward t) t
  long_run h b t k =
      let m : word_limit < length (h ++ (b ∷ take (onward t) t)) = omega (arith, length-append h (b ∷ take (onward t) t)) in
      rw (
        shown_long (h ++ (b ∷ take (onward t) t)) m,
        ← append_assoc h (b ∷ []) (take (onward t) t),
        spread_append (h ++ (b ∷ [])) (take (onward t) t),
        append_assoc (spread byte word (h ++ (b ∷ []))) (spread byte word (take (onward t) t)) (Out (onward t) t),
      )

  module _ (b : ℕ) (t : List ℕ) (ih : (v : View) → Fits v → all (held_in v) t ≡ meant v t) where
    from_idle : all (Holding []) (b ∷ t) ≡ meant idle (b ∷ t)
    unfolding all meant given next text_out finished
    from_idle = go (letter b) refl
      where
        go : (z : Bool) → letter b ≡ z → all (Holding []) (b ∷ t) ≡ meant idle (b ∷ t)
        go true e = rw (e, ih (in_word (b ∷ [])) (e, omega arith))
        go false e = rw (e, joins_none b, ih idle tt)

    from_gone : all Gone (b ∷ t) ≡ meant let_go (b ∷ t)
    unfolding all meant given next text_out spread
    from_gone = go (letter b) refl (eqb b apostrophe) refl (starts_letter t) refl
      where
        go : (z : Bool) → letter b ≡ z → (q : Bool) → eqb b apostrophe ≡ q → (l : Bool) → starts_letter t ≡ l → all Gone (b ∷ t) ≡ meant let_go (b ∷ t)
        go true e q f l g = rw (e, on_letter b t e, ih let_go tt, append_assoc (byte b) (spread byte word (take (onward t) t)) (Out (onward t) t))
        go false e true f true g = rw (e, f, on_mark b t e f g, ih let_go_marked tt, g, append_assoc (byte b) (spread byte word (take (onward t) t)) (Out (onward t) t))
        go false e true f false g = rw (e, f, off_mark b t e g, e, ih let_go_marked tt, g)
        go false e false f l g = rw (e, f, off_other b t e f, e, ih idle tt)

    from_marked_gone : all GoneMarked (b ∷ t) ≡ meant let_go_marked (b ∷ t)
    unfolding all meant given next text_out spread starts_letter
    from_marked_gone = go (letter b) refl
      where
        go : (z : Bool) → letter b ≡ z → all GoneMarked (b ∷ t) ≡ meant let_go_marked (b ∷ t)
        go true e = rw (e, on_letter b t e, ih let_go tt, append_assoc (byte b) (spread byte word (take (onward t) t)) (Out (onward t) t))
        go false e = rw (e, ih idle tt)

    module _ (h : List ℕ) (l : letter (last_of h) ≡ true) (k : length h ≤ word_limit) where
      from_word : all (Holding h) (b ∷ t) ≡ meant (in_word h) (b ∷ t)
      unfolding all meant given next text_out
      from_word = go (letter b) refl (ltb (length h) word_limit) refl (eqb b apostrophe) refl (starts_letter t) refl
        where
          go : (z : Bool) → letter b ≡ z → (y : Bool) → ltb (length h) word_limit ≡ y → (q : Bool) → eqb b apostrophe ≡ q → (s : Bool) → starts_letter t ≡ s → all (Holding h) (b ∷ t) ≡ meant (in_word h) (b ∷ t)
          go true e true y q f s g =
              let m : length (h ++ (b ∷ [])) ≤ word_limit = omega (arith, ltb-true (length h) word_limit y, length-append h (b ∷ [])) in
              rw (e, y, on_letter b t e, ih (in_word (h ++ (b ∷ []))) (ap letter (last_is h b) ∙ e, m), append_assoc h (b ∷ []) (take (onward t) t))
          go true e false y q f s g = rw (e, y, on_letter b t e, ih let_go tt) (long_run h b t (ltb-false (length h) word_limit y))
          go false e y x true f true g = rw (e, joins_letter h b l, f, on_mark b t e f g, eqb-true b apostrophe f, ih (marked h) (l, k), g)
          go false e y x true f false g = rw (e, joins_letter h b l, f, off_mark b t e g, e, eqb-true b apostrophe f, ih (marked h) (l, k), g, append-nil h, shown_short h k)
          go false e y x false f s g =
              rw (e, joins_letter h b l, f, off_other b t e f, e, ih idle tt, append-nil h, shown_short h k, finished_word byte word h l, append_assoc (word h) (byte b) (Out 0 t))

      from_marked : all (Holding (h ++ (apostrophe ∷ []))) (b ∷ t) ≡ meant (marked h) (b ∷ t)
      unfolding all meant given next text_out starts_letter
      from_marked = go (letter b) refl (ltb (length (h ++ (apostrophe ∷ []))) word_limit) refl
        where
          go : (z : Bool) → letter b ≡ z → (y : Bool) → ltb (length (h ++ (apostrophe ∷ []))) word_limit ≡ y → all (Holding (h ++ (apostrophe ∷ []))) (b ∷ t) ≡ meant (marked h) (b ∷ t)
          go true e true y =
              let m : length ((h ++ (apostrophe ∷ [])) ++ (b ∷ [])) ≤ word_limit = omega (arith, ltb-true (length (h ++ (apostrophe ∷ []))) word_limit y, length-append (h ++ (apostrophe ∷ [])) (b ∷ [])) in
              rw (e, y, on_letter b t e, ih (in_word ((h ++ (apostrophe ∷ [])) ++ (b ∷ []))) (ap letter (last_is (h ++ (apostrophe ∷ [])) b) ∙ e, m), append_assoc (h ++ (apostrophe ∷ [])) (b ∷ []) (take (onward t) t), append_assoc h (apostrophe ∷ []) (b ∷ take (onward t) t))
          go true e false y =
              rw (e, y, on_letter b t e, ih let_go tt, ← append_assoc h (apostrophe ∷ []) (b ∷ take (onward t) t))
              (long_run (h ++ (apostrophe ∷ [])) b t (ltb-false (length (h ++ (apostrophe ∷ []))) word_limit y))
          go false e y x =
              rw (e, joins_mark h b, ih idle tt, finished_marked byte word h l, append_assoc (word h ++ byte apostrophe) (byte b) (Out 0 t), append_assoc (word h) (byte apostrophe) (byte b ++ Out 0 t))

  at_end : (v : View) → Fits v → all (held_in v) [] ≡ meant v []
  unfolding all meant flushed text_out starts_letter spread finished leading
  at_end idle f = refl
  at_end (in_word h) f = rw (append-nil h, shown_short h f.1, append-nil (word h)) (finished_word byte word h f.0)
  at_end (marked h) f = rw (append-nil (byte apostrophe)) (finished_marked byte word h f.0)
  at_end let_go f = refl
  at_end let_go_marked f = refl

  all_meant : (t : List ℕ) (v : View) → Fits v → all (held_in v) t ≡ meant v t
  all_meant [] v f = at_end v f
  all_meant (b ∷ t) idle f = from_idle b t (λ v g. all_meant t v g)
  all_meant (b ∷ t) (in_word h) f = from_word b t (λ v g. all_meant t v g) h f.0 f.1
  all_meant (b ∷ t) (marked h) f = from_marked b t (λ v g. all_meant t v g) h f.0 f.1
  all_meant (b ∷ t) let_go f = from_gone b t (λ v g. all_meant t v g)
  all_meant (b ∷ t) let_go_marked f = from_marked_gone b t (λ v g. all_meant t v g)

  all_cut : (s : Held) (p t : List ℕ) → all s (p ++ t) ≡ piece_out byte word s p ++ all (held_after s p) t
  unfolding all piece_out held_after
  all_cut s [] t = refl
  all_cut s (b ∷ p) t = ap (λ (x : List A). given byte word s b ++ x) (all_cut (next s b) p t) ∙ sym (append_assoc (given byte word s b) _ _)

  -- a piece in two parts
  pub piece_cut : (s : Held) (p q : List ℕ) → piece_out byte word s (p ++ q) ≡ piece_out byte word s p ++ piece_out byte word (held_after s p) q
  unfolding piece_out held_after
  piece_cut s [] q = refl
  piece_cut s (b ∷ p) q = ap (λ (x : List A). given byte word s b ++ x) (piece_cut (next s b) p q) ∙ sym (append_assoc (given byte word s b) _ _)

  pieces_all : (s : Held) (ps : List (List ℕ)) → pieces_out byte word s ps ≡ all s (joined ps)
  unfolding pieces_out joined all
  pieces_all s [] = refl
  pieces_all s (p ∷ ps) = ap (λ (x : List A). piece_out byte word s p ++ x) (pieces_all (held_after s p) ps) ∙ sym (all_cut s p (joined ps))

  -- "the joined output and total count are those of one piece, however the text is cut": both are those of its words by their
  -- declaration.
  pub however_cut : (ps : List (List ℕ)) → pieces_out byte word (Holding []) ps ≡ text_out byte word 0 (joined ps)
  unfolding meant
  however_cut ps = pieces_all (Holding []) ps ∙ all_meant (joined ps) idle tt

  -- a whole text as one piece, and the end
  pub one_piece : (text : List ℕ) → piece_out byte word (Holding []) text ++ flushed byte word (held_after (Holding []) text) ≡ text_out byte word 0 text
  unfolding pieces_out joined
  one_piece text = however_cut (text ∷ []) ∙ ap (text_out byte word 0) (append-nil text)

-- After each piece exactly the unfinished word is held.
use Prim.Native.Nat.{ℕ, ◌≤◌, ◌<◌}
use mathlib.Core.Bool.{Bool, true, false, cond}
use mathlib.Core.List.{List, [], ◌∷◌, ◌++◌, append_assoc, append-nil}
use mathlib.Core.Path.{◌≡◌, refl, ◌∙◌, ap}
use native.Mathlib.Omega.{arith}
use borrow.Author.Tests.{lt-leb, le-leb, eqb-true, ltb-true, ltb-false}
use lib.Dec.{ltb, eqb}
use lib.ListN.{length, take, drop, length-append}
use Rattle.base.specs.Limits.{word_limit}
use Rattle.words.specs.Symbols.{letter, apostrophe}
use Rattle.words.specs.Words.{starts_letter, leading}
use Rattle.runs.specs.Text.{onward, Held, Holding, Gone, GoneMarked, unfinished, held_of}
use Rattle.runs.specs.Held.{last_of, next, held_after}
use Rattle.runs.proofs.Laws.{on_letter, on_mark, off_mark, off_other, last_is, joins_none, joins_letter, joins_mark}
use Rattle.runs.proofs.Views.{View, idle, in_word, marked, let_go, let_go_marked, held_in, Fits}

-- behind a run that was let go
gone_by : List ℕ → Held → Held
gone_by [] later = Gone
gone_by (c ∷ []) later = cond (eqb c apostrophe) GoneMarked later
gone_by (c ∷ (d ∷ t)) later = later

or_later : Held → List ℕ → Held
or_later s [] = s
or_later s (b ∷ t) = held_of 0 (b ∷ t)

-- what is held behind a text, by the declaration
meant : View → List ℕ → Held
meant idle t = held_of 0 t
meant (in_word h) t = unfinished (h ++ take (onward t) t) (drop (onward t) t) (held_of (onward t) t)
meant (marked h) t =
    cond (starts_letter t) (unfinished (h ++ (apostrophe ∷ take (onward t) t)) (drop (onward t) t) (held_of (onward t) t)) (or_later (Holding (h ++ (apostrophe ∷ []))) t)
meant let_go t = gone_by (drop (onward t) t) (held_of (onward t) t)
meant let_go_marked t = cond (starts_letter t) (gone_by (drop (onward t) t) (held_of (onward t) t)) (or_later GoneMarked t)

-- a long run is let go
by_long : (run rest : List ℕ) (later : Held) → word_limit < length run → unfinished run rest later ≡ gone_by rest later
unfolding unfinished gone_by
by_long run [] later h = rw (lt-leb (length run) word_limit h)
by_long run (c ∷ []) later h = rw (lt-leb (length run) word_limit h)
by_long run (c ∷ (d ∷ t)) later h = refl

-- an apostrophe that no letter follows ends the run, and so does any other byte
mark_ends : (h t : List ℕ) → length h ≤ word_limit → or_later (Holding (h ++ (apostrophe ∷ []))) t ≡ unfinished h (apostrophe ∷ t) (held_of 0 t)
unfolding or_later unfinished
mark_ends h [] k = rw (le-leb (length h) word_limit k)
mark_ends h (b ∷ t) k = refl

gone_ends : (t : List ℕ) → or_later GoneMarked t ≡ gone_by (apostrophe ∷ t) (held_of 0 t)
unfolding or_later gone_by
gone_ends [] = refl
gone_ends (b ∷ t) = refl

other_ends : (h : List ℕ) (b : ℕ) (t : List ℕ) (later : Held) → eqb b apostrophe ≡ false → unfinished h (b ∷ t) later ≡ later
unfolding unfinished
other_ends h b [] later f = rw f
other_ends h b (d ∷ t) later f = refl

other_gone : (b : ℕ) (t : List ℕ) (later : Held) → eqb b apostrophe ≡ false → gone_by (b ∷ t) later ≡ later
unfolding gone_by
other_gone b [] later f = rw f
other_gone b (d ∷ t) later f = refl

module _ (b : ℕ) (t : List ℕ) (ih : (v : View) → Fits v → held_after (held_in v) t ≡ meant v t) where
  from_idle : held_after (Holding []) (b ∷ t) ≡ meant idle (b ∷ t)
  unfolding held_after meant next held_of
  from_idle = go (letter b) refl
    where
      go : (z : Bool) → letter b ≡ z → held_after (Holding []) (b ∷ t) ≡ meant idle (b ∷ t)
      go true e = rw (e, ih (in_word (b ∷ [])) (e, omega arith))
      go false e = rw (e, joins_none b, ih idle tt)

  from_gone : held_after Gone (b ∷ t) ≡ meant let_go (b ∷ t)
  unfolding held_after meant next held_of
  from_gone = go (letter b) refl (eqb b apostrophe) refl (starts_letter t) refl
    where
      go : (z : Bool) → letter b ≡ z → (q : Bool) → eqb b apostrophe ≡ q → (l : Bool) → starts_letter t ≡ l → held_after Gone (b ∷ t) ≡ meant let_go (b ∷ t)
      go true e q f l g = rw (e, on_letter b t e, ih let_go tt)
      go false e true f true g = rw (e, f, on_mark b t e f g, ih let_go_marked tt, g)
      go false e true f false g = rw (e, f, off_mark b t e g, e, ih let_go_marked tt, g, eqb-true b apostrophe f, gone_ends t)
      go false e false f l g = rw (e, f, off_other b t e f, e, ih idle tt, other_gone b t (held_of 0 t) f)

  from_marked_gone : held_after GoneMarked (b ∷ t) ≡ meant let_go_marked (b ∷ t)
  unfolding held_after meant next held_of starts_letter or_later
  from_marked_gone = go (letter b) refl
    where
      go : (z : Bool) → letter b ≡ z → held_after GoneMarked (b ∷ t) ≡ meant let_go_marked (b ∷ t)
      go true e = rw (e, on_letter b t e, ih let_go tt)
      go false e = rw (e, ih idle tt)

  module _ (h : List ℕ) (l : letter (last_of h) ≡ true) (k : length h ≤ word_limit) where
    from_word : held_after (Holding h) (b ∷ t) ≡ meant (in_word h) (b ∷ t)
    unfolding held_after meant next held_of
    from_word = go (letter b) refl (ltb (length h) word_limit) refl (eqb b apostrophe) refl (starts_letter t) refl
      where
        go : (z : Bool) → letter b ≡ z → (y : Bool) → ltb (length h) word_limit ≡ y → (q : Bool) → eqb b apostrophe ≡ q → (s : Bool) → starts_letter t ≡ s
            → held_after (Holding h) (b ∷ t) ≡ meant (in_word h) (b ∷ t)
        go true e true y q f s g =
            let m : length (h ++ (b ∷ [])) ≤ word_limit = omega (arith, ltb-true (length h) word_limit y, length-append h (b ∷ [])) in
            rw (e, y, on_letter b t e, ih (in_word (h ++ (b ∷ []))) (ap letter (last_is h b) ∙ e, m), append_assoc h (b ∷ []) (take (onward t) t))
        go true e false y q f s g =
            let m : word_limit < length (h ++ (b ∷ take (onward t) t)) = omega (arith, ltb-false (length h) word_limit y, length-append h (b ∷ take (onward t) t)) in
            rw (e, y, on_letter b t e, ih let_go tt, by_long (h ++ (b ∷ take (onward t) t)) (drop (onward t) t) (held_of (onward t) t) m)
        go false e y x true f true g = rw (e, joins_letter h b l, f, on_mark b t e f g, eqb-true b apostrophe f, ih (marked h) (l, k), g)
        go false e y x true f false g =
            rw (e, joins_letter h b l, f, off_mark b t e g, e, eqb-true b apostrophe f, ih (marked h) (l, k), g, append-nil h, mark_ends h t k)
        go false e y x false f s g = rw (e, joins_letter h b l, f, off_other b t e f, e, ih idle tt, append-nil h, other_ends h b t (held_of 0 t) f)

    from_marked : held_after (Holding (h ++ (apostrophe ∷ []))) (b ∷ t) ≡ meant (marked h) (b ∷ t)
    unfolding held_after meant next held_of starts_letter or_later
    from_marked = go (letter b) refl (ltb (length (h ++ (apostrophe ∷ []))) word_limit) refl
      where
        go : (z : Bool) → letter b ≡ z → (y : Bool) → ltb (length (h ++ (apostrophe ∷ []))) word_limit ≡ y → held_after (Holding (h ++ (apostrophe ∷ []))) (b ∷ t) ≡ meant (marked h) (b ∷ t)
        go true e true y =
            let m : length ((h ++ (apostrophe ∷ [])) ++ (b ∷ [])) ≤ word_limit =
            omega (arith, ltb-true (length (h ++ (apostrophe ∷ []))) word_limit y, length-append (h ++ (apostrophe ∷ [])) (b ∷ [])) in
            rw (
              e,
              y,
              on_letter b t e,
              ih (in_word ((h ++ (apostrophe ∷ [])) ++ (b ∷ []))) (ap letter (last_is (h ++ (apostrophe ∷ [])) b) ∙ e, m),
              append_assoc (h ++ (apostrophe ∷ [])) (b ∷ []) (take (onward t) t),
              append_assoc h (apostrophe ∷ []) (b ∷ take (onward t) t),
            )
        go true e false y =
            let m : word_limit < length (h ++ (apostrophe ∷ b ∷ take (onward t) t)) =
            omega (arith, ltb-false (length (h ++ (apostrophe ∷ []))) word_limit y, length-append h (apostrophe ∷ []), length-append h (apostrophe ∷ b ∷ take (onward t) t)) in
            rw (e, y, on_letter b t e, ih let_go tt, by_long (h ++ (apostrophe ∷ b ∷ take (onward t) t)) (drop (onward t) t) (held_of (onward t) t) m)
        go false e y x = rw (e, joins_mark h b, ih idle tt)

at_end : (v : View) → Fits v → held_after (held_in v) [] ≡ meant v []
unfolding held_after meant held_of starts_letter unfinished or_later gone_by leading
at_end idle f = refl
at_end (in_word h) f = rw (append-nil h, le-leb (length h) word_limit f.1)
at_end (marked h) f = refl
at_end let_go f = refl
at_end let_go_marked f = refl

after_meant : (t : List ℕ) (v : View) → Fits v → held_after (held_in v) t ≡ meant v t
after_meant [] v f = at_end v f
after_meant (b ∷ t) idle f = from_idle b t (λ v g. after_meant t v g)
after_meant (b ∷ t) (in_word h) f = from_word b t (λ v g. after_meant t v g) h f.0 f.1
after_meant (b ∷ t) (marked h) f = from_marked b t (λ v g. after_meant t v g) h f.0 f.1
after_meant (b ∷ t) let_go f = from_gone b t (λ v g. after_meant t v g)
after_meant (b ∷ t) let_go_marked f = from_marked_gone b t (λ v g. after_meant t v g)

-- "After each piece exactly the unfinished word is held": what is held behind a text is what the declaration says.
pub held_is : (text : List ℕ) → held_after (Holding []) text ≡ held_of 0 text
unfolding meant
held_is text = after_meant text idle tt

-- a text in two parts
pub after_append : (s : Held) (p q : List ℕ) → held_after s (p ++ q) ≡ held_after (held_after s p) q
unfolding held_after
after_append s [] q = refl
after_append s (b ∷ p) q = after_append (next s b) p q

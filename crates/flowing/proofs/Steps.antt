-- One byte: each way through the code takes the step that the definition takes.
use Prim.Native.Nat.{ℕ, zero, suc, ◌+◌, ◌≤◌, ◌<◌}
use mathlib.Core.Bool.{true, false, and-false}
use mathlib.Core.List.{List, [], ◌∷◌, ◌++◌}
use mathlib.Core.Logic.{◌⊎◌, inl, inr}
use mathlib.Core.Path.{◌≡◌, refl, sym, ◌∙◌, ap}
use native.Mathlib.Nat.{add-zero}
use native.Mathlib.Decide.{ℕ_discrete}
use native.Mathlib.Omega.{arith}
use borrow.Author.Tests.{eq-eqb, ne_eqb, lt-ltb, le-ltb}
use lib.Dec.{eqb}
use lib.ListN.{length, take}
use lib.Seq.{length-take-le}
use Rattle.base.specs.Limits.{word_limit, held_limit}
use Rattle.base.proofs.Lists.{never, both}
use Rattle.writing.specs.declared.Writer.{Writer}
use Rattle.writing.proofs.Parts.{written_as, none_written}
use Rattle.words.specs.Symbols.{letter, apostrophe}
use Rattle.words.proofs.Laws.{word_fits}
use Rattle.runs.specs.Text.{spread, Held, Holding, Gone, GoneMarked}
use Rattle.runs.specs.Held.{last_of, joins, next, finished, given, bytes_of}
use Rattle.runs.specs.Reached.{can_be_held, is_reached}
use Rattle.runs.proofs.Laws.{zero_none, letter_other}
use Rattle.states.specs.State.{held_by}
use Rattle.flowing.specs.Output.{as_read, broken, uncounted, counted, sum, finished_text, finished_looks, given_text, given_looks}
use Rattle.flowing.specs.Post.{flow_held, Holds, Goes, Finishes, Shaped, Ready, Steps}
use Rattle.flowing.specs.declared.Flow.{Flow}
use Rattle.flowing.proofs.Laws.{held_good}

-- what is held, by the run
held_zero : (run : ℕ) (kept : List ℕ) → run ≡ 0 → held_by run kept ≡ Holding kept
held_zero run kept e = ap (λ (k : ℕ). held_by k kept) e

held_gone : (run : ℕ) (kept : List ℕ) → run ≡ 1 → held_by run kept ≡ Gone
held_gone run kept e = ap (λ (k : ℕ). held_by k kept) e

held_two : (run : ℕ) (kept : List ℕ) → run ≡ 2 → held_by run kept ≡ GoneMarked
held_two run kept e = ap (λ (k : ℕ). held_by k kept) e

held_some : (run : ℕ) (kept : List ℕ) → run ≤ 2 → (run ≡ 0 → ⊥) → (held_by run kept ≡ Gone) ⊎ (held_by run kept ≡ GoneMarked)
held_some zero kept h n = absurd (n refl)
held_some (suc zero) kept h n = inl refl
held_some (suc (suc k)) kept h n = inr refl

as_read_lem : (left right : ℕ) (customer house table l : List ℕ) → spread as_read (broken left right customer house table) l ≡ l
unfolding spread
as_read_lem left right customer house table [] = refl
as_read_lem left right customer house table (b ∷ t) = ap (λ (r : List ℕ). b ∷ r) (as_read_lem left right customer house table t)

pub no_looks : (customer house table l : List ℕ) → sum (spread uncounted (counted customer house table) l) ≡ 0
unfolding spread sum
no_looks customer house table [] = refl
no_looks customer house table (b ∷ t) = no_looks customer house table t

pub sum_append : (u v : List ℕ) → sum (u ++ v) ≡ sum u + sum v
unfolding sum
sum_append [] v = omega arith
sum_append (n ∷ u) v = omega (arith, sum_append u v)

module _ (left right : ℕ) (customer house table : List ℕ) (b : ℕ) (f : Flow) (out : Writer) (shaped : Shaped f) where
  abbrev kept : List ℕ
  kept = take f.size f.held

  kept_length : length kept ≡ f.size
  kept_length = length-take-le f.size f.held (omega (arith, shaped.within, shaped.wide))

  -- a text was put, and the buffer is as it was
  from_goes : {text : List ℕ} {looks : ℕ} (size run : ℕ) {r : Flow} {then : Writer} → Goes text looks size run f out r then
      → given_text left right customer house table (flow_held f) b ≡ text → given_looks customer house table (flow_held f) b ≡ looks
      → held_by run (take size f.held) ≡ next (flow_held f) b → size ≤ held_limit → run ≤ 2 → ((run ≡ 0 → ⊥) → size ≡ 0)
      → Steps left right customer house table b f out r then
  from_goes size run g t l n w k q =
      record {
        put = written_as t g.put;
        looked = g.looked ∙ ap (λ (m : ℕ). f.looks + m) (sym l);
        holds = rw (g.sized, g.ran, g.held) n;
        shaped = record { wide = rw g.held shaped.wide; within = rw g.sized w; known = rw g.ran k; quiet = λ x. g.sized ∙ q (λ e. x (g.ran ∙ e)) };
      }

  -- a letter of a run that was let go
  gone_letter : (s : Held) → (s ≡ Gone) ⊎ (s ≡ GoneMarked) → letter b ≡ true
      → (given_text left right customer house table s b ≡ b ∷ []) × (given_looks customer house table s b ≡ 0) × (Gone ≡ next s b)
  unfolding given_text given_looks given next sum
  gone_letter s (inl e) l = (rw e, rw e, rw (e, l))
  gone_letter s (inr e) l = (rw e, rw e, rw (e, l))

  pub letter_passed : letter b ≡ true → (f.run ≡ 0 → ⊥) → {r : Flow} {then : Writer} → Goes (b ∷ []) 0 f.size 1 f out r then
      → Steps left right customer house table b f out r then
  letter_passed l n g =
      let e = gone_letter (flow_held f) (held_some f.run kept shaped.known n) l in
      from_goes f.size 1 g e.0 e.1 e.2 shaped.within (omega arith) (λ x. shaped.quiet n)

  -- a letter that passes the limit
  pub letter_gone : letter b ≡ true → f.run ≡ 0 → word_limit ≤ f.size → {r : Flow} {then : Writer} → Goes (kept ++ (b ∷ [])) 0 0 1 f out r then
      → Steps left right customer house table b f out r then
  unfolding given_text given_looks given next
  letter_gone l z h g =
      let e = held_zero f.run kept z in
      let w = le-ltb (length kept) word_limit (omega (arith, kept_length)) in
      from_goes 0 1 g (rw (e, l, w) (as_read_lem left right customer house table (kept ++ (b ∷ [])))) (rw (e, l, w) (no_looks customer house table (kept ++ (b ∷ [])))) (rw (e, l, w)) (omega arith)
      (omega arith)
      (λ x. refl)

  -- one byte more is held, and nothing is put
  from_holds : out.at ≤ length out.room.now → f.size < held_limit → (f.run ≡ 0) → {r : Flow} → Holds b f r
      → given_text left right customer house table (flow_held f) b ≡ [] → given_looks customer house table (flow_held f) b ≡ 0
      → Holding (kept ++ (b ∷ [])) ≡ next (flow_held f) b
      → Steps left right customer house table b f out r out
  from_holds a w z {r = r} g t l n =
      let x : r.run ≡ 0 = g.run ∙ z in
      record {
        put = rw t (none_written out a);
        looked = rw (l, g.looks, add-zero f.looks);
        holds = held_zero r.run (take r.size r.held) x ∙ ap Holding g.kept ∙ n;
        shaped = record { wide = g.wide ∙ shaped.wide; within = omega (arith, g.size, w); known = omega (arith, x); quiet = λ y. absurd (y x) };
      }

  pub letter_held : letter b ≡ true → f.run ≡ 0 → f.size < word_limit → out.at ≤ length out.room.now → {r : Flow} → Holds b f r
      → Steps left right customer house table b f out r out
  unfolding given_text given_looks given next sum
  letter_held l z h a g =
      let e = held_zero f.run kept z in
      let w = lt-ltb (length kept) word_limit (omega (arith, kept_length)) in
      from_holds a (omega arith) z g (rw (e, l, w)) (rw (e, l, w)) (rw (e, l, w))

  -- an apostrophe behind a run that was let go
  pub mark_passed : letter b ≡ false → b ≡ apostrophe → f.run ≡ 1 → {r : Flow} {then : Writer} → Goes (b ∷ []) 0 f.size 2 f out r then
      → Steps left right customer house table b f out r then
  unfolding given_text given_looks given next sum
  mark_passed l q z g =
      let e = held_gone f.run kept z in
      from_goes f.size 2 g (rw e) (rw e) (rw (e, l, eq-eqb b apostrophe q)) shaped.within (omega arith) (λ x. shaped.quiet (λ y. omega (arith, y, z)))

  -- an apostrophe behind a letter that is held
  held_run : letter (last_of kept) ≡ true → f.run ≡ 0
  held_run l = go (ℕ_discrete f.run 0)
    where
      go : Dec (f.run ≡ 0) → f.run ≡ 0
      go (yes z) = z
      go (no n) = never (sym zero_none ∙ sym (ap (λ (k : ℕ). letter (last_of (take k f.held))) (shaped.quiet n)) ∙ l)

  pub held_least : can_be_held kept ≡ true → letter (last_of kept) ≡ true → f.size ≤ word_limit
  held_least can l = go (ℕ_discrete f.size 0)
    where
      go : Dec (f.size ≡ 0) → f.size ≤ word_limit
      go (yes z) = omega (arith, z)
      go (no n) =
          omega (
            arith,
            kept_length,
            word_fits word_limit kept (held_good kept can (λ z. n (sym kept_length ∙ z)) (λ q. never (sym (letter_other (last_of kept) l) ∙ eq-eqb (last_of kept) apostrophe q))),
          )

  pub mark_held : letter b ≡ false → b ≡ apostrophe → letter (last_of kept) ≡ true → can_be_held kept ≡ true → out.at ≤ length out.room.now → {r : Flow} → Holds b f r
      → Steps left right customer house table b f out r out
  unfolding given_text given_looks given next joins sum
  mark_held l q m can a g =
      let z = held_run m in
      let e = held_zero f.run kept z in
      from_holds a (omega (arith, held_least can m)) z g (rw (e, l, eq-eqb b apostrophe q, m)) (rw (e, l, eq-eqb b apostrophe q, m)) (rw (e, l, eq-eqb b apostrophe q, m))

  -- any other byte ends what is held
  no_join : (b ≡ apostrophe → ⊥) ⊎ (letter (last_of kept) ≡ false) → joins kept b ≡ false
  unfolding joins
  no_join (inl n) = rw (ne_eqb b apostrophe n)
  no_join (inr m) = rw m (and-false (eqb b apostrophe))

  -- where nothing is held
  nothing : f.size ≡ 0 → kept ≡ []
  nothing z = ap (λ (k : ℕ). take k f.held) z

  -- such a byte's step, whatever is held
  record Ends : Type 0 where
    pub text : given_text left right customer house table (flow_held f) b ≡ finished_text left right customer house table kept ++ (b ∷ [])
    pub looks : given_looks customer house table (flow_held f) b ≡ finished_looks customer house table kept
    pub then : Holding [] ≡ next (flow_held f) b

  ends_held : letter b ≡ false → f.run ≡ 0 → joins kept b ≡ false → Ends
  unfolding given_text given_looks given next finished_text finished_looks sum
  ends_held l z j =
      let e = held_zero f.run kept z in
      record {
        text = rw (e, l, j);
        looks = rw (e, l, j) (sum_append (finished uncounted (counted customer house table) kept) [] ∙ add-zero (sum (finished uncounted (counted customer house table) kept)));
        then = rw (e, l, j);
      }

  ends_gone : (s : Held) → (s ≡ Gone) ⊎ (s ≡ GoneMarked) → flow_held f ≡ s → Holding [] ≡ next s b → f.size ≡ 0 → Ends
  unfolding given_text given_looks given finished_text finished_looks finished sum
  ends_gone s (inl e) p n z = record { text = rw (p, e, nothing z); looks = rw (p, e, nothing z); then = rw p n }
  ends_gone s (inr e) p n z = record { text = rw (p, e, nothing z); looks = rw (p, e, nothing z); then = rw p n }

  gone_next : (s : Held) → (s ≡ Gone) ⊎ (s ≡ GoneMarked) → letter b ≡ false → (s ≡ GoneMarked) ⊎ (b ≡ apostrophe → ⊥) → Holding [] ≡ next s b
  unfolding next
  gone_next s (inl e) l (inl d) = rw (d, l)
  gone_next s (inl e) l (inr n) = rw (e, l, ne_eqb b apostrophe n)
  gone_next s (inr e) l n = rw (e, l)

  -- it is no apostrophe, or neither behind a run let go nor behind a letter held
  abbrev pub Ending : Type 0
  Ending = (b ≡ apostrophe → ⊥) ⊎ ((f.run ≡ 1 → ⊥) × (letter (last_of kept) ≡ false))

  ends : letter b ≡ false → Ending → Ends
  ends l d = go (ℕ_discrete f.run 0) d
    where
      two : f.run ≤ 2 → (f.run ≡ 0 → ⊥) → (f.run ≡ 1 → ⊥) → flow_held f ≡ GoneMarked
      two k n m = held_two f.run kept (omega (arith, k, n, m))

      go : Dec (f.run ≡ 0) → (b ≡ apostrophe → ⊥) ⊎ ((f.run ≡ 1 → ⊥) × (letter (last_of kept) ≡ false)) → Ends
      go (yes z) (inl n) = ends_held l z (no_join (inl n))
      go (yes z) (inr (m, e)) = ends_held l z (no_join (inr e))
      go (no n) (inl q) = let s = held_some f.run kept shaped.known n in ends_gone (flow_held f) s refl (gone_next (flow_held f) s l (inr q)) (shaped.quiet n)
      go (no n) (inr (m, e)) =
          let s = two shaped.known n m in
          ends_gone (flow_held f) (inr s) refl (gone_next (flow_held f) (inr s) l (inl s)) (shaped.quiet n)

  pub word_finished : letter b ≡ false → Ending → {r : Flow} {then : Writer}
      → Goes (finished_text left right customer house table kept ++ (b ∷ [])) (finished_looks customer house table kept) 0 0 f out r then
      → Steps left right customer house table b f out r then
  word_finished l d g = let e = ends l d in from_goes 0 0 g e.text e.looks e.then (omega arith) (omega arith) (λ x. refl)

-- what the parts ask for
pub bytes_by : (run : ℕ) (kept : List ℕ) → ((run ≡ 0 → ⊥) → kept ≡ []) → bytes_of (held_by run kept) ≡ kept
bytes_by zero kept q = refl
bytes_by (suc zero) kept q = sym (q (λ e. omega (arith, e)))
bytes_by (suc (suc k)) kept q = sym (q (λ e. omega (arith, e)))

pub bytes_are : (f : Flow) → Shaped f → bytes_of (flow_held f) ≡ take f.size f.held
bytes_are f shaped = bytes_by f.run (take f.size f.held) (λ n. ap (λ (k : ℕ). take k f.held) (shaped.quiet n))

pub size_is : (f : Flow) → Shaped f → length (bytes_of (flow_held f)) ≡ f.size
size_is f shaped = ap length (bytes_are f shaped) ∙ length-take-le f.size f.held (omega (arith, shaped.within, shaped.wide))

pub held_can : (s : Held) (total : ℕ) → is_reached s total ≡ true → can_be_held (bytes_of s) ≡ true
unfolding is_reached can_be_held
held_can (Holding l) total e = (both (can_be_held l) _ e).0
held_can Gone total e = refl
held_can GoneMarked total e = refl

module _ (f : Flow) (out : Writer) (ready : Ready 1 f out) where
  pub kept_can : can_be_held (take f.size f.held) ≡ true
  kept_can = ap can_be_held (sym (bytes_are f ready.shaped)) ∙ held_can (flow_held f) ready.total ready.reached

  pub kept_within : f.size ≤ length f.held
  kept_within = omega (arith, ready.shaped.within, ready.shaped.wide)

  pub at_within : out.at ≤ length out.room.now
  at_within = omega (arith, ready.fits)

  pub can_finish : Finishes f out
  can_finish = record { within = kept_within; good = kept_can; fits = ready.fits; few = omega (arith, ready.few) }

  -- an apostrophe is held where there is a place for it
  pub mark_place : letter (last_of (take f.size f.held)) ≡ true → f.size < length f.held
  mark_place l = omega (arith, held_least 0 0 [] [] [] 0 f out ready.shaped kept_can l, ready.shaped.wide)

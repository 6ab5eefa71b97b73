-- The test's loops over numbers and over records, each by what it asks of every one.
use Prim.Native.Nat.{ℕ, zero, suc, ◌+◌, ◌*◌, ◌≤◌, ◌<◌}
use mathlib.Core.Bool.{Bool, true}
use mathlib.Core.List.{List}
use mathlib.Core.Logic.{◌↔◌}
use mathlib.Core.Path.{◌≡◌, refl}
use native.Mathlib.Decide.{dec_lt}
use native.Mathlib.Nat.{zero-add, mul-suc}
use native.Mathlib.Omega.{arith}
use borrow.Author.Tests.{eqb-true, eq-eqb}
use lib.Dec.{eqb}
use lib.ListN.{length, get_or}
use Rattle.table.specs.Table.{cell_kind, entry_kind, cell_size, entry_size}
use Rattle.liang.specs.Patterns.{Pattern}
use Rattle.walk.specs.Chain.{chain}
use Rattle.walk.specs.Raise.{highest_set}
use Rattle.trie.specs.Sound.{sound}
use Rattle.rightness.specs.Right.{Exact, Kinds}
use Rattle.base.specs.Tests.{all_from}
use Rattle.rightness.specs.Test.{kinds_from, kinds_test, exact_test}
use Rattle.base.proofs.All.{each_all}
use Rattle.base.proofs.Lists.{both}

module _ (test : ℕ → Bool) where
  pub all_each : (k n : ℕ) → all_from test k n ≡ true → (j : ℕ) → k ≤ j → j < k + n → test j ≡ true
  unfolding all_from
  all_each k zero e j h l = absurd (omega arith)
  all_each k (suc n) e j h l = go (dec_lt k j) (both (test k) (all_from test (suc k) n) e) (all_each (suc k) n)
    where
      go : Dec (k < j) → (test k ≡ true) × (all_from test (suc k) n ≡ true)
          → (all_from test (suc k) n ≡ true → (j : ℕ) → suc k ≤ j → j < suc k + n → test j ≡ true) → test j ≡ true
      go (yes p) q next = next q.1 j (omega arith) (omega arith)
      go (no p) q next = let i : j ≡ k = omega arith in rw i q.0

module _ (size kind : ℕ) (bytes : List ℕ) where
  step : (at j : ℕ) → at + size + size * j ≡ at + size * suc j
  step at j = omega (arith, mul-suc size j)

  pub kinds_each : (at n : ℕ) → kinds_from size kind bytes at n ≡ true → (j : ℕ) → j < n → get_or bytes (at + size * j) 0 ≡ kind
  unfolding kinds_from
  kinds_each at zero e j h = absurd (omega arith)
  kinds_each at (suc n) e zero h =
      let p : at + size * 0 ≡ at = omega arith in
      rw p (eqb-true (get_or bytes at 0) kind (both (eqb (get_or bytes at 0) kind) (kinds_from size kind bytes (at + size) n) e).0)
  kinds_each at (suc n) e (suc j) h =
      rw (← step at j) (kinds_each (at + size) n (both (eqb (get_or bytes at 0) kind) (kinds_from size kind bytes (at + size) n) e).1 j (omega arith))

  pub each_kinds : (at n : ℕ) → ((j : ℕ) → j < n → get_or bytes (at + size * j) 0 ≡ kind) → kinds_from size kind bytes at n ≡ true
  unfolding kinds_from
  each_kinds at zero h = refl
  each_kinds at (suc n) h =
      let p : at + size * 0 ≡ at = omega arith in
      rw (eq-eqb (get_or bytes at 0) kind (rw p at (h 0 (omega arith)))) (each_kinds (at + size) n (λ j k. rw (step at j) (h (suc j) (omega arith))))

-- The kinds' test holds exactly where every record that the bytes hold has its kind.
module _ (cells entries : List ℕ) (c e : ℕ) (p : length cells ≡ cell_size * c) (q : length entries ≡ entry_size * e) where
  pub kinds_tell : (kinds_test cells entries c e ≡ true) ↔ Kinds cells entries
  unfolding kinds_test
  kinds_tell = (sound, complete)
    where
      sound : kinds_test cells entries c e ≡ true → Kinds cells entries
      sound t =
          let k = both (kinds_from cell_size cell_kind cells 0 c) (kinds_from entry_size entry_kind entries 0 e) t in
          record {
            of_cells = λ n h. rw zero-add at (kinds_each cell_size cell_kind cells 0 c k.0 n (omega arith));
            of_entries = λ n h. rw zero-add at (kinds_each entry_size entry_kind entries 0 e k.1 n (omega arith));
          }

      complete : Kinds cells entries → kinds_test cells entries c e ≡ true
      complete k =
          rw (each_kinds cell_size cell_kind cells 0 c (λ n h. rw zero-add (k.of_cells n (omega arith))))
          (each_kinds entry_size entry_kind entries 0 e (λ n h. rw zero-add (k.of_entries n (omega arith))))

-- An output's test holds exactly where the output is exact.
module _ (entries : List ℕ) (p : Pattern) (output : ℕ) where
  abbrev same_level : ℕ → Bool
  same_level gap = eqb (highest_set (chain entries (length p.symbols) (length p.symbols) output) gap) (get_or p.levels gap 0)

  pub test_exact : exact_test entries p.levels (length p.symbols) output ≡ true → Exact entries p output
  unfolding exact_test
  test_exact e =
      let t = both (sound entries (length p.symbols) output) (all_from same_level 0 (suc (length p.symbols))) e in
      record {
        faultless = t.0;
        levels = λ gap h. eqb-true _ _ (all_each same_level 0 (suc (length p.symbols)) t.1 gap (omega arith) (omega arith));
      }

  pub exact_test_lem : Exact entries p output → exact_test entries p.levels (length p.symbols) output ≡ true
  unfolding exact_test
  exact_test_lem x = rw x.faultless (each_all same_level 0 (suc (length p.symbols)) (λ gap h l. eq-eqb _ _ (x.levels gap (omega arith))))

-- Laws about the table on bytes: one for each way through the code.
use Prim.Native.Nat.{ℕ, ◌+◌, ◌*◌, ◌-◌, ◌/◌, ◌%◌, ◌≤◌, ◌<◌}
use mathlib.Core.Bool.{and-false}
use mathlib.Core.List.{List, [], ◌∷◌, ◌++◌}
use mathlib.Core.Path.{◌≡◌, sym, ◌∙◌, ap}
use native.Mathlib.Omega.{arith}
use borrow.Author.Tests.{lt-leb, le-leb, eq-eqb, ne_eqb, lt-ltb, le-ltb}
use lib.Dec.{eqb}
use lib.ListN.{length, get_or, set, take, drop, length-drop, drop_of_length-le}
use lib.Seq.{take_all, take-nil, set_out}
use Rattle.base.specs.Limits.{cell_limit, entry_limit}
use Rattle.std.specs.Prelude.{Ok, Err, None, Some}
use Rattle.base.specs.declared.Ground.TheVariants.{TableForm}
use Rattle.table.specs.Table.{head_kind, edition, head_size, number_at, put_number, cell_count, entry_count, formed, judge_table, cells_from, entries_from, behind, look, entry_at, hit, has, Look}
use Rattle.table.specs.Records.{two_bytes, head_bytes}

-- the two bytes of a number as the library writes them
pub record Halves (told : List ℕ) (n : ℕ) : Type 0 where
  pub high : get_or told 0 0 ≡ n / 256
  pub low : get_or told 1 0 ≡ n % 256

pub halves : {told : List ℕ} (n : ℕ) → n < 65536 → told ≡ (n / 256 % 256) ∷ (n % 256) ∷ [] → Halves told n
halves n h e = record { high = rw e (omega arith); low = rw e }

module _ (t : List ℕ) (at n : ℕ) where
  pub put_past : length t ≤ at → t ≡ put_number at n t
  unfolding put_number
  put_past h = let k : length t ≤ at + 1 = omega arith in rw (set_out t at (n / 256) h, set_out t (at + 1) (n % 256) k)

  module _ {told : List ℕ} (e : Halves told n) where
    pub put_half : length (set t at (get_or told 0 0)) ≤ at + 1 → set t at (get_or told 0 0) ≡ put_number at n t
    unfolding put_number
    put_half h = sym (set_out (set t at (get_or told 0 0)) (at + 1) (n % 256) h) ∙ rw e.high

    pub put_both : set (set t at (get_or told 0 0)) (at + 1) (get_or told 1 0) ≡ put_number at n t
    unfolding put_number
    put_both = rw (e.high, e.low)

-- ground 9, in the order in which the code asks
pub short_table : (t : List ℕ) → length t < 6 → Err TableForm ≡ judge_table t
unfolding judge_table formed
short_table t h = rw (lt-leb 6 (length t) h)

module _ (t : List ℕ) (h : 6 ≤ length t) where
  pub wrong_kind : (get_or t 0 0 ≡ 1 → ⊥) → Err TableForm ≡ judge_table t
  unfolding judge_table formed
  wrong_kind a = rw (le-leb 6 (length t) h, ne_eqb (get_or t 0 0) 1 a)

  module _ (a : get_or t 0 0 ≡ 1) where
    pub wrong_edition : (get_or t 1 0 ≡ 1 → ⊥) → Err TableForm ≡ judge_table t
    unfolding judge_table formed
    wrong_edition b = rw (le-leb 6 (length t) h, eq-eqb (get_or t 0 0) 1 a, ne_eqb (get_or t 1 0) 1 b)

    module _ (b : get_or t 1 0 ≡ 1) {c : ℕ} (p : c ≡ number_at t 2) where
      pub no_cells : c < 1 → Err TableForm ≡ judge_table t
      unfolding judge_table formed cell_count
      no_cells l = rw (le-leb 6 (length t) h, eq-eqb (get_or t 0 0) 1 a, eq-eqb (get_or t 1 0) 1 b, ← p, lt-leb 1 c l)

      pub many_cells : 1 ≤ c → cell_limit < c → Err TableForm ≡ judge_table t
      unfolding judge_table formed cell_count
      many_cells l m = rw (le-leb 6 (length t) h, eq-eqb (get_or t 0 0) 1 a, eq-eqb (get_or t 1 0) 1 b, ← p, le-leb 1 c l, lt-leb c cell_limit m)

      module _ (l : 1 ≤ c) (m : c ≤ cell_limit) {e : ℕ} (q : e ≡ number_at t 4) where
        pub many_entries : entry_limit < e → Err TableForm ≡ judge_table t
        unfolding judge_table formed cell_count entry_count
        many_entries k = rw (le-leb 6 (length t) h, eq-eqb (get_or t 0 0) 1 a, eq-eqb (get_or t 1 0) 1 b, ← p, le-leb 1 c l, le-leb c cell_limit m, ← q, lt-leb e entry_limit k)

        pub wrong_length : e ≤ entry_limit → (length t ≡ 6 + 6 * c + 5 * e → ⊥) → Err TableForm ≡ judge_table t
        unfolding judge_table formed cell_count entry_count
        wrong_length k d =
            rw (
              le-leb 6 (length t) h,
              eq-eqb (get_or t 0 0) 1 a,
              eq-eqb (get_or t 1 0) 1 b,
              ← p,
              le-leb 1 c l,
              le-leb c cell_limit m,
              ← q,
              le-leb e entry_limit k,
              ne_eqb (length t) (6 + 6 * c + 5 * e) d,
            )

        pub fine_table : e ≤ entry_limit → length t ≡ 6 + 6 * c + 5 * e → (Ok tt) ≡ judge_table t
        unfolding judge_table formed cell_count entry_count
        fine_table k d =
            rw (
              le-leb 6 (length t) h,
              eq-eqb (get_or t 0 0) 1 a,
              eq-eqb (get_or t 1 0) 1 b,
              ← p,
              le-leb 1 c l,
              le-leb c cell_limit m,
              ← q,
              le-leb e entry_limit k,
              eq-eqb (length t) (6 + 6 * c + 5 * e) d,
            )

-- so many cells from a start on, and the entries behind them
module _ (t : List ℕ) (start count : ℕ) where
  pub cells_none : length t < start → [] ≡ cells_from start count t
  unfolding cells_from
  cells_none h = let k : length t ≤ start = omega arith in rw (drop_of_length-le t k) (sym (take-nil (6 * count)))

  pub cells_all : length t - start < 6 * count → take (length t - start) (drop start t) ≡ cells_from start count t
  unfolding cells_from
  cells_all h =
      let d : length (drop start t) ≤ length t - start = omega (arith, length-drop start t) in
      let f : length (drop start t) ≤ 6 * count = omega (arith, length-drop start t) in
      take_all (length t - start) (drop start t) d ∙ sym (take_all (6 * count) (drop start t) f)

  pub cells_part : take (start + 6 * count - start) (drop start t) ≡ cells_from start count t
  unfolding cells_from
  cells_part = let m : start + 6 * count - start ≡ 6 * count = omega arith in rw m

  pub entries_none : length t < start → [] ≡ entries_from start count t
  unfolding entries_from
  entries_none h = let k : length t ≤ start + 6 * count = omega arith in rw (drop_of_length-le t k)

  pub entries_past : start ≤ length t → length t - start < 6 * count → [] ≡ entries_from start count t
  unfolding entries_from
  entries_past l h = let k : length t ≤ start + 6 * count = omega arith in rw (drop_of_length-le t k)

  pub entries_part : take (length t - (start + 6 * count)) (drop (start + 6 * count) t) ≡ entries_from start count t
  unfolding entries_from
  entries_part = take_all (length t - (start + 6 * count)) (drop (start + 6 * count) t) (omega (arith, length-drop (start + 6 * count) t))

-- where they lie
module _ (t : List ℕ) (at : ℕ × ℕ) (start : ℕ) where
  pub cells_short : length t < start → at ≡ behind start t at
  unfolding behind
  cells_short h = rw (lt-ltb (length t) start h)

  pub cells_behind : start ≤ length t → (at.0, start + at.1) ≡ behind start t at
  unfolding behind
  cells_behind h = rw (le-ltb (length t) start h)

  module _ (count : ℕ) where
    pub entries_short : length t < start → at ≡ behind (start + 6 * count) t at
    unfolding behind
    entries_short h = rw (lt-ltb (length t) (start + 6 * count) (omega arith))

    pub entries_cut : start ≤ length t → length t - start < 6 * count → at ≡ behind (start + 6 * count) t at
    unfolding behind
    entries_cut l h = rw (lt-ltb (length t) (start + 6 * count) (omega arith))

    pub entries_behind : start ≤ length t → 6 * count ≤ length t - start → (at.0, (start + 6 * count) + at.1) ≡ behind (start + 6 * count) t at
    unfolding behind
    entries_behind l h = rw (le-ltb (length t) (start + 6 * count) (omega arith))

-- the head, byte by byte
pub head_put : (c e : ℕ) (room : List ℕ) {cells entries head : List ℕ} → Halves cells c → Halves entries e
    → head ≡ head_kind ∷ edition ∷ get_or cells 0 0 ∷ get_or cells 1 0 ∷ get_or entries 0 0 ∷ get_or entries 1 0 ∷ [] → head ++ drop head_size room ≡ head_bytes c e ++ drop head_size room
unfolding head_bytes two_bytes
head_put c e room f g h = rw (h, f.high, f.low, g.high, g.low)

-- equal cells have equal parts
parts : Look → ℕ × ℕ
parts None = (0, 0)
parts (Some cell) = (cell.link, cell.output)

pub links_once : {link output link' output' : ℕ} → hit link output ≡ hit link' output' → link ≡ link'
unfolding parts
links_once e = ap (λ (l : Look). (parts l).0) e

pub outputs_once : {link output link' output' : ℕ} → hit link output ≡ hit link' output' → output ≡ output'
unfolding parts
outputs_once e = ap (λ (l : Look). (parts l).1) e

-- one look
module _ (t : List ℕ) (n s : ℕ) where
  pub look_past : length t < 6 * n + 6 → None ≡ look t n s
  unfolding look
  look_past h = rw (lt-leb (6 * n + 6) (length t) h)

  module _ (h : 6 * n + 6 ≤ length t) where
    pub look_kind : (get_or t (6 * n) 0 ≡ 2 → ⊥) → None ≡ look t n s
    unfolding look
    look_kind k = rw (le-leb (6 * n + 6) (length t) h, ne_eqb (get_or t (6 * n) 0) 2 k)

    pub look_other : (get_or t (6 * n + 1) 0 ≡ s → ⊥) → None ≡ look t n s
    unfolding look
    look_other d = rw (le-leb (6 * n + 6) (length t) h, ne_eqb (get_or t (6 * n + 1) 0) s d, and-false (eqb (get_or t (6 * n) 0) 2))

    pub look_hit : get_or t (6 * n) 0 ≡ 2 → get_or t (6 * n + 1) 0 ≡ s → {l o : ℕ} → l ≡ number_at t (6 * n + 2) → o ≡ number_at t (6 * n + 4) → hit l o ≡ look t n s
    unfolding look
    look_hit k d p q = rw (le-leb (6 * n + 6) (length t) h, eq-eqb (get_or t (6 * n) 0) 2 k, eq-eqb (get_or t (6 * n + 1) 0) s d, ← p, ← q)

-- one entry
module _ (t : List ℕ) (k : ℕ) where
  pub entry_none : k < 1 → None ≡ entry_at t k
  unfolding entry_at
  entry_none h = rw (lt-leb 1 k h)

  module _ (h : 1 ≤ k) where
    pub entry_past : length t < 5 * k → None ≡ entry_at t k
    unfolding entry_at
    entry_past l = rw (le-leb 1 k h, lt-leb (5 * k) (length t) l)

    module _ (l : 5 * k ≤ length t) where
      pub entry_kind_lem : (get_or t (5 * k - 5) 0 ≡ 3 → ⊥) → None ≡ entry_at t k
      unfolding entry_at
      entry_kind_lem d = rw (le-leb 1 k h, le-leb (5 * k) (length t) l, ne_eqb (get_or t (5 * k - 5) 0) 3 d)

      pub entry_has : get_or t (5 * k - 5) 0 ≡ 3 → {n : ℕ} → n ≡ number_at t (5 * k - 2) → has (get_or t (5 * k - 4) 0) (get_or t (5 * k - 3) 0) n ≡ entry_at t k
      unfolding entry_at
      entry_has d p = rw (le-leb 1 k h, le-leb (5 * k) (length t) l, eq-eqb (get_or t (5 * k - 5) 0) 3 d, ← p)

-- The checker's test holds exactly where the table is right for the list.
use Prim.Native.Nat.{ℕ, suc, ◌+◌, ◌*◌, ◌≤◌, ◌<◌}
use mathlib.Core.Bool.{true}
use mathlib.Core.List.{List, [], ◌∷◌, ◌++◌, append_assoc}
use mathlib.Core.Logic.{◌↔◌}
use mathlib.Core.Path.{◌≡◌, refl}
use native.Mathlib.Omega.{arith}
use lib.ListN.{length, length-append}
use Rattle.base.specs.Limits.{pattern_limit}
use Rattle.base.proofs.Lists.{clash, never, both}
use Rattle.table.specs.Table.{cell_size, entry_size, Look, hit}
use Rattle.std.specs.Prelude.{Some, None}
use Rattle.liang.specs.Patterns.{Pattern}
use Rattle.trie.specs.Paths.{onward, along, Path}
use Rattle.patterns.specs.Strings.{all_symbols, Beginning, nth, Shaped, Sorted}
use Rattle.rightness.specs.Right.{Exact, Kinds, PathsRight, Right}
use Rattle.rightness.specs.Test.{is_hit, kinds_test, paths_test, right_test}
use Rattle.patterns.proofs.Strings.{begins_self, begins_alphabet, alphabet_rest, begins_length, alphabet_first, alphabet_snoc}
use Rattle.decision.proofs.Loops.{kinds_tell}
use Rattle.decision.proofs.Nodes.{along_append, out_of}
use Rattle.decision.proofs.Alike.{Alike}
use Rattle.decision.proofs.Checked.{Checked, test_checked, checked_test}

-- a string that is followed to its end
record Ends (found : Look) : Type 0 where
  link : ℕ
  output : ℕ
  same : found ≡ hit link output

ends : (found : Look) → is_hit found ≡ true → Ends found
ends None e = never e
ends (Some found) e = record { link = found.link; output = found.output; same = refl }

-- what ends further on has ended before
onward_hit : (go : ℕ → Look) (found : Look) → is_hit (onward go found) ≡ true → is_hit found ≡ true
unfolding onward
onward_hit go None e = e
onward_hit go (Some found) e = refl

module _ (patterns : List Pattern) (cells entries : List ℕ) (root : ℕ) (shaped : (i : ℕ) → i < length patterns → Shaped (nth patterns i)) where
  beginning_short : (u : List ℕ) → Beginning patterns u → length u ≤ pattern_limit
  beginning_short u b = omega (arith, begins_length u (nth patterns b.at).symbols b.stands, (shaped b.at b.within).short)

  beginning_alphabet : (u : List ℕ) → (0 < length u → Beginning patterns u) → all_symbols u ≡ true
  unfolding all_symbols
  beginning_alphabet [] had = refl
  beginning_alphabet (x ∷ u) had = let b = had (omega arith) in begins_alphabet (x ∷ u) (nth patterns b.at).symbols b.stands (shaped b.at b.within).alphabet

  module _ (k : Checked patterns cells entries root) where
    -- a string that ends in the table is a beginning, symbol by symbol from the front
    grow : (v : List ℕ) (s : ℕ) (u : List ℕ) → (0 < length v → Beginning patterns v) → length v + suc (length u) ≤ pattern_limit → all_symbols (s ∷ u) ≡ true
        → is_hit (along cells root (v ++ (s ∷ u))) ≡ true → Beginning patterns (v ++ (s ∷ u))
    grow v s [] had l a t =
        let r = alphabet_first s [] a in
        (k.alike v had (omega arith) s r.0 r.1).0 t
    grow v s (x ∷ u) had l a t =
        let r = alphabet_first s (x ∷ u) a in
        let n = length-append v (s ∷ []) in
        let hit = rw (← append_assoc v (s ∷ []) (x ∷ u)) at t in
        let init = onward_hit _ _ (rw (along_append cells root (v ++ (s ∷ [])) x u (omega arith)) at hit) in
        let b = (k.alike v had (omega arith) s r.0 r.1).0 init in
        rw (append_assoc v (s ∷ []) (x ∷ u)) at (grow (v ++ (s ∷ [])) x u (λ m. b) (omega arith) (alphabet_rest s (x ∷ u) a) hit)

    path_beginning : (u : List ℕ) → Path cells root u → Beginning patterns u
    unfolding along
    path_beginning [] p = let m = p.matches in clash cc
    path_beginning (s ∷ u) p = grow [] s u (λ m. absurd (omega arith)) (omega (arith, p.short)) p.alphabet (rw p.matches)

    beginning_path : (u : List ℕ) → Beginning patterns u → Path cells root u
    beginning_path u b =
        let n = ends (along cells root u) (k.hit u b) in
        record { short = beginning_short u b; alphabet = beginning_alphabet u (λ l. b); link = n.link; output = n.output; matches = n.same }

    checked_right : PathsRight patterns cells entries root
    checked_right =
        record {
          reached = beginning_path;
          only = path_beginning;
          exact = λ i h link output m. rw m at (k.exact i h);
          silent = λ u p none. rw p.matches at (k.silent u (path_beginning u p) none);
        }

  module _ (r : PathsRight patterns cells entries root) where
    -- a right table goes on as its list does
    right_alike : (u : List ℕ) → (0 < length u → Beginning patterns u) → length u < pattern_limit → Alike patterns cells root u
    right_alike u had l s h k = (only, λ b. rw (r.reached (u ++ (s ∷ [])) b).matches)
      where
        only : is_hit (along cells root (u ++ (s ∷ []))) ≡ true → Beginning patterns (u ++ (s ∷ []))
        only t =
            let n = ends (along cells root (u ++ (s ∷ []))) t in
            r.only (u ++ (s ∷ []))
            (record {
              short = omega (arith, length-append u (s ∷ []));
              alphabet = alphabet_snoc u s (beginning_alphabet u had) h k;
              link = n.link;
              output = n.output;
              matches = n.same;
            })

    right_checked : Checked patterns cells entries root
    right_checked = record { hit = λ u b. rw (r.reached u b).matches; exact = exact; silent = silent; alike = right_alike }
      where
        exact : (i : ℕ) → i < length patterns → Exact entries (nth patterns i) (out_of (along cells root (nth patterns i).symbols))
        exact i h =
            let p = r.reached (nth patterns i).symbols (record { some = (shaped i h).some; at = i; within = h; stands = begins_self (nth patterns i).symbols }) in
            rw p.matches (r.exact i h p.link p.output p.matches)

        silent : (u : List ℕ) → Beginning patterns u → ((i : ℕ) → i < length patterns → (nth patterns i).symbols ≡ u → ⊥) → out_of (along cells root u) ≡ 0
        silent u b none = let p = r.reached u b in rw p.matches (r.silent u p none)

module _ (patterns : List Pattern) (cells entries : List ℕ) (root : ℕ) (sorted : Sorted patterns) (shaped : (i : ℕ) → i < length patterns → Shaped (nth patterns i)) where
  -- The test of a list's paths holds exactly where they are right, whatever the kinds of the records: a look, and an entry of a chain,
  -- asks for its own record's kind.
  pub paths_tell : (paths_test patterns cells entries root ≡ true) ↔ PathsRight patterns cells entries root
  paths_tell = (
    λ t. checked_right patterns cells entries root shaped (test_checked patterns cells entries root t),
    λ r. checked_test patterns cells entries root sorted shaped (right_checked patterns cells entries root shaped r),
  )

  pub right_tells : (c e : ℕ) → length cells ≡ cell_size * c → length entries ≡ entry_size * e
      → (right_test patterns cells entries root c e ≡ true) ↔ Right patterns cells entries root
  unfolding right_test
  right_tells c e size_cells size_entries = (sound, complete)
    where
      kinds : (kinds_test cells entries c e ≡ true) ↔ Kinds cells entries
      kinds = kinds_tell cells entries c e size_cells size_entries

      sound : right_test patterns cells entries root c e ≡ true → Right patterns cells entries root
      sound t =
          let p = both (kinds_test cells entries c e) (paths_test patterns cells entries root) t in
          record { kinds = kinds.0 p.0; paths = paths_tell.0 p.1 }

      complete : Right patterns cells entries root → right_test patterns cells entries root c e ≡ true
      complete r = rw (kinds.1 r.kinds) (paths_tell.1 r.paths)

-- The packer's entries are those of the definition without a limit, until there are too many; and so are its outputs.
use Prim.Native.Nat.{ℕ, zero, suc, ◌+◌, ◌*◌, ◌-◌, ◌/◌, ◌%◌, ◌≤◌, ◌<◌}
use mathlib.Core.Bool.{Bool, true, false, cond}
use mathlib.Core.List.{List, [], ◌∷◌, ◌++◌}
use mathlib.Core.Path.{◌≡◌, refl, sym, ◌∙◌, ap, subst}
use native.Mathlib.Decide.{ℕ_discrete, dec_lt}
use native.Mathlib.Omega.{arith}
use borrow.Author.Tests.{lt-ltb, le-ltb}
use lib.Dec.{ltb, eqb}
use lib.ListN.{length, get_or, replicate, length-replicate, length-append, get_or-append}
use lib.Seq.{get_or-append_seam}
use Rattle.base.specs.Limits.{entry_limit}
use Rattle.base.specs.Tests.{same_list}
use Rattle.base.proofs.Lists.{same_true, same_self}
use Rattle.liang.specs.Patterns.{Pattern}
use Rattle.patterns.specs.Strings.{nth}
use Rattle.table.specs.Table.{entry_kind, entry_size, number_at, root_base, entry_room}
use Rattle.fit.specs.Entries.{holds, find_entry, put_entry, Entries, TooMany, Made, enter_at, enter, enter_levels, afresh, enter_pattern, Outputs, Over, Out, put_output, output_of, outputs_of, empty_entries}
use Rattle.fit_trie.proofs.Chains.{entry_length, entry_kept, entry_kind_lem, entry_distance, entry_level, entry_high, entry_low}
use Rattle.fit_trie.proofs.Outputs.{outputs_over, last_of, output_at}
use Rattle.layout.specs.Entries.{Entry, equal, first_equal, Entering, add_at, add_level, add_levels, add_pattern, add_patterns, no_entries, output_from}

abbrev pub no_entry : Entry
no_entry = record { distance = 0; level = 0; next = 0 }

-- an entry's five bytes, k entries before them
pub record Stored (bytes : List ℕ) (k : ℕ) (x : Entry) : Type 0 where
  pub kind : get_or bytes (entry_size * k) 0 ≡ entry_kind
  pub distance : get_or bytes (entry_size * k + 1) 0 ≡ x.distance
  pub level : get_or bytes (entry_size * k + 2) 0 ≡ x.level
  pub high : get_or bytes (entry_size * k + 3) 0 ≡ x.next / 256
  pub low : get_or bytes (entry_size * k + 4) 0 ≡ x.next % 256

stored_next : (bytes : List ℕ) (k : ℕ) (x : Entry) → Stored bytes k x → number_at bytes (entry_size * k + 3) ≡ x.next
unfolding number_at
stored_next bytes k x s =
    let e : entry_size * k + 3 + 1 ≡ entry_size * k + 4 = omega arith in
    let l = ap (λ (i : ℕ). get_or bytes i 0) e ∙ s.low in
    omega (arith, s.high, l)

-- the bytes hold the entries made
pub record Stores (so : Entering) (bytes : List ℕ) (count last : ℕ) : Type 0 where
  pub size : length bytes ≡ entry_room
  pub few : count ≤ entry_limit
  pub counted : count ≡ length so.made
  pub ended : last ≡ so.last
  pub each : (k : ℕ) → k < count → Stored bytes k (get_or so.made k no_entry)

abbrev StoresIn : Entering → Entries → Type 0
StoresIn so TooMany = entry_limit < length so.made
StoresIn so (Made bytes count last) = Stores so bytes count last

-- the searches find the same
same_holds : (bytes : List ℕ) (k d l n : ℕ) (x : Entry) → Stored bytes k x → holds bytes (entry_size * k) d l n ≡ equal x (record { distance = d; level = l; next = n })
unfolding holds equal
same_holds bytes k d l n x s = rw (s.distance, s.level, stored_next bytes k x s)

same_find : (bytes : List ℕ) (d l n : ℕ) (k : ℕ) (xs : List Entry) → ((j : ℕ) → j < length xs → Stored bytes (k + j) (get_or xs j no_entry))
    → find_entry bytes d l n (suc k) (length xs) ≡ first_equal (record { distance = d; level = l; next = n }) (suc k) xs
unfolding find_entry first_equal
same_find bytes d l n k [] f = refl
same_find bytes d l n k (x ∷ xs) f =
    let e : entry_size * (suc k - 1) ≡ entry_size * k = omega arith in
    let z : k + 0 ≡ k = omega arith in
    let s : Stored bytes k x = subst (λ (i : ℕ). Stored bytes i x) z (f 0 (omega arith)) in
    let next = same_find bytes d l n (suc k) xs (λ j h. let q : k + suc j ≡ suc k + j = omega arith in subst (λ (i : ℕ). Stored bytes i (get_or xs j no_entry)) q (f (suc j) (omega arith))) in
    rw (e, same_holds bytes k d l n x s, next)

-- the two ways on, as `add_at` has them
abbrev picked : Bool → Entering → Entering → Entering
picked z a b = cond z a b

-- an entry more never makes fewer
grown_at : (x : Entry) (made : List Entry) (found : ℕ) → length made ≤ length (add_at x made found).made
unfolding add_at
grown_at x made found = go (eqb found 0)
  where
    go : (z : Bool) → length made ≤ length (picked z (record { made = made ++ (x ∷ []); last = suc (length made) }) (record { made = made; last = found })).made
    go true = omega (arith, length-append made (x ∷ []))
    go false = omega arith

-- one entry
module _ (d l : ℕ) (so : Entering) (bytes : List ℕ) (count last : ℕ) (s : Stores so bytes count last) where
  abbrev entry : Entry
  entry = record { distance = d; level = l; next = so.last }

  abbrev after : List ℕ
  after = put_entry bytes (entry_size * count) d l last

  stored_more : count < entry_limit → Stores (record { made = so.made ++ (entry ∷ []); last = suc (length so.made) }) after (suc count) (suc count)
  stored_more h =
      record {
        size = entry_length bytes (entry_size * count) d l last room ∙ s.size;
        few = h;
        counted = omega (arith, s.counted, length-append so.made (entry ∷ []));
        ended = ap suc s.counted;
        each = λ k i. at k i (ℕ_discrete k count);
      }
    where
      room : entry_size * count + entry_size ≤ length bytes
      room = omega (arith, s.size)

      new : Stored after count entry
      new =
          record {
            kind = entry_kind_lem bytes (entry_size * count) d l last room;
            distance = entry_distance bytes (entry_size * count) d l last room;
            level = entry_level bytes (entry_size * count) d l last room;
            high = entry_high bytes (entry_size * count) d l last room ∙ ap (λ (n : ℕ). n / 256) s.ended;
            low = entry_low bytes (entry_size * count) d l last room ∙ ap (λ (n : ℕ). n % 256) s.ended;
          }

      at : (k : ℕ) → k < suc count → Dec (k ≡ count) → Stored after k (get_or (so.made ++ (entry ∷ [])) k no_entry)
      at k i (yes e) =
          let q : get_or (so.made ++ (entry ∷ [])) k no_entry ≡ entry = ap (λ (j : ℕ). get_or (so.made ++ (entry ∷ [])) j no_entry) (e ∙ s.counted) ∙ get_or-append_seam so.made entry [] no_entry in
          subst (λ (x : Entry). Stored after k x) (sym q) (subst (λ (j : ℕ). Stored after j entry) (sym e) new)
      at k i (no e) =
          let h : k < count = omega arith in
          let o = s.each k h in
          let keep : (j : ℕ) → j < entry_size * count → get_or after j 0 ≡ get_or bytes j 0 = entry_kept bytes (entry_size * count) d l last room in
          subst (λ (x : Entry). Stored after k x) (sym (get_or-append so.made (entry ∷ []) no_entry k (omega (arith, s.counted))))
          (record {
            kind = keep _ (omega arith) ∙ o.kind;
            distance = keep _ (omega arith) ∙ o.distance;
            level = keep _ (omega arith) ∙ o.level;
            high = keep _ (omega arith) ∙ o.high;
            low = keep _ (omega arith) ∙ o.low;
          })

  same_number : find_entry bytes d l last 1 count ≡ first_equal entry 1 so.made
  same_number =
      ap (λ (n : ℕ). find_entry bytes d l n 1 count) s.ended
      ∙ ap (find_entry bytes d l so.last 1) s.counted
      ∙ same_find bytes d l so.last 0 so.made (λ j h. let q : j ≡ 0 + j = omega arith in subst (λ (i : ℕ). Stored bytes i (get_or so.made j no_entry)) q (s.each j (omega (arith, s.counted))))

  level_added : StoresIn (add_level d l so) (enter d l (Made bytes count last))
  unfolding add_level enter add_at enter_at
  level_added = rw same_number (go (first_equal entry 1 so.made) (eqb (first_equal entry 1 so.made) 0))
    where
      go : (found : ℕ) (z : Bool)
          → StoresIn (picked z (record { made = so.made ++ (entry ∷ []); last = suc (length so.made) }) (record { made = so.made; last = found }))
          (cond z (cond (ltb count entry_limit) (Made after (suc count) (suc count)) TooMany) (Made bytes count found))
      go found true = of (dec_lt count entry_limit)
        where
          of : Dec (count < entry_limit) → StoresIn (record { made = so.made ++ (entry ∷ []); last = suc (length so.made) }) (cond (ltb count entry_limit) (Made after (suc count) (suc count)) TooMany)
          of (yes h) = rw (lt-ltb count entry_limit h) (stored_more h)
          of (no h) = rw (le-ltb count entry_limit (omega arith)) (omega (arith, s.counted, length-append so.made (entry ∷ [])))
      go found false = record { size = s.size; few = s.few; counted = s.counted; ended = refl; each = s.each }

add_level_lem : (d l : ℕ) (so : Entering) (made : Entries) → StoresIn so made → StoresIn (add_level d l so) (enter d l made)
add_level_lem d l so TooMany s =
    unfold add_level enter in omega (arith, s, grown_at (record { distance = d; level = l; next = so.last }) so.made (first_equal (record { distance = d; level = l; next = so.last }) 1 so.made))
add_level_lem d l so (Made bytes count last) s = level_added d l so bytes count last s

add_levels_lem : (levels : List ℕ) (m n d : ℕ) (so : Entering) (made : Entries) → StoresIn so made → StoresIn (add_levels levels m d n so) (enter_levels levels m d n made)
unfolding add_levels enter_levels
add_levels_lem levels m zero d so made s = s
add_levels_lem levels m (suc n) d so made s =
    add_levels_lem levels m n (suc d) (cond (eqb (get_or levels (m - d) 0) 0) so (add_level d (get_or levels (m - d) 0) so)) (cond (eqb (get_or levels (m - d) 0) 0) made (enter d (get_or levels (m - d) 0) made))
    (go (eqb (get_or levels (m - d) 0) 0))
  where
    go : (z : Bool) → StoresIn (cond z so (add_level d (get_or levels (m - d) 0) so)) (cond z made (enter d (get_or levels (m - d) 0) made))
    go true = s
    go false = add_level_lem d (get_or levels (m - d) 0) so made s

-- before a pattern's first entry
abbrev pub anew : Entering → Entering
anew so = record { made = so.made; last = 0 }

add_pattern_lem : (p : Pattern) (so : Entering) (made : Entries) → StoresIn (anew so) (afresh made) → StoresIn (add_pattern p so) (enter_pattern p made)
unfolding add_pattern enter_pattern
add_pattern_lem p so made s = add_levels_lem p.levels (length p.symbols) (suc (length p.symbols)) 0 (anew so) (afresh made) s

-- too many stay too many
many_levels : (levels : List ℕ) (m n d : ℕ) → enter_levels levels m d n TooMany ≡ TooMany
unfolding enter_levels enter
many_levels levels m zero d = refl
many_levels levels m (suc n) d = ap (enter_levels levels m (suc d) n) (go (eqb (get_or levels (m - d) 0) 0)) ∙ many_levels levels m n (suc d)
  where
    go : (z : Bool) → cond z TooMany TooMany ≡ TooMany
    go true = refl
    go false = refl

many_pattern : (p : Pattern) → enter_pattern p TooMany ≡ TooMany
unfolding enter_pattern
many_pattern p = many_levels p.levels (length p.symbols) (suc (length p.symbols)) 0

-- the outputs of all patterns
abbrev pub StoresOut : Entering → Outputs → Type 0
StoresOut so Over = entry_limit < length so.made
StoresOut so (Out cells bytes count) = Stores (anew so) bytes count 0

put_output_lem : (root : ℕ) (p : Pattern) (so : Entering) (cs : List ℕ) (made : Entries) → StoresIn so made → StoresOut so (put_output root p cs made)
unfolding put_output
put_output_lem root p so cs TooMany s = s
put_output_lem root p so cs (Made bytes count last) s = record { size = s.size; few = s.few; counted = s.counted; ended = refl; each = s.each }

add_output : (root : ℕ) (p : Pattern) (so : Entering) (outs : Outputs) → StoresOut so outs → StoresOut (add_pattern p so) (output_of root p outs)
unfolding output_of
add_output root p so Over s = subst (λ (y : Entries). StoresIn (add_pattern p so) y) (many_pattern p) (add_pattern_lem p so TooMany s)
add_output root p so (Out cs bytes count) s = put_output_lem root p (add_pattern p so) cs (enter_pattern p (Made bytes count 0)) (add_pattern_lem p so (Made bytes count 0) s)

add_outputs : (root : ℕ) (ps : List Pattern) (so : Entering) (outs : Outputs) → StoresOut so outs → StoresOut (add_patterns ps so) (outputs_of root ps outs)
unfolding add_patterns outputs_of
add_outputs root [] so outs s = s
add_outputs root (p ∷ ps) so outs s = add_outputs root ps (add_pattern p so) (output_of root p outs) (add_output root p so outs s)

none_stored : (n : ℕ) → n ≡ entry_room → Stores no_entries (replicate n 0) 0 0
none_stored n e = record { size = length-replicate {A = ℕ} n 0 ∙ e; few = omega arith; counted = refl; ended = refl; each = λ k h. absurd (omega arith) }

-- The entries of a whole list, whatever the cells hold: in the bytes, or there are more than 2,048.
pub all_stored : (patterns : List Pattern) (cs : List ℕ) → StoresOut (add_patterns patterns no_entries) (outputs_of root_base patterns (Out cs empty_entries 0))
all_stored patterns cs = add_outputs root_base patterns no_entries (Out cs empty_entries 0) (none_stored entry_room refl)

-- a pattern's output, where all outputs have room
output_same : (root : ℕ) (ps : List Pattern) (so : Entering) (cs bytes : List ℕ) (count : ℕ) → Stores (anew so) bytes count 0 → (outputs_of root ps (Out cs bytes count) ≡ Over → ⊥) → (i : ℕ) → i < length ps
    → ((j : ℕ) → j < i → (nth ps j).symbols ≡ (nth ps i).symbols → ⊥) → output_at ps i (Made bytes count 0) ≡ output_from ps so (nth ps i).symbols
unfolding output_at output_from outputs_of output_of put_output
output_same root [] so cs bytes count s room i h differ = absurd (omega arith)
output_same root (p ∷ ps) so cs bytes count s room zero h differ = rw (same_self p.symbols) (go (enter_pattern p (Made bytes count 0)) (add_pattern_lem p so (Made bytes count 0) s) room)
  where
    go : (made : Entries) → StoresIn (add_pattern p so) made → (outputs_of root ps (put_output root p cs made) ≡ Over → ⊥) → last_of made ≡ (add_pattern p so).last
    go TooMany t r = absurd (r (outputs_over root ps))
    go (Made b c l) t r = t.ended
output_same root (p ∷ ps) so cs bytes count s room (suc i) h differ =
    rw (other (same_list p.symbols (nth ps i).symbols) refl)
    (go (enter_pattern p (Made bytes count 0)) (add_pattern_lem p so (Made bytes count 0) s) room
    (λ c b n t r. output_same root ps (add_pattern p so) c b n t r i (omega arith) (λ j l. differ (suc j) (omega arith))))
  where
    other : (z : Bool) → same_list p.symbols (nth ps i).symbols ≡ z → z ≡ false
    other true e = absurd (differ 0 (omega arith) (same_true p.symbols (nth ps i).symbols e))
    other false e = refl

    go : (made : Entries) → StoresIn (add_pattern p so) made → (outputs_of root ps (put_output root p cs made) ≡ Over → ⊥)
        → ((c b : List ℕ) (n : ℕ) → Stores (anew (add_pattern p so)) b n 0 → (outputs_of root ps (Out c b n) ≡ Over → ⊥) → output_at ps i (Made b n 0) ≡ output_from ps (add_pattern p so) (nth ps i).symbols)
        → output_at ps i (afresh made) ≡ output_from ps (add_pattern p so) (nth ps i).symbols
    go TooMany t r next = absurd (r (outputs_over root ps))
    go (Made b c l) t r next = next _ b c (record { size = t.size; few = t.few; counted = t.counted; ended = refl; each = t.each }) r

-- a string that is no pattern has none
pub output_none : (ps : List Pattern) (so : Entering) (u : List ℕ) → ((i : ℕ) → i < length ps → (nth ps i).symbols ≡ u → ⊥) → output_from ps so u ≡ 0
unfolding output_from
output_none [] so u none = refl
output_none (p ∷ ps) so u none = go (same_list p.symbols u) refl (output_none ps (add_pattern p so) u (λ i h. none (suc i) (omega arith)))
  where
    go : (z : Bool) → same_list p.symbols u ≡ z → output_from ps (add_pattern p so) u ≡ 0 → cond z (add_pattern p so).last (output_from ps (add_pattern p so) u) ≡ 0
    go true e next = absurd (none 0 (omega arith) (same_true p.symbols u e))
    go false e next = next

-- The output that the packer issues for a pattern of the list.
pub pattern_output : (patterns : List Pattern) (cs : List ℕ) → (outputs_of root_base patterns (Out cs empty_entries 0) ≡ Over → ⊥) → (i : ℕ) → i < length patterns
    → ((j : ℕ) → j < i → (nth patterns j).symbols ≡ (nth patterns i).symbols → ⊥)
    → output_at patterns i (Made empty_entries 0 0) ≡ output_from patterns no_entries (nth patterns i).symbols
pattern_output patterns cs room i h differ = output_same root_base patterns no_entries cs empty_entries 0 (none_stored entry_room refl) room i h differ

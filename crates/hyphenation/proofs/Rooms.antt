-- What stands in a room at each byte: after settings are raised, after a line is marked, and in a sheet.
use Prim.Native.Nat.{ℕ, zero, suc, ◌+◌, ◌-◌, ◌≤◌, ◌<◌}
use mathlib.Core.Bool.{Bool, true, false, cond, ◌&&◌, and-false}
use mathlib.Core.List.{List, [], ◌∷◌, append-nil}
use mathlib.Core.Path.{◌≡◌, refl, sym, ◌∙◌, ap}
use native.Mathlib.Decide.{dec_lt}
use native.Mathlib.Omega.{arith}
use borrow.Author.Tests.{lt-ltb, le-ltb, ltb-true}
use lib.Dec.{leb, ltb, eqb}
use lib.ListN.{length, get_or, take, drop, set, replicate, length-set, length-replicate, get_or-replicate}
use lib.Seq.{paste, get_or-set_same, get_or-set_other, take_all}
use Rattle.base.specs.Limits.{room_size, word_limit}
use Rattle.rooms.specs.Rooms.{sheet_from, sheet, written, bit}
use Rattle.rooms.proofs.Marks.{put_start, put_turn, put_end}
use Rattle.rooms.proofs.Sheets.{sheet_same, take_sheet, written_length, written_low, written_high, written_is}
use Rattle.rooms.proofs.Laws.{copied_sheet}
use Rattle.words.specs.Symbols.{hyphen}
use Rattle.words.specs.Words.{row_of, inner}
use Rattle.lookup.specs.Find.{find_either}
use Rattle.lookup.specs.declared.Located.{Located}
use Rattle.lookup.specs.declared.Located.TheVariants.{Customer, House, Nowhere}
use Rattle.hyphenation.specs.Breaks.{break_by, is_break, mark_hyphens, break_sheet, unless_listed, break_looks}
use Rattle.liang.specs.Breaks.{hyphen_at, in_margins, line_break, level_break}
use Rattle.walk.specs.Chain.{Setting}
use Rattle.walk.specs.Walk.{settings}
use Rattle.walk.specs.Raise.{raise_all}
use Rattle.walk.specs.Post.{Walked}
use Rattle.walk.proofs.Laws.{raises_length}
use Rattle.walk.proofs.Raised.{raised_at}
use Rattle.hyphenation.specs.Levels.{level_at, level_sheet, word_looks}
use Rattle.hyphenation.specs.Post.{line_sheet, Inside}
use Rattle.hyphenation.proofs.Laws.{break_left, break_right, break_outer}

-- a sheet put into the break room, which has just its bytes, and a count of looks returned.
pub record Done (bytes : List ℕ) (looks : ℕ) (count : ℕ) (after : List ℕ) : Type 0 where
  pub counted : count ≡ looks
  pub memory : after ≡ bytes

-- a sheet written into the first bytes of a room of any size, and a count of looks returned.
pub record DoneIn (bytes : List ℕ) (looks : ℕ) (room : List ℕ) (count : ℕ) (after : List ℕ) : Type 0 where
  pub counted : count ≡ looks
  pub memory : after ≡ written room_size bytes room

-- the breaks by the levels alone
unfoldable pub odd_sheet : ℕ → ℕ → List ℕ → List ℕ → ℕ → List ℕ → List ℕ
odd_sheet left right cells entries root word = sheet room_size (λ i. bit (level_break left right (length word) (level_at cells entries root word) i))

-- bytes that are all of a break room, each by its number
sheet_is : (f : ℕ → ℕ) (a : List ℕ) → length a ≡ room_size → ((i : ℕ) → i < room_size → get_or a i 0 ≡ f i) → a ≡ sheet room_size f
sheet_is f a h at = sym (take_all room_size a (omega (arith, h))) ∙ take_sheet room_size a (omega (arith, h)) ∙ sheet_same room_size _ f at

-- levels raised in an array of zeros
module _ (cells entries : List ℕ) (root : ℕ) (word : List ℕ) {count : ℕ} {levels : List ℕ}
    (w : Walked cells entries root (length word) (row_of word) (replicate room_size 0) count levels) where
  raised_byte : (i : ℕ) → i < room_size → get_or levels i 0 ≡ level_at cells entries root word i
  unfolding level_at
  raised_byte i k =
      ap (λ (l : List ℕ). get_or l i 0) w.raised
      ∙ raised_at (length word) (settings cells entries root 0 (row_of word)) (replicate room_size 0) i (omega (arith, k, length-replicate {A = ℕ} room_size 0))
      ∙ omega (arith, get_or-replicate {A = ℕ} room_size i 0 0 k)

  pub raised_inside : Inside (length word) levels
  raised_inside i k e = raised_byte i k ∙ unfold level_at in rw e

  -- they are the levels' sheet, or become breaks
  pub levels_done : Done (level_sheet cells entries root word) (word_looks cells root word) count levels
  unfolding level_sheet word_looks
  levels_done =
      record {
        counted = w.counted;
        memory = sheet_is (level_at cells entries root word) levels (ap length w.raised ∙ raises_length _ _ _ ∙ length-replicate {A = ℕ} room_size 0) raised_byte;
      }

  pub breaks_done : (left right : ℕ) {after : List ℕ} → after ≡ sheet room_size (λ i. bit (level_break left right (length word) (λ k. get_or levels k 0) i))
      → Done (odd_sheet left right cells entries root word) (word_looks cells root word) count after
  unfolding odd_sheet word_looks
  breaks_done left right e = record { counted = w.counted; memory = e ∙ sheet_same room_size _ _ same }
    where
      same : (i : ℕ) → i < room_size → bit (level_break left right (length word) (λ k. get_or levels k 0) i) ≡ bit (level_break left right (length word) (level_at cells entries root word) i)
      same i k = unfold level_break in rw (raised_byte i k)

-- the levels raised in a room of any size
module _ (cells entries : List ℕ) (root : ℕ) (word room : List ℕ) (short : length word ≤ word_limit) (large : room_size ≤ length room) where
  pub levels_room_lem : raise_all (length word) (settings cells entries root 0 (row_of word)) (written room_size (sheet room_size (λ i. 0)) room) ≡ written room_size (level_sheet cells entries root word) room
  unfolding level_sheet
  levels_room_lem =
      written_is room_size (level_at cells entries root word) room (raise_all (length word) sets clean) large
      (raises_length (length word) sets clean ∙ written_length room_size (λ i. 0) room large) low high
    where
      sets : List Setting
      sets = settings cells entries root 0 (row_of word)

      clean : List ℕ
      clean = written room_size (sheet room_size (λ i. 0)) room

      fits : (i : ℕ) → i < length room → i < length clean
      fits i k = omega (arith, k, written_length room_size (λ i. 0) room large)

      low : (i : ℕ) → i < room_size → get_or (raise_all (length word) sets clean) i 0 ≡ level_at cells entries root word i
      low i k = unfold level_at in (raised_at (length word) sets clean i (fits i (omega arith)) ∙ omega (arith, written_low room_size (λ i. 0) room i k))

      outside : (i : ℕ) → room_size ≤ i → inner (length word) i ≡ false
      outside i k = unfold inner in rw (le-ltb i (length word) (omega arith)) (none (leb 1 i))
        where
          none : (z : Bool) → (z && false) ≡ false
          none true = refl
          none false = refl

      high : (i : ℕ) → room_size ≤ i → i < length room → get_or (raise_all (length word) sets clean) i 0 ≡ get_or room i 0
      high i k l = raised_at (length word) sets clean i (fits i l) ∙ rw (outside i k) (omega (arith, written_high room_size (λ i. 0) room i k))

-- the levels raised in an array of zeros, and then put into a room of any size as they are, or as breaks
module _ (cells entries : List ℕ) (root : ℕ) (word : List ℕ) (short : length word ≤ word_limit) {count : ℕ} {levels : List ℕ}
    (w : Walked cells entries root (length word) (row_of word) (replicate room_size 0) count levels) where
  pub levels_size : length levels ≡ room_size
  levels_size = ap length w.raised ∙ raises_length _ _ _ ∙ length-replicate {A = ℕ} room_size 0

  pub levels_put : (room : List ℕ) {after : List ℕ} → after ≡ paste room 0 levels room_size → DoneIn (level_sheet cells entries root word) (word_looks cells root word) room count after
  unfolding level_sheet word_looks
  levels_put room e =
      record {
        counted = w.counted;
        memory = e ∙ copied_sheet room_size levels room (omega (arith, levels_size)) ∙ ap (λ (l : List ℕ). written room_size l room) (sheet_same room_size _ _ (raised_byte cells entries root word w));
      }

  pub breaks_put : (left right : ℕ) (room : List ℕ) {after : List ℕ} → after ≡ written room_size (sheet room_size (λ i. bit (level_break left right (length word) (λ k. get_or levels k 0) i))) room
      → DoneIn (odd_sheet left right cells entries root word) (word_looks cells root word) room count after
  breaks_put left right room e =
      let d = breaks_done cells entries root word w left right refl in
      record { counted = d.counted; memory = e ∙ ap (λ (l : List ℕ). written room_size l room) d.memory }

-- a sheet written into a room of just its bytes is all of it
whole : (f : ℕ → ℕ) → written room_size (sheet room_size f) (replicate room_size 0) ≡ sheet room_size f
unfolding written
whole f = append-nil (sheet room_size f)

cleared : replicate room_size 0 ≡ written room_size (sheet room_size (λ j. 0)) (replicate room_size 0)
unfolding written sheet sheet_from
cleared = refl

-- breaks put in from the left margin up to the last gap that the right margin leaves
module _ (left right n : ℕ) (levels : List ℕ) where
  abbrev broken : ℕ → Bool
  broken = level_break left right n (λ k. get_or levels k 0)

  -- the breaks below a gap
  abbrev pub Broken : ℕ → List ℕ → Type 0
  Broken i room = room ≡ written room_size (sheet room_size (λ j. bit (ltb j i && level_break left right n (λ k. get_or levels k 0) j))) (replicate room_size 0)

  -- none stands left of the left margin
  pub breaks_start : Broken left (replicate room_size 0)
  breaks_start = put_start room_size broken left (replicate room_size 0) (replicate room_size 0) (λ j h. break_left left right n (λ k. get_or levels k 0) j h) cleared

  pub breaks_turn : (i : ℕ) {room : List ℕ} {x : ℕ} → Broken i room → i < room_size → x ≡ bit (level_break left right n (λ k. get_or levels k 0) i) → Broken (i + 1) (set room i x)
  breaks_turn i e h q = put_turn room_size broken i (replicate room_size 0) e (omega (arith, length-replicate {A = ℕ} room_size 0)) h q

  -- none stands right of the right margin
  none : (j : ℕ) → n < j + right → Dec (j < n) → broken j ≡ false
  none j h (yes k) = break_right left right n (λ k. get_or levels k 0) j (omega arith)
  none j h (no k) = break_outer left right n (λ k. get_or levels k 0) j (omega arith)

  pub breaks_end : (i : ℕ) {room : List ℕ} → Broken i room → n < i + right → room ≡ sheet room_size (λ j. bit (level_break left right n (λ k. get_or levels k 0) j))
  breaks_end i e h = put_end room_size broken i (replicate room_size 0) (λ j l. none j (omega arith) (dec_lt j n)) e ∙ whole _

-- a line marked, byte by byte; `next` is the recursive call
module _ (counts : ℕ → Bool) where
  pub mark_length : (gap : ℕ) (line room : List ℕ) → length (mark_hyphens counts gap line room) ≡ length room
  unfolding mark_hyphens
  mark_length gap [] room = refl
  mark_length gap (b ∷ t) room = go (eqb b hyphen) (ltb gap room_size && counts gap) (λ g r. mark_length g t r)
    where
      go : (z y : Bool) → ((g : ℕ) (r : List ℕ) → length (mark_hyphens counts g t r) ≡ length r)
          → length (cond z (mark_hyphens counts gap t (cond y (set room gap 1) room)) (mark_hyphens counts (gap + 1) t room)) ≡ length room
      go true true next = next gap (set room gap 1) ∙ length-set room gap 1
      go true false next = next gap room
      go false y next = next (gap + 1) room

  mark_kept : (gap : ℕ) (line room : List ℕ) (i : ℕ) → (gap ≤ i → room_size ≤ i) → get_or (mark_hyphens counts gap line room) i 0 ≡ get_or room i 0
  unfolding mark_hyphens
  mark_kept gap [] room i h = refl
  mark_kept gap (b ∷ t) room i h = go (eqb b hyphen) (ltb gap room_size) (counts gap) refl (λ g r. mark_kept g t r i)
    where
      go : (z y x : Bool) → ltb gap room_size ≡ y → ((g : ℕ) (r : List ℕ) → (g ≤ i → room_size ≤ i) → get_or (mark_hyphens counts g t r) i 0 ≡ get_or r i 0)
          → get_or (cond z (mark_hyphens counts gap t (cond (y && x) (set room gap 1) room)) (mark_hyphens counts (gap + 1) t room)) i 0 ≡ get_or room i 0
      go true true true p next =
          next gap (set room gap 1) h
          ∙ get_or-set_other room gap i 1 0 (λ q. omega (arith, q, h (omega (arith, q)), ltb-true gap room_size p))
      go true true false p next = next gap room h
      go true false x p next = next gap room h
      go false y x p next = next (gap + 1) room (λ k. h (omega (arith, k)))

  mark_here : (gap : ℕ) (line room : List ℕ) (j : ℕ) → gap + j < room_size → gap + j < length room
      → get_or (mark_hyphens counts gap line room) (gap + j) 0 ≡ cond (counts (gap + j) && hyphen_at line j) 1 (get_or room (gap + j) 0)
  unfolding mark_hyphens hyphen_at
  mark_here gap [] room j h l = rw (and-false (counts (gap + j)))
  mark_here gap (b ∷ t) room zero h l = go (eqb b hyphen) (counts gap) refl (λ r k. mark_here gap t r zero h k)
    where
      below : gap < room_size
      below = omega arith

      at : gap + zero ≡ gap
      at = omega arith

      one : (z : Bool) → ◌≡◌ {A = ℕ} (cond z 1 1) 1
      one true = refl
      one false = refl

      go : (z y : Bool) → counts gap ≡ y → ((r : List ℕ) → gap + zero < length r → get_or (mark_hyphens counts gap t r) (gap + zero) 0 ≡ cond (counts (gap + zero) && hyphen_at t zero) 1 (get_or r (gap + zero) 0))
          → get_or (cond z (mark_hyphens counts gap t (cond (ltb gap room_size && y) (set room gap 1) room)) (mark_hyphens counts (gap + 1) t room)) (gap + zero) 0 ≡ cond (counts (gap + zero) && z) 1 (get_or room (gap + zero) 0)
      go true true p next =
          rw (lt-ltb gap room_size below) (next (set room gap 1) (omega (arith, l, length-set room gap 1)) ∙ rw (at, p, get_or-set_same room gap 1 0 (omega (arith, l))) (one (hyphen_at t zero)))
      go true false p next = rw (lt-ltb gap room_size below) (next room l ∙ rw (at, p))
      go false y p next = mark_kept (gap + 1) t room (gap + zero) (λ k. omega (arith, k)) ∙ rw (and-false (counts (gap + zero)))
  mark_here gap (b ∷ t) room (suc j) h l = go (eqb b hyphen) (ltb gap room_size && counts gap) (λ r k. mark_here gap t r (suc j) h k) (λ k m. mark_here (gap + 1) t room j k m)
    where
      on : gap + 1 + j ≡ gap + suc j
      on = omega arith

      go : (z y : Bool) → ((r : List ℕ) → gap + suc j < length r → get_or (mark_hyphens counts gap t r) (gap + suc j) 0 ≡ cond (counts (gap + suc j) && hyphen_at t (suc j)) 1 (get_or r (gap + suc j) 0))
          → (gap + 1 + j < room_size → gap + 1 + j < length room → get_or (mark_hyphens counts (gap + 1) t room) (gap + 1 + j) 0 ≡ cond (counts (gap + 1 + j) && hyphen_at t j) 1 (get_or room (gap + 1 + j) 0))
          → get_or (cond z (mark_hyphens counts gap t (cond y (set room gap 1) room)) (mark_hyphens counts (gap + 1) t room)) (gap + suc j) 0
          ≡ cond (counts (gap + suc j) && cond z (hyphen_at t (suc j)) (hyphen_at t j)) 1 (get_or room (gap + suc j) 0)
      go true true next step = next (set room gap 1) (omega (arith, l, length-set room gap 1)) ∙ rw (get_or-set_other room gap (gap + suc j) 1 0 (λ q. omega (arith, q)))
      go true false next step = next room l
      go false y next step = rw on at (step (omega (arith, h)) (omega (arith, l)))

-- the break room of an exception line
pub line_room : (left right n : ℕ) (line : List ℕ) → mark_hyphens (in_margins left right n) 0 line (replicate room_size 0) ≡ line_sheet left right n line
unfolding line_sheet
line_room left right n line =
    sheet_is (λ i. bit (line_break left right n line i)) (mark_hyphens counts 0 line (replicate room_size 0)) (mark_length counts 0 line (replicate room_size 0) ∙ length-replicate {A = ℕ} room_size 0) marked
  where
    counts : ℕ → Bool
    counts = in_margins left right n

    as_bit : (z : Bool) → cond z 1 0 ≡ bit z
    as_bit true = refl
    as_bit false = refl

    marked : (i : ℕ) → i < room_size → get_or (mark_hyphens counts 0 line (replicate room_size 0)) i 0 ≡ bit (line_break left right n line i)
    marked i k =
        let z : 0 + i ≡ i = omega arith in
        rw z at (mark_here counts 0 line (replicate room_size 0) i (omega arith) (omega (arith, length-replicate {A = ℕ} room_size 0)))
        ∙ rw (get_or-replicate {A = ℕ} room_size i 0 0 k) (unfold line_break in as_bit (in_margins left right n i && hyphen_at line i))

-- the breaks, by where the word's line stands
module _ (left right root : ℕ) (word customer house cells entries : List ℕ) {at : Located} (p : at ≡ find_either word customer house) where
  breaks_by : {l : Located} → at ≡ l
      → break_sheet left right customer house cells entries root word
      ≡ sheet room_size (λ i. bit (break_by l customer house (line_break left right (length word)) (level_break left right (length word) (level_at cells entries root word)) i))
  unfolding break_sheet is_break
  breaks_by q =
      ap (λ (l : Located). sheet room_size (λ i. bit (break_by l customer house (line_break left right (length word)) (level_break left right (length word) (level_at cells entries root word)) i))) (sym p ∙ q)

  looks_by : {l : Located} → at ≡ l → break_looks customer house cells root word ≡ unless_listed l (word_looks cells root word)
  unfolding break_looks
  looks_by q = ap (λ (l : Located). unless_listed l (word_looks cells root word)) (sym p ∙ q)

  pub by_customer : {start end : ℕ} {after : List ℕ} → at ≡ Customer start end → after ≡ line_sheet left right (length word) (take (end - start) (drop start customer))
      → Done (break_sheet left right customer house cells entries root word) (break_looks customer house cells root word) 0 after
  unfolding line_sheet
  by_customer q r = record { counted = sym (looks_by q); memory = r ∙ sym (breaks_by q) }

  pub by_house : {start end : ℕ} {after : List ℕ} → at ≡ House start end → after ≡ line_sheet left right (length word) (take (end - start) (drop start house))
      → Done (break_sheet left right customer house cells entries root word) (break_looks customer house cells root word) 0 after
  unfolding line_sheet
  by_house q r = record { counted = sym (looks_by q); memory = r ∙ sym (breaks_by q) }

  pub by_levels : {count : ℕ} {after : List ℕ} → at ≡ Nowhere → Done (odd_sheet left right cells entries root word) (word_looks cells root word) count after
      → Done (break_sheet left right customer house cells entries root word) (break_looks customer house cells root word) count after
  unfolding odd_sheet
  by_levels q d = record { counted = d.counted ∙ sym (looks_by q); memory = d.memory ∙ sym (breaks_by q) }

-- the ways to the breaks meet: what they leave is one room and one count
pub done_as : {bytes : List ℕ} {looks : ℕ} {room after : List ℕ} {count n : ℕ} → room ≡ after → count ≡ n → Done bytes looks n after → Done bytes looks count room
done_as e q d = record { counted = q ∙ d.counted; memory = e ∙ d.memory }

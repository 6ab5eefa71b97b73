-- What is read of the bits where every part fits into its own.
use Prim.Native.Nat.{ℕ, ◌-◌, ◌<◌}
use mathlib.Core.Path.{◌≡◌}
use native.Mathlib.Omega.{arith}
use Rattle.tteolmigu.specs.Bits.{told_bits, found_bits, line_bits, fitting_bits, bits_at, number_in, list_in, place_in, marks_in, looks_in, size_in, offset_in, length_in, outcome_in, gap_in, reprint_bits, written_bits, text_length_in, ran_out_in, breaks_in, executed_in}

module _ (number list place : ℕ) (n : number < 256) (l : list < 256) (p : place < 281474976710656) where
  pub told_number : number_in (told_bits number list place) ≡ number
  told_number = omega arith

  pub told_list : list_in (told_bits number list place) ≡ list
  told_list = omega arith

  pub told_place : place_in (told_bits number list place) ≡ place
  told_place = omega arith

module _ (marks looks : ℕ) (m : marks < 65536) (l : looks < 4294967296) where
  pub found_number : number_in (found_bits marks looks) ≡ 0
  found_number = omega arith

  pub found_marks : marks_in (found_bits marks looks) ≡ marks
  found_marks = omega arith

  pub found_looks : looks_in (found_bits marks looks) ≡ looks
  found_looks = omega arith

module _ (size : ℕ) (s : size < 281474976710656) where
  pub size_number : number_in (bits_at 0 48 size) ≡ 0
  size_number = omega arith

  pub size_size : size_in (bits_at 0 48 size) ≡ size
  size_size = omega arith

module _ (list start end : ℕ) (l : list < 256) (s : start < 4294967296) (e : end - start < 65536) where
  pub line_number : number_in (line_bits list start end) ≡ 0
  line_number = omega arith

  pub line_list : list_in (line_bits list start end) ≡ list
  line_list = omega arith

  pub line_offset : offset_in (line_bits list start end) ≡ start
  line_offset = omega arith

  pub line_length_lem : length_in (line_bits list start end) ≡ end - start
  line_length_lem = omega arith

module _ (outcome gap : ℕ) (o : outcome < 256) (g : gap < 4294967296) where
  pub fitting_number : number_in (fitting_bits outcome gap) ≡ 0
  fitting_number = omega arith

  pub fitting_outcome : outcome_in (fitting_bits outcome gap) ≡ outcome
  fitting_outcome = omega arith

  pub fitting_gap : gap_in (fitting_bits outcome gap) ≡ gap
  fitting_gap = omega arith

module _ (outcome breaks executed : ℕ) (o : outcome < 2) (b : breaks < 65536) (e : executed < 4294967296) where
  pub reprint_number : number_in (reprint_bits outcome breaks executed) ≡ 0
  reprint_number = omega arith

  pub reprint_ran_out : ran_out_in (reprint_bits outcome breaks executed) ≡ outcome
  reprint_ran_out = omega arith

  pub reprint_breaks : breaks_in (reprint_bits outcome breaks executed) ≡ breaks
  reprint_breaks = omega arith

  pub reprint_executed : executed_in (reprint_bits outcome breaks executed) ≡ executed
  reprint_executed = omega arith

module _ (length looks : ℕ) (n : length < 16777216) (l : looks < 4294967296) where
  pub written_number : number_in (written_bits length looks) ≡ 0
  written_number = omega arith

  pub written_length : text_length_in (written_bits length looks) ≡ length
  written_length = omega arith

  pub written_looks : looks_in (written_bits length looks) ≡ looks
  written_looks = omega arith

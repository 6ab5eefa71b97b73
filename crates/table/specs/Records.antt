-- The records of a table, byte by byte.
use Rattle.std.specs.Prelude.{ℕ, ◌/◌, ◌%◌, List, [], ◌∷◌, ◌++◌}
use Rattle.table.specs.Table.{head_kind, cell_kind, entry_kind, edition}

-- "Numbers of two bytes have the high byte first."
unfoldable pub two_bytes : ℕ → List ℕ
two_bytes n = (n / 256) ∷ (n % 256) ∷ []

-- "edition 1, cells C (2 bytes), entries E (2 bytes)"
unfoldable pub head_bytes : ℕ → ℕ → List ℕ
head_bytes c e = head_kind ∷ edition ∷ (two_bytes c ++ two_bytes e)

-- "symbol, link (2), output (2)"
unfoldable pub cell_bytes : ℕ → ℕ → ℕ → List ℕ
cell_bytes symbol link output = cell_kind ∷ symbol ∷ (two_bytes link ++ two_bytes output)

-- "distance, level, next (2)"
unfoldable pub entry_bytes : ℕ → ℕ → ℕ → List ℕ
entry_bytes distance level next = entry_kind ∷ distance ∷ level ∷ two_bytes next

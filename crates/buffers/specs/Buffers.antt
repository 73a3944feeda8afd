-- Entries that are written to a buffer, be they bytes or numbers: docs/SCOPE.md [error-writes-nothing]. Assumes nothing.
use Rattle.std.specs.Prelude.{ℕ, List, ◌++◌, length, drop}

-- the entries at the start of the buffer, the rest of which stays
unfoldable pub overwrite : List ℕ → List ℕ → List ℕ
overwrite entries buffer = entries ++ drop (length entries) buffer

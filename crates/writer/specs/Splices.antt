-- Bytes written into a buffer.
use Rattle.std.specs.Prelude.{ℕ, ◌+◌, List, ◌++◌, length, take, drop}

-- the buffer with these bytes from `at` on, the rest untouched
abbrev pub splice : ℕ → (bytes buffer : List ℕ) → List ℕ
splice at bytes buffer = take at buffer ++ bytes ++ drop (length bytes + at) buffer

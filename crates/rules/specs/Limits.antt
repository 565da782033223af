-- Document 01, "The MCFG table and the starting list" and "Record blocks and register values": the limits as document 02, e, raises them; and that of document 02, a; each named once.
use Rattle.std.specs.Prelude.{ℕ}

-- 0 to 64 rows: "Raise bridge rows and MCFG entries from 16 to 64"
unfoldable pub max_rows : ℕ
max_rows = 64

-- 0 to 64 whole entries
unfoldable pub max_entries : ℕ
max_entries = 64

-- "owners to 0 to 63"
unfoldable pub max_owner : ℕ
max_owner = 63

-- "record blocks from 1024 to 4096 bytes"
unfoldable pub max_block : ℕ
max_block = 4096

-- document 02, a: "a lent ROM of up to 16 MiB"
unfoldable pub max_rom : ℕ
max_rom = 16777216

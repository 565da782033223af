-- Document 01, "Granting control": the error statuses.
use Rattle.std.specs.Prelude.{ℕ}
use Rattle.osc.specs.declared.ErrorStatus.{ErrorStatus}
use Rattle.osc.specs.declared.ErrorStatus.TheVariants.{Count, Uuid, Revision}

-- "UUID differs, status 0x04; revision not 1, status 0x08; Count not 3, status 0x02"
abbrev pub status_number : ErrorStatus → ℕ
status_number Uuid = 0x04
status_number Revision = 0x08
status_number Count = 0x02

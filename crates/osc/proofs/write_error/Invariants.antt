-- the buffer is right up to the DWORD
use Rattle.std.proofs.Common.{◌≡◌, ◌*◌, length, take}
use Rattle.osc.specs.Statuses.{status_number}
use Rattle.osc.proofs.Errors.{error_bytes}
use Rattle.osc.proofs.write_error.Given as goal

abbrev pub invariant-loop-dword : goal.invariant-loop-dword
invariant-loop-dword l = take (4 * l.dword) l.answer ≡ take (4 * l.dword) (error_bytes (status_number l.fn.error) (length l.fn.answer))

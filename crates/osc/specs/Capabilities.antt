-- Document 01, "Granting control": the three DWORDs of a recognised call, as they come and as they are answered.
use Rattle.std.specs.Prelude.{ℕ, List, ◌++◌, cond, not}
use Rattle.std.specs.Int.Bits.{bit_or}
use Rattle.rules.specs.Numbers.{bit, le32}
use Rattle.rules.specs.Tables.{holding}
use Rattle.rules.specs.Osc.{declared, granted, grant_status, status, support, control}
use Rattle.rules.specs.declared.Bridge.{Bridge}
use Rattle.rules.specs.declared.Holding.{Holding}
use Rattle.osc.specs.declared.Capabilities.{Capabilities}

-- status, support and control, of the buffer
abbrev pub dwords_of : List ℕ → Capabilities
dwords_of caps = record { status = status caps; support = support caps; control = control caps }

-- the buffer that these fill
abbrev pub bytes_of : Capabilities → List ℕ
bytes_of c = le32 c.status ++ le32 c.support ++ le32 c.control

-- the answer: the status, "the support DWORD as it came; the granted bits"
abbrev pub answered : Bridge → Capabilities → Capabilities
answered b c =
    let g = granted b c.support c.control in
    record { status = grant_status c.control g; support = c.support; control = g }

-- what the bridge holds after it: "granted bits join the held ones and known support bits join the supported ones"; "A query changes nothing"
abbrev pub after : Bridge → Capabilities → Holding
after b c =
    cond (not (bit c.status 0))
    (record { held = bit_or b.held (granted b c.support c.control); supported = declared b c.support })
    (holding b)

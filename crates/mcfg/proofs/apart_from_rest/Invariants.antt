-- the records left decide as all do
use Rattle.std.proofs.Common.{◌≡◌, map, drop}
use Rattle.rules.specs.Lists.{every}
use Rattle.mcfg.specs.Rest.{entry_in, seen_apart}
use Rattle.mcfg.proofs.apart_from_rest.Given as goal

abbrev pub invariant-loop-other : goal.invariant-loop-other
invariant-loop-other l = every (seen_apart l.e) (map entry_in (drop l.other-index l.rest)) ≡ every (seen_apart l.e) (map entry_in l.rest)

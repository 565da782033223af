use Rattle.std.proofs.Common.{refl}
use Rattle.hpx.proofs.Sizes.{by_masks}
use Rattle.hpx.proofs.sizes_kept.Goals as goal

pub returns : goal.returns
returns c = by_masks _ _ refl refl c.args.current c.args.computed

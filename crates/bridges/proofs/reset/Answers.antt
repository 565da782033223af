use Rattle.rules.specs.Calls.{reset}
use Rattle.bridges.proofs.Stored.{steps_stored}
use Rattle.bridges.proofs.reset.Goals as goal

pub returns : goal.returns
returns c =
    steps_stored c.args.t.now c.requires c.args.s c.args.n reset c.call.ensures.made c.reset-done.result
    c.store.ensures.answered
    c.store.ensures.stored
    c.reset-done.ensures

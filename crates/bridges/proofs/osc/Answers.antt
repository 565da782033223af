use Rattle.one_bridge.specs.Answers.{requested}
use Rattle.bridges.proofs.Stored.{steps_stored}
use Rattle.bridges.proofs.osc.Goals as goal

pub returns : goal.returns
returns c =
    steps_stored c.args.t.now c.requires c.args.s c.args.n (requested c.args.request c.args.answer.now) c.call.ensures.made c.osc-done.result
    c.store.ensures.answered
    c.store.ensures.stored
    c.osc-done.ensures

use Rattle.std.proofs.Common.{◌+◌, ◌≤◌, length, sym, subst}
use Rattle.rules.specs.declared.FoundAt.{FoundAt}
use Rattle.rom.proofs.Walking.{found_fits}
use Rattle.rom.proofs.try_find_image.Goals as goal

pub cut-requires : goal.cut-requires
cut-requires c =
    let a = c.args in
    subst (λ (x : FoundAt). x.start + x.size ≤ length a.rom.now) (sym c.in_ok-at.ensures) (found_fits a.rom.now a.vendor a.device a.code_type)

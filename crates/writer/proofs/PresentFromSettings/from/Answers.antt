-- each by its flag
use Rattle.rules.specs.Writer.{pci_numbers, pci_x_numbers, express_numbers, present_in}
use Rattle.writer.proofs.Laid.{by_flag}
use Rattle.writer.proofs.PresentFromSettings.from.Goals as goal

pub returns : goal.returns
unfolding present_in
returns c =
    let s = c.args.s in
    rw (by_flag s.has_pci 0 pci_numbers s.pci _ c.if_flag.ensures, by_flag s.has_pci_x 1 pci_x_numbers s.pci_x _ c.if_flag-2.ensures, by_flag s.has_express 2 express_numbers s.express _ c.if_flag-3.ensures)

use Rattle.std.proofs.Common.{sym}
use Rattle.zigzag_maps.proofs.ValiditySteps.{valid_diagram_from}
use Rattle.zigzag_maps.proofs.validity.NotingWalkStore.pass.Goals as goal

pub note_valid-requires : goal.note_valid-requires
note_valid-requires c = valid_diagram_from c.args.store.now c.args.dim c.args.d c.requires.diagram (sym c.requires.passes)

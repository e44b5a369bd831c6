use Rattle.std.proofs.Common.{sym, subst, List}
use Rattle.diagram_terms.specs.declared.node.Node.{Node}
use Rattle.workspace_json.specs.Forms.{HasForm, IsBrought}
use Rattle.workspace_json.specs.Sessions.{step}
use Rattle.session_state.specs.States.{session_of}
use Rattle.session_undo.proofs.TestedCommands.{read_comes}
use Rattle.session_undo.proofs.commands.apply.Goals as goal

pub bring_command-requires-clause-brought : goal.bring_command-requires-clause-brought
bring_command-requires-clause-brought c =
    subst (λ (ns : List Node). IsBrought ns c.in-Bring.source c.in-Bring.target c.in-Bring.arrow) (sym c.as_slice.ensures) (subst HasForm c.in-Bring.is c.requires.form)

pub returns-in-Bring-clause-comes : goal.returns-in-Bring-clause-comes
unfolding step
returns-in-Bring-clause-comes c = rw (c.in-Bring.is, sym c.as_slice.ensures) (c.bring_command.ensures.comes)

pub returns-in-Compose-clause-comes : goal.returns-in-Compose-clause-comes
unfolding step
returns-in-Compose-clause-comes c = rw (c.in-Compose.is) (c.compose_command.ensures.comes)

pub returns-in-Normalise-clause-comes : goal.returns-in-Normalise-clause-comes
unfolding step
returns-in-Normalise-clause-comes c = rw (c.in-Normalise.is, sym c.as_slice-in-Normalise.ensures) (c.normalise_command.ensures.comes)

pub returns-in-Generator-clause-comes : goal.returns-in-Generator-clause-comes
unfolding step
returns-in-Generator-clause-comes c = rw (c.in-Generator.is) (c.generator_command.ensures.comes)

pub returns-in-Identity-clause-comes : goal.returns-in-Identity-clause-comes
unfolding step
returns-in-Identity-clause-comes c = rw (c.in-Identity.is) (c.identity_command.ensures.comes)

pub returns-in-Boundary-clause-comes : goal.returns-in-Boundary-clause-comes
unfolding step
returns-in-Boundary-clause-comes c = rw (c.in-Boundary.is) (c.boundary_command.ensures.comes)

pub returns-in-Drop-clause-comes : goal.returns-in-Drop-clause-comes
unfolding step
returns-in-Drop-clause-comes c = rw (c.in-Drop.is) (c.drop_command.ensures.comes)

pub returns-in-Slice-clause-comes : goal.returns-in-Slice-clause-comes
unfolding step
returns-in-Slice-clause-comes c = rw (c.in-Slice.is, sym c.as_slice-in-Slice.ensures) (read_comes (session_of c.args.state.now) _ c.slice_command.result c.slice_command.ensures)

pub returns-in-Equal-clause-comes : goal.returns-in-Equal-clause-comes
unfolding step
returns-in-Equal-clause-comes c = rw (c.in-Equal.is) (read_comes (session_of c.args.state.now) _ c.equal_command.result c.equal_command.ensures)

pub returns-in-Stats-clause-comes : goal.returns-in-Stats-clause-comes
unfolding step
returns-in-Stats-clause-comes c = rw (c.in-Stats.is) (read_comes (session_of c.args.state.now) _ c.stats_command.result c.stats_command.ensures)

pub returns-in-Save-clause-comes : goal.returns-in-Save-clause-comes
unfolding step
returns-in-Save-clause-comes c = rw (c.in-Save.is) (read_comes (session_of c.args.state.now) _ c.save_command.result c.save_command.ensures)

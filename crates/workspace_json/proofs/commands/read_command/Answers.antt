use Rattle.workspace_json.proofs.ReadForms.{read_form}
use Rattle.workspace_json.proofs.commands.read_command.Goals as goal

pub returns-clause-form : goal.returns-clause-form
returns-clause-form c = read_form _ _ c.command_of.ensures

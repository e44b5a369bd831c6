use Rattle.workspace_json.proofs.PathWords.{height_told, height_read, path_told, path_read}
use Rattle.workspace_json.proofs.path_laws.paths_are_told_by_their_text.Goals as goal

pub returns-clause-heights : goal.returns-clause-heights
returns-clause-heights c = λ w h. (height_told w h, height_read w h)

pub returns-clause-paths : goal.returns-clause-paths
returns-clause-paths c = λ w hs. (path_told w hs, path_read w hs)

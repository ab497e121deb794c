-- `keeping::keep_path` meets its contract: keep is writing over bytes with no old outline. Assumes nothing.
use Rattle.keeping.proofs.KeepAnswers.{keeps_done}
use Rattle.keeping.proofs.keep_path.Goals as goal

pub returns : goal.returns
returns c = keeps_done _ _ c.requires.0 c.rewrite.ensures

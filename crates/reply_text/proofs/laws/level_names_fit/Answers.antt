use Rattle.reply_text.proofs.ContextNames.{levels_fit}
use Rattle.reply_text.proofs.laws.level_names_fit.Goals as goal

pub returns : goal.returns
returns c = levels_fit

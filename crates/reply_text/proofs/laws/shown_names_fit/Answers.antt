use Rattle.reply_text.proofs.ContextNames.{shown_fit}
use Rattle.reply_text.proofs.laws.shown_names_fit.Goals as goal

pub returns : goal.returns
returns c = shown_fit

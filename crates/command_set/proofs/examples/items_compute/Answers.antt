use Rattle.std.proofs.Common.{refl}
use Rattle.std.specs.Fmt.{digits}
use Rattle.json.specs.Print.{escape_byte}
use Rattle.reply_text.specs.Refusals.{scoping, kernel}
use Rattle.reply_text.specs.Shown.{term_json}
use Rattle.reply_text.specs.Context.{shown_names, context_json}
use Rattle.command_set.specs.Inspect.{inspect, catalog, item_members}
use Rattle.command_set.proofs.examples.items_compute.Goals as goal

pub returns-clause-catalog : goal.returns-clause-catalog
unfolding inspect catalog item_members shown_names context_json scoping kernel term_json escape_byte digits
returns-clause-catalog c = refl

pub returns-clause-none : goal.returns-clause-none
unfolding inspect catalog item_members shown_names context_json scoping kernel term_json escape_byte digits
returns-clause-none c = refl

pub returns-clause-prim : goal.returns-clause-prim
unfolding inspect catalog item_members shown_names context_json scoping kernel term_json escape_byte digits
returns-clause-prim c = refl

pub returns-clause-definition : goal.returns-clause-definition
unfolding inspect catalog item_members shown_names context_json scoping kernel term_json escape_byte digits
returns-clause-definition c = refl

pub returns-clause-closed : goal.returns-clause-closed
unfolding inspect catalog item_members shown_names context_json scoping kernel term_json escape_byte digits
returns-clause-closed c = refl

pub returns-clause-unknown : goal.returns-clause-unknown
unfolding inspect catalog item_members shown_names context_json scoping kernel term_json escape_byte digits
returns-clause-unknown c = refl

pub returns-clause-no_name : goal.returns-clause-no_name
unfolding inspect catalog item_members shown_names context_json scoping kernel term_json escape_byte digits
returns-clause-no_name c = refl

-- Legal environments in a store of terms.
use Rattle.std.specs.Prelude.{List, [], All}
use Rattle.ld_trees.specs.Term.{Term}
use Rattle.ld_rules.specs.Legality.{IsLegalEnvironment}
use Rattle.ld_terms.specs.declared.globals.Item.{Item}
use Rattle.conversion.specs.Globals.{IsItemOf, env_of}
use Rattle.meta_context.specs.Entered.{AreEntered}

-- The store holds the terms of the items, which make a legal environment. Their names are those of the texts, no two alike.
pub record IsStored {H : Type 0} (holds : H → Type 0) (means : H → Term) (items : List (Item H)) : Type 0 where
  pub held : All (IsItemOf holds) items
  pub legal : IsLegalEnvironment (env_of means items [])
  pub entered : AreEntered items

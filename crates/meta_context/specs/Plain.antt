-- Environments over plain trees, with the names of parameters: items whose handles are the trees themselves, the last one first.
use Rattle.std.specs.Prelude.{List, [], map, option_map}
use Rattle.ld_trees.specs.Term.{Term}
use Rattle.ld_rules.specs.Environment.{Ctx, Env}
use Rattle.ld_terms.specs.declared.globals.Local.{Local}
use Rattle.ld_terms.specs.declared.globals.Item.{Item}
use Rattle.conversion.specs.Globals.{context_of, env_of}

-- an entry, with the tree that its handle means
abbrev pub plain_local : {H : Type 0} → (H → Term) → Local H → Local Term
plain_local means l = record { name = l.name; ty = means l.ty }

abbrev pub plain_locals : {H : Type 0} → (H → Term) → List (Local H) → List (Local Term)
plain_locals means ls = map (plain_local means) ls

-- an item, with the trees that its handles mean
abbrev pub plain_item : {H : Type 0} → (H → Term) → Item H → Item Term
plain_item means i = record { name = i.name; params = plain_locals means i.params; ty = means i.ty; body = option_map means i.body }

-- the plain environment that a stored one means
abbrev pub plain_items : {H : Type 0} → (H → Term) → List (Item H) → List (Item Term)
plain_items means is = map (plain_item means) is

-- the context and the environment of the rules, in which names of entries play no part
abbrev pub rules_ctx : List (Local Term) → Ctx
rules_ctx ls = context_of (λ t. t) ls

abbrev pub rules_env : List (Item Term) → Env
rules_env is = env_of (λ t. t) is []

-- `env.inspect` and `env.catalog`: one item of an environment, and the names of all.
use Rattle.std.specs.Prelude.{ℕ, List, [], ◌∷◌, map, reverse, Option, Some, None, codes}
use Rattle.json.specs.Print.{quoted}
use Rattle.ld_trees.specs.Term.{Term}
use Rattle.ld_terms.specs.Items.{item_named}
use Rattle.ld_terms.specs.declared.globals.Item.{Item}
use Rattle.term_syntax.specs.Lex.{Text}
use Rattle.term_syntax.specs.Printing.{Names}
use Rattle.meta_context.specs.Entered.{names_of}
use Rattle.reply_text.specs.Members.{string}
use Rattle.reply_text.specs.Member.{Member}
use Rattle.reply_text.specs.declared.members.Members.{Members}
use Rattle.reply_text.specs.Shown.{term_json}
use Rattle.reply_text.specs.Context.{array_text, shown_names, context_json}
use Rattle.reply_text.specs.Refusals.{no_item}

-- whether an item is a primitive or a definition
abbrev pub kind_of : {A : Type 0} → Option A → List ℕ
kind_of None = codes "prim"
kind_of (Some body) = codes "def"

-- a definition's body, in a context of named entries
abbrev pub value_of : Names → Option Term → List Member
value_of names None = []
value_of names (Some body) = record { key = codes "value"; value = term_json names body } ∷ []

-- what kind of item it is, and its parameters
abbrev pub front : Item Term → List Member
front i = string (codes "kind") (kind_of i.body) ∷ record { key = codes "params"; value = context_json (names_of i.params) (map (λ l. l.ty) i.params) } ∷ []

-- its type and its body, in the context of its parameters
abbrev pub back : Item Term → List Member
back i =
    let shown = shown_names (names_of i.params) in
    record { key = codes "type"; value = term_json shown i.ty } ∷ value_of shown i.body

unfoldable pub item_members : Item Term → Members
item_members i = record { before = front i; after = back i }

abbrev pub found_item : Text → Option (Item Term) → Members
found_item name None = no_item name
found_item name (Some i) = item_members i

-- the item of a name
unfoldable pub inspect : List (Item Term) → Text → Members
inspect items name = found_item name (item_named items name)

-- the names of the items in the order of their entry
unfoldable pub catalog : List (Item Term) → Members
catalog items = record { before = record { key = codes "names"; value = array_text (map (λ i. quoted i.name) (reverse items)) } ∷ []; after = [] }

-- `env.add`, and why a book or a list of items is refused.
use Rattle.std.specs.Prelude.{ℕ, Some, codes, true}
use Rattle.repl_json.specs.declared.reply.Body.{Body}
use Rattle.book_reader.specs.Items.{ItemRefusal, NameTaken, Scope, Kernel, Fuel}
use Rattle.book_reader.specs.Book.{BookRefusal, Syntax, AtItem}
use Rattle.reply_text.specs.declared.members.Members.{Members}
use Rattle.reply_text.specs.Refusals.{syntax, name_taken, scoping, kernel, out_of_fuel}

-- the refusal of the item of a number
abbrev pub item_refusal : ℕ → ItemRefusal → Members
item_refusal k (NameTaken name) = name_taken (Some k) name
item_refusal k (Scope fault) = scoping (Some k) fault
item_refusal k (Kernel r) = kernel (Some k) r
item_refusal k Fuel = out_of_fuel (Some k)

unfoldable pub book_refusal : BookRefusal → Members
book_refusal (Syntax at) = syntax at
book_refusal (AtItem k r) = item_refusal k r

-- the reply to added items, with gaps for the number of the new environment and for `seq`
abbrev pub added : Body
added = record { first = codes "{\"envId\":"; second = codes ",\"seq\":"; third = codes "}"; id_first = true }

use Rattle.std.proofs.Common.{arith, refl}
use Rattle.book_reader.proofs.ParameterNames.{names_more}
use Rattle.book_reader.proofs.parameters.Parameters.with.Goals as goal

pub invariant_of-result : goal.invariant_of-result
invariant_of-result g c =
    names_more c.self.inside.locals.items c.push-2.new.self.items c.self.inside.names.items c.push.new.self.items c.args.name.now c.len-2.result c.in_ok-name.name c.in_ok-copy.field-0 _
    c.self.invariant c.requires (omega arith) (omega arith) c.in_ok-name.ensures c.in_ok-copy.ensures refl c.in_ok-push.ensures.items c.in_ok-push-2.ensures.items

use Rattle.std.proofs.Common.{◌≡◌, ◌∙◌, ap, subst, length}
use Rattle.std.specs.Option.{option_copied}
use Rattle.ld_terms.specs.Names.{IsEntryName}
use Rattle.term_syntax.specs.Lex.{Text}
use Rattle.meta_context.specs.Plain.{plain_locals}
use Rattle.elaboration.specs.Elaboration.{entry_name}
use Rattle.elaborate.specs.Faults.{unify_fault}
use Rattle.elaborate.proofs.Follow.{residual}
use Rattle.elaborate.proofs.HolesAndVariables.{extended_fails, extended_gives}
use Rattle.elaborate.proofs.Meanings.{room, globals_read, entries_read, depth_read}
use Rattle.elaborate.proofs.binders.entered.Goals as goal

pub depth_of-requires : goal.depth_of-requires
depth_of-requires g c = room c.requires.held

pub extend-requires-clause-globals : goal.extend-requires-clause-globals
extend-requires-clause-globals g c = c.requires.held.globals

pub extend-requires-clause-context : goal.extend-requires-clause-context
extend-requires-clause-context g c = c.requires.held.entries

pub extend-requires-clause-names : goal.extend-requires-clause-names
extend-requires-clause-names g c = c.requires.held.names

pub extend-requires-clause-named : goal.extend-requires-clause-named
extend-requires-clause-named g c = subst (λ d. IsEntryName d c.in_ok-name.name) c.depth_of.ensures c.in_ok-name.ensures.named

pub returns-in_err-extend-clause-value : goal.returns-in_err-extend-clause-value
returns-in_err-extend-clause-value g c Δ w s A r p =
    let m0 = g.T.Terms.means c.args.terms.now in
    let h = g.T.Terms.holds c.extend.new.terms in
    let m = g.T.Terms.means c.extend.new.terms in
    let label = option_copied c.args.label in
    let y : Text = entry_name (length s.entries) label in
    let same : c.in_ok-name.name ≡ y = c.in_ok-name.ensures.value ∙ ap (λ d. entry_name d label) (c.depth_of.ensures ∙ depth_read m0 r) in
    residual h m _ _ _ c.from_residual-in_err-extend.result (unify_fault c.in_err-extend.field-0.0) c.from_residual-in_err-extend.ensures.1
    (extended_fails Δ w.metas s.entries c.in_ok-name.name y A c.args.fuel.now c.extend.new.fuel same h m c.in_err-extend.field-0.0 (c.in_err-extend.ensures.value Δ w.metas s.entries A (globals_read m0 r) (entries_read m0 r) p))

pub returns-clause-value : goal.returns-clause-value
returns-clause-value g c Δ w s A r p =
    let m0 = g.T.Terms.means c.args.terms.now in
    let m = g.T.Terms.means c.extend.new.terms in
    let label = option_copied c.args.label in
    let y : Text = entry_name (length s.entries) label in
    let same : c.in_ok-name.name ≡ y = c.in_ok-name.ensures.value ∙ ap (λ d. entry_name d label) (c.depth_of.ensures ∙ depth_read m0 r) in
    extended_gives Δ w.metas s.entries c.in_ok-name.name y A c.args.fuel.now c.extend.new.fuel same (plain_locals m c.in_ok-extend.field-0) (c.in_ok-extend.ensures.value Δ w.metas s.entries A (globals_read m0 r) (entries_read m0 r) p)

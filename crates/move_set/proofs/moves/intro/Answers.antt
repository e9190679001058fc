use Rattle.std.proofs.Common.{◌≡◌, ◌∙◌, inl, ap, sym, refl, subst}
use Rattle.ld_trees.specs.Term.{Term}
use Rattle.ld_terms.specs.declared.globals.Decl.{Decl}
use Rattle.term_syntax.specs.ReadsBack.{IsContext}
use Rattle.conversion.specs.Globals.{AreLocals}
use Rattle.conversion.proofs.Lookups.{globals_kept, decl_found_held}
use Rattle.meta_context.specs.Entered.{names_of}
use Rattle.meta_context.specs.Plain.{plain_locals, rules_env}
use Rattle.meta_context.proofs.Numbers.{declared_at}
use Rattle.goal_state.specs.State.{plain_decl}
use Rattle.unification.specs.Metavariables.{extended}
use Rattle.unification.specs.Steps.{Gave, Refused, renamed}
use Rattle.pattern_unify.proofs.Meanings.{locals_held, locals_kept, read_kept}
use Rattle.pattern_unify.proofs.Follow.{after}
use Rattle.move_set.specs.Answers.{ShowsRefusal}
use Rattle.move_set.specs.Applying.{product_of}
use Rattle.move_set.specs.Faults.{unify_fault}
use Rattle.move_set.specs.Moves.{has_entry, abstracted, intro}
use Rattle.move_set.specs.Refusals.{NameTaken, NotProduct, from_unification}
use Rattle.move_set.specs.declared.fault.MoveFault.TheVariants as fault
use Rattle.move_set.proofs.Follow.{answers, fails, renamed_gave, unify_shows}
use Rattle.move_set.proofs.Introducing.{taken, free, parted, with_parts, with_context}
use Rattle.move_set.proofs.Meanings.{decl_read, entry_again}
use Rattle.move_set.proofs.moves.intro.Goals as goal

pub product_of-requires-clause-ty : goal.product_of-requires-clause-ty
product_of-requires-clause-ty g c =
    let h0 = g.T.Terms.holds c.args.terms.now in
    let m0 = g.T.Terms.means c.args.terms.now in
    let x = c.in-Some.decl.now in
    let held = decl_found_held h0 c.args.metas.now c.args.g x c.requires.globals.metas_held (sym c.in-Some.ensures) in
    held.ty

pub extend-requires-clause-globals : goal.extend-requires-clause-globals
extend-requires-clause-globals g c = globals_kept _ _ _ (g.T.Terms.means c.product_of.new.terms) c.product_of.ensures.kept c.args.env.now c.args.metas.now c.requires.globals

pub extend-requires-clause-context : goal.extend-requires-clause-context
extend-requires-clause-context g c =
    let h0 = g.T.Terms.holds c.args.terms.now in
    let m0 = g.T.Terms.means c.args.terms.now in
    let x = c.in-Some.decl.now in
    let held = decl_found_held h0 c.args.metas.now c.args.g x c.requires.globals.metas_held (sym c.in-Some.ensures) in
    let h1 = g.T.Terms.holds c.product_of.new.terms in
    let m1 = g.T.Terms.means c.product_of.new.terms in
    let k1 = c.product_of.ensures.kept in
    subst (AreLocals h1) (sym c.as_slice-ctx.ensures) (locals_held h0 m0 h1 m1 k1 x.ctx held.ctx)

pub extend-requires-clause-names : goal.extend-requires-clause-names
extend-requires-clause-names g c = subst (λ ls. IsContext (names_of ls)) (sym c.as_slice-ctx.ensures) (declared_at c.args.metas.now c.args.g c.in-Some.decl.now c.next-count.ensures.facts (sym c.in-Some.ensures))

pub extend-requires-clause-named : goal.extend-requires-clause-named
extend-requires-clause-named g c = inl c.requires.named

pub abstracted-requires-clause-globals : goal.abstracted-requires-clause-globals
abstracted-requires-clause-globals g c =
    globals_kept _ _ _ (g.T.Terms.means c.extend.new.terms) c.extend.ensures.kept c.args.env.now c.args.metas.now
    (globals_kept _ _ _ (g.T.Terms.means c.product_of.new.terms) c.product_of.ensures.kept c.args.env.now c.args.metas.now c.requires.globals)

pub abstracted-requires-clause-context : goal.abstracted-requires-clause-context
abstracted-requires-clause-context g c = subst (AreLocals (g.T.Terms.holds c.extend.new.terms)) (sym c.as_slice-ctx-in-Some.ensures) c.in_ok-entries-in-Some.ensures.held

pub abstracted-requires-clause-names : goal.abstracted-requires-clause-names
abstracted-requires-clause-names g c = subst (λ ls. IsContext (names_of ls)) (sym c.as_slice-ctx-in-Some.ensures) c.in_ok-entries-in-Some.ensures.names

pub abstracted-requires-clause-domain : goal.abstracted-requires-clause-domain
abstracted-requires-clause-domain g c = (c.extend.ensures.kept c.in_ok-parts-in-Some.parts.0 c.in_ok-parts-in-Some.ensures.held.0).0

pub abstracted-requires-clause-codomain : goal.abstracted-requires-clause-codomain
abstracted-requires-clause-codomain g c = (c.extend.ensures.kept c.in_ok-parts-in-Some.parts.1 c.in_ok-parts-in-Some.ensures.held.1).0

pub returns-then-has_entry-clause-value : goal.returns-then-has_entry-clause-value
returns-then-has_entry-clause-value g c Δ Σ d read there =
    let h0 = g.T.Terms.holds c.args.terms.now in
    let m0 = g.T.Terms.means c.args.terms.now in
    let x = c.in-Some.decl.now in
    let held = decl_found_held h0 c.args.metas.now c.args.g x c.requires.globals.metas_held (sym c.in-Some.ensures) in
    let n = c.args.fuel.now in
    let name = c.args.name.now in
    let same : plain_decl m0 x ≡ d = decl_read m0 c.args.metas.now Σ c.args.g x d read.metas_are (sym c.in-Some.ensures) there in
    let test : c.has_entry.result ≡ has_entry d.ctx name = c.has_entry.ensures ∙ ap (λ ls. has_entry ls name) c.as_slice-ctx.ensures ∙ sym (entry_again m0 x.ctx name) ∙ ap (λ (y : Decl Term). has_entry y.ctx name) same in
    let copied : c.in_ok-name-in-Some.name ≡ name = c.in_ok-name-in-Some.ensures in
    taken Δ Σ c.args.g d name n c.has_entry.result test c.if-has_entry.true ∙ ap (λ x. Refused (NameTaken x) n) (sym copied)

pub returns-in_err-parts-in-Some-clause-value : goal.returns-in_err-parts-in-Some-clause-value
returns-in_err-parts-in-Some-clause-value g c Δ Σ d read there =
    let h0 = g.T.Terms.holds c.args.terms.now in
    let m0 = g.T.Terms.means c.args.terms.now in
    let x = c.in-Some.decl.now in
    let held = decl_found_held h0 c.args.metas.now c.args.g x c.requires.globals.metas_held (sym c.in-Some.ensures) in
    let h1 = g.T.Terms.holds c.product_of.new.terms in
    let m1 = g.T.Terms.means c.product_of.new.terms in
    let k1 = c.product_of.ensures.kept in
    let n = c.args.fuel.now in
    let name = c.args.name.now in
    let same : plain_decl m0 x ≡ d = decl_read m0 c.args.metas.now Σ c.args.g x d read.metas_are (sym c.in-Some.ensures) there in
    let test : c.has_entry.result ≡ has_entry d.ctx name = c.has_entry.ensures ∙ ap (λ ls. has_entry ls name) c.as_slice-ctx.ensures ∙ sym (entry_again m0 x.ctx name) ∙ ap (λ (y : Decl Term). has_entry y.ctx name) same in
    let whole = free Δ Σ c.args.g d name n c.has_entry.result test c.if-has_entry.false in
    let ty0 : m0 x.ty ≡ d.ty = ap (λ (y : Decl Term). y.ty) same in
    let shown : ShowsRefusal h0 m0 NotProduct fault.NotProduct = refl in
    fails h1 m1 _ (intro Δ Σ c.args.g d name n) (product_of (rules_env Δ) NotProduct Σ d.ty n) (with_parts Δ Σ c.args.g d name n) _ c.from_residual-in_err-parts-in-Some.result c.in_err-parts-in-Some.field-0.0 whole c.from_residual-in_err-parts-in-Some.ensures.1
    (c.in_err-parts-in-Some.ensures.value Δ Σ d.ty NotProduct read ty0 shown)

pub returns-in_err-entries-in-Some-clause-value : goal.returns-in_err-entries-in-Some-clause-value
returns-in_err-entries-in-Some-clause-value g c Δ Σ d read there =
    let h0 = g.T.Terms.holds c.args.terms.now in
    let m0 = g.T.Terms.means c.args.terms.now in
    let x = c.in-Some.decl.now in
    let held = decl_found_held h0 c.args.metas.now c.args.g x c.requires.globals.metas_held (sym c.in-Some.ensures) in
    let h1 = g.T.Terms.holds c.product_of.new.terms in
    let m1 = g.T.Terms.means c.product_of.new.terms in
    let k1 = c.product_of.ensures.kept in
    let n = c.args.fuel.now in
    let name = c.args.name.now in
    let same : plain_decl m0 x ≡ d = decl_read m0 c.args.metas.now Σ c.args.g x d read.metas_are (sym c.in-Some.ensures) there in
    let test : c.has_entry.result ≡ has_entry d.ctx name = c.has_entry.ensures ∙ ap (λ ls. has_entry ls name) c.as_slice-ctx.ensures ∙ sym (entry_again m0 x.ctx name) ∙ ap (λ (y : Decl Term). has_entry y.ctx name) same in
    let whole = free Δ Σ c.args.g d name n c.has_entry.result test c.if-has_entry.false in
    let ty0 : m0 x.ty ≡ d.ty = ap (λ (y : Decl Term). y.ty) same in
    let shown : ShowsRefusal h0 m0 NotProduct fault.NotProduct = refl in
    let A = m1 c.in_ok-parts-in-Some.parts.0 in
    let B = m1 c.in_ok-parts-in-Some.parts.1 in
    let u1 = c.product_of.new.fuel in
    let p : product_of (rules_env Δ) NotProduct Σ d.ty n ≡ Gave (A, B) u1 = c.in_ok-parts-in-Some.ensures.value Δ Σ d.ty NotProduct read ty0 shown in
    let r1 = read_kept h0 m0 h1 m1 k1 c.args.env.now c.args.metas.now Δ Σ c.requires.globals read in
    let ctx1 : plain_locals m1 c.as_slice-ctx.result.now ≡ d.ctx = ap (plain_locals m1) c.as_slice-ctx.ensures ∙ locals_kept h0 m0 h1 m1 k1 x.ctx held.ctx ∙ ap (λ (y : Decl Term). y.ctx) same in
    let entered = parted Δ Σ c.args.g d name n whole A B u1 p in
    let o = extended (rules_env Δ) Σ d.ctx name A u1 in
    let h2 = g.T.Terms.holds c.extend.new.terms in
    let m2 = g.T.Terms.means c.extend.new.terms in
    fails h2 m2 _ (intro Δ Σ c.args.g d name n) (renamed from_unification o) (with_context Δ Σ c.args.g d name n A B) _ c.from_residual-in_err-entries-in-Some.result (unify_fault c.in_err-entries-in-Some.field-0.0) entered c.from_residual-in_err-entries-in-Some.ensures.1
    (unify_shows h2 m2 o _ c.in_err-entries-in-Some.field-0.0 (c.in_err-entries-in-Some.ensures.value Δ Σ d.ctx A r1 ctx1 refl))

pub returns-clause-value : goal.returns-clause-value
returns-clause-value g c Δ Σ d read there =
    let h0 = g.T.Terms.holds c.args.terms.now in
    let m0 = g.T.Terms.means c.args.terms.now in
    let x = c.in-Some.decl.now in
    let held = decl_found_held h0 c.args.metas.now c.args.g x c.requires.globals.metas_held (sym c.in-Some.ensures) in
    let h1 = g.T.Terms.holds c.product_of.new.terms in
    let m1 = g.T.Terms.means c.product_of.new.terms in
    let k1 = c.product_of.ensures.kept in
    let n = c.args.fuel.now in
    let name = c.args.name.now in
    let same : plain_decl m0 x ≡ d = decl_read m0 c.args.metas.now Σ c.args.g x d read.metas_are (sym c.in-Some.ensures) there in
    let test : c.has_entry.result ≡ has_entry d.ctx name = c.has_entry.ensures ∙ ap (λ ls. has_entry ls name) c.as_slice-ctx.ensures ∙ sym (entry_again m0 x.ctx name) ∙ ap (λ (y : Decl Term). has_entry y.ctx name) same in
    let whole = free Δ Σ c.args.g d name n c.has_entry.result test c.if-has_entry.false in
    let ty0 : m0 x.ty ≡ d.ty = ap (λ (y : Decl Term). y.ty) same in
    let shown : ShowsRefusal h0 m0 NotProduct fault.NotProduct = refl in
    let A = m1 c.in_ok-parts-in-Some.parts.0 in
    let B = m1 c.in_ok-parts-in-Some.parts.1 in
    let u1 = c.product_of.new.fuel in
    let p : product_of (rules_env Δ) NotProduct Σ d.ty n ≡ Gave (A, B) u1 = c.in_ok-parts-in-Some.ensures.value Δ Σ d.ty NotProduct read ty0 shown in
    let r1 = read_kept h0 m0 h1 m1 k1 c.args.env.now c.args.metas.now Δ Σ c.requires.globals read in
    let ctx1 : plain_locals m1 c.as_slice-ctx.result.now ≡ d.ctx = ap (plain_locals m1) c.as_slice-ctx.ensures ∙ locals_kept h0 m0 h1 m1 k1 x.ctx held.ctx ∙ ap (λ (y : Decl Term). y.ctx) same in
    let entered = parted Δ Σ c.args.g d name n whole A B u1 p in
    let o = extended (rules_env Δ) Σ d.ctx name A u1 in
    let h2 = g.T.Terms.holds c.extend.new.terms in
    let m2 = g.T.Terms.means c.extend.new.terms in
    let k2 = c.extend.ensures.kept in
    let h3 = g.T.Terms.holds c.abstracted.new.terms in
    let m3 = g.T.Terms.means c.abstracted.new.terms in
    let Γ = plain_locals m2 c.in_ok-entries-in-Some.entries in
    let u2 = c.extend.new.fuel in
    let gave : o ≡ Gave Γ u2 = c.in_ok-entries-in-Some.ensures.value Δ Σ d.ctx A r1 ctx1 refl in
    let g1 = globals_kept h0 m0 h1 m1 k1 c.args.env.now c.args.metas.now c.requires.globals in
    let r2 = read_kept h1 m1 h2 m2 k2 c.args.env.now c.args.metas.now Δ Σ g1 r1 in
    answers h3 m3 _ (intro Δ Σ c.args.g d name n) (abstracted Δ Σ c.args.g d A B Γ u2) _ c.abstracted.result
    (entered ∙ after (renamed from_unification o) Γ u2 (with_context Δ Σ c.args.g d name n A B) (renamed_gave from_unification o Γ u2 gave))
    (c.abstracted.ensures.value Δ Σ d Γ A B r2 (ap (plain_locals m2) c.as_slice-ctx-in-Some.ensures) (k2 c.in_ok-parts-in-Some.parts.0 c.in_ok-parts-in-Some.ensures.held.0).1 (k2 c.in_ok-parts-in-Some.parts.1 c.in_ok-parts-in-Some.ensures.held.1).1)

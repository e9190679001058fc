use Rattle.std.proofs.Common.{◌≡◌, ◌∙◌, [], ◌++◌, Some, option_map, ap, sym, refl, subst}
use Rattle.std.specs.Prelude.{slice_get}
use Rattle.std.proofs.lemmas.Option.{same_Some, slice_get-map}
use Rattle.ld_trees.specs.Term.{Term}
use Rattle.ld_terms.specs.declared.globals.Decl.{Decl}
use Rattle.term_syntax.specs.ReadsBack.{IsContext}
use Rattle.conversion.specs.Globals.{AreGlobalsOf, AreLocals}
use Rattle.conversion.proofs.Lookups.{globals_kept, decl_found_held}
use Rattle.meta_context.specs.Entered.{names_of}
use Rattle.meta_context.specs.Plain.{plain_items, plain_locals, rules_env}
use Rattle.meta_context.proofs.Numbers.{declared_at}
use Rattle.goal_state.specs.State.{plain_decl, plain_metas}
use Rattle.unification.specs.Steps.{Gave, go_on, ◌>>=◌, renamed}
use Rattle.pattern_unify.specs.Answers.{AreRead}
use Rattle.elaboration.specs.Elaboration.{Made as SpecMade, synth}
use Rattle.elaborate.specs.Answers.{plain_made}
use Rattle.pattern_unify.proofs.Meanings.{read_kept}
use Rattle.pattern_unify.proofs.Follow.{after}
use Rattle.move_set.specs.Answers.{plain_application}
use Rattle.move_set.specs.Applying.{Application as SpecApplication, apply}
use Rattle.move_set.specs.Faults.{elab_fault}
use Rattle.move_set.specs.Moves.{Moved, settled, apply_to}
use Rattle.move_set.specs.Refusals.{Step, from_elaboration}
use Rattle.move_set.proofs.Advancing.{open_when_applied}
use Rattle.move_set.proofs.Follow.{answers, fails, renamed_gave, elab_shows}
use Rattle.move_set.proofs.Meanings.{decl_read, decl_kept, decl_held}
use Rattle.move_set.proofs.OnGoals.{open_stored}
use Rattle.move_set.proofs.Turning.{same_application}
use Rattle.move_set.proofs.moves.apply_to.Goals as goal

pub synth-requires-clause-context : goal.synth-requires-clause-context
synth-requires-clause-context g c =
    let h0 = g.T.Terms.holds c.args.terms.now in
    let m0 = g.T.Terms.means c.args.terms.now in
    let x = c.in-Some.decl.now in
    let held = decl_found_held h0 c.args.metas.now c.args.g x c.requires.globals.metas_held (sym c.in-Some.ensures) in
    subst (AreLocals h0) (sym c.as_slice.ensures) held.ctx

pub synth-requires-clause-names : goal.synth-requires-clause-names
synth-requires-clause-names g c = subst (λ ls. IsContext (names_of ls)) (sym c.as_slice.ensures) (declared_at c.args.metas.now c.args.g c.in-Some.decl.now c.next-count.ensures.facts (sym c.in-Some.ensures))

pub apply-requires-clause-globals : goal.apply-requires-clause-globals
apply-requires-clause-globals g c =
    let h1 = g.T.Terms.holds c.synth.new.terms in
    let here = globals_kept _ _ _ (g.T.Terms.means c.synth.new.terms) c.synth.ensures.kept c.args.env.now c.args.metas.now c.requires.globals in
    let made : AreGlobalsOf h1 c.args.env.now c.in_ok-made-in-Some.made.metas = record { items_held = here.items_held; metas_held = c.in_ok-made-in-Some.ensures.held.0 } in
    subst (AreGlobalsOf h1 c.args.env.now) (sym c.unapplied-start.ensures.metas) made

pub apply-requires-clause-goal : goal.apply-requires-clause-goal
apply-requires-clause-goal g c =
    let h0 = g.T.Terms.holds c.args.terms.now in
    let m0 = g.T.Terms.means c.args.terms.now in
    let x = c.in-Some.decl.now in
    let held = decl_found_held h0 c.args.metas.now c.args.g x c.requires.globals.metas_held (sym c.in-Some.ensures) in
    decl_held h0 m0 (g.T.Terms.holds c.synth.new.terms) (g.T.Terms.means c.synth.new.terms) c.synth.ensures.kept x held

pub apply-requires-clause-names : goal.apply-requires-clause-names
apply-requires-clause-names g c = declared_at c.args.metas.now c.args.g c.in-Some.decl.now c.next-count.ensures.facts (sym c.in-Some.ensures)

pub apply-requires-clause-term : goal.apply-requires-clause-term
apply-requires-clause-term g c = subst (g.T.Terms.holds c.synth.new.terms) (sym c.unapplied-start.ensures.term) c.in_ok-made-in-Some.ensures.held.1

pub apply-requires-clause-ty : goal.apply-requires-clause-ty
apply-requires-clause-ty g c = subst (g.T.Terms.holds c.synth.new.terms) (sym c.unapplied-start.ensures.ty) c.in_ok-made-in-Some.ensures.held.2

pub settled-requires-clause-globals : goal.settled-requires-clause-globals
settled-requires-clause-globals g c =
    let h1 = g.T.Terms.holds c.synth.new.terms in
    let here = globals_kept _ _ _ (g.T.Terms.means c.synth.new.terms) c.synth.ensures.kept c.args.env.now c.args.metas.now c.requires.globals in
    let made : AreGlobalsOf h1 c.args.env.now c.in_ok-made-in-Some.made.metas = record { items_held = here.items_held; metas_held = c.in_ok-made-in-Some.ensures.held.0 } in
    let later = globals_kept _ _ _ (g.T.Terms.means c.apply.new.terms) c.apply.ensures.kept c.args.env.now c.in_ok-made-in-Some.made.metas made in
    record { items_held = later.items_held; metas_held = c.in_ok-applied-in-Some.ensures.held.metas }

pub settled-requires-clause-open : goal.settled-requires-clause-open
settled-requires-clause-open g c =
    let h0 = g.T.Terms.holds c.args.terms.now in
    let m0 = g.T.Terms.means c.args.terms.now in
    let h1 = g.T.Terms.holds c.synth.new.terms in
    let m1 = g.T.Terms.means c.synth.new.terms in
    let m2 = g.T.Terms.means c.apply.new.terms in
    let x = c.in-Some.decl.now in
    let items = plain_items m0 c.args.env.now in
    let base = plain_metas m0 c.args.metas.now in
    let there : slice_get base c.args.g ≡ Some (plain_decl m0 x) = slice_get-map (plain_decl m0) c.args.metas.now c.args.g ∙ ap (option_map (plain_decl m0)) (sym c.in-Some.ensures) in
    let open_now = c.requires.open in
    let is : open_now.0 ≡ x = same_Some open_now.0 x (sym open_now.1 ∙ sym c.in-Some.ensures) in
    let unset = ap (option_map m0) (ap (λ (y : Decl _). y.value) (sym is) ∙ open_now.2) in
    let made = c.in_ok-made-in-Some.made in
    let read : AreRead m0 c.args.env.now c.args.metas.now items base = record { items_are = refl; metas_are = refl } in
    let gave = c.in_ok-made-in-Some.ensures.value items base (plain_locals m0 x.ctx) read (ap (plain_locals m0) c.as_slice.ensures) in
    let a0 : SpecApplication = record { metas = plain_metas m1 made.metas; args = []; term = m1 made.term; ty = m1 made.ty } in
    let start : plain_application m1 c.unapplied-start.result ≡ a0 =
    same_application _ _ _ _ _ _ _ _ (ap (plain_metas m1) c.unapplied-start.ensures.metas) c.unapplied-start.ensures.args (ap m1 c.unapplied-start.ensures.term) (ap m1 c.unapplied-start.ensures.ty) in
    let r1 = read_kept h0 m0 h1 m1 c.synth.ensures.kept c.args.env.now c.args.metas.now items base c.requires.globals read in
    let held = decl_found_held h0 c.args.metas.now c.args.g x c.requires.globals.metas_held (sym c.in-Some.ensures) in
    let same1 : plain_decl m1 x ≡ plain_decl m0 x = decl_kept h0 m0 h1 m1 c.synth.ensures.kept x held in
    let applied = c.in_ok-applied-in-Some.applied in
    let fits = c.in_ok-applied-in-Some.ensures.value items a0 (plain_decl m0 x) r1.items_are start same1 in
    open_stored m2 applied.metas c.args.g
    (open_when_applied items base c.args.g (plain_decl m0 x) there unset c.requires.legal c.args.text.now (plain_made m1 made) c.args.fuel.now c.synth.new.fuel c.synth.new.fuel c.apply.new.fuel (plain_application m2 applied) gave fits)

pub returns-in_err-made-in-Some-clause-value : goal.returns-in_err-made-in-Some-clause-value
returns-in_err-made-in-Some-clause-value g c Δ Σ d read there =
    let m0 = g.T.Terms.means c.args.terms.now in
    let h1 = g.T.Terms.holds c.synth.new.terms in
    let m1 = g.T.Terms.means c.synth.new.terms in
    let x = c.in-Some.decl.now in
    let n = c.args.fuel.now in
    let t = c.args.text.now in
    let same : plain_decl m0 x ≡ d = decl_read m0 c.args.metas.now Σ c.args.g x d read.metas_are (sym c.in-Some.ensures) there in
    let ctx : plain_locals m0 c.as_slice.result.now ≡ d.ctx = ap (plain_locals m0) c.as_slice.ensures ∙ ap (λ (y : Decl Term). y.ctx) same in
    let o = synth Δ Σ d.ctx t n in
    let ending : SpecMade → SpecApplication → Step Moved = λ m a. settled Δ Σ c.args.g d a.metas a.term (m.work.goals ++ a.args) m.work.holes in
    let applying : SpecMade → Step Moved = λ m. apply (rules_env Δ) d (record { metas = m.work.metas; args = []; term = m.term; ty = m.ty }) >>= ending m in
    fails h1 m1 _ (apply_to Δ Σ c.args.g d t n) (renamed from_elaboration o) applying _ c.from_residual.result (elab_fault c.in_err-made-in-Some.field-0.0) refl c.from_residual.ensures.1
    (elab_shows h1 m1 o _ c.in_err-made-in-Some.field-0.0 (c.in_err-made-in-Some.ensures.value Δ Σ d.ctx read ctx))

pub returns-in_err-applied-in-Some-clause-value : goal.returns-in_err-applied-in-Some-clause-value
returns-in_err-applied-in-Some-clause-value g c Δ Σ d read there =
    let h0 = g.T.Terms.holds c.args.terms.now in
    let m0 = g.T.Terms.means c.args.terms.now in
    let h1 = g.T.Terms.holds c.synth.new.terms in
    let m1 = g.T.Terms.means c.synth.new.terms in
    let x = c.in-Some.decl.now in
    let n = c.args.fuel.now in
    let t = c.args.text.now in
    let made = c.in_ok-made-in-Some.made in
    let same : plain_decl m0 x ≡ d = decl_read m0 c.args.metas.now Σ c.args.g x d read.metas_are (sym c.in-Some.ensures) there in
    let ctx : plain_locals m0 c.as_slice.result.now ≡ d.ctx = ap (plain_locals m0) c.as_slice.ensures ∙ ap (λ (y : Decl Term). y.ctx) same in
    let o = synth Δ Σ d.ctx t n in
    let u1 = c.synth.new.fuel in
    let gave : o ≡ Gave (plain_made m1 made) u1 = c.in_ok-made-in-Some.ensures.value Δ Σ d.ctx read ctx in
    let a0 : SpecApplication = record { metas = plain_metas m1 made.metas; args = []; term = m1 made.term; ty = m1 made.ty } in
    let start : plain_application m1 c.unapplied-start.result ≡ a0 =
    same_application _ _ _ _ _ _ _ _ (ap (plain_metas m1) c.unapplied-start.ensures.metas) c.unapplied-start.ensures.args (ap m1 c.unapplied-start.ensures.term) (ap m1 c.unapplied-start.ensures.ty) in
    let r1 = read_kept h0 m0 h1 m1 c.synth.ensures.kept c.args.env.now c.args.metas.now Δ Σ c.requires.globals read in
    let held = decl_found_held h0 c.args.metas.now c.args.g x c.requires.globals.metas_held (sym c.in-Some.ensures) in
    let same1 : plain_decl m1 x ≡ d = decl_kept h0 m0 h1 m1 c.synth.ensures.kept x held ∙ same in
    let ending : SpecMade → SpecApplication → Step Moved = λ m a. settled Δ Σ c.args.g d a.metas a.term (m.work.goals ++ a.args) m.work.holes in
    let applying : SpecMade → Step Moved = λ m. apply (rules_env Δ) d (record { metas = m.work.metas; args = []; term = m.term; ty = m.ty }) >>= ending m in
    let begun : apply_to Δ Σ c.args.g d t n ≡ go_on (apply (rules_env Δ) d a0 u1) (ending (plain_made m1 made)) = after (renamed from_elaboration o) (plain_made m1 made) u1 applying (renamed_gave from_elaboration o (plain_made m1 made) u1 gave) in
    let h2 = g.T.Terms.holds c.apply.new.terms in
    let m2 = g.T.Terms.means c.apply.new.terms in
    fails h2 m2 _ (apply_to Δ Σ c.args.g d t n) (apply (rules_env Δ) d a0 u1) (ending (plain_made m1 made)) _ c.from_residual-in_err-applied-in-Some.result c.in_err-applied-in-Some.field-0.0 begun c.from_residual-in_err-applied-in-Some.ensures.1
    (c.in_err-applied-in-Some.ensures.value Δ a0 d r1.items_are start same1)

pub returns-clause-value : goal.returns-clause-value
returns-clause-value g c Δ Σ d read there =
    let h0 = g.T.Terms.holds c.args.terms.now in
    let m0 = g.T.Terms.means c.args.terms.now in
    let h1 = g.T.Terms.holds c.synth.new.terms in
    let m1 = g.T.Terms.means c.synth.new.terms in
    let x = c.in-Some.decl.now in
    let n = c.args.fuel.now in
    let t = c.args.text.now in
    let made = c.in_ok-made-in-Some.made in
    let same : plain_decl m0 x ≡ d = decl_read m0 c.args.metas.now Σ c.args.g x d read.metas_are (sym c.in-Some.ensures) there in
    let ctx : plain_locals m0 c.as_slice.result.now ≡ d.ctx = ap (plain_locals m0) c.as_slice.ensures ∙ ap (λ (y : Decl Term). y.ctx) same in
    let o = synth Δ Σ d.ctx t n in
    let u1 = c.synth.new.fuel in
    let gave : o ≡ Gave (plain_made m1 made) u1 = c.in_ok-made-in-Some.ensures.value Δ Σ d.ctx read ctx in
    let a0 : SpecApplication = record { metas = plain_metas m1 made.metas; args = []; term = m1 made.term; ty = m1 made.ty } in
    let start : plain_application m1 c.unapplied-start.result ≡ a0 =
    same_application _ _ _ _ _ _ _ _ (ap (plain_metas m1) c.unapplied-start.ensures.metas) c.unapplied-start.ensures.args (ap m1 c.unapplied-start.ensures.term) (ap m1 c.unapplied-start.ensures.ty) in
    let r1 = read_kept h0 m0 h1 m1 c.synth.ensures.kept c.args.env.now c.args.metas.now Δ Σ c.requires.globals read in
    let held = decl_found_held h0 c.args.metas.now c.args.g x c.requires.globals.metas_held (sym c.in-Some.ensures) in
    let same1 : plain_decl m1 x ≡ d = decl_kept h0 m0 h1 m1 c.synth.ensures.kept x held ∙ same in
    let ending : SpecMade → SpecApplication → Step Moved = λ m a. settled Δ Σ c.args.g d a.metas a.term (m.work.goals ++ a.args) m.work.holes in
    let applying : SpecMade → Step Moved = λ m. apply (rules_env Δ) d (record { metas = m.work.metas; args = []; term = m.term; ty = m.ty }) >>= ending m in
    let begun : apply_to Δ Σ c.args.g d t n ≡ go_on (apply (rules_env Δ) d a0 u1) (ending (plain_made m1 made)) = after (renamed from_elaboration o) (plain_made m1 made) u1 applying (renamed_gave from_elaboration o (plain_made m1 made) u1 gave) in
    let h2 = g.T.Terms.holds c.apply.new.terms in
    let m2 = g.T.Terms.means c.apply.new.terms in
    let h3 = g.T.Terms.holds c.settled.new.terms in
    let m3 = g.T.Terms.means c.settled.new.terms in
    let u2 = c.apply.new.fuel in
    let applied = c.in_ok-applied-in-Some.applied in
    let a1 = plain_application m2 applied in
    let fits : apply (rules_env Δ) d a0 u1 ≡ Gave a1 u2 = c.in_ok-applied-in-Some.ensures.value Δ a0 d r1.items_are start same1 in
    let g1 = globals_kept h0 m0 h1 m1 c.synth.ensures.kept c.args.env.now c.args.metas.now c.requires.globals in
    let made_held : AreGlobalsOf h1 c.args.env.now made.metas = record { items_held = g1.items_held; metas_held = c.in_ok-made-in-Some.ensures.held.0 } in
    let made_read : AreRead m1 c.args.env.now made.metas Δ (plain_metas m1 made.metas) = record { items_are = r1.items_are; metas_are = refl } in
    let r2 = read_kept h1 m1 h2 m2 c.apply.ensures.kept c.args.env.now made.metas Δ (plain_metas m1 made.metas) made_held made_read in
    let more_read : AreRead m2 c.args.env.now applied.metas Δ (plain_metas m2 applied.metas) = record { items_are = r2.items_are; metas_are = refl } in
    answers h3 m3 _ (apply_to Δ Σ c.args.g d t n) (settled Δ Σ c.args.g d (plain_metas m2 applied.metas) (m2 applied.term) c.in_ok-fresh-in-Some.fresh made.holes u2) _ c.settled.result
    (begun ∙ after (apply (rules_env Δ) d a0 u1) a1 u2 (ending (plain_made m1 made)) fits ∙ ap (λ fs. settled Δ Σ c.args.g d (plain_metas m2 applied.metas) (m2 applied.term) fs made.holes u2) (sym c.in_ok-fresh-in-Some.ensures))
    (c.settled.ensures.value Δ Σ (plain_metas m2 applied.metas) d (m2 applied.term) more_read refl)

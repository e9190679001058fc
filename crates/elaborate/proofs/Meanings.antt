-- What is passed along means the same while the store grows, and stays of the store.
use Rattle.std.proofs.Common.{◌≡◌, ℕ, ◌<◌, List, [], ◌∷◌, length, All, Option, Some, None, option_map, refl, sym, ap, ◌∙◌, arith}
use Rattle.std.proofs.lemmas.List.{length-map}
use Rattle.ld_trees.specs.Term.{Term}
use Rattle.ld_terms.specs.Views.{Keeps}
use Rattle.ld_terms.specs.declared.globals.Local.{Local}
use Rattle.ld_terms.specs.declared.globals.Item.{Item}
use Rattle.ld_terms.specs.declared.globals.Decl.{Decl}
use Rattle.term_syntax.specs.Printing.{Names}
use Rattle.term_syntax.specs.Scoping.{Bound}
use Rattle.conversion.specs.Globals.{AreLocals, IsDeclOf, context_of}
use Rattle.conversion.proofs.Lookups.{globals_kept}
use Rattle.meta_context.specs.Entered.{names_of}
use Rattle.meta_context.specs.Plain.{plain_locals, rules_ctx}
use Rattle.meta_context.proofs.PlainItems.{context_again}
use Rattle.goal_state.specs.State.{plain_metas}
use Rattle.goal_state.proofs.Following.{items_kept, items_held}
use Rattle.goal_state.proofs.Means.{plain_metas_kept}
use Rattle.elaboration.specs.Elaboration.{Work, Surroundings}
use Rattle.pattern_unify.proofs.Meanings.{length_again, locals_held, locals_kept, metas_length}
use Rattle.pattern_unify.specs.Answers.{AreRead}
use Rattle.elaborate.specs.Steps.{Product}
use Rattle.elaborate.specs.Answers.{plain_made}
use Rattle.elaborate.specs.declared.made.Made.{Made as StoredMade}
use Rattle.elaborate.specs.declared.standing.Typed.{Typed}
use Rattle.elaborate.specs.Standing.{plain_typed, plain_work, plain_here, plain_want, plain_product, IsRead, IsHeld, IsWantIn, IsProductIn, MayBeProductIn}
use Rattle.elaborate.specs.declared.standing.Work.{Work as StoredWork}
use Rattle.elaborate.specs.declared.standing.Here.{Here}
use Rattle.elaborate.specs.declared.standing.Product.{Product as StoredProduct}
use Rattle.elaborate.specs.declared.standing.Want.{Want as StoredWant}
use Rattle.elaborate.specs.declared.standing.Want.TheVariants as want

pub room : {H : Type 0} {holds : H → Type 0} {items : List (Item H)} {work : StoredWork H} {here : Here H} → IsHeld holds items work here → length here.entries.now < 999999000
room {here = here} h = let count : length (names_of here.entries.now) ≡ length here.entries.now = length-map here.entries.now (λ l. l.name) in let few = h.names.few in omega arith

pub same_here : (o o' : Names) (b b' : Bound) (Γ Γ' : List (Local Term)) → o ≡ o' → b ≡ b' → Γ ≡ Γ'
    → (let x : Surroundings = record { outer = o; bound = b; entries = Γ } in let y : Surroundings = record { outer = o'; bound = b'; entries = Γ' } in x ≡ y)
same_here o o' b b' Γ Γ' p q r = λ i. record { outer = p i; bound = q i; entries = r i }

pub same_work : (M M' : List (Decl Term)) (gs gs' : List ℕ) (hs hs' : List (ℕ × ℕ)) → M ≡ M' → gs ≡ gs' → hs ≡ hs'
    → (let x : Work = record { metas = M; goals = gs; holes = hs } in let y : Work = record { metas = M'; goals = gs'; holes = hs' } in x ≡ y)
same_work M M' gs gs' hs hs' p q r = λ i. record { metas = p i; goals = q i; holes = r i }

pub same_made : {H : Type 0} (means : H → Term) (t : Typed H) (r : StoredMade H) → r.metas ≡ t.work.metas → r.goals ≡ t.work.goals → r.holes ≡ t.work.holes → r.term ≡ t.term → r.ty ≡ t.ty → plain_typed means t ≡ plain_made means r
same_made means t r a b c d e =
    let same : plain_made means r ≡ plain_typed means t = λ i. record { work = record { metas = plain_metas means (a i); goals = b i; holes = c i }; term = means (d i); ty = means (e i) } in
    sym same

module _ {H : Type 0} (means : H → Term) where
  pub names_again : (ls : List (Local H)) → names_of ls ≡ names_of (plain_locals means ls)
  names_again [] = refl
  names_again (l ∷ ls) = ap (λ ns. l.name ∷ ns) (names_again ls)

  module _ {items : List (Item H)} {work : StoredWork H} {here : Here H} {Δ : List (Item Term)} {w : Work} {s : Surroundings} (r : IsRead means items work here Δ w s) where
    pub globals_read : AreRead means items work.metas Δ w.metas
    globals_read = record { items_are = r.items_are; metas_are = ap (λ (w : Work). w.metas) r.work_is }

    pub entries_read : plain_locals means here.entries.now ≡ s.entries
    entries_read = ap (λ (s : Surroundings). s.entries) r.here_is

    pub depth_read : length here.entries.now ≡ length s.entries
    depth_read = sym (length_again means here.entries.now) ∙ ap (λ ls. length ls) entries_read

    pub context_read : context_of means here.entries.now ≡ rules_ctx s.entries
    context_read = context_again means here.entries.now ∙ ap rules_ctx entries_read

    pub count_read : length work.metas ≡ length w.metas
    count_read = sym (metas_length means work.metas) ∙ ap (λ (w : Work). length w.metas) r.work_is

-- ---- while the store grows

module _ {H : Type 0} (holds : H → Type 0) (means : H → Term) (holds' : H → Type 0) (means' : H → Term) (kept : Keeps holds means holds' means') where
  pub work_kept : (w : StoredWork H) → All (IsDeclOf holds) w.metas → plain_work means' w ≡ plain_work means w
  work_kept w a = ap (λ m. let v : Work = record { metas = m; goals = w.goals; holes = w.holes } in v) (plain_metas_kept holds means holds' means' kept w.metas a)

  pub here_kept : (here : Here H) → AreLocals holds here.entries.now → plain_here means' here ≡ plain_here means here
  here_kept here a =
      let s = plain_here means here in
      ap (λ ls. let v : Surroundings = record { outer = s.outer; bound = s.bound; entries = ls } in v) (locals_kept holds means holds' means' kept here.entries.now a)

  pub want_kept : (w : StoredWant H) → IsWantIn holds w → plain_want means' w ≡ plain_want means w
  want_kept want.Any h = refl
  want_kept (want.Of x) h = ap (λ t. plain_want (λ (t : Term). t) (want.Of t)) (kept x h).1
  want_kept want.AsType h = refl

  pub want_held : (w : StoredWant H) → IsWantIn holds w → IsWantIn holds' w
  want_held want.Any h = tt
  want_held (want.Of x) h = (kept x h).0
  want_held want.AsType h = tt

  one_product : (p : StoredProduct H) → IsProductIn holds p → plain_product means' p ≡ plain_product means p
  one_product p h = λ i. record { whole = (kept p.whole h.whole).1 i; domain = (kept p.domain h.domain).1 i; codomain = (kept p.codomain h.codomain).1 i }

  pub product_kept : (p : Option (StoredProduct H)) → MayBeProductIn holds p → option_map (plain_product means') p ≡ option_map (plain_product means) p
  product_kept None h = refl
  product_kept (Some p) h = ap (λ (p : Product). Some p) (one_product p h)

  pub product_held : (p : Option (StoredProduct H)) → MayBeProductIn holds p → MayBeProductIn holds' p
  product_held None h = tt
  product_held (Some p) h = record { whole = (kept p.whole h.whole).0; domain = (kept p.domain h.domain).0; codomain = (kept p.codomain h.codomain).0 }

  module _ {items : List (Item H)} {work : StoredWork H} {here : Here H} (h : IsHeld holds items work here) where
    -- what a call has come to, in the same surroundings
    pub held_next : (after : StoredWork H) → All (IsDeclOf holds') after.metas → IsHeld holds' items after here
    held_next after a = record {
      globals = record { items_held = items_held holds means holds' means' kept items h.globals.items_held; metas_held = a };
      entries = locals_held holds means holds' means' kept here.entries.now h.entries;
      names = h.names;
    }

    pub held_kept : IsHeld holds' items work here
    held_kept = record { globals = globals_kept holds means holds' means' kept items work.metas h.globals; entries = locals_held holds means holds' means' kept here.entries.now h.entries; names = h.names }

    pub read_next : {Δ : List (Item Term)} {w : Work} {s : Surroundings} (after : StoredWork H) (v : Work) → plain_work means' after ≡ v → IsRead means items work here Δ w s → IsRead means' items after here Δ v s
    read_next after v e r = record {
      items_are = items_kept holds means holds' means' kept items h.globals.items_held ∙ r.items_are;
      work_is = e;
      here_is = here_kept here h.entries ∙ r.here_is;
    }

    pub read_kept : {Δ : List (Item Term)} {w : Work} {s : Surroundings} → IsRead means items work here Δ w s → IsRead means' items work here Δ w s
    read_kept {w = w} r = read_next work w (work_kept work h.globals.metas_held ∙ r.work_is) r

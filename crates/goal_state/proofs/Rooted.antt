-- The value of a solved state is proved.
use Rattle.std.proofs.Common.{◌≡◌, ℕ, zero, suc, ◌<◌, List, [], ◌∷◌, false, Option, Some, None, option_map, is_none, slice_get, length, refl, sym, ap, ap₂, ◌∙◌, arith}
use Rattle.std.proofs.lemmas.Option.{same_Some}
use Rattle.ld_trees.specs.Term.{Term, Meta, none}
use Rattle.ld_terms.specs.declared.globals.Item.{Item}
use Rattle.ld_terms.specs.declared.globals.Decl.{Decl as StoredDecl}
use Rattle.conversion.specs.Globals.{context_of}
use Rattle.meta_trees.specs.MetaContext.{Decl, Metas}
use Rattle.meta_trees.specs.Dependencies.{below}
use Rattle.meta_context.specs.Plain.{rules_env}
use Rattle.meta_context.specs.Stored.{decl_of, metas_of}
use Rattle.meta_laws.specs.Unfolding.{unfold_metas, value_of_root, IsSolved as AreAssigned}
use Rattle.meta_laws.proofs.Solved.{solved_is_proved as value_is_proved}
use Rattle.goal_state.specs.State.{lacks_value, is_open, rules_metas, root_value, IsLegalState}
use Rattle.goal_state.specs.StoredState.{StoredState, plain_state}
use Rattle.goal_state.specs.Laws.{IsProof, SolvedIsProved}
use Rattle.goal_state.proofs.Lists.{none_passes}
use Rattle.goal_state.proofs.Means.{decl_found, metas_again}

get_below : {A : Type 0} (xs : List A) (i : ℕ) (x : A) → slice_get xs i ≡ Some x → i < length xs
get_below [] i x e = absurd cc
get_below (y ∷ xs) zero x e = omega arith
get_below (y ∷ xs) (suc i) x e = let h = get_below xs i x e in omega arith

there : {A B : Type 0} (f : A → B) (o : Option A) (d : B) → option_map f o ≡ Some d → (c : A) × (o ≡ Some c)
there f None d e = absurd cc
there f (Some c) d e = (c, refl)

some_value : (o : Option Term) → is_none o ≡ false → (v : Term) × (option_map (λ t. t) o ≡ Some v)
some_value None e = absurd cc
some_value (Some v) e = (v, refl)

value_there : (o : Option (StoredDecl Term)) (d : Decl) → option_map (decl_of (λ t. t)) o ≡ Some d → lacks_value o ≡ false → (v : Term) × (d.value ≡ Some v)
value_there None d e f = absurd cc
value_there (Some c) d e f =
    let q : decl_of (λ t. t) c ≡ d = same_Some _ _ e in
    let w = some_value c.value f in
    (w.0, sym (ap (λ d. d.value) q) ∙ w.1)

-- where no goal is open, each metavariable has a value
pub all_assigned : (ds : List (StoredDecl Term)) → below (is_open ds) (length ds) ≡ [] → AreAssigned (rules_metas ds)
all_assigned ds s m d e =
    let f : option_map (decl_of (λ t. t)) (slice_get ds m) ≡ Some d = sym (decl_found (λ t. t) ds m) ∙ e in
    let c = there (decl_of (λ t. t)) (slice_get ds m) d f in
    let l = get_below ds m c.0 c.1 in
    value_there (slice_get ds m) d f (none_passes (is_open ds) (length ds) m s l)

root_proved : (items : List (Item Term)) (metas : List (StoredDecl Term)) (goals : List ℕ) → IsLegalState (record { items = items; metas = metas; goals = goals }) → below (is_open metas) (length metas) ≡ []
    → IsProof (record { items = items; metas = metas; goals = goals }) (value_of_root (rules_metas metas))
root_proved items [] goals ok s = absurd ok.root
root_proved items (d ∷ ds) goals ok s =
    let p = value_is_proved (rules_env items) (rules_metas (d ∷ ds)) (decl_of (λ t. t) d) ok.legal (all_assigned (d ∷ ds) s) refl (ap (context_of (λ t. t)) ok.root) in
    record { derives = p.0; closed = p.1; whole = p.2 }

pub solved_is_proved : SolvedIsProved
solved_is_proved s ok solved = root_proved s.items s.metas s.goals ok solved

-- metavariable 0 unfolded, in a store that has grown
pub root_unfolded : {T H : Type 0} (means : T → H → Term) (s : StoredState T H) (Σ : Metas) (t x : Term) → Σ ≡ metas_of (means s.terms) s.metas → t ≡ Meta 0 none → x ≡ unfold_metas Σ t
    → x ≡ root_value (plain_state means s)
root_unfolded means s Σ t x same q e = e ∙ ap₂ unfold_metas same q ∙ ap (λ Σ. unfold_metas Σ (Meta 0 none)) (sym (metas_again (means s.terms) s.metas))

-- The type of an entry of a context is the stored type, shifted.
use Rattle.std.proofs.Common.{◌≡◌, ℕ, zero, suc, ◌+◌, ◌<◌, ◌≤◌, List, map, length, Some, None, option_map, get_or, refl, sym, ap, ◌∙◌, arith}
use mathlib.Core.Path.{fun_ext}
use Rattle.ld_trees.specs.Term.{Term, Var, none, ◌▹◌, count}
use Rattle.ld_trees.specs.Substitution.{rename, weaken, instantiate, raise, shift}
use Rattle.ld_trees.proofs.SubstitutionLaws.{rename_rename}
use Rattle.ld_trees.proofs.Recursions.{shift_is, subst_all_is}
use Rattle.ld_rules.specs.Environment.{Ctx, type_at}
use Rattle.ld_terms.specs.Views.{terms_of}
use Rattle.ld_terms.proofs.Instantiation.{argument_for, shift_none}

shift_one : (t : Term) → weaken t ≡ shift 0 1 t
shift_one t = ap (λ r. rename r t) (fun_ext (λ i. let q : suc i ≡ i + 1 = omega arith in q)) ∙ sym (shift_is t 0 1)

shift_more : (k : ℕ) (t : Term) → weaken (shift 0 k t) ≡ shift 0 (suc k) t
shift_more k t =
    ap weaken (shift_is t 0 k)
    ∙ rename_rename suc (raise 0 k) t
    ∙ ap (λ r. rename r t) (fun_ext (λ i. let q : suc (i + k) ≡ i + suc k = omega arith in q))
    ∙ sym (shift_is t 0 (suc k))

typed : (Γ : Ctx) (i : ℕ) → i < count Γ → type_at Γ i ≡ Some (shift 0 (suc i) (instantiate Γ i))
typed none i l = absurd (omega arith)
typed (Γ ▹ A) zero l = ap Some (shift_one A)
typed (Γ ▹ A) (suc i) l = ap (option_map weaken) (typed Γ i (omega arith)) ∙ ap Some (shift_more (suc i) (instantiate Γ i))

pub no_entry : (Γ : Ctx) (i : ℕ) → count Γ ≤ i → type_at Γ i ≡ None
no_entry none i l = refl
no_entry (Γ ▹ A) zero l = absurd (omega arith)
no_entry (Γ ▹ A) (suc i) l = ap (option_map weaken) (no_entry Γ i (omega arith))

pub entry_at : {H : Type 0} (means : H → Term) (hs : List H) (h : H) (Γ : Ctx) (i k j : ℕ) → terms_of (map means hs) ≡ Γ → i < count Γ → i + k + 1 ≡ length hs → j ≡ i + 1 → h ≡ get_or hs k h →
    type_at Γ i ≡ Some (shift 0 j (means h))
entry_at means hs h Γ i k j r l e n is =
    let found : instantiate (terms_of (map means hs)) i ≡ means h =
    sym (subst_all_is (Var i) (terms_of (map means hs))) ∙ sym (argument_for means hs h 0 i k (omega arith) (omega arith) is) ∙ shift_none (means h) 0 in
    let q : suc i ≡ j = omega arith in
    typed Γ i l ∙ ap (λ x. Some (shift 0 (suc i) (instantiate x i))) (sym r) ∙ ap (λ x. Some (shift 0 (suc i) x)) found ∙ ap (λ x. Some (shift 0 x (means h))) q

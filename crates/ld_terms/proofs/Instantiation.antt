-- What stands for a variable when a list of arguments is put in, and shifts that change nothing.
use Rattle.std.proofs.Common.{◌≡◌, ℕ, zero, suc, ◌+◌, ◌-◌, ◌<◌, ◌≤◌, List, [], ◌∷◌, length, map, refl, sym, ap, ap₂, ◌∙◌, arith, get_or, true, false, nat_lt, Bool, if◌then◌else◌}
use Rattle.std.proofs.lemmas.List.{length-map, get_or-map}
use Rattle.std.proofs.lemmas.Bool.Decides.{nat_tests}
use Rattle.ld_trees.specs.Term.{Term, Srt, Var, App, Lam, Pi, Con, Terms, none, ◌▹◌}
use Rattle.ld_trees.specs.Substitution.{instantiate, shift, shifts, subst_at, subst_all}
use Rattle.ld_trees.proofs.SubstitutionLaws.{subst_var}
use Rattle.ld_terms.specs.Views.{terms_onto, terms_of}

variable_itself : (from i : ℕ) → (if nat_lt i from then i else i + 0) ≡ i
variable_itself from i = go (nat_lt i from)
  where
    go : (b : Bool) → (if b then i else i + 0) ≡ i
    go true = refl
    go false = omega arith

-- a shift by 0 changes nothing
mutual
  pub shift_none : (t : Term) (from : ℕ) → shift from 0 t ≡ t
  shift_none (Srt s) from = refl
  shift_none (Var i) from = ap Var (variable_itself from i)
  shift_none (App f a) from = ap₂ App (shift_none f from) (shift_none a from)
  shift_none (Lam A M) from = ap₂ Lam (shift_none A from) (shift_none M (from + 1))
  shift_none (Pi A B) from = ap₂ Pi (shift_none A from) (shift_none B (from + 1))
  shift_none (Con h us) from = ap (Con h) (shifts_none us from)

  pub shifts_none : (us : Terms) (from : ℕ) → shifts from 0 us ≡ us
  shifts_none none from = refl
  shifts_none (us ▹ u) from = ap₂ ◌▹◌ (shifts_none us from) (shift_none u from)

-- no arguments change nothing
pub subst_all_none : (t : Term) → subst_all none t ≡ t
subst_all_none t = subst_var t

pub no_arguments : {H : Type 0} (means : H → Term) (hs : List H) → length hs ≡ 0 → terms_of (map means hs) ≡ none
no_arguments means [] e = refl
no_arguments means (h ∷ hs) e = absurd (omega arith)

past : (us : Terms) (xs : List Term) (j k : ℕ) → j ≡ k + length xs → instantiate (terms_onto us xs) j ≡ instantiate us k
past us [] j k e = let q : j ≡ k = omega arith in ap (instantiate us) q
past us (x ∷ xs) j k e = past (us ▹ x) xs j (suc k) (omega arith)

within : (us : Terms) (xs : List Term) (j k : ℕ) (d : Term) → j + k + 1 ≡ length xs → instantiate (terms_onto us xs) j ≡ get_or xs k d
within us [] j k d e = absurd (omega arith)
within us (x ∷ xs) j zero d e = past (us ▹ x) xs j zero (omega arith)
within us (x ∷ xs) j (suc k) d e = within (us ▹ x) xs j k d (omega arith)

under : (d i : ℕ) (us : Terms) → d ≤ i → subst_at d us (Var i) ≡ shift 0 d (instantiate us (i - d))
under d i us l = go (nat_lt i d) refl
  where
    go : (b : Bool) → nat_lt i d ≡ b → (if b then Var i else shift 0 d (instantiate us (i - d))) ≡ shift 0 d (instantiate us (i - d))
    go true e = absurd (let m : i < d = grind (arith, nat_tests) in omega arith)
    go false e = refl

-- an argument stands for the variable that counts as many entries from the end
pub argument_for : {H : Type 0} (means : H → Term) (hs : List H) (h : H) (d i k : ℕ) → d ≤ i → i - d + k + 1 ≡ length hs → h ≡ get_or hs k h →
    shift 0 d (means h) ≡ subst_at d (terms_of (map means hs)) (Var i)
argument_for means hs h d i k l e is =
    let n : i - d + k + 1 ≡ length (map means hs) = omega (arith, length-map hs means) in
    ap (λ x. shift 0 d (means x)) is
    ∙ ap (shift 0 d) (sym (get_or-map means hs k h (means h) (omega arith)))
    ∙ ap (shift 0 d) (sym (within none (map means hs) (i - d) k (means h) n))
    ∙ sym (under d i (terms_of (map means hs)) l)

free_shift : (d k : ℕ) → shift 0 d (Var k) ≡ Var (k + d)
free_shift d k = go (nat_lt k 0) refl
  where
    go : (b : Bool) → nat_lt k 0 ≡ b → Var (if b then k else k + d) ≡ Var (k + d)
    go true e = absurd (let m : k < 0 = grind (arith, nat_tests) in omega arith)
    go false e = refl

-- a variable beyond the arguments is lowered by their number
pub lowered_variable : {H : Type 0} (means : H → Term) (hs : List H) (d i j : ℕ) → d + length hs ≤ i → j + length hs ≡ i →
    Var j ≡ subst_at d (terms_of (map means hs)) (Var i)
lowered_variable means hs d i j l e =
    let n : i - d ≡ (i - d - length hs) + length (map means hs) = omega (arith, length-map hs means) in
    let q : j ≡ i - d - length hs + d = omega arith in
    ap Var q
    ∙ sym (free_shift d (i - d - length hs))
    ∙ ap (shift 0 d) (sym (past none (map means hs) (i - d) (i - d - length hs) n))
    ∙ sym (under d i (terms_of (map means hs)) (omega arith))

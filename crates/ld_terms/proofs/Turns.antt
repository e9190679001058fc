-- Loops that make arguments out of arguments, in a store that grows.
use Rattle.std.proofs.Common.{◌≡◌, ℕ, zero, suc, ◌+◌, ◌<◌, List, [], ◌∷◌, ◌++◌, length, take, map, All, refl, sym, ap, ap₂, ◌∙◌, arith, get_or}
use Rattle.std.proofs.lemmas.List.Elements.{All-append}
use Rattle.ld_trees.specs.Term.{Term, Terms, ◌▹◌}
use Rattle.ld_trees.specs.Substitution.{subst_at}
use Rattle.ld_terms.specs.Views.{terms_of, Keeps}
use Rattle.ld_terms.proofs.Arguments.{terms_of_end, terms_of_more}

pub keeps_both : {H : Type 0} (holds : H → Type 0) (means : H → Term) (holds' : H → Type 0) (means' : H → Term) (holds'' : H → Type 0) (means'' : H → Term) →
    Keeps holds means holds' means' → Keeps holds' means' holds'' means'' → Keeps holds means holds'' means''
keeps_both holds means holds' means' holds'' means'' k l h p = let a = k h p in let b = l h a.0 in (b.0, b.1 ∙ a.1)

pub keeps_all : {H : Type 0} (holds : H → Type 0) (means : H → Term) (holds' : H → Type 0) (means' : H → Term) (hs : List H) →
    Keeps holds means holds' means' → All holds hs → All holds' hs
keeps_all holds means holds' means' hs k a i d l = (k (get_or hs i d) (a i d l)).0

pub keeps_map : {H : Type 0} (holds : H → Type 0) (means : H → Term) (holds' : H → Type 0) (means' : H → Term) (hs : List H) →
    Keeps holds means holds' means' → All holds hs → map means' hs ≡ map means hs
keeps_map holds means holds' means' [] k a = refl
keeps_map holds means holds' means' (h ∷ hs) k a =
    ap₂ ◌∷◌ (k h (a 0 h (omega arith))).1 (keeps_map holds means holds' means' hs k (λ i d l. a (suc i) d (omega arith)))

all_one : {H : Type 0} (P : H → Type 0) (h : H) → P h → All P (h ∷ [])
all_one P h p zero d l = p
all_one P h p (suc i) d l = absurd (omega arith)

-- After i turns the handles made mean what fs gives for the first i arguments, and the handles so far mean what they meant.
pub record Turn {H : Type 0} (holds : H → Type 0) (means : H → Term) (holds' : H → Type 0) (means' : H → Term) (fs : Terms → Terms) (hs made : List H) (i : ℕ) : Type 0 where
  pub kept : Keeps holds means holds' means'
  pub held : All holds' made
  pub trees : terms_of (map means' made) ≡ fs (terms_of (map means (take i hs)))

pub turn : {H : Type 0} (holds : H → Type 0) (means : H → Term) (holds' : H → Type 0) (means' : H → Term) (holds'' : H → Type 0) (means'' : H → Term)
    (fs : Terms → Terms) (f : Term → Term) → ((us : Terms) (u : Term) → fs (us ▹ u) ≡ fs us ▹ f u) →
    (hs made : List H) (i : ℕ) (h r : H) → Turn holds means holds' means' fs hs made i → All holds hs → i < length hs → h ≡ get_or hs i h →
    Keeps holds' means' holds'' means'' → holds'' r → means'' r ≡ f (means' h) →
    Turn holds means holds'' means'' fs hs (made ++ r ∷ []) (i + 1)
turn holds means holds' means' holds'' means'' fs f step hs made i h r t a l e k held is = record {
  kept = keeps_both holds means holds' means' holds'' means'' t.kept k;
  held = All-append holds'' made (r ∷ []) (keeps_all holds' means' holds'' means'' made k t.held) (all_one holds'' r held);
  trees =
      let at : holds h = rw e (a i h l) in
      terms_of_end means'' made r
      ∙ ap₂ ◌▹◌ (ap terms_of (keeps_map holds' means' holds'' means'' made k t.held) ∙ t.trees) (is ∙ ap f ((t.kept h at).1 ∙ ap means e))
      ∙ sym (ap fs (terms_of_more means hs i h l) ∙ step (terms_of (map means (take i hs))) (means (get_or hs i h)));
}

-- the two parts of a node, of which the second is made in a store that has grown by the first
pub both_parts : {H : Type 0} (holds : H → Type 0) (means : H → Term) (holds' : H → Type 0) (means' : H → Term) (holds'' : H → Type 0) (means'' : H → Term)
    (hs : List H) (f a f' a' : H) (d b e : ℕ) → b ≡ e → Keeps holds means holds' means' → Keeps holds' means' holds'' means'' → All holds hs → holds a → holds' f' →
    means' f' ≡ subst_at d (terms_of (map means hs)) (means f) →
    means'' a' ≡ subst_at b (terms_of (map means' hs)) (means' a) →
    (means'' f' ≡ subst_at d (terms_of (map means hs)) (means f)) × (means'' a' ≡ subst_at e (terms_of (map means hs)) (means a))
both_parts holds means holds' means' holds'' means'' hs f a f' a' d b e n k l all ha hf p q = (
  (l f' hf).1 ∙ p,
  q
      ∙ ap₂ (λ ts t. subst_at b (terms_of ts) t) (keeps_map holds means holds' means' hs k all) (k a ha).1
      ∙ ap (λ m. subst_at m (terms_of (map means hs)) (means a)) n,
)

-- Texts that are appended one after the other.
use Rattle.std.proofs.Common.{◌≡◌, ℕ, List, ◌++◌, ap, refl, ◌∙◌, append_assoc}

pub joined : (old t u a b : List ℕ) → t ≡ old ++ a → u ≡ t ++ b → u ≡ old ++ (a ++ b)
joined old t u a b first second = second ∙ ap (λ l. l ++ b) first ∙ append_assoc old a b

regrouped : (head state middle name index end : List ℕ) → (head ++ state ++ (middle ++ name)) ++ (index ++ end) ≡ head ++ state ++ middle ++ (name ++ index) ++ end
regrouped head state middle name index end = simp append_assoc refl

-- two texts with a number in each, where the second number belongs to a name that ends the first text
pub named : (old t u head state middle name index end : List ℕ) → t ≡ old ++ (head ++ state ++ (middle ++ name)) → u ≡ t ++ (index ++ end) → u ≡ old ++ (head ++ state ++ middle ++ (name ++ index) ++ end)
named old t u head state middle name index end first second =
    joined old t u (head ++ state ++ (middle ++ name)) (index ++ end) first second ∙ ap (λ l. old ++ l) (regrouped head state middle name index end)

pub spread : (head state a b c : List ℕ) → head ++ state ++ (a ++ (b ++ c)) ≡ head ++ state ++ a ++ b ++ c
spread head state a b c = simp append_assoc refl

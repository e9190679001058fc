-- Views that go on from each other by entries of other passes.
use Rattle.std.proofs.Common.{◌≡◌, ℕ, ◌+◌, ◌<◌, ◌≤◌, Bool, true, false, ◌⊎◌, List, [], ◌∷◌, ◌++◌, length, refl, sym, ap, ◌∙◌, subst, ⊎_elim, arith, if◌then◌else◌, nat_lt, length-append}
use Rattle.std.proofs.lemmas.Bool.{ltb-true, ltb-false}
use Rattle.std.proofs.lemmas.List.{append_assoc, append-nil}
use Rattle.std.proofs.lemmas.List.Elements.{All-append}
use Rattle.turn_lock.specs.Journals.{DifferByOthers, ExtendsByOthers, IsByOthers, longer}
use Rattle.turn_lock.proofs.Extending.{goes_all}

module _ {E : Type 0} (pass_of : E → ℕ) where
  -- one step and then another
  pub goes_on : (xs ys zs : List E) (own : List ℕ) → ExtendsByOthers pass_of xs ys own → ExtendsByOthers pass_of ys zs own → ExtendsByOthers pass_of xs zs own
  goes_on xs ys zs own a b = record {
    more = a.more ++ b.more;
    is = sym (append_assoc xs a.more b.more) ∙ (ap (λ (l : List E). l ++ b.more) a.is ∙ b.is);
    by_others = All-append (IsByOthers pass_of own) a.more b.more a.by_others b.by_others;
  }

  no_shorter : (xs ys : List E) (own : List ℕ) → ExtendsByOthers pass_of xs ys own → length xs ≤ length ys
  no_shorter xs ys own g = let e : length xs + length g.more ≡ length ys = sym (length-append xs g.more) ∙ ap length g.is in omega arith

  same_length : (xs m ys : List E) → xs ++ m ≡ ys → length ys ≤ length xs → ys ≡ xs
  same_length xs [] ys e le = sym e ∙ append-nil xs
  same_length xs (x ∷ m) ys e le = let l : length xs + length (x ∷ m) ≡ length ys = sym (length-append xs (x ∷ m)) ∙ ap length e in absurd (omega arith)

  -- of two views, each is a beginning of the longer
  pub both_begin : (xs ys : List E) (own others : List ℕ) → DifferByOthers pass_of xs own ys others → ExtendsByOthers pass_of xs (longer xs ys) own × ExtendsByOthers pass_of ys (longer xs ys) others
  both_begin xs ys own others d = cases (nat_lt (length xs) (length ys)) refl
    where
      cases : (c : Bool) → nat_lt (length xs) (length ys) ≡ c → ExtendsByOthers pass_of xs (if c then ys else xs) own × ExtendsByOthers pass_of ys (if c then ys else xs) others
      cases true e =
          let lt : length xs < length ys = ltb-true _ _ e in
          (⊎_elim (λ (a : ExtendsByOthers pass_of xs ys own). a) (λ (b : ExtendsByOthers pass_of ys xs others). let le = no_shorter ys xs others b in absurd (omega arith)) d, goes_all pass_of ys ys others refl)
      cases false e =
          let le : length ys ≤ length xs = ltb-false _ _ e in
          (goes_all pass_of xs xs own refl, ⊎_elim (λ (a : ExtendsByOthers pass_of xs ys own). subst (λ (z : List E). ExtendsByOthers pass_of ys z others) (same_length xs a.more ys a.is le) (goes_all pass_of ys ys others refl)) (λ (b : ExtendsByOthers pass_of ys xs others). b) d)

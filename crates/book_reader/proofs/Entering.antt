-- A book's items, one after another.
use Rattle.std.proofs.Common.{◌≡◌, ℕ, zero, suc, ◌+◌, ◌<◌, ◌≤◌, List, ◌∷◌, length, All, drop, get_or, Result, Ok, Err, sym, ap, ap₂, ◌∙◌, arith, subst}
use Rattle.std.specs.Prelude.{IsErrAnd}
use Rattle.std.proofs.lemmas.List.{drop_all}
use Rattle.ld_trees.specs.Term.{Term}
use Rattle.ld_terms.specs.declared.globals.Item.{Item}
use Rattle.conversion.specs.Globals.{IsItemOf}
use Rattle.book_reader.specs.declared.source.Source.{Source}
use Rattle.book_reader.specs.declared.checked.ItemFault.{ItemFault}
use Rattle.book_reader.specs.declared.checked.ItemFault.TheVariants as fault
use Rattle.book_reader.specs.declared.fault.BookFault.{BookFault}
use Rattle.book_reader.specs.Items.{ItemRefusal, item}
use Rattle.book_reader.specs.Book.{BookRefusal, behind, enter}
use Rattle.book_reader.specs.Checked.{Shows}
use Rattle.book_reader.specs.Answers.{ShowsBook, IsBook}
use Rattle.meta_context.specs.Plain.{plain_items}
use Rattle.book_reader.specs.Entering.{fault_at, IsStep}
use Rattle.book_reader.proofs.Meanings.{drop_at}

module _ {H : Type 0} (holds : H → Type 0) (means : H → Term) where
  pub shows_at : {A : Type 0} (k : ℕ) (o : Result (Item Term × ℕ) ItemRefusal) (f : Item Term → Result A BookRefusal) (e : ItemFault H) → Shows holds means o e → ShowsBook holds means (behind k o f) (fault_at k e)
  shows_at k o f (fault.NameTaken name) h = ap (λ o. behind k o f) h
  shows_at k o f (fault.Scope e) h = (h.0, ap (λ o. behind k o f) h.1, h.2)
  shows_at k o f (fault.Kernel e) h = (h.0, ap (λ o. behind k o f) h.1, h.2)
  shows_at k o f fault.Memory h = tt

  pub passed_on : (o : Result (List (Item Term)) BookRefusal) (r : Result (List (Item H)) (BookFault H)) (e : BookFault H) → IsErrAnd r (λ x. x ≡ e) → ShowsBook holds means o e → IsBook holds means o r
  passed_on o (Ok x) e p h = absurd p
  passed_on o (Err x) e p h = subst (ShowsBook holds means o) (sym p) h

pub enter_next : (units k : ℕ) (Δ : List (Item Term)) (ss : List Source) (i : ℕ) (s : Source) → i < length ss → s ≡ get_or ss i s
    → enter units k Δ (drop i ss) ≡ behind k (item Δ s units) (λ x. enter units (suc k) (x ∷ Δ) (drop (i + 1) ss))
enter_next units k Δ ss i s l e = ap (enter units k Δ) (drop_at ss i s l e)

pub enter_over : (units k : ℕ) (Δ : List (Item Term)) (ss : List Source) (i : ℕ) → length ss ≤ i → enter units k Δ (drop i ss) ≡ Ok Δ
enter_over units k Δ ss i l = ap (enter units k Δ) (drop_all i ss l)

pub all_first : {A : Type 0} (P : A → Type 0) (x : A) (xs : List A) → P x → All P xs → All P (x ∷ xs)
all_first P x xs h a zero d l = h
all_first P x xs h a (suc k) d l = a k d (omega arith)

-- a step that was refused, and one that went on
module _ {H : Type 0} (holds : H → Type 0) (means : H → Term) (units k : ℕ) (Δ : List (Item Term)) (ss : List Source) (i : ℕ) (s : Source) (l : i < length ss) (is : s ≡ get_or ss i s) where
  pub faulted : (e : BookFault H) → IsStep holds means k Δ (item Δ s units) (Err e) → ShowsBook holds means (enter units k Δ (drop i ss)) e
  faulted e (f, same, h) = subst (λ e. ShowsBook holds means (enter units k Δ (drop i ss)) e) (sym same)
      (subst (λ o. ShowsBook holds means o (fault_at k f)) (sym (enter_next units k Δ ss i s l is)) (shows_at holds means k (item Δ s units) (λ x. enter units (suc k) (x ∷ Δ) (drop (i + 1) ss)) f h))

  pub after_step : (items : List (Item H)) (n : ℕ) → IsStep holds means k Δ (item Δ s units) (Ok items) → n ≡ k + 1 → enter units k Δ (drop i ss) ≡ enter units n (plain_items means items) (drop (i + 1) ss)
  after_step items n (x, left, gave, made, held) e =
      let next : suc k ≡ n = omega (arith, e) in
      enter_next units k Δ ss i s l is ∙ ap (λ o. behind k o (λ x. enter units (suc k) (x ∷ Δ) (drop (i + 1) ss))) gave
      ∙ ap₂ (λ k (Δ : List (Item Term)). enter units k Δ (drop (i + 1) ss)) next (sym made)

pub step_held : {H : Type 0} (holds : H → Type 0) (means : H → Term) (k : ℕ) (Δ : List (Item Term)) (o : Result (Item Term × ℕ) ItemRefusal) (items : List (Item H)) → IsStep holds means k Δ o (Ok items) → All (IsItemOf holds) items
step_held holds means k Δ o items (x, left, gave, made, held) = held

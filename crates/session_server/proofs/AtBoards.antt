-- The calls of a board, in the words of a desk.
use Rattle.std.proofs.Common.{◌≡◌, ℕ, Bool, true, false, cond, append-nil, List, [], ◌∷◌, refl, sym, ◌∙◌, ap, subst, arith, All, Contains, zero}
use Rattle.std.proofs.lemmas.List.Elements.{All-head, All-tail}
use Rattle.turn_lock.specs.Journals.{IsByOthers}
use Rattle.repl_json.specs.declared.request.Ask.{Ask}
use Rattle.state_tree.specs.declared.tree.Outcome.{Outcome}
use Rattle.state_tree.specs.declared.work.Found.{Found}
use Rattle.state_tree.specs.declared.work.Entry.{Entry}
use Rattle.state_tree.specs.Value.{Value}
use Rattle.state_tree.specs.Prepared.{Prepared}
use Rattle.state_tree.specs.Enters.{Enters}
use Rattle.shared_board.specs.declared.board_tree.TreeGround.{TreeGround}
use Rattle.shared_board.specs.Boards.{BoardPassMeaning, pass_of}
use Rattle.shared_board.specs.Calls.{GoesOnFrom, OnlySeesMore, IsInTime, IsWorn, EntersAfter, tree_with}
use Rattle.session_server.specs.Own.{is_own, own}
use Rattle.session_server.specs.Sees.{OthersCome, EntersThere}
use Rattle.session_server.specs.Desks.{Went, Wore, board_desk}
use Rattle.session_server.proofs.OwnLemmas.{is_same}

first_in : (n : ℕ) (ns : List ℕ) → Contains (n ∷ ns) n
first_in n ns = (zero, omega arith, refl)

not_taken : {A : Type 0} (b : Bool) (x : A) (xs : List A) → (b ≡ true → ⊥) → cond b (x ∷ xs) xs ≡ xs
not_taken true x xs never = absurd (never refl)
not_taken false x xs never = refl

-- entries that carry none of a pass's numbers aren't its own
pub none_own : (number : ℕ) (took : List ℕ) (more : List Entry) → All (IsByOthers pass_of (number ∷ took)) more → own number more ≡ []
none_own number took [] all = refl
none_own number took (e ∷ more) all =
    let other = All-head (IsByOthers pass_of (number ∷ took)) e more all in
    not_taken (is_own number e) e (own number more) (λ h. other (subst (λ (n : ℕ). Contains (number ∷ took) n) (sym (is_same e.pass number h)) (first_in number took)))
    ∙ none_own number took more (All-tail (IsByOthers pass_of (number ∷ took)) e more all)

module _ {E : Type 0} (the_ground : TreeGround E) (number : ℕ) where
  pub others_at : (old : BoardPassMeaning E) (journal : List Entry) → old.number ≡ number → GoesOnFrom old journal → OthersCome false number (tree_with the_ground old.seen) (tree_with the_ground journal)
  others_at old journal is goes = record {
    since = goes.more;
    sees = record { grows = ap (tree_with the_ground) (sym goes.is); by_it = λ h. absurd (let no : false ≡ true = h in cc) };
    others = subst (λ (n : ℕ). own n goes.more ≡ []) is (none_own old.number old.took goes.more goes.by_others);
  }

  pub others_none_at : (old new : BoardPassMeaning E) → new.seen ≡ old.seen → OthersCome false number (tree_with the_ground old.seen) (tree_with the_ground new.seen)
  others_none_at old new is = record {
    since = [];
    sees = record { grows = ap (tree_with the_ground) is ∙ ap (tree_with the_ground) (sym (append-nil old.seen)); by_it = λ h. tt };
    others = refl;
  }

  rest_at : (old new : BoardPassMeaning E) → OnlySeesMore old new → record new { seen = []; found = 0 } ≡ record old { seen = []; found = 0 }
  rest_at old new same = ap (λ (p : BoardPassMeaning E). record p { seen = []; found = 0 }) same.same

  pub went_at : (old new : BoardPassMeaning E) → OnlySeesMore old new → IsInTime old new → Went (board_desk the_ground number) old new
  went_at old new same time = record { rest_is = rest_at old new same; later = same.found; in_time = time }

  pub wore_at : (turns : ℕ) (old new : BoardPassMeaning E) → OnlySeesMore old new → IsWorn turns old new → Wore (board_desk the_ground number) turns old new
  wore_at turns old new same worn = record { rest_is = rest_at old new same; later = same.found; turns_are = worn.turns_are; all_drawn = worn.all_drawn }

  pub number_at : (old new : BoardPassMeaning E) → OnlySeesMore old new → old.number ≡ number → new.number ≡ number
  number_at old new same is = ap (λ (p : BoardPassMeaning E). p.number) same.same ∙ is

-- entering at a board
pub there_at : {E S W : Type 0} (V : Ask → Found E S → Value E S) (the_ground : TreeGround E) (number : ℕ) (old new : BoardPassMeaning E) (ready : Prepared E S) (outcome : Outcome W E S)
    → old.number ≡ number → EntersAfter V the_ground old new ready outcome → EntersThere V false number (tree_with the_ground old.seen) (tree_with the_ground new.seen) ready outcome
there_at V the_ground number old new ready outcome is after = record {
  tree = tree_with the_ground after.journal;
  others = others_at the_ground number old after.journal is after.others;
  enters = subst (λ (n : ℕ). Enters V (tree_with the_ground after.journal) (tree_with the_ground new.seen) n ready outcome) is after.enters;
}

-- The session of a demo, and what it comes to.
use Rattle.std.proofs.Common.{◌≡◌, ℕ, ◌≤◌, ◌^◌, ◌&&◌, inl, inr, Bool, true, false, suc, List, [], ◌∷◌, ◌++◌, length, map, Option, Some, Result, Ok, Err, refl, sym, ap, ◌∙◌, arith, subst}
use Rattle.std.specs.List.{AllByRecursion, list_all}
use Rattle.std.specs.Prelude.{IfSome, IfOk}
use Rattle.pan_io.specs.Faults.{Rose}
use Rattle.goal_state.specs.State.{State}
use Rattle.command_set.specs.Values.{value}
use Rattle.state_tree.specs.declared.work.Entry.{Entry}
use Rattle.state_tree.specs.declared.work.Gave.{Gave}
use Rattle.state_tree.specs.declared.work.Gave.TheVariants.{Answer, Memory}
use Rattle.state_tree.specs.Server.{PlainTree, replies, step, replay}
use Rattle.state_tree.specs.TreeModel.{TreeModel}
use Rattle.state_tree.specs.Enters.{tree_of}
use Rattle.session_server.specs.Input.{requests_of_input}
use Rattle.session_server.specs.Entered.{requests_in, output_of}
use Rattle.session_server.specs.Session.{Session, EntersOf}
use Rattle.session_server.specs.declared.run.End.{End}
use Rattle.session_server.specs.declared.run.End.TheVariants as ending
use Rattle.panto_cli.specs.Books.{Items}
use Rattle.panto_cli.specs.Demo.{IsCountOf, IsOwnEnd, answered, all_answered, counts_of, empty_tree, errors_in, is_answer, is_answered}
use Rattle.panto_cli.specs.Run.{opened}
use Rattle.panto_cli.specs.declared.counts.Counts.{Counts}
use Rattle.panto_cli.proofs.Sessions.{entered, not_full}

-- ---- entries

left_of : (a b : Bool) → (a && b) ≡ true → a ≡ true
left_of true b h = refl
left_of false b h = h

right_of : (a b : Bool) → (a && b) ≡ true → b ≡ true
right_of true b h = h
right_of false b h = absurd cc

answer_is : (gave : Gave) → is_answer gave ≡ true → gave ≡ Answer
answer_is Answer h = refl
answer_is Memory h = absurd cc

one_answered : (e : Entry) → e.pass ≡ 0 → is_answered e ≡ true → e ≡ answered e.request
one_answered e pass gave = λ i. record { pass = pass i; request = e.request; gave = answer_is e.gave gave i }

-- the entries of pass 0 that were answered are their requests, answered
entries_are : (es : List Entry) → AllByRecursion (λ e. e.pass ≡ 0) es → list_all is_answered es ≡ true → es ≡ map answered (requests_in es)
entries_are [] pass gave = refl
entries_are (e ∷ es) pass gave =
    λ i. one_answered e pass.0 (left_of (is_answered e) (list_all is_answered es) gave) i ∷ entries_are es pass.1 (right_of (is_answered e) (list_all is_answered es) gave) i

replies_count : (t : PlainTree Items State) (es : List Entry) → length (replies value t es) ≡ length es
replies_count t [] = refl
replies_count t (e ∷ es) = ap suc (replies_count (step value t e) es)

-- ---- the counts

-- a count that can't rise didn't
pub never_rose : Rose 0 0 → ⊥
never_rose (inl h) = absurd (omega (arith, h))
never_rose (inr h) = absurd (omega (arith, h))

pub at_ok : {T E : Type 0} {P Q : T → Type 0} (r : Result T E) → ((x : T) → P x → Q x) → IfOk r P → IfOk r Q
at_ok (Ok x) f p = f x p
at_ok (Err e) f p = tt

nothing_replayed : replay {S = State} value [] [] ≡ empty_tree
unfolding replay
nothing_replayed = refl

by_counts : (counts : Counts) (es : List Entry) → counts.replies ≡ length (replies value empty_tree es) → counts.errors ≡ errors_in (output_of value empty_tree es)
    → counts.states ≡ length (replay {S = State} value [] es).states → counts ≡ counts_of es
unfolding counts_of
by_counts counts es replies errors states = λ i. record { replies = replies i; errors = errors i; states = states i }

module _ (entries : ℕ) (old tree : TreeModel Items) (same : old ≡ opened [] entries) (bytes : List ℕ) (input left : Option (List ℕ)) (known : input ≡ Some bytes) (out : List ℕ) (fresh : out ≡ []) where
  abbrev Ran : List ℕ → End → Type 0
  Ran written end = Session {S = State} value input left old tree (Some out) (Some written) end

  -- how it ends
  pub own_end : (written : List ℕ) → length bytes ≤ 2 ^ 40 → length (requests_of_input bytes) ≤ entries → (end : End) → Ran written end → (end ≡ ending.ReadFault → ⊥) → IsOwnEnd end
  own_end written short room end s calm = by_end end (subst (λ (g : TreeModel Items). Session {S = State} value input left g tree (Some out) (Some written) end) same s) calm
    where
      by_end : (end : End) → Session {S = State} value input left (opened [] entries) tree (Some out) (Some written) end → (end ≡ ending.ReadFault → ⊥) → IsOwnEnd end
      by_end ending.Done s calm = inl refl
      by_end ending.ReadFault s calm = absurd (calm refl)
      by_end ending.WriteFault s calm = inr (inl refl)
      by_end (ending.Full n) s calm = absurd (not_full [] entries input left (Some out) (Some written) tree bytes known short room n s)
      by_end (ending.Worn n) s calm = absurd s.tells
      by_end (ending.Long n) s calm = absurd (omega (arith, (entered [] entries input left (Some out) (Some written) tree bytes known short room (ending.Long n) s).0, short))
      by_end ending.Memory s calm = inr (inr refl)

  -- a session that came to its end has the counts of its requests
  pub counts_are : (written output : List ℕ) → output ≡ written → (end : End) → end ≡ ending.Done → Ran written end → (counts : Counts) → IsCountOf tree output counts → counts ≡ counts_of (all_answered bytes)
  counts_are written output shown end done ran counts l =
      let s : Ran written ending.Done = subst (Ran written) done ran in
      let es = s.entries in
      let grown : tree ≡ record { book = []; entries = entries; journal = es } = s.adds.grows ∙ ap (λ (g : TreeModel Items). record { book = g.book; entries = g.entries; journal = g.journal ++ es }) same in
      let journal : tree.journal ≡ es = ap (λ (g : TreeModel Items). g.journal) grown in
      let start : tree_of {S = State} value old ≡ empty_tree = ap (λ (g : TreeModel Items). tree_of {S = State} value g) same ∙ nothing_replayed in
      let after : tree_of {S = State} value tree ≡ replay {S = State} value [] es = ap (λ (g : TreeModel Items). tree_of {S = State} value g) grown in
      let wrote : written ≡ output_of value empty_tree es = s.written ∙ ap (λ o. o ++ output_of value (tree_of {S = State} value old) es) fresh ∙ ap (λ t. output_of value t es) start in
      let asked : requests_in es ≡ requests_of_input bytes = (subst (λ i. IfSome i (λ b. EntersOf b left (requests_in es) ending.Done)) known s.entered).0 in
      let own : es ≡ all_answered bytes = entries_are es s.adds.pass (subst (λ (j : List Entry). list_all is_answered j ≡ true) journal l.answered) ∙ ap (λ rs. map answered rs) asked in
      by_counts counts es (l.replies ∙ ap length journal ∙ sym (replies_count empty_tree es)) (l.errors ∙ ap errors_in (shown ∙ wrote)) (l.states ∙ ap (λ (t : PlainTree Items State). length t.states) after)
      ∙ ap counts_of own

-- What a pass sees, one step after another.
use Rattle.std.proofs.Common.{◌≡◌, ℕ, Bool, true, List, [], ◌∷◌, ◌++◌, Result, Ok, Err, refl, sym, ◌∙◌, ap, append_assoc, append-nil}
use Rattle.std.specs.List.{AllByRecursion}
use Rattle.repl_json.specs.Reply.{text}
use Rattle.repl_json.specs.declared.reply.Line.{Line}
use Rattle.repl_json.specs.declared.request.Ask.{Ask}
use Rattle.repl_json.specs.declared.request.Request.{Request}
use Rattle.state_tree.specs.declared.work.Found.{Found}
use Rattle.state_tree.specs.declared.work.Entry.{Entry}
use Rattle.state_tree.specs.Value.{Value}
use Rattle.state_tree.specs.Server.{PlainTree, step, after_all, opening, replay}
use Rattle.state_tree.specs.Prepared.{Prepared}
use Rattle.state_tree.specs.TreeModel.{TreeModel, entry_of}
use Rattle.state_tree.specs.Enters.{EntersAs, tree_of}
use Rattle.session_server.specs.Entered.{requests_in, with_entries}
use Rattle.session_server.specs.Own.{own, own_output}
use Rattle.session_server.specs.Sees.{Sees, OthersCome, EntersOne}
use Rattle.session_server.specs.Answers.{IsReplied}
use Rattle.session_server.specs.declared.answer.Halt.{Halt}
use Rattle.session_server.specs.declared.answer.Halt.TheVariants.{Write, Full, Worn, Memory}
use Rattle.session_server.proofs.OwnLemmas.{own_more, own_all, output_more, output_none, output_one}

all_more : {A : Type 0} (P : A → Type 0) (xs ys : List A) → AllByRecursion P xs → AllByRecursion P ys → AllByRecursion P (xs ++ ys)
all_more P [] ys p q = q
all_more P (x ∷ xs) ys p q = (p.0, all_more P xs ys p.1 q)

nothing_own : (pass : ℕ) (xs : List Entry) → own pass xs ≡ [] → AllByRecursion (λ e. e.pass ≡ pass) xs → xs ≡ []
nothing_own pass xs none all = sym (own_all pass xs all) ∙ none

module _ {E : Type 0} where
  none_grows : (g : TreeModel E) → g ≡ with_entries g []
  none_grows g = ap (λ (j : List Entry). record { book = g.book; entries = g.entries; journal = j }) (sym (append-nil g.journal))

  more_grows : (old mid new : TreeModel E) (xs ys : List Entry) → mid ≡ with_entries old xs → new ≡ with_entries mid ys → new ≡ with_entries old (xs ++ ys)
  more_grows old mid new xs ys p q =
      q ∙ ap (λ (g : TreeModel E). with_entries g ys) p ∙ ap (λ (j : List Entry). record { book = old.book; entries = old.entries; journal = j }) (append_assoc old.journal xs ys)

module _ {E : Type 0} (alone : Bool) (pass : ℕ) where
  pub sees_none : (g : TreeModel E) → Sees alone pass g g []
  sees_none g = record { grows = none_grows g; by_it = λ _. tt }

  pub sees_more : (old mid new : TreeModel E) (xs ys : List Entry) → Sees alone pass old mid xs → Sees alone pass mid new ys → Sees alone pass old new (xs ++ ys)
  sees_more old mid new xs ys p q = record { grows = more_grows old mid new xs ys p.grows q.grows; by_it = λ a. all_more (λ e. e.pass ≡ pass) xs ys (p.by_it a) (q.by_it a) }

  pub others_none : (old new : TreeModel E) → new ≡ old → OthersCome alone pass old new
  others_none old new same = record { since = []; sees = record { grows = same ∙ none_grows old; by_it = λ _. tt }; others = refl }

  pub others_more : (old mid new : TreeModel E) → OthersCome alone pass old mid → OthersCome alone pass mid new → OthersCome alone pass old new
  others_more old mid new p q = record {
    since = p.since ++ q.since;
    sees = sees_more old mid new p.since q.since p.sees q.sees;
    others = own_more pass p.since q.since ∙ ap (λ l. l ++ own pass q.since) p.others ∙ q.others;
  }

  -- where the pass is alone, nothing came
  pub others_alone : (old new : TreeModel E) → alone ≡ true → OthersCome alone pass old new → new ≡ old
  others_alone old new is o =
      o.sees.grows ∙ ap (with_entries old) (nothing_own pass o.since o.others (o.sees.by_it is)) ∙ sym (none_grows old)

module _ {E S : Type 0} (V : Ask → Found E S → Value E S) where
  after_more : (t : PlainTree E S) (xs ys : List Entry) → after_all V t (xs ++ ys) ≡ after_all V (after_all V t xs) ys
  after_more t [] ys = refl
  after_more t (x ∷ xs) ys = after_more (step V t x) xs ys

  pub tree_more : (old mid : TreeModel E) (xs : List Entry) → mid ≡ with_entries old xs → tree_of V mid ≡ after_all V (tree_of V old) xs
  unfolding replay
  tree_more old mid xs grows = ap (tree_of V) grows ∙ after_more (opening V old.book) old.journal xs

module _ {E S : Type 0} (V : Ask → Found E S → Value E S) (alone : Bool) (pass : ℕ) where
  -- the output over both
  pub output_both : (old mid : TreeModel E) (xs ys : List Entry) → Sees alone pass old mid xs → own_output V pass (tree_of V old) xs ++ own_output V pass (tree_of V mid) ys ≡ own_output V pass (tree_of V old) (xs ++ ys)
  output_both old mid xs ys sees =
      ap (λ (t : PlainTree E S). own_output V pass (tree_of V old) xs ++ own_output V pass t ys) (tree_more V old mid xs sees.grows) ∙ sym (output_more V pass (tree_of V old) xs ys)

  -- entries of others, and then the pass's own
  pub one_later : (old mid new : TreeModel E) (request : Request) (line : Line) → OthersCome alone pass old mid → EntersOne V alone pass mid new request line → EntersOne V alone pass old new request line
  one_later old mid new request line o one = record {
    since = o.since ++ one.since;
    sees = sees_more alone pass old mid new o.since one.since o.sees one.sees;
    one = ap requests_in (own_more pass o.since one.since ∙ ap (λ l. l ++ own pass one.since) o.others) ∙ one.one;
    output = sym (output_both old mid o.since one.since o.sees) ∙ ap (λ l. l ++ own_output V pass (tree_of V mid) one.since) (output_none V pass (tree_of V old) o.since o.others) ∙ one.output;
  }

  one_entered : (old new : TreeModel E) (ready : Prepared E S) (line : Line) → EntersAs V old new pass ready line → EntersOne V alone pass old new ready.request line
  one_entered old new ready line enters =
      let e = entry_of (tree_of V old) pass ready in
      record {
        since = e ∷ [];
        sees = record { grows = enters.entry; by_it = λ _. (refl, tt) };
        one = ap requests_in (own_all pass (e ∷ []) (refl, tt));
        output = output_one V pass (tree_of V old) e refl ∙ sym (ap text enters.line_is);
      }

  -- the tree that the turn found, with the entry
  pub one_there : (old mid new : TreeModel E) (ready : Prepared E S) (line : Line) → OthersCome alone pass old mid → EntersAs V mid new pass ready line → EntersOne V alone pass old new ready.request line
  one_there old mid new ready line o enters = one_later old mid new ready.request line o (one_entered mid new ready line enters)

  -- the same of any way to end
  pub replied_later : (old mid new : TreeModel E) (request : Request) (r : Result Line Halt) → OthersCome alone pass old mid → IsReplied V alone pass mid new request r → IsReplied V alone pass old new request r
  replied_later old mid new request (Ok line) o one = one_later old mid new request line o one
  replied_later old mid new request (Err Write) o none = absurd none
  replied_later old mid new request (Err (Full n)) o full = (others_more alone pass old mid new o full.0, full.1, full.2)
  replied_later old mid new request (Err (Worn n)) o worn = others_more alone pass old mid new o worn
  replied_later old mid new request (Err Memory) o none = absurd none

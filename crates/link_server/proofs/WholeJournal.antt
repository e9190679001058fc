-- From what a pass has seen to the journal of the closed board.
use Rattle.std.proofs.Common.{◌≡◌, ℕ, ◌≤◌, List, [], ◌++◌, length, Option, refl, sym, ◌∙◌, ap, subst, arith, append-nil}
use Rattle.std.specs.Prelude.{IfSome}
use Rattle.std.proofs.lemmas.List.{length-append}
use Rattle.repl_json.specs.declared.request.Ask.{Ask}
use Rattle.state_tree.specs.declared.work.Found.{Found}
use Rattle.state_tree.specs.declared.work.Entry.{Entry}
use Rattle.state_tree.specs.Value.{Value}
use Rattle.state_tree.specs.Server.{PlainTree}
use Rattle.state_tree.specs.TreeModel.{TreeModel}
use Rattle.state_tree.specs.Enters.{tree_of}
use Rattle.shared_board.specs.declared.board_tree.TreeGround.{TreeGround}
use Rattle.shared_board.specs.Calls.{tree_with}
use Rattle.session_server.specs.Entered.{requests_in}
use Rattle.session_server.specs.Own.{own, own_output}
use Rattle.session_server.specs.Session.{EntersOf, Writes}
use Rattle.session_server.specs.PassSession.{PassSession, Reaches}
use Rattle.session_server.proofs.OwnLemmas.{own_more, output_more, output_none}
use Rattle.session_server.specs.declared.run.End.{End}
use Rattle.session_server.specs.declared.run.End.TheVariants as ending

module _ {E S : Type 0} (V : Ask → Found E S → Value E S) (number : ℕ) (seen journal more : List Entry) (is : seen ++ more ≡ journal) (others : own number more ≡ []) where
  -- the entries of the pass in the journal are those that it has seen
  pub same_own : own number seen ≡ own number journal
  same_own =
      sym (append-nil (own number seen))
      ∙ ap (λ (es : List Entry). own number seen ++ es) (sym others)
      ∙ sym (own_more number seen more)
      ∙ ap (λ (es : List Entry). own number es) is

  -- and so are their lines
  pub same_output : (t : PlainTree E S) → own_output V number t seen ≡ own_output V number t journal
  same_output t =
      sym (append-nil (own_output V number t seen))
      ∙ ap (λ (bytes : List ℕ). own_output V number t seen ++ bytes) (sym (output_none V number _ more others))
      ∙ sym (output_more V number t seen more)
      ∙ ap (λ (es : List Entry). own_output V number t es) is

  no_shorter : length seen ≤ length journal
  no_shorter = let l = sym (ap length is) ∙ length-append seen more in omega arith

  reaches_whole : (the_ground : TreeGround E) → length journal ≤ the_ground.entries → (end : End) → Reaches (tree_with the_ground seen) end → Reaches (tree_with the_ground journal) end
  reaches_whole the_ground room ending.Done r = tt
  reaches_whole the_ground room ending.ReadFault r = tt
  reaches_whole the_ground room ending.WriteFault r = tt
  reaches_whole the_ground room (ending.Full n) r = (let short = no_shorter in let full = r.0 in omega arith, r.1)
  reaches_whole the_ground room (ending.Worn n) r = tt
  reaches_whole the_ground room (ending.Long n) r = r
  reaches_whole the_ground room ending.Memory r = tt

  -- a session that fits what its pass has seen of a new tree fits the whole journal
  pub fits_whole : (the_ground : TreeGround E) (input left out out' : Option (List ℕ)) (end : End) → length journal ≤ the_ground.entries
      → PassSession V number input left (tree_with the_ground []) (tree_with the_ground seen) out out' end
      → PassSession V number input left (tree_with the_ground []) (tree_with the_ground journal) out out' end
  fits_whole the_ground input left out out' end room s =
      let since : seen ≡ s.since = ap (λ (t : TreeModel E). t.journal) s.grows in
      record {
        since = journal;
        grows = refl;
        entered = subst (λ (es : List Entry). IfSome input (λ bytes. EntersOf bytes left (requests_in es) end)) same_own
            (subst (λ (es : List Entry). IfSome input (λ bytes. EntersOf bytes left (requests_in (own number es)) end)) (sym since) s.entered);
        written = subst (λ (bytes : List ℕ). Writes out out' bytes end) (same_output (tree_of V (tree_with the_ground [])))
            (subst (λ (es : List Entry). Writes out out' (own_output V number (tree_of V (tree_with the_ground [])) es) end) (sym since) s.written);
        reaches = reaches_whole the_ground room end s.reaches;
      }

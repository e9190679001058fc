-- Where nothing fails, only want of memory keeps a session from the end of its input.
use Rattle.std.proofs.Common.{◌≡◌, ◌≢◌, ℕ, zero, suc, ◌<◌, ◌≤◌, ◌^◌, ◌⊎◌, inl, inr, List, [], ◌∷◌, ◌++◌, length, take, get_or, slice_get, sum_by, Option, Some, refl, sym, ap, ◌∙◌, subst, arith, All}
use Rattle.std.specs.Prelude.{IfSome}
use Rattle.std.proofs.lemmas.Grind.{flat_map-append}
use Rattle.std.proofs.lemmas.List.{length-append, length-map, length-take, get_or-take}
use Rattle.std.proofs.lemmas.List.Sums.{sum_by-take-le}
use Rattle.repl_json.specs.declared.request.Ask.{Ask}
use Rattle.repl_json.specs.declared.request.Request.{Request}
use Rattle.state_tree.specs.declared.work.Found.{Found}
use Rattle.state_tree.specs.declared.work.Entry.{Entry}
use Rattle.state_tree.specs.Value.{Value}
use Rattle.state_tree.specs.TreeModel.{TreeModel}
use Rattle.turn_lock.specs.Meanings.{MAX_TURNS}
use Rattle.shared_board.specs.declared.board_tree.TreeGround.{TreeGround}
use Rattle.shared_board.specs.Boards.{BoardPassMeaning}
use Rattle.shared_board.specs.Calls.{tree_with}
use Rattle.session_server.specs.Entered.{requests_in}
use Rattle.session_server.specs.Input.{requests_of_line, requests_of_lines, requests_of_input}
use Rattle.session_server.specs.Own.{own}
use Rattle.session_server.specs.PassSession.{Reaches}
use Rattle.session_server.specs.Session.{EntersOf}
use Rattle.session_server.specs.declared.run.End.{End}
use Rattle.session_server.specs.declared.run.End.TheVariants as ending
use Rattle.link_server.specs.Links.{ServedMeaning, IsServedLink, WornBy}
use Rattle.link_server.specs.Served.{FitsLinks, AreCalm, CompletesSessions}
use Rattle.link_server.proofs.Counting.{total, total_lt, total_taken, counted}

-- an element that is there
at_place : {A : Type 0} (xs : List A) (i : ℕ) (d : A) → i < length xs → slice_get xs i ≡ Some (get_or xs i d)
at_place [] i d lt = absurd (omega arith)
at_place (x ∷ xs) zero d lt = refl
at_place (x ∷ xs) (suc i) d lt = at_place xs i d (omega arith)

-- ---- how many requests of an input were entered

module _ (bytes : List ℕ) (left : Option (List ℕ)) (requests : List Request) where
  -- a part of them
  part : (rest : List Request) → requests_of_input bytes ≡ requests ++ rest → length requests ≤ length (requests_of_input bytes)
  part rest is = let all = ap length is ∙ length-append requests rest in omega arith

  -- fewer than all, where there was no room for one
  fewer : (n : ℕ) → EntersOf bytes left requests (ending.Full n) → length requests < length (requests_of_input bytes)
  fewer n e = let all = ap length e.2 ∙ length-append requests (e.0 ∷ e.1) in omega arith

  no_more : (end : End) → length bytes ≤ 2 ^ 40 → end ≢ ending.ReadFault → EntersOf bytes left requests end → length requests ≤ length (requests_of_input bytes)
  no_more ending.Done short read e = let all = ap length e.0 in omega arith
  no_more ending.ReadFault short read e = absurd (read refl)
  no_more ending.WriteFault short read e = part e.0 e.1
  no_more (ending.Full n) short read e = part (e.0 ∷ e.1) e.2
  no_more (ending.Worn n) short read e = part e.0 e.1
  no_more (ending.Long n) short read e = absurd (omega (arith, e.0, short))
  no_more ending.Memory short read e = part (requests_of_lines e.1)
      (ap requests_of_lines e.2 ∙ flat_map-append requests_of_line e.0 e.1 ∙ ap (λ (rs : List Request). rs ++ requests_of_lines e.1) (sym e.3))

-- ---- the sessions

module _ {E S : Type 0} (V : Ask → Found E S → Value E S) (the_ground : TreeGround E) (inputs : List (List ℕ)) (places : ℕ) (served : List ServedMeaning)
    (journal : List Entry) (last : BoardPassMeaning E) (fits : FitsLinks V the_ground (Some inputs) served journal last) (few : length served ≤ places) where
  -- the input of the link at a place
  abbrev input_of : ℕ → List ℕ
  input_of i = get_or (take places inputs) i []

  -- how many entries it made, and how many requests it had
  abbrev made : ℕ → ℕ
  made i = length (own i journal)

  module _ (short : All (λ (input : List ℕ). length input ≤ 2 ^ 40) (take places inputs)) (calm : AreCalm served) (d : ServedMeaning) where
    link : (i : ℕ) → i < length served → IsServedLink V the_ground (Some inputs) journal last.found i (get_or served i d)
    link i in' = fits.each i in' d

    -- its input is among those of the places
    told : (i : ℕ) → i < length served → i < length (take places inputs)
    told i in' = let had = (link i in').had in let long = length-take places inputs in let known = had.0 in omega arith

    input_is : (i : ℕ) (in' : i < length served) → (link i in').input ≡ Some (input_of i)
    input_is i in' =
        let had = (link i in').had in
        had.1 ∙ at_place inputs i [] had.0 ∙ ap Some (sym (get_or-take places inputs i [] (omega arith)))

    is_short : (i : ℕ) → i < length served → length (input_of i) ≤ 2 ^ 40
    is_short i in' = short i [] (told i in')

    entered : (i : ℕ) (in' : i < length served) → EntersOf (input_of i) (get_or served i d).left (requests_in (own i journal)) (get_or served i d).end
    entered i in' =
        let l = link i in' in
        let s = get_or served i d in
        let since : journal ≡ l.session.since = ap (λ (t : TreeModel E). t.journal) l.session.grows in
        let of_input : EntersOf (input_of i) s.left (requests_in (own s.pass l.session.since)) s.end
        = subst (λ (input : Option (List ℕ)). IfSome input (λ bytes. EntersOf bytes s.left (requests_in (own s.pass l.session.since)) s.end)) (input_is i in') l.session.entered in
        let of_journal : EntersOf (input_of i) s.left (requests_in (own s.pass journal)) s.end
        = subst (λ (es : List Entry). EntersOf (input_of i) s.left (requests_in (own s.pass es)) s.end) (sym since) of_input in
        subst (λ (n : ℕ). EntersOf (input_of i) s.left (requests_in (own n journal)) s.end) l.pass of_journal

    read_to_end : (i : ℕ) → i < length served → (get_or served i d).end ≢ ending.ReadFault
    read_to_end i in' e = (calm i d in').0 (inl ((link i in').read e))

    at_most : (i : ℕ) → i < length served → made i ≤ length (requests_of_input (input_of i))
    at_most i in' =
        let h = no_more (input_of i) (get_or served i d).left (requests_in (own i journal)) (get_or served i d).end (is_short i in') (read_to_end i in') (entered i in') in
        let same = length-map (own i journal) (λ (e : Entry). e.request) in
        omega arith

    module _ (room : sum_by (λ (input : List ℕ). length (requests_of_input input)) (take places inputs) ≤ the_ground.entries) (turns : last.found < MAX_TURNS) where
      -- a full journal would have more entries than the inputs have requests
      not_full : (i : ℕ) (n : ℕ) → i < length served → (get_or served i d).end ≡ ending.Full n → ⊥
      not_full i n in' is =
          let s = get_or served i d in
          let requests = λ (j : ℕ). length (requests_of_input (input_of j)) in
          let reached : Reaches (tree_with the_ground journal) (ending.Full n) = subst (Reaches (tree_with the_ground journal)) is (link i in').session.reaches in
          let full : length journal ≡ the_ground.entries = reached.0 in
          let less = fewer (input_of i) s.left (requests_in (own i journal)) n (subst (EntersOf (input_of i) s.left (requests_in (own i journal))) is (entered i in')) in
          let same = length-map (own i journal) (λ (e : Entry). e.request) in
          let below : total made (length served) < total requests (length served) = total_lt made requests (length served) i in' (omega arith) at_most in
          let all : total made (length served) ≡ length journal = counted (λ (e : Entry). e.pass) (length served) journal fits.by_links in
          let long : length served ≤ length (take places inputs) = told_all (length served) (omega arith) in
          let asked : total requests (length served) ≡ sum_by (λ (input : List ℕ). length (requests_of_input input)) (take (length served) (take places inputs))
          = total_taken (λ (input : List ℕ). length (requests_of_input input)) requests (take places inputs) [] (length served) long (λ j lt. refl) in
          let within = sum_by-take-le (λ (input : List ℕ). length (requests_of_input input)) (take places inputs) (length served) in
          omega (arith, room)
        where
          told_all : (n : ℕ) → n ≤ length served → n ≤ length (take places inputs)
          told_all zero le = omega arith
          told_all (suc n) le = told n (omega arith)

      ends : (i : ℕ) → i < length served → (end : End) → (get_or served i d).end ≡ end → (end ≡ ending.Done) ⊎ (end ≡ ending.Memory)
      ends i in' ending.Done is = inl refl
      ends i in' ending.ReadFault is = absurd (read_to_end i in' is)
      ends i in' ending.WriteFault is = absurd ((calm i d in').1 (inl ((link i in').write is)))
      ends i in' (ending.Full n) is = absurd (not_full i n in' is)
      ends i in' (ending.Worn n) is = let worn : WornBy last.found (ending.Worn n) = subst (WornBy last.found) is (link i in').worn in absurd (omega (arith, worn.0, worn.1, turns))
      ends i in' (ending.Long n) is =
          let long : EntersOf (input_of i) (get_or served i d).left (requests_in (own i journal)) (ending.Long n)
          = subst (EntersOf (input_of i) (get_or served i d).left (requests_in (own i journal))) is (entered i in') in
          absurd (omega (arith, long.0, is_short i in'))
      ends i in' ending.Memory is = inr refl

  pub completes : CompletesSessions the_ground.entries (take places inputs) served last.found
  completes short room calm turns i d in' = ends short calm d room turns i in' (get_or served i d).end refl

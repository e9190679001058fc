-- Answers that follow one another.
use Rattle.std.proofs.Common.{◌≡◌, ℕ, ◌≤◌, inl, inr, arith, Bool, List, [], ◌∷◌, ◌++◌, Option, Result, Ok, Err, refl, sym, ◌∙◌, ap, append_assoc, subst}
use Rattle.std.proofs.lemmas.List.{map-append}
use Rattle.std.proofs.KnownBytes.{Appends-trans, Appends-nil}
use Rattle.std.specs.Io.KnownBytes.{Appends}
use Rattle.pan_io.specs.Faults.{Rose}
use Rattle.pan_io.specs.Put.{AppendsPrefix}
use Rattle.repl_json.specs.Reply.{text}
use Rattle.repl_json.specs.declared.reply.Line.{Line}
use Rattle.repl_json.specs.declared.request.Ask.{Ask}
use Rattle.repl_json.specs.declared.request.Request.{Request}
use Rattle.state_tree.specs.declared.work.Found.{Found}
use Rattle.state_tree.specs.declared.work.Entry.{Entry}
use Rattle.state_tree.specs.Value.{Value}
use Rattle.state_tree.specs.TreeModel.{TreeModel}
use Rattle.state_tree.specs.Enters.{tree_of}
use Rattle.session_server.specs.Entered.{requests_in}
use Rattle.session_server.specs.Own.{own}
use Rattle.session_server.specs.Sees.{OthersCome, EntersOne}
use Rattle.session_server.specs.Answers.{Answered, Cut, Answers, AnswersLine, IsReplied}
use Rattle.session_server.specs.Desks.{StopsLooking}
use Rattle.session_server.specs.declared.answer.Halt.{Halt}
use Rattle.session_server.specs.declared.answer.Halt.TheVariants.{Write, Full, Worn, Memory}
use Rattle.session_server.proofs.OwnLemmas.{own_more, output_none}
use Rattle.session_server.proofs.SeesLemmas.{others_none, sees_more, output_both}

pub rose_later : (old mid new : ℕ) → old ≤ mid → Rose mid new → Rose old new
rose_later old mid new le (inl lt) = inl (omega arith)
rose_later old mid new le (inr most) = inr most

front_more : (old mid new : Option (List ℕ)) (a b : List ℕ) → Appends old mid a → AppendsPrefix mid new b → AppendsPrefix old new (a ++ b)
front_more old mid new a b wrote (front, rest, parts, put) = (a ++ front, rest, ap (λ l. a ++ l) parts ∙ sym (append_assoc a front rest), Appends-trans old mid new a front wrote put)

module _ {E S : Type 0} (V : Ask → Found E S → Value E S) (alone : Bool) (pass : ℕ) where
  -- entries of others leave the output as it was
  pub answered_others : (old new : TreeModel E) (out : Option (List ℕ)) → OthersCome alone pass old new → Answered V alone pass old new out out []
  answered_others old new out o = record {
    since = o.since;
    sees = o.sees;
    requests = ap requests_in o.others;
    written = subst (Appends out out) (sym (output_none V pass (tree_of V old) o.since o.others)) (Appends-nil out);
  }

  pub answered_none : (g : TreeModel E) (out : Option (List ℕ)) → Answered V alone pass g g out out []
  answered_none g out = answered_others g g out (others_none alone pass g g refl)

  requests_more : (xs ys : List Entry) (qs rs : List Request) → requests_in (own pass xs) ≡ qs → requests_in (own pass ys) ≡ rs → requests_in (own pass (xs ++ ys)) ≡ qs ++ rs
  requests_more xs ys qs rs p q = ap requests_in (own_more pass xs ys) ∙ map-append (λ e. e.request) (own pass xs) (own pass ys) ∙ ap (λ l. l ++ requests_in (own pass ys)) p ∙ ap (λ l. qs ++ l) q

  pub answered_more : (old mid new : TreeModel E) (out out' out2 : Option (List ℕ)) (xs ys : List Request) → Answered V alone pass old mid out out' xs → Answered V alone pass mid new out' out2 ys → Answered V alone pass old new out out2 (xs ++ ys)
  answered_more old mid new out out' out2 xs ys p q = record {
    since = p.since ++ q.since;
    sees = sees_more alone pass old mid new p.since q.since p.sees q.sees;
    requests = requests_more p.since q.since xs ys p.requests q.requests;
    written = subst (Appends out out2) (output_both V alone pass old mid p.since q.since p.sees) (Appends-trans out out' out2 _ _ p.written q.written);
  }

  pub cut_more : (old mid new : TreeModel E) (out out' out2 : Option (List ℕ)) (xs ys : List Request) → Answered V alone pass old mid out out' xs → Cut V alone pass mid new out' out2 ys → Cut V alone pass old new out out2 (xs ++ ys)
  cut_more old mid new out out' out2 xs ys p q = record {
    since = p.since ++ q.since;
    sees = sees_more alone pass old mid new p.since q.since p.sees q.sees;
    requests = requests_more p.since q.since xs ys p.requests q.requests;
    written = subst (AppendsPrefix out out2) (output_both V alone pass old mid p.since q.since p.sees) (front_more out out' out2 _ _ p.written q.written);
  }

  -- what follows answers of the first requests
  pub answers_more : (old mid new : TreeModel E) (out out' out2 : Option (List ℕ)) (xs ys : List Request) (r : Result (Unit {0}) Halt) → Answered V alone pass old mid out out' xs → Answers V alone pass mid new out' out2 ys r
      → Answers V alone pass old new out out2 (xs ++ ys) r
  answers_more old mid new out out' out2 xs ys (Ok done) p q = answered_more old mid new out out' out2 xs ys p q
  answers_more old mid new out out' out2 xs ys (Err Write) p (first, rest, is, cut) =
      (xs ++ first, rest, ap (λ l. xs ++ l) is ∙ sym (append_assoc xs first rest), cut_more old mid new out out' out2 xs first p cut)
  answers_more old mid new out out' out2 xs ys (Err (Full n)) p (first, next, rest, is, answered, full, number) =
      (xs ++ first, next, rest, ap (λ l. xs ++ l) is ∙ sym (append_assoc xs first (next ∷ rest)), answered_more old mid new out out' out2 xs first p answered, full, number)
  answers_more old mid new out out' out2 xs ys (Err (Worn n)) p (first, rest, is, answered) =
      (xs ++ first, rest, ap (λ l. xs ++ l) is ∙ sym (append_assoc xs first rest), answered_more old mid new out out' out2 xs first p answered)
  answers_more old mid new out out' out2 xs ys (Err Memory) p none = absurd none

  -- an error leaves the requests behind it
  pub answers_rest : (old new : TreeModel E) (out out' : Option (List ℕ)) (xs ys : List Request) (e : Halt) → Answers V alone pass old new out out' xs (Err e) → Answers V alone pass old new out out' (xs ++ ys) (Err e)
  answers_rest old new out out' xs ys Write (first, rest, is, cut) = (first, rest ++ ys, ap (λ l. l ++ ys) is ∙ append_assoc first rest ys, cut)
  answers_rest old new out out' xs ys (Full n) (first, next, rest, is, answered, full, number) = (first, next, rest ++ ys, ap (λ l. l ++ ys) is ∙ append_assoc first (next ∷ rest) ys, answered, full, number)
  answers_rest old new out out' xs ys (Worn n) (first, rest, is, answered) = (first, rest ++ ys, ap (λ l. l ++ ys) is ∙ append_assoc first rest ys, answered)
  answers_rest old new out out' xs ys Memory none = absurd none

  -- a line whose requests were made ready
  pub answers_line : (old new : TreeModel E) (out out' : Option (List ℕ)) (xs : List Request) (r : Result (Unit {0}) Halt) → Answers V alone pass old new out out' xs r → AnswersLine V alone pass old new out out' xs r
  answers_line old new out out' xs (Ok done) answers = answers
  answers_line old new out out' xs (Err Write) answers = answers
  answers_line old new out out' xs (Err (Full n)) answers = answers
  answers_line old new out out' xs (Err (Worn n)) answers = answers
  answers_line old new out out' xs (Err Memory) none = absurd none

  -- entries of others before answers
  pub line_later : (old mid new : TreeModel E) (out out' : Option (List ℕ)) (ys : List Request) (r : Result (Unit {0}) Halt) → OthersCome alone pass old mid → Answers V alone pass mid new out out' ys r → AnswersLine V alone pass old new out out' ys r
  line_later old mid new out out' ys r o answers = answers_line old new out out' ys r (answers_more old mid new out out out' [] ys r (answered_others old mid out o) answers)

  -- one entry, whose reply was written, or a part of it
  pub one_answered : (old new : TreeModel E) (request : Request) (line : Line) (out out' : Option (List ℕ)) → EntersOne V alone pass old new request line → Appends out out' (text line) → Answered V alone pass old new out out' (request ∷ [])
  one_answered old new request line out out' one wrote = record {
    since = one.since;
    sees = one.sees;
    requests = one.one;
    written = subst (Appends out out') (sym one.output) wrote;
  }

  pub one_cut : (old new : TreeModel E) (request : Request) (line : Line) (out out' : Option (List ℕ)) → EntersOne V alone pass old new request line → AppendsPrefix out out' (text line) → Answers V alone pass old new out out' (request ∷ []) (Err Write)
  one_cut old new request line out out' one wrote = (
    request ∷ [],
    [],
    refl,
    record {
      since = one.since;
      sees = one.sees;
      requests = one.one;
      written = subst (AppendsPrefix out out') (sym one.output) wrote;
    },
  )

  -- none was entered
  pub none_answered : (old new : TreeModel E) (request : Request) (out : Option (List ℕ)) (halt : Halt) → IsReplied V alone pass old new request (Err halt) → Answers V alone pass old new out out (request ∷ []) (Err halt)
  none_answered old new request out Write none = absurd none
  none_answered old new request out (Full n) full = ([], request, [], refl, answered_others old new out full.0, full.1, full.2)
  none_answered old new request out (Worn n) o = ([], request ∷ [], refl, answered_others old new out o)
  none_answered old new request out Memory none = absurd none

  -- looks stopped before the line
  pub stopped_line : (old new : TreeModel E) (out : Option (List ℕ)) (ys : List Request) (halt : Halt) → StopsLooking halt → OthersCome alone pass old new → AnswersLine V alone pass old new out out ys (Err halt)
  stopped_line old new out ys Write never o = absurd never
  stopped_line old new out ys (Full n) never o = absurd never
  stopped_line old new out ys (Worn n) stops o = ([], ys, refl, answered_others old new out o)
  stopped_line old new out ys Memory stops o = answered_others old new out o

pub never_writes : (halt : Halt) → StopsLooking halt → ◌≡◌ {A = Result (Unit {0}) Halt} (Err halt) (Err Write) → ⊥
never_writes Write stops e = stops
never_writes (Full n) stops e = stops
never_writes (Worn n) stops e = cc
never_writes Memory stops e = cc

-- Each rule of the reading: what it takes is what the grammar says, whatever comes behind; and where it is refused, what it took begins
-- that or, if `M`, is too deep.
use Rattle.std.proofs.Common.{◌≡◌, ◌≢◌, ℕ, zero, suc, ◌<◌, ◌≤◌, if◌then◌else◌, inl, List, [], ◌∷◌, ◌++◌, length, Some, None, refl, ap, ◌∙◌, subst, arith}
use Rattle.term_syntax.specs.declared.surface.Surface.{Surface}
use Rattle.term_syntax.specs.declared.surface.Label.{Label}
use Rattle.term_syntax.specs.declared.surface.Label.TheVariants as label
use Rattle.term_syntax.specs.declared.surface.Shape.TheVariants as shape
use Rattle.term_syntax.specs.declared.kind.Kind.{Kind}
use Rattle.term_syntax.specs.declared.kind.Kind.TheVariants as k
use Rattle.term_syntax.specs.Kinds.{is_kind}
use Rattle.term_syntax.specs.Lex.{Lexeme}
use Rattle.term_syntax.specs.Input.{Input, kind, tail_of, next, place}
use Rattle.term_syntax.specs.Grammar as grammar
use Rattle.term_syntax.specs.Grammar.{IsLabel, node, level_of}
use Rattle.term_syntax.specs.Reading.{Parser, ◌>>=◌, ◌>>◌, pure, expect, eat, peek, take_token, label_by, label_at, begins_atom, binder, arguments, constant, parenthesized, atom_by, atom, atoms, app, applied, abstraction, product, arrows}
use Rattle.term_syntax.proofs.Progress.{left, Shorter, expect_shorter, atom_shorter}
use Rattle.term_syntax.proofs.Sound.{takes}
use Rattle.term_syntax.proofs.Local.{Local, err_inj, local_take, local_expect, local_label, local_binder}
use Rattle.refusal_places.specs.Places as places
use Rattle.refusal_places.specs.Places.{plain}
use Rattle.refusal_places.proofs.Parts.{Exists, Then, Token, Nothing, Either, exists_within, exists_then, token_exists, nothing_exists, left_of, right_of}
use Rattle.refusal_places.proofs.Steps.{Stopped, TracksAt, Tracks, at_as, at_within, tracks_within, then_core, then_at, then_tracks, then_more, last_at, last_tracks, pure_tracks, refuse_tracks, here_tracks, take_at, expect_tracks, eat_core, eat_tracks, peek_core}
use Rattle.refusal_places.proofs.Counts.{all_arguments, all_atoms, arguments_turn, atoms_turn, local_atom, local_app}
use Rattle.refusal_places.proofs.Lines.{LabelOf, TermOf, BinderOf, AtomOf, AppOf, ListOf, ArgumentsOf, MoreOf, binder_line, parentheses_line, list_line, constant_line, named_line, star_line, wild_line, asked_line, more_line, app_line, abstraction_line, product_line, arrows_line, star_exists, more_exists, term_exists, label_exists, label_token}

-- a name that `(` follows is taken, and would be a label without it
call_stops : {M : Type 0} {n : ℕ} (i : Input) → kind i ≡ k.Call → Stopped M n (label_by k.Call) LabelOf i (next i)
call_stops i is =
    let got = takes i k.Call (λ h. cc) is in
    let l = got.0 in
    record {
      taken = l ∷ [];
      ahead = got.1.ahead;
      why = inl (record {
        standing = plain l ∷ [];
        stands = places.plain_name [] l got.1.kind;
        others = [];
        fits = record { before = λ rest. record { token = plain l; name = label.Plain l.text; is = grammar.name refl; tokens = refl } };
      });
    }

label_by_tracks : {M : Type 0} {n : ℕ} (t : Kind) (i : Input) → kind i ≡ t → TracksAt M n (label_by t) LabelOf i
label_by_tracks k.Name i is = at_within (label_token (λ l e. (label.Plain l.text, grammar.name e))) (last_at (λ z. label.Plain z) i (take_at i k.Name (λ h. cc) is))
label_by_tracks k.Level i is = at_within (label_token (λ l e. (label.Level (level_of l.text), grammar.level e))) (last_at (λ z. label.Level (level_of z)) i (take_at i k.Level (λ h. cc) is))
label_by_tracks {M = M} {n = n} k.Call i is = record { ok = λ a j e. cc; err = λ j e. subst (λ j. Stopped M n (label_by k.Call) LabelOf i j) (err_inj {A = Label} (next i) j e) (call_stops i is) }
label_by_tracks _ i is = (refuse_tracks label_exists).at i

pub label_tracks : {M : Type 0} {n : ℕ} → Tracks M n label_at LabelOf
unfolding label_at
label_tracks = record { at = λ i. at_as (label_by (kind i)) label_at i (λ j _ same. ap (λ t. label_by t j) same) (label_by_tracks (kind i) i refl) }

tail_no_longer : (i : Input) → left (next i) ≤ left i
tail_no_longer i = shorter i.ahead where
  shorter : (ls : List Lexeme) → length (tail_of ls) ≤ length ls
  shorter [] = omega arith
  shorter (l ∷ ls) = omega arith

pub closed : Exists (Then (Token k.Close) Nothing)
closed = exists_then (token_exists k.Close) nothing_exists

-- ---- where the atoms are known: applications and arrows
module _ (M : Type 0) (e : ℕ) (inner : Parser Surface) (m : Local inner) (sh : Shorter inner) (n : ℕ) (a : Tracks M n (atom inner) (AtomOf e)) where
  atoms_at : (turns : ℕ) (found : List Surface) (i : Input) → left i < turns → TracksAt M n (all_atoms inner found) (MoreOf e) i
  atoms_at zero found i less = absurd (omega (arith, less))
  atoms_at (suc turns) found i less = at_as (peek >>= (λ kind. if begins_atom kind then (atom inner >>= (λ x. all_atoms inner (found ++ x ∷ []))) else pure found)) (all_atoms inner found) i (λ j _ _. atoms_turn inner sh found j)
      (peek_core begins_atom i (begins_atom (kind i)) refl
      (at_within (more_line e) (then_core n n i (λ x r is xs eq. omega arith) (local_atom inner sh m) (more_exists e) (a.at i) (λ x r is. atoms_at turns (found ++ x ∷ []) r (omega (arith, less, atom_shorter inner sh i x r is)))))
      (at_within left_of ((pure_tracks found).at i)))

  atoms_track : Tracks M n (atoms inner) (MoreOf e)
  unfolding atoms
  atoms_track = record { at = λ i. at_as (all_atoms inner []) (atoms inner) i (λ j _ _. refl) (atoms_at (suc (left i)) [] i (omega arith)) }

  pub app_tracks : Tracks M n (app inner) (AppOf e)
  unfolding app
  app_tracks = tracks_within (app_line e)
      (here_tracks (λ at. then_tracks n (local_atom inner sh m) (exists_then (more_exists e) nothing_exists) a (λ head. last_tracks (λ others. applied at head others) atoms_track)))

  pub arrows_from : ((at : ℕ) (from : Surface) → Tracks M n (eat k.Arrow >>= (λ b. if b then (inner >>= (λ to. pure (node at (shape.Pi None from to)))) else pure from)) (Either (Then (Token k.Arrow) (Then (TermOf e) Nothing)) Nothing)) → Tracks M n (arrows inner) (TermOf (suc e))
  unfolding arrows
  arrows_from right = tracks_within (arrows_line e) (here_tracks (λ at. then_tracks n (local_app inner sh m) (exists_within right_of nothing_exists) app_tracks (λ from. right at from)))

-- ---- where the arguments are known: constants, and the atoms but those in parentheses
module _ (M : Type 0) (e : ℕ) (inner : Parser Surface) (args : Tracks M 0 (arguments inner) (ArgumentsOf e)) where
  constant_tracks : (i : Input) → kind i ≡ k.Call → TracksAt M 1 (constant inner) (AtomOf e) i
  unfolding constant is_kind
  constant_tracks i is = at_within (constant_line e)
      (let more : Exists (Then (ArgumentsOf e) Nothing) = exists_then (exists_within left_of closed) nothing_exists in
      at_as (take_token >>= (λ name. expect k.Open >> (arguments inner >>= (λ found. pure (node (place i) (shape.Const name found)))))) (constant inner) i (λ j same _. ap (λ at. (take_token >>= (λ name. expect k.Open >> (arguments inner >>= (λ found. pure (node at (shape.Const name found)))))) j) same)
      (then_at 1 i local_take (exists_then (token_exists k.Open) more) (take_at i k.Call (λ h. cc) is)
      (λ name. then_more 0 (expect_shorter k.Open refl) (local_expect k.Open (λ h. cc)) more (expect_tracks k.Open (λ h. cc)) (λ _. last_tracks (λ found. node (place i) (shape.Const name found)) args))))

  one_token : (t : Kind) (tree : Surface) (i : Input) → t ≢ k.End → kind i ≡ t → TracksAt M 1 (take_token >> pure tree) (Then (Token t) Nothing) i
  one_token t tree i some is = last_at (λ _. tree) i (take_at i t some is)

  named_tracks : (at : ℕ) → Tracks M 1 (label_at >>= (λ x. pure (node at (shape.Named x)))) (AtomOf e)
  named_tracks at = tracks_within (named_line e) (last_tracks (λ x. node at (shape.Named x)) label_tracks)

  pub atom_by_tracks : (t : Kind) (i : Input) → kind i ≡ t → t ≢ k.Open → TracksAt M 1 (atom_by inner (place i) t) (AtomOf e) i
  atom_by_tracks k.Star i is other = at_within (star_line e) (one_token k.Star (node (place i) shape.Star) i (λ h. cc) is)
  atom_by_tracks k.Wild i is other = at_within (wild_line e) (one_token k.Wild (node (place i) shape.Wild) i (λ h. cc) is)
  atom_by_tracks k.Asked i is other = at_within (asked_line e) (one_token k.Asked (node (place i) shape.Asked) i (λ h. cc) is)
  atom_by_tracks k.Name i is other = (named_tracks (place i)).at i
  atom_by_tracks k.Level i is other = (named_tracks (place i)).at i
  atom_by_tracks k.Call i is other = constant_tracks i is
  atom_by_tracks k.Open i is other = absurd (other refl)
  atom_by_tracks _ i is other = (refuse_tracks (star_exists e)).at i

-- ---- the terms inside are read by `inner`
module _ (M : Type 0) (d : ℕ) (inner : Parser Surface) (m : Local inner) (sh : Shorter inner) (s : Tracks M 0 inner (TermOf (suc d))) where
  abbrev e : ℕ
  e = suc d

  inside : Exists (TermOf e)
  inside = term_exists d

  inside_closed : Exists (Then (TermOf e) (Then (Token k.Close) Nothing))
  inside_closed = exists_then inside closed

  colon_on : Exists (Then (Token k.Colon) (Then (TermOf e) (Then (Token k.Close) Nothing)))
  colon_on = exists_then (token_exists k.Colon) inside_closed

  binder_exists : Exists (BinderOf e)
  binder_exists = exists_within (binder_line e) (exists_then (token_exists k.Open) (exists_then label_exists colon_on))

  binder_tracks : Tracks M 1 (binder inner) (BinderOf e)
  unfolding binder is_kind
  binder_tracks = tracks_within (binder_line e)
      (then_more 0 (expect_shorter k.Open refl) (local_expect k.Open (λ h. cc)) (exists_then label_exists colon_on) (expect_tracks k.Open (λ h. cc)) (λ _.
      then_tracks 0 local_label colon_on label_tracks (λ x.
      then_tracks 0 (local_expect k.Colon (λ h. cc)) inside_closed (expect_tracks k.Colon (λ h. cc)) (λ _.
      then_tracks 0 m closed s (λ ty. last_tracks (λ _. (x, ty)) (expect_tracks k.Close (λ h. cc)))))))

  parenthesized_tracks : Tracks M 1 (parenthesized inner) (AtomOf e)
  unfolding parenthesized is_kind
  parenthesized_tracks = tracks_within (parentheses_line e)
      (then_more 0 (expect_shorter k.Open refl) (local_expect k.Open (λ h. cc)) inside_closed (expect_tracks k.Open (λ h. cc)) (λ _.
      then_tracks 0 m closed s (λ t. last_tracks (λ _. t) (expect_tracks k.Close (λ h. cc)))))

  body : Exists (Then (TermOf e) Nothing)
  body = exists_then inside nothing_exists

  behind : (t : Kind) → Exists (Then (Token t) (Then (TermOf e) Nothing))
  behind t = exists_then (token_exists t) body

  pub abstraction_tracks : Tracks M 1 (abstraction inner) (TermOf (suc e))
  unfolding abstraction is_kind
  abstraction_tracks = tracks_within (abstraction_line e)
      (here_tracks (λ at. then_tracks 1 (local_expect k.Fun (λ h. cc)) (exists_then binder_exists (behind k.FatArrow)) (expect_tracks k.Fun (λ h. cc)) (λ _.
      then_tracks 1 (local_binder inner m) (behind k.FatArrow) binder_tracks (λ b.
      then_more 0 (expect_shorter k.FatArrow refl) (local_expect k.FatArrow (λ h. cc)) body (expect_tracks k.FatArrow (λ h. cc)) (λ _. last_tracks (λ body. node at (shape.Lam b.0 b.1 body)) s)))))

  pub product_tracks : Tracks M 1 (product inner) (TermOf (suc e))
  unfolding product is_kind
  product_tracks = tracks_within (product_line e)
      (here_tracks (λ at. then_tracks 1 (local_binder inner m) (behind k.Arrow) binder_tracks (λ b.
      then_more 0 (expect_shorter k.Arrow refl) (local_expect k.Arrow (λ h. cc)) body (expect_tracks k.Arrow (λ h. cc)) (λ _. last_tracks (λ body. node at (shape.Pi (Some b.0) b.1 body)) s))))

  list_exists : Exists (ListOf e)
  list_exists = exists_within (list_line e) (exists_then inside (exists_within right_of closed))

  arguments_at : (turns : ℕ) (found : List Surface) (i : Input) → left i < turns → TracksAt M 0 (all_arguments inner found) (ListOf e) i
  arguments_at zero found i less = absurd (omega (arith, less))
  arguments_at (suc turns) found i less = at_as (inner >>= (λ x. eat k.Comma >>= (λ b. if b then all_arguments inner (found ++ x ∷ []) else (expect k.Close >> pure (found ++ x ∷ []))))) (all_arguments inner found) i (λ j _ _. arguments_turn inner sh found j)
      (at_within (list_line e) (then_core 0 0 i (λ x r is xs eq. omega arith) m (exists_within right_of closed) (s.at i) (λ x r is.
      eat_core 0 0 (omega arith) k.Comma (λ h. cc) r (arguments_at turns (found ++ x ∷ []) (next r) (omega (arith, less, sh i x r is, tail_no_longer r)))
      ((last_tracks (λ _. found ++ x ∷ []) (expect_tracks k.Close (λ h. cc))).at r))))

  arguments_tracks : Tracks M 0 (arguments inner) (ArgumentsOf e)
  unfolding arguments
  arguments_tracks = eat_tracks 0 0 (omega arith) k.Close (λ h. cc) (pure_tracks []) (record { at = λ i. arguments_at (suc (left i)) [] i (omega arith) })

  atom_kind_tracks : (t : Kind) (i : Input) → kind i ≡ t → TracksAt M 1 (atom_by inner (place i) t) (AtomOf e) i
  atom_kind_tracks k.Open i is = parenthesized_tracks.at i
  atom_kind_tracks t i is = atom_by_tracks M e inner arguments_tracks t i is (λ h. cc)

  atom_tracks : Tracks M 1 (atom inner) (AtomOf e)
  unfolding atom
  atom_tracks = record { at = λ i. at_as (atom_by inner (place i) (kind i)) (atom inner) i (λ j here same. ap (λ at. atom_by inner at (kind j) j) here ∙ ap (λ t. atom_by inner (place i) t j) same) (atom_kind_tracks (kind i) i refl) }

  pub arrows_tracks : Tracks M 1 (arrows inner) (TermOf (suc e))
  arrows_tracks = arrows_from M e inner m sh 1 atom_tracks (λ at from. eat_tracks 0 1 (omega arith) k.Arrow (λ h. cc) (last_tracks (λ to. node at (shape.Pi None from to)) s) (pure_tracks from))

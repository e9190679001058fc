-- The reading of a term: where it is refused, what it took begins a term one deeper than is read; and exactly one no deeper, unless it
-- took a token behind which none stands.
use Rattle.std.proofs.Common.{◌≡◌, ℕ, zero, suc, ◌≤◌, Bool, true, false, ◌&&◌, ◌||◌, if◌then◌else◌, inl, inr, List, [], ◌∷◌, ◌++◌, length, Ok, Err, Some, None, refl, ap, sym, ◌∙◌, append_assoc, subst, arith}
use Rattle.std.proofs.lemmas.Bool.{false≢true}
use Rattle.term_syntax.specs.declared.surface.Surface.{Surface}
use Rattle.term_syntax.specs.declared.surface.Shape.TheVariants as shape
use Rattle.term_syntax.specs.declared.kind.Kind.{Kind}
use Rattle.term_syntax.specs.declared.kind.Kind.TheVariants as k
use Rattle.term_syntax.specs.Kinds.{is_kind}
use Rattle.term_syntax.specs.Lex.{Lexeme}
use Rattle.term_syntax.specs.Input.{Input, kind, kind_of, tail_of, next, place, begins_binder}
use Rattle.term_syntax.specs.Grammar.{node}
use Rattle.term_syntax.specs.Reading.{Outcome, Parser, and_then, ◌>>=◌, ◌>>◌, pure, here, sees, expect, eat, label_at, binder, arguments, arguments_from, parenthesized, atom_by, atom, atoms, app, applied, abstraction, product, arrows, whole, term}
use Rattle.term_syntax.proofs.Progress.{left, Shorter, term_shorter}
use Rattle.term_syntax.proofs.Sound.{same_kind}
use Rattle.term_syntax.proofs.Local.{Local, head_kind, err_inj, local_pure, local_then, local_eat, end_arrow}
use Rattle.term_syntax.proofs.Complete.{is_kind_refl}
use Rattle.term_syntax.proofs.Whole.{local_term}
use Rattle.refusal_places.proofs.Parts.{Part, Exists, Then, Token, Nothing, Either, begun_nothing, exists_within, nothing_exists, right_of}
use Rattle.refusal_places.proofs.Steps.{Stopped, deepens, doomed_if, doomed_head, TracksAt, Tracks, at_as, shorten_at, at_within, tracks_within, nothing_stopped, pure_tracks, refuse_tracks, eat_yes, eat_no, eat_tracks}
use Rattle.refusal_places.proofs.Counts.{go_on, all_arguments, local_atom}
use Rattle.refusal_places.proofs.Lines.{TermOf, AtomOf, ArgumentsOf, star_exists, term_exists}
use Rattle.refusal_places.proofs.Tracks.{closed, atom_by_tracks, arrows_from, abstraction_tracks, product_tracks, arrows_tracks}

-- ---- whether a binder begins is seen from a token before one that counts one more

deep_no_name : (t : Kind) → deepens t ≡ true → (is_kind t k.Name || is_kind t k.Level) ≡ false
unfolding is_kind
deep_no_name k.Fun e = refl
deep_no_name k.Open e = refl
deep_no_name k.Arrow e = refl
deep_no_name _ e = absurd (false≢true e)

middle : (a b c : Bool) → b ≡ false → (a && b && c) ≡ false
middle true b c e = rw e refl
middle false b c e = refl

decided : (front : List Lexeme) (last : Lexeme) (s t : List Lexeme) → 1 ≤ length front → deepens last.kind ≡ true → begins_binder (front ++ last ∷ s) ≡ begins_binder (front ++ last ∷ t)
decided [] last s t long e = absurd (omega (arith, long))
decided (a ∷ []) last s t long e = middle (is_kind a.kind k.Open) _ _ (deep_no_name last.kind e) ∙ sym (middle (is_kind a.kind k.Open) _ _ (deep_no_name last.kind e))
decided (a ∷ b ∷ []) last s t long e = refl
decided (a ∷ b ∷ c ∷ front) last s t long e = refl

module _ (inner : Parser Surface) where
  whole_fun : (i : Input) → sees k.Fun i ≡ true → whole inner i ≡ abstraction inner i
  unfolding whole
  whole_fun i e = rw e refl

  whole_binder : (i : Input) → sees k.Fun i ≡ false → begins_binder i.ahead ≡ true → whole inner i ≡ product inner i
  unfolding whole
  whole_binder i e b = rw (e, b) refl

  whole_plain : (i : Input) → sees k.Fun i ≡ false → begins_binder i.ahead ≡ false → whole inner i ≡ arrows inner i
  unfolding whole
  whole_plain i e b = rw (e, b) refl

-- the same as another parser wherever it begins alike
alike : {M : Type 0} {n : ℕ} (inner q : Parser Surface) {R : Part} (i : Input) → 1 ≤ n → ((j : Input) → sees k.Fun j ≡ sees k.Fun i → begins_binder j.ahead ≡ begins_binder i.ahead → whole inner j ≡ q j) → TracksAt M n q R i → TracksAt M n (whole inner) R i
alike inner q i some same m = record {
  ok = λ a j e. m.ok a j (sym (same i refl refl) ∙ e);
  err = λ r e.
      let x = m.err r (sym (same i refl refl) ∙ e) in
      record {
        taken = x.taken;
        ahead = x.ahead;
        why = elim x.why [
          | inl b ↦ inl b
          | inr d ↦ inr (doomed_if (whole inner) d (λ j others ej s bad. (
            s,
            same j (ap (λ t. is_kind t k.Fun) (head_kind j.ahead i.ahead (doomed_head d i r j others x.ahead ej)))
                (ap begins_binder ej ∙ decided d.front d.last others (d.behind ++ r.ahead) (omega (arith, some, d.long)) d.deep
                ∙ sym (ap begins_binder (x.ahead ∙ ap (λ ls. ls ++ r.ahead) d.tokens ∙ append_assoc d.front (d.last ∷ d.behind) r.ahead)))
                ∙ bad,
          )))
        ];
      };
}

module _ (M : Type 0) (d : ℕ) (inner : Parser Surface) (m : Local inner) (sh : Shorter inner) (s : Tracks M 0 inner (TermOf (suc d))) where
  whole_at : (i : Input) (f : Bool) → sees k.Fun i ≡ f → (b : Bool) → begins_binder i.ahead ≡ b → TracksAt M 1 (whole inner) (TermOf (suc (suc d))) i
  whole_at i true ef b eb = alike inner (abstraction inner) i (omega arith) (λ j f _. whole_fun inner j (f ∙ ef)) ((abstraction_tracks M d inner m sh s).at i)
  whole_at i false ef true eb = alike inner (product inner) i (omega arith) (λ j f b. whole_binder inner j (f ∙ ef) (b ∙ eb)) ((product_tracks M d inner m sh s).at i)
  whole_at i false ef false eb = alike inner (arrows inner) i (omega arith) (λ j f b. whole_plain inner j (f ∙ ef) (b ∙ eb)) ((arrows_tracks M d inner m sh s).at i)

  whole_tracks : Tracks M 0 (whole inner) (TermOf (suc (suc d)))
  whole_tracks = record { at = λ i. shorten_at 1 0 (omega arith) (whole_at i (sees k.Fun i) refl (begins_binder i.ahead) refl) }

-- ---- where no term may stand inside

record Fails {A : Type 0} (p : Parser A) : Type 0 where
  pub run : (i : Input) → (r : Input) × (p i ≡ Err r)

fails_first : {A B : Type 0} {p : Parser A} (f : A → Parser B) → Fails p → Fails (p >>= f)
fails_first f m = record { run = λ i. let x = m.run i in (x.0, ap (λ o. and_then o f) x.1) }

fails_at : {A B : Type 0} (f : A → Parser B) → ((a : A) → Fails (f a)) → (o : Outcome A) → (r : Input) × (and_then o f ≡ Err r)
fails_at f n (Ok p) = (n p.0).run p.1
fails_at f n (Err r) = (r, refl)

fails_later : {A B : Type 0} (p : Parser A) {f : A → Parser B} → ((a : A) → Fails (f a)) → Fails (p >>= f)
fails_later p {f = f} n = record { run = λ i. fails_at f n (p i) }

-- refused at the first token
refused_tracks : {M : Type 0} {n : ℕ} {A : Type 0} (q : Parser A) {R : Part} → ((i : Input) → q i ≡ Err i) → Exists R → Tracks M n q R
refused_tracks {M = M} {n = n} {A = A} q {R = R} f m = record {
  at = λ i. record {
    ok = λ a j e. let clash = sym (f i) ∙ e in cc clash;
    err = λ j e. subst (λ j. Stopped M n q R i j) (err_inj {A = A} i j (sym (f i) ∙ e)) (nothing_stopped i m);
  };
}

-- refused behind a token that counts one more, whatever follows it
deep_stops : {A : Type 0} (p : Parser A) {R : Part} (t : Kind) → deepens t ≡ true → Exists R → Local p → ((j : Input) → kind j ≡ t → (r : Input) × (p j ≡ Err r)) → (i : Input) → kind i ≡ t → TracksAt (Unit {0}) 0 p R i
deep_stops p {R = R} t deep m loc f i is = record {
  ok = λ a j e. let clash = sym (f i is).1 ∙ e in cc clash;
  err = λ r e. let x = loc.err i r e in stops r x.0 x.1;
} where
  stops : (r : Input) (pre : List Lexeme) → i.ahead ≡ pre ++ r.ahead → Stopped (Unit {0}) 0 p R i r
  stops r [] e = record { taken = []; ahead = e; why = inl (begun_nothing m) }
  stops r (l ∷ ls) e =
      let same : l.kind ≡ t = sym (ap kind_of e) ∙ is in
      record {
        taken = l ∷ ls;
        ahead = e;
        why = inr (record { may = tt; front = []; last = l; behind = ls; deep = ap deepens same ∙ deep; long = omega arith; tokens = refl; fails = λ j others ej. f j (ap kind_of ej ∙ same) });
      }

module _ (inner : Parser Surface) (m : Local inner) (sh : Shorter inner) (w : Local (whole inner)) (at_once : (i : Input) → inner i ≡ Err i) where
  inner_fails : Fails inner
  inner_fails = record { run = λ i. (i, at_once i) }

  binder_fails : Fails (binder inner)
  unfolding binder
  binder_fails = fails_later (expect k.Open) (λ _. fails_later label_at (λ x. fails_later (expect k.Colon) (λ _. fails_first _ inner_fails)))

  abstraction_fails : Fails (abstraction inner)
  unfolding abstraction
  abstraction_fails = fails_later here (λ at. fails_later (expect k.Fun) (λ _. fails_first (λ b. expect k.FatArrow >> (inner >>= (λ body. pure (node at (shape.Lam b.0 b.1 body))))) binder_fails))

  product_fails : Fails (product inner)
  unfolding product
  product_fails = fails_later here (λ at. fails_first (λ b. expect k.Arrow >> (inner >>= (λ body. pure (node at (shape.Pi (Some b.0) b.1 body))))) binder_fails)

  parenthesized_fails : Fails (parenthesized inner)
  unfolding parenthesized
  parenthesized_fails = fails_later (expect k.Open) (λ _. fails_first _ inner_fails)

  atom_fails : (j : Input) → kind j ≡ k.Open → (r : Input) × (atom inner j ≡ Err r)
  unfolding atom
  atom_fails j is = let x = parenthesized_fails.run j in (x.0, ap (λ t. atom_by inner (place j) t j) is ∙ x.1)

  arrows_fails : (j : Input) → kind j ≡ k.Open → (r : Input) × (arrows inner j ≡ Err r)
  unfolding arrows app
  arrows_fails j is =
      let x = atom_fails j is in
      let go : Outcome Surface → Outcome Surface = λ o. and_then (and_then o (λ head. atoms inner >>= (λ others. pure (applied (place j) head others)))) (λ from. eat k.Arrow >>= (λ b. if b then (inner >>= (λ to. pure (node (place j) (shape.Pi None from to)))) else pure from)) in
      (x.0, ap go x.1)

  open_fails : (j : Input) → kind j ≡ k.Open → (b : Bool) → begins_binder j.ahead ≡ b → (r : Input) × (whole inner j ≡ Err r)
  unfolding is_kind
  open_fails j is true eb = let x = product_fails.run j in (x.0, whole_binder inner j (ap (λ t. is_kind t k.Fun) is) eb ∙ x.1)
  open_fails j is false eb = let x = arrows_fails j is in (x.0, whole_plain inner j (ap (λ t. is_kind t k.Fun) is) eb ∙ x.1)

  fun_fails : (j : Input) → kind j ≡ k.Fun → (r : Input) × (whole inner j ≡ Err r)
  unfolding is_kind
  fun_fails j is = let x = abstraction_fails.run j in (x.0, whole_fun inner j (ap (λ t. is_kind t k.Fun) is) ∙ x.1)

  no_list : (i : Input) → all_arguments inner [] i ≡ Err i
  unfolding arguments_from
  no_list i = ap (λ o. and_then o (λ x. eat k.Comma >>= go_on inner (left i) [] x)) (at_once i)

  no_arguments : Tracks (Unit {0}) 0 (arguments inner) (ArgumentsOf 0)
  unfolding arguments
  no_arguments = tracks_within (record { run = λ ts rest x. elim x.choice [ inl c ↦ record { choice = inl c } | inr c ↦ record { choice = inl c } ] })
      (eat_tracks 0 0 (omega arith) k.Close (λ h. cc) (pure_tracks []) (refused_tracks (all_arguments inner []) no_list closed))

  atom_of : (t : Kind) (i : Input) → kind i ≡ t → TracksAt (Unit {0}) 0 (atom inner) (AtomOf 0) i
  unfolding atom
  atom_of k.Open i is = deep_stops (atom inner) k.Open refl (star_exists 0) (local_atom inner sh m) atom_fails i is
  atom_of t i is = at_as (atom_by inner (place i) t) (atom inner) i (λ j here same. ap (λ at. atom_by inner at (kind j) j) here ∙ ap (λ t. atom_by inner (place i) t j) (same ∙ is))
      (shorten_at 1 0 (omega arith) (atom_by_tracks (Unit {0}) 0 inner no_arguments t i is (λ h. cc)))

  plain_atoms : Tracks (Unit {0}) 0 (atom inner) (AtomOf 0)
  plain_atoms = record { at = λ i. atom_of (kind i) i refl }

  module _ (at : ℕ) (from : Surface) where
    abbrev right : Parser Surface
    right = eat k.Arrow >>= (λ b. if b then (inner >>= (λ to. pure (node at (shape.Pi None from to)))) else pure from)

    right_fails : (j : Input) → kind j ≡ k.Arrow → (r : Input) × (right j ≡ Err r)
    right_fails j is = (
      next j,
      ap (λ o. and_then o (λ b. if b then (inner >>= (λ to. pure (node at (shape.Pi None from to)))) else pure from)) (eat_yes k.Arrow j (ap (λ t. is_kind t k.Arrow) is ∙ is_kind_refl k.Arrow))
          ∙ ap (λ o. and_then o (λ to. pure (node at (shape.Pi None from to)))) (at_once (next j)),
    )

    right_at : (i : Input) (b : Bool) → sees k.Arrow i ≡ b → TracksAt (Unit {0}) 0 right (Either (Then (Token k.Arrow) (Then (TermOf 0) Nothing)) Nothing) i
    right_at i true is = deep_stops right k.Arrow refl (exists_within right_of nothing_exists) (local_eat k.Arrow end_arrow (local_then _ m (λ to. local_pure (node at (shape.Pi None from to)))) (local_pure from)) right_fails i (same_kind (kind i) k.Arrow is)
    right_at i false is = at_within right_of (at_as (pure from) right i (λ j _ same. ap (λ o. and_then o (λ b. if b then (inner >>= (λ to. pure (node at (shape.Pi None from to)))) else pure from)) (eat_no k.Arrow j (ap (λ c. is_kind c k.Arrow) same ∙ is))) ((pure_tracks from).at i))

  plain_arrows : Tracks (Unit {0}) 0 (arrows inner) (TermOf 1)
  plain_arrows = arrows_from (Unit {0}) 0 inner m sh 0 plain_atoms (λ at from. record { at = λ i. right_at at from i (sees k.Arrow i) refl })

  whole_of : (t : Kind) (i : Input) → kind i ≡ t → TracksAt (Unit {0}) 0 (whole inner) (TermOf 1) i
  unfolding is_kind
  whole_of k.Fun i is = deep_stops (whole inner) k.Fun refl (term_exists 0) w fun_fails i is
  whole_of k.Open i is = deep_stops (whole inner) k.Open refl (term_exists 0) w (λ j e. open_fails j e (begins_binder j.ahead) refl) i is
  whole_of t i is = at_as (arrows inner) (whole inner) i (λ j _ same. whole_plain inner j (ap (λ t. is_kind t k.Fun) (same ∙ is)) (ap (λ t. is_kind t k.Open && (is_kind (kind_of (tail_of j.ahead)) k.Name || is_kind (kind_of (tail_of j.ahead)) k.Level) && is_kind (kind_of (tail_of (tail_of j.ahead))) k.Colon) (same ∙ is))) (plain_arrows.at i)

pub term_begun : (d : ℕ) → Tracks ⊥ 0 (term d) (TermOf (suc d))
unfolding term
term_begun zero = refuse_tracks (term_exists zero)
term_begun (suc d) = whole_tracks ⊥ d (term d) (local_term d) (term_shorter d) (term_begun d)

pub term_exact : (d : ℕ) → Tracks (Unit {0}) 0 (term (suc d)) (TermOf (suc d))
unfolding term
term_exact zero = record { at = λ i. whole_of (term zero) (local_term zero) (term_shorter zero) (local_term 1) (λ i. refl) (kind i) i refl }
term_exact (suc d) = whole_tracks (Unit {0}) d (term (suc d)) (local_term (suc d)) (term_shorter (suc d)) (term_exact d)
